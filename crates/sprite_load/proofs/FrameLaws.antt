-- Walking over pictures and frames.
use Rattle.std.proofs.Common.{◌≡◌, ℕ, ◌+◌, ◌-◌, ◌≤◌, ◌<◌, List, [], length, Result, Ok, Err, refl, sym, ap, subst, ◌∙◌}
use Rattle.base_fields.specs.Fields.{u32_in}
use Rattle.part_plan.specs.Plan.{Plan, Done, ◌>>=◌, run, each, folded, folding, viewed}
use Rattle.part_plan.proofs.Runs.{◌>>>◌, run-bind}
use Rattle.part_plan.proofs.Each.{then_done, seen_ok, seen_err, fold_more, fold_fail, fold_done, each_len}
use Rattle.sprite_load.specs.declared.fault.SpriteFault.{SpriteFault}
use Rattle.sprite_load.specs.declared.sizes.FrameSize.{FrameSize}
use Rattle.sprite_load.specs.Sprites.{Picture, Head, Frame}
use Rattle.sprite_load.specs.Parts.{picture, picture_in, pictures, head, many, frame, frames, sprite_of, body}
use Rattle.sprite_load.specs.Images.{group_of}
use Rattle.sprite_load.specs.declared.sizes.Sizes.{Sizes}
use Rattle.sprite_load.specs.Sizes.{add_pixels, size_of, plus_size, add_frame}

pub picture_more : (row s n i : ℕ) (bytes : List ℕ) (x : Picture) (rest : List ℕ) (total : Result (ℕ × List ℕ) SpriteFault) → i < n → Ok (x, rest) ≡ run (picture row) bytes
    → folding add_pixels s (run (each (picture_in row) (n - i) i) bytes) ≡ total → folding add_pixels (s + length x.pixels) (run (each (picture_in row) (n - (i + 1)) (i + 1)) rest) ≡ total
unfolding picture_in
picture_more row s n i bytes x rest total lt is so_far = fold_more (picture_in row) add_pixels s n i bytes x rest total lt (sym is) so_far

pub picture_fail : (row s n i : ℕ) (bytes : List ℕ) (f : SpriteFault) (total : Result (ℕ × List ℕ) SpriteFault) → i < n → Err f ≡ run (picture row) bytes
    → folding add_pixels s (run (each (picture_in row) (n - i) i) bytes) ≡ total → total ≡ Err f
unfolding picture_in
picture_fail row s n i bytes f total lt is so_far = fold_fail (picture_in row) add_pixels s n i bytes f total lt (sym is) so_far

pub picture_done : (row s n i : ℕ) (bytes : List ℕ) (total : Result (ℕ × List ℕ) SpriteFault) → n ≤ i
    → folding add_pixels s (run (each (picture_in row) (n - i) i) bytes) ≡ total → total ≡ Ok (s, bytes)
picture_done row s n i bytes total le so_far = fold_done (picture_in row) add_pixels s n i bytes total le so_far

pub ruleset picture_laws = (picture_more, picture_fail, picture_done)

pub pictures_len : (n row : ℕ) (bytes : List ℕ) (a : List Picture × List ℕ) → run (pictures n row) bytes ≡ Ok a → length a.0 ≡ n
unfolding pictures
pictures_len n row bytes a e = each_len (picture_in row) n 0 bytes a e

abbrev made : Head → List Picture → Frame
made h ps = record { head = h; pictures = ps }

frame_parts : (row : ℕ) (bytes : List ℕ) (h : Head) (middle : List ℕ) → Ok (h, middle) ≡ run (head row) bytes → run (frame row) bytes ≡ viewed (made h) (run (pictures (many h) row) middle)
unfolding frame
frame_parts row bytes h middle is =
    let f : Head → Plan SpriteFault Frame = λ h. pictures (many h) row >>= λ ps. Done (made h ps) in
    let one : run (head row >>= f) bytes ≡ (run (head row) bytes >>> f) = run-bind (head row) f bytes in
    let two : (run (head row) bytes >>> f) ≡ run (f h) middle = rw (← is) refl in
    let three : run (f h) middle ≡ (run (pictures (many h) row) middle >>> λ ps. Done (made h ps)) = run-bind (pictures (many h) row) (λ ps. Done (made h ps)) middle in
    one ∙ two ∙ three ∙ then_done (run (pictures (many h) row) middle) (made h)

pub frame_read : (row : ℕ) (bytes : List ℕ) (h : Head) (middle : List ℕ) (n : ℕ) (rest : List ℕ) → Ok (h, middle) ≡ run (head row) bytes → Ok (n, rest) ≡ folding add_pixels 0 (run (pictures (many h) row) middle)
    → viewed size_of (run (frame row) bytes) ≡ Ok (record { group = group_of (made h []); count = many h; pixels = n }, rest)
frame_read row bytes h middle n rest is are =
    let a = seen_ok (λ (a : List Picture × List ℕ). (folded add_pixels 0 a.0, a.1)) (run (pictures (many h) row) middle) (n, rest) are in
    let len = pictures_len (many h) row middle a.0 a.1 in
    let n-is : folded add_pixels 0 a.0.0 ≡ n = ap (λ (p : ℕ × List ℕ). p.0) a.2 in
    let rest-is : a.0.1 ≡ rest = ap (λ (p : ℕ × List ℕ). p.1) a.2 in
    let sized : ℕ → ℕ → List ℕ → Result (FrameSize × List ℕ) SpriteFault = λ c p r. Ok (record { group = group_of (made h []); count = c; pixels = p }, r) in
    let one : viewed size_of (run (frame row) bytes) ≡ sized (length a.0.0) (folded add_pixels 0 a.0.0) a.0.1
    = ap (viewed size_of) (frame_parts row bytes h middle is ∙ ap (viewed (made h)) a.1) in
    let two : sized (length a.0.0) (folded add_pixels 0 a.0.0) a.0.1 ≡ sized (many h) (folded add_pixels 0 a.0.0) a.0.1 = ap (λ (c : ℕ). sized c (folded add_pixels 0 a.0.0) a.0.1) len in
    let three : sized (many h) (folded add_pixels 0 a.0.0) a.0.1 ≡ sized (many h) n a.0.1 = ap (λ (p : ℕ). sized (many h) p a.0.1) n-is in
    let four : sized (many h) n a.0.1 ≡ sized (many h) n rest = ap (λ (r : List ℕ). sized (many h) n r) rest-is in
    one ∙ two ∙ three ∙ four

pub frame_fail : (row : ℕ) (bytes : List ℕ) (e : SpriteFault) → Err e ≡ run (head row) bytes → viewed size_of (run (frame row) bytes) ≡ Err e
unfolding frame
frame_fail row bytes e is =
    let f : Head → Plan SpriteFault Frame = λ h. pictures (many h) row >>= λ ps. Done (made h ps) in
    let one : run (head row >>= f) bytes ≡ (run (head row) bytes >>> f) = run-bind (head row) f bytes in
    let two : (run (head row) bytes >>> f) ≡ Err e = rw (← is) refl in
    ap (viewed size_of) (one ∙ two)

pub frame_fail_within : (row : ℕ) (bytes : List ℕ) (h : Head) (middle : List ℕ) (e : SpriteFault) → Ok (h, middle) ≡ run (head row) bytes → Err e ≡ folding add_pixels 0 (run (pictures (many h) row) middle)
    → viewed size_of (run (frame row) bytes) ≡ Err e
frame_fail_within row bytes h middle e is are =
    let a = seen_err (λ (a : List Picture × List ℕ). (folded add_pixels 0 a.0, a.1)) (run (pictures (many h) row) middle) e are in
    ap (viewed size_of) (frame_parts row bytes h middle is) ∙ rw a refl

-- the same at numbers that are equal
pub frame_is_read : (row : ℕ) (bytes : List ℕ) (h : Head) (middle : List ℕ) (g k n : ℕ) (rest : List ℕ) → Ok (h, middle) ≡ run (head row) bytes → g ≡ group_of (made h []) → k ≡ many h → Ok (n, rest) ≡ folding add_pixels 0 (run (pictures k row) middle)
    → Ok (record { group = g; count = k; pixels = n }, rest) ≡ viewed size_of (run (frame row) bytes)
frame_is_read row bytes h middle g k n rest is group count are =
    let there = subst (λ (m : ℕ). Ok (n, rest) ≡ folding add_pixels 0 (run (pictures m row) middle)) count are in
    let sized : ℕ → ℕ → Result (FrameSize × List ℕ) SpriteFault = λ g c. Ok (record { group = g; count = c; pixels = n }, rest) in
    ap (λ (x : ℕ). sized x k) group ∙ ap (λ (x : ℕ). sized (group_of (made h [])) x) count ∙ sym (frame_read row bytes h middle n rest is there)

pub frame_fails_within : (row : ℕ) (bytes : List ℕ) (h : Head) (middle : List ℕ) (k : ℕ) (e : SpriteFault) → Ok (h, middle) ≡ run (head row) bytes → k ≡ many h → Err e ≡ folding add_pixels 0 (run (pictures k row) middle)
    → Err e ≡ viewed size_of (run (frame row) bytes)
frame_fails_within row bytes h middle k e is count are =
    sym (frame_fail_within row bytes h middle e is (subst (λ (m : ℕ). Err e ≡ folding add_pixels 0 (run (pictures m row) middle)) count are))

pub ruleset frame_laws = (frame_is_read, frame_fail, frame_fails_within)

-- ---- frames, one after the other

pub frame_step : {S : Type 0} (plus : S → FrameSize → S) (s : S) (n i : ℕ) (bytes : List ℕ) (m : FrameSize) (rest : List ℕ) (total : Result (S × List ℕ) SpriteFault) → i < n → Ok (m, rest) ≡ viewed size_of (run (frame i) bytes)
    → folding (λ s f. plus s (size_of f)) s (run (each frame (n - i) i) bytes) ≡ total → folding (λ s f. plus s (size_of f)) (plus s m) (run (each frame (n - (i + 1)) (i + 1)) rest) ≡ total
frame_step {S = S} plus s n i bytes m rest total lt is so_far =
    let step : S → Frame → S = λ s f. plus s (size_of f) in
    let x = seen_ok (λ (a : Frame × List ℕ). (size_of a.0, a.1)) (run (frame i) bytes) (m, rest) is in
    let m-is : size_of x.0.0 ≡ m = ap (λ (p : FrameSize × List ℕ). p.0) x.2 in
    let rest-is : x.0.1 ≡ rest = ap (λ (p : FrameSize × List ℕ). p.1) x.2 in
    let more : folding step (step s x.0.0) (run (each frame (n - (i + 1)) (i + 1)) x.0.1) ≡ total = fold_more frame step s n i bytes x.0.0 x.0.1 total lt x.1 so_far in
    subst (λ (r : List ℕ). folding step (plus s m) (run (each frame (n - (i + 1)) (i + 1)) r) ≡ total) rest-is
    (subst (λ (y : FrameSize). folding step (plus s y) (run (each frame (n - (i + 1)) (i + 1)) x.0.1) ≡ total) m-is more)

pub frame_stop : {S : Type 0} (step : S → Frame → S) (s : S) (n i : ℕ) (bytes : List ℕ) (f : SpriteFault) (total : Result (S × List ℕ) SpriteFault) → i < n → Err f ≡ viewed size_of (run (frame i) bytes)
    → folding step s (run (each frame (n - i) i) bytes) ≡ total → total ≡ Err f
frame_stop step s n i bytes f total lt is so_far = fold_fail frame step s n i bytes f total lt (seen_err (λ (a : Frame × List ℕ). (size_of a.0, a.1)) (run (frame i) bytes) f is) so_far

pub frame_more : (s : Sizes) (n i : ℕ) (bytes : List ℕ) (m : FrameSize) (rest : List ℕ) (total : Result (Sizes × List ℕ) SpriteFault) → i < n → Ok (m, rest) ≡ viewed size_of (run (frame i) bytes)
    → folding add_frame s (run (each frame (n - i) i) bytes) ≡ total → folding add_frame (plus_size s m) (run (each frame (n - (i + 1)) (i + 1)) rest) ≡ total
frame_more s n i bytes m rest total lt is so_far = frame_step plus_size s n i bytes m rest total lt is so_far

pub frame_stops : (s : Sizes) (n i : ℕ) (bytes : List ℕ) (f : SpriteFault) (total : Result (Sizes × List ℕ) SpriteFault) → i < n → Err f ≡ viewed size_of (run (frame i) bytes)
    → folding add_frame s (run (each frame (n - i) i) bytes) ≡ total → total ≡ Err f
frame_stops s n i bytes f total lt is so_far = frame_stop add_frame s n i bytes f total lt is so_far

pub frame_done : (s : Sizes) (n i : ℕ) (bytes : List ℕ) (total : Result (Sizes × List ℕ) SpriteFault) → n ≤ i
    → folding add_frame s (run (each frame (n - i) i) bytes) ≡ total → total ≡ Ok (s, bytes)
frame_done s n i bytes total le so_far = fold_done frame add_frame s n i bytes total le so_far

pub ruleset all_frame_laws = (frame_more, frame_stops, frame_done)

pub body_is : (header bytes : List ℕ) → run (body header) bytes ≡ viewed (sprite_of header) (run (frames (u32_in header 24)) bytes)
unfolding body
body_is header bytes = run-bind (frames (u32_in header 24)) (λ fs. Done (sprite_of header fs)) bytes ∙ then_done (run (frames (u32_in header 24)) bytes) (sprite_of header)

-- ---- a frame whose head is known

pub record Opened (row : ℕ) (bytes : List ℕ) (h : Head) (middle : List ℕ) (m : FrameSize) (rest : List ℕ) : Type 0 where
  pub pictures_are : List Picture
  pub read : run (pictures m.count row) middle ≡ Ok (pictures_are, rest)
  pub is : run (frame row) bytes ≡ Ok (record { head = h; pictures = pictures_are }, rest)
  pub size : size_of (record { head = h; pictures = pictures_are }) ≡ m
  pub number : many h ≡ m.count

pub opened : (row : ℕ) (bytes : List ℕ) (h : Head) (middle : List ℕ) (m : FrameSize) (rest : List ℕ) → Ok (h, middle) ≡ run (head row) bytes → Ok (m, rest) ≡ viewed size_of (run (frame row) bytes) → Opened row bytes h middle m rest
opened row bytes h middle m rest is are =
    let x = seen_ok (λ (a : Frame × List ℕ). (size_of a.0, a.1)) (run (frame row) bytes) (m, rest) are in
    let y = seen_ok (λ (a : List Picture × List ℕ). (made h a.0, a.1)) (run (pictures (many h) row) middle) x.0 (sym x.1 ∙ frame_parts row bytes h middle is) in
    let ps = y.0.0 in
    let frame-is : made h ps ≡ x.0.0 = ap (λ (p : Frame × List ℕ). p.0) y.2 in
    let rest-is : y.0.1 ≡ rest = ap (λ (p : Frame × List ℕ). p.1) y.2 ∙ ap (λ (p : FrameSize × List ℕ). p.1) x.2 in
    let size-is : size_of (made h ps) ≡ m = ap size_of frame-is ∙ ap (λ (p : FrameSize × List ℕ). p.0) x.2 in
    let count-is : many h ≡ m.count = sym (pictures_len (many h) row middle y.0 y.1) ∙ ap (λ (z : FrameSize). z.count) size-is in
    record {
      pictures_are = ps;
      read = subst (λ (k : ℕ). run (pictures k row) middle ≡ Ok (ps, rest)) count-is (y.1 ∙ ap (λ (r : List ℕ). Ok (ps, r)) rest-is);
      is = x.1 ∙ ap (λ (a : Frame × List ℕ). Ok a) (sym y.2) ∙ ap (λ (r : List ℕ). Ok (made h ps, r)) rest-is;
      size = size-is;
      number = count-is;
    }

abbrev sized_as : FrameSize → List ℕ → Result (FrameSize × List ℕ) SpriteFault
sized_as m rest = Ok (m, rest)

abbrev refused_by : SpriteFault → Result (FrameSize × List ℕ) SpriteFault
refused_by e = Err e

apart_is : (m : FrameSize) (rest : List ℕ) (e : SpriteFault) → sized_as m rest ≡ refused_by e → ⊥
apart_is m rest e h = cc

pub frame_not_both : {P : Type 0} (row : ℕ) (bytes : List ℕ) (m : FrameSize) (rest : List ℕ) (e : SpriteFault) → Ok (m, rest) ≡ viewed size_of (run (frame row) bytes) → Err e ≡ run (head row) bytes → P
frame_not_both row bytes m rest e is fails = absurd (apart_is m rest e (is ∙ frame_fail row bytes e fails))
