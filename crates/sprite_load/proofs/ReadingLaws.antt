-- The spelling of a sprite that passes its tests is read.
use Rattle.std.proofs.Common.{◌≡◌, ℕ, suc, ◌+◌, ◌≤◌, Bool, true, false, not, cond, ltb, List, [], ◌∷◌, ◌++◌, length}
use Rattle.std.proofs.Common.{None, Ok, refl, sym, ap, subst, ◌∙◌, ◌⊎◌, append_assoc, inl, inr, arith}
use Rattle.std.specs.Prelude.{◌==◌, nat_lt}
use Rattle.std.specs.List.{flat_map, AllByRecursion}
use Rattle.std.proofs.lemmas.Bool.{le-ltb}
use Rattle.std.proofs.lemmas.Bool.Decides.{nat_tests}
use Rattle.std.proofs.lemmas.List.{append-nil, take_at, drop_at, length-append}
use Rattle.base_fields.specs.Fields.{u32_in}
use Rattle.base_fields.specs.Faults.{first_fault}
use Rattle.part_plan.specs.Plan.{Plan, Done, Part, ◌>>=◌, run, Follows, seen, each}
use Rattle.part_plan.specs.Checks.{is_between, has_wrong}
use Rattle.part_plan.proofs.Runs.{◌>>>◌, run-bind, run_again}
use Rattle.part_plan.proofs.Each.{in_front, each_more}
use Rattle.sprite_load.specs.declared.fault.SpriteFault.{SpriteFault}
use Rattle.sprite_load.specs.declared.fault.SpriteFault.TheVariants.{Short, Version, Frames, Group, Interval, Size}
use Rattle.sprite_load.specs.Sprites.{Picture, Head, Frame, Sprite, spell_picture, spell_head, spell_frame, spell}
use Rattle.sprite_load.specs.Parts.{picture, picture_in, pictures, single, group, head, many}
use Rattle.sprite_load.specs.Parts.{frame, frames, sprite_of, body, sprite}
use Rattle.sprite_load.specs.Passing.{IsPicture, IsSingle, IsGroup, IsFrame, IsSprite}

-- the text is read as the value, whatever follows
abbrev Reads : {F A : Type 0} → Plan F A → List ℕ → A → Type 0
Reads plan text value = (rest : List ℕ) → run plan (text ++ rest) ≡ Ok (value, rest)

-- one part, and what comes after it
part_reads : {F A : Type 0} (n : ℕ) (short : F) (tests : List ℕ → List (Bool × F)) (next : List ℕ → Plan F A)
    (text others : List ℕ) (value : A) → length text ≡ n → first_fault (tests text) ≡ None → Reads (next text) others value
    → Reads (Part n short tests next) (text ++ others) value
part_reads n short tests next text others value sized passed h rest =
    let behind = others ++ rest in
    let long : ltb (length (text ++ behind)) n ≡ false = le-ltb _ _ (omega (arith, sized, length-append text behind)) in
    rw (append_assoc text others rest, long, take_at text behind n sized, drop_at text behind n sized, passed) (h rest)

-- one plan after another
bind_reads : {F A B : Type 0} (plan : Plan F A) (f : A → Plan F B) (text others : List ℕ) (between : A) (value : B)
    → Reads plan text between → Reads (f between) others value → Reads (plan >>= f) (text ++ others) value
bind_reads plan f text others between value h k rest =
    ap (run (plan >>= f)) (append_assoc text others rest) ∙ run-bind plan f (text ++ (others ++ rest))
    ∙ ap (λ r. r >>> f) (h (others ++ rest)) ∙ k rest

-- a value made of what was read
then_reads : {F A B : Type 0} (plan : Plan F A) (g : A → B) (text : List ℕ) (between : A) → Reads plan text between
    → Reads (plan >>= λ x. Done (g x)) text (g between)
then_reads plan g text between h rest =
    run-bind plan (λ x. Done (g x)) (text ++ rest) ∙ ap (λ r. r >>> λ x. Done (g x)) (h rest)

each_reads : {F A : Type 0} (item : ℕ → Plan F A) (spelled : A → List ℕ) (P : A → Type 0)
    → ((row : ℕ) (x : A) → P x → Reads (item row) (spelled x) x) → (xs : List A) (row : ℕ) → AllByRecursion P xs
    → Reads (each item (length xs) row) (flat_map spelled xs) xs
unfolding each
each_reads item spelled P h [] row all rest = refl
each_reads item spelled P h (x ∷ xs) row all rest =
    let others = flat_map spelled xs ++ rest in
    let one = each_more item (length xs) row (spelled x ++ others) x others (h row x all.0 others) in
    ap (run (each item (suc (length xs)) row)) (append_assoc (spelled x) (flat_map spelled xs) rest) ∙ one
    ∙ ap (seen (in_front x)) (each_reads item spelled P h xs (row + 1) all.1 rest)

-- tests that are passed
picture_tests : (row width height : ℕ) → width ≤ 4096 → height ≤ 4096
    → first_fault ((nat_lt 4096 width, Size row) ∷ (nat_lt 4096 height, Size row) ∷ []) ≡ None
picture_tests row width height wide high = rw (le-ltb 4096 width wide, le-ltb 4096 height high) refl

is_inside : (n : ℕ) → 1 ≤ n → n ≤ 1024 → not (is_between 1 1024 n) ≡ false
is_inside n least most = grind (arith, nat_tests, least, most)

one_test : (b : Bool) (fault : SpriteFault) → b ≡ false → first_fault ((b, fault) ∷ []) ≡ None
one_test b fault e = rw e refl

header_tests : (version count : ℕ) → version ≡ 1 → 1 ≤ count → count ≤ 1024
    → first_fault ((not (version == 1), Version version) ∷ (not (is_between 1 1024 count), Frames) ∷ []) ≡ None
header_tests version count same least most = rw (same, is_inside count least most) refl

picture_reads : (row : ℕ) (p : Picture) → IsPicture p → Reads (picture row) (spell_picture p) p
unfolding picture
picture_reads row p is rest =
    let whole : spell_picture p ≡ p.head ++ (p.pixels ++ []) = ap (λ (t : List ℕ). p.head ++ t) (sym (append-nil p.pixels)) in
    let passed = picture_tests row (u32_in p.head 8) (u32_in p.head 12) is.width is.height in
    ap (λ (t : List ℕ). run (picture row) (t ++ rest)) whole
    ∙ run_again (picture row) (p.head ∷ p.pixels ∷ []) rest p (is.head, passed, (is.pixels, refl, refl))

picture_in_reads : (row i : ℕ) (p : Picture) → IsPicture p → Reads (picture_in row i) (spell_picture p) p
unfolding picture_in
picture_in_reads row i p is = picture_reads row p is

pictures_reads : (n row : ℕ) (ps : List Picture) → length ps ≡ n → AllByRecursion IsPicture ps
    → Reads (pictures n row) (flat_map spell_picture ps) ps
unfolding pictures
pictures_reads n row ps number all =
    subst (λ (k : ℕ). Reads (each (picture_in row) k 0) (flat_map spell_picture ps) ps) number
    (each_reads (picture_in row) spell_picture IsPicture (picture_in_reads row) ps 0 all)

-- one of two plans is followed
goes_first : {A : Type 0} (b : Bool) (p q : Plan SpriteFault A) (parts : List (List ℕ)) (value : A) → b ≡ true
    → Follows p parts value → Follows (cond b p q) parts value
goes_first true p q parts value e f = f
goes_first false p q parts value e f = absurd cc

goes_second : {A : Type 0} (b : Bool) (p q : Plan SpriteFault A) (parts : List (List ℕ)) (value : A) → b ≡ false
    → Follows q parts value → Follows (cond b p q) parts value
goes_second true p q parts value e f = absurd cc
goes_second false p q parts value e f = f

single_reads : (row : ℕ) (word : List ℕ) → length word ≡ 4 → (u32_in word 0 == 0) ≡ true → Reads (head row) (word ++ []) (single word)
unfolding head
single_reads row word sized zero rest =
    run_again (head row) (word ∷ []) rest (single word)
    (sized, refl, goes_first (u32_in word 0 == 0) (Done (single word)) (group row word) [] (single word) zero refl)

group_reads : (row : ℕ) (h : Head) → length h.word ≡ 4 → IsGroup h → Reads (head row) (spell_head h) h
unfolding head group
group_reads row h sized is rest =
    let n = u32_in h.count 0 in
    let whole : spell_head h ≡ h.word ++ (h.count ++ (h.intervals ++ [])) =
    ap (λ (t : List ℕ). h.word ++ (h.count ++ t)) (sym (append-nil h.intervals)) in
    let counted = one_test (not (is_between 1 1024 n)) (Group row) (is_inside n is.least is.most) in
    let timed = one_test (has_wrong n h.intervals) (Interval row) is.positive in
    let inner : Follows (group row h.word) (h.count ∷ h.intervals ∷ []) h = (is.count, counted, (is.intervals, timed, refl)) in
    ap (λ (t : List ℕ). run (head row) (t ++ rest)) whole
    ∙ run_again (head row) (h.word ∷ h.count ∷ h.intervals ∷ []) rest h
    (sized, refl, goes_second (u32_in h.word 0 == 0) (Done (single h.word)) (group row h.word) (h.count ∷ h.intervals ∷ []) h is.word inner)

alone : (row : ℕ) (word count intervals : List ℕ) → count ≡ [] → intervals ≡ [] → Reads (head row) (word ++ []) (single word)
    → Reads (head row) (word ++ (count ++ intervals)) (record { word = word; count = count; intervals = intervals })
alone row word count intervals a b h =
    subst (λ (c : List ℕ). Reads (head row) (word ++ (c ++ intervals)) (record { word = word; count = c; intervals = intervals })) (sym a)
    (subst (λ (i : List ℕ). Reads (head row) (word ++ i) (record { word = word; count = []; intervals = i })) (sym b) h)

head_reads : (row : ℕ) (h : Head) → length h.word ≡ 4 → IsSingle h ⊎ IsGroup h → Reads (head row) (spell_head h) h
head_reads row h sized is =
    elim is [
      | inl one ↦ alone row h.word h.count h.intervals one.count one.intervals (single_reads row h.word sized one.word)
      | inr more ↦ group_reads row h sized more
    ]

abbrev made : Head → List Picture → Frame
made h ps = record { head = h; pictures = ps }

frame_reads : (row : ℕ) (f : Frame) → IsFrame f → Reads (frame row) (spell_frame f) f
unfolding frame
frame_reads row f is =
    let h = f.head in
    let text = flat_map spell_picture f.pictures in
    let inner = then_reads (pictures (many h) row) (made h) text f.pictures (pictures_reads (many h) row f.pictures is.number is.pictures) in
    bind_reads (head row) (λ h. pictures (many h) row >>= λ ps. Done (made h ps)) (spell_head h) text h f (head_reads row h is.word is.head) inner

body_reads : (s : Sprite) → IsSprite s → Reads (body s.header) (flat_map spell_frame s.frames) s
unfolding body frames
body_reads s is =
    let n = u32_in s.header 24 in
    let text = flat_map spell_frame s.frames in
    let all = subst (λ (k : ℕ). Reads (each frame k 0) text s.frames) is.number (each_reads frame spell_frame IsFrame frame_reads s.frames 0 is.frames) in
    then_reads (each frame n 0) (sprite_of s.header) text s.frames all

pub sprite_reads : (s : Sprite) (rest : List ℕ) → IsSprite s → run sprite (spell s ++ rest) ≡ Ok (s, rest)
unfolding sprite
sprite_reads s rest is =
    let tests : List ℕ → List (Bool × SpriteFault) =
    λ header. (not (u32_in header 4 == 1), Version (u32_in header 4)) ∷ (not (is_between 1 1024 (u32_in header 24)), Frames) ∷ [] in
    let few : (1 ≤ u32_in s.header 24) × (u32_in s.header 24 ≤ 1024) = (omega (arith, is.least, is.number), omega (arith, is.most, is.number)) in
    let passed = header_tests (u32_in s.header 4) (u32_in s.header 24) is.version few.0 few.1 in
    part_reads 36 Short tests body s.header (flat_map spell_frame s.frames) s is.header passed (body_reads s is) rest
