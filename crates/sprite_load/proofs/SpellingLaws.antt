-- What is read of a sprite is spelled so, and passes its tests.
use Rattle.std.proofs.Common.{◌≡◌, ℕ, ◌≤◌, Bool, true, false, not, cond, List, [], ◌∷◌, ◌++◌, length, Ok, refl, sym, ap, subst}
use Rattle.std.proofs.Common.{◌∙◌, ◌⊎◌, inl, inr, arith}
use Rattle.std.specs.Prelude.{◌==◌, nat_lt}
use Rattle.std.specs.List.{concat, flat_map, AllByRecursion}
use Rattle.std.proofs.lemmas.List.{append-nil}
use Rattle.std.proofs.lemmas.Bool.Decides.{nat_tests}
use Rattle.base_fields.specs.Fields.{u32_in}
use Rattle.base_fields.proofs.FaultLaws.{passes}
use Rattle.part_plan.specs.Plan.{Plan, Done, ◌>>=◌, run, each, Follows}
use Rattle.part_plan.specs.Checks.{is_between, has_wrong}
use Rattle.part_plan.proofs.Runs.{run_found, run_again}
use Rattle.part_plan.proofs.Each.{each_len}
use Rattle.part_plan.proofs.Spelled.{follows_split, ends, Spells, each_spells}
use Rattle.sprite_load.specs.declared.fault.SpriteFault.{SpriteFault}
use Rattle.sprite_load.specs.declared.fault.SpriteFault.TheVariants.{Version, Frames, Group, Interval, Size}
use Rattle.sprite_load.specs.Sprites.{Picture, Head, Frame, Sprite, spell_picture, spell_head, spell_frame, spell}
use Rattle.sprite_load.specs.Parts.{picture, picture_in, pictures, single, group, head, many}
use Rattle.sprite_load.specs.Parts.{frame, frames, sprite_of, body, sprite}
use Rattle.sprite_load.specs.Passing.{IsPicture, IsSingle, IsGroup, IsFrame, IsSprite}
use Rattle.sprite_load.proofs.FrameLaws.{pictures_len}

-- a test that passed
not_above : (a b : ℕ) → nat_lt a b ≡ false → b ≤ a
not_above a b other = grind (arith, nat_tests, other)

count_inside : (n : ℕ) → not (is_between 1 1024 n) ≡ false → (1 ≤ n) × (n ≤ 1024)
count_inside n other = (grind (arith, nat_tests, other), grind (arith, nat_tests, other))

same_number : (a b : ℕ) → not (a == b) ≡ false → a ≡ b
same_number a b other = grind (arith, nat_tests, other)

picture_spells : (row : ℕ) → Spells spell_picture IsPicture (picture row)
unfolding picture
picture_spells row [] value f = absurd f
picture_spells row (h ∷ []) value f = absurd f.2
picture_spells row (h ∷ p ∷ []) value f =
    let t = passes ((nat_lt 4096 (u32_in h 8), Size row) ∷ (nat_lt 4096 (u32_in h 12), Size row) ∷ []) f.1 in
    let made : Picture = record { head = h; pixels = p } in
    let good : IsPicture made = record {
      head = f.0;
      width = not_above _ _ t.0;
      height = not_above _ _ t.1.0;
      pixels = f.2.0;
    } in
    subst (λ (y : Picture). (h ++ (p ++ []) ≡ spell_picture y) × IsPicture y) f.2.2
    (ap (λ (t : List ℕ). h ++ t) (append-nil p), good)
picture_spells row (h ∷ p ∷ q ∷ parts) value f = absurd f.2.2

picture_in_spells : (row i : ℕ) → Spells spell_picture IsPicture (picture_in row i)
unfolding picture_in
picture_in_spells row i = picture_spells row

pictures_spells : (n row : ℕ) → Spells (flat_map spell_picture) (AllByRecursion IsPicture) (pictures n row)
unfolding pictures
pictures_spells n row = each_spells spell_picture IsPicture (picture_in row) (picture_in_spells row) n 0

-- one of two plans was followed
chosen : {A : Type 0} (b : Bool) (p q : Plan SpriteFault A) (parts : List (List ℕ)) (value : A) → Follows (cond b p q) parts value
    → ((b ≡ true) × Follows p parts value) ⊎ ((b ≡ false) × Follows q parts value)
chosen true p q parts value f = inl (refl, f)
chosen false p q parts value f = inr (refl, f)

-- its word has four bytes, and it passes its tests
abbrev IsHead : Head → Type 0
IsHead h = (length h.word ≡ 4) × (IsSingle h ⊎ IsGroup h)

single_spells : (word : List ℕ) (parts : List (List ℕ)) (value : Head) → length word ≡ 4 → (u32_in word 0 == 0) ≡ true
    → Follows {F = SpriteFault} (Done (single word)) parts value → (word ++ concat parts ≡ spell_head value) × IsHead value
single_spells word parts value sized zero f =
    let end = ends SpriteFault (single word) parts value f in
    let good : IsSingle (single word) = record { word = zero; count = refl; intervals = refl } in
    subst (λ (y : Head). (word ++ concat parts ≡ spell_head y) × IsHead y) end.1
    (ap (λ (x : List ℕ). word ++ x) end.0, (sized, inl good))

group_spells : (row : ℕ) (word : List ℕ) (parts : List (List ℕ)) (value : Head) → length word ≡ 4
    → (u32_in word 0 == 0) ≡ false → Follows (group row word) parts value
    → (word ++ concat parts ≡ spell_head value) × IsHead value
unfolding group
group_spells row word [] value sized other f = absurd f
group_spells row word (count ∷ []) value sized other f = absurd f.2
group_spells row word (count ∷ intervals ∷ []) value sized other f =
    let made : Head = record { word = word; count = count; intervals = intervals } in
    let n = u32_in count 0 in
    let few = count_inside n (passes ((not (is_between 1 1024 n), Group row) ∷ []) f.1).0 in
    let good : IsGroup made = record {
      word = other;
      count = f.0;
      least = few.0;
      most = few.1;
      intervals = f.2.0;
      positive = (passes ((has_wrong n intervals, Interval row) ∷ []) f.2.1).0;
    } in
    subst (λ (y : Head). (word ++ (count ++ (intervals ++ [])) ≡ spell_head y) × IsHead y) f.2.2
    (ap (λ (x : List ℕ). word ++ (count ++ x)) (append-nil intervals), (sized, inr good))
group_spells row word (count ∷ intervals ∷ x ∷ parts) value sized other f = absurd f.2.2

head_spells : (row : ℕ) → Spells spell_head IsHead (head row)
unfolding head
head_spells row [] value f = absurd f
head_spells row (word ∷ parts) value f =
    elim (chosen (u32_in word 0 == 0) (Done (single word)) (group row word) parts value f.2) [
      | inl g ↦ single_spells word parts value f.0 g.0 g.1
      | inr g ↦ group_spells row word parts value f.0 g.0 g.1
    ]

frame_spells : (row : ℕ) → Spells spell_frame IsFrame (frame row)
unfolding frame
frame_spells row parts value f =
    let s = follows_split (head row) (λ h. pictures (many h) row >>= λ ps. Done (record { head = h; pictures = ps })) parts value f in
    let h = s.between in
    let t = follows_split (pictures (many h) row) (λ ps. Done (record { head = h; pictures = ps })) s.second value s.seconds in
    let a = head_spells row s.first h s.firsts in
    let b = pictures_spells (many h) row t.first t.between t.firsts in
    let read = run_again (pictures (many h) row) t.first [] t.between t.firsts in
    let made : Frame = record { head = h; pictures = t.between } in
    let good : IsFrame made = record {
      word = a.1.0;
      head = a.1.1;
      number = pictures_len (many h) row (concat t.first ++ []) (t.between, []) read;
      pictures = b.1;
    } in
    let end = ends SpriteFault made t.second value t.seconds in
    let tail : concat s.second ≡ flat_map spell_picture t.between =
    t.whole ∙ ap (λ (x : List ℕ). concat t.first ++ x) end.0 ∙ append-nil (concat t.first) ∙ b.0 in
    subst (λ (y : Frame). (concat parts ≡ spell_frame y) × IsFrame y) end.1
    (s.whole ∙ ap (λ (x : List ℕ). x ++ concat s.second) a.0 ∙ ap (λ (x : List ℕ). spell_head h ++ x) tail, good)

-- what the frames of a header say of the file
record IsBody (header : List ℕ) (parts : List (List ℕ)) (value : Sprite) : Type 0 where
  spelled : header ++ concat parts ≡ spell value
  kept : value.header ≡ header
  number : length value.frames ≡ u32_in header 24
  frames : AllByRecursion IsFrame value.frames

body_spells : (header : List ℕ) (parts : List (List ℕ)) (value : Sprite) → Follows (body header) parts value
    → IsBody header parts value
unfolding body frames
body_spells header parts value f =
    let n = u32_in header 24 in
    let s = follows_split (each frame n 0) (λ fs. Done (sprite_of header fs)) parts value f in
    let a = each_spells spell_frame IsFrame frame frame_spells n 0 s.first s.between s.firsts in
    let read = run_again (each frame n 0) s.first [] s.between s.firsts in
    let end = ends SpriteFault (sprite_of header s.between) s.second value s.seconds in
    let tail : concat parts ≡ flat_map spell_frame s.between =
    s.whole ∙ ap (λ (x : List ℕ). concat s.first ++ x) end.0 ∙ append-nil (concat s.first) ∙ a.0 in
    let made : IsBody header parts (sprite_of header s.between) = record {
      spelled = ap (λ (x : List ℕ). header ++ x) tail;
      kept = refl;
      number = each_len frame n 0 (concat s.first ++ []) (s.between, []) read;
      frames = a.1;
    } in
    subst (λ (y : Sprite). IsBody header parts y) end.1 made

sprite_spells : Spells spell IsSprite sprite
unfolding sprite
sprite_spells [] value f = absurd f
sprite_spells (header ∷ parts) value f =
    let b = body_spells header parts value f.2 in
    let t = passes ((not (u32_in header 4 == 1), Version (u32_in header 4)) ∷ (not (is_between 1 1024 (u32_in header 24)), Frames) ∷ []) f.1 in
    let few = count_inside (u32_in header 24) t.1.0 in
    let good : IsSprite value = record {
      header = ap length b.kept ∙ f.0;
      version = ap (λ (h : List ℕ). u32_in h 4) b.kept ∙ same_number _ _ t.0;
      least = omega (arith, few.0, b.number);
      most = omega (arith, few.1, b.number);
      number = b.number ∙ ap (λ (h : List ℕ). u32_in h 24) (sym b.kept);
      frames = b.frames;
    } in
    (b.spelled, good)

-- What is read is spelled so, and passes its tests.
pub sprite_found : (bytes rest : List ℕ) (s : Sprite) → run sprite bytes ≡ Ok (s, rest) → (bytes ≡ spell s ++ rest) × IsSprite s
sprite_found bytes rest s e =
    let r = run_found sprite bytes rest s e in
    let t = sprite_spells r.0 s r.2 in
    (r.1 ∙ ap (λ (x : List ℕ). x ++ rest) t.0, t.1)
