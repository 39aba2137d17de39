-- The pieces of skins and frames, and how long they are.
use Rattle.std.proofs.Common.{◌≡◌, ℕ, zero, suc, ◌+◌, ◌-◌, ◌*◌, ◌^◌, ◌≤◌, ◌<◌, Bool, true, false, cond, List, [], ◌∷◌, ◌++◌, length, take, drop, Result, Ok, Err, refl, sym, ap, subst, ◌∙◌, append_assoc, arith, inl, inr}
use Rattle.std.specs.Prelude.{IfOk, IsOkAnd}
use Rattle.std.specs.List.{concat, flat_map, AllByRecursion}
use Rattle.std.proofs.lemmas.List.{append-nil, take-append-drop, length-append, length-take, length-drop}
use Rattle.std.proofs.Math.Nat.{mul-le-mul}
use Rattle.base_fields.specs.Fields.{u32_in, u32_bytes, field}
use Rattle.part_plan.specs.Plan.{run, each, folded, folding}
use Rattle.part_plan.proofs.Runs.{ok_is}
use Rattle.part_plan.proofs.Each.{fold_more, fold_written}
use Rattle.alias_load.specs.declared.fault.AliasFault.{AliasFault}
use Rattle.alias_load.specs.declared.header.Kind.{Kind}
use Rattle.alias_load.specs.declared.section.Section.{Section}
use Rattle.alias_load.specs.declared.section.Section.TheVariants.{SkinRows, FrameRows, Intervals, PoseRows, Pictures, Vertices}
use Rattle.alias_load.specs.Models.{Head, Series, spell_head, spell_series}
use Rattle.alias_load.specs.Reading.{is_single, series}
use Rattle.alias_load.specs.Images.{count_of, pieces, skin_row, bounds_of, intervals_of, pose_rows, vertices_in}
use Rattle.alias_load.specs.Views.{cut, series_in}
use Rattle.alias_load.specs.Sizes.{IsSeries}
use Rattle.alias_load.specs.Sections.{piece_of, fixed, per_item, bytes_of, IsOfPoses, Suits, Texts, no_texts, add_piece}
use Rattle.alias_load.proofs.SeriesLaws.{length-cut}

-- items that are cut are all of the bytes
pub concat-cut : (n item : ℕ) (bytes : List ℕ) → length bytes ≡ item * n → concat (cut item n bytes) ≡ bytes
unfolding cut
concat-cut zero item [] long = refl
concat-cut zero item (b ∷ bytes) long = absurd (omega (arith, long))
concat-cut (suc n) item bytes long =
    let more : item * suc n ≡ item + item * n = omega arith in
    ap (λ (t : List ℕ). take item bytes ++ t) (concat-cut n item (drop item bytes) (omega (arith, long, more, length-drop item bytes))) ∙ take-append-drop item bytes

-- ---- how long the pieces are

single_number : (kind : Kind) (x : Series) → IsSeries kind x → is_single x.head ≡ true → length x.items ≡ 1
single_number kind x is one = is.number ∙ ap (λ (b : Bool). cond b 1 (u32_in x.head.count 0)) one

group_number : (kind : Kind) (x : Series) → IsSeries kind x → is_single x.head ≡ false → length x.items ≡ u32_in x.head.count 0
group_number kind x is other = is.number ∙ ap (λ (b : Bool). cond b 1 (u32_in x.head.count 0)) other

pub length-intervals : (kind : Kind) (x : Series) → IsSeries kind x → length (intervals_of x) ≡ 4 * length x.items
length-intervals kind x is =
    elim is.head [
      | inl one ↦ ap (λ (b : Bool). length (cond b (u32_bytes 0) x.head.intervals)) one ∙ omega (arith, single_number kind x is one)
      | inr g ↦ ap (λ (b : Bool). length (cond b (u32_bytes 0) x.head.intervals)) g.0 ∙ omega (arith, g.2, group_number kind x is g.0)
    ]

length-items : (item : ℕ) (xs : List (List ℕ)) → AllByRecursion (λ t. length t ≡ item) xs → length (concat xs) ≡ item * length xs
length-items item [] all = omega arith
length-items item (x ∷ xs) all = length-append x (concat xs) ∙ omega (arith, all.0, length-items item xs all.1)

length-field : (n at : ℕ) (bytes : List ℕ) → at + n ≤ length bytes → length (field n bytes at) ≡ n
length-field n at bytes inside = omega (arith, length-take n (drop at bytes), length-drop at bytes)

pub length-bounds : (kind : Kind) (x : Series) → IsSeries kind x → IsOfPoses kind → length (bounds_of x) ≡ 8
length-bounds kind x is poses =
    elim is.head [
      | inl one ↦
          let long : length (concat x.items) ≡ kind.item * 1 = length-items kind.item x.items is.items ∙ ap (λ (n : ℕ). kind.item * n) (single_number kind x is one) in
          ap (λ (b : Bool). length (cond b (field 8 (concat x.items) 0) (field 8 x.head.count 4))) one ∙ length-field 8 0 (concat x.items) (omega (arith, long, poses.1))
      | inr g ↦ ap (λ (b : Bool). length (cond b (field 8 (concat x.items) 0) (field 8 x.head.count 4))) g.0 ∙ length-field 8 4 x.head.count (omega (arith, g.1, poses.0))
    ]

length-pose_rows : (item : ℕ) (intervals : List ℕ) (poses : List (List ℕ)) → 24 ≤ item → length intervals ≡ 4 * length poses → AllByRecursion (λ t. length t ≡ item) poses
    → length (pose_rows intervals poses) ≡ 28 * length poses
length-pose_rows item intervals [] long are all = omega arith
length-pose_rows item intervals (pose ∷ poses) long are all =
    let a = length-field 4 0 intervals (omega (arith, are)) in
    let b = length-field 24 0 pose (omega (arith, all.0)) in
    let others = length-pose_rows item (drop 4 intervals) poses long (omega (arith, are, length-drop 4 intervals)) all.1 in
    length-append (field 4 intervals 0 ++ field 24 pose 0) (pose_rows (drop 4 intervals) poses)
    ∙ omega (arith, length-append (field 4 intervals 0) (field 24 pose 0), a, b, others)

length-vertices : (item : ℕ) (poses : List (List ℕ)) → AllByRecursion (λ t. length t ≡ item) poses → length (vertices_in poses) ≡ (item - 24) * length poses
length-vertices item [] all = omega arith
length-vertices item (pose ∷ poses) all =
    let one : length (drop 24 pose) ≡ item - 24 = omega (arith, length-drop 24 pose, all.0) in
    length-append (drop 24 pose) (vertices_in poses) ∙ omega (arith, one, length-vertices item poses all.1)

pub length-piece : (section : Section) (kind : Kind) (first : ℕ) (x : Series) → Suits section kind → IsSeries kind x
    → length (piece_of section first x) ≡ fixed section + per_item section kind * length x.items
length-piece SkinRows kind first x suits is = omega arith
length-piece FrameRows kind first x suits is = length-append (skin_row first x) (bounds_of x) ∙ omega (arith, length-bounds kind x is suits)
length-piece Intervals kind first x suits is = length-intervals kind x is ∙ omega arith
length-piece PoseRows kind first x suits is = length-pose_rows kind.item (intervals_of x) x.items suits.1 (length-intervals kind x is) is.items ∙ omega arith
length-piece Pictures kind first x suits is = length-items kind.item x.items is.items ∙ omega arith
length-piece Vertices kind first x suits is = length-vertices kind.item x.items is.items ∙ omega arith

pub length-pieces : (section : Section) (kind : Kind) (first : ℕ) (xs : List Series) → Suits section kind → AllByRecursion (IsSeries kind) xs
    → length (pieces (piece_of section) first xs) ≡ fixed section * length xs + per_item section kind * count_of xs
length-pieces section kind first [] suits all = omega arith
length-pieces section kind first (x ∷ xs) suits all =
    let one = length-piece section kind first x suits all.0 in
    let others = length-pieces section kind (first + length x.items) xs suits all.1 in
    length-append (piece_of section first x) (pieces (piece_of section) (first + length x.items) xs) ∙ omega (arith, one, others)

-- there are no more than 1024 pictures or poses for each skin or frame
series_few : (kind : Kind) (x : Series) → IsSeries kind x → length x.items ≤ 1024
series_few kind x is =
    elim is.head [
      | inl one ↦ omega (arith, single_number kind x is one)
      | inr g ↦ omega (arith, g.3, group_number kind x is g.0)
    ]

pub count_few : (kind : Kind) (xs : List Series) → AllByRecursion (IsSeries kind) xs → count_of xs ≤ 1024 * length xs
count_few kind [] all = omega arith
count_few kind (x ∷ xs) all = omega (arith, series_few kind x all.0, count_few kind xs all.1)

-- the bytes of skins or frames in the file
series_spelled : (kind : Kind) (x : Series) → IsSeries kind x → 4 * length x.items + kind.item * length x.items ≤ 4 + length (spell_series x)
series_spelled kind x is =
    let whole : length (spell_series x) ≡ length (spell_head x.head) + length (concat x.items) = length-append (spell_head x.head) (concat x.items) in
    let items = length-items kind.item x.items is.items in
    let head : length (spell_head x.head) ≡ length x.head.word + length (x.head.count ++ x.head.intervals) = length-append x.head.word (x.head.count ++ x.head.intervals) in
    elim is.head [
      | inl one ↦ omega (arith, whole, items, single_number kind x is one)
      | inr g ↦ omega (arith, whole, items, head, length-append x.head.count x.head.intervals, g.2, group_number kind x is g.0)
    ]

pub all_spelled : (kind : Kind) (xs : List Series) → AllByRecursion (IsSeries kind) xs
    → 4 * count_of xs + kind.item * count_of xs ≤ 4 * length xs + length (flat_map spell_series xs)
all_spelled kind [] all = omega arith
all_spelled kind (x ∷ xs) all =
    let whole : length (flat_map spell_series (x ∷ xs)) ≡ length (spell_series x) + length (flat_map spell_series xs) = length-append (spell_series x) (flat_map spell_series xs) in
    omega (arith, whole, series_spelled kind x all.0, all_spelled kind xs all.1)

few_items : (k n : ℕ) → k ≤ 2 ^ 24 → n ≤ 2 ^ 24 → k * n ≤ 2 ^ 48
few_items k n few less = let most : k * n ≤ 2 ^ 24 * 2 ^ 24 = mul-le-mul few less in omega (arith, most)

pub bytes_few : (section : Section) (kind : Kind) (n items : ℕ) → n ≤ 2 ^ 16 → items ≤ 2 ^ 24 → kind.item ≤ 2 ^ 24 → bytes_of section kind n items ≤ 2 ^ 49
bytes_few SkinRows kind n items few less small = omega arith
bytes_few FrameRows kind n items few less small = omega arith
bytes_few Intervals kind n items few less small = omega arith
bytes_few PoseRows kind n items few less small = omega arith
bytes_few Pictures kind n items few less small = omega (arith, few_items kind.item items small less)
bytes_few Vertices kind n items few less small = omega (arith, few_items (kind.item - 24) items (omega (arith, small)) less)

-- ---- what the code has of one

pub single_is : (kind : Kind) (h : Head) (k : ℕ) (items : List ℕ) → IsSeries kind (series_in kind h k items) → is_single h ≡ true → k ≡ 1
single_is kind h k items is one = sym (length-cut k kind.item items) ∙ single_number kind (series_in kind h k items) is one

pub single_long : (kind : Kind) (h : Head) (k : ℕ) (items : List ℕ) → IsSeries kind (series_in kind h k items) → is_single h ≡ true → length items ≡ kind.item * k → length items ≡ kind.item
single_long kind h k items is one long = long ∙ ap (λ (n : ℕ). kind.item * n) (single_is kind h k items is one) ∙ omega arith

pub single_bounds : (kind : Kind) (h : Head) (k : ℕ) (items : List ℕ) → is_single h ≡ true → length items ≡ kind.item * k → take 8 items ≡ bounds_of (series_in kind h k items)
single_bounds kind h k items one long =
    sym (ap (λ (b : Bool). cond b (field 8 (concat (cut kind.item k items)) 0) (field 8 h.count 4)) one ∙ ap (λ (t : List ℕ). field 8 t 0) (concat-cut k kind.item items long))

pub group_bounds : (kind : Kind) (h : Head) (k : ℕ) (items : List ℕ) → is_single h ≡ false → field 8 h.count 4 ≡ bounds_of (series_in kind h k items)
group_bounds kind h k items other = sym (ap (λ (b : Bool). cond b (field 8 (concat (cut kind.item k items)) 0) (field 8 h.count 4)) other)

pub group_long : (kind : Kind) (x : Series) → IsSeries kind x → is_single x.head ≡ false → IsOfPoses kind → length x.head.count ≡ 12
group_long kind x is other poses = elim is.head [ inl one ↦ absurd cc | inr g ↦ omega (arith, g.1, poses.0) ]

pub group_intervals : (kind : Kind) (h : Head) (k : ℕ) (items : List ℕ) → IsSeries kind (series_in kind h k items) → is_single h ≡ false → length h.intervals ≡ 4 * k
group_intervals kind h k items is other =
    let x = series_in kind h k items in
    sym (ap (λ (b : Bool). length (cond b (u32_bytes 0) h.intervals)) other) ∙ length-intervals kind x is ∙ ap (λ (n : ℕ). 4 * n) (length-cut k kind.item items)

pub row_is : (kind : Kind) (h : Head) (k : ℕ) (items : List ℕ) (single : Bool) (first : ℕ) → single ≡ is_single h
    → u32_bytes (cond single 0 1) ++ (u32_bytes first ++ u32_bytes k) ≡ skin_row first (series_in kind h k items)
row_is kind h k items single first is =
    ap (λ (b : Bool). u32_bytes (cond b 0 1) ++ (u32_bytes first ++ u32_bytes k)) is
    ∙ ap (λ (n : ℕ). u32_bytes (cond (is_single h) 0 1) ++ (u32_bytes first ++ u32_bytes n)) (sym (length-cut k kind.item items))

-- ---- the pass

pub texts_are : (piece : ℕ → Series → List ℕ) (s : Texts) (xs : List Series) → (folded (add_piece piece) s xs).text ≡ s.text ++ pieces piece s.first xs
texts_are piece s [] = sym (append-nil s.text)
texts_are piece s (x ∷ xs) = texts_are piece (add_piece piece s x) xs ∙ append_assoc s.text (piece s.first x) (pieces piece (s.first + length x.items) xs)

-- a text has room in the whole one
pub texts_room : (piece : ℕ → Series → List ℕ) (s : Texts) (n : ℕ) (read start : Result (List Series × List ℕ) AliasFault) → IsOkAnd start (λ a. length (pieces piece 0 a.0) ≡ n)
    → folding (add_piece piece) s read ≡ folding (add_piece piece) no_texts start → length s.text ≤ n
texts_room piece s n (Ok a) (Ok b) room same =
    let texts : (folded (add_piece piece) s a.0).text ≡ (folded (add_piece piece) no_texts b.0).text
    = ap (λ (p : Texts × List ℕ). p.0.text) (ok_is {F = AliasFault} (folded (add_piece piece) s a.0, a.1) (folded (add_piece piece) no_texts b.0, b.1) same) in
    let long = ap length (sym (texts_are piece s a.0) ∙ texts ∙ texts_are piece no_texts b.0) in
    omega (arith, long, room, length-append s.text (pieces piece s.first a.0))
texts_room piece s n (Err f) (Ok b) room same = absurd cc
texts_room piece s n read (Err f) room same = absurd room

pub texts_end : (piece : ℕ → Series → List ℕ) (s : Texts) (rest : List ℕ) (n : ℕ) (start : Result (List Series × List ℕ) AliasFault) → IsOkAnd start (λ a. length (pieces piece 0 a.0) ≡ n)
    → folding (add_piece piece) no_texts start ≡ Ok (s, rest) → length s.text ≡ n
texts_end piece s rest n (Ok b) room same =
    let texts : (folded (add_piece piece) no_texts b.0).text ≡ s.text
    = ap (λ (p : Texts × List ℕ). p.0.text) (ok_is {F = AliasFault} (folded (add_piece piece) no_texts b.0, b.1) (s, rest) same) in
    ap length (sym texts ∙ texts_are piece no_texts b.0) ∙ room
texts_end piece s rest n (Err f) room same = absurd room

pub texts_written : (piece : ℕ → Series → List ℕ) (s : Texts) (rest : List ℕ) (read : Result (List Series × List ℕ) AliasFault) → folding (add_piece piece) no_texts read ≡ Ok (s, rest)
    → IfOk read (λ a. s.text ≡ pieces piece 0 a.0)
texts_written piece s rest read e = fold_written (add_piece piece) no_texts s (λ s. s.text) (λ xs. pieces piece 0 xs) (texts_are piece no_texts) read rest e

pub texts_more : (piece : ℕ → Series → List ℕ) (kind : Kind) (first : ℕ) (text : List ℕ) (n i : ℕ) (bytes : List ℕ) (h : Head) (k : ℕ) (items rest : List ℕ) (total : Result (Texts × List ℕ) AliasFault) → i < n
    → Ok (series_in kind h k items, rest) ≡ run (series kind i) bytes
    → folding (add_piece piece) (record { first = first; text = text }) (run (each (series kind) (n - i) i) bytes) ≡ total
    → folding (add_piece piece) (record { first = first + k; text = text ++ piece first (series_in kind h k items) }) (run (each (series kind) (n - (i + 1)) (i + 1)) rest) ≡ total
texts_more piece kind first text n i bytes h k items rest total lt is so_far =
    let x = series_in kind h k items in
    let more = fold_more (series kind) (add_piece piece) (record { first = first; text = text }) n i bytes x rest total lt (sym is) so_far in
    subst (λ (m : ℕ). folding (add_piece piece) (record { first = first + m; text = text ++ piece first x }) (run (each (series kind) (n - (i + 1)) (i + 1)) rest) ≡ total) (length-cut k kind.item items) more

pub ruleset piece_laws = (concat-cut)
