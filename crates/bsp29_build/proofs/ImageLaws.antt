-- How long the image is, and what stands where in it.
use Rattle.std.proofs.Common.{◌≡◌, ℕ, zero, suc, ◌+◌, ◌*◌, ◌≤◌, ◌<◌, ◌^◌, List, [], ◌∷◌, ◌++◌, length}
use Rattle.std.proofs.Common.{Some, Ok, Err, refl, sym, ap, subst, ◌∙◌, arith}
use Rattle.std.specs.Prelude.{IsOk, IsOkAnd, IfOk, slice_get}
use Rattle.std.specs.List.{sum_by}
use Rattle.std.proofs.lemmas.List.{length-append, append_assoc}
use Rattle.std.proofs.lemmas.List.Sums.{sum_by-cons}
use Rattle.base_fields.specs.Fields.{field, u32_in, u32_bytes}
use Rattle.base_fields.proofs.FieldLaws.{field-between, u32_in-written}
use Rattle.mem_model.specs.Images.{image_size as size_of}
use Rattle.bsp29_tables.specs.declared.fault.BspFault.{BspFault}
use Rattle.bsp29_tables.specs.Checks.{Checked, fine}
use Rattle.bsp29_tables.specs.Order.{check_of}
use Rattle.bsp29_tables.specs.declared.lumps.Lump.TheVariants.{Textures}
use Rattle.bsp29_tables.specs.Sizes.{section_size, image_size}
use Rattle.bsp29_tables.proofs.SoundLaws.{sound_from_fine}
use Rattle.bsp29_build.specs.declared.sections.Section.{Section}
use Rattle.bsp29_build.specs.Images.{end_of, header_from, sections_from, image, where_fine, image_of}
use Rattle.bsp29_build.specs.Readers.{offset_told, count_told, HasSection, TellsSections}
use Rattle.bsp29_build.specs.Sections.{all_sections, count_in, size_in, bytes_in}
use Rattle.bsp29_build.specs.declared.sections.Section.TheVariants.{Of, Hull}
use Rattle.bsp29_build.proofs.SectionLaws.{section_long, header_there, all_left}

-- ---- lengths

length-header_from : (file : List ℕ) (start : ℕ) (ss : List Section) → length (header_from file start ss) ≡ 8 * length ss
unfolding header_from
length-header_from file start [] = refl
length-header_from file start (s ∷ ss) =
    rw (length-append, length-append, length-header_from file (end_of file start s) ss) (omega arith)

length-sections_from : (file : List ℕ) (start : ℕ) (ss : List Section) → check_of file ≡ fine
    → length (sections_from file start ss) ≡ sum_by (size_in file) ss
unfolding sections_from
length-sections_from file start [] e = refl
length-sections_from file start (s ∷ ss) e =
    let rest = length-sections_from file (end_of file start s) ss e in
    length-append (bytes_in file start s) (sections_from file (end_of file start s) ss)
    ∙ ap (λ n. n + length (sections_from file (end_of file start s) ss)) (section_long file start s e)
    ∙ ap (λ n. size_in file s + n) rest
    ∙ sym (sum_by-cons (size_in file) s ss)

pub image_long : (file : List ℕ) → check_of file ≡ fine → length (image file) ≡ image_size file
unfolding image
image_long file e =
    rw (
      length-append,
      length-append,
      length-header_from file 132 all_sections,
      length-sections_from file 132 all_sections e,
    ) (omega (arith, all_left file))

-- ---- the image or a fault

pub size_is : (file : List ℕ) → check_of file ≡ fine → size_of (image_of file) ≡ Ok (image_size file)
unfolding image_of
size_is file e = rw e (ap (λ n. Ok n) (image_long file e))

pub fault_is : (file : List ℕ) (fault : BspFault) → check_of file ≡ Err fault → size_of (image_of file) ≡ Err fault
unfolding image_of
fault_is file fault e = rw e refl

fine_where : (made : List ℕ) (P : List ℕ → Type 0) (check : Checked) → IsOkAnd (where_fine made check) P
    → (check ≡ fine) × P made
fine_where made P (Ok tt) there = (refl, there)
fine_where made P (Err fault) there = absurd there

pub is_fine : (file : List ℕ) (P : List ℕ → Type 0) → IsOkAnd (image_of file) P → check_of file ≡ fine
unfolding image_of
is_fine file P there = (fine_where (image file) P (check_of file) there).0

pub room_of : (file : List ℕ) (n : ℕ) → IsOkAnd (image_of file) (λ made. length made ≡ n) → n ≡ image_size file
unfolding image_of
room_of file n there =
    let both = fine_where (image file) (λ made. length made ≡ n) (check_of file) there in
    sym both.1 ∙ image_long file both.0

fine_ok : (made : List ℕ) (check : Checked) → IsOk (where_fine made check) → check ≡ fine
fine_ok made (Ok nothing) there = refl
fine_ok made (Err fault) there = absurd cc

pub fine_is_ok : (file : List ℕ) → IsOk (image_of file) → check_of file ≡ fine
unfolding image_of
fine_is_ok file there = fine_ok (image file) (check_of file) there

pub long_ok : (file : List ℕ) (n : ℕ) → check_of file ≡ fine → n ≡ image_size file → IfOk (image_of file) (λ made. n ≡ length made)
unfolding image_of
long_ok file n e is = rw e (is ∙ sym (image_long file e))

pub image_made : (file block : List ℕ) → check_of file ≡ fine → block ≡ image file → image_of file ≡ Ok block
unfolding image_of
image_made file block e is = rw (e, is) refl

pub ruleset counted_laws = (fine_is_ok, long_ok)

pub ruleset size_laws = (size_is, fault_is)

pub ruleset image_laws = (is_fine, room_of, image_made)

-- ---- where a section stands

-- the place of the section of a number
abbrev start_at : (file : List ℕ) → (start : ℕ) → List Section → ℕ → ℕ
start_at file start [] n = start
start_at file start (s ∷ ss) zero = start
start_at file start (s ∷ ss) (suc n) = start_at file (end_of file start s) ss n

-- the pair of a section, between those of the others
record HasPair (file : List ℕ) (start : ℕ) (ss : List Section) (n : ℕ) (s : Section) : Type 0 where
  front : List ℕ
  rest : List ℕ
  parts : header_from file start ss
      ≡ front ++ (u32_bytes (start_at file start ss n) ++ (u32_bytes (count_in file s) ++ rest))
  before : length front ≡ 8 * n

has_pair : (file : List ℕ) (start : ℕ) (ss : List Section) (n : ℕ) (s : Section) → slice_get ss n ≡ Some s
    → HasPair file start ss n s
unfolding header_from
has_pair file start [] n s at = absurd cc
has_pair file start (s ∷ ss) zero t at =
    let is : s ≡ t = cc in
    record {
      front = [];
      rest = header_from file (end_of file start s) ss;
      parts = rw (← is) refl;
      before = refl;
    }
has_pair file start (s ∷ ss) (suc n) t at =
    let next = has_pair file (end_of file start s) ss n t at in
    let pair = u32_bytes start ++ u32_bytes (count_in file s) in
    record {
      front = pair ++ next.front;
      rest = next.rest;
      parts = rw next.parts refl;
      before = rw (length-append, next.before) (omega arith);
    }

-- a section, between the others
record HasPart (file : List ℕ) (start : ℕ) (ss : List Section) (n : ℕ) (s : Section) : Type 0 where
  front : List ℕ
  rest : List ℕ
  parts : sections_from file start ss ≡ front ++ (bytes_in file (start_at file start ss n) s ++ rest)
  before : start + length front ≡ start_at file start ss n

has_part : (file : List ℕ) (start : ℕ) (ss : List Section) (n : ℕ) (s : Section) → slice_get ss n ≡ Some s
    → HasPart file start ss n s
unfolding sections_from
has_part file start [] n s at = absurd cc
has_part file start (s ∷ ss) zero t at =
    let is : s ≡ t = cc in
    record {
      front = [];
      rest = sections_from file (end_of file start s) ss;
      parts = rw (← is) refl;
      before = omega arith;
    }
has_part file start (s ∷ ss) (suc n) t at =
    let next = has_part file (end_of file start s) ss n t at in
    let here = bytes_in file start s in
    record {
      front = here ++ next.front;
      rest = next.rest;
      parts = rw next.parts (sym (append_assoc here next.front (bytes_in file (start_at file (end_of file start s) ss n) t ++ next.rest)));
      before = rw length-append (omega (arith, next.before));
    }

-- ---- what the readers tell

count_small : (file : List ℕ) (s : Section) → count_in file s ≤ size_in file s
unfolding section_size
count_small file (Of Textures) = omega arith
count_small file (Of other) = omega arith
count_small file Hull = omega arith

-- the image of a file, cut around the numbers of a section
pair_between : (file front rest : List ℕ) (start count : ℕ)
    → header_from file 132 all_sections ≡ front ++ (u32_bytes start ++ (u32_bytes count ++ rest))
    → image file ≡ (u32_bytes 29 ++ front)
    ++ (u32_bytes start ++ (u32_bytes count ++ (rest ++ sections_from file 132 all_sections)))
unfolding image
pair_between file front rest start count parts =
    ap (λ (l : List ℕ). u32_bytes 29 ++ (l ++ sections_from file 132 all_sections)) parts
    ∙ ap (λ (l : List ℕ). u32_bytes 29 ++ l)
    (append_assoc front (u32_bytes start ++ (u32_bytes count ++ rest)) (sections_from file 132 all_sections))

-- the same around the section
part_between : (file front part rest : List ℕ) → sections_from file 132 all_sections ≡ front ++ (part ++ rest)
    → image file ≡ (u32_bytes 29 ++ (header_from file 132 all_sections ++ front)) ++ (part ++ rest)
unfolding image
part_between file front part rest parts =
    ap (λ (l : List ℕ). u32_bytes 29 ++ (header_from file 132 all_sections ++ l)) parts
    ∙ ap (λ (l : List ℕ). u32_bytes 29 ++ l)
    (sym (append_assoc (header_from file 132 all_sections) front (part ++ rest)))

section_there : (file : List ℕ) (n : ℕ) (s : Section) → check_of file ≡ fine → slice_get all_sections n ≡ Some s
    → HasSection file (image file) n s
section_there file n s e at =
    let start = start_at file 132 all_sections n in
    let count = count_in file s in
    let size = size_in file s in
    let header = header_from file 132 all_sections in
    let pair = has_pair file 132 all_sections n s at in
    let part = has_part file 132 all_sections n s at in
    let here = bytes_in file start s in
    let long : length here ≡ size = section_long file start s e in
    let pairs = pair_between file pair.front pair.rest start count pair.parts in
    let between = part_between file part.front here part.rest part.parts in
    let front = u32_bytes 29 ++ (header ++ part.front) in
    let before : length front ≡ start =
    length-append (u32_bytes 29) (header ++ part.front)
    ∙ omega (arith, length-append header part.front, length-header_from file 132 all_sections, part.before) in
    let whole : length (image file) ≡ length front + (length here + length part.rest) =
    ap length between ∙ length-append front (here ++ part.rest) ∙ ap (λ k. length front + k) (length-append here part.rest) in
    let inside : start + size ≤ length (image file) = omega (arith, whole, before, long) in
    let small : start + size < 2 ^ 31 = omega (arith, inside, image_long file e, (sound_from_fine file e).small) in
    let first : length (u32_bytes 29 ++ pair.front) ≡ 8 * n + 4 = omega (arith, pair.before) in
    let second : length ((u32_bytes 29 ++ pair.front) ++ u32_bytes start) ≡ 8 * n + 8 =
    length-append (u32_bytes 29 ++ pair.front) (u32_bytes start) ∙ omega (arith, first) in
    let left = pair.rest ++ sections_from file 132 all_sections in
    let offset_is : offset_told (image file) n ≡ start =
    ap (λ (l : List ℕ). u32_in l (8 * n + 4)) pairs
    ∙ u32_in-written (u32_bytes 29 ++ pair.front) (u32_bytes count ++ left) (8 * n + 4) start first (omega (arith, small)) in
    let count_is : count_told (image file) n ≡ count =
    ap (λ (l : List ℕ). u32_in l (8 * n + 8))
    (pairs ∙ sym (append_assoc (u32_bytes 29 ++ pair.front) (u32_bytes start) (u32_bytes count ++ left)))
    ∙ u32_in-written ((u32_bytes 29 ++ pair.front) ++ u32_bytes start) left (8 * n + 8) count second
    (omega (arith, small, count_small file s)) in
    let stands : field size (image file) start ≡ here =
    ap (λ (l : List ℕ). field size l start) between ∙ field-between size front here part.rest start before long in
    record { count = count_is; inside = rw offset_is inside; stands = rw offset_is stands }

pub image_from : (made : List ℕ) (check : Checked) (told : List ℕ) → where_fine made check ≡ Ok told
    → (check ≡ fine) × (made ≡ told)
image_from made (Ok tt) told e = (refl, cc)
image_from made (Err fault) told e = absurd cc

-- how long an image is
pub length_of_image : (file told : List ℕ) → image_of file ≡ Ok told → (132 ≤ length told) × (length told < 2 ^ 31)
unfolding image_of
length_of_image file told is =
    let both = image_from (image file) (check_of file) told is in
    let long : length told ≡ image_size file = ap length (sym both.1) ∙ image_long file both.0 in
    (omega (arith, long, header_there file), omega (arith, long, (sound_from_fine file both.0).small))

pub sections_told : (image : List ℕ) → TellsSections image
unfolding image_of
sections_told told file n s is at =
    let both = image_from (image file) (check_of file) told is in
    subst (λ (l : List ℕ). HasSection file l n s) both.1 (section_there file n s both.0 at)
