-- How long the sections are, and what stands where.
use Rattle.std.proofs.Common.{◌≡◌, ℕ, ◌+◌, ◌≤◌, ◌<◌, List, [], ◌++◌, length, get_or, drop}
use Rattle.std.proofs.Common.{refl, sym, ap, ◌∙◌, arith}
use Rattle.std.specs.List.{sum_by}
use Rattle.std.proofs.lemmas.List.{drop_more, drop_all}
use Rattle.std.proofs.lemmas.List.Sums.{sum_by-drop_more}
use borrow.Rule.Slice.PartMut.{put_mid}
use Rattle.base_fields.specs.Fields.{u32_bytes}
use Rattle.bsp29_tables.specs.declared.lumps.Lump.TheVariants.{Entities, Planes, Textures, Nodes, Faces, Leafs}
use Rattle.bsp29_tables.specs.Checks.{fine}
use Rattle.bsp29_tables.specs.Lumps.{lump_of}
use Rattle.bsp29_tables.specs.Order.{check_of}
use Rattle.bsp29_tables.specs.Sizes.{section_size, image_size}
use Rattle.bsp29_tables.proofs.SoundLaws.{sound_from_fine}
use Rattle.bsp29_build.specs.declared.sections.Section.{Section}
use Rattle.bsp29_build.specs.declared.sections.Section.TheVariants.{Of, Hull}
use Rattle.bsp29_build.specs.Images.{end_of, header_from, sections_from}
use Rattle.bsp29_build.specs.Sections.{all_sections, count_in, size_in, bytes_in}
use Rattle.bsp29_build.proofs.FineLaws.{lump_whole, plane_room, texture_room, node_room, face_room, leaf_room}
use Rattle.bsp29_build.proofs.FineLaws.{hull_room, words_length}
use Rattle.bsp29_build.proofs.Passing.{leafs_there}
use Rattle.bsp29_build.proofs.ParentLaws.{length-node_rows, length-leaf_rows}
use Rattle.bsp29_build.proofs.HullLaws.{length-hull_rows}
use Rattle.bsp29_build.proofs.TextureLaws.{length-texture_section}
use Rattle.bsp29_build.proofs.Writing.{with_left, part_written, none_left}

pub section_long : (file : List ℕ) (start : ℕ) (s : Section) → check_of file ≡ fine
    → length (bytes_in file start s) ≡ size_in file s
unfolding bytes_in section_size
section_long file start (Of Planes) e = words_length _ (lump_of file Planes) ∙ sym (plane_room file)
section_long file start (Of Textures) e =
    length-texture_section (lump_of file Textures) start (sound_from_fine file e).textures.inside ∙ sym (texture_room file)
section_long file start (Of Nodes) e =
    length-node_rows (lump_of file Nodes) ∙ sym (node_room file)
section_long file start (Of Faces) e = words_length _ (lump_of file Faces) ∙ sym (face_room file)
section_long file start (Of Leafs) e =
    length-leaf_rows (lump_of file Nodes) (lump_of file Leafs) ∙ sym (leaf_room file)
section_long file start (Of other) e = lump_whole file other e
section_long file start Hull e =
    length-hull_rows (lump_of file Nodes) (lump_of file Leafs) (leafs_there file e) ∙ sym (hull_room file)

-- ---- sections that stand one behind the other

-- what the sections from i on take
abbrev pub left_from : (file : List ℕ) → (i : ℕ) → ℕ
left_from file i = sum_by (size_in file) (drop i all_sections)

pub all_left : (file : List ℕ) → 132 + left_from file 0 ≡ image_size file
unfolding image_size
all_left file = omega arith

pub header_there : (file : List ℕ) → 132 ≤ image_size file
unfolding image_size
header_there file = omega arith

pub less_left : (file : List ℕ) (i : ℕ) → i < 16
    → left_from file i ≡ size_in file (get_or all_sections i (Of Entities)) + left_from file (i + 1)
less_left file i lt = sum_by-drop_more (size_in file) all_sections i (Of Entities) lt

pub none_left_from : (file : List ℕ) (i : ℕ) → 16 ≤ i → left_from file i ≡ 0
none_left_from file i all = rw (drop_all i all_sections all) refl

module _ (file : List ℕ) (fault_free : check_of file ≡ fine) where
  pub header_more : (out part whole : List ℕ) (start i at k next size : ℕ) → i < 16
      → with_left out at (header_from file start (drop i all_sections)) ≡ whole
      → part ≡ u32_bytes start ++ u32_bytes (count_in file (get_or all_sections i (Of Entities)))
      → size ≡ size_in file (get_or all_sections i (Of Entities)) → next ≡ at + 8 → at ≤ length out
      → with_left (put_mid at k out part) next (header_from file (start + size) (drop (i + 1) all_sections)) ≡ whole
  unfolding header_from
  header_more out part whole start i at k next size lt so is size_is next_is room =
      let s = get_or all_sections i (Of Entities) in
      let rest = header_from file (start + size) (drop (i + 1) all_sections) in
      let end : end_of file start s ≡ start + size = ap (λ n. start + n) (section_long file start s fault_free ∙ sym size_is) in
      let left : header_from file start (drop i all_sections) ≡ part ++ rest =
      rw (drop_more all_sections i (Of Entities) lt, end, is) refl in
      let long : next ≡ at + length part = rw is next_is in
      part_written out part rest at k next long room ∙ ap (with_left out at) (sym left) ∙ so

  pub sections_more : (out part whole : List ℕ) (start i at k next size : ℕ) → i < 16
      → with_left out at (sections_from file start (drop i all_sections)) ≡ whole
      → part ≡ bytes_in file start (get_or all_sections i (Of Entities))
      → size ≡ size_in file (get_or all_sections i (Of Entities)) → next ≡ at + size → at ≤ length out
      → with_left (put_mid at k out part) next (sections_from file (start + size) (drop (i + 1) all_sections)) ≡ whole
  unfolding sections_from
  sections_more out part whole start i at k next size lt so is size_is next_is room =
      let s = get_or all_sections i (Of Entities) in
      let long_is = section_long file start s fault_free in
      let rest = sections_from file (start + size) (drop (i + 1) all_sections) in
      let end : end_of file start s ≡ start + size = ap (λ n. start + n) (long_is ∙ sym size_is) in
      let left : sections_from file start (drop i all_sections) ≡ part ++ rest =
      rw (drop_more all_sections i (Of Entities) lt, end, is) refl in
      let long : next ≡ at + length part = rw (is, long_is, ← size_is) next_is in
      part_written out part rest at k next long room ∙ ap (with_left out at) (sym left) ∙ so

pub header_done : (file out whole : List ℕ) (start i at : ℕ) → 16 ≤ i → length out ≤ at
    → with_left out at (header_from file start (drop i all_sections)) ≡ whole → out ≡ whole
unfolding header_from
header_done file out whole start i at all enough so =
    let none : header_from file start (drop i all_sections) ≡ [] = rw (drop_all i all_sections all) refl in
    sym (none_left out at enough) ∙ ap (with_left out at) (sym none) ∙ so

pub sections_done : (file out whole : List ℕ) (start i at : ℕ) → 16 ≤ i → length out ≤ at
    → with_left out at (sections_from file start (drop i all_sections)) ≡ whole → out ≡ whole
unfolding sections_from
sections_done file out whole start i at all enough so =
    let none : sections_from file start (drop i all_sections) ≡ [] = rw (drop_all i all_sections all) refl in
    sym (none_left out at enough) ∙ ap (with_left out at) (sym none) ∙ so
