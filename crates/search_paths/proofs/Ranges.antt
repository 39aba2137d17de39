-- The bytes of a file of a mount are bytes of what it lies in.
use Rattle.std.proofs.Common.{◌≡◌, ℕ, ◌+◌, ◌-◌, ◌≤◌, Bool, true, false, nat_le, cond, List, length, map, take, drop, Option, Some, None, IfSome, Ok, refl, sym, ap, subst, ◌∙◌, arith}
use Rattle.std.specs.Prelude.{option_map, option_and_then, slice_range, IsSomeAnd}
use Rattle.std.specs.Option.{ForSome}
use Rattle.std.proofs.lemmas.List.{take-take, drop-take, drop-drop}
use Rattle.outside_io.specs.Files.{File, bytes_of, HasRange, IsPartOf}
use Rattle.pack_files.specs.declared.entries.Entry.{Entry}
use Rattle.pack_files.specs.Packs.{PackTable, entry_of, pack_of}
use Rattle.search_paths.specs.declared.answers.FileRef.{FileRef}
use Rattle.search_paths.specs.declared.mounted.Mounted.TheVariants as kept
use Rattle.search_paths.specs.Answers.{ref_of, HasFile, IsFilePart}
use Rattle.search_paths.specs.Kept.{told_at, mount_of, IsDirectory}
use Rattle.search_paths.specs.Mounts.{FileAt, Mount, cut, file_in, file_within, whole_file, packed_file, folder_mount, pack_mount, pack_name}
use Rattle.search_paths.proofs.Looking.{file_in-folder, file_in-pack}

-- a part of a part
part_of_part : (whole : List ℕ) (offset size at n : ℕ) → at + n ≤ size → slice_range (slice_range whole offset (offset + size)) at (at + n) ≡ slice_range whole (offset + at) (offset + at + n)
part_of_part whole offset size at n inside =
    let back : offset + size - offset ≡ at + (size - at) = omega arith in
    let count : at + n - at ≡ n = omega arith in
    let all : offset + at + n - (offset + at) ≡ n = omega arith in
    ap (λ m. take (at + n - at) (drop at (take m (drop offset whole)))) back
    ∙ ap (take (at + n - at)) (drop-take at (size - at) (drop offset whole))
    ∙ ap (λ m. take m (take (size - at) (drop at (drop offset whole)))) count
    ∙ take-take n (size - at) (drop at (drop offset whole)) (omega arith)
    ∙ ap (take n) (drop-drop at offset whole)
    ∙ ap (λ m. take m (drop (offset + at) whole)) (sym all)

-- what was read of the whole
part_within : (whole into : List ℕ) (offset size at : ℕ) → at + length into ≤ size → into ≡ slice_range whole (offset + at) (offset + at + length into) → IfSome (cut whole offset size) (λ bytes. into ≡ slice_range bytes at (at + length into))
part_within whole into offset size at inside is = by (nat_le (offset + size) (length whole))
  where
    by : (b : Bool) → IfSome (cond b (Some (slice_range whole offset (offset + size))) None) (λ bytes. into ≡ slice_range bytes at (at + length into))
    by true = is ∙ sym (part_of_part whole offset size at (length into) inside)
    by false = tt

-- a file that lies inside this whole, by its record
record LiesIn (whole : List ℕ) (file : FileRef) (found : FileAt) : Type 0 where
  is : found ≡ file_within whole file.offset file.length
  sized : file.whole ≡ length whole

lies_in : (whole : List ℕ) (offset size mount : ℕ) (file : FileRef) → ref_of mount (file_within whole offset size) ≡ file → LiesIn whole file (file_within whole offset size)
lies_in whole offset size mount file is = subst (λ f. LiesIn whole f (file_within whole offset size)) is (record { is = refl; sized = refl })

part_of_file : (whole into : List ℕ) (file : FileRef) (found : FileAt) (at : ℕ) → LiesIn whole file found → at + length into ≤ file.length → into ≡ slice_range whole (file.offset + at) (file.offset + at + length into)
    → IfSome found.bytes (λ bytes. into ≡ slice_range bytes at (at + length into))
part_of_file whole into file found at lies range is =
    subst (λ (f : FileAt). IfSome f.bytes (λ bytes. into ≡ slice_range bytes at (at + length into))) (sym lies.is) (part_within whole into file.offset file.length at range is)

-- the file of this name lies in this whole, where there is one
abbrev FileLies : List ℕ → FileRef → Option FileAt → Type 0
FileLies whole file found = IsSomeAnd found (LiesIn whole file)

part_of_found : (whole into : List ℕ) (file : FileRef) (found : Option FileAt) (at : ℕ) → FileLies whole file found → at + length into ≤ file.length → into ≡ slice_range whole (file.offset + at) (file.offset + at + length into)
    → IfSome found (λ f. IfSome f.bytes (λ bytes. into ≡ slice_range bytes at (at + length into)))
part_of_found whole into file None at lies range is = tt
part_of_found whole into file (Some f) at lies range is = part_of_file whole into file f at lies range is

-- a file of a pack
abbrev packed : List ℕ → Entry → FileAt
packed bytes entry = file_within bytes entry.offset entry.length

-- the whole of a folder's file
abbrev whole : List ℕ → FileAt
whole bytes = file_within bytes 0 (length bytes)

-- In a folder: the first file of the name is the whole.
module _ (name : List ℕ) (file : FileRef) (at : ℕ) (within : file.offset + file.length ≤ file.whole) where
  whole_lies : (found : Option (List ℕ)) → option_map (ref_of file.mount) (option_map whole found) ≡ Some file → IsSomeAnd found (λ bytes. LiesIn bytes file (whole bytes))
  whole_lies None is = cc
  whole_lies (Some bytes) is = lies_in bytes 0 (length bytes) file.mount file (cc (is))

  abbrev HasWhole : List File → Type 0
  HasWhole files = option_map (ref_of file.mount) (file_in name (map whole_file files)) ≡ Some file

  bytes_lie : (files : List File) → HasWhole files → IsSomeAnd (bytes_of name files) (λ bytes. LiesIn bytes file (whole bytes))
  bytes_lie files there = whole_lies (bytes_of name files) (ap (option_map (ref_of file.mount)) (sym (file_in-folder name files)) ∙ there)

  range_in : (n : ℕ) → at + n ≤ file.length → (found : Option (List ℕ)) → IsSomeAnd found (λ bytes. LiesIn bytes file (whole bytes)) → IsSomeAnd found (λ bytes. file.offset + at + n ≤ length bytes)
  range_in n range None lies = lies
  range_in n range (Some bytes) lies = omega (arith, lies.sized)

  range_told : (n : ℕ) → at + n ≤ file.length → (folder : ℕ) (told : Option (List File)) → HasFile name file (option_map (folder_mount folder) told) → ForSome told (HasRange name (file.offset + at) n)
  range_told n range folder None there files is = cc
  range_told n range folder (Some known) there files is = subst (HasRange name (file.offset + at) n) (cc (is)) (range_in n range (bytes_of name known) (bytes_lie known there))

  pub folder_range : (n : ℕ) → at + n ≤ file.length → (told : List (Option (List File))) (folder : ℕ) → HasFile name file (mount_of told (kept.Folder folder)) → ForSome (told_at folder told) (HasRange name (file.offset + at) n)
  folder_range n range told folder there = range_told n range folder (told_at folder told) there

  part_in : (into : List ℕ) → at + length into ≤ file.length → (found : Option (List ℕ)) → IsSomeAnd found (λ bytes. LiesIn bytes file (whole bytes))
      → IfSome found (λ bytes. into ≡ slice_range bytes (file.offset + at) (file.offset + at + length into)) → IfSome (option_map whole found) (λ f. IfSome f.bytes (λ bytes. into ≡ slice_range bytes at (at + length into)))
  part_in into range None lies is = tt
  part_in into range (Some bytes) lies is = part_of_file bytes into file (whole bytes) at lies range is

  part_told : (into : List ℕ) → at + length into ≤ file.length → (folder : ℕ) (told : Option (List File)) → HasFile name file (option_map (folder_mount folder) told) → IfSome told (IsPartOf name (file.offset + at) into) → IsFilePart name at into (option_map (folder_mount folder) told)
  part_told into range folder None there is = tt
  part_told into range folder (Some files) there is =
      subst (λ found. IfSome found (λ f. IfSome f.bytes (λ bytes. into ≡ slice_range bytes at (at + length into)))) (sym (file_in-folder name files)) (part_in into range (bytes_of name files) (bytes_lie files there) is)

  pub folder_part : (into : List ℕ) → at + length into ≤ file.length → (told : List (Option (List File))) (folder : ℕ) → HasFile name file (mount_of told (kept.Folder folder)) → IfSome (told_at folder told) (IsPartOf name (file.offset + at) into) → IsFilePart name at into (mount_of told (kept.Folder folder))
  folder_part into range told folder there is = part_told into range folder (told_at folder told) there is

-- In a pack: the entry's bytes are cut from those of the pack.
module _ (name : List ℕ) (file : FileRef) (at : ℕ) (within : file.offset + file.length ≤ file.whole) (folder pack : ℕ) (directory : PackTable) where
  entry_lies : (bytes : List ℕ) (found : Option Entry) → option_map (ref_of file.mount) (option_map (packed bytes) found) ≡ Some file → FileLies bytes file (option_map (packed bytes) found)
  entry_lies bytes None is = cc
  entry_lies bytes (Some entry) is = lies_in bytes entry.offset entry.length file.mount file (cc (is))

  abbrev found_in : List ℕ → Option FileAt
  found_in bytes = file_in name (map (packed_file bytes) directory.rows)

  packed_lies : (bytes : List ℕ) → option_map (ref_of file.mount) (found_in bytes) ≡ Some file → FileLies bytes file (found_in bytes)
  packed_lies bytes there =
      let found = file_in-pack name bytes directory.rows in
      subst (FileLies bytes file) (sym found) (entry_lies bytes (entry_of name directory.rows) (ap (option_map (ref_of file.mount)) (sym found) ∙ there))

  size_lies : (bytes : List ℕ) (found : Option FileAt) → FileLies bytes file found → file.whole ≡ length bytes
  size_lies bytes None lies = absurd lies
  size_lies bytes (Some f) lies = lies.sized

  -- the mount of the pack in this file
  abbrev mount_in : Option (List ℕ) → Option Mount
  mount_in packed = option_map (λ bytes. pack_mount folder pack bytes directory) packed

  range_of_pack : (n : ℕ) → at + n ≤ file.length → (packed : Option (List ℕ)) → option_map pack_of packed ≡ Some (Ok directory) → HasFile name file (mount_in packed) → IsSomeAnd packed (λ bytes. file.offset + at + n ≤ length bytes)
  range_of_pack n range None read there = cc
  range_of_pack n range (Some bytes) read there = omega (arith, size_lies bytes (found_in bytes) (packed_lies bytes there))

  range_of_told : (n : ℕ) → at + n ≤ file.length → (told : Option (List File)) → ForSome told (λ files. option_map pack_of (bytes_of (pack_name pack) files) ≡ Some (Ok directory)) → HasFile name file (mount_in (option_and_then (bytes_of (pack_name pack)) told))
      → ForSome told (HasRange (pack_name pack) (file.offset + at) n)
  range_of_told n range None read there files is = cc
  range_of_told n range (Some known) read there files is =
      let same : known ≡ files = cc (is) in
      subst (HasRange (pack_name pack) (file.offset + at) n) same (range_of_pack n range (bytes_of (pack_name pack) known) (read known refl) there)

  pub pack_range : (n : ℕ) → at + n ≤ file.length → (told : List (Option (List File))) → IsDirectory told (kept.Pack folder pack directory) → HasFile name file (mount_of told (kept.Pack folder pack directory)) → ForSome (told_at folder told) (HasRange (pack_name pack) (file.offset + at) n)
  pack_range n range told read there = range_of_told n range (told_at folder told) (read folder pack directory refl) there

  part_of_pack : (into : List ℕ) → at + length into ≤ file.length → (packed : Option (List ℕ)) → HasFile name file (mount_in packed) → IfSome packed (λ bytes. into ≡ slice_range bytes (file.offset + at) (file.offset + at + length into)) → IsFilePart name at into (mount_in packed)
  part_of_pack into range None there is = tt
  part_of_pack into range (Some bytes) there is = part_of_found bytes into file (found_in bytes) at (packed_lies bytes there) range is

  part_of_told : (into : List ℕ) → at + length into ≤ file.length → (told : Option (List File)) → HasFile name file (mount_in (option_and_then (bytes_of (pack_name pack)) told)) → IfSome told (IsPartOf (pack_name pack) (file.offset + at) into)
      → IsFilePart name at into (mount_in (option_and_then (bytes_of (pack_name pack)) told))
  part_of_told into range None there is = tt
  part_of_told into range (Some files) there is = part_of_pack into range (bytes_of (pack_name pack) files) there is

  pub pack_part : (into : List ℕ) → at + length into ≤ file.length → (told : List (Option (List File))) → HasFile name file (mount_of told (kept.Pack folder pack directory)) → IfSome (told_at folder told) (IsPartOf (pack_name pack) (file.offset + at) into)
      → IsFilePart name at into (mount_of told (kept.Pack folder pack directory))
  pack_part into range told there is = part_of_told into range (told_at folder told) there is
