-- Looking a name up in one mount.
use Rattle.std.proofs.Common.{◌≡◌, ℕ, Bool, true, false, cond, List, [], ◌∷◌, length, map, Option, Some, None, IfSome, Ok, refl, sym, ap, ◌∙◌}
use Rattle.std.specs.Prelude.{option_map, option_and_then, bytes_eq}
use Rattle.std.specs.Option.{ForSome}
use Rattle.std.proofs.lemmas.Slice.Eq.{bytes_eq-Decides}
use Rattle.outside_io.specs.Files.{File, bytes_of, length_of}
use Rattle.pack_files.specs.declared.entries.Entry.{Entry}
use Rattle.pack_files.specs.declared.faults.PackFault.{PackFault}
use Rattle.pack_files.specs.Packs.{Row, PackTable, entry_of, fault_of, unless, pack_of}
use Rattle.search_paths.specs.declared.answers.FileRef.{FileRef}
use Rattle.search_paths.specs.declared.mounted.Mounted.TheVariants as kept
use Rattle.search_paths.specs.Answers.{ref_of}
use Rattle.search_paths.specs.Kept.{told_at, mount_of, IsDirectory}
use Rattle.search_paths.specs.Mounts.{FileAt, file_in, file_within, whole_file, packed_file, folder_mount, pack_mount, pack_name}

-- a folder's file
abbrev whole : List ℕ → FileAt
whole bytes = file_within bytes 0 (length bytes)

pub file_in-folder : (name : List ℕ) (files : List File) → file_in name (map whole_file files) ≡ option_map whole (bytes_of name files)
file_in-folder name [] = refl
file_in-folder name (file ∷ files) = by (bytes_eq file.name name) (file_in-folder name files)
  where
    by : (b : Bool) → file_in name (map whole_file files) ≡ option_map whole (bytes_of name files) → cond b (Some (whole file.bytes)) (file_in name (map whole_file files)) ≡ option_map whole (cond b (Some file.bytes) (bytes_of name files))
    by true rest = refl
    by false rest = rest

-- where it stands
abbrev whole_ref : ℕ → ℕ → FileRef
whole_ref number size = record { mount = number; offset = 0; length = size; whole = size }

ref-whole : (number : ℕ) (found : Option (List ℕ)) → option_map (ref_of number) (option_map whole found) ≡ option_map (whole_ref number) (option_map length found)
ref-whole number None = refl
ref-whole number (Some bytes) = refl

pub folder_ref : (name : List ℕ) (files : List File) (number : ℕ) (size : Option ℕ) → size ≡ length_of name files → option_map (whole_ref number) size ≡ option_map (ref_of number) (file_in name (map whole_file files))
folder_ref name files number size is = ap (option_map (whole_ref number)) is ∙ sym (ref-whole number (bytes_of name files)) ∙ ap (option_map (ref_of number)) (sym (file_in-folder name files))

-- a file of a pack
abbrev packed : List ℕ → Entry → FileAt
packed bytes entry = file_within bytes entry.offset entry.length

turned : (xs ys : List ℕ) → bytes_eq xs ys ≡ bytes_eq ys xs
turned xs ys = by (bytes_eq xs ys) (bytes_eq ys xs) refl refl
  where
    same : bytes_eq xs ys ≡ true → bytes_eq ys xs ≡ true
    same is = (bytes_eq-Decides ys xs).1 (sym ((bytes_eq-Decides xs ys).0 is))

    back : bytes_eq ys xs ≡ true → bytes_eq xs ys ≡ true
    back is = (bytes_eq-Decides xs ys).1 (sym ((bytes_eq-Decides ys xs).0 is))

    by : (a b : Bool) → bytes_eq xs ys ≡ a → bytes_eq ys xs ≡ b → a ≡ b
    by true true is other = refl
    by true false is other = cc (same is)
    by false true is other = cc (back other)
    by false false is other = refl

pub file_in-pack : (name bytes : List ℕ) (rows : List Row) → file_in name (map (packed_file bytes) rows) ≡ option_map (packed bytes) (entry_of name rows)
file_in-pack name bytes [] = refl
file_in-pack name bytes (row ∷ rows) = rw (turned row.name name) (by (bytes_eq name row.name) (file_in-pack name bytes rows))
  where
    by : (b : Bool) → file_in name (map (packed_file bytes) rows) ≡ option_map (packed bytes) (entry_of name rows)
        → cond b (Some (packed bytes row.entry)) (file_in name (map (packed_file bytes) rows)) ≡ option_map (packed bytes) (cond b (Some row.entry) (entry_of name rows))
    by true rest = refl
    by false rest = rest

abbrev packed_ref : ℕ → ℕ → Entry → FileRef
packed_ref number size entry = record { mount = number; offset = entry.offset; length = entry.length; whole = size }

ref-packed : (number : ℕ) (bytes : List ℕ) (found : Option Entry) → option_map (ref_of number) (option_map (packed bytes) found) ≡ option_map (packed_ref number (length bytes)) found
ref-packed number bytes None = refl
ref-packed number bytes (Some entry) = refl

pub pack_ref : (name bytes : List ℕ) (rows : List Row) (number size : ℕ) (found : Option Entry) → found ≡ entry_of name rows → length bytes ≡ size → option_map (packed_ref number size) found ≡ option_map (ref_of number) (file_in name (map (packed_file bytes) rows))
pack_ref name bytes rows number size found is sized =
    ap (λ n. option_map (packed_ref number n) found) (sym sized) ∙ ap (option_map (packed_ref number (length bytes))) is
    ∙ sym (ref-packed number bytes (entry_of name rows)) ∙ ap (option_map (ref_of number)) (sym (file_in-pack name bytes rows))

-- in a folder's mount
in_folder : (number : ℕ) (name : List ℕ) (folder : ℕ) (told : Option (List File)) (size : Option ℕ) → IfSome told (λ files. size ≡ length_of name files)
    → IfSome (option_map (folder_mount folder) told) (λ mount. option_map (whole_ref number) size ≡ option_map (ref_of number) (file_in name mount.files))
in_folder number name folder None size is = tt
in_folder number name folder (Some files) size is = folder_ref name files number size is

pub found_in_folder : (told : List (Option (List File))) (number folder : ℕ) (name : List ℕ) (size : Option ℕ) → IfSome (told_at folder told) (λ files. size ≡ length_of name files)
    → IfSome (mount_of told (kept.Folder folder)) (λ mount. option_map (whole_ref number) size ≡ option_map (ref_of number) (file_in name mount.files))
found_in_folder told number folder name size is = in_folder number name folder (told_at folder told) size is

-- in a pack's mount
whole_of : (bytes : List ℕ) (table : PackTable) (fault : Option PackFault) (made : PackTable) → made.whole ≡ length bytes → unless fault made ≡ Ok table → length bytes ≡ table.whole
whole_of bytes table None made whole is = cc
whole_of bytes table (Some fault) made whole is = cc

pub size_of_pack : (bytes : List ℕ) (table : PackTable) → pack_of bytes ≡ Ok table → length bytes ≡ table.whole
unfolding pack_of
size_of_pack bytes table is = whole_of bytes table (fault_of bytes (length bytes)) _ refl is

in_pack : (number : ℕ) (name : List ℕ) (folder pack : ℕ) (directory : PackTable) (file : Option (List ℕ)) (found : Option FileRef) → option_map pack_of file ≡ Some (Ok directory)
    → ((bytes : List ℕ) → length bytes ≡ directory.whole → found ≡ option_map (ref_of number) (file_in name (map (packed_file bytes) directory.rows)))
    → IfSome (option_map (λ bytes. pack_mount folder pack bytes directory) file) (λ mount. found ≡ option_map (ref_of number) (file_in name mount.files))
in_pack number name folder pack directory None found is each = tt
in_pack number name folder pack directory (Some bytes) found is each = each bytes (size_of_pack bytes directory (cc (is)))

told_pack : (number : ℕ) (name : List ℕ) (folder pack : ℕ) (directory : PackTable) (told : Option (List File)) (found : Option FileRef) → ForSome told (λ files. option_map pack_of (bytes_of (pack_name pack) files) ≡ Some (Ok directory))
    → ((bytes : List ℕ) → length bytes ≡ directory.whole → found ≡ option_map (ref_of number) (file_in name (map (packed_file bytes) directory.rows)))
    → IfSome (option_map (λ bytes. pack_mount folder pack bytes directory) (option_and_then (bytes_of (pack_name pack)) told)) (λ mount. found ≡ option_map (ref_of number) (file_in name mount.files))
told_pack number name folder pack directory None found read each = tt
told_pack number name folder pack directory (Some files) found read each = in_pack number name folder pack directory (bytes_of (pack_name pack) files) found (read files refl) each

pub found_in_pack : (told : List (Option (List File))) (number folder pack : ℕ) (directory : PackTable) (name : List ℕ) (found : Option FileRef) → IsDirectory told (kept.Pack folder pack directory)
    → ((bytes : List ℕ) → length bytes ≡ directory.whole → found ≡ option_map (ref_of number) (file_in name (map (packed_file bytes) directory.rows)))
    → IfSome (mount_of told (kept.Pack folder pack directory)) (λ mount. found ≡ option_map (ref_of number) (file_in name mount.files))
found_in_pack told number folder pack directory name found read each = told_pack number name folder pack directory (told_at folder told) found (read folder pack directory refl) each
