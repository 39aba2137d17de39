-- What finding and reading the file of a load tell, where the folders of the path tell their files.
use Rattle.std.proofs.Common.{◌≡◌, ℕ, ◌+◌, ◌<◌, ◌≤◌, List, ◌++◌, length, Option, Some, None, IfSome, IfOk, Ok, Err, refl, sym, ap, subst, ◌∙◌, arith}
use Rattle.std.specs.Prelude.{slice_range, option_map, IsSomeAnd}
use Rattle.std.specs.Option.{ok_or}
use Rattle.std.proofs.lemmas.Grind.{common_steps}
use Rattle.outside_io.specs.Files.{File}
use Rattle.search_paths.specs.declared.answers.FileRef.{FileRef}
use Rattle.search_paths.specs.Answers.{ref_of, placed, IsFirstOf, IsFilePart}
use Rattle.search_paths.specs.Mounts.{FileAt, Mount, file_in, find_told}
use Rattle.search_paths.specs.Path.{PathState, told_mounts, mount_at}
use Rattle.search_paths.proofs.FindLaws.{IsCut, mount_at-found, find_told-found, found-cut, bytes-inside, bytes-outside}
use Rattle.file_load.specs.Loads.{Beyond, sought}
use Rattle.file_load.specs.Files.{Finds}

-- the first file of a name stands here
record IsAt (name : List ℕ) (file : FileRef) (mount : Option Mount) (given : Option (ℕ × FileAt)) : Type 0 where
  at : FileAt
  found : given ≡ Some (file.mount, at)
  is : ref_of file.mount at ≡ file
  has : IsSomeAnd mount (λ m. file_in name m.files ≡ Some at)
  cut : IsCut at

module _ {F : Type 0} (files : F → Option (List File)) (path : PathState F) (name : List ℕ) where
  stands : (file : FileRef) (found : Option (ℕ × FileAt)) → find_told name (told_mounts files path) ≡ Some found → option_map placed found ≡ Some file → IsAt name file (mount_at files file.mount path) found
  stands file None told first = absurd (cc)
  stands file (Some found) told first =
      let known = find_told-found name (told_mounts files path) found told in
      let told_there : mount_at files found.0 path ≡ Some known.mount = mount_at-found files path name found.0 found.1 known in
      let here : IsAt name (placed found) (mount_at files found.0 path) (Some found) = record {
        at = found.1;
        found = refl;
        is = refl;
        has = subst (λ m. IsSomeAnd m (λ (m : Mount). file_in name m.files ≡ Some found.1)) (sym told_there) known.has;
        cut = found-cut files path name found.0 found.1 known;
      } in
      let same : placed found ≡ file = cc in
      subst (λ (f : FileRef). IsAt name f (mount_at files f.mount path) (Some found)) same here

  -- a fact of the first file
  by_first : (file : FileRef) (P : Option (ℕ × FileAt) → Type 0) → IsFirstOf name (told_mounts files path) (Some file)
      → ((found : Option (ℕ × FileAt)) → IsAt name file (mount_at files file.mount path) found → P found) → IfSome (find_told name (told_mounts files path)) P
  by_first file P first each = by (find_told name (told_mounts files path)) refl first
    where
      by : (given : Option (Option (ℕ × FileAt))) → find_told name (told_mounts files path) ≡ given → IfSome given (λ found. Some file ≡ option_map placed found) → IfSome given P
      by None is known = tt
      by (Some found) is known = each found (stands file found is (sym known))

  module _ (file : FileRef) where
    -- it ends past what it lies in
    pub past : (end : ℕ) → end ≡ file.offset + file.length → file.whole < end → IsFirstOf name (told_mounts files path) (Some file)
        → IfSome (find_told name (told_mounts files path)) (λ found. sought found ≡ Err (Beyond end file.whole))
    past end is beyond first = by_first file (λ found. sought found ≡ Err (Beyond end file.whole)) first here
      where
        here : (found : Option (ℕ × FileAt)) → IsAt name file (mount_at files file.mount path) found → sought found ≡ Err (Beyond end file.whole)
        here found stands =
            let at = stands.at in
            let outside : at.whole < at.offset + at.size = omega (arith, is, beyond, ap (λ (r : FileRef). r.whole) stands.is, ap (λ (r : FileRef). r.offset) stands.is, ap (λ (r : FileRef). r.length) stands.is) in
            let ends : at.offset + at.size ≡ end = omega (arith, is, ap (λ (r : FileRef). r.offset) stands.is, ap (λ (r : FileRef). r.length) stands.is) in
            ap sought stands.found ∙ ap (λ bytes. ok_or bytes (Beyond (at.offset + at.size) at.whole)) (bytes-outside at stands.cut outside)
            ∙ ap (λ n. Err (Beyond n at.whole)) ends ∙ ap (λ (r : FileRef). Err (Beyond end r.whole)) stands.is

    -- its bytes, where it ends inside
    its_bytes : file.offset + file.length ≤ file.whole → (found : Option (ℕ × FileAt)) → (s : IsAt name file (mount_at files file.mount path) found) → (bytes : List ℕ) × (s.at.bytes ≡ Some bytes) × (file.length ≡ length bytes)
    its_bytes inside found stands = by stands.at.bytes refl (bytes-inside stands.at stands.cut (omega (arith, inside, ap (λ (r : FileRef). r.whole) stands.is, ap (λ (r : FileRef). r.offset) stands.is, ap (λ (r : FileRef). r.length) stands.is)))
      where
        by : (given : Option (List ℕ)) → stands.at.bytes ≡ given → IsSomeAnd given (λ bytes. length bytes ≡ stands.at.size) → (bytes : List ℕ) × (stands.at.bytes ≡ Some bytes) × (file.length ≡ length bytes)
        by None is sized = absurd sized
        by (Some bytes) is sized = (bytes, is, sym (ap (λ (r : FileRef). r.length) stands.is) ∙ sym sized)

    sought_is : (found : Option (ℕ × FileAt)) (s : IsAt name file (mount_at files file.mount path) found) (bytes : List ℕ) → s.at.bytes ≡ Some bytes → sought found ≡ Ok bytes
    sought_is found stands bytes is = ap sought stands.found ∙ ap (λ given. ok_or given (Beyond (stands.at.offset + stands.at.size) stands.at.whole)) is

    -- it ends inside
    pub within : file.offset + file.length ≤ file.whole → IsFirstOf name (told_mounts files path) (Some file) → IfSome (find_told name (told_mounts files path)) (λ found. Finds (sought found) (Ok file))
    within inside first = by_first file (λ found. Finds (sought found) (Ok file)) first
        (λ found. λ stands. let has = its_bytes inside found stands in (has.0, sought_is found stands has.0 has.1, has.2))

    -- the part that was read of a mount's file
    part_of : (at : FileAt) (part : List ℕ) (mount : Option Mount) → IsSomeAnd mount (λ m. file_in name m.files ≡ Some at) → IsFilePart name 0 part mount → IfSome at.bytes (λ bytes. part ≡ slice_range bytes 0 (0 + length part))
    part_of at part None has is = absurd has
    part_of at part (Some mount) has is = rw has at is

    all_of : (bytes part : List ℕ) → length part ≡ length bytes → part ≡ slice_range bytes 0 (0 + length part) → part ≡ bytes
    all_of bytes part same is = is ∙ grind (arith, common_steps)

    -- what was read of the first file of the name, up to its end
    pub read_of : (part rest : List ℕ) → file.offset + file.length ≤ file.whole → length part ≡ file.length → IsFilePart name 0 part (mount_at files file.mount path)
        → IfSome (find_told name (told_mounts files path)) (λ found. option_map placed found ≡ Some file → IfOk (sought found) (λ bytes. part ++ rest ≡ bytes ++ rest))
    read_of part rest inside sized is = by (find_told name (told_mounts files path)) refl
      where
        here : (found : Option (ℕ × FileAt)) → IsAt name file (mount_at files file.mount path) found → IfOk (sought found) (λ bytes. part ++ rest ≡ bytes ++ rest)
        here found stands =
            let has = its_bytes inside found stands in
            let piece : part ≡ slice_range has.0 0 (0 + length part) = rw has.1 at (part_of stands.at part (mount_at files file.mount path) stands.has is) in
            rw (sought_is found stands has.0 has.1) (ap (λ bytes. bytes ++ rest) (all_of has.0 part (sized ∙ has.2) piece))

        by : (given : Option (Option (ℕ × FileAt))) → find_told name (told_mounts files path) ≡ given → IfSome given (λ found. option_map placed found ≡ Some file → IfOk (sought found) (λ bytes. part ++ rest ≡ bytes ++ rest))
        by None none = tt
        by (Some found) some = λ first. here found (stands file found some first)
