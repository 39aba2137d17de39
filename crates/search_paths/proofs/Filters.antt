-- Filters of folders, each at its folder's number.
use Prim.Native.Nat.{zero, suc}
use Rattle.std.proofs.Common.{◌≡◌, ℕ, ◌<◌, List, [], ◌∷◌, ◌++◌, length, get_or, All, Option, Some, refl, sym, subst, arith}
use Rattle.std.specs.Prelude.{slice_get, IsSomeAnd}
use Rattle.outside_io.specs.Files.{File}
use Rattle.pack_files.specs.declared.filter.Filter.{Filter}
use Rattle.pack_files.specs.Filters.{HasRows}
use Rattle.search_paths.specs.declared.mounted.Mounted.{Mounted}
use Rattle.search_paths.specs.declared.mounted.Mounted.TheVariants as kept
use Rattle.search_paths.specs.Kept.{folder_of, IsFiltered}
use Rattle.search_paths.specs.Own.{IsOwn, IsIn}

-- what was read of the filters
pub filter_of : (filters : List Filter) (folder : ℕ) (filter : Filter) (P : Filter → Type 0) → filter ≡ get_or filters folder filter → IsSomeAnd (slice_get filters folder) P → P filter
filter_of [] folder filter P is has = absurd has
filter_of (first ∷ filters) zero filter P is has = subst P (sym is) has
filter_of (first ∷ filters) (suc folder) filter P is has = filter_of filters folder filter P is has

got_before : (filters : List Filter) (x : Filter) (j : ℕ) → j < length filters → slice_get (filters ++ x ∷ []) j ≡ slice_get filters j
got_before [] x j low = absurd (omega arith)
got_before (first ∷ filters) x zero low = refl
got_before (first ∷ filters) x (suc j) low = got_before filters x j (omega arith)

got_last : (filters : List Filter) (x : Filter) → slice_get (filters ++ x ∷ []) (length filters) ≡ Some x
got_last [] x = refl
got_last (first ∷ filters) x = got_last filters x

one_before : (filters : List Filter) (x : Filter) (mounted : Mounted) → folder_of mounted < length filters → IsFiltered filters mounted → IsFiltered (filters ++ x ∷ []) mounted
one_before filters x (kept.Folder folder) low is = tt
one_before filters x (kept.Pack folder pack directory) low is =
    (is.0, subst (λ (o : Option Filter). IsSomeAnd o (λ filter. HasRows filter.masks.items pack directory.rows)) (sym (got_before filters x folder low)) is.1)

-- the mounts of the folders before
pub filters_before : (filters : List Filter) (x : Filter) (mounts : List Mounted) → All (λ mounted. folder_of mounted < length filters) mounts → All (IsFiltered filters) mounts → All (IsFiltered (filters ++ x ∷ [])) mounts
filters_before filters x mounts inside is = λ k d low. one_before filters x (get_or mounts k d) (inside k d low) (is k d low)

one_own : (filters : List Filter) (x : Filter) (told : Option (List File)) (mounted : Mounted) → IsOwn (length filters) told mounted → IsIn x mounted → IsFiltered (filters ++ x ∷ []) mounted
one_own filters x told (kept.Folder folder) own is = tt
one_own filters x told (kept.Pack folder pack directory) own is =
    rw own.0 (is.0, subst (λ (o : Option Filter). IsSomeAnd o (λ filter. HasRows filter.masks.items pack directory.rows)) (sym (got_last filters x)) is.1)

-- the mounts of the last folder
pub filters_own : (filters : List Filter) (x : Filter) (told : Option (List File)) (number : ℕ) (mounts : List Mounted) → number ≡ length filters → All (IsOwn number told) mounts → All (IsIn x) mounts → All (IsFiltered (filters ++ x ∷ [])) mounts
filters_own filters x told number mounts last own is = λ k d low. one_own filters x told (get_or mounts k d) (subst (λ n. IsOwn n told (get_or mounts k d)) last (own k d low)) (is k d low)
