-- Filters as more names are added, and what they tell.
use Prim.Native.Nat.{suc}
use Rattle.std.proofs.Common.{◌≡◌, ◌≢◌, ◌==◌, Bool, true, false, cond, ℕ, ◌*◌, ◌%◌, ◌^◌, ◌<◌, ◌⊎◌, inl, inr, List, [], ◌∷◌, length, Some, None, bit_or, w32, refl, sym, ap, ◌∙◌}
use Rattle.std.specs.Prelude.{slice_get, slice_index, slice_set, bytes_eq}
use Rattle.std.specs.Int.{bit_at}
use Rattle.std.proofs.lemmas.Bool.{cases_eq}
use Rattle.std.proofs.lemmas.List.{get_or-set_same, get_or-set_other}
use Rattle.std.proofs.lemmas.Nat.Bits.{bit_at_set_same, bit_at_set_other}
use Rattle.std.proofs.lemmas.Slice.Eq.{bytes_eq-Decides}
use Rattle.pack_files.specs.Filters.{may_have, HasRows}
use Rattle.pack_files.specs.Hashes.{hash_of}
use Rattle.pack_files.specs.Packs.{Row, entry_of}

module _ (masks : List ℕ) (pack hash : ℕ) where
  -- the masks with one more bit
  abbrev pub with_name : List ℕ
  with_name = slice_set masks (hash % 65536) (bit_or (slice_index masks (hash % 65536)) (1 * 2 ^ pack % 4294967296))

  module _ (inside : hash % 65536 < length masks) (few : pack < 32) where
    here : slice_index with_name (hash % 65536) ≡ bit_or (slice_index masks (hash % 65536)) (1 * 2 ^ pack % 4294967296)
    here = get_or-set_same masks (hash % 65536) (bit_or (slice_index masks (hash % 65536)) (1 * 2 ^ pack % 4294967296)) 0 inside

    pub is_added : may_have with_name pack hash ≡ 1
    is_added = ap (λ (n : ℕ). bit_at n pack) here ∙ bit_at_set_same w32 (slice_index masks (hash % 65536)) pack few

    pub stays_added : (other name : ℕ) → may_have masks other name ≡ 1 → may_have with_name other name ≡ 1
    stays_added other name was = by (cases_eq (name % 65536) (hash % 65536)) (cases_eq other pack)
      where
        by : (name % 65536 ≡ hash % 65536) ⊎ (name % 65536 ≢ hash % 65536) → (other ≡ pack) ⊎ (other ≢ pack) → may_have with_name other name ≡ 1
        by (inl same) (inl equal) = ap (λ (n : ℕ). bit_at (slice_index with_name n) other) same ∙ ap (λ (b : ℕ). bit_at (slice_index with_name (hash % 65536)) b) equal ∙ is_added
        by (inl same) (inr differs) =
            ap (λ (n : ℕ). bit_at (slice_index with_name n) other) same
            ∙ ap (λ (n : ℕ). bit_at n other) here
            ∙ bit_at_set_other w32 (slice_index masks (hash % 65536)) pack few other differs
            ∙ ap (λ (n : ℕ). bit_at (slice_index masks n) other) (sym same) ∙ was
        by (inr apart) either = ap (λ (n : ℕ). bit_at n other) (get_or-set_other masks (hash % 65536) (name % 65536) _ 0 apart) ∙ was

-- no row has the name
none_of : (name : List ℕ) (rows : List Row) → ((j : ℕ) (row : Row) → slice_get rows j ≡ Some row → row.name ≢ name) → entry_of name rows ≡ None
none_of name [] other = refl
none_of name (r ∷ rows) other = by (bytes_eq name r.name) refl (none_of name rows (λ j row is. other (suc j) row is))
  where
    by : (same : Bool) → bytes_eq name r.name ≡ same → entry_of name rows ≡ None → cond same (Some r.entry) (entry_of name rows) ≡ None
    by true same rest = absurd (other 0 r refl (sym ((bytes_eq-Decides name r.name).0 same)))
    by false differs rest = rest

-- a name that a pack can't have is in none of its rows
pub unfiltered : (masks : List ℕ) (pack hash : ℕ) (name : List ℕ) (rows : List Row) → HasRows masks pack rows → hash ≡ hash_of name → false ≡ (may_have masks pack hash == 1) → None ≡ entry_of name rows
unfiltered masks pack hash name rows has hash_is none = sym (none_of name rows (λ j row is e.
    let one : may_have masks pack hash ≡ 1 = ap (may_have masks pack) (hash_is ∙ ap hash_of (sym e)) ∙ has j row is in
    let other : false ≡ (1 == 1) = rw one at none in
    cc))
