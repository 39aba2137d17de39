-- The search for the first row of a name, and the row of a number.
use Rattle.std.proofs.Common.{◌≡◌, ℕ, suc, ◌+◌, ◌-◌, ◌<◌, ◌≤◌, Bool, true, false, List, [], map, length, get_or}
use Rattle.std.proofs.Common.{Option, Some, None, refl, sym, ap, ◌∙◌, arith}
use Rattle.std.specs.Prelude.{slice_get, option_map}
use Rattle.std.specs.List.{find, range_with_len}
use Rattle.std.proofs.lemmas.Option.{slice_get-get_or, slice_get_past}
use Rattle.std.proofs.lemmas.List.FromFn.{length-map-range_with_len, get_or-map-range_with_len}
use Rattle.wad2_lumps.specs.Wads.{count_in, row_in, rows_in}
use Rattle.wad2_lumps.specs.Lumps.{row_told, lump_row_in}

-- what is found from row i on
abbrev pub ahead : (List ℕ → Bool) → (ℕ → List ℕ) → ℕ → ℕ → Option (List ℕ)
ahead is row n i = find is (map row (range_with_len i (n - i)))

pub find_more : (is : List ℕ → Bool) (row : ℕ → List ℕ) (n i : ℕ) (total : Option (List ℕ)) → i < n → is (row i) ≡ false
    → ahead is row n i ≡ total → ahead is row n (i + 1) ≡ total
find_more is row n i total lt other so_far =
    let k : n - i ≡ suc (n - (i + 1)) = omega arith in
    let one : ahead is row n i ≡ ahead is row n (i + 1) = rw (k, other) refl in
    sym one ∙ so_far

pub find_here : (is : List ℕ → Bool) (row : ℕ → List ℕ) (n i : ℕ) (total : Option (List ℕ)) → i < n → is (row i) ≡ true
    → ahead is row n i ≡ total → total ≡ Some (row i)
find_here is row n i total lt same so_far =
    let k : n - i ≡ suc (n - (i + 1)) = omega arith in
    let one : ahead is row n i ≡ Some (row i) = rw (k, same) refl in
    sym so_far ∙ one

pub find_none : (is : List ℕ → Bool) (row : ℕ → List ℕ) (n i : ℕ) (total : Option (List ℕ)) → n ≤ i
    → ahead is row n i ≡ total → total ≡ None
find_none is row n i total le so_far =
    let k : n - i ≡ 0 = omega arith in
    let one : ahead is row n i ≡ None = rw k refl in
    sym so_far ∙ one

pub ruleset lump_laws = (find_more, find_here, find_none)

-- the row of a number below the count is there, and no other
pub row_there : (bytes : List ℕ) (i : ℕ) → i < count_in bytes → lump_row_in bytes i ≡ Some (row_told (row_in bytes i))
unfolding lump_row_in
row_there bytes i lt =
    let n = count_in bytes in
    let long : length (rows_in bytes) ≡ n = length-map-range_with_len (row_in bytes) 0 n in
    let one : slice_get (rows_in bytes) i ≡ Some (get_or (rows_in bytes) i []) =
    slice_get-get_or (rows_in bytes) i [] (omega (arith, long)) in
    let two : get_or (rows_in bytes) i [] ≡ row_in bytes i =
    get_or-map-range_with_len (row_in bytes) 0 n i i [] lt (omega arith) in
    ap (option_map row_told) (one ∙ ap Some two)

pub row_past : (bytes : List ℕ) (i : ℕ) → count_in bytes ≤ i → lump_row_in bytes i ≡ None
unfolding lump_row_in
row_past bytes i le =
    let long : length (rows_in bytes) ≡ count_in bytes = length-map-range_with_len (row_in bytes) 0 (count_in bytes) in
    ap (option_map row_told) (slice_get_past (rows_in bytes) i (omega (arith, long)))

pub ruleset row_laws = (row_there, row_past)
