-- What some bytes are as a pack.
use Rattle.std.proofs.Common.{◌≡◌, ℕ, List, [], ◌∷◌, ◌++◌, replicate, Some, None, Ok, Err, codes, refl}
use Rattle.base_fields.specs.Fields.{u32_in, u32_bytes}
use Rattle.pack_files.specs.declared.faults.PackFault.TheVariants.{NotPack, TooMany, DirOutside}
use Rattle.pack_files.specs.Packs.{Row, first_rows, entry_of, pack_of}

-- a header
abbrev header : ℕ → ℕ → List ℕ
header place size = codes "PACK" ++ (u32_bytes place ++ u32_bytes size)

empty : pack_of (header 12 0) ≡ Ok (record { rows = []; count = 0; whole = 12 })
unfolding pack_of u32_in
empty = refl

too_short : pack_of (codes "PACK") ≡ Err NotPack
unfolding pack_of u32_in
too_short = refl

too_many : pack_of (header 12 131136) ≡ Err (TooMany 2049)
unfolding pack_of u32_in
too_many = refl

as_many_as_may_be : pack_of (header 12 131135) ≡ Err DirOutside
unfolding pack_of u32_in
as_many_as_may_be = refl

one_file : pack_of (header 12 64 ++ (codes "a" ++ (replicate 55 0 ++ (u32_bytes 70 ++ u32_bytes 10)))) ≡ Ok (record { rows = record { name = codes "a"; entry = record { offset = 70; length = 10 } } ∷ []; count = 1; whole = 76 })
unfolding pack_of u32_in
one_file = refl

-- the first row of a name
abbrev row : List ℕ → ℕ → Row
row name place = record { name = name; entry = record { offset = place; length = 0 } }

abbrev rows : List Row
rows = row (codes "a") 1 ∷ row (codes "b") 2 ∷ row (codes "a") 3 ∷ row (codes "b") 4 ∷ []

two_names : first_rows rows ≡ row (codes "a") 1 ∷ row (codes "b") 2 ∷ []
two_names = refl

first_entry : entry_of (codes "b") rows ≡ Some (record { offset = 2; length = 0 })
first_entry = refl

no_entry : entry_of (codes "c") rows ≡ None
no_entry = refl
