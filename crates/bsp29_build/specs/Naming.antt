-- What the rows of a sound file name is there.
use Rattle.std.specs.Prelude.{ℕ, ◌≡◌, ◌+◌, ◌*◌, ◌≤◌, List, length, slice_get, Some}
use Rattle.base_fields.specs.Fields.{u16_in}

-- the texinfo of each face lies in the lump
abbrev pub NameTexinfos : (texinfos : List ℕ) → (faces : List (List ℕ)) → Type 0
NameTexinfos texinfos faces =
    (n : ℕ) (face : List ℕ) → slice_get faces n ≡ Some face → 40 * u16_in face 10 + 40 ≤ length texinfos
