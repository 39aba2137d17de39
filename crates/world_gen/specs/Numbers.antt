-- Numbers in bytes, the lowest first.
use Rattle.std.specs.Prelude.{ℕ, List}
use Rattle.std.specs.Int.{w16, to_le_bytes}
use Rattle.std.specs.List.{flat_map}
use Rattle.base_fields.specs.Fields.{u32_bytes}

-- a number in two bytes
unfoldable pub half : ℕ → List ℕ
half value = to_le_bytes w16 value

-- a number in four bytes
unfoldable pub word : ℕ → List ℕ
word value = u32_bytes value

-- numbers in four bytes each
abbrev pub words : List ℕ → List ℕ
words values = flat_map word values
