-- Numbers in bytes, the lowest byte first.
use Rattle.std.specs.Prelude.{ℕ, ◌+◌, ◌*◌, ℤ, List, [], ◌∷◌, ◌++◌, length, take, drop}
use Rattle.std.specs.Int.{w16, w32, to_le_bytes, cast_signed}

-- the number that bytes write
abbrev pub little_endian : List ℕ → ℕ
little_endian [] = 0
little_endian (byte ∷ bytes) = byte + 256 * little_endian bytes

-- the n bytes from `at` on, as far as there are any
abbrev pub field : ℕ → List ℕ → ℕ → List ℕ
field n bytes at = take n (drop at bytes)

-- the number in the two bytes from `at` on, and in the four
unfoldable pub u16_in : List ℕ → ℕ → ℕ
u16_in bytes at = little_endian (field 2 bytes at)

unfoldable pub u32_in : List ℕ → ℕ → ℕ
u32_in bytes at = little_endian (field 4 bytes at)

-- the same bytes as two's complement
abbrev pub i16_in : List ℕ → ℕ → ℤ
i16_in bytes at = cast_signed w16 (u16_in bytes at)

abbrev pub i32_in : List ℕ → ℕ → ℤ
i32_in bytes at = cast_signed w32 (u32_in bytes at)

-- the four bytes of a number
abbrev pub u32_bytes : ℕ → List ℕ
u32_bytes value = to_le_bytes w32 value

-- the bytes with others in the place of as many from `at` on
abbrev pub with_field : List ℕ → ℕ → List ℕ → List ℕ
with_field bytes at piece = take at bytes ++ (piece ++ drop (at + length piece) bytes)
