-- The names of lumps, as they are shown.
use Rattle.std.specs.Prelude.{ℕ, ◌&&◌, nat_le, if◌then◌else◌, List, map}
use Rattle.base_fields.specs.Texts.{until_zero}

-- the byte, or `?` for one outside 32 to 126
abbrev pub shown_byte : ℕ → ℕ
shown_byte byte = if nat_le 32 byte && nat_le byte 126 then byte else 63

-- the bytes before the first zero
unfoldable pub shown : List ℕ → List ℕ
shown name = map shown_byte (until_zero name)
