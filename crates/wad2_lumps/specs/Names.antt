-- The names of lumps.
use Rattle.std.specs.Prelude.{ℕ, List, take}
use Rattle.std.specs.Str.{str_to_ascii_lowercase}
use Rattle.base_fields.specs.Texts.{until_zero}

-- a name as names are compared: its first 16 bytes, those before the first zero, A to Z in lower case
abbrev pub cleaned : List ℕ → List ℕ
cleaned name = str_to_ascii_lowercase (until_zero (take 16 name))
