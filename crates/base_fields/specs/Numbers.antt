-- The numbers of commands and options.
use Rattle.std.specs.Prelude.{ℕ, Bool, ◌&&◌, nat_le, if◌then◌else◌, List, length, Option, Some, None}
use Rattle.std.specs.List.{list_all}
use Rattle.std.specs.Char.{is_ascii_digit}
use Rattle.std.specs.Str.Parse.{digits_value}

-- 1 to 9 decimal digits
unfoldable pub is_number_word : List ℕ → Bool
is_number_word word = (nat_le 1 (length word) && nat_le (length word) 9) && list_all is_ascii_digit word

-- the number that they write
abbrev pub number_of : List ℕ → Option ℕ
number_of word = if is_number_word word then Some (digits_value 10 word) else None
