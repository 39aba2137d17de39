-- A number that need not be there.
use Rattle.std.specs.Prelude.{ℕ, List, Option, Some, None, decimal, codes}

-- the number, or that there is none
abbrev pub number_or_none : Option ℕ → List ℕ
number_or_none (Some number) = decimal number
number_or_none None = codes "none"
