-- Texts in fields of a fixed length: they end at their first zero byte.
use Rattle.std.specs.Prelude.{ℕ, List, ◌==◌}
use Rattle.std.specs.List.{before_first}

-- the bytes before the first zero, or all of them
abbrev pub until_zero : List ℕ → List ℕ
until_zero bytes = before_first (λ byte. byte == 0) bytes
