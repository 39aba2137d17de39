-- The records of the aliases, as the code reads them.
use Rattle.std.specs.Prelude.{ℕ, List, Bool, bytes_eq}
use Rattle.std.specs.Str.{str_eq_ignore_ascii_case}
use Rattle.cmd_buffer.specs.Aliases.{Alias}
use Rattle.cmd_buffer.specs.declared.aliases.Record.{Record}
use Rattle.cmd_buffer.specs.declared.aliases.Blocks.{Blocks}
use Rattle.cmd_buffer.specs.declared.aliases.Case.{Case}
use Rattle.cmd_buffer.specs.declared.aliases.Case.TheVariants.{Any, Exact}

abbrev pub alias_of : Record → Alias
alias_of r = record { record_place = r.place.0; name = r.name.now; value_place = r.value.0 }

-- the alias of a name whose blocks these are
abbrev pub alias_in : List ℕ → Blocks → Alias
alias_in name b = record { record_place = b.record_place.0; name = name; value_place = b.value_place.0 }

-- whether two names are the same
abbrev pub is_same : Case → (own name : List ℕ) → Bool
is_same Any own name = str_eq_ignore_ascii_case own name
is_same Exact own name = bytes_eq own name
