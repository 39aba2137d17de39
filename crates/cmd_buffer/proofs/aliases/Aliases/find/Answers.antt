use Rattle.std.proofs.Common.{◌≡◌, ◌∙◌, Option, find, sym, ap}
use Rattle.std.specs.Option.{option_and_then}
use Rattle.std.specs.Str.{str_eq_ignore_ascii_case}
use Rattle.zone_values.specs.Values.{value_at}
use Rattle.cmd_buffer.specs.Aliases.{Alias, aliases_of, alias_value, HoldsAliases}
use Rattle.cmd_buffer.proofs.AliasSetLaws.{value-texts}
use Rattle.cmd_buffer.proofs.aliases.Aliases.find.Goals as goal
use Rattle.mem_model.specs.Memory.{Memory}
use Rattle.std.proofs.Common.{List, ℕ}

-- the value of the alias that was found
found : (m : Memory) (asked newest : Option ℕ) (name : List ℕ) (o : Option Alias) → HoldsAliases m newest → asked ≡ newest → o ≡ find (λ (a : Alias). str_eq_ignore_ascii_case a.name name) (aliases_of m asked) →
    alias_value m newest name ≡ option_and_then (λ (a : Alias). value_at m a.value_place) o
found m asked newest name o h same is =
    sym (value-texts m newest name h)
    ∙ ap (λ (p : Option ℕ). option_and_then (λ (a : Alias). value_at m a.value_place) (find (λ (a : Alias). str_eq_ignore_ascii_case a.name name) (aliases_of m p))) (sym same)
    ∙ ap (option_and_then (λ (a : Alias). value_at m a.value_place)) (sym is)

pub returns-in-Some-clause-value : goal.returns-in-Some-clause-value
returns-in-Some-clause-value g c =
    found (g.M.Store.state c.args.store.now) _ c.args.self.now c.args.name.now _ c.requires.holds c.self.view_is c.in-Some.ensures.found ∙ c.value_at.ensures.value

pub returns-in-None-clause-value : goal.returns-in-None-clause-value
returns-in-None-clause-value g c =
    found (g.M.Store.state c.args.store.now) _ c.args.self.now c.args.name.now _ c.requires.holds c.self.view_is c.in-None.ensures.found
