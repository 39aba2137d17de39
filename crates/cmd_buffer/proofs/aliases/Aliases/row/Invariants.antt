use Rattle.std.proofs.Common.{◌≡◌, ◌-◌}
use Rattle.std.specs.Prelude.{slice_get}
use Rattle.cmd_buffer.specs.Aliases.{HoldsAliases, alias_texts}
use Rattle.cmd_buffer.proofs.aliases.Aliases.row.Given as goal

abbrev pub invariant-loop-before : goal.invariant-loop-before
invariant-loop-before g l =
    let m = g.M.Store.state l.store in
    record {
      holds : HoldsAliases m l.place;
      same : slice_get (alias_texts m l.place) (l.number - l._before) ≡ slice_get (alias_texts m l.fn.self) l.number;
    }
