use Rattle.std.proofs.Common.{◌≡◌, find, length}
use Rattle.cmd_buffer.specs.Aliases.{Alias, HoldsAliases, aliases_of}
use Rattle.cmd_buffer.specs.AliasRecords.{is_same}
use Rattle.cmd_buffer.proofs.aliases.find_record.Given as goal

abbrev pub invariant-records : goal.invariant-records
invariant-records g l =
    let m = g.M.Store.state l.store in
    record {
      holds : HoldsAliases m l.place;
      same : find (λ (a : Alias). is_same l.case a.name l.name) (aliases_of m l.place) ≡ find (λ (a : Alias). is_same l.case a.name l.name) (aliases_of m l.fn.newest);
    }

abbrev pub decreases-records : goal.decreases-records
decreases-records g l = length (aliases_of (g.M.Store.state l.store) l.place)
