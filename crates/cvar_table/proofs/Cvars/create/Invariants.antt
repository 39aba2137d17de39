use Rattle.std.proofs.Common.{◌≡◌, ◌<◌, Ok, length, take}
use Rattle.mem_model.specs.Laid.{Laid}
use Rattle.mem_model.specs.Answer.{Answers}
use Rattle.mem_model.specs.Keeps.{beside_zone}
use Rattle.cvar_table.specs.Cvars.{defaults, created}
use Rattle.cvar_table.specs.Told.{listed}
use Rattle.cvar_table.proofs.Cvars.create.Given as goal

abbrev pub invariant-loop-at : goal.invariant-loop-at
invariant-loop-at g l =
    let start = g.M.Store.state l.fn.store in
    record {
      eight : length l.places ≡ 8;
      so_far : Answers (created start (take l.at defaults)) (Ok (listed defaults (take l.at l.places))) (g.M.Store.state l.store);
      beside : beside_zone (g.M.Store.state l.store) ≡ beside_zone start;
      same : l.at ≡ 0 → g.M.Store.state l.store ≡ start;
      laid : 0 < l.at → Laid start;
    }
