use Rattle.std.proofs.Common.{ap, sym, subst}
use Rattle.res_table.specs.Held.{lows_of}
use Rattle.console_session.specs.States.{State, PathSeen}
use Rattle.console_session.specs.Holding.{Holds}
use Rattle.console_session.specs.Serving.{seen}
use Rattle.console_session.proofs.Holding.{holds_memory}
use Rattle.console_session.proofs.Marking.{mark_loaded}
use Rattle.console_session.proofs.Loading.{load_cause_of, same_path, same_folders}
use Rattle.console_session.proofs.console.Console.load.Goals as goal

pub returns-clause-rest : goal.returns-clause-rest
returns-clause-rest g c =
    let s = seen g.M.Store g.F.Folder c.args.self.now in
    let m = g.M.Store.state c.load_low.new.store in
    let by_path : PathSeen → State = λ (p : PathSeen). record s { memory = m; path = p } in
    let state_is = ap by_path (same_path g.F.Folder c.args.self.now.paths c.load_low.new.paths c.load_low.ensures.same) in
    record {
      state = state_is;
      holds = subst (λ (t : State). Holds t) (sym state_is) (holds_memory s m c.requires.holds (c.load_low.ensures.laid c.requires.holds.laid) (mark_loaded s.memory m c.args.name.now s.level c.load_low.result c.load_low.ensures.leaves c.requires.holds.level) c.load_low.ensures.zone
          (c.load_low.ensures.keeps c.requires.holds.laid (lows_of s.table)));
      none_falls = c.load_low.ensures.faults;
      folders = same_folders g.F.Folder c.args.self.now.paths c.load_low.new.paths c.load_low.ensures.same;
      cause = load_cause_of _ _ _ c.load_low.result c.load_low.ensures.fault c.load_low.ensures.memory;
    }
