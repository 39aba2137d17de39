use Rattle.std.proofs.Common.{rules, refl}
use Rattle.console_session.specs.Serving.{seen}
use Rattle.console_session.proofs.Lining.{overflow_cut, overflow_runs, overflow_none}
use Rattle.console_session.proofs.console.Console.run_overflow.Goals as goal

pub returns-in-Err : goal.returns-in-Err
returns-in-Err g c =
    let s = seen g.M.Store g.F.Folder c.args.self.now in
    record {
      told = overflow_cut s s _ _ c.in-Err.ensures.part;
      path = search rules;
      calls = λ none. refl;
      holds = search rules;
      causes = search rules;
    }

pub returns : goal.returns
returns g c =
    let state = seen g.M.Store g.F.Folder in
    record {
      told = overflow_runs (state c.args.self.now) (state c.run_frame.new.self) _ _ _ _ c.in_default.ensures.added c.run_frame.ensures.told;
      path = c.run_frame.ensures.path;
      calls = λ none. c.run_frame.ensures.calls (overflow_none (state c.args.self.now) none);
      holds = c.run_frame.ensures.holds;
      causes = search rules;
    }
