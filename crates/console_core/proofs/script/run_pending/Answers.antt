use Rattle.std.proofs.Common.{◌++◌, ap, ◌∙◌, sym, subst}
use Rattle.console_session.specs.Frames.{Ran, line, Runs, NoneAsks}
use Rattle.console_session.specs.Sessions.{told_end}
use Rattle.console_core.proofs.Shortening.{line_short}
use Rattle.console_core.proofs.script.run_pending.Goals as goal

pub returns-clause-runs : goal.returns-clause-runs
returns-clause-runs g c =
    let short = ap (λ t. line t c.args.session.now.state) (c.as_slice.ensures.value ∙ c.keep.ensures) ∙ line_short c.args.session.now.state (c.args.pending.now.items ++ c.args.front.now) in
    record {
      told = subst (λ (ran : Ran). Runs ran (told_end c.step-end.result) c.step-end.new.self.state (g.O.Sink.got c.args.out.now) (g.O.Sink.got c.step-end.new.out)) short c.step-end.ensures.told;
      path = c.step-end.ensures.path;
      causes = c.step-end.ensures.causes;
      calls = λ none. c.step-end.ensures.calls (subst NoneAsks (sym short) none);
    }
