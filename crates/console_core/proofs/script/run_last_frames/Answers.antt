use Rattle.std.proofs.Common.{rules}
use Rattle.console_session.specs.Frames.{finish}
use Rattle.console_session.specs.Sessions.{told_end}
use Rattle.console_core.specs.Runs.{last_line}
use Rattle.console_core.proofs.Scripts.{both_run, ended_run}
use Rattle.console_core.proofs.Asking.{first_asks, both_calls}
use Rattle.console_core.proofs.script.run_last_frames.Goals as goal

pub returns-in-Went : goal.returns-in-Went
returns-in-Went g c = record {
  told = both_run (last_line c.args.session.now.state c.args.text.now) (λ after. finish after) (told_end c.finish.result) c.run_last.new.session.state c.finish.new.self.state _ _ _ c.in-Went.ensures.runs.told c.finish.ensures.told;
  path = search rules;
  causes = search rules;
  calls = both_calls (last_line c.args.session.now.state c.args.text.now) (λ after. finish after) c.run_last.new.session.state _ _ c.args.session.now.calls c.run_last.new.session.calls c.finish.new.self.calls c.in-Went.ensures.runs.told c.in-Went.ensures.runs.calls c.finish.ensures.calls;
}

pub returns-in_default : goal.returns-in_default
returns-in_default g c =
    let last = last_line c.args.session.now.state c.args.text.now in
    let ran = c.run_last.ensures.runs in
    record {
      told = ended_run last (λ after. finish after) c.run_last.result c.run_last.new.session.state _ _ c.in_default.not-Went ran.told;
      path = ran.path;
      causes = ran.causes;
      calls = λ none. ran.calls (first_asks last (λ after. finish after) none);
    }
