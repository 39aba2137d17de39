use Rattle.std.proofs.Common.{◌≡◌, ◌+◌, ◌≤◌, ℕ, List, length, take, Ok, false}
use Rattle.outside_io.specs.Streams.{Took}
use Rattle.console_session.specs.Frames.{Runs}
use Rattle.console_core.specs.Runs.{run_lines, lines_of}
use Rattle.console_core.specs.Reading.{limit, CallsAsAsked}
use Rattle.console_session.proofs.Causing.{Counted}
use Rattle.console_core.proofs.script.run_script.Given as goal

abbrev pub invariant-read : goal.invariant-read
invariant-read g l =
    record {
      taken : List ℕ;
      took : Took taken (g.S.Source.rest l.initial.script) (g.S.Source.rest l.script);
      size : length taken + l.left ≡ limit;
      told : Runs (run_lines l.initial.session.state (lines_of taken).whole) (Ok false) l.session.state (g.O.Sink.got l.initial.out) (g.O.Sink.got l.out);
      rest : l.pending.items ≡ take 8192 (lines_of taken).rest;
      going : l.session.ended ≡ false;
      path : l.session.state.path ≡ l.initial.session.state.path;
      calls : CallsAsAsked (run_lines l.initial.session.state (lines_of taken).whole) l.initial.session.calls l.session.calls;
      counted : Counted l.initial.session.faults l.session.faults (g.O.Sink.sink_faults l.initial.out) (g.O.Sink.sink_faults l.out);
      handed_on : g.O.Sink.held_back l.initial.out ≡ 0 → g.O.Sink.held_back l.out ≡ 0;
      script_counts : g.S.Source.source_faults l.initial.script ≤ g.S.Source.source_faults l.script;
    }

abbrev pub decreases-read : goal.decreases-read
decreases-read g l = l.left
