use Rattle.std.proofs.Common.{◌≡◌, ◌++◌, ℕ, List, take, length, Ok, false}
use Rattle.console_session.specs.Frames.{Runs}
use Rattle.console_core.specs.Runs.{run_lines, lines_of}
use Rattle.console_core.specs.Reading.{CallsAsAsked}
use Rattle.console_session.proofs.Causing.{Counted}
use Rattle.console_core.proofs.script.run_piece.Given as goal

abbrev pub invariant-newline : goal.invariant-newline
invariant-newline g l =
    record {
      done : List ℕ;
      split : l.initial.pending.items ++ l.piece ≡ done ++ l.left;
      told : Runs (run_lines l.initial.session.state (lines_of done).whole) (Ok false) l.session.state (g.O.Sink.got l.initial.out) (g.O.Sink.got l.out);
      rest : l.pending.items ≡ take 8192 (lines_of done).rest;
      path : l.session.state.path ≡ l.initial.session.state.path;
      going : l.session.ended ≡ false;
      calls : CallsAsAsked (run_lines l.initial.session.state (lines_of done).whole) l.initial.session.calls l.session.calls;
      counted : Counted l.initial.session.faults l.session.faults (g.O.Sink.sink_faults l.initial.out) (g.O.Sink.sink_faults l.out);
    }

abbrev pub decreases-newline : goal.decreases-newline
decreases-newline g l = length l.left
