use Rattle.std.proofs.Common.{◌≡◌}
use Rattle.console_session.specs.Holding.{Holds}
use Rattle.console_session.specs.Frames.{frame, NoneAsks}
use Rattle.console_session.specs.Serving.{seen, path_of, faults_in, calls_in}
use Rattle.console_session.proofs.Causing.{Counted}
use Rattle.console_session.proofs.Framing.{SoFar}
use Rattle.console_session.proofs.console.Console.run_frame.Given as goal

abbrev pub invariant-commands : goal.invariant-commands
invariant-commands g l =
    let state = seen g.M.Store g.F.Folder in
    record {
      told : SoFar (frame l.through 4096 (state l.initial.self)) (frame l.through l.budget (state l.self)) (g.O.Sink.got l.initial.out) (g.O.Sink.got l.out);
      path : path_of g.F.Folder l.self.paths ≡ path_of g.F.Folder l.initial.self.paths;
      holds : Holds (state l.self);
      calls : NoneAsks (frame l.through 4096 (state l.initial.self)) → calls_in g.F.Folder l.self ≡ calls_in g.F.Folder l.initial.self;
      counted : Counted (faults_in g.F.Folder l.initial.self) (faults_in g.F.Folder l.self) (g.O.Sink.sink_faults l.initial.out) (g.O.Sink.sink_faults l.out);
    }

abbrev pub decreases-commands : goal.decreases-commands
decreases-commands g l = l.budget
