use Rattle.std.proofs.Common.{rules, ◌≡◌, ◌-◌, suc, ◌<◌, length, false, refl, sym, ◌∙◌, arith, List, [], ◌∷◌, ap, ℕ}
use Rattle.std.specs.Prelude.{codes}
use Rattle.console_session.specs.States.{State}
use Rattle.console_session.specs.Commands.{command}
use Rattle.console_session.specs.Frames.{frame, stopped, plain, ending}
use Rattle.console_session.specs.Serving.{seen}
use Rattle.console_session.proofs.Causing.{counted_of, counted_then, causes_later, causes_of, causes_ok, causes_put}
use Rattle.console_session.proofs.Framing.{frame_empty, frame_away, frame_more, so_far_all, step_more, step_last, step_cut, last_runs, calls_none}
use Rattle.console_session.proofs.console.Console.run_frame.Goals as goal

pub returns-then-budget-eq0 : goal.returns-then-budget-eq0
returns-then-budget-eq0 g c =
    let state = seen g.M.Store g.F.Folder in
    let s = state c.commands.self in
    let buffer_of : List ℕ → State = λ (b : List ℕ). record s { buffer = b } in
    record {
      told = last_runs (frame c.args.through 4096 (state c.args.self.now)) (frame c.args.through c.commands.budget s) (buffer_of c.clear.new.self) (codes "runaway\n") false c.put_runaway.result _ _ _
          (frame_away c.args.through c.commands.budget s c.if-budget-eq0.true (omega arith) ∙ ap (λ (b : List ℕ). stopped (buffer_of b) (plain (codes "runaway\n") ∷ []) false) (sym c.clear.ensures))
          c.commands.invariant.told c.put_runaway.ensures.told;
      path = c.commands.invariant.path;
      calls = c.commands.invariant.calls;
      holds = search rules;
      causes = causes_put _ _ _ _ _ _ _ _ _ _ _ c.commands.invariant.counted c.put_runaway.ensures.counts c.put_runaway.ensures.told c.put_runaway.ensures.cause;
    }

pub returns-in-Err : goal.returns-in-Err
returns-in-Err g c =
    let state = seen g.M.Store g.F.Folder in
    let s = state c.commands.self in
    let less : c.commands.budget ≡ suc (c.commands.budget - 1) = omega arith in
    let some : 0 < length c.commands.self.buffer = omega arith in
    record {
      told = step_cut (frame c.args.through 4096 (state c.args.self.now)) (frame c.args.through c.commands.budget s) (ending c.args.through) (λ after. frame c.args.through (c.commands.budget - 1) after) (command s) (state c.run_command.new.self)
          (g.O.Sink.got c.args.out.now) (g.O.Sink.got c.commands.out) (g.O.Sink.got c.run_command.new.out) (frame_more c.args.through c.commands.budget (c.commands.budget - 1) s less some) c.in-Err.fault c.commands.invariant.told c.in-Err.ensures.told;
      path = c.in-Err.ensures.path ∙ c.commands.invariant.path;
      holds = c.in-Err.ensures.holds;
      calls = λ none. calls_none _ _ (ending c.args.through) (λ after. frame c.args.through (c.commands.budget - 1) after) _ _ (command s) (frame_more c.args.through c.commands.budget (c.commands.budget - 1) s less some) c.commands.invariant.told none c.in-Err.ensures.calls
          ∙ c.commands.invariant.calls none;
      causes = causes_of _ _ _ _ _ _ (causes_later _ _ _ _ _ _ _ _ c.commands.invariant.counted c.in-Err.ensures.causes);
    }

pub returns-in-Some : goal.returns-in-Some
returns-in-Some g c =
    let state = seen g.M.Store g.F.Folder in
    let s = state c.commands.self in
    let less : c.commands.budget ≡ suc (c.commands.budget - 1) = omega arith in
    let some : 0 < length c.commands.self.buffer = omega arith in
    record {
      told = so_far_all _ _ (state c.run_command.new.self) c.in-Some.quit _ _ refl
          (step_last (frame c.args.through 4096 (state c.args.self.now)) (frame c.args.through c.commands.budget s) (ending c.args.through) (λ after. frame c.args.through (c.commands.budget - 1) after) (command s) (state c.run_command.new.self)
          (g.O.Sink.got c.args.out.now) (g.O.Sink.got c.commands.out) (g.O.Sink.got c.run_command.new.out) (frame_more c.args.through c.commands.budget (c.commands.budget - 1) s less some) c.in-Ok.next c.in-Some.quit c.commands.invariant.told c.in-Ok.ensures.told c.in-Some.ensures);
      path = c.in-Ok.ensures.path ∙ c.commands.invariant.path;
      holds = c.in-Ok.ensures.holds;
      calls = λ none. calls_none _ _ (ending c.args.through) (λ after. frame c.args.through (c.commands.budget - 1) after) _ _ (command s) (frame_more c.args.through c.commands.budget (c.commands.budget - 1) s less some) c.commands.invariant.told none c.in-Ok.ensures.calls
          ∙ c.commands.invariant.calls none;
      causes = causes_ok _ _ _ _ _ _ (counted_then _ _ _ _ _ _ c.commands.invariant.counted (counted_of _ _ _ _ _ _ c.in-Ok.ensures.causes));
    }

pub commands-preserved : goal.commands-preserved
commands-preserved g c =
    let state = seen g.M.Store g.F.Folder in
    let s = state c.commands.self in
    let less : c.commands.budget ≡ suc (c.commands.budget - 1) = omega arith in
    let some : 0 < length c.commands.self.buffer = omega arith in
    record {
      told = step_more (frame c.args.through 4096 (state c.args.self.now)) (frame c.args.through c.commands.budget s) (ending c.args.through) (λ after. frame c.args.through (c.commands.budget - 1) after) (command s) (state c.run_command.new.self)
          (g.O.Sink.got c.args.out.now) (g.O.Sink.got c.commands.out) (g.O.Sink.got c.run_command.new.out) (frame_more c.args.through c.commands.budget (c.commands.budget - 1) s less some) c.in-Ok.next c.commands.invariant.told c.in-Ok.ensures.told c.in_default.ensures;
      path = c.in-Ok.ensures.path ∙ c.commands.invariant.path;
      holds = c.in-Ok.ensures.holds;
      calls = λ none. calls_none _ _ (ending c.args.through) (λ after. frame c.args.through (c.commands.budget - 1) after) _ _ (command s) (frame_more c.args.through c.commands.budget (c.commands.budget - 1) s less some) c.commands.invariant.told none c.in-Ok.ensures.calls
          ∙ c.commands.invariant.calls none;
      counted = counted_then _ _ _ _ _ _ c.commands.invariant.counted (counted_of _ _ _ _ _ _ c.in-Ok.ensures.causes);
    }

pub returns : goal.returns
returns g c =
    let state = seen g.M.Store g.F.Folder in
    record {
      told = so_far_all _ _ (state c.commands.self) false _ _ (frame_empty c.args.through c.commands.budget (state c.commands.self) (omega arith)) c.commands.invariant.told;
      path = c.commands.invariant.path;
      holds = c.commands.invariant.holds;
      calls = c.commands.invariant.calls;
      causes = causes_ok _ _ _ _ _ _ c.commands.invariant.counted;
    }
