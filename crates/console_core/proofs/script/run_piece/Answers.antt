use Rattle.std.proofs.Common.{◌≡◌, ◌++◌, ◌∙◌, [], ◌∷◌, ap, sym, subst, append_assoc, List, ℕ, Ok, false, refl, take}
use Rattle.console_session.specs.Frames.{Runs}
use Rattle.console_session.specs.Sessions.{told_end}
use Rattle.console_session.proofs.Causing.{counted_none, counted_of, counted_then, causes_later, causes_ok}
use Rattle.console_core.specs.Runs.{run_lines, lines_of}
use Rattle.console_core.proofs.Scripts.{start_run, start_rest, lines_end, line_runs, line_rest, left_runs, left_rest}
use Rattle.console_core.proofs.Asking.{split_calls, line_calls}
use Rattle.console_core.proofs.script.run_piece.Goals as goal

-- what is behind a line that was run
more_is : (all done left line behind : List ℕ) → all ≡ done ++ left → left ≡ line ++ behind → all ≡ (done ++ line) ++ behind
more_is all done left line behind split is = split ∙ ap (λ t. done ++ t) is ∙ sym (append_assoc done line behind)

pub newline-init : goal.newline-init
newline-init g c = record {
  done = c.args.pending.now.items;
  split = refl;
  told = start_run c.args.session.now.state c.args.pending.now.items _ c.requires.pending;
  rest = start_rest c.args.pending.now.items c.requires.short c.requires.pending;
  path = refl;
  going = c.requires.going;
  calls = λ none. refl;
  counted = counted_none _ _;
}

pub returns-in_default-run_pending : goal.returns-in_default-run_pending
returns-in_default-run_pending g c =
    let inv = c.newline.invariant in
    let first = c.args.session.now.state in
    let new = c.run_pending.new.session.state in
    let line = c.in-Some.front.now ++ 10 ∷ [] in
    let end = c.run_pending.result in
    let start = g.O.Sink.got c.args.out.now in
    let now = g.O.Sink.got c.run_pending.new.out in
    let ran = c.run_pending.ensures.runs in
    let here = line_runs first c.newline.session.state inv.done c.newline.pending.items c.in-Some.front.now inv.rest c.in-Some.ensures.none (told_end end) new start (g.O.Sink.got c.newline.out) now inv.told ran.told in
    record {
      runs = record {
        told = subst (λ t. Runs (run_lines first (lines_of t).whole) (told_end end) new start now)
            (sym (more_is (c.args.pending.now.items ++ c.args.piece.now) inv.done c.newline.left.now line c.in-Some.behind.now inv.split c.in-Some.ensures.is))
            (lines_end first new (inv.done ++ line) c.in-Some.behind.now end start now c.in_default-run_pending.not-Went here);
        path = ran.path ∙ inv.path;
        causes = causes_later _ _ _ _ _ _ _ _ inv.counted ran.causes;
        calls = split_calls first _ (inv.done ++ line) c.in-Some.behind.now c.args.session.now.calls c.run_pending.new.session.calls
            (more_is (c.args.pending.now.items ++ c.args.piece.now) inv.done c.newline.left.now line c.in-Some.behind.now inv.split c.in-Some.ensures.is)
            (line_calls first c.newline.session.state inv.done c.newline.pending.items c.in-Some.front.now inv.rest c.in-Some.ensures.none start (g.O.Sink.got c.newline.out) c.args.session.now.calls c.newline.session.calls c.run_pending.new.session.calls inv.told inv.calls ran.calls);
      };
      rest = λ went. absurd (c.in_default-run_pending.not-Went went);
      ended = c.run_pending.ensures.ended;
    }

pub newline-preserved : goal.newline-preserved
newline-preserved g c =
    let inv = c.newline.invariant in
    let first = c.args.session.now.state in
    let new = c.run_pending.new.session.state in
    let line = c.in-Some.front.now ++ 10 ∷ [] in
    let start = g.O.Sink.got c.args.out.now in
    let now = g.O.Sink.got c.run_pending.new.out in
    let ran = c.in-Went.ensures.runs in
    record {
      done = inv.done ++ line;
      split = more_is (c.args.pending.now.items ++ c.args.piece.now) inv.done c.newline.left.now line c.in-Some.behind.now inv.split c.in-Some.ensures.is;
      told = line_runs first c.newline.session.state inv.done c.newline.pending.items c.in-Some.front.now inv.rest c.in-Some.ensures.none (Ok false) new start (g.O.Sink.got c.newline.out) now inv.told ran.told;
      rest = c.in-Went.ensures.empty ∙ line_rest first c.newline.session.state inv.done c.newline.pending.items c.in-Some.front.now inv.rest c.in-Some.ensures.none;
      path = ran.path ∙ inv.path;
      going = c.in-Went.ensures.ended;
      calls = line_calls first c.newline.session.state inv.done c.newline.pending.items c.in-Some.front.now inv.rest c.in-Some.ensures.none start (g.O.Sink.got c.newline.out) c.args.session.now.calls c.newline.session.calls c.run_pending.new.session.calls inv.told inv.calls ran.calls;
      counted = counted_then _ _ _ _ _ _ inv.counted (counted_of _ _ _ _ _ _ ran.causes);
    }

pub returns-clause-runs : goal.returns-clause-runs
returns-clause-runs g c =
    let inv = c.newline.invariant in
    record {
      told = subst (λ t. Runs (run_lines c.args.session.now.state (lines_of t).whole) (Ok false) c.newline.session.state (g.O.Sink.got c.args.out.now) (g.O.Sink.got c.newline.out)) (sym inv.split)
          (left_runs c.args.session.now.state c.newline.session.state inv.done c.newline.pending.items c.newline.left.now inv.rest c.in_default.ensures _ _ inv.told);
      path = inv.path;
      causes = causes_ok _ _ _ _ _ _ inv.counted;
      calls = split_calls c.args.session.now.state _ inv.done c.newline.left.now c.args.session.now.calls c.newline.session.calls inv.split inv.calls;
    }

pub returns-clause-rest : goal.returns-clause-rest
returns-clause-rest g c = λ went.
    let inv = c.newline.invariant in
    c.keep.ensures ∙ left_rest c.args.session.now.state c.newline.session.state inv.done c.newline.pending.items c.newline.left.now inv.rest c.in_default.ensures ∙ ap (λ (t : List ℕ). take 8192 (lines_of t).rest) (sym inv.split)
