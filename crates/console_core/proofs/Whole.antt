-- What was run of the bytes that were taken, as a part of the run over the whole script.
use Rattle.std.proofs.Common.{◌≡◌, ℕ, List, [], ◌∷◌, ◌++◌, length, take, false, Bool, Option, Some, None, IfSome, Result, Ok, refl, sym, ◌∙◌, ap, subst, arith}
use Rattle.std.proofs.lemmas.List.{append-nil}
use Rattle.std.proofs.lemmas.Bool.{ne_eqb}
use Rattle.outside_io.specs.Streams.{Took}
use Rattle.console_session.specs.States.{State}
use Rattle.console_session.specs.Frames.{Ran, line, Runs, finish}
use Rattle.console_core.specs.Runs.{followed, run_lines, lines_of, last_line, rest_run, run}
use Rattle.console_session.specs.declared.ends.Fault.{Fault}
use Rattle.console_session.specs.Sessions.{told_end}
use Rattle.console_session.specs.declared.ends.StepEnd.{StepEnd}
use Rattle.console_session.specs.declared.ends.StepEnd.TheVariants.{Went}
use Rattle.console_core.proofs.Scripts.{both_run, ended_run, lines_end}
use Rattle.console_core.proofs.Shortening.{line_short}

last_some : (s : State) (byte : ℕ) (bytes : List ℕ) → last_line s (byte ∷ bytes) ≡ line (byte ∷ bytes) s
last_some s byte bytes = rw (ne_eqb (length (byte ∷ bytes)) 0 (λ none. omega arith)) refl

last_short : (s : State) (text : List ℕ) → last_line s (take 8192 text) ≡ last_line s text
last_short s [] = refl
last_short s (byte ∷ bytes) =
    let front : take 8192 (byte ∷ bytes) ≡ byte ∷ take 8191 bytes = refl in
    ap (λ (t : List ℕ). last_line s t) front ∙ last_some s byte (take 8191 bytes)
    ∙ ap (λ (t : List ℕ). line t s) (sym front) ∙ line_short s (byte ∷ bytes) ∙ sym (last_some s byte bytes)

rest_short : (s : State) (text : List ℕ) → rest_run s (take 8192 text) ≡ rest_run s text
rest_short s text = ap (λ (ran : Ran). followed ran (λ after. finish after)) (last_short s text)

some_is : (a b : List ℕ) → Some a ≡ Some b → a ≡ b
some_is a b e = cc

-- a line that was taken ended the run
pub stops_whole : (first new : State) (taken : List ℕ) (end : StepEnd) (before now start put : Option (List ℕ)) → (end ≡ Went → ⊥) → Took taken before now → Runs (run_lines first (lines_of taken).whole) (told_end end) new start put
    → IfSome before (λ script. Runs (run first script) (told_end end) new start put)
stops_whole first new taken end None now start put stops took ran = tt
stops_whole first new taken end (Some script) None start put stops took ran = absurd (cc)
stops_whole first new taken end (Some script) (Some left) start put stops took ran =
    subst (λ s. Runs (run first s) (told_end end) new start put) (sym (some_is script (taken ++ left) took))
    (ended_run (run_lines first (lines_of (taken ++ left)).whole) (λ after. rest_run after (lines_of (taken ++ left)).rest) end new start put stops (lines_end first new taken left end start put stops ran))

-- The script was taken to its end, and what is left of it was run.
pub ends_whole : (first s new : State) (taken pending : List ℕ) (result : Result Bool Fault) (before now start mid put : Option (List ℕ)) → Took taken before now → IfSome now (λ left. left ≡ []) → pending ≡ take 8192 (lines_of taken).rest
    → Runs (run_lines first (lines_of taken).whole) (Ok false) s start mid → Runs (rest_run s pending) result new mid put
    → IfSome before (λ script. Runs (run first script) result new start put)
ends_whole first s new taken pending result None now start mid put took ended kept so_far runs = tt
ends_whole first s new taken pending result (Some script) None start mid put took ended kept so_far runs = absurd (cc)
ends_whole first s new taken pending result (Some script) (Some left) start mid put took ended kept so_far runs =
    let all : script ≡ taken = some_is script (taken ++ left) took ∙ ap (λ (l : List ℕ). taken ++ l) ended ∙ append-nil taken in
    let rest = (lines_of taken).rest in
    let short : Runs (rest_run s (take 8192 rest)) result new mid put = subst (λ p. Runs (rest_run s p) result new mid put) kept runs in
    let here : Runs (rest_run s rest) result new mid put = subst (λ r. Runs r result new mid put) (rest_short s rest) short in
    subst (λ t. Runs (run first t) result new start put) (sym all)
    (both_run (run_lines first (lines_of taken).whole) (λ after. rest_run after rest) result s new start mid put so_far here)
