-- Where no command of lines asked for a file, no folder was called.
use Rattle.std.proofs.Common.{◌≡◌, ℕ, List, [], ◌∷◌, ◌++◌, take, Bool, true, false, Option, Some, None, Ok, refl, sym, ◌∙◌, subst}
use Rattle.std.specs.List.{AllByRecursion}
use Rattle.console_session.specs.States.{State, Reply}
use Rattle.console_session.specs.Frames.{Ended, Ran, line, Runs, NoneAsks}
use Rattle.console_core.specs.Runs.{go_on, behind, followed, run_lines, lines_of, HasNoNewline}
use Rattle.console_core.specs.Reading.{CallsAsAsked}
use Rattle.console_core.proofs.Scripts.{later_run, piece_run, line_run, lines_later}

abbrev AsksNone : Reply → Type 0
AsksNone reply = reply.load ≡ false

all_first : (before later : List Reply) → AllByRecursion AsksNone (before ++ later) → AllByRecursion AsksNone before
all_first [] later all = tt
all_first (reply ∷ before) later all = (all.0, all_first before later all.1)

all_later : (before later : List Reply) → AllByRecursion AsksNone (before ++ later) → AllByRecursion AsksNone later
all_later [] later all = all
all_later (reply ∷ before) later all = all_later before later all.1

-- Where none asks in a run and in what follows it, none asks in the run ..
first_go_on : (quit : Bool) (replies : List Reply) (after : State) (rest : State → Ran) → NoneAsks (go_on quit replies after rest) → AllByRecursion AsksNone replies
first_go_on true replies after rest none = none.none
first_go_on false replies after rest none = all_first replies (rest after).replies none.none

first_behind : (replies : List Reply) (end : Option Ended) (rest : State → Ran) → NoneAsks (behind replies end rest) → NoneAsks (record { replies = replies; end = end })
first_behind replies None rest none = none
first_behind replies (Some end) rest none = record { last = end; ends = refl; none = first_go_on end.quit replies end.after rest none }

pub first_asks : (ran : Ran) (rest : State → Ran) → NoneAsks (followed ran rest) → NoneAsks ran
first_asks ran rest none = first_behind ran.replies ran.end rest none

-- .. and none in what follows.
later_go_on : (quit : Bool) (replies : List Reply) (after : State) (rest : State → Ran) → quit ≡ false → NoneAsks (go_on quit replies after rest) → NoneAsks (rest after)
later_go_on true replies after rest goes none = absurd (cc)
later_go_on false replies after rest goes none = record { last = none.last; ends = none.ends; none = all_later replies (rest after).replies none.none }

later_behind : (replies : List Reply) (end : Option Ended) (rest : State → Ran) (s : State) (start now : Option (List ℕ)) → Runs (record { replies = replies; end = end }) (Ok false) s start now → NoneAsks (behind replies end rest) → NoneAsks (rest s)
later_behind replies None rest s start now runs none = absurd (let no_end = none.ends in cc)
later_behind replies (Some end) rest s start now runs none =
    subst (λ after. NoneAsks (rest after)) (sym runs.after) (later_go_on end.quit replies end.after rest runs.quit none)

pub later_asks : (ran : Ran) (rest : State → Ran) (s : State) (start now : Option (List ℕ)) → Runs ran (Ok false) s start now → NoneAsks (followed ran rest) → NoneAsks (rest s)
later_asks ran rest s start now runs none = later_behind ran.replies ran.end rest s start now runs none

-- the same run under another name
pub same_calls : (ran other : Ran) (before now : List ℕ) → ran ≡ other → CallsAsAsked other before now → CallsAsAsked ran before now
same_calls ran other before now is calls none = calls (subst NoneAsks is none)

-- a run, and then another
pub both_calls : (first : Ran) (rest : State → Ran) (s : State) (start mid : Option (List ℕ)) (calls between now : List ℕ) → Runs first (Ok false) s start mid → CallsAsAsked first calls between → CallsAsAsked (rest s) between now
    → CallsAsAsked (followed first rest) calls now
both_calls first rest s start mid calls between now runs before behind none = behind (later_asks first rest s start mid runs none) ∙ before (first_asks first rest none)

-- the lines of a front, of which all were run that were run at all
front_calls : (first : State) (taken more : List ℕ) (calls now : List ℕ) → CallsAsAsked (run_lines first (lines_of taken).whole) calls now → CallsAsAsked (run_lines first (lines_of (taken ++ more)).whole) calls now
front_calls first taken more calls now given none =
    given (first_asks (run_lines first (lines_of taken).whole) (λ after. run_lines after (lines_later taken more).0) (subst NoneAsks (later_run first taken more) none))

pub split_calls : (first : State) (all taken more : List ℕ) (calls now : List ℕ) → all ≡ taken ++ more → CallsAsAsked (run_lines first (lines_of taken).whole) calls now → CallsAsAsked (run_lines first (lines_of all).whole) calls now
split_calls first all taken more calls now is given none = front_calls first taken more calls now given (subst (λ bytes. NoneAsks (run_lines first (lines_of bytes).whole)) is none)

-- a piece more
pub piece_calls : (first s : State) (taken piece pending : List ℕ) (start mid : Option (List ℕ)) (calls between now : List ℕ) → Runs (run_lines first (lines_of taken).whole) (Ok false) s start mid → pending ≡ take 8192 (lines_of taken).rest
    → CallsAsAsked (run_lines first (lines_of taken).whole) calls between → CallsAsAsked (run_lines s (lines_of (pending ++ piece)).whole) between now → CallsAsAsked (run_lines first (lines_of (taken ++ piece)).whole) calls now
piece_calls first s taken piece pending start mid calls between now so_far is before more =
    same_calls (run_lines first (lines_of (taken ++ piece)).whole) _ calls now (piece_run first taken piece pending is)
    (both_calls (run_lines first (lines_of taken).whole) (λ after. run_lines after (lines_of (pending ++ piece)).whole) s start mid calls between now so_far before more)

-- a line more
pub line_calls : (first s : State) (done pending front : List ℕ) (is : pending ≡ take 8192 (lines_of done).rest) (none : HasNoNewline front) (start mid : Option (List ℕ)) (calls between now : List ℕ)
    → Runs (run_lines first (lines_of done).whole) (Ok false) s start mid → CallsAsAsked (run_lines first (lines_of done).whole) calls between → CallsAsAsked (line (pending ++ front) s) between now
    → CallsAsAsked (run_lines first (lines_of (done ++ (front ++ 10 ∷ []))).whole) calls now
line_calls first s done pending front is none start mid calls between now so_far before more =
    same_calls (run_lines first (lines_of (done ++ (front ++ 10 ∷ []))).whole) _ calls now (line_run first s done pending front is none)
    (both_calls (run_lines first (lines_of done).whole) (line (pending ++ front)) s start mid calls between now so_far before more)
