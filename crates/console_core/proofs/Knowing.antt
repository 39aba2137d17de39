-- Where all mounts are told, the run of lines and of a script is told to its end.
use Rattle.std.proofs.Common.{◌≡◌, ℕ, List, [], ◌∷◌, length, Bool, true, false, eqb, if◌then◌else◌, Option, Some, None, IfSome, Ok, Err, refl, sym, ◌∙◌, ap, subst}
use Rattle.std.specs.Prelude.{option_map}
use Rattle.outside_io.specs.Streams.{Adds}
use Rattle.search_paths.specs.Mounts.{Mount}
use Rattle.search_paths.specs.Path.{all_some}
use Rattle.search_paths.proofs.FindLaws.{each_is_there}
use Rattle.console_session.specs.States.{State, Reply, StillPut}
use Rattle.console_session.specs.Frames.{Ran, stopped, texts, line, finish, IsCutShort, Runs}
use Rattle.console_session.specs.declared.ends.Fault.{Fault}
use Rattle.console_session.proofs.Knowing.{AllTold, KnowsEnd, frame_knows, line_knows, whole_run, cut_run}
use Rattle.console_core.specs.Runs.{go_on, behind, followed, quit_at, run_lines, lines_of, last_line, rest_run, run}
use Rattle.console_core.specs.Reading.{RanEarlier}
use Rattle.console_core.specs.Ends.{told_state, LinesWerePut, LinesWereRun, IsInLastPiece}

-- what holds of every value that is there
pub if_some : {X : Type 0} {P : X → Type 0} (o : Option X) → ((x : X) → o ≡ Some x → P x) → IfSome o P
if_some None each = tt
if_some (Some x) each = each x refl

pub at_some : {X : Type 0} (P : X → Type 0) (o : Option X) (x : X) → o ≡ Some x → IfSome o P → P x
at_some {X} P o x is known = let here : IfSome (Some x) P = subst (λ (given : Option X). IfSome given P) is known in here

go_on_knows : (s after : State) (quit : Bool) (replies : List Reply) (rest : State → Ran) → after.path ≡ s.path → KnowsEnd after (rest after) → KnowsEnd s (go_on quit replies after rest)
go_on_knows s after true replies rest path next = record { end = record { after = after; quit = true }; is = refl; path = path }
go_on_knows s after false replies rest path next = record { end = next.end; is = next.is; path = next.path ∙ path }

follows_know : (s : State) (mounts : List Mount) (ran : Ran) (rest : State → Ran) → AllTold s mounts → KnowsEnd s ran → ((after : State) → AllTold after mounts → KnowsEnd after (rest after)) → KnowsEnd s (followed ran rest)
follows_know s mounts ran rest told known later =
    subst (λ e. KnowsEnd s (behind ran.replies e rest)) (sym known.is)
    (go_on_knows s known.end.after known.end.quit ran.replies rest known.path (later known.end.after (ap (λ p. p.mounts) known.path ∙ told)))

none_knows : (s : State) → KnowsEnd s (stopped s [] false)
none_knows s = record { end = record { after = s; quit = false }; is = refl; path = refl }

lines_know : (lines : List (List ℕ)) (s : State) (mounts : List Mount) → AllTold s mounts → KnowsEnd s (run_lines s lines)
lines_know [] s mounts told = none_knows s
lines_know (text ∷ lines) s mounts told =
    follows_know s mounts (line text s) (λ after. run_lines after lines) told (line_knows text s mounts told) (λ after still. lines_know lines after mounts still)

last_knows : (text : List ℕ) (s : State) (mounts : List Mount) → AllTold s mounts → KnowsEnd s (last_line s text)
last_knows text s mounts told = by (eqb (length text) 0) (line text s) (line_knows text s mounts told)
  where
    by : (b : Bool) (ran : Ran) → KnowsEnd s ran → KnowsEnd s (if b then stopped s [] false else ran)
    by true ran known = none_knows s
    by false ran known = known

rest_knows : (text : List ℕ) (s : State) (mounts : List Mount) → AllTold s mounts → KnowsEnd s (rest_run s text)
rest_knows text s mounts told =
    follows_know s mounts (last_line s text) (λ after. finish after) told (last_knows text s mounts told) (λ after still. frame_knows true 4096 after mounts still)

run_knows : (script : List ℕ) (s : State) (mounts : List Mount) → AllTold s mounts → KnowsEnd s (run s script)
run_knows script s mounts told =
    follows_know s mounts (run_lines s (lines_of script).whole) (λ after. rest_run after (lines_of script).rest) told
    (lines_know (lines_of script).whole s mounts told) (λ after still. rest_knows (lines_of script).rest after mounts still)

-- what is so of a state all of whose mounts are told
of_told : (P : State → Type 0) (s : State) → ((mounts : List Mount) → AllTold s mounts → P s) → IfSome (told_state s) P
of_told P s each = by (all_some s.path.mounts) refl
  where
    by : (all : Option (List Mount)) → all_some s.path.mounts ≡ all → IfSome (option_map (λ mounts. s) all) P
    by None is = tt
    by (Some mounts) is = each mounts (each_is_there s.path.mounts mounts is)

module _ (first new : State) (start now : Option (List ℕ)) where
  -- all replies over the lines were put
  lines_whole : (bytes : List ℕ) (mounts : List Mount) → AllTold first mounts → Runs (run_lines first (lines_of bytes).whole) (Ok false) new start now → LinesWerePut first bytes start now
  lines_whole bytes mounts told runs =
      let lines = (lines_of bytes).whole in
      let known = lines_know lines first mounts told in
      let whole = whole_run first (run_lines first lines) known false new start now runs in
      record { quit = ap quit_at known.is ∙ ap Some whole.quit; put = whole.put }

  pub lines_put : (bytes : List ℕ) → Runs (run_lines first (lines_of bytes).whole) (Ok false) new start now → IfSome (told_state first) (λ s. LinesWerePut s bytes start now)
  lines_put bytes runs = of_told _ first (λ mounts told. lines_whole bytes mounts told runs)

  pub lines_ran : (bytes : List ℕ) (last : Option (List ℕ)) → Runs (run_lines first (lines_of bytes).whole) (Ok false) new start now → StillPut now last → IfSome (told_state first) (λ s. LinesWereRun s bytes start last)
  lines_ran bytes last runs more = of_told _ first (λ mounts told. record { mid = now; lines = lines_whole bytes mounts told runs; more = more })

  -- the run over the whole script was put, or cut short
  pub script_put : (script : Option (List ℕ)) (quit : Bool) → IfSome script (λ bytes. Runs (run first bytes) (Ok quit) new start now)
      → IfSome (told_state first) (λ s. IfSome script (λ bytes. Adds (texts (run s bytes).replies) start now))
  script_put None quit runs = of_told _ first (λ mounts told. tt)
  script_put (Some bytes) quit runs = of_told _ first (λ mounts told. (whole_run first (run first bytes) (run_knows bytes first mounts told) quit new start now runs).put)

  pub script_cut : (script : Option (List ℕ)) (fault : Fault) → IfSome script (λ bytes. Runs (run first bytes) (Err fault) new start now)
      → IfSome (told_state first) (λ s. IfSome script (λ bytes. IsCutShort (run s bytes).replies fault start now))
  script_cut None fault runs = of_told _ first (λ mounts told. tt)
  script_cut (Some bytes) fault runs = of_told _ first (λ mounts told. cut_run first (run first bytes) (run_knows bytes first mounts told) fault new start now runs)

module _ (first new : State) (taken : List ℕ) (start now : Option (List ℕ)) (earlier : RanEarlier first taken start now) where
  last_piece : (mounts : List Mount) → AllTold first mounts → IsInLastPiece first taken start now
  last_piece mounts told = record {
    earlier = earlier.earlier;
    piece = earlier.piece;
    is = earlier.is;
    short = earlier.short;
    ran = record { mid = earlier.mid; lines = lines_whole first earlier.after start earlier.mid earlier.earlier mounts told earlier.run; more = earlier.more };
  }

  -- a line of the last piece quit
  pub lines_quit : Runs (run_lines first (lines_of taken).whole) (Ok true) new start now
      → IfSome (told_state first) (λ s. (quit_at (run_lines s (lines_of taken).whole).end ≡ Some true) × IsInLastPiece s taken start now)
  lines_quit runs = of_told _ first (λ mounts told.
      let known = lines_know (lines_of taken).whole first mounts told in
      (ap quit_at known.is ∙ ap Some (whole_run first (run_lines first (lines_of taken).whole) known true new start now runs).quit, last_piece mounts told))

  -- a fault ended a line of the last piece
  pub lines_cut : (fault : Fault) → Runs (run_lines first (lines_of taken).whole) (Err fault) new start now
      → IfSome (told_state first) (λ s. IsCutShort (run_lines s (lines_of taken).whole).replies fault start now × IsInLastPiece s taken start now)
  lines_cut fault runs = of_told _ first (λ mounts told.
      let known = lines_know (lines_of taken).whole first mounts told in
      (cut_run first (run_lines first (lines_of taken).whole) known fault new start now runs, last_piece mounts told))
