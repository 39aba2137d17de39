-- Where all mounts are told, each command is, and each run is told to its end.
use Prim.Native.Nat.{zero, suc}
use Rattle.std.proofs.Common.{◌≡◌, ℕ, List, [], length, map, Bool, true, false, eqb, Option, Some, None, option_map, Result, Ok, Err, refl, sym, ◌∙◌, ap, subst, if◌then◌else◌}
use Rattle.std.specs.Prelude.{◌&&◌, codes, is_none}
use Rattle.std.specs.Option.{option_or}
use Rattle.base_fields.specs.Names.{is_game_name}
use Rattle.mem_model.specs.Memory.{Memory}
use Rattle.search_paths.specs.Mounts.{Mount, find_in}
use Rattle.search_paths.proofs.FindLaws.{find_told-all}
use Rattle.cmd_buffer.specs.Aliases.{alias_value}
use Rattle.cmd_buffer.specs.Buffer.{fits_in, input, cut, short_command}
use Rattle.cmd_buffer.specs.Words.{words_of}
use Rattle.cvar_table.specs.Cvars.{cvar_value}
use Rattle.file_load.specs.Loads.{Load, Missing, Beyond, NoRoom, At, Loading, load_low, load_temp, low_load, temp_load}
use Rattle.info_text.specs.Dumps.{dump_text}
use Rattle.info_text.specs.Infos.{info_text}
use Rattle.info_text.specs.Lines.{resource_text}
use Rattle.res_table.specs.Acquire.{Acquired, acquire, answered_after, answered_before}
use Rattle.res_table.specs.Images.{file_of}
use Rattle.res_table.specs.declared.answers.AcquireError.{AcquireError}
use Rattle.res_table.specs.declared.answers.Res.{Res}
use Rattle.res_table.specs.declared.kinds.Kind.{Kind}
use Rattle.res_table.specs.declared.kinds.Table.{Table}
use Rattle.res_table.specs.declared.kinds.Table.TheVariants.{Models, Sounds}
use Rattle.console_session.specs.States.{State, Done, Did, Told, Untold, says}
use Rattle.console_session.specs.Commands.{acquire_named, answer_acquire, answer_map, answer_wad, cleared, map_in, map_text, wad_text, of_map_and_leaf, map_image, same_names, takes_map, takes_wad, bad_name, by_image, by_resource, table_in, with_acquired, word_at, with_load, with_told, by_load, shown_file, inserted_file, of_number_and_name, reserve_block, video_block, list_aliases, make_alias, make_cvar, cvar_text, by_cvar, by_alias, by_verb, by_words, by_text, are_strange, hand_over, command, name_in, number_in}
use Rattle.console_session.specs.Verbs.{verb_of}
use Rattle.console_session.specs.Frames.{Ended, Ran, ending, gone_on, continued, frame, overflowed, line, IsRun, IsCutShort, GoesAs, Runs}
use Rattle.console_session.specs.declared.ends.Fault.{Fault}
use Rattle.console_session.specs.declared.ends.Next.{Next}
use Rattle.console_session.specs.declared.ends.Next.TheVariants.{Goes}
use Rattle.console_session.specs.declared.verbs.Verb.{Verb}
use Rattle.console_session.specs.declared.verbs.Verb.TheVariants as verb

-- what a command does is told, and leaves the path
abbrev pub Knows : State → Did → Type 0
Knows s (Told done) = done.after.path ≡ s.path
Knows s Untold = ⊥

-- the mounts of a state are these, all of them told
abbrev pub AllTold : State → List Mount → Type 0
AllTold s mounts = s.path.mounts ≡ map Some mounts

by_test : (s : State) (b : Bool) (one other : Did) → Knows s one → Knows s other → Knows s (if b then one else other)
by_test s true one other first second = first
by_test s false one other first second = second

-- the names of the current wad and of the current map leave the path
abbrev KeepsPath : (Result Res AcquireError → State → State) → Type 0
KeepsPath names = (answer : Result Res AcquireError) (s : State) → (names answer s).path ≡ s.path

module _ (s : State) (mounts : List Mount) (told : AllTold s mounts) where
  knows_loading : (missing name : List ℕ) (did : State → Memory → ℕ → List ℕ → Did) → ((m : Memory) (place : ℕ) (bytes : List ℕ) → Knows s (did s m place bytes)) → (m : Memory) (given : Load) → Knows s (with_load missing name did s m given)
  knows_loading missing name did each m Missing = refl
  knows_loading missing name did each m (Beyond end whole) = refl
  knows_loading missing name did each m (NoRoom shortage) = refl
  knows_loading missing name did each m (At place bytes) = each m place bytes

  -- a load over such mounts is told
  load_is : (name : List ℕ) → load_low s.path.mounts s.memory name ≡ Some (low_load s.memory name (find_in name mounts))
  load_is name = ap (λ (ms : List (Option Mount)). load_low ms s.memory name) told ∙ ap (option_map (low_load s.memory name)) (find_told-all name mounts)

  knows_load : (missing : List ℕ) (did : List ℕ → State → Memory → ℕ → List ℕ → Did) → ((name : List ℕ) (m : Memory) (place : ℕ) (bytes : List ℕ) → Knows s (did name s m place bytes)) → (name : Option (List ℕ)) → Knows s (by_load missing did name s)
  knows_load missing did each None = refl
  knows_load missing did each (Some name) =
      let loading : Loading = low_load s.memory name (find_in name mounts) in
      let known = knows_loading missing name (did name) (each name) loading.after loading.load in
      subst (λ (given : Option Loading). Knows s (with_told missing name (did name) s given)) (sym (load_is name)) known

  knows_block : (did : ℕ → List ℕ → State → Did) → ((size : ℕ) (name : List ℕ) → Knows s (did size name s)) → (size : Option ℕ) (name : Option (List ℕ)) → Knows s (of_number_and_name did size name s)
  knows_block did each None name = refl
  knows_block did each (Some size) None = refl
  knows_block did each (Some size) (Some name) = each size name

  knows_given : (needed : Bool) (tells : Res → List ℕ) (names : Result Res AcquireError → State → State) → KeepsPath names → (name file : List ℕ) (before : Option Acquired) (after : Acquired) → Knows s (with_acquired needed tells names name file s (option_or before (Some after)))
  knows_given needed tells names keeps name file None after = keeps after.answer _
  knows_given needed tells names keeps name file (Some given) after = keeps given.answer _

  -- a resource that is acquired over such mounts is told
  knows_resource : (tells : Res → List ℕ) (names : Result Res AcquireError → State → State) → KeepsPath names → (table : Table) (name : List ℕ) → Knows s (by_resource tells names table name s)
  knows_resource tells names keeps table name =
      let file = file_of table name in
      let before = answered_before s.table s.memory table name in
      let given : Loading = temp_load s.memory file (find_in file mounts) in
      let known : load_temp s.path.mounts s.memory file ≡ Some given = ap (λ (ms : List (Option Mount)). load_temp ms s.memory file) told ∙ ap (option_map (temp_load s.memory file)) (find_told-all file mounts) in
      subst (λ (loading : Option Loading). Knows s (with_acquired (is_none before) tells names name file s (acquire s.table s.memory table name loading))) (sym known)
      (knows_given (is_none before) tells names keeps name file before (answered_after s.table s.memory table name given))

  knows_acquire : (table : Table) (name : Option (List ℕ)) → Knows s (answer_acquire table name s)
  knows_acquire table None = refl
  knows_acquire table (Some name) =
      by_test s (is_game_name (file_of table name)) (acquire_named table name s) (bad_name s) (knows_resource (resource_text name) same_names (λ answer t. refl) table name) refl

  knows_wad : (name : Option (List ℕ)) → Knows s (answer_wad name s)
  knows_wad None = refl
  knows_wad (Some name) = knows_resource (wad_text name) (takes_wad name) (λ answer t. refl) Models name

module _ (s : State) (mounts : List Mount) (told : AllTold s mounts) where
  knows_map : (file : Option (List ℕ)) → Knows s (answer_map file s)
  knows_map None = refl
  knows_map (Some file) = knows_resource (cleared s) mounts told (map_text file) (takes_map file) (λ answer t. refl) Models file

  knows_image : (tells : Kind → (name image : List ℕ) → List ℕ) (table : Option Table) (name : Option (List ℕ)) → Knows s (by_image tells table name s)
  knows_image tells None name = refl
  knows_image tells (Some table) None = refl
  knows_image tells (Some table) (Some name) = refl

  knows_leaf : (image : Option (List ℕ)) (leaf : Option ℕ) → Knows s (of_map_and_leaf image leaf s)
  knows_leaf None leaf = refl
  knows_leaf (Some image) None = refl
  knows_leaf (Some image) (Some leaf) = refl

  module _ (words : List (List ℕ)) where
    knows_cvar : (value : Option (List ℕ)) → Knows s (by_cvar words value s)
    knows_cvar None = refl
    knows_cvar (Some value) = by_test s (eqb (length words) 1) (says s Goes (cvar_text (word_at 0 words) value)) (make_cvar words s) refl refl

    knows_alias : (value : Option (List ℕ)) → Knows s (by_alias words value s)
    knows_alias None = knows_cvar (cvar_value s.memory s.cvars (word_at 0 words))
    knows_alias (Some value) = refl

    knows_verb : (v : Option Verb) → Knows s (by_verb v words s)
    knows_verb None = knows_alias (alias_value s.memory s.newest (word_at 0 words))
    knows_verb (Some verb.File) = knows_load s mounts told (codes "not found: ") shown_file (λ name m place bytes. refl) (name_in 1 words)
    knows_verb (Some verb.Echo) = refl
    knows_verb (Some verb.Exec) = knows_load s mounts told (codes "couldn't exec ") inserted_file (λ name m place bytes. refl) (name_in 1 words)
    knows_verb (Some verb.Wait) = refl
    knows_verb (Some verb.Quit) = refl
    knows_verb (Some verb.Reserve) = knows_block s mounts told reserve_block (λ size name. refl) (number_in 1 words) (name_in 2 words)
    knows_verb (Some verb.Video) = knows_block s mounts told video_block (λ size name. refl) (number_in 1 words) (name_in 2 words)
    knows_verb (Some verb.Level) = refl
    knows_verb (Some verb.Report) = refl
    knows_verb (Some verb.Alias) = by_test s (eqb (length words) 1) (list_aliases s) (make_alias words s) refl refl
    knows_verb (Some verb.Path) = refl
    knows_verb (Some verb.Flush) = refl
    knows_verb (Some verb.Sound) = knows_acquire s mounts told Sounds (name_in 1 words)
    knows_verb (Some verb.Model) = knows_acquire s mounts told Models (name_in 1 words)
    knows_verb (Some verb.Info) = knows_image info_text (table_in 1 words) (name_in 2 words)
    knows_verb (Some verb.Dump) = knows_image (λ kind. dump_text) (table_in 1 words) (name_in 2 words)
    knows_verb (Some verb.Wad) = knows_wad s mounts told (name_in 1 words)
    knows_verb (Some verb.Map) = knows_map (map_in 1 words)
    knows_verb (Some verb.Pic) = refl
    knows_verb (Some verb.Vis) = knows_leaf (map_image s) (number_in 1 words)

    knows_words : Knows s (by_words words s)
    knows_words = by_test s (eqb (length words) 0) (says s Goes []) (by_verb (verb_of (word_at 0 words)) words s) refl (knows_verb (verb_of (word_at 0 words)))

  knows_text : (text : Option (List ℕ)) → Knows s (by_text text s)
  knows_text None = refl
  knows_text (Some text) = by_test s (s.hands && are_strange (words_of text) s) (hand_over text s) (by_words (words_of text) s) refl (knows_words (words_of text))

-- A command over told mounts is told.
pub command_knows : (s : State) (mounts : List Mount) → AllTold s mounts → Knows s (command s)
unfolding command
command_knows s mounts told = knows_text (record s { buffer = (cut s.buffer).rest }) mounts told (short_command (cut s.buffer).command)

-- a run is told to its end, and leaves the path
pub record KnowsEnd (s : State) (ran : Ran) : Type 0 where
  pub end : Ended
  pub is : ran.end ≡ Some end
  pub path : end.after.path ≡ s.path

ends_here : (s after : State) (quit : Bool) (ran : Ran) → ran.end ≡ Some (record { after = after; quit = quit }) → after.path ≡ s.path → KnowsEnd s ran
ends_here s after quit ran is path = record { end = record { after = after; quit = quit }; is = is; path = path }

module _ (s : State) (mounts : List Mount) (told : AllTold s mounts) (ends : Next → Option Bool) (rest : State → Ran) (later : (after : State) → AllTold after mounts → KnowsEnd after (rest after)) where
  gone : (done : Done) → done.after.path ≡ s.path → (end : Option Bool) → KnowsEnd s (gone_on done end rest)
  gone done path None =
      let known = later done.after (ap (λ p. p.mounts) path ∙ told) in
      record { end = known.end; is = known.is; path = known.path ∙ path }
  gone done path (Some quit) = ends_here s done.after quit _ refl path

  going : (did : Did) → Knows s did → KnowsEnd s (continued did ends rest)
  going (Told done) path = gone done path (ends done.next)
  going Untold none = absurd none

by_run : (s : State) (b : Bool) (one other : Ran) → KnowsEnd s one → KnowsEnd s other → KnowsEnd s (if b then one else other)
by_run s true one other first second = first
by_run s false one other first second = second

-- A frame over told mounts is told to its end.
pub frame_knows : (through : Bool) (n : ℕ) (s : State) (mounts : List Mount) → AllTold s mounts → KnowsEnd s (frame through n s)
unfolding frame
frame_knows through zero s mounts told = by_run s (eqb (length s.buffer) 0) _ _ (ends_here s s false _ refl refl) (ends_here s (record s { buffer = [] }) false _ refl refl)
frame_knows through (suc n) s mounts told =
    by_run s (eqb (length s.buffer) 0) _ _ (ends_here s s false _ refl refl)
    (going s mounts told (ending through) (λ after. frame through n after) (λ after still. frame_knows through n after mounts still) (command s) (command_knows s mounts told))

-- So is an input line.
pub line_knows : (text : List ℕ) (s : State) (mounts : List Mount) → AllTold s mounts → KnowsEnd s (line text s)
unfolding line overflowed
line_knows text s mounts told =
    let over = frame_knows false 4096 s mounts told in
    let known : KnowsEnd s (overflowed s) = record { end = over.end; is = over.is; path = over.path } in
    let fits = frame_knows false 4096 (record s { buffer = _ }) mounts told in
    by_run s (fits_in (input text) s.buffer) _ _ (record { end = fits.end; is = fits.is; path = fits.path }) known

-- What is known of such a run is what was known of it before runs could be untold: all of it was put and it ended so, or a fault
-- ended one reply.
pub whole_run : (s : State) (ran : Ran) (known : KnowsEnd s ran) (quit : Bool) (new : State) (start now : Option (List ℕ)) → Runs ran (Ok quit) new start now → IsRun ran.replies known.end quit new start now
whole_run s ran known quit new start now runs = subst (λ e. GoesAs ran.replies e (Ok quit) new start now) known.is runs

pub cut_run : (s : State) (ran : Ran) (known : KnowsEnd s ran) (error : Fault) (new : State) (start now : Option (List ℕ)) → Runs ran (Err error) new start now → IsCutShort ran.replies error start now
cut_run s ran known error new start now runs = subst (λ e. GoesAs ran.replies e (Err error) new start now) known.is runs
