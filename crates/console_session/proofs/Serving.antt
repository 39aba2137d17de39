-- What calls of a console do, by what they put and what they leave.
use Rattle.std.proofs.Common.{◌≡◌, ℕ, length, List, [], Bool, true, false, Option, IfSome, IfErr, slice_index, Result, Ok, Err, refl, sym, ◌∙◌, ap, subst, arith}
use Rattle.std.specs.Bool.{OnFalse}
use Rattle.outside_io.specs.declared.outside.Folder.{Ghosts as FolderGhosts}
use Rattle.outside_io.specs.declared.outside.Sink.{Ghosts as SinkGhosts}
use Rattle.mem_model.specs.declared.store.Store.{Ghosts as StoreGhosts}
use Rattle.mem_model.specs.Memory.{Memory}
use Rattle.mem_model.specs.Answer.{Answered, Gives}
use Rattle.mem_model.specs.Event.{Shortage}
use Rattle.mem_model.specs.Told.{room_answer}
use Rattle.cvar_table.specs.Told.{zone_told}
use Rattle.mem_model.specs.declared.answers.Place.{Place}
use Rattle.mem_model.specs.declared.answers.RoomError.{RoomError}
use Rattle.mem_model.specs.declared.answers.RoomError.TheVariants as room
use Rattle.mem_model.specs.declared.answers.ZoneError.{ZoneError}
use Rattle.mem_model.specs.declared.answers.ZoneError.TheVariants as zone
use Rattle.cvar_table.specs.Cvars.{Cvar, CvarSet}
use Rattle.cmd_buffer.specs.Aliases.{AliasSet}
use Rattle.cmd_buffer.specs.AliasCalls.{GivesSet, set_told}
use Rattle.cmd_buffer.specs.declared.aliases.AliasError.{AliasError}
use Rattle.cmd_buffer.specs.declared.aliases.AliasError.TheVariants as alias
use Rattle.search_paths.specs.Path.{PathState, counts_of}
use Rattle.console_session.specs.States.{State, Done, Did, Told, says, Follows, CauseOf, asks}
use Rattle.console_session.specs.Holding.{Holds}
use Rattle.console_session.specs.Telling.{Puts, block_told, cvar_told, alias_told}
use Rattle.console_session.specs.Commands.{given_block, given_text, block_text, short_text, full_text, long_name_text, cvar_was_set, cvar_set_text, alias_was_set, alias_set_text}
use Rattle.console_session.specs.Serving.{seen, path_of, faults_in, calls_in, Does}
use Rattle.console_session.specs.declared.console.Console.{Console}
use Rattle.console_session.specs.declared.ends.Next.{Next}
use Rattle.console_session.specs.declared.ends.Next.TheVariants.{Goes}
use Rattle.console_session.specs.declared.ends.Fault.{Fault}
use Rattle.console_session.specs.declared.ends.Fault.TheVariants as fault
use Rattle.console_session.proofs.Following.{IsSaid, follows, cause_told}

own_cause : (frugal : Bool) (a b : List ℕ) (s t : ℕ) (reply : Result (List ℕ) Fault) → IfErr reply (λ e. (e ≡ fault.Memory) × (frugal ≡ false)) → IfErr reply (λ e. CauseOf frugal a b s t e)
own_cause frugal a b s t (Ok text) short = tt
own_cause frugal a b s t (Err error) short = subst (λ e. CauseOf frugal a b s t e) (sym short.0) short.1

at_false : {P : Type 0} (b : Bool) → P → OnFalse b P
at_false true p = tt
at_false false p = p

-- a state with these of its parts
abbrev pub with_memory : State → Memory → State
with_memory s m = record s { memory = m }

abbrev pub with_cvars : State → Memory → List Cvar → State
with_cvars s m cvars = record s { memory = m; cvars = cvars }

abbrev pub with_newest : State → Memory → Option ℕ → State
with_newest s m newest = record s { memory = m; newest = newest }

-- what is done where a block, a cvar or an alias was asked for
abbrev block_done : State → (title name : List ℕ) → ℕ → Answered (Result ℕ Shortage) → Done
block_done s title name size given = record { after = with_memory s given.after; reply = record { text = given_text title name size given.answer; load = false; takes = true }; next = Goes }

abbrev cvar_done : State → CvarSet → Done
cvar_done s given = record { after = with_cvars s given.given.after given.cvars; reply = record { text = cvar_set_text given.given.answer; load = false; takes = true }; next = Goes }

abbrev alias_done : State → AliasSet → Done
alias_done s given = record { after = with_newest s given.after given.newest; reply = record { text = alias_set_text given.answer; load = false; takes = true }; next = Goes }

module _ {M F O : Type 0} (store : StoreGhosts M) (folder : FolderGhosts F) (sink : SinkGhosts O) (old new : Console M F) (before now : O) (result : Result Next Fault) where
  -- the same command under another name
  pub does_as : (answer other : State → Did) → answer (seen store folder old) ≡ other (seen store folder old) → Does store folder sink other old new before now result → Does store folder sink answer old new before now result
  does_as answer other is does = record {
    told = subst (λ d. Follows d result (seen store folder new) (sink.got before) (sink.got now)) (sym is) does.told;
    path = does.path;
    holds = does.holds;
    causes = does.causes;
    calls = subst (λ d. OnFalse (asks d) (calls_in folder new ≡ calls_in folder old)) (sym is) does.calls;
  }

  -- the same from a console with another buffer
  pub does_from : (answer other : State → Did) (buffer : List ℕ) → answer (seen store folder old) ≡ other (record (seen store folder old) { buffer = buffer }) → Does store folder sink other (record old { buffer = buffer }) new before now result
      → Does store folder sink answer old new before now result
  does_from answer other buffer is does = record {
    told = subst (λ d. Follows d result (seen store folder new) (sink.got before) (sink.got now)) (sym is) does.told;
    path = does.path;
    holds = does.holds;
    causes = does.causes;
    calls = subst (λ d. OnFalse (asks d) (calls_in folder new ≡ calls_in folder old)) (sym is) does.calls;
  }

  -- A command that calls no folder: it says what it says, or ends for want of memory.
  pub does_said : (answer : State → Did) (done : Done) (reply : Result (List ℕ) Fault) → answer (seen store folder old) ≡ Told done → IsSaid done reply (seen store folder new) → IfErr reply (λ e. (e ≡ fault.Memory) × (store.frugal ≡ false))
      → new.paths ≡ old.paths → Holds (seen store folder new) → Puts sink reply Goes before now result → Does store folder sink answer old new before now result
  does_said answer done reply is said short paths holds puts =
      let a = faults_in folder old in
      let b = faults_in folder new in
      let own : (r : Result (List ℕ) Fault) → IfErr r (λ e. (e ≡ fault.Memory) × (store.frugal ≡ false)) → IfErr r (λ e. CauseOf store.frugal a b (sink.sink_faults before) (sink.sink_faults now) e) =
      own_cause store.frugal a b (sink.sink_faults before) (sink.sink_faults now) in
      record {
        told = subst (λ d. Follows d result (seen store folder new) (sink.got before) (sink.got now)) (sym is) (follows done reply result (seen store folder new) (sink.got before) (sink.got now) said puts.told);
        path = ap (λ (p : PathState F). path_of folder p) paths;
        holds = holds;
        causes = record {
          none_falls = λ number. omega (arith, ap (λ (p : PathState F). slice_index (counts_of folder.folder_faults p) number) paths);
          folders = ap (λ (p : PathState F). length (counts_of folder.folder_faults p)) paths;
          sink_counts = puts.counts;
          cause = cause_told Goes store.frugal a b (sink.sink_faults before) (sink.sink_faults now) reply result (sink.got before) (sink.got now) puts.told puts.cause (own reply short);
        };
        calls = subst (λ d. OnFalse (asks d) (calls_in folder new ≡ calls_in folder old)) (sym is) (at_false done.reply.load (ap (λ (p : PathState F). counts_of folder.folder_calls p) paths));
      }

  -- a command that says this and asks for nothing
  pub does_says : (answer : State → Did) (text : List ℕ) → answer (seen store folder old) ≡ says (seen store folder new) Goes text → new.paths ≡ old.paths → Holds (seen store folder new) → Puts sink (Ok text) Goes before now result
      → Does store folder sink answer old new before now result
  does_says answer text is paths holds puts =
      does_said answer (record { after = seen store folder new; reply = record { text = text; load = false; takes = false }; next = Goes }) (Ok text) is (refl, refl, refl) tt paths holds puts

  -- a block was asked for
  pub does_block : (answer : State → Did) (title name : List ℕ) (size : ℕ) (given : Answered (Result ℕ Shortage)) (left : Memory) (code : Result Place RoomError) → answer (seen store folder old) ≡ given_block (seen store folder old) title name size given
      → Gives given store.frugal left (room_answer code) (store.state new.store) → seen store folder new ≡ record (seen store folder old) { memory = store.state new.store } → new.paths ≡ old.paths → Holds (seen store folder new)
      → Puts sink (block_told title name size code) Goes before now result → Does store folder sink answer old new before now result
  does_block answer title name size given left (Ok place) is gives moved paths holds puts =
      does_said answer (block_done (seen store folder old) title name size given) (Ok (block_text title name size place.0)) is
      (ap (given_text title name size) gives.answer, refl, moved ∙ ap (with_memory (seen store folder old)) gives.after) tt paths holds puts
  does_block answer title name size given left (Err (room.NoRoom asked rest)) is gives moved paths holds puts =
      does_said answer (block_done (seen store folder old) title name size given) (Ok (short_text asked)) is
      (ap (given_text title name size) gives.answer, refl, moved ∙ ap (with_memory (seen store folder old)) gives.after) tt paths holds puts
  does_block answer title name size given left (Err room.OutOfMemory) is gives moved paths holds puts =
      does_said answer (block_done (seen store folder old) title name size given) (Err fault.Memory) is refl (refl, gives.not_frugal) paths holds puts

  -- a cvar was set, or the zone refused
  pub does_cvar : (answer : State → Did) (given : CvarSet) (left : Memory) (code : Result Bool ZoneError) → answer (seen store folder old) ≡ cvar_was_set (seen store folder old) given
      → Gives given.given store.frugal left (zone_told code) (store.state new.store) → IfSome (zone_told code) (λ _. new.cvars ≡ given.cvars)
      → seen store folder new ≡ record (seen store folder old) { memory = store.state new.store; cvars = new.cvars } → new.paths ≡ old.paths → Holds (seen store folder new)
      → Puts sink (cvar_told code) Goes before now result → Does store folder sink answer old new before now result
  does_cvar answer given left (Ok found) is gives cvars moved paths holds puts =
      does_said answer (cvar_done (seen store folder old) given) (Ok []) is
      (ap cvar_set_text gives.answer, refl, moved ∙ ap (λ (m : Memory). with_cvars (seen store folder old) m new.cvars) gives.after ∙ ap (with_cvars (seen store folder old) given.given.after) cvars) tt paths holds puts
  does_cvar answer given left (Err (zone.Full asked)) is gives cvars moved paths holds puts =
      does_said answer (cvar_done (seen store folder old) given) (Ok (full_text asked)) is
      (ap cvar_set_text gives.answer, refl, moved ∙ ap (λ (m : Memory). with_cvars (seen store folder old) m new.cvars) gives.after ∙ ap (with_cvars (seen store folder old) given.given.after) cvars) tt paths holds puts
  does_cvar answer given left (Err zone.OutOfMemory) is gives cvars moved paths holds puts =
      does_said answer (cvar_done (seen store folder old) given) (Err fault.Memory) is refl (refl, gives.not_frugal) paths holds puts

  -- an alias was set, or refused
  pub does_alias : (answer : State → Did) (given : AliasSet) (code : Result (Unit {0}) AliasError) → answer (seen store folder old) ≡ alias_was_set (seen store folder old) given
      → GivesSet given store.frugal (store.state old.store) old.aliases (set_told code) (store.state new.store) new.aliases
      → seen store folder new ≡ record (seen store folder old) { memory = store.state new.store; newest = new.aliases } → new.paths ≡ old.paths → Holds (seen store folder new)
      → Puts sink (alias_told code) Goes before now result → Does store folder sink answer old new before now result
  does_alias answer given (Ok done) is gives moved paths holds puts =
      does_said answer (alias_done (seen store folder old) given) (Ok []) is
      (ap alias_set_text gives.answer, refl, moved ∙ ap (λ (m : Memory). with_newest (seen store folder old) m new.aliases) gives.after ∙ ap (with_newest (seen store folder old) given.after) gives.newest) tt paths holds puts
  does_alias answer given (Err alias.LongName) is gives moved paths holds puts =
      does_said answer (alias_done (seen store folder old) given) (Ok long_name_text) is
      (ap alias_set_text gives.answer, refl, moved ∙ ap (λ (m : Memory). with_newest (seen store folder old) m new.aliases) gives.after ∙ ap (with_newest (seen store folder old) given.after) gives.newest) tt paths holds puts
  does_alias answer given (Err (alias.Zone (zone.Full asked))) is gives moved paths holds puts =
      does_said answer (alias_done (seen store folder old) given) (Ok (full_text asked)) is
      (ap alias_set_text gives.answer, refl, moved ∙ ap (λ (m : Memory). with_newest (seen store folder old) m new.aliases) gives.after ∙ ap (with_newest (seen store folder old) given.after) gives.newest) tt paths holds puts
  does_alias answer given (Err (alias.Zone zone.OutOfMemory)) is gives moved paths holds puts =
      does_said answer (alias_done (seen store folder old) given) (Err fault.Memory) is refl (refl, gives.not_frugal) paths holds puts
