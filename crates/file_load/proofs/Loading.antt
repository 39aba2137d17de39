-- What a load gives, by what was found and what a block was given for it.
use Rattle.std.proofs.Common.{◌≡◌, ℕ, ◌+◌, ◌-◌, ◌<◌, ◌≤◌, Bool, List, ◌++◌, length, get_or, drop, replicate, Option, Some, None, IfOk, Result, Ok, Err, refl, sym, ap, subst, ◌∙◌, add-zero, arith}
use Rattle.std.specs.Prelude.{slice_get}
use Rattle.std.proofs.lemmas.List.{drop-replicate, length-replicate, get_or-drop, get_or-replicate}
use Rattle.std.proofs.lemmas.Grind.{common_steps}
use Rattle.std.proofs.lemmas.Option.{slice_get-get_or}
use Rattle.mem_model.specs.Answer.{Answered, Answers, Gives}
use Rattle.mem_model.specs.Event.{Shortage}
use Rattle.mem_model.specs.Memory.{Memory}
use Rattle.mem_model.specs.Places.{round_up}
use Rattle.mem_model.specs.Told.{room_answer}
use Rattle.mem_model.specs.declared.answers.RoomError.{RoomError}
use Rattle.mem_model.specs.declared.answers.RoomError.TheVariants as room_error
use Rattle.search_paths.specs.declared.answers.FileRef.{FileRef}
use Rattle.file_load.specs.declared.errors.LoadError.{LoadError}
use Rattle.file_load.specs.declared.errors.LoadError.TheVariants as error
use Rattle.file_load.specs.declared.errors.Stage.TheVariants as stage
use Rattle.file_load.specs.Loads.{Load, At, Loading, padded, loading, Tells}
use Rattle.file_load.specs.Leaves.{IsMade, Leaves}
use Rattle.file_load.specs.Files.{Finds, IsSought, IsUnreadable}
use Rattle.file_load.specs.Refusals.{refused}

-- the zone stays, where it does over the operation and what a want of memory leaves
pub zone_after : {A : Type 0} (given : Answered A) (frugal : Bool) (m left new : Memory) (reply : Option A) → given.after.zone ≡ m.zone → left.zone ≡ m.zone → Gives given frugal left reply new → new.zone ≡ m.zone
zone_after given frugal m left new None after stays gives = ap (λ (n : Memory). n.zone) gives.after ∙ stays
zone_after given frugal m left new (Some reply) after stays gives = ap (λ (n : Memory). n.zone) gives.after ∙ after

-- the block that was given has zeros alone
abbrev pub zeros : ℕ → List ℕ
zeros size = replicate (round_up (size + 1) 16) 0

-- its bytes with others in front have a zero right behind these
pub zero_behind : (size : ℕ) (old filled : List ℕ) → old ≡ zeros size → length filled ≡ length old → drop size filled ≡ drop size old → slice_get filled size ≡ Some 0
zero_behind size old filled is sized rest =
    let long : length old ≡ round_up (size + 1) 16 = ap length is ∙ length-replicate {A = ℕ} (round_up (size + 1) 16) 0 in
    let inside : size < length filled = omega arith in
    let at_zero : get_or (zeros size) (size + 0) 0 ≡ 0 = get_or-replicate (round_up (size + 1) 16) (size + 0) 0 0 (omega arith) in
    slice_get-get_or filled size 0 inside
    ∙ ap Some (ap (λ i. get_or filled i 0) (sym (add-zero size)) ∙ sym (get_or-drop size filled 0 0) ∙ ap (λ (zs : List ℕ). get_or zs 0 0) (rest ∙ ap (λ (zs : List ℕ). drop size zs) is) ∙ get_or-drop size (zeros size) 0 0 ∙ at_zero)

pub room_in : (size : ℕ) (old filled : List ℕ) → old ≡ zeros size → length filled ≡ length old → size ≤ length filled
room_in size old filled is sized =
    let long : length old ≡ round_up (size + 1) 16 = ap length is ∙ length-replicate {A = ℕ} (round_up (size + 1) 16) 0 in
    omega arith

padded_is : (bytes old filled : List ℕ) (size : ℕ) → size ≡ length bytes → old ≡ zeros size → filled ≡ bytes ++ drop size old → filled ≡ padded bytes
padded_is bytes old filled size same fresh fill =
    fill ∙ ap (λ (rest : List ℕ). bytes ++ rest) (ap (λ (zs : List ℕ). drop size zs) fresh ∙ drop-replicate size (round_up (size + 1) 16) 0 ∙ ap (λ (n : ℕ). replicate (round_up (n + 1) 16 - n) 0) same)

length-padded : (bytes : List ℕ) (size : ℕ) → size ≡ length bytes → length (padded bytes) ≡ length (zeros size)
length-padded bytes size same = grind (arith, common_steps, length-replicate)

-- What a load does to the memory, whatever the folders tell.
module _ (block : ℕ → Answered (Result ℕ Shortage)) (written : Memory → ℕ → List ℕ → Memory) where
  -- nothing is found to load
  pub left_early : {T : Type 0} (IsIt : T → Type 0) (m left : Memory) (e : LoadError) → IsSought e → Leaves block written IsIt m left (Err e) m
  left_early IsIt m left error.NotFound is = refl
  left_early IsIt m left (error.BeyondPack end whole) is = refl
  left_early IsIt m left (error.NoRoom asked room) is = absurd is
  left_early IsIt m left (error.FolderFault folder stage.Find) is = refl
  left_early IsIt m left (error.FolderFault folder stage.Read) is = absurd (cc)
  left_early IsIt m left error.OutOfMemory is = absurd is

  -- no block is given
  pub left_refused : {T : Type 0} (IsIt : T → Type 0) (m left new : Memory) (size : ℕ) (e : RoomError) (frugal : Bool) → Gives (block size) frugal left (room_answer (Err e)) new → Leaves block written IsIt m left (Err (refused e)) new
  left_refused IsIt m left new size (room_error.NoRoom need room) frugal gives = (size, gives)
  left_refused IsIt m left new size room_error.OutOfMemory frugal gives = gives.after

  -- a block is given, and written to
  pub made : (size place : ℕ) (mid new : Memory) (old filled : List ℕ) → Answers (block size) (Ok place) mid → old ≡ zeros size → length filled ≡ length old → new ≡ written mid place filled → IsMade block written size place new
  made size place mid new old filled gives blank sized wrote = record {
    bytes = filled;
    given = gives.answer;
    length = sized ∙ ap length blank ∙ length-replicate (round_up (size + 1) 16) 0;
    after = wrote ∙ ap (λ (n : Memory). written n place filled) gives.after;
  }

  pub left_unread : {T : Type 0} (IsIt : T → Type 0) (m left new : Memory) (size place : ℕ) (e : LoadError) → IsUnreadable e → IsMade block written size place new → Leaves block written IsIt m left (Err e) new
  left_unread IsIt m left new size place error.NotFound is stands = absurd is
  left_unread IsIt m left new size place (error.BeyondPack end whole) is stands = absurd is
  left_unread IsIt m left new size place (error.NoRoom asked room) is stands = absurd is
  left_unread IsIt m left new size place (error.FolderFault folder stage.Find) is stands = absurd (cc)
  left_unread IsIt m left new size place (error.FolderFault folder stage.Read) is stands = (size, place, stands)
  left_unread IsIt m left new size place error.OutOfMemory is stands = absurd is

-- What it gives, by what was found.
module _ (block : ℕ → Answered (Result ℕ Shortage)) (written : Memory → ℕ → List ℕ → Memory) (m : Memory) (given : Result (List ℕ) Load) where
  abbrev what : Loading
  what = loading block written m given

  -- nothing is found to load
  pub early : {T : Type 0} (IsIt : T → Type 0) (e : LoadError) → IsSought e → Finds given (Err e) → Tells IsIt written what (Err e) m
  early IsIt error.NotFound is found = rw found (record { load = refl; after = refl })
  early IsIt (error.BeyondPack end whole) is found = rw found (record { load = refl; after = refl })
  early IsIt (error.NoRoom asked room) is found = absurd is
  early IsIt (error.FolderFault folder stage.Find) is found = tt
  early IsIt (error.FolderFault folder stage.Read) is found = absurd (cc)
  early IsIt error.OutOfMemory is found = tt

  module _ (file : FileRef) (found : Finds given (Ok file)) where
    -- no block is given
    pub refusal : {T : Type 0} (IsIt : T → Type 0) (e : RoomError) (frugal : Bool) (left new : Memory) → Gives (block file.length) frugal left (room_answer (Err e)) new → Tells IsIt written what (Err (refused e)) new
    refusal IsIt (room_error.NoRoom need room) frugal left new gives =
        let answer : (block (length found.0)).answer ≡ Err (record { asked = need; room = room }) = subst (λ n. (block n).answer ≡ Err (record { asked = need; room = room })) found.2 gives.answer in
        let after : new ≡ (block (length found.0)).after = subst (λ n. new ≡ (block n).after) found.2 gives.after in
        rw (found.1, answer) (record { load = refl; after = after })
    refusal IsIt room_error.OutOfMemory frugal left new gives = tt

    -- a block is given
    module _ (place : ℕ) (mid : Memory) (gives : Answers (block file.length) (Ok place) mid) where
      pub what_is : what ≡ record { load = At place found.0; after = written mid place (padded found.0) }
      what_is =
          let answer : (block (length found.0)).answer ≡ Ok place = subst (λ n. (block n).answer ≡ Ok place) found.2 gives.answer in
          let after : mid ≡ (block (length found.0)).after = subst (λ n. mid ≡ (block n).after) found.2 gives.after in
          rw (found.1, answer, ← after) refl

      -- and the file isn't read
      pub unread : {T : Type 0} (IsIt : T → Type 0) (e : LoadError) → IsUnreadable e → (old unknown : List ℕ) (new : Memory) → old ≡ zeros file.length → length unknown ≡ length old → new ≡ written mid place unknown
          → written (written mid place (padded found.0)) place unknown ≡ written mid place unknown → Tells IsIt written what (Err e) new
      unread IsIt error.NotFound is old unknown new fresh sized wrote twice = absurd is
      unread IsIt (error.BeyondPack end whole) is old unknown new fresh sized wrote twice = absurd is
      unread IsIt (error.NoRoom asked room) is old unknown new fresh sized wrote twice = absurd is
      unread IsIt (error.FolderFault folder stage.Find) is old unknown new fresh sized wrote twice = absurd (cc)
      unread IsIt (error.FolderFault folder stage.Read) is old unknown new fresh sized wrote twice = record {
        place = place;
        bytes = found.0;
        unknown = unknown;
        load = ap (λ (l : Loading). l.load) what_is;
        length = sized ∙ ap length fresh ∙ sym (length-padded found.0 file.length found.2);
        after = wrote ∙ sym twice ∙ ap (λ (l : Loading). written l.after place unknown) (sym what_is);
      }
      unread IsIt error.OutOfMemory is old unknown new fresh sized wrote twice = absurd is

      -- and the file's bytes are in it
      pub whole : (old filled : List ℕ) → old ≡ zeros file.length → IfOk given (λ bytes. filled ≡ bytes ++ drop file.length old) → filled ≡ padded found.0
      whole old filled fresh fill = padded_is found.0 old filled file.length found.2 fresh (rw found.1 at fill)
