-- Loading into the temporary block, where the folders of the path tell their files.
use Rattle.std.proofs.Common.{◌≡◌, ℕ, ◌+◌, List, ◌++◌, Bool, length, drop, option_map, Option, Some, None, IfSome, IfOk, Result, Ok, Err, refl, sym, ap, ◌∙◌}
use Rattle.mem_model.specs.Answer.{Answers, Gives}
use Rattle.mem_model.specs.Event.{Shortage}
use Rattle.mem_model.specs.Memory.{Memory}
use Rattle.mem_model.specs.Hunk.{temp_bytes, with_temp_bytes, with_temp_bytes_of, without_temp}
use Rattle.mem_model.specs.Keeps.{beside_high}
use Rattle.mem_model.specs.Operations.{temp_alloc}
use Rattle.mem_model.specs.Told.{room_answer}
use Rattle.mem_model.specs.declared.answers.RoomError.{RoomError}
use Rattle.mem_model.proofs.Laws.{temp_bytes-new, temp_bytes-written}
use Rattle.mem_model.proofs.CacheLaws.{beside-temp_alloc, beside-without_temp}
use Rattle.search_paths.specs.declared.answers.FileRef.{FileRef}
use Rattle.search_paths.specs.Answers.{placed}
use Rattle.search_paths.specs.Mounts.{FileAt}
use Rattle.file_load.specs.declared.errors.LoadError.{LoadError}
use Rattle.file_load.specs.Loads.{Loading, temp_block, with_temp, temp_load, padded, sought, LoadsTemp, IsTempLoaded}
use Rattle.file_load.specs.Leaves.{IsMade, IsTempMade, LeavesTemp}
use Rattle.file_load.specs.Files.{Finds, IsSought, IsUnreadable}
use Rattle.file_load.specs.Refusals.{refused}
use Rattle.file_load.proofs.Loading.{zeros, left_early, left_refused, made, left_unread, early, refusal, what_is, unread, whole}
use Rattle.file_load.proofs.Overwriting.{with_temp_bytes-twice}

-- a new block has zeros alone
pub fresh : (m mid : Memory) (size place : ℕ) → Answers (temp_alloc m (size + 1)) (Ok place) mid → temp_bytes mid ≡ Some (zeros size)
fresh m mid size place gives = ap temp_bytes gives.after ∙ temp_bytes-new m (size + 1) place gives.answer

pub are_zeros : (m mid : Memory) (size place : ℕ) (old : List ℕ) → Answers (temp_alloc m (size + 1)) (Ok place) mid → temp_bytes mid ≡ Some old → old ≡ zeros size
are_zeros m mid size place old gives shows = let new = fresh m mid size place gives in cc

-- what lies beside the high hunk and the cache stays, also over a write
pub beside_given : (m mid : Memory) (size : ℕ) (frugal : Bool) (reply : Option (Result ℕ Shortage)) → Gives (temp_alloc m size) frugal (without_temp m) reply mid → beside_high mid ≡ beside_high m
beside_given m mid size frugal None gives = ap beside_high gives.after ∙ beside-without_temp m
beside_given m mid size frugal (Some reply) gives = ap beside_high gives.after ∙ beside-temp_alloc m size

beside-with_temp_of : (m : Memory) (bytes : List ℕ) (temp : Option ℕ) → beside_high (with_temp_bytes_of m bytes temp) ≡ beside_high m
beside-with_temp_of m bytes None = refl
beside-with_temp_of m bytes (Some mark) = refl

beside-with_temp_bytes : (m : Memory) (bytes : List ℕ) → beside_high (with_temp_bytes m bytes) ≡ beside_high m
unfolding with_temp_bytes
beside-with_temp_bytes m bytes = beside-with_temp_of m bytes m.temp

pub beside_written : (m mid new : Memory) (size : ℕ) (bytes : List ℕ) (frugal : Bool) (reply : Option (Result ℕ Shortage)) → Gives (temp_alloc m size) frugal (without_temp m) reply mid → new ≡ with_temp_bytes mid bytes → beside_high new ≡ beside_high m
beside_written m mid new size bytes frugal reply gives wrote = ap beside_high wrote ∙ beside-with_temp_bytes mid bytes ∙ beside_given m mid size frugal reply gives

module _ (m : Memory) (name : List ℕ) where
  abbrev loaded_in : Option (ℕ × FileAt) → Loading
  loaded_in sight = temp_load m name sight

  -- nothing is found to load
  pub leaves_early : (e : LoadError) → IsSought e → LeavesTemp m (Err e) m
  leaves_early e is = left_early (temp_block m) with_temp (IsTempMade m m) m (without_temp m) e is

  pub early_temp : (told : Option (Option (ℕ × FileAt))) (e : LoadError) → IsSought e → IfSome told (λ sight. Finds (sought sight) (Err e)) → IfSome (option_map loaded_in told) (λ given. LoadsTemp given (Err e) m)
  unfolding temp_load
  early_temp None e is found = tt
  early_temp (Some sight) e is found = early (temp_block m) with_temp m (sought sight) (λ loaded. IsTempLoaded (loaded_in sight) loaded m) e is found

  module _ (file : FileRef) where
    -- no block is given
    pub leaves_refused : (e : RoomError) (frugal : Bool) (new : Memory) → Gives (temp_alloc m (file.length + 1)) frugal (without_temp m) (room_answer (Err e)) new → LeavesTemp m (Err (refused e)) new
    leaves_refused e frugal new gives = left_refused (temp_block m) with_temp (IsTempMade m new) m (without_temp m) new file.length e frugal gives

    pub refused_temp : (told : Option (Option (ℕ × FileAt))) (e : RoomError) (frugal : Bool) (new : Memory) → IfSome told (λ sight. Finds (sought sight) (Ok file))
        → Gives (temp_alloc m (file.length + 1)) frugal (without_temp m) (room_answer (Err e)) new → IfSome (option_map loaded_in told) (λ given. LoadsTemp given (Err (refused e)) new)
    unfolding temp_load
    refused_temp None e frugal new found gives = tt
    refused_temp (Some sight) e frugal new found gives =
        refusal (temp_block m) with_temp m (sought sight) file found (λ loaded. IsTempLoaded (loaded_in sight) loaded new) e frugal (without_temp m) new gives

    -- a block is given, and written to
    module _ (place : ℕ) (mid new : Memory) (old filled : List ℕ) (gives : Answers (temp_alloc m (file.length + 1)) (Ok place) mid)
        (shows : temp_bytes mid ≡ Some old) (blank : old ≡ zeros file.length) (sized : length filled ≡ length old) (wrote : new ≡ with_temp_bytes mid filled) where
      stands : IsMade (temp_block m) with_temp file.length place new
      stands = made (temp_block m) with_temp file.length place mid new old filled gives blank sized wrote

      pub leaves_made : LeavesTemp m (Ok file.length) new
      leaves_made = (place, stands)

      -- the file isn't read
      pub leaves_unread : (e : LoadError) → IsUnreadable e → LeavesTemp m (Err e) new
      leaves_unread e is = left_unread (temp_block m) with_temp (IsTempMade m new) m (without_temp m) new file.length place e is stands

      pub unread_temp : (told : Option (Option (ℕ × FileAt))) (e : LoadError) → IsUnreadable e → IfSome told (λ sight. Finds (sought sight) (Ok file)) → IfSome (option_map loaded_in told) (λ given. LoadsTemp given (Err e) new)
      unfolding temp_load
      unread_temp None e is found = tt
      unread_temp (Some sight) e is found =
          unread (temp_block m) with_temp m (sought sight) file found place mid gives (λ loaded. IsTempLoaded (loaded_in sight) loaded new) e is old filled new blank sized wrote
          (with_temp_bytes-twice mid old (padded found.0) filled shows sized)

      -- the file's bytes are in it
      abbrev Fills : Option (ℕ × FileAt) → Type 0
      Fills sight = option_map placed sight ≡ Some file → IfOk (sought sight) (λ bytes. filled ≡ bytes ++ drop file.length old)

      pub loaded_temp : (told later : Option (Option (ℕ × FileAt))) → later ≡ told → IfSome told (λ sight. Finds (sought sight) (Ok file)) → IfSome told (λ sight. option_map placed sight ≡ Some file)
          → IfSome later Fills → IfSome (option_map loaded_in told) (λ given. LoadsTemp given (Ok file.length) new)
      unfolding temp_load
      loaded_temp None later same found first fills = tt
      loaded_temp (Some sight) later same found first fills = here (rw same at fills)
        where
          here : Fills sight → IsTempLoaded (loaded_in sight) file.length new
          here fill =
              let is = what_is (temp_block m) with_temp m (sought sight) file found place mid gives in
              let all_of : filled ≡ padded found.0 = whole (temp_block m) with_temp m (sought sight) file found place mid gives old filled blank (fill first) in
              record {
                place = place;
                bytes = found.0;
                load = ap (λ (l : Loading). l.load) is;
                length = found.2;
                there = ap temp_bytes wrote ∙ temp_bytes-written mid old filled shows sized ∙ ap Some all_of;
                after = wrote ∙ ap (with_temp_bytes mid) all_of ∙ sym (ap (λ (l : Loading). l.after) is);
              }
