-- Loading into a low block, where the folders of the path tell their files.
use Rattle.std.proofs.Common.{◌≡◌, ℕ, ◌+◌, List, ◌++◌, Bool, length, drop, option_map, Option, Some, None, IfSome, IfOk, Result, Ok, Err, refl, sym, ap, ◌∙◌}
use Rattle.base_fields.specs.Names.{base_of}
use Rattle.mem_model.specs.Answer.{Answers, Gives}
use Rattle.mem_model.specs.Event.{Shortage}
use Rattle.mem_model.specs.Laid.{Laid}
use Rattle.mem_model.specs.Memory.{Memory}
use Rattle.mem_model.specs.Hunk.{low_bytes, with_low_bytes}
use Rattle.mem_model.specs.Operations.{low_alloc}
use Rattle.mem_model.specs.Told.{room_answer}
use Rattle.mem_model.specs.declared.answers.Place.{Place}
use Rattle.mem_model.specs.declared.answers.RoomError.{RoomError}
use Rattle.mem_model.proofs.Laws.{low_bytes-new, low_bytes-written}
use Rattle.mem_model.proofs.Untouched.{zone-low_alloc, zone-with_low_bytes}
use Rattle.search_paths.specs.declared.answers.FileRef.{FileRef}
use Rattle.search_paths.specs.Answers.{placed}
use Rattle.search_paths.specs.Mounts.{FileAt}
use Rattle.file_load.specs.declared.errors.LoadError.{LoadError}
use Rattle.file_load.specs.Loads.{Loading, low_block, low_load, padded, sought, Loads, IsLoaded}
use Rattle.file_load.specs.Leaves.{IsLowMade, LeavesLow}
use Rattle.file_load.specs.Files.{Finds, IsSought, IsUnreadable}
use Rattle.file_load.specs.Refusals.{refused}
use Rattle.file_load.proofs.Loading.{zeros, zone_after, left_early, left_refused, made, left_unread, early, refusal, what_is, unread, whole}
use Rattle.file_load.proofs.Overwriting.{with_low_bytes-twice}

-- a new block has zeros alone
pub fresh : (m mid : Memory) (size place : ℕ) (name : List ℕ) → Laid m → Answers (low_alloc m (size + 1) name) (Ok place) mid → low_bytes mid place ≡ Some (zeros size)
fresh m mid size place name laid gives = ap (λ (n : Memory). low_bytes n place) gives.after ∙ low_bytes-new m (size + 1) place name laid gives.answer

pub are_zeros : (m mid : Memory) (size place : ℕ) (name old : List ℕ) → Laid m → Answers (low_alloc m (size + 1) name) (Ok place) mid → low_bytes mid place ≡ Some old → old ≡ zeros size
are_zeros m mid size place name old laid gives shows = let new = fresh m mid size place name laid gives in cc

-- the zone stays, also over a write
pub zone_given : (m mid : Memory) (size : ℕ) (name : List ℕ) (frugal : Bool) (reply : Option (Result ℕ Shortage)) → Gives (low_alloc m size name) frugal m reply mid → mid.zone ≡ m.zone
zone_given m mid size name frugal reply gives = zone_after (low_alloc m size name) frugal m m mid reply (zone-low_alloc m size name) refl gives

pub zone_written : (m mid new : Memory) (size place : ℕ) (name bytes : List ℕ) (frugal : Bool) (reply : Option (Result ℕ Shortage)) → Gives (low_alloc m size name) frugal m reply mid → new ≡ with_low_bytes mid place bytes → new.zone ≡ m.zone
zone_written m mid new size place name bytes frugal reply gives wrote =
    ap (λ (n : Memory). n.zone) wrote ∙ zone-with_low_bytes mid place bytes ∙ zone_given m mid size name frugal reply gives

module _ (m : Memory) (name : List ℕ) where
  -- nothing is found to load
  pub leaves_early : (e : LoadError) → IsSought e → LeavesLow m name (Err e) m
  leaves_early e is = left_early (low_block m name) with_low_bytes (IsLowMade m name m) m m e is

  abbrev loaded_in : Option (ℕ × FileAt) → Loading
  loaded_in sight = low_load m name sight

  pub early_low : (told : Option (Option (ℕ × FileAt))) (e : LoadError) → IsSought e → IfSome told (λ sight. Finds (sought sight) (Err e)) → IfSome (option_map loaded_in told) (λ given. Loads given (Err e) m)
  unfolding low_load
  early_low None e is found = tt
  early_low (Some sight) e is found = early (low_block m name) with_low_bytes m (sought sight) (λ loaded. IsLoaded (loaded_in sight) loaded m) e is found

  module _ (file : FileRef) where
    -- no block is given
    pub leaves_refused : (e : RoomError) (frugal : Bool) (new : Memory) → Gives (low_alloc m (file.length + 1) (base_of name)) frugal m (room_answer (Err e)) new → LeavesLow m name (Err (refused e)) new
    leaves_refused e frugal new gives = left_refused (low_block m name) with_low_bytes (IsLowMade m name new) m m new file.length e frugal gives

    pub refused_low : (told : Option (Option (ℕ × FileAt))) (e : RoomError) (frugal : Bool) (new : Memory) → IfSome told (λ sight. Finds (sought sight) (Ok file))
        → Gives (low_alloc m (file.length + 1) (base_of name)) frugal m (room_answer (Err e)) new → IfSome (option_map loaded_in told) (λ given. Loads given (Err (refused e)) new)
    unfolding low_load
    refused_low None e frugal new found gives = tt
    refused_low (Some sight) e frugal new found gives = refusal (low_block m name) with_low_bytes m (sought sight) file found (λ loaded. IsLoaded (loaded_in sight) loaded new) e frugal m new gives

    -- a block is given, and written to
    module _ (place : Place) (mid new : Memory) (old filled : List ℕ) (gives : Answers (low_alloc m (file.length + 1) (base_of name)) (Ok place.0) mid)
        (shows : low_bytes mid place.0 ≡ Some old) (blank : old ≡ zeros file.length) (sized : length filled ≡ length old) (wrote : new ≡ with_low_bytes mid place.0 filled) where
      pub leaves_made : LeavesLow m name (Ok (place, file.length)) new
      leaves_made = made (low_block m name) with_low_bytes file.length place.0 mid new old filled gives blank sized wrote

      -- the file isn't read
      pub leaves_unread : (e : LoadError) → IsUnreadable e → LeavesLow m name (Err e) new
      leaves_unread e is = left_unread (low_block m name) with_low_bytes (IsLowMade m name new) m m new file.length place.0 e is leaves_made

      pub unread_low : (told : Option (Option (ℕ × FileAt))) (e : LoadError) → IsUnreadable e → IfSome told (λ sight. Finds (sought sight) (Ok file)) → IfSome (option_map loaded_in told) (λ given. Loads given (Err e) new)
      unfolding low_load
      unread_low None e is found = tt
      unread_low (Some sight) e is found =
          unread (low_block m name) with_low_bytes m (sought sight) file found place.0 mid gives (λ loaded. IsLoaded (loaded_in sight) loaded new) e is old filled new blank sized wrote
          (with_low_bytes-twice mid place.0 old (padded found.0) filled shows sized)

      -- the file's bytes are in it
      abbrev Fills : Option (ℕ × FileAt) → Type 0
      Fills sight = option_map placed sight ≡ Some file → IfOk (sought sight) (λ bytes. filled ≡ bytes ++ drop file.length old)

      pub loaded_low : (told later : Option (Option (ℕ × FileAt))) → later ≡ told → IfSome told (λ sight. Finds (sought sight) (Ok file)) → IfSome told (λ sight. option_map placed sight ≡ Some file)
          → IfSome later Fills → IfSome (option_map loaded_in told) (λ given. Loads given (Ok (place, file.length)) new)
      unfolding low_load
      loaded_low None later same found first fills = tt
      loaded_low (Some sight) later same found first fills = here (rw same at fills)
        where
          here : Fills sight → IsLoaded (loaded_in sight) (place, file.length) new
          here fill =
              let is = what_is (low_block m name) with_low_bytes m (sought sight) file found place.0 mid gives in
              let all_of : filled ≡ padded found.0 = whole (low_block m name) with_low_bytes m (sought sight) file found place.0 mid gives old filled blank (fill first) in
              record {
                bytes = found.0;
                load = ap (λ (l : Loading). l.load) is;
                length = found.2;
                there = ap (λ (n : Memory). low_bytes n place.0) wrote ∙ low_bytes-written mid place.0 old filled shows sized ∙ ap Some all_of;
                after = wrote ∙ ap (with_low_bytes mid place.0) all_of ∙ sym (ap (λ (l : Loading). l.after) is);
              }
