-- What a console keeps stays over a caller's calls of the store.
use Rattle.std.proofs.Common.{refl, true, false, cond, ltb, length, arith, ◌++◌, ◌≡◌, ◌≢◌, ℕ, ◌≤◌, List, [], ◌∷◌, Bool, Option, Some, None, Result, Ok, Err, sym, ap, ◌∙◌, subst}
use Rattle.std.specs.Prelude.{IsSome, IfOk, nat_lt}
use Rattle.std.proofs.lemmas.Bool.Decides.{nat_tests}
use Rattle.mem_model.specs.Answer.{Answered, Answers, Gives, noted, with_event}
use Rattle.mem_model.specs.Apart.{NoneIs, AreUsed}
use Rattle.mem_model.specs.Event.{Event, Event.LowFree, FreeRefusal, Shortage}
use Rattle.mem_model.specs.declared.answers.Place.{Place}
use Rattle.mem_model.specs.declared.answers.RoomError.{RoomError}
use Rattle.mem_model.specs.declared.answers.ZoneError.{ZoneError}
use Rattle.mem_model.specs.Blocks.{HunkBlock}
use Rattle.mem_model.specs.Told.{room_answer, zone_answer}
use Rattle.mem_model.specs.Hunk.{cut_above, with_high_bytes, with_low_bytes, with_temp_bytes, with_temp_bytes_of, without_temp}
use Rattle.mem_model.specs.Keeps.{Keeps, beside_high, beside_zone}
use Rattle.mem_model.specs.Laid.{Laid, IsText}
use Rattle.mem_model.specs.Memory.{Memory}
use Rattle.mem_model.specs.Operations.{low_alloc, low_cut, low_free, high_alloc, high_mark, high_free, temp_alloc, z_alloc, z_free}
use Rattle.mem_model.specs.Zone.{with_zone_bytes, zone_bytes}
use Rattle.mem_model.proofs.CacheLaws.{Laid-low_free, beside-high_alloc, beside-high_free, beside-high_mark, beside-temp_alloc, beside-without_temp, beside-z_alloc, beside-z_free}
use Rattle.mem_model.proofs.Keeping.{Keeps-all, Keeps-answer, Keeps-beside_zone, Keeps-gives, Keeps-low_alloc, Keeps-high_alloc, Keeps-high_free, Keeps-high_mark, Keeps-temp_alloc, Keeps-with_low_bytes, Keeps-with_temp_bytes, Keeps-without_temp, beside-with_zone_bytes, low_new-apart}
use Rattle.mem_model.proofs.HighBytes.{Laid-with_high_bytes}
use Rattle.mem_model.proofs.HighLaws.{low_bytes-with_high_bytes}
use Rattle.mem_model.proofs.Laying.{Laid-with_low_bytes}
use Rattle.mem_model.proofs.Newest.{Laid-with_temp_bytes}
use Rattle.mem_model.proofs.Untouched.{zone_bytes-same, zone-low_free, zone-with_low_bytes}
use Rattle.mem_model.proofs.ZoneLaying.{Laid-with_zone_bytes}
use Rattle.mem_model.proofs.ZoneLaws.{NoneIs-z_new, same-z_alloc, same-z_free, zone_bytes-elsewhere}
use Rattle.zone_values.specs.Held.{KeepsAt, NoneAmong}
use Rattle.zone_values.proofs.HeldLaws.{some-kept}
use Rattle.cvar_table.specs.Cvars.{places_of as cvar_places}
use Rattle.cmd_buffer.specs.Aliases.{Alias, aliases_of, alias_places}
use Rattle.cmd_buffer.proofs.AliasLaws.{aliases_still}
use Rattle.res_table.specs.Held.{lows_of}
use Rattle.res_table.specs.Forgotten.{forgotten}
use Rattle.res_table.proofs.Forgetting.{AreHeld-forgotten}
use Rattle.res_table.proofs.Holding.{AreHeld-Keeps}
use Rattle.map_change.specs.Marks.{IsLowMark}
use Rattle.map_change.proofs.Marking.{mark_freed, mark_given}
use Rattle.console_session.specs.Holding.{Holds}
use Rattle.console_session.specs.Hosts.{HasNoResource, HasNoValue, freed_low, left_behind}
use Rattle.console_session.specs.States.{State}
use Rattle.console_session.proofs.Clearing.{holds_high}
use Rattle.console_session.proofs.Holding.{holds_memory, holds_parts, zone_after_low}
use Rattle.console_session.proofs.Marking.{mark_written}

-- a low block was asked for
pub host_low : (s : State) (n : Memory) (size : ℕ) (name : List ℕ) (frugal : Bool) (reply : Option (Result ℕ Shortage)) → Holds s → IsText name → Laid n → Gives (low_alloc s.memory size name) frugal s.memory reply n → Holds (record s { memory = n })
host_low s n size name frugal reply h text laid gives =
    holds_memory s n h laid (mark_given s.memory n size s.level name frugal reply gives h.level) (zone_after_low s.memory n size name frugal reply gives)
    (Keeps-gives (low_alloc s.memory size name) frugal reply gives (Keeps-low_alloc (lows_of s.table) [] s.memory size name h.laid text) (Keeps-all (lows_of s.table) [] s.memory))

-- a high or a temporary block was asked for, and an active temporary one freed first
high_beside : (m n left : Memory) {A : Type 0} (given : Answered A) (frugal : Bool) (reply : Option A) → Gives given frugal left reply n → beside_high given.after ≡ beside_high m → beside_high left ≡ beside_high m → beside_high n ≡ beside_high m
high_beside m n left given frugal None gives there freed = ap beside_high gives.after ∙ freed
high_beside m n left given frugal (Some reply) gives there freed = ap beside_high gives.after ∙ there

pub host_high : (s : State) (n : Memory) (size : ℕ) (name : List ℕ) (frugal : Bool) (reply : Option (Result ℕ Shortage)) → Holds s → IsText name → Laid n → Gives (high_alloc s.memory size name) frugal (without_temp s.memory) reply n → Holds (record s { memory = n })
host_high s n size name frugal reply h text laid gives =
    holds_high s n h laid (high_beside s.memory n (without_temp s.memory) (high_alloc s.memory size name) frugal reply gives (beside-high_alloc s.memory size name) (beside-without_temp s.memory))
    (Keeps-gives (high_alloc s.memory size name) frugal reply gives (Keeps-high_alloc (lows_of s.table) [] s.memory size name h.laid text) (Keeps-without_temp (lows_of s.table) [] s.memory h.laid))

pub host_temp : (s : State) (n : Memory) (size : ℕ) (frugal : Bool) (reply : Option (Result ℕ Shortage)) → Holds s → Laid n → Gives (temp_alloc s.memory size) frugal (without_temp s.memory) reply n → Holds (record s { memory = n })
host_temp s n size frugal reply h laid gives =
    holds_high s n h laid (high_beside s.memory n (without_temp s.memory) (temp_alloc s.memory size) frugal reply gives (beside-temp_alloc s.memory size) (beside-without_temp s.memory))
    (Keeps-gives (temp_alloc s.memory size) frugal reply gives (Keeps-temp_alloc (lows_of s.table) [] s.memory size h.laid) (Keeps-without_temp (lows_of s.table) [] s.memory h.laid))

pub host_high_mark : (s : State) (n : Memory) (reply : ℕ) → Holds s → Laid n → Answers (high_mark s.memory) reply n → Holds (record s { memory = n })
host_high_mark s n reply h laid answers =
    holds_high s n h laid (ap beside_high answers.after ∙ beside-high_mark s.memory) (Keeps-answer answers (Keeps-high_mark (lows_of s.table) [] s.memory h.laid))

pub host_high_free : (s : State) (n : Memory) (mark : ℕ) (reply : Result (Unit {0}) ℕ) → Holds s → Laid n → Answers (high_free s.memory mark) reply n → Holds (record s { memory = n })
host_high_free s n mark reply h laid answers =
    holds_high s n h laid (ap beside_high answers.after ∙ beside-high_free s.memory mark) (Keeps-answer answers (Keeps-high_free (lows_of s.table) [] s.memory mark h.laid))

-- The zone's blocks at these places keep their bytes, where all do, and where all but one do that is none of them.
at_all : (m n : Memory) (places : List ℕ) → ((place : ℕ) → IsSome (zone_bytes m place) → zone_bytes n place ≡ zone_bytes m place) → KeepsAt m n places
at_all m n [] same = tt
at_all m n (place ∷ places) same = (λ bytes there. same place (rw there refl) ∙ there, at_all m n places same)

at_others : (m n : Memory) (but : ℕ) (places : List ℕ) → NoneIs but places → ((place : ℕ) → place ≢ but → IsSome (zone_bytes m place) → zone_bytes n place ≡ zone_bytes m place) → KeepsAt m n places
at_others m n but [] apart same = tt
at_others m n but (place ∷ places) apart same = (λ bytes there. same place apart.0 (rw there refl) ∙ there, at_others m n but places apart.1 same)

used_at : (m n : Memory) (places : List ℕ) → KeepsAt m n places → AreUsed m places → AreUsed n places
used_at m n [] keeps used = tt
used_at m n (place ∷ places) keeps used = (some-kept m n place keeps.0 used.0, used_at m n places keeps.1 used.1)

-- The zone changed, and what the console keeps there stayed.
pub host_zone : (s : State) (n : Memory) → Holds s → Laid n → beside_zone n ≡ beside_zone s.memory → KeepsAt s.memory n (cvar_places s.cvars) → KeepsAt s.memory n (alias_places (aliases_of s.memory s.newest)) → Holds (record s { memory = n })
host_zone s n h laid beside cvars aliases =
    let still = aliases_still s.memory n s.newest aliases h.aliases in
    record {
      laid = laid;
      resources = AreHeld-Keeps s.path.mounts s.table s.memory n h.resources (Keeps-beside_zone (lows_of s.table) [] s.memory n beside);
      level = subst (λ l. IsLowMark l s.level) (sym (ap (λ (x : Memory). x.low) beside)) h.level;
      text = h.text;
      cvars = record { used = used_at s.memory n (cvar_places s.cvars) cvars h.cvars.used; apart = h.cvars.apart };
      aliases = still.0;
      apart = subst (λ (all : List Alias). NoneAmong (alias_places all) (cvar_places s.cvars)) (sym still.1) h.apart;
    }

module _ (s : State) (n : Memory) (size : ℕ) (h : Holds s) where
  z_keeps : {reply : Result ℕ ℕ} → Answers (z_alloc s.memory size) reply n → (places : List ℕ) → KeepsAt s.memory n places
  z_keeps answers places = at_all s.memory n places (λ place some. ap (λ (x : Memory). zone_bytes x place) answers.after ∙ same-z_alloc s.memory size place h.laid some)

  pub host_z_alloc : (frugal : Bool) (reply : Option (Result ℕ ℕ)) → Laid n → Gives (z_alloc s.memory size) frugal s.memory reply n → Holds (record s { memory = n })
  host_z_alloc frugal None laid gives = subst (λ (x : Memory). Holds (record s { memory = x })) (sym gives.after) h
  host_z_alloc frugal (Some reply) laid gives = host_zone s n h laid (ap beside_zone gives.after ∙ beside-z_alloc s.memory size) (z_keeps gives _) (z_keeps gives _)

  -- A new block holds no value.
  pub z_own : (place : ℕ) → Answers (z_alloc s.memory size) (Ok place) n → HasNoValue (record s { memory = n }) place
  z_own place answers =
      let still = aliases_still s.memory n s.newest (z_keeps answers _) h.aliases in
      record {
        cvars = NoneIs-z_new s.memory size place (cvar_places s.cvars) h.laid answers.answer h.cvars.used;
        aliases = subst (λ (all : List Alias). NoneIs place (alias_places all)) (sym still.1) (NoneIs-z_new s.memory size place (alias_places (aliases_of s.memory s.newest)) h.laid answers.answer h.aliases.held.used);
      }

pub host_z_free : (s : State) (n : Memory) (place : ℕ) (reply : Result (Unit {0}) FreeRefusal) → Holds s → HasNoValue s place → Laid n → Answers (z_free s.memory place) reply n → Holds (record s { memory = n })
host_z_free s n place reply h own laid answers =
    let same : (other : ℕ) → other ≢ place → IsSome (zone_bytes s.memory other) → zone_bytes n other ≡ zone_bytes s.memory other =
    λ other apart some. ap (λ (x : Memory). zone_bytes x other) answers.after ∙ same-z_free s.memory place other h.laid apart some in
    host_zone s n h laid (ap beside_zone answers.after ∙ beside-z_free s.memory place) (at_others s.memory n place _ own.cvars same) (at_others s.memory n place _ own.aliases same)

-- Bytes were written that a call lent.
pub host_low_written : (s : State) (place : ℕ) (bytes : List ℕ) → Holds s → HasNoResource s place → Holds (record s { memory = with_low_bytes s.memory place bytes })
host_low_written s place bytes h own =
    holds_memory s (with_low_bytes s.memory place bytes) h (Laid-with_low_bytes s.memory place bytes h.laid) (mark_written s.memory s.level place bytes h.level)
    (zone-with_low_bytes s.memory place bytes) (Keeps-with_low_bytes (lows_of s.table) [] s.memory place bytes own)

keeps_high_written : (lows : List ℕ) (m : Memory) (place : ℕ) (bytes : List ℕ) → Keeps lows [] m (with_high_bytes m place bytes)
unfolding with_high_bytes
keeps_high_written lows m place bytes = record {
  low = λ other old among there. low_bytes-with_high_bytes m place other bytes ∙ there;
  users = λ user b other there. there;
  count = refl;
}

beside_high_written : (m : Memory) (place : ℕ) (bytes : List ℕ) → beside_high (with_high_bytes m place bytes) ≡ beside_high m
unfolding with_high_bytes
beside_high_written m place bytes = refl

pub host_high_written : (s : State) (place : ℕ) (bytes : List ℕ) → Holds s → Holds (record s { memory = with_high_bytes s.memory place bytes })
host_high_written s place bytes h =
    holds_high s (with_high_bytes s.memory place bytes) h (Laid-with_high_bytes s.memory place bytes h.laid) (beside_high_written s.memory place bytes) (keeps_high_written (lows_of s.table) s.memory place bytes)

beside_temp_of : (m : Memory) (bytes : List ℕ) (temp : Option ℕ) → beside_high (with_temp_bytes_of m bytes temp) ≡ beside_high m
beside_temp_of m bytes None = refl
beside_temp_of m bytes (Some mark) = refl

beside_temp_written : (m : Memory) (bytes : List ℕ) → beside_high (with_temp_bytes m bytes) ≡ beside_high m
unfolding with_temp_bytes
beside_temp_written m bytes = beside_temp_of m bytes m.temp

pub host_temp_written : (s : State) (bytes : List ℕ) → Holds s → Holds (record s { memory = with_temp_bytes s.memory bytes })
host_temp_written s bytes h =
    holds_high s (with_temp_bytes s.memory bytes) h (Laid-with_temp_bytes s.memory bytes h.laid) (beside_temp_written s.memory bytes) (Keeps-with_temp_bytes (lows_of s.table) [] s.memory bytes)

pub host_zone_written : (s : State) (place : ℕ) (bytes : List ℕ) → Holds s → HasNoValue s place → Holds (record s { memory = with_zone_bytes s.memory place bytes })
host_zone_written s place bytes h own =
    let same : (other : ℕ) → other ≢ place → IsSome (zone_bytes s.memory other) → zone_bytes (with_zone_bytes s.memory place bytes) other ≡ zone_bytes s.memory other =
    λ other apart some. zone_bytes-elsewhere s.memory place other bytes apart in
    host_zone s (with_zone_bytes s.memory place bytes) h (Laid-with_zone_bytes s.memory place bytes h.laid) (beside-with_zone_bytes s.memory place bytes)
    (at_others s.memory (with_zone_bytes s.memory place bytes) place _ own.cvars same) (at_others s.memory (with_zone_bytes s.memory place bytes) place _ own.aliases same)

-- The low hunk was freed to a mark that isn't below the level.
pub host_low_free : (s : State) (mark : ℕ) → Holds s → s.level ≤ mark → Holds (record s { memory = (low_free s.memory mark).after; table = forgotten mark s.table })
host_low_free s mark h above =
    holds_parts s (low_free s.memory mark).after (forgotten mark s.table) h (Laid-low_free s.memory mark h.laid) (AreHeld-forgotten _ _ _ mark h.resources h.laid)
    (mark_freed s.memory mark s.level h.laid.low h.level above) (zone-low_free s.memory mark)

-- That was refused.
beside_event : (m : Memory) (event : Event) → beside_zone (with_event m event) ≡ beside_zone m
beside_event m event = by (ltb (length m.events) m.event_room)
  where
    by : (t : Bool) → beside_zone (cond t (record m { events = m.events ++ event ∷ [] }) m) ≡ beside_zone m
    by true = refl
    by false = refl

beside_cut : (m : Memory) (mark bad : ℕ) (kept : Option (List HunkBlock)) → (low_cut m mark kept).answer ≡ Err bad → beside_zone (noted (low_cut m mark kept) (Event.LowFree mark)).after ≡ beside_zone m
beside_cut m mark bad None refused = beside_event m _
beside_cut m mark bad (Some kept) refused = absurd (cc)

beside_refused : (m : Memory) (mark bad : ℕ) → (low_free m mark).answer ≡ Err bad → beside_zone (low_free m mark).after ≡ beside_zone m
unfolding low_free
beside_refused m mark bad refused = beside_cut m mark bad (cut_above m.low mark) refused

pub host_low_refused : (s : State) (mark bad : ℕ) → Holds s → (low_free s.memory mark).answer ≡ Err bad → Holds (record s { memory = (low_free s.memory mark).after })
host_low_refused s mark bad h refused =
    let same : (other : ℕ) → IsSome (zone_bytes s.memory other) → zone_bytes (low_free s.memory mark).after other ≡ zone_bytes s.memory other =
    λ other some. zone_bytes-same (low_free s.memory mark).after s.memory other (zone-low_free s.memory mark) in
    host_zone s (low_free s.memory mark).after h (Laid-low_free s.memory mark h.laid) (beside_refused s.memory mark bad refused) (at_all s.memory (low_free s.memory mark).after _ same) (at_all s.memory (low_free s.memory mark).after _ same)

-- What a caller frees is what is left, and it holds.
pub host_freed : (s : State) (mark : ℕ) (n : Memory) (reply : Result (Unit {0}) ℕ) → Holds s → s.level ≤ mark → Answers (low_free s.memory mark) reply n → ((reply, left_behind mark s n reply) ≡ freed_low mark s) × Holds (left_behind mark s n reply)
host_freed s mark n (Ok done) h level answers =
    let above : nat_lt mark s.level ≡ false = grind (arith, nat_tests) in
    (rw (above, answers.answer, answers.after) refl, subst (λ (x : Memory). Holds (record s { memory = x; table = forgotten mark s.table })) (sym answers.after) (host_low_free s mark h level))
host_freed s mark n (Err bad) h level answers =
    let above : nat_lt mark s.level ≡ false = grind (arith, nat_tests) in
    (rw (above, answers.answer, answers.after) refl, subst (λ (x : Memory). Holds (record s { memory = x })) (sym answers.after) (host_low_refused s mark bad h answers.answer))

-- No resource is in a new low block.
pub low_own : (s : State) (n : Memory) (size : ℕ) (name : List ℕ) (frugal : Bool) (result : Result Place RoomError) → Holds s → Gives (low_alloc s.memory size name) frugal s.memory (room_answer result) n → IfOk result (λ place. HasNoResource (record s { memory = n }) place.0)
low_own s n size name frugal (Ok place) h gives = low_new-apart s.memory size place.0 name (lows_of s.table) h.laid gives.answer h.resources.low
low_own s n size name frugal (Err error) h gives = tt

pub zone_own : (s : State) (n : Memory) (size : ℕ) (frugal : Bool) (result : Result Place ZoneError) → Holds s → Gives (z_alloc s.memory size) frugal s.memory (zone_answer result) n → IfOk result (λ place. HasNoValue (record s { memory = n }) place.0)
zone_own s n size frugal (Ok place) h gives = z_own s n size h place.0 gives
zone_own s n size frugal (Err error) h gives = tt
