-- What a console keeps stays over the steps of its commands.
use Rattle.std.proofs.Common.{◌≡◌, ◌≢◌, ℕ, List, [], ◌∷◌, Bool, false, Some, None, Option, Result, Ok, Err, sym, ap, ◌∙◌, subst}
use Rattle.std.proofs.lemmas.List.Elements.{All-nil}
use Rattle.mem_model.specs.Memory.{Memory, new_memory}
use Rattle.mem_model.specs.Laid.{Laid, IsText}
use Rattle.mem_model.specs.Zone.{zone_bytes}
use Rattle.mem_model.specs.Apart.{AreUsed}
use Rattle.mem_model.specs.Event.{Shortage}
use Rattle.mem_model.specs.Answer.{Gives}
use Rattle.mem_model.specs.Keeps.{Keeps, beside_zone}
use Rattle.mem_model.specs.Operations.{low_alloc}
use Rattle.mem_model.proofs.Keeping.{Keeps-beside_zone}
use Rattle.mem_model.proofs.Untouched.{zone_bytes-same, zone-low_alloc}
use Rattle.zone_values.specs.Held.{NoneAmong, OthersStay, KeepsAt}
use Rattle.zone_values.proofs.HeldLaws.{some-kept, AreHeld-same, among_turned}
use Rattle.zone_values.proofs.ValueLaws.{some_bytes}
use Rattle.cvar_table.specs.Cvars.{Cvar, HoldsCvars, created, defaults, places_of as cvar_places}
use Rattle.cvar_table.proofs.CreatedLaws.{created_new}
use Rattle.cmd_buffer.specs.Aliases.{Alias, HoldsAliases, aliases_of, alias_places}
use Rattle.cmd_buffer.proofs.AliasLaws.{aliases_still, holds_none, aliases_none}
use Rattle.res_table.specs.Held.{AreHeld, lows_of}
use Rattle.res_table.specs.Resources.{Resources}
use Rattle.res_table.proofs.Holding.{AreHeld-Keeps}
use Rattle.console_session.specs.States.{State, PathSeen, IsNew}
use Rattle.map_change.specs.Marks.{IsLowMark}
use Rattle.console_session.specs.Holding.{Holds}

-- Over a step that leaves what is kept elsewhere, what is held there is held still, and apart from what is kept now.
module _ (m n : Memory) (before now : List ℕ) (stay : OthersStay m n before now) where
  still_used : (places : List ℕ) → NoneAmong places before → AreUsed m places → AreUsed n places
  still_used [] apart used = tt
  still_used (place ∷ places) apart used =
      (some-kept m n place (λ bytes there. (stay place bytes apart.0 there).1) used.0, still_used places apart.1 used.1)

  still_apart : (places : List ℕ) → NoneAmong places before → AreUsed m places → NoneAmong places now
  still_apart [] apart used = tt
  still_apart (place ∷ places) apart used =
      let some = some_bytes (zone_bytes m place) used.0 in
      ((stay place some.0 apart.0 some.1).0, still_apart places apart.1 used.1)

  still_bytes : (places : List ℕ) → NoneAmong places before → KeepsAt m n places
  still_bytes [] apart = tt
  still_bytes (place ∷ places) apart = (λ bytes there. (stay place bytes apart.0 there).1, still_bytes places apart.1)

same_bytes : (m n : Memory) (places : List ℕ) → n.zone ≡ m.zone → KeepsAt m n places
same_bytes m n [] same = tt
same_bytes m n (place ∷ places) same = (λ bytes there. zone_bytes-same n m place same ∙ there, same_bytes m n places same)

-- a step that leaves the zone
pub holds_parts : (s : State) (m : Memory) (table : Resources) → Holds s → Laid m → AreHeld s.path.mounts table m → IsLowMark m.low s.level → m.zone ≡ s.memory.zone → Holds (record s { memory = m; table = table })
holds_parts s m table h laid resources level same =
    let still = aliases_still s.memory m s.newest (same_bytes s.memory m (alias_places (aliases_of s.memory s.newest)) same) h.aliases in
    record {
      laid = laid;
      resources = resources;
      level = level;
      text = h.text;
      cvars = AreHeld-same s.memory m (cvar_places s.cvars) same h.cvars;
      aliases = still.0;
      apart = subst (λ (all : List Alias). NoneAmong (alias_places all) (cvar_places s.cvars)) (sym still.1) h.apart;
    }

-- the same where the tables stay, and the blocks that they name
pub holds_memory : (s : State) (m : Memory) → Holds s → Laid m → IsLowMark m.low s.level → m.zone ≡ s.memory.zone → Keeps (lows_of s.table) [] s.memory m → Holds (record s { memory = m })
holds_memory s m h laid level same keeps =
    holds_parts s m s.table h laid (AreHeld-Keeps s.path.mounts s.table s.memory m h.resources keeps) level same

pub holds_buffer : (s : State) (buffer : List ℕ) → Holds s → IsText buffer → Holds (record s { buffer = buffer })
holds_buffer s buffer h text = record { laid = h.laid; resources = h.resources; level = h.level; text = text; cvars = h.cvars; aliases = h.aliases; apart = h.apart }

-- the names of the current wad and of the current map
pub holds_names : (s : State) (wad map : Option (List ℕ)) → Holds s → Holds (record s { wad = wad; map = map })
holds_names s wad map h = record { laid = h.laid; resources = h.resources; level = h.level; text = h.text; cvars = h.cvars; aliases = h.aliases; apart = h.apart }

-- what is handed over
pub holds_handed : (s : State) (hands : Bool) (handed : Option (List ℕ)) → Holds s → Holds (record s { hands = hands; handed = handed })
holds_handed s hands handed h = record { laid = h.laid; resources = h.resources; level = h.level; text = h.text; cvars = h.cvars; aliases = h.aliases; apart = h.apart }

pub holds_level : (s : State) (level : ℕ) → Holds s → IsLowMark s.memory.low level → Holds (record s { level = level })
holds_level s level h is = record { laid = h.laid; resources = h.resources; level = is; text = h.text; cvars = h.cvars; aliases = h.aliases; apart = h.apart }

-- where the zone's blocks changed alone
held_beside : (s : State) (m : Memory) → Holds s → beside_zone m ≡ beside_zone s.memory → AreHeld s.path.mounts s.table m
held_beside s m h beside = AreHeld-Keeps s.path.mounts s.table s.memory m h.resources (Keeps-beside_zone (lows_of s.table) [] s.memory m beside)

level_beside : (s : State) (m : Memory) → Holds s → beside_zone m ≡ beside_zone s.memory → IsLowMark m.low s.level
level_beside s m h beside = subst (λ l. IsLowMark l s.level) (sym (ap (λ (n : Memory). n.low) beside)) h.level

-- the cvars changed in their blocks
pub holds_cvars : (s : State) (m : Memory) (cvars : List Cvar) → Holds s → Laid m → beside_zone m ≡ beside_zone s.memory → HoldsCvars m cvars → OthersStay s.memory m (cvar_places s.cvars) (cvar_places cvars) →
    Holds (record s { memory = m; cvars = cvars })
holds_cvars s m cvars h laid beside holds stay =
    let places = alias_places (aliases_of s.memory s.newest) in
    let still = aliases_still s.memory m s.newest (still_bytes s.memory m _ _ stay places h.apart) h.aliases in
    record {
      laid = laid;
      resources = held_beside s m h beside;
      level = level_beside s m h beside;
      text = h.text;
      cvars = holds;
      aliases = still.0;
      apart = subst (λ (all : List Alias). NoneAmong (alias_places all) (cvar_places cvars)) (sym still.1) (still_apart s.memory m _ _ stay places h.apart h.aliases.held.used);
    }

-- the aliases changed in their blocks
pub holds_aliases : (s : State) (m : Memory) (newest : Option ℕ) → Holds s → Laid m → beside_zone m ≡ beside_zone s.memory → HoldsAliases m newest →
    OthersStay s.memory m (alias_places (aliases_of s.memory s.newest)) (alias_places (aliases_of m newest)) → Holds (record s { memory = m; newest = newest })
holds_aliases s m newest h laid beside holds stay =
    let places = cvar_places s.cvars in
    let apart = among_turned (alias_places (aliases_of s.memory s.newest)) places h.apart in
    record {
      laid = laid;
      resources = held_beside s m h beside;
      level = level_beside s m h beside;
      text = h.text;
      cvars = record { used = still_used s.memory m _ _ stay places apart h.cvars.used; apart = h.cvars.apart };
      aliases = holds;
      apart = among_turned places (alias_places (aliases_of m newest)) (still_apart s.memory m _ _ stay places apart h.cvars.used);
    }

-- the zone after a low allocation
pub zone_after_low : (m n : Memory) (size : ℕ) (name : List ℕ) (frugal : Bool) (reply : Option (Result ℕ Shortage)) → Gives (low_alloc m size name) frugal m reply n → n.zone ≡ m.zone
zone_after_low m n size name frugal None given = ap (λ (x : Memory). x.zone) given.after
zone_after_low m n size name frugal (Some reply) given = ap (λ (x : Memory). x.zone) given.after ∙ zone-low_alloc m size name

-- at the start
pub holds_first : (m : Memory) (path : PathSeen) (table : Resources) (level : ℕ) (cvars : List Cvar) → Laid m → AreHeld path.mounts table m → IsLowMark m.low level → HoldsCvars m cvars → Holds (record { memory = m; path = path; table = table; buffer = []; level = level; cvars = cvars; newest = None; wad = None; map = None; hands = false; handed = None })
holds_first m path table level cvars laid resources mark holds = record {
  laid = laid;
  resources = resources;
  level = mark;
  text = All-nil (λ byte. byte ≢ 0);
  cvars = holds;
  aliases = holds_none m;
  apart = subst (λ (all : List Alias). NoneAmong (alias_places all) (cvar_places cvars)) (sym (aliases_none m)) tt;
}

-- the zone of a new memory has room for the defaults
pub new_has_room : (m : Memory) → IsNew m → Laid m → (asked : ℕ) → (created m defaults).answer ≡ Err asked → ⊥
new_has_room m new laid asked refused =
    let whole = created_new new.size new.zone 768 new.event_room (subst Laid new.is laid) new.large in
    let given : (created (new_memory new.size new.zone 768 new.event_room) defaults).answer ≡ Err asked = subst (λ (n : Memory). (created n defaults).answer ≡ Err asked) new.is refused in
    absurd (let both : Ok whole.0 ≡ Err asked = sym whole.1 ∙ given in cc)
