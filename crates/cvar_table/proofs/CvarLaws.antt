-- Laws of the cvars, over the definitions alone: what the console needs.
use Rattle.std.proofs.Common.{◌≡◌, ◌≢◌, ℕ, ◌+◌, List, [], ◌∷◌, ◌++◌, Option, Some, None, Result, Ok, Err, true, false, length, refl, sym, ap, subst, ◌∙◌, append_assoc}
use Rattle.std.specs.Prelude.{is_some, IsSome}
use Rattle.std.specs.Option.{option_and_then, option_map}
use Rattle.std.proofs.lemmas.List.{append-nil}
use Rattle.mem_model.specs.Memory.{Memory}
use Rattle.mem_model.specs.Laid.{Laid, IsText}
use Rattle.mem_model.specs.Places.{zone_need}
use Rattle.mem_model.specs.Keeps.{beside_zone}
use Rattle.mem_model.specs.Zone.{zone_bytes}
use Rattle.mem_model.specs.Apart.{NoneIs}
use Rattle.zone_values.specs.Held.{AreHeld, OthersStay}
use Rattle.zone_values.specs.Values.{value_at, replace_value}
use Rattle.zone_values.proofs.ValueLaws.{Laid-replace_value, zone_bytes-replace_value, value_at-replace_value, replace_value-refusal, beside-replace_value}
use Rattle.zone_values.proofs.HeldLaws.{value_at-kept, AreHeld-same, AreHeld-replace_value, AreHeld-turned}
use Rattle.cvar_table.specs.Cvars.{Cvar, cvar_of, cvar_value, with_place, CvarSet, set_cvar, set_found, set_by, places_of, HoldsCvars}
use Rattle.mem_model.proofs.Untouched.{zone_bytes-same}
use Rattle.cvar_table.proofs.Listing.{some-place}
use Rattle.cvar_table.proofs.Setting.{placed_at, cvar_of-with_place, cvar_of-elsewhere, is_some-with_place, none_of_cvar, cvars_apart}

-- Cvars stay held where the zone is the same.
pub HoldsCvars-same : (m n : Memory) (cvars : List Cvar) → n.zone ≡ m.zone → HoldsCvars m cvars → HoldsCvars n cvars
HoldsCvars-same m n cvars same holds = AreHeld-same m n (places_of cvars) same holds

-- what setting gives where the cvar and its new place are known
set_given : (m : Memory) (cvars : List Cvar) (name value : List ℕ) (cvar : Cvar) (answer : Result ℕ ℕ) → cvar_of cvars name ≡ Some cvar → (replace_value m cvar.place value).answer ≡ answer →
    set_cvar m cvars name value ≡ set_by cvars name (replace_value m cvar.place value) answer
unfolding set_cvar
set_given m cvars name value cvar answer found given = ap (set_found m cvars name value) found ∙ ap (set_by cvars name (replace_value m cvar.place value)) given

-- Setting the cvar of a name replaces its value,
pub set_cvar-found : (m : Memory) (cvars : List Cvar) (name value : List ℕ) (cvar : Cvar) (place : ℕ) → cvar_of cvars name ≡ Some cvar → (replace_value m cvar.place value).answer ≡ Ok place →
    set_cvar m cvars name value ≡ record { given = record { answer = Ok true; after = (replace_value m cvar.place value).after }; cvars = with_place cvars name place }
set_cvar-found m cvars name value cvar place found given = set_given m cvars name value cvar (Ok place) found given

-- or is refused,
pub set_cvar-refused : (m : Memory) (cvars : List Cvar) (name value : List ℕ) (cvar : Cvar) (told : ℕ) → cvar_of cvars name ≡ Some cvar → (replace_value m cvar.place value).answer ≡ Err told →
    set_cvar m cvars name value ≡ record { given = record { answer = Err told; after = (replace_value m cvar.place value).after }; cvars = cvars }
set_cvar-refused m cvars name value cvar told found given = set_given m cvars name value cvar (Err told) found given

-- and without such a cvar does nothing.
pub set_cvar-missing : (m : Memory) (cvars : List Cvar) (name value : List ℕ) → cvar_of cvars name ≡ None →
    set_cvar m cvars name value ≡ record { given = record { answer = Ok false; after = m }; cvars = cvars }
unfolding set_cvar
set_cvar-missing m cvars name value missing = ap (set_found m cvars name value) missing

-- What is so of the three outcomes is so of setting.
module _ (P : CvarSet → Type 0) (m : Memory) (cvars : List Cvar) (name value : List ℕ)
    (missing : cvar_of cvars name ≡ None → P (record { given = record { answer = Ok false; after = m }; cvars = cvars }))
    (refused : (cvar : Cvar) (told : ℕ) → cvar_of cvars name ≡ Some cvar → (replace_value m cvar.place value).answer ≡ Err told →
    P (record { given = record { answer = Err told; after = (replace_value m cvar.place value).after }; cvars = cvars }))
    (set : (cvar : Cvar) (place : ℕ) → cvar_of cvars name ≡ Some cvar → (replace_value m cvar.place value).answer ≡ Ok place →
    P (record { given = record { answer = Ok true; after = (replace_value m cvar.place value).after }; cvars = with_place cvars name place })) where
  by_answer : (cvar : Cvar) (answer : Result ℕ ℕ) → cvar_of cvars name ≡ Some cvar → (replace_value m cvar.place value).answer ≡ answer → P (set_by cvars name (replace_value m cvar.place value) answer)
  by_answer cvar (Ok place) found given = set cvar place found given
  by_answer cvar (Err told) found given = refused cvar told found given

  by_cvar : (o : Option Cvar) → cvar_of cvars name ≡ o → P (set_found m cvars name value o)
  by_cvar None found = missing found
  by_cvar (Some cvar) found = by_answer cvar (replace_value m cvar.place value).answer found refl

  set_cases : P (set_cvar m cvars name value)
  unfolding set_cvar
  set_cases = by_cvar (cvar_of cvars name) refl

-- Setting keeps a memory laid out.
pub Laid-set_cvar : (m : Memory) (cvars : List Cvar) (name value : List ℕ) → Laid m → Laid (set_cvar m cvars name value).given.after
Laid-set_cvar m cvars name value laid = set_cases (λ s. Laid s.given.after) m cvars name value (λ h. laid) (λ cvar told h k. Laid-replace_value m cvar.place value laid) (λ cvar place h k. Laid-replace_value m cvar.place value laid)

-- It leaves the bytes of each used block that is none of the cvars'.
pub set_cvar-others : (m : Memory) (cvars : List Cvar) (name value bytes : List ℕ) (place : ℕ) → Laid m → NoneIs place (places_of cvars) → zone_bytes m place ≡ Some bytes → zone_bytes (set_cvar m cvars name value).given.after place ≡ Some bytes
set_cvar-others m cvars name value bytes place laid none there =
    let kept = λ (cvar : Cvar) (h : cvar_of cvars name ≡ Some cvar). zone_bytes-replace_value m value bytes cvar.place place laid (λ same. none_of_cvar place cvars name cvar none h (sym same)) there in
    set_cases (λ s. zone_bytes s.given.after place ≡ Some bytes) m cvars name value (λ h. there) (λ cvar told h k. kept cvar h) (λ cvar new h k. kept cvar h)

-- The places of the cvars stay held, with any others beside them.
pub AreHeld-set_cvar : (m : Memory) (cvars : List Cvar) (name value : List ℕ) (others : List ℕ) → Laid m → AreHeld m (places_of cvars ++ others) →
    AreHeld (set_cvar m cvars name value).given.after (places_of (set_cvar m cvars name value).cvars ++ others)
AreHeld-set_cvar m cvars name value others laid held =
    set_cases (λ s. AreHeld s.given.after (places_of s.cvars ++ others)) m cvars name value
    (λ h. held)
    (λ cvar told h k. AreHeld-same m _ (places_of cvars ++ others) (replace_value-refusal m value cvar.place told k).1 held)
    (λ cvar place h k. (let at = placed_at cvars name cvar h in
    let before = ap (λ ps. ps ++ others) at.2.before ∙ append_assoc at.0 (cvar.place ∷ at.1) others in
    let after = ap (λ ps. ps ++ others) (at.2.after place) ∙ append_assoc at.0 (place ∷ at.1) others in
    subst (AreHeld (replace_value m cvar.place value).after) (sym after) (AreHeld-replace_value m value cvar.place place at.0 (at.1 ++ others) laid k (subst (AreHeld m) before held))))

pub HoldsCvars-set_cvar : (m : Memory) (cvars : List Cvar) (name value : List ℕ) → Laid m → HoldsCvars m cvars → HoldsCvars (set_cvar m cvars name value).given.after (set_cvar m cvars name value).cvars
HoldsCvars-set_cvar m cvars name value laid holds = subst (λ ps. AreHeld (set_cvar m cvars name value).given.after ps) (append-nil _) (AreHeld-set_cvar m cvars name value [] laid (subst (λ ps. AreHeld m ps) (sym (append-nil _)) holds))

-- Used blocks beside those of the cvars stay, and are none of the cvars' afterwards.
pub OthersStay-set_cvar : (m : Memory) (cvars : List Cvar) (name value : List ℕ) → Laid m → HoldsCvars m cvars → OthersStay m (set_cvar m cvars name value).given.after (places_of cvars) (places_of (set_cvar m cvars name value).cvars)
OthersStay-set_cvar m cvars name value laid holds = λ place bytes none there.
    (let beside : AreHeld m (place ∷ places_of cvars) = record { used = (rw there refl, holds.used); apart = (none, holds.apart) } in
    let after = AreHeld-set_cvar m cvars name value (place ∷ []) laid (AreHeld-turned m (place ∷ []) (places_of cvars) beside) in
    ((AreHeld-turned _ (places_of (set_cvar m cvars name value).cvars) (place ∷ []) after).apart.0, set_cvar-others m cvars name value bytes place laid none there))

-- A refusal tells what the block needs, and leaves the zone and the cvars.
pub set_cvar-refusal : (m : Memory) (cvars : List Cvar) (name value : List ℕ) (told : ℕ) → (set_cvar m cvars name value).given.answer ≡ Err told →
    (told ≡ zone_need (length value + 1)) × ((set_cvar m cvars name value).given.after.zone ≡ m.zone) × ((set_cvar m cvars name value).cvars ≡ cvars)
set_cvar-refusal m cvars name value told =
    set_cases (λ s. s.given.answer ≡ Err told → (told ≡ zone_need (length value + 1)) × (s.given.after.zone ≡ m.zone) × (s.cvars ≡ cvars)) m cvars name value
    (λ h e. absurd (cc))
    (λ cvar asked h k e. (let same : asked ≡ told = cc in let refusal = replace_value-refusal m value cvar.place asked k in (sym same ∙ refusal.0, refusal.1, refl)))
    (λ cvar place h k e. absurd (cc))

-- No name comes or goes.
pub is_some-set_cvar : (m : Memory) (cvars : List Cvar) (name value other : List ℕ) → is_some (cvar_of (set_cvar m cvars name value).cvars other) ≡ is_some (cvar_of cvars other)
is_some-set_cvar m cvars name value other =
    set_cases (λ s. is_some (cvar_of s.cvars other) ≡ is_some (cvar_of cvars other)) m cvars name value
    (λ h. refl) (λ cvar told h k. refl) (λ cvar place h k. is_some-with_place cvars name other place)

-- the place of a cvar is used
pub some-cvar : (m : Memory) (cvars : List Cvar) (name : List ℕ) (cvar : Cvar) → HoldsCvars m cvars → cvar_of cvars name ≡ Some cvar → IsSome (zone_bytes m cvar.place)
some-cvar m cvars name cvar holds h = some-place m cvars name cvar.place holds.used (ap (option_map (λ (c : Cvar). c.place)) h)

-- the value of a cvar that is there
value_of_cvar : (m : Memory) (cvars : List Cvar) (name : List ℕ) (cvar : Cvar) → cvar_of cvars name ≡ Some cvar → cvar_value m cvars name ≡ value_at m cvar.place
unfolding cvar_value
value_of_cvar m cvars name cvar h = ap (option_and_then (λ (c : Cvar). value_at m c.place)) h

-- and of one that is not
value_of_none : (m : Memory) (cvars : List Cvar) (name : List ℕ) → cvar_of cvars name ≡ None → cvar_value m cvars name ≡ None
unfolding cvar_value
value_of_none m cvars name h = ap (option_and_then (λ (c : Cvar). value_at m c.place)) h

-- What is set is read back.
pub cvar_value-set_cvar : (m : Memory) (cvars : List Cvar) (name value : List ℕ) → Laid m → HoldsCvars m cvars → IsText value → (set_cvar m cvars name value).given.answer ≡ Ok true →
    cvar_value (set_cvar m cvars name value).given.after (set_cvar m cvars name value).cvars name ≡ Some value
cvar_value-set_cvar m cvars name value laid holds text =
    set_cases (λ s. s.given.answer ≡ Ok true → cvar_value s.given.after s.cvars name ≡ Some value) m cvars name value
    (λ h e. absurd (cc))
    (λ cvar told h k e. absurd (cc))
    (λ cvar place h k e. value_of_cvar _ (with_place cvars name place) name (record cvar { place = place }) (cvar_of-with_place cvars name cvar place h)
    ∙ value_at-replace_value m value cvar.place place laid (some-cvar m cvars name cvar holds h) text k)

-- The cvars keep their values where their blocks keep their bytes,
value_kept : (m n : Memory) (cvars : List Cvar) (name : List ℕ) → ((cvar : Cvar) (bytes : List ℕ) → cvar_of cvars name ≡ Some cvar → zone_bytes m cvar.place ≡ Some bytes → zone_bytes n cvar.place ≡ Some bytes) → HoldsCvars m cvars →
    cvar_value n cvars name ≡ cvar_value m cvars name
value_kept m n cvars name kept holds = by (cvar_of cvars name) refl where
  by : (o : Option Cvar) → cvar_of cvars name ≡ o → cvar_value n cvars name ≡ cvar_value m cvars name
  by None h = value_of_none n cvars name h ∙ sym (value_of_none m cvars name h)
  by (Some cvar) h = value_of_cvar n cvars name cvar h ∙ value_at-kept m n cvar.place (some-cvar m cvars name cvar holds h) (λ bytes there. kept cvar bytes h there) ∙ sym (value_of_cvar m cvars name cvar h)

-- as each used block does.
pub cvar_value-kept : (m n : Memory) (cvars : List Cvar) (name : List ℕ) → ((place : ℕ) (bytes : List ℕ) → zone_bytes m place ≡ Some bytes → zone_bytes n place ≡ Some bytes) → HoldsCvars m cvars →
    cvar_value n cvars name ≡ cvar_value m cvars name
cvar_value-kept m n cvars name kept holds = value_kept m n cvars name (λ cvar bytes h there. kept cvar.place bytes there) holds

-- Each other cvar keeps its value.
pub cvar_value-set_other : (m : Memory) (cvars : List Cvar) (name value other : List ℕ) → Laid m → HoldsCvars m cvars → other ≢ name →
    cvar_value (set_cvar m cvars name value).given.after (set_cvar m cvars name value).cvars other ≡ cvar_value m cvars other
cvar_value-set_other m cvars name value other laid holds differ =
    set_cases (λ s. cvar_value s.given.after s.cvars other ≡ cvar_value m cvars other) m cvars name value
    (λ h. refl)
    (λ cvar told h k. cvar_value-kept m _ cvars other (λ place bytes there. zone_bytes-same _ m place (replace_value-refusal m value cvar.place told k).1 ∙ there) holds)
    (λ cvar place h k. by cvar place h (cvar_of cvars other) refl)
  where
    by : (cvar : Cvar) (place : ℕ) → cvar_of cvars name ≡ Some cvar → (o : Option Cvar) → cvar_of cvars other ≡ o →
        cvar_value (replace_value m cvar.place value).after (with_place cvars name place) other ≡ cvar_value m cvars other
    by cvar place h None k = value_of_none _ (with_place cvars name place) other (cvar_of-elsewhere cvars name other place differ ∙ k) ∙ sym (value_of_none m cvars other k)
    by cvar place h (Some another) k =
        value_of_cvar _ (with_place cvars name place) other another (cvar_of-elsewhere cvars name other place differ ∙ k)
        ∙ value_at-kept m _ another.place (some-cvar m cvars other another holds k) (λ bytes there. zone_bytes-replace_value m value bytes cvar.place another.place laid (cvars_apart cvars name other cvar another holds.apart differ h k) there)
        ∙ sym (value_of_cvar m cvars other another k)

-- Setting changes nothing beside the zone.
pub beside-set_cvar : (m : Memory) (cvars : List Cvar) (name value : List ℕ) → beside_zone (set_cvar m cvars name value).given.after ≡ beside_zone m
beside-set_cvar m cvars name value =
    set_cases (λ s. beside_zone s.given.after ≡ beside_zone m) m cvars name value (λ h. refl)
    (λ cvar told h k. beside-replace_value m value cvar.place) (λ cvar place h k. beside-replace_value m value cvar.place)

-- for callers: `#[tactic(auto, using(cvar_table::proofs::CvarLaws::cvar_laws))]`
pub ruleset cvar_laws = (HoldsCvars-same, Laid-set_cvar, set_cvar-others, AreHeld-set_cvar, HoldsCvars-set_cvar, is_some-set_cvar, cvar_value-set_cvar, cvar_value-set_other, beside-set_cvar)
