-- Laws of the creation of cvars, over the definitions alone: what the console needs.
use Rattle.std.proofs.Common.{◌≡◌, ℕ, ◌+◌, ◌-◌, ◌*◌, ◌<◌, ◌≤◌, ◌≢◌, inl, inr, Bool, true, false, not, cond, eqb, length, arith, bytes_eq, find, List, [], ◌∷◌, ◌++◌, Some, Result, Ok, Err, map, refl, sym, ap, subst, ◌∙◌}
use Rattle.std.specs.Prelude.{codes}
use Rattle.std.specs.Option.{option_map, option_and_then}
use Rattle.std.specs.List.{AllByRecursion, list_all}
use Rattle.std.proofs.lemmas.List.{append-nil}
use Rattle.std.proofs.lemmas.List.Elements.{All-from_recursion}
use Rattle.std.proofs.lemmas.Bool.Decides.{eqb_tells}
use Rattle.mem_model.specs.Memory.{Memory, new_memory}
use Rattle.mem_model.specs.Answer.{Answered}
use Rattle.mem_model.specs.Laid.{Laid, IsText}
use Rattle.mem_model.specs.Places.{zone_need}
use Rattle.mem_model.specs.Keeps.{beside_zone}
use Rattle.mem_model.specs.Zone.{zone_bytes}
use Rattle.zone_values.specs.Held.{AreHeld}
use Rattle.zone_values.specs.Values.{value_at, put_value}
use Rattle.zone_values.proofs.ValueLaws.{Laid-put_value, zone_bytes-put_value, value_at-put_value, some-put_new, beside-put_value}
use Rattle.zone_values.proofs.HeldLaws.{value_at-kept, AreHeld-put_new, AreHeld-first}
use Rattle.zone_values.proofs.OneFree.{free_sizes, put_value-one_free, free_sizes-put_value}
use Rattle.cvar_table.specs.Cvars.{Cvar, Default, defaults, cvar_of, cvar_value, created, created_by, created_first, places_of, HoldsCvars}

-- what is so of the memory after the first block, and after the rest
by_first : (P : Memory → Type 0) (name : List ℕ) (answer : Result ℕ ℕ) (n : Memory) (rest : Memory → Answered (Result (List Cvar) ℕ)) → P n → P (rest n).after → P (created_by name answer n rest).after
by_first P name (Ok place) n rest first all = all
by_first P name (Err asked) n rest first all = first

-- Creating keeps a memory laid out.
pub Laid-created : (m : Memory) (ds : List Default) → Laid m → Laid (created m ds).after
unfolding created
Laid-created m [] laid = laid
Laid-created m (d ∷ ds) laid =
    let first = Laid-put_value m d.value laid in
    by_first Laid d.name _ _ (λ n. created n ds) first (Laid-created (put_value m d.value).after ds first)

-- It leaves the bytes of each block that was used before.
pub zone_bytes-created : (m : Memory) (ds : List Default) (place : ℕ) (bytes : List ℕ) → Laid m → zone_bytes m place ≡ Some bytes → zone_bytes (created m ds).after place ≡ Some bytes
unfolding created
zone_bytes-created m [] place bytes laid there = there
zone_bytes-created m (d ∷ ds) place bytes laid there =
    let first = zone_bytes-put_value m d.value bytes place laid there in
    by_first (λ n. zone_bytes n place ≡ Some bytes) d.name _ _ (λ n. created n ds) first (zone_bytes-created (put_value m d.value).after ds place bytes (Laid-put_value m d.value laid) first)

-- It changes nothing beside the zone.
pub beside-created : (m : Memory) (ds : List Default) → beside_zone (created m ds).after ≡ beside_zone m
unfolding created
beside-created m [] = refl
beside-created m (d ∷ ds) =
    let first = beside-put_value m d.value in
    by_first (λ n. beside_zone n ≡ beside_zone m) d.name _ _ (λ n. created n ds) first (beside-created (put_value m d.value).after ds ∙ first)

-- What a creation of some cvars did: the block of the first, and the rest.
pub record IsCreated (m : Memory) (d : Default) (ds : List Default) (cvars : List Cvar) : Type 0 where
  pub place : ℕ
  pub others : List Cvar
  pub put : (put_value m d.value).answer ≡ Ok place
  pub rest : (created (put_value m d.value).after ds).answer ≡ Ok others
  pub after : (created m (d ∷ ds)).after ≡ (created (put_value m d.value).after ds).after
  pub all : cvars ≡ record { name = d.name; place = place } ∷ others

pub is_created : (m : Memory) (d : Default) (ds : List Default) (cvars : List Cvar) → (created m (d ∷ ds)).answer ≡ Ok cvars → IsCreated m d ds cvars
unfolding created
is_created m d ds cvars h = by_put (put_value m d.value).answer refl h where
  by_rest : (place : ℕ) (answer : Result (List Cvar) ℕ) → (put_value m d.value).answer ≡ Ok place → (created (put_value m d.value).after ds).answer ≡ answer → created_first (record { name = d.name; place = place }) answer ≡ Ok cvars → IsCreated m d ds cvars
  by_rest place (Ok others) put rest e = record {
    place = place;
    others = others;
    put = put;
    rest = rest;
    after = ap (λ (answer : Result ℕ ℕ). (created_by d.name answer (put_value m d.value).after (λ n. created n ds)).after) put;
    all = (let same : record { name = d.name; place = place } ∷ others ≡ cvars = cc in sym same);
  }
  by_rest place (Err asked) put rest e = absurd (cc)

  by_put : (answer : Result ℕ ℕ) → (put_value m d.value).answer ≡ answer → (created_by d.name answer (put_value m d.value).after (λ n. created n ds)).answer ≡ Ok cvars → IsCreated m d ds cvars
  by_put (Ok place) put e = by_rest place (created (put_value m d.value).after ds).answer put refl e
  by_put (Err asked) put e = absurd (cc)

-- The places of the new cvars are held, beside any others that were.
pub AreHeld-created : (m : Memory) (ds : List Default) (cvars : List Cvar) (others : List ℕ) → Laid m → AreHeld m others → (created m ds).answer ≡ Ok cvars → AreHeld (created m ds).after (places_of cvars ++ others)
unfolding created
AreHeld-created m [] cvars others laid held h =
    let none : [] ≡ cvars = cc in
    subst (λ (cs : List Cvar). AreHeld m (places_of cs ++ others)) none held
AreHeld-created m (d ∷ ds) cvars others laid held h =
    let is = is_created m d ds cvars h in
    let first = AreHeld-put_new m d.value is.place others laid is.put held in
    let all = AreHeld-created (put_value m d.value).after ds is.others (is.place ∷ others) (Laid-put_value m d.value laid) first is.rest in
    subst (λ (cs : List Cvar). AreHeld (created m (d ∷ ds)).after (places_of cs ++ others)) (sym is.all)
    (subst (λ (n : Memory). AreHeld n (is.place ∷ (places_of is.others ++ others))) (sym is.after) (AreHeld-first _ is.place (places_of is.others) others all))

pub HoldsCvars-created : (m : Memory) (ds : List Default) (cvars : List Cvar) → Laid m → (created m ds).answer ≡ Ok cvars → HoldsCvars (created m ds).after cvars
HoldsCvars-created m ds cvars laid h =
    subst (λ ps. AreHeld (created m ds).after ps) (append-nil (places_of cvars)) (AreHeld-created m ds cvars [] laid (record { used = tt; apart = tt }) h)

-- The new cvars have the names of the defaults,
pub names-created : (m : Memory) (ds : List Default) (cvars : List Cvar) → (created m ds).answer ≡ Ok cvars → map (λ (c : Cvar). c.name) cvars ≡ map (λ (d : Default). d.name) ds
unfolding created
names-created m [] cvars h = (let none : [] ≡ cvars = cc in ap (map (λ (c : Cvar). c.name)) (sym none))
names-created m (d ∷ ds) cvars h =
    let is = is_created m d ds cvars h in
    ap (map (λ (c : Cvar). c.name)) is.all ∙ ap (λ names. d.name ∷ names) (names-created (put_value m d.value).after ds is.others is.rest)

-- and their values.
pub values-created : (m : Memory) (ds : List Default) (cvars : List Cvar) → Laid m → AllByRecursion (λ (d : Default). IsText d.value) ds → (created m ds).answer ≡ Ok cvars →
    map (λ (c : Cvar). value_at (created m ds).after c.place) cvars ≡ map (λ (d : Default). Some d.value) ds
unfolding created
values-created m [] cvars laid texts h = (let none : [] ≡ cvars = cc in ap (map (λ (c : Cvar). value_at m c.place)) (sym none))
values-created m (d ∷ ds) cvars laid texts h =
    let is = is_created m d ds cvars h in
    let n = (put_value m d.value).after in
    let first = Laid-put_value m d.value laid in
    let kept = value_at-kept n (created n ds).after is.place (some-put_new m d.value is.place laid is.put) (λ bytes there. zone_bytes-created n ds is.place bytes first there) in
    ap (map (λ (c : Cvar). value_at (created m (d ∷ ds)).after c.place)) is.all
    ∙ ap (λ (k : Memory). value_at k is.place ∷ map (λ (c : Cvar). value_at k c.place) is.others) is.after
    ∙ ap (λ v. v ∷ map (λ (c : Cvar). value_at (created n ds).after c.place) is.others) (kept ∙ value_at-put_value m d.value is.place laid texts.0 is.put)
    ∙ ap (λ vs. Some d.value ∷ vs) (values-created n ds is.others first texts.1 is.rest)

-- what is read of cvars whose names and values are those of defaults
read_back : (n : Memory) (ds : List Default) (cvars : List Cvar) (name : List ℕ) → map (λ (c : Cvar). c.name) cvars ≡ map (λ (d : Default). d.name) ds → map (λ (c : Cvar). value_at n c.place) cvars ≡ map (λ (d : Default). Some d.value) ds →
    cvar_value n cvars name ≡ option_map (λ (d : Default). d.value) (find (λ (d : Default). bytes_eq d.name name) ds)
unfolding cvar_value cvar_of
read_back n [] [] name names values = refl
read_back n [] (c ∷ cvars) name names values = absurd (cc)
read_back n (d ∷ ds) [] name names values = absurd (cc)
read_back n (d ∷ ds) (c ∷ cvars) name names values =
    let own : c.name ≡ d.name = cc in
    let value : value_at n c.place ≡ Some d.value = cc in
    ap (λ (t : Bool). option_and_then (λ (k : Cvar). value_at n k.place) (cond t (Some c) (cvar_of cvars name))) (ap (λ own. bytes_eq own name) own)
    ∙ (elim (bytes_eq d.name name) as (λ t.
    option_and_then (λ (k : Cvar). value_at n k.place) (cond t (Some c) (cvar_of cvars name)) ≡ option_map (λ (e : Default). e.value) (cond t (Some d) (find (λ (e : Default). bytes_eq e.name name) ds))) [
      | true ↦ value
      | false ↦ read_back n ds cvars name (cc) (cc)
    ])

-- A cvar is read as the default of its name.
pub cvar_value-created : (m : Memory) (ds : List Default) (cvars : List Cvar) (name : List ℕ) → Laid m → AllByRecursion (λ (d : Default). IsText d.value) ds → (created m ds).answer ≡ Ok cvars →
    cvar_value (created m ds).after cvars name ≡ option_map (λ (d : Default). d.value) (find (λ (d : Default). bytes_eq d.name name) ds)
cvar_value-created m ds cvars name laid texts h = read_back (created m ds).after ds cvars name (names-created m ds cvars h) (values-created m ds cvars laid texts h)

-- bytes that all pass a test for zero are a text
text_of : (bytes : List ℕ) → list_all (λ byte. not (eqb byte 0)) bytes ≡ true → IsText bytes
text_of bytes h = All-from_recursion (λ byte. byte ≢ 0) bytes (each bytes h) where
  each : (bs : List ℕ) → list_all (λ byte. not (eqb byte 0)) bs ≡ true → AllByRecursion (λ byte. byte ≢ 0) bs
  each [] h = tt
  each (b ∷ bs) h = elim (eqb_tells b 0) [
    | inl zero ↦ absurd (let fails = rw zero.0 at h in cc)
    | inr other ↦ (other.1, each bs (rw other.0 at h))
  ]

-- the values of the defaults are texts
defaults_texts : AllByRecursion (λ (d : Default). IsText d.value) defaults
defaults_texts =
    (text_of (codes "0") refl, (text_of (codes "0.7") refl, (text_of (codes "1") refl, (text_of (codes "3") refl, (text_of (codes "100") refl, (text_of (codes "0") refl, (text_of (codes "1") refl, (text_of (codes "90") refl, tt))))))))

-- the first cvar, and the others
first_created : (name : List ℕ) (n : Memory) (ds : List Default) (place : ℕ) (others : List Cvar) (answer : Result ℕ ℕ) → answer ≡ Ok place → (created n ds).answer ≡ Ok others →
    (created_by name answer n (λ k. created k ds)).answer ≡ Ok (record { name = name; place = place } ∷ others)
first_created name n ds place others (Ok at) given rest =
    let same : at ≡ place = cc in
    ap (created_first (record { name = name; place = at })) rest ∙ ap (λ p. Ok (record { name = name; place = p } ∷ others)) same
first_created name n ds place others (Err asked) given rest = absurd (cc)

-- what room for each value and 64 bytes more gives
created_within : (m : Memory) (ds : List Default) (room : ℕ) → Laid m → AllByRecursion (λ (d : Default). length d.value ≤ 3) ds → free_sizes m.zone.blocks ≡ room ∷ [] → 32 * length ds + 64 < room →
    (cvars : List Cvar) × ((created m ds).answer ≡ Ok cvars)
unfolding created
created_within m [] room laid short free fits = ([], refl)
created_within m (d ∷ ds) room laid short free fits =
    let need : zone_need (length d.value + 1) ≡ 32 = omega (arith, short.0) in
    let put = put_value-one_free m d.value room free (omega (arith, need)) in
    let left = free_sizes-put_value m d.value room laid free (omega (arith, need)) in
    let rest = created_within (put_value m d.value).after ds (room - zone_need (length d.value + 1)) (Laid-put_value m d.value laid) short.1 left (omega (arith, need)) in
    (record { name = d.name; place = put.0 } ∷ rest.0, first_created d.name (put_value m d.value).after ds put.0 rest.0 (put_value m d.value).answer put.1 rest.1)

-- Over a zone with one free block of more than 320 bytes, as that of a new store has, no default is refused.
pub created_whole : (m : Memory) (room : ℕ) → Laid m → free_sizes m.zone.blocks ≡ room ∷ [] → 320 < room → (cvars : List Cvar) × ((created m defaults).answer ≡ Ok cvars)
created_whole m room laid free fits =
    created_within m defaults room laid (omega arith, (omega arith, (omega arith, (omega arith, (omega arith, (omega arith, (omega arith, (omega arith, tt)))))))) free fits

pub created_new : (size zone users event_room : ℕ) → Laid (new_memory size zone users event_room) → 4096 ≤ zone → (cvars : List Cvar) × ((created (new_memory size zone users event_room) defaults).answer ≡ Ok cvars)
created_new size zone users event_room laid large = created_whole (new_memory size zone users event_room) (zone - 32) laid refl (omega arith)

-- The defaults are read back.
pub cvar_value-defaults : (m : Memory) (cvars : List Cvar) (name : List ℕ) → Laid m → (created m defaults).answer ≡ Ok cvars →
    cvar_value (created m defaults).after cvars name ≡ option_map (λ (d : Default). d.value) (find (λ (d : Default). bytes_eq d.name name) defaults)
cvar_value-defaults m cvars name laid h = cvar_value-created m defaults cvars name laid defaults_texts h

-- for callers: `#[tactic(auto, using(cvar_table::proofs::CreatedLaws::created_laws))]`
pub ruleset created_laws = (Laid-created, zone_bytes-created, AreHeld-created, HoldsCvars-created, cvar_value-defaults, beside-created)
