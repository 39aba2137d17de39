-- What setting an alias of a new name does to the aliases and to the blocks of others.
use Rattle.std.proofs.Common.{◌≡◌, ◌≢◌, ℕ, suc, ◌-◌, ◌^◌, ◌<◌, ◌≤◌, List, [], ◌∷◌, ◌++◌, length, map, take, drop, replicate, Bool, cond, Option, Some, None, Result, Ok, Err, refl, sym, ap, ◌∙◌, subst, arith, append_assoc, length-append}
use Rattle.std.proofs.lemmas.List.{length-replicate, take_at}
use Rattle.std.proofs.lemmas.Bool.{ne_eqb}
use Rattle.std.specs.Option.{option_map, unwrap_or}
use Rattle.base_fields.specs.Fields.{u32_in, u32_bytes}
use Rattle.base_fields.specs.Texts.{until_zero}
use Rattle.base_fields.proofs.FieldLaws.{u32_in-written}
use Rattle.base_fields.proofs.TextLaws.{until_zero_of_ended}
use Rattle.mem_model.specs.Memory.{Memory}
use Rattle.mem_model.specs.Laid.{Laid, IsText}
use Rattle.mem_model.specs.Apart.{NoneIs}
use Rattle.mem_model.specs.Hunk.{over}
use Rattle.mem_model.specs.Zone.{zone_bytes, with_zone_bytes}
use Rattle.mem_model.specs.Operations.{z_alloc, z_free}
use Rattle.mem_model.proofs.Laying.{length-over, over_front}
use Rattle.mem_model.proofs.ZoneLaying.{Laid-z_alloc}
use Rattle.mem_model.proofs.ZoneLaws.{zone_bytes-z_alloc, zone_bytes-new, zone_place_apart, zone_bytes-z_free, zone_bytes-written, zone_bytes-elsewhere, zone_bytes-small, some-with_zone_bytes, NoneIs-z_new}
use Rattle.zone_values.specs.Held.{AreHeld, OthersStay, KeepsAt}
use Rattle.zone_values.specs.Values.{put_value, value_at}
use Rattle.zone_values.proofs.Writing.{with_zone_bytes-over}
use Rattle.zone_values.proofs.ValueLaws.{Laid-put_value, put_apart, NoneIs-put_value, zone_bytes-put_value, zone_bytes-put_new, some-put_new, value_at-put_value}
use Rattle.zone_values.proofs.HeldLaws.{some_bytes, AreUsed-kept}
use Rattle.cmd_buffer.specs.Aliases.{Alias, place_of, number_of, next_in, name_in, value_in, spelled, IsRecord, IsChain, HoldsAliases, aliases_of, alias_places, AliasText, text_of, alias_texts, added, record_added, record_written}
use Rattle.cmd_buffer.specs.AliasCalls.{given_back}
use Rattle.cmd_buffer.proofs.AliasLaws.{chain_still, aliases_are, aliases_still, texts_kept}
use Rattle.cmd_buffer.proofs.AliasReads.{newest_used}

-- What a setting leaves: the aliases are held, and the blocks of others stay.
pub record Stays (m n : Memory) (before now : Option ℕ) : Type 0 where
  pub holds : HoldsAliases n now
  pub others : OthersStay m n (alias_places (aliases_of m before)) (alias_places (aliases_of n now))

pub keeps_each : (m n : Memory) (places : List ℕ) → ((place : ℕ) (bytes : List ℕ) → zone_bytes m place ≡ Some bytes → zone_bytes n place ≡ Some bytes) → KeepsAt m n places
keeps_each m n [] kept = tt
keeps_each m n (place ∷ places) kept = (kept place, keeps_each m n places kept)

-- the aliases are these afterwards
pub stays_are : (m n : Memory) (before now : Option ℕ) (aliases : List Alias) → IsChain n now aliases → AreHeld n (alias_places aliases) →
    OthersStay m n (alias_places (aliases_of m before)) (alias_places aliases) → Stays m n before now
stays_are m n before now aliases chain held stay =
    let are = aliases_are n now aliases chain held in
    record { holds = are.0; others = subst (λ (all : List Alias). OthersStay m n (alias_places (aliases_of m before)) (alias_places all)) (sym are.1) stay }

-- each used block keeps its bytes
pub stays_kept : (m n : Memory) (newest : Option ℕ) → ((place : ℕ) (bytes : List ℕ) → zone_bytes m place ≡ Some bytes → zone_bytes n place ≡ Some bytes) → HoldsAliases m newest → Stays m n newest newest
stays_kept m n newest kept h =
    let still = aliases_still m n newest (keeps_each m n _ kept) h in
    record { holds = still.0; others = λ place bytes none there. (subst (λ (all : List Alias). NoneIs place (alias_places all)) (sym still.1) none, kept place bytes there) }

-- What is read back of a record's bytes.
record IsSpelled (bytes : List ℕ) (next : Option ℕ) (name : List ℕ) (value : ℕ) : Type 0 where
  long : 40 ≤ length bytes
  follows : next_in bytes ≡ next
  name_is : name_in bytes ≡ name
  value_is : value_in bytes ≡ value

number_back : (next : Option ℕ) → ((place : ℕ) → next ≡ Some place → place < 4294967295) → (number_of next < 2 ^ 32) × (place_of (number_of next) ≡ next)
number_back None small = (omega arith, refl)
number_back (Some place) small =
    let below : place < 4294967295 = small place refl in
    (omega arith, ap (λ (t : Bool). cond t None (Some place)) (ne_eqb place 4294967295 (λ same. omega arith)))

spelled_is : (next : Option ℕ) (name rest : List ℕ) (value : ℕ) → ((place : ℕ) → next ≡ Some place → place < 4294967295) → IsText name → length name ≤ 31 → value < 2 ^ 32 → IsSpelled (spelled next name value ++ rest) next name value
spelled_is next name rest value small text fits low =
    let number = number_back next small in
    let first = u32_bytes (number_of next) in
    let zeros = replicate (32 - length name) 0 in
    let last = u32_bytes value in
    let many : length zeros ≡ 32 - length name = length-replicate (32 - length name) 0 in
    let padded : length (name ++ zeros) ≡ 32 = omega (arith, length-append name zeros) in
    let at_name : take 32 (((name ++ zeros) ++ last) ++ rest) ≡ name ++ zeros = ap (take 32) (append_assoc (name ++ zeros) last rest) ∙ take_at (name ++ zeros) (last ++ rest) 32 padded in
    let zero : zeros ≡ 0 ∷ replicate (31 - length name) 0 = ap (λ n. replicate n 0) (let n : 32 - length name ≡ suc (31 - length name) = omega arith in n) in
    let at_value : spelled next name value ++ rest ≡ (first ++ (name ++ zeros)) ++ (last ++ rest) = append_assoc (first ++ (name ++ zeros)) last rest in
    record {
      long = omega (arith, length-append (spelled next name value) rest, length-append (first ++ (name ++ zeros)) last, length-append first (name ++ zeros));
      follows = ap place_of (u32_in-written [] (((name ++ zeros) ++ last) ++ rest) 0 (number_of next) refl number.0) ∙ number.1;
      name_is = ap until_zero (at_name ∙ ap (λ zs. name ++ zs) zero) ∙ until_zero_of_ended name (replicate (31 - length name) 0) text;
      value_is = ap (λ bs. u32_in bs 36) at_value ∙ u32_in-written (first ++ (name ++ zeros)) rest 36 value (omega (arith, length-append first (name ++ zeros))) low;
    }

-- the place of the newest record is below the largest number
newest_small : (m : Memory) (newest : Option ℕ) → Laid m → HoldsAliases m newest → (place : ℕ) → newest ≡ Some place → place < 4294967295
newest_small m newest laid h place is =
    let used = some_bytes _ (newest_used m place (subst (HoldsAliases m) is h)) in
    omega (arith, zone_bytes-small m place used.0 laid used.1)

-- The record has its block, and the value may have its own.
module _ (m : Memory) (newest : Option ℕ) (name value : List ℕ) (place : ℕ) (laid : Laid m) (h : HoldsAliases m newest) (given : (z_alloc m 40).answer ≡ Ok place) where
  abbrev m1 : Memory
  m1 = (z_alloc m 40).after

  abbrev m2 : Memory
  m2 = (put_value m1 value).after

  laid1 : Laid m1
  laid1 = Laid-z_alloc m 40 laid

  laid2 : Laid m2
  laid2 = Laid-put_value m1 value laid1

  kept1 : (other : ℕ) (bytes : List ℕ) → zone_bytes m other ≡ Some bytes → zone_bytes m1 other ≡ Some bytes
  kept1 other bytes there = zone_bytes-z_alloc m 40 other bytes laid there

  kept2 : (other : ℕ) (bytes : List ℕ) → zone_bytes m1 other ≡ Some bytes → zone_bytes m2 other ≡ Some bytes
  kept2 other bytes there = zone_bytes-put_value m1 value bytes other laid1 there

  apart1 : (other : ℕ) (bytes : List ℕ) → zone_bytes m other ≡ Some bytes → other ≢ place
  apart1 other bytes there = zone_place_apart m 40 place other bytes laid given there

  -- the value was refused, or the store ran out of memory: the record is freed again
  pub kept_again : (other : ℕ) (bytes : List ℕ) → zone_bytes m other ≡ Some bytes → zone_bytes (z_free m2 place).after other ≡ Some bytes
  kept_again other bytes there = zone_bytes-z_free m2 place other bytes laid2 (apart1 other bytes there) (kept2 other bytes (kept1 other bytes there))

  pub kept_first : (other : ℕ) (bytes : List ℕ) → zone_bytes m other ≡ Some bytes → zone_bytes (z_free m1 place).after other ≡ Some bytes
  kept_first other bytes there = zone_bytes-z_free m1 place other bytes laid1 (apart1 other bytes there) (kept1 other bytes there)

  -- the value has its own block, and the record is written
  module _ (v : ℕ) (text : IsText name) (fits : length name ≤ 31) (put : (put_value m1 value).answer ≡ Ok v) where
    abbrev m3 : Memory
    m3 = with_zone_bytes m2 place (spelled newest name v)

    abbrev new : Alias
    new = record { record_place = place; name = name; value_place = v }

    kept3 : (other : ℕ) (bytes : List ℕ) → zone_bytes m other ≡ Some bytes → zone_bytes m3 other ≡ Some bytes
    kept3 other bytes there = zone_bytes-elsewhere m2 place other (spelled newest name v) (apart1 other bytes there) ∙ kept2 other bytes (kept1 other bytes there)

    low : v < 2 ^ 32
    low = let there = zone_bytes-put_new m1 value v laid1 put in omega (arith, zone_bytes-small m2 v _ laid2 there.1)

    record_is : IsRecord m3 new newest
    record_is =
        let zeros = zone_bytes-new m 40 place laid given in
        let old = replicate zeros.0 0 in
        let piece = spelled newest name v in
        let many : length old ≡ zeros.0 = length-replicate zeros.0 0 in
        let whole : length piece ≡ 40 = omega (arith, length-append (u32_bytes (number_of newest) ++ (name ++ replicate (32 - length name) 0)) (u32_bytes v), length-append (u32_bytes (number_of newest)) (name ++ replicate (32 - length name) 0), length-append name (replicate (32 - length name) 0), length-replicate {A = ℕ} (32 - length name) 0) in
        let there : zone_bytes m2 place ≡ Some old = kept2 place old zeros.2 in
        let front : over old piece ≡ piece ++ drop (length piece) old = over_front old piece (omega (arith, zeros.1)) in
        let is = spelled_is newest name (drop (length piece) old) v (newest_small m newest laid h) text fits low in
        record {
          bytes = piece ++ drop (length piece) old;
          there = ap (λ (n : Memory). zone_bytes n place) (sym (with_zone_bytes-over m2 place old piece there)) ∙ zone_bytes-written m2 place old (over old piece) there (length-over old piece) ∙ ap Some front;
          long = is.long;
          follows = is.follows;
          name = is.name_is;
          value = is.value_is;
        }

    apart2 : (other : ℕ) (bytes : List ℕ) → zone_bytes m1 other ≡ Some bytes → other ≢ v
    apart2 other bytes there = put_apart m1 value bytes v other laid1 put there

    chain3 : IsChain m3 (Some place) (new ∷ aliases_of m newest)
    chain3 = (refl, (newest, record_is, chain_still m m3 newest (aliases_of m newest) (keeps_each m m3 (alias_places (aliases_of m newest)) kept3) h.chain))

    held3 : AreHeld m3 (alias_places (new ∷ aliases_of m newest))
    held3 =
        let places = alias_places (aliases_of m newest) in
        let zeros = zone_bytes-new m 40 place laid given in
        let used1 = AreUsed-kept m m1 places kept1 h.held.used in
        record {
          used = (rw record_is.there refl, (some-with_zone_bytes m2 place v (spelled newest name v) (some-put_new m1 value v laid1 put), AreUsed-kept m m3 places kept3 h.held.used));
          apart = ((λ same. apart2 place _ zeros.2 (sym same), NoneIs-z_new m 40 place places laid given h.held.used), (NoneIs-put_value m1 value v places laid1 put used1, h.held.apart));
        }

    pub became_newest : Stays m (with_zone_bytes m2 place (spelled newest name v)) newest (Some place)
    became_newest =
        stays_are m m3 newest (Some place) (new ∷ aliases_of m newest) chain3 held3
        (λ other bytes none there. ((λ same. apart1 other bytes there (sym same), (λ same. apart2 other bytes (kept1 other bytes there) (sym same), none)), kept3 other bytes there))

    -- its text is the newest
    pub newest_texts : IsText value → alias_texts (with_zone_bytes m2 place (spelled newest name v)) (Some place) ≡ record { name = name; value = value } ∷ alias_texts m newest
    unfolding value_at
    newest_texts value_text =
        let zeros = zone_bytes-new m 40 place laid given in
        let there : value_at m3 v ≡ Some value =
        ap (option_map until_zero) (zone_bytes-elsewhere m2 place v (spelled newest name v) (λ same. apart2 place _ zeros.2 (sym same))) ∙ value_at-put_value m1 value v laid1 value_text put in
        ap (map (text_of m3)) (aliases_are m3 (Some place) (new ∷ aliases_of m newest) chain3 held3).1
        ∙ ap (λ (o : Option (List ℕ)). record { name = name; value = unwrap_or o [] } ∷ map (text_of m3) (aliases_of m newest)) there
        ∙ ap (λ (texts : List AliasText). record { name = name; value = value } ∷ texts) (texts_kept m m3 (aliases_of m newest) (keeps_each m m3 (alias_places (aliases_of m newest)) kept3) h.held.used)

added_by : (m : Memory) (newest : Option ℕ) (name value : List ℕ) (place : ℕ) (laid : Laid m) (h : HoldsAliases m newest) (text : IsText name) (fits : length name ≤ 31) (given : (z_alloc m 40).answer ≡ Ok place) (answer : Result ℕ ℕ) →
    (put_value (z_alloc m 40).after value).answer ≡ answer →
    Stays m (record_written newest name place (put_value (z_alloc m 40).after value).after answer).after newest (record_written newest name place (put_value (z_alloc m 40).after value).after answer).newest
added_by m newest name value place laid h text fits given (Ok v) put = became_newest m newest name value place laid h given v text fits put
added_by m newest name value place laid h text fits given (Err asked) put = stays_kept m _ newest (kept_again m newest name value place laid h given) h

added_first : (m : Memory) (newest : Option ℕ) (name value : List ℕ) (laid : Laid m) (h : HoldsAliases m newest) (text : IsText name) (fits : length name ≤ 31) (answer : Result ℕ ℕ) → (z_alloc m 40).answer ≡ answer →
    Stays m (record_added newest name value (z_alloc m 40).after answer).after newest (record_added newest name value (z_alloc m 40).after answer).newest
added_first m newest name value laid h text fits (Ok place) given = added_by m newest name value place laid h text fits given (put_value (z_alloc m 40).after value).answer refl
added_first m newest name value laid h text fits (Err asked) given = stays_kept m (z_alloc m 40).after newest (λ place bytes there. zone_bytes-z_alloc m 40 place bytes laid there) h

-- An alias that was added is held beside the others.
pub stays_added : (m : Memory) (newest : Option ℕ) (name value : List ℕ) → Laid m → HoldsAliases m newest → IsText name → length name ≤ 31 → Stays m (added m newest name value).after newest (added m newest name value).newest
stays_added m newest name value laid h text fits = added_first m newest name value laid h text fits (z_alloc m 40).answer refl

-- So they are where the store ran out of memory behind the record.
pub stays_given_back : (m : Memory) (newest : Option ℕ) → Laid m → HoldsAliases m newest → Stays m (given_back (z_alloc m 40).after (z_alloc m 40).answer) newest newest
stays_given_back m newest laid h = by_answer (z_alloc m 40).answer refl where
  by_answer : (answer : Result ℕ ℕ) → (z_alloc m 40).answer ≡ answer → Stays m (given_back (z_alloc m 40).after answer) newest newest
  by_answer (Ok place) given = stays_kept m _ newest (kept_first m newest [] [] place laid h given) h
  by_answer (Err asked) given = stays_kept m (z_alloc m 40).after newest (λ place bytes there. zone_bytes-z_alloc m 40 place bytes laid there) h
