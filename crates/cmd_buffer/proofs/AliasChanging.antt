-- What setting an alias of an old name does to the aliases and to the blocks of others.
use Rattle.std.proofs.Common.{◌≡◌, ◌≢◌, ℕ, ◌^◌, ◌<◌, ◌≤◌, List, [], ◌∷◌, ◌++◌, length, map, Bool, true, false, cond, if◌then◌else◌, Option, Some, Result, Ok, Err, refl, sym, ap, ◌∙◌, subst, arith, find, bytes_eq}
use Rattle.std.specs.Prelude.{IsSome}
use Rattle.std.specs.Option.{option_map, unwrap_or}
use Rattle.base_fields.specs.Fields.{u32_bytes, with_field}
use Rattle.base_fields.specs.Texts.{until_zero}
use Rattle.base_fields.proofs.FieldLaws.{length-with_field, u32_in-put, u32_in-before_put, field-before_put}
use Rattle.mem_model.specs.Memory.{Memory}
use Rattle.mem_model.specs.Laid.{Laid, IsText}
use Rattle.mem_model.specs.Apart.{NoneIs, AreApart}
use Rattle.mem_model.specs.Zone.{zone_bytes, with_zone_bytes}
use Rattle.mem_model.proofs.ZoneLaws.{zone_bytes-written, zone_bytes-elsewhere, zone_bytes-small, AreUsed-with_zone_bytes}
use Rattle.mem_model.proofs.Untouched.{zone_bytes-same}
use Rattle.zone_values.specs.Held.{AreHeld, KeepsAt}
use Rattle.zone_values.specs.Values.{replace_value, value_at}
use Rattle.zone_values.proofs.ValueLaws.{Laid-replace_value, replace_apart, zone_bytes-replace_value, some-replace_new, value_at-replace_value, replace_value-refusal}
use Rattle.zone_values.proofs.HeldLaws.{some_bytes, value_at-kept, AreHeld-replace_value}
use Rattle.cmd_buffer.specs.Aliases.{Alias, place_of, IsRecord, IsChain, HoldsAliases, aliases_of, alias_places, AliasText, text_of, alias_texts, with_value, value_moved, value_reset, changed}
use Rattle.cmd_buffer.proofs.AliasLaws.{chain_still, aliases_are, texts_kept}
use Rattle.cmd_buffer.proofs.AliasAdding.{Stays, stays_are, stays_kept}

-- the aliases with another place for the value of the first of exactly this name
abbrev pub moved : List ℕ → ℕ → List Alias → List Alias
moved name value [] = []
moved name value (a ∷ older) = if bytes_eq a.name name then record a { value_place = value } ∷ older else a ∷ moved name value older

-- What holds of an alias that was found among those of a chain.
pub record IsFound (m : Memory) (a : Alias) : Type 0 where
  pub bytes : List ℕ
  pub there : zone_bytes m a.record_place ≡ Some bytes
  pub long : 40 ≤ length bytes
  pub used : IsSome (zone_bytes m a.value_place)
  pub apart : a.value_place ≢ a.record_place

found_first : (m : Memory) (name : List ℕ) (a b : Alias) (older : List Alias) (t : Bool) → IsFound m a → (find (λ (x : Alias). bytes_eq x.name name) older ≡ Some b → IsFound m b) →
    cond t (Some a) (find (λ (x : Alias). bytes_eq x.name name) older) ≡ Some b → IsFound m b
found_first m name a b older true here later is = (let same : a ≡ b = cc in subst (IsFound m) same here)
found_first m name a b older false here later is = later is

found_in : (m : Memory) (name : List ℕ) (first : Option ℕ) (aliases : List Alias) (b : Alias) → IsChain m first aliases → AreHeld m (alias_places aliases) → find (λ (x : Alias). bytes_eq x.name name) aliases ≡ Some b → IsFound m b
found_in m name first [] b chain held is = absurd (cc)
found_in m name first (a ∷ older) b chain held is =
    let r = chain.1.1 in
    found_first m name a b older (bytes_eq a.name name)
    (record { bytes = r.bytes; there = r.there; long = r.long; used = held.used.1.0; apart = held.apart.0.0 })
    (found_in m name chain.1.0 older b chain.1.2 (record { used = held.used.1.1; apart = held.apart.1.1 })) is

-- The alias of exactly a name has its record and its value in blocks of their own.
pub is_found : (m : Memory) (newest : Option ℕ) (name : List ℕ) (a : Alias) → HoldsAliases m newest → find (λ (x : Alias). bytes_eq x.name name) (aliases_of m newest) ≡ Some a → IsFound m a
is_found m newest name a h is = found_in m name newest (aliases_of m newest) a h.chain h.held is

-- a place that is none of the aliases' is none of the found one's
among_first : (name : List ℕ) (q : ℕ) (a b : Alias) (older : List Alias) (t : Bool) → NoneIs q (alias_places (a ∷ older)) → (find (λ (x : Alias). bytes_eq x.name name) older ≡ Some b → (b.record_place ≢ q) × (b.value_place ≢ q)) →
    cond t (Some a) (find (λ (x : Alias). bytes_eq x.name name) older) ≡ Some b → (b.record_place ≢ q) × (b.value_place ≢ q)
among_first name q a b older true none later is = (let same : a ≡ b = cc in subst (λ (x : Alias). (x.record_place ≢ q) × (x.value_place ≢ q)) same (none.0, none.1.0))
among_first name q a b older false none later is = later is

among_found : (name : List ℕ) (q : ℕ) (aliases : List Alias) (b : Alias) → NoneIs q (alias_places aliases) → find (λ (x : Alias). bytes_eq x.name name) aliases ≡ Some b → (b.record_place ≢ q) × (b.value_place ≢ q)
among_found name q [] b none is = absurd (cc)
among_found name q (a ∷ older) b none is = among_first name q a b older (bytes_eq a.name name) none (among_found name q older b none.1.1) is

-- The place of the value is exchanged among the others.
record IsMoved (aliases after : List Alias) (old value : ℕ) : Type 0 where
  front : List ℕ
  back : List ℕ
  was : alias_places aliases ≡ front ++ old ∷ back
  now : alias_places after ≡ front ++ value ∷ back

moved_first : (name : List ℕ) (value : ℕ) (a b : Alias) (older : List Alias) (t : Bool) → (find (λ (x : Alias). bytes_eq x.name name) older ≡ Some b → IsMoved older (moved name value older) b.value_place value) →
    cond t (Some a) (find (λ (x : Alias). bytes_eq x.name name) older) ≡ Some b → IsMoved (a ∷ older) (cond t (record a { value_place = value } ∷ older) (a ∷ moved name value older)) b.value_place value
moved_first name value a b older true later is =
    (let same : a ≡ b = cc in record {
      front = a.record_place ∷ [];
      back = alias_places older;
      was = ap (λ (x : Alias). a.record_place ∷ x.value_place ∷ alias_places older) same;
      now = refl;
    })
moved_first name value a b older false later is =
    let rest = later is in
    record {
      front = a.record_place ∷ a.value_place ∷ rest.front;
      back = rest.back;
      was = ap (λ places. a.record_place ∷ a.value_place ∷ places) rest.was;
      now = ap (λ places. a.record_place ∷ a.value_place ∷ places) rest.now;
    }

is_moved : (name : List ℕ) (value : ℕ) (aliases : List Alias) (b : Alias) → find (λ (x : Alias). bytes_eq x.name name) aliases ≡ Some b → IsMoved aliases (moved name value aliases) b.value_place value
is_moved name value [] b is = absurd (cc)
is_moved name value (a ∷ older) b is = moved_first name value a b older (bytes_eq a.name name) (is_moved name value older b) is

none_exchanged : (q old value : ℕ) (front back : List ℕ) → value ≢ q → NoneIs q (front ++ old ∷ back) → NoneIs q (front ++ value ∷ back)
none_exchanged q old value [] back off none = (off, none.1)
none_exchanged q old value (x ∷ front) back off none = (none.0, none_exchanged q old value front back off none.1)

-- a record with another place for its value
record_moved : (m n : Memory) (a : Alias) (next : Option ℕ) (value : ℕ) → value < 2 ^ 32 → IsRecord m a next →
    ((bytes : List ℕ) → zone_bytes m a.record_place ≡ Some bytes → 40 ≤ length bytes → zone_bytes n a.record_place ≡ Some (with_field bytes 36 (u32_bytes value))) → IsRecord n (record a { value_place = value }) next
record_moved m n a next value low is here =
    let piece = u32_bytes value in
    let long = is.long in
    record {
      bytes = with_field is.bytes 36 piece;
      there = here is.bytes is.there is.long;
      long = omega (arith, length-with_field is.bytes 36 piece (omega arith));
      follows = ap place_of (u32_in-before_put is.bytes 36 piece 0 (omega arith) (omega arith)) ∙ is.follows;
      name = ap until_zero (field-before_put 32 is.bytes 36 piece 4 (omega arith) (omega arith)) ∙ is.name;
      value = u32_in-put is.bytes 36 value (omega arith) low;
    }

-- Other places keep their bytes, and the record of one alias gets another place for its value.
module _ (m n : Memory) (name : List ℕ) (b : Alias) (value : ℕ) (low : value < 2 ^ 32)
    (kept : (q : ℕ) (bytes : List ℕ) → b.record_place ≢ q → b.value_place ≢ q → zone_bytes m q ≡ Some bytes → zone_bytes n q ≡ Some bytes)
    (here : (bytes : List ℕ) → zone_bytes m b.record_place ≡ Some bytes → 40 ≤ length bytes → zone_bytes n b.record_place ≡ Some (with_field bytes 36 (u32_bytes value))) where
  keeps_none : (places : List ℕ) → NoneIs b.record_place places → NoneIs b.value_place places → KeepsAt m n places
  keeps_none [] none none2 = tt
  keeps_none (q ∷ places) none none2 = (λ bytes there. kept q bytes (λ same. none.0 (sym same)) (λ same. none2.0 (sym same)) there, keeps_none places none.1 none2.1)

  chain_first : (first : Option ℕ) (a : Alias) (older : List Alias) (t : Bool) → AreApart (alias_places (a ∷ older)) → IsChain m first (a ∷ older) →
      ((next : Option ℕ) → find (λ (x : Alias). bytes_eq x.name name) older ≡ Some b → IsChain m next older → IsChain n next (moved name value older)) →
      cond t (Some a) (find (λ (x : Alias). bytes_eq x.name name) older) ≡ Some b → IsChain n first (cond t (record a { value_place = value } ∷ older) (a ∷ moved name value older))
  chain_first first a older true apart chain later is =
      let same : b ≡ a = cc in
      let keeps = keeps_none (alias_places older)
      (subst (λ (x : Alias). NoneIs x.record_place (alias_places older)) (sym same) apart.0.1)
      (subst (λ (x : Alias). NoneIs x.value_place (alias_places older)) (sym same) apart.1.0) in (
        chain.0,
        (
          chain.1.0,
          record_moved m n a chain.1.0 value low chain.1.1
              (subst (λ (x : Alias). (bytes : List ℕ) → zone_bytes m x.record_place ≡ Some bytes → 40 ≤ length bytes → zone_bytes n x.record_place ≡ Some (with_field bytes 36 (u32_bytes value))) same here),
          chain_still m n chain.1.0 older keeps chain.1.2,
        ),
      )
  chain_first first a older false apart chain later is =
      let r = chain.1.1 in
      let off = among_found name a.record_place older b apart.0.1 is in
      (chain.0, (chain.1.0, record { bytes = r.bytes; there = kept a.record_place r.bytes off.0 off.1 r.there; long = r.long; follows = r.follows; name = r.name; value = r.value }, later chain.1.0 is chain.1.2))

  chain_moved : (first : Option ℕ) (aliases : List Alias) → AreApart (alias_places aliases) → find (λ (x : Alias). bytes_eq x.name name) aliases ≡ Some b → IsChain m first aliases → IsChain n first (moved name value aliases)
  chain_moved first [] apart is chain = absurd (cc)
  chain_moved first (a ∷ older) apart is chain = chain_first first a older (bytes_eq a.name name) apart chain (λ next found rest. chain_moved next older apart.1.1 found rest) is

  -- the texts with the value that is at its new place
  texts_first : (text : List ℕ) (a : Alias) (older : List Alias) (t : Bool) → bytes_eq a.name name ≡ t → value_at n value ≡ Some text → AreHeld m (alias_places (a ∷ older)) →
      (find (λ (x : Alias). bytes_eq x.name name) older ≡ Some b → map (text_of n) (moved name value older) ≡ with_value (map (text_of m) older) name text) →
      cond t (Some a) (find (λ (x : Alias). bytes_eq x.name name) older) ≡ Some b →
      map (text_of n) (cond t (record a { value_place = value } ∷ older) (a ∷ moved name value older)) ≡ cond t (record { name = a.name; value = text } ∷ map (text_of m) older) (text_of m a ∷ with_value (map (text_of m) older) name text)
  texts_first text a older true e there held later is =
      let same : b ≡ a = cc in
      let keeps = keeps_none (alias_places older)
      (subst (λ (x : Alias). NoneIs x.record_place (alias_places older)) (sym same) held.apart.0.1)
      (subst (λ (x : Alias). NoneIs x.value_place (alias_places older)) (sym same) held.apart.1.0) in
      ap (λ (o : Option (List ℕ)). record { name = a.name; value = unwrap_or o [] } ∷ map (text_of n) older) there
      ∙ ap (λ (texts : List AliasText). record { name = a.name; value = text } ∷ texts) (texts_kept m n older keeps held.used.1.1)
  texts_first text a older false e there held later is =
      let off = among_found name a.value_place older b held.apart.1.0 is in
      ap (λ (o : Option (List ℕ)). record { name = a.name; value = unwrap_or o [] } ∷ map (text_of n) (moved name value older)) (value_at-kept m n a.value_place held.used.1.0 (λ bytes. kept a.value_place bytes off.0 off.1))
      ∙ ap (λ (texts : List AliasText). text_of m a ∷ texts) (later is)

  texts_moved : (text : List ℕ) (aliases : List Alias) → value_at n value ≡ Some text → AreHeld m (alias_places aliases) → find (λ (x : Alias). bytes_eq x.name name) aliases ≡ Some b → map (text_of n) (moved name value aliases) ≡ with_value (map (text_of m) aliases) name text
  texts_moved text [] there held is = absurd (cc)
  texts_moved text (a ∷ older) there held is =
      texts_first text a older (bytes_eq a.name name) refl there held (λ found. texts_moved text older there (record { used = held.used.1.1; apart = held.apart.1.1 }) found) is

-- The value has its new block, and the record names it.
module _ (m : Memory) (newest : Option ℕ) (name value : List ℕ) (a : Alias) (v : ℕ) (laid : Laid m) (h : HoldsAliases m newest)
    (is : find (λ (x : Alias). bytes_eq x.name name) (aliases_of m newest) ≡ Some a) (given : (replace_value m a.value_place value).answer ≡ Ok v) where
  abbrev m1 : Memory
  m1 = (replace_value m a.value_place value).after

  abbrev m2 : Memory
  m2 = value_moved m1 a.record_place v

  found : IsFound m a
  found = is_found m newest name a h is

  low : v < 2 ^ 32
  low =
      let there = some_bytes _ (some-replace_new m value a.value_place v laid found.used given) in
      omega (arith, zone_bytes-small m1 v there.0 (Laid-replace_value m a.value_place value laid) there.1)

  kept : (q : ℕ) (bytes : List ℕ) → a.record_place ≢ q → a.value_place ≢ q → zone_bytes m q ≡ Some bytes → zone_bytes m2 q ≡ Some bytes
  kept q bytes off off2 there =
      zone_bytes-elsewhere m1 a.record_place q _ (λ same. off (sym same)) ∙ zone_bytes-replace_value m value bytes a.value_place q laid (λ same. off2 (sym same)) there

  here : (bytes : List ℕ) → zone_bytes m a.record_place ≡ Some bytes → 40 ≤ length bytes → zone_bytes m2 a.record_place ≡ Some (with_field bytes 36 (u32_bytes v))
  here bytes there long =
      let still = zone_bytes-replace_value m value bytes a.value_place a.record_place laid (λ same. found.apart (sym same)) there in
      ap (λ (o : Option (List ℕ)). zone_bytes (with_zone_bytes m1 a.record_place (with_field (unwrap_or o []) 36 (u32_bytes v))) a.record_place) still
      ∙ zone_bytes-written m1 a.record_place bytes (with_field bytes 36 (u32_bytes v)) still (length-with_field bytes 36 (u32_bytes v) (omega arith))

  chain2 : IsChain m2 newest (moved name v (aliases_of m newest))
  chain2 = chain_moved m m2 name a v low kept here newest (aliases_of m newest) h.held.apart is h.chain

  held2 : AreHeld m2 (alias_places (moved name v (aliases_of m newest)))
  held2 =
      let exchange = is_moved name v (aliases_of m newest) a is in
      let held = AreHeld-replace_value m value a.value_place v exchange.front exchange.back laid given (subst (AreHeld m) exchange.was h.held) in
      subst (AreHeld m2) (sym exchange.now) (record { used = AreUsed-with_zone_bytes m1 a.record_place _ _ held.used; apart = held.apart })

  pub became_moved : Stays m (value_moved (replace_value m a.value_place value).after a.record_place v) newest newest
  became_moved =
      let exchange = is_moved name v (aliases_of m newest) a is in
      stays_are m m2 newest newest (moved name v (aliases_of m newest)) chain2 held2
      (λ q bytes none there.
      let off = among_found name q (aliases_of m newest) a none is in
      (subst (NoneIs q) (sym exchange.now) (none_exchanged q a.value_place v exchange.front exchange.back (λ same. replace_apart m value bytes a.value_place v q laid given there (sym same)) (subst (NoneIs q) exchange.was none)), kept q bytes off.0 off.1 there))

  -- its text has the new value
  pub moved_texts : IsText value → alias_texts (value_moved (replace_value m a.value_place value).after a.record_place v) newest ≡ with_value (alias_texts m newest) name value
  unfolding value_at
  moved_texts text =
      let off : v ≢ a.record_place = λ same. replace_apart m value found.bytes a.value_place v a.record_place laid given found.there (sym same) in
      let there : value_at m2 v ≡ Some value =
      ap (option_map until_zero) (zone_bytes-elsewhere m1 a.record_place v _ off) ∙ value_at-replace_value m value a.value_place v laid found.used text given in
      ap (map (text_of m2)) (aliases_are m2 newest (moved name v (aliases_of m newest)) chain2 held2).1
      ∙ texts_moved m m2 name a v low kept here value (aliases_of m newest) there h.held is

-- An alias that was changed is held where it was.
pub stays_changed : (m : Memory) (newest : Option ℕ) (name value : List ℕ) (a : Alias) → Laid m → HoldsAliases m newest → find (λ (x : Alias). bytes_eq x.name name) (aliases_of m newest) ≡ Some a → Stays m (changed m newest a value).after newest (changed m newest a value).newest
stays_changed m newest name value a laid h is = by_answer (replace_value m a.value_place value).answer refl where
  by_answer : (answer : Result ℕ ℕ) → (replace_value m a.value_place value).answer ≡ answer →
      Stays m (value_reset newest a.record_place (replace_value m a.value_place value).after answer).after newest (value_reset newest a.record_place (replace_value m a.value_place value).after answer).newest
  by_answer (Ok v) given = became_moved m newest name value a v laid h is given
  by_answer (Err asked) given =
      let refusal = replace_value-refusal m value a.value_place asked given in
      stays_kept m _ newest (λ place bytes there. zone_bytes-same (replace_value m a.value_place value).after m place refusal.1 ∙ there) h
