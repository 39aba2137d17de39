-- Laws of setting an alias, over the definitions alone: what it means to those who use aliases.
use Rattle.std.proofs.Common.{◌≡◌, ℕ, ◌+◌, ◌<◌, ◌≤◌, List, [], ◌∷◌, length, map, find, Bool, true, false, ◌||◌, cond, Option, Some, None, Result, Ok, Err, ◌⊎◌, inl, inr, refl, sym, ap, ◌∙◌, subst, bytes_eq}
use Rattle.std.specs.Prelude.{is_some, IsSome, OnOk, OnErr}
use Rattle.std.specs.List.{list_any}
use Rattle.std.specs.Option.{option_map, option_and_then, unwrap_or}
use Rattle.std.specs.Str.{str_eq_ignore_ascii_case}
use Rattle.std.proofs.lemmas.Bool.{cases_lt}
use Rattle.base_fields.specs.Texts.{until_zero}
use Rattle.mem_model.specs.Memory.{Memory}
use Rattle.mem_model.specs.Laid.{Laid, IsText}
use Rattle.mem_model.specs.Places.{zone_need}
use Rattle.mem_model.specs.Keeps.{beside_zone}
use Rattle.mem_model.specs.Zone.{zone_bytes}
use Rattle.mem_model.specs.Apart.{AreUsed}
use Rattle.mem_model.specs.Operations.{z_alloc}
use Rattle.mem_model.proofs.Untouched.{zone_bytes-same}
use Rattle.mem_model.proofs.CacheLaws.{beside-z_alloc, beside-z_free}
use Rattle.mem_model.proofs.Keeping.{beside-with_zone_bytes}
use Rattle.mem_model.proofs.ZoneLaying.{Laid-z_alloc, Laid-z_free, Laid-with_zone_bytes}
use Rattle.mem_model.proofs.ZoneLaws.{zone_bytes-z_alloc, z_alloc-refusal}
use Rattle.zone_values.specs.Values.{value_at, put_value, replace_value}
use Rattle.zone_values.proofs.HeldLaws.{some_bytes}
use Rattle.zone_values.proofs.ValueLaws.{Laid-put_value, Laid-replace_value, beside-put_value, beside-replace_value, put_value-refusal, replace_value-refusal}
use Rattle.cmd_buffer.specs.Aliases.{Alias, HoldsAliases, aliases_of, alias_places, AliasText, text_of, alias_texts, alias_value, with_value, with_text, IsReadBack, AliasRefusal, AliasRefusal.LongName, AliasRefusal.Full, AliasSet, refused, value_reset, record_written, record_added, added, changed, set_alias}
use Rattle.cmd_buffer.specs.AliasCalls.{given_back, set_told, IsSet, RanOutSetting, GivesSet}
use Rattle.cmd_buffer.specs.declared.aliases.AliasError.{AliasError}
use Rattle.cmd_buffer.specs.declared.aliases.AliasError.TheVariants as alias_error
use Rattle.mem_model.specs.declared.answers.ZoneError.TheVariants as zone_error
use Rattle.cmd_buffer.proofs.AliasTexts.{read_back}
use Rattle.cmd_buffer.proofs.AliasLaws.{texts_still, holds_none, aliases_none}
use Rattle.cmd_buffer.proofs.AliasAdding.{Stays, keeps_each, stays_kept, stays_added, kept_again, kept_first, newest_texts}
use Rattle.cmd_buffer.proofs.AliasChanging.{stays_changed, moved_texts}
use Rattle.cmd_buffer.proofs.AliasAnswers.{set_is_long, set_is_changed, set_is_added}

-- What is so of each way to set an alias is so of setting one.
module _ (P : AliasSet → Type 0) (m : Memory) (newest : Option ℕ) (name value : List ℕ)
    (long : 31 < length name → P (refused LongName m newest))
    (old : (a : Alias) → length name ≤ 31 → find (λ (x : Alias). bytes_eq x.name name) (aliases_of m newest) ≡ Some a → P (changed m newest a value))
    (new : length name ≤ 31 → find (λ (x : Alias). bytes_eq x.name name) (aliases_of m newest) ≡ None → P (added m newest name value)) where
  by_found : (o : Option Alias) → length name ≤ 31 → find (λ (x : Alias). bytes_eq x.name name) (aliases_of m newest) ≡ o → P (set_alias m newest name value)
  by_found None fits is = subst P (sym (set_is_added m newest name value fits is)) (new fits is)
  by_found (Some a) fits is = subst P (sym (set_is_changed m newest name value a fits is)) (old a fits is)

  by_name : P (set_alias m newest name value)
  by_name = elim (cases_lt 31 (length name)) [
    | inl above ↦ subst P (sym (set_is_long m newest name value above)) (long above)
    | inr fits ↦ by_found (find (λ (x : Alias). bytes_eq x.name name) (aliases_of m newest)) fits refl
  ]

-- What is so of a changed alias, by the answer that its value's block got; and of a new one.
by_reset : (P : AliasSet → Type 0) (m : Memory) (newest : Option ℕ) (a : Alias) (value : List ℕ) → ((answer : Result ℕ ℕ) → (replace_value m a.value_place value).answer ≡ answer → P (value_reset newest a.record_place (replace_value m a.value_place value).after answer)) → P (changed m newest a value)
by_reset P m newest a value each = each (replace_value m a.value_place value).answer refl

by_record : (P : AliasSet → Type 0) (m : Memory) (newest : Option ℕ) (name value : List ℕ) →
    ((asked : ℕ) → (z_alloc m 40).answer ≡ Err asked → P (refused (Full asked) (z_alloc m 40).after newest)) →
    ((place : ℕ) (answer : Result ℕ ℕ) → (z_alloc m 40).answer ≡ Ok place → (put_value (z_alloc m 40).after value).answer ≡ answer → P (record_written newest name place (put_value (z_alloc m 40).after value).after answer)) →
    P (added m newest name value)
by_record P m newest name value none given = by_first (z_alloc m 40).answer refl where
  by_first : (answer : Result ℕ ℕ) → (z_alloc m 40).answer ≡ answer → P (record_added newest name value (z_alloc m 40).after answer)
  by_first (Ok place) e = given place (put_value (z_alloc m 40).after value).answer e refl
  by_first (Err asked) e = none asked e

-- The aliases are held afterwards, and the blocks of others stay.
pub stays_set_alias : (m : Memory) (newest : Option ℕ) (name value : List ℕ) → Laid m → HoldsAliases m newest → IsText name → Stays m (set_alias m newest name value).after newest (set_alias m newest name value).newest
stays_set_alias m newest name value laid h text =
    by_name (λ s. Stays m s.after newest s.newest) m newest name value
    (λ long. stays_kept m m newest (λ place bytes there. there) h)
    (λ a fits is. stays_changed m newest name value a laid h is)
    (λ fits none. stays_added m newest name value laid h text fits)

-- The memory stays laid out.
pub Laid-set_alias : (m : Memory) (newest : Option ℕ) (name value : List ℕ) → Laid m → Laid (set_alias m newest name value).after
Laid-set_alias m newest name value laid =
    by_name (λ s. Laid s.after) m newest name value (λ long. laid) (λ a fits is. by_reset (λ s. Laid s.after) m newest a value (λ answer e. reset a answer))
    (λ fits none. by_record (λ s. Laid s.after) m newest name value (λ asked e. laid1) (λ place answer e e2. written place answer))
  where
    laid1 : Laid (z_alloc m 40).after
    laid1 = Laid-z_alloc m 40 laid

    reset : (a : Alias) (answer : Result ℕ ℕ) → Laid (value_reset newest a.record_place (replace_value m a.value_place value).after answer).after
    reset a (Ok v) = Laid-with_zone_bytes _ _ _ (Laid-replace_value m a.value_place value laid)
    reset a (Err asked) = Laid-replace_value m a.value_place value laid

    written : (place : ℕ) (answer : Result ℕ ℕ) → Laid (record_written newest name place (put_value (z_alloc m 40).after value).after answer).after
    written place (Ok v) = Laid-with_zone_bytes _ _ _ (Laid-put_value _ value laid1)
    written place (Err asked) = Laid-z_free _ place (Laid-put_value _ value laid1)

-- Nothing beside the zone changes,
pub beside-set_alias : (m : Memory) (newest : Option ℕ) (name value : List ℕ) → beside_zone (set_alias m newest name value).after ≡ beside_zone m
beside-set_alias m newest name value =
    by_name (λ s. beside_zone s.after ≡ beside_zone m) m newest name value (λ long. refl)
    (λ a fits is. by_reset (λ s. beside_zone s.after ≡ beside_zone m) m newest a value (λ answer e. reset a answer))
    (λ fits none. by_record (λ s. beside_zone s.after ≡ beside_zone m) m newest name value (λ asked e. given) (λ place answer e e2. written place answer))
  where
    given : beside_zone (z_alloc m 40).after ≡ beside_zone m
    given = beside-z_alloc m 40

    reset : (a : Alias) (answer : Result ℕ ℕ) → beside_zone (value_reset newest a.record_place (replace_value m a.value_place value).after answer).after ≡ beside_zone m
    reset a (Ok v) = beside-with_zone_bytes _ _ _ ∙ beside-replace_value m value a.value_place
    reset a (Err asked) = beside-replace_value m value a.value_place

    written : (place : ℕ) (answer : Result ℕ ℕ) → beside_zone (record_written newest name place (put_value (z_alloc m 40).after value).after answer).after ≡ beside_zone m
    written place (Ok v) = beside-with_zone_bytes _ _ _ ∙ beside-put_value _ value ∙ given
    written place (Err asked) = beside-z_free _ place ∙ beside-put_value _ value ∙ given

beside-given_back : (m : Memory) (answer : Result ℕ ℕ) → beside_zone (given_back m answer) ≡ beside_zone m
beside-given_back m (Ok place) = beside-z_free m place
beside-given_back m (Err asked) = refl

-- whatever the call tells.
pub beside_told : (m n : Memory) (before now : Option ℕ) (name value : List ℕ) (frugal : Bool) (told : Option (Result (Unit {0}) AliasRefusal)) → GivesSet (set_alias m before name value) frugal m before told n now → beside_zone n ≡ beside_zone m
beside_told m n before now name value frugal (Some answer) set = ap (λ (k : Memory). beside_zone k) set.after ∙ beside-set_alias m before name value
beside_told m n before now name value frugal None out = elim out.after [
  | inl same ↦ ap (λ (k : Memory). beside_zone k) same
  | inr back ↦ ap (λ (k : Memory). beside_zone k) back ∙ beside-given_back (z_alloc m 40).after (z_alloc m 40).answer ∙ beside-z_alloc m 40
]

-- `LongName` comes exactly where the name has more than 31 bytes.
pub set_alias-long : (m : Memory) (newest : Option ℕ) (name value : List ℕ) → 31 < length name → (set_alias m newest name value).answer ≡ Err LongName
set_alias-long m newest name value long = ap (λ (s : AliasSet). s.answer) (set_is_long m newest name value long)

pub long_only : (m : Memory) (newest : Option ℕ) (name value : List ℕ) → (set_alias m newest name value).answer ≡ Err LongName → 31 < length name
long_only m newest name value =
    by_name P m newest name value (λ long e. long) (λ a fits is. by_reset P m newest a value (λ answer e. reset a answer))
    (λ fits none. by_record P m newest name value (λ asked e. λ is. absurd (cc)) (λ place answer e e2. written place answer))
  where
    P : AliasSet → Type 0
    P s = s.answer ≡ Err LongName → 31 < length name

    reset : (a : Alias) (answer : Result ℕ ℕ) → P (value_reset newest a.record_place (replace_value m a.value_place value).after answer)
    reset a (Ok v) is = absurd (cc)
    reset a (Err asked) is = absurd (cc)

    written : (place : ℕ) (answer : Result ℕ ℕ) → P (record_written newest name place (put_value (z_alloc m 40).after value).after answer)
    written place (Ok v) is = absurd (cc)
    written place (Err asked) is = absurd (cc)

-- whether a text has exactly the name is whether an alias does
any_first : (m : Memory) (name : List ℕ) (a : Alias) (older : List Alias) (t : Bool) → list_any (λ (x : AliasText). bytes_eq x.name name) (map (text_of m) older) ≡ is_some (find (λ (x : Alias). bytes_eq x.name name) older) →
    (t || list_any (λ (x : AliasText). bytes_eq x.name name) (map (text_of m) older)) ≡ is_some (cond t (Some a) (find (λ (x : Alias). bytes_eq x.name name) older))
any_first m name a older true later = refl
any_first m name a older false later = later

any_found : (m : Memory) (name : List ℕ) (aliases : List Alias) → list_any (λ (x : AliasText). bytes_eq x.name name) (map (text_of m) aliases) ≡ is_some (find (λ (x : Alias). bytes_eq x.name name) aliases)
any_found m name [] = refl
any_found m name (a ∷ older) = any_first m name a older (bytes_eq a.name name) (any_found m name older)

-- what the texts become, by whether an alias has the name
text_of_old : (m : Memory) (newest : Option ℕ) (name value : List ℕ) (a : Alias) → find (λ (x : Alias). bytes_eq x.name name) (aliases_of m newest) ≡ Some a → with_text (alias_texts m newest) name value ≡ with_value (alias_texts m newest) name value
text_of_old m newest name value a is =
    ap (λ (t : Bool). cond t (with_value (alias_texts m newest) name value) (record { name = name; value = value } ∷ alias_texts m newest))
    (any_found m name (aliases_of m newest) ∙ ap (λ (o : Option Alias). is_some o) is)

text_of_new : (m : Memory) (newest : Option ℕ) (name value : List ℕ) → find (λ (x : Alias). bytes_eq x.name name) (aliases_of m newest) ≡ None → with_text (alias_texts m newest) name value ≡ record { name = name; value = value } ∷ alias_texts m newest
text_of_new m newest name value none =
    ap (λ (t : Bool). cond t (with_value (alias_texts m newest) name value) (record { name = name; value = value } ∷ alias_texts m newest))
    (any_found m name (aliases_of m newest) ∙ ap (λ (o : Option Alias). is_some o) none)

-- Where an alias is set, the name has the value from then on: an old name keeps its place, a new one is the newest.
pub texts-set_alias : (m : Memory) (newest : Option ℕ) (name value : List ℕ) → Laid m → HoldsAliases m newest → IsText name → IsText value → (set_alias m newest name value).answer ≡ Ok tt →
    alias_texts (set_alias m newest name value).after (set_alias m newest name value).newest ≡ with_text (alias_texts m newest) name value
texts-set_alias m newest name value laid h text value_text =
    by_name (λ s. s.answer ≡ Ok tt → alias_texts s.after s.newest ≡ with_text (alias_texts m newest) name value) m newest name value (λ long e. absurd (cc))
    (λ a fits is. by_reset (λ s. s.answer ≡ Ok tt → alias_texts s.after s.newest ≡ with_text (alias_texts m newest) name value) m newest a value (λ answer e. reset a is answer e))
    (λ fits none. by_record (λ s. s.answer ≡ Ok tt → alias_texts s.after s.newest ≡ with_text (alias_texts m newest) name value) m newest name value (λ asked e. λ is. absurd (cc)) (λ place answer e e2. written fits none place answer e e2))
  where
    reset : (a : Alias) → find (λ (x : Alias). bytes_eq x.name name) (aliases_of m newest) ≡ Some a → (answer : Result ℕ ℕ) → (replace_value m a.value_place value).answer ≡ answer →
        (value_reset newest a.record_place (replace_value m a.value_place value).after answer).answer ≡ Ok tt →
        alias_texts (value_reset newest a.record_place (replace_value m a.value_place value).after answer).after (value_reset newest a.record_place (replace_value m a.value_place value).after answer).newest ≡ with_text (alias_texts m newest) name value
    reset a is (Ok v) e ok = moved_texts m newest name value a v laid h is e value_text ∙ sym (text_of_old m newest name value a is)
    reset a is (Err asked) e ok = absurd (cc)

    written : length name ≤ 31 → find (λ (x : Alias). bytes_eq x.name name) (aliases_of m newest) ≡ None → (place : ℕ) (answer : Result ℕ ℕ) → (z_alloc m 40).answer ≡ Ok place → (put_value (z_alloc m 40).after value).answer ≡ answer →
        (record_written newest name place (put_value (z_alloc m 40).after value).after answer).answer ≡ Ok tt →
        alias_texts (record_written newest name place (put_value (z_alloc m 40).after value).after answer).after (record_written newest name place (put_value (z_alloc m 40).after value).after answer).newest ≡ with_text (alias_texts m newest) name value
    written fits none place (Ok v) given put ok = newest_texts m newest name value place laid h given v text fits put value_text ∙ sym (text_of_new m newest name value none)
    written fits none place (Err asked) given put ok = absurd (cc)

-- A refusal leaves the texts,
pub texts-refused : (m : Memory) (newest : Option ℕ) (name value : List ℕ) (refusal : AliasRefusal) → Laid m → HoldsAliases m newest → (set_alias m newest name value).answer ≡ Err refusal →
    ((set_alias m newest name value).newest ≡ newest) × (alias_texts (set_alias m newest name value).after newest ≡ alias_texts m newest)
texts-refused m newest name value refusal laid h =
    by_name P m newest name value (λ long e. (refl, refl)) (λ a fits is. by_reset P m newest a value (λ answer e. reset a answer e))
    (λ fits none. by_record P m newest name value (λ asked e. λ is. (refl, kept _ (λ place bytes there. zone_bytes-z_alloc m 40 place bytes laid there))) (λ place answer e e2. written place answer e))
  where
    P : AliasSet → Type 0
    P s = s.answer ≡ Err refusal → (s.newest ≡ newest) × (alias_texts s.after newest ≡ alias_texts m newest)

    kept : (n : Memory) → ((place : ℕ) (bytes : List ℕ) → zone_bytes m place ≡ Some bytes → zone_bytes n place ≡ Some bytes) → alias_texts n newest ≡ alias_texts m newest
    kept n each = texts_still m n newest (keeps_each m n (alias_places (aliases_of m newest)) each) h

    reset : (a : Alias) (answer : Result ℕ ℕ) → (replace_value m a.value_place value).answer ≡ answer → P (value_reset newest a.record_place (replace_value m a.value_place value).after answer)
    reset a (Ok v) e is = absurd (cc)
    reset a (Err asked) e is =
        (refl, kept _ (λ place bytes there. zone_bytes-same (replace_value m a.value_place value).after m place (replace_value-refusal m value a.value_place asked e).1 ∙ there))

    written : (place : ℕ) (answer : Result ℕ ℕ) → (z_alloc m 40).answer ≡ Ok place → P (record_written newest name place (put_value (z_alloc m 40).after value).after answer)
    written place (Ok v) given is = absurd (cc)
    written place (Err asked) given is = (refl, kept _ (kept_again m newest name value place laid h given))

-- and so does a want of memory, which gives a new record's block back.
pub texts-given_back : (m : Memory) (newest : Option ℕ) → Laid m → HoldsAliases m newest → alias_texts (given_back (z_alloc m 40).after (z_alloc m 40).answer) newest ≡ alias_texts m newest
texts-given_back m newest laid h = by_answer (z_alloc m 40).answer refl where
  by_answer : (answer : Result ℕ ℕ) → (z_alloc m 40).answer ≡ answer → alias_texts (given_back (z_alloc m 40).after answer) newest ≡ alias_texts m newest
  by_answer (Ok place) given = texts_still m _ newest (keeps_each m _ (alias_places (aliases_of m newest)) (kept_first m newest [] [] place laid h given)) h
  by_answer (Err asked) given = texts_still m _ newest (keeps_each m _ (alias_places (aliases_of m newest)) (λ place bytes there. zone_bytes-z_alloc m 40 place bytes laid there)) h

-- `Full` tells the need of a record or of the value.
pub set_alias-full : (m : Memory) (newest : Option ℕ) (name value : List ℕ) (asked : ℕ) → (set_alias m newest name value).answer ≡ Err (Full asked) → (asked ≡ zone_need 40) ⊎ (asked ≡ zone_need (length value + 1))
set_alias-full m newest name value asked =
    by_name P m newest name value (λ long e. absurd (cc)) (λ a fits is. by_reset P m newest a value (λ answer e. reset a answer e))
    (λ fits none. by_record P m newest name value first (λ place answer e e2. written place answer e2))
  where
    P : AliasSet → Type 0
    P s = s.answer ≡ Err (Full asked) → (asked ≡ zone_need 40) ⊎ (asked ≡ zone_need (length value + 1))

    first : (told : ℕ) → (z_alloc m 40).answer ≡ Err told → P (refused (Full told) (z_alloc m 40).after newest)
    first told e is = (let same : told ≡ asked = cc in inl (sym same ∙ (z_alloc-refusal m 40 told e).0))

    reset : (a : Alias) (answer : Result ℕ ℕ) → (replace_value m a.value_place value).answer ≡ answer → P (value_reset newest a.record_place (replace_value m a.value_place value).after answer)
    reset a (Ok v) e is = absurd (cc)
    reset a (Err told) e is = (let same : told ≡ asked = cc in inr (sym same ∙ (replace_value-refusal m value a.value_place told e).0))

    written : (place : ℕ) (answer : Result ℕ ℕ) → (put_value (z_alloc m 40).after value).answer ≡ answer → P (record_written newest name place (put_value (z_alloc m 40).after value).after answer)
    written place (Ok v) e is = absurd (cc)
    written place (Err told) e is = (let same : told ≡ asked = cc in inr (sym same ∙ (put_value-refusal (z_alloc m 40).after value told e).0))

-- Exchanging a value leaves the names in their order.
names_first : (t : AliasText) (older : List AliasText) (name value : List ℕ) (b : Bool) → map (λ (x : AliasText). x.name) (with_value older name value) ≡ map (λ (x : AliasText). x.name) older →
    map (λ (x : AliasText). x.name) (cond b (record t { value = value } ∷ older) (t ∷ with_value older name value)) ≡ t.name ∷ map (λ (x : AliasText). x.name) older
names_first t older name value true later = refl
names_first t older name value false later = ap (λ names. t.name ∷ names) later

pub names-with_value : (texts : List AliasText) (name value : List ℕ) → map (λ (t : AliasText). t.name) (with_value texts name value) ≡ map (λ (t : AliasText). t.name) texts
names-with_value [] name value = refl
names-with_value (t ∷ older) name value = names_first t older name value (bytes_eq t.name name) (names-with_value older name value)

-- the value of a used block, as a text has it
some_value : (m : Memory) (place : ℕ) → IsSome (zone_bytes m place) → value_at m place ≡ Some (unwrap_or (value_at m place) [])
unfolding value_at
some_value m place used =
    let some = some_bytes (zone_bytes m place) used in
    ap (option_map until_zero) some.1 ∙ sym (ap (λ (o : Option (List ℕ)). Some (unwrap_or (option_map until_zero o) [])) some.1)

value_first : (m : Memory) (name : List ℕ) (a : Alias) (older : List Alias) (t : Bool) → value_at m a.value_place ≡ Some (unwrap_or (value_at m a.value_place) []) →
    option_and_then (λ (x : Alias). value_at m x.value_place) (find (λ (x : Alias). str_eq_ignore_ascii_case x.name name) older)
    ≡ option_map (λ (x : AliasText). x.value) (find (λ (x : AliasText). str_eq_ignore_ascii_case x.name name) (map (text_of m) older)) →
    option_and_then (λ (x : Alias). value_at m x.value_place) (cond t (Some a) (find (λ (x : Alias). str_eq_ignore_ascii_case x.name name) older))
    ≡ option_map (λ (x : AliasText). x.value) (cond t (Some (text_of m a)) (find (λ (x : AliasText). str_eq_ignore_ascii_case x.name name) (map (text_of m) older)))
value_first m name a older true there later = there
value_first m name a older false there later = later

value_in_texts : (m : Memory) (name : List ℕ) (aliases : List Alias) → AreUsed m (alias_places aliases) →
    option_and_then (λ (x : Alias). value_at m x.value_place) (find (λ (x : Alias). str_eq_ignore_ascii_case x.name name) aliases)
    ≡ option_map (λ (x : AliasText). x.value) (find (λ (x : AliasText). str_eq_ignore_ascii_case x.name name) (map (text_of m) aliases))
value_in_texts m name [] used = refl
value_in_texts m name (a ∷ older) used = value_first m name a older (str_eq_ignore_ascii_case a.name name) (some_value m a.value_place used.1.0) (value_in_texts m name older used.1.1)

-- The value of the newest alias of a name is that of the newest text.
pub value-texts : (m : Memory) (newest : Option ℕ) (name : List ℕ) → HoldsAliases m newest →
    option_and_then (λ (a : Alias). value_at m a.value_place) (find (λ (a : Alias). str_eq_ignore_ascii_case a.name name) (aliases_of m newest)) ≡ alias_value m newest name
value-texts m newest name h = value_in_texts m name (aliases_of m newest) h.held.used

-- What was set is read back; after a refusal or a want of memory all texts are as before.
texts_out : (m n : Memory) (before now : Option ℕ) (frugal : Bool) → Laid m → HoldsAliases m before → RanOutSetting frugal m n before now → alias_texts n now ≡ alias_texts m before
texts_out m n before now frugal laid h out = ap (alias_texts n) out.same ∙ elim out.after [
  | inl same ↦ ap (λ (k : Memory). alias_texts k before) same
  | inr back ↦ ap (λ (k : Memory). alias_texts k before) back ∙ texts-given_back m before laid h
]

texts_kept : (m n : Memory) (before now : Option ℕ) (name value : List ℕ) (refusal : AliasRefusal) → Laid m → HoldsAliases m before → IsSet (set_alias m before name value) (Err refusal) n now → alias_texts n now ≡ alias_texts m before
texts_kept m n before now name value refusal laid h set =
    let kept = texts-refused m before name value refusal laid h set.answer in
    ap (λ (k : Memory). alias_texts k now) set.after ∙ ap (alias_texts (set_alias m before name value).after) (set.newest ∙ kept.0) ∙ kept.1

pub reads_told : (m n : Memory) (before now : Option ℕ) (name value : List ℕ) (frugal : Bool) (result : Result (Unit {0}) AliasError) → Laid m → HoldsAliases m before → IsText name → IsText value → GivesSet (set_alias m before name value) frugal m before (set_told result) n now →
    OnOk result (IsReadBack (alias_texts m before) (alias_texts n now) name value) × OnErr result (alias_texts n now ≡ alias_texts m before)
reads_told m n before now name value frugal (Ok done) laid h text value_text set =
    let texts = ap (λ (k : Memory). alias_texts k now) set.after ∙ ap (alias_texts (set_alias m before name value).after) set.newest ∙ texts-set_alias m before name value laid h text value_text set.answer in
    (subst (λ (texts : List AliasText). IsReadBack (alias_texts m before) texts name value) (sym texts) (read_back (alias_texts m before) name value), tt)
reads_told m n before now name value frugal (Err alias_error.LongName) laid h text value_text set = (tt, texts_kept m n before now name value LongName laid h set)
reads_told m n before now name value frugal (Err (alias_error.Zone (zone_error.Full asked))) laid h text value_text set = (tt, texts_kept m n before now name value (Full asked) laid h set)
reads_told m n before now name value frugal (Err (alias_error.Zone zone_error.OutOfMemory)) laid h text value_text out = (tt, texts_out m n before now frugal laid h out)

-- A call that told of a long name was given one.
pub long_told : (m n : Memory) (before now : Option ℕ) (name value : List ℕ) (frugal : Bool) (result : Result (Unit {0}) AliasError) → GivesSet (set_alias m before name value) frugal m before (set_told result) n now → result ≡ Err alias_error.LongName → 31 < length name
long_told m n before now name value frugal result set long =
    long_only m before name value (subst (λ (r : Result (Unit {0}) AliasError). GivesSet (set_alias m before name value) frugal m before (set_told r) n now) long set).answer

-- for callers: `#[tactic(auto, using(cmd_buffer::proofs::AliasSetLaws::alias_laws))]`
pub ruleset alias_laws = (holds_none, aliases_none, stays_set_alias, Laid-set_alias, beside-set_alias, beside_told, set_alias-long, texts-set_alias, texts-given_back, names-with_value, set_alias-full, value-texts, reads_told)
