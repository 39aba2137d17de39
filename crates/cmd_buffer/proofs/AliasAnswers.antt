-- What setting an alias gives, from what the calls of the store gave.
use Rattle.std.proofs.Common.{◌≡◌, ℕ, ◌<◌, ◌≤◌, List, [], Bool, false, cond, nat_lt, find, bytes_eq, Option, Some, None, Result, Ok, Err, length, inl, inr, refl, sym, ap, ◌∙◌, subst, replicate, arith, le-ltb, lt-ltb}
use Rattle.std.specs.Result.{IsErr, IsErrAnd}
use Rattle.std.specs.Option.{unwrap_or}
use Rattle.std.proofs.lemmas.List.{length-replicate}
use Rattle.base_fields.specs.Fields.{u32_bytes, with_field}
use Rattle.mem_model.specs.Memory.{Memory}
use Rattle.mem_model.specs.Laid.{Laid}
use Rattle.mem_model.specs.Hunk.{over}
use Rattle.mem_model.specs.Zone.{zone_bytes, with_zone_bytes}
use Rattle.mem_model.specs.Answer.{Answers, Gives}
use Rattle.mem_model.specs.Told.{zone_answer}
use Rattle.mem_model.specs.Operations.{z_alloc, z_free}
use Rattle.mem_model.specs.declared.answers.ZoneError.{ZoneError}
use Rattle.mem_model.specs.declared.answers.ZoneError.TheVariants as zone_error
use Rattle.mem_model.proofs.ZoneLaws.{zone_bytes-new}
use Rattle.zone_values.specs.Values.{put_value, replace_value}
use Rattle.zone_values.proofs.Writing.{with_zone_bytes-over}
use Rattle.zone_values.proofs.ValueLaws.{zone_bytes-put_value, zone_bytes-replace_value}
use Rattle.cmd_buffer.specs.Aliases.{Alias, AliasRefusal, AliasRefusal.LongName, AliasSet, HoldsAliases, aliases_of, spelled, added, record_added, record_written, refused, changed, value_reset, set_named, set_alias}
use Rattle.cmd_buffer.specs.AliasCalls.{set_told, IsSet, RanOutSetting, given_back, GivesSet}
use Rattle.cmd_buffer.specs.declared.aliases.AliasError.{AliasError}
use Rattle.cmd_buffer.specs.declared.aliases.AliasError.TheVariants as alias_error
use Rattle.cmd_buffer.proofs.AliasAdding.{Stays, stays_kept, stays_given_back}
use Rattle.cmd_buffer.proofs.AliasChanging.{IsFound}

-- what was set, where its parts are these
is_set : (s t : AliasSet) → s ≡ t → IsSet s t.answer t.after t.newest
is_set s t same = record { answer = ap (λ (x : AliasSet). x.answer) same; after = sym (ap (λ (x : AliasSet). x.after) same); newest = sym (ap (λ (x : AliasSet). x.newest) same) }

-- another spelling of the memory
pub set_same : (s : AliasSet) (answer : Result (Unit {0}) AliasRefusal) (k n : Memory) (now : Option ℕ) → IsSet s answer k now → n ≡ k → IsSet s answer n now
set_same s answer k n now set same = record { answer = set.answer; after = same ∙ set.after; newest = set.newest }

-- the same setting, by another definition
pub given_same : (s t : AliasSet) (frugal : Bool) (m n : Memory) (before now : Option ℕ) (told : Option (Result (Unit {0}) AliasRefusal)) → s ≡ t → GivesSet t frugal m before told n now → GivesSet s frugal m before told n now
given_same s t frugal m n before now told same given = subst (λ (x : AliasSet). GivesSet x frugal m before told n now) (sym same) given

pub set_of : (s t : AliasSet) (answer : Result (Unit {0}) AliasRefusal) (n : Memory) (now : Option ℕ) → s ≡ t → IsSet t answer n now → IsSet s answer n now
set_of s t answer n now same set = subst (λ (x : AliasSet). IsSet x answer n now) (sym same) set

-- what `?` returns of an error of the zone
pub from_zone : (result : Result (Unit {0}) AliasError) (error : ZoneError) → IsErr result → IsErrAnd result (λ e. e ≡ alias_error.Zone error) → result ≡ Err (alias_error.Zone error)
from_zone (Ok done) error is h = absurd (cc)
from_zone (Err other) error is h = ap Err h

-- the record has its block
module _ (m n1 : Memory) (newest : Option ℕ) (name value : List ℕ) (place : ℕ) (given : Answers (z_alloc m 40) (Ok place) n1) where
  first : added m newest name value ≡ record_added newest name value n1 (Ok place)
  first = ap (record_added newest name value (z_alloc m 40).after) given.answer ∙ ap (λ (k : Memory). record_added newest name value k (Ok place)) (sym given.after)

  -- its bytes, once the value has its own block
  pub has_room : (n2 : Memory) (v : ℕ) → Laid m → Laid n1 → Answers (put_value n1 value) (Ok v) n2 → (bytes : List ℕ) × (40 ≤ length bytes) × (zone_bytes n2 place ≡ Some bytes)
  has_room n2 v laid laid1 put =
      let new = zone_bytes-new m 40 place laid given.answer in
      let bytes = replicate new.0 0 in
      let many : length bytes ≡ new.0 = length-replicate new.0 0 in
      let there : zone_bytes n1 place ≡ Some bytes = ap (λ (k : Memory). zone_bytes k place) given.after ∙ new.2 in
      (bytes, omega (arith, new.1), ap (λ (k : Memory). zone_bytes k place) put.after ∙ zone_bytes-put_value n1 value bytes place laid1 there)

  pub record_set : (n2 : Memory) (v : ℕ) (old : List ℕ) → Answers (put_value n1 value) (Ok v) n2 → zone_bytes n2 place ≡ Some old → IsSet (added m newest name value) (Ok tt) (with_zone_bytes n2 place (over old (spelled newest name v))) (Some place)
  record_set n2 v old put there =
      let is : added m newest name value ≡ record_written newest name place n2 (Ok v) =
      first ∙ ap (record_written newest name place (put_value n1 value).after) put.answer ∙ ap (λ (k : Memory). record_written newest name place k (Ok v)) (sym put.after) in
      set_same _ _ _ _ _ (is_set _ _ is) (with_zone_bytes-over n2 place old (spelled newest name v) there)

  pub record_freed : (n2 : Memory) (frugal : Bool) (error : ZoneError) → Gives (put_value n1 value) frugal n1 (zone_answer (Err error)) n2 →
      GivesSet (added m newest name value) frugal m newest (set_told (Err (alias_error.Zone error))) (z_free n2 place).after newest
  record_freed n2 frugal (zone_error.Full asked) put =
      let is : added m newest name value ≡ record_written newest name place n2 (Err asked) =
      first ∙ ap (record_written newest name place (put_value n1 value).after) put.answer ∙ ap (λ (k : Memory). record_written newest name place k (Err asked)) (sym put.after) in
      is_set _ _ is
  record_freed n2 frugal zone_error.OutOfMemory ran_out = record {
    not_frugal = ran_out.not_frugal;
    after = inr (ap (λ (k : Memory). (z_free k place).after) (ran_out.after ∙ given.after) ∙ sym (ap (given_back (z_alloc m 40).after) given.answer));
    same = refl;
  }

-- the record has none
pub not_recorded : (m n : Memory) (newest : Option ℕ) (name value : List ℕ) (frugal : Bool) (error : ZoneError) → Gives (z_alloc m 40) frugal m (zone_answer (Err error)) n →
    GivesSet (added m newest name value) frugal m newest (set_told (Err (alias_error.Zone error))) n newest
not_recorded m n newest name value frugal (zone_error.Full asked) given =
    is_set _ _ (ap (record_added newest name value (z_alloc m 40).after) given.answer ∙ ap (λ (k : Memory). record_added newest name value k (Err asked)) (sym given.after))
not_recorded m n newest name value frugal zone_error.OutOfMemory ran_out = record { not_frugal = ran_out.not_frugal; after = inl ran_out.after; same = refl }

-- what the call found, of the aliases that it was asked about
pub found_of : (m : Memory) (asked newest : Option ℕ) (name : List ℕ) (o : Option Alias) → asked ≡ newest → o ≡ find (λ (x : Alias). bytes_eq x.name name) (aliases_of m asked) → find (λ (x : Alias). bytes_eq x.name name) (aliases_of m newest) ≡ o
found_of m asked newest name o same is = ap (λ (p : Option ℕ). find (λ (x : Alias). bytes_eq x.name name) (aliases_of m p)) (sym same) ∙ sym is

-- the alias that has the name is changed, with its record's bytes
module _ (m n : Memory) (newest : Option ℕ) (name value : List ℕ) (a : Alias) where
  pub record_changed : (v : ℕ) (bytes : List ℕ) → Answers (replace_value m a.value_place value) (Ok v) n → zone_bytes n a.record_place ≡ Some bytes →
      IsSet (changed m newest a value) (Ok tt) (with_zone_bytes n a.record_place (with_field bytes 36 (u32_bytes v))) newest
  record_changed v bytes given there =
      let is : changed m newest a value ≡ value_reset newest a.record_place n (Ok v) =
      ap (value_reset newest a.record_place (replace_value m a.value_place value).after) given.answer ∙ ap (λ (k : Memory). value_reset newest a.record_place k (Ok v)) (sym given.after) in
      set_same _ _ _ _ _ (is_set _ _ is) (ap (λ (o : Option (List ℕ)). with_zone_bytes n a.record_place (with_field (unwrap_or o []) 36 (u32_bytes v))) (sym there))

  pub not_changed : (frugal : Bool) (error : ZoneError) → Gives (replace_value m a.value_place value) frugal m (zone_answer (Err error)) n →
      GivesSet (changed m newest a value) frugal m newest (set_told (Err (alias_error.Zone error))) n newest
  not_changed frugal (zone_error.Full asked) given =
      is_set _ _ (ap (value_reset newest a.record_place (replace_value m a.value_place value).after) given.answer ∙ ap (λ (k : Memory). value_reset newest a.record_place k (Err asked)) (sym given.after))
  not_changed frugal zone_error.OutOfMemory ran_out = record { not_frugal = ran_out.not_frugal; after = inl ran_out.after; same = refl }

  -- its record stays
  pub still_room : (v : ℕ) → Laid m → IsFound m a → Answers (replace_value m a.value_place value) (Ok v) n → (bytes : List ℕ) × (40 ≤ length bytes) × (zone_bytes n a.record_place ≡ Some bytes)
  still_room v laid found given =
      (found.bytes, found.long, ap (λ (k : Memory). zone_bytes k a.record_place) given.after ∙ zone_bytes-replace_value m value found.bytes a.value_place a.record_place laid (λ same. found.apart (sym same)) found.there)

-- what setting is, by the name's length and whether an alias has it
module _ (m : Memory) (newest : Option ℕ) (name value : List ℕ) where
  abbrev named : AliasSet
  named = set_named m newest name value (find (λ (x : Alias). bytes_eq x.name name) (aliases_of m newest))

  short_name : length name ≤ 31 → nat_lt 31 (length name) ≡ false
  short_name fits = le-ltb 31 (length name) fits

  pub set_is_long : 31 < length name → set_alias m newest name value ≡ refused LongName m newest
  unfolding set_alias
  set_is_long long = ap (λ (t : Bool). cond t (refused LongName m newest) named) (lt-ltb 31 (length name) long)

  pub set_is_changed : (a : Alias) → length name ≤ 31 → find (λ (x : Alias). bytes_eq x.name name) (aliases_of m newest) ≡ Some a → set_alias m newest name value ≡ changed m newest a value
  unfolding set_alias
  set_is_changed a fits is = ap (λ (t : Bool). cond t (refused LongName m newest) named) (short_name fits) ∙ ap (set_named m newest name value) is

  pub set_is_added : length name ≤ 31 → find (λ (x : Alias). bytes_eq x.name name) (aliases_of m newest) ≡ None → set_alias m newest name value ≡ added m newest name value
  unfolding set_alias
  set_is_added fits none = ap (λ (t : Bool). cond t (refused LongName m newest) named) (short_name fits) ∙ ap (set_named m newest name value) none

  pub long_set : 31 < length name → IsSet (set_alias m newest name value) (Err LongName) m newest
  long_set long = is_set _ _ (set_is_long long)

-- The aliases are held, and the blocks of others stay, whatever setting gave.
pub stays_set : (m n : Memory) (before now : Option ℕ) (s : AliasSet) (answer : Result (Unit {0}) AliasRefusal) → Stays m s.after before s.newest → IsSet s answer n now → Stays m n before now
stays_set m n before now s answer stays set =
    subst (λ (k : Memory). Stays m k before now) (sym set.after) (subst (λ (o : Option ℕ). Stays m s.after before o) (sym set.newest) stays)

pub stays_out : (m n : Memory) (frugal : Bool) (before now : Option ℕ) → Laid m → HoldsAliases m before → RanOutSetting frugal m n before now → Stays m n before now
stays_out m n frugal before now laid h out =
    subst (Stays m n before) (sym out.same) (elim out.after [
      | inl same ↦ subst (λ (k : Memory). Stays m k before before) (sym same) (stays_kept m m before (λ place bytes there. there) h)
      | inr back ↦ subst (λ (k : Memory). Stays m k before before) (sym back) (stays_given_back m before laid h)
    ])

pub stays_told : (m n : Memory) (frugal : Bool) (before now : Option ℕ) (s : AliasSet) (told : Option (Result (Unit {0}) AliasRefusal)) → Laid m → HoldsAliases m before → Stays m s.after before s.newest → GivesSet s frugal m before told n now → Stays m n before now
stays_told m n frugal before now s None laid h stays out = stays_out m n frugal before now laid h out
stays_told m n frugal before now s (Some answer) laid h stays set = stays_set m n before now s answer stays set
