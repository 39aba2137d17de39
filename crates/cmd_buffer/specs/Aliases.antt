-- The aliases: records and values in zone blocks, and a chain through the records, the newest first.
use Prim.Native.Nat.{zero, suc}
use Rattle.std.specs.Prelude.{◌≡◌, ◌≢◌, IsTrue, option_map, ◌≤◌, ℕ, ◌-◌, List, [], ◌∷◌, ◌++◌, length, take, drop, replicate, map, find, nat_eq, nat_lt, bytes_eq, Option, Some, None, Result, Ok, Err, if◌then◌else◌, option_and_then}
use Rattle.std.specs.Option.{unwrap_or}
use Rattle.std.specs.List.{list_any, AllByRecursion}
use Rattle.std.specs.Str.{str_eq_ignore_ascii_case}
use Rattle.base_fields.specs.Fields.{u32_in, u32_bytes, with_field}
use Rattle.base_fields.specs.Texts.{until_zero}
use Rattle.mem_model.specs.Memory.{Memory}
use Rattle.mem_model.specs.Zone.{zone_bytes, with_zone_bytes}
use Rattle.mem_model.specs.Answer.{Answered}
use Rattle.mem_model.specs.Operations.{z_alloc, z_free}
use Rattle.zone_values.specs.Held.{AreHeld}
use Rattle.zone_values.specs.Values.{value_at, put_value, replace_value}

-- an alias: the places of its record and of its value, and its name
pub record Alias : Type 0 where
  pub record_place : ℕ
  pub name : List ℕ
  pub value_place : ℕ

-- A field of four bytes names a place, or none by its largest number.
abbrev pub place_of : ℕ → Option ℕ
place_of number = if nat_eq number 4294967295 then None else Some number

abbrev pub number_of : Option ℕ → ℕ
number_of None = 4294967295
number_of (Some place) = place

-- The fields of a record: the place of the next, the name in 32 bytes, and the place of the value.
abbrev pub next_in : List ℕ → Option ℕ
next_in bytes = place_of (u32_in bytes 0)

abbrev pub name_in : List ℕ → List ℕ
name_in bytes = until_zero (take 32 (drop 4 bytes))

abbrev pub value_in : List ℕ → ℕ
value_in bytes = u32_in bytes 36

-- the 40 bytes of a record
abbrev pub spelled : Option ℕ → List ℕ → ℕ → List ℕ
spelled next name value = u32_bytes (number_of next) ++ (name ++ replicate (32 - length name) 0) ++ u32_bytes value

abbrev pub alias_at : ℕ → List ℕ → Alias
alias_at place bytes = record { record_place = place; name = name_in bytes; value_place = value_in bytes }

-- the alias of a record's bytes, where its place has any, and those that follow it
abbrev pub alias_and : ℕ → Option (List ℕ) → (Option ℕ → List Alias) → List Alias
alias_and place None rest = []
alias_and place (Some bytes) rest = alias_at place bytes ∷ rest (next_in bytes)

-- the aliases of a chain of at most so many records, the first of which is at this place
abbrev pub followed : ℕ → Memory → Option ℕ → List Alias
followed zero m place = []
followed (suc n) m None = []
followed (suc n) m (Some place) = alias_and place (zone_bytes m place) (λ next. followed n m next)

-- The aliases, the newest first: there are at most as many as the zone has blocks.
unfoldable pub aliases_of : Memory → Option ℕ → List Alias
aliases_of m newest = followed (length m.zone.blocks) m newest

-- The record of an alias is a block of the zone, and the next one's place is this.
pub record IsRecord (m : Memory) (a : Alias) (next : Option ℕ) : Type 0 where
  pub bytes : List ℕ
  pub there : zone_bytes m a.record_place ≡ Some bytes
  pub long : 40 ≤ length bytes
  pub follows : next_in bytes ≡ next
  pub name : name_in bytes ≡ a.name
  pub value : value_in bytes ≡ a.value_place

-- These are all aliases of the chain that begins at a place: each record names the next.
abbrev pub IsChain : Memory → Option ℕ → List Alias → Type 0
IsChain m first [] = first ≡ None
IsChain m first (a ∷ older) = (first ≡ Some a.record_place) × ((next : Option ℕ) × IsRecord m a next × IsChain m next older)

-- the places of all records and values
abbrev pub alias_places : List Alias → List ℕ
alias_places [] = []
alias_places (a ∷ older) = a.record_place ∷ a.value_place ∷ alias_places older

-- The chain ends, and its records and values are in used blocks of the zone, each in its own.
pub record HoldsAliases (m : Memory) (newest : Option ℕ) : Type 0 where
  pub chain : IsChain m newest (aliases_of m newest)
  pub held : AreHeld m (alias_places (aliases_of m newest))

-- a name, and the value that its block holds
pub record AliasText : Type 0 where
  pub name : List ℕ
  pub value : List ℕ

abbrev pub text_of : Memory → Alias → AliasText
text_of m a = record { name = a.name; value = unwrap_or (value_at m a.value_place) [] }

-- the names with their values, the newest first
abbrev pub alias_texts : Memory → Option ℕ → List AliasText
alias_texts m newest = map (text_of m) (aliases_of m newest)

-- the texts with another value for the newest of exactly this name
abbrev pub with_value : List AliasText → (name value : List ℕ) → List AliasText
with_value [] name value = []
with_value (t ∷ older) name value = if bytes_eq t.name name then record t { value = value } ∷ older else t ∷ with_value older name value

-- A name that has a text gets the value. Another one and the value are the newest text.
abbrev pub with_text : List AliasText → (name value : List ℕ) → List AliasText
with_text texts name value =
    if list_any (λ (t : AliasText). bytes_eq t.name name) texts then with_value texts name value
    else record { name = name; value = value } ∷ texts

-- the value of the newest text of exactly a name
abbrev pub value_of : List AliasText → List ℕ → Option (List ℕ)
value_of texts name = option_map (λ (t : AliasText). t.value) (find (λ (t : AliasText). bytes_eq t.name name) texts)

-- that of the newest text of a name, in any case of its letters
abbrev pub value_in_any_case : List AliasText → List ℕ → Option (List ℕ)
value_in_any_case texts name =
    option_map (λ (t : AliasText). t.value) (find (λ (t : AliasText). str_eq_ignore_ascii_case t.name name) texts)

-- no text has the name in another case of its letters
abbrev pub HasOneCase : List AliasText → List ℕ → Type 0
HasOneCase texts name = AllByRecursion (λ (t : AliasText). IsTrue (str_eq_ignore_ascii_case t.name name) → t.name ≡ name) texts

-- The name was given the value: it is read from then on, and each other name as before.
pub record IsReadBack (before now : List AliasText) (name value : List ℕ) : Type 0 where
  pub texts : now ≡ with_text before name value
  pub own : value_of now name ≡ Some value
  pub any_case : HasOneCase before name → value_in_any_case now name ≡ Some value
  pub others : (other : List ℕ) → other ≢ name → value_of now other ≡ value_of before other

-- the value of the newest alias of a name, in any case of its letters
abbrev pub alias_value : Memory → Option ℕ → List ℕ → Option (List ℕ)
alias_value m newest name = value_in_any_case (alias_texts m newest) name

-- the newest record of the aliases behind the newest
abbrev pub older_than : Memory → Option ℕ → Option ℕ
older_than m newest = option_and_then next_in (option_and_then (zone_bytes m) newest)

-- why an alias was not set: its name has more than 31 bytes, or a block of this size was refused
pub data AliasRefusal : Type 0 where
  LongName : AliasRefusal
  Full : ℕ → AliasRefusal

-- what a setting gives: the answer, the memory after it, and the newest record's place
pub record AliasSet : Type 0 where
  pub answer : Result (Unit {0}) AliasRefusal
  pub after : Memory
  pub newest : Option ℕ

abbrev pub refused : AliasRefusal → Memory → Option ℕ → AliasSet
refused refusal m newest = record { answer = Err refusal; after = m; newest = newest }

-- the memory with another value's place in the record at a place
abbrev pub value_moved : Memory → ℕ → ℕ → Memory
value_moved m place value = with_zone_bytes m place (with_field (unwrap_or (zone_bytes m place) []) 36 (u32_bytes value))

-- The record of an old name gets the place of its new value, where there is one.
abbrev pub value_reset : Option ℕ → ℕ → Memory → Result ℕ ℕ → AliasSet
value_reset newest place m (Ok value) = record { answer = Ok tt; after = value_moved m place value; newest = newest }
value_reset newest place m (Err asked) = refused (Full asked) m newest

-- A new record is written and becomes the newest; where its value was refused it is freed again.
abbrev pub record_written : Option ℕ → List ℕ → ℕ → Memory → Result ℕ ℕ → AliasSet
record_written newest name place m (Ok value) = record { answer = Ok tt; after = with_zone_bytes m place (spelled newest name value); newest = Some place }
record_written newest name place m (Err asked) = refused (Full asked) (z_free m place).after newest

abbrev pub value_added : Option ℕ → List ℕ → ℕ → Answered (Result ℕ ℕ) → AliasSet
value_added newest name place given = record_written newest name place given.after given.answer

abbrev pub record_added : Option ℕ → (name value : List ℕ) → Memory → Result ℕ ℕ → AliasSet
record_added newest name value m (Ok place) = value_added newest name place (put_value m value)
record_added newest name value m (Err asked) = refused (Full asked) m newest

-- a new alias
abbrev pub added : Memory → Option ℕ → (name value : List ℕ) → AliasSet
added m newest name value = record_added newest name value (z_alloc m 40).after (z_alloc m 40).answer

-- the alias that has the name already gets the new value, before the old one is freed
abbrev pub changed : Memory → Option ℕ → Alias → List ℕ → AliasSet
changed m newest a value = value_reset newest a.record_place (replace_value m a.value_place value).after (replace_value m a.value_place value).answer

abbrev pub set_named : Memory → Option ℕ → (name value : List ℕ) → Option Alias → AliasSet
set_named m newest name value None = added m newest name value
set_named m newest name value (Some a) = changed m newest a value

-- A name of more than 31 bytes is refused. An alias of exactly the same name gets the new value and keeps its place.
unfoldable pub set_alias : Memory → Option ℕ → (name value : List ℕ) → AliasSet
set_alias m newest name value =
    if nat_lt 31 (length name) then refused LongName m newest
    else set_named m newest name value (find (λ (a : Alias). bytes_eq a.name name) (aliases_of m newest))
