-- Values that lie in blocks of the zone: the bytes of a value, and a zero.
use Rattle.std.specs.Prelude.{ℕ, ◌+◌, List, [], ◌∷◌, ◌++◌, Option, Result, Ok, Err, length, option_map}
use Rattle.base_fields.specs.Texts.{until_zero}
use Rattle.mem_model.specs.Memory.{Memory}
use Rattle.mem_model.specs.Answer.{Answered}
use Rattle.mem_model.specs.Zone.{zone_bytes, with_zone_bytes}
use Rattle.mem_model.specs.Operations.{z_alloc, z_free}

-- the value in the used block whose payload is at this place
unfoldable pub value_at : Memory → ℕ → Option (List ℕ)
value_at m place = option_map until_zero (zone_bytes m place)

-- the bytes of a value, and the zero that ends it
abbrev pub with_zero : List ℕ → List ℕ
with_zero value = value ++ 0 ∷ []

-- the value is written into the block that was given, where one was
abbrev pub value_put : List ℕ → Result ℕ ℕ → Memory → Memory
value_put value (Ok place) m = with_zone_bytes m place (with_zero value)
value_put value (Err asked) m = m

-- A value gets a block of its own, or is refused with what the block needs.
unfoldable pub put_value : Memory → List ℕ → Answered (Result ℕ ℕ)
put_value m value =
    let given : Answered (Result ℕ ℕ) = z_alloc m (length value + 1) in
    record given { after = value_put value given.answer given.after }

-- the block of the old value is freed, where the new one has its own
abbrev pub old_freed : ℕ → Result ℕ ℕ → Memory → Memory
old_freed old (Ok place) m = (z_free m old).after
old_freed old (Err asked) m = m

-- A value takes the place of an old one: it gets its block before that of the old one is freed.
unfoldable pub replace_value : Memory → ℕ → List ℕ → Answered (Result ℕ ℕ)
replace_value m old value =
    let given : Answered (Result ℕ ℕ) = put_value m value in
    record given { after = old_freed old given.answer given.after }
