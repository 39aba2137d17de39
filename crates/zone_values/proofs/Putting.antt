-- What the calls give, from what the zone gave them.
use Rattle.std.proofs.Common.{◌≡◌, ℕ, ◌+◌, List, Some, Result, Ok, Err, Bool, length, sym, ap, ◌∙◌}
use Rattle.mem_model.specs.Memory.{Memory}
use Rattle.mem_model.specs.Answer.{Answers, Gives}
use Rattle.mem_model.specs.Told.{zone_answer}
use Rattle.mem_model.specs.declared.answers.ZoneError.{ZoneError}
use Rattle.mem_model.specs.declared.answers.ZoneError.TheVariants as zone_error
use Rattle.mem_model.specs.Hunk.{over}
use Rattle.mem_model.specs.Zone.{zone_bytes, with_zone_bytes}
use Rattle.mem_model.specs.Operations.{z_alloc, z_free}
use Rattle.zone_values.specs.Values.{put_value, value_put, replace_value, old_freed, with_zero}
use Rattle.zone_values.proofs.Writing.{with_zone_bytes-over}

-- the block was given, and the value written over its bytes
pub put_given : (m n : Memory) (value old : List ℕ) (place : ℕ) → Answers (z_alloc m (length value + 1)) (Ok place) n → zone_bytes n place ≡ Some old →
    Answers (put_value m value) (Ok place) (with_zone_bytes n place (over old (with_zero value)))
unfolding put_value
put_given m n value old place given there = record {
  answer = given.answer;
  after = with_zone_bytes-over n place old (with_zero value) there ∙ ap (λ (k : Memory). with_zone_bytes k place (with_zero value)) given.after ∙ sym (ap (λ (answer : Result ℕ ℕ). value_put value answer (z_alloc m (length value + 1)).after) given.answer);
}

-- no block was given
pub put_without : (m n : Memory) (value : List ℕ) (frugal : Bool) (error : ZoneError) → Gives (z_alloc m (length value + 1)) frugal m (zone_answer (Err error)) n →
    Gives (put_value m value) frugal m (zone_answer (Err error)) n
unfolding put_value
put_without m n value frugal (zone_error.Full asked) given = record {
  answer = given.answer;
  after = given.after ∙ sym (ap (λ (answer : Result ℕ ℕ). value_put value answer (z_alloc m (length value + 1)).after) given.answer);
}
put_without m n value frugal zone_error.OutOfMemory ran_out = ran_out

-- the value has its block, and that of the old one was freed
pub replaced_given : (m n : Memory) (value : List ℕ) (old place : ℕ) → Answers (put_value m value) (Ok place) n → Answers (replace_value m old value) (Ok place) (z_free n old).after
unfolding replace_value
replaced_given m n value old place given = record {
  answer = given.answer;
  after = ap (λ (k : Memory). (z_free k old).after) given.after ∙ sym (ap (λ (answer : Result ℕ ℕ). old_freed old answer (put_value m value).after) given.answer);
}

-- the value has no block, and the old one keeps its own
pub replaced_without : (m n : Memory) (value : List ℕ) (old : ℕ) (frugal : Bool) (error : ZoneError) → Gives (put_value m value) frugal m (zone_answer (Err error)) n →
    Gives (replace_value m old value) frugal m (zone_answer (Err error)) n
unfolding replace_value
replaced_without m n value old frugal (zone_error.Full asked) given = record {
  answer = given.answer;
  after = given.after ∙ sym (ap (λ (answer : Result ℕ ℕ). old_freed old answer (put_value m value).after) given.answer);
}
replaced_without m n value old frugal zone_error.OutOfMemory ran_out = ran_out
