-- What an operation gives: an answer, and the memory after it.
use Rattle.std.specs.Prelude.{◌≡◌, Bool, false, [], ◌∷◌, ◌++◌, Option, Some, None, length, nat_lt, if◌then◌else◌}
use Rattle.mem_model.specs.Memory.{Memory}
use Rattle.mem_model.specs.Event.{Event}

pub record Answered (A : Type 0) : Type 0 where
  pub answer : A
  pub after : Memory

-- An event is kept where there is room for it.
abbrev pub with_event : Memory → Event → Memory
with_event m event = if nat_lt (length m.events) m.event_room then record m { events = m.events ++ event ∷ [] } else m

-- Each operation's event, a refused one's too, is kept with its answer.
abbrev pub noted : {A : Type 0} → Answered A → (A → Event) → Answered A
noted given event = record given { after = with_event given.after (event given.answer) }

-- The call answered as the operation does, and left the memory that the operation leaves.
pub record Answers {A : Type 0} (given : Answered A) (reply : A) (new : Memory) : Type 0 where
  pub answer : given.answer ≡ reply
  pub after : new ≡ given.after

-- The call ran out of memory: the store is not frugal, and `left` stands.
pub record RanOut (frugal : Bool) (left new : Memory) : Type 0 where
  pub not_frugal : frugal ≡ false
  pub after : new ≡ left

-- A call answers as the operation does, or without an answer ran out of memory.
abbrev pub Gives : {A : Type 0} → Answered A → Bool → Memory → Option A → Memory → Type 0
Gives given frugal left (Some reply) new = Answers given reply new
Gives given frugal left None new = RanOut frugal left new
