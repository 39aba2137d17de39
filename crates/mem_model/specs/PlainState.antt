-- The memory that a plain store stands for, and what holds of its fields.
use Rattle.std.specs.Prelude.{◌≡◌, []}
use Rattle.mem_model.specs.Memory.{Memory, size_of}
use Rattle.mem_model.specs.Laid.{Laid}
use Rattle.mem_model.specs.Plain.{ends_from}
use Rattle.mem_model.specs.declared.plain.PlainStore.TheInside.{Inside}

-- A plain store has no room for events.
abbrev pub state_of : Inside → Memory
state_of s = record {
  size = s.size;
  users = s.users;
  low = s.low.items;
  high = s.high.items;
  temp = s.temp;
  zone = s.zone;
  cache = s.cache;
  event_room = 0;
  events = [];
}

-- Its memory is laid out, and the two sums and all ends are those of the blocks.
pub record IsPlain (s : Inside) : Type 0 where
  pub laid : Laid (state_of s)
  pub low_used : s.low_used ≡ size_of s.low.items
  pub high_used : s.high_used ≡ size_of s.high.items
  pub low_ends : s.low_ends.items ≡ ends_from 0 s.low.items
  pub high_ends : s.high_ends.items ≡ ends_from 0 s.high.items
