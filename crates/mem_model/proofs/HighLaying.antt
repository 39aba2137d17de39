-- What keeps a memory laid out where its high hunk changes.
use Rattle.std.proofs.Common.{◌≡◌, ℕ, ◌-◌, ◌≤◌, List, [], ◌∷◌, ◌++◌, Option, Some, None, length, take, refl, sym, ap, ◌∙◌, arith, length-append}
use Rattle.std.specs.Prelude.{◌<◌}
use Rattle.std.proofs.lemmas.List.{take_at}
use Rattle.mem_model.specs.Blocks.{HunkBlock, CacheBlock}
use Rattle.mem_model.specs.Places.{end_of}
use Rattle.mem_model.specs.Memory.{Memory, size_of, low_used, high_start}
use Rattle.mem_model.specs.Hunk.{without_temp, temp_freed}
use Rattle.mem_model.specs.Laid.{Laid, IsHunkBlock, IsTemp, AreBetween}
use Rattle.mem_model.proofs.Laying.{size_of-take, all-take}

between_higher : (blocks : List CacheBlock) (bottom top high : ℕ) → top ≤ high → AreBetween bottom top blocks → AreBetween bottom high blocks
between_higher [] bottom top high h p = omega (arith, p)
between_higher (b ∷ bs) bottom top high h p = (p.0, between_higher bs (end_of b) top high h p.1)

-- a memory is laid out when its newest high blocks leave, and no temporary block is active
pub Laid-with_fewer_high : (m : Memory) (n : ℕ) → Laid m → Laid (record m { high = take n m.high; temp = None })
Laid-with_fewer_high m n laid = record {
  small = laid.small;
  inside = omega (arith, size_of-take n m.high, laid.inside);
  low = laid.low;
  high = all-take IsHunkBlock n m.high laid.high;
  temp = tt;
  zone = laid.zone;
  cache = record {
    blocks = laid.cache.blocks;
    between = between_higher m.cache.blocks (low_used m) (high_start m) _ (omega (arith, size_of-take n m.high)) laid.cache.between;
    one_each = laid.cache.one_each;
    recency = laid.cache.recency;
  };
  events = laid.events;
}

-- a memory is laid out with its newest high block as the temporary one
pub Laid-with_temp : (m : Memory) (older : List HunkBlock) (b : HunkBlock) (mark : ℕ) → Laid m → m.high ≡ older ++ b ∷ [] → mark ≡ size_of older → Laid (record m { temp = Some mark })
Laid-with_temp m older b mark laid is sum = record {
  small = laid.small;
  inside = laid.inside;
  low = laid.low;
  high = laid.high;
  temp = (older, b, is, sum);
  zone = laid.zone;
  cache = laid.cache;
  events = laid.events;
}

-- What the mark of the temporary block tells.
pub record IsMarked (high : List HunkBlock) (mark : ℕ) : Type 0 where
  pub some : 0 < length high
  pub older : size_of (take (length high - 1) high) ≡ mark

pub marked : (high : List HunkBlock) (mark : ℕ) → IsTemp high (Some mark) → IsMarked high mark
marked high mark p = record {
  some = omega (arith, ap length p.2, length-append p.0 (p.1 ∷ []));
  older = ap size_of (ap (take (length high - 1)) p.2 ∙ take_at p.0 (p.1 ∷ []) (length high - 1) (omega (arith, ap length p.2, length-append p.0 (p.1 ∷ [])))) ∙ sym p.3;
}

-- the cases of a memory with or without a temporary block
pub without_temp_some : (m : Memory) (mark : ℕ) → m.temp ≡ Some mark → without_temp m ≡ record m { high = take (length m.high - 1) m.high; temp = None }
unfolding without_temp
without_temp_some m mark h = ap (temp_freed m) h

pub without_temp_none : (m : Memory) → m.temp ≡ None → without_temp m ≡ m
unfolding without_temp
without_temp_none m h = ap (temp_freed m) h

temp_freed_none : (m : Memory) (temp : Option ℕ) → m.temp ≡ temp → (temp_freed m temp).temp ≡ None
temp_freed_none m None h = h
temp_freed_none m (Some mark) h = refl

-- none is active afterwards
pub temp-without_temp : (m : Memory) → (without_temp m).temp ≡ None
unfolding without_temp
temp-without_temp m = temp_freed_none m m.temp refl

room_kept : (m : Memory) (temp : Option ℕ) → (temp_freed m temp).event_room ≡ m.event_room
room_kept m None = refl
room_kept m (Some mark) = refl

pub event_room-without_temp : (m : Memory) → (without_temp m).event_room ≡ m.event_room
unfolding without_temp
event_room-without_temp m = room_kept m m.temp
