-- One more draw of those still to come, and the end of them.
use Rattle.std.proofs.Common.{◌≡◌, ℕ, suc, ◌+◌, ◌-◌, ◌<◌, ◌%◌, List, [], ◌∷◌, ◌++◌, refl, append_assoc, append-nil, arith}
use Rattle.world_gen.specs.Draws.{stepped, drawn, bytes_drawn, state_after}

pub one_less : (count n : ℕ) → n < count → count - n ≡ suc (count - (n + 1))
one_less count n below = omega arith

pub none_left : (count n : ℕ) → n ≡ count → count - n ≡ 0
none_left count n ended = omega arith

pub bytes_more : (done : List ℕ) (count n state : ℕ) → n < count
    → (done ++ drawn state % 256 ∷ []) ++ bytes_drawn (count - (n + 1)) (stepped state)
    ≡ done ++ bytes_drawn (count - n) state
unfolding bytes_drawn
bytes_more done count n state below = rw (one_less count n below, append_assoc) refl

pub state_more : (count n state : ℕ) → n < count
    → state_after (count - (n + 1)) (stepped state) ≡ state_after (count - n) state
unfolding state_after
state_more count n state below = rw (one_less count n below) refl

pub bytes_end : (done : List ℕ) (count n state : ℕ) → n ≡ count → done ++ bytes_drawn (count - n) state ≡ done
unfolding bytes_drawn
bytes_end done count n state ended = rw (none_left count n ended) (append-nil done)

pub state_end : (count n state : ℕ) → n ≡ count → state_after (count - n) state ≡ state
unfolding state_after
state_end count n state ended = rw (none_left count n ended) refl

pub ruleset draw_laws = (bytes_more, state_more, bytes_end, state_end)
