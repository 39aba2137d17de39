-- The draws of a game: numbers of 16 bits, made one after another from a state of 32 bits.
use Rattle.std.specs.Prelude.{ℕ, zero, suc, ◌+◌, ◌*◌, ◌/◌, ◌%◌, ◌^◌, List, [], ◌∷◌}

-- the state that a draw leaves
abbrev pub stepped : (state : ℕ) → ℕ
stepped state = (state * 1664525 + 1013904223) % 2 ^ 32

-- what a draw gives
abbrev pub drawn : (state : ℕ) → ℕ
drawn state = stepped state / 65536

-- the bytes that so many draws give, each cut to its lowest byte
unfoldable pub bytes_drawn : (count : ℕ) → (state : ℕ) → List ℕ
bytes_drawn zero state = []
bytes_drawn (suc count) state = drawn state % 256 ∷ bytes_drawn count (stepped state)

-- the state that so many draws leave
unfoldable pub state_after : (count : ℕ) → (state : ℕ) → ℕ
state_after zero state = state
state_after (suc count) state = state_after count (stepped state)
