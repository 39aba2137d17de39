-- One more line of those still to come, and the end of them.
use Rattle.std.proofs.Common.{◌≡◌, ℕ, ◌+◌, ◌-◌, ◌<◌, ◌%◌, List, ◌++◌, refl, append_assoc, append-nil}
use Rattle.world_gen.specs.Draws.{stepped, drawn}
use Rattle.world_gen.specs.Resources.{numbered, command}
use Rattle.world_gen.specs.Scripts.{commands}
use Rattle.world_gen.proofs.DrawLaws.{one_less, none_left}

pub commands_more : (done : List ℕ) (count n state : ℕ) → n < count
    → (done ++ command (numbered (drawn state % 34))) ++ commands (count - (n + 1)) (stepped state)
    ≡ done ++ commands (count - n) state
unfolding commands
commands_more done count n state below = rw (one_less count n below, append_assoc) refl

pub commands_end : (done : List ℕ) (count n state : ℕ) → n ≡ count → done ++ commands (count - n) state ≡ done
unfolding commands
commands_end done count n state ended = rw (none_left count n ended) (append-nil done)

pub ruleset script_laws = (commands_more, commands_end)
