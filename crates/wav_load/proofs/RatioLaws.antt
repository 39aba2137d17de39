-- Ratios are small, and what they bring to a speed is there.
use Rattle.std.proofs.Common.{ℕ, ◌*◌, ◌≤◌, ◌<◌, Bool, true, false, cond, Option}
use Rattle.std.proofs.Common.{Some, None, arith}
use Rattle.std.specs.Prelude.{IfSome, ◌==◌}
use Rattle.std.specs.List.{find, AllByRecursion}
use Rattle.wav_load.specs.Ratios.{powers, times_or_part, ratio_of, IsSmall}
use Rattle.wav_load.proofs.Walking.{find_holds}

abbrev is_power : ℕ → Type 0
is_power n = (0 < n) × (n ≤ 256)

powers_small : AllByRecursion is_power powers
unfolding powers
powers_small = search (arith)

powers_found : (p : ℕ → Bool) → IfSome (find p powers) is_power
powers_found p = find_holds is_power p powers powers_small

either_small : (one other : Option ℕ) → IfSome one is_power → IfSome other is_power
    → IfSome (times_or_part one other) IsSmall
either_small (Some n) other a b = record { least = a.0; most = a.1 }
either_small None (Some n) a b = record { least = b.0; most = b.1 }
either_small None None a b = tt

pub ratio_small : (rate speed : ℕ) → IfSome (ratio_of rate speed) IsSmall
unfolding ratio_of
ratio_small rate speed =
    let one = powers_found (λ power. speed * power == rate) in
    let other = powers_found (λ power. rate * power == speed) in
    elim (rate == 0) as (λ b. IfSome
    (cond b None (times_or_part (find (λ power. speed * power == rate) powers)
    (find (λ power. rate * power == speed) powers))) IsSmall) [
      | true ↦ tt
      | false ↦ either_small _ _ one other
    ]
