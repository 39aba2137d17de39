-- Places of the zone that differ, and that are in use.
use Rattle.std.specs.Prelude.{ℕ, ◌≢◌, List, [], ◌∷◌, IsSome}
use Rattle.std.specs.List.{AllByRecursion}
use Rattle.mem_model.specs.Memory.{Memory}
use Rattle.mem_model.specs.Zone.{zone_bytes}

-- none of the places is this one
abbrev pub NoneIs : ℕ → List ℕ → Type 0
NoneIs place [] = Unit {0}
NoneIs place (other ∷ others) = (other ≢ place) × NoneIs place others

-- no two of the places are the same
abbrev pub AreApart : List ℕ → Type 0
AreApart [] = Unit {0}
AreApart (place ∷ places) = NoneIs place places × AreApart places

-- each is that of a used block's payload
abbrev pub AreUsed : Memory → List ℕ → Type 0
AreUsed m places = AllByRecursion (λ place. IsSome (zone_bytes m place)) places
