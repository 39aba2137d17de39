-- How many places of the zone can be in use.
use Rattle.std.proofs.Common.{◌≡◌, ℕ, suc, ◌+◌, ◌*◌, ◌<◌, ◌≤◌, List, [], ◌∷◌, false, eqb, cond, length, sym, arith, inl, inr, subst}
use Rattle.std.specs.Prelude.{IsSome, ◌^◌}
use Rattle.std.specs.List.{AllByRecursion}
use Rattle.std.proofs.lemmas.Bool.{ne_eqb}
use Rattle.std.proofs.lemmas.Bool.Decides.{eqb_tells}
use Rattle.mem_model.specs.Blocks.{HunkBlock, ZoneBlock}
use Rattle.mem_model.specs.Memory.{Memory, size_of}
use Rattle.mem_model.specs.Zone.{size_of_zone, used_bytes_from, zone_bytes}
use Rattle.mem_model.specs.Apart.{NoneIs, AreApart, AreUsed}
use Rattle.mem_model.specs.Laid.{Laid, IsZoneBlock, first_size}

-- the places without the first that is this one
left_of : ℕ → List ℕ → List ℕ
left_of place [] = []
left_of place (other ∷ others) = cond (eqb other place) others (other ∷ left_of place others)

-- What is left of places that are apart.
record IsLeft (P : ℕ → Type 0) (place : ℕ) (places left : List ℕ) : Type 0 where
  count : length places ≤ suc (length left)
  apart : AreApart left
  none : NoneIs place left
  others : (other : ℕ) → NoneIs other places → NoneIs other left
  all : AllByRecursion P places → AllByRecursion P left

left_is : (P : ℕ → Type 0) (place : ℕ) (places : List ℕ) → AreApart places → IsLeft P place places (left_of place places)
unfolding left_of
left_is P place [] apart = record { count = omega arith; apart = tt; none = tt; others = λ other p. tt; all = λ p. tt }
left_is P place (other ∷ others) apart =
    elim (eqb_tells other place) [
      | inl at ↦ rw at.0 (record {
        count = omega arith;
        apart = apart.1;
        none = subst (λ p. NoneIs p others) at.1 apart.0;
        others = λ third p. p.1;
        all = λ p. p.1;
      })
      | inr off ↦
          let rest = left_is P place others apart.1 in
          rw off.0 (record {
            count = omega (arith, rest.count);
            apart = (rest.others other apart.0, rest.apart);
            none = (off.1, rest.none);
            others = λ third p. (p.0, rest.others third p.1);
            all = λ p. (p.0, rest.all p.1);
          })
    ]

some_behind : (start : ℕ) (b : ZoneBlock) (bs : List ZoneBlock) (places : List ℕ) → NoneIs (start + 24) places → AllByRecursion (λ place. IsSome (used_bytes_from start (b ∷ bs) place)) places → AllByRecursion (λ place. IsSome (used_bytes_from (start + b.size) bs place)) places
some_behind start b bs [] none p = tt
some_behind start b bs (place ∷ places) none p =
    let off : eqb (start + 24) place ≡ false = ne_eqb (start + 24) place (λ e. none.0 (sym e)) in
    (rw off at p.0, some_behind start b bs places none.1 p.1)

few_from : (start : ℕ) (blocks : List ZoneBlock) (places : List ℕ) → AreApart places → AllByRecursion (λ place. IsSome (used_bytes_from start blocks place)) places → length places ≤ length blocks
few_from start [] [] apart p = omega arith
few_from start [] (place ∷ places) apart p = absurd (cc)
few_from start (b ∷ bs) places apart p =
    let left = left_is (λ place. IsSome (used_bytes_from start (b ∷ bs) place)) (start + 24) places apart in
    omega (arith, left.count, few_from (start + b.size) bs (left_of (start + 24) places) left.apart (some_behind start b bs _ left.none (left.all p)))

-- No more places are in use than the zone has blocks.
pub places-few : (m : Memory) (places : List ℕ) → AreApart places → AreUsed m places → length places ≤ length m.zone.blocks
unfolding zone_bytes
places-few m places apart used = few_from 48 m.zone.blocks places apart used

many_bytes : (blocks : List ZoneBlock) → AllByRecursion IsZoneBlock blocks → length blocks * 32 ≤ size_of_zone blocks
many_bytes [] p = omega arith
many_bytes (b ∷ bs) p = omega (arith, p.0.least, many_bytes bs p.1)

-- the first block is no larger than all
pub first_below : (low : List HunkBlock) → first_size low ≤ size_of low
first_below [] = omega arith
first_below (b ∷ bs) = omega arith

-- A zone has fewer than 2 ^ 21 blocks, since each takes 32 bytes at least.
pub blocks-few : (m : Memory) → Laid m → length m.zone.blocks < 2 ^ 21
blocks-few m laid = omega (arith, many_bytes m.zone.blocks laid.zone.blocks, laid.zone.tiles, first_below m.low, laid.inside, laid.small)

-- So there are fewer such places than that.
pub places-small : (m : Memory) (places : List ℕ) → Laid m → AreApart places → AreUsed m places → length places < 2 ^ 21
places-small m places laid apart used = omega (arith, places-few m places apart used, blocks-few m laid)
