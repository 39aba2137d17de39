-- What the record of the newest alias tells.
use Rattle.std.proofs.Common.{◌≡◌, ◌≤◌, ℕ, List, [], ◌∷◌, length, Option, Some, refl, sym, ap, ◌∙◌, subst}
use Rattle.std.specs.Prelude.{IsSome}
use Rattle.mem_model.specs.Memory.{Memory}
use Rattle.mem_model.specs.Zone.{zone_bytes}
use Rattle.zone_values.specs.Held.{AreHeld}
use Rattle.cmd_buffer.specs.Aliases.{Alias, alias_at, next_in, value_in, IsChain, HoldsAliases, aliases_of, alias_places}
use Rattle.cmd_buffer.proofs.AliasLaws.{aliases_are, alias_is}

-- These are the bytes of the newest record: the aliases are that of the record, and those from the next place on.
pub record IsRead (m : Memory) (place : ℕ) (bytes : List ℕ) : Type 0 where
  pub long : 40 ≤ length bytes
  pub first : aliases_of m (Some place) ≡ alias_at place bytes ∷ aliases_of m (next_in bytes)
  pub holds : HoldsAliases m (next_in bytes)
  pub value : IsSome (zone_bytes m (value_in bytes))

read_first : (m : Memory) (place : ℕ) (bytes : List ℕ) (aliases : List Alias) → aliases_of m (Some place) ≡ aliases → IsChain m (Some place) aliases → AreHeld m (alias_places aliases) → zone_bytes m place ≡ Some bytes → IsRead m place bytes
read_first m place bytes [] are chain held there = absurd (cc)
read_first m place bytes (a ∷ older) are chain held there =
    let next = chain.1.0 in
    let is = chain.1.1 in
    let at : place ≡ a.record_place = cc in
    let both : Some is.bytes ≡ Some bytes = sym is.there ∙ ap (zone_bytes m) (sym at) ∙ there in
    let same : is.bytes ≡ bytes = cc in
    let follows : next_in bytes ≡ next = ap next_in (sym same) ∙ is.follows in
    let rest = aliases_are m next older chain.1.2 (record { used = held.used.1.1; apart = held.apart.1.1 }) in
    let first : alias_at place bytes ≡ a = ap (λ p. alias_at p bytes) at ∙ ap (alias_at a.record_place) (sym same) ∙ alias_is m a next is in
    let value : a.value_place ≡ value_in bytes = sym is.value ∙ ap value_in same in
    record {
      long = subst (λ (bs : List ℕ). 40 ≤ length bs) same is.long;
      first = are ∙ ap (λ (b : Alias). b ∷ older) (sym first) ∙ ap (λ (bs : List Alias). alias_at place bytes ∷ bs) (sym rest.1) ∙ ap (λ (o : Option ℕ). alias_at place bytes ∷ aliases_of m o) (sym follows);
      holds = subst (HoldsAliases m) (sym follows) rest.0;
      value = subst (λ p. IsSome (zone_bytes m p)) value held.used.1.0;
    }

pub is_read : (m : Memory) (place : ℕ) (bytes : List ℕ) → HoldsAliases m (Some place) → zone_bytes m place ≡ Some bytes → IsRead m place bytes
is_read m place bytes h there = read_first m place bytes (aliases_of m (Some place)) refl h.chain h.held there

used_first : (m : Memory) (place : ℕ) (aliases : List Alias) → IsChain m (Some place) aliases → AreHeld m (alias_places aliases) → IsSome (zone_bytes m place)
used_first m place [] chain held = absurd (cc)
used_first m place (a ∷ older) chain held = let at : a.record_place ≡ place = cc in subst (λ p. IsSome (zone_bytes m p)) at held.used.0

-- The newest record is a used block.
pub newest_used : (m : Memory) (place : ℕ) → HoldsAliases m (Some place) → IsSome (zone_bytes m place)
newest_used m place h = used_first m place (aliases_of m (Some place)) h.chain h.held
