-- Laws of the aliases, for those who keep them.
use Rattle.std.proofs.Common.{◌≡◌, ℕ, zero, suc, ◌≤◌, List, [], ◌∷◌, length, map, Option, None, refl, sym, ap, ◌∙◌, arith, subst}
use Rattle.std.specs.Option.{unwrap_or}
use Rattle.mem_model.specs.Memory.{Memory}
use Rattle.mem_model.specs.Apart.{AreUsed}
use Rattle.mem_model.proofs.ZoneApart.{places-few}
use Rattle.zone_values.specs.Held.{AreHeld, KeepsAt}
use Rattle.zone_values.specs.Values.{value_at}
use Rattle.zone_values.proofs.HeldLaws.{some-kept, value_at-kept}
use Rattle.cmd_buffer.specs.Aliases.{Alias, alias_at, alias_and, next_in, value_in, IsRecord, IsChain, HoldsAliases, followed, aliases_of, alias_places, AliasText, text_of, alias_texts}

pub chain_still : (m n : Memory) (first : Option ℕ) (aliases : List Alias) → KeepsAt m n (alias_places aliases) → IsChain m first aliases → IsChain n first aliases
chain_still m n first [] keeps chain = chain
chain_still m n first (a ∷ older) keeps chain =
    let next = chain.1.0 in
    let is = chain.1.1 in
    (chain.0, (next, record { bytes = is.bytes; there = keeps.0 is.bytes is.there; long = is.long; follows = is.follows; name = is.name; value = is.value }, chain_still m n next older keeps.1.1 chain.1.2))

pub alias_is : (m : Memory) (a : Alias) (next : Option ℕ) (is : IsRecord m a next) → alias_at a.record_place is.bytes ≡ a
alias_is m a next is =
    let with_name : (name : List ℕ) → Alias = λ name. record { record_place = a.record_place; name = name; value_place = value_in is.bytes } in
    let with_value : (value : ℕ) → Alias = λ value. record { record_place = a.record_place; name = a.name; value_place = value } in
    ap with_name is.name ∙ ap with_value is.value

-- a walk of enough steps follows the whole chain
pub followed_all : (steps : ℕ) (m : Memory) (first : Option ℕ) (aliases : List Alias) → IsChain m first aliases → length aliases ≤ steps → followed steps m first ≡ aliases
followed_all zero m first [] chain few = refl
followed_all (suc steps) m first [] chain few = ap (followed (suc steps) m) chain
followed_all zero m first (a ∷ older) chain few = absurd (omega arith)
followed_all (suc steps) m first (a ∷ older) chain few =
    let next = chain.1.0 in
    let is = chain.1.1 in
    let rest : followed steps m (next_in is.bytes) ≡ older = ap (followed steps m) is.follows ∙ followed_all steps m next older chain.1.2 (omega arith) in
    ap (followed (suc steps) m) chain.0
    ∙ ap (λ (bytes : Option (List ℕ)). alias_and a.record_place bytes (λ next. followed steps m next)) is.there
    ∙ ap (λ (newest : Alias). newest ∷ followed steps m (next_in is.bytes)) (alias_is m a next is)
    ∙ ap (λ (rest : List Alias). a ∷ rest) rest

used_still : (m n : Memory) (places : List ℕ) → KeepsAt m n places → AreUsed m places → AreUsed n places
used_still m n [] keeps used = tt
used_still m n (place ∷ places) keeps used = (some-kept m n place keeps.0 used.0, used_still m n places keeps.1 used.1)

half_many : (aliases : List Alias) → length aliases ≤ length (alias_places aliases)
half_many [] = omega arith
half_many (a ∷ older) = omega (arith, half_many older)

-- A chain whose blocks are held is that of all aliases.
pub aliases_are : (m : Memory) (newest : Option ℕ) (aliases : List Alias) → IsChain m newest aliases → AreHeld m (alias_places aliases) → HoldsAliases m newest × (aliases_of m newest ≡ aliases)
unfolding aliases_of
aliases_are m newest aliases chain held =
    let are : followed (length m.zone.blocks) m newest ≡ aliases = followed_all (length m.zone.blocks) m newest aliases chain (omega (arith, half_many aliases, places-few m (alias_places aliases) held.apart held.used)) in (
      record {
        chain = subst (IsChain m newest) (sym are) chain;
        held = subst (λ (all : List Alias). AreHeld m (alias_places all)) (sym are) held;
      },
      are,
    )

-- The aliases stay over a step that keeps the bytes of their blocks.
pub aliases_still : (m n : Memory) (newest : Option ℕ) → KeepsAt m n (alias_places (aliases_of m newest)) → HoldsAliases m newest → HoldsAliases n newest × (aliases_of n newest ≡ aliases_of m newest)
aliases_still m n newest keeps h =
    aliases_are n newest (aliases_of m newest) (chain_still m n newest (aliases_of m newest) keeps h.chain)
    (record { used = used_still m n (alias_places (aliases_of m newest)) keeps h.held.used; apart = h.held.apart })

pub holds_none : (m : Memory) → HoldsAliases m None
holds_none m = (aliases_are m None [] refl (record { used = tt; apart = tt })).0

pub holds_created : (m : Memory) (newest : Option ℕ) → newest ≡ None → HoldsAliases m newest
holds_created m newest none = subst (HoldsAliases m) (sym none) (holds_none m)

pub aliases_none : (m : Memory) → aliases_of m None ≡ []
aliases_none m = (aliases_are m None [] refl (record { used = tt; apart = tt })).1

-- the texts of aliases whose blocks keep their bytes
pub texts_kept : (m n : Memory) (aliases : List Alias) → KeepsAt m n (alias_places aliases) → AreUsed m (alias_places aliases) → map (text_of n) aliases ≡ map (text_of m) aliases
texts_kept m n [] keeps used = refl
texts_kept m n (a ∷ older) keeps used =
    let value : value_at n a.value_place ≡ value_at m a.value_place = value_at-kept m n a.value_place used.1.0 keeps.1.0 in
    ap (λ (o : Option (List ℕ)). record { name = a.name; value = unwrap_or o [] } ∷ map (text_of n) older) value
    ∙ ap (λ (texts : List AliasText). text_of m a ∷ texts) (texts_kept m n older keeps.1.1 used.1.1)

-- So do the texts.
pub texts_still : (m n : Memory) (newest : Option ℕ) → KeepsAt m n (alias_places (aliases_of m newest)) → HoldsAliases m newest → alias_texts n newest ≡ alias_texts m newest
texts_still m n newest keeps h =
    ap (map (text_of n)) (aliases_still m n newest keeps h).1 ∙ texts_kept m n (aliases_of m newest) keeps h.held.used
