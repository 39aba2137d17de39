-- The rows of the aliases, along the chain.
use Rattle.std.proofs.Common.{◌≡◌, ℕ, suc, List, [], ◌∷◌, map, Option, Some, None, ap, ◌∙◌}
use Rattle.std.specs.Prelude.{slice_get}
use Rattle.std.specs.Option.{unwrap_or}
use Rattle.mem_model.specs.Memory.{Memory}
use Rattle.zone_values.specs.Values.{value_at}
use Rattle.cmd_buffer.specs.Aliases.{Alias, AliasText, aliases_of, text_of, alias_texts}
use Rattle.cmd_buffer.proofs.AliasLaws.{aliases_none}

pub texts_none : (m : Memory) (place : Option ℕ) → place ≡ None → alias_texts m place ≡ []
texts_none m place none = ap (alias_texts m) none ∙ ap (map (text_of m)) (aliases_none m)

-- the texts, by the newest alias
module _ (m : Memory) (place next : Option ℕ) (at : ℕ) (a : Alias) (here : place ≡ Some at) (are : aliases_of m (Some at) ≡ a ∷ aliases_of m next) where
  texts_more : alias_texts m place ≡ text_of m a ∷ alias_texts m next
  texts_more = ap (alias_texts m) here ∙ ap (map (text_of m)) are

  pub row_more : (n k : ℕ) → n ≡ suc k → slice_get (alias_texts m place) n ≡ slice_get (alias_texts m next) k
  row_more n k more = ap (slice_get (alias_texts m place)) more ∙ ap (λ (texts : List AliasText). slice_get texts (suc k)) texts_more

  pub row_first : (n : ℕ) (value : List ℕ) → n ≡ 0 → value_at m a.value_place ≡ Some value → slice_get (alias_texts m place) n ≡ Some (record { name = a.name; value = value })
  row_first n value none there =
      ap (slice_get (alias_texts m place)) none ∙ ap (λ (texts : List AliasText). slice_get texts 0) texts_more
      ∙ ap (λ (o : Option (List ℕ)). Some (record { name = a.name; value = unwrap_or o [] })) there

pub row_none : (m : Memory) (place : Option ℕ) (n : ℕ) → place ≡ None → slice_get (alias_texts m place) n ≡ None
row_none m place n none = ap (λ (texts : List AliasText). slice_get texts n) (texts_none m place none)
