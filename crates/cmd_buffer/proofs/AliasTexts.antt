-- The texts of the aliases once a name was given a value.
use Rattle.std.proofs.Common.{◌≡◌, ◌≢◌, ℕ, List, [], ◌∷◌, Bool, true, false, cond, find, bytes_eq, Some, refl, sym, ap, ◌∙◌, ◌⊎◌, inl, inr}
use Rattle.std.specs.Prelude.{IsTrue, option_map}
use Rattle.std.specs.List.{list_any}
use Rattle.std.specs.Str.{str_eq_ignore_ascii_case, str_to_ascii_lowercase}
use Rattle.std.proofs.lemmas.Slice.Eq.{bytes_eq-Decides}
use Rattle.cmd_buffer.specs.Aliases.{AliasText, with_value, with_text, value_of, value_in_any_case, HasOneCase, IsReadBack}

-- what the test of a name tells
name_tells : (own name : List ℕ) → ((bytes_eq own name ≡ true) × (own ≡ name)) ⊎ ((bytes_eq own name ≡ false) × (own ≢ name))
name_tells own name = tells (bytes_eq own name) refl where
  tells : (t : Bool) → bytes_eq own name ≡ t → ((bytes_eq own name ≡ true) × (own ≡ name)) ⊎ ((bytes_eq own name ≡ false) × (own ≢ name))
  tells true is = inl (is, (bytes_eq-Decides own name).0 is)
  tells false is = inr (is, λ same. absurd (let passes = (bytes_eq-Decides own name).1 same in cc))

other_name : (own name : List ℕ) → own ≢ name → bytes_eq own name ≡ false
other_name own name other = elim (name_tells own name) [
  | inl at ↦ absurd (other at.1)
  | inr off ↦ off.0
]

-- a name is its own in any case,
case_same : (own name : List ℕ) → own ≡ name → str_eq_ignore_ascii_case own name ≡ true
case_same own name same = (bytes_eq-Decides (str_to_ascii_lowercase own) (str_to_ascii_lowercase name)).1 (ap str_to_ascii_lowercase same)

-- and another one is not, where none is in another case
case_other : (own name : List ℕ) → (IsTrue (str_eq_ignore_ascii_case own name) → own ≡ name) → own ≢ name → str_eq_ignore_ascii_case own name ≡ false
case_other own name one other = by_case (str_eq_ignore_ascii_case own name) one where
  by_case : (t : Bool) → (IsTrue t → own ≡ name) → t ≡ false
  by_case true h = absurd (other (h refl))
  by_case false h = refl

own_replaced : (texts : List AliasText) (name value : List ℕ) → list_any (λ (t : AliasText). bytes_eq t.name name) texts ≡ true → value_of (with_value texts name value) name ≡ Some value
own_replaced [] name value any = absurd (cc)
own_replaced (t ∷ older) name value any = elim (name_tells t.name name) [
  | inl at ↦ rw (at.0, at.0) refl
  | inr off ↦ rw (off.0, off.0) (own_replaced older name value (rw off.0 at any))
]

any_case_replaced : (texts : List AliasText) (name value : List ℕ) → HasOneCase texts name → list_any (λ (t : AliasText). bytes_eq t.name name) texts ≡ true → value_in_any_case (with_value texts name value) name ≡ Some value
any_case_replaced [] name value one any = absurd (cc)
any_case_replaced (t ∷ older) name value one any = elim (name_tells t.name name) [
  | inl at ↦ rw (at.0, case_same t.name name at.1) refl
  | inr off ↦ rw (off.0, case_other t.name name one.0 off.1) (any_case_replaced older name value one.1 (rw off.0 at any))
]

others_replaced : (texts : List AliasText) (name value other : List ℕ) → other ≢ name → value_of (with_value texts name value) other ≡ value_of texts other
others_replaced [] name value other differ = refl
others_replaced (t ∷ older) name value other differ = elim (name_tells t.name name) [
  | inl at ↦ rw (at.0, other_name t.name other (λ same. differ (sym same ∙ at.1))) refl
  | inr off ↦
      rw off.0
      (elim (bytes_eq t.name other) as (λ b.
      option_map (λ (x : AliasText). x.value) (cond b (Some t) (find (λ (x : AliasText). bytes_eq x.name other) (with_value older name value)))
      ≡ option_map (λ (x : AliasText). x.value) (cond b (Some t) (find (λ (x : AliasText). bytes_eq x.name other) older))) [
        | true ↦ refl
        | false ↦ others_replaced older name value other differ
      ])
]

-- What was set is read back.
pub read_back : (texts : List AliasText) (name value : List ℕ) → IsReadBack texts (with_text texts name value) name value
read_back texts name value = by_any (list_any (λ (t : AliasText). bytes_eq t.name name) texts) refl where
  by_any : (b : Bool) → list_any (λ (t : AliasText). bytes_eq t.name name) texts ≡ b → IsReadBack texts (with_text texts name value) name value
  by_any true any = record {
    texts = refl;
    own = rw any (own_replaced texts name value any);
    any_case = λ one. rw any (any_case_replaced texts name value one any);
    others = λ other differ. rw any (others_replaced texts name value other differ);
  }
  by_any false none = record {
    texts = refl;
    own = rw (none, (bytes_eq-Decides name name).1 refl) refl;
    any_case = λ one. rw (none, case_same name name refl) refl;
    others = λ other differ. rw (none, other_name name other (λ same. differ (sym same))) refl;
  }
