-- The rows with what was loaded for a name.
use Rattle.std.proofs.Common.{◌≡◌, ◌≢◌, ◌⊎◌, inl, inr, ℕ, suc, ◌<◌, ◌≤◌, Bool, true, false, true≢false, cond, List, [], ◌∷◌, length, Option, Some, None, refl, sym, ap, subst, ◌∙◌, arith}
use Rattle.std.specs.Prelude.{slice_get, option_map, option_and_then, unwrap_or, bytes_eq}
use Rattle.std.specs.Map.{keys_of}
use Rattle.std.proofs.lemmas.Slice.Eq.{bytes_eq-Decides}
use Rattle.mem_model.proofs.ZonePlaces.{position-cons}
use Rattle.res_table.specs.declared.slots.Loaded.{Loaded}
use Rattle.res_table.specs.Tables.{entered, entered_at, found_in, slot_for, slot_of}

abbrev pub Row : Type 0
Row = List ℕ × Loaded

abbrev pub Found : Type 0
Found = ℕ × Loaded

abbrev pub some : ℕ → Loaded → Option Found
some slot loaded = Some (slot, loaded)

abbrev pub next : Found → Found
next found = (suc found.0, found.1)

abbrev at_slot : List Row → ℕ → Option Found
at_slot rows slot = option_map {U = Found} (λ row. (slot, row.1)) (slice_get rows slot)

slot-cons : (name : List ℕ) (row : Row) (rows : List Row) → slot_of name (row ∷ rows) ≡ cond (bytes_eq name row.0) (Some 0) (option_map suc (slot_of name rows))
slot-cons name row rows = position-cons (bytes_eq name) row.0 (keys_of rows)

-- the slot of a name is the first of that name
found-cons : (name : List ℕ) (row : Row) (rows : List Row)
    → found_in name (row ∷ rows) ≡ cond (bytes_eq name row.0) (some 0 row.1) (option_map next (found_in name rows))
found-cons name row rows = ap (option_and_then (at_slot (row ∷ rows))) (slot-cons name row rows) ∙ by (bytes_eq name row.0) where
  again : (slot : ℕ) (o : Option Row) → option_map {U = Found} (λ r. (suc slot, r.1)) o ≡ option_map next (option_map {U = Found} (λ r. (slot, r.1)) o)
  again slot None = refl
  again slot (Some r) = refl

  shifted : (o : Option ℕ) → option_and_then (at_slot (row ∷ rows)) (option_map suc o) ≡ option_map next (option_and_then (at_slot rows) o)
  shifted None = refl
  shifted (Some slot) = again slot (slice_get rows slot)

  by : (b : Bool) → option_and_then (at_slot (row ∷ rows)) (cond b (Some 0) (option_map suc (slot_of name rows)))
      ≡ cond b (some 0 row.1) (option_map next (option_and_then (at_slot rows) (slot_of name rows)))
  by true = refl
  by false = shifted (slot_of name rows)

slot_for-cons : (name : List ℕ) (row : Row) (rows : List Row) → slot_for name (row ∷ rows) ≡ cond (bytes_eq name row.0) 0 (suc (slot_for name rows))
slot_for-cons name row rows = ap (λ (o : Option ℕ). unwrap_or o (length (row ∷ rows))) (slot-cons name row rows) ∙ by (bytes_eq name row.0) where
  shifted : (o : Option ℕ) → unwrap_or (option_map suc o) (suc (length rows)) ≡ suc (unwrap_or o (length rows))
  shifted None = refl
  shifted (Some slot) = refl

  by : (b : Bool) → unwrap_or (cond b (Some 0) (option_map suc (slot_of name rows))) (suc (length rows)) ≡ cond b 0 (suc (slot_for name rows))
  by true = refl
  by false = shifted (slot_of name rows)

pub entered-cons : (name : List ℕ) (loaded : Loaded) (row : Row) (rows : List Row)
    → entered (row ∷ rows) name loaded ≡ cond (bytes_eq name row.0) ((row.0, loaded) ∷ rows) (row ∷ entered rows name loaded)
entered-cons name loaded row rows = ap (entered_at (row ∷ rows) name loaded) (slot-cons name row rows) ∙ by (bytes_eq name row.0) where
  shifted : (o : Option ℕ) → entered_at (row ∷ rows) name loaded (option_map suc o) ≡ row ∷ entered_at rows name loaded o
  shifted None = refl
  shifted (Some slot) = refl

  by : (b : Bool) → entered_at (row ∷ rows) name loaded (cond b (Some 0) (option_map suc (slot_of name rows)))
      ≡ cond b ((row.0, loaded) ∷ rows) (row ∷ entered_at rows name loaded (slot_of name rows))
  by true = refl
  by false = shifted (slot_of name rows)

pub same_name : (name other : List ℕ) → bytes_eq name other ≡ true → name ≡ other
same_name name other is = (bytes_eq-Decides name other).0 is

pub own_name : (name : List ℕ) → bytes_eq name name ≡ true
own_name name = (bytes_eq-Decides name name).1 refl

-- what is found of a name that was entered
own_row : (name : List ℕ) (loaded : Loaded) (row : Row) (rows : List Row) → found_in name (entered rows name loaded) ≡ some (slot_for name rows) loaded
    → (b : Bool) → bytes_eq name row.0 ≡ b → found_in name (cond b ((row.0, loaded) ∷ rows) (row ∷ entered rows name loaded)) ≡ some (cond b 0 (suc (slot_for name rows))) loaded
own_row name loaded row rows before true is = found-cons name (row.0, loaded) rows ∙ rw is refl
own_row name loaded row rows before false is = found-cons name row (entered rows name loaded) ∙ rw is (ap (option_map next) before)

pub found-own : (rows : List Row) (name : List ℕ) (loaded : Loaded) → found_in name (entered rows name loaded) ≡ some (slot_for name rows) loaded
found-own [] name loaded = found-cons name (name, loaded) [] ∙ rw (own_name name) refl
found-own (row ∷ rows) name loaded =
    ap (found_in name) (entered-cons name loaded row rows) ∙ own_row name loaded row rows (found-own rows name loaded) (bytes_eq name row.0) refl
    ∙ ap (λ (n : ℕ). some n loaded) (sym (slot_for-cons name row rows))

-- and of another
other_row : (name other : List ℕ) (loaded : Loaded) (row : Row) (rows : List Row) → bytes_eq other name ≡ false → found_in other (entered rows name loaded) ≡ found_in other rows
    → (b : Bool) → bytes_eq name row.0 ≡ b → found_in other (cond b ((row.0, loaded) ∷ rows) (row ∷ entered rows name loaded))
    ≡ cond (bytes_eq other row.0) (some 0 row.1) (option_map next (found_in other rows))
other_row name other loaded row rows off before true is =
    let apart : bytes_eq other row.0 ≡ false = ap (bytes_eq other) (sym (same_name name row.0 is)) ∙ off in
    found-cons other (row.0, loaded) rows ∙ rw apart refl
other_row name other loaded row rows off before false is = found-cons other row (entered rows name loaded)
    ∙ ap (λ (o : Option Found). cond (bytes_eq other row.0) (some 0 row.1) (option_map next o)) before

pub found-other : (rows : List Row) (name other : List ℕ) (loaded : Loaded) → bytes_eq other name ≡ false → found_in other (entered rows name loaded) ≡ found_in other rows
found-other [] name other loaded off = found-cons other (name, loaded) [] ∙ rw off refl
found-other (row ∷ rows) name other loaded off =
    ap (found_in other) (entered-cons name loaded row rows) ∙ other_row name other loaded row rows off (found-other rows name other loaded off) (bytes_eq name row.0) refl
    ∙ sym (found-cons other row rows)

-- a slot behind the first row
behind : (P : ℕ → Type 0) (o : Option Found) (slot : ℕ) (loaded : Loaded) → option_map next o ≡ some slot loaded
    → ((at : ℕ) → o ≡ some at loaded → P (suc at)) → P slot
behind P None slot loaded h then = absurd (cc)
behind P (Some f) slot loaded h then =
    let both : ◌≡◌ {A = Found} (suc f.0, f.1) (slot, loaded) = cc in
    let slots : suc f.0 ≡ slot = ap (λ (g : Found). g.0) both in
    let same : f.1 ≡ loaded = ap (λ (g : Found). g.1) both in
    subst P slots (then f.0 (ap (λ (l : Loaded). some f.0 l) same))

first_slot : (slot : ℕ) (one loaded : Loaded) → some 0 one ≡ some slot loaded → slot ≡ 0
first_slot slot one loaded h =
    let both : ◌≡◌ {A = Found} (0, one) (slot, loaded) = cc in
    sym (ap (λ (g : Found). g.0) both)

-- another name has another slot
apart_row : (name other : List ℕ) (row : Row) (rows : List Row) → bytes_eq other name ≡ false
    → ((slot : ℕ) (loaded : Loaded) → found_in other rows ≡ some slot loaded → slot ≢ slot_for name rows) → (slot : ℕ) (loaded : Loaded)
    → (a : Bool) → bytes_eq other row.0 ≡ a → (b : Bool) → bytes_eq name row.0 ≡ b
    → cond a (some 0 row.1) (option_map next (found_in other rows)) ≡ some slot loaded → slot ≢ cond b 0 (suc (slot_for name rows))
apart_row name other row rows off before slot loaded true at true is h =
    let here : bytes_eq other name ≡ true = ap (bytes_eq other) (same_name name row.0 is) ∙ at in
    absurd (true≢false (sym here ∙ off))
apart_row name other row rows off before slot loaded true at false is h = λ e. omega (arith, first_slot slot row.1 loaded h, e)
apart_row name other row rows off before slot loaded false at true is h = behind (λ n. n ≢ 0) (found_in other rows) slot loaded h (λ at found e. omega (arith, e))
apart_row name other row rows off before slot loaded false at false is h =
    behind (λ n. n ≢ suc (slot_for name rows)) (found_in other rows) slot loaded h (λ at found e. before at loaded found (omega (arith, e)))

pub slots_apart : (rows : List Row) (name other : List ℕ) (slot : ℕ) (loaded : Loaded) → bytes_eq other name ≡ false
    → found_in other rows ≡ some slot loaded → slot ≢ slot_for name rows
slots_apart [] name other slot loaded off found = absurd (cc)
slots_apart (row ∷ rows) name other slot loaded off found = λ same.
    apart_row name other row rows off (λ at row found. slots_apart rows name other at row off found) slot loaded (bytes_eq other row.0) refl (bytes_eq name row.0) refl
    (sym (found-cons other row rows) ∙ found) (same ∙ slot_for-cons name row rows)

-- a slot that is found is one of the rows
within_row : (name : List ℕ) (row : Row) (rows : List Row) → ((slot : ℕ) (loaded : Loaded) → found_in name rows ≡ some slot loaded → slot < length rows)
    → (slot : ℕ) (loaded : Loaded) (b : Bool) → cond b (some 0 row.1) (option_map next (found_in name rows)) ≡ some slot loaded → slot < suc (length rows)
within_row name row rows before slot loaded true h = omega (arith, first_slot slot row.1 loaded h)
within_row name row rows before slot loaded false h =
    behind (λ n. n < suc (length rows)) (found_in name rows) slot loaded h (λ at found. omega (arith, before at loaded found))

pub found_within : (rows : List Row) (name : List ℕ) (slot : ℕ) (loaded : Loaded) → found_in name rows ≡ some slot loaded → slot < length rows
found_within [] name slot loaded found = absurd (cc)
found_within (row ∷ rows) name slot loaded found =
    within_row name row rows (λ at l found. found_within rows name at l found) slot loaded (bytes_eq name row.0) (sym (found-cons name row rows) ∙ found)

-- the slot that is found is the name's
pub slot_found : (rows : List Row) (name : List ℕ) (slot : ℕ) (loaded : Loaded) → found_in name rows ≡ Some (slot, loaded) → slot ≡ slot_for name rows
slot_found rows name slot loaded found = by (slot_of name rows) found where
  at_row : (at : ℕ) (row : Option Row) → option_map {U = Found} (λ r. (at, r.1)) row ≡ some slot loaded → slot ≡ at
  at_row at None h = absurd (cc)
  at_row at (Some row) h =
      let both : ◌≡◌ {A = Found} (at, row.1) (slot, loaded) = cc in
      sym (ap (λ (g : Found). g.0) both)

  by : (o : Option ℕ) → option_and_then (at_slot rows) o ≡ some slot loaded → slot ≡ unwrap_or o (length rows)
  by None h = absurd (cc)
  by (Some at) h = at_row at (slice_get rows at) h

-- a name is entered in its row, or in a further one, which is that of its slot
entered_long : (rows : List Row) (name : List ℕ) (loaded : Loaded)
    → (length (entered rows name loaded) ≡ length rows) ⊎ (length (entered rows name loaded) ≡ suc (slot_for name rows))
entered_long [] name loaded = inr refl
entered_long (row ∷ rows) name loaded = by (bytes_eq name row.0) refl (entered_long rows name loaded) where
  entered_is : (b : Bool) → bytes_eq name row.0 ≡ b → length (entered (row ∷ rows) name loaded) ≡ length (cond b ((row.0, loaded) ∷ rows) (row ∷ entered rows name loaded))
  entered_is b at = ap length (entered-cons name loaded row rows) ∙ ap (λ b. length (cond b ((row.0, loaded) ∷ rows) (row ∷ entered rows name loaded))) at

  slot_is : (b : Bool) → bytes_eq name row.0 ≡ b → slot_for name (row ∷ rows) ≡ cond b 0 (suc (slot_for name rows))
  slot_is b at = slot_for-cons name row rows ∙ ap (λ b. cond b 0 (suc (slot_for name rows))) at

  by : (b : Bool) → bytes_eq name row.0 ≡ b → (length (entered rows name loaded) ≡ length rows) ⊎ (length (entered rows name loaded) ≡ suc (slot_for name rows))
      → (length (entered (row ∷ rows) name loaded) ≡ length (row ∷ rows)) ⊎ (length (entered (row ∷ rows) name loaded) ≡ suc (slot_for name (row ∷ rows)))
  by true at before = inl (entered_is true at)
  by false at before = elim before [
    | inl same ↦ inl (entered_is false at ∙ ap suc same)
    | inr further ↦ inr (entered_is false at ∙ ap suc further ∙ ap suc (sym (slot_is false at)))
  ]

pub entered_within : (rows : List Row) (name : List ℕ) (loaded : Loaded) (most : ℕ) → slot_for name rows < most → length rows ≤ most
    → length (entered rows name loaded) ≤ most
entered_within rows name loaded most below few = elim (entered_long rows name loaded) [
  | inl same ↦ omega (arith, same, few)
  | inr further ↦ omega (arith, further, below)
]
