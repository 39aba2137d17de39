-- What a write into a high block leaves.
use Rattle.std.proofs.Common.{◌≡◌, ℕ, zero, suc, ◌+◌, ◌-◌, List, [], ◌∷◌, ◌++◌, Option, Some, None, true, false, length, take, eqb, cond, refl, sym, ap, ◌∙◌}
use Rattle.std.specs.List.{AllByRecursion}
use Rattle.mem_model.specs.Blocks.{HunkBlock}
use Rattle.mem_model.specs.Memory.{size_of}
use Rattle.mem_model.specs.Hunk.{with_bytes, with_bytes_down, with_high_bytes}
use Rattle.mem_model.specs.Memory.{Memory}
use Rattle.mem_model.specs.Plain.{ends_from}
use Rattle.mem_model.specs.Laid.{Laid, IsHunkBlock, IsTemp}
use Rattle.mem_model.proofs.Laying.{length-over}

pub size_of-with_bytes_down : (end : ℕ) (blocks : List HunkBlock) (place : ℕ) (bytes : List ℕ) → size_of (with_bytes_down end blocks place bytes) ≡ size_of blocks
size_of-with_bytes_down end [] place bytes = refl
size_of-with_bytes_down end (b ∷ bs) place bytes =
    elim (eqb ((end - b.size) + 16) place) as (λ t. size_of (cond t (with_bytes b bytes ∷ bs) (b ∷ with_bytes_down (end - b.size) bs place bytes)) ≡ b.size + size_of bs) [
      | true ↦ refl
      | false ↦ ap (λ n. b.size + n) (size_of-with_bytes_down (end - b.size) bs place bytes)
    ]

pub length-with_bytes_down : (end : ℕ) (blocks : List HunkBlock) (place : ℕ) (bytes : List ℕ) → length (with_bytes_down end blocks place bytes) ≡ length blocks
length-with_bytes_down end [] place bytes = refl
length-with_bytes_down end (b ∷ bs) place bytes =
    elim (eqb ((end - b.size) + 16) place) as (λ t. length (cond t (with_bytes b bytes ∷ bs) (b ∷ with_bytes_down (end - b.size) bs place bytes)) ≡ suc (length bs)) [
      | true ↦ refl
      | false ↦ ap suc (length-with_bytes_down (end - b.size) bs place bytes)
    ]

pub ends-with_bytes_down : (start end : ℕ) (blocks : List HunkBlock) (place : ℕ) (bytes : List ℕ) → ends_from start (with_bytes_down end blocks place bytes) ≡ ends_from start blocks
ends-with_bytes_down start end [] place bytes = refl
ends-with_bytes_down start end (b ∷ bs) place bytes =
    elim (eqb ((end - b.size) + 16) place) as (λ t. ends_from start (cond t (with_bytes b bytes ∷ bs) (b ∷ with_bytes_down (end - b.size) bs place bytes)) ≡ (start + b.size) ∷ ends_from (start + b.size) bs) [
      | true ↦ refl
      | false ↦ ap (λ ns. (start + b.size) ∷ ns) (ends-with_bytes_down (start + b.size) (end - b.size) bs place bytes)
    ]

all-with_bytes_down : (end : ℕ) (blocks : List HunkBlock) (place : ℕ) (bytes : List ℕ) → AllByRecursion IsHunkBlock blocks → AllByRecursion IsHunkBlock (with_bytes_down end blocks place bytes)
all-with_bytes_down end [] place bytes p = tt
all-with_bytes_down end (b ∷ bs) place bytes p =
    elim (eqb ((end - b.size) + 16) place) as (λ t. AllByRecursion IsHunkBlock (cond t (with_bytes b bytes ∷ bs) (b ∷ with_bytes_down (end - b.size) bs place bytes))) [
      | true ↦ (record { header = p.0.header; whole = p.0.whole; short = p.0.short; text = p.0.text; bytes = length-over b.bytes bytes ∙ p.0.bytes }, p.1)
      | false ↦ (p.0, all-with_bytes_down (end - b.size) bs place bytes p.1)
    ]

-- the newest block stays the newest, over as many bytes
newest-with_bytes_down : (end : ℕ) (older : List HunkBlock) (b : HunkBlock) (place : ℕ) (bytes : List ℕ) →
    (below : List HunkBlock) × (c : HunkBlock) × (with_bytes_down end (older ++ b ∷ []) place bytes ≡ below ++ c ∷ []) × (size_of below ≡ size_of older)
newest-with_bytes_down end [] b place bytes =
    elim (eqb ((end - b.size) + 16) place) as (λ t. (below : List HunkBlock) × (c : HunkBlock) × (cond t (with_bytes b bytes ∷ []) (b ∷ []) ≡ below ++ c ∷ []) × (size_of below ≡ 0)) [
      | true ↦ ([], with_bytes b bytes, refl, refl)
      | false ↦ ([], b, refl, refl)
    ]
newest-with_bytes_down end (a ∷ cs) b place bytes =
    let rest = newest-with_bytes_down (end - a.size) cs b place bytes in
    elim (eqb ((end - a.size) + 16) place) as (λ t. (below : List HunkBlock) × (c : HunkBlock) × (cond t (with_bytes a bytes ∷ (cs ++ b ∷ [])) (a ∷ with_bytes_down (end - a.size) (cs ++ b ∷ []) place bytes) ≡ below ++ c ∷ []) × (size_of below ≡ a.size + size_of cs)) [
      | true ↦ (with_bytes a bytes ∷ cs, b, refl, refl)
      | false ↦ (a ∷ rest.0, rest.1, ap (λ xs. a ∷ xs) rest.2, ap (λ n. a.size + n) rest.3)
    ]

temp-with_bytes_down : (end : ℕ) (high : List HunkBlock) (temp : Option ℕ) (place : ℕ) (bytes : List ℕ) → IsTemp high temp → IsTemp (with_bytes_down end high place bytes) temp
temp-with_bytes_down end high None place bytes p = tt
temp-with_bytes_down end high (Some mark) place bytes p =
    let new = newest-with_bytes_down end p.0 p.1 place bytes in
    (new.0, new.1, ap (λ bs. with_bytes_down end bs place bytes) p.2 ∙ new.2, p.3 ∙ sym new.3)

-- A write into a high block keeps a memory laid out.
pub Laid-with_high_bytes : (m : Memory) (place : ℕ) (bytes : List ℕ) → Laid m → Laid (with_high_bytes m place bytes)
unfolding with_high_bytes
Laid-with_high_bytes m place bytes laid = record {
  small = laid.small;
  inside = rw (size_of-with_bytes_down m.size m.high place bytes) laid.inside;
  low = laid.low;
  high = all-with_bytes_down m.size m.high place bytes laid.high;
  temp = temp-with_bytes_down m.size m.high m.temp place bytes laid.temp;
  zone = laid.zone;
  cache = rw (size_of-with_bytes_down m.size m.high place bytes) laid.cache;
  events = laid.events;
}

-- The oldest blocks after a write are the oldest ones with it.
pub take-with_bytes_down : (n end : ℕ) (blocks : List HunkBlock) (place : ℕ) (bytes : List ℕ) → take n (with_bytes_down end blocks place bytes) ≡ with_bytes_down end (take n blocks) place bytes
take-with_bytes_down zero end blocks place bytes = refl
take-with_bytes_down (suc n) end [] place bytes = refl
take-with_bytes_down (suc n) end (b ∷ bs) place bytes =
    elim (eqb ((end - b.size) + 16) place) as (λ t. take (suc n) (cond t (with_bytes b bytes ∷ bs) (b ∷ with_bytes_down (end - b.size) bs place bytes)) ≡ cond t (with_bytes b bytes ∷ take n bs) (b ∷ with_bytes_down (end - b.size) (take n bs) place bytes)) [
      | true ↦ refl
      | false ↦ ap (λ xs. b ∷ xs) (take-with_bytes_down n (end - b.size) bs place bytes)
    ]
