-- What keeps a memory laid out.
use Rattle.std.proofs.Common.{◌≡◌, ℕ, suc, zero, ◌+◌, ◌-◌, ◌≤◌, List, [], ◌∷◌, ◌++◌, true, false, length, take, drop, refl, ap, ◌∙◌, arith, eqb, cond, length-append, length-drop, length-take}
use Rattle.std.specs.Prelude.{◌^◌, ◌≢◌, ◌<◌}
use Rattle.std.proofs.lemmas.List.{drop_all, take_all, take_at, length-replicate}
use Rattle.std.proofs.lemmas.List.Elements.{All-take}
use Rattle.std.specs.List.{AllByRecursion}
use Rattle.mem_model.specs.Blocks.{HunkBlock, CacheBlock}
use Rattle.mem_model.specs.Memory.{Memory, Cache, new_memory, size_of, low_used, high_start}
use Rattle.mem_model.specs.Places.{hunk_need}
use Rattle.mem_model.specs.Hunk.{hunk_block, over, with_bytes, with_bytes_from, with_bytes_above, with_low_bytes}
use Rattle.mem_model.specs.Laid.{Laid, IsMultiple, IsText, IsHunkBlock, AreLowBlocks, AreBetween, IsCache, first_size}

pub size_of-append : (xs ys : List HunkBlock) → size_of (xs ++ ys) ≡ size_of xs + size_of ys
size_of-append [] ys = omega arith
size_of-append (x ∷ xs) ys = omega (arith, size_of-append xs ys)

pub all-append : {X : Type 0} (P : X → Type 0) (xs ys : List X) → AllByRecursion P xs → AllByRecursion P ys → AllByRecursion P (xs ++ ys)
all-append P [] ys p q = q
all-append P (x ∷ xs) ys p q = (p.0, all-append P xs ys p.1 q)

-- a new memory is laid out
pub Laid-new_memory : (size zone users : ℕ) → IsMultiple 16 zone → 64 ≤ zone → size ≤ 2 ^ 26 → zone + 16 ≤ size → Laid (new_memory size zone users 0)
Laid-new_memory size zone users whole least small fits = record {
  small = small;
  inside = omega arith;
  low = (record { header = omega arith; whole = omega (arith, whole); name = refl; bytes = refl }, tt);
  high = tt;
  temp = tt;
  zone = record {
    blocks = (record { least = omega arith; whole = omega (arith, whole); bytes = refl }, tt);
    tiles = omega arith;
    merged = tt;
    rover = omega arith;
  };
  cache = record { blocks = tt; between = omega arith; one_each = λ user. omega arith; recency = λ user. refl };
  events = omega arith;
}

-- a block for a payload of this size
pub IsHunkBlock-hunk_block : (size : ℕ) (name : List ℕ) → IsText name → IsHunkBlock (hunk_block (hunk_need size) name)
IsHunkBlock-hunk_block size name text = record {
  header = omega arith;
  whole = omega arith;
  short = omega (arith, length-take 8 name);
  text = All-take (λ byte. byte ≢ 0) 8 name text;
  bytes = length-replicate (hunk_need size - 16) 0;
}

pub low_blocks-append : (low : List HunkBlock) (b : HunkBlock) → AreLowBlocks low → IsHunkBlock b → AreLowBlocks (low ++ b ∷ [])
low_blocks-append [] b p q = absurd p
low_blocks-append (zone ∷ blocks) b p q = (p.0, all-append IsHunkBlock blocks (b ∷ []) p.1 (q, tt))

pub first_size-append : (low : List HunkBlock) (b : HunkBlock) → AreLowBlocks low → first_size (low ++ b ∷ []) ≡ first_size low
first_size-append [] b p = absurd p
first_size-append (zone ∷ blocks) b p = refl

-- What is written over bytes has as many.
pub length-over : (old bytes : List ℕ) → length (over old bytes) ≡ length old
unfolding over
length-over old bytes = simp (length-take, length-append, length-drop) (omega arith)

-- as many bytes as there are replace them
pub over_same : (old bytes : List ℕ) → length bytes ≡ length old → over old bytes ≡ bytes
unfolding over
over_same old bytes h = ap (λ rest. take (length old) (bytes ++ rest)) (drop_all (length bytes) old (omega arith)) ∙ take_at bytes [] (length old) h

-- what is no longer than the old bytes stands before their rest
pub over_front : (old bytes : List ℕ) → length bytes ≤ length old → over old bytes ≡ bytes ++ drop (length bytes) old
unfolding over
over_front old bytes short = take_all (length old) (bytes ++ drop (length bytes) old) (omega (arith, length-append bytes (drop (length bytes) old), length-drop (length bytes) old))

size_of-with_bytes : (start : ℕ) (blocks : List HunkBlock) (place : ℕ) (bytes : List ℕ) → size_of (with_bytes_from start blocks place bytes) ≡ size_of blocks
size_of-with_bytes start [] place bytes = refl
size_of-with_bytes start (b ∷ bs) place bytes =
    elim (eqb (start + 16) place) as (λ t. size_of (cond t (with_bytes b bytes ∷ bs) (b ∷ with_bytes_from (start + b.size) bs place bytes)) ≡ b.size + size_of bs) [
      | true ↦ refl
      | false ↦ ap (λ n. b.size + n) (size_of-with_bytes (start + b.size) bs place bytes)
    ]

blocks-with_bytes : (start : ℕ) (blocks : List HunkBlock) (place : ℕ) (bytes : List ℕ) → AllByRecursion IsHunkBlock blocks → AllByRecursion IsHunkBlock (with_bytes_from start blocks place bytes)
blocks-with_bytes start [] place bytes p = tt
blocks-with_bytes start (b ∷ bs) place bytes p =
    elim (eqb (start + 16) place) as (λ t. AllByRecursion IsHunkBlock (cond t (with_bytes b bytes ∷ bs) (b ∷ with_bytes_from (start + b.size) bs place bytes))) [
      | true ↦ (record { header = p.0.header; whole = p.0.whole; short = p.0.short; text = p.0.text; bytes = length-over b.bytes bytes ∙ p.0.bytes }, p.1)
      | false ↦ (p.0, blocks-with_bytes (start + b.size) bs place bytes p.1)
    ]

pub size_of-with_bytes_above : (low : List HunkBlock) (place : ℕ) (bytes : List ℕ) → size_of (with_bytes_above low place bytes) ≡ size_of low
size_of-with_bytes_above [] place bytes = refl
size_of-with_bytes_above (zone ∷ blocks) place bytes = ap (λ n. zone.size + n) (size_of-with_bytes zone.size blocks place bytes)

low-with_bytes_above : (low : List HunkBlock) (place : ℕ) (bytes : List ℕ) → AreLowBlocks low → AreLowBlocks (with_bytes_above low place bytes)
low-with_bytes_above [] place bytes p = p
low-with_bytes_above (zone ∷ blocks) place bytes p = (p.0, blocks-with_bytes zone.size blocks place bytes p.1)

first-with_bytes_above : (low : List HunkBlock) (place : ℕ) (bytes : List ℕ) → first_size (with_bytes_above low place bytes) ≡ first_size low
first-with_bytes_above [] place bytes = refl
first-with_bytes_above (zone ∷ blocks) place bytes = refl

-- a write into a low block keeps a memory laid out
pub Laid-with_low_bytes : (m : Memory) (place : ℕ) (bytes : List ℕ) → Laid m → Laid (with_low_bytes m place bytes)
unfolding with_low_bytes
Laid-with_low_bytes m place bytes laid = record {
  small = laid.small;
  inside = rw (size_of-with_bytes_above m.low place bytes) laid.inside;
  low = low-with_bytes_above m.low place bytes laid.low;
  high = laid.high;
  temp = laid.temp;
  zone = rw (first-with_bytes_above m.low place bytes) laid.zone;
  cache = rw (size_of-with_bytes_above m.low place bytes) laid.cache;
  events = laid.events;
}

-- the oldest blocks of a row
pub size_of-take : (n : ℕ) (blocks : List HunkBlock) → size_of (take n blocks) ≤ size_of blocks
size_of-take zero blocks = omega arith
size_of-take (suc n) [] = omega arith
size_of-take (suc n) (b ∷ bs) = omega (arith, size_of-take n bs)

pub all-take : {X : Type 0} (P : X → Type 0) (n : ℕ) (xs : List X) → AllByRecursion P xs → AllByRecursion P (take n xs)
all-take P zero xs p = tt
all-take P (suc n) [] p = tt
all-take P (suc n) (x ∷ xs) p = (p.0, all-take P n xs p.1)

pub low-take : (n : ℕ) (low : List HunkBlock) → 0 < n → AreLowBlocks low → AreLowBlocks (take n low)
low-take zero low some p = absurd (omega arith)
low-take (suc n) [] some p = absurd p
low-take (suc n) (zone ∷ blocks) some p = (p.0, all-take IsHunkBlock n blocks p.1)

first_size-take : (n : ℕ) (low : List HunkBlock) → 0 < n → first_size (take n low) ≡ first_size low
first_size-take zero low some = absurd (omega arith)
first_size-take (suc n) [] some = refl
first_size-take (suc n) (zone ∷ blocks) some = refl

between_lower : (blocks : List CacheBlock) (low bottom top : ℕ) → low ≤ bottom → AreBetween bottom top blocks → AreBetween low top blocks
between_lower [] low bottom top h p = omega (arith, p)
between_lower (b ∷ bs) low bottom top h p = (omega (arith, p.0), p.1)

-- a memory is laid out when its newest low blocks leave
pub Laid-with_fewer : (m : Memory) (n : ℕ) → 0 < n → Laid m → Laid (record m { low = take n m.low })
Laid-with_fewer m n some laid = record {
  small = laid.small;
  inside = omega (arith, size_of-take n m.low, laid.inside);
  low = low-take n m.low some laid.low;
  high = laid.high;
  temp = laid.temp;
  zone = rw (first_size-take n m.low some) laid.zone;
  cache = record {
    blocks = laid.cache.blocks;
    between = between_lower m.cache.blocks (size_of (take n m.low)) (low_used m) (high_start m) (size_of-take n m.low) laid.cache.between;
    one_each = laid.cache.one_each;
    recency = laid.cache.recency;
  };
  events = laid.events;
}

-- a memory is laid out with another cache in order between its hunks
pub Laid-with_cache : (m : Memory) (c : Cache) → Laid m → IsCache c m.users (low_used m) (high_start m) → Laid (record m { cache = c })
Laid-with_cache m c laid is = record {
  small = laid.small;
  inside = laid.inside;
  low = laid.low;
  high = laid.high;
  temp = laid.temp;
  zone = laid.zone;
  cache = is;
  events = laid.events;
}
