-- Marks of the low hunk stay marks over what a load does to the memory.
use Prim.Native.Nat.{zero, suc}
use Rattle.std.proofs.Common.{◌≡◌, ℕ, ◌+◌, ◌<◌, ◌≤◌, List, [], ◌∷◌, length, take, Bool, true, false, cond, eqb, Result, Ok, Err, refl, sym, ◌∙◌, ap, subst, arith}
use Rattle.base_fields.specs.Names.{base_of}
use Rattle.mem_model.specs.Blocks.{HunkBlock}
use Rattle.mem_model.specs.Memory.{Memory, size_of, room}
use Rattle.mem_model.specs.Hunk.{with_low_bytes, with_bytes, with_bytes_from, with_bytes_above}
use Rattle.mem_model.specs.declared.answers.Place.{Place}
use Rattle.file_load.specs.declared.errors.LoadError.{LoadError}
use Rattle.file_load.specs.declared.errors.LoadError.TheVariants as load
use Rattle.file_load.specs.declared.errors.Stage.TheVariants as stage
use Rattle.file_load.specs.Loads.{low_block}
use Rattle.file_load.specs.Leaves.{IsMade, LeavesLow}
use Rattle.map_change.specs.Marks.{IsLowMark}
use Rattle.map_change.proofs.Marking.{mark_alloc}

-- other bytes in the blocks
size_test : (t : Bool) (b other : HunkBlock) (bs rest : List HunkBlock) (n : ℕ) → other.size ≡ b.size → size_of (take n rest) ≡ size_of (take n bs) → size_of (take (suc n) (cond t (other ∷ bs) (b ∷ rest))) ≡ size_of (take (suc n) (b ∷ bs))
size_test true b other bs rest n same later = ap (λ k. k + size_of (take n bs)) same
size_test false b other bs rest n same later = ap (λ k. b.size + k) later

length_test : (t : Bool) (b other : HunkBlock) (bs rest : List HunkBlock) → length rest ≡ length bs → length (cond t (other ∷ bs) (b ∷ rest)) ≡ length (b ∷ bs)
length_test true b other bs rest later = refl
length_test false b other bs rest later = ap suc later

sizes_from : (start : ℕ) (blocks : List HunkBlock) (place : ℕ) (bytes : List ℕ) (n : ℕ) → size_of (take n (with_bytes_from start blocks place bytes)) ≡ size_of (take n blocks)
sizes_from start blocks place bytes zero = refl
sizes_from start [] place bytes (suc n) = refl
sizes_from start (b ∷ bs) place bytes (suc n) =
    size_test (eqb (start + 16) place) b (with_bytes b bytes) bs (with_bytes_from (start + b.size) bs place bytes) n refl (sizes_from (start + b.size) bs place bytes n)

lengths_from : (start : ℕ) (blocks : List HunkBlock) (place : ℕ) (bytes : List ℕ) → length (with_bytes_from start blocks place bytes) ≡ length blocks
lengths_from start [] place bytes = refl
lengths_from start (b ∷ bs) place bytes =
    length_test (eqb (start + 16) place) b (with_bytes b bytes) bs (with_bytes_from (start + b.size) bs place bytes) (lengths_from (start + b.size) bs place bytes)

mark_above : (low : List HunkBlock) (mark place : ℕ) (bytes : List ℕ) → IsLowMark low mark → IsLowMark (with_bytes_above low place bytes) mark
mark_above [] mark place bytes is = is
mark_above (zone ∷ blocks) mark place bytes is = by is.count is.some is.inside is.ends
  where
    by : (n : ℕ) → 0 < n → n ≤ length (zone ∷ blocks) → size_of (take n (zone ∷ blocks)) ≡ mark → IsLowMark (zone ∷ with_bytes_from zone.size blocks place bytes) mark
    by zero some inside ends = absurd (omega (arith, some))
    by (suc n) some inside ends = record {
      count = suc n;
      some = some;
      inside = omega (arith, inside, lengths_from zone.size blocks place bytes);
      ends = ap (λ k. zone.size + k) (sizes_from zone.size blocks place bytes n) ∙ ends;
    }

pub mark_written : (m : Memory) (mark place : ℕ) (bytes : List ℕ) → IsLowMark m.low mark → IsLowMark (with_low_bytes m place bytes).low mark
unfolding with_low_bytes
mark_written m mark place bytes is = mark_above m.low mark place bytes is

-- what a load leaves
made : (m new : Memory) (name : List ℕ) (size place mark : ℕ) → IsMade (low_block m name) with_low_bytes size place new → IsLowMark m.low mark → IsLowMark new.low mark
made m new name size place mark stands is =
    subst (λ (x : Memory). IsLowMark x.low mark) (sym stands.after) (mark_written (low_block m name size).after mark place stands.bytes (mark_alloc m (size + 1) mark (base_of name) is))

pub mark_loaded : (m new : Memory) (name : List ℕ) (mark : ℕ) (result : Result (Place × ℕ) LoadError) → LeavesLow m name result new → IsLowMark m.low mark → IsLowMark new.low mark
mark_loaded m new name mark (Ok loaded) leaves is = made m new name loaded.1 loaded.0.0 mark leaves is
mark_loaded m new name mark (Err load.NotFound) leaves is = subst (λ (x : Memory). IsLowMark x.low mark) (sym leaves) is
mark_loaded m new name mark (Err (load.BeyondPack end whole)) leaves is = subst (λ (x : Memory). IsLowMark x.low mark) (sym leaves) is
mark_loaded m new name mark (Err (load.NoRoom asked room)) leaves is = subst (λ (x : Memory). IsLowMark x.low mark) (sym leaves.1.after) (mark_alloc m (leaves.0 + 1) mark (base_of name) is)
mark_loaded m new name mark (Err (load.FolderFault folder stage.Find)) leaves is = subst (λ (x : Memory). IsLowMark x.low mark) (sym leaves) is
mark_loaded m new name mark (Err (load.FolderFault folder stage.Read)) leaves is = made m new name leaves.0 leaves.1 mark leaves.2 is
mark_loaded m new name mark (Err load.OutOfMemory) leaves is = subst (λ (x : Memory). IsLowMark x.low mark) (sym leaves) is
