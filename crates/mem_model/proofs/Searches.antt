-- The search for a gap, block by block.
use Rattle.std.proofs.Common.{◌≡◌, ℕ, ◌+◌, ◌<◌, ◌≤◌, List, [], ◌∷◌, ◌++◌, Some, None, length, take, drop, get_or, refl, sym, ap, ◌∙◌, subst, arith, append_assoc}
use Rattle.std.specs.List.{AllByRecursion}
use Rattle.std.proofs.lemmas.Bool.{le-leb, lt-leb, lt-ltb, le-ltb}
use Rattle.std.proofs.lemmas.List.{drop_more, take_more, drop_all, take_all}
use Rattle.mem_model.specs.Blocks.{CacheBlock}
use Rattle.mem_model.specs.Places.{end_of}
use Rattle.mem_model.specs.Cache.{put_in}
use Rattle.mem_model.specs.Gaps.{gap_from, IsGap, HasSize}
use Rattle.mem_model.specs.Laid.{AreBetween}
use Rattle.mem_model.proofs.CacheBlocks.{between-spans}

-- No gap comes before this position, where the search goes on from this place.
pub record IsSearched (blocks : List CacheBlock) (start size top at place : ℕ) : Type 0 where
  pub inside : at ≤ length blocks
  pub gaps : gap_from start size top blocks ≡ gap_from place size top (drop at blocks)
  pub puts : (b : CacheBlock) → place ≤ b.place → put_in blocks b ≡ take at blocks ++ put_in (drop at blocks) b
  pub between : AreBetween place top (drop at blocks)
  pub sized : AllByRecursion HasSize (drop at blocks)

pub searched_first : (blocks : List CacheBlock) (start size top : ℕ) → AreBetween start top blocks → AllByRecursion HasSize blocks → IsSearched blocks start size top 0 start
searched_first blocks start size top a s = record { inside = omega arith; gaps = refl; puts = λ b h. refl; between = a; sized = s }

-- what is left at a position with a block
pub searched_left : {blocks : List CacheBlock} {start size top at place : ℕ} (c : CacheBlock) → IsSearched blocks start size top at place → at < length blocks → c ≡ get_or blocks at c → drop at blocks ≡ c ∷ drop (at + 1) blocks
searched_left {blocks} {start} {size} {top} {at} {place} c s inside is = drop_more blocks at c inside ∙ ap (λ x. x ∷ drop (at + 1) blocks) (sym is)

pub searched_bounds : {blocks : List CacheBlock} {start size top at place : ℕ} (c : CacheBlock) → IsSearched blocks start size top at place → at < length blocks → c ≡ get_or blocks at c → (place ≤ c.place) × (end_of c ≤ top)
searched_bounds {blocks} {start} {size} {top} {at} {place} c s inside is =
    let a = subst (λ rest. AreBetween place top rest) (searched_left c s inside is) s.between in
    (a.0, between-spans (drop (at + 1) blocks) (end_of c) top a.1)

pub searched_place : {blocks : List CacheBlock} {start size top at place : ℕ} → IsSearched blocks start size top at place → place ≤ top
searched_place {blocks} {start} {size} {top} {at} {place} s = between-spans (drop at blocks) place top s.between

-- A gap before the next block.
pub searched_here : {blocks : List CacheBlock} {start size top at place : ℕ} (c : CacheBlock) → IsSearched blocks start size top at place → at < length blocks → c ≡ get_or blocks at c → place + size ≤ c.place → IsGap blocks start size top at place
searched_here {blocks} {start} {size} {top} {at} {place} c s inside is fits =
    let left = searched_left c s inside is in
    record {
      found = s.gaps ∙ ap (gap_from place size top) left ∙ first fits;
      inside = s.inside;
      ends = omega (arith, (searched_bounds c s inside is).1);
      puts = λ b h. s.puts b (omega arith) ∙ ap (λ xs. take at blocks ++ xs) (ap (λ rest. put_in rest b) left ∙ before b h fits ∙ ap (λ rest. b ∷ rest) (sym left));
    } where
      first : place + size ≤ c.place → gap_from place size top (c ∷ drop (at + 1) blocks) ≡ Some place
      first h = rw (le-leb (place + size) c.place h) refl

      before : (b : CacheBlock) → b.place ≡ place → place + size ≤ c.place → put_in (c ∷ drop (at + 1) blocks) b ≡ b ∷ c ∷ drop (at + 1) blocks
      before b e h = rw (le-ltb c.place b.place (omega arith)) refl

-- The search goes on behind the next block.
pub searched_more : {blocks : List CacheBlock} {start size top at place : ℕ} (c : CacheBlock) → IsSearched blocks start size top at place → at < length blocks → c ≡ get_or blocks at c → c.place < place + size → IsSearched blocks start size top (at + 1) (end_of c)
searched_more {blocks} {start} {size} {top} {at} {place} c s inside is short =
    let left = searched_left c s inside is in
    let a = subst (λ rest. AreBetween place top rest) left s.between in
    let z = subst (λ rest. AllByRecursion HasSize rest) left s.sized in
    record {
      inside = omega arith;
      gaps = s.gaps ∙ ap (gap_from place size top) left ∙ rw (lt-leb (place + size) c.place short) refl;
      puts = λ b h. s.puts b (omega (arith, a.0)) ∙ ap (λ xs. take at blocks ++ xs) (ap (λ rest. put_in rest b) left ∙ behind b (omega (arith, z.0)))
          ∙ sym (append_assoc (take at blocks) (c ∷ []) (put_in (drop (at + 1) blocks) b))
          ∙ ap (λ front. front ++ put_in (drop (at + 1) blocks) b) (sym (take_more blocks at c inside ∙ ap (λ x. take at blocks ++ x ∷ []) (sym is)));
      between = a.1;
      sized = z.1;
    } where
      behind : (b : CacheBlock) → c.place < b.place → put_in (c ∷ drop (at + 1) blocks) b ≡ c ∷ put_in (drop (at + 1) blocks) b
      behind b h = rw (lt-ltb c.place b.place h) refl

-- A gap behind the last block, or none.
pub searched_last : {blocks : List CacheBlock} {start size top at place : ℕ} → IsSearched blocks start size top at place → length blocks ≤ at → place + size ≤ top → IsGap blocks start size top (length blocks) place
searched_last {blocks} {start} {size} {top} {at} {place} s end fits =
    let none = drop_all at blocks end in
    record {
      found = s.gaps ∙ ap (gap_from place size top) none ∙ rw (le-leb (place + size) top fits) refl;
      inside = omega arith;
      ends = fits;
      puts = λ b h. s.puts b (omega arith) ∙ ap (λ rest. take at blocks ++ put_in rest b) none ∙ ap (λ front. front ++ b ∷ []) (take_all at blocks end ∙ sym (take_all (length blocks) blocks (omega arith)))
          ∙ ap (λ rest. take (length blocks) blocks ++ b ∷ rest) (sym (drop_all (length blocks) blocks (omega arith)));
    }

pub searched_none : {blocks : List CacheBlock} {start size top at place : ℕ} → IsSearched blocks start size top at place → length blocks ≤ at → top < place + size → gap_from start size top blocks ≡ None
searched_none {blocks} {start} {size} {top} {at} {place} s end short = s.gaps ∙ ap (gap_from place size top) (drop_all at blocks end) ∙ rw (lt-leb (place + size) top short) refl
