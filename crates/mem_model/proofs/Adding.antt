-- A block comes to stand in a gap.
use Rattle.std.proofs.Common.{◌≡◌, ◌≢◌, ℕ, ◌+◌, ◌<◌, ◌≤◌, ◌-◌, ◌^◌, List, ◌∷◌, refl, sym, ap, subst, ◌∙◌, arith, length-take}
use Rattle.std.specs.List.{insert}
use Rattle.std.proofs.lemmas.List.{length-replicate}
use Rattle.std.proofs.lemmas.List.Elements.{All-take}
use Rattle.mem_model.specs.Blocks.{CacheBlock}
use Rattle.mem_model.specs.Memory.{Cache, cache_of}
use Rattle.mem_model.specs.Cache.{with_block, with_fitted, new_block}
use Rattle.mem_model.specs.Gaps.{IsGap, size_of_cache}
use Rattle.mem_model.specs.Laid.{IsCache, IsCacheBlock, IsMultiple, IsText, count_in, users_of}
use Rattle.mem_model.proofs.CacheBlocks.{between_from, between_to}
use Rattle.mem_model.proofs.CacheMoves.{block_at, has_sizes, cache-with_block}
use Rattle.mem_model.proofs.CacheNew.{fit_is}
use Rattle.mem_model.proofs.CacheEdits.{size-put_in}
use Rattle.mem_model.proofs.Gaps.{fit_gap}
use Rattle.mem_model.proofs.Evicting.{with_fitted-fits}

pub block_is : (users size user place : ℕ) (name : List ℕ) → 48 ≤ size → IsMultiple 16 size → user < users → IsText name → IsCacheBlock users (new_block place size user name)
block_is users size user place name least whole known text = record {
  least = least;
  whole = whole;
  user = known;
  short = omega (arith, length-take 15 name);
  text = All-take (λ byte. byte ≢ 0) 15 name text;
  bytes = length-replicate (size - 40) 0;
}

-- the same between wider bounds
pub order_wide : (c : Cache) (users bottom top high : ℕ) → IsCache c users bottom top → top ≤ high → IsCache c users 0 high
order_wide c users bottom top high is h = record {
  blocks = is.blocks;
  between = between_from c.blocks 0 bottom high (omega arith) (between_to c.blocks bottom top high h is.between);
  one_each = is.one_each;
  recency = is.recency;
}

pub record IsAdded (c after : Cache) (bottom top : ℕ) (b : CacheBlock) : Type 0 where
  pub is : with_fitted c bottom top b ≡ after
  pub order : IsCache after (2 ^ 32) 0 (2 ^ 26)
  pub sizes : size_of_cache after.blocks ≡ b.size + size_of_cache c.blocks

pub added : (c : Cache) (b : CacheBlock) (bottom top at place : ℕ) → IsCache c (2 ^ 32) bottom top → top ≤ 2 ^ 26 → IsGap c.blocks bottom b.size top at place → IsCacheBlock (2 ^ 32) b →
    count_in b.user (users_of c.blocks) ≡ 0 → IsAdded c (cache_of (insert c.blocks at (record b { place = place })) (b.user ∷ c.recency)) bottom top b
added c b bottom top at place is small gap block none =
    let new : CacheBlock = record b { place = place } in
    let sized = has_sizes (2 ^ 32) c.blocks is.blocks in
    let hop = fit_is c.blocks bottom top b.size place is.between (fit_gap c.blocks bottom top b.size is.between sized ∙ gap.found) in
    let puts = gap.puts new refl in
    let grown = cache-with_block c new (2 ^ 32) bottom top is (block_at (2 ^ 32) place b block) none hop.above hop.below hop.clear in
    record {
      is = with_fitted-fits c b bottom top place is.between sized gap.found ∙ ap (λ blocks. cache_of blocks (b.user ∷ c.recency)) puts;
      order = subst (λ blocks. IsCache (cache_of blocks (b.user ∷ c.recency)) (2 ^ 32) 0 (2 ^ 26)) puts (order_wide (with_block c new) (2 ^ 32) bottom top (2 ^ 26) grown small);
      sizes = ap size_of_cache (sym puts) ∙ size-put_in c.blocks new;
    }
