-- A block at a position leaves, or moves.
use Rattle.std.proofs.Common.{◌≡◌, ℕ, suc, zero, ◌+◌, ◌<◌, ◌≤◌, ◌^◌, true, false, cond, ltb, List, [], ◌∷◌, ◌++◌, Some, find, length, take, drop, nat_eq, refl, sym, ap, ◌∙◌, arith, inl, inr}
use Rattle.std.specs.Prelude.{slice_get}
use Rattle.std.specs.List.{insert, remove}
use Rattle.std.proofs.lemmas.Bool.{eq-eqb}
use Rattle.std.proofs.lemmas.Bool.Decides.{eqb_tells}
use Rattle.std.proofs.lemmas.List.{drop_all, take_all, append-nil}
use Rattle.mem_model.specs.Blocks.{CacheBlock}
use Rattle.mem_model.specs.Memory.{Cache}
use Rattle.mem_model.specs.Cache.{put_in, without, without_block, without_user, moved}
use Rattle.mem_model.specs.Gaps.{size_of_cache}
use Rattle.mem_model.specs.Turns.{IsMove, shifted}
use Rattle.mem_model.specs.Laid.{IsCache, count_in, users_of}
use Rattle.mem_model.proofs.CacheMoves.{later-without, later-moved}
use Rattle.mem_model.proofs.Jumps.{without_block-none}
use Rattle.mem_model.proofs.Shifts.{shifted_is}

-- as many elements written over as there are
pub written_whole : {X : Type 0} (xs ys : List X) (n : ℕ) → length xs ≡ length ys → n ≡ length ys → take n (xs ++ drop (length xs) ys) ≡ xs
written_whole xs ys n h k = ap (λ rest. take n (xs ++ rest)) (drop_all (length xs) ys (omega arith)) ∙ ap (take n) (append-nil xs) ∙ take_all n xs (omega arith)

-- a block that stands somewhere counts for its user
pub counted_at : (blocks : List CacheBlock) (at : ℕ) (b : CacheBlock) → slice_get blocks at ≡ Some b → 0 < count_in b.user (users_of blocks)
counted_at [] at b h = absurd (cc)
counted_at (x ∷ xs) zero b h = (let same : x ≡ b = cc in rw (eq-eqb x.user b.user (ap (λ (y : CacheBlock). y.user) same)) (omega arith))
counted_at (x ∷ xs) (suc at) b h = omega (arith, counted_at xs at b h)

-- What a position tells where each user has one block.
pub record IsAt (blocks : List CacheBlock) (at : ℕ) (b : CacheBlock) : Type 0 where
  pub found : find (λ x. nat_eq x.user b.user) blocks ≡ Some b
  pub removed : without_block blocks b.user ≡ remove blocks at
  pub size : size_of_cache (remove blocks at) + b.size ≡ size_of_cache blocks

at_first : (x b : CacheBlock) (xs : List CacheBlock) → x ≡ b → count_in b.user (users_of (x ∷ xs)) ≤ 1 → IsAt (x ∷ xs) 0 b
at_first x b xs same few =
    let here = eq-eqb x.user b.user (ap (λ (y : CacheBlock). y.user) same) in
    let none : count_in b.user (users_of xs) ≡ 0 = omega (arith, rw here at few) in
    record {
      found = rw here (ap Some same);
      removed = rw here (without_block-none b.user xs none);
      size = omega (arith, ap (λ (y : CacheBlock). y.size) same);
    }

pub at_position : (blocks : List CacheBlock) (at : ℕ) (b : CacheBlock) → ((user : ℕ) → count_in user (users_of blocks) ≤ 1) → slice_get blocks at ≡ Some b → IsAt blocks at b
at_position [] at b few h = absurd (cc)
at_position (x ∷ xs) zero b few h = (let same : x ≡ b = cc in at_first x b xs same (few b.user))
at_position (x ∷ xs) (suc at) b few h =
    let rest = at_position xs at b (λ user. omega (arith, few user)) h in
    elim (eqb_tells x.user b.user) [
      | inl same ↦ absurd (omega (arith, rw same.0 at (few b.user), counted_at xs at b h))
      | inr off ↦ record {
        found = rw off.0 rest.found;
        removed = rw off.0 (ap (λ ys. x ∷ ys) rest.removed);
        size = omega (arith, rest.size);
      }
    ]

-- A block that leaves, as it is read at its position.
pub record IsLeaving (c : Cache) (at : ℕ) (b : CacheBlock) : Type 0 where
  pub is : without c b.user ≡ record { blocks = remove c.blocks at; recency = without_user c.recency b.user }
  pub order : IsCache (without c b.user) (2 ^ 32) 0 (2 ^ 26)
  pub size : size_of_cache (remove c.blocks at) + b.size ≡ size_of_cache c.blocks

pub leaving : (c : Cache) (at : ℕ) (b : CacheBlock) → IsCache c (2 ^ 32) 0 (2 ^ 26) → slice_get c.blocks at ≡ Some b → IsLeaving c at b
leaving c at b is h =
    let p = at_position c.blocks at b is.one_each h in
    record {
      is = ap (λ blocks. record { blocks = blocks; recency = without_user c.recency b.user }) p.removed;
      order = (later-without c (2 ^ 32) 0 (2 ^ 26) b.user is).cache;
      size = p.size;
    }

pub size-put_in : (blocks : List CacheBlock) (b : CacheBlock) → size_of_cache (put_in blocks b) ≡ b.size + size_of_cache blocks
size-put_in [] b = refl
size-put_in (c ∷ cs) b =
    elim (ltb c.place b.place) as (λ t. size_of_cache (cond t (c ∷ put_in cs b) (b ∷ c ∷ cs)) ≡ b.size + (c.size + size_of_cache cs)) [ true ↦ omega (arith, size-put_in cs b) | false ↦ refl ]

-- A block that moves.
pub record IsMoving (c : Cache) (from to place : ℕ) (b : CacheBlock) : Type 0 where
  pub is : moved c b place ≡ record { blocks = insert (remove c.blocks from) to (record b { place = place }); recency = shifted b.user b.user c.recency }
  pub order : IsCache (moved c b place) (2 ^ 32) 0 (2 ^ 26)
  pub size : size_of_cache (moved c b place).blocks ≡ size_of_cache c.blocks

pub moving : (c : Cache) (from to place : ℕ) (b : CacheBlock) → IsCache c (2 ^ 32) 0 (2 ^ 26) → slice_get c.blocks from ≡ Some b → IsMove c.blocks b to place → IsMoving c from to place b
moving c from to place b is h m =
    let p = at_position c.blocks from b is.one_each h in
    let once : count_in b.user c.recency ≡ 1 = omega (arith, is.recency b.user, is.one_each b.user, counted_at c.blocks from b h) in
    record {
      is = ap (λ blocks. record { blocks = blocks; recency = b.user ∷ without_user c.recency b.user }) (m.puts ∙ ap (λ rest. insert rest to (record b { place = place })) p.removed)
          ∙ ap (λ users. record { blocks = insert (remove c.blocks from) to (record b { place = place }); recency = users }) (sym (shifted_is b.user b.user c.recency once));
      order = (later-moved c b (2 ^ 32) 0 (2 ^ 26) place is p.found m.hop).cache;
      size = size-put_in (without_block c.blocks b.user) (record b { place = place }) ∙ omega (arith, ap size_of_cache p.removed, p.size);
    }
