-- Bytes written into a user's block of the cache: what they leave, and where a plain store has the block.
use Rattle.std.proofs.Common.{◌≡◌, ◌≢◌, ℕ, suc, zero, ◌+◌, ◌≤◌, true, false, cond, eqb, List, [], ◌∷◌, Option, Some, None, refl, sym, ap, ◌∙◌, inl, inr, arith}
use Rattle.std.specs.Prelude.{slice_get, slice_set}
use Rattle.std.specs.List.{AllByRecursion}
use Rattle.std.specs.Option.{option_map}
use Rattle.std.proofs.lemmas.Bool.{eq-eqb, ne_eqb}
use Rattle.std.proofs.lemmas.Bool.Decides.{eqb_tells}
use Rattle.mem_model.specs.Blocks.{CacheBlock}
use Rattle.mem_model.specs.Memory.{Memory, Cache, low_used, high_start}
use Rattle.mem_model.specs.Places.{end_of}
use Rattle.mem_model.specs.Hunk.{over}
use Rattle.mem_model.specs.Cache.{find_block, peek_bytes}
use Rattle.mem_model.specs.Images.{with_contents, with_contents_of, with_user_bytes, with_cache_bytes}
use Rattle.mem_model.specs.Gaps.{size_of_cache}
use Rattle.mem_model.specs.Tables.{IsTable, IsOwn}
use Rattle.mem_model.specs.Laid.{Laid, AreBetween, IsCache, IsCacheBlock, count_in, users_of}
use Rattle.mem_model.proofs.CacheBlocks.{find-some}
use Rattle.mem_model.proofs.CacheEdits.{counted_at}
use Rattle.mem_model.proofs.Laying.{Laid-with_cache, length-over, over_same}

-- Only bytes change: each block stays where it is, as large as it is and its user's.
users_of-with : (user : ℕ) (blocks : List CacheBlock) (bytes : List ℕ) → users_of (with_contents_of user blocks bytes) ≡ users_of blocks
users_of-with user [] bytes = refl
users_of-with user (b ∷ bs) bytes =
    elim (eqb b.user user) as (λ t. users_of (cond t (with_contents b bytes ∷ bs) (b ∷ with_contents_of user bs bytes)) ≡ b.user ∷ users_of bs) [
      | true ↦ refl
      | false ↦ ap (λ us. b.user ∷ us) (users_of-with user bs bytes)
    ]

pub size_of-with : (user : ℕ) (blocks : List CacheBlock) (bytes : List ℕ) → size_of_cache (with_contents_of user blocks bytes) ≡ size_of_cache blocks
size_of-with user [] bytes = refl
size_of-with user (b ∷ bs) bytes =
    elim (eqb b.user user) as (λ t. size_of_cache (cond t (with_contents b bytes ∷ bs) (b ∷ with_contents_of user bs bytes)) ≡ b.size + size_of_cache bs) [
      | true ↦ refl
      | false ↦ ap (λ n. b.size + n) (size_of-with user bs bytes)
    ]

between-with : (user : ℕ) (blocks : List CacheBlock) (bytes : List ℕ) (bottom top : ℕ) → AreBetween bottom top blocks → AreBetween bottom top (with_contents_of user blocks bytes)
between-with user [] bytes bottom top a = a
between-with user (b ∷ bs) bytes bottom top a =
    elim (eqb b.user user) as (λ t. AreBetween bottom top (cond t (with_contents b bytes ∷ bs) (b ∷ with_contents_of user bs bytes))) [
      | true ↦ a
      | false ↦ (a.0, between-with user bs bytes (end_of b) top a.1)
    ]

blocks-with : (users user : ℕ) (blocks : List CacheBlock) (bytes : List ℕ) → AllByRecursion (IsCacheBlock users) blocks → AllByRecursion (IsCacheBlock users) (with_contents_of user blocks bytes)
blocks-with users user [] bytes p = tt
blocks-with users user (b ∷ bs) bytes p =
    elim (eqb b.user user) as (λ t. AllByRecursion (IsCacheBlock users) (cond t (with_contents b bytes ∷ bs) (b ∷ with_contents_of user bs bytes))) [
      | true ↦ (record { least = p.0.least; whole = p.0.whole; user = p.0.user; short = p.0.short; text = p.0.text; bytes = length-over b.bytes bytes ∙ p.0.bytes }, p.1)
      | false ↦ (p.0, blocks-with users user bs bytes p.1)
    ]

pub IsCache-with_user_bytes : (c : Cache) (users bottom top user : ℕ) (bytes : List ℕ) → IsCache c users bottom top → IsCache (with_user_bytes c user bytes) users bottom top
unfolding with_user_bytes
IsCache-with_user_bytes c users bottom top user bytes is =
    let same = users_of-with user c.blocks bytes in
    record {
      blocks = blocks-with users user c.blocks bytes is.blocks;
      between = between-with user c.blocks bytes bottom top is.between;
      one_each = λ other. rw same (is.one_each other);
      recency = λ other. rw same (is.recency other);
    }

-- a write into a user's block keeps a memory laid out
pub Laid-with_cache_bytes : (m : Memory) (user : ℕ) (bytes : List ℕ) → Laid m → Laid (with_cache_bytes m user bytes)
unfolding with_cache_bytes
Laid-with_cache_bytes m user bytes laid = Laid-with_cache m (with_user_bytes m.cache user bytes) laid (IsCache-with_user_bytes m.cache m.users (low_used m) (high_start m) user bytes laid.cache)

-- The user's block is found with the bytes, and each other user's as it was.
pub find-with_own : (user : ℕ) (blocks : List CacheBlock) (bytes : List ℕ) → find_block user (with_contents_of user blocks bytes) ≡ option_map (λ b. with_contents b bytes) (find_block user blocks)
find-with_own user [] bytes = refl
find-with_own user (b ∷ bs) bytes =
    elim (eqb_tells b.user user) [
      | inl at ↦ rw (at.0, at.0) refl
      | inr off ↦ rw (off.0, off.0) (find-with_own user bs bytes)
    ]

pub find-with_other : (user other : ℕ) (blocks : List CacheBlock) (bytes : List ℕ) → other ≢ user → find_block other (with_contents_of user blocks bytes) ≡ find_block other blocks
find-with_other user other [] bytes apart = refl
find-with_other user other (b ∷ bs) bytes apart =
    elim (eqb_tells b.user user) [
      | inl at ↦ rw (at.0, ne_eqb b.user other (λ e. apart (sym e ∙ at.1))) refl
      | inr off ↦ rw off.0 (ap (cond (eqb b.user other) (Some b)) (find-with_other user other bs bytes apart))
    ]

same_place : (o : Option CacheBlock) (bytes : List ℕ) → option_map (λ (b : CacheBlock). b.place) (option_map (λ b. with_contents b bytes) o) ≡ option_map (λ (b : CacheBlock). b.place) o
same_place None bytes = refl
same_place (Some b) bytes = refl

pub placed-with : (user other : ℕ) (blocks : List CacheBlock) (bytes : List ℕ) → option_map (λ (b : CacheBlock). b.place) (find_block other (with_contents_of user blocks bytes)) ≡ option_map (λ (b : CacheBlock). b.place) (find_block other blocks)
placed-with user other blocks bytes =
    elim (eqb_tells other user) [
      | inl at ↦
          ap (λ u. option_map (λ (b : CacheBlock). b.place) (find_block u (with_contents_of user blocks bytes))) at.1
          ∙ ap (option_map (λ (b : CacheBlock). b.place)) (find-with_own user blocks bytes) ∙ same_place (find_block user blocks) bytes
          ∙ ap (λ u. option_map (λ (b : CacheBlock). b.place) (find_block u blocks)) (sym at.1)
      | inr off ↦ ap (option_map (λ (b : CacheBlock). b.place)) (find-with_other user other blocks bytes off.1)
    ]

pub table-with : {places : List (Option ℕ)} {blocks : List CacheBlock} (user : ℕ) (bytes : List ℕ) → IsTable places blocks → IsTable places (with_contents_of user blocks bytes)
table-with {places} {blocks} user bytes t = record { each = λ other. t.each other ∙ sym (placed-with user other blocks bytes) }

-- Where each user has one block, the write is one into the block at the user's position.
pub contents_at : (blocks : List CacheBlock) (user at : ℕ) (b : CacheBlock) (bytes : List ℕ) → count_in user (users_of blocks) ≤ 1 → slice_get blocks at ≡ Some b → b.user ≡ user →
    with_contents_of user blocks bytes ≡ slice_set blocks at (with_contents b bytes)
contents_at [] user at b bytes few h is = absurd (cc)
contents_at (x ∷ xs) user zero b bytes few h is =
    let same : x ≡ b = cc in
    rw (eq-eqb x.user user (ap (λ (y : CacheBlock). y.user) same ∙ is)) (ap (λ y. with_contents y bytes ∷ xs) same)
contents_at (x ∷ xs) user (suc at) b bytes few h is =
    elim (eqb_tells x.user user) [
      | inl first ↦ absurd (omega (arith, rw first.0 at few, ap (λ u. count_in u (users_of xs)) is, counted_at xs at b h))
      | inr off ↦ rw off.0 (ap (λ ys. x ∷ ys) (contents_at xs user at b bytes (omega (arith, few)) h is))
    ]

pub contents_own : (c : Cache) (user at : ℕ) (b : CacheBlock) (bytes : List ℕ) → count_in user (users_of c.blocks) ≤ 1 → IsOwn c.blocks user at → slice_get c.blocks at ≡ Some b →
    with_user_bytes c user bytes ≡ record c { blocks = slice_set c.blocks at (with_contents b bytes) }
unfolding with_user_bytes
contents_own c user at b bytes few own h =
    ap (λ (blocks : List CacheBlock). record c { blocks = blocks }) (contents_at c.blocks user at b bytes few h (find-some user c.blocks b (own.found ∙ h)).0)

-- Bytes that were written over the old ones are written like what they came of.
contents_over : (user : ℕ) (blocks : List CacheBlock) (old bytes : List ℕ) → option_map (λ (b : CacheBlock). b.bytes) (find_block user blocks) ≡ Some old → with_contents_of user blocks (over old bytes) ≡ with_contents_of user blocks bytes
contents_over user [] old bytes h = refl
contents_over user (b ∷ bs) old bytes h =
    elim (eqb_tells b.user user) [
      | inl at ↦
          let here : Some b.bytes ≡ Some old = rw at.0 at h in
          let same : old ≡ b.bytes = cc in
          rw (at.0, same) (ap (λ w. record b { bytes = w } ∷ bs) (over_same b.bytes (over b.bytes bytes) (length-over b.bytes bytes)))
      | inr off ↦ rw off.0 (ap (λ cs. b ∷ cs) (contents_over user bs old bytes (rw off.0 at h)))
    ]

pub with_user_bytes-over : (c : Cache) (user : ℕ) (old bytes : List ℕ) → peek_bytes c user ≡ Some old → with_user_bytes c user (over old bytes) ≡ with_user_bytes c user bytes
unfolding peek_bytes with_user_bytes
with_user_bytes-over c user old bytes h = ap (λ (blocks : List CacheBlock). record c { blocks = blocks }) (contents_over user c.blocks old bytes h)
