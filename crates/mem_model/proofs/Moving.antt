-- A low block's bytes that become those of a user's new block.
use Rattle.std.proofs.Common.{◌≡◌, ◌≢◌, ℕ, suc, zero, ◌+◌, ◌-◌, ◌<◌, ◌≤◌, Bool, true, false, cond, ltb, List, [], ◌∷◌, ◌++◌, Option, Some, None, Ok, Err, length, take, drop, replicate, nat_eq, not, refl, sym, ap, ◌∙◌, inl, inr, arith, eq-eqb, length-take, length-append, rules}
use Rattle.std.specs.Prelude.{◌^◌, IsSome, is_some}
use Rattle.std.specs.List.{list_any}
use Rattle.std.proofs.lemmas.Bool.{ne_eqb}
use Rattle.std.proofs.lemmas.Bool.Decides.{eqb_tells}
use Rattle.std.proofs.lemmas.List.{length-replicate}
use Rattle.std.proofs.Math.Seq.{take-append-add}
use Rattle.mem_model.specs.Blocks.{HunkBlock, CacheBlock}
use Rattle.mem_model.specs.Memory.{Memory, Cache, low_used, high_start, room}
use Rattle.mem_model.specs.Answer.{Answers, Gives}
use Rattle.mem_model.specs.Event.{CacheRefusal}
use Rattle.mem_model.specs.Told.{cache_answer}
use Rattle.mem_model.specs.declared.answers.CacheError.{CacheError}
use Rattle.mem_model.specs.declared.answers.CacheError.TheVariants as error
use Rattle.mem_model.specs.Places.{fit}
use Rattle.mem_model.specs.Hunk.{over, bytes_from, bytes_above, cut_from, cut_above, low_bytes}
use Rattle.mem_model.specs.Cache.{block_of, evictions, made_room, new_block, placed, put_in, with_fitted, with_new}
use Rattle.mem_model.specs.Images.{with_cache_bytes, with_contents, with_contents_of, with_user_bytes}
use Rattle.mem_model.specs.Operations.{cache_alloc, copy_low_to_cache, move_low_to_cache}
use Rattle.mem_model.specs.Plain.{IsCut, IsGiven}
use Rattle.mem_model.specs.Laid.{IsCacheBlock, IsMultiple, IsText, count_in, users_of}
use Rattle.mem_model.proofs.Adding.{block_is}
use Rattle.mem_model.proofs.Laying.{length-over}
use Rattle.mem_model.proofs.CacheBlocks.{find-none}
use Rattle.mem_model.proofs.CacheNew.{none-filtered}
use Rattle.mem_model.proofs.Calling.{cache_alloc_taken, low_free_cut}

-- Bytes are written to no user that has no block.
contents-absent : (user : ℕ) (blocks : List CacheBlock) (bytes : List ℕ) → count_in user (users_of blocks) ≡ 0 → with_contents_of user blocks bytes ≡ blocks
contents-absent user [] bytes none = refl
contents-absent user (b ∷ bs) bytes none =
    elim (eqb_tells b.user user) [
      | inl at ↦ absurd (omega (arith, rw at.0 at none))
      | inr off ↦ rw off.0 (ap (λ xs. b ∷ xs) (contents-absent user bs bytes (omega (arith, none))))
    ]

-- A block that is put in and then written to is put in with what was written.
contents-put_in : (blocks : List CacheBlock) (b : CacheBlock) (bytes : List ℕ) → count_in b.user (users_of blocks) ≡ 0 → with_contents_of b.user (put_in blocks b) bytes ≡ put_in blocks (with_contents b bytes)
contents-put_in [] b bytes none = rw (eq-eqb b.user b.user refl) refl
contents-put_in (c ∷ cs) b bytes none =
    elim (eqb_tells c.user b.user) [
      | inl at ↦ absurd (omega (arith, rw at.0 at none))
      | inr off ↦
          elim (ltb c.place b.place) as (λ t. with_contents_of b.user (cond t (c ∷ put_in cs b) (b ∷ c ∷ cs)) bytes ≡ cond t (c ∷ put_in cs (with_contents b bytes)) (with_contents b bytes ∷ c ∷ cs)) [
            | true ↦ rw off.0 (ap (λ xs. c ∷ xs) (contents-put_in cs b bytes (omega (arith, none))))
            | false ↦ rw (eq-eqb b.user b.user refl) refl
          ]
    ]

none-left : (c : Cache) (user : ℕ) (o : Option ℕ) → count_in user (users_of c.blocks) ≡ 0 → count_in user (users_of (made_room c o).blocks) ≡ 0
none-left c user None none = none
none-left c user (Some n) none =
    let stay = length c.recency - n in
    none-filtered (λ u. not (list_any (nat_eq u) (drop stay c.recency))) user c.blocks (not (list_any (nat_eq user) (drop stay c.recency))) refl none

placed-contents : (c : Cache) (b : CacheBlock) (bytes : List ℕ) (o : Option ℕ) → count_in b.user (users_of c.blocks) ≡ 0 → with_user_bytes (placed c b o) b.user bytes ≡ placed c (with_contents b bytes) o
unfolding with_user_bytes
placed-contents c b bytes None none = ap (λ (blocks : List CacheBlock). record c { blocks = blocks }) (contents-absent b.user c.blocks bytes none)
placed-contents c b bytes (Some place) none =
    ap (λ (blocks : List CacheBlock). record { blocks = blocks; recency = b.user ∷ c.recency }) (contents-put_in c.blocks (record b { place = place }) bytes none)

-- The same where room is made for it first.
pub fitted-contents : (c : Cache) (b : CacheBlock) (bottom top : ℕ) (bytes : List ℕ) → count_in b.user (users_of c.blocks) ≡ 0 → with_user_bytes (with_fitted c bottom top b) b.user bytes ≡ with_fitted c bottom top (with_contents b bytes)
unfolding with_fitted
fitted-contents c b bottom top bytes none =
    let rest : Cache = made_room c (evictions c bottom top b.size) in
    placed-contents rest b bytes (fit rest.blocks bottom top b.size) (none-left c b.user (evictions c bottom top b.size) none)

front-none : (n : ℕ) (bytes : List ℕ) → take n [] ++ bytes ≡ bytes
front-none zero bytes = refl
front-none (suc n) bytes = refl

-- Bytes over zeros are cut, or followed by zeros.
over_zeros_from : (n : ℕ) (bytes : List ℕ) → take n (bytes ++ drop (length bytes) (replicate n 0)) ≡ take n bytes ++ replicate (n - length bytes) 0
over_zeros_from zero [] = refl
over_zeros_from zero (b ∷ bs) = let none : 0 ≡ 0 - suc (length bs) = omega arith in ap (λ k. replicate k 0) none
over_zeros_from (suc n) [] =
    let all : n - 0 ≡ n = omega arith in
    let more : suc n ≡ suc n - 0 = omega arith in
    ap (λ bytes. 0 ∷ bytes) (over_zeros_from n [] ∙ ap (λ k. take n [] ++ replicate k 0) all ∙ front-none n (replicate n 0)) ∙ ap (λ k. replicate k 0) more
over_zeros_from (suc n) (b ∷ bs) =
    let less : n - length bs ≡ suc n - suc (length bs) = omega arith in
    ap (λ bytes. b ∷ bytes) (over_zeros_from n bs) ∙ ap (λ k. b ∷ (take n bs ++ replicate k 0)) less

pub over_zeros : (n : ℕ) (bytes : List ℕ) → over (replicate n 0) bytes ≡ take n bytes ++ replicate (n - length bytes) 0
unfolding over
over_zeros n bytes = ap (λ k. take k (bytes ++ drop (length bytes) (replicate n 0))) (length-replicate n 0) ∙ over_zeros_from n bytes

-- The low block whose header is at the mark.
record IsAtMark (low : List HunkBlock) (kept : Option (List HunkBlock)) (bytes : Option (List ℕ)) : Type 0 where
  below : List HunkBlock
  block : HunkBlock
  above : List HunkBlock
  is : low ≡ below ++ block ∷ above
  cut : kept ≡ Some below
  shows : bytes ≡ Some block.bytes

mark_from : (start : ℕ) (blocks : List HunkBlock) (mark : ℕ) → IsSome (bytes_from start blocks (mark + 16)) → IsAtMark blocks (cut_from start blocks mark) (bytes_from start blocks (mark + 16))
mark_from start [] mark there = absurd (search rules)
mark_from start (b ∷ bs) mark there =
    elim (eqb_tells (start + 16) (mark + 16)) [
      | inl at ↦ record { below = []; block = b; above = bs; is = refl; cut = rw (eq-eqb start mark (omega (arith, at.1))) refl; shows = rw at.0 refl }
      | inr off ↦
          let rest = mark_from (start + b.size) bs mark (rw off.0 at there) in
          let apart : start ≢ mark = λ same. off.1 (ap (λ n. n + 16) same) in
          record {
            below = b ∷ rest.below;
            block = rest.block;
            above = rest.above;
            is = ap (λ xs. b ∷ xs) rest.is;
            cut = rw (ne_eqb start mark apart, rest.cut) refl;
            shows = rw off.0 rest.shows;
          }
    ]

mark_above : (low : List HunkBlock) (mark : ℕ) → IsSome (bytes_above low (mark + 16)) → IsAtMark low (cut_above low mark) (bytes_above low (mark + 16))
mark_above [] mark there = absurd (search rules)
mark_above (zone ∷ blocks) mark there =
    let rest = mark_from zone.size blocks mark there in
    record {
      below = zone ∷ rest.below;
      block = rest.block;
      above = rest.above;
      is = ap (λ xs. zone ∷ xs) rest.is;
      cut = rw rest.cut refl;
      shows = rest.shows;
    }

-- The mark is one of the low hunk's.
pub mark_cuts : (low : List HunkBlock) (mark : ℕ) → IsSome (bytes_above low (mark + 16)) → cut_above low mark ≡ None → ⊥
mark_cuts low mark there none = (let at = mark_above low mark there in let clash : Some at.below ≡ None = sym at.cut ∙ none in absurd (cc))

last_same : {X : Type 0} (xs ys : List X) (x y : X) → xs ++ x ∷ [] ≡ ys ++ y ∷ [] → (xs ≡ ys) × (x ≡ y)
last_same [] [] x y e = (refl, (let same : x ≡ y = cc in same))
last_same [] (v ∷ vs) x y e = absurd (omega (arith, ap length e, length-append vs (y ∷ [])))
last_same (u ∷ us) [] x y e = absurd (omega (arith, ap length e, length-append us (x ∷ [])))
last_same (u ∷ us) (v ∷ vs) x y e =
    let here : u ≡ v = cc in
    let rest : us ++ x ∷ [] ≡ vs ++ y ∷ [] = cc in
    let more = last_same us vs x y rest in
    (ap (λ xs. u ∷ xs) more.0 ∙ ap (λ w. w ∷ vs) here, more.1)

mark_length : (low : List HunkBlock) (mark n : ℕ) (cut : IsCut low mark n) → (at : IsAtMark low (cut_above low mark) (bytes_above low (mark + 16))) → (take n low ≡ at.below) × (length at.below ≡ n)
mark_length low mark n cut at =
    let kept : Some (take n low) ≡ Some at.below = sym cut.kept ∙ at.cut in
    let below : take n low ≡ at.below = cc in
    (below, omega (arith, ap length below, length-take n low, ap length at.is, length-append at.below (at.block ∷ at.above)))

-- A block stands behind those that the mark keeps, and has the bytes.
pub mark_inside : (low : List HunkBlock) (mark n : ℕ) → IsSome (bytes_above low (mark + 16)) → IsCut low mark n → n < length low
mark_inside low mark n there cut =
    let at = mark_above low mark there in
    omega (arith, (mark_length low mark n cut at).1, ap length at.is, length-append at.below (at.block ∷ at.above))

pub mark_taken : (low front : List HunkBlock) (mark n : ℕ) (b : HunkBlock) → IsSome (bytes_above low (mark + 16)) → IsCut low mark n → take (n + 1) low ≡ front ++ b ∷ [] →
    (front ≡ take n low) × (bytes_above low (mark + 16) ≡ Some b.bytes)
mark_taken low front mark n b there cut ends =
    let at = mark_above low mark there in
    let below = mark_length low mark n cut at in
    let whole : take (n + 1) low ≡ at.below ++ at.block ∷ [] =
    ap (λ xs. take (n + 1) xs) at.is ∙ ap (λ k. take (k + 1) (at.below ++ at.block ∷ at.above)) (sym below.1) ∙ take-append-add at.below (at.block ∷ at.above) 1 in
    let same = last_same front at.below b at.block (sym ends ∙ whole) in
    (same.0 ∙ sym below.0, at.shows ∙ ap (λ (x : HunkBlock). Some x.bytes) (sym same.1))

-- A block that is given.
pub alloc_given : (m : Memory) (user size need top : ℕ) (name : List ℕ) → m.event_room ≡ 0 → IsGiven m user size need → top ≡ high_start m →
    Answers (cache_alloc m user size name) (Ok tt) (record m { cache = with_new m.cache (low_used m) top need user name })
alloc_given m user size need top name quiet given tops =
    let absent : is_some (block_of m.cache user) ≡ false = rw given.absent refl in
    rw given.is (cache_alloc_taken m user size top name quiet absent (λ none. absurd (omega (arith, given.some))) (omega (arith, given.is, given.fits)) tops)

-- The bytes go over to it, and the low hunk is cut.
pub move_given : (m : Memory) (mark user size need top : ℕ) (name source : List ℕ) (kept : List HunkBlock) → m.event_room ≡ 0 → low_bytes m (mark + 16) ≡ Some source → cut_above m.low mark ≡ Some kept →
    IsGiven m user size need → top ≡ high_start m →
    Answers (move_low_to_cache m mark user size name) (Ok tt) (record m { low = kept; cache = with_fitted m.cache (low_used m) top (with_contents (new_block 0 need user name) (take size source)) })
unfolding move_low_to_cache copy_low_to_cache with_cache_bytes low_bytes
move_given m mark user size need top name source kept quiet shows cut given tops =
    let allocated = alloc_given m user size need top name quiet given tops in
    let written = fitted-contents m.cache (new_block 0 need user name) (low_used m) top (take size source) (find-none user m.cache.blocks given.absent) in
    let c : Cache = with_fitted m.cache (low_used m) top (with_contents (new_block 0 need user name) (take size source)) in
    let freed = low_free_cut (record m { cache = c }) mark kept quiet cut in
    rw (allocated.answer, ← allocated.after, shows, written) (record { answer = refl; after = freed.after })

-- A block that is refused, where want of memory is no refusal.
module _ (m : Memory) (user size : ℕ) (name : List ℕ) (frugal : Bool) (left : Memory) where
  pub alloc_refused : (error : CacheError) → Gives (cache_alloc m user size name) true m (cache_answer (Err error)) m → Gives (cache_alloc m user size name) frugal left (cache_answer (Err error)) m
  alloc_refused (error.NoRoom asked room) given = given
  alloc_refused (error.Occupied other) given = given
  alloc_refused error.BadSize given = given
  alloc_refused error.OutOfMemory given = (let clash : true ≡ false = given.not_frugal in absurd (cc))

  -- the low hunk is cut all the same
  module _ (mark : ℕ) (kept : List HunkBlock) (quiet : m.event_room ≡ 0) (cut : cut_above m.low mark ≡ Some kept) where
    refused_by : (refusal : CacheRefusal) → Answers (cache_alloc m user size name) (Err refusal) m → Answers (move_low_to_cache m mark user size name) (Err refusal) (record m { low = kept })
    unfolding move_low_to_cache
    refused_by refusal given = rw (given.answer, ← given.after) (record { answer = refl; after = (low_free_cut m mark kept quiet cut).after })

    pub move_refused : (error : CacheError) → Gives (cache_alloc m user size name) true m (cache_answer (Err error)) m → Gives (move_low_to_cache m mark user size name) frugal left (cache_answer (Err error)) (record m { low = kept })
    move_refused (error.NoRoom asked room) given = refused_by _ given
    move_refused (error.Occupied other) given = refused_by _ given
    move_refused error.BadSize given = refused_by _ given
    move_refused error.OutOfMemory given = (let clash : true ≡ false = given.not_frugal in absurd (cc))

-- A block of so many bytes, filled with some, is one of the cache's.
pub filled_is : (need user : ℕ) (name bytes : List ℕ) → 48 ≤ need → IsMultiple 16 need → user < 2 ^ 32 → IsText name → IsCacheBlock (2 ^ 32) (with_contents (new_block 0 need user name) bytes)
filled_is need user name bytes least whole known text =
    let is = block_is (2 ^ 32) need user 0 name least whole known text in
    record { least = is.least; whole = is.whole; user = is.user; short = is.short; text = is.text; bytes = length-over (replicate (need - 40) 0) bytes ∙ is.bytes }
