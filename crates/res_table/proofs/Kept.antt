-- What the calls leave of the blocks that a table may name.
use Rattle.std.proofs.Common.{◌≡◌, ℕ, ◌<◌, List, [], ◌∷◌, eqb, ltb, Option, Result, Ok, Err, refl, sym, ap, ◌∙◌}
use Rattle.std.specs.Prelude.{Bool, is_some}
use Rattle.std.proofs.lemmas.Bool.{cond_both}
use Rattle.mem_model.specs.Answer.{Answered, Answers, Gives}
use Rattle.mem_model.specs.declared.answers.RoomError.{RoomError}
use Rattle.mem_model.specs.declared.answers.RoomError.TheVariants as room_error
use Rattle.mem_model.specs.Cache.{block_of}
use Rattle.mem_model.specs.Event.{CacheRefusal}
use Rattle.mem_model.specs.Keeps.{KeepsAll, held}
use Rattle.mem_model.specs.Laid.{Laid, IsText}
use Rattle.mem_model.specs.Memory.{Memory, room}
use Rattle.mem_model.specs.Operations.{build_cache, cache_alloc, check, copy_low_to_cache}
use Rattle.mem_model.specs.Places.{cache_need}
use Rattle.mem_model.proofs.CacheLaws.{beside-cache_alloc, low_bytes-beside_cache, users-cache_alloc}
use Rattle.mem_model.proofs.Keeping.{Keeps-all, Keeps-build_cache, Keeps-cache_alloc, Keeps-check, Keeps-copy_low_to_cache, Keeps-fewer, Keeps-more, is_excepted, none_excepted}
use Rattle.mem_model.proofs.Untouched.{left-with_event}
use Rattle.res_table.specs.declared.answers.Fault.{Fault}
use Rattle.res_table.specs.declared.kinds.Kind.{Kind}
use Rattle.res_table.specs.declared.kinds.Kind.TheVariants as kind
use Rattle.res_table.specs.Kept.{made_for, users_for}
use Rattle.res_table.specs.Refusals.{block_answer}

pub kept_same : (m n : Memory) → n ≡ m → KeepsAll [] m n
kept_same m n same = rw same (λ lows. Keeps-all lows [] m)

pub kept_more : {except : List ℕ} {a b c : Memory} → KeepsAll except a b → KeepsAll except b c → KeepsAll except a c
kept_more p q = λ lows. Keeps-more (p lows) (q lows)

pub kept_but : {a b : Memory} (except : List ℕ) → KeepsAll [] a b → KeepsAll except a b
kept_but except p = λ lows. Keeps-fewer (λ place in_table. in_table) (λ user is. absurd (none_excepted user is)) (p lows)

pub kept_for : {a b : Memory} (kind : Kind) (user : ℕ) → KeepsAll (users_for kind user) a b → KeepsAll (user ∷ []) a b
kept_for kind.Brush user p = kept_but (user ∷ []) p
kept_for kind.Alias user p = p
kept_for kind.Sprite user p = kept_but (user ∷ []) p
kept_for kind.Wad user p = kept_but (user ∷ []) p
kept_for kind.Sound user p = p

pub kept_none : {A E : Type 0} {a b : Memory} (result : Result A E) → KeepsAll [] a b → KeepsAll (made_for [] result) a b
kept_none (Ok made) p = p
kept_none (Err refusal) p = p

pub kept_check : (m n : Memory) (user : ℕ) (place : Option ℕ) → Laid m → Answers (check m user) place n → KeepsAll [] m n
kept_check m n user place laid gives =
    rw gives.after (λ lows. Keeps-check lows [] m user laid)

-- a refused allocation leaves the cache
cache-refused : (m : Memory) (user size : ℕ) (name : List ℕ) (e : CacheRefusal) → (cache_alloc m user size name).answer ≡ Err e
    → (cache_alloc m user size name).after.cache ≡ m.cache
unfolding cache_alloc
cache-refused m user size name e refused =
    let P = λ (given : Answered (Result (Unit {0}) CacheRefusal)). given.answer ≡ Err e → given.after.cache ≡ m.cache in
    left-with_event (λ (n : Memory). n.cache) (λ n events. refl) _ _ ∙ cond_both (is_some (block_of m.cache user)) _ _ P (λ occupied h. refl) (λ free.
    cond_both (eqb size 0) _ _ P (λ none h. refl) (λ some.
    cond_both (ltb (room m) (cache_need size)) _ _ P (λ short h. refl) (λ fits h. absurd (cc)))) refused

pub kept_refused : (m n : Memory) (user size : ℕ) (name : List ℕ) (e : CacheRefusal) → Answers (cache_alloc m user size name) (Err e) n → KeepsAll [] m n
kept_refused m n user size name e gives =
    let cache = cache-refused m user size name e gives.answer in
    rw gives.after (λ lows. record {
      low = λ place bytes in_table h. low_bytes-beside_cache m (cache_alloc m user size name).after place (beside-cache_alloc m user size name) ∙ h;
      users = λ other b not h. ap (λ c. held c other) (sym cache) ∙ h;
      count = users-cache_alloc m user size name;
    })

pub kept_no_block : (m n : Memory) (user size : ℕ) (name : List ℕ) (frugal : Bool) (e : RoomError) → Gives (cache_alloc m user size name) frugal m (block_answer (Err e)) n → KeepsAll [] m n
kept_no_block m n user size name frugal (room_error.NoRoom asked left) ends = kept_refused m n user size name _ ends
kept_no_block m n user size name frugal room_error.OutOfMemory ends = kept_same m n ends.after

pub kept_built : (m mid n : Memory) (user size len : ℕ) (name : List ℕ) (image_of : List ℕ → Result (List ℕ) Fault) → Laid m → user < m.users → IsText name
    → Answers (cache_alloc m user size name) (Ok tt) mid → Answers (build_cache mid user len image_of) tt n → KeepsAll (user ∷ []) m n
kept_built m mid n user size len name image_of laid known text gives builds =
    let first : KeepsAll (user ∷ []) m mid = rw gives.after (λ lows. Keeps-cache_alloc lows (user ∷ []) m user size name laid known text (is_excepted user)) in
    let second : KeepsAll (user ∷ []) mid n = rw builds.after (λ lows. Keeps-build_cache lows (user ∷ []) mid user len image_of (is_excepted user)) in
    kept_more first second

pub kept_copied : (m mid n : Memory) (user low size : ℕ) (name : List ℕ) → Laid m → user < m.users → IsText name
    → Answers (cache_alloc m user size name) (Ok tt) mid → Answers (copy_low_to_cache mid low user size) tt n → KeepsAll (user ∷ []) m n
kept_copied m mid n user low size name laid known text gives copies =
    let first : KeepsAll (user ∷ []) m mid = rw gives.after (λ lows. Keeps-cache_alloc lows (user ∷ []) m user size name laid known text (is_excepted user)) in
    let second : KeepsAll (user ∷ []) mid n = rw copies.after (λ lows. Keeps-copy_low_to_cache lows (user ∷ []) mid low user size (is_excepted user)) in
    kept_more first second

pub ruleset kept_laws = (kept_same)
