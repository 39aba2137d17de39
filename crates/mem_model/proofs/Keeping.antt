-- What each operation leaves of the blocks that a table names.
use Rattle.std.proofs.Common.{Bool, ◌≡◌, ◌≢◌, ℕ, zero, suc, ◌+◌, ◌≤◌, ◌<◌, List, [], ◌∷◌, Option, Some, None, Result, Ok, length, refl, sym, ap, subst, ◌∙◌, arith}
use Rattle.std.specs.Prelude.{All, Contains, IsSome, slice_index_or}
use Rattle.std.specs.Option.{option_map}
use Rattle.std.proofs.lemmas.List.Elements.{All-contains, Contains-get_or}
use Rattle.mem_model.specs.Memory.{Memory, low_used}
use Rattle.mem_model.specs.Hunk.{low_bytes, with_low_bytes, with_temp_bytes, with_temp_bytes_of, without_temp}
use Rattle.mem_model.specs.Zone.{with_zone_bytes}
use Rattle.mem_model.specs.Cache.{block_of, peek_bytes}
use Rattle.mem_model.specs.Answer.{Answered, Answers, Gives}
use Rattle.mem_model.specs.Operations.{low_alloc, low_free, high_alloc, high_free, high_mark, temp_alloc, z_alloc, z_free, cache_alloc, check, cache_free, flush, build_low, build_cache, copy_low_to_cache, move_low_to_cache}
use Rattle.mem_model.specs.Laid.{Laid, IsText}
use Rattle.mem_model.specs.Keeps.{AreLow, Keeps, KeepsUsers, beside_zone, held, unplaced}
use Rattle.mem_model.proofs.CacheImages.{Laid-copy_low_to_cache, beside-build_cache, beside-copy_low_to_cache, keeps-build_cache, keeps-copy_low_to_cache}
use Rattle.mem_model.proofs.CacheLaws.{Laid-cache_alloc, Laid-low_free, moved_by, after_gives, beside-cache_alloc, beside-cache_free, beside-check, beside-flush, beside-high_alloc, beside-high_free, beside-high_mark, beside-temp_alloc, beside-without_temp, beside-z_alloc, beside-z_free, block_shown, keeps-build_low, keeps-cache_alloc, keeps-cache_free, keeps-check, keeps-flush, keeps-high_alloc, keeps-high_free, keeps-high_mark, keeps-low_alloc, keeps-low_free, keeps-temp_alloc, keeps-without_temp, keeps_users_same, low_bytes-beside_cache, low_bytes-beside_high, low_bytes-beside_zone, peek_bytes-held, users-build_cache, users-build_low, users-cache_alloc, users-cache_free, users-check, users-copy_low_to_cache, users-flush, users-high_alloc, users-high_free, users-high_mark, users-low_alloc, users-low_free, users-temp_alloc, users-with_low_bytes, users-with_temp_bytes}
use Rattle.mem_model.proofs.Laws.{low_bytes-build_low, low_bytes-elsewhere, low_bytes-inside, low_bytes-low_alloc, low_bytes-low_free, low_place_apart}

-- The relation goes from step to step, and holds of fewer blocks.
pub Keeps-all : (lows except : List ℕ) (m : Memory) → Keeps lows except m m
Keeps-all lows except m = record { low = λ place bytes in_table h. h; users = λ user b other h. h; count = refl }

pub Keeps-more : {lows except : List ℕ} {a b c : Memory} → Keeps lows except a b → Keeps lows except b c → Keeps lows except a c
Keeps-more p q = record {
  low = λ place bytes in_table h. q.low place bytes in_table (p.low place bytes in_table h);
  users = λ user x other h. p.users user x other (q.users user x other h);
  count = q.count ∙ p.count;
}

pub Keeps-fewer : {lows except fewer more : List ℕ} {m n : Memory} → ((place : ℕ) → Contains fewer place → Contains lows place) → ((user : ℕ) → Contains except user → Contains more user) → Keeps lows except m n → Keeps fewer more m n
Keeps-fewer low users p = record {
  low = λ place bytes in_table h. p.low place bytes (low place in_table) h;
  users = λ user b other h. p.users user b (λ is. other (users user is)) h;
  count = p.count;
}

-- the same of a call that answers, and of one that may run out of memory
pub Keeps-answer : {A : Type 0} {lows except : List ℕ} {m n : Memory} {given : Answered A} {reply : A} → Answers given reply n → Keeps lows except m given.after → Keeps lows except m n
Keeps-answer {lows = lows} {except = except} {m = m} a k = subst (Keeps lows except m) (sym a.after) k

pub Keeps-gives : {A : Type 0} {lows except : List ℕ} {m n left : Memory} (given : Answered A) (frugal : Bool) (reply : Option A) → Gives given frugal left reply n → Keeps lows except m given.after → Keeps lows except m left → Keeps lows except m n
Keeps-gives {lows = lows} {except = except} {m = m} {n = n} {left = left} given frugal reply g p q = after_gives (Keeps lows except m) given frugal left n reply g p q

none_but : (user other : ℕ) (except : List ℕ) → Contains except user → ¬ Contains except other → other ≢ user
none_but user other except there not e = not (subst (Contains except) (sym e) there)

not_in : (place other : ℕ) (lows : List ℕ) → ¬ Contains lows place → Contains lows other → other ≢ place
not_in place other lows not there e = not (subst (Contains lows) e there)

-- where no low block's bytes change
by_low : (lows except : List ℕ) (m n : Memory) → ((place : ℕ) → low_bytes n place ≡ low_bytes m place) → KeepsUsers None m n → n.users ≡ m.users → Keeps lows except m n
by_low lows except m n same kept count = record {
  low = λ place bytes in_table h. same place ∙ h;
  users = λ user b other h. kept.others user b tt h;
  count = count;
}

-- the same where one user's block changes, too
by_user : (lows except : List ℕ) (user : ℕ) (m n : Memory) → Contains except user → ((place : ℕ) → low_bytes n place ≡ low_bytes m place) → KeepsUsers (Some user) m n → n.users ≡ m.users → Keeps lows except m n
by_user lows except user m n is same kept count = record {
  low = λ place bytes in_table h. same place ∙ h;
  users = λ other b not h. kept.others other b (none_but user other except is not) h;
  count = count;
}

-- The low hunk's: a new block, a freeing down to a mark that is above each of the table's blocks, and other blocks built.
pub Keeps-low_alloc : (lows except : List ℕ) (m : Memory) (size : ℕ) (name : List ℕ) → Laid m → IsText name → Keeps lows except m (low_alloc m size name).after
Keeps-low_alloc lows except m size name laid text = record {
  low = λ place bytes in_table h. low_bytes-low_alloc m size name place bytes h;
  users = λ user b other h. (keeps-low_alloc m size name laid text).others user b tt h;
  count = users-low_alloc m size name;
}

pub Keeps-low_free : (lows except : List ℕ) (m : Memory) (mark : ℕ) → Laid m → All (λ place. place ≤ mark) lows → Keeps lows except m (low_free m mark).after
Keeps-low_free lows except m mark laid below = record {
  low = λ place bytes in_table h. low_bytes-low_free m mark place bytes h (All-contains (λ p. p ≤ mark) lows place below in_table);
  users = λ user b other h. (keeps-low_free m mark laid).others user b tt h;
  count = users-low_free m mark;
}

pub Keeps-build_low : {F : Type 0} (lows except : List ℕ) (m : Memory) (place len : ℕ) (image_of : List ℕ → Result (List ℕ) F) → ¬ Contains lows place → Keeps lows except m (build_low m place len image_of).after
Keeps-build_low lows except m place len image_of not = record {
  low = λ other bytes in_table h. low_bytes-build_low m place other len image_of (not_in place other lows not in_table) ∙ h;
  users = λ user b other h. (keeps-build_low m place len image_of).others user b tt h;
  count = users-build_low m place len image_of;
}

cache-with_low_bytes : (m : Memory) (place : ℕ) (bytes : List ℕ) → (with_low_bytes m place bytes).cache ≡ m.cache
unfolding with_low_bytes
cache-with_low_bytes m place bytes = refl

pub Keeps-with_low_bytes : (lows except : List ℕ) (m : Memory) (place : ℕ) (bytes : List ℕ) → ¬ Contains lows place → Keeps lows except m (with_low_bytes m place bytes)
Keeps-with_low_bytes lows except m place bytes not = record {
  low = λ other old in_table h. low_bytes-elsewhere m place other bytes (not_in place other lows not in_table) ∙ h;
  users = λ user b other h. (keeps_users_same None m (with_low_bytes m place bytes) (cache-with_low_bytes m place bytes)).others user b tt h;
  count = users-with_low_bytes m place bytes;
}

-- The high hunk's.
pub Keeps-without_temp : (lows except : List ℕ) (m : Memory) → Laid m → Keeps lows except m (without_temp m)
Keeps-without_temp lows except m laid = by_low lows except m _ (λ place. low_bytes-beside_high m _ place (beside-without_temp m)) (keeps-without_temp m laid) (ap (λ (n : Memory). n.users) (beside-without_temp m))

pub Keeps-high_alloc : (lows except : List ℕ) (m : Memory) (size : ℕ) (name : List ℕ) → Laid m → IsText name → Keeps lows except m (high_alloc m size name).after
Keeps-high_alloc lows except m size name laid text = by_low lows except m _ (λ place. low_bytes-beside_high m _ place (beside-high_alloc m size name)) (keeps-high_alloc m size name laid text) (users-high_alloc m size name)

pub Keeps-high_mark : (lows except : List ℕ) (m : Memory) → Laid m → Keeps lows except m (high_mark m).after
Keeps-high_mark lows except m laid = by_low lows except m _ (λ place. low_bytes-beside_high m _ place (beside-high_mark m)) (keeps-high_mark m laid) (users-high_mark m)

pub Keeps-high_free : (lows except : List ℕ) (m : Memory) (mark : ℕ) → Laid m → Keeps lows except m (high_free m mark).after
Keeps-high_free lows except m mark laid = by_low lows except m _ (λ place. low_bytes-beside_high m _ place (beside-high_free m mark)) (keeps-high_free m mark laid) (users-high_free m mark)

pub Keeps-temp_alloc : (lows except : List ℕ) (m : Memory) (size : ℕ) → Laid m → Keeps lows except m (temp_alloc m size).after
Keeps-temp_alloc lows except m size laid = by_low lows except m _ (λ place. low_bytes-beside_high m _ place (beside-temp_alloc m size)) (keeps-temp_alloc m size laid) (users-temp_alloc m size)

same-with_temp_bytes : (m : Memory) (bytes : List ℕ) (temp : Option ℕ) → ((with_temp_bytes_of m bytes temp).cache ≡ m.cache) × ((place : ℕ) → low_bytes (with_temp_bytes_of m bytes temp) place ≡ low_bytes m place)
unfolding low_bytes
same-with_temp_bytes m bytes None = (refl, λ place. refl)
same-with_temp_bytes m bytes (Some mark) = (refl, λ place. refl)

pub Keeps-with_temp_bytes : (lows except : List ℕ) (m : Memory) (bytes : List ℕ) → Keeps lows except m (with_temp_bytes m bytes)
unfolding with_temp_bytes
Keeps-with_temp_bytes lows except m bytes = (let same = same-with_temp_bytes m bytes m.temp in by_low lows except m _ same.1 (keeps_users_same None m _ same.0) (users-with_temp_bytes m bytes))

-- The zone's: whatever is done to its blocks.
pub Keeps-beside_zone : (lows except : List ℕ) (m n : Memory) → beside_zone n ≡ beside_zone m → Keeps lows except m n
Keeps-beside_zone lows except m n same =
    by_low lows except m n (λ place. low_bytes-beside_zone m n place same) (keeps_users_same None m n (ap (λ (x : Memory). x.cache) same)) (ap (λ (x : Memory). x.users) same)

pub Keeps-z_alloc : (lows except : List ℕ) (m : Memory) (size : ℕ) → Keeps lows except m (z_alloc m size).after
Keeps-z_alloc lows except m size = Keeps-beside_zone lows except m _ (beside-z_alloc m size)

pub Keeps-z_free : (lows except : List ℕ) (m : Memory) (place : ℕ) → Keeps lows except m (z_free m place).after
Keeps-z_free lows except m place = Keeps-beside_zone lows except m _ (beside-z_free m place)

pub beside-with_zone_bytes : (m : Memory) (place : ℕ) (bytes : List ℕ) → beside_zone (with_zone_bytes m place bytes) ≡ beside_zone m
unfolding with_zone_bytes
beside-with_zone_bytes m place bytes = refl

pub Keeps-with_zone_bytes : (lows except : List ℕ) (m : Memory) (place : ℕ) (bytes : List ℕ) → Keeps lows except m (with_zone_bytes m place bytes)
Keeps-with_zone_bytes lows except m place bytes = Keeps-beside_zone lows except m _ (beside-with_zone_bytes m place bytes)

-- The cache's: a new block and what is built in a block are of a user that is excepted.
pub Keeps-cache_alloc : (lows except : List ℕ) (m : Memory) (user size : ℕ) (name : List ℕ) → Laid m → user < m.users → IsText name → Contains except user → Keeps lows except m (cache_alloc m user size name).after
Keeps-cache_alloc lows except m user size name laid known text is =
    by_user lows except user m _ is (λ place. low_bytes-beside_cache m _ place (beside-cache_alloc m user size name)) (keeps-cache_alloc m user size name laid known text) (users-cache_alloc m user size name)

pub Keeps-check : (lows except : List ℕ) (m : Memory) (user : ℕ) → Laid m → Keeps lows except m (check m user).after
Keeps-check lows except m user laid = by_low lows except m _ (λ place. low_bytes-beside_cache m _ place (beside-check m user)) (keeps-check m user laid) (users-check m user)

pub Keeps-cache_free : (lows except : List ℕ) (m : Memory) (user : ℕ) → Laid m → Keeps lows except m (cache_free m user).after
Keeps-cache_free lows except m user laid = by_low lows except m _ (λ place. low_bytes-beside_cache m _ place (beside-cache_free m user)) (keeps-cache_free m user laid) (users-cache_free m user)

pub Keeps-flush : (lows except : List ℕ) (m : Memory) → Laid m → Keeps lows except m (flush m).after
Keeps-flush lows except m laid = by_low lows except m _ (λ place. low_bytes-beside_cache m _ place (beside-flush m)) (keeps-flush m laid) (users-flush m)

pub Keeps-build_cache : {F : Type 0} (lows except : List ℕ) (m : Memory) (user len : ℕ) (image_of : List ℕ → Result (List ℕ) F) → Contains except user → Keeps lows except m (build_cache m user len image_of).after
Keeps-build_cache lows except m user len image_of is =
    by_user lows except user m _ is (λ place. low_bytes-beside_cache m _ place (beside-build_cache m user len image_of)) (keeps-build_cache m user len image_of) (users-build_cache m user len image_of)

pub Keeps-copy_low_to_cache : (lows except : List ℕ) (m : Memory) (place user size : ℕ) → Contains except user → Keeps lows except m (copy_low_to_cache m place user size).after
Keeps-copy_low_to_cache lows except m place user size is =
    by_user lows except user m _ is (λ other. low_bytes-beside_cache m _ other (beside-copy_low_to_cache m place user size)) (keeps-copy_low_to_cache m place user size) (users-copy_low_to_cache m place user size)

-- A moving is of a user that is excepted, and of a low block above each of the table's.
pub Keeps-move_low_to_cache : (lows except : List ℕ) (m : Memory) (mark user size : ℕ) (name : List ℕ) → Laid m → user < m.users → IsText name → Contains except user → All (λ place. place ≤ mark) lows →
    Keeps lows except m (move_low_to_cache m mark user size name).after
Keeps-move_low_to_cache lows except m mark user size name laid known text is below =
    (moved_by (λ n. Laid n × Keeps lows except m n) m mark user size name
    (Laid-cache_alloc m user size name laid known text, Keeps-cache_alloc lows except m user size name laid known text is)
    (λ n p. (Laid-copy_low_to_cache n (mark + 16) user size p.0, Keeps-more p.1 (Keeps-copy_low_to_cache lows except n (mark + 16) user size is)))
    (λ n p. (Laid-low_free n mark p.0, Keeps-more p.1 (Keeps-low_free lows except n mark p.0 below)))).1

-- Who is excepted: nobody, or one user.
pub none_excepted : (user : ℕ) → ¬ Contains [] user
none_excepted user is = absurd (omega (arith, is.1))

pub is_excepted : (user : ℕ) → Contains (user ∷ []) user
is_excepted user = (0, omega arith, refl)

pub not_excepted : (user other : ℕ) → other ≢ user → ¬ Contains (user ∷ []) other
not_excepted user other apart is = at_first is.0 is.1 is.2 where
  at_first : (k : ℕ) → k < length (user ∷ []) → slice_index_or (user ∷ []) k other ≡ other → ⊥
  at_first zero inside e = apart (sym e)
  at_first (suc k) inside e = absurd (omega arith)

-- What the block of a user that is not excepted shows after is what it showed before.
pub peek_bytes-Keeps : (lows except : List ℕ) (before after : Memory) (user : ℕ) (bytes : List ℕ) → Keeps lows except before after → ¬ Contains except user → peek_bytes after.cache user ≡ Some bytes → peek_bytes before.cache user ≡ Some bytes
unfolding held peek_bytes
peek_bytes-Keeps lows except before after user bytes kept other h =
    let b = block_shown (block_of after.cache user) bytes h in
    peek_bytes-held before.cache user (unplaced b.0) (kept.users user (unplaced b.0) other (ap (option_map unplaced) b.1)) ∙ ap Some b.2

-- The table's low blocks are there still, a new block's place is none of theirs, and they end by where the low hunk does.
some_of : (o : Option (List ℕ)) → IsSome o → (bytes : List ℕ) × (o ≡ Some bytes)
some_of None h = absurd (cc)
some_of (Some bytes) h = (bytes, refl)

pub AreLow-Keeps : (lows except : List ℕ) (before after : Memory) → Keeps lows except before after → AreLow before lows → AreLow after lows
AreLow-Keeps lows except before after kept low = λ k d inside.
    let place = slice_index_or lows k d in
    let bytes = some_of (low_bytes before place) (low k d inside) in
    rw (kept.low place bytes.0 (Contains-get_or lows k d inside) bytes.1) refl

pub low_new-apart : (m : Memory) (size place : ℕ) (name lows : List ℕ) → Laid m → (low_alloc m size name).answer ≡ Ok place → AreLow m lows → ¬ Contains lows place
low_new-apart m size place name lows laid new low is =
    let bytes = some_of (low_bytes m place) (All-contains (λ p. IsSome (low_bytes m p)) lows place low is) in
    low_place_apart m size place place name bytes.0 laid new bytes.1 refl

pub low-below_end : (m : Memory) (lows : List ℕ) → Laid m → AreLow m lows → All (λ place. place ≤ low_used m) lows
low-below_end m lows laid low = λ k d inside.
    let place = slice_index_or lows k d in
    let bytes = some_of (low_bytes m place) (low k d inside) in
    omega (arith, low_bytes-inside m place bytes.0 laid bytes.1)

-- for callers: `#[tactic(auto, using(mem_model::proofs::Keeping::keeping_laws))]`
pub ruleset keeping_laws = (Keeps-all, Keeps-more, Keeps-answer, Keeps-gives, Keeps-low_alloc, Keeps-low_free, Keeps-build_low, Keeps-with_low_bytes, Keeps-without_temp, Keeps-high_alloc, Keeps-high_mark, Keeps-high_free, Keeps-temp_alloc, Keeps-with_temp_bytes, Keeps-beside_zone, Keeps-z_alloc, Keeps-z_free, Keeps-with_zone_bytes, Keeps-cache_alloc, Keeps-check, Keeps-cache_free, Keeps-flush, Keeps-build_cache, Keeps-copy_low_to_cache, Keeps-move_low_to_cache, none_excepted, is_excepted, not_excepted, peek_bytes-Keeps, AreLow-Keeps, low_new-apart, low-below_end)
