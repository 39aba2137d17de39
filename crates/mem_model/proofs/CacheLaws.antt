-- What each operation leaves of the rest of a memory, and that it keeps a memory laid out, whatever the cache has.
use Rattle.std.proofs.Common.{◌≡◌, ◌≢◌, ℕ, suc, ◌+◌, ◌-◌, ◌<◌, ◌≤◌, Bool, true, false, List, [], ◌∷◌, ◌++◌, Option, Some, None, Result, Ok, Err, length, nat_eq, not, ltb, eqb, refl, sym, ap, subst, ◌∙◌, inl, inr, arith, take, replicate, if◌then◌else◌, is_ok, length-take, rules}
use Rattle.std.specs.Prelude.{is_some, codes}
use Rattle.std.specs.Option.{option_map}
use Rattle.std.proofs.lemmas.List.{length-replicate}
use Rattle.std.proofs.lemmas.List.Elements.{All-take}
use Rattle.std.proofs.lemmas.Bool.{cond_both, ltb-false, eqb-false, eq-eqb, ne_eqb}
use Rattle.std.proofs.lemmas.Bool.Decides.{eqb_tells}
use Rattle.mem_model.specs.Event.{Event, Shortage, FreeRefusal, CacheRefusal, CacheRefusal.Occupied, CacheRefusal.BadSize, CacheRefusal.NoRoom}
use Rattle.mem_model.specs.Blocks.{HunkBlock, CacheBlock}
use Rattle.mem_model.specs.Memory.{Memory, Cache, size_of, low_used, high_used, high_start, room}
use Rattle.mem_model.specs.Places.{hunk_need, cache_need, round_up}
use Rattle.mem_model.specs.Hunk.{hunk_block, with_low, with_high, without_temp, temp_freed, cut_from, cut_above, low_bytes, with_low_bytes, bytes_above, temp_bytes, temp_bytes_of, with_temp_bytes, with_temp_bytes_of}
use Rattle.mem_model.specs.Zone.{zone_bytes, used_bytes_from}
use Rattle.mem_model.specs.Cache.{pushed_up, pushed_down, peek_bytes, without, touched, block_of, with_new, new_block, without_user}
use Rattle.mem_model.specs.Answer.{Answered, Gives, with_event}
use Rattle.mem_model.specs.Operations.{low_alloc, low_free, low_cut, high_taken, high_alloc, high_free, high_cut, high_mark, temp_alloc, z_alloc, z_free, cache_alloc, check, cache_free, flush, build_low, build_cache, copied_if, copy_low_to_cache, move_low_to_cache, shortage}
use Rattle.mem_model.specs.Images.{HasBytes, front_of}
use Rattle.mem_model.specs.Laid.{Laid, IsText, IsHunkBlock, IsCache, IsCacheBlock, count_in, users_of}
use Rattle.mem_model.specs.Keeps.{held, unplaced, KeepsUsers, beside_low, beside_high, beside_zone, beside_cache}
use Rattle.mem_model.proofs.CacheBlocks.{find-none, find-some, count-gone, count-stays}
use Rattle.mem_model.proofs.CacheImages.{Laid-build_cache, Laid-copy_low_to_cache, beside-build_cache, beside-copy_low_to_cache, front-cache_built, front-copied, has-build_cache, has-copy_low_to_cache, held-build_cache, held-copy_low_to_cache, keeps-build_cache, keeps-copy_low_to_cache, peek_bytes-build_cache, peek_bytes-built, peek_bytes-copied, peek_bytes-copy_low_to_cache, peek_place-build_cache, peek_place-copy_low_to_cache, recency-build_cache, recency-copy_low_to_cache}
use Rattle.mem_model.proofs.CacheMoves.{KeepsHeld, later-pushed_up, later-pushed_down, later-without}
use Rattle.mem_model.proofs.CacheNew.{grown-with_new, IsGrown}
use Rattle.mem_model.proofs.Laws.{has_bytes, image_there}
use Rattle.mem_model.proofs.Laying.{size_of-append, all-append, low_blocks-append, first_size-append, IsHunkBlock-hunk_block, Laid-with_cache, Laid-with_fewer}
use Rattle.mem_model.proofs.HighLaying.{Laid-with_fewer_high, Laid-with_temp, temp-without_temp}
use Rattle.mem_model.proofs.Newest.{temp_bytes-small}
use Rattle.mem_model.proofs.Untouched.{after_image, left-with_event, left-either, left-z_alloc, left-z_free}
use Rattle.mem_model.proofs.ZoneLaying.{Laid-with_event}

-- KeepsUsers is a relation that goes from step to step.
pub keeps_users_all : (new : Option ℕ) (m : Memory) → KeepsUsers new m m
keeps_users_all new m = record { others = λ user b is h. h }

pub keeps_users_more : {new : Option ℕ} {a b c : Memory} → KeepsUsers new a b → KeepsUsers new b c → KeepsUsers new a c
keeps_users_more p q = record { others = λ user x is h. p.others user x is (q.others user x is h) }

keeps_by : (new : Option ℕ) (m n : Memory) → KeepsHeld m.cache n.cache → KeepsUsers new m n
keeps_by new m n p = record { others = λ user b is h. p.holds user b h }

-- where the cache is the same
pub keeps_users_same : (new : Option ℕ) (m n : Memory) → n.cache ≡ m.cache → KeepsUsers new m n
keeps_users_same new m n same = record { others = λ user b is h. ap (λ c. held c user) (sym same) ∙ h }

cache-with_event : (m : Memory) (event : Event) → (with_event m event).cache ≡ m.cache
cache-with_event m event = left-with_event (λ n. n.cache) (λ n events. refl) m event

-- What an operation does: it keeps what users hold, and a memory laid out.
record IsSound (new : Option ℕ) (before after : Memory) : Type 0 where
  laid : Laid after
  keeps : KeepsUsers new before after

sound-noted : {new : Option ℕ} {m n : Memory} (event : Event) → IsSound new m n → IsSound new m (with_event n event)
sound-noted {new} {m} {n} event p = record {
  laid = Laid-with_event n event p.laid;
  keeps = keeps_users_more p.keeps (keeps_users_same new n _ (cache-with_event n event));
}

sound-stays : (new : Option ℕ) (m : Memory) → Laid m → IsSound new m m
sound-stays new m laid = record { laid = laid; keeps = keeps_users_all new m }

-- a memory with one low block more
sound-with_low : (m : Memory) (b : HunkBlock) → Laid m → IsHunkBlock b → b.size ≤ room m → IsSound None m (with_low m b)
unfolding with_low
sound-with_low m b laid block fits =
    let later = later-pushed_up m.cache m.users (low_used m) (low_used m + b.size) (high_start m) laid.cache (omega (arith, laid.inside)) in
    let ends : low_used m + b.size ≡ size_of (m.low ++ b ∷ []) = omega (arith, size_of-append m.low (b ∷ [])) in
    record {
      laid = record {
        small = laid.small;
        inside = omega (arith, size_of-append m.low (b ∷ []), laid.inside);
        low = low_blocks-append m.low b laid.low block;
        high = laid.high;
        temp = laid.temp;
        zone = rw (first_size-append m.low b laid.low) laid.zone;
        cache = subst (λ bottom. IsCache (pushed_up m.cache (low_used m + b.size) (high_start m)) m.users bottom (high_start m)) ends later.cache;
        events = laid.events;
      };
      keeps = keeps_by None m _ later.keeps;
    }

sound-low_alloc : (m : Memory) (size : ℕ) (name : List ℕ) → Laid m → IsText name → IsSound None m (low_alloc m size name).after
unfolding low_alloc
sound-low_alloc m size name laid text =
    sound-noted _ (cond_both (ltb (room m) (hunk_need size)) (record { answer = Err (shortage m (hunk_need size)); after = m }) (record { answer = Ok (low_used m + 16); after = with_low m (hunk_block (hunk_need size) name) })
    (λ (given : Answered (Result ℕ Shortage)). IsSound None m given.after)
    (λ short. sound-stays None m laid)
    (λ fits. sound-with_low m (hunk_block (hunk_need size) name) laid (IsHunkBlock-hunk_block size name text) (ltb-false (room m) (hunk_need size) fits)))

-- a memory with one high block more, where no temporary block is active
sound-with_high : (m : Memory) (b : HunkBlock) → Laid m → IsHunkBlock b → b.size ≤ room m → m.temp ≡ None → IsSound None m (with_high m b)
unfolding with_high
sound-with_high m b laid block fits none =
    let later = later-pushed_down m.cache m.users (low_used m) (high_start m) (high_start m - b.size) m.size laid.cache (omega (arith, laid.inside)) (omega arith) (omega arith) in
    let starts : high_start m - b.size ≡ m.size - size_of (m.high ++ b ∷ []) = omega (arith, size_of-append m.high (b ∷ [])) in
    record {
      laid = record {
        small = laid.small;
        inside = omega (arith, size_of-append m.high (b ∷ []), laid.inside);
        low = laid.low;
        high = all-append IsHunkBlock m.high (b ∷ []) laid.high (block, tt);
        temp = rw none tt;
        zone = laid.zone;
        cache = subst (λ top. IsCache (pushed_down m.cache m.size (high_start m - b.size)) m.users (low_used m) top) starts later.cache;
        events = laid.events;
      };
      keeps = keeps_by None m _ later.keeps;
    }

sound-high_taken : (m : Memory) (size : ℕ) (name : List ℕ) → Laid m → IsText name → m.temp ≡ None → IsSound None m (high_taken m size name).after
unfolding high_taken
sound-high_taken m size name laid text none =
    cond_both (ltb (room m) (hunk_need size)) (record { answer = Err (shortage m (hunk_need size)); after = m }) (record { answer = Ok (high_start m - hunk_need size + 16); after = with_high m (hunk_block (hunk_need size) name) })
    (λ (given : Answered (Result ℕ Shortage)). IsSound None m given.after)
    (λ short. sound-stays None m laid)
    (λ fits. sound-with_high m (hunk_block (hunk_need size) name) laid (IsHunkBlock-hunk_block size name text) (ltb-false (room m) (hunk_need size) fits) none)

sound-temp_freed : (m : Memory) (temp : Option ℕ) → Laid m → m.temp ≡ temp → IsSound None m (temp_freed m temp)
sound-temp_freed m None laid e = sound-stays None m laid
sound-temp_freed m (Some mark) laid e = record { laid = Laid-with_fewer_high m (length m.high - 1) laid; keeps = keeps_users_same None m _ refl }

sound-without_temp : (m : Memory) → Laid m → IsSound None m (without_temp m)
unfolding without_temp
sound-without_temp m laid = sound-temp_freed m m.temp laid refl

sound-high_alloc : (m : Memory) (size : ℕ) (name : List ℕ) → Laid m → IsText name → IsSound None m (high_alloc m size name).after
unfolding high_alloc
sound-high_alloc m size name laid text =
    let base = sound-without_temp m laid in
    let given = sound-high_taken (without_temp m) size name base.laid text (temp-without_temp m) in
    sound-noted _ (record { laid = given.laid; keeps = keeps_users_more base.keeps given.keeps })

marked : (m : Memory) (b : HunkBlock) → Laid (with_high m b) → Laid (record (with_high m b) { temp = Some (high_used m) })
unfolding with_high
marked m b p = Laid-with_temp _ m.high b (high_used m) p refl refl

-- a temporary block is the newest high one
marked_or_none : (m : Memory) (size : ℕ) (name : List ℕ) → Laid (high_taken m size name).after → m.temp ≡ None →
    Laid (record (high_taken m size name).after { temp = if is_ok (high_taken m size name).answer then Some (high_used m) else None })
unfolding high_taken
marked_or_none m size name laid none =
    cond_both (ltb (room m) (hunk_need size)) (record { answer = Err (shortage m (hunk_need size)); after = m }) (record { answer = Ok (high_start m - hunk_need size + 16); after = with_high m (hunk_block (hunk_need size) name) })
    (λ (given : Answered (Result ℕ Shortage)). Laid given.after → Laid (record given.after { temp = if is_ok given.answer then Some (high_used m) else None }))
    (λ short p. subst (λ temp. Laid (record m { temp = temp })) none p)
    (λ fits p. marked m (hunk_block (hunk_need size) name) p) laid

text-temp : IsText (codes "temp")
text-temp = search rules

sound-temp_alloc : (m : Memory) (size : ℕ) → Laid m → IsSound None m (temp_alloc m size).after
unfolding temp_alloc
sound-temp_alloc m size laid =
    let base = sound-without_temp m laid in
    let given = sound-high_taken (without_temp m) (round_up size 16) (codes "temp") base.laid text-temp (temp-without_temp m) in
    sound-noted _ (record {
      laid = marked_or_none (without_temp m) (round_up size 16) (codes "temp") given.laid (temp-without_temp m);
      keeps = keeps_users_more base.keeps (keeps_users_more given.keeps (keeps_users_same None _ _ refl));
    })

-- What a mark keeps is the front.
mapped : {X Y : Type 0} (f : X → Y) (o : Option X) (y : Y) → option_map f o ≡ Some y → (x : X) × (o ≡ Some x) × (y ≡ f x)
mapped f None y h = absurd (cc)
mapped f (Some x) y h = (x, refl, cc)

cut_front : (start : ℕ) (blocks kept : List HunkBlock) (mark : ℕ) → cut_from start blocks mark ≡ Some kept → (n : ℕ) × (kept ≡ take n blocks)
cut_front start [] kept mark h =
    cond_both (eqb start mark) (Some []) None (λ o. o ≡ Some kept → (n : ℕ) × (kept ≡ take n [])) (λ e g. (0, cc)) (λ e g. absurd (cc)) h
cut_front start (b ∷ bs) kept mark h =
    cond_both (eqb start mark) (Some []) (option_map (λ rest. b ∷ rest) (cut_from (start + b.size) bs mark)) (λ o. o ≡ Some kept → (n : ℕ) × (kept ≡ take n (b ∷ bs)))
    (λ e g. (0, cc))
    (λ e g. (let rest = mapped (λ rest. b ∷ rest) (cut_from (start + b.size) bs mark) kept g in let front = cut_front (start + b.size) bs rest.0 mark rest.1 in (suc front.0, rest.2 ∙ ap (λ xs. b ∷ xs) front.1)))
    h

cut_low : (low kept : List HunkBlock) (mark : ℕ) → cut_above low mark ≡ Some kept → (n : ℕ) × (kept ≡ take (suc n) low)
cut_low [] kept mark h = absurd (cc)
cut_low (zone ∷ blocks) kept mark h =
    let rest = mapped (λ rest. zone ∷ rest) (cut_from zone.size blocks mark) kept h in
    let front = cut_front zone.size blocks rest.0 mark rest.1 in
    (front.0, rest.2 ∙ ap (λ xs. zone ∷ xs) front.1)

sound-low_cut : (m : Memory) (mark : ℕ) (o : Option (List HunkBlock)) → Laid m → cut_above m.low mark ≡ o → IsSound None m (low_cut m mark o).after
sound-low_cut m mark None laid e = sound-stays None m laid
sound-low_cut m mark (Some kept) laid e =
    let front = cut_low m.low kept mark e in
    record { laid = rw front.1 (Laid-with_fewer m (suc front.0) (omega arith) laid); keeps = keeps_users_same None m _ refl }

sound-low_free : (m : Memory) (mark : ℕ) → Laid m → IsSound None m (low_free m mark).after
unfolding low_free
sound-low_free m mark laid = sound-noted _ (sound-low_cut m mark (cut_above m.low mark) laid refl)

sound-high_cut : (m : Memory) (mark : ℕ) (o : Option (List HunkBlock)) → Laid m → m.temp ≡ None → cut_from 0 m.high mark ≡ o → IsSound None m (high_cut m mark o).after
sound-high_cut m mark None laid none e = sound-stays None m laid
sound-high_cut m mark (Some kept) laid none e =
    let front = cut_front 0 m.high kept mark e in
    record {
      laid = rw front.1 (subst (λ temp. Laid (record m { high = take front.0 m.high; temp = temp })) (sym none) (Laid-with_fewer_high m front.0 laid));
      keeps = keeps_users_same None m _ refl;
    }

sound-high_free : (m : Memory) (mark : ℕ) → Laid m → IsSound None m (high_free m mark).after
unfolding high_free
sound-high_free m mark laid =
    let base = sound-without_temp m laid in
    let cut = sound-high_cut (without_temp m) mark (cut_from 0 (without_temp m).high mark) base.laid (temp-without_temp m) refl in
    sound-noted _ (record { laid = cut.laid; keeps = keeps_users_more base.keeps cut.keeps })

sound-high_mark : (m : Memory) → Laid m → IsSound None m (high_mark m).after
unfolding high_mark
sound-high_mark m laid = sound-noted _ (sound-without_temp m laid)

-- The cache's own operations.
IsCacheBlock-new_block : (users size user place : ℕ) (name : List ℕ) → user < users → 0 < size → IsText name → IsCacheBlock users (new_block place (cache_need size) user name)
IsCacheBlock-new_block users size user place name known some text = record {
  least = omega arith;
  whole = omega arith;
  user = known;
  short = omega (arith, length-take 15 name);
  text = All-take (λ byte. byte ≢ 0) 15 name text;
  bytes = length-replicate (cache_need size - 40) 0;
}

pub unfound : (o : Option CacheBlock) → is_some o ≡ false → o ≡ None
unfound None h = refl
unfound (Some b) h = absurd (cc)

pub grown-cache_alloc : (m : Memory) (user size : ℕ) (name : List ℕ) → Laid m → user < m.users → IsText name → is_some (block_of m.cache user) ≡ false → eqb size 0 ≡ false → ltb (room m) (cache_need size) ≡ false →
    IsGrown m.users (low_used m) (high_start m) (cache_need size) user name m.cache (with_new m.cache (low_used m) (high_start m) (cache_need size) user name)
grown-cache_alloc m user size name laid known text free some fits =
    grown-with_new m.cache (low_used m) (high_start m) (cache_need size) user m.users name laid.cache (omega (arith, ltb-false (room m) (cache_need size) fits, laid.inside))
    (find-none user m.cache.blocks (unfound (block_of m.cache user) free)) (λ place. IsCacheBlock-new_block m.users size user place name known (omega (arith, λ (e : size ≡ 0). eqb-false size 0 some e)) text)

sound-grown : (m : Memory) (size user : ℕ) (name : List ℕ) (c : Cache) → Laid m → IsGrown m.users (low_used m) (high_start m) size user name m.cache c → IsSound (Some user) m (record m { cache = c })
sound-grown m size user name c laid grown = record { laid = Laid-with_cache m c laid grown.cache; keeps = record { others = λ other b is h. grown.others other b is h } }

sound-cache_alloc : (m : Memory) (user size : ℕ) (name : List ℕ) → Laid m → user < m.users → IsText name → IsSound (Some user) m (cache_alloc m user size name).after
unfolding cache_alloc
sound-cache_alloc m user size name laid known text =
    let P = λ (given : Answered (Result (Unit {0}) Rattle.mem_model.specs.Event.CacheRefusal)). IsSound (Some user) m given.after in
    let stays = sound-stays (Some user) m laid in
    let need = cache_need size in
    sound-noted _ (cond_both (is_some (block_of m.cache user)) _ _ P (λ occupied. stays) (λ free.
    cond_both (eqb size 0) _ _ P (λ none. stays) (λ some.
    cond_both (ltb (room m) need) _ _ P (λ short. stays) (λ fits. sound-grown m need user name _ laid (grown-cache_alloc m user size name laid known text free some fits)))))

touched_same : (c : Cache) (user other : ℕ) → 0 < count_in user (users_of c.blocks) → count_in user (users_of c.blocks) ≤ 1 → count_in user c.recency ≡ count_in user (users_of c.blocks) →
    count_in other (touched c user).recency ≡ count_in other c.recency
touched_same c user other some few same =
    elim (eqb_tells user other) [
      | inl at ↦ (let gone : count_in other (without_user c.recency user) ≡ 0 = ap (λ u. count_in u (without_user c.recency user)) (sym at.1) ∙ count-gone (λ u. not (nat_eq u user)) user c.recency (rw (eq-eqb user user refl) refl) in
          let was : count_in other c.recency ≡ count_in user c.recency = ap (λ u. count_in u c.recency) (sym at.1) in
          rw at.0 (omega arith))
      | inr off ↦ (let stays : count_in other (without_user c.recency user) ≡ count_in other c.recency = count-stays (λ u. not (nat_eq u user)) other c.recency (rw (ne_eqb other user (λ e. off.1 (sym e))) refl) in
          rw off.0 (omega arith))
    ]

found : (o : Option CacheBlock) → is_some o ≡ true → (b : CacheBlock) × (o ≡ Some b)
found None h = absurd (cc)
found (Some b) h = (b, refl)

pub IsCache-touched : (c : Cache) (users bottom top user : ℕ) → IsCache c users bottom top → is_some (block_of c user) ≡ true → IsCache (touched c user) users bottom top
IsCache-touched c users bottom top user is some =
    let block = found (block_of c user) some in
    record {
      blocks = is.blocks;
      between = is.between;
      one_each = is.one_each;
      recency = λ other. touched_same c user other (find-some user c.blocks block.0 block.1).1 (is.one_each user) (is.recency user) ∙ is.recency other;
    }

held-touched : (c : Cache) (user other : ℕ) → held (touched c user) other ≡ held c other
unfolding held
held-touched c user other = refl

sound-check : (m : Memory) (user : ℕ) → Laid m → IsSound None m (check m user).after
unfolding check
sound-check m user laid =
    sound-noted _ (cond_both (is_some (block_of m.cache user)) (record m { cache = touched m.cache user }) m (λ (n : Memory). IsSound None m n)
    (λ some. record {
      laid = Laid-with_cache m (touched m.cache user) laid (IsCache-touched m.cache m.users (low_used m) (high_start m) user laid.cache some);
      keeps = keeps_by None m _ (record { holds = λ other b h. sym (held-touched m.cache user other) ∙ h });
    })
    (λ none. sound-stays None m laid))

sound-cache_free : (m : Memory) (user : ℕ) → Laid m → IsSound None m (cache_free m user).after
unfolding cache_free
sound-cache_free m user laid =
    let later = later-without m.cache m.users (low_used m) (high_start m) user laid.cache in
    sound-noted _ (record { laid = Laid-with_cache m (without m.cache user) laid later.cache; keeps = keeps_by None m _ later.keeps })

nothing_held : (user : ℕ) (b : CacheBlock) → held (record { blocks = []; recency = [] }) user ≡ Some b → ⊥
unfolding held
nothing_held user b h = absurd (cc)

sound-flush : (m : Memory) → Laid m → IsSound None m (flush m).after
unfolding flush
sound-flush m laid =
    sound-noted _ (record {
      laid = Laid-with_cache m _ laid (record { blocks = tt; between = omega (arith, laid.inside); one_each = λ user. omega arith; recency = λ user. refl });
      keeps = keeps_by None m _ (record { holds = λ user b h. absurd (nothing_held user b h) });
    })

-- a memory with one hunk block more, with the new bounds of the cache as they are read
pub Laid-low_grown : (m : Memory) (b : HunkBlock) (end top : ℕ) → Laid m → IsHunkBlock b → b.size ≤ room m → end ≡ low_used m + b.size → top ≡ high_start m → Laid (record m { low = m.low ++ b ∷ []; cache = pushed_up m.cache end top })
unfolding with_low
Laid-low_grown m b end top laid block fits ends tops = rw (ends, tops) (sound-with_low m b laid block fits).laid

pub Laid-high_grown : (m : Memory) (b : HunkBlock) (top : ℕ) → Laid m → IsHunkBlock b → b.size ≤ room m → m.temp ≡ None → top ≡ high_start m - b.size → Laid (record m { high = m.high ++ b ∷ []; cache = pushed_down m.cache m.size top })
unfolding with_high
Laid-high_grown m b top laid block fits none tops = rw tops (sound-with_high m b laid block fits none).laid

-- Each operation keeps a memory laid out.
pub Laid-without_temp : (m : Memory) → Laid m → Laid (without_temp m)
Laid-without_temp m laid = (sound-without_temp m laid).laid

pub Laid-low_alloc : (m : Memory) (size : ℕ) (name : List ℕ) → Laid m → IsText name → Laid (low_alloc m size name).after
Laid-low_alloc m size name laid text = (sound-low_alloc m size name laid text).laid

pub Laid-low_free : (m : Memory) (mark : ℕ) → Laid m → Laid (low_free m mark).after
Laid-low_free m mark laid = (sound-low_free m mark laid).laid

pub Laid-high_alloc : (m : Memory) (size : ℕ) (name : List ℕ) → Laid m → IsText name → Laid (high_alloc m size name).after
Laid-high_alloc m size name laid text = (sound-high_alloc m size name laid text).laid

pub Laid-high_mark : (m : Memory) → Laid m → Laid (high_mark m).after
Laid-high_mark m laid = (sound-high_mark m laid).laid

pub Laid-high_free : (m : Memory) (mark : ℕ) → Laid m → Laid (high_free m mark).after
Laid-high_free m mark laid = (sound-high_free m mark laid).laid

pub Laid-temp_alloc : (m : Memory) (size : ℕ) → Laid m → Laid (temp_alloc m size).after
Laid-temp_alloc m size laid = (sound-temp_alloc m size laid).laid

pub Laid-cache_alloc : (m : Memory) (user size : ℕ) (name : List ℕ) → Laid m → user < m.users → IsText name → Laid (cache_alloc m user size name).after
Laid-cache_alloc m user size name laid known text = (sound-cache_alloc m user size name laid known text).laid

pub Laid-check : (m : Memory) (user : ℕ) → Laid m → Laid (check m user).after
Laid-check m user laid = (sound-check m user laid).laid

pub Laid-cache_free : (m : Memory) (user : ℕ) → Laid m → Laid (cache_free m user).after
Laid-cache_free m user laid = (sound-cache_free m user laid).laid

pub Laid-flush : (m : Memory) → Laid m → Laid (flush m).after
Laid-flush m laid = (sound-flush m laid).laid

-- Each user that has a block after an operation had the same before, but for the new one of an allocation in the cache.
pub keeps-low_alloc : (m : Memory) (size : ℕ) (name : List ℕ) → Laid m → IsText name → KeepsUsers None m (low_alloc m size name).after
keeps-low_alloc m size name laid text = (sound-low_alloc m size name laid text).keeps

pub keeps-low_free : (m : Memory) (mark : ℕ) → Laid m → KeepsUsers None m (low_free m mark).after
keeps-low_free m mark laid = (sound-low_free m mark laid).keeps

pub keeps-high_alloc : (m : Memory) (size : ℕ) (name : List ℕ) → Laid m → IsText name → KeepsUsers None m (high_alloc m size name).after
keeps-high_alloc m size name laid text = (sound-high_alloc m size name laid text).keeps

pub keeps-high_mark : (m : Memory) → Laid m → KeepsUsers None m (high_mark m).after
keeps-high_mark m laid = (sound-high_mark m laid).keeps

pub keeps-high_free : (m : Memory) (mark : ℕ) → Laid m → KeepsUsers None m (high_free m mark).after
keeps-high_free m mark laid = (sound-high_free m mark laid).keeps

pub keeps-temp_alloc : (m : Memory) (size : ℕ) → Laid m → KeepsUsers None m (temp_alloc m size).after
keeps-temp_alloc m size laid = (sound-temp_alloc m size laid).keeps

pub keeps-z_alloc : (m : Memory) (size : ℕ) → KeepsUsers None m (z_alloc m size).after
keeps-z_alloc m size = keeps_users_same None m _ (left-z_alloc (λ n. n.cache) (λ n zone events. refl) m size)

pub keeps-z_free : (m : Memory) (place : ℕ) → KeepsUsers None m (z_free m place).after
keeps-z_free m place = keeps_users_same None m _ (left-z_free (λ n. n.cache) (λ n zone events. refl) m place)

pub keeps-cache_alloc : (m : Memory) (user size : ℕ) (name : List ℕ) → Laid m → user < m.users → IsText name → KeepsUsers (Some user) m (cache_alloc m user size name).after
keeps-cache_alloc m user size name laid known text = (sound-cache_alloc m user size name laid known text).keeps

pub keeps-check : (m : Memory) (user : ℕ) → Laid m → KeepsUsers None m (check m user).after
keeps-check m user laid = (sound-check m user laid).keeps

pub keeps-cache_free : (m : Memory) (user : ℕ) → Laid m → KeepsUsers None m (cache_free m user).after
keeps-cache_free m user laid = (sound-cache_free m user laid).keeps

pub keeps-flush : (m : Memory) → Laid m → KeepsUsers None m (flush m).after
keeps-flush m laid = (sound-flush m laid).keeps

-- A new block holds zero bytes.
pub held-new : (m : Memory) (user size : ℕ) (name : List ℕ) → Laid m → user < m.users → IsText name → (cache_alloc m user size name).answer ≡ Ok tt →
    held (cache_alloc m user size name).after.cache user ≡ Some (new_block 0 (cache_need size) user name)
unfolding cache_alloc
held-new m user size name laid known text h =
    let P = λ (given : Answered (Result (Unit {0}) Rattle.mem_model.specs.Event.CacheRefusal)). given.answer ≡ Ok tt → held given.after.cache user ≡ Some (new_block 0 (cache_need size) user name) in
    ap (λ c. held c user) (cache-with_event _ _) ∙ cond_both (is_some (block_of m.cache user)) _ _ P (λ occupied g. absurd (cc)) (λ free.
    cond_both (eqb size 0) _ _ P (λ none g. absurd (cc)) (λ some.
    cond_both (ltb (room m) (cache_need size)) _ _ P (λ short g. absurd (cc)) (λ fits g. (grown-cache_alloc m user size name laid known text free some fits).own))) h

-- An operation of the low hunk leaves all beside the low hunk, the cache and the events; the high hunk's likewise.
pub beside-low_alloc : (m : Memory) (size : ℕ) (name : List ℕ) → beside_low (low_alloc m size name).after ≡ beside_low m
unfolding low_alloc with_low
beside-low_alloc m size name = left-with_event beside_low (λ n events. refl) _ _ ∙ left-either beside_low (ltb (room m) (hunk_need size)) _ _ (beside_low m) refl refl

beside-low_cut : (m : Memory) (mark : ℕ) (o : Option (List HunkBlock)) → beside_low (low_cut m mark o).after ≡ beside_low m
beside-low_cut m mark None = refl
beside-low_cut m mark (Some kept) = refl

pub beside-low_free : (m : Memory) (mark : ℕ) → beside_low (low_free m mark).after ≡ beside_low m
unfolding low_free
beside-low_free m mark = left-with_event beside_low (λ n events. refl) _ _ ∙ beside-low_cut m mark (cut_above m.low mark)

beside-temp_freed : (m : Memory) (temp : Option ℕ) → beside_high (temp_freed m temp) ≡ beside_high m
beside-temp_freed m None = refl
beside-temp_freed m (Some mark) = refl

pub beside-without_temp : (m : Memory) → beside_high (without_temp m) ≡ beside_high m
unfolding without_temp
beside-without_temp m = beside-temp_freed m m.temp

beside-high_taken : (m : Memory) (size : ℕ) (name : List ℕ) → beside_high (high_taken m size name).after ≡ beside_high m
unfolding high_taken with_high
beside-high_taken m size name = left-either beside_high (ltb (room m) (hunk_need size)) _ _ (beside_high m) refl refl

pub beside-high_alloc : (m : Memory) (size : ℕ) (name : List ℕ) → beside_high (high_alloc m size name).after ≡ beside_high m
unfolding high_alloc
beside-high_alloc m size name = left-with_event beside_high (λ n events. refl) _ _ ∙ beside-high_taken (without_temp m) size name ∙ beside-without_temp m

beside-high_cut : (m : Memory) (mark : ℕ) (o : Option (List HunkBlock)) → beside_high (high_cut m mark o).after ≡ beside_high m
beside-high_cut m mark None = refl
beside-high_cut m mark (Some kept) = refl

pub beside-high_free : (m : Memory) (mark : ℕ) → beside_high (high_free m mark).after ≡ beside_high m
unfolding high_free
beside-high_free m mark = left-with_event beside_high (λ n events. refl) _ _ ∙ beside-high_cut (without_temp m) mark (cut_from 0 (without_temp m).high mark) ∙ beside-without_temp m

pub beside-high_mark : (m : Memory) → beside_high (high_mark m).after ≡ beside_high m
unfolding high_mark
beside-high_mark m = left-with_event beside_high (λ n events. refl) _ _ ∙ beside-without_temp m

pub beside-temp_alloc : (m : Memory) (size : ℕ) → beside_high (temp_alloc m size).after ≡ beside_high m
unfolding temp_alloc
beside-temp_alloc m size = left-with_event beside_high (λ n events. refl) _ _ ∙ beside-high_taken (without_temp m) (round_up size 16) (codes "temp") ∙ beside-without_temp m

-- The zone's leave all beside the zone and the events, and the cache's all beside the cache and the events.
pub beside-z_alloc : (m : Memory) (size : ℕ) → beside_zone (z_alloc m size).after ≡ beside_zone m
beside-z_alloc m size = left-z_alloc beside_zone (λ n zone events. refl) m size

pub beside-z_free : (m : Memory) (place : ℕ) → beside_zone (z_free m place).after ≡ beside_zone m
beside-z_free m place = left-z_free beside_zone (λ n zone events. refl) m place

pub beside-cache_alloc : (m : Memory) (user size : ℕ) (name : List ℕ) → beside_cache (cache_alloc m user size name).after ≡ beside_cache m
unfolding cache_alloc
beside-cache_alloc m user size name =
    left-with_event beside_cache (λ n events. refl) _ _
    ∙ left-either beside_cache (is_some (block_of m.cache user)) _ _ (beside_cache m) refl
    (left-either beside_cache (eqb size 0) _ _ (beside_cache m) refl (left-either beside_cache (ltb (room m) (cache_need size)) _ _ (beside_cache m) refl refl))

pub beside-check : (m : Memory) (user : ℕ) → beside_cache (check m user).after ≡ beside_cache m
unfolding check
beside-check m user =
    left-with_event beside_cache (λ n events. refl) _ _
    ∙ cond_both (is_some (block_of m.cache user)) (record m { cache = touched m.cache user }) m (λ (n : Memory). beside_cache n ≡ beside_cache m) (λ e. refl) (λ e. refl)

pub beside-cache_free : (m : Memory) (user : ℕ) → beside_cache (cache_free m user).after ≡ beside_cache m
unfolding cache_free
beside-cache_free m user = left-with_event beside_cache (λ n events. refl) _ _

pub beside-flush : (m : Memory) → beside_cache (flush m).after ≡ beside_cache m
unfolding flush
beside-flush m = left-with_event beside_cache (λ n events. refl) _ _

-- A building in a low block leaves the cache as it is, too.
beside-with_low_bytes : (m : Memory) (place : ℕ) (bytes : List ℕ) → beside_low (with_low_bytes m place bytes) ≡ beside_low m
unfolding with_low_bytes
beside-with_low_bytes m place bytes = refl

cache-with_low_bytes : (m : Memory) (place : ℕ) (bytes : List ℕ) → (with_low_bytes m place bytes).cache ≡ m.cache
unfolding with_low_bytes
cache-with_low_bytes m place bytes = refl

pub beside-build_low : {F : Type 0} (m : Memory) (place len : ℕ) (image_of : List ℕ → Result (List ℕ) F) → beside_low (build_low m place len image_of).after ≡ beside_low m
unfolding build_low
beside-build_low m place len image_of = after_image (λ n. beside_low n ≡ beside_low m) m (with_low_bytes m place) (image_of (front_of (temp_bytes m) len)) refl (λ image. beside-with_low_bytes m place image)

pub cache-build_low : {F : Type 0} (m : Memory) (place len : ℕ) (image_of : List ℕ → Result (List ℕ) F) → (build_low m place len image_of).after.cache ≡ m.cache
unfolding build_low
cache-build_low m place len image_of = after_image (λ n. n.cache ≡ m.cache) m (with_low_bytes m place) (image_of (front_of (temp_bytes m) len)) refl (λ image. cache-with_low_bytes m place image)

pub keeps-build_low : {F : Type 0} (m : Memory) (place len : ℕ) (image_of : List ℕ → Result (List ℕ) F) → KeepsUsers None m (build_low m place len image_of).after
keeps-build_low m place len image_of = keeps_users_same None m _ (cache-build_low m place len image_of)

-- What that says of bytes, for any operation of the part.
pub low_bytes-beside_high : (m n : Memory) (place : ℕ) → beside_high n ≡ beside_high m → low_bytes n place ≡ low_bytes m place
unfolding low_bytes
low_bytes-beside_high m n place h = ap (λ (x : Memory). bytes_above x.low place) h

pub low_bytes-beside_zone : (m n : Memory) (place : ℕ) → beside_zone n ≡ beside_zone m → low_bytes n place ≡ low_bytes m place
unfolding low_bytes
low_bytes-beside_zone m n place h = ap (λ (x : Memory). bytes_above x.low place) h

pub low_bytes-beside_cache : (m n : Memory) (place : ℕ) → beside_cache n ≡ beside_cache m → low_bytes n place ≡ low_bytes m place
unfolding low_bytes
low_bytes-beside_cache m n place h = ap (λ (x : Memory). bytes_above x.low place) h

pub temp_bytes-beside_low : (m n : Memory) → beside_low n ≡ beside_low m → temp_bytes n ≡ temp_bytes m
unfolding temp_bytes
temp_bytes-beside_low m n h = ap (λ (x : Memory). temp_bytes_of x.high x.temp) h

pub temp_bytes-beside_zone : (m n : Memory) → beside_zone n ≡ beside_zone m → temp_bytes n ≡ temp_bytes m
unfolding temp_bytes
temp_bytes-beside_zone m n h = ap (λ (x : Memory). temp_bytes_of x.high x.temp) h

pub temp_bytes-beside_cache : (m n : Memory) → beside_cache n ≡ beside_cache m → temp_bytes n ≡ temp_bytes m
unfolding temp_bytes
temp_bytes-beside_cache m n h = ap (λ (x : Memory). temp_bytes_of x.high x.temp) h

pub zone_bytes-beside_low : (m n : Memory) (place : ℕ) → beside_low n ≡ beside_low m → zone_bytes n place ≡ zone_bytes m place
unfolding zone_bytes
zone_bytes-beside_low m n place h = ap (λ (x : Memory). used_bytes_from 48 x.zone.blocks place) h

pub zone_bytes-beside_high : (m n : Memory) (place : ℕ) → beside_high n ≡ beside_high m → zone_bytes n place ≡ zone_bytes m place
unfolding zone_bytes
zone_bytes-beside_high m n place h = ap (λ (x : Memory). used_bytes_from 48 x.zone.blocks place) h

pub zone_bytes-beside_cache : (m n : Memory) (place : ℕ) → beside_cache n ≡ beside_cache m → zone_bytes n place ≡ zone_bytes m place
unfolding zone_bytes
zone_bytes-beside_cache m n place h = ap (λ (x : Memory). used_bytes_from 48 x.zone.blocks place) h

-- No operation changes the number of users.
pub users-low_alloc : (m : Memory) (size : ℕ) (name : List ℕ) → (low_alloc m size name).after.users ≡ m.users
users-low_alloc m size name = ap (λ (x : Memory). x.users) (beside-low_alloc m size name)

pub users-low_free : (m : Memory) (mark : ℕ) → (low_free m mark).after.users ≡ m.users
users-low_free m mark = ap (λ (x : Memory). x.users) (beside-low_free m mark)

pub users-high_alloc : (m : Memory) (size : ℕ) (name : List ℕ) → (high_alloc m size name).after.users ≡ m.users
users-high_alloc m size name = ap (λ (x : Memory). x.users) (beside-high_alloc m size name)

pub users-high_mark : (m : Memory) → (high_mark m).after.users ≡ m.users
users-high_mark m = ap (λ (x : Memory). x.users) (beside-high_mark m)

pub users-high_free : (m : Memory) (mark : ℕ) → (high_free m mark).after.users ≡ m.users
users-high_free m mark = ap (λ (x : Memory). x.users) (beside-high_free m mark)

pub users-temp_alloc : (m : Memory) (size : ℕ) → (temp_alloc m size).after.users ≡ m.users
users-temp_alloc m size = ap (λ (x : Memory). x.users) (beside-temp_alloc m size)

pub users-cache_alloc : (m : Memory) (user size : ℕ) (name : List ℕ) → (cache_alloc m user size name).after.users ≡ m.users
users-cache_alloc m user size name = ap (λ (x : Memory). x.users) (beside-cache_alloc m user size name)

pub users-check : (m : Memory) (user : ℕ) → (check m user).after.users ≡ m.users
users-check m user = ap (λ (x : Memory). x.users) (beside-check m user)

pub users-cache_free : (m : Memory) (user : ℕ) → (cache_free m user).after.users ≡ m.users
users-cache_free m user = ap (λ (x : Memory). x.users) (beside-cache_free m user)

pub users-flush : (m : Memory) → (flush m).after.users ≡ m.users
users-flush m = ap (λ (x : Memory). x.users) (beside-flush m)

pub users-with_low_bytes : (m : Memory) (place : ℕ) (bytes : List ℕ) → (with_low_bytes m place bytes).users ≡ m.users
unfolding with_low_bytes
users-with_low_bytes m place bytes = refl

users-with_temp_of : (m : Memory) (bytes : List ℕ) (temp : Option ℕ) → (with_temp_bytes_of m bytes temp).users ≡ m.users
users-with_temp_of m bytes None = refl
users-with_temp_of m bytes (Some mark) = refl

pub users-with_temp_bytes : (m : Memory) (bytes : List ℕ) → (with_temp_bytes m bytes).users ≡ m.users
unfolding with_temp_bytes
users-with_temp_bytes m bytes = users-with_temp_of m bytes m.temp

pub users-build_low : {F : Type 0} (m : Memory) (place len : ℕ) (image_of : List ℕ → Result (List ℕ) F) → (build_low m place len image_of).after.users ≡ m.users
users-build_low m place len image_of = ap (λ (x : Memory). x.users) (beside-build_low m place len image_of)

pub users-build_cache : {F : Type 0} (m : Memory) (user len : ℕ) (image_of : List ℕ → Result (List ℕ) F) → (build_cache m user len image_of).after.users ≡ m.users
users-build_cache m user len image_of = ap (λ (x : Memory). x.users) (beside-build_cache m user len image_of)

pub users-copy_low_to_cache : (m : Memory) (place user size : ℕ) → (copy_low_to_cache m place user size).after.users ≡ m.users
users-copy_low_to_cache m place user size = ap (λ (x : Memory). x.users) (beside-copy_low_to_cache m place user size)

-- What a call leaves, whether or not it ran out of memory.
pub after_gives : {A : Type 0} (P : Memory → Type 0) (given : Answered A) (frugal : Bool) (left new : Memory) (reply : Option A) → Gives given frugal left reply new → P given.after → P left → P new
after_gives P given frugal left new None g p q = subst P (sym g.after) q
after_gives P given frugal left new (Some reply) g p q = subst P (sym g.after) p

-- A moving is an allocation, a copying where the block was given, and a freeing.
copied_either : (P : Memory → Type 0) (m : Memory) (place user size : ℕ) (reply : Result (Unit {0}) CacheRefusal) → P m → P (copy_low_to_cache m place user size).after → P (copied_if m place user size reply)
copied_either P m place user size (Ok done) p q = q
copied_either P m place user size (Err refusal) p q = p

pub moved_by : (P : Memory → Type 0) (m : Memory) (mark user size : ℕ) (name : List ℕ) → P (cache_alloc m user size name).after → ((n : Memory) → P n → P (copy_low_to_cache n (mark + 16) user size).after) → ((n : Memory) → P n → P (low_free n mark).after) →
    P (move_low_to_cache m mark user size name).after
unfolding move_low_to_cache
moved_by P m mark user size name given copied freed =
    let n : Memory = (cache_alloc m user size name).after in
    freed (copied_if n (mark + 16) user size (cache_alloc m user size name).answer) (copied_either P n (mark + 16) user size (cache_alloc m user size name).answer given (copied n given))

pub Laid-move_low_to_cache : (m : Memory) (mark user size : ℕ) (name : List ℕ) → Laid m → user < m.users → IsText name → Laid (move_low_to_cache m mark user size name).after
Laid-move_low_to_cache m mark user size name laid known text =
    moved_by Laid m mark user size name (Laid-cache_alloc m user size name laid known text) (λ n p. Laid-copy_low_to_cache n (mark + 16) user size p) (λ n p. Laid-low_free n mark p)

-- The bytes that a user's block shows are those that it holds.
pub peek_bytes-held : (c : Cache) (user : ℕ) (b : CacheBlock) → held c user ≡ Some b → peek_bytes c user ≡ Some b.bytes
unfolding held peek_bytes
peek_bytes-held c user b h = shown (block_of c user) h where
  shown : (o : Option CacheBlock) → option_map unplaced o ≡ Some b → option_map (λ (x : CacheBlock). x.bytes) o ≡ Some b.bytes
  shown None e = absurd (cc)
  shown (Some x) e = (let same : unplaced x ≡ b = cc in ap (λ (y : CacheBlock). Some y.bytes) same)

-- the block of which the bytes are shown
pub block_shown : (o : Option CacheBlock) (bytes : List ℕ) → option_map (λ (x : CacheBlock). x.bytes) o ≡ Some bytes → (b : CacheBlock) × (o ≡ Some b) × (b.bytes ≡ bytes)
block_shown None bytes e = absurd (cc)
block_shown (Some b) bytes e = (b, refl, (let same : b.bytes ≡ bytes = cc in same))

-- A new block of a user has as many bytes as were asked.
pub has-cache_new : (m : Memory) (user size n : ℕ) (name : List ℕ) → Laid m → user < m.users → IsText name → (cache_alloc m user size name).answer ≡ Ok tt → n ≤ size → HasBytes (peek_bytes (cache_alloc m user size name).after.cache user) n
has-cache_new m user size n name laid known text h fits =
    has_bytes _ n (replicate (cache_need size - 40) 0) (peek_bytes-held _ user _ (held-new m user size name laid known text h)) (omega (arith, fits, length-replicate {A = ℕ} (cache_need size - 40) 0))

-- A freeing of low blocks leaves the cache as it is.
cache-low_cut : (m : Memory) (mark : ℕ) (o : Option (List HunkBlock)) → (low_cut m mark o).after.cache ≡ m.cache
cache-low_cut m mark None = refl
cache-low_cut m mark (Some kept) = refl

pub cache-low_free : (m : Memory) (mark : ℕ) → (low_free m mark).after.cache ≡ m.cache
unfolding low_free
cache-low_free m mark = cache-with_event _ _ ∙ cache-low_cut m mark (cut_above m.low mark)

pub keeps-without_temp : (m : Memory) → Laid m → KeepsUsers None m (without_temp m)
keeps-without_temp m laid = (sound-without_temp m laid).keeps

-- For callers, as `#[tactic(auto, using(mem_model::proofs::CacheLaws::cache_laws))]` or one by one: the number of users,
-- what users hold through calls that may move their blocks, and the bytes of each part through calls of another.
pub ruleset cache_laws = (users-low_alloc, users-low_free, users-high_alloc, users-high_mark, users-high_free, users-temp_alloc, users-cache_alloc, users-check, users-cache_free, users-flush, held-new, peek_bytes-held, keeps_users_all, keeps_users_more, keeps-without_temp, keeps-low_alloc, keeps-low_free, keeps-high_alloc, keeps-high_mark, keeps-high_free, keeps-temp_alloc, keeps-z_alloc, keeps-z_free, keeps-cache_alloc, keeps-check, keeps-cache_free, keeps-flush, beside-low_alloc, beside-low_free, beside-high_alloc, beside-high_mark, beside-high_free, beside-temp_alloc, beside-z_alloc, beside-z_free, beside-cache_alloc, beside-check, beside-cache_free, beside-flush, low_bytes-beside_high, low_bytes-beside_zone, low_bytes-beside_cache, temp_bytes-beside_low, temp_bytes-beside_zone, temp_bytes-beside_cache, zone_bytes-beside_low, zone_bytes-beside_high, zone_bytes-beside_cache, users-with_low_bytes, users-with_temp_bytes, users-build_low, users-build_cache, users-copy_low_to_cache, keeps-build_low, keeps-build_cache, keeps-copy_low_to_cache, cache-build_low, cache-low_free, has-cache_new, beside-build_low, beside-build_cache, beside-copy_low_to_cache, Laid-build_cache, Laid-copy_low_to_cache, temp_bytes-small, has_bytes, peek_bytes-built, peek_bytes-copied, front-cache_built, front-copied, image_there, held-build_cache, held-copy_low_to_cache, peek_bytes-build_cache, peek_bytes-copy_low_to_cache, peek_place-build_cache, peek_place-copy_low_to_cache, has-build_cache, has-copy_low_to_cache, recency-build_cache, recency-copy_low_to_cache)
