-- The cache between the hunks: what moves, and what leaves.
use Prim.Native.Nat.{zero, suc}
use Rattle.std.specs.Prelude.{ℕ, ◌+◌, ◌-◌, ◌*◌, List, [], ◌∷◌, nat_lt, nat_eq, not, Option, Some, None, is_some, filter, find, if◌then◌else◌, take, drop, replicate, length}
use Rattle.std.specs.List.{list_any, range_with_len}
use Rattle.std.specs.Option.{option_map}
use Rattle.mem_model.specs.Blocks.{CacheBlock}
use Rattle.mem_model.specs.Memory.{Cache}
use Rattle.mem_model.specs.Places.{hop, fit, end_of, least}

-- a block put in by its place
abbrev pub put_in : List CacheBlock → CacheBlock → List CacheBlock
put_in [] b = b ∷ []
put_in (c ∷ cs) b = if nat_lt c.place b.place then c ∷ put_in cs b else b ∷ c ∷ cs

abbrev pub without_user : List ℕ → ℕ → List ℕ
without_user users user = filter (λ u. not (nat_eq u user)) users

abbrev pub without_block : List CacheBlock → ℕ → List CacheBlock
without_block blocks user = filter (λ b. not (nat_eq b.user user)) blocks

-- the cache without a user and its block
abbrev pub without : Cache → ℕ → Cache
without c user = record { blocks = without_block c.blocks user; recency = without_user c.recency user }

-- the cache with the user as the most recently used
abbrev pub touched : Cache → ℕ → Cache
touched c user = record c { recency = user ∷ without_user c.recency user }

abbrev pub find_block : ℕ → List CacheBlock → Option CacheBlock
find_block user blocks = find (λ b. nat_eq b.user user) blocks

abbrev pub block_of : Cache → ℕ → Option CacheBlock
block_of c user = find_block user c.blocks

-- where the payload of a user's block begins
abbrev pub peek_place : Cache → ℕ → Option ℕ
peek_place c user = option_map (λ b. b.place + 40) (block_of c user)

-- the bytes of a user's block
unfoldable pub peek_bytes : Cache → ℕ → Option (List ℕ)
peek_bytes c user = option_map (λ b. b.bytes) (block_of c user)

-- the cache with one of its blocks moved to a place, and its user as the most recently used
abbrev pub moved : Cache → CacheBlock → ℕ → Cache
moved c b place = record {
  blocks = put_in (without_block c.blocks b.user) (record b { place = place });
  recency = b.user ∷ without_user c.recency b.user;
}

-- A block moves to its hop, or is freed where it has none.
abbrev pub hopped_to : Cache → CacheBlock → Option ℕ → Cache
hopped_to c b None = without c b.user
hopped_to c b (Some place) = moved c b place

unfoldable pub hopped : ℕ → Cache → CacheBlock → Cache
hopped top c b = hopped_to c b (hop c.blocks b top)

-- the lowest block, where it starts below `bottom`
abbrev pub lowest_below : ℕ → List CacheBlock → Option CacheBlock
lowest_below bottom [] = None
lowest_below bottom (b ∷ bs) = if nat_lt b.place bottom then Some b else None

-- the highest block, where it ends above `top`
abbrev pub highest_above : ℕ → List CacheBlock → Option CacheBlock
highest_above top [] = None
highest_above top (b ∷ []) = if nat_lt top (end_of b) then Some b else None
highest_above top (b ∷ c ∷ cs) = highest_above top (c ∷ cs)

-- A block hops, and then the rest of the push follows; with no block the push is done.
abbrev pub turned : ℕ → (Cache → Cache) → Cache → Option CacheBlock → Cache
turned top rest c None = c
turned top rest c (Some b) = rest (hopped top c b)

-- While the lowest block starts below `bottom`, it hops, for as many turns at most as the first number says.
unfoldable pub up_in : ℕ → ℕ → ℕ → Cache → Cache
up_in zero bottom top c = c
up_in (suc turns) bottom top c = turned top (up_in turns bottom top) c (lowest_below bottom c.blocks)

-- The push up, to where no block starts below `bottom`. Each turn raises a place, which stays at most `top`, or frees a block.
unfoldable pub pushed_up : Cache → ℕ → ℕ → Cache
pushed_up c bottom top = up_in (length c.blocks * suc top) bottom top c

-- While the highest block ends above `top`, it hops, for as many turns at most as the first number says.
unfoldable pub down_in : ℕ → ℕ → Cache → Cache
down_in zero top c = c
down_in (suc turns) top c = turned top (down_in turns top) c (highest_above top c.blocks)

-- The push down, to where no block ends above `top`. Each turn lowers a place, which is at most `size`, or frees a block.
unfoldable pub pushed_down : Cache → ℕ → ℕ → Cache
pushed_down c size top = down_in (length c.blocks * suc size) top c

-- the cache without its n least recently used users and their blocks
abbrev pub kept : Cache → ℕ → Cache
kept c n =
    let stay = length c.recency - n in
    record { blocks = filter (λ b. not (list_any (nat_eq b.user) (drop stay c.recency))) c.blocks; recency = take stay c.recency }

-- How many of the least recently used leave for a block of `size` bytes: the fewest with which it has a fit.
unfoldable pub evictions : Cache → ℕ → ℕ → ℕ → Option ℕ
evictions c bottom top size =
    least (filter (λ n. is_some (fit (kept c n).blocks bottom top size)) (range_with_len 0 (suc (length c.recency))))

-- a block of zero bytes
abbrev pub new_block : ℕ → ℕ → ℕ → List ℕ → CacheBlock
new_block place size user name = record { place = place; size = size; user = user; name = take 15 name; bytes = replicate (size - 40) 0 }

-- the cache with one block more, the most recently used
abbrev pub with_block : Cache → CacheBlock → Cache
with_block c b = record { blocks = put_in c.blocks b; recency = b.user ∷ c.recency }

-- the same with a block that stands at a place, where there is one
abbrev pub placed : Cache → CacheBlock → Option ℕ → Cache
placed c b None = c
placed c b (Some place) = with_block c (record b { place = place })

abbrev pub made_room : Cache → Option ℕ → Cache
made_room c None = c
made_room c (Some n) = kept c n

-- Those users leave that have to, and a block stands at its fit among the rest.
unfoldable pub with_fitted : Cache → ℕ → ℕ → CacheBlock → Cache
with_fitted c bottom top b =
    let rest : Cache = made_room c (evictions c bottom top b.size) in
    placed rest b (fit rest.blocks bottom top b.size)

-- the same with a block of zero bytes
abbrev pub with_new : Cache → ℕ → ℕ → ℕ → ℕ → List ℕ → Cache
with_new c bottom top size user name = with_fitted c bottom top (new_block 0 size user name)
