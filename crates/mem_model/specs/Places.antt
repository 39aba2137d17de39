-- The needs of a request, and the places that a block of the cache may take.
use Rattle.std.specs.Prelude.{ℕ, ◌+◌, ◌-◌, ◌*◌, ◌/◌, List, [], ◌∷◌, Bool, ◌&&◌, ◌||◌, nat_le, Option, Some, None, filter, map, min}
use Rattle.std.specs.List.{list_all, list_any}
use Rattle.mem_model.specs.Blocks.{CacheBlock}

-- the least multiple of k that is at least n
abbrev pub round_up : ℕ → ℕ → ℕ
round_up n k = (n + (k - 1)) / k * k

-- what a hunk block of n bytes takes, its header of 16 included
abbrev pub hunk_need : ℕ → ℕ
hunk_need n = 16 + round_up n 16

-- what a zone block of n bytes takes, its header of 24 and its end mark of 4 included
abbrev pub zone_need : ℕ → ℕ
zone_need n = round_up (n + 28) 8

-- what a cache block of n bytes takes, its header of 40 included
abbrev pub cache_need : ℕ → ℕ
cache_need n = round_up (n + 40) 16

abbrev pub lesser : ℕ → Option ℕ → ℕ
lesser n None = n
lesser n (Some k) = min n k

-- the least number of a list
abbrev pub least : List ℕ → Option ℕ
least [] = None
least (n ∷ ns) = Some (lesser n (least ns))

abbrev pub end_of : CacheBlock → ℕ
end_of b = b.place + b.size

-- the range of `size` bytes at `place` meets none of the blocks
abbrev pub is_clear : List CacheBlock → ℕ → ℕ → Bool
is_clear blocks place size = list_all (λ b. nat_le (place + size) b.place || nat_le (end_of b) place) blocks

-- a block starts at or above the place
abbrev pub has_above : List CacheBlock → ℕ → Bool
has_above blocks place = list_any (λ b. nat_le place b.place) blocks

-- The fit of a new block: the least place that is `bottom` or the end of a block, where it ends by `top` and meets no block.
unfoldable pub fit : List CacheBlock → ℕ → ℕ → ℕ → Option ℕ
fit blocks bottom top size =
    least (filter (λ place. nat_le (place + size) top && is_clear blocks place size) (bottom ∷ map end_of blocks))

-- The hop of one of the blocks: the least end of a block, its own included, where it meets no block, its own old place
-- included; where no block starts at or above there, it also has to end by `top`.
unfoldable pub hop : List CacheBlock → CacheBlock → ℕ → Option ℕ
hop blocks b top =
    least (filter (λ place. is_clear blocks place b.size && (has_above blocks place || nat_le (place + b.size) top)) (map end_of blocks))
