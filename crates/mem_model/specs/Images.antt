-- What a builder makes of the bytes of a source, and bytes that become the front of a block.
use Rattle.std.specs.Prelude.{ℕ, ◌≤◌, List, [], ◌∷◌, nat_eq, Option, IsSomeAnd, Result, Ok, Err, if◌then◌else◌, length, take, unwrap_or}
use Rattle.mem_model.specs.Blocks.{CacheBlock}
use Rattle.mem_model.specs.Memory.{Memory, Cache}
use Rattle.mem_model.specs.Hunk.{over}

-- The length of an image, or the fault.
abbrev pub image_size : {F : Type 0} → Result (List ℕ) F → Result ℕ F
image_size (Ok image) = Ok (length image)
image_size (Err fault) = Err fault

-- There is a block, of at least n bytes.
abbrev pub HasBytes : Option (List ℕ) → ℕ → Type 0
HasBytes block n = IsSomeAnd block (λ bytes. n ≤ length bytes)

-- the first n bytes of a block, where there is one
abbrev pub front_of : Option (List ℕ) → ℕ → List ℕ
front_of block n = take n (unwrap_or block [])

-- a block of the cache with bytes written over its own
abbrev pub with_contents : CacheBlock → List ℕ → CacheBlock
with_contents b bytes = record b { bytes = over b.bytes bytes }

-- the blocks with bytes written into the user's
abbrev pub with_contents_of : ℕ → List CacheBlock → List ℕ → List CacheBlock
with_contents_of user [] bytes = []
with_contents_of user (b ∷ bs) bytes = if nat_eq b.user user then with_contents b bytes ∷ bs else b ∷ with_contents_of user bs bytes

-- the cache with bytes written into a user's block
unfoldable pub with_user_bytes : Cache → ℕ → List ℕ → Cache
with_user_bytes c user bytes = record c { blocks = with_contents_of user c.blocks bytes }

-- the same of the memory
unfoldable pub with_cache_bytes : Memory → ℕ → List ℕ → Memory
with_cache_bytes m user bytes = record m { cache = with_user_bytes m.cache user bytes }

-- the memory that the writing of an image leaves, or as it is where there is no image
abbrev pub with_image : {F : Type 0} → Memory → (List ℕ → Memory) → Result (List ℕ) F → Memory
with_image m write (Ok image) = write image
with_image m write (Err fault) = m
