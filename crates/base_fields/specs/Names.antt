-- The lawful names of game files, and the base of a name.
use Rattle.std.specs.Prelude.{ℕ, Bool, not, ◌&&◌, ◌==◌, nat_eq, nat_le, if◌then◌else◌, List, [], ◌++◌, length, Option, Some, None, bytes_eq, codes}
use Rattle.std.specs.List.{list_all, list_any, starts_with, slice_split, after_last, before_first}

-- the byte `/`
abbrev pub is_slash : ℕ → Bool
is_slash byte = byte == 47

-- the byte `.`
abbrev pub is_dot : ℕ → Bool
is_dot byte = byte == 46

-- printable ASCII, but for the backslash and the colon
abbrev pub is_name_byte : ℕ → Bool
is_name_byte byte = (nat_le 32 byte && nat_le byte 126) && not (byte == 92) && not (byte == 58)

-- a part between slashes is `..`
abbrev pub steps_up : List ℕ → Bool
steps_up word = list_any (λ part. bytes_eq part (codes "..")) (slice_split is_slash word)

-- 1 to 63 such bytes, with no slash at the front and no part `..`
unfoldable pub is_game_name : List ℕ → Bool
is_game_name word =
    (nat_le 1 (length word) && nat_le (length word) 63)
    && list_all is_name_byte word
    && not (starts_with nat_eq word (codes "/"))
    && not (steps_up word)

-- the word, where it is the name of a game file
abbrev pub lawful_name : List ℕ → Option (List ℕ)
lawful_name word = if is_game_name word then Some word else None

-- the word, which isn't empty, with what stands in front of it and behind it, where they are the name of a game file
abbrev pub joined_name : (front word back : List ℕ) → Option (List ℕ)
joined_name front [] back = None
joined_name front word back = lawful_name (front ++ (word ++ back))

-- the part after the last slash, up to its first dot
abbrev pub stem_of : List ℕ → List ℕ
stem_of word = before_first is_dot (after_last is_slash word)

-- that stem, or `?` where it is empty
unfoldable pub base_of : List ℕ → List ℕ
base_of word = if length (stem_of word) == 0 then codes "?" else stem_of word
