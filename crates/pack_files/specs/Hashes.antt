-- Hashes of names.
use Rattle.std.specs.Prelude.{ℕ, ◌+◌, ◌*◌, ◌%◌, List, [], ◌∷◌}

-- the hash of these bytes behind others of this hash
abbrev pub hash_from : ℕ → List ℕ → ℕ
hash_from hash [] = hash
hash_from hash (byte ∷ bytes) = hash_from ((hash + byte) * 2654435761 % 4294967296) bytes

unfoldable pub hash_of : List ℕ → ℕ
hash_of name = hash_from 0 name
