-- The names that a folder of the host is asked for.
use Rattle.std.specs.Prelude.{ℕ, Bool, not, ◌&&◌, ◌==◌, nat_eq, nat_le, List, length, codes, IsTrue, IsUtf8}
use Rattle.std.specs.List.{list_any, starts_with}
use Rattle.base_fields.specs.Names.{steps_up}

-- 1 to 63 bytes and none of them zero, with no slash at the front and no part `..`
unfoldable pub stays_inside : List ℕ → Bool
stays_inside name =
    (nat_le 1 (length name) && nat_le (length name) 63)
    && not (list_any (λ byte. byte == 0) name)
    && not (starts_with nat_eq name (codes "/"))
    && not (steps_up name)

-- such a name, as text
abbrev pub IsHostName : List ℕ → Type 0
IsHostName name = IsTrue (stays_inside name) × IsUtf8 name
