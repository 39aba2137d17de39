-- The rows of a table.
use Rattle.std.proofs.Common.{◌≡◌, ℕ, ◌<◌, ◌≤◌, ◌+◌, List, [], ◌∷◌, ◌++◌, None, OnOk, IsOk, Result, Ok, Err, length, bytes_eq, ap, sym, ◌∙◌, true≢false, arith}
use Rattle.std.proofs.lemmas.List.{length_push}
use Rattle.indexmap.specs.IndexMap.{IndexMap, insert_entry, spare}
use Rattle.indexmap.proofs.CallerLemmas.{insert_entry-new, index_map_len-with_value_at}
use Rattle.indexmap.proofs.MapLemmas.{Missing-position}
use Rattle.res_table.specs.Tables.{slot_of}
use Rattle.res_table.specs.declared.slots.Loaded.{Loaded}

-- a map with a further name, where it had room
pub record IsAdded {S : Type 0} (most : ℕ) (m new : IndexMap (List ℕ) Loaded S) (name : List ℕ) (loaded : Loaded) : Type 0 where
  pub rows : new.entries ≡ m.entries ++ (name, loaded) ∷ []
  pub fits : length new.entries ≤ most
  pub room : most ≤ length new.entries + spare new

ok_then : {A E : Type 0} {P : Type 0} (r : Result A E) → IsOk r → OnOk r P → P
ok_then (Ok a) is p = p
ok_then (Err e) is p = absurd (true≢false (sym is))

pub is_added : {S A E : Type 0} (most : ℕ) (m new : IndexMap (List ℕ) Loaded S) (name : List ℕ) (loaded : Loaded) (result : Result A E)
    → slot_of name m.entries ≡ None → length m.entries < most → most ≤ length m.entries + spare m
    → (0 < spare m → IsOk result) → OnOk result (new.entries ≡ insert_entry bytes_eq m.entries name loaded) → spare m ≤ spare new + 1
    → IsAdded most m new name loaded
is_added most m new name loaded result none room fits succeeds entries kept =
    let absent = (Missing-position (bytes_eq name) m.entries none).value in
    let rows : new.entries ≡ m.entries ++ (name, loaded) ∷ [] = ok_then result (succeeds (omega (arith, room, fits))) entries ∙ insert_entry-new bytes_eq m name loaded absent in
    let count : length new.entries ≡ length m.entries + 1 = ap length rows ∙ length_push m.entries (name, loaded) in
    record { rows = rows; fits = omega (arith, count, room); room = omega (arith, count, kept, fits) }

pub ruleset set_laws = (index_map_len-with_value_at)
