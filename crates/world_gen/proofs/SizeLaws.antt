-- The two files of a game are short.
use Rattle.std.proofs.Common.{◌≡◌, ℕ, zero, suc, ◌+◌, ◌*◌, ◌^◌, ◌%◌, ◌<◌, ◌≤◌, ◌++◌, length, refl, length-append, arith}
use Rattle.std.specs.Prelude.{codes}
use Rattle.world_gen.specs.declared.resources.Resource.{Resource}
use Rattle.world_gen.specs.declared.resources.Resource.TheVariants.{Sound, Sprite, Map}
use Rattle.world_gen.specs.Draws.{stepped, drawn}
use Rattle.world_gen.specs.Numbers.{word}
use Rattle.world_gen.specs.Packs.{behind_files, contents, files_from, pack_header, pack_of, row, rows_from, pack}
use Rattle.world_gen.specs.Resources.{behind_file, command, file_name, file_of, numbered}
use Rattle.world_gen.specs.Scripts.{commands, script_of}
use Rattle.world_gen.proofs.LengthLaws.{length-file, length-row}

length-contents : (count n state : ℕ) → length (contents (files_from count n state)) ≤ 65536 * count
unfolding contents files_from
length-contents zero n state = omega arith
length-contents (suc count) n state =
    let file = file_of (numbered n) state in
    let after = behind_file (numbered n) state in
    omega (
      arith,
      length-append file (contents (files_from count (n + 1) after)),
      length-file (numbered n) state,
      length-contents count (n + 1) after,
    )

length-directory : (count n state at : ℕ) → length (rows_from at (files_from count n state)) ≡ 64 * count
unfolding rows_from files_from
length-directory zero n state at = refl
length-directory (suc count) n state at =
    let file = file_of (numbered n) state in
    let after = behind_file (numbered n) state in
    let next = at + length file in
    omega (
      arith,
      length-append (row (file_name (numbered n)) at (length file)) (rows_from next (files_from count (n + 1) after)),
      length-row (numbered n) at (length file),
      length-directory count (n + 1) after next,
    )

length-header : (at size : ℕ) → length (pack_header at size) ≡ 12
unfolding pack_header word
length-header at size = refl

pub pack_small : (number : ℕ) → length (pack_of number) < 2 ^ 32
unfolding pack_of pack
pack_small number =
    let files = files_from 34 0 number in
    let held = contents files in
    let rows = rows_from 12 files in
    let header = pack_header (12 + length held) (length rows) in
    omega (
      arith,
      length-append header held,
      length-append (header ++ held) rows,
      length-header (12 + length held) (length rows),
      length-contents 34 0 number,
      length-directory 34 0 number 12,
    )

length-command : (resource : Resource) → length (command resource) ≤ 14
length-command (Sound n) = omega arith
length-command (Sprite n) = omega arith
length-command (Map n) = omega arith

length-commands : (count state : ℕ) → length (commands count state) ≤ 14 * count
unfolding commands
length-commands zero state = omega arith
length-commands (suc count) state =
    let resource = numbered (drawn state % 34) in
    omega (
      arith,
      length-append (command resource) (commands count (stepped state)),
      length-command resource,
      length-commands count (stepped state),
    )

pub script_small : (number : ℕ) → length (script_of number) < 2 ^ 32
unfolding script_of
script_small number =
    let state = behind_files 34 0 number in
    omega (arith, length-append (commands 256 state) (codes "report\n"), length-commands 256 state)

pub ruleset size_laws = (pack_small, script_small)
