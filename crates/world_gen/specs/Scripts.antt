-- The script of a game: commands for resources that are drawn, and a report.
use Rattle.std.specs.Prelude.{ℕ, zero, suc, ◌%◌, List, [], ◌++◌, codes}
use Rattle.world_gen.specs.Draws.{stepped, drawn}
use Rattle.world_gen.specs.Packs.{behind_files}
use Rattle.world_gen.specs.Resources.{numbered, command}

-- so many commands, a draw for each
unfoldable pub commands : (count : ℕ) → (state : ℕ) → List ℕ
commands zero state = []
commands (suc count) state = command (numbered (drawn state % 34)) ++ commands count (stepped state)

-- the script of a game's number, drawn behind its files
unfoldable pub script_of : ℕ → List ℕ
script_of number = commands 256 (behind_files 34 0 number) ++ codes "report\n"
