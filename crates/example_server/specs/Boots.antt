-- The game of the server, and what its boot prints.
use Rattle.std.specs.Prelude.{◌≡◌, ℕ, List, [], ◌∷◌, length, Some, map, codes, false}
use Rattle.outside_io.specs.Files.{File}
use Rattle.pack_files.specs.Packs.{PackTable}
use Rattle.search_paths.specs.Mounts.{Mount, folder_mount, pack_mount}
use Rattle.mem_model.specs.Memory.{Memory, new_memory}
use Rattle.console_session.specs.Sessions.{Seen}
use Rattle.console_session.specs.States.{PathSeen, started}
use Rattle.example_server.specs.declared.game.TheConstants.{CONFIG, PACK}

abbrev pub game_files : List File
game_files = record { name = codes "autoexec.cfg"; bytes = CONFIG.now }
    ∷ record { name = codes "pak0.pak"; bytes = PACK.now } ∷ []

abbrev pub game_memory : Memory
game_memory = new_memory 1048576 49152 768 0

-- what is kept of its pack
abbrev pub game_pack : PackTable
game_pack = record {
  rows = record { name = codes "maps/e1m1.cfg"; entry = record { offset = 12; length = 11 } } ∷ [];
  count = 1;
  whole = length PACK.now;
}

-- its mounts, the pack in front of the folder
abbrev pub game_mounts : List Mount
game_mounts = pack_mount 0 0 PACK.now game_pack ∷ folder_mount 0 game_files ∷ []

-- A session that has just begun over the game.
pub record IsStarted (s : Seen) : Type 0 where
  pub going : s.ended ≡ false
  pub mounts : s.state.path.mounts ≡ map Some game_mounts
  pub state : s.state ≡ started game_memory s.state.path 11025

abbrev pub boot_text : List ℕ
boot_text = codes "execing autoexec.cfg\nhello \nexecing maps/e1m1.cfg\na map \n"
