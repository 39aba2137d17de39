-- The start of the server, and what its boot prints, by computing the definition of a line.
use Rattle.std.proofs.Common.{◌≡◌, ℕ, List, [], ◌∷◌, ◌++◌, Option, Some, None, Result, Ok, Err, length, refl, sym, ap, subst, ◌∙◌}
use Rattle.std.specs.Fmt.{digits}
use Rattle.std.specs.Prelude.{codes, false, map, IfSome, IsSome}
use Rattle.base_fields.specs.Fields.{u32_in}
use Rattle.base_fields.specs.Names.{is_game_name, base_of}
use Rattle.cmd_buffer.specs.Words.{words_of}
use Rattle.cmd_buffer.specs.Buffer.{cut}
use Rattle.cvar_table.specs.Cvars.{created}
use Rattle.zone_values.specs.Values.{put_value}
use Rattle.file_load.specs.Loads.{low_load}
use Rattle.mem_model.specs.Hunk.{with_low, over, low_bytes, with_low_bytes}
use Rattle.mem_model.specs.Cache.{pushed_up, up_in}
use Rattle.mem_model.specs.Memory.{Memory}
use Rattle.mem_model.specs.Operations.{low_alloc, low_free, z_alloc}
use Rattle.mem_model.specs.Zone.{chosen, with_taken, with_zone_bytes}
use Rattle.outside_io.specs.Files.{File}
use Rattle.pack_files.specs.Packs.{pack_of}
use Rattle.outside_io.specs.Streams.{Adds}
use Rattle.search_paths.specs.Answers.{IsMounted}
use Rattle.search_paths.specs.Mounts.{Mount, own_mounts}
use Rattle.search_paths.specs.Path.{PathState, told_mounts}
use Rattle.console_session.specs.States.{PathSeen, Reply, State, started}
use Rattle.console_session.specs.Commands.{command}
use Rattle.console_session.specs.Frames.{Ended, GoesAs, Ran, Runs, frame, line, texts}
use Rattle.console_session.specs.Sessions.{Seen}
use Rattle.example_server.specs.Boots.{IsStarted, boot_text, game_files, game_memory, game_mounts}

own_is : own_mounts 0 game_files ≡ Ok game_mounts
unfolding digits pack_of u32_in
own_is = refl

-- the path of the game, once it is mounted on an empty one
pub mounted_is : {F : Type 0} (files : F → Option (List File)) (before after : PathState F) (told : Option (List File))
    → before ≡ record { folders = []; mounts = [] } → told ≡ Some game_files
    → IfSome told (λ all. IsMounted (own_mounts (length before.folders) all) (told_mounts files before) (told_mounts files after) (Ok tt))
    → told_mounts files after ≡ map Some game_mounts
mounted_is files before after told empty tells mounted =
    let done : IsMounted (own_mounts 0 game_files) [] (told_mounts files after) (Ok tt) = rw (tells, empty) at mounted in
    rw own_is at done

pub has_started : (s : Seen) (m : Memory) (path : PathSeen) (speed : ℕ) → s.ended ≡ false → s.state ≡ started m path speed
    → m ≡ game_memory → speed ≡ 11025 → path.mounts ≡ map Some game_mounts → IsStarted s
has_started s m path speed going state memory rate mounts =
    let begun : s.state ≡ started game_memory path 11025 = rw (memory, rate) at state in
    record {
      going = going;
      mounts = ap (λ (x : State). x.path.mounts) begun ∙ mounts;
      state = subst (λ (p : PathSeen). s.state ≡ started game_memory p 11025) (sym (ap (λ (x : State). x.path) begun)) begun;
    }

-- the boot over a path that has these mounts
boot : PathSeen → Ran
boot path = line (codes "exec autoexec.cfg") (started game_memory (record path { mounts = map Some game_mounts }) 11025)

boot_prints : (path : PathSeen) → texts (boot path).replies ≡ boot_text
unfolding boot line frame command words_of cut low_load is_game_name base_of low_alloc low_free with_low pushed_up up_in low_bytes with_low_bytes over created put_value z_alloc chosen with_taken with_zone_bytes
boot_prints path = refl

boot_ends : (path : PathSeen) → IsSome (boot path).end
unfolding boot line frame command words_of cut low_load is_game_name base_of low_alloc low_free with_low pushed_up up_in low_bytes with_low_bytes over created put_value z_alloc chosen with_taken with_zone_bytes
boot_ends path = refl

put_all : (replies : List Reply) (end : Option Ended) (after : State) (start now : Option (List ℕ)) → IsSome end
    → GoesAs replies end (Ok false) after start now → Adds (texts replies) start now
put_all replies None after start now there runs = absurd (cc)
put_all replies (Some end) after start now there runs = runs.put

some_same : (start now text : List ℕ) → Some now ≡ Some (start ++ text) → now ≡ start ++ text
some_same start now text e = cc

pub booted : (s : Seen) (after : State) (start now : List ℕ) → IsStarted s
    → Runs (line (codes "exec autoexec.cfg") s.state) (Ok false) after (Some start) (Some now) → now ≡ start ++ boot_text
unfolding boot
booted s after start now is runs =
    let path : s.state.path ≡ record s.state.path { mounts = map Some game_mounts } = ap (λ mounts. record s.state.path { mounts = mounts }) is.mounts in
    let state : s.state ≡ started game_memory (record s.state.path { mounts = map Some game_mounts }) 11025 =
    is.state ∙ ap (λ (p : PathSeen). started game_memory p 11025) path in
    let done : Runs (boot s.state.path) (Ok false) after (Some start) (Some now) =
    subst (λ (x : State). Runs (line (codes "exec autoexec.cfg") x) (Ok false) after (Some start) (Some now)) state runs in
    let put : Adds (texts (boot s.state.path).replies) (Some start) (Some now) =
    put_all (boot s.state.path).replies (boot s.state.path).end after (Some start) (Some now) (boot_ends s.state.path) done in
    some_same start now boot_text (subst (λ (text : List ℕ). Adds text (Some start) (Some now)) (boot_prints s.state.path) put)
