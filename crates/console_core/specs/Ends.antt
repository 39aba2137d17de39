-- How a run ends.
use Rattle.std.specs.Prelude.{◌≡◌, ◌↔◌, ◌<◌, ◌≤◌, ◌+◌, ◌*◌, ◌⊎◌, ◌++◌, ◌∷◌, ℕ, List, [], length, take, drop, map, slice_get}
use Rattle.std.specs.Prelude.{slice_index, ⊤, Bool, true, false, ◌&&◌, if◌then◌else◌, Option, Some, None, Result, Ok, Err}
use Rattle.std.specs.Prelude.{option_map, IfSome, IfOk, IsOk, IsOkAnd, IsErr, codes, decimal}
use Rattle.outside_io.specs.Causes.{Rose}
use Rattle.outside_io.specs.Files.{File}
use Rattle.outside_io.specs.Streams.{Adds, Took}
use Rattle.command_line.specs.CommandLine.{IsAsked, IsFirstBad}
use Rattle.command_line.specs.declared.words.Request.{Request}
use Rattle.mem_model.specs.Memory.{new_memory}
use Rattle.mem_model.specs.Places.{hunk_need}
use Rattle.console_session.specs.States.{State, PathSeen, StillPut, started}
use Rattle.console_session.specs.Frames.{Ran, texts, IsCutShort}
use Rattle.console_core.specs.Runs.{quit_at, run_lines, lines_of, run}
use Rattle.console_core.specs.Outside.{Outside, NoneFell, IsUntouched, IsHandedOn, IsAtEnd}
use Rattle.console_core.specs.Reading.{limit, most_read}
use Rattle.pack_files.specs.declared.faults.PackFault.{PackFault}
use Rattle.pack_files.specs.declared.faults.PackFault.TheVariants.{NotPack, TooMany, DirOutside}
use Rattle.reply_pieces.specs.Pieces.{joined}
use Rattle.search_paths.specs.Mounts.{Mount, BadPack as BadPackOf, bad_pack, own_mounts, mounted}
use Rattle.search_paths.specs.Calls.{Asks as MakesCalls}
use Rattle.search_paths.specs.Counts.{NoneFalls}
use Rattle.search_paths.specs.Path.{PathState, all_some, told_of, counts_of, mounts_of}
use Rattle.search_paths.specs.declared.answers.MountError.{MountError}
use Rattle.search_paths.specs.declared.answers.MountError.TheVariants as error
use Rattle.console_session.specs.declared.session.TheConstants.{USERS}
use Rattle.console_session.specs.declared.ends.Fault.{Fault}
use Rattle.console_session.specs.declared.ends.Fault.TheVariants as fault
use Rattle.console_session.specs.declared.ends.StepEnd.{StepEnd}
use Rattle.console_session.specs.declared.ends.StepEnd.TheVariants as step
use Rattle.console_core.specs.declared.status.Status.{Status}
use Rattle.console_core.specs.declared.status.Status.TheVariants.{Done, Usage, OutOfMemory, TooSmall, BadPack, ScriptFault}
use Rattle.console_core.specs.declared.status.Status.TheVariants.{FolderFault, WriteFault, ScriptTooLong}

abbrev pub code_of : {F : Type 0} → Status F → ℕ
code_of Done = 0
code_of (Usage word) = 1
code_of OutOfMemory = 2
code_of TooSmall = 3
code_of (BadPack folder pack fault) = 4
code_of ScriptFault = 5
code_of (FolderFault word folder) = 6
code_of WriteFault = 7
code_of ScriptTooLong = 8

-- why a pack was not taken
abbrev pub fault_text : PackFault → List ℕ
fault_text NotPack = codes "not a pack"
fault_text (TooMany count) = decimal count ++ codes " entries"
fault_text DirOutside = codes "directory outside"

-- the folder's number among those that were mounted, and the pack's
abbrev pub bad_pack_text : (folder pack : ℕ) → PackFault → List ℕ
bad_pack_text folder pack fault =
    joined (codes "bad pack " ∷ decimal folder ∷ codes " " ∷ decimal pack ∷ codes ": " ∷ fault_text fault ∷ [])

-- the text of a status without numbers
abbrev pub plain_text : {F : Type 0} → Status F → List ℕ
plain_text (Usage word) = codes "usage: quake_cli [-heapsize KB] [-zone KB] [-speed HZ] folder ..."
plain_text OutOfMemory = codes "out of memory"
plain_text TooSmall = codes "heap too small"
plain_text ScriptFault = codes "script read fault"
plain_text (FolderFault word folder) = codes "folder read fault"
plain_text WriteFault = codes "write fault"
plain_text ScriptTooLong = codes "script too long"
plain_text status = []

abbrev pub status_text : {F : Type 0} → Status F → List ℕ
status_text (BadPack folder pack fault) = bad_pack_text folder pack fault
status_text status = plain_text status

-- whether a reply may have been put in a run that ended so
abbrev pub may_have_put : {F : Type 0} → Status F → Bool
may_have_put (Usage word) = false
may_have_put TooSmall = false
may_have_put (BadPack folder pack fault) = false
may_have_put status = true

-- The status that is told of a run, where `lost` says that the sink lost some of what was put: that is a fault of a put,
-- however the run ended.
abbrev pub status_told : {F : Type 0} → Status F → (lost : Bool) → Status F
status_told status lost = if lost && may_have_put status then WriteFault else status

-- the word of a faulty command line
abbrev pub usage_of : {F : Type 0} → Status F → Option ℕ
usage_of (Usage word) = Some word
usage_of status = None

-- What the words ask for, with 1 to 8 folders, or the number of the first that breaks the rule.
abbrev pub Asks : List (List ℕ) → Result Request ℕ → Type 0
Asks words (Ok request) = IsAsked words 8 request
Asks words (Err word) = IsFirstBad words 8 word

abbrev pub fault_of : Result Request ℕ → Option ℕ
fault_of (Ok request) = None
fault_of (Err word) = Some word

-- the zone's block, with its header, exceeds the heap
abbrev pub AsksTooMuch : Request → Type 0
AsksTooMuch request = 1024 * request.heap < hunk_need (1024 * request.zone)

-- how many events a plain store keeps
abbrev pub no_events : ℕ
no_events = 0

-- the state at the start, with a heap and a zone of so many KB, room for so many events, and the speed that is asked for
abbrev pub first_state : Request → (event_room : ℕ) → PathSeen → State
first_state request event_room path =
    started (new_memory (1024 * request.heap) (1024 * request.zone) USERS event_room) path request.speed

-- the number of the word of a folder, by its number among those that are asked for; the first folder's word has this number
abbrev pub word_of : (first number : ℕ) → ℕ
word_of first number = first + number

-- what is seen of a path of these folders, whose mounts these are
abbrev pub path_on : List (List File) → List Mount → PathSeen
path_on folders mounts =
    record { rows = map (λ mount. mount.row) mounts; mounts = map Some mounts; told = map Some folders }

-- a state all of whose mounts are told
abbrev pub told_state : State → Option State
told_state s = option_map (λ mounts. s) (all_some s.path.mounts)

-- the replies over the whole lines of these bytes were put, and `quit` was executed in no frame of them
pub record LinesWerePut (first : State) (bytes : List ℕ) (start now : Option (List ℕ)) : Type 0 where
  pub quit : quit_at (run_lines first (lines_of bytes).whole).end ≡ Some false
  pub put : Adds (texts (run_lines first (lines_of bytes).whole).replies) start now

-- the same, and more may have been put behind these replies
pub record LinesWereRun (first : State) (bytes : List ℕ) (start now : Option (List ℕ)) : Type 0 where
  pub mid : Option (List ℕ)
  pub lines : LinesWerePut first bytes start mid
  pub more : StillPut mid now

-- A line that ended in the last piece that was taken ended the run: the whole lines of what was taken earlier were run
-- before.
pub record IsInLastPiece (first : State) (taken : List ℕ) (start now : Option (List ℕ)) : Type 0 where
  pub earlier : List ℕ
  pub piece : List ℕ
  pub is : taken ≡ earlier ++ piece
  pub short : length piece ≤ most_read
  pub ran : LinesWereRun first earlier start now

-- Where a run ended: in a whole line, which `ends` says of the replies of the lines that were taken, and then it is in the
-- last piece; or behind all of the whole lines, with the script taken to its end.
abbrev pub EndsWithin : Option State → (taken : List ℕ) → (before now : Outside) → (ends : Ran → Type 0) → Type 0
EndsWithin first taken before now ends =
    (IsAtEnd now × IfSome first (λ s. LinesWereRun s taken before.got now.got))
    ⊎ IfSome first (λ s. ends (run_lines s (lines_of taken).whole) × IsInLastPiece s taken before.got now.got)

-- The replies of the run over the whole script were put, up to `quit` where that was executed. What was taken holds the line
-- in whose frame that was, or is the whole script.
pub record IsWhole (first : Option State) (before now : Outside) : Type 0 where
  pub taken : List ℕ
  pub took : Took taken before.rest now.rest
  pub size : length taken ≤ limit
  pub put : IfSome first (λ s. IfSome before.rest (λ script. Adds (texts (run s script).replies) before.got now.got))
  pub all : EndsWithin first taken before now (λ ran. quit_at ran.end ≡ Some true)

-- A fault ended the run over the whole script in one of its replies. What was taken holds the line of that reply, or is the
-- whole script.
pub record IsCutAt (fault : Fault) (first : Option State) (before now : Outside) : Type 0 where
  pub taken : List ℕ
  pub took : Took taken before.rest now.rest
  pub size : length taken ≤ limit
  pub put : IfSome first (λ s. IfSome before.rest (λ script. IsCutShort (run s script).replies fault before.got now.got))
  pub held : EndsWithin first taken before now (λ ran. IsCutShort ran.replies fault before.got now.got)

-- a read failed behind these bytes, whose whole lines were run
pub record IsFailed (first : Option State) (before now : Outside) : Type 0 where
  pub taken : List ℕ
  pub took : Took taken before.rest now.rest
  pub size : length taken ≤ limit
  pub put : IfSome first (λ s. LinesWerePut s taken before.got now.got)

-- a byte past the limit was taken, and the whole lines of the bytes before it were run
pub record IsPastLimit (first : Option State) (before now : Outside) : Type 0 where
  pub taken : List ℕ
  pub took : Took taken before.rest now.rest
  pub size : length taken ≡ limit + 1
  pub put : IfSome first (λ s. LinesWerePut s (take limit taken) before.got now.got)

-- What is so of the run on the path of these folders, which has no bad pack, where they tell their files.
abbrev pub OnPath : Option (List (List File)) → (Option PathSeen → Type 0) → Type 0
OnPath None run = run None
OnPath (Some folders) run = (mounts : List Mount) × (mounted folders ≡ Ok mounts) × run (Some (path_on folders mounts))

-- What a run from this state on took of the script and put, for each status that it may have, where the first folder's word
-- has this number. Where not all mounts are told, nothing is said of what was put.
abbrev pub RunEnds : {F : Type 0} → Option State → (word : ℕ) → (before now : Outside) → Status F → Type 0
RunEnds first word before now Done = IsWhole first before now
RunEnds first word before now OutOfMemory = IsCutAt fault.Memory first before now
RunEnds first word before now ScriptFault = IsFailed first before now
RunEnds first word before now (FolderFault failed folder) =
    (number : ℕ) × (failed ≡ word_of word number) × IsCutAt (fault.Folder number) first before now
RunEnds first word before now WriteFault = IsCutAt fault.Write first before now
RunEnds first word before now ScriptTooLong = IsPastLimit first before now
RunEnds first word before now status = ⊥

-- those of these folders that tell their files have no bad pack; the first has this number
abbrev pub HaveNoBadPack : (number : ℕ) → List (Option (List File)) → Type 0
HaveNoBadPack number [] = ⊤
HaveNoBadPack number (told ∷ more) =
    IfSome told (λ files. IsOk (own_mounts number files)) × HaveNoBadPack (number + 1) more

-- The first bad pack of the folders: where its folder tells its files, it is the first of that one, and those before have
-- none.
pub record IsFirstBadPack (told : List (Option (List File))) (bad : BadPackOf) : Type 0 where
  pub files : Option (List File)
  pub is : slice_get told bad.folder ≡ Some files
  pub before : HaveNoBadPack 0 (take bad.folder told)
  pub own : IfSome files (λ all. own_mounts bad.folder all ≡ Err bad)

-- How the mounting of these folders failed at the one of this number, which is this one now: those before it have no bad
-- pack, and of its own packs none is bad before the one at which it failed, which its calls tell.
pub record FailsAt {F : Type 0} (files_of : F → Option (List File)) (calls_of : F → ℕ) (folders : List F) (number : ℕ)
    (folder : F) : Type 0 where
  pub before : F
  pub is : slice_get folders number ≡ Some before
  pub good : HaveNoBadPack 0 (take number (map files_of folders))
  pub asks : MakesCalls files_of calls_of 0 before folder (Err (error.FolderFault number))

-- What may end the opening, where the first folder's word has this number.
abbrev pub OpeningEnds : {F : Type 0} → (word : ℕ) → (F → Option (List File)) → (F → ℕ) → List F → Status F → Type 0
OpeningEnds word files_of calls_of folders OutOfMemory = ⊤
OpeningEnds word files_of calls_of folders TooSmall = ⊤
OpeningEnds word files_of calls_of folders (BadPack folder pack fault) =
    IsFirstBadPack (map files_of folders) (bad_pack folder pack fault)
OpeningEnds word files_of calls_of folders (FolderFault failed folder) =
    (number : ℕ) × (failed ≡ word_of word number) × FailsAt files_of calls_of folders number folder
OpeningEnds word files_of calls_of folders status = ⊥

-- The opening ended, with nothing taken and nothing put; or a run did, on the path of the folders, which have no bad pack.
abbrev pub Ends : {F : Type 0} → (F → Option (List File)) → (F → ℕ) → List F → Request → (event_room : ℕ)
    → (before now : Outside) → Status F → Type 0
Ends files_of calls_of folders request event_room before now status =
    (OpeningEnds request.first files_of calls_of folders status × IsUntouched before now)
    ⊎ (HaveNoBadPack 0 (map files_of folders) × OnPath (all_some (map files_of folders))
    (λ path. RunEnds (option_map (first_state request event_room) path) request.first before now status))

-- What was taken and put by words, which may be faulty. The folders that are asked for are those of the last words.
abbrev pub EndsFor : {F : Type 0} → Result Request ℕ → (event_room : ℕ) → (F → Option (List File)) → (F → ℕ) → List F
    → (before now : Outside) → Status F → Type 0
EndsFor (Ok request) event_room files_of calls_of folders before now status =
    Ends files_of calls_of (drop request.first folders) request event_room before now status
EndsFor (Err word) event_room files_of calls_of folders before now status = IsUntouched before now

-- the counts are as they were
abbrev pub IsUncalled : (before now : Outside) → Type 0
IsUncalled before now = (now.script_faults ≡ before.script_faults) × (now.sink_faults ≡ before.sink_faults)

-- A fault of the script or the sink came from that one: its count rose over the run. A faulty command line, one that asks
-- for too much, and a bad pack call neither.
abbrev pub HasOwnCause : {F : Type 0} → (before now : Outside) → Status F → Type 0
HasOwnCause before now (Usage word) = IsUncalled before now
HasOwnCause before now TooSmall = IsUncalled before now
HasOwnCause before now (BadPack folder pack fault) = IsUncalled before now
HasOwnCause before now ScriptFault = Rose before.script_faults now.script_faults
HasOwnCause before now WriteFault = Rose before.sink_faults now.sink_faults
HasOwnCause before now status = ⊤

-- this folder is what became of the one of this number: it tells the files that it told, and its count of faults rose
pub record IsFailedFolder {F : Type 0} (files_of : F → Option (List File)) (faults_of : F → ℕ) (folders : List F)
    (number : ℕ) (folder : F) : Type 0 where
  pub before : F
  pub is : slice_get folders number ≡ Some before
  pub told : files_of folder ≡ files_of before
  pub rose : Rose (faults_of before) (faults_of folder)

-- The folder that is handed back is that of a word that was asked for. A bad pack is in one of the folders that were asked
-- for.
abbrev pub HandsBack : {F : Type 0} → (F → Option (List File)) → (F → ℕ) → List F → Result Request ℕ → Status F → Type 0
HandsBack files_of faults_of folders asked (BadPack folder pack fault) =
    IfOk asked (λ request. folder < request.folders) × (pack < 32)
HandsBack files_of faults_of folders asked (FolderFault word folder) =
    IfOk asked (λ request. request.first ≤ word) × IsFailedFolder files_of faults_of folders word folder
HandsBack files_of faults_of folders asked status = ⊤

-- The status of a run that ended so. The folder of a folder's fault has this number among those that are held; the word of
-- the first has the number `first`.
abbrev pub IsStatusOf : {F : Type 0} → StepEnd → (first : ℕ) → (F → Option (List File)) → (F → ℕ) → List (Option (List File))
    → (counts : List ℕ) → Status F → Type 0
IsStatusOf step.Went first files_of faults_of told counts status = status ≡ Done
IsStatusOf step.Quit first files_of faults_of told counts status = status ≡ Done
IsStatusOf {F} (step.FolderFault number) first files_of faults_of told counts status =
    (folder : F) × (status ≡ FolderFault (word_of first number) folder) × (slice_get told number ≡ Some (files_of folder))
    × (slice_get counts number ≡ Some (faults_of folder))
IsStatusOf step.WriteFault first files_of faults_of told counts status = status ≡ WriteFault
IsStatusOf step.OutOfMemory first files_of faults_of told counts status = status ≡ OutOfMemory

-- a folder's fault names one of so many
abbrev pub IsAmong : ℕ → StepEnd → Type 0
IsAmong folders (step.FolderFault folder) = folder < folders
IsAmong folders end = ⊤

-- The folder that a folder's fault hands back is that of a word from `first` on; it tells what it told, and its count rose.
-- A bad pack is in one of the folders.
abbrev pub HandsOver : {F : Type 0} → (first : ℕ) → (F → Option (List File)) → (F → ℕ) → List (Option (List File))
    → (counts : List ℕ) → Status F → Type 0
HandsOver first files_of faults told counts (BadPack folder pack fault) = (folder < length told) × (pack < 32)
HandsOver first files_of faults told counts (FolderFault word folder) =
    (number : ℕ) × (word ≡ word_of first number) × (slice_get told number ≡ Some (files_of folder))
    × Rose (slice_index counts number) (faults folder)
HandsOver first files_of faults told counts status = ⊤

-- The path holds the folders: each tells what it told, and no count of faults fell. Those that tell have no bad pack, and
-- where all do, the mounts are theirs, in front of each other.
pub record IsPathOf {F : Type 0} (files_of : F → Option (List File)) (faults_of : F → ℕ) (folders : List F)
    (path : PathState F) : Type 0 where
  pub told : told_of files_of path ≡ map files_of folders
  pub none_falls : NoneFalls (map faults_of folders) (counts_of faults_of path)
  pub good : HaveNoBadPack 0 (map files_of folders)
  pub mounts : IfSome (all_some (map files_of folders)) (λ told. IsOkAnd (mounted told) (λ mounts.
      mounts_of files_of path ≡ Some mounts))

-- The folders were mounted one after another; or one of them has the first bad pack, or failed.
abbrev pub IsOpened : {F : Type 0} → (first : ℕ) → (F → Option (List File)) → (faults calls : F → ℕ) → List F
    → Result (PathState F) (Status F) → Type 0
IsOpened first files_of faults_of calls_of folders (Ok path) = IsPathOf files_of faults_of folders path
IsOpened first files_of faults_of calls_of folders (Err status) =
    OpeningEnds first files_of calls_of folders status
    × HandsOver first files_of faults_of (map files_of folders) (map faults_of folders) status

-- the status of a run whose last folder was not mounted
abbrev pub IsUnopened : {F : Type 0} → MountError → (first : ℕ) → PathState F → Status F → Type 0
IsUnopened (error.BadPack folder pack fault) first path status = status ≡ BadPack folder pack fault
IsUnopened {F} (error.FolderFault number) first path status =
    (folder : F) × (status ≡ FolderFault (word_of first number) folder) × (slice_get path.folders number ≡ Some folder)
IsUnopened error.OutOfMemory first path status = status ≡ OutOfMemory

-- What the words ask for, which is one thing, or which of them breaks the rule; and what came of it: what was taken, put and
-- handed on, whose fault it was, and what was handed back.
pub record HasOutcome {F : Type 0} (event_room : ℕ) (words : List (List ℕ)) (files_of : F → Option (List File))
    (faults_of calls_of : F → ℕ) (folders : List F) (before now : Outside) (status : Status F) : Type 0 where
  pub asked : Result Request ℕ
  pub is : Asks words asked
  pub usage : usage_of status ≡ fault_of asked
  pub too_small : IfOk asked (λ request. (status ≡ TooSmall) ↔ AsksTooMuch request)
  pub ends : EndsFor asked event_room files_of calls_of folders before now status
  pub handed_on : IsHandedOn before now
  pub counts : NoneFell before now
  pub cause : HasOwnCause before now status
  pub handed_back : HandsBack files_of faults_of folders asked status

-- An answer to lawful words and a short script where no count of the script or the sink rises. With a bad pack the folders
-- that were asked for, where they tell their files, are no path.
abbrev pub IsComplete : {F : Type 0} → Option (List (List File)) → Status F → Type 0
IsComplete told Done = ⊤
IsComplete told OutOfMemory = ⊤
IsComplete told (BadPack folder pack fault) = IfSome told (λ folders. IsErr (mounted folders))
IsComplete told (FolderFault word folder) = ⊤
IsComplete told status = ⊥
