-- The commands.
use Rattle.std.specs.Prelude.{ℕ, Bool, true, false, ◌==◌, ◌&&◌, if◌then◌else◌, List, [], ◌∷◌, ◌++◌, length, bytes_eq, is_none}
use Rattle.std.specs.Prelude.{drop, slice_index_or, Option, Some, None, option_and_then, Result, Ok, Err, codes, decimal}
use Rattle.base_fields.specs.Names.{lawful_name, joined_name, base_of, is_game_name}
use Rattle.base_fields.specs.Numbers.{number_of}
use Rattle.base_fields.specs.Texts.{until_zero}
use Rattle.search_paths.specs.declared.answers.MountRow.{MountRow}
use Rattle.search_paths.specs.declared.answers.MountRow.TheVariants as row
use Rattle.file_load.specs.Loads.{Load, Load.Missing, Load.Beyond, Load.NoRoom, Load.At, Loading, load_low, load_temp}
use Rattle.mem_model.specs.Memory.{Memory, low_used}
use Rattle.mem_model.specs.Answer.{Answered}
use Rattle.mem_model.specs.Event.{Shortage}
use Rattle.mem_model.specs.Operations.{low_alloc, low_free, high_alloc, high_mark, high_free, flush}
use Rattle.block_report.specs.Reports.{report_text}
use Rattle.cmd_buffer.specs.Words.{words_of}
use Rattle.cmd_buffer.specs.Buffer.{fits_in, cut, short_command}
use Rattle.cmd_buffer.specs.Aliases.{AliasText, AliasSet, AliasRefusal, AliasRefusal.LongName, AliasRefusal.Full}
use Rattle.cmd_buffer.specs.Aliases.{alias_texts, alias_value, set_alias}
use Rattle.cvar_table.specs.Cvars.{CvarSet, cvar_value, set_cvar}
use Rattle.info_text.specs.Dumps.{dump_text}
use Rattle.info_text.specs.Infos.{info_text}
use Rattle.info_text.specs.LeafRows.{leaf_text}
use Rattle.info_text.specs.Lines.{bad_text, resource_text}
use Rattle.map_change.specs.Changes.{freed_to}
use Rattle.reply_pieces.specs.Pieces.{joined}
use Rattle.res_table.specs.Acquire.{Acquired, acquire, answered_before}
use Rattle.res_table.specs.Forgotten.{forgotten}
use Rattle.res_table.specs.Held.{seen}
use Rattle.res_table.specs.Images.{file_of}
use Rattle.res_table.specs.declared.answers.AcquireError.{AcquireError}
use Rattle.res_table.specs.declared.answers.AcquireError.TheVariants as acquire_error
use Rattle.res_table.specs.declared.answers.Res.{Res}
use Rattle.res_table.specs.declared.kinds.Kind.{Kind}
use Rattle.res_table.specs.declared.kinds.Kind.TheVariants as kind
use Rattle.res_table.specs.declared.kinds.Table.{Table}
use Rattle.res_table.specs.declared.kinds.Table.TheVariants.{Models, Sounds}
use Rattle.wad2_lumps.specs.Names.{cleaned}
use Rattle.console_session.specs.Pictures.{lump_text}
use Rattle.console_session.specs.Verbs.{verb_of}
use Rattle.console_session.specs.States.{State, Did, Told, Untold, says, takes, loads}
use Rattle.console_session.specs.declared.ends.Next.TheVariants.{Goes, Waits, Hands, Quits}
use Rattle.console_session.specs.declared.verbs.Verb.{Verb}
use Rattle.console_session.specs.declared.verbs.Verb.TheVariants as verb

-- the word of this number, empty where there is none
abbrev pub word_at : ℕ → List (List ℕ) → List ℕ
word_at number words = slice_index_or words number []

-- each word followed by a space, and a newline at the end
abbrev pub spaced : List (List ℕ) → List ℕ
spaced [] = 10 ∷ []
spaced (word ∷ words) = (word ++ 32 ∷ []) ++ spaced words

abbrev pub answer_echo : List (List ℕ) → State → Did
answer_echo words s = says s Goes (spaced (drop 1 words))

abbrev pub bad_name : State → Did
bad_name s = says s Goes (joined (codes "bad name\n" ∷ []))

abbrev pub bad_number : State → Did
bad_number s = says s Goes (joined (codes "bad number\n" ∷ []))

abbrev pub short_text : ℕ → List ℕ
short_text asked = joined (codes "failed on " ∷ decimal asked ∷ codes " bytes\n" ∷ [])

-- there is no file of the name
abbrev pub missing_text : (missing name : List ℕ) → List ℕ
missing_text missing name = joined (missing ∷ name ∷ codes "\n" ∷ [])

-- a file ends here, past the end of its pack
abbrev pub beyond_text : List ℕ → (end whole : ℕ) → List ℕ
beyond_text name end whole =
    joined (codes "beyond pack: " ∷ name ∷ codes " ends at " ∷ decimal end ∷ codes " of " ∷ decimal whole ∷ codes "\n" ∷ [])

-- A command on a file that was loaded: `did` says what it does with the bytes at their place, in the memory after the load.
-- Each refusal is told, and leaves what the load leaves.
abbrev pub with_load : (missing name : List ℕ) → (State → Memory → ℕ → List ℕ → Did) → State → Memory → Load → Did
with_load missing name did s m Missing = loads (record s { memory = m }) (missing_text missing name)
with_load missing name did s m (Beyond end whole) = loads (record s { memory = m }) (beyond_text name end whole)
with_load missing name did s m (NoRoom shortage) = loads (record s { memory = m }) (short_text shortage.asked)
with_load missing name did s m (At place bytes) = did s m place bytes

abbrev pub with_told : (missing name : List ℕ) → (State → Memory → ℕ → List ℕ → Did) → State → Option Loading → Did
with_told missing name did s None = Untold
with_told missing name did s (Some loading) = with_load missing name did s loading.after loading.load

-- a command on the file of a name, where that is lawful; `missing` stands before the name where there is no such file
abbrev pub by_load : List ℕ → (List ℕ → State → Memory → ℕ → List ℕ → Did) → Option (List ℕ) → State → Did
by_load missing did None s = bad_name s
by_load missing did (Some name) s = with_told missing name (did name) s (load_low s.path.mounts s.memory name)

abbrev pub file_text : List ℕ → (size place : ℕ) → List ℕ
file_text name size place =
    joined (codes "file " ∷ name ∷ codes " " ∷ decimal size ∷ codes " at " ∷ decimal place ∷ codes "\n" ∷ [])

abbrev pub shown_file : List ℕ → State → Memory → ℕ → List ℕ → Did
shown_file name s m place bytes = loads (record s { memory = m }) (file_text name (length bytes) place)

abbrev pub answer_file : Option (List ℕ) → State → Did
answer_file name s = by_load (codes "not found: ") shown_file name s

-- what `exec` prints of a file that was loaded, and inserted_text or not
abbrev pub exec_text : List ℕ → Bool → List ℕ
exec_text name fits = joined (codes "execing " ∷ name ∷ codes "\n" ∷ (if fits then [] else codes "overflow\n") ∷ [])

abbrev pub inserted_text : List ℕ → State → Memory → List ℕ → Did
inserted_text name s m text =
    loads (record s { memory = m; buffer = (if fits_in text s.buffer then text ++ s.buffer else s.buffer) })
    (exec_text name (fits_in text s.buffer))

-- what was loaded is inserted_text in front of the buffer, and the low hunk is freed to the mark before the load
abbrev pub inserted_file : List ℕ → State → Memory → ℕ → List ℕ → Did
inserted_file name s m place bytes = inserted_text name s (low_free m (low_used s.memory)).after (until_zero bytes)

abbrev pub answer_exec : Option (List ℕ) → State → Did
answer_exec name s = by_load (codes "couldn't exec ") inserted_file name s

-- what a command does with a number and a name, which are refused in this order
abbrev pub of_number_and_name : (ℕ → List ℕ → State → Did) → Option ℕ → Option (List ℕ) → State → Did
of_number_and_name did None name s = bad_number s
of_number_and_name did (Some size) None s = bad_name s
of_number_and_name did (Some size) (Some name) s = did size name s

abbrev pub block_text : (title name : List ℕ) → (size place : ℕ) → List ℕ
block_text title name size place =
    joined (title ∷ name ∷ codes " " ∷ decimal size ∷ codes " at " ∷ decimal place ∷ codes "\n" ∷ [])

abbrev pub given_text : (title name : List ℕ) → ℕ → Result ℕ Shortage → List ℕ
given_text title name size (Err shortage) = short_text shortage.asked
given_text title name size (Ok place) = block_text title name size place

-- a block was asked for, and the memory gave this
abbrev pub given_block : State → (title name : List ℕ) → ℕ → Answered (Result ℕ Shortage) → Did
given_block s title name size given = takes (record s { memory = given.after }) (given_text title name size given.answer)

-- a low block, named by the name's base
abbrev pub reserve_block : ℕ → List ℕ → State → Did
reserve_block size name s = given_block s (codes "reserve ") name size (low_alloc s.memory size (base_of name))

abbrev pub answer_reserve : Option ℕ → Option (List ℕ) → State → Did
answer_reserve size name s = of_number_and_name reserve_block size name s

-- the memory with no high block
abbrev pub high_cleared : Memory → Memory
high_cleared m = (high_free (high_mark m).after 0).after

-- a high block in the place of all others, which are freed whether there is room or not
abbrev pub video_block : ℕ → List ℕ → State → Did
video_block size name s = given_block s (codes "video ") name size (high_alloc (high_cleared s.memory) size (base_of name))

abbrev pub answer_video : Option ℕ → Option (List ℕ) → State → Did
answer_video size name s = of_number_and_name video_block size name s

-- the host level becomes where the low hunk ends
abbrev pub answer_level : State → Did
answer_level s = says (record s { level = low_used s.memory }) Goes
    (joined (codes "level " ∷ decimal (low_used s.memory) ∷ codes "\n" ∷ []))

-- a mount as `path` lists it
abbrev pub mount_line : MountRow → List ℕ
mount_line (row.Folder folder) = joined (codes "folder " ∷ decimal folder ∷ codes "\n" ∷ [])
mount_line (row.Pack folder pack count) =
    joined (codes "pack " ∷ decimal folder ∷ codes " pak" ∷ decimal pack
    ∷ codes ".pak " ∷ decimal count ∷ codes " files\n" ∷ [])

abbrev pub mount_lines : List MountRow → List ℕ
mount_lines [] = []
mount_lines (listed ∷ others) = mount_line listed ++ mount_lines others

abbrev pub answer_path : State → Did
answer_path s = says s Goes (mount_lines s.path.rows)

abbrev pub answer_report : State → Did
answer_report s = says s Goes (report_text s.memory)

-- the cache loses all blocks
abbrev pub answer_flush : State → Did
answer_flush s = says (record s { memory = (flush s.memory).after }) Goes []

-- Why a resource was not acquired; the name of its file is told where that can't be loaded. What is told of acquiring is
-- neither of the last two.
abbrev pub refused_text : (name file : List ℕ) → AcquireError → List ℕ
refused_text name file acquire_error.TableFull = joined (codes "table full\n" ∷ [])
refused_text name file acquire_error.NotFound = missing_text (codes "not found: ") file
refused_text name file (acquire_error.BeyondPack end whole) = beyond_text file end whole
refused_text name file (acquire_error.Bad fault) = bad_text name fault
refused_text name file (acquire_error.NoRoom asked room) = short_text asked
refused_text name file (acquire_error.FolderFault folder) = []
refused_text name file acquire_error.OutOfMemory = []

-- what is told of acquiring, where `tells` says what is told of a resource
abbrev pub acquired_text : (tells : Res → List ℕ) → (name file : List ℕ) → Result Res AcquireError → List ℕ
acquired_text tells name file (Ok res) = tells res
acquired_text tells name file (Err error) = refused_text name file error

-- A resource was acquired; where its file was needed, it was asked for, and so was memory. `names` says which are the current
-- wad and the current map after an answer.
abbrev pub with_acquired : (needed : Bool) → (tells : Res → List ℕ) → (names : Result Res AcquireError → State → State)
    → (name file : List ℕ) → State → Option Acquired → Did
with_acquired needed tells names name file s None = Untold
with_acquired needed tells names name file s (Some given) = Told (record {
  after = names given.answer (record s { memory = given.after; table = given.table });
  reply = record { text = acquired_text tells name file given.answer; load = needed; takes = needed };
  next = Goes;
})

-- a command that acquires the resource of a name
abbrev pub by_resource : (tells : Res → List ℕ) → (names : Result Res AcquireError → State → State)
    → Table → (name : List ℕ) → State → Did
by_resource tells names table name s =
    with_acquired (is_none (answered_before s.table s.memory table name)) tells names name (file_of table name) s
    (acquire s.table s.memory table name (load_temp s.path.mounts s.memory (file_of table name)))

-- the current wad and the current map stay
abbrev pub same_names : Result Res AcquireError → State → State
same_names answer s = s

abbrev pub acquire_named : Table → List ℕ → State → Did
acquire_named table name s = by_resource (resource_text name) same_names table name s

-- the resource of a name is acquired, where the name and that of its file are lawful
abbrev pub answer_acquire : Table → Option (List ℕ) → State → Did
answer_acquire table None s = bad_name s
answer_acquire table (Some name) s =
    if is_game_name (file_of table name) then acquire_named table name s else bad_name s

abbrev pub is_wad : Kind → Bool
is_wad kind.Wad = true
is_wad other = false

abbrev pub not_wad_text : List ℕ → List ℕ
not_wad_text name = joined (name ∷ codes " is no wad\n" ∷ [])

-- what is told of a model that is to be the current wad
abbrev pub wad_text : List ℕ → Res → List ℕ
wad_text name res = if is_wad res.kind then resource_text name res else not_wad_text name

-- the current wad after that: the model, where it was acquired and is a wad
abbrev pub wad_after : (old : Option (List ℕ)) → (name : List ℕ) → Result Res AcquireError → Option (List ℕ)
wad_after old name (Ok res) = if is_wad res.kind then Some name else old
wad_after old name (Err error) = old

abbrev pub takes_wad : (name : List ℕ) → Result Res AcquireError → State → State
takes_wad name answer s = record s { wad = wad_after s.wad name answer }

-- the model of a name is acquired, to be the current wad
abbrev pub answer_wad : Option (List ℕ) → State → Did
answer_wad None s = bad_name s
answer_wad (Some name) s = by_resource (wad_text name) (takes_wad name) Models name s

-- What lies behind the host level is freed, and forgotten.
abbrev pub cleared : State → State
cleared s = record s { memory = freed_to s.level s.memory; table = forgotten s.level s.table }

abbrev pub is_brush : Kind → Bool
is_brush kind.Brush = true
is_brush other = false

abbrev pub not_map_text : List ℕ → List ℕ
not_map_text file = joined (file ∷ codes " is no map\n" ∷ [])

-- what is told of a model that is to be a map
abbrev pub map_text : (file : List ℕ) → Res → List ℕ
map_text file res = if is_brush res.kind then resource_text file res else not_map_text file

-- the current map after that: the model, where it was acquired and is a brush model, and else none
abbrev pub map_after : (file : List ℕ) → Result Res AcquireError → Option (List ℕ)
map_after file (Ok res) = if is_brush res.kind then Some file else None
map_after file (Err error) = None

abbrev pub takes_map : (file : List ℕ) → Result Res AcquireError → State → State
takes_map file answer s = record s { map = map_after file answer }

-- The map is changed: what belonged to the last one goes, and the model of this file is acquired.
abbrev pub answer_map : (file : Option (List ℕ)) → State → Did
answer_map None s = bad_name s
answer_map (Some file) s = by_resource (map_text file) (takes_map file) Models file (cleared s)

abbrev pub bad_kind : State → Did
bad_kind s = says s Goes (joined (codes "bad kind\n" ∷ []))

abbrev pub absent_text : List ℕ → List ℕ
absent_text name = joined (name ∷ codes " is absent\n" ∷ [])

-- what is told of the image of a name, where there is one
abbrev pub image_text : (Kind → (name image : List ℕ) → List ℕ) → List ℕ → Option (Kind × List ℕ) → List ℕ
image_text tells name None = absent_text name
image_text tells name (Some shown) = tells shown.0 name shown.1

-- a command that tells of an image; the table and the name are refused in this order
abbrev pub by_image : (Kind → (name image : List ℕ) → List ℕ) → Option Table → Option (List ℕ) → State → Did
by_image tells None name s = bad_kind s
by_image tells (Some table) None s = bad_name s
by_image tells (Some table) (Some name) s = says s Goes (image_text tells name (seen s.table s.memory table name))

abbrev pub answer_info : Option Table → Option (List ℕ) → State → Did
answer_info table name s = by_image info_text table name s

abbrev pub answer_dump : Option Table → Option (List ℕ) → State → Did
answer_dump table name s = by_image (λ kind. dump_text) table name s

-- the image of the current wad, where it is there and is a wad
abbrev pub wad_only : Kind × List ℕ → Option (List ℕ)
wad_only shown = if is_wad shown.0 then Some shown.1 else None

abbrev pub wad_image : State → Option (List ℕ)
wad_image s = option_and_then wad_only (option_and_then (seen s.table s.memory Models) s.wad)

abbrev pub no_wad_text : List ℕ
no_wad_text = joined (codes "no wad\n" ∷ [])

-- what is told of the lump of a name in the current wad
abbrev pub pic_text : List ℕ → Option (List ℕ) → List ℕ
pic_text name None = no_wad_text
pic_text name (Some image) = lump_text name image

abbrev pub answer_pic : (word : List ℕ) → State → Did
answer_pic word s = says s Goes (pic_text (cleaned word) (wad_image s))

-- the image of the current map, where it is there and is a brush model
abbrev pub map_only : Kind × List ℕ → Option (List ℕ)
map_only shown = if is_brush shown.0 then Some shown.1 else None

abbrev pub map_image : State → Option (List ℕ)
map_image s = option_and_then map_only (option_and_then (seen s.table s.memory Models) s.map)

abbrev pub no_map_text : List ℕ
no_map_text = joined (codes "no map\n" ∷ [])

-- a command on a leaf of the current map; the map and the number are refused in this order
abbrev pub of_map_and_leaf : Option (List ℕ) → Option ℕ → State → Did
of_map_and_leaf None leaf s = says s Goes no_map_text
of_map_and_leaf (Some image) None s = bad_number s
of_map_and_leaf (Some image) (Some leaf) s = says s Goes (leaf_text leaf image)

abbrev pub answer_vis : (leaf : Option ℕ) → State → Did
answer_vis leaf s = of_map_and_leaf (map_image s) leaf s

-- a block of the zone of this size was refused
abbrev pub full_text : ℕ → List ℕ
full_text asked = joined (codes "zone full: " ∷ decimal asked ∷ codes " bytes\n" ∷ [])

-- an alias as `alias` shows it
abbrev pub alias_line : AliasText → List ℕ
alias_line a = joined (a.name ∷ codes " : " ∷ a.value ∷ codes "\n" ∷ [])

abbrev pub alias_lines : List AliasText → List ℕ
alias_lines [] = []
alias_lines (a ∷ older) = alias_line a ++ alias_lines older

abbrev pub alias_list : List AliasText → List ℕ
alias_list aliases = codes "Current alias commands:\n" ++ alias_lines aliases

-- `alias` alone shows all aliases
abbrev pub list_aliases : State → Did
list_aliases s = says s Goes (alias_list (alias_texts s.memory s.newest))

abbrev pub long_name_text : List ℕ
long_name_text = joined (codes "Alias name is too long\n" ∷ [])

abbrev pub alias_set_text : Result (Unit {0}) AliasRefusal → List ℕ
alias_set_text (Ok done) = []
alias_set_text (Err LongName) = long_name_text
alias_set_text (Err (Full asked)) = full_text asked

abbrev pub alias_was_set : State → AliasSet → Did
alias_was_set s given = takes (record s { memory = given.after; newest = given.newest }) (alias_set_text given.answer)

-- An alias stands for the words from the third on, each followed by a space, and a newline.
abbrev pub make_alias : List (List ℕ) → State → Did
make_alias words s = alias_was_set s (set_alias s.memory s.newest (word_at 1 words) (spaced (drop 2 words)))

abbrev pub answer_alias : List (List ℕ) → State → Did
answer_alias words s = if length words == 1 then list_aliases s else make_alias words s

abbrev pub expansion_text : Bool → List ℕ
expansion_text fits = if fits then [] else joined (codes "overflow\n" ∷ [])

-- the value of an alias goes in front of the buffer, where it fits
abbrev pub answer_expansion : List ℕ → State → Did
answer_expansion value s =
    says (record s { buffer = (if fits_in value s.buffer then value ++ s.buffer else s.buffer) }) Goes
    (expansion_text (fits_in value s.buffer))

abbrev pub cvar_text : (name value : List ℕ) → List ℕ
cvar_text name value = joined (codes "\"" ∷ name ∷ codes "\" is \"" ∷ value ∷ codes "\"\n" ∷ [])

abbrev pub cvar_set_text : Result Bool ℕ → List ℕ
cvar_set_text (Ok found) = []
cvar_set_text (Err asked) = full_text asked

abbrev pub cvar_was_set : State → CvarSet → Did
cvar_was_set s given =
    takes (record s { memory = given.given.after; cvars = given.cvars }) (cvar_set_text given.given.answer)

abbrev pub make_cvar : List (List ℕ) → State → Did
make_cvar words s = cvar_was_set s (set_cvar s.memory s.cvars (word_at 0 words) (word_at 1 words))

-- A cvar shows its value, or is set to the second word.
abbrev pub answer_cvar : List (List ℕ) → List ℕ → State → Did
answer_cvar words value s =
    if length words == 1 then says s Goes (cvar_text (word_at 0 words) value) else make_cvar words s

abbrev pub unknown_text : List ℕ → List ℕ
unknown_text word = joined (codes "Unknown command \"" ∷ word ∷ codes "\"\n" ∷ [])

-- a first word that is no command and no alias
abbrev pub by_cvar : List (List ℕ) → Option (List ℕ) → State → Did
by_cvar words None s = says s Goes (unknown_text (word_at 0 words))
by_cvar words (Some value) s = answer_cvar words value s

abbrev pub cvar_or_unknown : List (List ℕ) → State → Did
cvar_or_unknown words s = by_cvar words (cvar_value s.memory s.cvars (word_at 0 words)) s

-- a first word that is no command: an alias in any case, else a cvar in exact case
abbrev pub by_alias : List (List ℕ) → Option (List ℕ) → State → Did
by_alias words None s = cvar_or_unknown words s
by_alias words (Some value) s = answer_expansion value s

abbrev pub by_name : List (List ℕ) → State → Did
by_name words s = by_alias words (alias_value s.memory s.newest (word_at 0 words)) s

-- the lawful name, or the number, that the word of this number is
abbrev pub name_in : ℕ → List (List ℕ) → Option (List ℕ)
name_in number words = lawful_name (word_at number words)

abbrev pub number_in : ℕ → List (List ℕ) → Option ℕ
number_in number words = number_of (word_at number words)

-- the name of the file of a map, where it is lawful
abbrev pub map_in : ℕ → List (List ℕ) → Option (List ℕ)
map_in number words = joined_name (codes "maps/") (word_at number words) (codes ".bsp")

-- the table that a word names, in exact case
abbrev pub table_of : List ℕ → Option Table
table_of word =
    if bytes_eq word (codes "model") then Some Models
    else if bytes_eq word (codes "sound") then Some Sounds
    else None

abbrev pub table_in : ℕ → List (List ℕ) → Option Table
table_in number words = table_of (word_at number words)

-- one arm for each command
abbrev pub by_verb : Option Verb → List (List ℕ) → State → Did
by_verb None words s = by_name words s
by_verb (Some verb.File) words s = answer_file (name_in 1 words) s
by_verb (Some verb.Echo) words s = answer_echo words s
by_verb (Some verb.Exec) words s = answer_exec (name_in 1 words) s
by_verb (Some verb.Wait) words s = says s Waits []
by_verb (Some verb.Quit) words s = says s Quits []
by_verb (Some verb.Reserve) words s = answer_reserve (number_in 1 words) (name_in 2 words) s
by_verb (Some verb.Video) words s = answer_video (number_in 1 words) (name_in 2 words) s
by_verb (Some verb.Level) words s = answer_level s
by_verb (Some verb.Report) words s = answer_report s
by_verb (Some verb.Alias) words s = answer_alias words s
by_verb (Some verb.Path) words s = answer_path s
by_verb (Some verb.Flush) words s = answer_flush s
by_verb (Some verb.Sound) words s = answer_acquire Sounds (name_in 1 words) s
by_verb (Some verb.Model) words s = answer_acquire Models (name_in 1 words) s
by_verb (Some verb.Info) words s = answer_info (table_in 1 words) (name_in 2 words) s
by_verb (Some verb.Dump) words s = answer_dump (table_in 1 words) (name_in 2 words) s
by_verb (Some verb.Wad) words s = answer_wad (name_in 1 words) s
by_verb (Some verb.Map) words s = answer_map (map_in 1 words) s
by_verb (Some verb.Pic) words s = answer_pic (word_at 1 words) s
by_verb (Some verb.Vis) words s = answer_vis (number_in 1 words) s

-- a text without words does nothing
abbrev pub by_words : List (List ℕ) → State → Did
by_words words s = if length words == 0 then says s Goes [] else by_verb (verb_of (word_at 0 words)) words s

abbrev pub too_long : State → Did
too_long s = says s Goes (joined (codes "line too long\n" ∷ []))

-- whether a first word is neither a command nor an alias nor a cvar
abbrev pub is_strange : (word : List ℕ) → State → Bool
is_strange word s = is_none (verb_of word) && is_none (alias_value s.memory s.newest word)
    && is_none (cvar_value s.memory s.cvars word)

abbrev pub are_strange : (words : List (List ℕ)) → State → Bool
are_strange words s = if length words == 0 then false else is_strange (word_at 0 words) s

-- The text waits for who runs the console. Nothing is printed, and the frame ends.
abbrev pub hand_over : List ℕ → State → Did
hand_over text s = says (record s { handed = Some text }) Hands []

-- the command of a text, which is handed over where the console doesn't know it and hands such commands over
abbrev pub by_known : List ℕ → State → Did
by_known text s = if s.hands && are_strange (words_of text) s then hand_over text s else by_words (words_of text) s

-- the command of a text that was taken, or of one that is too long
abbrev pub by_text : Option (List ℕ) → State → Did
by_text None s = too_long s
by_text (Some text) s = by_known text s

-- the first command of the buffer
unfoldable pub command : State → Did
command s = by_text (short_command (cut s.buffer).command) (record s { buffer = (cut s.buffer).rest })
