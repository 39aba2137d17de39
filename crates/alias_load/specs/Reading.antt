-- The parts of a file in their order, with their tests.
use Rattle.std.specs.Prelude.{ℕ, ◌+◌, ◌*◌, ◌%◌, Bool, not, ◌&&◌, nat_lt, ◌==◌, if◌then◌else◌, List, [], ◌∷◌}
use Rattle.base_fields.specs.Fields.{u32_in}
use Rattle.part_plan.specs.Plan.{Plan, Done, Part, ◌>>=◌, each}
use Rattle.part_plan.specs.Checks.{is_between, has_wrong, each_row}
use Rattle.alias_load.specs.declared.fault.AliasPart.TheVariants.{Skin, St, Triangle as Triangles, Frame}
use Rattle.alias_load.specs.declared.fault.AliasField.TheVariants.{Numskins, Skinwidth, Skinheight}
use Rattle.alias_load.specs.declared.fault.AliasField.TheVariants.{Numverts, Numtris, Numframes}
use Rattle.alias_load.specs.declared.fault.AliasFault.{AliasFault}
use Rattle.alias_load.specs.declared.fault.AliasFault.TheVariants.{Short, Version, Header, Truncated}
use Rattle.alias_load.specs.declared.fault.AliasFault.TheVariants.{Group, Interval, Triangle}
use Rattle.alias_load.specs.declared.header.Kind.{Kind}
use Rattle.alias_load.specs.Models.{Head, Series, Alias}

-- ---- the header

abbrev pub numskins : List ℕ → ℕ
numskins header = u32_in header 48

abbrev pub skinwidth : List ℕ → ℕ
skinwidth header = u32_in header 52

abbrev pub skinheight : List ℕ → ℕ
skinheight header = u32_in header 56

abbrev pub numverts : List ℕ → ℕ
numverts header = u32_in header 60

abbrev pub numtris : List ℕ → ℕ
numtris header = u32_in header 64

abbrev pub numframes : List ℕ → ℕ
numframes header = u32_in header 68

abbrev pub header_tests : List ℕ → List (Bool × AliasFault)
header_tests header =
    (not (u32_in header 4 == 6), Version (u32_in header 4))
    ∷ (not (is_between 1 256 (numskins header)), Header Numskins)
    ∷ (not (is_between 4 4096 (skinwidth header) && (skinwidth header % 4 == 0)), Header Skinwidth)
    ∷ (not (is_between 1 4096 (skinheight header)), Header Skinheight)
    ∷ (not (is_between 1 2000 (numverts header)), Header Numverts)
    ∷ (not (is_between 1 65536 (numtris header)), Header Numtris)
    ∷ (not (is_between 1 1024 (numframes header)), Header Numframes)
    ∷ []

-- ---- skins and frames

-- a picture has a byte for each pixel
abbrev pub skins_of : List ℕ → Kind
skins_of header = record { part = Skin; bounds = 0; item = skinwidth header * skinheight header }

-- a pose has its bounds and its name, and four bytes for each vertex
abbrev pub frames_of : List ℕ → Kind
frames_of header = record { part = Frame; bounds = 8; item = 24 + 4 * numverts header }

abbrev pub single : List ℕ → Head
single word = record { word = word; count = []; intervals = [] }

abbrev pub count_tests : Kind → ℕ → List ℕ → List (Bool × AliasFault)
count_tests kind row count = (not (is_between 1 1024 (u32_in count 0)), Group kind.part row) ∷ []

abbrev pub interval_tests : Kind → ℕ → ℕ → List ℕ → List (Bool × AliasFault)
interval_tests kind row n intervals = (has_wrong n intervals, Interval kind.part row) ∷ []

unfoldable pub group : Kind → ℕ → List ℕ → Plan AliasFault Head
group kind row word =
    Part (4 + kind.bounds) (Truncated kind.part) (count_tests kind row) (λ count.
    Part (4 * u32_in count 0) (Truncated kind.part) (interval_tests kind row (u32_in count 0)) (λ intervals.
    Done (record { word = word; count = count; intervals = intervals })))

unfoldable pub head : Kind → ℕ → Plan AliasFault Head
head kind row =
    Part 4 (Truncated kind.part) (λ _. []) (λ word.
    if u32_in word 0 == 0 then Done (single word) else group kind row word)

-- the word before a single picture or pose is 0
abbrev pub is_single : Head → Bool
is_single head = u32_in head.word 0 == 0

-- how many pictures or poses stand behind the head
abbrev pub many : Head → ℕ
many head = if is_single head then 1 else u32_in head.count 0

unfoldable pub item : Kind → ℕ → Plan AliasFault (List ℕ)
item kind i = Part kind.item (Truncated kind.part) (λ _. []) Done

unfoldable pub items : Kind → ℕ → Plan AliasFault (List (List ℕ))
items kind n = each (item kind) n 0

unfoldable pub series : Kind → ℕ → Plan AliasFault Series
series kind row = do
  h ← head kind row
  xs ← items kind (many h)
  Done (record { head = h; items = xs })

unfoldable pub all_series : Kind → ℕ → Plan AliasFault (List Series)
all_series kind n = each (series kind) n 0

-- ---- the triangles

-- a vertex of the triangle isn't one of the n vertices
abbrev pub is_bad_triangle : ℕ → List ℕ → ℕ → Bool
is_bad_triangle n triangles row =
    not (nat_lt (u32_in triangles (16 * row + 4)) n
    && nat_lt (u32_in triangles (16 * row + 8)) n
    && nat_lt (u32_in triangles (16 * row + 12)) n)

unfoldable pub triangle_tests : ℕ → ℕ → List ℕ → List (Bool × AliasFault)
triangle_tests verts n triangles = each_row (is_bad_triangle verts triangles) Triangle 0 n

-- ---- the file

unfoldable pub st_part : ℕ → Plan AliasFault (List ℕ)
st_part n = Part (12 * n) (Truncated St) (λ _. []) Done

unfoldable pub triangle_part : ℕ → ℕ → Plan AliasFault (List ℕ)
triangle_part verts n = Part (16 * n) (Truncated Triangles) (triangle_tests verts n) Done

unfoldable pub body : List ℕ → Plan AliasFault Alias
body header = do
  skins ← all_series (skins_of header) (numskins header)
  st_vertices ← st_part (numverts header)
  triangles ← triangle_part (numverts header) (numtris header)
  frames ← all_series (frames_of header) (numframes header)
  Done (record { header = header; skins = skins; st_vertices = st_vertices; triangles = triangles; frames = frames })

unfoldable pub alias : Plan AliasFault Alias
alias = Part 84 Short header_tests body
