-- The text of a report: a function of the memory alone.
use Rattle.std.specs.Prelude.{ℕ, List, [], ◌∷◌, ◌++◌, is_some, if◌then◌else◌, decimal, codes}
use Rattle.base_fields.specs.Texts.{until_zero}
use Rattle.mem_model.specs.Memory.{Memory, low_used, high_used, room}
use Rattle.mem_model.specs.Rows.{Row, low_rows, high_rows, zone_rows, cache_rows}
use Rattle.mem_model.specs.Zone.{rover_place}
use Rattle.reply_pieces.specs.Pieces.{joined}
use Rattle.block_report.specs.declared.Part.{Part}
use Rattle.block_report.specs.declared.Part.TheVariants.{Low, High, Zone, Cache}
use Rattle.block_report.specs.declared.Section.{Section}
use Rattle.block_report.specs.declared.Section.TheVariants.{Sizes, Blocks, Rover, Users}

-- the sizes, and whether a temporary block is active
abbrev pub sizes_line : Memory → List ℕ
sizes_line m = joined (codes "hunk " ∷ decimal m.size ∷ codes " low " ∷ decimal (low_used m)
    ∷ codes " high " ∷ decimal (high_used m) ∷ codes " room " ∷ decimal (room m)
    ∷ codes " temp " ∷ decimal (if is_some m.temp then 1 else 0) ∷ codes "\n" ∷ [])

-- the blocks of a part of the memory, in rising order of place
abbrev pub rows_of : Memory → Part → List Row
rows_of m Low = low_rows m
rows_of m High = high_rows m
rows_of m Zone = zone_rows m
rows_of m Cache = cache_rows m

abbrev pub title : Part → List ℕ
title Low = codes "low "
title High = codes "high "
title Zone = codes "zone "
title Cache = codes "cache "

-- what a line calls a block: its name up to the first zero; one in the zone has no name, and is used or free
abbrev pub label : Part → Row → List ℕ
label Low row = until_zero row.name
label High row = until_zero row.name
label Zone row = if row.used then codes "used" else codes "free"
label Cache row = until_zero row.name

-- The line of a block. That of a block in the cache has its user's number too.
abbrev pub plain_line : Part → Row → List ℕ
plain_line part row = joined (title part ∷ decimal row.place ∷ codes " " ∷ decimal row.size
    ∷ codes " " ∷ label part row ∷ codes "\n" ∷ [])

abbrev pub row_line : Part → Row → List ℕ
row_line Low row = plain_line Low row
row_line High row = plain_line High row
row_line Zone row = plain_line Zone row
row_line Cache row = joined (title Cache ∷ decimal row.place ∷ codes " " ∷ decimal row.size
    ∷ codes " " ∷ decimal row.user ∷ codes " " ∷ label Cache row ∷ codes "\n" ∷ [])

abbrev pub row_lines : Part → List Row → List ℕ
row_lines part [] = []
row_lines part (row ∷ rows) = row_line part row ++ row_lines part rows

-- the lines of all blocks of a part
abbrev pub part_lines : Memory → Part → List ℕ
part_lines m part = row_lines part (rows_of m part)

-- where the rover of the zone stands
abbrev pub rover_line : Memory → List ℕ
rover_line m = joined (codes "rover " ∷ decimal (rover_place m.zone) ∷ codes "\n" ∷ [])

abbrev pub user_line : ℕ → List ℕ
user_line user = joined (codes "lru " ∷ decimal user ∷ codes "\n" ∷ [])

-- a line for each of these users
abbrev pub user_lines : List ℕ → List ℕ
user_lines [] = []
user_lines (user ∷ users) = user_line user ++ user_lines users

abbrev pub section_text : Memory → Section → List ℕ
section_text m Sizes = sizes_line m
section_text m (Blocks part) = part_lines m part
section_text m Rover = rover_line m
section_text m Users = user_lines m.cache.recency

abbrev pub sections_text : Memory → List Section → List ℕ
sections_text m [] = []
sections_text m (section ∷ sections) = section_text m section ++ sections_text m sections

-- the sections in the order of a report
abbrev pub sections : List Section
sections = Sizes ∷ Blocks Low ∷ Blocks High ∷ Blocks Zone ∷ Rover ∷ Blocks Cache ∷ Users ∷ []

unfoldable pub report_text : Memory → List ℕ
report_text m = sections_text m sections
