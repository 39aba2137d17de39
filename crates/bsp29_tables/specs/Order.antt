-- The checks of a brush model in their order.
use Rattle.std.specs.Prelude.{ℕ, List}
use Rattle.bsp29_tables.specs.declared.lumps.Lump.TheVariants.{Textures}
use Rattle.bsp29_tables.specs.Checks.{Checked, ◌⨾◌}
use Rattle.bsp29_tables.specs.Lumps.{lump_of, header_check, lumps_check, models_check}
use Rattle.bsp29_tables.specs.Textures.{table_check, textures_check}
use Rattle.bsp29_tables.specs.Cycles.{animations_check, frames_check}
use Rattle.bsp29_tables.specs.Rows.{rows_check}
use Rattle.bsp29_tables.specs.Sizes.{size_check}

-- the first fault of a file
unfoldable pub check_of : List ℕ → Checked
check_of bytes =
    header_check bytes
    ⨾ lumps_check bytes
    ⨾ models_check bytes
    ⨾ table_check (lump_of bytes Textures)
    ⨾ textures_check (lump_of bytes Textures)
    ⨾ animations_check (lump_of bytes Textures)
    ⨾ frames_check (lump_of bytes Textures)
    ⨾ rows_check bytes
    ⨾ size_check bytes
