-- Worked examples: the least map, which has a model of zeros, and what is wrong with files like it.
use Rattle.std.proofs.Common.{◌≡◌, ℕ, ◌-◌, List, [], ◌++◌, length, replicate, codes, Err, refl}
use Rattle.base_fields.specs.Fields.{u32_in, u32_bytes}
use Rattle.bsp29_tables.specs.declared.fault.BspFault.TheVariants.{Short, Version, LumpOutside, LumpSize, NoModel}
use Rattle.bsp29_tables.specs.declared.fault.BspFault.TheVariants.{TextureTable, TextureOutside, BadRow}
use Rattle.bsp29_tables.specs.Checks.{fine, each_from}
use Rattle.bsp29_tables.specs.Lumps.{lump_of, rows_in, lump_check}
use Rattle.bsp29_tables.specs.Textures.{texture_count, texture_offsets, pixels_at, all_pixels}
use Rattle.bsp29_tables.specs.Textures.{table_check, texture_check, textures_check}
use Rattle.bsp29_tables.specs.Rows.{counts_of}
use Rattle.bsp29_tables.specs.Sizes.{section_size, image_size}
use Rattle.bsp29_tables.specs.Order.{check_of}

-- a version, where the planes begin and how many bytes they have, how many bytes the models have, and the model
abbrev file : ℕ → ℕ → ℕ → ℕ → List ℕ → List ℕ
file version planes planes_length models_length model =
    u32_bytes version
    ++ (replicate 8 0
    ++ (u32_bytes planes
    ++ (u32_bytes planes_length ++ (replicate 96 0 ++ (u32_bytes 124 ++ (u32_bytes models_length ++ model))))))

abbrev zeros : List ℕ
zeros = replicate 64 0

least : check_of (file 29 0 0 64 zeros) ≡ fine
unfolding check_of each_from u32_in lump_of rows_in lump_check texture_count texture_offsets table_check counts_of
    section_size image_size
least = refl

least_size : image_size (file 29 0 0 64 zeros) ≡ 196
unfolding u32_in lump_of rows_in texture_count texture_offsets section_size image_size
least_size = refl

empty : check_of [] ≡ Err Short
unfolding check_of
empty = refl

later : check_of (file 30 0 0 64 zeros) ≡ Err (Version 30)
unfolding check_of u32_in
later = refl

no_whole_plane : check_of (file 29 124 19 64 zeros) ≡ Err (LumpSize 1)
unfolding check_of each_from u32_in lump_check
no_whole_plane = refl

far_plane : check_of (file 29 0xffff_ffff 20 64 zeros) ≡ Err (LumpOutside 1)
unfolding check_of each_from u32_in lump_check
far_plane = refl

no_model : check_of (file 29 0 0 0 zeros) ≡ Err NoModel
unfolding check_of each_from u32_in lump_of rows_in lump_check
no_model = refl

-- the model has a face that isn't there
no_face : check_of (file 29 0 0 64 (replicate 60 0 ++ u32_bytes 1)) ≡ Err (BadRow 14 0)
unfolding check_of each_from u32_in lump_of rows_in lump_check texture_count texture_offsets table_check counts_of
no_face = refl

-- ---- texture lumps

too_many : table_check (u32_bytes 4097 ++ replicate 20000 0) ≡ Err TextureTable
unfolding u32_in table_check
too_many = refl

-- a texture of 16 x 16 that begins with these bytes
abbrev texture : List ℕ → List ℕ
texture name = name ++ (replicate (16 - length name) 0 ++ (u32_bytes 16 ++ (u32_bytes 16 ++ replicate 16 0)))

-- two textures share their bytes, and one is missing
abbrev shared : List ℕ → List ℕ
shared name = u32_bytes 3 ++ (u32_bytes 16 ++ (u32_bytes 0xffff_ffff ++ (u32_bytes 16 ++ texture name)))

no_pixels : textures_check (shared (codes "lava")) ≡ Err (TextureOutside 0)
unfolding each_from u32_in texture_count texture_offsets texture_check
no_pixels = refl

shared_pixels : all_pixels (shared (codes "lava")) ≡ 680
unfolding u32_in texture_count texture_offsets pixels_at
shared_pixels = refl
