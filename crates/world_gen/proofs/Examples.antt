-- What the definitions give at small cases.
use Rattle.std.proofs.Common.{◌≡◌, ◌∷◌, [], ◌++◌, take, drop, codes, replicate, refl}
use Rattle.world_gen.specs.Draws.{stepped, drawn, bytes_drawn, state_after}
use Rattle.world_gen.specs.Files.{samples, format, sound_header, sprite_header, map_file}
use Rattle.world_gen.specs.Numbers.{half, word}
use Rattle.world_gen.specs.Packs.{contents, row, rows_from, pack_header, pack}
use Rattle.world_gen.specs.Resources.{numbered, file_name, command}
use Rattle.world_gen.specs.Scripts.{commands}

-- draws
first_draw_of_0 : drawn 0 ≡ 15470
first_draw_of_0 = refl

first_draw_of_7 : drawn 7 ≡ 15648
first_draw_of_7 = refl

first_draw_of_the_greatest : drawn 0xffffffff ≡ 15445
first_draw_of_the_greatest = refl

second_draw_of_7 : drawn (stepped 7) ≡ 59866
second_draw_of_7 = refl

bytes_of_7 : bytes_drawn 3 7 ≡ 32 ∷ 218 ∷ 204 ∷ []
unfolding bytes_drawn
bytes_of_7 = refl

three_draws_of_7 : state_after 3 7 ≡ 2630631676
unfolding state_after
three_draws_of_7 = refl

-- files
first_sound_of_7 : samples 7 ≡ 35648
first_sound_of_7 = refl

sound_of_three : take 12 (sound_header 3) ≡ codes "RIFF" ++ 40 ∷ 0 ∷ 0 ∷ 0 ∷ codes "WAVE"
unfolding sound_header format half word
sound_of_three = refl

rate_of_a_sound : take 4 (drop 24 (sound_header 3)) ≡ 0x11 ∷ 0x2b ∷ 0 ∷ 0 ∷ []
unfolding sound_header format half word
rate_of_a_sound = refl

sprite_of_sixteen : take 24 (sprite_header 16) ≡ codes "IDSP" ++ word 1 ++ word 2 ++ word 0 ++ word 16 ++ word 16
unfolding sprite_header word
sprite_of_sixteen = refl

models_of_the_map : drop 116 map_file ≡ word 124 ++ word 64 ++ replicate 64 0
unfolding map_file word
models_of_the_map = refl

-- resources
last_sound : file_name (numbered 23) ≡ codes "sound/s23.wav"
unfolding numbered
last_sound = refl

first_sprite : command (numbered 24) ≡ codes "model p0.spr\n"
unfolding numbered
first_sprite = refl

last_map : file_name (numbered 33) ≡ codes "maps/m1.bsp"
unfolding numbered
last_map = refl

two_lines : commands 2 7 ≡ codes "sound s08.wav\nmodel p2.spr\n"
unfolding commands numbered
two_lines = refl

-- a pack of two files
pack_of_two : pack (record { name = codes "a"; bytes = 1 ∷ 2 ∷ [] } ∷ record { name = codes "b"; bytes = 3 ∷ [] } ∷ [])
    ≡ codes "PACK" ++ word 15 ++ word 128 ++ (1 ∷ 2 ∷ 3 ∷ [])
    ++ codes "a" ++ replicate 55 0 ++ word 12 ++ word 2 ++ codes "b" ++ replicate 55 0 ++ word 14 ++ word 1
unfolding pack pack_header contents rows_from row word
pack_of_two = refl
