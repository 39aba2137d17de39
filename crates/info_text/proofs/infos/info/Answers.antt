use Rattle.info_text.proofs.ImageLaws.{brush_is, alias_long, sprite_long, wad_is, sound_long}
use Rattle.info_text.proofs.infos.info.Goals as goal

pub info_brush-requires : goal.info_brush-requires
info_brush-requires g c = brush_is c.args.image.now (rw c.in-Brush.is at c.requires)

pub info_alias-requires : goal.info_alias-requires
info_alias-requires g c = alias_long c.args.image.now (rw c.in-Alias.is at c.requires)

pub info_sprite-requires : goal.info_sprite-requires
info_sprite-requires g c = sprite_long c.args.image.now (rw c.in-Sprite.is at c.requires)

pub info_wad-requires : goal.info_wad-requires
info_wad-requires g c = wad_is c.args.image.now (rw c.in-Wad.is at c.requires)

pub info_sound-requires : goal.info_sound-requires
info_sound-requires g c = sound_long c.args.image.now (rw c.in-Sound.is at c.requires)
