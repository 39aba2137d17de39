use Rattle.std.proofs.Common.{refl}
use Rattle.bsp29_build.specs.Textures.{present_row}
use Rattle.bsp29_build.proofs.textures.put_present.Goals as goal

pub returns : goal.returns
unfolding present_row
returns c =
    rw (
      c.fill_u32.ensures,
      c.put_name.ensures,
      c.split_at.ensures.front,
      c.copy_from_slice.ensures.after,
      c.split_at.ensures.back,
      c.put_animation.ensures,
      c.fill_u32-2.ensures,
    ) refl
