use Rattle.std.proofs.Common.{◌≡◌, ◌+◌, drop}
use Rattle.bsp29_tables.specs.Sizes.{image_size}
use Rattle.bsp29_build.specs.Images.{sections_from}
use Rattle.bsp29_build.specs.Sections.{all_sections}
use Rattle.bsp29_build.proofs.SectionLaws.{left_from}
use Rattle.bsp29_build.proofs.Writing.{with_left}
use Rattle.bsp29_build.proofs.images.put_sections.Given as goal

abbrev pub invariant-loop-section : goal.invariant-loop-section
invariant-loop-section l = record {
  text : with_left l.out l.at (sections_from l.src (132 + l.at) (drop l.section-index all_sections))
      ≡ sections_from l.src 132 all_sections;
  left : 132 + l.at + left_from l.src l.section-index ≡ image_size l.src;
}
