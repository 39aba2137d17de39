use Rattle.std.proofs.Common.{◌≡◌, ◌+◌, ◌*◌, drop}
use Rattle.bsp29_tables.specs.Sizes.{image_size}
use Rattle.bsp29_build.specs.Images.{header_from}
use Rattle.bsp29_build.specs.Sections.{all_sections}
use Rattle.bsp29_build.proofs.SectionLaws.{left_from}
use Rattle.bsp29_build.proofs.Writing.{with_left}
use Rattle.bsp29_build.proofs.images.put_header.Given as goal

abbrev pub invariant-loop-section : goal.invariant-loop-section
invariant-loop-section l = record {
  text : with_left l.pairs l.at (header_from l.src l.start (drop l.section-index all_sections))
      ≡ header_from l.src 132 all_sections;
  place : l.at ≡ 8 * l.section-index;
  left : l.start + left_from l.src l.section-index ≡ image_size l.src;
}
