use Rattle.std.proofs.Common.{arith, ◌≡◌, ◌∙◌, sym}
use Rattle.world_gen.proofs.PackLaws.{files_step, rows_step, behind_step, short_step, few_step}
use Rattle.world_gen.proofs.PackLaws.{contents_end, rows_end, joined_is}
use Rattle.world_gen.proofs.packing.pack.Goals as goal

pub overflow_cast-len : goal.overflow_cast-len
overflow_cast-len c =
    let short = short_step _ _ _ _ c.in_ok-append_file.ensures.bytes in
    omega arith

pub loop-number-preserved : goal.loop-number-preserved
loop-number-preserved c =
    let below = c.loop-number-test.true in
    let named = c.numbered-resource.ensures in
    let grown = c.in_ok-append_file.ensures.bytes in
    let drawn = c.in_ok-append_file.ensures.state in
    let written = c.in_ok-append_row.ensures in
    let short = short_step _ _ _ _ grown in
    let few = few_step _ _ _ _ _ written in
    record {
      files = files_step _ _ _ _ _ _ _ below named grown drawn ∙ c.loop-number.invariant.files;
      rows = rows_step _ _ _ _ _ _ _ _ _ _ _ below named grown drawn (omega arith) (omega arith) written
          ∙ c.loop-number.invariant.rows;
      state = behind_step _ _ _ _ _ below named drawn ∙ c.loop-number.invariant.state;
      short = omega arith;
      few = omega arith;
    }

pub returns-clause-bytes : goal.returns-clause-bytes
returns-clause-bytes c =
    let ended : c.loop-number.number ≡ 34 = omega arith in
    let state = c.loop-number.draws.state in
    let held = c.deref.ensures.value ∙ sym (contents_end _ 34 _ state ended) ∙ c.loop-number.invariant.files in
    let rows = c.deref-2.ensures.value ∙ sym (rows_end _ _ 34 _ state ended) ∙ c.loop-number.invariant.rows in
    joined_is c.joined.result _ _ _ _ held rows c.joined.ensures
