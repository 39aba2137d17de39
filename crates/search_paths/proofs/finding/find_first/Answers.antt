use Rattle.std.proofs.Common.{◌≤◌, ◌∙◌, map, length, arith}
use Rattle.std.proofs.lemmas.Grind.{common_steps}
use Rattle.search_paths.specs.Kept.{mount_of}
use Rattle.search_paths.proofs.Asked.{falls_never}
use Rattle.search_paths.proofs.Calls.{asked_more, asks_found, asks_failed}
use Rattle.search_paths.proofs.First.{first_with, one_more_without, none_at_all, there}
use Rattle.search_paths.proofs.finding.find_first.Goals as goal

pub returns-in-Ok-Some-clause-first : goal.returns-in-Ok-Some-clause-first
returns-in-Ok-Some-clause-first g c =
    first_with _ _ _ _ _ _ c.loop-number.invariant.told c.loop-number-test.true c.index-mounts-number.is _ (rw c.in-Ok-Some.field-0-is at c.in-Ok-Some.ensures.found) c.loop-number.invariant.before

pub returns-in-Ok-Some-clause-there : goal.returns-in-Ok-Some-clause-there
returns-in-Ok-Some-clause-there g c =
    there _ _ _ _ _ _ c.loop-number.invariant.told c.loop-number-test.true c.index-mounts-number.is _ (rw c.in-Ok-Some.field-0-is at c.in-Ok-Some.ensures.found) (rw c.in-Ok-Some.field-0-is at c.in-Ok-Some.ensures.number)

pub loop-number-preserved : goal.loop-number-preserved
loop-number-preserved g c = record {
  told = c.in-Ok-None.ensures.told ∙ c.loop-number.invariant.told;
  faults = falls_never _ _ _ c.loop-number.invariant.faults c.in-Ok-None.ensures.cause.none_falls;
  calls = falls_never _ _ _ c.loop-number.invariant.calls c.in-Ok-None.ensures.calls;
  asked = asked_more g.F.Folder.folder_calls c.args.mounts.now c.loop-number.number _ c.loop-number-test.true c.index-mounts-number.is _ _ _ c.loop-number.invariant.asked c.in-Ok-None.ensures.asked;
  before = one_more_without _ _ _ _ _ _ c.loop-number.invariant.told c.loop-number-test.true c.index-mounts-number.is (rw c.in-Ok-None.field-0-is at c.in-Ok-None.ensures.found) c.loop-number.invariant.before;
}

pub returns-clause-first : goal.returns-clause-first
returns-clause-first g c =
    let past : length (map (mount_of (map g.F.Folder.files c.args.folders.now)) c.args.mounts.now) ≤ c.loop-number.number = grind (arith, common_steps) in
    none_at_all c.args.name.now (map (mount_of (map g.F.Folder.files c.args.folders.now)) c.args.mounts.now) c.loop-number.number past c.loop-number.invariant.before

pub returns-in-Ok-Some-clause-asked : goal.returns-in-Ok-Some-clause-asked
returns-in-Ok-Some-clause-asked g c =
    asks_found g.F.Folder.folder_calls c.args.mounts.now c.loop-number.number _ c.loop-number-test.true c.index-mounts-number.is _ _ _ c.in-Ok-Some.file (rw c.in-Ok-Some.field-0-is at c.in-Ok-Some.ensures.number) c.loop-number.invariant.asked c.in-Ok-Some.ensures.asked

pub returns-in-Err-clause-asked : goal.returns-in-Err-clause-asked
returns-in-Err-clause-asked g c =
    asks_failed g.F.Folder.folder_calls c.args.mounts.now c.loop-number.number _ c.loop-number-test.true c.index-mounts-number.is _ _ _ c.in-Err.fault c.in-Err.ensures.failed c.loop-number.invariant.asked c.in-Err.ensures.asked
