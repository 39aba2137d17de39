use Rattle.std.proofs.Common.{◌%◌, ◌<◌, length, arith}
use Rattle.std.proofs.lemmas.List.{get_or_read}
use Rattle.pack_files.proofs.Filtering.{is_added, stays_added}
use Rattle.pack_files.proofs.filter.Filter.add.Goals as goal

pub returns-clause-added : goal.returns-clause-added
returns-clause-added c =
    let masks = c.args.self.now.masks.items in
    let inside : c.args.hash % 65536 < length masks = omega (arith, c.ranges.hash.fits, c.args.self.now.sized) in
    let read = get_or_read masks _ _ inside c.index_mut.ensures.value 0 in
    rw read (is_added masks c.args.pack c.args.hash inside c.requires)

pub returns-clause-kept : goal.returns-clause-kept
returns-clause-kept c =
    let masks = c.args.self.now.masks.items in
    let inside : c.args.hash % 65536 < length masks = omega (arith, c.ranges.hash.fits, c.args.self.now.sized) in
    let read = get_or_read masks _ _ inside c.index_mut.ensures.value 0 in
    rw read (stays_added masks c.args.pack c.args.hash inside c.requires)
