use Rattle.std.proofs.Common.{sym}
use Rattle.std.proofs.lemmas.List.{length-take-le}
use Rattle.res_table.proofs.Holding.{image_fits, image_seen, low_seen}
use Rattle.res_table.proofs.table.ResTable.look.Goals as goal

pub bytes_at-requires : goal.bytes_at-requires
bytes_at-requires g c =
    low_seen c.args.self.now _ c.args.table c.args.name.now c.in_ok-slot.slot c.in_ok-slot.loaded c.requires (rw c.slots.ensures at (sym c.in_ok-slot.ensures.found))

pub slice_bounds-result-end : goal.slice_bounds-result-end
slice_bounds-result-end g c =
    let fits = image_fits c.args.self.now _ c.args.table c.args.name.now c.in_ok-slot.slot c.in_ok-slot.loaded c.in_ok-bytes.bytes.now c.requires
    (rw c.slots.ensures at (sym c.in_ok-slot.ensures.found)) (rw (c.in_ok-bytes.bytes-is, c.user.ensures) at c.in_ok-bytes.ensures) in
    sym (length-take-le c.in_ok-slot.loaded.size c.in_ok-bytes.bytes.now fits)

pub returns-clause-image : goal.returns-clause-image
returns-clause-image g c =
    image_seen c.args.self.now _ c.args.table c.args.name.now c.in_ok-slot.slot c.in_ok-slot.loaded c.in_ok-bytes.bytes.now c.requires
    (rw c.slots.ensures at (sym c.in_ok-slot.ensures.found)) (rw (c.in_ok-bytes.bytes-is, c.user.ensures) at c.in_ok-bytes.ensures)
