use Rattle.std.proofs.Common.{◌≡◌, true, bytes_eq, Some, ap, sym, ◌∙◌, arith}
use Rattle.wad2_lumps.specs.Names.{cleaned}
use Rattle.wad2_lumps.specs.Wads.{count_in, row_in, name_in}
use Rattle.wad2_lumps.specs.Lumps.{lump_told, lump_of, row_named, lump_in}
use Rattle.wad2_lumps.proofs.LumpLaws.{find_here}
use Rattle.wad2_lumps.proofs.lumps.lump.Goals as goal

pub returns-then-is_named : goal.returns-then-is_named
unfolding lump_in
returns-then-is_named c =
    let wad = c.args.bytes.now in
    let name = c.args.name.now in
    let i = c.loop-number.number in
    let same : bytes_eq (name_in (row_in wad i)) (cleaned name) ≡ true = cc in
    let found : row_named wad name ≡ Some (row_in wad i) =
    find_here (λ row. bytes_eq (name_in row) (cleaned name)) (row_in wad) (count_in wad) i _ (omega arith) same
    c.loop-number.invariant in
    c.told.ensures ∙ ap lump_told c.row_at-row.ensures.value ∙ sym (ap lump_of found)
