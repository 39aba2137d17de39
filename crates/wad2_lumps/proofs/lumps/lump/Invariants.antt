use Rattle.std.proofs.Common.{◌≡◌, bytes_eq}
use Rattle.wad2_lumps.specs.Names.{cleaned}
use Rattle.wad2_lumps.specs.Wads.{count_in, row_in, name_in}
use Rattle.wad2_lumps.specs.Lumps.{row_named}
use Rattle.wad2_lumps.proofs.LumpLaws.{ahead}
use Rattle.wad2_lumps.proofs.lumps.lump.Given as goal

abbrev pub invariant-loop-number : goal.invariant-loop-number
invariant-loop-number l =
    ahead (λ row. bytes_eq (name_in row) (cleaned l.name)) (row_in l.bytes) (count_in l.bytes) l.number
    ≡ row_named l.bytes l.name
