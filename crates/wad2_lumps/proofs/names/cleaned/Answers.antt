use Rattle.std.proofs.Common.{◌≡◌, length, arith}
use Rattle.std.specs.List.{refill}
use Rattle.std.proofs.lemmas.Grind.{common_steps}
use Rattle.wad2_lumps.specs.Names.{cleaned}
use Rattle.wad2_lumps.proofs.NameLaws.{cleaned-cleaned}
use Rattle.wad2_lumps.proofs.names.cleaned.Goals as goal

pub invariant_of-result : goal.invariant_of-result
invariant_of-result c =
    let bytes = c.unwrap-name.result.items in
    let same : refill (length bytes) bytes c.make_ascii_lowercase.new.self ≡ cleaned c.args.name.now =
    grind (arith, common_steps) in
    rw same (cleaned-cleaned c.args.name.now)
