use Rattle.std.proofs.Common.{◌≡◌, sym, true, false}
use Rattle.mem_model.proofs.ZonePlaces.{unread, used_at}
use Rattle.mem_model.proofs.zone.PlainZone.used_position.Goals as goal

pub unreachable-requires : goal.unreachable-requires
unreachable-requires c =
    let none = unread c.args.self.now.blocks c.args.place (sym c.in-None.ensures.position) in
    let empty : false ≡ true = rw none at c.requires.there in
    cc

pub returns : goal.returns
returns c = used_at c.args.self.now.blocks c.args.place c.in-Some.at c.requires.there (sym c.in-Some.ensures.position) c.in-Some.ensures.inside
