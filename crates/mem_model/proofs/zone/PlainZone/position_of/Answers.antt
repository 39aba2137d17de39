use Rattle.std.proofs.Common.{◌≡◌, ◌+◌, ◌<◌, ◌∙◌, sym, arith, inl, inr}
use Rattle.std.proofs.lemmas.Bool.{cases_lt}
use Rattle.mem_model.proofs.ZonePlaces.{IsPositionOf, position_of-low, position_of-searched}
use Rattle.mem_model.proofs.zone.PlainZone.position_of.Goals as goal

pub returns-in_err-header-clause-position : goal.returns-in_err-header-clause-position
returns-in_err-header-clause-position c =
    let low : c.args.place < 24 = elim (cases_lt c.args.place 24) [ inl below ↦ below | inr above ↦ absurd (c.in_err-header.ensures above) ] in
    c.from_residual.ensures ∙ sym (position_of-low c.args.self.now.blocks c.args.place low)

found : (c : goal.After-ok) → IsPositionOf c.args.self.now.blocks c.args.place c.ok.result
found c =
    let header = c.in_ok-header.ensures in
    let back : c.in_ok-header.header + 24 ≡ c.args.place = omega (arith, header.0, header.1) in
    rw (← c.self.view_is, c.ok.ensures.value)
    (position_of-searched c.self.inside.cells.items c.in_ok-header.header c.args.place c.binary_search.result (rw (← c.self.view_is) at c.requires) back (rw (c.deref.ensures.value, c.self.invariant.places) at c.binary_search.ensures.position))

pub returns-clause-position : goal.returns-clause-position
returns-clause-position c = (found c).position

pub returns-clause-inside : goal.returns-clause-inside
returns-clause-inside c = (found c).inside
