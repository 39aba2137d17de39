use Rattle.std.proofs.Common.{◌≡◌, ◌+◌, ◌∙◌, Some, None, sym}
use Rattle.std.specs.Prelude.{position, take, drop}
use Rattle.mem_model.specs.Zone.{chosen}
use Rattle.mem_model.specs.Plain.{is_fit}
use Rattle.mem_model.specs.ZoneState.{zone_of}
use Rattle.mem_model.proofs.ZoneSearch.{chosen_behind, chosen_before, chosen_large}
use Rattle.mem_model.proofs.zone.PlainZone.chosen.Goals as goal

behind : (c : goal.In-Some) → chosen (zone_of c.self.inside) c.args.need ≡ Some (c.self.inside.rover + c.in-Some.at)
behind c =
    let here : position (is_fit c.args.need) (drop c.self.inside.rover c.self.inside.cells.items) ≡ Some c.in-Some.at = rw (c.split_at.ensures.back, c.deref.ensures.value) at (sym c.in-Some.ensures) in
    chosen_behind (zone_of c.self.inside) c.args.need c.in-Some.at c.self.invariant.rover here

before : (c : goal.After-first_fit-in-None) → chosen (zone_of c.self.inside) c.args.need ≡ c.first_fit-in-None.result
before c =
    let nothing : position (is_fit c.args.need) (drop c.self.inside.rover c.self.inside.cells.items) ≡ None = rw (c.split_at.ensures.back, c.deref.ensures.value) at (sym c.in-None.ensures) in
    let front : c.first_fit-in-None.result ≡ position (is_fit c.args.need) (take c.self.inside.rover c.self.inside.cells.items) = rw (c.split_at.ensures.front, c.deref.ensures.value) at c.first_fit-in-None.ensures in
    chosen_before (zone_of c.self.inside) c.args.need c.self.invariant.rover nothing ∙ sym front

pub returns-in-Some : goal.returns-in-Some
returns-in-Some c =
    let large = chosen_large (zone_of c.self.inside) c.args.need _ c.self.invariant.rover c.self.invariant.small (behind c) in
    rw (← c.self.view_is) (record { chosen = sym (behind c); small = large.small; inside = large.inside; fits = large.fits })

pub returns-in-None : goal.returns-in-None
returns-in-None c =
    let large = chosen_large (zone_of c.self.inside) c.args.need _ c.self.invariant.rover c.self.invariant.small (before c) in
    rw (← c.self.view_is) (record { chosen = sym (before c); small = large.small; inside = large.inside; fits = large.fits })
