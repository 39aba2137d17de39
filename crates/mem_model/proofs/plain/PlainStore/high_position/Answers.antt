use Rattle.std.proofs.Common.{◌≡◌, ℕ, ◌-◌, ◌+◌, Ok, Err, ap, sym, arith}
use Rattle.std.specs.Prelude.{IsSome}
use Rattle.mem_model.specs.Hunk.{bytes_down}
use Rattle.mem_model.specs.Memory.{Memory}
use Rattle.mem_model.proofs.EndSearch.{payload_most, high_found}
use Rattle.mem_model.proofs.plain.PlainStore.high_position.Goals as goal

pub overflow_sub-self-inside : goal.overflow_sub-self-inside
overflow_sub-self-inside c =
    let size : c.args.self.now.size ≡ c.self.inside.size = ap (λ (m : Memory). m.size) (sym c.self.view_is) in
    omega (arith, size, payload_most c.args.self.now.size c.args.self.now.high c.args.place c.requires)

-- where the block ends, from the arena's end down
ends : (size : ℕ) (m : Memory) (place : ℕ) → size ≡ m.size → IsSome (bytes_down m.size m.high place) → ((size + 16) - place) + place ≡ size + 16
ends size m place same there = omega (arith, same, payload_most m.size m.high place there)

pub returns : goal.returns
returns c =
    rw (← c.self.view_is)
    (high_found c.self.inside.size c.self.inside.high.items ((c.self.inside.size + 16) - c.args.place) c.args.place (Ok c.in-Ok.at) c.self.invariant.laid.high (omega (arith, c.self.invariant.laid.inside)) (ends c.self.inside.size c.args.self.now c.args.place (ap (λ (m : Memory). m.size) c.self.view_is) c.requires) (rw (← c.self.view_is) at c.requires) (rw (c.deref.ensures.value, c.self.invariant.high_ends) at c.in-Ok.ensures.position))

pub unreachable-requires : goal.unreachable-requires
unreachable-requires c =
    high_found c.self.inside.size c.self.inside.high.items ((c.self.inside.size + 16) - c.args.place) c.args.place (Err c.in-Err.field-0) c.self.invariant.laid.high (omega (arith, c.self.invariant.laid.inside)) (ends c.self.inside.size c.args.self.now c.args.place (ap (λ (m : Memory). m.size) c.self.view_is) c.requires) (rw (← c.self.view_is) at c.requires) (rw (c.deref.ensures.value, c.self.invariant.high_ends) at c.in-Err.ensures.position)
