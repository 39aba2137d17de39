use Rattle.std.proofs.Common.{◌≡◌, ◌∙◌, None, ap, sym, refl, arith, false}
use Rattle.std.specs.Prelude.{is_some}
use Rattle.mem_model.specs.Memory.{Memory}
use Rattle.mem_model.specs.Cache.{block_of}
use Rattle.mem_model.specs.PlainState.{state_of}
use Rattle.mem_model.proofs.Calling.{cache_alloc_occupied, cache_alloc_bad, cache_alloc_short}
use Rattle.mem_model.proofs.CacheLaws.{unfound}
use Rattle.mem_model.proofs.plain.PlainStore.block_need.Goals as goal

pub returns-then-has-clause-refused : goal.returns-then-has-clause-refused
returns-then-has-clause-refused c = λ name. rw (← c.self.view_is) (cache_alloc_occupied (state_of c.self.inside) c.args.user c.args.size name refl (sym c.if-has.ensures))

pub returns-then-size-eq0-clause-refused : goal.returns-then-size-eq0-clause-refused
returns-then-size-eq0-clause-refused c = λ name. rw (← c.self.view_is) (cache_alloc_bad (state_of c.self.inside) c.args.user c.args.size name refl (sym c.if-has.ensures) c.if-size-eq0.true)

pub returns-then-asked-room-clause-refused : goal.returns-then-asked-room-clause-refused
returns-then-asked-room-clause-refused c = λ name.
    let quiet = ap (λ (m : Memory). m.event_room) (sym c.self.view_is) in
    let free : is_some (block_of c.args.self.now.cache c.args.user) ≡ false = ap (λ (m : Memory). is_some (block_of m.cache c.args.user)) (sym c.self.view_is) ∙ sym c.if-has.ensures in
    rw (c.from-room.ensures, c.room.ensures.room, c.cache_need-asked.ensures)
    (cache_alloc_short c.args.self.now c.args.user c.args.size name quiet free c.if-size-eq0.false (omega (arith, c.if-asked-room.true, c.from-room.ensures, c.room.ensures.room, c.cache_need-asked.ensures)))

pub returns-clause-need : goal.returns-clause-need
returns-clause-need c =
    let absent : block_of c.self.inside.cache c.args.user ≡ None = unfound (block_of c.self.inside.cache c.args.user) (sym c.if-has.ensures) in
    record {
      absent = ap (λ (m : Memory). block_of m.cache c.args.user) (sym c.self.view_is) ∙ absent;
      some = omega (arith, c.if-size-eq0.false);
      is = c.cache_need-asked.ensures;
      fits = omega (arith, c.if-asked-room.false, c.from-room.ensures, c.room.ensures.room);
    }
