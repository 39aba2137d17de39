use Rattle.std.proofs.Common.{◌<◌, arith}
use Rattle.std.proofs.lemmas.Option.{slice_get_read}
use Rattle.mem_model.specs.Plain.{IsLast}
use Rattle.mem_model.specs.PlainState.{state_of}
use Rattle.mem_model.proofs.Newest.{some-marked, temp_bytes-some, temp_bytes-none}
use Rattle.mem_model.proofs.plain.PlainStoreStore.temp_bytes.Goals as goal

pub last_of-requires : goal.last_of-requires
last_of-requires c = rw c.deref.ensures.value (some-marked c.self.inside.high.items c.in-Some.field-0 (rw c.in-Some.is at c.self.invariant.laid.temp))

pub returns-in-Some-clause-shows : goal.returns-in-Some-clause-shows
returns-in-Some-clause-shows c =
    let newest : IsLast c.self.inside.high.items c.last_of.result = rw c.deref.ensures.value at c.last_of.ensures in
    let inside : c.last_of.result < c.self.inside.high.len = omega (arith, newest.inside, c.self.inside.high.ok.0) in
    let read = slice_get_read c.self.inside.high.items _ c.last_of.result c.index.result.now c.self.inside.high.ok.0 inside c.index.ensures in
    rw (← c.self.view_is, temp_bytes-some (state_of c.self.inside) c.in-Some.field-0 c.in-Some.is, c.bytes.ensures) (newest.reads c.index.result.now read)

pub returns-in-None-clause-shows : goal.returns-in-None-clause-shows
returns-in-None-clause-shows c = rw (← c.self.view_is) (temp_bytes-none (state_of c.self.inside) c.in-None.is)
