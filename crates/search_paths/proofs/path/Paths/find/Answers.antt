use Rattle.std.proofs.Common.{◌≡◌, length, ap, arith}
use Rattle.search_paths.proofs.Calls.{written_back}
use Rattle.search_paths.proofs.path.Paths.find.Goals as goal

pub returns-clause-first : goal.returns-clause-first
returns-clause-first g c = rw (← c.self.view_is) (rw (c.deref_mut.ensures.value, c.deref.ensures.value, c.bytes.ensures.value) at c.find_first.ensures.first)

pub returns-clause-there : goal.returns-clause-there
returns-clause-there g c = rw (← c.self.view_is) (rw (c.deref_mut.ensures.value, c.deref.ensures.value, c.bytes.ensures.value) at c.find_first.ensures.there)

pub returns-clause-asked : goal.returns-clause-asked
returns-clause-asked g c =
    let whole : c.self.inside.folders.len ≡ length c.self.inside.folders.items = omega arith in
    let same : length c.find_first.new.folders ≡ length c.self.inside.folders.items = omega (arith, c.find_first.auto.folders, ap length c.deref_mut.ensures.value) in
    rw (← c.self.view_is, written_back c.self.inside.folders.len c.find_first.new.folders c.self.inside.folders.items whole same) (rw (c.deref_mut.ensures.value, c.deref.ensures.value) at c.find_first.ensures.asked)
