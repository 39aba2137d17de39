use Rattle.std.proofs.Common.{◌∙◌, ap, sym, arith}
use Rattle.std.proofs.lemmas.Option.{slice_get_read}
use Rattle.mem_model.specs.Cache.{block_of, find_block}
use Rattle.mem_model.specs.Tables.{IsOwn}
use Rattle.mem_model.proofs.cache.PlainCache.cell_of.Goals as goal

pub returns-in-Some : goal.returns-in-Some
returns-in-Some c =
    let s = c.self.inside in
    let own : IsOwn s.cells.items c.args.user c.in-Some.at = rw c.deref.ensures.value at c.in-Some.ensures in
    ap (λ m. block_of m c.args.user) (sym c.self.view_is) ∙ own.found ∙ slice_get_read s.cells.items _ c.in-Some.at c.index.result.now s.cells.ok.0 (omega (arith, own.inside, s.cells.ok.0)) c.index.ensures

pub returns-in-None : goal.returns-in-None
returns-in-None c = ap (λ m. block_of m c.args.user) (sym c.self.view_is) ∙ ap (find_block c.args.user) (sym c.deref.ensures.value) ∙ c.in-None.ensures
