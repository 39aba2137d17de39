use Rattle.std.proofs.Common.{sym, ◌∙◌, arith, rules}
use Rattle.res_table.proofs.Caching.{image_bounds}
use Rattle.res_table.proofs.Loading.{source_small}
use Rattle.res_table.proofs.load.image_of.Goals as goal

pub overflow_cast-size : goal.overflow_cast-size
overflow_cast-size g c =
    let small = source_small (g.M.Store.state c.args.store.now) c.unwrap.result.now c.args.length c.temp_bytes.ensures.laid (search rules) in
    omega (arith, image_bounds c.args.speed c.kind-kind.result _ c.in_ok-size.field-0 small (sym c.size.ensures ∙ c.in_ok-size.was))
