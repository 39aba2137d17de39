use Rattle.std.proofs.lemmas.Result.{err_from_is_err_and}
use Rattle.sprite_load.proofs.SpriteLaws.{header_refused, is_read, body_refused, size_is}
use Rattle.sprite_load.proofs.builder.image_length.Goals as goal

pub returns-in_err-header : goal.returns-in_err-header
returns-in_err-header c =
    let p = err_from_is_err_and c.from_residual.result c.from_residual.ensures.1 in
    rw (p.1, p.2) (header_refused c.args.source.now _ c.in_err-header.ensures.value)

pub returns-in_err-sizes : goal.returns-in_err-sizes
returns-in_err-sizes c =
    let p = err_from_is_err_and c.from_residual-in_err-sizes.result c.from_residual-in_err-sizes.ensures.1 in
    rw (p.1, p.2) (body_refused c.args.source.now c.in_ok-header.header.now c.in_ok-header.body.now _ _ c.in_ok-header.ensures.value c.u32_at-count.ensures c.in_err-sizes.ensures.value)

pub returns : goal.returns
returns c =
    let r = is_read c.args.source.now c.in_ok-header.header.now c.in_ok-header.body.now c.u32_at-count.result c.in_ok-sizes.sizes _ c.in_ok-header.ensures.value c.u32_at-count.ensures c.in_ok-sizes.ensures.value in
    rw (c.from.ensures, c.from-2.ensures) (size_is c.args.source.now c.in_ok-header.header.now c.in_ok-header.body.now c.in_ok-sizes.sizes c.u32_at-count.result r)
