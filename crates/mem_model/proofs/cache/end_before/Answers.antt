use Rattle.std.proofs.Common.{◌≡◌, ◌∙◌, ◌-◌, suc, length, ap, sym, arith}
use Rattle.std.proofs.lemmas.Option.{slice_get_read}
use Rattle.mem_model.specs.Turns.{edge}
use Rattle.mem_model.proofs.Evicting.{end_at, edge_is}
use Rattle.mem_model.proofs.cache.end_before.Goals as goal

pub end-requires : goal.end-requires
end-requires c =
    omega (
      arith,
      c.requires.small,
      end_at c.args.cells.now c.args.start c.args.top (c.args.at - 1) c.index-cells-at.result c.requires.between
          (slice_get_read c.args.cells.now (length c.args.cells.now) (c.args.at - 1) c.index-cells-at.result (omega arith) (omega arith) c.index-cells-at.is),
    )

pub returns : goal.returns
returns c =
    let next : suc (c.args.at - 1) ≡ c.args.at = omega arith in
    c.end.ensures ∙ sym (edge_is c.args.cells.now c.args.start (c.args.at - 1) c.index-cells-at.result (slice_get_read c.args.cells.now (length c.args.cells.now) (c.args.at - 1) c.index-cells-at.result (omega arith) (omega arith) c.index-cells-at.is)) ∙ ap (edge c.args.start c.args.cells.now) next
