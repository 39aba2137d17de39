use Rattle.std.proofs.Common.{List, ℕ, ◌++◌, codes, refl, sym, ap, rules}
use Rattle.std.proofs.lemmas.Result.{err_from_is_err_and}
use Rattle.reply_pieces.specs.Pieces.{text_of, PutsText}
use Rattle.reply_pieces.proofs.Putting.{none_put, part_put, part_cut, rest_put}
use Rattle.info_text.specs.Faults.{fault_text}
use Rattle.info_text.specs.Lines.{bad_text, bad_title}
use Rattle.info_text.proofs.lines.put_bad.Goals as goal

pub returns-in_err-put_title : goal.returns-in_err-put_title
returns-in_err-put_title g c =
    let name = c.args.name.now in
    let fault = c.args.fault in
    let p = err_from_is_err_and c.from_residual.result c.from_residual.ensures.1 in
    rw (p.1, p.2) (part_cut g.O.Sink (bad_text name fault) (bad_title name fault) (fault_text fault ++ codes "\n")
    (none_put g.O.Sink (bad_text name fault) c.args.out.now) refl c.in_err-put_title.ensures)

pub returns-in_err-put_all : goal.returns-in_err-put_all
returns-in_err-put_all g c =
    let name = c.args.name.now in
    let fault = c.args.fault in
    let text = bad_text name fault in
    let titled = part_put g.O.Sink text (bad_title name fault) (fault_text fault ++ codes "\n")
    (none_put g.O.Sink text c.args.out.now) refl c.in_ok-put_title.ensures in
    let here = ap (λ (wrong : List ℕ). wrong ++ codes "\n") (sym c.fault_pieces.ensures) in
    let p = err_from_is_err_and c.from_residual-in_err-put_all.result c.from_residual-in_err-put_all.ensures.1 in
    rw (p.1, p.2)
    (part_cut g.O.Sink text (text_of c.fault_pieces.result) (codes "\n") titled here c.in_err-put_all.ensures)

pub returns : goal.returns
returns g c =
    let name = c.args.name.now in
    let fault = c.args.fault in
    let text = bad_text name fault in
    let titled = part_put g.O.Sink text (bad_title name fault) (fault_text fault ++ codes "\n")
    (none_put g.O.Sink text c.args.out.now) refl c.in_ok-put_title.ensures in
    let here = ap (λ (wrong : List ℕ). wrong ++ codes "\n") (sym c.fault_pieces.ensures) in
    let end : PutsText g.O.Sink (codes "\n") c.put_all.new.out c.put.new.self c.put.result = search rules in
    rest_put g.O.Sink c.put.result
    (part_put g.O.Sink text (text_of c.fault_pieces.result) (codes "\n") titled here c.in_ok-put_all.ensures) end
