use Rattle.std.proofs.Common.{rules, ◌≡◌, ◌+◌, ◌-◌, ◌*◌, ◌≤◌, ◌++◌, ℕ, length, take, sym, ap, ◌∙◌, arith}
use Rattle.std.proofs.lemmas.List.{take_all, length-take, length-drop, length-append}
use Rattle.std.proofs.lemmas.Slice.{take-put_mid}
use borrow.Rule.Slice.PartMut.{put_mid}
use Rattle.part_plan.proofs.Each.{fold_fail, fold_done, fold_refused}
use Rattle.alias_load.specs.Reading.{series}
use Rattle.alias_load.specs.Views.{head_of, series_of}
use Rattle.alias_load.specs.Sections.{piece_of, fixed, per_item, Texts, no_texts, add_piece}
use Rattle.alias_load.proofs.SeriesLaws.{length-cut}
use Rattle.alias_load.proofs.PieceLaws.{length-piece, texts_room, texts_end, texts_written, texts_more}
use Rattle.alias_load.proofs.section.put_section.Goals as goal

pub returns-in-Err : goal.returns-in-Err
returns-in-Err c =
    let s : Texts = record { first = c.loop-row.first; text = take c.loop-row.at c.loop-row.block } in
    fold_refused (add_piece (piece_of c.args.section)) no_texts _ _ c.in-Err.field-0
    (fold_fail (series c.args.kind) (add_piece (piece_of c.args.section)) s c.args.count c.loop-row.row c.loop-row.rest.now c.in-Err.field-0 _ c.loop-row-test.true (sym c.in-Err.ensures.value) c.loop-row.invariant.same)

pub slice_bounds-put_piece-end : goal.slice_bounds-put_piece-end
slice_bounds-put_piece-end c =
    let l = c.loop-row in
    let v = c.in-Ok.read.0 in
    let x = series_of c.args.kind v in
    let piece = piece_of c.args.section in
    let more = texts_more piece c.args.kind l.first (take l.at l.block) c.args.count l.row l.rest.now (head_of v.head) v.head.number v.items.now c.in-Ok.read.1.now _ c.loop-row-test.true c.in-Ok.ensures.value l.invariant.same in
    let room = texts_room piece (record { first = l.first + v.head.number; text = take l.at l.block ++ piece l.first x }) (length c.args.block.now) _ _ c.requires.room more in
    let long = length-piece c.args.section c.args.kind l.first x c.requires.suits c.in-Ok.ensures.is ∙ ap (λ (n : ℕ). fixed c.args.section + per_item c.args.section c.args.kind * n) (length-cut v.head.number c.args.kind.item v.items.now) in
    let there : l.at + c.section_length.result ≤ length l.block
    = omega (arith, room, long, length-append (take l.at l.block) (piece l.first x), length-take l.at l.block, l.invariant.inside, c.section_length.ensures.value) in
    search rules

pub put_piece-requires-clause-len : goal.put_piece-requires-clause-len
put_piece-requires-clause-len c =
    let l = c.loop-row in
    let v = c.in-Ok.read.0 in
    let x = series_of c.args.kind v in
    let piece = piece_of c.args.section in
    let more = texts_more piece c.args.kind l.first (take l.at l.block) c.args.count l.row l.rest.now (head_of v.head) v.head.number v.items.now c.in-Ok.read.1.now _ c.loop-row-test.true c.in-Ok.ensures.value l.invariant.same in
    let room = texts_room piece (record { first = l.first + v.head.number; text = take l.at l.block ++ piece l.first x }) (length c.args.block.now) _ _ c.requires.room more in
    let long = length-piece c.args.section c.args.kind l.first x c.requires.suits c.in-Ok.ensures.is ∙ ap (λ (n : ℕ). fixed c.args.section + per_item c.args.section c.args.kind * n) (length-cut v.head.number c.args.kind.item v.items.now) in
    let there : l.at + c.section_length.result ≤ length l.block
    = omega (arith, room, long, length-append (take l.at l.block) (piece l.first x), length-take l.at l.block, l.invariant.inside, c.section_length.ensures.value) in
    simp (length-take, length-drop) (omega (arith, there, c.section_length.ensures.value))

pub loop-row-preserved : goal.loop-row-preserved
loop-row-preserved c =
    let l = c.loop-row in
    let v = c.in-Ok.read.0 in
    let x = series_of c.args.kind v in
    let piece = piece_of c.args.section in
    let size = c.section_length.result in
    let part = c.put_piece.new.block in
    let more = texts_more piece c.args.kind l.first (take l.at l.block) c.args.count l.row l.rest.now (head_of v.head) v.head.number v.items.now c.in-Ok.read.1.now _ c.loop-row-test.true c.in-Ok.ensures.value l.invariant.same in
    let room = texts_room piece (record { first = l.first + v.head.number; text = take l.at l.block ++ piece l.first x }) (length c.args.block.now) _ _ c.requires.room more in
    let long = length-piece c.args.section c.args.kind l.first x c.requires.suits c.in-Ok.ensures.is ∙ ap (λ (n : ℕ). fixed c.args.section + per_item c.args.section c.args.kind * n) (length-cut v.head.number c.args.kind.item v.items.now) in
    let there : l.at + size ≤ length l.block
    = omega (arith, room, long, length-append (take l.at l.block) (piece l.first x), length-take l.at l.block, l.invariant.inside, c.section_length.ensures.value) in
    let len : length part ≡ size = ap length c.put_piece.ensures ∙ long ∙ omega (arith, c.section_length.ensures.value) in
    let cut : take (l.at + size) (put_mid l.at (l.at + size - l.at) l.block part) ≡ take l.at l.block ++ part
    = take-put_mid l.at (l.at + size - l.at) l.block part (l.at + size) (omega (arith, len)) (omega (arith, there)) in
    record {
      same = rw (cut, c.put_piece.ensures) more;
      room = omega (arith, c.in-Ok.ensures.taken, l.invariant.room);
      inside = ap length cut ∙ length-append (take l.at l.block) part ∙ omega (arith, len, l.invariant.inside);
    }

pub returns : goal.returns
returns c =
    let l = c.loop-row in
    let piece = piece_of c.args.section in
    let text = take l.at l.block in
    let s : Texts = record { first = l.first; text = text } in
    let end = fold_done (series c.args.kind) (add_piece piece) s c.args.count l.row l.rest.now _ c.loop-row-test.false l.invariant.same in
    let long : length text ≡ length c.args.block.now = texts_end piece s l.rest.now (length c.args.block.now) _ c.requires.room end in
    let whole : text ≡ l.block = take_all l.at l.block (omega (arith, long, length-take l.at l.block, l.invariant.inside)) in
    rw (← whole) (texts_written piece s l.rest.now _ end)
