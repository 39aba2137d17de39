use Rattle.std.proofs.Common.{◌≡◌, codes, refl, ap, ◌∙◌, subst}
use Rattle.base_fields.specs.Names.{base_of}
use Rattle.mem_model.specs.Memory.{Memory}
use Rattle.mem_model.specs.Answer.{Gives}
use Rattle.mem_model.specs.Hunk.{without_temp}
use Rattle.mem_model.specs.Operations.{high_alloc, high_free}
use Rattle.mem_model.specs.Told.{room_answer}
use Rattle.res_table.specs.Held.{lows_of}
use Rattle.console_session.specs.Serving.{seen}
use Rattle.console_session.specs.Commands.{high_cleared}
use Rattle.console_session.proofs.Clearing.{beside_video, holds_high, keeps_video}
use Rattle.console_session.proofs.Serving.{does_block}
use Rattle.console_session.proofs.console.Console.video.Goals as goal

pub returns : goal.returns
returns g c =
    let s = seen g.M.Store g.F.Folder c.args.self.now in
    let marked = g.M.Store.state c.high_mark.new.self in
    let freed = g.M.Store.state c.high_free.new.self in
    let m = g.M.Store.state c.high_alloc-given.new.self in
    let answer = room_answer c.high_alloc-given.result in
    let cleared : freed ≡ high_cleared s.memory = c.high_free.ensures.gives.after ∙ ap (λ (n : Memory). (high_free n 0).after) c.high_mark.ensures.gives.after in
    let name = c.base.result.now in
    let beside = beside_video s.memory marked freed m c.from.result name g.M.Store.frugal _ _ answer c.high_mark.ensures.gives c.high_free.ensures.gives c.high_alloc-given.ensures.gives in
    let keeps = keeps_video s.memory marked freed m c.from.result name g.M.Store.frugal _ _ answer c.high_mark.ensures.gives c.high_free.ensures.gives c.high_alloc-given.ensures.gives
    (lows_of s.table) c.requires.holds.laid c.high_mark.ensures.laid c.high_free.ensures.laid c.base.ensures.text in
    let holds = holds_high s m c.requires.holds c.high_alloc-given.ensures.laid beside keeps in
    rw (c.in-Some.is, c.in-Some-name.is) (does_block g.M.Store g.F.Folder g.O.Sink c.args.self.now _ c.args.out.now _ _ _ (codes "video ") c.in-Some-name.name c.in-Some.size _ (without_temp freed) c.high_alloc-given.result refl
    (subst (λ (n : Memory). Gives (high_alloc n c.in-Some.size (base_of c.in-Some-name.name)) g.M.Store.frugal (without_temp freed) answer m) cleared (rw (c.from.ensures, c.base.ensures.value) at c.high_alloc-given.ensures.gives)) refl refl holds c.put_block.ensures)
