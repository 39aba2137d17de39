use Rattle.std.proofs.Common.{rules, ◌≡◌, ◌<◌, ℕ, ◌++◌, ◌∷◌, [], List, true, false, is_some, length, sym, ap, ◌∙◌, arith}
use Rattle.std.proofs.lemmas.List.{append-nil}
use Rattle.bsp29_tables.specs.Cycles.{name_of, frame_of}
use Rattle.bsp29_tables.proofs.FrameLaws.{filter_range_more}
use Rattle.bsp29_tables.proofs.groups.shown_in.Goals as goal
use Rattle.bsp29_tables.proofs.groups.shown_in.Goals.{then-is_some, else-is_some}

pub push-requires : goal.push-requires
push-requires c =
    let few : length c.loop-texture.order.items < 4096 =
    omega (arith, c.loop-texture.invariant.few, c.texture_count-texture-end.ensures.few) in
    (search rules, few)

pub loop-texture-preserved : goal.loop-texture-preserved
loop-texture-preserved c =
    let test = λ (t : ℕ). is_some (frame_of (name_of c.args.lump.now t)) in
    let texture = c.loop-texture.texture in
    let told : c.is_some.result ≡ test texture =
    rw (c.frame_of.ensures.told, c.name_of.ensures) at c.is_some.ensures in
    elim c.if-is_some.branch [
      | then-is_some w ↦
          let passes : test texture ≡ true = sym told ∙ w.if-is_some.true in
          let more = rw passes at (filter_range_more test texture) in
          record {
            shown = rw w.order-is
                (w.push.ensures.items
                ∙ ap (λ (l : List ℕ). l ++ texture ∷ []) c.loop-texture.invariant.shown
                ∙ sym more);
            few = rw w.order-is (omega (arith, w.push.ensures.len));
          }
      | else-is_some w ↦
          let fails : test texture ≡ false = sym told ∙ w.if-is_some.false in
          let more = rw (fails, append-nil) at (filter_range_more test texture) in
          record {
            shown = rw w.order-is (c.loop-texture.invariant.shown ∙ sym more);
            few = rw w.order-is (omega (arith, c.loop-texture.invariant.few));
          }
    ]
