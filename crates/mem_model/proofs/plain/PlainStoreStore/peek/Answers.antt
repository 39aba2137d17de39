use Rattle.std.proofs.Common.{◌∙◌, Some, ap, sym}
use Rattle.std.specs.Option.{option_map}
use Rattle.mem_model.specs.Blocks.{CacheBlock}
use Rattle.mem_model.specs.Memory.{Memory}
use Rattle.mem_model.specs.Cache.{peek_bytes, block_of}
use Rattle.mem_model.proofs.plain.PlainStoreStore.peek.Goals as goal

pub returns-in-Some-clause-shows : goal.returns-in-Some-clause-shows
unfolding peek_bytes
returns-in-Some-clause-shows c =
    ap (λ (m : Memory). option_map (λ (b : CacheBlock). b.bytes) (block_of m.cache c.args.user)) (sym c.self.view_is) ∙ ap (option_map (λ (b : CacheBlock). b.bytes)) c.in-Some.ensures ∙ ap Some (sym c.bytes.ensures)

pub returns-in-None-clause-shows : goal.returns-in-None-clause-shows
unfolding peek_bytes
returns-in-None-clause-shows c = ap (λ (m : Memory). option_map (λ (b : CacheBlock). b.bytes) (block_of m.cache c.args.user)) (sym c.self.view_is) ∙ ap (option_map (λ (b : CacheBlock). b.bytes)) c.in-None.ensures
