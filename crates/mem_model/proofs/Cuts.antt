-- What the end of some blocks keeps, as a mark.
use Rattle.std.proofs.Common.{◌≡◌, ℕ, ◌+◌, List, [], ◌∷◌, ◌++◌, Some, eq-eqb, refl, ap, arith}
use Rattle.std.specs.Option.{option_map}
use Rattle.std.specs.List.{AllByRecursion}
use Rattle.std.proofs.lemmas.Bool.{ne_eqb}
use Rattle.mem_model.specs.Blocks.{HunkBlock}
use Rattle.mem_model.specs.Memory.{size_of}
use Rattle.mem_model.specs.Laid.{IsHunkBlock, AreLowBlocks}
use Rattle.mem_model.specs.Hunk.{cut_from, cut_above}

cut_whole_from : (start : ℕ) (blocks others : List HunkBlock) (mark : ℕ) → AllByRecursion IsHunkBlock blocks → start + size_of blocks ≡ mark → cut_from start (blocks ++ others) mark ≡ Some blocks
cut_whole_from start [] [] mark p e = rw (eq-eqb start mark (omega arith)) refl
cut_whole_from start [] (b ∷ bs) mark p e = rw (eq-eqb start mark (omega arith)) refl
cut_whole_from start (c ∷ cs) others mark p e =
    rw (ne_eqb start mark (λ same. absurd (omega (arith, p.0.header)))) (ap (option_map (λ kept. c ∷ kept)) (cut_whole_from (start + c.size) cs others mark p.1 (omega arith)))

-- The end of the first blocks keeps them all, and none of the others.
pub cut_whole : (low others : List HunkBlock) (mark : ℕ) → AreLowBlocks low → size_of low ≡ mark → cut_above (low ++ others) mark ≡ Some low
cut_whole [] others mark p e = absurd p
cut_whole (zone ∷ blocks) others mark p e = ap (option_map (λ kept. zone ∷ kept)) (cut_whole_from zone.size blocks others mark p.1 e)
