-- Reads one after another.
use Rattle.std.proofs.Common.{ℕ, List, [], ◌++◌, take, Option, Some, None, option_map, refl, sym, ◌∙◌, ap, append_assoc}
use Rattle.outside_io.specs.Streams.{TakesFront, Took}

pub took_none : (start : Option (List ℕ)) → Took [] start start
took_none None = refl
took_none (Some left) = refl

pub took_more : (taken into : List ℕ) (n : ℕ) (start mid now : Option (List ℕ)) → Took taken start mid → TakesFront mid now n into → Took (taken ++ take n into) start now
took_more taken into n start mid None so_far more = so_far ∙ ap (option_map (λ left. taken ++ left)) more.taken
took_more taken into n start mid (Some left) so_far more = so_far ∙ ap (option_map (λ left. taken ++ left)) more.taken ∙ ap (λ (l : List ℕ). Some l) (sym (append_assoc taken (take n into) left))
