use Rattle.std.proofs.Common.{◌≡◌, ◌≢◌, ◌≤◌, ℕ, List, [], ◌∷◌, ◌++◌, length, take, Option, option_map, ◌∙◌, ap, arith}
use Rattle.outside_io.specs.Streams.{TakesFront, Took}
use Rattle.console_core.proofs.script.read_past.Goals as goal

-- a read into room for one byte that is not at the end takes one
one_taken : (into : List ℕ) (n : ℕ) (before now : Option (List ℕ)) → length into ≡ 1 → n ≢ 0 → n ≤ length into → TakesFront before now n into → (byte : ℕ) × Took (byte ∷ []) before now
one_taken [] n before now one some within front = absurd (omega arith)
one_taken (byte ∷ []) n before now one some within front =
    let n_is : n ≡ 1 = omega arith in
    (byte, front.taken ∙ ap (λ (k : ℕ). option_map (λ left. take k (byte ∷ []) ++ left) now) n_is)
one_taken (byte ∷ other ∷ bytes) n before now one some within front = absurd (omega arith)

pub returns-in-Ok-clause-past : goal.returns-in-Ok-clause-past
returns-in-Ok-clause-past g c = one_taken c.read.new.into c.in-Ok.field-0 _ _ c.read.auto.into c.in-Ok.field-0-test.1 c.in-Ok.ensures.within c.in-Ok.ensures.taken
