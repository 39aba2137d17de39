-- What commands on aliases and cvars did.
use Rattle.std.proofs.Common.{◌≢◌, ℕ, zero, suc, arith, drop, List, [], ◌∷◌, ◌++◌}
use Rattle.std.specs.List.{AllByRecursion}
use Rattle.std.proofs.lemmas.List.Elements.{All-nil, All-cons, All-append}
use Rattle.mem_model.specs.Laid.{IsText}
use Rattle.console_session.specs.Commands.{word_at, spaced}

-- the words of a command have no zeros
pub word_text : (words : List (List ℕ)) (number : ℕ) → AllByRecursion IsText words → IsText (word_at number words)
word_text [] zero all = All-nil (λ byte. byte ≢ 0)
word_text [] (suc number) all = All-nil (λ byte. byte ≢ 0)
word_text (word ∷ words) zero all = all.0
word_text (word ∷ words) (suc number) all = word_text words number all.1

one_text : (byte : ℕ) → byte ≢ 0 → IsText (byte ∷ [])
one_text byte some = All-cons (λ b. b ≢ 0) byte [] some (All-nil (λ b. b ≢ 0))

spaced_text : (words : List (List ℕ)) → AllByRecursion IsText words → IsText (spaced words)
spaced_text [] all = one_text 10 (λ e. absurd (omega (arith, e)))
spaced_text (word ∷ words) all =
    All-append (λ b. b ≢ 0) (word ++ 32 ∷ []) (spaced words) (All-append (λ b. b ≢ 0) word (32 ∷ []) all.0 (one_text 32 (λ e. absurd (omega (arith, e))))) (spaced_text words all.1)

drop_texts : (n : ℕ) (words : List (List ℕ)) → AllByRecursion IsText words → AllByRecursion IsText (drop n words)
drop_texts zero words all = all
drop_texts (suc n) [] all = tt
drop_texts (suc n) (word ∷ words) all = drop_texts n words all.1

-- the value that the words of `alias` make has none
pub value_text : (words : List (List ℕ)) → AllByRecursion IsText words → IsText (spaced (drop 2 words))
value_text words all = spaced_text (drop 2 words) (drop_texts 2 words all)
