use Rattle.std.proofs.Common.{◌≤◌, ℕ, List, length, ap, subst, sym}
use Rattle.std.specs.List.{AllByRecursion}
use Rattle.mem_model.specs.Laid.{IsText}
use Rattle.cmd_buffer.specs.Words.{words_of, words_behind, letters_in}
use Rattle.cmd_buffer.proofs.WordLaws.{words_texts, words_few, words_sized}
use Rattle.cmd_buffer.proofs.words.tokenize.Goals as goal

pub returns-clause-words : goal.returns-clause-words
unfolding words_of
returns-clause-words c = ap (words_behind 79) c.next_word.ensures

pub returns-clause-texts : goal.returns-clause-texts
returns-clause-texts c = subst (λ (words : List (List ℕ)). IsText c.args.text.now → AllByRecursion IsText words) (sym (returns-clause-words c)) (words_texts c.args.text.now)

pub returns-clause-few : goal.returns-clause-few
returns-clause-few c = subst (λ (words : List (List ℕ)). length words ≤ 80) (sym (returns-clause-words c)) (words_few c.args.text.now)

pub returns-clause-sized : goal.returns-clause-sized
returns-clause-sized c = subst (λ (words : List (List ℕ)). letters_in words ≤ length c.args.text.now) (sym (returns-clause-words c)) (words_sized c.args.text.now)
