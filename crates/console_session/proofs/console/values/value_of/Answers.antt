use Rattle.std.proofs.Common.{◌++◌, ap, sym, ◌∙◌, arith}
use Rattle.std.proofs.lemmas.Grind.{common_steps}
use Rattle.console_session.specs.Commands.{spaced}
use Rattle.console_session.proofs.Wording.{words_end, letters_split, length_split}
use Rattle.console_session.proofs.console.values.value_of.Goals as goal

pub unwrap-requires : goal.unwrap-requires
unwrap-requires c =
    let letters = letters_split c.words.left c.in-Some.word.now c.in-Some.ensures in
    let fits = c.words.invariant.small in
    grind (arith, common_steps)

pub push-requires : goal.push-requires
push-requires c =
    let letters = letters_split c.words.left c.in-Some.word.now c.in-Some.ensures in
    let count = length_split c.words.left c.in-Some.word.now c.in-Some.ensures in
    (omega arith, grind (arith, common_steps))

pub returns : goal.returns
returns c = c.push-2.ensures.items ∙ ap (λ l. c.words.value.items ++ spaced l) (sym (words_end c.words.left c.in_default.ensures)) ∙ c.words.invariant.text
