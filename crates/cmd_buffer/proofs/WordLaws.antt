-- Laws of the words of a text: they are parts of it.
use Rattle.std.proofs.Common.{◌≢◌, ◌==◌, ℕ, zero, suc, ◌+◌, ◌≤◌, Bool, true, false, not, List, [], ◌∷◌, length, take, drop, Option, Some, None, if◌then◌else◌, arith}
use Rattle.std.specs.List.{position_or_len, AllByRecursion}
use Rattle.std.proofs.lemmas.List.{length-take, length-drop}
use Rattle.std.proofs.lemmas.List.Elements.{All-take, All-drop, All-head, All-tail, All-cons, All-nil}
use Rattle.mem_model.specs.Laid.{IsText}
use Rattle.cmd_buffer.specs.Words.{Word, is_blank, is_single, ends_word, is_comment, quoted, plain, word_from, first_word, word_and, first_words, words_of, letters_in}
use Rattle.cmd_buffer.proofs.Counting.{few_words}

-- A word and what follows it are parts of the text.
record IsPart (text : List ℕ) (found : Word) : Type 0 where
  sized : length found.word + length found.rest ≤ length text
  word : IsText text → IsText found.word
  rest : IsText text → IsText found.rest

-- so is a word that was found, where one was
AreParts : List ℕ → Option Word → Type 0
AreParts text None = Unit {0}
AreParts text (Some found) = IsPart text found

text_front : (n : ℕ) (text : List ℕ) → IsText text → IsText (take n text)
text_front n text is_text = All-take (λ byte. byte ≢ 0) n text is_text

text_back : (n : ℕ) (text : List ℕ) → IsText text → IsText (drop n text)
text_back n text is_text = All-drop (λ byte. byte ≢ 0) n text is_text

-- a front, and what stands behind it or further on
cut_part : (text : List ℕ) (n k : ℕ) → n ≤ k → IsPart text (record { word = take n text; rest = drop k text })
cut_part text n k le = record {
  sized = omega (arith, length-take n text, length-drop k text);
  word = text_front n text;
  rest = text_back k text;
}

-- parts of what follows the first bytes
part_behind : (text : List ℕ) (n : ℕ) (found : Word) → IsPart (drop n text) found → IsPart text found
part_behind text n found part = record {
  sized = omega (arith, part.sized, length-drop n text);
  word = λ is_text. part.word (text_back n text is_text);
  rest = λ is_text. part.rest (text_back n text is_text);
}

part_after : (byte : ℕ) (bytes : List ℕ) (found : Word) → IsPart bytes found → IsPart (byte ∷ bytes) found
part_after byte bytes found part = record {
  sized = omega (arith, part.sized);
  word = λ is_text. part.word (All-tail (λ b. b ≢ 0) byte bytes is_text);
  rest = λ is_text. part.rest (All-tail (λ b. b ≢ 0) byte bytes is_text);
}

single_part : (byte : ℕ) (bytes : List ℕ) → IsPart (byte ∷ bytes) (record { word = byte ∷ []; rest = bytes })
single_part byte bytes = record {
  sized = omega arith;
  word = λ is_text. All-cons (λ b. b ≢ 0) byte [] (All-head (λ b. b ≢ 0) byte bytes is_text) (All-nil (λ b. b ≢ 0));
  rest = λ is_text. All-tail (λ b. b ≢ 0) byte bytes is_text;
}

quoted_part : (text : List ℕ) → IsPart text (quoted text)
quoted_part text = let n = position_or_len (λ byte. byte == 34) text in cut_part text n (n + 1) (omega arith)

plain_part : (text : List ℕ) → IsPart text (plain text)
plain_part text = let n = position_or_len ends_word text in cut_part text n n (omega arith)

chosen : (P : Word → Type 0) (b : Bool) (x y : Word) → P x → P y → P (if b then x else y)
chosen P true x y px py = px
chosen P false x y px py = py

front_parts : (text : List ℕ) → AreParts text (word_from text)
unfolding AreParts
front_parts [] = tt
front_parts (byte ∷ bytes) =
    chosen (IsPart (byte ∷ bytes)) (byte == 34) (quoted bytes) _ (part_after byte bytes (quoted bytes) (quoted_part bytes))
    (chosen (IsPart (byte ∷ bytes)) (is_single byte) _ (plain (byte ∷ bytes)) (single_part byte bytes) (plain_part (byte ∷ bytes)))

at_front_parts : (text : List ℕ) (b : Bool) → AreParts text (if b then None else word_from text)
unfolding AreParts
at_front_parts text true = tt
at_front_parts text false = front_parts text

behind_parts : (text : List ℕ) (n : ℕ) (o : Option Word) → AreParts (drop n text) o → AreParts text o
unfolding AreParts
behind_parts text n None parts = tt
behind_parts text n (Some found) part = part_behind text n found part

first_parts : (text : List ℕ) → AreParts text (first_word text)
first_parts text =
    let n = position_or_len (λ byte. not (is_blank byte)) text in
    behind_parts text n (first_word text) (at_front_parts (drop n text) (is_comment (drop n text)))

texts_after : (text : List ℕ) (o : Option Word) (after : List ℕ → List (List ℕ)) → AreParts text o → ((rest : List ℕ) → IsText rest → AllByRecursion IsText (after rest)) → IsText text → AllByRecursion IsText (word_and o after)
unfolding AreParts
texts_after text None after parts behind is_text = tt
texts_after text (Some found) after part behind is_text = (part.word is_text, behind found.rest (part.rest is_text))

texts_first : (n : ℕ) (text : List ℕ) → IsText text → AllByRecursion IsText (first_words n text)
texts_first zero text is_text = tt
texts_first (suc n) text is_text = texts_after text (first_word text) (λ rest. first_words n rest) (first_parts text) (λ rest. texts_first n rest) is_text

sized_after : (text : List ℕ) (o : Option Word) (after : List ℕ → List (List ℕ)) → AreParts text o → ((rest : List ℕ) → letters_in (after rest) ≤ length rest) → letters_in (word_and o after) ≤ length text
unfolding AreParts
sized_after text None after parts behind = omega arith
sized_after text (Some found) after part behind = omega (arith, part.sized, behind found.rest)

sized_first : (n : ℕ) (text : List ℕ) → letters_in (first_words n text) ≤ length text
sized_first zero text = omega arith
sized_first (suc n) text = sized_after text (first_word text) (λ rest. first_words n rest) (first_parts text) (λ rest. sized_first n rest)

-- The words of a text without zero bytes have none.
pub words_texts : (text : List ℕ) → IsText text → AllByRecursion IsText (words_of text)
unfolding words_of
words_texts text is_text = texts_first 80 text is_text

-- There are at most 80.
pub words_few : (text : List ℕ) → length (words_of text) ≤ 80
unfolding words_of
words_few text = few_words 80 text

-- Together they have no more bytes than the text.
pub words_sized : (text : List ℕ) → letters_in (words_of text) ≤ length text
unfolding words_of
words_sized text = sized_first 80 text

-- for callers: `#[tactic(auto, using(cmd_buffer::proofs::WordLaws::word_laws))]`
pub ruleset word_laws = (words_texts, words_few, words_sized)
