-- The words of a command text.
use Prim.Native.Nat.{zero, suc}
use Rattle.std.specs.Prelude.{ℕ, ◌+◌, Bool, ◌||◌, ◌==◌, nat_le, nat_eq, if◌then◌else◌, List, [], ◌∷◌, length, drop, Option, Some, None, codes, not}
use Rattle.std.specs.List.{before_first, starts_with, position_or_len}
use Rattle.cmd_buffer.specs.declared.words.Found.{Found}

-- a byte between words
abbrev pub is_blank : ℕ → Bool
is_blank byte = nat_le byte 32

-- a byte that is a word by itself: one of { } ( ) ' and :
abbrev pub is_single : ℕ → Bool
is_single byte = (byte == 123) || (byte == 125) || (byte == 40) || (byte == 41) || (byte == 39) || (byte == 58)

-- a byte that ends the word before it
abbrev pub ends_word : ℕ → Bool
ends_word byte = is_blank byte || is_single byte

abbrev pub is_comment : List ℕ → Bool
is_comment text = starts_with nat_eq text (codes "//")

-- a word, and what follows it
pub record Word : Type 0 where
  pub word : List ℕ
  pub rest : List ℕ

-- behind a quote: the word up to the next quote, or to the end
abbrev pub quoted : List ℕ → Word
quoted text = record {
  word = before_first (λ byte. byte == 34) text;
  rest = drop (position_or_len (λ byte. byte == 34) text + 1) text;
}

-- the longest prefix in which no byte ends a word
abbrev pub plain : List ℕ → Word
plain text = record { word = before_first ends_word text; rest = drop (position_or_len ends_word text) text }

-- the word at the front of a text that begins with no blank and no comment
abbrev pub word_from : List ℕ → Option Word
word_from [] = None
word_from (byte ∷ bytes) = Some (
    if byte == 34 then quoted bytes
    else (if is_single byte then record { word = byte ∷ []; rest = bytes }
    else plain (byte ∷ bytes)))

-- the word at the front of a text that begins with no blank
abbrev pub word_at_front : List ℕ → Option Word
word_at_front text = if is_comment text then None else word_from text

-- the first word of a text
abbrev pub first_word : List ℕ → Option Word
first_word text = word_at_front (drop (position_or_len (λ byte. not (is_blank byte)) text) text)

-- a word, and then the words of what follows it
abbrev pub word_and : Option Word → (List ℕ → List (List ℕ)) → List (List ℕ)
word_and None words = []
word_and (Some found) words = found.word ∷ words found.rest

-- the first n words of a text
abbrev pub first_words : ℕ → List ℕ → List (List ℕ)
first_words zero text = []
first_words (suc n) text = word_and (first_word text) (λ rest. first_words n rest)

-- a word that was found, and then so many words of what follows it
abbrev pub words_behind : ℕ → Option Word → List (List ℕ)
words_behind more found = word_and found (λ rest. first_words more rest)

-- the words of a text, of which the first 80 are kept
unfoldable pub words_of : List ℕ → List (List ℕ)
words_of text = first_words 80 text

-- how many bytes the words have together
abbrev pub letters_in : List (List ℕ) → ℕ
letters_in [] = 0
letters_in (word ∷ words) = length word + letters_in words

-- what the code finds, as a word
abbrev pub found_of : Found → Word
found_of found = record { word = found.word.now; rest = found.rest.now }
