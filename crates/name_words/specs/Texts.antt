-- Texts in words of 64 bits: 3 a text (01, Answers: a text is place, length, alphabet).
use mathlib.Core.List.{List, [], flat_map}
use Rattle.std.specs.Prelude.{ℕ}
use Rattle.text.specs.declared.Text.{Text}
use Rattle.column.specs.Numbers.{text_numbers}

-- a text's words: place, length and alphabet (01, Answers: a text)
abbrev pub words_of_text : Text → List ℕ
words_of_text t = text_numbers t []

-- those of a list of texts, one text after the other (01, Answers: the name scan lists such texts)
abbrev pub text_words : List Text → List ℕ
text_words l = flat_map words_of_text l
