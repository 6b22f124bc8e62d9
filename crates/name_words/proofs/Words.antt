-- Nothing is written where there is no name.
use mathlib.Core.Path.{◌≡◌, refl}
use mathlib.Core.List.{List, [], flat_map}
use Prim.Native.Nat.{ℕ}
use Rattle.search.specs.Search.{over}
use Rattle.text.specs.declared.Text.{Text}
use Rattle.name_words.specs.Texts.{text_words}

pub no_words : (words : List ℕ) (names : List Text) → names ≡ [] → words ≡ over (text_words names) words
unfolding flat_map
no_words words names e = rw e refl
