-- A column's words: how many they are.
use mathlib.Core.Path.{◌≡◌, refl}
use mathlib.Core.List.{List}
use Prim.Native.Nat.{◌*◌}
use lib.ListN.{length}
use Rattle.search.proofs.Writing.{blocks_length}
use Rattle.types.specs.declared.ColumnMetadata.{ColumnMetadata}
use Rattle.column_words.specs.Words.{words_of, all_words}

pub words_length : (c : ColumnMetadata) → length (words_of c) ≡ 22
unfolding words_of
words_length c = refl

pub all_length : (l : List ColumnMetadata) → length (all_words l) ≡ length l * 22
all_length l = blocks_length words_of 22 words_length l
