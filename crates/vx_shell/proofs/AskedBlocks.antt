-- The blocks that words name don't end before they begin.
use Rattle.std.proofs.Common.{◌≡◌, refl, subst, ◌≤◌, Bool, true, false, cond, ◌&&◌, List, [], ◌∷◌, Option, Some, None, option_map, codes}
use Rattle.std.specs.Str.{bytes_eq}
use Rattle.vx_dtype.specs.Types.{Bytes}
use Rattle.vx_laws_shell.specs.Words.{Asked, BlockRange, range_of_word, is_counts_word, is_blocks_word, asked_with, asked_of_blocks, asked_behind, asked_of}
use Rattle.vx_laws_shell.proofs.RangeWords.{words_tell_ranges}
use Rattle.vx_shell.specs.AskedBlocks.{AsksInOrder}

-- where something is asked
abbrev InOrder : Option Asked → Type 0
InOrder None = Unit {0}
InOrder (Some asked) = AsksInOrder asked

either_in_order : (b : Bool) (x y : Option Asked) → InOrder x → InOrder y → InOrder (cond b x y)
either_in_order true x y h k = h
either_in_order false x y h k = k

range_in_order : (word : Bytes) (range : BlockRange) → range_of_word word ≡ Some range → range.from ≤ range.up_to
range_in_order word range h = ((words_tell_ranges word range).0 h).1

blocks_in_order : (statement : Bytes) (counts : Bool) (word : Bytes) → InOrder (asked_of_blocks statement counts word)
blocks_in_order statement counts word = by (range_of_word word) refl
  where
    by : (o : Option BlockRange) → range_of_word word ≡ o → InOrder (option_map (λ range. asked_with statement counts (Some range)) o)
    by None e = tt
    by (Some range) e = range_in_order word range e

behind_in_order : (words : List Bytes) → InOrder (asked_behind words)
behind_in_order [] = tt
behind_in_order (statement ∷ []) = tt
behind_in_order (statement ∷ option ∷ []) = either_in_order (is_counts_word option) (Some (asked_with statement true None)) None tt tt
behind_in_order (statement ∷ option ∷ word ∷ []) =
    either_in_order (is_blocks_word option) (asked_of_blocks statement false word) None (blocks_in_order statement false word) tt
behind_in_order (statement ∷ first ∷ second ∷ third ∷ []) =
    let more = cond (is_blocks_word first && is_counts_word third) (asked_of_blocks statement true second) None in
    either_in_order (is_counts_word first && is_blocks_word second) (asked_of_blocks statement true third) more (blocks_in_order statement true third)
    (either_in_order (is_blocks_word first && is_counts_word third) (asked_of_blocks statement true second) None (blocks_in_order statement true second) tt)
behind_in_order (statement ∷ first ∷ second ∷ third ∷ fourth ∷ more) = tt

words_in_order : (words : List Bytes) → InOrder (asked_of words)
unfolding asked_of
words_in_order [] = tt
words_in_order (word ∷ words) = either_in_order (bytes_eq word (codes "sql")) (asked_behind words) None (behind_in_order words) tt

pub asked_in_order : (words : List Bytes) (asked : Asked) → asked_of words ≡ Some asked → AsksInOrder asked
asked_in_order words asked h = subst InOrder h (words_in_order words)
