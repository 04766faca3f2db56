-- What the words of `sql` ask: a statement, whether the last line of counts is told, and which blocks.
use Rattle.std.specs.Prelude.{◌≡◌, ◌↔◌, ℕ, ◌<◌, ◌≤◌, ◌^◌, ◌==◌, nat_le, not, Bool, true, false, cond, ◌&&◌}
use Rattle.std.specs.Prelude.{List, [], ◌∷◌, ◌++◌, codes, decimal, Option, Some, None, option_map}
use Rattle.std.specs.List.{list_all, before_first, after_first}
use Rattle.std.specs.Option.{option_and_then}
use Rattle.std.specs.Char.{is_ascii_digit}
use Rattle.std.specs.Str.{bytes_eq}
use Rattle.vx_dtype.specs.Types.{Bytes}
use Rattle.vx_tokens.specs.Numbers.{number_value}

-- the blocks from one on, up to another one and without it; blocks are counted from 0
pub record BlockRange : Type 0 where
  pub from : ℕ
  pub up_to : ℕ

-- what words ask: a statement, whether counts are told, and the blocks, all where none are named
pub record Asked : Type 0 where
  pub statement : Bytes
  pub counts : Bool
  pub blocks : Option BlockRange

-- whether bytes begin as a number: there are some, and no 0 stands before others
abbrev pub begins_as_number : Bytes → Bool
begins_as_number [] = false
begins_as_number (b ∷ []) = true
begins_as_number (b ∷ c ∷ bytes) = not (b == 48)

-- whether a word is written as a number: decimal digits, of which no 0 stands before others
abbrev pub is_number_word : Bytes → Bool
is_number_word word = begins_as_number word && list_all is_ascii_digit word

-- the number that a word tells; none from 2 ^ 64 on, which no table has blocks for
abbrev pub number_of_word : Bytes → Option ℕ
number_of_word word = cond (is_number_word word) (number_value word) None

-- the range from one number up to another, where it doesn't end before it begins
abbrev pub range_between : ℕ → ℕ → Option BlockRange
range_between a b = cond (nat_le a b) (Some (record { from = a; up_to = b })) None

-- the range of two words that tell its numbers
abbrev pub range_of_words : Bytes → Bytes → Option BlockRange
range_of_words a b = option_and_then (λ m. option_and_then (range_between m) (number_of_word b)) (number_of_word a)

-- what stands behind the `.` that bytes begin with
abbrev pub behind_dot : Bytes → Option Bytes
behind_dot [] = None
behind_dot (b ∷ bytes) = cond (b == 46) (Some bytes) None

-- the range that is told by what stands before the first `.` of a word, and by what stands behind it, which begins with another one
abbrev pub range_around : Bytes → Bytes → Option BlockRange
range_around before behind = option_and_then (range_of_words before) (behind_dot behind)

-- the range that a word tells: `A..B`, the blocks from A on, up to B and without it
unfoldable pub range_of_word : Bytes → Option BlockRange
range_of_word word = range_around (before_first (λ b. b == 46) word) (after_first (λ b. b == 46) word)

-- the words that begin options
abbrev pub is_counts_word : Bytes → Bool
is_counts_word word = bytes_eq word (codes "--stats")

abbrev pub is_blocks_word : Bytes → Bool
is_blocks_word word = bytes_eq word (codes "--blocks")

-- what options ask of a statement: whether counts are told, and the blocks
abbrev pub asked_with : Bytes → Bool → Option BlockRange → Asked
asked_with statement counts blocks = record { statement = statement; counts = counts; blocks = blocks }

-- what a statement asks with the blocks of a word behind `--blocks`
abbrev pub asked_of_blocks : Bytes → Bool → Bytes → Option Asked
asked_of_blocks statement counts word = option_map (λ range. asked_with statement counts (Some range)) (range_of_word word)

-- what is asked behind `sql` by a statement and its options, in any order, each at most once
abbrev pub asked_behind : List Bytes → Option Asked
asked_behind (statement ∷ []) = Some (asked_with statement false None)
asked_behind (statement ∷ option ∷ []) = cond (is_counts_word option) (Some (asked_with statement true None)) None
asked_behind (statement ∷ option ∷ word ∷ []) = cond (is_blocks_word option) (asked_of_blocks statement false word) None
asked_behind (statement ∷ first ∷ second ∷ third ∷ []) =
    cond (is_counts_word first && is_blocks_word second) (asked_of_blocks statement true third)
    (cond (is_blocks_word first && is_counts_word third) (asked_of_blocks statement true second) None)
asked_behind _ = None

-- what words ask; none where they have not this form
unfoldable pub asked_of : List Bytes → Option Asked
asked_of [] = None
asked_of (word ∷ words) = cond (bytes_eq word (codes "sql")) (asked_behind words) None

-- a word tells a range exactly where it is the decimal digits of two numbers with `..` between them, of which the first isn't greater
abbrev pub WordsTellRanges : Type 0
WordsTellRanges =
    (word : Bytes) (range : BlockRange) → (range_of_word word ≡ Some range)
    ↔ ((word ≡ decimal range.from ++ (codes ".." ++ decimal range.up_to)) × (range.from ≤ range.up_to) × (range.up_to < 2 ^ 64))
