-- Tokens: what a text is cut into, the longest one at each place.
use Rattle.std.specs.Prelude.{ℕ, zero, suc, ◌==◌, nat_lt, Bool, true, false, not, ◌&&◌, ◌||◌, if◌then◌else◌}
use Rattle.std.specs.Prelude.{List, [], ◌∷◌, ◌++◌, length, Option, Some, None, option_map, codes}
use Rattle.std.specs.Option.{option_or}
use Rattle.std.specs.Str.{bytes_eq, is_utf8}
use Rattle.vx_dtype.specs.declared.PType.{PType}
use Rattle.vx_dtype.specs.Types.{Bytes}
pub use Rattle.vx_dtype.specs.Texts.{integer_named}
use Rattle.vx_tokens.specs.declared.lexing.Class.{Class}
use Rattle.vx_tokens.specs.declared.lexing.Class.TheVariants as classes
use Rattle.vx_tokens.specs.declared.tokens.Keyword.{Keyword}
use Rattle.vx_tokens.specs.declared.tokens.Keyword.TheVariants as words
use Rattle.vx_tokens.specs.declared.tokens.Sign.{Sign}
use Rattle.vx_tokens.specs.declared.tokens.Sign.TheVariants as signs
use Rattle.vx_tokens.specs.declared.tokens.Token.{Token}
use Rattle.vx_tokens.specs.declared.tokens.Token.TheVariants.{Reserved, Word, Quoted, Quote, Number, Mark}

-- the step after what was found, none where nothing was
infixl 10 ◌>>=◌
abbrev pub ◌>>=◌ : {A B : Type 0} → Option A → (A → Option B) → Option B
(Some x) >>= f = f x
None >>= f = None

-- the classes of characters
abbrev pub is_blank : ℕ → Bool
is_blank b = (b == 32) || ((b == 9) || ((b == 10) || (b == 13)))

abbrev pub is_digit : ℕ → Bool
is_digit b = nat_lt 47 b && nat_lt b 58

abbrev pub is_first : ℕ → Bool
is_first b = (nat_lt 64 b && nat_lt b 91) || ((b == 95) || (nat_lt 96 b && nat_lt b 123))

abbrev pub is_inner : ℕ → Bool
is_inner b = is_first b || is_digit b

-- the characters of a class
abbrev pub is_of : Class → ℕ → Bool
is_of classes.Digits b = is_digit b
is_of classes.Inner b = is_inner b

-- the longest run of characters of a class at the front, and what stands behind it
abbrev pub before : Bytes → Bytes × Bytes → Bytes × Bytes
before b r = (b ++ r.0, r.1)

unfoldable pub run_of : (ℕ → Bool) → Bytes → Bytes × Bytes
run_of class [] = ([], [])
run_of class (b ∷ bytes) = if class b then before (b ∷ []) (run_of class bytes) else ([], b ∷ bytes)

-- the words that are no names
abbrev pub connective_of : Bytes → Option Keyword
connective_of s =
    if bytes_eq s (codes "or") then Some words.Or else
    (if bytes_eq s (codes "and") then Some words.And else
    (if bytes_eq s (codes "not") then Some words.Not else
    (if bytes_eq s (codes "true") then Some words.True else
    (if bytes_eq s (codes "false") then Some words.False else
    (if bytes_eq s (codes "null") then Some words.Null else
    (if bytes_eq s (codes "lit") then Some words.Lit else None))))))

abbrev pub call_word_of : Bytes → Option Keyword
call_word_of s =
    if bytes_eq s (codes "is_null") then Some words.IsNull else
    (if bytes_eq s (codes "cast") then Some words.Cast else
    (if bytes_eq s (codes "contains") then Some words.Contains else
    (if bytes_eq s (codes "pack") then Some words.Pack else
    (if bytes_eq s (codes "pack_null") then Some words.PackNull else
    (if bytes_eq s (codes "merge") then Some words.Merge else
    (if bytes_eq s (codes "merge_null") then Some words.MergeNull else None))))))

abbrev pub match_word_of : Bytes → Option Keyword
match_word_of s =
    if bytes_eq s (codes "like") then Some words.Like else
    (if bytes_eq s (codes "not_like") then Some words.NotLike else
    (if bytes_eq s (codes "ilike") then Some words.Ilike else
    (if bytes_eq s (codes "not_ilike") then Some words.NotIlike else
    (if bytes_eq s (codes "between") then Some words.Between else
    (if bytes_eq s (codes "between_oo") then Some words.BetweenOo else
    (if bytes_eq s (codes "between_oc") then Some words.BetweenOc else
    (if bytes_eq s (codes "between_co") then Some words.BetweenCo else None)))))))

unfoldable pub keyword_of : Bytes → Option Keyword
keyword_of s = option_or (connective_of s) (option_or (call_word_of s) (match_word_of s))

-- a word: one that is reserved, or one that may be a name
abbrev pub word_or : Bytes → Option Keyword → Token
word_or s (Some k) = Reserved k
word_or s None = Word s

abbrev pub word_token : Bytes → Token
word_token s = word_or s (keyword_of s)

-- what may stand at the end of a number: nothing, or the name of an integer type
abbrev pub suffix_of : Bytes → Option (Option PType)
suffix_of [] = Some None
suffix_of (b ∷ s) = integer_named (b ∷ s) >>= λ p. Some (Some p)

-- a run of digits that is a number: `0`, or one that doesn't begin with it
abbrev pub is_number : Bytes → Bool
is_number [] = false
is_number (b ∷ []) = true
is_number (b ∷ c ∷ s) = not (b == 48)

-- the number whose digits, and the characters of words behind them, are given
abbrev pub number_of : Bytes → Bytes → Option Token
number_of digits suffix = if is_number digits then (suffix_of suffix >>= λ p. Some (Number digits p)) else None

abbrev pub number_within : Bytes → Bytes × Bytes → Option (Token × Bytes)
number_within digits word = number_of digits word.0 >>= λ t. Some (t, word.1)

abbrev pub number_behind : Bytes × Bytes → Option (Token × Bytes)
number_behind digits = number_within digits.0 (run_of is_inner digits.1)

-- the first character, and what stands behind it
abbrev pub front : Bytes → Option (ℕ × Bytes)
front [] = None
front (b ∷ bytes) = Some (b, bytes)

-- what stands behind a second mark
abbrev pub behind_mark : ℕ → Bytes → Option Bytes
behind_mark mark [] = None
behind_mark mark (b ∷ bytes) = if b == mark then Some bytes else None

-- what stands up to the next mark, where two of the mark stand for one of it, and what stands behind that mark
unfoldable pub quoted_run : ℕ → Bytes → Option (Bytes × Bytes)
quoted_run mark [] = None
quoted_run mark (b ∷ []) = if b == mark then Some ([], []) else None
quoted_run mark (b ∷ c ∷ bytes) =
    if b == mark
    then (if c == mark then option_map (before (b ∷ [])) (quoted_run mark bytes) else Some ([], c ∷ bytes))
    else option_map (before (b ∷ [])) (quoted_run mark (c ∷ bytes))

-- a sign of two characters, and one of one
abbrev pub two_signs : ℕ → ℕ → Option Sign
two_signs a b =
    if b == 61 then (if a == 33 then Some signs.NotEq else (if a == 62 then Some signs.Gte else (if a == 60 then Some signs.Lte else None))) else None

abbrev pub bracket_of : ℕ → Option Sign
bracket_of b =
    if b == 40 then Some signs.RoundOpen else
    (if b == 41 then Some signs.RoundClose else
    (if b == 91 then Some signs.SquareOpen else
    (if b == 93 then Some signs.SquareClose else
    (if b == 123 then Some signs.CurlyOpen else
    (if b == 125 then Some signs.CurlyClose else None)))))

abbrev pub stop_of : ℕ → Option Sign
stop_of b =
    if b == 44 then Some signs.Comma else
    (if b == 58 then Some signs.Colon else
    (if b == 46 then Some signs.Dot else
    (if b == 36 then Some signs.Dollar else
    (if b == 63 then Some signs.Question else
    (if b == 126 then Some signs.Tilde else None)))))

abbrev pub operation_of : ℕ → Option Sign
operation_of b =
    if b == 43 then Some signs.Plus else
    (if b == 45 then Some signs.Minus else
    (if b == 61 then Some signs.Eq else
    (if b == 62 then Some signs.Gt else
    (if b == 60 then Some signs.Lt else None))))

unfoldable pub one_sign : ℕ → Option Sign
one_sign b = option_or (bracket_of b) (option_or (stop_of b) (operation_of b))

-- the sign of two characters where there is one, or else the sign of the first
abbrev pub longer_sign : Option Sign → ℕ → ℕ → Bytes → Option (Token × Bytes)
longer_sign (Some s) b c bytes = Some (Mark s, bytes)
longer_sign None b c bytes = one_sign b >>= λ s. Some (Mark s, c ∷ bytes)

-- the longest sign at the front, and what stands behind it
abbrev pub sign_at : ℕ → Bytes → Option (Token × Bytes)
sign_at b [] = one_sign b >>= λ s. Some (Mark s, [])
sign_at b (c ∷ bytes) = longer_sign (two_signs b c) b c bytes

-- the token whose characters were found, and what stands behind it
abbrev pub word_behind : Bytes × Bytes → Option (Token × Bytes)
word_behind r = Some (word_token r.0, r.1)

-- what was found between two marks, which is UTF-8 as the text is
abbrev pub quoted_behind : Option (Bytes × Bytes) → Option (Bytes × Bytes)
quoted_behind r = r >>= λ x. if is_utf8 x.0 then Some x else None

abbrev pub name_behind : Option (Bytes × Bytes) → Option (Token × Bytes)
name_behind r = quoted_behind r >>= λ x. Some (Quoted x.0, x.1)

abbrev pub text_behind : Option (Bytes × Bytes) → Option (Token × Bytes)
text_behind r = quoted_behind r >>= λ x. Some (Quote x.0, x.1)

-- The longest token at the front, and what stands behind it; none where no token stands there.
abbrev pub marked_at : ℕ → Bytes → Option (Token × Bytes)
marked_at b bytes = if b == 34 then name_behind (quoted_run 34 bytes) else (if b == 39 then text_behind (quoted_run 39 bytes) else sign_at b bytes)

abbrev pub token_from : ℕ → Bytes → Option (Token × Bytes)
token_from b bytes =
    if is_first b then word_behind (run_of is_inner (b ∷ bytes)) else
    (if is_digit b then number_behind (run_of is_digit (b ∷ bytes)) else marked_at b bytes)

unfoldable pub token_at : Bytes → Option (Token × Bytes)
token_at [] = None
token_at (b ∷ bytes) = token_from b bytes

-- what stands behind a character that means nothing
abbrev pub behind_blank : Bytes → Option Bytes
behind_blank [] = None
behind_blank (b ∷ bytes) = if is_blank b then Some bytes else None

-- The tokens of a text, behind those that stand before it; none where at some place no token stands. So many characters at most are left.
abbrev pub next_token : (List Token → Bytes → Option (List Token)) → List Token → Bytes → Option Bytes → Option (List Token)
next_token go_on so_far bytes (Some rest) = go_on so_far rest
next_token go_on so_far bytes None = token_at bytes >>= λ t. go_on (so_far ++ t.0 ∷ []) t.1

unfoldable pub tokens_within : ℕ → List Token → Bytes → Option (List Token)
tokens_within zero so_far [] = Some so_far
tokens_within zero so_far (b ∷ bytes) = None
tokens_within (suc more) so_far [] = Some so_far
tokens_within (suc more) so_far (b ∷ bytes) = next_token (tokens_within more) so_far (b ∷ bytes) (behind_blank (b ∷ bytes))

-- the tokens of a text; none where at some place no token stands
abbrev pub tokens_of : Bytes → Option (List Token)
tokens_of bytes = tokens_within (length bytes) [] bytes

-- the number of a sign
abbrev pub sign_number : Sign → ℕ
sign_number signs.RoundOpen = 0
sign_number signs.RoundClose = 1
sign_number signs.SquareOpen = 2
sign_number signs.SquareClose = 3
sign_number signs.CurlyOpen = 4
sign_number signs.CurlyClose = 5
sign_number signs.Comma = 6
sign_number signs.Colon = 7
sign_number signs.Dot = 8
sign_number signs.Dollar = 9
sign_number signs.Question = 10
sign_number signs.Tilde = 11
sign_number signs.Plus = 12
sign_number signs.Minus = 13
sign_number signs.Eq = 14
sign_number signs.NotEq = 15
sign_number signs.Gt = 16
sign_number signs.Gte = 17
sign_number signs.Lt = 18
sign_number signs.Lte = 19

-- whether a token is a sign
abbrev pub is_sign : Sign → Token → Bool
is_sign s (Mark t) = sign_number s == sign_number t
is_sign s (Reserved k) = false
is_sign s (Word f) = false
is_sign s (Quoted f) = false
is_sign s (Quote x) = false
is_sign s (Number digits suffix) = false

-- whether a token is the word `not`
abbrev pub is_not_word : Keyword → Bool
is_not_word words.Not = true
is_not_word _ = false

abbrev pub is_not : Token → Bool
is_not (Reserved k) = is_not_word k
is_not (Mark s) = false
is_not (Word f) = false
is_not (Quoted f) = false
is_not (Quote s) = false
is_not (Number digits suffix) = false
