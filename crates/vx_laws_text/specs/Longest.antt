-- The token at the front of a text is the longest: which bytes spell which tokens.
use Rattle.std.specs.Prelude.{◌≡◌, ◌≤◌, Bool, true, false, [], ◌∷◌, ◌++◌, length, Option, Some, None, codes}
use Rattle.std.specs.List.{list_all}
use Rattle.std.specs.Str.{is_utf8}
use Rattle.vx_dtype.specs.declared.PType.{PType}
use Rattle.vx_dtype.specs.Types.{Bytes}
use Rattle.vx_dtype.specs.Texts.{ptype_text}
use Rattle.vx_tokens.specs.declared.tokens.Sign.{Sign}
use Rattle.vx_tokens.specs.declared.tokens.Sign.TheVariants as signs
use Rattle.vx_tokens.specs.declared.tokens.Token.{Token}
use Rattle.vx_tokens.specs.declared.tokens.Token.TheVariants.{Reserved, Word, Quoted, Quote, Number, Mark}
use Rattle.vx_tokens.specs.Tokens.{is_digit, is_inner, is_number, keyword_of, token_at}
use Rattle.vx_tokens.specs.Names.{within_marks, is_word}

-- the characters of a sign
abbrev pub sign_text : Sign → Bytes
sign_text signs.RoundOpen = codes "("
sign_text signs.RoundClose = codes ")"
sign_text signs.SquareOpen = codes "["
sign_text signs.SquareClose = codes "]"
sign_text signs.CurlyOpen = codes "{"
sign_text signs.CurlyClose = codes "}"
sign_text signs.Comma = codes ","
sign_text signs.Colon = codes ":"
sign_text signs.Dot = codes "."
sign_text signs.Dollar = codes "$"
sign_text signs.Question = codes "?"
sign_text signs.Tilde = codes "~"
sign_text signs.Plus = codes "+"
sign_text signs.Minus = codes "-"
sign_text signs.Eq = codes "="
sign_text signs.NotEq = codes "!="
sign_text signs.Gt = codes ">"
sign_text signs.Gte = codes ">="
sign_text signs.Lt = codes "<"
sign_text signs.Lte = codes "<="

-- the name of an integer type behind a number, or nothing
abbrev pub suffix_text : Option PType → Bytes
suffix_text None = []
suffix_text (Some p) = ptype_text p

-- whether a text begins with a letter, a digit or `_`
abbrev pub goes_on : Bytes → Bool
goes_on [] = false
goes_on (b ∷ bytes) = is_inner b

-- a number: `0`, or digits of which the first isn't 0, with the name of an integer type behind them or without;
-- no letter, digit or `_` stands behind the whole
pub record SpellsNumber (digits : Bytes) (p : Option PType) (spelling rest : Bytes) : Type 0 where
  pub is : spelling ≡ digits ++ suffix_text p
  pub digit : list_all is_digit digits ≡ true
  pub number : is_number digits ≡ true
  pub whole : goes_on rest ≡ false

-- these bytes spell a token, where those others stand behind them
abbrev pub SpellsToken : Token → Bytes → Bytes → Type 0
SpellsToken (Reserved k) s rest = (is_word s ≡ true) × (keyword_of s ≡ Some k)
SpellsToken (Word f) s rest = (s ≡ f) × (is_word s ≡ true) × (keyword_of s ≡ None)
SpellsToken (Quoted f) s rest = (s ≡ within_marks 34 f) × (is_utf8 f ≡ true)
SpellsToken (Quote f) s rest = (s ≡ within_marks 39 f) × (is_utf8 f ≡ true)
SpellsToken (Number digits p) s rest = SpellsNumber digits p s rest
SpellsToken (Mark sign) s rest = s ≡ sign_text sign

-- a token whose spelling stands at the front of a text
pub record Stands (bytes : Bytes) (t : Token) (rest : Bytes) : Type 0 where
  pub spelling : Bytes
  pub front : bytes ≡ spelling ++ rest
  pub spells : SpellsToken t spelling rest

-- the token that is found at the front of a text stands there
abbrev pub TokenStands : Type 0
TokenStands = (bytes rest : Bytes) (t : Token) → token_at bytes ≡ Some (t, rest) → Stands bytes t rest

-- no longer one stands there
abbrev pub NoLongerStands : Type 0
NoLongerStands = (bytes rest others : Bytes) (t u : Token) → token_at bytes ≡ Some (t, rest) → Stands bytes u others → length rest ≤ length others
