-- What reading a text answers, by the tokens that it is cut into and the productions of the grammar.
use Rattle.std.specs.Prelude.{◌≡◌, ◌<◌, ◌≤◌, List, length, Some, None, Result, Ok, Err}
use Rattle.vx_dtype.specs.Types.{Bytes}
use Rattle.vx_expr.specs.Trees.{Tree}
use Rattle.vx_text.specs.declared.errors.TextError.{TextError}
use Rattle.vx_text.specs.declared.errors.TextError.TheVariants as errors
use Rattle.vx_tokens.specs.declared.tokens.Token.{Token}
use Rattle.vx_text.specs.NamedExpressions.{Named}
use Rattle.vx_text.specs.Grammar.{most_tokens}
use Rattle.vx_text.specs.Reading.{most_bytes, reading_of}
use Rattle.vx_laws_text.specs.Cuts.{Cuts}
use Rattle.vx_laws_text.specs.Productions.{IsQuery}

-- a text within the limit of bytes that is cut into these tokens
pub record IsCut (text : Bytes) (tokens : List Token) : Type 0 where
  pub short : length text ≤ most_bytes
  pub cut : Cuts text tokens

-- tokens within their limit that are a query, which names this
abbrev pub IsShortQuery : List Token → Named → Type 0
IsShortQuery tokens e = (length tokens ≤ most_tokens) × IsQuery tokens e

-- tokens within their limit that are no query
abbrev pub IsNoQuery : List Token → Type 0
IsNoQuery tokens = (length tokens ≤ most_tokens) × ((e : Named) → ¬ (IsQuery tokens e))

-- the answer of a text: the expression that its query names, or why there is none
abbrev pub IsAnswer : Bytes → Result Tree TextError → Type 0
IsAnswer text (Ok e) = (tokens : List Token) × IsCut text tokens × IsShortQuery tokens (Some e)
IsAnswer text (Err errors.TooLong) = most_bytes < length text
IsAnswer text (Err errors.BadToken) = (length text ≤ most_bytes) × ((tokens : List Token) → ¬ (Cuts text tokens))
IsAnswer text (Err errors.TooManyTokens) = (tokens : List Token) × IsCut text tokens × (most_tokens < length tokens)
IsAnswer text (Err errors.BadQuery) = (tokens : List Token) × IsCut text tokens × IsNoQuery tokens
IsAnswer text (Err errors.BadValue) = (tokens : List Token) × IsCut text tokens × IsShortQuery tokens None
IsAnswer text (Err errors.NoMemory) = ⊥
IsAnswer text (Err errors.NotWritable) = ⊥

-- what is read is the answer of the text
abbrev pub ReadIsAnswer : Type 0
ReadIsAnswer = (text : Bytes) → IsAnswer text (reading_of text)

-- a text has no other answer
abbrev pub AnswerIsRead : Type 0
AnswerIsRead = (text : Bytes) (answer : Result Tree TextError) → IsAnswer text answer → reading_of text ≡ answer
