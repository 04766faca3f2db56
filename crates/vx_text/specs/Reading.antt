-- What reading a text answers.
use Rattle.std.specs.Prelude.{◌≡◌, ℕ, nat_lt, List, length, Option, Some, None, Result, Ok, Err, if◌then◌else◌}
use Rattle.vx_dtype.specs.Types.{Bytes}
use Rattle.vx_expr.specs.Trees.{Tree}
use Rattle.vx_text.specs.declared.errors.TextError.{TextError}
use Rattle.vx_text.specs.declared.errors.TextError.TheVariants as errors
use Rattle.vx_tokens.specs.declared.tokens.Token.{Token}
use Rattle.vx_tokens.specs.Tokens.{tokens_of}
use Rattle.vx_text.specs.Grammar.{most_tokens, query_of}

-- the most bytes that a text may have
abbrev pub most_bytes : ℕ
most_bytes = 1048576

-- what tokens that are a query name, or the refusal
abbrev pub named_or_refused : Option (Option Tree) → Result Tree TextError
named_or_refused (Some (Some e)) = Ok e
named_or_refused (Some None) = Err errors.BadValue
named_or_refused None = Err errors.BadQuery

abbrev pub query_or_refused : Option (List Token) → Result Tree TextError
query_or_refused (Some tokens) = if nat_lt most_tokens (length tokens) then Err errors.TooManyTokens else named_or_refused (query_of tokens)
query_or_refused None = Err errors.BadToken

-- the expression that a text names, or the refusal
unfoldable pub reading_of : Bytes → Result Tree TextError
reading_of bytes = if nat_lt most_bytes (length bytes) then Err errors.TooLong else query_or_refused (tokens_of bytes)

-- the answer is this, but for want of memory, which may be answered at any time
abbrev pub IsQueryRead : Bytes → Result Tree TextError → Type 0
IsQueryRead bytes (Err errors.NoMemory) = Unit {0}
IsQueryRead bytes answer = reading_of bytes ≡ answer
