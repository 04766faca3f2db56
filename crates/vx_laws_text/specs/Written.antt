-- What is written is read: the laws of expressions' texts.
use Rattle.std.specs.Prelude.{◌≡◌, ◌≤◌, true, List, [], length, Some, Ok}
use Rattle.vx_dtype.specs.Types.{Bytes}
use Rattle.vx_expr.specs.Trees.{Tree}
use Rattle.vx_tokens.specs.declared.tokens.Token.{Token}
use Rattle.vx_tokens.specs.Tokens.{tokens_of}
use Rattle.vx_text.specs.Grammar.{most_tokens}
use Rattle.vx_text.specs.Reading.{most_bytes, reading_of}
use Rattle.vx_text.specs.Writing.{query_text, is_writable}
use Rattle.vx_laws_text.specs.Expressions.{IsExpression}
use Rattle.vx_laws_text.specs.WrittenTokens.{query_tokens}

-- a text that is neither too long, nor cut into too many tokens
pub record IsWithinLimits (text : Bytes) : Type 0 where
  pub bytes : length text ≤ most_bytes
  pub tokens : (tokens : List Token) → tokens_of text ≡ Some tokens → length tokens ≤ most_tokens

-- the text of an expression is cut into its tokens
abbrev pub WrittenIsCut : Type 0
WrittenIsCut = (e : Tree) → IsExpression e → is_writable e ≡ true → tokens_of (query_text e) ≡ Some (query_tokens e [])

-- the text of an expression is read as the same expression
abbrev pub WrittenIsRead : Type 0
WrittenIsRead = (e : Tree) → IsExpression e → is_writable e ≡ true → IsWithinLimits (query_text e) → reading_of (query_text e) ≡ Ok e
