-- The numbers that bound recursions in the grammar change nothing: as many as there are tokens are enough.
use Rattle.std.specs.Prelude.{◌≡◌, ℕ, ◌≤◌, List, [], length, Some, None}
use Rattle.vx_dtype.specs.Types.{Bytes}
use Rattle.vx_tokens.specs.declared.tokens.Sign.{Sign}
use Rattle.vx_tokens.specs.declared.tokens.Token.{Token}
use Rattle.vx_text.specs.declared.operators.Level.{Level}
use Rattle.vx_text.specs.NamedExpressions.{Named, Arguments, and_argument}
use Rattle.vx_text.specs.Grammar.{Read, most_tokens, and_then, name_at, more_parts, chain, steps, type_at, item_at, query_at}

-- what is read leaves no more tokens than there were
abbrev pub Shrinks : {A : Type 0} → (List Token → Read A) → Type 0
Shrinks {A} part = (tokens : List Token) (x : A × List Token) → part tokens ≡ Some x → length x.1 ≤ length tokens

-- room for as many queries one in another as there are tokens, or for more, makes no difference
abbrev pub QueriesHaveRoom : Type 0
QueriesHaveRoom =
    (tokens : List Token) (n m : ℕ) → length tokens ≤ most_tokens → length tokens ≤ n → length tokens ≤ m
    → query_at n tokens ≡ query_at m tokens

-- the same of types and of items one in another
abbrev pub TypesHaveRoom : Type 0
TypesHaveRoom =
    (tokens : List Token) (n m : ℕ) → length tokens ≤ most_tokens → length tokens ≤ n → length tokens ≤ m
    → type_at n tokens ≡ type_at m tokens

abbrev pub ItemsHaveRoom : Type 0
ItemsHaveRoom =
    (tokens : List Token) (n m : ℕ) → length tokens ≤ most_tokens → length tokens ≤ n → length tokens ≤ m
    → item_at n tokens ≡ item_at m tokens

-- the same of names and of arguments one behind another, of operands in a chain, and of steps behind an expression
abbrev pub NamesHaveRoom : Type 0
NamesHaveRoom =
    (close : Sign) (so_far : List Bytes) (tokens : List Token) (n m : ℕ) → length tokens ≤ n → length tokens ≤ m
    → more_parts name_at and_then close n so_far tokens ≡ more_parts name_at and_then close m so_far tokens

abbrev pub ArgumentsHaveRoom : Type 0
ArgumentsHaveRoom =
    (read : List Token → Read Named) (close : Sign) (so_far : Arguments) (tokens : List Token) (n m : ℕ)
    → Shrinks read → read [] ≡ None → length tokens ≤ n → length tokens ≤ m
    → more_parts read and_argument close n so_far tokens ≡ more_parts read and_argument close m so_far tokens

abbrev pub ChainsHaveRoom : Type 0
ChainsHaveRoom =
    (level : Level) (operand : List Token → Read Named) (left : Named) (tokens : List Token) (n m : ℕ) → Shrinks operand
    → length tokens ≤ n → length tokens ≤ m → chain level operand n left tokens ≡ chain level operand m left tokens

abbrev pub StepsHaveRoom : Type 0
StepsHaveRoom =
    (e : Named) (tokens : List Token) (n m : ℕ) → length tokens ≤ most_tokens → length tokens ≤ n → length tokens ≤ m
    → steps n e tokens ≡ steps m e tokens
