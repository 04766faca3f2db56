-- Steps of the definitions of what tokens name.
use Rattle.std.proofs.Common.{◌≡◌, ℕ, suc, ◌-◌, List, Some, refl, ap, sym, ◌∙◌}
use Rattle.vx_expr.specs.declared.operators.Operator.{Operator}
use Rattle.vx_tokens.specs.declared.tokens.Token.{Token}
use Rattle.vx_text.specs.declared.operators.Level.{Level}
use Rattle.vx_tokens.specs.Tokens.{◌>>=◌}
use Rattle.vx_text.specs.NamedExpressions.{Named, binary_of}
use Rattle.vx_text.specs.Grammar.{Read, operator_at, chain, next_operand}

chain-suc : (level : Level) (operand : List Token → Read Named) (n : ℕ) (left : Named) (tokens : List Token) → chain level operand (suc n) left tokens ≡ next_operand (chain level operand n) operand left tokens (operator_at level tokens)
unfolding chain
chain-suc level operand n left tokens = refl

-- one more operator and operand behind a left operand
pub chain-goes : (level : Level) (operand : List Token → Read Named) (n : ℕ) (left right made : Named) (op : Operator) (tokens rest behind : List Token) → n ≡ suc (n - 1) → Some (op, rest) ≡ operator_at level tokens → Some (right, behind) ≡ operand rest
    → made ≡ binary_of left op right → chain level operand (n - 1) made behind ≡ chain level operand n left tokens
chain-goes level operand n left right made op tokens rest behind k e f is = sym (
    ap (λ m. chain level operand m left tokens) k ∙ chain-suc level operand (n - 1) left tokens
    ∙ ap (next_operand (chain level operand (n - 1)) operand left tokens) (sym e)
    ∙ ap (λ r. r >>= λ x. chain level operand (n - 1) (binary_of left op x.0) x.1) (sym f)
    ∙ ap (λ l. chain level operand (n - 1) l behind) (sym is))
