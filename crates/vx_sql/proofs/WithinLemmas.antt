-- Expressions of at most so many levels.
use Rattle.std.proofs.Common.{◌≡◌, refl, ℕ, zero, suc, ◌-◌, ap, arith}
use Rattle.sqlite_ast.specs.declared.Expr.{Expr, out-Expr}
use Rattle.vx_dtype.specs.Types.{Ty}
use Rattle.vx_laws_statements.specs.Expressions.{operand_within, opened_at}

-- an expression of some levels is what it is over those of one level less
pub within_more : (levels : ℕ) (t : Ty) (e : Expr) → (levels ≡ 0 → ⊥)
    → operand_within levels t e ≡ opened_at (operand_within (levels - 1) t) t (out-Expr e)
unfolding operand_within
within_more zero t e h = absurd (h refl)
within_more (suc n) t e h =
    let less : n ≡ suc n - 1 = omega arith in
    ap (λ (m : ℕ). opened_at (operand_within m t) t (out-Expr e)) less
