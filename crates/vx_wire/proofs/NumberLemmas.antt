-- The numbers of nullabilities and operators, read back.
use Rattle.std.proofs.Common.{◌≡◌, ◌≢◌, ℕ, zero, suc, Option, refl, sym, subst}
use Rattle.vx_dtype.specs.declared.Nullability.{Nullability}
use Rattle.vx_dtype.specs.declared.Nullability.TheVariants.{NonNullable, Nullable}
use Rattle.vx_dtype.specs.TypeRules.{null_number, null_numbered}
use Rattle.vx_expr.specs.declared.operators.Operator.{Operator}
use Rattle.vx_expr.specs.Operators.{operator_number, operator_numbered}
use Rattle.vx_wire.specs.ReadBack.{IsReadBack, IsAny}

nullability_at : (b : ℕ) → IsReadBack null_number IsAny b (null_numbered b)
nullability_at zero = (tt, refl)
nullability_at (suc zero) = (tt, refl)
nullability_at (suc (suc b)) = go
  where
    go : (n : Nullability) → Unit {0} → suc (suc b) ≢ null_number n
    go NonNullable h e = cc
    go Nullable h e = cc

-- the nullability of a number is the one whose number it is
pub null_read : (b : ℕ) (found : Option Nullability) → found ≡ null_numbered b → IsReadBack null_number IsAny b found
null_read b found e = subst (λ o. IsReadBack null_number IsAny b o) (sym e) (nullability_at b)

operator_at : (b : ℕ) → IsReadBack operator_number IsAny b (operator_numbered b)
operator_at zero = (tt, refl)
operator_at (suc zero) = (tt, refl)
operator_at (suc (suc zero)) = (tt, refl)
operator_at (suc (suc (suc zero))) = (tt, refl)
operator_at (suc (suc (suc (suc zero)))) = (tt, refl)
operator_at (suc (suc (suc (suc (suc zero))))) = (tt, refl)
operator_at (suc (suc (suc (suc (suc (suc zero)))))) = (tt, refl)
operator_at (suc (suc (suc (suc (suc (suc (suc zero))))))) = (tt, refl)
operator_at (suc (suc (suc (suc (suc (suc (suc (suc zero)))))))) = (tt, refl)
operator_at (suc (suc (suc (suc (suc (suc (suc (suc (suc zero))))))))) = (tt, refl)
operator_at (suc (suc (suc (suc (suc (suc (suc (suc (suc (suc b)))))))))) = go
  where
    go : (op : Operator) → Unit {0} → suc (suc (suc (suc (suc (suc (suc (suc (suc (suc b))))))))) ≢ operator_number op
    go Operator.Eq h e = cc
    go Operator.NotEq h e = cc
    go Operator.Gt h e = cc
    go Operator.Gte h e = cc
    go Operator.Lt h e = cc
    go Operator.Lte h e = cc
    go Operator.And h e = cc
    go Operator.Or h e = cc
    go Operator.Add h e = cc
    go Operator.Sub h e = cc

-- the operator of a number is the one whose number it is
pub operator_read : (b : ℕ) (found : Option Operator) → found ≡ operator_numbered b → IsReadBack operator_number IsAny b found
operator_read b found e = subst (λ o. IsReadBack operator_number IsAny b o) (sym e) (operator_at b)
