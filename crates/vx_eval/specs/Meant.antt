-- For the checker: no public clause cites this. Columns of the meaning of expressions.
use Rattle.std.specs.Prelude.{◌≡◌, List, [], ◌∷◌, map, Ok}
use Rattle.vx_dtype.specs.Types.{Ty}
use Rattle.vx_dtype.specs.Values.{Val}
use Rattle.vx_expr.specs.Trees.{Tree, Trees, no_trees, tree}
use Rattle.vx_column.specs.Columns.{Column}
use Rattle.vx_semantics.specs.Typing.{typed_of}
use Rattle.vx_semantics.specs.Meaning.{Slots, mean}

-- the column is of the expression's type and has its meaning at each row
abbrev pub IsMeant : Ty → Slots → List Val → Tree → Column → Type 0
IsMeant t slots rows e c = (typed_of t e ≡ Ok c.ty) × (c.rows ≡ map (λ row. mean t slots row e) rows)

-- each column is of its expression's type and has what the expression means at these rows, and there are as many of both
abbrev pub AreMeant : Ty → Slots → List Val → Trees → List Column → Type 0
AreMeant t slots rows no_trees [] = Unit {0}
AreMeant t slots rows no_trees (c ∷ cs) = ⊥
AreMeant t slots rows (tree e es) [] = ⊥
AreMeant t slots rows (tree e es) (c ∷ cs) = (typed_of t e ≡ Ok c.ty) × (c.rows ≡ map (λ row. mean t slots row e) rows) × AreMeant t slots rows es cs
