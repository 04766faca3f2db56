-- Expressions as data: a tree of fourteen kinds of node.
use Rattle.std.specs.Prelude.{ℕ, Bool, List, [], ◌∷◌}
use Rattle.vx_dtype.specs.declared.Nullability.{Nullability}
use Rattle.vx_dtype.specs.declared.CompareOperator.{CompareOperator}
use Rattle.vx_dtype.specs.declared.BetweenOptions.{BetweenOptions}
use Rattle.vx_dtype.specs.Types.{Bytes, Ty}
use Rattle.vx_dtype.specs.Values.{Typed}
use Rattle.vx_expr.specs.declared.operators.Operator.{Operator}
use Rattle.vx_expr.specs.declared.selections.FieldSelection.{FieldSelection}

mutual
  -- an expression
  pub data Tree : Type 0 where
    -- the row
    root : Tree
    -- a constant
    literal : Typed → Tree
    -- a field of a struct
    get_item : Bytes → Tree → Tree
    -- two operands under an operator
    binary : Tree → Operator → Tree → Tree
    -- true and false exchanged
    not_of : Tree → Tree
    -- whether a value is null
    is_null_of : Tree → Tree
    -- whether a text matches a pattern: the text, the pattern, negated, without regard to case
    like : Tree → Tree → Bool → Bool → Tree
    -- whether a value lies in a range: the value, the lower bound, the upper bound
    between : Tree → Tree → Tree → BetweenOptions → Tree
    -- a value in another type
    cast : Tree → Ty → Tree
    -- whether a list holds a value
    list_contains : Tree → Tree → Tree
    -- a struct of named values
    pack : List Bytes → Trees → Nullability → Tree
    -- the fields of several structs
    merge : Trees → Nullability → Tree
    -- some fields of a struct
    select : FieldSelection → Tree → Tree
    -- a comparison with the value of a slot: the operand, the operator, the slot's number and type, the answer where the slot has no value
    dynamic : Tree → CompareOperator → ℕ → Ty → Bool → Tree

  -- a list of expressions
  pub data Trees : Type 0 where
    no_trees : Trees
    tree : Tree → Trees → Trees

-- a list of expressions, as the tree holds it
abbrev pub trees_of : List Tree → Trees
trees_of [] = no_trees
trees_of (e ∷ es) = tree e (trees_of es)

-- the expressions of such a list
abbrev pub listed : Trees → List Tree
listed no_trees = []
listed (tree e es) = e ∷ listed es

-- the children of a node, in order
abbrev pub children_of : Tree → List Tree
children_of root = []
children_of (literal s) = []
children_of (get_item f e) = e ∷ []
children_of (binary l op r) = l ∷ r ∷ []
children_of (not_of e) = e ∷ []
children_of (is_null_of e) = e ∷ []
children_of (like e p negated fold_case) = e ∷ p ∷ []
children_of (between e lower upper options) = e ∷ lower ∷ upper ∷ []
children_of (cast e t) = e ∷ []
children_of (list_contains l v) = l ∷ v ∷ []
children_of (pack names es n) = listed es
children_of (merge es n) = listed es
children_of (select s e) = e ∷ []
children_of (dynamic e op k t default) = e ∷ []
