-- Of an operator on one operand: the operand is all that an expression of it has beside the number of its kind.
use Rattle.std.specs.Prelude.{◌≡◌, ◌++◌, List, [], ◌∷◌, option_map, refl}
use Rattle.std.specs.Hash as fed
use Rattle.vx_expr.specs.Trees.{Tree, children_of}
use Rattle.vx_expr.specs.Children.{one_of, with_children_of}
use Rattle.vx_expr.specs.Equal.{tree_eq}
use Rattle.vx_expr.specs.Feeds.{tree_feed}
use Rattle.vx_expr.specs.UnaryOperators.{Unary, negation, null_test, operation, unary_number}

pub operation_children : (o : Unary) (e : Tree) → children_of (operation o e) ≡ e ∷ []
operation_children negation e = refl
operation_children null_test e = refl

pub operation_with_children : (o : Unary) (e : Tree) (es : List Tree) → with_children_of (operation o e) es ≡ option_map (operation o) (one_of es)
operation_with_children negation e es = refl
operation_with_children null_test e es = refl

pub operation_eq : (o : Unary) (e d : Tree) → tree_eq (operation o e) (operation o d) ≡ tree_eq e d
unfolding tree_eq
operation_eq negation e d = refl
operation_eq null_test e d = refl

pub operation_feed : (o : Unary) (e : Tree) → tree_feed (operation o e) ≡ fed.u8 (unary_number o) ++ tree_feed e
unfolding tree_feed
operation_feed negation e = refl
operation_feed null_test e = refl
