-- The text of a node alone, as a tree shows it, and the names of its children, one line for each kind.
use Rattle.std.specs.Prelude.{[], ◌++◌, List, ◌∷◌, Option, Some, None, codes}
use Rattle.vx_dtype.specs.declared.StrictComparison.{StrictComparison}
use Rattle.vx_dtype.specs.declared.BetweenOptions.{BetweenOptions}
use Rattle.vx_dtype.specs.Types.{Bytes}
use Rattle.vx_dtype.specs.Values.{Typed}
use Rattle.vx_dtype.specs.ScalarTexts.{scalar_text}
use Rattle.vx_dtype.specs.Texts.{ty_text, names_text}
use Rattle.vx_expr.specs.declared.selections.FieldSelection.{FieldSelection}
use Rattle.vx_expr.specs.declared.node_texts.DisplayFormat.{DisplayFormat}
use Rattle.vx_expr.specs.CompactTexts.{compact_text}
use Rattle.vx_expr.specs.OperatorTexts.{operator_text}
use Rattle.vx_expr.specs.Trees.{Tree, root, literal, get_item, binary, not_of, is_null_of, like, between, cast, list_contains, pack, merge, select, dynamic}

-- whether a selection includes or excludes, and its names, quoted
abbrev pub select_text : FieldSelection → Bytes
select_text (FieldSelection.Include names) = codes "Select(include): " ++ names_text names
select_text (FieldSelection.Exclude names) = codes "Select(exclude): " ++ names_text names

-- a scalar and its type
abbrev pub literal_text : Typed → Bytes
literal_text s = codes "Literal(value: " ++ (scalar_text s.value s.ty ++ (codes ", dtype: " ++ (ty_text s.ty ++ codes ")")))

-- the node's own text
abbrev pub node_text : Tree → Bytes
node_text root = codes "Root"
node_text (literal s) = literal_text s
node_text (get_item f e) = codes "GetItem(" ++ (f ++ codes ")")
node_text (binary l op r) = codes "Binary(" ++ (operator_text op ++ codes ")")
node_text (not_of e) = codes "Not"
node_text (is_null_of e) = codes "IsNull"
node_text (like e p negated fold_case) = codes "Like"
node_text (between e lower upper options) = codes "Between"
node_text (cast e t) = codes "Cast(target: " ++ (ty_text t ++ codes ")")
node_text (list_contains l v) = codes "ListContains"
node_text (pack names es n) = codes "Pack"
node_text (merge es n) = codes "Merge"
node_text (select s e) = select_text s
node_text (dynamic e op k t default) = codes "DynamicComparison"

-- a bound's name with its strictness
abbrev pub strictness_text : StrictComparison → Bytes
strictness_text StrictComparison.Strict = codes " (Strict)"
strictness_text StrictComparison.NonStrict = codes " (NonStrict)"

-- the names of a range's children: the value, and each bound with its own strictness
abbrev pub bound_names : BetweenOptions → List Bytes
bound_names options =
    codes "array" ∷ (codes "lower" ++ strictness_text options.lower_strict) ∷ (codes "upper" ++ strictness_text options.upper_strict) ∷ []

-- the names of the children in order, where the kind has some
abbrev pub child_names_of : Tree → Option (List Bytes)
child_names_of (binary l op r) = Some (codes "lhs" ∷ codes "rhs" ∷ [])
child_names_of (like e p negated fold_case) = Some (codes "child" ∷ codes "pattern" ∷ [])
child_names_of (between e lower upper options) = Some (bound_names options)
child_names_of (list_contains l v) = Some (codes "list" ∷ codes "value" ∷ [])
child_names_of (pack names es n) = Some names
child_names_of _ = None

-- the text in each of the two forms
abbrev pub text_as : DisplayFormat → Tree → Bytes
text_as DisplayFormat.Compact e = compact_text e
text_as DisplayFormat.Tree e = node_text e
