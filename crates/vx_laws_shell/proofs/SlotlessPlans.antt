-- No part of a plan compares with a slot.
use Rattle.std.proofs.Common.{◌≡◌, refl, ap, subst, ℕ, zero, suc, Bool, true, false, not, ◌==◌, cond, List, [], ◌∷◌, ◌++◌, map, Option, Some, None, option_map, position, length, Result, Ok, Err}
use Rattle.std.specs.List.{list_any}
use Rattle.sqlite_ast.specs.declared.Unary.{Unary}
use Rattle.sqlite_ast.specs.declared.Unary.TheVariants as unary
use Rattle.sqlite_ast.specs.declared.Binary.{Binary}
use Rattle.sqlite_ast.specs.declared.Binary.TheVariants as between_two
use Rattle.sqlite_ast.specs.declared.Expr.{Expr, out-Expr}
use Rattle.sqlite_ast.specs.declared.Expr.TheOpen.{Expr-F, Shown-F}
use Rattle.sqlite_ast.specs.declared.Shown.{Shown, out-Shown}
use Rattle.sqlite_ast.specs.declared.Select.{Select, out-Select}
use Rattle.sqlite_ast.specs.declared.Core.{Core, out-Core}
use Rattle.sqlite_ast.specs.Layer.{Layer, ShownLayer}
use Rattle.sqlite_syntax.specs.declared.error.ParseError.{ParseError}
use Rattle.sqlite_syntax.specs.declared.statement.Parsed.{Parsed}
use Rattle.sqlite_syntax.specs.Statement.{parse}
use Rattle.vx_dtype.specs.declared.CompareOperator.TheVariants.{Eq, NotEq, Gt, Gte, Lt, Lte}
use Rattle.vx_dtype.specs.declared.Nullability.TheVariants.{NonNullable}
use Rattle.vx_dtype.specs.Types.{Bytes, Ty, Fields, no_fields, field}
use Rattle.vx_dtype.specs.TypeRules.{fields_of, has_name}
use Rattle.vx_dtype.specs.Values.{Raw, raw_bool, raw_int, raw_text}
use Rattle.vx_expr.specs.declared.Operator.{Operator}
use Rattle.vx_expr.specs.Trees.{root, get_item, trees_of}
use Rattle.vx_semantics.specs.Nodes.{nodes_of_all}
use Rattle.vx_semantics.specs.Typing.{type_in}
use Rattle.vx_laws_topk.specs.TopLaws.{is_slot_comparison}
use Rattle.vx_laws_sql.specs.Operands.{TypedTree, Operand, known, untyped_null, Mismatch, boolean, text, alone}
use Rattle.vx_laws_sql.specs.Forms.{comparison, sum, difference, conjunction, disjunction, negation, null_test, not_null_test, pattern_test, range_test}
use Rattle.vx_laws_sql.specs.Forms.{cast_to, as_boolean}
use Rattle.vx_laws_sql.specs.Membership.{constant_operand, membership}
use Rattle.vx_laws_statements.specs.Refusals.{Refusal, no_prefix, no_query, misplaced, no_condition, no_column, no_field, unread, second_statement, name_twice}
use Rattle.vx_laws_statements.specs.Refusals.{in_where, in_select, ◌>>=◌, unless, there, refused_as}
use Rattle.vx_laws_statements.specs.Constants.{text_of, number_of, constants_of, type_named}
use Rattle.vx_laws_statements.specs.Expressions.{row_of, item_in, column_of, placed, formed, signed, prefixed, operation, in_range, in_list, in_type}
use Rattle.vx_laws_statements.specs.Expressions.{opened_at, operand_within, most_levels, operand_of, as_condition, condition_of}
use Rattle.vx_laws_statements.specs.Clauses.{NamedTree, each_column, name_of, value_of, shown_at, added, shown_behind, is_star_alone, packed, rows_of}
use Rattle.vx_laws_statements.specs.Clauses.{table_of, filter_of, order_of, limit_of}
use Rattle.vx_laws_statements.specs.Statements.{Plan, plain_select, clauses_of, without_parameters, select_of, selected, parsed_of, read_of}
use Rattle.vx_laws_statements.specs.Statements.{text_without_zero, plan_of}
use Rattle.vx_laws_statements.proofs.Steps.{Stepped, stepped, passed, was_there, was_refused_as, same_answer}
use Rattle.vx_laws_shell.specs.PlanLaws.{PlansHaveNoSlot}
use Rattle.vx_laws_shell.specs.Wants.{condition_tree}
use Rattle.vx_laws_shell.proofs.SlotlessForms.{HasNoSlot, IsSlotless, root-slotless, constant-slotless, get_item-slotless, pack-slotless, more-slotless, none-slotless}
use Rattle.vx_laws_shell.proofs.SlotlessForms.{taking-slotless, comparison-slotless, sum_by-slotless, as_boolean-slotless, connective-slotless, negation-slotless}
use Rattle.vx_laws_shell.proofs.SlotlessForms.{null_test-slotless, not_null_test-slotless, pattern_test-slotless, range_test-slotless, cast_to-slotless, membership-slotless}

-- ---- columns and constants

item_in-slotless : (f : Bytes) (e x : TypedTree) (r : Refusal) → HasNoSlot e.tree → (item_in f e >>= there r) ≡ Ok x → HasNoSlot x.tree
item_in-slotless f e x r own h = by-type (type_in k.given e.ty) (same_answer (Ok found) found s.given refl k.gave) where
  s : Stepped (item_in f e) (there r) x
  s = stepped (item_in f e) (there r) x h

  made : Bytes → Ty → TypedTree
  made g u = record { ty = u; tree = get_item g e.tree }

  k : Stepped (text_of f) (λ g. Ok (option_map (made g) (type_in g e.ty))) s.given
  k = stepped (text_of f) (λ g. Ok (option_map (made g) (type_in g e.ty))) s.given s.was

  found : Option TypedTree
  found = option_map (made k.given) (type_in k.given e.ty)

  is : s.given ≡ Some x
  is = was_there r s.given x s.gave

  by-type : (o : Option Ty) → option_map (made k.given) o ≡ s.given → HasNoSlot x.tree
  by-type (Some u) g = let same : made k.given u ≡ x = cc (g, is) in subst (λ (z : TypedTree). HasNoSlot z.tree) same (get_item-slotless k.given e.tree own)
  by-type None g = let no : ⊥ = cc (g, is) in absurd no

column-slotless : (t : Ty) (c : Option Bytes) (f : Bytes) (x : TypedTree) → column_of t c f ≡ Ok x → HasNoSlot x.tree
column-slotless t None f x h = item_in-slotless f (row_of t) x (no_column f) root-slotless h
column-slotless t (Some c) f x h =
    let s = stepped (item_in c (row_of t) >>= there (no_column c)) (λ e. item_in f e >>= there (no_field c f)) x h in
    item_in-slotless f s.given x (no_field c f) (item_in-slotless c (row_of t) s.given (no_column c) root-slotless s.was) s.gave

boolean-slotless : (b : Bool) → HasNoSlot (boolean b).tree
boolean-slotless b = constant-slotless (boolean b).ty (raw_bool b)

text-slotless : (s : Bytes) → HasNoSlot (text s).tree
text-slotless s = constant-slotless (text s).ty (raw_text s)

constant_operand-slotless : (c : Raw) → IsSlotless (constant_operand c)
constant_operand-slotless (raw_int i) = tt
constant_operand-slotless (raw_bool b) = boolean-slotless b
constant_operand-slotless (raw_text s) = text-slotless s
constant_operand-slotless _ = tt

from-constant : (read : Result Raw Refusal) (o : Operand) → (read >>= λ c. Ok (constant_operand c)) ≡ Ok o → IsSlotless o
from-constant read o h =
    let s = stepped read (λ c. Ok (constant_operand c)) o h in
    subst IsSlotless (same_answer (Ok (constant_operand s.given)) (constant_operand s.given) o refl s.gave) (constant_operand-slotless s.given)

-- ---- forms

placed-slotless : (made : Result TypedTree Mismatch) (o : Operand) → ((x : TypedTree) → made ≡ Ok x → HasNoSlot x.tree) → placed made ≡ Ok o → IsSlotless o
placed-slotless made o own h =
    let s = stepped (refused_as misplaced made) (λ x. Ok (known x)) o h in
    subst IsSlotless (same_answer (Ok (known s.given)) (known s.given) o refl s.gave) (own s.given (was_refused_as misplaced made s.given s.was))

formed-slotless : (op : Binary) (l r o : Operand) → IsSlotless l → IsSlotless r → formed op l r ≡ Ok o → IsSlotless o
formed-slotless between_two.Or l r o k m h = placed-slotless (disjunction l r) o (λ x g. connective-slotless Operator.Or l r x k m g) h
formed-slotless between_two.And l r o k m h = placed-slotless (conjunction l r) o (λ x g. connective-slotless Operator.And l r x k m g) h
formed-slotless between_two.Eq l r o k m h = placed-slotless (comparison Eq l r) o (λ x g. comparison-slotless Eq l r x k m g) h
formed-slotless between_two.Ne l r o k m h = placed-slotless (comparison NotEq l r) o (λ x g. comparison-slotless NotEq l r x k m g) h
formed-slotless between_two.Lt l r o k m h = placed-slotless (comparison Lt l r) o (λ x g. comparison-slotless Lt l r x k m g) h
formed-slotless between_two.Le l r o k m h = placed-slotless (comparison Lte l r) o (λ x g. comparison-slotless Lte l r x k m g) h
formed-slotless between_two.Gt l r o k m h = placed-slotless (comparison Gt l r) o (λ x g. comparison-slotless Gt l r x k m g) h
formed-slotless between_two.Ge l r o k m h = placed-slotless (comparison Gte l r) o (λ x g. comparison-slotless Gte l r x k m g) h
formed-slotless between_two.Like l r o k m h = placed-slotless (pattern_test l r) o (λ x g. pattern_test-slotless l r x k m g) h
formed-slotless between_two.Add l r o k m h = placed-slotless (sum l r) o (λ x g. sum_by-slotless Operator.Add l r x k m g) h
formed-slotless between_two.Sub l r o k m h = placed-slotless (difference l r) o (λ x g. sum_by-slotless Operator.Sub l r x k m g) h
formed-slotless between_two.Is l untyped_null o k m h = placed-slotless (null_test l) o (λ x g. null_test-slotless l x k g) h
formed-slotless between_two.IsNot l untyped_null o k m h = placed-slotless (not_null_test l) o (λ x g. not_null_test-slotless l x k g) h
formed-slotless _ l r o k m h = let no : ⊥ = cc (h) in absurd no

-- ---- expressions

-- what is below compares with no slot
abbrev Sound : (Expr → Result Operand Refusal) → Type 0
Sound below = (e : Expr) (o : Operand) → below e ≡ Ok o → IsSlotless o

module _ (t : Ty) (below : Expr → Result Operand Refusal) (sound : Sound below) where
  one-slotless : (form : Operand → Result TypedTree Mismatch) → ((o : Operand) (x : TypedTree) → IsSlotless o → form o ≡ Ok x → HasNoSlot x.tree)
      → (e : Expr) (o : Operand) → (below e >>= λ p. placed (form p)) ≡ Ok o → IsSlotless o
  one-slotless form own e o h =
      let s = stepped (below e) (λ p. placed (form p)) o h in
      placed-slotless (form s.given) o (λ x. own s.given x (sound e s.given s.was)) s.gave

  refused-slotless : (e : Expr) (r : Refusal) (o : Operand) → (below e >>= λ p. Err r) ≡ Ok o → IsSlotless o
  refused-slotless e r o h =
      let s = stepped (below e) (λ p. Err r) o h in
      let no : ⊥ = cc (s.gave) in absurd no

  signed-slotless : (sign : Unary) (negative : Bool) (e : Expr) (l : Layer) (o : Operand) → signed below sign negative e l ≡ Ok o → IsSlotless o
  signed-slotless sign negative e (Expr-F.Integer digits) o h = from-constant (number_of negative digits) o h
  signed-slotless sign negative e _ o h = refused-slotless e (no_prefix sign) o h

  prefixed-slotless : (op : Unary) (e : Expr) (o : Operand) → prefixed below op e ≡ Ok o → IsSlotless o
  unfolding prefixed
  prefixed-slotless unary.Minus e o h = signed-slotless unary.Minus true e (out-Expr e) o h
  prefixed-slotless unary.Plus e o h = signed-slotless unary.Plus false e (out-Expr e) o h
  prefixed-slotless unary.Not e o h = one-slotless negation (λ p x k g. negation-slotless p x k g) e o h
  prefixed-slotless unary.BitNot e o h = refused-slotless e (no_prefix unary.BitNot) o h
  prefixed-slotless (unary.Collate c) e o h = refused-slotless e (no_prefix (unary.Collate c)) o h

  operation-slotless : (op : Binary) (d e : Expr) (o : Operand) → operation below op d e ≡ Ok o → IsSlotless o
  unfolding operation
  operation-slotless op d e o h =
      let s = stepped (below d) (λ l. below e >>= λ r. formed op l r) o h in
      let k = stepped (below e) (λ r. formed op s.given r) o s.gave in
      formed-slotless op s.given k.given o (sound d s.given s.was) (sound e k.given k.was) k.gave

  in_range-slotless : (e lower upper : Expr) (o : Operand) → in_range below e lower upper ≡ Ok o → IsSlotless o
  unfolding in_range
  in_range-slotless e lower upper o h =
      let s = stepped (below e) (λ p. below lower >>= λ l. below upper >>= λ u. placed (range_test p l u)) o h in
      let k = stepped (below lower) (λ l. below upper >>= λ u. placed (range_test s.given l u)) o s.gave in
      let m = stepped (below upper) (λ u. placed (range_test s.given k.given u)) o k.gave in
      placed-slotless (range_test s.given k.given m.given) o
      (λ x g. range_test-slotless s.given k.given m.given x (sound e s.given s.was) (sound lower k.given k.was) (sound upper m.given m.was) g) m.gave

  in_list-slotless : (e : Expr) (members : List Expr) (o : Operand) → in_list below e members ≡ Ok o → IsSlotless o
  unfolding in_list
  in_list-slotless e members o h =
      let s = stepped (below e) (λ p. constants_of members >>= λ cs. placed (membership p cs)) o h in
      let k = stepped (constants_of members) (λ cs. placed (membership s.given cs)) o s.gave in
      placed-slotless (membership s.given k.given) o (λ x g. membership-slotless k.given s.given x (sound e s.given s.was) g) k.gave

  in_type-slotless : (e : Expr) (name : Bytes) (o : Operand) → in_type below e name ≡ Ok o → IsSlotless o
  unfolding in_type
  in_type-slotless e name o h =
      let s = stepped (below e) (λ p. type_named name >>= λ target. placed (cast_to target p)) o h in
      let k = stepped (type_named name) (λ target. placed (cast_to target s.given)) o s.gave in
      placed-slotless (cast_to k.given s.given) o (λ x g. cast_to-slotless k.given s.given x (sound e s.given s.was) g) k.gave

  opened-slotless : (l : Layer) (o : Operand) → opened_at below t l ≡ Ok o → IsSlotless o
  opened-slotless Expr-F.Null o h = subst IsSlotless (same_answer (Ok untyped_null) untyped_null o refl h) tt
  opened-slotless (Expr-F.Integer digits) o h = from-constant (number_of false digits) o h
  opened-slotless (Expr-F.Text s) o h =
      let k = stepped (text_of s) (λ u. Ok (known (text u))) o h in
      subst IsSlotless (same_answer (Ok (known (text k.given))) (known (text k.given)) o refl k.gave) (text-slotless k.given)
  opened-slotless (Expr-F.Column c f) o h =
      let k = stepped (column_of t c f) (λ e. Ok (known e)) o h in
      subst IsSlotless (same_answer (Ok (known k.given)) (known k.given) o refl k.gave) (column-slotless t c f k.given k.was)
  opened-slotless (Expr-F.Truth name b) o h =
      subst IsSlotless (same_answer (Ok (known (boolean b))) (known (boolean b)) o refl h) (boolean-slotless b)
  opened-slotless (Expr-F.Unary op e) o h = prefixed-slotless op e o h
  opened-slotless (Expr-F.Binary op d e) o h = operation-slotless op d e o h
  opened-slotless (Expr-F.Between e lower upper) o h = in_range-slotless e lower upper o h
  opened-slotless (Expr-F.InList e members) o h = in_list-slotless e members o h
  opened-slotless (Expr-F.InSelect e query) o h = refused-slotless e no_query o h
  opened-slotless (Expr-F.Cast e name) o h = in_type-slotless e name o h
  opened-slotless _ o h = let no : ⊥ = cc (h) in absurd no

within-slotless : (levels : ℕ) (t : Ty) (e : Expr) (o : Operand) → operand_within levels t e ≡ Ok o → IsSlotless o
unfolding operand_within
within-slotless zero t e o h = let no : ⊥ = cc (h) in absurd no
within-slotless (suc levels) t e o h = opened-slotless t (operand_within levels t) (within-slotless levels t) (out-Expr e) o h

operand-slotless : (t : Ty) (e : Expr) (o : Operand) → operand_of t e ≡ Ok o → IsSlotless o
unfolding operand_of
operand-slotless t e o h = within-slotless most_levels t e o h

condition-slotless : (t : Ty) (e : Expr) (x : TypedTree) → condition_of t e ≡ Ok x → HasNoSlot x.tree
unfolding condition_of
condition-slotless t e x h =
    let s = stepped (operand_of t e) as_condition x h in
    as_boolean-slotless s.given x (operand-slotless t e s.given s.was) (was_refused_as (λ m. no_condition s.given) (as_boolean s.given) x s.gave)

-- ---- SELECT

AreSlotless : List NamedTree → Type 0
AreSlotless [] = Unit {0}
AreSlotless (x ∷ xs) = HasNoSlot x.1.tree × AreSlotless xs

columns-slotless : (t : Ty) (fs : Fields) → AreSlotless (each_column t fs)
unfolding AreSlotless
columns-slotless t no_fields = tt
columns-slotless t (field f u fs) = (get_item-slotless f root root-slotless, columns-slotless t fs)

slotless-append : (xs ys : List NamedTree) → AreSlotless xs → AreSlotless ys → AreSlotless (xs ++ ys)
unfolding AreSlotless
slotless-append [] ys hx hy = hy
slotless-append (x ∷ xs) ys hx hy = (hx.0, slotless-append xs ys hx.1 hy)

value-slotless : (t : Ty) (e : Expr) (x : TypedTree) → value_of t e ≡ Ok x → HasNoSlot x.tree
value-slotless t e x h =
    let read = was_refused_as in_select (operand_of t e >>= λ o. refused_as misplaced (alone o)) x h in
    let s = stepped (operand_of t e) (λ o. refused_as misplaced (alone o)) x read in
    taking-slotless untyped_null s.given x (operand-slotless t e s.given s.was) (was_refused_as misplaced (alone s.given) x s.gave)

shown-slotless : (t : Ty) (l : ShownLayer) (xs : List NamedTree) → shown_at t l ≡ Ok xs → AreSlotless xs
unfolding AreSlotless
shown-slotless t Shown-F.All xs h =
    let columns = each_column t (fields_of t) in
    subst AreSlotless (same_answer (Ok columns) columns xs refl h) (columns-slotless t (fields_of t))
shown-slotless t (Shown-F.AllOf name) xs h = let no : ⊥ = cc (h) in absurd no
shown-slotless t (Shown-F.One e alias written) xs h =
    let s = stepped (value_of t e) (λ x. name_of alias written e >>= λ name. Ok ((name, x) ∷ [])) xs h in
    let k = stepped (name_of alias written e) (λ name. Ok ((name, s.given) ∷ [])) xs s.gave in
    subst AreSlotless (same_answer (Ok ((k.given, s.given) ∷ [])) ((k.given, s.given) ∷ []) xs refl k.gave) (value-slotless t e s.given s.was, tt)

added-slotless : (found xs all : List NamedTree) → AreSlotless found → AreSlotless xs → added found xs ≡ Ok all → AreSlotless all
unfolding AreSlotless
added-slotless found [] all before more h = subst AreSlotless (same_answer (Ok found) found all refl h) before
added-slotless found (x ∷ xs) all before more h =
    let p = passed (not (has_name x.0 (map (λ (y : NamedTree). y.0) found))) (name_twice x.0) (added (found ++ x ∷ []) xs) all h in
    added-slotless (found ++ x ∷ []) xs all (slotless-append found (x ∷ []) before (more.0, tt)) more.1 p.gave

shown_behind-slotless : (t : Ty) (found : List NamedTree) (ss : List Shown) (xs : List NamedTree) → AreSlotless found → shown_behind t found ss ≡ Ok xs → AreSlotless xs
shown_behind-slotless t found [] xs before h = subst AreSlotless (same_answer (Ok found) found xs refl h) before
shown_behind-slotless t found (s ∷ ss) xs before h =
    let k = stepped (shown_at t (out-Shown s) >>= added found) (λ more. shown_behind t more ss) xs h in
    let m = stepped (shown_at t (out-Shown s)) (added found) k.given k.was in
    shown_behind-slotless t k.given ss xs (added-slotless found m.given k.given before (shown-slotless t (out-Shown s) m.given m.was) m.gave) k.gave

trees-slotless : (xs : List NamedTree) → AreSlotless xs → list_any is_slot_comparison (nodes_of_all (trees_of (map (λ x. x.1.tree) xs))) ≡ false
unfolding AreSlotless
trees-slotless [] h = none-slotless
trees-slotless (x ∷ xs) h = more-slotless x.1.tree (map (λ y. y.1.tree) xs) h.0 (trees-slotless xs h.1)

packed-slotless : (xs : List NamedTree) → AreSlotless xs → HasNoSlot (packed xs).tree
packed-slotless xs h = pack-slotless (map (λ x. x.0) xs) (trees_of (map (λ x. x.1.tree) xs)) NonNullable (trees-slotless xs h)

rows-slotless : (t : Ty) (ss : List Shown) (x : TypedTree) → rows_of t ss ≡ Ok x → HasNoSlot x.tree
unfolding rows_of AreSlotless
rows-slotless t ss x h = by-star (is_star_alone ss) h where
  by-star : (b : Bool) → cond b (Ok (row_of t)) (shown_behind t [] ss >>= λ xs. Ok (packed xs)) ≡ Ok x → HasNoSlot x.tree
  by-star true k = subst (λ (z : TypedTree). HasNoSlot z.tree) (same_answer (Ok (row_of t)) (row_of t) x refl k) root-slotless
  by-star false k =
      let s = stepped (shown_behind t [] ss) (λ xs. Ok (packed xs)) x k in
      subst (λ (z : TypedTree). HasNoSlot z.tree) (same_answer (Ok (packed s.given)) (packed s.given) x refl s.gave)
      (packed-slotless s.given (shown_behind-slotless t [] ss s.given tt s.was))

-- ---- statements

filter-slotless : (t : Ty) (e : Option Expr) (filter : Option TypedTree) → filter_of t e ≡ Ok filter → HasNoSlot (condition_tree filter)
unfolding filter_of
filter-slotless t None filter h =
    subst (λ (z : Option TypedTree). HasNoSlot (condition_tree z)) (same_answer (Ok None) None filter refl h) (boolean-slotless true)
filter-slotless t (Some e) filter h =
    let s = stepped (refused_as in_where (condition_of t e)) (λ x. Ok (Some x)) filter h in
    subst (λ (z : Option TypedTree). HasNoSlot (condition_tree z)) (same_answer (Ok (Some s.given)) (Some s.given) filter refl s.gave)
    (condition-slotless t e s.given (was_refused_as in_where (condition_of t e) s.given s.was))

record IsSlotlessPlan (p : Plan) : Type 0 where
  filter : HasNoSlot (condition_tree p.filter)
  rows : HasNoSlot p.rows.tree

clauses-slotless : (t : Ty) (c : Core) (s : Select) (p : Plan) → clauses_of t c s ≡ Ok p → IsSlotlessPlan p
clauses-slotless t c s p h =
    let from = stepped (table_of (out-Core c).from) (λ table. filter_of t (out-Core c).filter >>= λ filter. rows_of t (out-Core c).shown >>= λ rows.
    order_of t (out-Select s).order >>= λ order. limit_of (out-Select s).limit >>= λ limit.
    Ok (record { table = table; filter = filter; rows = rows; order = order; limit = limit })) p h in
    let kept = stepped (filter_of t (out-Core c).filter) (λ filter. rows_of t (out-Core c).shown >>= λ rows.
    order_of t (out-Select s).order >>= λ order. limit_of (out-Select s).limit >>= λ limit.
    Ok (record { table = from.given; filter = filter; rows = rows; order = order; limit = limit })) p from.gave in
    let shown = stepped (rows_of t (out-Core c).shown) (λ rows. order_of t (out-Select s).order >>= λ order. limit_of (out-Select s).limit >>= λ limit.
    Ok (record { table = from.given; filter = kept.given; rows = rows; order = order; limit = limit })) p kept.gave in
    let order = stepped (order_of t (out-Select s).order) (λ order. limit_of (out-Select s).limit >>= λ limit.
    Ok (record { table = from.given; filter = kept.given; rows = shown.given; order = order; limit = limit })) p shown.gave in
    let limit = stepped (limit_of (out-Select s).limit) (λ limit.
    Ok (record { table = from.given; filter = kept.given; rows = shown.given; order = order.given; limit = limit })) p order.gave in
    let plan : Plan = record { table = from.given; filter = kept.given; rows = shown.given; order = order.given; limit = limit.given } in
    subst IsSlotlessPlan (same_answer (Ok plan) plan p refl limit.gave)
    (record { filter = filter-slotless t (out-Core c).filter kept.given kept.was; rows = rows-slotless t (out-Core c).shown shown.given shown.was })

-- ---- what holds of the clauses of a plan holds of the plan

module _ (t : Ty) (P : Plan → Type 0) (clauses : (c : Core) (s : Select) (p : Plan) → clauses_of t c s ≡ Ok p → P p) where
  select-so : (q : Parsed) (s : Select) (p : Plan) → select_of t q s ≡ Ok p → P p
  unfolding select_of
  select-so q s p h =
      let k = stepped (plain_select s) (λ _. without_parameters q >>= λ _. clauses_of t (out-Select s).first s) p h in
      let m = stepped (without_parameters q) (λ _. clauses_of t (out-Select s).first s) p k.gave in
      clauses (out-Select s).first s p m.gave

  read-so : (n : ℕ) (read : Result Parsed ParseError) (p : Plan) → read_of t n read ≡ Ok p → P p
  read-so n read p h =
      let s = stepped (refused_as unread read) (parsed_of t n) p h in
      let k = stepped (selected s.given.statement) (λ z. unless (s.given.tail == n) (second_statement s.given.tail) (select_of t s.given z)) p s.gave in
      let q = passed (s.given.tail == n) (second_statement s.given.tail) (select_of t s.given k.given) p k.gave in
      select-so s.given k.given p q.gave

  pub plan-so : (text : Bytes) (p : Plan) → plan_of t text ≡ Ok p → P p
  unfolding plan_of
  plan-so text p h = by-place (position (λ b. b == 0) text) h where
    by-place : (o : Option ℕ) → text_without_zero t text o ≡ Ok p → P p
    by-place (Some place) k = let no : ⊥ = cc (k) in absurd no
    by-place None k = read-so (length text) (parse text) p k

pub plans_have_no_slot : PlansHaveNoSlot
plans_have_no_slot t text p h =
    let own = plan-so t IsSlotlessPlan (clauses-slotless t) text p h in
    (ap not own.filter, ap not own.rows)
