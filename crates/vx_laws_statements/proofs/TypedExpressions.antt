-- What an expression of SQL is over a table has its type.
use Rattle.std.proofs.Common.{◌≡◌, refl, ap, ◌∙◌, subst, ℕ, zero, suc, Bool, true, false, List, Option, Some, None, option_map, Result, Ok, Err, ok_or}
use Rattle.sqlite_ast.specs.declared.Unary.{Unary}
use Rattle.sqlite_ast.specs.declared.Unary.TheVariants as unary
use Rattle.sqlite_ast.specs.declared.Binary.{Binary}
use Rattle.sqlite_ast.specs.declared.Binary.TheVariants as between_two
use Rattle.sqlite_ast.specs.declared.Expr.{Expr, out-Expr}
use Rattle.sqlite_ast.specs.declared.Expr.TheOpen.{Expr-F}
use Rattle.sqlite_ast.specs.Layer.{Layer}
use Rattle.vx_dtype.specs.declared.CompareOperator.TheVariants.{Eq, NotEq, Gt, Gte, Lt, Lte}
use Rattle.vx_dtype.specs.declared.Nullability.TheVariants.{NonNullable}
use Rattle.vx_dtype.specs.Types.{Bytes, Ty, bool_ty, int_ty, text_ty, list_ty, struct_ty}
use Rattle.vx_dtype.specs.TypeRules.{no_name_twice}
use Rattle.vx_dtype.specs.Values.{Raw, raw_bool, raw_int, raw_text}
use Rattle.vx_dtype.specs.Fits.{fits}
use Rattle.vx_expr.specs.Trees.{get_item}
use Rattle.vx_semantics.specs.Typing.{and_then, unless, duplicate_field, type_in, item_type, typed_of, unknown_field}
use Rattle.vx_laws_sql.specs.Operands.{TypedTree, Operand, known, untyped_null, Mismatch, boolean, text}
use Rattle.vx_laws_sql.specs.Forms.{comparison, sum, difference, conjunction, disjunction, negation, null_test, not_null_test, pattern_test, range_test}
use Rattle.vx_laws_sql.specs.Forms.{cast_to, as_boolean}
use Rattle.vx_laws_sql.specs.Membership.{constant_operand, membership}
use Rattle.vx_laws_sql.specs.Typing.{HasItsType, IsTyped}
use Rattle.vx_laws_sql.proofs.Typed.{constant-typed, comparisons_are_tests}
use Rattle.vx_laws_sql.proofs.TypedForms.{as_boolean-typed, sums_are_typed, differences_are_typed, conjunctions_are_tests, disjunctions_are_tests}
use Rattle.vx_laws_sql.proofs.TypedForms.{negations_are_tests}
use Rattle.vx_laws_sql.proofs.TypedForms.{null_tests_are_tests, not_null_tests_are_tests, patterns_are_tests, ranges_are_tests, casts_are_typed}
use Rattle.vx_laws_sql.proofs.TypedMembers.{memberships_are_tests}
use Rattle.vx_laws_statements.specs.Refusals.{Refusal, no_prefix, no_query, misplaced, no_condition, no_column, no_field, ◌>>=◌, there, refused_as}
use Rattle.vx_laws_statements.specs.Constants.{text_of, number_of, constants_of, type_named}
use Rattle.vx_laws_statements.specs.Expressions.{row_of, item_in, column_of, placed, formed, signed, prefixed, operation, in_range, in_list, in_type}
use Rattle.vx_laws_statements.specs.Expressions.{opened_at, operand_within, most_levels, operand_of, as_condition, condition_of}
use Rattle.vx_laws_statements.specs.Typing.{ExpressionsAreTyped, ConditionsAreTests}
use Rattle.vx_laws_statements.proofs.Steps.{Stepped, stepped, was_there, was_refused_as, same_answer}

-- ---- columns

item-typed : (f : Bytes) (a u : Ty) → type_in f a ≡ Some u → item_type f a ≡ Ok u
item-typed f (bool_ty n) u h = let no : ⊥ = cc (h) in absurd no
item-typed f (int_ty p n) u h = let no : ⊥ = cc (h) in absurd no
item-typed f (text_ty n) u h = let no : ⊥ = cc (h) in absurd no
item-typed f (list_ty e n) u h = let no : ⊥ = cc (h) in absurd no
item-typed f (struct_ty fs n) u h = by-type (type_in f (struct_ty fs n)) h where
  by-type : (o : Option Ty) → o ≡ Some u → ok_or o unknown_field ≡ Ok u
  by-type (Some w) k = cc
  by-type None k = let no : ⊥ = cc (k) in absurd no

pub get_item-typed : (t u : Ty) (f : Bytes) (e : TypedTree) → HasItsType t e → type_in f e.ty ≡ Some u
    → HasItsType t (record { ty = u; tree = get_item f e.tree })
unfolding typed_of
get_item-typed t u f e typed h = ap (λ (r : _). and_then r (item_type f)) typed ∙ item-typed f e.ty u h

item_in-typed : (t : Ty) (f : Bytes) (e x : TypedTree) (r : Refusal) → HasItsType t e → (item_in f e >>= there r) ≡ Ok x → HasItsType t x
item_in-typed t f e x r typed h = by-type (type_in k.given e.ty) refl (same_answer (Ok found) found s.given refl k.gave) where
  s : Stepped (item_in f e) (there r) x
  s = stepped (item_in f e) (there r) x h

  made : Bytes → Ty → TypedTree
  made g u = record { ty = u; tree = get_item g e.tree }

  k : Stepped (text_of f) (λ g. Ok (option_map (made g) (type_in g e.ty))) s.given
  k = stepped (text_of f) (λ g. Ok (option_map (made g) (type_in g e.ty))) s.given s.was

  found : Option TypedTree
  found = option_map (made k.given) (type_in k.given e.ty)

  is : s.given ≡ Some x
  is = was_there r s.given x s.gave

  by-type : (o : Option Ty) → type_in k.given e.ty ≡ o → option_map (made k.given) o ≡ s.given → HasItsType t x
  by-type (Some u) here g =
      let same : made k.given u ≡ x = cc (g, is) in subst (λ (z : TypedTree). HasItsType t z) same (get_item-typed t u k.given e typed here)
  by-type None here g = let no : ⊥ = cc (g, is) in absurd no

pub row-typed : (t : Ty) → no_name_twice t ≡ true → HasItsType t (row_of t)
unfolding typed_of
row-typed t once = ap (λ (b : Bool). unless b duplicate_field (Ok t)) once

column-typed : (t : Ty) (c : Option Bytes) (f : Bytes) (x : TypedTree) → no_name_twice t ≡ true → column_of t c f ≡ Ok x → HasItsType t x
column-typed t None f x once h = item_in-typed t f (row_of t) x (no_column f) (row-typed t once) h
column-typed t (Some c) f x once h =
    let s = stepped (item_in c (row_of t) >>= there (no_column c)) (λ e. item_in f e >>= there (no_field c f)) x h in
    item_in-typed t f s.given x (no_field c f) (item_in-typed t c (row_of t) s.given (no_column c) (row-typed t once) s.was) s.gave

-- ---- constants

bool-fits : (b : Bool) → fits (raw_bool b) (bool_ty NonNullable) ≡ true
unfolding fits
bool-fits b = refl

text-fits : (s : Bytes) → fits (raw_text s) (text_ty NonNullable) ≡ true
unfolding fits
text-fits s = refl

once-bool : no_name_twice (bool_ty NonNullable) ≡ true
unfolding no_name_twice
once-bool = refl

once-text : no_name_twice (text_ty NonNullable) ≡ true
unfolding no_name_twice
once-text = refl

boolean-typed : (t : Ty) (b : Bool) → HasItsType t (boolean b)
boolean-typed t b = constant-typed t (bool_ty NonNullable) (raw_bool b) once-bool (bool-fits b)

text-typed : (t : Ty) (s : Bytes) → HasItsType t (text s)
text-typed t s = constant-typed t (text_ty NonNullable) (raw_text s) once-text (text-fits s)

constant_operand-typed : (t : Ty) (c : Raw) → IsTyped t (constant_operand c)
constant_operand-typed t (raw_int i) = tt
constant_operand-typed t (raw_bool b) = boolean-typed t b
constant_operand-typed t (raw_text s) = text-typed t s
constant_operand-typed t _ = tt

-- an operand made of a constant
from-constant : (t : Ty) (read : Result Raw Refusal) (o : Operand) → (read >>= λ c. Ok (constant_operand c)) ≡ Ok o → IsTyped t o
from-constant t read o h =
    let s = stepped read (λ c. Ok (constant_operand c)) o h in
    let same = same_answer (Ok (constant_operand s.given)) (constant_operand s.given) o refl s.gave in
    subst (λ (z : Operand). IsTyped t z) same (constant_operand-typed t s.given)

-- ---- forms

placed-typed : (t : Ty) (made : Result TypedTree Mismatch) (o : Operand) → ((x : TypedTree) → made ≡ Ok x → HasItsType t x) → placed made ≡ Ok o → IsTyped t o
placed-typed t made o typed h =
    let s = stepped (refused_as misplaced made) (λ x. Ok (known x)) o h in
    let same = same_answer (Ok (known s.given)) (known s.given) o refl s.gave in
    subst (λ (z : Operand). IsTyped t z) same (typed s.given (was_refused_as misplaced made s.given s.was))

formed-typed : (t : Ty) (op : Binary) (l r o : Operand) → IsTyped t l → IsTyped t r → formed op l r ≡ Ok o → IsTyped t o
formed-typed t between_two.Or l r o k m h = placed-typed t (disjunction l r) o (λ x g. (disjunctions_are_tests t l r x k m g).0) h
formed-typed t between_two.And l r o k m h = placed-typed t (conjunction l r) o (λ x g. (conjunctions_are_tests t l r x k m g).0) h
formed-typed t between_two.Eq l r o k m h = placed-typed t (comparison Eq l r) o (λ x g. (comparisons_are_tests Eq t l r x k m g).0) h
formed-typed t between_two.Ne l r o k m h = placed-typed t (comparison NotEq l r) o (λ x g. (comparisons_are_tests NotEq t l r x k m g).0) h
formed-typed t between_two.Lt l r o k m h = placed-typed t (comparison Lt l r) o (λ x g. (comparisons_are_tests Lt t l r x k m g).0) h
formed-typed t between_two.Le l r o k m h = placed-typed t (comparison Lte l r) o (λ x g. (comparisons_are_tests Lte t l r x k m g).0) h
formed-typed t between_two.Gt l r o k m h = placed-typed t (comparison Gt l r) o (λ x g. (comparisons_are_tests Gt t l r x k m g).0) h
formed-typed t between_two.Ge l r o k m h = placed-typed t (comparison Gte l r) o (λ x g. (comparisons_are_tests Gte t l r x k m g).0) h
formed-typed t between_two.Like l r o k m h = placed-typed t (pattern_test l r) o (λ x g. (patterns_are_tests t l r x k m g).0) h
formed-typed t between_two.Add l r o k m h = placed-typed t (sum l r) o (λ x g. sums_are_typed t l r x k m g) h
formed-typed t between_two.Sub l r o k m h = placed-typed t (difference l r) o (λ x g. differences_are_typed t l r x k m g) h
formed-typed t between_two.Is l untyped_null o k m h = placed-typed t (null_test l) o (λ x g. (null_tests_are_tests t l x k g).0) h
formed-typed t between_two.IsNot l untyped_null o k m h = placed-typed t (not_null_test l) o (λ x g. (not_null_tests_are_tests t l x k g).0) h
formed-typed t _ l r o k m h = let no : ⊥ = cc (h) in absurd no

-- what is below is typed
abbrev Sound : Ty → (Expr → Result Operand Refusal) → Type 0
Sound t below = (e : Expr) (o : Operand) → below e ≡ Ok o → IsTyped t o

module _ (t : Ty) (below : Expr → Result Operand Refusal) (sound : Sound t below) where
  one-typed : (form : Operand → Result TypedTree Mismatch) → ((o : Operand) (x : TypedTree) → IsTyped t o → form o ≡ Ok x → HasItsType t x)
      → (e : Expr) (o : Operand) → (below e >>= λ p. placed (form p)) ≡ Ok o → IsTyped t o
  one-typed form typed e o h =
      let s = stepped (below e) (λ p. placed (form p)) o h in
      placed-typed t (form s.given) o (λ x. typed s.given x (sound e s.given s.was)) s.gave

  refused-typed : (e : Expr) (r : Refusal) (o : Operand) → (below e >>= λ p. Err r) ≡ Ok o → IsTyped t o
  refused-typed e r o h =
      let s = stepped (below e) (λ p. Err r) o h in
      let no : ⊥ = cc (s.gave) in absurd no

  signed-typed : (sign : Unary) (negative : Bool) (e : Expr) (l : Layer) (o : Operand) → signed below sign negative e l ≡ Ok o → IsTyped t o
  signed-typed sign negative e (Expr-F.Integer digits) o h = from-constant t (number_of negative digits) o h
  signed-typed sign negative e _ o h = refused-typed e (no_prefix sign) o h

  prefixed-typed : (op : Unary) (e : Expr) (o : Operand) → prefixed below op e ≡ Ok o → IsTyped t o
  unfolding prefixed
  prefixed-typed unary.Minus e o h = signed-typed unary.Minus true e (out-Expr e) o h
  prefixed-typed unary.Plus e o h = signed-typed unary.Plus false e (out-Expr e) o h
  prefixed-typed unary.Not e o h = one-typed negation (λ p x k g. (negations_are_tests t p x k g).0) e o h
  prefixed-typed unary.BitNot e o h = refused-typed e (no_prefix unary.BitNot) o h
  prefixed-typed (unary.Collate c) e o h = refused-typed e (no_prefix (unary.Collate c)) o h

  operation-typed : (op : Binary) (d e : Expr) (o : Operand) → operation below op d e ≡ Ok o → IsTyped t o
  unfolding operation
  operation-typed op d e o h =
      let s = stepped (below d) (λ l. below e >>= λ r. formed op l r) o h in
      let k = stepped (below e) (λ r. formed op s.given r) o s.gave in
      formed-typed t op s.given k.given o (sound d s.given s.was) (sound e k.given k.was) k.gave

  in_range-typed : (e lower upper : Expr) (o : Operand) → in_range below e lower upper ≡ Ok o → IsTyped t o
  unfolding in_range
  in_range-typed e lower upper o h =
      let s = stepped (below e) (λ p. below lower >>= λ l. below upper >>= λ u. placed (range_test p l u)) o h in
      let k = stepped (below lower) (λ l. below upper >>= λ u. placed (range_test s.given l u)) o s.gave in
      let m = stepped (below upper) (λ u. placed (range_test s.given k.given u)) o k.gave in
      placed-typed t (range_test s.given k.given m.given) o
      (λ x g. (ranges_are_tests t s.given k.given m.given x (sound e s.given s.was) (sound lower k.given k.was) (sound upper m.given m.was) g).0) m.gave

  in_list-typed : (e : Expr) (members : List Expr) (o : Operand) → in_list below e members ≡ Ok o → IsTyped t o
  unfolding in_list
  in_list-typed e members o h =
      let s = stepped (below e) (λ p. constants_of members >>= λ cs. placed (membership p cs)) o h in
      let k = stepped (constants_of members) (λ cs. placed (membership s.given cs)) o s.gave in
      placed-typed t (membership s.given k.given) o (λ x g. (memberships_are_tests k.given t s.given x (sound e s.given s.was) g).0) k.gave

  in_type-typed : (e : Expr) (name : Bytes) (o : Operand) → in_type below e name ≡ Ok o → IsTyped t o
  unfolding in_type
  in_type-typed e name o h =
      let s = stepped (below e) (λ p. type_named name >>= λ target. placed (cast_to target p)) o h in
      let k = stepped (type_named name) (λ target. placed (cast_to target s.given)) o s.gave in
      placed-typed t (cast_to k.given s.given) o (λ x g. casts_are_typed k.given t s.given x (sound e s.given s.was) g) k.gave

  opened-typed : no_name_twice t ≡ true → (l : Layer) (o : Operand) → opened_at below t l ≡ Ok o → IsTyped t o
  opened-typed once Expr-F.Null o h = subst (λ (z : Operand). IsTyped t z) (same_answer (Ok untyped_null) untyped_null o refl h) tt
  opened-typed once (Expr-F.Integer digits) o h = from-constant t (number_of false digits) o h
  opened-typed once (Expr-F.Text s) o h =
      let k = stepped (text_of s) (λ u. Ok (known (text u))) o h in
      subst (λ (z : Operand). IsTyped t z) (same_answer (Ok (known (text k.given))) (known (text k.given)) o refl k.gave) (text-typed t k.given)
  opened-typed once (Expr-F.Column c f) o h =
      let k = stepped (column_of t c f) (λ e. Ok (known e)) o h in
      subst (λ (z : Operand). IsTyped t z) (same_answer (Ok (known k.given)) (known k.given) o refl k.gave) (column-typed t c f k.given once k.was)
  opened-typed once (Expr-F.Truth name b) o h =
      subst (λ (z : Operand). IsTyped t z) (same_answer (Ok (known (boolean b))) (known (boolean b)) o refl h) (boolean-typed t b)
  opened-typed once (Expr-F.Unary op e) o h = prefixed-typed op e o h
  opened-typed once (Expr-F.Binary op d e) o h = operation-typed op d e o h
  opened-typed once (Expr-F.Between e lower upper) o h = in_range-typed e lower upper o h
  opened-typed once (Expr-F.InList e members) o h = in_list-typed e members o h
  opened-typed once (Expr-F.InSelect e query) o h = refused-typed e no_query o h
  opened-typed once (Expr-F.Cast e name) o h = in_type-typed e name o h
  opened-typed once _ o h = let no : ⊥ = cc (h) in absurd no

within-typed : (levels : ℕ) (t : Ty) → no_name_twice t ≡ true → (e : Expr) (o : Operand) → operand_within levels t e ≡ Ok o → IsTyped t o
unfolding operand_within
within-typed zero t once e o h = let no : ⊥ = cc (h) in absurd no
within-typed (suc levels) t once e o h = opened-typed t (operand_within levels t) (within-typed levels t once) once (out-Expr e) o h

pub expressions-typed : ExpressionsAreTyped
unfolding operand_of
expressions-typed t e o once h = within-typed most_levels t once e o h

pub conditions-typed : ConditionsAreTests
unfolding condition_of
conditions-typed t e x once h =
    let s = stepped (operand_of t e) as_condition x h in
    as_boolean-typed t s.given x (expressions-typed t e s.given once s.was) (was_refused_as (λ m. no_condition s.given) (as_boolean s.given) x s.gave)
