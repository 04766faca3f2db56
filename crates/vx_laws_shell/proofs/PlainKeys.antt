-- The key of a plan is a column of a plain type.
use Rattle.std.proofs.Common.{◌≡◌, refl, ap, sym, ◌∙◌, subst, Bool, List, [], ◌∷◌, Option, Some, None, option_map, unwrap_or, Ok}
use Rattle.std.specs.Prelude.{MatchOption}
use Rattle.std.specs.Str.{is_utf8}
use Rattle.sqlite_ast.specs.declared.Expr.{out-Expr}
use Rattle.sqlite_ast.specs.declared.Expr.TheOpen.{Expr-F}
use Rattle.sqlite_ast.specs.declared.Sort.{Sort, out-Sort}
use Rattle.sqlite_ast.specs.declared.Select.{Select, out-Select}
use Rattle.sqlite_ast.specs.declared.Core.{Core, out-Core}
use Rattle.sqlite_ast.specs.Layer.{Layer}
use Rattle.vx_dtype.specs.declared.Nullability.TheVariants.{NonNullable, Nullable}
use Rattle.vx_dtype.specs.Types.{Bytes, Ty, bool_ty, int_ty, text_ty, list_ty, struct_ty, Fields}
use Rattle.vx_dtype.specs.TypeRules.{field_type, is_plain, widened}
use Rattle.vx_expr.specs.Trees.{get_item}
use Rattle.vx_semantics.specs.Tables.{row_type}
use Rattle.vx_semantics.specs.Typing.{type_in}
use Rattle.vx_laws_sql.specs.Operands.{TypedTree}
use Rattle.vx_laws_statements.specs.Refusals.{no_column, no_text, no_order, in_order, ◌>>=◌, unless, there, refused_as}
use Rattle.vx_laws_statements.specs.Constants.{text_of}
use Rattle.vx_laws_statements.specs.Expressions.{row_of, item_in, column_of}
use Rattle.vx_laws_statements.specs.Clauses.{Key, key_at, nulls_last, key_of, table_of, filter_of, rows_of, order_of, limit_of}
use Rattle.vx_laws_statements.specs.Statements.{Plan, clauses_of}
use Rattle.vx_laws_statements.proofs.Steps.{Stepped, stepped, passed, was_there, was_refused_as, same_answer}
use Rattle.vx_laws_shell.specs.PlanLaws.{IsPlainKey, PlanKeysArePlain}
use Rattle.vx_laws_shell.specs.Wants.{key_type}
use Rattle.vx_laws_shell.proofs.SlotlessPlans.{plan-so}

-- a type in a struct that isn't nullable
not-widened : (t : Ty) → widened t NonNullable ≡ t
not-widened (bool_ty NonNullable) = refl
not-widened (bool_ty Nullable) = refl
not-widened (int_ty p NonNullable) = refl
not-widened (int_ty p Nullable) = refl
not-widened (text_ty NonNullable) = refl
not-widened (text_ty Nullable) = refl
not-widened (list_ty e NonNullable) = refl
not-widened (list_ty e Nullable) = refl
not-widened (struct_ty fs NonNullable) = refl
not-widened (struct_ty fs Nullable) = refl

-- the type of a column that was found
column-there : (columns : Fields) (f : Bytes) (x : TypedTree) → column_of (row_type columns) None f ≡ Ok x → field_type f columns ≡ Some x.ty
column-there columns f x h = by-type (field_type f columns) refl (same_answer (Ok found) found s.given refl k.gave) where
  t : Ty
  t = row_type columns

  s : Stepped (item_in f (row_of t)) (there (no_column f)) x
  s = stepped (item_in f (row_of t)) (there (no_column f)) x h

  made : Bytes → Ty → TypedTree
  made g u = record { ty = u; tree = get_item g (row_of t).tree }

  k : Stepped (text_of f) (λ g. Ok (option_map (made g) (type_in g t))) s.given
  k = stepped (text_of f) (λ g. Ok (option_map (made g) (type_in g t))) s.given s.was

  found : Option TypedTree
  found = option_map (made k.given) (type_in k.given t)

  name : k.given ≡ f
  name = let p = passed (is_utf8 f) (no_text f) (Ok f) k.given k.was in same_answer (Ok k.given) k.given f refl (sym p.gave)

  is : s.given ≡ Some x
  is = was_there (no_column f) s.given x s.gave

  by-type : (o : Option Ty) → field_type f columns ≡ o → found ≡ s.given → field_type f columns ≡ Some x.ty
  by-type (Some u) here g =
      let type_is : type_in k.given t ≡ Some (widened u NonNullable) =
      ap (λ (n : Bytes). option_map (λ (w : Ty). widened w NonNullable) (field_type n columns)) name ∙ ap (option_map (λ (w : Ty). widened w NonNullable)) here in
      let one : Some (made k.given (widened u NonNullable)) ≡ Some x = ap (option_map (made k.given)) (sym type_is) ∙ g ∙ is in
      let same : made k.given (widened u NonNullable) ≡ x = cc in
      here ∙ ap Some (sym (not-widened u) ∙ ap (λ (z : TypedTree). z.ty) same)
  by-type None here g =
      let type_is : type_in k.given t ≡ None =
      ap (λ (n : Bytes). option_map (λ (w : Ty). widened w NonNullable) (field_type n columns)) name ∙ ap (option_map (λ (w : Ty). widened w NonNullable)) here in
      let none : None ≡ Some x = ap (option_map (made k.given)) (sym type_is) ∙ g ∙ is in
      let no : ⊥ = cc in
      absurd no

key-plain : (columns : Fields) (descending : Bool) (l : Layer) (key : Key) → key_at (row_type columns) descending l ≡ Ok key → IsPlainKey columns key
key-plain columns descending (Expr-F.Column None f) key h =
    let t = row_type columns in
    let named : Key = record { column = f; descending = descending } in
    let s = stepped (refused_as in_order (column_of t None f)) (λ e. unless (is_plain e.ty) (no_order f) (Ok named)) key h in
    let p = passed (is_plain s.given.ty) (no_order f) (Ok named) key s.gave in
    let there : field_type f columns ≡ Some s.given.ty = column-there columns f s.given (was_refused_as in_order (column_of t None f) s.given s.was) in
    let own : s.given.ty ≡ key_type columns f = ap (λ (o : Option Ty). unwrap_or o (bool_ty NonNullable)) (sym there) in
    subst (IsPlainKey columns) (same_answer (Ok named) named key refl p.gave) (record { column = there ∙ ap Some own; plain = ap is_plain (sym own) ∙ p.holds })
key-plain columns descending _ key h = let no : ⊥ = cc (h) in absurd no

key_of-plain : (columns : Fields) (s : Sort) (o : Option Key) → key_of (row_type columns) s ≡ Ok o → MatchOption o (Unit {0}) (IsPlainKey columns)
key_of-plain columns s o h =
    let t = row_type columns in
    let a = stepped (nulls_last (out-Sort s).nulls_first) (λ _. key_at t (out-Sort s).descending (out-Expr (out-Sort s).key) >>= λ key. Ok (Some key)) o h in
    let b = stepped (key_at t (out-Sort s).descending (out-Expr (out-Sort s).key)) (λ key. Ok (Some key)) o a.gave in
    subst (λ (z : Option Key). MatchOption z (Unit {0}) (IsPlainKey columns)) (same_answer (Ok (Some b.given)) (Some b.given) o refl b.gave)
    (key-plain columns (out-Sort s).descending (out-Expr (out-Sort s).key) b.given b.was)

order-plain : (columns : Fields) (sorts : List Sort) (o : Option Key) → order_of (row_type columns) sorts ≡ Ok o → MatchOption o (Unit {0}) (IsPlainKey columns)
unfolding order_of
order-plain columns [] o h = subst (λ (z : Option Key). MatchOption z (Unit {0}) (IsPlainKey columns)) (same_answer (Ok None) None o refl h) tt
order-plain columns (s ∷ []) o h = key_of-plain columns s o h
order-plain columns (s ∷ other ∷ more) o h = let no : ⊥ = cc (h) in absurd no

-- the order of a plan's clauses
record HasPlainKey (columns : Fields) (p : Plan) : Type 0 where
  key : MatchOption p.order (Unit {0}) (IsPlainKey columns)

clauses-plain : (columns : Fields) (c : Core) (s : Select) (p : Plan) → clauses_of (row_type columns) c s ≡ Ok p → HasPlainKey columns p
clauses-plain columns c s p h =
    let t = row_type columns in
    let from = stepped (table_of (out-Core c).from) (λ table. filter_of t (out-Core c).filter >>= λ filter. rows_of t (out-Core c).shown >>= λ rows.
    order_of t (out-Select s).order >>= λ order. limit_of (out-Select s).limit >>= λ limit.
    Ok (record { table = table; filter = filter; rows = rows; order = order; limit = limit })) p h in
    let kept = stepped (filter_of t (out-Core c).filter) (λ filter. rows_of t (out-Core c).shown >>= λ rows.
    order_of t (out-Select s).order >>= λ order. limit_of (out-Select s).limit >>= λ limit.
    Ok (record { table = from.given; filter = filter; rows = rows; order = order; limit = limit })) p from.gave in
    let shown = stepped (rows_of t (out-Core c).shown) (λ rows. order_of t (out-Select s).order >>= λ order. limit_of (out-Select s).limit >>= λ limit.
    Ok (record { table = from.given; filter = kept.given; rows = rows; order = order; limit = limit })) p kept.gave in
    let order = stepped (order_of t (out-Select s).order) (λ order. limit_of (out-Select s).limit >>= λ limit.
    Ok (record { table = from.given; filter = kept.given; rows = shown.given; order = order; limit = limit })) p shown.gave in
    let limit = stepped (limit_of (out-Select s).limit) (λ limit.
    Ok (record { table = from.given; filter = kept.given; rows = shown.given; order = order.given; limit = limit })) p order.gave in
    let plan : Plan = record { table = from.given; filter = kept.given; rows = shown.given; order = order.given; limit = limit.given } in
    subst (HasPlainKey columns) (same_answer (Ok plan) plan p refl limit.gave) (record { key = order-plain columns (out-Select s).order order.given order.was })

pub plan_keys_are_plain : PlanKeysArePlain
plan_keys_are_plain columns text p h = (plan-so (row_type columns) (HasPlainKey columns) (clauses-plain columns) text p h).key
