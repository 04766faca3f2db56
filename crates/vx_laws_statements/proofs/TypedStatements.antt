-- What a statement of SQL names is strictly typed over the table.
use Rattle.std.proofs.Common.{◌≡◌, refl, ap, sym, ◌∙◌, subst, ℕ, Bool, true, false, not, ◌&&◌, ◌||◌, ◌==◌, cond, List, [], ◌∷◌, ◌++◌, length, map, nat_eq}
use Rattle.std.proofs.Common.{Option, Some, None, option_map, position, Result, Ok}
use Rattle.std.proofs.lemmas.Bool.{and_parts, eq-eqb}
use Rattle.std.proofs.lemmas.List.{length-map, map-append}
use Rattle.std.specs.Str.{bytes_eq}
use Rattle.sqlite_ast.specs.declared.Expr.{Expr}
use Rattle.sqlite_ast.specs.declared.Expr.TheOpen.{Shown-F}
use Rattle.sqlite_ast.specs.declared.Shown.{Shown, out-Shown}
use Rattle.sqlite_ast.specs.declared.Select.{Select, out-Select}
use Rattle.sqlite_ast.specs.declared.Core.{Core, out-Core}
use Rattle.sqlite_ast.specs.Layer.{ShownLayer}
use Rattle.sqlite_syntax.specs.declared.error.ParseError.{ParseError}
use Rattle.sqlite_syntax.specs.declared.statement.Parsed.{Parsed}
use Rattle.sqlite_syntax.specs.Statement.{parse}
use Rattle.vx_dtype.specs.declared.Nullability.{Nullability}
use Rattle.vx_dtype.specs.declared.Nullability.TheVariants.{NonNullable}
use Rattle.vx_dtype.specs.Types.{Bytes, Ty, bool_ty, int_ty, text_ty, list_ty, struct_ty, Fields, no_fields, field}
use Rattle.vx_dtype.specs.TypeRules.{no_name_twice, widened, fields_of, field_names, field_type, has_name, distinct_names}
use Rattle.vx_dtype.specs.Zipped.{zipped}
use Rattle.vx_expr.specs.Trees.{trees_of}
use Rattle.vx_semantics.specs.Typing.{and_then, unless as unless_typed, duplicate_field, type_mismatch, pack_type, typed_of, all_typed}
use Rattle.vx_laws.proofs.Inverting.{bytes_eq-itself}
use Rattle.vx_laws.proofs.Distinct.{bytes_differ, not-has, struct-distinct}
use Rattle.vx_laws_sql.specs.Operands.{TypedTree, alone}
use Rattle.vx_laws_sql.specs.Typing.{HasItsType}
use Rattle.vx_laws_sql.proofs.Typed.{alone-typed}
use Rattle.vx_laws_statements.specs.Refusals.{misplaced, unread, second_statement, name_twice, in_where, in_select}
use Rattle.vx_laws_statements.specs.Refusals.{◌>>=◌, unless, refused_as}
use Rattle.vx_laws_statements.specs.Expressions.{row_of, operand_of, condition_of}
use Rattle.vx_laws_statements.specs.Clauses.{NamedTree, each_column, name_of, value_of, shown_at, added, shown_behind, is_star_alone, packed, rows_of}
use Rattle.vx_laws_statements.specs.Clauses.{table_of, filter_of, order_of, limit_of}
use Rattle.vx_laws_statements.specs.Statements.{Plan, plain_select, clauses_of, without_parameters, select_of, selected, parsed_of, read_of}
use Rattle.vx_laws_statements.specs.Statements.{text_without_zero, plan_of}
use Rattle.vx_laws_statements.specs.Typing.{FilterIsTest, PlansAreTyped}
use Rattle.vx_laws_statements.proofs.Steps.{stepped, passed, was_refused_as, same_answer}
use Rattle.vx_laws_statements.proofs.TypedExpressions.{get_item-typed, row-typed, expressions-typed, conditions-typed}

-- ---- the columns of a table

-- each of these fields is the first of its name
Firsts : Fields → Fields → Type 0
Firsts all no_fields = Unit {0}
Firsts all (field f u fs) = (field_type f all ≡ Some u) × Firsts all fs

not-either : (a b : Bool) → (a || b) ≡ false → (a ≡ false) × (b ≡ false)
not-either true b h = let no : ⊥ = cc (h) in absurd no
not-either false b h = (refl, h)

firsts-behind : (g : Bytes) (w : Ty) (all fs : Fields) → has_name g (field_names fs) ≡ false → Firsts all fs → Firsts (field g w all) fs
unfolding Firsts
firsts-behind g w all no_fields h firsts = tt
firsts-behind g w all (field f u fs) h firsts =
    let parts = not-either (bytes_eq g f) (has_name g (field_names fs)) h in
    (ap (λ (b : Bool). cond b (Some w) (field_type f all)) (bytes_differ g f parts.0) ∙ firsts.0, firsts-behind g w all fs parts.1 firsts.1)

firsts-own : (fs : Fields) → distinct_names (field_names fs) ≡ true → Firsts fs fs
unfolding Firsts
firsts-own no_fields h = tt
firsts-own (field g w fs) h =
    let parts = and_parts (not (has_name g (field_names fs))) (distinct_names (field_names fs)) h in (
      ap (λ (b : Bool). cond b (Some w) (field_type g fs)) (bytes_eq-itself g),
      firsts-behind g w fs fs (not-has (has_name g (field_names fs)) parts.0) (firsts-own fs parts.1),
    )

-- named expressions that have their types
AreTyped : Ty → List NamedTree → Type 0
AreTyped t [] = Unit {0}
AreTyped t (x ∷ xs) = HasItsType t x.1 × AreTyped t xs

columns-typed : (all : Fields) (n : Nullability) (fs : Fields) → no_name_twice (struct_ty all n) ≡ true → Firsts all fs
    → AreTyped (struct_ty all n) (each_column (struct_ty all n) fs)
unfolding Firsts AreTyped
columns-typed all n no_fields once firsts = tt
columns-typed all n (field f u fs) once firsts =
    let t = struct_ty all n in (
      get_item-typed t (widened u n) f (row_of t) (row-typed t once) (ap (option_map (λ (w : Ty). widened w n)) firsts.0),
      columns-typed all n fs once firsts.1,
    )

table-typed : (t : Ty) → no_name_twice t ≡ true → AreTyped t (each_column t (fields_of t))
unfolding AreTyped
table-typed (struct_ty fs n) once = columns-typed fs n fs once (firsts-own fs (struct-distinct fs n once).names)
table-typed (bool_ty n) once = tt
table-typed (int_ty p n) once = tt
table-typed (text_ty n) once = tt
table-typed (list_ty e n) once = tt

-- ---- SELECT

typed-append : (t : Ty) (xs ys : List NamedTree) → AreTyped t xs → AreTyped t ys → AreTyped t (xs ++ ys)
unfolding AreTyped
typed-append t [] ys hx hy = hy
typed-append t (x ∷ xs) ys hx hy = (hx.0, typed-append t xs ys hx.1 hy)

value-typed : (t : Ty) (e : Expr) (x : TypedTree) → no_name_twice t ≡ true → value_of t e ≡ Ok x → HasItsType t x
value-typed t e x once h =
    let read = was_refused_as in_select (operand_of t e >>= λ o. refused_as misplaced (alone o)) x h in
    let s = stepped (operand_of t e) (λ o. refused_as misplaced (alone o)) x read in
    alone-typed t s.given x (expressions-typed t e s.given once s.was) (was_refused_as misplaced (alone s.given) x s.gave)

shown-typed : (t : Ty) (l : ShownLayer) (xs : List NamedTree) → no_name_twice t ≡ true → shown_at t l ≡ Ok xs → AreTyped t xs
unfolding AreTyped
shown-typed t Shown-F.All xs once h =
    let columns = each_column t (fields_of t) in
    subst (λ (z : List NamedTree). AreTyped t z) (same_answer (Ok columns) columns xs refl h) (table-typed t once)
shown-typed t (Shown-F.AllOf name) xs once h = let no : ⊥ = cc (h) in absurd no
shown-typed t (Shown-F.One e alias written) xs once h =
    let s = stepped (value_of t e) (λ x. name_of alias written e >>= λ name. Ok ((name, x) ∷ [])) xs h in
    let k = stepped (name_of alias written e) (λ name. Ok ((name, s.given) ∷ [])) xs s.gave in
    subst (λ (z : List NamedTree). AreTyped t z) (same_answer (Ok ((k.given, s.given) ∷ [])) ((k.given, s.given) ∷ []) xs refl k.gave)
    (value-typed t e s.given once s.was, tt)

-- named expressions that have their types, no name twice
IsFound : Ty → List NamedTree → Type 0
IsFound t xs = AreTyped t xs × (distinct_names (map (λ x. x.0) xs) ≡ true)

has-append : (g f : Bytes) (gs : List Bytes) → has_name g gs ≡ false → bytes_eq g f ≡ false → has_name g (gs ++ f ∷ []) ≡ false
has-append g f [] h k = ap (λ (b : Bool). b || false) k
has-append g f (e ∷ gs) h k =
    let parts = not-either (bytes_eq g e) (has_name g gs) h in
    ap (λ (b : Bool). b || has_name g (gs ++ f ∷ [])) parts.0 ∙ has-append g f gs parts.1 k

distinct-append : (f : Bytes) (gs : List Bytes) → distinct_names gs ≡ true → has_name f gs ≡ false → distinct_names (gs ++ f ∷ []) ≡ true
distinct-append f [] h k = refl
distinct-append f (g ∷ gs) h k =
    let parts = and_parts (not (has_name g gs)) (distinct_names gs) h in
    let own = not-either (bytes_eq f g) (has_name f gs) k in
    let new = has-append g f gs (not-has (has_name g gs) parts.0) (bytes_differ f g own.0) in
    ap (λ (b : Bool). not b && distinct_names (gs ++ f ∷ [])) new ∙ distinct-append f gs parts.1 own.1

added-typed : (t : Ty) (found xs all : List NamedTree) → IsFound t found → AreTyped t xs → added found xs ≡ Ok all → IsFound t all
unfolding AreTyped IsFound
added-typed t found [] all known typed h = subst (λ (z : List NamedTree). IsFound t z) (same_answer (Ok found) found all refl h) known
added-typed t found (x ∷ xs) all known typed h =
    let names = map (λ (y : NamedTree). y.0) found in
    let p = passed (not (has_name x.0 names)) (name_twice x.0) (added (found ++ x ∷ []) xs) all h in
    let distinct = distinct-append x.0 names known.1 (not-has (has_name x.0 names) p.holds) in
    added-typed t (found ++ x ∷ []) xs all
    (typed-append t found (x ∷ []) known.0 (typed.0, tt), ap distinct_names (map-append (λ (y : NamedTree). y.0) found (x ∷ [])) ∙ distinct) typed.1 p.gave

shown_behind-typed : (t : Ty) (found : List NamedTree) (ss : List Shown) (xs : List NamedTree) → no_name_twice t ≡ true → IsFound t found
    → shown_behind t found ss ≡ Ok xs → IsFound t xs
shown_behind-typed t found [] xs once known h = subst (λ (z : List NamedTree). IsFound t z) (same_answer (Ok found) found xs refl h) known
shown_behind-typed t found (s ∷ ss) xs once known h =
    let k = stepped (shown_at t (out-Shown s) >>= added found) (λ more. shown_behind t more ss) xs h in
    let m = stepped (shown_at t (out-Shown s)) (added found) k.given k.was in
    shown_behind-typed t k.given ss xs once (added-typed t found m.given k.given known (shown-typed t (out-Shown s) m.given once m.was) m.gave) k.gave

trees-typed : (t : Ty) (xs : List NamedTree) → AreTyped t xs → all_typed t (trees_of (map (λ x. x.1.tree) xs)) ≡ Ok (map (λ x. x.1.ty) xs)
unfolding AreTyped all_typed
trees-typed t [] typed = refl
trees-typed t (x ∷ xs) typed =
    ap (λ (r : _). and_then r (λ a. and_then (all_typed t (trees_of (map (λ y. y.1.tree) xs))) (λ ts. Ok (a ∷ ts)))) typed.0
    ∙ ap (λ (r : _). and_then r (λ ts. Ok (x.1.ty ∷ ts))) (trees-typed t xs typed.1)

as-many : (xs : List NamedTree) → nat_eq (length (map (λ x. x.0) xs)) (length (map (λ x. x.1.ty) xs)) ≡ true
as-many xs = eq-eqb (length (map (λ x. x.0) xs)) (length (map (λ x. x.1.ty) xs)) (length-map xs (λ x. x.0) ∙ sym (length-map xs (λ x. x.1.ty)))

packed-typed : (t : Ty) (xs : List NamedTree) → AreTyped t xs → distinct_names (map (λ x. x.0) xs) ≡ true → HasItsType t (packed xs)
unfolding typed_of
packed-typed t xs typed once =
    let names = map (λ (x : NamedTree). x.0) xs in
    let types = map (λ (x : NamedTree). x.1.ty) xs in
    let made = Ok (struct_ty (zipped names types) NonNullable) in
    ap (λ (r : _). and_then r (pack_type names NonNullable)) (trees-typed t xs typed)
    ∙ (ap (λ (b : Bool). unless_typed b duplicate_field (unless_typed (nat_eq (length names) (length types)) type_mismatch made)) once
    ∙ ap (λ (b : Bool). unless_typed b type_mismatch made) (as-many xs))

rows-typed : (t : Ty) (ss : List Shown) (x : TypedTree) → no_name_twice t ≡ true → rows_of t ss ≡ Ok x → HasItsType t x
unfolding rows_of AreTyped IsFound
rows-typed t ss x once h = by-star (is_star_alone ss) h where
  by-star : (b : Bool) → cond b (Ok (row_of t)) (shown_behind t [] ss >>= λ xs. Ok (packed xs)) ≡ Ok x → HasItsType t x
  by-star true k = subst (λ (z : TypedTree). HasItsType t z) (same_answer (Ok (row_of t)) (row_of t) x refl k) (row-typed t once)
  by-star false k =
      let s = stepped (shown_behind t [] ss) (λ xs. Ok (packed xs)) x k in
      let known = shown_behind-typed t [] ss s.given once (tt, refl) s.was in
      subst (λ (z : TypedTree). HasItsType t z) (same_answer (Ok (packed s.given)) (packed s.given) x refl s.gave) (packed-typed t s.given known.0 known.1)

-- ---- statements

filter-typed : (t : Ty) (e : Option Expr) (filter : Option TypedTree) → no_name_twice t ≡ true → filter_of t e ≡ Ok filter → FilterIsTest t filter
unfolding filter_of
filter-typed t None filter once h = subst (λ (z : Option TypedTree). FilterIsTest t z) (same_answer (Ok None) None filter refl h) tt
filter-typed t (Some e) filter once h =
    let s = stepped (refused_as in_where (condition_of t e)) (λ x. Ok (Some x)) filter h in
    subst (λ (z : Option TypedTree). FilterIsTest t z) (same_answer (Ok (Some s.given)) (Some s.given) filter refl s.gave)
    (conditions-typed t e s.given once (was_refused_as in_where (condition_of t e) s.given s.was))

-- what a plan names is typed
IsTypedPlan : Ty → Plan → Type 0
IsTypedPlan t p = FilterIsTest t p.filter × HasItsType t p.rows

clauses-typed : (t : Ty) (c : Core) (s : Select) (p : Plan) → no_name_twice t ≡ true → clauses_of t c s ≡ Ok p → IsTypedPlan t p
unfolding IsTypedPlan
clauses-typed t c s p once h =
    let from = stepped (table_of (out-Core c).from) (λ table. filter_of t (out-Core c).filter >>= λ filter. rows_of t (out-Core c).shown >>= λ rows.
    order_of t (out-Select s).order >>= λ order. limit_of (out-Select s).limit >>= λ limit.
    Ok (record { table = table; filter = filter; rows = rows; order = order; limit = limit })) p h in
    let kept = stepped (filter_of t (out-Core c).filter) (λ filter. rows_of t (out-Core c).shown >>= λ rows.
    order_of t (out-Select s).order >>= λ order. limit_of (out-Select s).limit >>= λ limit.
    Ok (record { table = from.given; filter = filter; rows = rows; order = order; limit = limit })) p from.gave in
    let shown = stepped (rows_of t (out-Core c).shown) (λ rows. order_of t (out-Select s).order >>= λ order. limit_of (out-Select s).limit >>= λ limit.
    Ok (record { table = from.given; filter = kept.given; rows = rows; order = order; limit = limit })) p kept.gave in
    let order = stepped (order_of t (out-Select s).order) (λ order. limit_of (out-Select s).limit >>= λ limit.
    Ok (record { table = from.given; filter = kept.given; rows = shown.given; order = order; limit = limit })) p shown.gave in
    let limit = stepped (limit_of (out-Select s).limit) (λ limit.
    Ok (record { table = from.given; filter = kept.given; rows = shown.given; order = order.given; limit = limit })) p order.gave in
    let plan : Plan = record { table = from.given; filter = kept.given; rows = shown.given; order = order.given; limit = limit.given } in
    subst (λ (z : Plan). IsTypedPlan t z) (same_answer (Ok plan) plan p refl limit.gave)
    (filter-typed t (out-Core c).filter kept.given once kept.was, rows-typed t (out-Core c).shown shown.given once shown.was)

select-typed : (t : Ty) (q : Parsed) (s : Select) (p : Plan) → no_name_twice t ≡ true → select_of t q s ≡ Ok p → IsTypedPlan t p
unfolding select_of
select-typed t q s p once h =
    let k = stepped (plain_select s) (λ _. without_parameters q >>= λ _. clauses_of t (out-Select s).first s) p h in
    let m = stepped (without_parameters q) (λ _. clauses_of t (out-Select s).first s) p k.gave in
    clauses-typed t (out-Select s).first s p once m.gave

read-typed : (t : Ty) (n : ℕ) (read : Result Parsed ParseError) (p : Plan) → no_name_twice t ≡ true → read_of t n read ≡ Ok p → IsTypedPlan t p
read-typed t n read p once h =
    let s = stepped (refused_as unread read) (parsed_of t n) p h in
    let k = stepped (selected s.given.statement) (λ z. unless (s.given.tail == n) (second_statement s.given.tail) (select_of t s.given z)) p s.gave in
    let q = passed (s.given.tail == n) (second_statement s.given.tail) (select_of t s.given k.given) p k.gave in
    select-typed t s.given k.given p once q.gave

pub plans-typed : PlansAreTyped
unfolding plan_of IsTypedPlan
plans-typed t text p once h = by-place (position (λ b. b == 0) text) h where
  by-place : (o : Option ℕ) → text_without_zero t text o ≡ Ok p → FilterIsTest t p.filter × HasItsType t p.rows
  by-place (Some place) k = let no : ⊥ = cc (k) in absurd no
  by-place None k = read-typed t (length text) (parse text) p once k
