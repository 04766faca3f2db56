-- Which nodes break by which cause.
use Rattle.std.proofs.Common.{◌≡◌, refl, Bool, true, false, cond, not, ◌&&◌, ◌||◌, List, [], ◌∷◌, Some, None, Result, Ok, Err}
use Rattle.std.specs.List.{list_any}
use Rattle.std.proofs.lemmas.Bool.{false≢true, or_left}
use Rattle.vx_dtype.specs.Types.{Ty, Fields}
use Rattle.vx_dtype.specs.Values.{Val}
use Rattle.vx_expr.specs.declared.Operator.{Operator}
use Rattle.vx_expr.specs.Trees.{Tree, root, literal, get_item, binary, not_of, is_null_of, like, between, cast, list_contains, pack, merge, select, dynamic}
use Rattle.vx_column.specs.declared.columns.ColumnRef.{ColumnRef}
use Rattle.vx_semantics.specs.Tables.{row_type}
use Rattle.vx_semantics.specs.Meaning.{Slots, mean}
use Rattle.vx_semantics.specs.Breaks.{by_sum, by_cast, is_cause, is_fault, breaks_by}
use Rattle.vx_semantics.specs.Asked.{asked_nodes}
use Rattle.vx_eval.specs.declared.errors.EvalError.{EvalError}
use Rattle.vx_eval.specs.declared.errors.EvalError.TheVariants.{NoMemory, Typing, Overflow, BadCast}
use Rattle.vx_prepare.specs.Preparing.{is_sum, is_cast, EvaluatesAsked, HasCauseIn}

first_or : (a b c d : Bool) → (a ≡ true → c ≡ true) → (b ≡ true → d ≡ true) → (a || b) ≡ true → (c || d) ≡ true
first_or true b c d f g h = or_left c d (f refl)
first_or false b true d f g h = refl
first_or false b false d f g h = g h

any_weaker : {A : Type 0} (p q : A → Bool) → ((x : A) → p x ≡ true → q x ≡ true) → (xs : List A) → list_any p xs ≡ true → list_any q xs ≡ true
any_weaker p q so [] h = h
any_weaker p q so (x ∷ xs) h = first_or (p x) (list_any p xs) (q x) (list_any q xs) (so x) (any_weaker p q so xs) h

some_row : {A : Type 0} (p : A → Bool) (c : Bool) → ((x : A) → p x ≡ true → c ≡ true) → (xs : List A) → list_any p xs ≡ true → c ≡ true
some_row p c so [] h = absurd (false≢true h)
some_row p c so (x ∷ xs) h = either (p x) c (list_any p xs) (so x) (some_row p c so xs) h
  where
    either : (a c b : Bool) → (a ≡ true → c ≡ true) → (b ≡ true → c ≡ true) → (a || b) ≡ true → c ≡ true
    either true c b f g h = f refl
    either false c b f g h = g h

no_sum : (b : Bool) → is_cause by_sum (cond b (Some by_cast) None) ≡ true → ⊥
no_sum true h = false≢true h
no_sum false h = false≢true h

no_cast : (b : Bool) → is_cause by_cast (cond b (Some by_sum) None) ≡ true → ⊥
no_cast true h = false≢true h
no_cast false h = false≢true h

module _ (t : Ty) (slots : Slots) (row : Val) where
  sums : (n : Tree) → breaks_by by_sum t slots row n ≡ true → is_sum n ≡ true
  sums root h = h
  sums (literal s) h = h
  sums (get_item f e) h = h
  sums (binary l Operator.Eq r) h = h
  sums (binary l Operator.NotEq r) h = h
  sums (binary l Operator.Gt r) h = h
  sums (binary l Operator.Gte r) h = h
  sums (binary l Operator.Lt r) h = h
  sums (binary l Operator.Lte r) h = h
  sums (binary l Operator.And r) h = h
  sums (binary l Operator.Or r) h = h
  sums (binary l Operator.Add r) h = refl
  sums (binary l Operator.Sub r) h = refl
  sums (not_of e) h = h
  sums (is_null_of e) h = h
  sums (like e p negated fold_case) h = h
  sums (between e lower upper options) h = h
  sums (cast e target) h = absurd (no_sum (not (is_fault (mean t slots row e)) && is_fault (mean t slots row (cast e target))) h)
  sums (list_contains l v) h = h
  sums (pack names es n) h = h
  sums (merge es n) h = h
  sums (select s e) h = h
  sums (dynamic e op k slot default) h = h

  casts : (n : Tree) → breaks_by by_cast t slots row n ≡ true → is_cast n ≡ true
  casts root h = h
  casts (literal s) h = h
  casts (get_item f e) h = h
  casts (binary l Operator.Eq r) h = h
  casts (binary l Operator.NotEq r) h = h
  casts (binary l Operator.Gt r) h = h
  casts (binary l Operator.Gte r) h = h
  casts (binary l Operator.Lt r) h = h
  casts (binary l Operator.Lte r) h = h
  casts (binary l Operator.And r) h = h
  casts (binary l Operator.Or r) h = h
  casts (binary l Operator.Add r) h =
      absurd (no_cast ((not (is_fault (mean t slots row l)) && not (is_fault (mean t slots row r))) && is_fault (mean t slots row (binary l Operator.Add r))) h)
  casts (binary l Operator.Sub r) h =
      absurd (no_cast ((not (is_fault (mean t slots row l)) && not (is_fault (mean t slots row r))) && is_fault (mean t slots row (binary l Operator.Sub r))) h)
  casts (not_of e) h = h
  casts (is_null_of e) h = h
  casts (like e p negated fold_case) h = h
  casts (between e lower upper options) h = h
  casts (cast e target) h = refl
  casts (list_contains l v) h = h
  casts (pack names es n) h = h
  casts (merge es n) h = h
  casts (select s e) h = h
  casts (dynamic e op k slot default) h = h

-- a refusal has its cause in an asked node
pub cause_in : (fs : Fields) (slots : Slots) (e : Tree) (u : Ty) (rows : List Val) (r : Result ColumnRef EvalError) → EvaluatesAsked fs slots e u rows r → HasCauseIn (asked_nodes (row_type fs) e) r
cause_in fs slots e u rows (Ok c) h = tt
cause_in fs slots e u rows (Err Overflow) h =
    some_row (λ row. list_any (breaks_by by_sum (row_type fs) slots row) (asked_nodes (row_type fs) e)) (list_any is_sum (asked_nodes (row_type fs) e))
    (λ row here. any_weaker (breaks_by by_sum (row_type fs) slots row) is_sum (sums (row_type fs) slots row) (asked_nodes (row_type fs) e) here) rows h
cause_in fs slots e u rows (Err BadCast) h =
    some_row (λ row. list_any (breaks_by by_cast (row_type fs) slots row) (asked_nodes (row_type fs) e)) (list_any is_cast (asked_nodes (row_type fs) e))
    (λ row here. any_weaker (breaks_by by_cast (row_type fs) slots row) is_cast (casts (row_type fs) slots row) (asked_nodes (row_type fs) e) here) rows h
cause_in fs slots e u rows (Err NoMemory) h = tt
cause_in fs slots e u rows (Err (Typing r)) h = h
