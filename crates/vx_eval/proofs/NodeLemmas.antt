-- What a rule makes of the columns of a node's operands is what the node gives.
use Rattle.std.proofs.Common.{◌≡◌, ℕ, Bool, true, false, not, ◌&&◌, List, [], ◌∷◌, map, length, get_or, Result, Ok, Err, Some, None, refl, ap, sym, ◌∙◌, subst}
use Rattle.std.specs.Result.{is_ok}
use Rattle.std.specs.List.{list_all, list_any}
use Rattle.std.proofs.lemmas.Bool.{and_parts}
use Rattle.std.proofs.lemmas.Option.{same_Some}
use Rattle.std.proofs.Math.Bool.{and-false}
use Rattle.std.proofs.Math.ListN.{replicate}
use Rattle.std.proofs.lemmas.List.{map-id, length-map}
use Rattle.std.proofs.lemmas.Simd.{map-map, splat_is_map}
use Rattle.vx_dtype.specs.Types.{Bytes, Ty, bool_ty}
use Rattle.vx_dtype.specs.declared.Nullability.{Nullability}
use Rattle.vx_dtype.specs.declared.Nullability.TheVariants.{NonNullable}
use Rattle.vx_dtype.specs.declared.CompareOperator.{CompareOperator}
use Rattle.vx_dtype.specs.declared.BetweenOptions.{BetweenOptions}
use Rattle.vx_dtype.specs.Values.{Val, Typed, value_of}
use Rattle.vx_dtype.specs.Logic.{and3, or3, not3, is_null3}
use Rattle.vx_dtype.specs.Order.{compare3, between3}
use Rattle.vx_dtype.specs.Sums.{add3, sub3}
use Rattle.vx_dtype.specs.Casts.{cast3}
use Rattle.vx_dtype.specs.Like.{like3}
use Rattle.vx_dtype.specs.Lists.{contains3}
use Rattle.vx_dtype.specs.Structs.{field_of}
use Rattle.vx_expr.specs.declared.Operator.{Operator}
use Rattle.vx_expr.specs.declared.FieldSelection.{FieldSelection}
use Rattle.vx_expr.specs.Operators.{comparison_of}
use Rattle.vx_expr.specs.Trees.{Tree, root, literal, get_item, binary, not_of, is_null_of, like, between, cast, list_contains, pack, merge, select, dynamic}
use Rattle.vx_expr.specs.Trees.{Trees, no_trees, tree, trees_of}
use Rattle.vx_expr.specs.Slots.{slot_held}
use Rattle.vx_column.specs.Columns.{Column, zip_rows, zip_rows3}
use Rattle.vx_column.specs.StructColumns.{column_types}
use Rattle.vx_column.specs.Answers.{no_faults}
use Rattle.vx_column.specs.declared.columns.ColumnRef.{ColumnRef}
use Rattle.vx_semantics.specs.Typing.{Refusal, and_then, typed_of, distinct_type, literal_type, item_type, compare_type, logic_type, sum_type, binary_type}
use Rattle.vx_semantics.specs.Typing.{not_type, like_type, between_type, contains_type, cast_type, select_type, dynamic_type, pack_type, merge_type, all_typed, unless, type_mismatch}
use Rattle.vx_semantics.specs.Meaning.{Slots, mean, binary3, select3, dynamic3, slot_value}
use Rattle.vx_semantics.specs.Slots.{held_fits}
use Rattle.vx_semantics.specs.Breaks.{Cause, by_sum, by_cast, is_fault, is_cause, cause_where, break_of, breaks_by}
use Rattle.vx_semantics.specs.Nodes.{breaks_at_some}
use Rattle.vx_eval.specs.declared.errors.Failure.{Failure}
use Rattle.vx_eval.specs.declared.errors.Failure.TheVariants.{NoMemory, Mistyped, Overflow, BadCast}
use Rattle.vx_eval.specs.Meant.{IsMeant, AreMeant}
use Rattle.vx_typing.specs.OwnSlots.{own_slot_fits, dynamic_told}
use Rattle.vx_eval.specs.Steps.{Makes, MakesUnlessBroken, NodeGives}
use Rattle.vx_eval.proofs.FaultLemmas.{none_any, no_cause, none_broken, some_broken, no_faults_all, all_both}
use Rattle.vx_eval.proofs.RowLemmas.{zip_map, zip_map3}

module _ (t : Ty) (slots : Slots) (rows : List Val) where
  -- ---- operands by their places

  pub meant_first : (e : Tree) (es : Trees) (cs : List Column) (a : Column) → AreMeant t slots rows (tree e es) cs → a ≡ get_or cs 0 a → IsMeant t slots rows e a
  meant_first e es [] a h p = absurd h
  meant_first e es (c ∷ cs) a h p = subst (IsMeant t slots rows e) (sym p) (h.0, h.1)

  pub meant_second : (e d : Tree) (es : Trees) (cs : List Column) (a : Column) → AreMeant t slots rows (tree e (tree d es)) cs → a ≡ get_or cs 1 a → IsMeant t slots rows d a
  meant_second e d es [] a h p = absurd h
  meant_second e d es (c ∷ cs) a h p = meant_first d es cs a h.2 p

  pub meant_third : (e d f : Tree) (es : Trees) (cs : List Column) (a : Column) → AreMeant t slots rows (tree e (tree d (tree f es))) cs → a ≡ get_or cs 2 a → IsMeant t slots rows f a
  meant_third e d f es [] a h p = absurd h
  meant_third e d f es (c ∷ cs) a h p = meant_second d f es cs a h.2 p

  -- columns of meaning have as many rows as there are
  pub meant_rows : (e : Tree) (a : Column) → IsMeant t slots rows e a → length a.rows ≡ length rows
  meant_rows e a h = ap length h.1 ∙ length-map rows (λ row. mean t slots row e)

  pub same_rows : (e d : Tree) (a b : Column) → IsMeant t slots rows e a → IsMeant t slots rows d b → length a.rows ≡ length b.rows
  same_rows e d a b h k = meant_rows e a h ∙ sym (meant_rows d b k)

  -- ---- what a rule makes

  module _ (n : Tree) (told : Result Ty Refusal) (vs : List Val) (typed : typed_of t n ≡ told) (meant : vs ≡ map (λ row. mean t slots row n) rows) where
    -- a node that doesn't break gives what its rule makes
    pub given : own_slot_fits slots n ≡ true → ((row : Val) → break_of t slots row n ≡ None) → (r : Result ColumnRef Failure) → Makes told vs r → NodeGives t slots rows n r
    given s h (Ok c) m =
        let none : (d : Cause) → breaks_at_some d t slots rows n ≡ false = λ d. none_any (λ row. breaks_by d t slots row n) rows (λ row. ap (is_cause d) (h row) ∙ no_cause d) in
        ((typed ∙ m.0, m.1 ∙ meant), s, none by_sum, none by_cast)
    given s h (Err NoMemory) m = tt
    given s h (Err Mistyped) m = ap (λ o. is_ok o && own_slot_fits slots n) typed ∙ ap (λ b. b && own_slot_fits slots n) m
    given s h (Err Overflow) m = absurd m
    given s h (Err BadCast) m = absurd m

    module _ (c : Cause) (sound : Val → Bool) (ok : Bool) (s : own_slot_fits slots n ≡ true)
        (h : (row : Val) → break_of t slots row n ≡ cause_where (sound row) (mean t slots row n) c) (all_sound : ok ≡ true → list_all sound rows ≡ true) where
      by_cause : (d : Cause) → breaks_at_some d t slots rows n ≡ list_any (λ row. is_cause d (cause_where (sound row) (mean t slots row n) c)) rows
      by_cause d = λ i. list_any (λ row. is_cause d (h row i)) rows

      broken : (b : Bool) → ok ≡ true → no_faults vs ≡ false → breaks_at_some c t slots rows n ≡ true
      broken b e f = by_cause c ∙ some_broken c sound (λ row. mean t slots row n) rows (all_sound e) (ap no_faults (sym meant) ∙ f)

      -- one that breaks where a row is a fault and no operand is one gives what its rule makes unless it breaks
      pub given_unless_broken : (r : Result ColumnRef Failure) → MakesUnlessBroken c ok told vs r → NodeGives t slots rows n r
      given_unless_broken (Ok a) m =
          let none : (d : Cause) → breaks_at_some d t slots rows n ≡ false =
          λ d. by_cause d ∙ none_broken c sound (λ row. mean t slots row n) d rows (ap no_faults (sym meant) ∙ m.2) in
          ((typed ∙ m.0, m.1 ∙ meant), s, none by_sum, none by_cast)
      given_unless_broken (Err NoMemory) m = tt
      given_unless_broken (Err Mistyped) m = ap (λ o. is_ok o && own_slot_fits slots n) typed ∙ ap (λ b. b && own_slot_fits slots n) m
      given_unless_broken (Err Overflow) m = ap (λ d. breaks_at_some d t slots rows n) (sym m.0) ∙ broken true m.1.0 m.1.1
      given_unless_broken (Err BadCast) m = ap (λ d. breaks_at_some d t slots rows n) (sym m.0) ∙ broken true m.1.0 m.1.1

  -- ---- rows of operands that have their meaning

  one_row : (e : Tree) (a : Column) (f : Val → Val) → IsMeant t slots rows e a → map f a.rows ≡ map (λ row. f (mean t slots row e)) rows
  one_row e a f h = ap (map f) h.1 ∙ map-map f (λ row. mean t slots row e) rows

  two_rows : (e d : Tree) (a b : Column) (f : Val → Val → Val) → IsMeant t slots rows e a → IsMeant t slots rows d b → zip_rows f a.rows b.rows ≡ map (λ row. f (mean t slots row e) (mean t slots row d)) rows
  two_rows e d a b f h k = (λ i. zip_rows f (h.1 i) (k.1 i)) ∙ zip_map f (λ row. mean t slots row e) (λ row. mean t slots row d) rows

  two_types : (e d : Tree) (a b : Column) (rule : Ty → Ty → Result Ty Refusal) → IsMeant t slots rows e a → IsMeant t slots rows d b → and_then (typed_of t e) (λ u. and_then (typed_of t d) (rule u)) ≡ rule a.ty b.ty
  two_types e d a b rule h k = λ i. and_then (h.0 i) (λ u. and_then (k.0 i) (rule u))

  -- ---- a slot that doesn't fit

  itself : (told : Result Ty Refusal) → and_then told (λ v. Ok v) ≡ told
  itself (Ok u) = refl
  itself (Err r) = refl

  never : (told : Result Ty Refusal) (u : Ty) → and_then told (λ v. unless false type_mismatch (Ok v)) ≡ Ok u → ⊥
  never (Ok v) u e = cc
  never (Err r) u e = cc

  refused : (n : Tree) → own_slot_fits slots n ≡ false → (told : Result Ty Refusal) (vs : List Val) (r : Result ColumnRef Failure)
      → Makes (and_then told (λ v. unless false type_mismatch (Ok v))) vs r → NodeGives t slots rows n r
  refused n s told vs (Ok c) m = absurd (never told c.ty m.0)
  refused n s told vs (Err NoMemory) m = tt
  refused n s told vs (Err Mistyped) m = ap (λ b. is_ok (typed_of t n) && b) s ∙ and-false (is_ok (typed_of t n))
  refused n s told vs (Err Overflow) m = absurd m
  refused n s told vs (Err BadCast) m = absurd m

  -- ---- operands of a list

  types_of : (es : Trees) (cs : List Column) → AreMeant t slots rows es cs → all_typed t es ≡ Ok (column_types cs)
  unfolding typed_of
  types_of no_trees [] h = refl
  types_of no_trees (c ∷ cs) h = absurd h
  types_of (tree e es) [] h = absurd h
  types_of (tree e es) (c ∷ cs) h = λ i. and_then (h.0 i) (λ a. and_then (types_of es cs h.2 i) (λ ts. Ok (a ∷ ts)))

  module _ (es : List Tree) (cs : List Column) (nullability : Nullability) (r : Result ColumnRef Failure) (h : AreMeant t slots rows (trees_of es) cs) where
    pub pack_given : (names : List Bytes)
        → Makes (pack_type names nullability (column_types cs)) (map (λ row. mean t slots row (pack names (trees_of es) nullability)) rows) r
        → NodeGives t slots rows (pack names (trees_of es) nullability) r
    unfolding typed_of mean
    pack_given names m =
        given (pack names (trees_of es) nullability) (pack_type names nullability (column_types cs)) (map (λ row. mean t slots row (pack names (trees_of es) nullability)) rows)
        (ap (λ o. and_then o (pack_type names nullability)) (types_of (trees_of es) cs h)) refl refl (λ row. refl) r m

    pub merge_given : Makes (merge_type nullability (column_types cs)) (map (λ row. mean t slots row (merge (trees_of es) nullability)) rows) r
        → NodeGives t slots rows (merge (trees_of es) nullability) r
    unfolding typed_of mean
    merge_given m =
        given (merge (trees_of es) nullability) (merge_type nullability (column_types cs)) (map (λ row. mean t slots row (merge (trees_of es) nullability)) rows)
        (ap (λ o. and_then o (merge_type nullability)) (types_of (trees_of es) cs h)) refl refl (λ row. refl) r m

  -- ---- each kind

  pub root_given : (r : Result ColumnRef Failure) → Makes (distinct_type t) rows r → NodeGives t slots rows root r
  unfolding typed_of mean
  root_given r m = given root (distinct_type t) rows refl (sym (map-id rows)) refl (λ row. refl) r m

  pub literal_given : (s : Typed) (len : ℕ) (r : Result ColumnRef Failure) → length rows ≡ len → Makes (literal_type s) (replicate len (value_of s)) r → NodeGives t slots rows (literal s) r
  unfolding typed_of mean
  literal_given s len r e m = given (literal s) (literal_type s) (replicate len (value_of s)) refl (splat_is_map rows len (value_of s) e) refl (λ row. refl) r m

  module _ (e : Tree) (a : Column) (r : Result ColumnRef Failure) (h : IsMeant t slots rows e a) where
    one_type : (rule : Ty → Result Ty Refusal) → and_then (typed_of t e) rule ≡ rule a.ty
    one_type rule = ap (λ o. and_then o rule) h.0

    pub item_given : (f : Bytes) → Makes (item_type f a.ty) (map (field_of f) a.rows) r → NodeGives t slots rows (get_item f e) r
    unfolding typed_of mean
    item_given f m = given (get_item f e) (item_type f a.ty) (map (field_of f) a.rows) (one_type (item_type f)) (one_row e a (field_of f) h) refl (λ row. refl) r m

    pub not_given : Makes (not_type a.ty) (map not3 a.rows) r → NodeGives t slots rows (not_of e) r
    unfolding typed_of mean
    not_given m = given (not_of e) (not_type a.ty) (map not3 a.rows) (one_type not_type) (one_row e a not3 h) refl (λ row. refl) r m

    pub is_null_given : Makes (Ok (bool_ty NonNullable)) (map is_null3 a.rows) r → NodeGives t slots rows (is_null_of e) r
    unfolding typed_of mean
    is_null_given m =
        given (is_null_of e) (Ok (bool_ty NonNullable)) (map is_null3 a.rows) (one_type (λ u. Ok (bool_ty NonNullable))) (one_row e a is_null3 h) refl (λ row. refl) r m

    pub select_given : (s : FieldSelection) → Makes (select_type s a.ty) (map (select3 s) a.rows) r → NodeGives t slots rows (select s e) r
    unfolding typed_of mean
    select_given s m = given (select s e) (select_type s a.ty) (map (select3 s) a.rows) (one_type (select_type s)) (one_row e a (select3 s) h) refl (λ row. refl) r m

    pub cast_given : (u : Ty) → MakesUnlessBroken by_cast (no_faults a.rows) (cast_type u a.ty) (map (cast3 u) a.rows) r → NodeGives t slots rows (cast e u) r
    unfolding typed_of mean
    cast_given u m =
        given_unless_broken (cast e u) (cast_type u a.ty) (map (cast3 u) a.rows) (one_type (cast_type u)) (one_row e a (cast3 u) h)
        by_cast (λ row. not (is_fault (mean t slots row e))) (no_faults a.rows) refl (λ row. refl)
        (λ sound. sym (no_faults_all (λ row. mean t slots row e) rows) ∙ ap no_faults (sym h.1) ∙ sound) r m

    -- a comparison with a slot asks also that the slot fits
    fitting : (op : CompareOperator) (k : ℕ) (u : Ty) (default : Bool) (b : Bool) → held_fits (slot_held slots k) u ≡ b
        → Makes (and_then (dynamic_type u a.ty) (λ v. unless b type_mismatch (Ok v))) (map (λ v. dynamic3 op default v (slot_value slots k)) a.rows) r
        → NodeGives t slots rows (dynamic e op k u default) r
    unfolding typed_of mean
    fitting op k u default true fit m =
        given (dynamic e op k u default) (and_then (dynamic_type u a.ty) (λ v. Ok v)) (map (λ v. dynamic3 op default v (slot_value slots k)) a.rows)
        (one_type (dynamic_type u) ∙ sym (itself (dynamic_type u a.ty))) (one_row e a (λ v. dynamic3 op default v (slot_value slots k)) h) fit (λ row. refl) r m
    fitting op k u default false fit m = refused (dynamic e op k u default) fit (dynamic_type u a.ty) (map (λ v. dynamic3 op default v (slot_value slots k)) a.rows) r m

    pub dynamic_given : (op : CompareOperator) (k : ℕ) (u : Ty) (default : Bool)
        → Makes (dynamic_told u a.ty (slot_held slots k)) (map (λ v. dynamic3 op default v (slot_value slots k)) a.rows) r → NodeGives t slots rows (dynamic e op k u default) r
    dynamic_given op k u default m = fitting op k u default (held_fits (slot_held slots k) u) refl m

  module _ (d e : Tree) (a b : Column) (r : Result ColumnRef Failure) (h : IsMeant t slots rows d a) (k : IsMeant t slots rows e b) where
    pub like_given : (negated fold_case : Bool) → Makes (like_type a.ty b.ty) (zip_rows (like3 negated fold_case) a.rows b.rows) r → NodeGives t slots rows (like d e negated fold_case) r
    unfolding typed_of mean
    like_given negated fold_case m =
        given (like d e negated fold_case) (like_type a.ty b.ty) (zip_rows (like3 negated fold_case) a.rows b.rows) (two_types d e a b like_type h k)
        (two_rows d e a b (like3 negated fold_case) h k) refl (λ row. refl) r m

    pub contains_given : Makes (contains_type a.ty b.ty) (zip_rows contains3 a.rows b.rows) r → NodeGives t slots rows (list_contains d e) r
    unfolding typed_of mean
    contains_given m =
        given (list_contains d e) (contains_type a.ty b.ty) (zip_rows contains3 a.rows b.rows) (two_types d e a b contains_type h k) (two_rows d e a b contains3 h k) refl (λ row. refl) r m

    pub between_given : (options : BetweenOptions) (f : Tree) (c : Column) → IsMeant t slots rows f c
        → Makes (between_type a.ty b.ty c.ty) (zip_rows3 (between3 options) a.rows b.rows c.rows) r → NodeGives t slots rows (between d e f options) r
    unfolding typed_of mean
    between_given options f c q m =
        given (between d e f options) (between_type a.ty b.ty c.ty) (zip_rows3 (between3 options) a.rows b.rows c.rows)
        (λ i. and_then (h.0 i) (λ x. and_then (k.0 i) (λ y. and_then (q.0 i) (between_type x y))))
        ((λ i. zip_rows3 (between3 options) (h.1 i) (k.1 i) (q.1 i)) ∙ zip_map3 (between3 options) (λ row. mean t slots row d) (λ row. mean t slots row e) (λ row. mean t slots row f) rows)
        refl (λ row. refl) r m

    -- operators that don't break
    two_given : (op : Operator) → ((row : Val) → break_of t slots row (binary d op e) ≡ None)
        → Makes (binary_type op a.ty b.ty) (zip_rows (binary3 op) a.rows b.rows) r → NodeGives t slots rows (binary d op e) r
    unfolding typed_of mean
    two_given op none m =
        given (binary d op e) (binary_type op a.ty b.ty) (zip_rows (binary3 op) a.rows b.rows) (two_types d e a b (binary_type op) h k) (two_rows d e a b (binary3 op) h k) refl none r m

    pub and_given : Makes (logic_type a.ty b.ty) (zip_rows and3 a.rows b.rows) r → NodeGives t slots rows (binary d Operator.And e) r
    and_given m = two_given Operator.And (λ row. refl) m

    pub or_given : Makes (logic_type a.ty b.ty) (zip_rows or3 a.rows b.rows) r → NodeGives t slots rows (binary d Operator.Or e) r
    or_given m = two_given Operator.Or (λ row. refl) m

    pub compare_given : (op : Operator) (c : CompareOperator) → Some c ≡ comparison_of op
        → Makes (compare_type a.ty b.ty) (zip_rows (compare3 c) a.rows b.rows) r → NodeGives t slots rows (binary d op e) r
    compare_given Operator.Eq c is m = two_given Operator.Eq (λ row. refl) (rw (same_Some c _ is) at m)
    compare_given Operator.NotEq c is m = two_given Operator.NotEq (λ row. refl) (rw (same_Some c _ is) at m)
    compare_given Operator.Gt c is m = two_given Operator.Gt (λ row. refl) (rw (same_Some c _ is) at m)
    compare_given Operator.Gte c is m = two_given Operator.Gte (λ row. refl) (rw (same_Some c _ is) at m)
    compare_given Operator.Lt c is m = two_given Operator.Lt (λ row. refl) (rw (same_Some c _ is) at m)
    compare_given Operator.Lte c is m = two_given Operator.Lte (λ row. refl) (rw (same_Some c _ is) at m)
    compare_given Operator.And c is m = absurd cc
    compare_given Operator.Or c is m = absurd cc
    compare_given Operator.Add c is m = absurd cc
    compare_given Operator.Sub c is m = absurd cc

    -- operators that break
    both_sound : (no_faults a.rows && no_faults b.rows) ≡ true → list_all (λ row. not (is_fault (mean t slots row d)) && not (is_fault (mean t slots row e))) rows ≡ true
    both_sound sound =
        let s = and_parts (no_faults a.rows) (no_faults b.rows) sound in
        all_both (λ row. not (is_fault (mean t slots row d))) (λ row. not (is_fault (mean t slots row e))) rows
        (sym (no_faults_all (λ row. mean t slots row d) rows) ∙ ap no_faults (sym h.1) ∙ s.0) (sym (no_faults_all (λ row. mean t slots row e) rows) ∙ ap no_faults (sym k.1) ∙ s.1)

    pub add_given : MakesUnlessBroken by_sum (no_faults a.rows && no_faults b.rows) (sum_type a.ty b.ty) (zip_rows add3 a.rows b.rows) r → NodeGives t slots rows (binary d Operator.Add e) r
    unfolding typed_of mean
    add_given m =
        given_unless_broken (binary d Operator.Add e) (sum_type a.ty b.ty) (zip_rows add3 a.rows b.rows) (two_types d e a b sum_type h k) (two_rows d e a b add3 h k)
        by_sum (λ row. not (is_fault (mean t slots row d)) && not (is_fault (mean t slots row e))) (no_faults a.rows && no_faults b.rows) refl (λ row. refl) both_sound r m

    pub sub_given : MakesUnlessBroken by_sum (no_faults a.rows && no_faults b.rows) (sum_type a.ty b.ty) (zip_rows sub3 a.rows b.rows) r → NodeGives t slots rows (binary d Operator.Sub e) r
    unfolding typed_of mean
    sub_given m =
        given_unless_broken (binary d Operator.Sub e) (sum_type a.ty b.ty) (zip_rows sub3 a.rows b.rows) (two_types d e a b sum_type h k) (two_rows d e a b sub3 h k)
        by_sum (λ row. not (is_fault (mean t slots row d)) && not (is_fault (mean t slots row e))) (no_faults a.rows && no_faults b.rows) refl (λ row. refl) both_sound r m
