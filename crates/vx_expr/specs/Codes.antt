-- For the checker: no public clause cites this.
-- A code of expressions: by it the checker tells the expressions that are seen apart.
use Rattle.std.proofs.Common.{◌≡◌, ℕ, zero, suc, false, eqb, List, refl, ap, arith}
use Rattle.std.proofs.lemmas.Bool.Decides.{nat_tests}
use Rattle.std.specs.Coded.{Coded, code_by, coded_ℕ, coded_bool, coded_list, coded×}
use Rattle.std.specs.Option.{unwrap_or, option_and_then}
use base.Stored.{Gv, gnil, gnum, gcons}
use Rattle.vx_dtype.specs.declared.Nullability.{Nullability}
use Rattle.vx_dtype.specs.declared.CompareOperator.{CompareOperator}
use Rattle.vx_dtype.specs.declared.StrictComparison.{StrictComparison}
use Rattle.vx_dtype.specs.declared.BetweenOptions.{BetweenOptions}
use Rattle.vx_dtype.specs.Types.{Bytes}
use Rattle.vx_dtype.specs.Codes.{coded_bytes, coded_null, coded_ty}
use Rattle.vx_dtype.specs.ValueCodes.{coded_typed}
use Rattle.vx_expr.specs.declared.operators.Operator.{Operator}
use Rattle.vx_expr.specs.declared.selections.FieldSelection.{FieldSelection}
use Rattle.vx_expr.specs.Operators.{operator_number, operator_numbered, operator_of, comparison_of}
use Rattle.vx_expr.specs.Trees.{Tree, root, literal, get_item, binary, not_of, is_null_of, like, between}
use Rattle.vx_expr.specs.Trees.{cast, list_contains, pack, merge, select, dynamic, Trees, no_trees, tree}
use Rattle.vx_expr.specs.Packed.{Packed}

-- the operator of a number, `-` beyond the last
abbrev pub operator_at : ℕ → Operator
operator_at n = unwrap_or (operator_numbered n) Operator.Sub

pub operator_at-number : (op : Operator) → operator_at (operator_number op) ≡ op
operator_at-number Operator.Eq = refl
operator_at-number Operator.NotEq = refl
operator_at-number Operator.Gt = refl
operator_at-number Operator.Gte = refl
operator_at-number Operator.Lt = refl
operator_at-number Operator.Lte = refl
operator_at-number Operator.And = refl
operator_at-number Operator.Or = refl
operator_at-number Operator.Add = refl
operator_at-number Operator.Sub = refl

abbrev pub coded_operator : Coded Operator
coded_operator = code_by ℕ coded_ℕ operator_number operator_at operator_at-number

-- the number of a comparison, that of its operator
abbrev pub comparison_number : CompareOperator → ℕ
comparison_number op = operator_number (operator_of op)

-- the comparison of a number, `<=` beyond the last
abbrev pub comparison_at : ℕ → CompareOperator
comparison_at n = unwrap_or (option_and_then comparison_of (operator_numbered n)) CompareOperator.Lte

pub comparison_at-number : (op : CompareOperator) → comparison_at (comparison_number op) ≡ op
comparison_at-number CompareOperator.Eq = refl
comparison_at-number CompareOperator.NotEq = refl
comparison_at-number CompareOperator.Gt = refl
comparison_at-number CompareOperator.Gte = refl
comparison_at-number CompareOperator.Lt = refl
comparison_at-number CompareOperator.Lte = refl

abbrev pub coded_comparison : Coded CompareOperator
coded_comparison = code_by ℕ coded_ℕ comparison_number comparison_at comparison_at-number

-- the number of a strictness
abbrev pub strictness_number : StrictComparison → ℕ
strictness_number StrictComparison.Strict = 0
strictness_number StrictComparison.NonStrict = 1

-- the strictness of a number, not strict beyond the last
abbrev pub strictness_at : ℕ → StrictComparison
strictness_at zero = StrictComparison.Strict
strictness_at (suc n) = StrictComparison.NonStrict

pub strictness_at-number : (s : StrictComparison) → strictness_at (strictness_number s) ≡ s
strictness_at-number StrictComparison.Strict = refl
strictness_at-number StrictComparison.NonStrict = refl

abbrev pub coded_strictness : Coded StrictComparison
coded_strictness = code_by ℕ coded_ℕ strictness_number strictness_at strictness_at-number

abbrev pub coded_options : Coded BetweenOptions
coded_options =
    code_by (StrictComparison × StrictComparison) (coded× coded_strictness coded_strictness) (λ o. (o.lower_strict, o.upper_strict))
    (λ p. record { lower_strict = p.0; upper_strict = p.1 }) (λ _. refl)

abbrev pub coded_names : Coded (List Bytes)
coded_names = coded_list coded_bytes

abbrev pub selection_code : FieldSelection → Gv
selection_code (FieldSelection.Include fs) = gcons gnil (coded_names.code fs)
selection_code (FieldSelection.Exclude fs) = gcons (gcons gnil gnil) (coded_names.code fs)

pub selection_code_inj : (s t : FieldSelection) → selection_code s ≡ selection_code t → s ≡ t
selection_code_inj (FieldSelection.Include fs) (FieldSelection.Include gs) p =
    let a : coded_names.code fs ≡ coded_names.code gs = cc in
    ap FieldSelection.Include (coded_names.inj fs gs a)
selection_code_inj (FieldSelection.Exclude fs) (FieldSelection.Exclude gs) p =
    let a : coded_names.code fs ≡ coded_names.code gs = cc in
    ap FieldSelection.Exclude (coded_names.inj fs gs a)
selection_code_inj _ _ p = cc

abbrev pub coded_selection : Coded FieldSelection
coded_selection = record { code = selection_code; inj = selection_code_inj }

-- the number of the kind, and the codes of the parts
abbrev mutual
  pub tree_code : Tree → Gv
  tree_code root = gcons (gnum 0) gnil
  tree_code (literal s) = gcons (gnum 1) (coded_typed.code s)
  tree_code (get_item f e) = gcons (gnum 2) (gcons (coded_bytes.code f) (tree_code e))
  tree_code (binary l op r) = gcons (gnum 3) (gcons (tree_code l) (gcons (coded_operator.code op) (tree_code r)))
  tree_code (not_of e) = gcons (gnum 4) (tree_code e)
  tree_code (is_null_of e) = gcons (gnum 5) (tree_code e)
  tree_code (like e p negated fold_case) = gcons (gnum 6)
      (gcons (tree_code e) (gcons (tree_code p) (gcons (coded_bool.code negated) (coded_bool.code fold_case))))
  tree_code (between e lower upper options) = gcons (gnum 7)
      (gcons (tree_code e) (gcons (tree_code lower) (gcons (tree_code upper) (coded_options.code options))))
  tree_code (cast e t) = gcons (gnum 8) (gcons (tree_code e) (coded_ty.code t))
  tree_code (list_contains l v) = gcons (gnum 9) (gcons (tree_code l) (tree_code v))
  tree_code (pack names es n) = gcons (gnum 10) (gcons (coded_names.code names) (gcons (trees_code es) (coded_null.code n)))
  tree_code (merge es n) = gcons (gnum 11) (gcons (trees_code es) (coded_null.code n))
  tree_code (select s e) = gcons (gnum 12) (gcons (selection_code s) (tree_code e))
  tree_code (dynamic e op k t default) = gcons (gnum 13)
      (gcons (tree_code e) (gcons (coded_comparison.code op) (gcons (coded_ℕ.code k) (gcons (coded_ty.code t) (coded_bool.code default)))))

  pub trees_code : Trees → Gv
  trees_code no_trees = gnil
  trees_code (tree e es) = gcons (tree_code e) (trees_code es)

-- the number that a code begins with
abbrev pub first_number : Gv → ℕ
first_number (gcons (gnum k) parts) = k
first_number _ = 0

pub apart : (m n : ℕ) → eqb m n ≡ false → m ≡ n → ⊥
apart m n differ same = absurd (grind (arith, nat_tests))

mutual
  pub tree_code_inj : (s t : Tree) → tree_code s ≡ tree_code t → s ≡ t
  tree_code_inj root root p = refl
  tree_code_inj (literal s) (literal t) p =
      let a : coded_typed.code s ≡ coded_typed.code t = cc in
      ap literal (coded_typed.inj s t a)
  tree_code_inj (get_item f e) (get_item g d) p =
      let a : coded_bytes.code f ≡ coded_bytes.code g = cc in
      let b : tree_code e ≡ tree_code d = cc in
      λ i. get_item (coded_bytes.inj f g a i) (tree_code_inj e d b i)
  tree_code_inj (binary l op r) (binary k oq q) p =
      let a : tree_code l ≡ tree_code k = cc in
      let b : coded_operator.code op ≡ coded_operator.code oq = cc in
      let c : tree_code r ≡ tree_code q = cc in
      λ i. binary (tree_code_inj l k a i) (coded_operator.inj op oq b i) (tree_code_inj r q c i)
  tree_code_inj (not_of e) (not_of d) p =
      let a : tree_code e ≡ tree_code d = cc in
      ap not_of (tree_code_inj e d a)
  tree_code_inj (is_null_of e) (is_null_of d) p =
      let a : tree_code e ≡ tree_code d = cc in
      ap is_null_of (tree_code_inj e d a)
  tree_code_inj (like e s m k) (like d t n j) p =
      let a : tree_code e ≡ tree_code d = cc in
      let b : tree_code s ≡ tree_code t = cc in
      let c : coded_bool.code m ≡ coded_bool.code n = cc in
      let o : coded_bool.code k ≡ coded_bool.code j = cc in
      λ i. like (tree_code_inj e d a i) (tree_code_inj s t b i) (coded_bool.inj m n c i) (coded_bool.inj k j o i)
  tree_code_inj (between e l u o) (between d k v q) p =
      let a : tree_code e ≡ tree_code d = cc in
      let b : tree_code l ≡ tree_code k = cc in
      let c : tree_code u ≡ tree_code v = cc in
      let f : coded_options.code o ≡ coded_options.code q = cc in
      λ i. between (tree_code_inj e d a i) (tree_code_inj l k b i) (tree_code_inj u v c i) (coded_options.inj o q f i)
  tree_code_inj (cast e t) (cast d u) p =
      let a : tree_code e ≡ tree_code d = cc in
      let b : coded_ty.code t ≡ coded_ty.code u = cc in
      λ i. cast (tree_code_inj e d a i) (coded_ty.inj t u b i)
  tree_code_inj (list_contains l v) (list_contains k w) p =
      let a : tree_code l ≡ tree_code k = cc in
      let b : tree_code v ≡ tree_code w = cc in
      λ i. list_contains (tree_code_inj l k a i) (tree_code_inj v w b i)
  tree_code_inj (pack fs es n) (pack gs ds m) p =
      let a : coded_names.code fs ≡ coded_names.code gs = cc in
      let b : trees_code es ≡ trees_code ds = cc in
      let c : coded_null.code n ≡ coded_null.code m = cc in
      λ i. pack (coded_names.inj fs gs a i) (trees_code_inj es ds b i) (coded_null.inj n m c i)
  tree_code_inj (merge es n) (merge ds m) p =
      let b : trees_code es ≡ trees_code ds = cc in
      let c : coded_null.code n ≡ coded_null.code m = cc in
      λ i. merge (trees_code_inj es ds b i) (coded_null.inj n m c i)
  tree_code_inj (select s e) (select t d) p =
      let a : selection_code s ≡ selection_code t = cc in
      let b : tree_code e ≡ tree_code d = cc in
      λ i. select (selection_code_inj s t a i) (tree_code_inj e d b i)
  tree_code_inj (dynamic e op k t default) (dynamic d oq j u answer) p =
      let a : tree_code e ≡ tree_code d = cc in
      let b : coded_comparison.code op ≡ coded_comparison.code oq = cc in
      let c : coded_ℕ.code k ≡ coded_ℕ.code j = cc in
      let f : coded_ty.code t ≡ coded_ty.code u = cc in
      let g : coded_bool.code default ≡ coded_bool.code answer = cc in
      λ i. dynamic (tree_code_inj e d a i) (coded_comparison.inj op oq b i) (coded_ℕ.inj k j c i) (coded_ty.inj t u f i) (coded_bool.inj default answer g i)
  tree_code_inj s t p = absurd (apart (first_number (tree_code s)) (first_number (tree_code t)) refl (ap first_number p))

  pub trees_code_inj : (es ds : Trees) → trees_code es ≡ trees_code ds → es ≡ ds
  trees_code_inj no_trees no_trees p = refl
  trees_code_inj (tree e es) (tree d ds) p =
      let a : tree_code e ≡ tree_code d = cc in
      let b : trees_code es ≡ trees_code ds = cc in
      λ i. tree (tree_code_inj e d a i) (trees_code_inj es ds b i)
  trees_code_inj _ _ p = cc

abbrev pub coded_tree : Coded Tree
coded_tree = record { code = tree_code; inj = tree_code_inj }

abbrev pub coded_packed : Coded Packed
coded_packed =
    code_by (List Bytes × (List Tree × Nullability)) (coded× coded_names (coded× (coded_list coded_tree) coded_null))
    (λ p. (p.names, (p.values, p.nullability))) (λ q. record { names = q.0; values = q.1.0; nullability = q.1.1 }) (λ _. refl)
