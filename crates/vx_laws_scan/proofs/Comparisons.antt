-- Comparisons and ranges of operands are exact.
use Rattle.std.proofs.Common.{◌≡◌, ℕ, refl, ap, sym, ◌∙◌, Bool, true, false, ◌&&◌, ◌||◌, Option, Some, subst, Ok, ⊎_elim}
use Rattle.std.specs.Prelude.{is_some}
use Rattle.std.specs.declared.cmp.Ordering.TheVariants.{Equal}
use Rattle.std.proofs.lemmas.Bool.{and_parts, and_cases, or_parts}
use Rattle.vx_dtype.specs.declared.CompareOperator.{CompareOperator}
use Rattle.vx_dtype.specs.declared.CompareOperator.TheVariants.{Eq, NotEq, Gt, Gte, Lt, Lte}
use Rattle.vx_dtype.specs.declared.BetweenOptions.{BetweenOptions}
use Rattle.vx_dtype.specs.declared.Stat.TheVariants.{Min, Max}
use Rattle.vx_dtype.specs.Types.{Ty, bool_ty, int_ty, text_ty, list_ty, struct_ty}
use Rattle.vx_dtype.specs.TypeRules.{same_ptype, alike, is_plain, nullability_of, union}
use Rattle.vx_dtype.specs.Values.{Raw, Val, valued}
use Rattle.vx_dtype.specs.Fits.{fits}
use Rattle.vx_dtype.specs.Logic.{not3, is_true_val, is_null_val}
use Rattle.vx_dtype.specs.Order.{order, compare3, bound_operator, compares}
use Rattle.vx_expr.specs.declared.Operator.{Operator}
use Rattle.vx_expr.specs.Trees.{Tree, binary, not_of, between}
use Rattle.vx_expr.specs.Operators.{inverse_comparison, operator_of, range_as_binary}
use Rattle.vx_semantics.specs.Typing.{and_then, equal_plain, compare_type, binary_type, not_type, between_type, union_of, typed_of}
use Rattle.vx_semantics.specs.Meaning.{Slots, mean}
use Rattle.vx_semantics.specs.Tables.{Zones, row_type}
use Rattle.vx_semantics.specs.Pruning.{known_bound, known_compare, comparison_ruled_out, rules_out, rules_out_negation}
use Rattle.vx_semantics.specs.Instances.{without_ranges, IsReplaced}
use Rattle.vx_laws.proofs.Inverting.{and_then-ok, Ok-same}
use Rattle.vx_laws.proofs.Comparing.{same_ptype-same, binary3-operator_of, not3-compare3}
use Rattle.vx_laws.proofs.Fitting.{same_ptype-itself, valued-fits}
use Rattle.vx_laws.proofs.Preserving.{one_test}
use Rattle.vx_laws.proofs.Sound.{kind_of, alike-kind, is_broken}
use Rattle.vx_laws_scan.specs.Pruned.{RangeRulesOutAsItsComparisons}
use Rattle.vx_laws_scan.specs.Exactness.{is_operand, is_plain_filter, PathsAreBounded}
use Rattle.vx_laws_scan.proofs.Ordered.{stands-compares, IsAtMost, IsBelow-from_gt, IsAtMost-from_below, IsAtMost-itself, ordered-left, ordered-right}
use Rattle.vx_laws_scan.proofs.Bounds.{IsWithin, ruled_out_apart}
use Rattle.vx_laws_scan.proofs.Ruling.{Holds}
use Rattle.vx_laws_scan.proofs.Constants.{order-plain, equal-stand, inverse-true, Witness, Operand, operand-ok, carried}
use Rattle.vx_laws_scan.proofs.Connectives.{holds-tri, not-tri, IsPlainExact, and-plain, or-plain, not-plain, IsUnbroken}

-- constants for both operands of a comparison
pub record Pair (zones : Zones) (block : ℕ) (slots : Slots) (row : Val) (l r : Tree) (P : Val → Val → Type 0) : Type 0 where
  pub left : Tree
  pub right : Tree
  pub left_replaced : IsReplaced zones block l left
  pub right_replaced : IsReplaced zones block r right
  pub fact : P (mean (row_type zones.columns) slots row left) (mean (row_type zones.columns) slots row right)

-- two operands of one plain type
pub record Operands (zones : Zones) (block : ℕ) (slots : Slots) (row : Val) (l r : Tree) : Type 0 where
  pub left : Operand zones block slots row l
  pub right : Operand zones block slots row r
  pub same : alike left.ty right.ty ≡ true
  pub back : alike right.ty left.ty ≡ true
  pub plain : is_plain left.ty ≡ true

-- the pair of two constants
pub paired : (zones : Zones) (block : ℕ) (slots : Slots) (row : Val) (l r : Tree) (x y : Val) (P : Val → Val → Type 0) → Witness zones block slots row l (λ v. v ≡ x) → Witness zones block slots row r (λ v. v ≡ y) → P x y
    → Pair zones block slots row l r P
paired zones block slots row l r x y P a b h =
    record {
      left = a.tree;
      right = b.tree;
      left_replaced = a.replaced;
      right_replaced = b.replaced;
      fact = subst (λ (v : Val). P v (mean (row_type zones.columns) slots row b.tree)) (sym a.fact) (subst (P x) (sym b.fact) h);
    }

pub known-both : (op : CompareOperator) (a b : Option Val) (x y : Val) → a ≡ Some x → b ≡ Some y → known_compare op a b ≡ compares op x y
known-both op a b x y e f = ap (λ (z : Option Val). known_compare op z b) e ∙ ap (λ (z : Option Val). known_compare op (Some x) z) f

pub low-itself : (zones : Zones) (block : ℕ) (slots : Slots) (row : Val) (e : Tree) (o : Operand zones block slots row e) → IsAtMost (valued o.low o.ty) (valued o.low o.ty)
low-itself zones block slots row e o = IsAtMost-itself (valued o.low o.ty) (ordered-left Lte (valued o.low o.ty) (valued o.high o.ty) o.in_order)

pub high-itself : (zones : Zones) (block : ℕ) (slots : Slots) (row : Val) (e : Tree) (o : Operand zones block slots row e) → IsAtMost (valued o.high o.ty) (valued o.high o.ty)
high-itself zones block slots row e o = IsAtMost-itself (valued o.high o.ty) (ordered-right Lte (valued o.low o.ty) (valued o.high o.ty) o.in_order)

pub at-low : (zones : Zones) (block : ℕ) (slots : Slots) (row : Val) (e : Tree) (o : Operand zones block slots row e) → Witness zones block slots row e (λ v. v ≡ valued o.low o.ty)
at-low zones block slots row e o = o.at o.low o.low_fits (low-itself zones block slots row e o) o.in_order

pub at-high : (zones : Zones) (block : ℕ) (slots : Slots) (row : Val) (e : Tree) (o : Operand zones block slots row e) → Witness zones block slots row e (λ v. v ≡ valued o.high o.ty)
at-high zones block slots row e o = o.at o.high o.high_fits o.in_order (high-itself zones block slots row e o)

pub eq-itself : (v : Val) → IsAtMost v v → compares Eq v v ≡ true
eq-itself v h = stands-compares Eq v v Equal (equal-stand v v h h) refl

-- values of the two operands' types that are not null have an order
pub operands-order : (zones : Zones) (block : ℕ) (slots : Slots) (row : Val) (l r : Tree) (o : Operands zones block slots row l r) (x y : Raw) → fits x o.left.ty ≡ true → fits y o.right.ty ≡ true
    → is_null_val (valued x o.left.ty) ≡ false → is_null_val (valued y o.right.ty) ≡ false → is_some (order (valued x o.left.ty) (valued y o.right.ty)) ≡ true
operands-order zones block slots row l r o x y h k i j =
    order-plain (valued x o.left.ty) (valued y o.right.ty) o.left.ty o.right.ty (alike-kind o.left.ty o.right.ty o.same) o.plain (valued-fits x o.left.ty h) (valued-fits y o.right.ty k) i j

pub kind-plain : (a b : Ty) → kind_of a ≡ kind_of b → is_plain a ≡ true → is_plain b ≡ true
kind-plain (bool_ty n) (bool_ty m) e p = refl
kind-plain (int_ty o n) (int_ty q m) e p = refl
kind-plain (text_ty n) (text_ty m) e p = refl
kind-plain _ _ e p = let no : ⊥ = cc in absurd no

-- operands whose bounds let them be equal have equal constants
pub equal-pair : (zones : Zones) (block : ℕ) (slots : Slots) (row : Val) (l r : Tree) (o : Operands zones block slots row l r) → IsAtMost (valued o.left.low o.left.ty) (valued o.right.high o.right.ty)
    → IsAtMost (valued o.right.low o.right.ty) (valued o.left.high o.left.ty) → Pair zones block slots row l r (λ v w. compares Eq v w ≡ true)
equal-pair zones block slots row l r o h k = by-test (compares Lte left_low right_low) refl
  where
    left_low : Val
    left_low = valued o.left.low o.left.ty

    right_low : Val
    right_low = valued o.right.low o.right.ty

    by-test : (b : Bool) → compares Lte (valued o.left.low o.left.ty) (valued o.right.low o.right.ty) ≡ b → Pair zones block slots row l r (λ v w. compares Eq v w ≡ true)
    by-test true e =
        let c = carried o.right.low o.right.ty o.left.ty o.back (kind-plain o.left.ty o.right.ty (alike-kind o.left.ty o.right.ty o.same) o.plain) o.right.low_fits o.right.low_known in
        let x = valued o.right.low o.left.ty in
        let y = valued o.right.low o.right.ty in
        paired zones block slots row l r x y (λ v w. compares Eq v w ≡ true)
        (o.left.at o.right.low c.fit (subst (IsAtMost (valued o.left.low o.left.ty)) c.same e) (subst (λ (z : Val). IsAtMost z (valued o.left.high o.left.ty)) c.same k))
        (at-low zones block slots row r o.right)
        (subst (λ (z : Val). compares Eq z y ≡ true) c.same (eq-itself y (low-itself zones block slots row r o.right)))
    by-test false e =
        let c = carried o.left.low o.left.ty o.right.ty o.same o.plain o.left.low_fits o.left.low_known in
        let x = valued o.left.low o.left.ty in
        let y = valued o.left.low o.right.ty in
        let above = inverse-true Lte x (valued o.right.low o.right.ty) (operands-order zones block slots row l r o o.left.low o.right.low o.left.low_fits o.right.low_fits o.left.low_known o.right.low_known) e in
        let below : IsAtMost (valued o.right.low o.right.ty) x = IsAtMost-from_below (valued o.right.low o.right.ty) x (IsBelow-from_gt x (valued o.right.low o.right.ty) above) in
        paired zones block slots row l r x y (λ v w. compares Eq v w ≡ true)
        (at-low zones block slots row l o.left)
        (o.right.at o.left.low c.fit (subst (IsAtMost (valued o.right.low o.right.ty)) c.same below) (subst (λ (z : Val). IsAtMost z (valued o.right.high o.right.ty)) c.same h))
        (subst (λ (z : Val). compares Eq x z ≡ true) c.same (eq-itself x (low-itself zones block slots row l o.left)))

-- a comparison that the bounds do not rule out is true of some constants
pub compare-complete : (zones : Zones) (block : ℕ) (slots : Slots) (row : Val) (l r : Tree) → Operands zones block slots row l r → (op : CompareOperator)
    → comparison_ruled_out op (λ s. known_bound zones block s l) (λ s. known_bound zones block s r) ≡ false → Pair zones block slots row l r (λ v w. compares op v w ≡ true)
compare-complete zones block slots row l r o Gt k =
    let x = valued o.left.high o.left.ty in
    let y = valued o.right.low o.right.ty in
    paired zones block slots row l r x y (λ v w. compares Gt v w ≡ true) (at-high zones block slots row l o.left) (at-low zones block slots row r o.right)
    (inverse-true Lte x y (operands-order zones block slots row l r o o.left.high o.right.low o.left.high_fits o.right.low_fits o.left.high_known o.right.low_known)
    (sym (known-both Lte (known_bound zones block Max l) (known_bound zones block Min r) x y o.left.greatest o.right.least) ∙ k))
compare-complete zones block slots row l r o Gte k =
    let x = valued o.left.high o.left.ty in
    let y = valued o.right.low o.right.ty in
    paired zones block slots row l r x y (λ v w. compares Gte v w ≡ true) (at-high zones block slots row l o.left) (at-low zones block slots row r o.right)
    (inverse-true Lt x y (operands-order zones block slots row l r o o.left.high o.right.low o.left.high_fits o.right.low_fits o.left.high_known o.right.low_known)
    (sym (known-both Lt (known_bound zones block Max l) (known_bound zones block Min r) x y o.left.greatest o.right.least) ∙ k))
compare-complete zones block slots row l r o Lt k =
    let x = valued o.left.low o.left.ty in
    let y = valued o.right.high o.right.ty in
    paired zones block slots row l r x y (λ v w. compares Lt v w ≡ true) (at-low zones block slots row l o.left) (at-high zones block slots row r o.right)
    (inverse-true Gte x y (operands-order zones block slots row l r o o.left.low o.right.high o.left.low_fits o.right.high_fits o.left.low_known o.right.high_known)
    (sym (known-both Gte (known_bound zones block Min l) (known_bound zones block Max r) x y o.left.least o.right.greatest) ∙ k))
compare-complete zones block slots row l r o Lte k =
    let x = valued o.left.low o.left.ty in
    let y = valued o.right.high o.right.ty in
    paired zones block slots row l r x y (λ v w. compares Lte v w ≡ true) (at-low zones block slots row l o.left) (at-high zones block slots row r o.right)
    (inverse-true Gt x y (operands-order zones block slots row l r o o.left.low o.right.high o.left.low_fits o.right.high_fits o.left.low_known o.right.high_known)
    (sym (known-both Gt (known_bound zones block Min l) (known_bound zones block Max r) x y o.left.least o.right.greatest) ∙ k))
compare-complete zones block slots row l r o Eq k =
    let left_low = valued o.left.low o.left.ty in
    let left_high = valued o.left.high o.left.ty in
    let right_low = valued o.right.low o.right.ty in
    let right_high = valued o.right.high o.right.ty in
    let parts = or_parts (known_compare Gt (known_bound zones block Min l) (known_bound zones block Max r)) (known_compare Gt (known_bound zones block Min r) (known_bound zones block Max l)) k in
    let first = inverse-true Gt left_low right_high (operands-order zones block slots row l r o o.left.low o.right.high o.left.low_fits o.right.high_fits o.left.low_known o.right.high_known)
    (sym (known-both Gt (known_bound zones block Min l) (known_bound zones block Max r) left_low right_high o.left.least o.right.greatest) ∙ parts.0) in
    let turned : is_some (order right_low left_high) ≡ true =
    order-plain right_low left_high o.right.ty o.left.ty (sym (alike-kind o.left.ty o.right.ty o.same)) (kind-plain o.left.ty o.right.ty (alike-kind o.left.ty o.right.ty o.same) o.plain)
    (valued-fits o.right.low o.right.ty o.right.low_fits) (valued-fits o.left.high o.left.ty o.left.high_fits) o.right.low_known o.left.high_known in
    let second = inverse-true Gt right_low left_high turned (sym (known-both Gt (known_bound zones block Min r) (known_bound zones block Max l) right_low left_high o.right.least o.left.greatest) ∙ parts.1) in
    equal-pair zones block slots row l r o first second
compare-complete zones block slots row l r o NotEq k =
    let left_low = valued o.left.low o.left.ty in
    let left_high = valued o.left.high o.left.ty in
    let right_low = valued o.right.low o.right.ty in
    let right_high = valued o.right.high o.right.ty in
    ⊎_elim
    (λ (j : known_compare Eq (known_bound zones block Min l) (known_bound zones block Max r) ≡ false).
    paired zones block slots row l r left_low right_high (λ v w. compares NotEq v w ≡ true) (at-low zones block slots row l o.left) (at-high zones block slots row r o.right)
    (inverse-true Eq left_low right_high (operands-order zones block slots row l r o o.left.low o.right.high o.left.low_fits o.right.high_fits o.left.low_known o.right.high_known)
    (sym (known-both Eq (known_bound zones block Min l) (known_bound zones block Max r) left_low right_high o.left.least o.right.greatest) ∙ j)))
    (λ (j : known_compare Eq (known_bound zones block Max l) (known_bound zones block Min r) ≡ false).
    paired zones block slots row l r left_high right_low (λ v w. compares NotEq v w ≡ true) (at-high zones block slots row l o.left) (at-low zones block slots row r o.right)
    (inverse-true Eq left_high right_low (operands-order zones block slots row l r o o.left.high o.right.low o.left.high_fits o.right.low_fits o.left.high_known o.right.low_known)
    (sym (known-both Eq (known_bound zones block Max l) (known_bound zones block Min r) left_high right_low o.left.greatest o.right.least) ∙ j)))
    (and_cases (known_compare Eq (known_bound zones block Min l) (known_bound zones block Max r)) (known_compare Eq (known_bound zones block Max l) (known_bound zones block Min r)) k)

-- a comparison of values that have an order is no fault
pub ordered-IsUnbroken : (op : CompareOperator) (x y : Val) → is_some (order x y) ≡ true → IsUnbroken (compare3 op x y)
ordered-IsUnbroken op x y h = by-test (compares op x y) refl
  where
    by-test : (b : Bool) → compares op x y ≡ b → IsUnbroken (compare3 op x y)
    by-test true e = ap is_broken (holds-tri (compare3 op x y) e)
    by-test false e = ap is_broken (not-tri (compare3 op x y) (ap is_true_val (not3-compare3 op x y) ∙ inverse-true op x y h e))

pub rules_out-comparison : (zones : Zones) (slots : Slots) (block : ℕ) (l r : Tree) (op : CompareOperator)
    → rules_out zones slots block (binary l (operator_of op) r) ≡ comparison_ruled_out op (λ s. known_bound zones block s l) (λ s. known_bound zones block s r)
unfolding rules_out
rules_out-comparison zones slots block l r Eq = refl
rules_out-comparison zones slots block l r NotEq = refl
rules_out-comparison zones slots block l r Gt = refl
rules_out-comparison zones slots block l r Gte = refl
rules_out-comparison zones slots block l r Lt = refl
rules_out-comparison zones slots block l r Lte = refl

pub rules_out_negation-comparison : (zones : Zones) (slots : Slots) (block : ℕ) (l r : Tree) (op : CompareOperator)
    → rules_out_negation zones slots block (binary l (operator_of op) r) ≡ comparison_ruled_out (inverse_comparison op) (λ s. known_bound zones block s l) (λ s. known_bound zones block s r)
unfolding rules_out
rules_out_negation-comparison zones slots block l r Eq = refl
rules_out_negation-comparison zones slots block l r NotEq = refl
rules_out_negation-comparison zones slots block l r Gt = refl
rules_out_negation-comparison zones slots block l r Gte = refl
rules_out_negation-comparison zones slots block l r Lt = refl
rules_out_negation-comparison zones slots block l r Lte = refl

-- a pair of constants as an instance of the comparison
pub pair-witness : (zones : Zones) (block : ℕ) (slots : Slots) (row : Val) (l r : Tree) (op : CompareOperator) (P : Val → Type 0) → Operands zones block slots row l r
    → Pair zones block slots row l r (λ v w. P (compare3 op v w)) → Witness zones block slots row (without_ranges (binary l (operator_of op) r)) P
unfolding mean without_ranges IsReplaced
pair-witness zones block slots row l r op P o a =
    let t = row_type zones.columns in
    record {
      tree = binary a.left (operator_of op) a.right;
      replaced = (
        a.left,
        a.right,
        refl,
        subst (λ (z : Tree). IsReplaced zones block z a.left) (sym o.left.unranged) a.left_replaced,
        subst (λ (z : Tree). IsReplaced zones block z a.right) (sym o.right.unranged) a.right_replaced,
      );
      fact = subst P (sym (binary3-operator_of op (mean t slots row a.left) (mean t slots row a.right))) a.fact;
    }

-- an instance of a comparison is a comparison of constants for its operands
pub record Split (zones : Zones) (block : ℕ) (slots : Slots) (row : Val) (l r : Tree) (op : CompareOperator) (i : Tree) : Type 0 where
  pub left : Val
  pub right : Val
  pub left_within : IsWithin (λ s. known_bound zones block s l) left
  pub right_within : IsWithin (λ s. known_bound zones block s r) right
  pub means : mean (row_type zones.columns) slots row i ≡ compare3 op left right

pub split : (zones : Zones) (block : ℕ) (slots : Slots) (row : Val) (l r : Tree) (op : CompareOperator) (i : Tree) → Operands zones block slots row l r
    → IsReplaced zones block (without_ranges (binary l (operator_of op) r)) i → Split zones block slots row l r op i
unfolding mean without_ranges IsReplaced
split zones block slots row l r op i o h =
    let t = row_type zones.columns in
    record {
      left = mean t slots row h.0;
      right = mean t slots row h.1;
      left_within = o.left.within h.0 (subst (λ (z : Tree). IsReplaced zones block z h.0) o.left.unranged h.3);
      right_within = o.right.within h.1 (subst (λ (z : Tree). IsReplaced zones block z h.1) o.right.unranged h.4);
      means = ap (mean t slots row) h.2 ∙ binary3-operator_of op (mean t slots row h.0) (mean t slots row h.1);
    }

-- the same pair with another fact that follows
pub pair-weaker : (zones : Zones) (block : ℕ) (slots : Slots) (row : Val) (l r : Tree) (P Q : Val → Val → Type 0) → ((v w : Val) → P v w → Q v w) → Pair zones block slots row l r P → Pair zones block slots row l r Q
pair-weaker zones block slots row l r P Q f a =
    record {
      left = a.left;
      right = a.right;
      left_replaced = a.left_replaced;
      right_replaced = a.right_replaced;
      fact = f (mean (row_type zones.columns) slots row a.left) (mean (row_type zones.columns) slots row a.right) a.fact;
    }

pub comparison-plain : (zones : Zones) (block : ℕ) (slots : Slots) (row : Val) (l r : Tree) (op : CompareOperator) → Operands zones block slots row l r → IsPlainExact zones slots block row (binary l (operator_of op) r)
comparison-plain zones block slots row l r op o =
    let low = valued o.left.low o.left.ty in
    let other = valued o.right.low o.right.ty in
    record {
      own = record {
        sound = λ k i p c.
            let s = split zones block slots row l r op i o p in
            ruled_out_apart op (λ st. known_bound zones block st l) (λ st. known_bound zones block st r) s.left s.right s.left_within s.right_within (sym (rules_out-comparison zones slots block l r op) ∙ k)
            (sym (ap is_true_val s.means) ∙ c);
        complete = λ k. pair-witness zones block slots row l r op Holds o (compare-complete zones block slots row l r o op (sym (rules_out-comparison zones slots block l r op) ∙ k));
        some = pair-witness zones block slots row l r op IsUnbroken o
            (paired zones block slots row l r low other (λ v w. IsUnbroken (compare3 op v w)) (at-low zones block slots row l o.left) (at-low zones block slots row r o.right)
            (ordered-IsUnbroken op low other (operands-order zones block slots row l r o o.left.low o.right.low o.left.low_fits o.right.low_fits o.left.low_known o.right.low_known)));
      };
      negated = record {
        sound = λ k i p c.
            let s = split zones block slots row l r op i o p in
            ruled_out_apart (inverse_comparison op) (λ st. known_bound zones block st l) (λ st. known_bound zones block st r) s.left s.right s.left_within s.right_within
            (sym (rules_out_negation-comparison zones slots block l r op) ∙ k)
            (ap is_true_val (sym (not3-compare3 op s.left s.right)) ∙ (sym (ap (λ (v : Val). is_true_val (not3 v)) s.means) ∙ c));
        complete = λ k. pair-witness zones block slots row l r op (λ v. Holds (not3 v)) o
            (pair-weaker zones block slots row l r (λ v w. compares (inverse_comparison op) v w ≡ true) (λ v w. Holds (not3 (compare3 op v w))) (λ v w h. ap is_true_val (not3-compare3 op v w) ∙ h)
            (compare-complete zones block slots row l r o (inverse_comparison op) (sym (rules_out_negation-comparison zones slots block l r op) ∙ k)));
      };
    }

-- a range, as its two comparisons
pub range-rules_out : (zones : Zones) (slots : Slots) (block : ℕ) (e lower upper : Tree) (options : BetweenOptions) → rules_out zones slots block (between e lower upper options) ≡ rules_out zones slots block (range_as_binary e lower upper options)
unfolding rules_out
range-rules_out zones slots block e lower upper options =
    let lo = bound_operator options.lower_strict in
    let hi = bound_operator options.upper_strict in
    sym (ap (λ (b : Bool). b || rules_out zones slots block (binary e (operator_of hi) upper)) (rules_out-comparison zones slots block lower e lo)
    ∙ ap (λ (b : Bool). comparison_ruled_out lo (λ s. known_bound zones block s lower) (λ s. known_bound zones block s e) || b) (rules_out-comparison zones slots block e upper hi))

pub range-rules_out_negation : (zones : Zones) (slots : Slots) (block : ℕ) (e lower upper : Tree) (options : BetweenOptions)
    → rules_out_negation zones slots block (between e lower upper options) ≡ rules_out_negation zones slots block (range_as_binary e lower upper options)
unfolding rules_out
range-rules_out_negation zones slots block e lower upper options =
    let lo = bound_operator options.lower_strict in
    let hi = bound_operator options.upper_strict in
    sym (ap (λ (b : Bool). b && rules_out_negation zones slots block (binary e (operator_of hi) upper)) (rules_out_negation-comparison zones slots block lower e lo)
    ∙ ap (λ (b : Bool). comparison_ruled_out (inverse_comparison lo) (λ s. known_bound zones block s lower) (λ s. known_bound zones block s e) && b) (rules_out_negation-comparison zones slots block e upper hi))

pub range_rules_out : RangeRulesOutAsItsComparisons
unfolding rules_out
range_rules_out zones slots block e lower upper options =
    (range-rules_out zones slots block e lower upper options, range-rules_out_negation zones slots block e lower upper options)

pub range-plain : (zones : Zones) (slots : Slots) (block : ℕ) (row : Val) (e lower upper : Tree) (options : BetweenOptions) → IsPlainExact zones slots block row (range_as_binary e lower upper options)
    → IsPlainExact zones slots block row (between e lower upper options)
unfolding without_ranges
range-plain zones slots block row e lower upper options x =
    record {
      own = record {
        sound = λ k. x.own.sound (sym (range-rules_out zones slots block e lower upper options) ∙ k);
        complete = λ k. x.own.complete (sym (range-rules_out zones slots block e lower upper options) ∙ k);
        some = x.own.some;
      };
      negated = record {
        sound = λ k. x.negated.sound (sym (range-rules_out_negation zones slots block e lower upper options) ∙ k);
        complete = λ k. x.negated.complete (sym (range-rules_out_negation zones slots block e lower upper options) ∙ k);
      };
    }

-- equal plain types are equal the other way round
pub plain-back : (a b : Ty) → alike a b ≡ true → is_plain a ≡ true → alike b a ≡ true
unfolding alike
plain-back (bool_ty n) (bool_ty m) h p = refl
plain-back (int_ty o n) (int_ty q m) h p = let same = same_ptype-same o q h in subst (λ (z : _). same_ptype z o ≡ true) same (same_ptype-itself o)
plain-back (text_ty n) (text_ty m) h p = refl
plain-back (list_ty e n) b h p = let no : ⊥ = cc (p) in absurd no
plain-back (struct_ty fs n) b h p = let no : ⊥ = cc (p) in absurd no
plain-back _ _ h p = let no : ⊥ = cc (h) in absurd no

-- two operands of equal plain types
pub operands : (zones : Zones) (block : ℕ) (slots : Slots) (row : Val) (l r : Tree) (a b : Ty) → is_operand l ≡ true → is_operand r ≡ true → typed_of (row_type zones.columns) l ≡ Ok a
    → typed_of (row_type zones.columns) r ≡ Ok b → alike a b ≡ true → is_plain a ≡ true → PathsAreBounded zones block l → PathsAreBounded zones block r → Operands zones block slots row l r
operands zones block slots row l r a b i j h k s p x y =
    let t = row_type zones.columns in
    let left = operand-ok zones block slots row l a i h p x in
    let right = operand-ok zones block slots row r b j k (kind-plain a b (alike-kind a b s) p) y in
    let own = Ok-same (typed_of t l) a left.ty h left.typed in
    let other = Ok-same (typed_of t r) b right.ty k right.typed in
    let same : alike left.ty right.ty ≡ true = subst (λ (z : Ty). alike z right.ty ≡ true) own (subst (λ (z : Ty). alike a z ≡ true) other s) in
    let plain : is_plain left.ty ≡ true = subst (λ (z : Ty). is_plain z ≡ true) own p in
    record { left = left; right = right; same = same; back = plain-back left.ty right.ty same plain; plain = plain }

-- the types of a comparison's operands
pub record Compared (zones : Zones) (l r : Tree) : Type 0 where
  pub first : Ty
  pub second : Ty
  pub first_typed : typed_of (row_type zones.columns) l ≡ Ok first
  pub second_typed : typed_of (row_type zones.columns) r ≡ Ok second
  pub equal : equal_plain first second ≡ true

pub binary_type-comparison : (op : CompareOperator) (a b : Ty) → binary_type (operator_of op) a b ≡ compare_type a b
binary_type-comparison Eq a b = refl
binary_type-comparison NotEq a b = refl
binary_type-comparison Gt a b = refl
binary_type-comparison Gte a b = refl
binary_type-comparison Lt a b = refl
binary_type-comparison Lte a b = refl

pub comparison-typed : (zones : Zones) (l r : Tree) (u : Ty) (op : CompareOperator) → typed_of (row_type zones.columns) (binary l (operator_of op) r) ≡ Ok u → Compared zones l r
unfolding typed_of
comparison-typed zones l r u op e =
    let t = row_type zones.columns in
    let x = and_then-ok (typed_of t l) (λ z. and_then (typed_of t r) (binary_type (operator_of op) z)) u e in
    let y = and_then-ok (typed_of t r) (binary_type (operator_of op) x.given) u x.gave in
    let test = one_test (equal_plain x.given y.given) (bool_ty (union_of x.given y.given)) u (sym (binary_type-comparison op x.given y.given) ∙ y.gave) in
    record { first = x.given; second = y.given; first_typed = x.was; second_typed = y.was; equal = test.0 }

pub compared-operands : (zones : Zones) (block : ℕ) (slots : Slots) (row : Val) (l r : Tree) (u : Ty) → (is_operand l && is_operand r) ≡ true → Compared zones l r → PathsAreBounded zones block l → PathsAreBounded zones block r
    → Operands zones block slots row l r
compared-operands zones block slots row l r u h c x y =
    let parts = and_parts (is_operand l) (is_operand r) h in
    let equal = and_parts (alike c.first c.second) (is_plain c.first) c.equal in
    operands zones block slots row l r c.first c.second parts.0 parts.1 c.first_typed c.second_typed equal.0 equal.1 x y

-- a plain filter is exact, and so is its negation
pub plain-exact : (zones : Zones) (slots : Slots) (block : ℕ) (row : Val) (e : Tree) (u : Ty) → is_plain_filter e ≡ true → typed_of (row_type zones.columns) e ≡ Ok u → PathsAreBounded zones block e
    → IsPlainExact zones slots block row e
unfolding is_plain_filter typed_of PathsAreBounded
plain-exact zones slots block row (binary l Operator.And r) u h e b =
    let t = row_type zones.columns in
    let parts = and_parts (is_plain_filter l) (is_plain_filter r) h in
    let x = and_then-ok (typed_of t l) (λ z. and_then (typed_of t r) (binary_type Operator.And z)) u e in
    let y = and_then-ok (typed_of t r) (binary_type Operator.And x.given) u x.gave in
    and-plain zones slots block row l r (plain-exact zones slots block row l x.given parts.0 x.was b.0) (plain-exact zones slots block row r y.given parts.1 y.was b.1)
plain-exact zones slots block row (binary l Operator.Or r) u h e b =
    let t = row_type zones.columns in
    let parts = and_parts (is_plain_filter l) (is_plain_filter r) h in
    let x = and_then-ok (typed_of t l) (λ z. and_then (typed_of t r) (binary_type Operator.Or z)) u e in
    let y = and_then-ok (typed_of t r) (binary_type Operator.Or x.given) u x.gave in
    or-plain zones slots block row l r (plain-exact zones slots block row l x.given parts.0 x.was b.0) (plain-exact zones slots block row r y.given parts.1 y.was b.1)
plain-exact zones slots block row (binary l Operator.Eq r) u h e b = comparison-plain zones block slots row l r Eq (compared-operands zones block slots row l r u h (comparison-typed zones l r u Eq e) b.0 b.1)
plain-exact zones slots block row (binary l Operator.NotEq r) u h e b = comparison-plain zones block slots row l r NotEq (compared-operands zones block slots row l r u h (comparison-typed zones l r u NotEq e) b.0 b.1)
plain-exact zones slots block row (binary l Operator.Gt r) u h e b = comparison-plain zones block slots row l r Gt (compared-operands zones block slots row l r u h (comparison-typed zones l r u Gt e) b.0 b.1)
plain-exact zones slots block row (binary l Operator.Gte r) u h e b = comparison-plain zones block slots row l r Gte (compared-operands zones block slots row l r u h (comparison-typed zones l r u Gte e) b.0 b.1)
plain-exact zones slots block row (binary l Operator.Lt r) u h e b = comparison-plain zones block slots row l r Lt (compared-operands zones block slots row l r u h (comparison-typed zones l r u Lt e) b.0 b.1)
plain-exact zones slots block row (binary l Operator.Lte r) u h e b = comparison-plain zones block slots row l r Lte (compared-operands zones block slots row l r u h (comparison-typed zones l r u Lte e) b.0 b.1)
plain-exact zones slots block row (not_of d) u h e b =
    let x = and_then-ok (typed_of (row_type zones.columns) d) not_type u e in
    not-plain zones slots block row d (plain-exact zones slots block row d x.given h x.was b)
plain-exact zones slots block row (between d lower upper options) u h e b =
    let t = row_type zones.columns in
    let parts = and_parts (is_operand d) (is_operand lower && is_operand upper) h in
    let more = and_parts (is_operand lower) (is_operand upper) parts.1 in
    let x = and_then-ok (typed_of t d) (λ z. and_then (typed_of t lower) (λ w. and_then (typed_of t upper) (between_type z w))) u e in
    let y = and_then-ok (typed_of t lower) (λ w. and_then (typed_of t upper) (between_type x.given w)) u x.gave in
    let z = and_then-ok (typed_of t upper) (between_type x.given y.given) u y.gave in
    let test = one_test (equal_plain x.given y.given && equal_plain x.given z.given) (bool_ty (union (nullability_of x.given) (union_of y.given z.given))) u z.gave in
    let equal = and_parts (equal_plain x.given y.given) (equal_plain x.given z.given) test.0 in
    let first = and_parts (alike x.given y.given) (is_plain x.given) equal.0 in
    let second = and_parts (alike x.given z.given) (is_plain x.given) equal.1 in
    range-plain zones slots block row d lower upper options
    (and-plain zones slots block row (binary lower (operator_of (bound_operator options.lower_strict)) d) (binary d (operator_of (bound_operator options.upper_strict)) upper)
    (comparison-plain zones block slots row lower d (bound_operator options.lower_strict)
    (operands zones block slots row lower d y.given x.given more.0 parts.0 y.was x.was (plain-back x.given y.given first.0 first.1)
    (kind-plain x.given y.given (alike-kind x.given y.given first.0) first.1) b.1 b.0))
    (comparison-plain zones block slots row d upper (bound_operator options.upper_strict)
    (operands zones block slots row d upper x.given z.given parts.0 more.1 x.was z.was second.0 second.1 b.0 b.2)))
plain-exact zones slots block row _ u h e b = let no : ⊥ = cc (h) in absurd no
