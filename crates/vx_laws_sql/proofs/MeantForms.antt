-- What connectives, null tests, patterns, casts and ranges mean.
use Rattle.std.proofs.Common.{◌≡◌, ℤ, refl, ap, sym, ◌∙◌, subst, Bool, true, false, cond, Option, Some, None, Ok}
use Rattle.vx_dtype.specs.declared.PType.{PType}
use Rattle.vx_dtype.specs.declared.PType.TheVariants.{I64}
use Rattle.vx_dtype.specs.declared.Nullability.{Nullability}
use Rattle.vx_dtype.specs.declared.Nullability.TheVariants.{NonNullable, Nullable}
use Rattle.vx_dtype.specs.declared.CompareOperator.TheVariants.{Gte, Lt, Lte}
use Rattle.vx_dtype.specs.Types.{Ty, bool_ty, int_ty, text_ty, list_ty, struct_ty}
use Rattle.vx_dtype.specs.TypeRules.{is_nullable, nullability_of, widened, is_plain, is_bool_ty, is_text_ty}
use Rattle.vx_dtype.specs.Values.{raw_int, Val, null_val, bool_val, int_val, text_val, fault, valued}
use Rattle.vx_dtype.specs.Fits.{fits, fits_but_for_faults}
use Rattle.vx_dtype.specs.Logic.{and3, or3, not3, is_null3}
use Rattle.vx_dtype.specs.Like.{like3}
use Rattle.vx_dtype.specs.Order.{compare3}
use Rattle.vx_dtype.specs.Casts.{takes_cast, cast3}
use Rattle.vx_expr.specs.declared.Operator.{Operator}
use Rattle.vx_expr.specs.Trees.{Tree, not_of, is_null_of, like, cast}
use Rattle.vx_semantics.specs.Meaning.{Slots, binary3, mean}
use Rattle.vx_laws.proofs.Kleene.{not3-and3}
use Rattle.vx_laws.proofs.Comparing.{compare3-swap, not3-compare3}
use Rattle.vx_laws.proofs.Fitting.{is_nullable-right}
use Rattle.vx_laws_sql.specs.CommonTypes.{common_of_three}
use Rattle.vx_laws_sql.specs.Operands.{TypedTree, Operand, known, number, untyped_null, no_boolean, no_text, no_cast, constant, null_of, ptype_of, widened_to}
use Rattle.vx_laws_sql.specs.Operands.{alone}
use Rattle.vx_laws_sql.specs.Forms.{as_boolean, as_text, connective, negation, InRange, three_in_common, three_matched_by, range_node, ranged, first_known}
use Rattle.vx_laws_sql.specs.Forms.{cast_node, wrong_number}
use Rattle.vx_laws_sql.specs.Meaning.{value_at, IsAt, ConjunctionsMean, DisjunctionsMean, NegationsMean, NullTestsMean, NotNullTestsMean, PatternsMean}
use Rattle.vx_laws_sql.specs.Meaning.{NegatedPatternsMean, within, RangesMean, NegatedRangesMean, in_type, CastsMean}
use Rattle.vx_laws_sql.proofs.Steps.{stepped, passed, same_answer}
use Rattle.vx_laws_sql.proofs.Common.{common_of_three-holds}
use Rattle.vx_laws_sql.proofs.Typed.{taking-typed}
use Rattle.vx_laws_sql.proofs.TypedForms.{connective-is, pattern-is, alike_three-is, integers_with_another, ranged-is}
use Rattle.vx_laws_sql.proofs.Numbers.{untyped, compare3-alike, not3-like}
use Rattle.vx_laws_sql.proofs.Means.{IsAt-IsTyped, Stands, taking-stands, IsSound, is_sound, widened_to-stands, mean-binary}

mean-null : (t : Ty) (slots : Slots) (row : Val) (u : Ty) → mean t slots row (null_of u).tree ≡ null_val
unfolding mean valued
mean-null t slots row u = refl

mean-not : (t : Ty) (slots : Slots) (row : Val) (e : Tree) → mean t slots row (not_of e) ≡ not3 (mean t slots row e)
unfolding mean
mean-not t slots row e = refl

mean-is_null : (t : Ty) (slots : Slots) (row : Val) (e : Tree) → mean t slots row (is_null_of e) ≡ is_null3 (mean t slots row e)
unfolding mean
mean-is_null t slots row e = refl

mean-like : (t : Ty) (slots : Slots) (row : Val) (e p : Tree)
    → mean t slots row (like e p false false) ≡ like3 false false (mean t slots row e) (mean t slots row p)
unfolding mean
mean-like t slots row e p = refl

mean-cast : (t : Ty) (slots : Slots) (row : Val) (e : Tree) (u : Ty) → mean t slots row (cast e u) ≡ cast3 u (mean t slots row e)
unfolding mean
mean-cast t slots row e u = refl

-- ---- connectives

as_boolean-means : (t : Ty) (slots : Slots) (row : Val) (o : Operand) (a : TypedTree) → as_boolean o ≡ Ok a → mean t slots row a.tree ≡ value_at t slots row o
as_boolean-means t slots row (known e) a h =
    let k = passed (is_bool_ty e.ty) (no_boolean (known e)) (Ok e) a h in
    ap (λ (z : TypedTree). mean t slots row z.tree) (sym (same_answer (Ok e) e a refl k.gave))
as_boolean-means t slots row (number i) a h = let no : ⊥ = cc (h) in absurd no
as_boolean-means t slots row untyped_null a h =
    ap (λ (z : TypedTree). mean t slots row z.tree) (sym (same_answer (Ok (null_of (bool_ty Nullable))) (null_of (bool_ty Nullable)) a refl h))
    ∙ mean-null t slots row (bool_ty Nullable)

as_text-means : (t : Ty) (slots : Slots) (row : Val) (o : Operand) (a : TypedTree) → as_text o ≡ Ok a → mean t slots row a.tree ≡ value_at t slots row o
as_text-means t slots row (known e) a h =
    let k = passed (is_text_ty e.ty) (no_text (known e)) (Ok e) a h in
    ap (λ (z : TypedTree). mean t slots row z.tree) (sym (same_answer (Ok e) e a refl k.gave))
as_text-means t slots row (number i) a h = let no : ⊥ = cc (h) in absurd no
as_text-means t slots row untyped_null a h =
    ap (λ (z : TypedTree). mean t slots row z.tree) (sym (same_answer (Ok (null_of (text_ty Nullable))) (null_of (text_ty Nullable)) a refl h))
    ∙ mean-null t slots row (text_ty Nullable)

connective-means : (op : Operator) (t : Ty) (slots : Slots) (row : Val) (l r : Operand) (x : TypedTree) → connective op l r ≡ Ok x
    → mean t slots row x.tree ≡ binary3 op (value_at t slots row l) (value_at t slots row r)
connective-means op t slots row l r x h =
    let k = connective-is op l r x h in
    ap (λ (z : TypedTree). mean t slots row z.tree) (sym k.is)
    ∙ (mean-binary t slots row op k.first.tree k.second.tree
    ∙ (ap (λ (z : Val). binary3 op z (mean t slots row k.second.tree)) (as_boolean-means t slots row l k.first k.left)
    ∙ ap (binary3 op (value_at t slots row l)) (as_boolean-means t slots row r k.second k.right)))

pub conjunctions_mean : ConjunctionsMean
conjunctions_mean t slots row l r x fit hl hr h = connective-means Operator.And t slots row l r x h

pub disjunctions_mean : DisjunctionsMean
disjunctions_mean t slots row l r x fit hl hr h = connective-means Operator.Or t slots row l r x h

pub negation-means : (t : Ty) (slots : Slots) (row : Val) (o : Operand) (x : TypedTree) → negation o ≡ Ok x
    → mean t slots row x.tree ≡ not3 (value_at t slots row o)
negation-means t slots row o x h =
    let s = stepped (as_boolean o) (λ e. Ok (record { ty = e.ty; tree = not_of e.tree })) x h in
    let made : TypedTree = record { ty = s.given.ty; tree = not_of s.given.tree } in
    ap (λ (z : TypedTree). mean t slots row z.tree) (sym (same_answer (Ok made) made x refl s.gave))
    ∙ (mean-not t slots row s.given.tree ∙ ap not3 (as_boolean-means t slots row o s.given s.was))

pub negations_mean : NegationsMean
negations_mean t slots row o x fit ho h = negation-means t slots row o x h

-- ---- null tests

is_null3-untyped : (v : Val) → is_null3 (untyped v) ≡ is_null3 v
is_null3-untyped (int_val p i) = refl
is_null3-untyped _ = refl

alone-null : (t : Ty) (slots : Slots) (row : Val) (o : Operand) (a : TypedTree) → IsAt t slots o → alone o ≡ Ok a
    → is_null3 (mean t slots row a.tree) ≡ is_null3 (value_at t slots row o)
alone-null t slots row o a ho h =
    let k = taking-stands t slots row untyped_null o a ho h in
    sym (is_null3-untyped (mean t slots row a.tree)) ∙ (ap is_null3 k.means ∙ is_null3-untyped (value_at t slots row o))

pub null_tests_mean : NullTestsMean
null_tests_mean t slots row o x fit ho h =
    let s = stepped (alone o) (λ e. Ok (record { ty = bool_ty NonNullable; tree = is_null_of e.tree })) x h in
    let made : TypedTree = record { ty = bool_ty NonNullable; tree = is_null_of s.given.tree } in
    ap (λ (z : TypedTree). mean t slots row z.tree) (sym (same_answer (Ok made) made x refl s.gave))
    ∙ (mean-is_null t slots row s.given.tree ∙ alone-null t slots row o s.given ho s.was)

pub not_null_tests_mean : NotNullTestsMean
not_null_tests_mean t slots row o x fit ho h =
    let s = stepped (alone o) (λ e. Ok (record { ty = bool_ty NonNullable; tree = not_of (is_null_of e.tree) })) x h in
    let made : TypedTree = record { ty = bool_ty NonNullable; tree = not_of (is_null_of s.given.tree) } in
    ap (λ (z : TypedTree). mean t slots row z.tree) (sym (same_answer (Ok made) made x refl s.gave))
    ∙ (mean-not t slots row (is_null_of s.given.tree) ∙ ap not3 (mean-is_null t slots row s.given.tree ∙ alone-null t slots row o s.given ho s.was))

-- ---- patterns

pub patterns_mean : PatternsMean
patterns_mean t slots row l r x fit hl hr h =
    let k = pattern-is l r x h in
    ap (λ (z : TypedTree). mean t slots row z.tree) (sym k.is)
    ∙ (mean-like t slots row k.first.tree k.second.tree
    ∙ (ap (λ (z : Val). like3 false false z (mean t slots row k.second.tree)) (as_text-means t slots row l k.first k.left)
    ∙ ap (like3 false false (value_at t slots row l)) (as_text-means t slots row r k.second k.right)))

pub negated_patterns_mean : NegatedPatternsMean
negated_patterns_mean t slots row l r x y fit hl hr h k =
    negation-means t slots row (known x) y k
    ∙ (ap not3 (patterns_mean t slots row l r x fit hl hr h) ∙ not3-like (value_at t slots row l) (value_at t slots row r))

-- ---- casts

nullable-after : (u : Ty) (n : Nullability) → is_nullable n ≡ true → is_nullable (nullability_of (widened u n)) ≡ true
nullable-after (bool_ty m) n h = is_nullable-right m n h
nullable-after (int_ty p m) n h = is_nullable-right m n h
nullable-after (text_ty m) n h = is_nullable-right m n h
nullable-after (list_ty e m) n h = is_nullable-right m n h
nullable-after (struct_ty fs m) n h = is_nullable-right m n h

null-kept : (b : Bool) → b ≡ true → cond b null_val fault ≡ null_val
null-kept true h = refl
null-kept false h = let no : ⊥ = cc (h) in absurd no

null_fits-nullable : (u : Ty) → fits_but_for_faults null_val u ≡ true → is_nullable (nullability_of u) ≡ true
unfolding fits_but_for_faults
null_fits-nullable u h = h

cast3-widened : (a u : Ty) (v : Val) → takes_cast a u ≡ true → fits_but_for_faults v a ≡ true → cast3 (widened u (nullability_of a)) v ≡ in_type u v
cast3-widened a u null_val h k =
    null-kept (is_nullable (nullability_of (widened u (nullability_of a)))) (nullable-after u (nullability_of a) (null_fits-nullable a k))
cast3-widened a (bool_ty m) (bool_val b) h k = refl
cast3-widened a (bool_ty m) (int_val p i) h k = refl
cast3-widened a (int_ty q m) (int_val p i) h k = refl
cast3-widened a (text_ty m) (text_val s) h k = refl
cast3-widened a (int_ty q m) (bool_val b) h k = refl
cast3-widened a (text_ty m) (bool_val b) h k = refl
cast3-widened a _ _ h k = refl

number-cast : (t : Ty) (slots : Slots) (row : Val) (u : Ty) (i : ℤ) → fits (raw_int i) u ≡ true
    → mean t slots row (constant u (raw_int i)).tree ≡ in_type u (int_val I64 i)
unfolding mean valued fits
number-cast t slots row (int_ty p n) i h = sym (ap (λ (b : Bool). cond b (int_val p i) fault) h)
number-cast t slots row _ i h = let no : ⊥ = cc (h) in absurd no

pub casts_mean : CastsMean
casts_mean target t slots row (known e) x fit ho h =
    let k = passed (takes_cast e.ty target) (no_cast (known e) target) (Ok (cast_node target e)) x h in
    let sound = is_sound t slots row e fit ho.0 ho.1 in
    ap (λ (z : TypedTree). mean t slots row z.tree) (sym (same_answer (Ok (cast_node target e)) (cast_node target e) x refl k.gave))
    ∙ (mean-cast t slots row e.tree (widened target (nullability_of e.ty)) ∙ cast3-widened e.ty target (mean t slots row e.tree) k.holds sound.fits)
casts_mean target t slots row (number i) x fit ho h =
    let k = passed (fits (raw_int i) target) (wrong_number i target) (Ok (constant target (raw_int i))) x h in
    ap (λ (z : TypedTree). mean t slots row z.tree) (sym (same_answer (Ok (constant target (raw_int i))) (constant target (raw_int i)) x refl k.gave))
    ∙ number-cast t slots row target i k.holds
casts_mean target t slots row untyped_null x fit ho h =
    let k = passed (is_plain target) (no_cast untyped_null target) (Ok (null_of target)) x h in
    ap (λ (z : TypedTree). mean t slots row z.tree) (sym (same_answer (Ok (null_of target)) (null_of target) x refl k.gave)) ∙ mean-null t slots row target

-- ---- ranges

-- three expressions as they stand in a range mean, but for integer types, what the given ones mean
pub record StandThree (t : Ty) (slots : Slots) (row v l u : Val) (x : InRange) : Type 0 where
  pub value : Stands t slots row v x.value
  pub lower : Stands t slots row l x.lower
  pub upper : Stands t slots row u x.upper

-- three sound expressions
pub record AreSound (t : Ty) (slots : Slots) (row : Val) (a : InRange) : Type 0 where
  pub value : IsSound t slots row a.value
  pub lower : IsSound t slots row a.lower
  pub upper : IsSound t slots row a.upper

three_in_common-stand : (t : Ty) (slots : Slots) (row : Val) (p q r : PType) (o : Option PType) (a x : InRange) → common_of_three p q r ≡ o
    → ptype_of a.value.ty ≡ Some p → ptype_of a.lower.ty ≡ Some q → ptype_of a.upper.ty ≡ Some r → AreSound t slots row a → three_in_common p q r o a ≡ Ok x
    → StandThree t slots row (mean t slots row a.value.tree) (mean t slots row a.lower.tree) (mean t slots row a.upper.tree) x
three_in_common-stand t slots row p q r (Some c) a x common ep eq er s h =
    let holds = common_of_three-holds p q r c common in
    let made : InRange = record { value = widened_to c a.value; lower = widened_to c a.lower; upper = widened_to c a.upper } in
    subst (λ (z : InRange). StandThree t slots row (mean t slots row a.value.tree) (mean t slots row a.lower.tree) (mean t slots row a.upper.tree) z)
    (same_answer (Ok made) made x refl h)
    (record {
      value = widened_to-stands t slots row c p a.value ep holds.0 s.value;
      lower = widened_to-stands t slots row c q a.lower eq holds.1.0 s.lower;
      upper = widened_to-stands t slots row c r a.upper er holds.1.1 s.upper;
    })
three_in_common-stand t slots row p q r None a x common ep eq er s h = let no : ⊥ = cc (h) in absurd no

alike_three-stand : (t : Ty) (slots : Slots) (row : Val) (a x : InRange) → AreSound t slots row a → a ≡ x
    → StandThree t slots row (mean t slots row a.value.tree) (mean t slots row a.lower.tree) (mean t slots row a.upper.tree) x
alike_three-stand t slots row a x s is =
    subst (λ (z : InRange). StandThree t slots row (mean t slots row a.value.tree) (mean t slots row a.lower.tree) (mean t slots row a.upper.tree) z) is
    (record {
      value = record { slots_are = s.value.slots_are; means = refl };
      lower = record { slots_are = s.lower.slots_are; means = refl };
      upper = record { slots_are = s.upper.slots_are; means = refl };
    })

three_matched_by-stand : (t : Ty) (slots : Slots) (row : Val) (p q r : Option PType) (a x : InRange)
    → ptype_of a.value.ty ≡ p → ptype_of a.lower.ty ≡ q → ptype_of a.upper.ty ≡ r → AreSound t slots row a → three_matched_by p q r a ≡ Ok x
    → StandThree t slots row (mean t slots row a.value.tree) (mean t slots row a.lower.tree) (mean t slots row a.upper.tree) x
three_matched_by-stand t slots row (Some p) (Some q) (Some r) a x ep eq er s h =
    three_in_common-stand t slots row p q r (common_of_three p q r) a x refl ep eq er s h
three_matched_by-stand t slots row None q r a x ep eq er s h = alike_three-stand t slots row a x s (alike_three-is a x h).is
three_matched_by-stand t slots row (Some p) None r a x ep eq er s h = alike_three-stand t slots row a x s (alike_three-is a x h).is
three_matched_by-stand t slots row (Some p) (Some q) None a x ep eq er s h = absurd (integers_with_another p q a x h)

mean-between : (t : Ty) (slots : Slots) (row : Val) (x : InRange)
    → mean t slots row (range_node x).tree ≡ within (mean t slots row x.value.tree) (mean t slots row x.lower.tree) (mean t slots row x.upper.tree)
unfolding mean
mean-between t slots row x =
    let v = mean t slots row x.value.tree in
    let l = mean t slots row x.lower.tree in
    let u = mean t slots row x.upper.tree in
    ap (λ (z : Val). and3 z (compare3 Lte v u)) (compare3-swap Lte l v)

within-alike : (v l u a b c : Val) → untyped v ≡ untyped a → untyped l ≡ untyped b → untyped u ≡ untyped c → within v l u ≡ within a b c
within-alike v l u a b c hv hl hu =
    ap (λ (z : Val). and3 z (compare3 Lte v u)) (compare3-alike Gte v l a b hv hl) ∙ ap (and3 (compare3 Gte a b)) (compare3-alike Lte v u a c hv hu)

pub ranges_mean : RangesMean
ranges_mean t slots row o lower upper x fit ho hl hu h =
    let across = first_known o (first_known lower upper) in
    let s = stepped (ranged across o lower upper) (λ y. Ok (range_node y)) x h in
    let k = ranged-is across o lower upper s.given s.was in
    let g = k.given in
    let a = taking-stands t slots row across o g.value ho k.value in
    let b = taking-stands t slots row across lower g.lower hl k.low in
    let c = taking-stands t slots row across upper g.upper hu k.up in
    let sound : AreSound t slots row g = record {
      value = is_sound t slots row g.value fit (taking-typed t across o g.value (IsAt-IsTyped t slots o ho) k.value k.plain.value) a.slots_are;
      lower = is_sound t slots row g.lower fit (taking-typed t across lower g.lower (IsAt-IsTyped t slots lower hl) k.low k.plain.lower) b.slots_are;
      upper = is_sound t slots row g.upper fit (taking-typed t across upper g.upper (IsAt-IsTyped t slots upper hu) k.up k.plain.upper) c.slots_are;
    } in
    let m = three_matched_by-stand t slots row (ptype_of g.value.ty) (ptype_of g.lower.ty) (ptype_of g.upper.ty) g s.given refl refl refl sound k.match in
    ap (λ (z : TypedTree). mean t slots row z.tree) (sym (same_answer (Ok (range_node s.given)) (range_node s.given) x refl s.gave))
    ∙ (mean-between t slots row s.given
    ∙ within-alike (mean t slots row s.given.value.tree) (mean t slots row s.given.lower.tree) (mean t slots row s.given.upper.tree)
    (value_at t slots row o) (value_at t slots row lower) (value_at t slots row upper) (m.value.means ∙ a.means) (m.lower.means ∙ b.means)
    (m.upper.means ∙ c.means))

pub negated_ranges_mean : NegatedRangesMean
negated_ranges_mean t slots row o lower upper x y fit ho hl hu h k =
    let v = value_at t slots row o in
    let l = value_at t slots row lower in
    let u = value_at t slots row upper in
    negation-means t slots row (known x) y k
    ∙ (ap not3 (ranges_mean t slots row o lower upper x fit ho hl hu h)
    ∙ (not3-and3 (compare3 Gte v l) (compare3 Lte v u)
    ∙ (ap (λ (z : Val). or3 z (not3 (compare3 Lte v u))) (not3-compare3 Gte v l) ∙ ap (or3 (compare3 Lt v l)) (not3-compare3 Lte v u))))
