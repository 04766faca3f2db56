-- What comparisons and sums mean.
use Rattle.std.proofs.Common.{◌≡◌, ℤ, refl, ap, sym, ◌∙◌, subst, Bool, true, false, cond, Option, Some, None, Ok}
use Rattle.std.specs.Prelude.{◌+ℤ◌, ◌-ℤ◌}
use Rattle.std.proofs.lemmas.Bool.{and_parts}
use Rattle.vx_dtype.specs.declared.PType.{PType}
use Rattle.vx_dtype.specs.declared.Nullability.{Nullability}
use Rattle.vx_dtype.specs.declared.Nullability.TheVariants.{NonNullable}
use Rattle.vx_dtype.specs.declared.CompareOperator.{CompareOperator}
use Rattle.vx_dtype.specs.Types.{Ty, int_ty}
use Rattle.vx_dtype.specs.TypeRules.{nullability_of, with_nullability, same_ptype, is_int_ty}
use Rattle.vx_dtype.specs.Values.{raw_int, Val, null_val, bool_val, int_val, text_val, list_val, struct_val, fault, valued}
use Rattle.vx_dtype.specs.Fits.{in_range, fits_but_for_faults}
use Rattle.vx_dtype.specs.Order.{compare3}
use Rattle.vx_dtype.specs.Sums.{int_in, add3, sub3}
use Rattle.vx_expr.specs.declared.Operator.{Operator}
use Rattle.vx_expr.specs.Operators.{operator_of}
use Rattle.vx_expr.specs.Trees.{Tree, binary, cast}
use Rattle.vx_semantics.specs.Typing.{union_of}
use Rattle.vx_semantics.specs.Meaning.{Slots, binary3, mean}
use Rattle.vx_semantics.specs.Slots.{slots_fit}
use Rattle.vx_laws.proofs.Comparing.{same_ptype-same, binary3-operator_of}
use Rattle.vx_laws.proofs.Preserving.{meaning_fits}
use Rattle.vx_laws_sql.specs.CommonTypes.{holds_type, common_type}
use Rattle.vx_laws_sql.specs.Operands.{TypedTree, Operand, known, number, untyped_null, no_number, where_it, type_alone, constant, null_of, taking, ptype_of}
use Rattle.vx_laws_sql.specs.Operands.{in_wider, widened_to, in_common, matched_by, both}
use Rattle.vx_laws_sql.specs.Forms.{truth_of, sum_node, sum_by}
use Rattle.vx_laws_sql.specs.Typing.{HasItsType, IsTyped}
use Rattle.vx_laws_sql.specs.Meaning.{plain_number, value_at, IsAt, ComparisonsMean, arithmetic, SumsMean, DifferencesMean}
use Rattle.vx_laws_sql.proofs.Steps.{stepped, passed, same_answer}
use Rattle.vx_laws_sql.proofs.Common.{common_holds_both}
use Rattle.vx_laws_sql.proofs.Typed.{number_across-is, taking-typed, ptype_of-is, alike_pair-is, both-is, both-matches}
use Rattle.vx_laws_sql.proofs.Numbers.{untyped, compare3-alike, cast-alike, arithmetic-alike}

pub IsAt-IsTyped : (t : Ty) (slots : Slots) (o : Operand) → IsAt t slots o → IsTyped t o
IsAt-IsTyped t slots (known e) h = h.0
IsAt-IsTyped t slots (number i) h = tt
IsAt-IsTyped t slots untyped_null h = tt

-- an expression at a row: slots fit it, and it means, but for integer types, what an operand is
pub record Stands (t : Ty) (slots : Slots) (row v : Val) (a : TypedTree) : Type 0 where
  pub slots_are : slots_fit slots a.tree ≡ true
  pub means : untyped (mean t slots row a.tree) ≡ untyped v

constant-stands : (t : Ty) (slots : Slots) (row : Val) (p : PType) (i : ℤ) → Stands t slots row (plain_number i) (constant (int_ty p NonNullable) (raw_int i))
unfolding mean valued slots_fit
constant-stands t slots row p i = record { slots_are = refl; means = refl }

null-stands : (t : Ty) (slots : Slots) (row : Val) (u : Ty) → Stands t slots row null_val (null_of u)
unfolding mean valued slots_fit
null-stands t slots row u = record { slots_are = refl; means = refl }

pub taking-stands : (t : Ty) (slots : Slots) (row : Val) (other o : Operand) (a : TypedTree) → IsAt t slots o → taking other o ≡ Ok a
    → Stands t slots row (value_at t slots row o) a
taking-stands t slots row other (known e) a at h = subst (λ (z : TypedTree). Stands t slots row (mean t slots row e.tree) z) (same_answer (Ok e) e a refl h)
    (record { slots_are = at.1; means = refl })
taking-stands t slots row other (number i) a at h =
    let k = number_across-is other i (type_alone other) a h in
    subst (λ (z : TypedTree). Stands t slots row (plain_number i) z) k.number.is (constant-stands t slots row k.ptype i)
taking-stands t slots row other untyped_null a at h =
    subst (λ (z : TypedTree). Stands t slots row null_val z) (same_answer (Ok (null_of (type_alone other))) (null_of (type_alone other)) a refl h)
    (null-stands t slots row (type_alone other))

-- a typed expression in a wider integer type
wider-stands : (t : Ty) (slots : Slots) (row : Val) (c p : PType) (n : Nullability) (e : Tree) (b : Bool) → holds_type c p ≡ true → slots_fit slots e ≡ true
    → fits_but_for_faults (mean t slots row e) (int_ty p n) ≡ true
    → Stands t slots row (mean t slots row e) (cond b (record { ty = int_ty p n; tree = e }) (record { ty = int_ty c n; tree = cast e (int_ty c n) }))
unfolding mean slots_fit
wider-stands t slots row c p n e true h s k = record { slots_are = s; means = refl }
wider-stands t slots row c p n e false h s k = record { slots_are = s; means = cast-alike c p n (mean t slots row e) h k }

in_wider-stands : (t : Ty) (slots : Slots) (row : Val) (c p : PType) (n : Nullability) (u : Ty) (e : Tree) → u ≡ int_ty p n → holds_type c p ≡ true
    → slots_fit slots e ≡ true
    → fits_but_for_faults (mean t slots row e) u ≡ true → Stands t slots row (mean t slots row e) (in_wider c u e)
in_wider-stands t slots row c p n u e is h s k =
    subst (λ (z : Ty). Stands t slots row (mean t slots row e) (in_wider c z e)) (sym is)
    (wider-stands t slots row c p n e (same_ptype p c) h s (subst (λ (z : Ty). fits_but_for_faults (mean t slots row e) z ≡ true) is k))

-- an expression that has its type, with slots that fit, at a row of the scope's type
pub record IsSound (t : Ty) (slots : Slots) (row : Val) (a : TypedTree) : Type 0 where
  pub slots_are : slots_fit slots a.tree ≡ true
  pub fits : fits_but_for_faults (mean t slots row a.tree) a.ty ≡ true

pub is_sound : (t : Ty) (slots : Slots) (row : Val) (a : TypedTree) → fits_but_for_faults row t ≡ true → HasItsType t a → slots_fit slots a.tree ≡ true
    → IsSound t slots row a
is_sound t slots row a row_fits has s = record { slots_are = s; fits = meaning_fits t slots row a.tree a.ty row_fits s has }

pub widened_to-stands : (t : Ty) (slots : Slots) (row : Val) (c p : PType) (a : TypedTree) → ptype_of a.ty ≡ Some p → holds_type c p ≡ true
    → IsSound t slots row a
    → Stands t slots row (mean t slots row a.tree) (widened_to c a)
widened_to-stands t slots row c p a is h k = in_wider-stands t slots row c p (nullability_of a.ty) a.ty a.tree (ptype_of-is a.ty p is) h k.slots_are k.fits

-- two expressions as they are compared mean, but for integer types, what the given ones mean
pub record StandBoth (t : Ty) (slots : Slots) (row v w : Val) (x : TypedTree × TypedTree) : Type 0 where
  pub left : Stands t slots row v x.0
  pub right : Stands t slots row w x.1

in_common-stand : (t : Ty) (slots : Slots) (row : Val) (p q : PType) (o : Option PType) (a b : TypedTree) (x : TypedTree × TypedTree) → common_type p q ≡ o
    → ptype_of a.ty ≡ Some p → ptype_of b.ty ≡ Some q → IsSound t slots row a → IsSound t slots row b → in_common p q o a b ≡ Ok x
    → StandBoth t slots row (mean t slots row a.tree) (mean t slots row b.tree) x
in_common-stand t slots row p q (Some c) a b x common ep eq ha hb h =
    let holds = common_holds_both p q c common in
    subst (λ (z : TypedTree × TypedTree). StandBoth t slots row (mean t slots row a.tree) (mean t slots row b.tree) z)
    (same_answer (Ok (widened_to c a, widened_to c b)) (widened_to c a, widened_to c b) x refl h)
    (record { left = widened_to-stands t slots row c p a ep holds.0 ha; right = widened_to-stands t slots row c q b eq holds.1 hb })
in_common-stand t slots row p q None a b x common ep eq ha hb h = let no : ⊥ = cc (h) in absurd no

alike_pair-stand : (t : Ty) (slots : Slots) (row : Val) (a b : TypedTree) (x : TypedTree × TypedTree) → IsSound t slots row a → IsSound t slots row b
    → (a, b) ≡ x
    → StandBoth t slots row (mean t slots row a.tree) (mean t slots row b.tree) x
alike_pair-stand t slots row a b x ha hb is =
    subst (λ (z : TypedTree × TypedTree). StandBoth t slots row (mean t slots row a.tree) (mean t slots row b.tree) z) is
    (record { left = record { slots_are = ha.slots_are; means = refl }; right = record { slots_are = hb.slots_are; means = refl } })

matched_by-stand : (t : Ty) (slots : Slots) (row : Val) (p q : Option PType) (a b : TypedTree) (x : TypedTree × TypedTree) → ptype_of a.ty ≡ p
    → ptype_of b.ty ≡ q
    → IsSound t slots row a → IsSound t slots row b → matched_by p q a b ≡ Ok x → StandBoth t slots row (mean t slots row a.tree) (mean t slots row b.tree) x
matched_by-stand t slots row (Some p) (Some q) a b x ep eq ha hb h = in_common-stand t slots row p q (common_type p q) a b x refl ep eq ha hb h
matched_by-stand t slots row None q a b x ep eq ha hb h = alike_pair-stand t slots row a b x ha hb (alike_pair-is a b x h).is
matched_by-stand t slots row (Some p) None a b x ep eq ha hb h = alike_pair-stand t slots row a b x ha hb (alike_pair-is a b x h).is

pub both-stand : (t : Ty) (slots : Slots) (row : Val) (l r : Operand) (x : TypedTree × TypedTree) → fits_but_for_faults row t ≡ true → IsAt t slots l
    → IsAt t slots r → both l r ≡ Ok x
    → StandBoth t slots row (value_at t slots row l) (value_at t slots row r) x
both-stand t slots row l r x row_fits hl hr h =
    let k = both-is l r x h in
    let a = taking-stands t slots row r l k.first hl k.left in
    let b = taking-stands t slots row l r k.second hr k.right in
    let sa = is_sound t slots row k.first row_fits (taking-typed t r l k.first (IsAt-IsTyped t slots l hl) k.left k.plain.0) a.slots_are in
    let sb = is_sound t slots row k.second row_fits (taking-typed t l r k.second (IsAt-IsTyped t slots r hr) k.right k.plain.1) b.slots_are in
    let m = matched_by-stand t slots row (ptype_of k.first.ty) (ptype_of k.second.ty) k.first k.second x refl refl sa sb k.match in
    record {
      left = record { slots_are = m.left.slots_are; means = m.left.means ∙ a.means };
      right = record { slots_are = m.right.slots_are; means = m.right.means ∙ b.means };
    }

mean-compare : (t : Ty) (slots : Slots) (row : Val) (op : CompareOperator) (a b : Tree)
    → mean t slots row (binary a (operator_of op) b) ≡ compare3 op (mean t slots row a) (mean t slots row b)
unfolding mean
mean-compare t slots row op a b = binary3-operator_of op (mean t slots row a) (mean t slots row b)

pub comparisons_mean : ComparisonsMean
comparisons_mean op t slots row l r x row_fits hl hr h =
    let s = stepped (both l r) (λ y. Ok (truth_of y.0.ty y.1.ty (binary y.0.tree (operator_of op) y.1.tree))) x h in
    let k = both-stand t slots row l r s.given row_fits hl hr s.was in
    let a = s.given.0.tree in
    let b = s.given.1.tree in
    let made = truth_of s.given.0.ty s.given.1.ty (binary a (operator_of op) b) in
    ap (λ (z : TypedTree). mean t slots row z.tree) (sym (same_answer (Ok made) made x refl s.gave))
    ∙ (mean-compare t slots row op a b
    ∙ compare3-alike op (mean t slots row a) (mean t slots row b) (value_at t slots row l) (value_at t slots row r) k.left.means k.right.means)

-- ---- sums

add-arithmetic : (c : PType) (n m : Nullability) (v w : Val) → fits_but_for_faults v (int_ty c n) ≡ true
    → add3 v w ≡ arithmetic (λ a b. a +ℤ b) (int_ty c m) v w
unfolding fits_but_for_faults
add-arithmetic c n m (int_val q i) (int_val r j) h = ap (λ (z : PType). int_in z (i +ℤ j)) (same_ptype-same q c (and_parts (same_ptype q c) (in_range c i) h).0)
add-arithmetic c n m (int_val q i) null_val h = refl
add-arithmetic c n m (int_val q i) (bool_val b) h = refl
add-arithmetic c n m (int_val q i) (text_val s) h = refl
add-arithmetic c n m (int_val q i) (list_val xs) h = refl
add-arithmetic c n m (int_val q i) (struct_val ms) h = refl
add-arithmetic c n m (int_val q i) fault h = refl
add-arithmetic c n m null_val (int_val r j) h = refl
add-arithmetic c n m null_val null_val h = refl
add-arithmetic c n m null_val (bool_val b) h = refl
add-arithmetic c n m null_val (text_val s) h = refl
add-arithmetic c n m null_val (list_val xs) h = refl
add-arithmetic c n m null_val (struct_val ms) h = refl
add-arithmetic c n m null_val fault h = refl
add-arithmetic c n m fault w h = refl
add-arithmetic c n m _ w h = let no : ⊥ = cc (h) in absurd no

sub-arithmetic : (c : PType) (n m : Nullability) (v w : Val) → fits_but_for_faults v (int_ty c n) ≡ true
    → sub3 v w ≡ arithmetic (λ a b. a -ℤ b) (int_ty c m) v w
unfolding fits_but_for_faults
sub-arithmetic c n m (int_val q i) (int_val r j) h = ap (λ (z : PType). int_in z (i -ℤ j)) (same_ptype-same q c (and_parts (same_ptype q c) (in_range c i) h).0)
sub-arithmetic c n m (int_val q i) null_val h = refl
sub-arithmetic c n m (int_val q i) (bool_val b) h = refl
sub-arithmetic c n m (int_val q i) (text_val s) h = refl
sub-arithmetic c n m (int_val q i) (list_val xs) h = refl
sub-arithmetic c n m (int_val q i) (struct_val ms) h = refl
sub-arithmetic c n m (int_val q i) fault h = refl
sub-arithmetic c n m null_val (int_val r j) h = refl
sub-arithmetic c n m null_val null_val h = refl
sub-arithmetic c n m null_val (bool_val b) h = refl
sub-arithmetic c n m null_val (text_val s) h = refl
sub-arithmetic c n m null_val (list_val xs) h = refl
sub-arithmetic c n m null_val (struct_val ms) h = refl
sub-arithmetic c n m null_val fault h = refl
sub-arithmetic c n m fault w h = refl
sub-arithmetic c n m _ w h = let no : ⊥ = cc (h) in absurd no

-- an operator on two values of an integer type is a rule on their numbers
abbrev pub IsArithmetic : Operator → (ℤ → ℤ → ℤ) → Type 0
IsArithmetic op rule = (c : PType) (n m : Nullability) (v w : Val) → fits_but_for_faults v (int_ty c n) ≡ true
    → binary3 op v w ≡ arithmetic rule (int_ty c m) v w

in_int_type : (op : Operator) (rule : ℤ → ℤ → ℤ) → IsArithmetic op rule → (u : Ty) (m : Nullability) (v w : Val) → is_int_ty u ≡ true
    → fits_but_for_faults v u ≡ true
    → binary3 op v w ≡ arithmetic rule (with_nullability u m) v w
in_int_type op rule is (int_ty c n) m v w h k = is c n m v w k
in_int_type op rule is _ m v w h k = let no : ⊥ = cc (h) in absurd no

pub mean-binary : (t : Ty) (slots : Slots) (row : Val) (op : Operator) (a b : Tree)
    → mean t slots row (binary a op b) ≡ binary3 op (mean t slots row a) (mean t slots row b)
unfolding mean
mean-binary t slots row op a b = refl

sum_by-means : (op : Operator) (rule : ℤ → ℤ → ℤ) → IsArithmetic op rule → (t : Ty) (slots : Slots) (row : Val) (l r : Operand) (x : TypedTree)
    → fits_but_for_faults row t ≡ true → IsAt t slots l → IsAt t slots r → sum_by op l r ≡ Ok x
    → mean t slots row x.tree ≡ arithmetic rule x.ty (value_at t slots row l) (value_at t slots row r)
sum_by-means op rule is_rule t slots row l r x row_fits hl hr h =
    let s = stepped (both l r) (λ y. where_it (is_int_ty y.0.ty) (no_number (known y.0)) (Ok (sum_node op y))) x h in
    let k = both-stand t slots row l r s.given row_fits hl hr s.was in
    let m = both-matches t l r s.given (IsAt-IsTyped t slots l hl) (IsAt-IsTyped t slots r hr) s.was in
    let p = passed (is_int_ty s.given.0.ty) (no_number (known s.given.0)) (Ok (sum_node op s.given)) x s.gave in
    let is = same_answer (Ok (sum_node op s.given)) (sum_node op s.given) x refl p.gave in
    let a = mean t slots row s.given.0.tree in
    let b = mean t slots row s.given.1.tree in
    let sound = is_sound t slots row s.given.0 row_fits m.left k.left.slots_are in
    let u = with_nullability s.given.0.ty (union_of s.given.0.ty s.given.1.ty) in
    subst (λ (z : TypedTree). mean t slots row z.tree ≡ arithmetic rule z.ty (value_at t slots row l) (value_at t slots row r)) is
    (mean-binary t slots row op s.given.0.tree s.given.1.tree
    ∙ (in_int_type op rule is_rule s.given.0.ty (union_of s.given.0.ty s.given.1.ty) a b p.holds sound.fits
    ∙ arithmetic-alike rule u a b (value_at t slots row l) (value_at t slots row r) k.left.means k.right.means))

pub sums_mean : SumsMean
sums_mean = sum_by-means Operator.Add (λ a b. a +ℤ b) add-arithmetic

pub differences_mean : DifferencesMean
differences_mean = sum_by-means Operator.Sub (λ a b. a -ℤ b) sub-arithmetic
