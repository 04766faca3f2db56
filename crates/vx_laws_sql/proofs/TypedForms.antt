-- What sums, connectives, null tests, patterns, ranges and casts give is strictly typed.
use Rattle.std.proofs.Common.{◌≡◌, ℤ, refl, ap, ◌∙◌, subst, Bool, true, false, ◌&&◌, Option, Some, None, Result, Ok, Err}
use Rattle.std.proofs.lemmas.Bool.{and_parts, and_from}
use Rattle.vx_dtype.specs.declared.PType.{PType}
use Rattle.vx_dtype.specs.declared.Nullability.{Nullability}
use Rattle.vx_dtype.specs.declared.Nullability.TheVariants.{NonNullable, Nullable}
use Rattle.vx_dtype.specs.Types.{Ty, bool_ty, int_ty, text_ty, list_ty, struct_ty}
use Rattle.vx_dtype.specs.TypeRules.{union, nullability_of, with_nullability, widened, alike, is_plain, is_bool_ty, is_int_ty, is_text_ty}
use Rattle.vx_dtype.specs.Values.{raw_int}
use Rattle.vx_dtype.specs.Fits.{fits}
use Rattle.vx_dtype.specs.ScalarAnswers.{typed}
use Rattle.vx_dtype.specs.Casts.{takes_cast}
use Rattle.vx_expr.specs.declared.Operator.{Operator}
use Rattle.vx_expr.specs.Trees.{Tree, binary, not_of, is_null_of, like}
use Rattle.vx_semantics.specs.Typing.{Refusal, type_mismatch, and_then, unless, union_of, equal_plain, binary_type, not_type, like_type, between_type, typed_of}
use Rattle.vx_laws_sql.specs.CommonTypes.{common_type, common_of_three}
use Rattle.vx_laws_sql.specs.Operands.{TypedTree, Operand, known, number, untyped_null, other_kinds, not_plain, no_boolean, no_text, no_number, no_cast}
use Rattle.vx_laws_sql.specs.Operands.{◌>>=◌, where_it, constant, null_of, taking, alone, ptype_of, widened_to, in_common, both}
use Rattle.vx_laws_sql.specs.Forms.{truth_of, sum_node, sum_by, as_boolean, as_text, connective, pattern_test}
use Rattle.vx_laws_sql.specs.Forms.{InRange, alike_three, three_in_common, three_matched_by, three_matched, range_node, ranged, first_known, cast_node}
use Rattle.vx_laws_sql.specs.Forms.{wrong_number}
use Rattle.vx_laws_sql.specs.Typing.{HasItsType, IsTest, IsTyped, ConjunctionsAreTests, DisjunctionsAreTests, NegationsAreTests, NullTestsAreTests}
use Rattle.vx_laws_sql.specs.Typing.{NotNullTestsAreTests, PatternsAreTests, RangesAreTests, SumsAreTyped, DifferencesAreTyped, CastsAreTyped}
use Rattle.vx_laws_sql.proofs.Steps.{stepped, passed, same_answer}
use Rattle.vx_semantics.specs.Typing.{sum_type, logic_type}
use Rattle.vx_laws_sql.proofs.Typed.{constant-typed, plain-no_name_twice, null_of-typed, taking-typed, alone-typed, widened_to-typed, ints-equal, int-plain}
use Rattle.vx_laws_sql.proofs.Typed.{cast-typed, both-matches, binary-typed}

-- ---- sums

sum_by-typed : (op : Operator) → ((a b : Ty) → binary_type op a b ≡ sum_type a b) → (t : Ty) (l r : Operand) (x : TypedTree) → IsTyped t l → IsTyped t r
    → sum_by op l r ≡ Ok x → HasItsType t x
sum_by-typed op is_sum t l r x hl hr h =
    let s = stepped (both l r) (λ y. where_it (is_int_ty y.0.ty) (no_number (known y.0)) (Ok (sum_node op y))) x h in
    let m = both-matches t l r s.given hl hr s.was in
    let p = passed (is_int_ty s.given.0.ty) (no_number (known s.given.0)) (Ok (sum_node op s.given)) x s.gave in
    let is = same_answer (Ok (sum_node op s.given)) (sum_node op s.given) x refl p.gave in
    let a = s.given.0.ty in
    let b = s.given.1.ty in
    let u = with_nullability a (union_of a b) in
    let parts = and_parts (alike a b) (is_plain a) m.plain in
    let sums : sum_type a b ≡ Ok u = ap (λ (z : Bool). unless z type_mismatch (Ok u)) (and_from (alike a b) (is_int_ty a) parts.0 p.holds) in
    subst (λ (z : TypedTree). HasItsType t z) is (binary-typed t s.given.0 s.given.1 op u m.left m.right (is_sum a b ∙ sums))

pub sums_are_typed : SumsAreTyped
sums_are_typed = sum_by-typed Operator.Add (λ a b. refl)

pub differences_are_typed : DifferencesAreTyped
differences_are_typed = sum_by-typed Operator.Sub (λ a b. refl)

-- ---- connectives

pub as_boolean-typed : (t : Ty) (o : Operand) (a : TypedTree) → IsTyped t o → as_boolean o ≡ Ok a → IsTest t a
as_boolean-typed t (known e) a typed h =
    let k = passed (is_bool_ty e.ty) (no_boolean (known e)) (Ok e) a h in
    subst (λ (z : TypedTree). IsTest t z) (same_answer (Ok e) e a refl k.gave) (typed, k.holds)
as_boolean-typed t (number i) a typed h = let no : ⊥ = cc (h) in absurd no
as_boolean-typed t untyped_null a typed h =
    subst (λ (z : TypedTree). IsTest t z) (same_answer (Ok (null_of (bool_ty Nullable))) (null_of (bool_ty Nullable)) a refl h)
    (null_of-typed t (bool_ty Nullable) refl, refl)

pub as_text-typed : (t : Ty) (o : Operand) (a : TypedTree) → IsTyped t o → as_text o ≡ Ok a → HasItsType t a × (is_text_ty a.ty ≡ true)
as_text-typed t (known e) a typed h =
    let k = passed (is_text_ty e.ty) (no_text (known e)) (Ok e) a h in
    subst (λ (z : TypedTree). HasItsType t z × (is_text_ty z.ty ≡ true)) (same_answer (Ok e) e a refl k.gave) (typed, k.holds)
as_text-typed t (number i) a typed h = let no : ⊥ = cc (h) in absurd no
as_text-typed t untyped_null a typed h =
    subst (λ (z : TypedTree). HasItsType t z × (is_text_ty z.ty ≡ true)) (same_answer (Ok (null_of (text_ty Nullable))) (null_of (text_ty Nullable)) a refl h)
    (null_of-typed t (text_ty Nullable) refl, refl)

-- two operands of a connective, and what it gives
pub record IsConnective (op : Operator) (l r : Operand) (x : TypedTree) : Type 0 where
  pub first : TypedTree
  pub second : TypedTree
  pub left : as_boolean l ≡ Ok first
  pub right : as_boolean r ≡ Ok second
  pub is : truth_of first.ty second.ty (binary first.tree op second.tree) ≡ x

pub connective-is : (op : Operator) (l r : Operand) (x : TypedTree) → connective op l r ≡ Ok x → IsConnective op l r x
connective-is op l r x h =
    let a = stepped (as_boolean l) (λ a. as_boolean r >>= λ b. Ok (truth_of a.ty b.ty (binary a.tree op b.tree))) x h in
    let b = stepped (as_boolean r) (λ b. Ok (truth_of a.given.ty b.ty (binary a.given.tree op b.tree))) x a.gave in
    let made = truth_of a.given.ty b.given.ty (binary a.given.tree op b.given.tree) in
    record { first = a.given; second = b.given; left = a.was; right = b.was; is = same_answer (Ok made) made x refl b.gave }

connective-typed : (op : Operator) → ((a b : Ty) → binary_type op a b ≡ logic_type a b) → (t : Ty) (l r : Operand) (x : TypedTree) → IsTyped t l → IsTyped t r
    → connective op l r ≡ Ok x → IsTest t x
connective-typed op is_logic t l r x hl hr h =
    let k = connective-is op l r x h in
    let a = as_boolean-typed t l k.first hl k.left in
    let b = as_boolean-typed t r k.second hr k.right in
    let u = bool_ty (union_of k.first.ty k.second.ty) in
    let logic : logic_type k.first.ty k.second.ty ≡ Ok u =
    ap (λ (z : Bool). unless z type_mismatch (Ok u)) (and_from (is_bool_ty k.first.ty) (is_bool_ty k.second.ty) a.1 b.1) in
    subst (λ (z : TypedTree). IsTest t z) k.is (binary-typed t k.first k.second op u a.0 b.0 (is_logic k.first.ty k.second.ty ∙ logic), refl)

pub conjunctions_are_tests : ConjunctionsAreTests
conjunctions_are_tests = connective-typed Operator.And (λ a b. refl)

pub disjunctions_are_tests : DisjunctionsAreTests
disjunctions_are_tests = connective-typed Operator.Or (λ a b. refl)

not-typed : (t u : Ty) (e : Tree) → typed_of t e ≡ Ok u → is_bool_ty u ≡ true → typed_of t (not_of e) ≡ Ok u
unfolding typed_of
not-typed t u e h k = ap (λ (r : Result Ty Refusal). and_then r not_type) h ∙ ap (λ (z : Bool). unless z type_mismatch (Ok u)) k

pub negations_are_tests : NegationsAreTests
negations_are_tests t o x ho h =
    let s = stepped (as_boolean o) (λ e. Ok (record { ty = e.ty; tree = not_of e.tree })) x h in
    let a = as_boolean-typed t o s.given ho s.was in
    let made : TypedTree = record { ty = s.given.ty; tree = not_of s.given.tree } in
    subst (λ (z : TypedTree). IsTest t z) (same_answer (Ok made) made x refl s.gave) (not-typed t s.given.ty s.given.tree a.0 a.1, a.1)

-- ---- null tests

is_null-typed : (t u : Ty) (e : Tree) → typed_of t e ≡ Ok u → typed_of t (is_null_of e) ≡ Ok (bool_ty NonNullable)
unfolding typed_of
is_null-typed t u e h = ap (λ (r : Result Ty Refusal). and_then r (λ a. Ok (bool_ty NonNullable))) h

pub null_tests_are_tests : NullTestsAreTests
null_tests_are_tests t o x ho h =
    let s = stepped (alone o) (λ e. Ok (record { ty = bool_ty NonNullable; tree = is_null_of e.tree })) x h in
    let made : TypedTree = record { ty = bool_ty NonNullable; tree = is_null_of s.given.tree } in
    subst (λ (z : TypedTree). IsTest t z) (same_answer (Ok made) made x refl s.gave)
    (is_null-typed t s.given.ty s.given.tree (alone-typed t o s.given ho s.was), refl)

pub not_null_tests_are_tests : NotNullTestsAreTests
not_null_tests_are_tests t o x ho h =
    let s = stepped (alone o) (λ e. Ok (record { ty = bool_ty NonNullable; tree = not_of (is_null_of e.tree) })) x h in
    let made : TypedTree = record { ty = bool_ty NonNullable; tree = not_of (is_null_of s.given.tree) } in
    let inner = is_null-typed t s.given.ty s.given.tree (alone-typed t o s.given ho s.was) in
    subst (λ (z : TypedTree). IsTest t z) (same_answer (Ok made) made x refl s.gave)
    (not-typed t (bool_ty NonNullable) (is_null_of s.given.tree) inner refl, refl)

-- ---- patterns

like-typed : (t : Ty) (a b : TypedTree) → HasItsType t a → HasItsType t b → is_text_ty a.ty && is_text_ty b.ty ≡ true
    → typed_of t (like a.tree b.tree false false) ≡ Ok (bool_ty (union_of a.ty b.ty))
unfolding typed_of
like-typed t a b ha hb h =
    ap (λ (r : Result Ty Refusal). and_then r (λ z. and_then (typed_of t b.tree) (like_type z))) ha
    ∙ (ap (λ (r : Result Ty Refusal). and_then r (like_type a.ty)) hb ∙ ap (λ (z : Bool). unless z type_mismatch (Ok (bool_ty (union_of a.ty b.ty)))) h)

-- the two operands of a pattern test, and what it gives
pub record IsPattern (l r : Operand) (x : TypedTree) : Type 0 where
  pub first : TypedTree
  pub second : TypedTree
  pub left : as_text l ≡ Ok first
  pub right : as_text r ≡ Ok second
  pub is : truth_of first.ty second.ty (like first.tree second.tree false false) ≡ x

pub pattern-is : (l r : Operand) (x : TypedTree) → pattern_test l r ≡ Ok x → IsPattern l r x
pattern-is l r x h =
    let a = stepped (as_text l) (λ a. as_text r >>= λ b. Ok (truth_of a.ty b.ty (like a.tree b.tree false false))) x h in
    let b = stepped (as_text r) (λ b. Ok (truth_of a.given.ty b.ty (like a.given.tree b.tree false false))) x a.gave in
    let made = truth_of a.given.ty b.given.ty (like a.given.tree b.given.tree false false) in
    record { first = a.given; second = b.given; left = a.was; right = b.was; is = same_answer (Ok made) made x refl b.gave }

pub patterns_are_tests : PatternsAreTests
patterns_are_tests t l r x hl hr h =
    let k = pattern-is l r x h in
    let a = as_text-typed t l k.first hl k.left in
    let b = as_text-typed t r k.second hr k.right in
    subst (λ (z : TypedTree). IsTest t z) k.is (like-typed t k.first k.second a.0 b.0 (and_from (is_text_ty k.first.ty) (is_text_ty k.second.ty) a.1 b.1), refl)

-- ---- casts

takes_cast-widened : (a u : Ty) (n : Nullability) → takes_cast a u ≡ true → takes_cast a (widened u n) ≡ true
takes_cast-widened (bool_ty m) (bool_ty k) n h = refl
takes_cast-widened (int_ty p m) (int_ty q k) n h = refl
takes_cast-widened (text_ty m) (text_ty k) n h = refl
takes_cast-widened _ _ n h = let no : ⊥ = cc (h) in absurd no

int_fit-plain : (u : Ty) (i : ℤ) → fits (raw_int i) u ≡ true → is_plain u ≡ true
unfolding fits
int_fit-plain (int_ty p n) i h = refl
int_fit-plain _ i h = let no : ⊥ = cc (h) in absurd no

nullable-plain : (u : Ty) → is_plain u ≡ true → is_plain (with_nullability u Nullable) ≡ true
nullable-plain (bool_ty n) h = refl
nullable-plain (int_ty p n) h = refl
nullable-plain (text_ty n) h = refl
nullable-plain _ h = let no : ⊥ = cc (h) in absurd no

pub casts_are_typed : CastsAreTyped
casts_are_typed target t (known e) x ho h =
    let k = passed (takes_cast e.ty target) (no_cast (known e) target) (Ok (cast_node target e)) x h in
    subst (λ (z : TypedTree). HasItsType t z) (same_answer (Ok (cast_node target e)) (cast_node target e) x refl k.gave)
    (cast-typed t e.ty (widened target (nullability_of e.ty)) e.tree ho (takes_cast-widened e.ty target (nullability_of e.ty) k.holds))
casts_are_typed target t (number i) x ho h =
    let k = passed (fits (raw_int i) target) (wrong_number i target) (Ok (constant target (raw_int i))) x h in
    subst (λ (z : TypedTree). HasItsType t z) (same_answer (Ok (constant target (raw_int i))) (constant target (raw_int i)) x refl k.gave)
    (constant-typed t target (raw_int i) (plain-no_name_twice target (int_fit-plain target i k.holds)) k.holds)
casts_are_typed target t untyped_null x ho h =
    let k = passed (is_plain target) (no_cast untyped_null target) (Ok (null_of target)) x h in
    subst (λ (z : TypedTree). HasItsType t z) (same_answer (Ok (null_of target)) (null_of target) x refl k.gave)
    (null_of-typed t target (nullable-plain target k.holds))

-- ---- ranges

-- three expressions as they stand in a range: each has its type, and these are equal plain types
pub record IsThree (t : Ty) (x : InRange) : Type 0 where
  pub value : HasItsType t x.value
  pub lower : HasItsType t x.lower
  pub upper : HasItsType t x.upper
  pub low_plain : equal_plain x.value.ty x.lower.ty ≡ true
  pub up_plain : equal_plain x.value.ty x.upper.ty ≡ true

three_in_common-matches : (t : Ty) (p q r : PType) (c : Option PType) (a x : InRange) → ptype_of a.value.ty ≡ Some p → ptype_of a.lower.ty ≡ Some q
    → ptype_of a.upper.ty ≡ Some r
    → HasItsType t a.value → HasItsType t a.lower → HasItsType t a.upper → three_in_common p q r c a ≡ Ok x → IsThree t x
three_in_common-matches t p q r (Some c) a x ep eq er ha hb hc h =
    let made : InRange = record { value = widened_to c a.value; lower = widened_to c a.lower; upper = widened_to c a.upper } in
    let v = widened_to-typed t c p a.value ep ha in
    let l = widened_to-typed t c q a.lower eq hb in
    let u = widened_to-typed t c r a.upper er hc in
    subst (λ (z : InRange). IsThree t z) (same_answer (Ok made) made x refl h)
    (record {
      value = v.has;
      lower = l.has;
      upper = u.has;
      low_plain = ints-equal c (nullability_of a.value.ty) (nullability_of a.lower.ty) made.value.ty made.lower.ty v.is l.is;
      up_plain = ints-equal c (nullability_of a.value.ty) (nullability_of a.upper.ty) made.value.ty made.upper.ty v.is u.is;
    })
three_in_common-matches t p q r None a x ep eq er ha hb hc h = let no : ⊥ = cc (h) in absurd no

-- what passes as three of one plain type
pub record AreAlike (a x : InRange) : Type 0 where
  pub plain : is_plain a.value.ty ≡ true
  pub low : alike a.value.ty a.lower.ty ≡ true
  pub up : alike a.value.ty a.upper.ty ≡ true
  pub is : a ≡ x

pub alike_three-is : (a x : InRange) → alike_three a ≡ Ok x → AreAlike a x
alike_three-is a x h =
    let third = where_it (alike a.value.ty a.upper.ty) (other_kinds (known a.value) (known a.upper)) (Ok a) in
    let k = passed (is_plain a.value.ty) (not_plain (known a.value))
    (where_it (alike a.value.ty a.lower.ty) (other_kinds (known a.value) (known a.lower)) third) x h in
    let l = passed (alike a.value.ty a.lower.ty) (other_kinds (known a.value) (known a.lower)) third x k.gave in
    let m = passed (alike a.value.ty a.upper.ty) (other_kinds (known a.value) (known a.upper)) (Ok a) x l.gave in
    record { plain = k.holds; low = l.holds; up = m.holds; is = same_answer (Ok a) a x refl m.gave }

alike-plain : (a b : Ty) → alike a b ≡ true → is_plain a ≡ true → is_plain b ≡ true
unfolding alike
alike-plain (bool_ty n) (bool_ty m) h k = refl
alike-plain (int_ty p n) (int_ty q m) h k = refl
alike-plain (text_ty n) (text_ty m) h k = refl
alike-plain (list_ty e n) b h k = let no : ⊥ = cc (k) in absurd no
alike-plain (struct_ty fs n) b h k = let no : ⊥ = cc (k) in absurd no
alike-plain _ _ h k = let no : ⊥ = cc (h) in absurd no

-- the three are plain
pub record ArePlain (a : InRange) : Type 0 where
  pub value : is_plain a.value.ty ≡ true
  pub lower : is_plain a.lower.ty ≡ true
  pub upper : is_plain a.upper.ty ≡ true

alike_three-plain : (a x : InRange) → alike_three a ≡ Ok x → ArePlain a
alike_three-plain a x h =
    let k = alike_three-is a x h in
    record { value = k.plain; lower = alike-plain a.value.ty a.lower.ty k.low k.plain; upper = alike-plain a.value.ty a.upper.ty k.up k.plain }

-- two integers and an operand of another kind are refused
pub integers_with_another : (p q : PType) (a x : InRange) → three_matched_by (Some p) (Some q) None a ≡ Ok x → ⊥
integers_with_another p q a x h =
    let s = stepped (in_common p q (common_type p q) a.value a.lower) (λ y. Err (other_kinds (known a.value) (known a.upper))) x h in
    cc (s.gave)

three_matched_by-plain : (p q r : Option PType) (a x : InRange) → ptype_of a.value.ty ≡ p → ptype_of a.lower.ty ≡ q → ptype_of a.upper.ty ≡ r
    → three_matched_by p q r a ≡ Ok x → ArePlain a
three_matched_by-plain (Some p) (Some q) (Some r) a x ep eq er h =
    record { value = int-plain a.value.ty p ep; lower = int-plain a.lower.ty q eq; upper = int-plain a.upper.ty r er }
three_matched_by-plain None q r a x ep eq er h = alike_three-plain a x h
three_matched_by-plain (Some p) None r a x ep eq er h = alike_three-plain a x h
three_matched_by-plain (Some p) (Some q) None a x ep eq er h = absurd (integers_with_another p q a x h)

alike_three-matches : (t : Ty) (a x : InRange) → HasItsType t a.value → HasItsType t a.lower → HasItsType t a.upper → alike_three a ≡ Ok x → IsThree t x
alike_three-matches t a x ha hb hc h =
    let k = alike_three-is a x h in
    subst (λ (z : InRange). IsThree t z) k.is
    (record {
      value = ha;
      lower = hb;
      upper = hc;
      low_plain = and_from (alike a.value.ty a.lower.ty) (is_plain a.value.ty) k.low k.plain;
      up_plain = and_from (alike a.value.ty a.upper.ty) (is_plain a.value.ty) k.up k.plain;
    })

three_matched_by-matches : (t : Ty) (p q r : Option PType) (a x : InRange) → ptype_of a.value.ty ≡ p → ptype_of a.lower.ty ≡ q → ptype_of a.upper.ty ≡ r
    → HasItsType t a.value → HasItsType t a.lower → HasItsType t a.upper → three_matched_by p q r a ≡ Ok x → IsThree t x
three_matched_by-matches t (Some p) (Some q) (Some r) a x ep eq er ha hb hc h = three_in_common-matches t p q r (common_of_three p q r) a x ep eq er ha hb hc h
three_matched_by-matches t None q r a x ep eq er ha hb hc h = alike_three-matches t a x ha hb hc h
three_matched_by-matches t (Some p) None r a x ep eq er ha hb hc h = alike_three-matches t a x ha hb hc h
three_matched_by-matches t (Some p) (Some q) None a x ep eq er ha hb hc h = absurd (integers_with_another p q a x h)

-- the three operands as they stand in the range, and where they come from
pub record AreRanged (across o lower upper : Operand) (x : InRange) : Type 0 where
  pub given : InRange
  pub value : taking across o ≡ Ok given.value
  pub low : taking across lower ≡ Ok given.lower
  pub up : taking across upper ≡ Ok given.upper
  pub match : three_matched given ≡ Ok x
  pub plain : ArePlain given

pub ranged-is : (across o lower upper : Operand) (x : InRange) → ranged across o lower upper ≡ Ok x → AreRanged across o lower upper x
ranged-is across o lower upper x h =
    let a = stepped (taking across o)
    (λ a. taking across lower >>= λ b. taking across upper >>= λ c. three_matched (record { value = a; lower = b; upper = c })) x h in
    let b = stepped (taking across lower) (λ b. taking across upper >>= λ c. three_matched (record { value = a.given; lower = b; upper = c })) x a.gave in
    let c = stepped (taking across upper) (λ c. three_matched (record { value = a.given; lower = b.given; upper = c })) x b.gave in
    let three : InRange = record { value = a.given; lower = b.given; upper = c.given } in
    record {
      given = three;
      value = a.was;
      low = b.was;
      up = c.was;
      match = c.gave;
      plain = three_matched_by-plain (ptype_of three.value.ty) (ptype_of three.lower.ty) (ptype_of three.upper.ty) three x refl refl refl c.gave;
    }

between-typed : (t : Ty) (x : InRange) → IsThree t x → HasItsType t (range_node x)
unfolding typed_of
between-typed t x k =
    let u = bool_ty (union (nullability_of x.value.ty) (union_of x.lower.ty x.upper.ty)) in
    ap (λ (r : Result Ty Refusal). and_then r (λ a. and_then (typed_of t x.lower.tree) (λ b. and_then (typed_of t x.upper.tree) (between_type a b)))) k.value
    ∙ (ap (λ (r : Result Ty Refusal). and_then r (λ b. and_then (typed_of t x.upper.tree) (between_type x.value.ty b))) k.lower
    ∙ (ap (λ (r : Result Ty Refusal). and_then r (between_type x.value.ty x.lower.ty)) k.upper
    ∙ ap (λ (z : Bool). unless z type_mismatch (Ok u))
    (and_from (equal_plain x.value.ty x.lower.ty) (equal_plain x.value.ty x.upper.ty) k.low_plain k.up_plain)))

pub ranges_are_tests : RangesAreTests
ranges_are_tests t o lower upper x ho hl hu h =
    let across = first_known o (first_known lower upper) in
    let s = stepped (ranged across o lower upper) (λ y. Ok (range_node y)) x h in
    let k = ranged-is across o lower upper s.given s.was in
    let m = three_matched_by-matches t (ptype_of k.given.value.ty) (ptype_of k.given.lower.ty) (ptype_of k.given.upper.ty) k.given s.given refl refl refl
    (taking-typed t across o k.given.value ho k.value k.plain.value) (taking-typed t across lower k.given.lower hl k.low k.plain.lower)
    (taking-typed t across upper k.given.upper hu k.up k.plain.upper) k.match in
    subst (λ (z : TypedTree). IsTest t z) (same_answer (Ok (range_node s.given)) (range_node s.given) x refl s.gave) (between-typed t s.given m, refl)
