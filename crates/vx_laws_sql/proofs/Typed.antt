-- What the forms give is strictly typed.
use Rattle.std.proofs.Common.{◌≡◌, ℤ, refl, ap, sym, ◌∙◌, subst, Bool, true, false, cond, ◌&&◌, Option, Some, None, Result, Ok}
use Rattle.std.proofs.lemmas.Bool.{and_from}
use Rattle.vx_dtype.specs.declared.PType.{PType}
use Rattle.vx_dtype.specs.declared.PType.TheVariants.{I64}
use Rattle.vx_dtype.specs.declared.Nullability.{Nullability}
use Rattle.vx_dtype.specs.declared.Nullability.TheVariants.{NonNullable, Nullable}
use Rattle.vx_dtype.specs.declared.CompareOperator.{CompareOperator}
use Rattle.vx_dtype.specs.declared.CompareOperator.TheVariants.{Eq, NotEq, Gt, Gte, Lt, Lte}
use Rattle.vx_dtype.specs.Types.{Ty, bool_ty, int_ty, text_ty, list_ty, struct_ty}
use Rattle.vx_dtype.specs.TypeRules.{nullability_of, with_nullability, same_ptype, alike, is_plain, no_name_twice}
use Rattle.vx_dtype.specs.Values.{Raw, raw_null, raw_int}
use Rattle.vx_dtype.specs.Fits.{in_range, fits}
use Rattle.vx_dtype.specs.ScalarAnswers.{typed}
use Rattle.vx_dtype.specs.Casts.{takes_cast}
use Rattle.vx_expr.specs.declared.Operator.{Operator}
use Rattle.vx_expr.specs.Operators.{operator_of}
use Rattle.vx_expr.specs.Trees.{Tree, binary, cast}
use Rattle.vx_semantics.specs.Typing.{Refusal, duplicate_field, type_mismatch, and_then, unless, union_of, equal_plain, binary_type, cast_type, typed_of}
use Rattle.vx_laws.proofs.Comparing.{same_ptype-same}
use Rattle.vx_laws.proofs.Fitting.{same_ptype-itself}
use Rattle.vx_laws_sql.specs.CommonTypes.{common_type}
use Rattle.vx_laws_sql.specs.Operands.{TypedTree, Operand, known, number, untyped_null, out_of_range, other_kinds, not_plain}
use Rattle.vx_laws_sql.specs.Operands.{◌>>=◌, where_it, type_alone, constant, null_of, number_in, number_across, taking, alone, ptype_of, in_wider, widened_to}
use Rattle.vx_laws_sql.specs.Operands.{alike_pair, in_common, matched_by, matched, both}
use Rattle.vx_laws_sql.specs.Forms.{truth_of}
use Rattle.vx_laws_sql.specs.Typing.{HasItsType, IsTest, IsTyped, ComparisonsAreTests}
use Rattle.vx_laws_sql.proofs.Steps.{stepped, passed, same_answer}

-- ---- constants

pub constant-typed : (t u : Ty) (r : Raw) → no_name_twice u ≡ true → fits r u ≡ true → HasItsType t (constant u r)
unfolding typed_of
constant-typed t u r d f =
    ap (λ (b : Bool). and_then (unless b duplicate_field (Ok u)) (λ z. unless (fits r z) type_mismatch (Ok z))) d
    ∙ ap (λ (b : Bool). unless b type_mismatch (Ok u)) f

pub plain-no_name_twice : (u : Ty) → is_plain u ≡ true → no_name_twice u ≡ true
unfolding no_name_twice
plain-no_name_twice (bool_ty n) h = refl
plain-no_name_twice (int_ty p n) h = refl
plain-no_name_twice (text_ty n) h = refl
plain-no_name_twice _ h = let no : ⊥ = cc (h) in absurd no

pub null-fits : (u : Ty) → fits raw_null (with_nullability u Nullable) ≡ true
unfolding fits
null-fits (bool_ty n) = refl
null-fits (int_ty p n) = refl
null-fits (text_ty n) = refl
null-fits (list_ty e n) = refl
null-fits (struct_ty fs n) = refl

pub null_of-typed : (t u : Ty) → is_plain (with_nullability u Nullable) ≡ true → HasItsType t (null_of u)
null_of-typed t u p = constant-typed t (with_nullability u Nullable) raw_null (plain-no_name_twice (with_nullability u Nullable) p) (null-fits u)

pub int-fits : (p : PType) (n : Nullability) (i : ℤ) → in_range p i ≡ true → fits (raw_int i) (int_ty p n) ≡ true
unfolding fits
int-fits p n i h = h

-- a number in its type is the constant
pub record IsNumberIn (p : PType) (i : ℤ) (a : TypedTree) : Type 0 where
  pub fit : in_range p i ≡ true
  pub is : constant (int_ty p NonNullable) (raw_int i) ≡ a

pub number_in-is : (p : PType) (i : ℤ) (a : TypedTree) → number_in p i ≡ Ok a → IsNumberIn p i a
number_in-is p i a h =
    let k = passed (in_range p i) (out_of_range i p) (Ok (constant (int_ty p NonNullable) (raw_int i))) a h in
    record { fit = k.holds; is = same_answer (Ok (constant (int_ty p NonNullable) (raw_int i))) (constant (int_ty p NonNullable) (raw_int i)) a refl k.gave }

-- and across from an operand it is one of that operand's integer type
pub record IsNumberAcross (u : Ty) (i : ℤ) (a : TypedTree) : Type 0 where
  pub ptype : PType
  pub has : ptype_of u ≡ Some ptype
  pub number : IsNumberIn ptype i a

pub number_across-is : (other : Operand) (i : ℤ) (u : Ty) (a : TypedTree) → number_across other i u ≡ Ok a → IsNumberAcross u i a
number_across-is other i (int_ty p n) a h = record { ptype = p; has = refl; number = number_in-is p i a h }
number_across-is other i _ a h = let no : ⊥ = cc (h) in absurd no

pub number_in-typed : (t : Ty) (p : PType) (i : ℤ) (a : TypedTree) → IsNumberIn p i a → HasItsType t a
unfolding no_name_twice
number_in-typed t p i a k =
    subst (λ (z : TypedTree). HasItsType t z) k.is (constant-typed t (int_ty p NonNullable) (raw_int i) refl (int-fits p NonNullable i k.fit))

pub taking-typed : (t : Ty) (other o : Operand) (a : TypedTree) → IsTyped t o → taking other o ≡ Ok a → is_plain a.ty ≡ true → HasItsType t a
taking-typed t other (known e) a typed h plain = subst (λ (z : TypedTree). HasItsType t z) (same_answer (Ok e) e a refl h) typed
taking-typed t other (number i) a typed h plain = let k = number_across-is other i (type_alone other) a h in number_in-typed t k.ptype i a k.number
taking-typed t other untyped_null a typed h plain =
    let is = same_answer (Ok (null_of (type_alone other))) (null_of (type_alone other)) a refl h in
    subst (λ (z : TypedTree). HasItsType t z) is (null_of-typed t (type_alone other) (subst (λ (z : TypedTree). is_plain z.ty ≡ true) (sym is) plain))

pub alone-typed : (t : Ty) (o : Operand) (a : TypedTree) → IsTyped t o → alone o ≡ Ok a → HasItsType t a
alone-typed t (known e) a typed h = subst (λ (z : TypedTree). HasItsType t z) (same_answer (Ok e) e a refl h) typed
alone-typed t (number i) a typed h = number_in-typed t I64 i a (number_in-is I64 i a h)
alone-typed t untyped_null a typed h =
    subst (λ (z : TypedTree). HasItsType t z) (same_answer (Ok (null_of (int_ty I64 NonNullable))) (null_of (int_ty I64 NonNullable)) a refl h)
    (null_of-typed t (int_ty I64 NonNullable) refl)

-- ---- two expressions of one type

pub ptype_of-is : (u : Ty) (p : PType) → ptype_of u ≡ Some p → u ≡ int_ty p (nullability_of u)
ptype_of-is (int_ty q n) p h = ap (λ (z : PType). int_ty z n) (cc (h))
ptype_of-is _ p h = let no : ⊥ = cc (h) in absurd no

-- an expression in a wider type has the type, and is itself or its cast
pub record IsWidened (t : Ty) (c : PType) (n : Nullability) (x : TypedTree) : Type 0 where
  pub has : HasItsType t x
  pub is : x.ty ≡ int_ty c n

pub cast-typed : (t u target : Ty) (e : Tree) → typed_of t e ≡ Ok u → takes_cast u target ≡ true → typed_of t (cast e target) ≡ Ok target
unfolding typed_of
cast-typed t u target e h k = ap (λ (z : Result Ty Refusal). and_then z (cast_type target)) h ∙ ap (λ (b : Bool). unless b type_mismatch (Ok target)) k

wider-by : (t : Ty) (c p : PType) (n : Nullability) (e : Tree) (b : Bool) → same_ptype p c ≡ b → typed_of t e ≡ Ok (int_ty p n)
    → IsWidened t c n (cond b (record { ty = int_ty p n; tree = e }) (record { ty = int_ty c n; tree = cast e (int_ty c n) }))
wider-by t c p n e true s h = record { has = h; is = ap (λ (z : PType). int_ty z n) (same_ptype-same p c s) }
wider-by t c p n e false s h = record { has = cast-typed t (int_ty p n) (int_ty c n) e h refl; is = refl }

in_wider-typed : (t : Ty) (c p : PType) (n : Nullability) (u : Ty) (e : Tree) → u ≡ int_ty p n → typed_of t e ≡ Ok u → IsWidened t c n (in_wider c u e)
in_wider-typed t c p n u e is h =
    subst (λ (z : Ty). IsWidened t c n (in_wider c z e)) (sym is) (wider-by t c p n e (same_ptype p c) refl (h ∙ ap Ok is))

pub widened_to-typed : (t : Ty) (c p : PType) (a : TypedTree) → ptype_of a.ty ≡ Some p → HasItsType t a → IsWidened t c (nullability_of a.ty) (widened_to c a)
widened_to-typed t c p a is h = in_wider-typed t c p (nullability_of a.ty) a.ty a.tree (ptype_of-is a.ty p is) h

-- two expressions as they are compared: each has its type, and these are equal plain types
pub record IsMatch (t : Ty) (x : TypedTree × TypedTree) : Type 0 where
  pub left : HasItsType t x.0
  pub right : HasItsType t x.1
  pub plain : equal_plain x.0.ty x.1.ty ≡ true

pub ints-equal : (c : PType) (n m : Nullability) (a b : Ty) → a ≡ int_ty c n → b ≡ int_ty c m → equal_plain a b ≡ true
unfolding alike
ints-equal c n m a b h k =
    ap (λ (z : Ty). equal_plain z b) h ∙ (ap (λ (z : Ty). equal_plain (int_ty c n) z) k ∙ ap (λ (z : Bool). z && true) (same_ptype-itself c))

in_common-matches : (t : Ty) (p q : PType) (c : Option PType) (a b : TypedTree) (x : TypedTree × TypedTree)
    → ptype_of a.ty ≡ Some p → ptype_of b.ty ≡ Some q → HasItsType t a → HasItsType t b → in_common p q c a b ≡ Ok x → IsMatch t x
in_common-matches t p q (Some c) a b x ap bq ha hb h =
    let is = same_answer (Ok (widened_to c a, widened_to c b)) (widened_to c a, widened_to c b) x refl h in
    let l = widened_to-typed t c p a ap ha in
    let r = widened_to-typed t c q b bq hb in
    subst (λ (z : TypedTree × TypedTree). IsMatch t z) is
    (record { left = l.has; right = r.has; plain = ints-equal c (nullability_of a.ty) (nullability_of b.ty) (widened_to c a).ty (widened_to c b).ty l.is r.is })
in_common-matches t p q None a b x ap bq ha hb h = let no : ⊥ = cc (h) in absurd no

-- what passes as two of one plain type
pub record IsAlike (a b : TypedTree) (x : TypedTree × TypedTree) : Type 0 where
  pub first : is_plain a.ty ≡ true
  pub second : is_plain b.ty ≡ true
  pub same : alike a.ty b.ty ≡ true
  pub is : (a, b) ≡ x

pub alike_pair-is : (a b : TypedTree) (x : TypedTree × TypedTree) → alike_pair a b ≡ Ok x → IsAlike a b x
alike_pair-is a b x h =
    let third = where_it (alike a.ty b.ty) (other_kinds (known a) (known b)) (Ok (a, b)) in
    let k = passed (is_plain a.ty) (not_plain (known a)) (where_it (is_plain b.ty) (not_plain (known b)) third) x h in
    let l = passed (is_plain b.ty) (not_plain (known b)) third x k.gave in
    let m = passed (alike a.ty b.ty) (other_kinds (known a) (known b)) (Ok (a, b)) x l.gave in
    record { first = k.holds; second = l.holds; same = m.holds; is = same_answer (Ok (a, b)) (a, b) x refl m.gave }

alike_pair-matches : (t : Ty) (a b : TypedTree) (x : TypedTree × TypedTree) → HasItsType t a → HasItsType t b → alike_pair a b ≡ Ok x → IsMatch t x
alike_pair-matches t a b x ha hb h =
    let k = alike_pair-is a b x h in
    subst (λ (z : TypedTree × TypedTree). IsMatch t z) k.is
    (record { left = ha; right = hb; plain = and_from (alike a.ty b.ty) (is_plain a.ty) k.same k.first })

matched_by-matches : (t : Ty) (p q : Option PType) (a b : TypedTree) (x : TypedTree × TypedTree)
    → ptype_of a.ty ≡ p → ptype_of b.ty ≡ q → HasItsType t a → HasItsType t b → matched_by p q a b ≡ Ok x → IsMatch t x
matched_by-matches t (Some p) (Some q) a b x ap bq ha hb h = in_common-matches t p q (common_type p q) a b x ap bq ha hb h
matched_by-matches t None q a b x ap bq ha hb h = alike_pair-matches t a b x ha hb h
matched_by-matches t (Some p) None a b x ap bq ha hb h = alike_pair-matches t a b x ha hb h

pub int-plain : (u : Ty) (p : PType) → ptype_of u ≡ Some p → is_plain u ≡ true
int-plain u p h = ap is_plain (ptype_of-is u p h)

-- what is compared is plain
matched_by-plain : (p q : Option PType) (a b : TypedTree) (x : TypedTree × TypedTree)
    → ptype_of a.ty ≡ p → ptype_of b.ty ≡ q → matched_by p q a b ≡ Ok x → (is_plain a.ty ≡ true) × (is_plain b.ty ≡ true)
matched_by-plain (Some p) (Some q) a b x ap bq h = (int-plain a.ty p ap, int-plain b.ty q bq)
matched_by-plain None q a b x ap bq h = let k = alike_pair-is a b x h in (k.first, k.second)
matched_by-plain (Some p) None a b x ap bq h = let k = alike_pair-is a b x h in (k.first, k.second)

-- the two operands as they are compared, and where they come from
pub record IsBoth (l r : Operand) (x : TypedTree × TypedTree) : Type 0 where
  pub first : TypedTree
  pub second : TypedTree
  pub left : taking r l ≡ Ok first
  pub right : taking l r ≡ Ok second
  pub match : matched first second ≡ Ok x
  pub plain : (is_plain first.ty ≡ true) × (is_plain second.ty ≡ true)

pub both-is : (l r : Operand) (x : TypedTree × TypedTree) → both l r ≡ Ok x → IsBoth l r x
both-is l r x h =
    let a = stepped (taking r l) (λ a. taking l r >>= λ b. matched a b) x h in
    let b = stepped (taking l r) (matched a.given) x a.gave in
    record {
      first = a.given;
      second = b.given;
      left = a.was;
      right = b.was;
      match = b.gave;
      plain = matched_by-plain (ptype_of a.given.ty) (ptype_of b.given.ty) a.given b.given x refl refl b.gave;
    }

pub both-matches : (t : Ty) (l r : Operand) (x : TypedTree × TypedTree) → IsTyped t l → IsTyped t r → both l r ≡ Ok x → IsMatch t x
both-matches t l r x hl hr h =
    let k = both-is l r x h in
    matched_by-matches t (ptype_of k.first.ty) (ptype_of k.second.ty) k.first k.second x refl refl
    (taking-typed t r l k.first hl k.left k.plain.0) (taking-typed t l r k.second hr k.right k.plain.1) k.match

-- ---- the forms

pub binary-typed : (t : Ty) (a b : TypedTree) (op : Operator) (u : Ty) → HasItsType t a → HasItsType t b → binary_type op a.ty b.ty ≡ Ok u
    → typed_of t (binary a.tree op b.tree) ≡ Ok u
unfolding typed_of
binary-typed t a b op u ha hb h =
    ap (λ (r : Result Ty Refusal). and_then r (λ z. and_then (typed_of t b.tree) (binary_type op z))) ha
    ∙ (ap (λ (r : Result Ty Refusal). and_then r (binary_type op a.ty)) hb ∙ h)

compare_type-of : (op : CompareOperator) (a b : Ty) → equal_plain a b ≡ true → binary_type (operator_of op) a b ≡ Ok (bool_ty (union_of a b))
compare_type-of Eq a b h = ap (λ (z : Bool). unless z type_mismatch (Ok (bool_ty (union_of a b)))) h
compare_type-of NotEq a b h = ap (λ (z : Bool). unless z type_mismatch (Ok (bool_ty (union_of a b)))) h
compare_type-of Gt a b h = ap (λ (z : Bool). unless z type_mismatch (Ok (bool_ty (union_of a b)))) h
compare_type-of Gte a b h = ap (λ (z : Bool). unless z type_mismatch (Ok (bool_ty (union_of a b)))) h
compare_type-of Lt a b h = ap (λ (z : Bool). unless z type_mismatch (Ok (bool_ty (union_of a b)))) h
compare_type-of Lte a b h = ap (λ (z : Bool). unless z type_mismatch (Ok (bool_ty (union_of a b)))) h

pub comparisons_are_tests : ComparisonsAreTests
comparisons_are_tests op t l r x hl hr h =
    let s = stepped (both l r) (λ y. Ok (truth_of y.0.ty y.1.ty (binary y.0.tree (operator_of op) y.1.tree))) x h in
    let m = both-matches t l r s.given hl hr s.was in
    let made = truth_of s.given.0.ty s.given.1.ty (binary s.given.0.tree (operator_of op) s.given.1.tree) in
    let is = same_answer (Ok made) made x refl s.gave in
    subst (λ (z : TypedTree). IsTest t z) is (
      binary-typed t s.given.0 s.given.1 (operator_of op) (bool_ty (union_of s.given.0.ty s.given.1.ty)) m.left m.right
          (compare_type-of op s.given.0.ty s.given.1.ty m.plain),
      refl,
    )
