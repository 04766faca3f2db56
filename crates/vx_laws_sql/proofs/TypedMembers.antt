-- What membership gives is strictly typed.
use Rattle.std.proofs.Common.{◌≡◌, refl, ap, ◌∙◌, subst, Bool, true, false, ◌&&◌, List, [], ◌∷◌, Result, Ok, Err}
use Rattle.std.proofs.lemmas.Bool.{and_from}
use Rattle.vx_dtype.specs.declared.Nullability.{Nullability}
use Rattle.vx_dtype.specs.declared.Nullability.TheVariants.{NonNullable, Nullable}
use Rattle.vx_dtype.specs.Types.{Ty, bool_ty, int_ty, text_ty, list_ty}
use Rattle.vx_dtype.specs.TypeRules.{nullability_of, with_nullability, alike, is_plain, no_name_twice}
use Rattle.vx_dtype.specs.Values.{Raw, raw_null, raw_bool, raw_int, raw_text, raw_list, raw_struct, Raws, no_raws, raw}
use Rattle.vx_dtype.specs.Fits.{fits, all_fit}
use Rattle.vx_expr.specs.declared.Operator.{Operator}
use Rattle.vx_expr.specs.Trees.{list_contains}
use Rattle.vx_semantics.specs.Typing.{Refusal, type_mismatch, and_then, unless, equal_plain, binary_type, contains_type, typed_of}
use Rattle.vx_laws.proofs.Fitting.{same_ptype-itself}
use Rattle.vx_laws_sql.specs.Operands.{TypedTree, known, Mismatch, not_plain, ◌>>=◌, where_it, constant, null_of, taking}
use Rattle.vx_laws_sql.specs.Membership.{first_typed, wrong_constant, with_constant, elements, has_null, element_type, listed_in, member_node, member_of}
use Rattle.vx_laws_sql.specs.Typing.{HasItsType, IsTest, MembershipsAreTests}
use Rattle.vx_laws_sql.proofs.Steps.{stepped, passed, same_answer}
use Rattle.vx_laws_sql.proofs.Typed.{constant-typed, plain-no_name_twice, null_of-typed, taking-typed, binary-typed}

-- a list without null is as it was with one more constant that fits
fitting : (e : TypedTree) (t : Ty) (c : Raw) (rs out : Raws) → all_fit rs t ≡ true → where_it (fits c t) (wrong_constant e t c) (Ok (raw c rs)) ≡ Ok out
    → all_fit out t ≡ true
unfolding all_fit
fitting e t c rs out fit h =
    let k = passed (fits c t) (wrong_constant e t c) (Ok (raw c rs)) out h in
    subst (λ (z : Raws). all_fit z t ≡ true) (same_answer (Ok (raw c rs)) (raw c rs) out refl k.gave) (and_from (fits c t) (all_fit rs t) k.holds fit)

-- a refusal behind a test is refused, whether it holds or not
refused-behind : (test : Bool) (wrong r : Mismatch) (out : Raws) → where_it test wrong (Err r) ≡ Ok out → ⊥
refused-behind true wrong r out h = cc (h)
refused-behind false wrong r out h = cc (h)

no_values-behind : (e : TypedTree) (t : Ty) (c : Raw) (r : Mismatch) (out : Raws) → with_constant e t c (Err r) ≡ Ok out → ⊥
no_values-behind e t raw_null r out h = cc (h)
no_values-behind e t (raw_bool b) r out h = refused-behind (fits (raw_bool b) t) (wrong_constant e t (raw_bool b)) r out h
no_values-behind e t (raw_int i) r out h = refused-behind (fits (raw_int i) t) (wrong_constant e t (raw_int i)) r out h
no_values-behind e t (raw_text s) r out h = refused-behind (fits (raw_text s) t) (wrong_constant e t (raw_text s)) r out h
no_values-behind e t (raw_list xs) r out h = refused-behind (fits (raw_list xs) t) (wrong_constant e t (raw_list xs)) r out h
no_values-behind e t (raw_struct xs) r out h = refused-behind (fits (raw_struct xs) t) (wrong_constant e t (raw_struct xs)) r out h

-- the constants behind one have values, and the constant stands before these
pub record StandsBefore (e : TypedTree) (t : Ty) (c : Raw) (behind : Result Raws Mismatch) (out : Raws) : Type 0 where
  pub given : Raws
  pub was : behind ≡ Ok given
  pub gave : with_constant e t c (Ok given) ≡ Ok out

pub stands_before : (e : TypedTree) (t : Ty) (c : Raw) (behind : Result Raws Mismatch) (out : Raws) → with_constant e t c behind ≡ Ok out
    → StandsBefore e t c behind out
stands_before e t c (Ok rs) out h = record { given = rs; was = refl; gave = h }
stands_before e t c (Err r) out h = absurd (no_values-behind e t c r out h)

with_constant-fit : (e : TypedTree) (t : Ty) (c : Raw) (rs out : Raws) → all_fit rs t ≡ true → with_constant e t c (Ok rs) ≡ Ok out → all_fit out t ≡ true
with_constant-fit e t raw_null rs out fit h = subst (λ (z : Raws). all_fit z t ≡ true) (same_answer (Ok rs) rs out refl h) fit
with_constant-fit e t (raw_bool b) rs out fit h = fitting e t (raw_bool b) rs out fit h
with_constant-fit e t (raw_int i) rs out fit h = fitting e t (raw_int i) rs out fit h
with_constant-fit e t (raw_text s) rs out fit h = fitting e t (raw_text s) rs out fit h
with_constant-fit e t (raw_list xs) rs out fit h = fitting e t (raw_list xs) rs out fit h
with_constant-fit e t (raw_struct xs) rs out fit h = fitting e t (raw_struct xs) rs out fit h

pub elements-fit : (e : TypedTree) (t : Ty) (cs : List Raw) (rs : Raws) → elements e t cs ≡ Ok rs → all_fit rs t ≡ true
unfolding all_fit
elements-fit e t [] rs h = subst (λ (z : Raws). all_fit z t ≡ true) (same_answer (Ok no_raws) no_raws rs refl h) refl
elements-fit e t (c ∷ cs) rs h =
    let s = stands_before e t c (elements e t cs) rs h in
    with_constant-fit e t c s.given rs (elements-fit e t cs s.given s.was) s.gave

element-alike : (u : Ty) → is_plain u ≡ true → equal_plain (with_nullability u NonNullable) u ≡ true
unfolding alike
element-alike (bool_ty n) h = refl
element-alike (int_ty p n) h = ap (λ (z : Bool). z && true) (same_ptype-itself p)
element-alike (text_ty n) h = refl
element-alike _ h = let no : ⊥ = cc (h) in absurd no

element-plain : (u : Ty) → is_plain u ≡ true → is_plain (with_nullability u NonNullable) ≡ true
element-plain (bool_ty n) h = refl
element-plain (int_ty p n) h = refl
element-plain (text_ty n) h = refl
element-plain _ h = let no : ⊥ = cc (h) in absurd no

list-typed : (t d : Ty) (rs : Raws) → no_name_twice d ≡ true → all_fit rs d ≡ true → HasItsType t (constant (list_ty d NonNullable) (raw_list rs))
unfolding no_name_twice fits
list-typed t d rs once fit = constant-typed t (list_ty d NonNullable) (raw_list rs) once fit

contains-typed : (t : Ty) (l e : TypedTree) (d : Ty) → l.ty ≡ list_ty d NonNullable → HasItsType t l → HasItsType t e → equal_plain d e.ty ≡ true
    → typed_of t (list_contains l.tree e.tree) ≡ Ok (bool_ty (nullability_of e.ty))
unfolding typed_of
contains-typed t l e d is hl he h =
    ap (λ (r : Result Ty Refusal). and_then r (λ a. and_then (typed_of t e.tree) (contains_type a))) (hl ∙ ap Ok is)
    ∙ (ap (λ (r : Result Ty Refusal). and_then r (contains_type (list_ty d NonNullable))) he
    ∙ ap (λ (z : Bool). unless z type_mismatch (Ok (bool_ty (nullability_of e.ty)))) h)

pub listed_in-typed : (t : Ty) (e : TypedTree) (rs : Raws) → HasItsType t e → is_plain e.ty ≡ true → all_fit rs (element_type e) ≡ true
    → HasItsType t (listed_in e rs)
listed_in-typed t e rs he plain fit =
    contains-typed t (constant (list_ty (element_type e) NonNullable) (raw_list rs)) e (element_type e) refl
    (list-typed t (element_type e) rs (plain-no_name_twice (element_type e) (element-plain e.ty plain)) fit) he (element-alike e.ty plain)

or_null-type : (n : Nullability) → binary_type Operator.Or (bool_ty n) (bool_ty Nullable) ≡ Ok (bool_ty Nullable)
or_null-type NonNullable = refl
or_null-type Nullable = refl

pub member_node-typed : (t : Ty) (null : Bool) (e : TypedTree) (rs : Raws) → HasItsType t e → is_plain e.ty ≡ true → all_fit rs (element_type e) ≡ true
    → IsTest t (member_node null e rs)
member_node-typed t false e rs he plain fit = (listed_in-typed t e rs he plain fit, refl)
member_node-typed t true e rs he plain fit = (
  binary-typed t (listed_in e rs) (null_of (bool_ty Nullable)) Operator.Or (bool_ty Nullable) (listed_in-typed t e rs he plain fit)
      (null_of-typed t (bool_ty Nullable) refl) (or_null-type (nullability_of e.ty)),
  refl,
)

-- what membership of an expression gives: it is plain, and the constants are values of its type
pub record IsMember (e : TypedTree) (cs : List Raw) (x : TypedTree) : Type 0 where
  pub plain : is_plain e.ty ≡ true
  pub values : Raws
  pub are : elements e (element_type e) cs ≡ Ok values
  pub is : member_node (has_null cs) e values ≡ x

pub member_of-is : (e : TypedTree) (cs : List Raw) (x : TypedTree) → member_of e cs ≡ Ok x → IsMember e cs x
member_of-is e cs x h =
    let k = passed (is_plain e.ty) (not_plain (known e)) (elements e (element_type e) cs >>= λ rs. Ok (member_node (has_null cs) e rs)) x h in
    let s = stepped (elements e (element_type e) cs) (λ rs. Ok (member_node (has_null cs) e rs)) x k.gave in
    let made = member_node (has_null cs) e s.given in
    record { plain = k.holds; values = s.given; are = s.was; is = same_answer (Ok made) made x refl s.gave }

pub memberships_are_tests : MembershipsAreTests
memberships_are_tests [] t o x ho h = let no : ⊥ = cc (h) in absurd no
memberships_are_tests (c ∷ cs) t o x ho h =
    let s = stepped (taking (first_typed (c ∷ cs)) o) (λ e. member_of e (c ∷ cs)) x h in
    let k = member_of-is s.given (c ∷ cs) x s.gave in
    subst (λ (z : TypedTree). IsTest t z) k.is
    (member_node-typed t (has_null (c ∷ cs)) s.given k.values (taking-typed t (first_typed (c ∷ cs)) o s.given ho s.was k.plain) k.plain
    (elements-fit s.given (element_type s.given) (c ∷ cs) k.values k.are))
