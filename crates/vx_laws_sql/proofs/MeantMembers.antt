-- What membership means.
use Rattle.std.proofs.Common.{◌≡◌, refl, ap, sym, ◌∙◌, Bool, true, false, cond, ◌||◌, List, [], ◌∷◌, Ok}
use Rattle.std.specs.Ordering.{nat_cmp, int_cmp, bool_cmp, is_eq}
use Rattle.std.specs.Cmp.Lexicographic.{slice_cmp}
use Rattle.vx_dtype.specs.declared.Nullability.TheVariants.{NonNullable}
use Rattle.vx_dtype.specs.declared.CompareOperator.TheVariants.{Eq, NotEq}
use Rattle.vx_dtype.specs.Types.{Ty, bool_ty, int_ty, text_ty, list_ty, struct_ty}
use Rattle.vx_dtype.specs.TypeRules.{with_nullability, is_plain}
use Rattle.vx_dtype.specs.Values.{Raw, raw_null, raw_bool, raw_int, raw_text, raw_list, raw_struct, Raws, no_raws, raw, Val, null_val, bool_val, int_val}
use Rattle.vx_dtype.specs.Values.{text_val, list_val, struct_val, fault, Vals, valued, all_valued}
use Rattle.vx_dtype.specs.Fits.{fits, fits_but_for_faults}
use Rattle.vx_dtype.specs.Logic.{and3, or3, not3, is_true_val}
use Rattle.vx_dtype.specs.Order.{compare3}
use Rattle.vx_dtype.specs.Lists.{has_element, contains3}
use Rattle.vx_semantics.specs.Meaning.{Slots, mean}
use Rattle.vx_laws.proofs.Kleene.{not3-or3}
use Rattle.vx_laws.proofs.Comparing.{compare3-swap, not3-compare3}
use Rattle.vx_laws_sql.specs.Operands.{TypedTree, known, where_it, taking}
use Rattle.vx_laws_sql.specs.Membership.{first_typed, wrong_constant, with_constant, elements, has_null, element_type, member_node, member_of}
use Rattle.vx_laws_sql.specs.Meaning.{value_at, constant_value, equals_one, differs_from_all, MembershipsMean, NegatedMembershipsMean}
use Rattle.vx_laws_sql.proofs.Steps.{stepped, passed, same_answer}
use Rattle.vx_laws_sql.proofs.Typed.{taking-typed}
use Rattle.vx_laws_sql.proofs.TypedMembers.{stands_before, member_of-is}
use Rattle.vx_laws_sql.proofs.Numbers.{untyped, compare3-alike}
use Rattle.vx_laws_sql.proofs.Means.{IsAt-IsTyped, taking-stands, is_sound}
use Rattle.vx_laws_sql.proofs.MeantForms.{negation-means}

-- whether a value is neither null nor a fault
abbrev is_known : Val → Bool
is_known null_val = false
is_known fault = false
is_known _ = true

-- what membership is where the value is known: whether null is among the constants, and whether another equals it
abbrev answer : Bool → Bool → Val
answer null found = or3 (bool_val found) (cond null null_val (bool_val false))

bool-answer : (b : Bool) → bool_val b ≡ bool_val (is_true_val (bool_val b))
bool-answer true = refl
bool-answer false = refl

-- a value equals a constant where the constant's value in the list equals it
eq-constant : (u : Ty) (v : Val) (c : Raw) → is_known v ≡ true → is_plain u ≡ true → fits_but_for_faults v u ≡ true
    → fits c (with_nullability u NonNullable) ≡ true
    → compare3 Eq v (constant_value c) ≡ bool_val (is_true_val (compare3 Eq (valued c (with_nullability u NonNullable)) v))
unfolding fits_but_for_faults fits valued
eq-constant (bool_ty n) (bool_val a) (raw_bool b) h k l m =
    bool-answer (is_eq (bool_cmp a b)) ∙ ap (λ (z : Val). bool_val (is_true_val z)) (sym (compare3-swap Eq (bool_val b) (bool_val a)))
eq-constant (int_ty p n) (int_val q a) (raw_int i) h k l m =
    bool-answer (is_eq (int_cmp a i)) ∙ ap (λ (z : Val). bool_val (is_true_val z)) (sym (compare3-swap Eq (int_val p i) (int_val q a)))
eq-constant (text_ty n) (text_val a) (raw_text s) h k l m =
    bool-answer (is_eq (slice_cmp nat_cmp a s)) ∙ ap (λ (z : Val). bool_val (is_true_val z)) (sym (compare3-swap Eq (text_val s) (text_val a)))
eq-constant _ _ _ h k l m = let no : ⊥ = cc (h, k, l, m) in absurd no

or-null : (n f : Bool) → or3 null_val (answer n f) ≡ answer true f
or-null true true = refl
or-null true false = refl
or-null false true = refl
or-null false false = refl

or-found : (b n f : Bool) → or3 (bool_val b) (answer n f) ≡ answer n (b || f)
or-found true true true = refl
or-found true true false = refl
or-found true false true = refl
or-found true false false = refl
or-found false true true = refl
or-found false true false = refl
or-found false false true = refl
or-found false false false = refl

eq-null : (v : Val) → is_known v ≡ true → compare3 Eq v null_val ≡ null_val
eq-null null_val h = refl
eq-null fault h = let no : ⊥ = cc (h) in absurd no
eq-null _ h = refl

-- the step for a constant that is no null
known-step : (e : TypedTree) (v : Val) (c : Raw) (rs out : Raws) (n : Bool) → is_known v ≡ true → is_plain e.ty ≡ true → fits_but_for_faults v e.ty ≡ true
    → where_it (fits c (element_type e)) (wrong_constant e (element_type e) c) (Ok (raw c rs)) ≡ Ok out
    → or3 (compare3 Eq v (constant_value c)) (answer n (has_element (all_valued rs (element_type e)) v))
    ≡ answer n (has_element (all_valued out (element_type e)) v)
unfolding all_valued
known-step e v c rs out n h k l w =
    let d = element_type e in
    let p = passed (fits c d) (wrong_constant e d c) (Ok (raw c rs)) out w in
    let f = has_element (all_valued rs d) v in
    let b = is_true_val (compare3 Eq (valued c d) v) in
    ap (λ (z : Val). or3 z (answer n f)) (eq-constant e.ty v c h k l p.holds)
    ∙ (or-found b n f ∙ ap (λ (z : Raws). answer n (has_element (all_valued z d) v)) (same_answer (Ok (raw c rs)) (raw c rs) out refl p.gave))

step : (e : TypedTree) (v : Val) (c : Raw) (cs : List Raw) (rs out : Raws) → is_known v ≡ true → is_plain e.ty ≡ true → fits_but_for_faults v e.ty ≡ true
    → with_constant e (element_type e) c (Ok rs) ≡ Ok out
    → or3 (compare3 Eq v (constant_value c)) (answer (has_null cs) (has_element (all_valued rs (element_type e)) v))
    ≡ answer (has_null (c ∷ cs)) (has_element (all_valued out (element_type e)) v)
step e v raw_null cs rs out h k l w =
    let f = has_element (all_valued rs (element_type e)) v in
    ap (λ (z : Val). or3 z (answer (has_null cs) f)) (eq-null v h)
    ∙ (or-null (has_null cs) f ∙ ap (λ (z : Raws). answer true (has_element (all_valued z (element_type e)) v)) (same_answer (Ok rs) rs out refl w))
step e v (raw_bool b) cs rs out h k l w = known-step e v (raw_bool b) rs out (has_null cs) h k l w
step e v (raw_int i) cs rs out h k l w = known-step e v (raw_int i) rs out (has_null cs) h k l w
step e v (raw_text s) cs rs out h k l w = known-step e v (raw_text s) rs out (has_null cs) h k l w
step e v (raw_list xs) cs rs out h k l w = known-step e v (raw_list xs) rs out (has_null cs) h k l w
step e v (raw_struct xs) cs rs out h k l w = known-step e v (raw_struct xs) rs out (has_null cs) h k l w

-- of a known value it is whether the value equals a constant, null where it doesn't and null is among them
known-one : (e : TypedTree) (v : Val) (cs : List Raw) (rs : Raws) → is_known v ≡ true → is_plain e.ty ≡ true → fits_but_for_faults v e.ty ≡ true
    → elements e (element_type e) cs ≡ Ok rs → equals_one v cs ≡ answer (has_null cs) (has_element (all_valued rs (element_type e)) v)
unfolding all_valued
known-one e v [] rs h k l w = ap (λ (z : Raws). answer false (has_element (all_valued z (element_type e)) v)) (same_answer (Ok no_raws) no_raws rs refl w)
known-one e v (c ∷ cs) rs h k l w =
    let s = stands_before e (element_type e) c (elements e (element_type e) cs) rs w in
    ap (or3 (compare3 Eq v (constant_value c))) (known-one e v cs s.given h k l s.was) ∙ step e v c cs s.given rs h k l s.gave

no_nested : (u : Ty) (c : Raw) → is_plain u ≡ true → fits c (with_nullability u NonNullable) ≡ true → compare3 Eq null_val (constant_value c) ≡ null_val
unfolding fits
no_nested u raw_null k m = refl
no_nested u (raw_bool b) k m = refl
no_nested u (raw_int i) k m = refl
no_nested u (raw_text s) k m = refl
no_nested (bool_ty n) (raw_list xs) k m = let no : ⊥ = cc (m) in absurd no
no_nested (int_ty p n) (raw_list xs) k m = let no : ⊥ = cc (m) in absurd no
no_nested (text_ty n) (raw_list xs) k m = let no : ⊥ = cc (m) in absurd no
no_nested (list_ty d n) (raw_list xs) k m = let no : ⊥ = cc (k) in absurd no
no_nested (struct_ty fs n) (raw_list xs) k m = let no : ⊥ = cc (k) in absurd no
no_nested (bool_ty n) (raw_struct xs) k m = let no : ⊥ = cc (m) in absurd no
no_nested (int_ty p n) (raw_struct xs) k m = let no : ⊥ = cc (m) in absurd no
no_nested (text_ty n) (raw_struct xs) k m = let no : ⊥ = cc (m) in absurd no
no_nested (list_ty d n) (raw_struct xs) k m = let no : ⊥ = cc (k) in absurd no
no_nested (struct_ty fs n) (raw_struct xs) k m = let no : ⊥ = cc (k) in absurd no

null-constant : (e : TypedTree) (c : Raw) (rs out : Raws) → is_plain e.ty ≡ true → with_constant e (element_type e) c (Ok rs) ≡ Ok out
    → compare3 Eq null_val (constant_value c) ≡ null_val
null-constant e raw_null rs out k w = refl
null-constant e (raw_bool b) rs out k w = refl
null-constant e (raw_int i) rs out k w = refl
null-constant e (raw_text s) rs out k w = refl
null-constant e (raw_list xs) rs out k w =
    no_nested e.ty (raw_list xs) k (passed (fits (raw_list xs) (element_type e)) (wrong_constant e (element_type e) (raw_list xs))
    (Ok (raw (raw_list xs) rs)) out w).holds
null-constant e (raw_struct xs) rs out k w =
    no_nested e.ty (raw_struct xs) k (passed (fits (raw_struct xs) (element_type e)) (wrong_constant e (element_type e) (raw_struct xs))
    (Ok (raw (raw_struct xs) rs)) out w).holds

-- null is equal to none of some constants and to no other
null-one : (e : TypedTree) (c : Raw) (cs : List Raw) (rs : Raws) → is_plain e.ty ≡ true → elements e (element_type e) (c ∷ cs) ≡ Ok rs
    → equals_one null_val (c ∷ cs) ≡ null_val
null-one e c [] rs k w =
    let s = stands_before e (element_type e) c (elements e (element_type e) []) rs w in
    ap (λ (z : Val). or3 z (bool_val false)) (null-constant e c s.given rs k s.gave)
null-one e c (d ∷ cs) rs k w =
    let s = stands_before e (element_type e) c (elements e (element_type e) (d ∷ cs)) rs w in
    ap (λ (z : Val). or3 z (equals_one null_val (d ∷ cs))) (null-constant e c s.given rs k s.gave) ∙ ap (or3 null_val) (null-one e d cs s.given k s.was)

-- the answer of the list, null where it isn't true if null is among the constants
abbrev or_null_if : Bool → Val → Val
or_null_if false z = z
or_null_if true z = or3 z null_val

node-means : (t : Ty) (slots : Slots) (row : Val) (n : Bool) (e : TypedTree) (rs : Raws)
    → mean t slots row (member_node n e rs).tree ≡ or_null_if n (contains3 (list_val (all_valued rs (element_type e))) (mean t slots row e.tree))
unfolding mean valued
node-means t slots row false e rs = refl
node-means t slots row true e rs = refl

contains-known : (xs : Vals) (v : Val) → is_known v ≡ true → contains3 (list_val xs) v ≡ bool_val (has_element xs v)
contains-known xs null_val h = let no : ⊥ = cc (h) in absurd no
contains-known xs fault h = let no : ⊥ = cc (h) in absurd no
contains-known xs _ h = refl

found-or_null : (n f : Bool) → or_null_if n (bool_val f) ≡ answer n f
found-or_null true f = refl
found-or_null false true = refl
found-or_null false false = refl

known-node : (e : TypedTree) (v : Val) (cs : List Raw) (rs : Raws) → is_known v ≡ true → is_plain e.ty ≡ true → fits_but_for_faults v e.ty ≡ true
    → elements e (element_type e) cs ≡ Ok rs
    → or_null_if (has_null cs) (contains3 (list_val (all_valued rs (element_type e))) v) ≡ equals_one v cs
known-node e v cs rs h k l w =
    let xs = all_valued rs (element_type e) in
    ap (or_null_if (has_null cs)) (contains-known xs v h) ∙ (found-or_null (has_null cs) (has_element xs v) ∙ sym (known-one e v cs rs h k l w))

null-node : (n : Bool) → or_null_if n null_val ≡ null_val
null-node true = refl
null-node false = refl

fault-node : (n : Bool) → or_null_if n fault ≡ fault
fault-node true = refl
fault-node false = refl

value-node : (e : TypedTree) (v : Val) (c : Raw) (cs : List Raw) (rs : Raws) → is_plain e.ty ≡ true → fits_but_for_faults v e.ty ≡ true
    → elements e (element_type e) (c ∷ cs) ≡ Ok rs
    → or_null_if (has_null (c ∷ cs)) (contains3 (list_val (all_valued rs (element_type e))) v) ≡ equals_one v (c ∷ cs)
value-node e null_val c cs rs k l w = null-node (has_null (c ∷ cs)) ∙ sym (null-one e c cs rs k w)
value-node e fault c cs rs k l w = fault-node (has_null (c ∷ cs))
value-node e (bool_val b) c cs rs k l w = known-node e (bool_val b) (c ∷ cs) rs refl k l w
value-node e (int_val p i) c cs rs k l w = known-node e (int_val p i) (c ∷ cs) rs refl k l w
value-node e (text_val s) c cs rs k l w = known-node e (text_val s) (c ∷ cs) rs refl k l w
value-node e (list_val xs) c cs rs k l w = known-node e (list_val xs) (c ∷ cs) rs refl k l w
value-node e (struct_val ms) c cs rs k l w = known-node e (struct_val ms) (c ∷ cs) rs refl k l w

equals_one-alike : (v a : Val) (cs : List Raw) → untyped v ≡ untyped a → equals_one v cs ≡ equals_one a cs
equals_one-alike v a [] h = refl
equals_one-alike v a (c ∷ cs) h =
    ap (λ (z : Val). or3 z (equals_one v cs)) (compare3-alike Eq v (constant_value c) a (constant_value c) h refl)
    ∙ ap (or3 (compare3 Eq a (constant_value c))) (equals_one-alike v a cs h)

pub memberships_mean : MembershipsMean
memberships_mean [] t slots row o x fit ho h = let no : ⊥ = cc (h) in absurd no
memberships_mean (c ∷ cs) t slots row o x fit ho h =
    let other = first_typed (c ∷ cs) in
    let s = stepped (taking other o) (λ e. member_of e (c ∷ cs)) x h in
    let k = member_of-is s.given (c ∷ cs) x s.gave in
    let a = taking-stands t slots row other o s.given ho s.was in
    let sound = is_sound t slots row s.given fit (taking-typed t other o s.given (IsAt-IsTyped t slots o ho) s.was k.plain) a.slots_are in
    let v = mean t slots row s.given.tree in
    ap (λ (z : TypedTree). mean t slots row z.tree) (sym k.is)
    ∙ (node-means t slots row (has_null (c ∷ cs)) s.given k.values
    ∙ (value-node s.given v c cs k.values k.plain sound.fits k.are ∙ equals_one-alike v (value_at t slots row o) (c ∷ cs) a.means))

not3-equals_one : (v : Val) (cs : List Raw) → not3 (equals_one v cs) ≡ differs_from_all v cs
not3-equals_one v [] = refl
not3-equals_one v (c ∷ cs) =
    not3-or3 (compare3 Eq v (constant_value c)) (equals_one v cs)
    ∙ (ap (λ (z : Val). and3 z (not3 (equals_one v cs))) (not3-compare3 Eq v (constant_value c))
    ∙ ap (and3 (compare3 NotEq v (constant_value c))) (not3-equals_one v cs))

pub negated_memberships_mean : NegatedMembershipsMean
negated_memberships_mean t slots row o cs x y fit ho h k =
    negation-means t slots row (known x) y k ∙ (ap not3 (memberships_mean cs t slots row o x fit ho h) ∙ not3-equals_one (value_at t slots row o) cs)
