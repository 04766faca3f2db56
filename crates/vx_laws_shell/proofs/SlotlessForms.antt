-- A form of SQL over operands that compare with no slot compares with none.
use Rattle.std.proofs.Common.{◌≡◌, refl, ◌∙◌, subst, ℤ, Bool, true, false, cond, List, [], ◌∷◌, ◌++◌, Option, Some, None, Ok, Err}
use Rattle.std.specs.List.{list_any}
use Rattle.std.proofs.lemmas.Bool.{or_from}
use Rattle.std.proofs.lemmas.List.Folds.{list_any-append}
use Rattle.vx_dtype.specs.declared.Nullability.{Nullability}
use Rattle.vx_dtype.specs.declared.Nullability.TheVariants.{NonNullable, Nullable}
use Rattle.vx_dtype.specs.declared.PType.{PType}
use Rattle.vx_dtype.specs.declared.CompareOperator.{CompareOperator}
use Rattle.vx_dtype.specs.declared.BetweenOptions.{BetweenOptions}
use Rattle.vx_dtype.specs.Types.{Bytes, Ty, bool_ty, int_ty, text_ty, list_ty, struct_ty}
use Rattle.vx_dtype.specs.TypeRules.{is_plain, is_bool_ty, is_text_ty, is_int_ty, alike, same_ptype, with_nullability}
use Rattle.vx_dtype.specs.Values.{Raw, raw_null, raw_int, raw_list, Raws, Typed}
use Rattle.vx_dtype.specs.Fits.{fits, in_range}
use Rattle.vx_dtype.specs.Casts.{takes_cast}
use Rattle.vx_dtype.specs.ScalarAnswers.{typed}
use Rattle.vx_expr.specs.declared.Operator.{Operator}
use Rattle.vx_expr.specs.Operators.{operator_of}
use Rattle.vx_expr.specs.Trees.{Tree, root, literal, get_item, binary, not_of, is_null_of, like, between, cast, list_contains, pack, Trees, trees_of}
use Rattle.vx_semantics.specs.Nodes.{nodes_of, nodes_of_all}
use Rattle.vx_laws_topk.specs.TopLaws.{is_slot_comparison}
use Rattle.vx_laws_sql.specs.CommonTypes.{common_type, common_of_three}
use Rattle.vx_laws_sql.specs.Operands.{TypedTree, Operand, known, number, untyped_null, out_of_range, other_kinds, not_plain}
use Rattle.vx_laws_sql.specs.Operands.{no_boolean, no_text, no_number, no_cast, ◌>>=◌, where_it, constant, null_of, type_alone, number_across}
use Rattle.vx_laws_sql.specs.Operands.{taking, alone, ptype_of, in_wider, widened_to, alike_pair, in_common, matched_by, matched, both}
use Rattle.vx_laws_sql.specs.Forms.{truth_of, comparison, sum_node, sum_by, as_boolean, as_text, connective, negation}
use Rattle.vx_laws_sql.specs.Forms.{null_test, not_null_test, pattern_test, InRange, alike_three, three_in_common, three_matched_by, three_matched, first_known, both_count}
use Rattle.vx_laws_sql.specs.Forms.{range_node, ranged, range_test, cast_node, wrong_number, cast_to}
use Rattle.vx_laws_sql.specs.Membership.{first_typed, elements, has_null, element_type, member_node, member_of, membership}
use Rattle.vx_laws_sql.proofs.Steps.{stepped, passed, same_answer}

-- no node of an expression compares with a slot
abbrev pub HasNoSlot : Tree → Type 0
HasNoSlot e = list_any is_slot_comparison (nodes_of e) ≡ false

abbrev pub IsSlotless : Operand → Type 0
IsSlotless (known e) = HasNoSlot e.tree
IsSlotless (number i) = Unit {0}
IsSlotless untyped_null = Unit {0}

-- ---- nodes

both-nodes : (xs ys : List Tree) → list_any is_slot_comparison xs ≡ false → list_any is_slot_comparison ys ≡ false
    → list_any is_slot_comparison (xs ++ ys) ≡ false
both-nodes xs ys h k =
    list_any-append is_slot_comparison xs ys ∙ or_from (list_any is_slot_comparison xs) (list_any is_slot_comparison ys) h k

pub root-slotless : HasNoSlot root
unfolding nodes_of
root-slotless = refl

literal-slotless : (s : Typed) → HasNoSlot (literal s)
unfolding nodes_of
literal-slotless s = refl

pub constant-slotless : (t : Ty) (r : Raw) → HasNoSlot (constant t r).tree
unfolding nodes_of
constant-slotless t r = refl

pub get_item-slotless : (f : Bytes) (e : Tree) → HasNoSlot e → HasNoSlot (get_item f e)
unfolding nodes_of
get_item-slotless f e h = h

pub binary-slotless : (l : Tree) (op : Operator) (r : Tree) → HasNoSlot l → HasNoSlot r → HasNoSlot (binary l op r)
unfolding nodes_of
binary-slotless l op r h k = both-nodes (nodes_of l) (nodes_of r) h k

not-slotless : (e : Tree) → HasNoSlot e → HasNoSlot (not_of e)
unfolding nodes_of
not-slotless e h = h

null-slotless : (e : Tree) → HasNoSlot e → HasNoSlot (is_null_of e)
unfolding nodes_of
null-slotless e h = h

like-slotless : (e p : Tree) (negated fold_case : Bool) → HasNoSlot e → HasNoSlot p → HasNoSlot (like e p negated fold_case)
unfolding nodes_of
like-slotless e p negated fold_case h k = both-nodes (nodes_of e) (nodes_of p) h k

between-slotless : (e lower upper : Tree) (options : BetweenOptions) → HasNoSlot e → HasNoSlot lower → HasNoSlot upper
    → HasNoSlot (between e lower upper options)
unfolding nodes_of
between-slotless e lower upper options h k m =
    both-nodes (nodes_of e) (nodes_of lower ++ nodes_of upper) h (both-nodes (nodes_of lower) (nodes_of upper) k m)

cast-slotless : (e : Tree) (t : Ty) → HasNoSlot e → HasNoSlot (cast e t)
unfolding nodes_of
cast-slotless e t h = h

contains-slotless : (l v : Tree) → HasNoSlot l → HasNoSlot v → HasNoSlot (list_contains l v)
unfolding nodes_of
contains-slotless l v h k = both-nodes (nodes_of l) (nodes_of v) h k

pub pack-slotless : (names : List Bytes) (es : Trees) (n : Nullability) → list_any is_slot_comparison (nodes_of_all es) ≡ false → HasNoSlot (pack names es n)
unfolding nodes_of
pack-slotless names es n h = h

pub more-slotless : (e : Tree) (es : List Tree) → HasNoSlot e → list_any is_slot_comparison (nodes_of_all (trees_of es)) ≡ false
    → list_any is_slot_comparison (nodes_of_all (trees_of (e ∷ es))) ≡ false
unfolding nodes_of_all
more-slotless e es h k = both-nodes (nodes_of e) (nodes_of_all (trees_of es)) h k

pub none-slotless : list_any is_slot_comparison (nodes_of_all (trees_of [])) ≡ false
unfolding nodes_of_all
none-slotless = refl

-- ---- operands

number_across-slotless : (other : Operand) (i : ℤ) (t : Ty) (x : TypedTree) → number_across other i t ≡ Ok x → HasNoSlot x.tree
number_across-slotless other i (int_ty p n) x h =
    let k = passed (in_range p i) (out_of_range i p) (Ok (constant (int_ty p NonNullable) (raw_int i))) x h in
    subst (λ (z : TypedTree). HasNoSlot z.tree) (same_answer (Ok (constant (int_ty p NonNullable) (raw_int i))) (constant (int_ty p NonNullable) (raw_int i)) x refl k.gave)
    (constant-slotless (int_ty p NonNullable) (raw_int i))
number_across-slotless other i _ x h = let no : ⊥ = cc (h) in absurd no

null_of-slotless : (t : Ty) → HasNoSlot (null_of t).tree
null_of-slotless t = literal-slotless (typed (with_nullability t Nullable) raw_null)

pub taking-slotless : (other o : Operand) (x : TypedTree) → IsSlotless o → taking other o ≡ Ok x → HasNoSlot x.tree
taking-slotless other (known e) x own h = subst (λ (z : TypedTree). HasNoSlot z.tree) (same_answer (Ok e) e x refl h) own
taking-slotless other (number i) x own h = number_across-slotless other i (type_alone other) x h
taking-slotless other untyped_null x own h =
    subst (λ (z : TypedTree). HasNoSlot z.tree) (same_answer (Ok (null_of (type_alone other))) (null_of (type_alone other)) x refl h) (null_of-slotless (type_alone other))

-- an expression in a wider type
wider-slotless : (c : PType) (t : Ty) (e : Tree) → HasNoSlot e → HasNoSlot (in_wider c t e).tree
wider-slotless c (int_ty p n) e h = by-test (same_ptype p c)
  where
    same : TypedTree
    same = record { ty = int_ty p n; tree = e }

    wider : TypedTree
    wider = record { ty = int_ty c n; tree = cast e (int_ty c n) }

    by-test : (b : Bool) → HasNoSlot (cond b same wider).tree
    by-test true = h
    by-test false = cast-slotless e (int_ty c n) h
wider-slotless c (bool_ty n) e h = h
wider-slotless c (text_ty n) e h = h
wider-slotless c (list_ty d n) e h = h
wider-slotless c (struct_ty fs n) e h = h

-- two expressions
abbrev ArePair : TypedTree × TypedTree → Type 0
ArePair x = HasNoSlot x.0.tree × HasNoSlot x.1.tree

alike_pair-slotless : (a b : TypedTree) (x : TypedTree × TypedTree) → HasNoSlot a.tree → HasNoSlot b.tree → alike_pair a b ≡ Ok x → ArePair x
alike_pair-slotless a b x ha hb h =
    let one = passed (is_plain a.ty) (not_plain (known a)) (where_it (is_plain b.ty) (not_plain (known b))
    (where_it (alike a.ty b.ty) (other_kinds (known a) (known b)) (Ok (a, b)))) x h in
    let two = passed (is_plain b.ty) (not_plain (known b)) (where_it (alike a.ty b.ty) (other_kinds (known a) (known b)) (Ok (a, b))) x one.gave in
    let three = passed (alike a.ty b.ty) (other_kinds (known a) (known b)) (Ok (a, b)) x two.gave in
    subst ArePair (same_answer (Ok (a, b)) (a, b) x refl three.gave) (ha, hb)

in_common-slotless : (p q : PType) (c : Option PType) (a b : TypedTree) (x : TypedTree × TypedTree) → HasNoSlot a.tree → HasNoSlot b.tree
    → in_common p q c a b ≡ Ok x → ArePair x
in_common-slotless p q (Some c) a b x ha hb h =
    subst ArePair (same_answer (Ok (widened_to c a, widened_to c b)) (widened_to c a, widened_to c b) x refl h)
    (wider-slotless c a.ty a.tree ha, wider-slotless c b.ty b.tree hb)
in_common-slotless p q None a b x ha hb h = let no : ⊥ = cc (h) in absurd no

matched_by-slotless : (p q : Option PType) (a b : TypedTree) (x : TypedTree × TypedTree) → HasNoSlot a.tree → HasNoSlot b.tree
    → matched_by p q a b ≡ Ok x → ArePair x
matched_by-slotless (Some p) (Some q) a b x ha hb h = in_common-slotless p q (common_type p q) a b x ha hb h
matched_by-slotless (Some p) None a b x ha hb h = alike_pair-slotless a b x ha hb h
matched_by-slotless None q a b x ha hb h = alike_pair-slotless a b x ha hb h

both-slotless : (l r : Operand) (x : TypedTree × TypedTree) → IsSlotless l → IsSlotless r → both l r ≡ Ok x → ArePair x
both-slotless l r x hl hr h =
    let a = stepped (taking r l) (λ a. taking l r >>= λ b. matched a b) x h in
    let b = stepped (taking l r) (λ b. matched a.given b) x a.gave in
    matched_by-slotless (ptype_of a.given.ty) (ptype_of b.given.ty) a.given b.given x (taking-slotless r l a.given hl a.was) (taking-slotless l r b.given hr b.was) b.gave

-- ---- forms

pub comparison-slotless : (op : CompareOperator) (l r : Operand) (x : TypedTree) → IsSlotless l → IsSlotless r → comparison op l r ≡ Ok x → HasNoSlot x.tree
comparison-slotless op l r x hl hr h =
    let s = stepped (both l r) (λ y. Ok (truth_of y.0.ty y.1.ty (binary y.0.tree (operator_of op) y.1.tree))) x h in
    let parts = both-slotless l r s.given hl hr s.was in
    let made = truth_of s.given.0.ty s.given.1.ty (binary s.given.0.tree (operator_of op) s.given.1.tree) in
    subst (λ (z : TypedTree). HasNoSlot z.tree) (same_answer (Ok made) made x refl s.gave)
    (binary-slotless s.given.0.tree (operator_of op) s.given.1.tree parts.0 parts.1)

pub sum_by-slotless : (op : Operator) (l r : Operand) (x : TypedTree) → IsSlotless l → IsSlotless r → sum_by op l r ≡ Ok x → HasNoSlot x.tree
sum_by-slotless op l r x hl hr h =
    let s = stepped (both l r) (λ y. where_it (is_int_ty y.0.ty) (no_number (known y.0)) (Ok (sum_node op y))) x h in
    let k = passed (is_int_ty s.given.0.ty) (no_number (known s.given.0)) (Ok (sum_node op s.given)) x s.gave in
    let parts = both-slotless l r s.given hl hr s.was in
    subst (λ (z : TypedTree). HasNoSlot z.tree) (same_answer (Ok (sum_node op s.given)) (sum_node op s.given) x refl k.gave)
    (binary-slotless s.given.0.tree op s.given.1.tree parts.0 parts.1)

pub as_boolean-slotless : (o : Operand) (x : TypedTree) → IsSlotless o → as_boolean o ≡ Ok x → HasNoSlot x.tree
as_boolean-slotless (known e) x own h =
    let k = passed (is_bool_ty e.ty) (no_boolean (known e)) (Ok e) x h in
    subst (λ (z : TypedTree). HasNoSlot z.tree) (same_answer (Ok e) e x refl k.gave) own
as_boolean-slotless (number i) x own h = let no : ⊥ = cc (h) in absurd no
as_boolean-slotless untyped_null x own h =
    subst (λ (z : TypedTree). HasNoSlot z.tree) (same_answer (Ok (null_of (bool_ty Nullable))) (null_of (bool_ty Nullable)) x refl h)
    (constant-slotless (bool_ty Nullable) raw_null)

as_text-slotless : (o : Operand) (x : TypedTree) → IsSlotless o → as_text o ≡ Ok x → HasNoSlot x.tree
as_text-slotless (known e) x own h =
    let k = passed (is_text_ty e.ty) (no_text (known e)) (Ok e) x h in
    subst (λ (z : TypedTree). HasNoSlot z.tree) (same_answer (Ok e) e x refl k.gave) own
as_text-slotless (number i) x own h = let no : ⊥ = cc (h) in absurd no
as_text-slotless untyped_null x own h =
    subst (λ (z : TypedTree). HasNoSlot z.tree) (same_answer (Ok (null_of (text_ty Nullable))) (null_of (text_ty Nullable)) x refl h)
    (constant-slotless (text_ty Nullable) raw_null)

pub connective-slotless : (op : Operator) (l r : Operand) (x : TypedTree) → IsSlotless l → IsSlotless r → connective op l r ≡ Ok x → HasNoSlot x.tree
connective-slotless op l r x hl hr h =
    let a = stepped (as_boolean l) (λ a. as_boolean r >>= λ b. Ok (truth_of a.ty b.ty (binary a.tree op b.tree))) x h in
    let b = stepped (as_boolean r) (λ b. Ok (truth_of a.given.ty b.ty (binary a.given.tree op b.tree))) x a.gave in
    let made = truth_of a.given.ty b.given.ty (binary a.given.tree op b.given.tree) in
    subst (λ (z : TypedTree). HasNoSlot z.tree) (same_answer (Ok made) made x refl b.gave)
    (binary-slotless a.given.tree op b.given.tree (as_boolean-slotless l a.given hl a.was) (as_boolean-slotless r b.given hr b.was))

pub negation-slotless : (o : Operand) (x : TypedTree) → IsSlotless o → negation o ≡ Ok x → HasNoSlot x.tree
negation-slotless o x own h =
    let s = stepped (as_boolean o) (λ e. Ok (record { ty = e.ty; tree = not_of e.tree })) x h in
    let made : TypedTree = record { ty = s.given.ty; tree = not_of s.given.tree } in
    subst (λ (z : TypedTree). HasNoSlot z.tree) (same_answer (Ok made) made x refl s.gave)
    (not-slotless s.given.tree (as_boolean-slotless o s.given own s.was))

pub null_test-slotless : (o : Operand) (x : TypedTree) → IsSlotless o → null_test o ≡ Ok x → HasNoSlot x.tree
null_test-slotless o x own h =
    let s = stepped (alone o) (λ e. Ok (record { ty = bool_ty NonNullable; tree = is_null_of e.tree })) x h in
    let made : TypedTree = record { ty = bool_ty NonNullable; tree = is_null_of s.given.tree } in
    subst (λ (z : TypedTree). HasNoSlot z.tree) (same_answer (Ok made) made x refl s.gave)
    (null-slotless s.given.tree (taking-slotless untyped_null o s.given own s.was))

pub not_null_test-slotless : (o : Operand) (x : TypedTree) → IsSlotless o → not_null_test o ≡ Ok x → HasNoSlot x.tree
not_null_test-slotless o x own h =
    let s = stepped (alone o) (λ e. Ok (record { ty = bool_ty NonNullable; tree = not_of (is_null_of e.tree) })) x h in
    let made : TypedTree = record { ty = bool_ty NonNullable; tree = not_of (is_null_of s.given.tree) } in
    subst (λ (z : TypedTree). HasNoSlot z.tree) (same_answer (Ok made) made x refl s.gave)
    (not-slotless (is_null_of s.given.tree) (null-slotless s.given.tree (taking-slotless untyped_null o s.given own s.was)))

pub pattern_test-slotless : (l r : Operand) (x : TypedTree) → IsSlotless l → IsSlotless r → pattern_test l r ≡ Ok x → HasNoSlot x.tree
pattern_test-slotless l r x hl hr h =
    let a = stepped (as_text l) (λ a. as_text r >>= λ b. Ok (truth_of a.ty b.ty (like a.tree b.tree false false))) x h in
    let b = stepped (as_text r) (λ b. Ok (truth_of a.given.ty b.ty (like a.given.tree b.tree false false))) x a.gave in
    let made = truth_of a.given.ty b.given.ty (like a.given.tree b.given.tree false false) in
    subst (λ (z : TypedTree). HasNoSlot z.tree) (same_answer (Ok made) made x refl b.gave)
    (like-slotless a.given.tree b.given.tree false false (as_text-slotless l a.given hl a.was) (as_text-slotless r b.given hr b.was))

-- three expressions in a range
record AreInRange (x : InRange) : Type 0 where
  value : HasNoSlot x.value.tree
  lower : HasNoSlot x.lower.tree
  upper : HasNoSlot x.upper.tree

alike_three-slotless : (x y : InRange) → AreInRange x → alike_three x ≡ Ok y → AreInRange y
alike_three-slotless x y own h =
    let one = passed (is_plain x.value.ty) (not_plain (known x.value)) (where_it (alike x.value.ty x.lower.ty) (other_kinds (known x.value) (known x.lower))
    (where_it (alike x.value.ty x.upper.ty) (other_kinds (known x.value) (known x.upper)) (Ok x))) y h in
    let two = passed (alike x.value.ty x.lower.ty) (other_kinds (known x.value) (known x.lower))
    (where_it (alike x.value.ty x.upper.ty) (other_kinds (known x.value) (known x.upper)) (Ok x)) y one.gave in
    let three = passed (alike x.value.ty x.upper.ty) (other_kinds (known x.value) (known x.upper)) (Ok x) y two.gave in
    subst AreInRange (same_answer (Ok x) x y refl three.gave) own

three_in_common-slotless : (p q r : PType) (c : Option PType) (x y : InRange) → AreInRange x → three_in_common p q r c x ≡ Ok y → AreInRange y
three_in_common-slotless p q r (Some c) x y own h =
    let made : InRange = record { value = widened_to c x.value; lower = widened_to c x.lower; upper = widened_to c x.upper } in
    subst AreInRange (same_answer (Ok made) made y refl h)
    (record {
      value = wider-slotless c x.value.ty x.value.tree own.value;
      lower = wider-slotless c x.lower.ty x.lower.tree own.lower;
      upper = wider-slotless c x.upper.ty x.upper.tree own.upper;
    })
three_in_common-slotless p q r None x y own h = let no : ⊥ = cc (h) in absurd no

three_matched_by-slotless : (p q r : Option PType) (x y : InRange) → AreInRange x → three_matched_by p q r x ≡ Ok y → AreInRange y
three_matched_by-slotless (Some p) (Some q) (Some r) x y own h = three_in_common-slotless p q r (common_of_three p q r) x y own h
three_matched_by-slotless (Some p) (Some q) None x y own h =
    let s = stepped (in_common p q (common_type p q) x.value x.lower) (λ z. Err (other_kinds (known x.value) (known x.upper))) y h in
    let no : ⊥ = cc (s.gave) in absurd no
three_matched_by-slotless (Some p) None r x y own h = alike_three-slotless x y own h
three_matched_by-slotless None q r x y own h = alike_three-slotless x y own h

pub range_test-slotless : (o lower upper : Operand) (x : TypedTree) → IsSlotless o → IsSlotless lower → IsSlotless upper → range_test o lower upper ≡ Ok x
    → HasNoSlot x.tree
range_test-slotless o lower upper x ho hl hu h =
    let across = first_known o (first_known lower upper) in
    let s = stepped (ranged across o lower upper) (λ y. Ok (range_node y)) x h in
    let a = stepped (taking across o) (λ a. taking across lower >>= λ b. taking across upper >>= λ c. three_matched (record { value = a; lower = b; upper = c })) s.given s.was in
    let b = stepped (taking across lower) (λ b. taking across upper >>= λ c. three_matched (record { value = a.given; lower = b; upper = c })) s.given a.gave in
    let c = stepped (taking across upper) (λ c. three_matched (record { value = a.given; lower = b.given; upper = c })) s.given b.gave in
    let three : InRange = record { value = a.given; lower = b.given; upper = c.given } in
    let parts = three_matched_by-slotless (ptype_of a.given.ty) (ptype_of b.given.ty) (ptype_of c.given.ty) three s.given
    (record {
      value = taking-slotless across o a.given ho a.was;
      lower = taking-slotless across lower b.given hl b.was;
      upper = taking-slotless across upper c.given hu c.was;
    }) c.gave in
    subst (λ (z : TypedTree). HasNoSlot z.tree) (same_answer (Ok (range_node s.given)) (range_node s.given) x refl s.gave)
    (between-slotless s.given.value.tree s.given.lower.tree s.given.upper.tree both_count parts.value parts.lower parts.upper)

pub cast_to-slotless : (target : Ty) (o : Operand) (x : TypedTree) → IsSlotless o → cast_to target o ≡ Ok x → HasNoSlot x.tree
cast_to-slotless target (known e) x own h =
    let k = passed (takes_cast e.ty target) (no_cast (known e) target) (Ok (cast_node target e)) x h in
    subst (λ (z : TypedTree). HasNoSlot z.tree) (same_answer (Ok (cast_node target e)) (cast_node target e) x refl k.gave)
    (cast-slotless e.tree (cast_node target e).ty own)
cast_to-slotless target (number i) x own h =
    let k = passed (fits (raw_int i) target) (wrong_number i target) (Ok (constant target (raw_int i))) x h in
    subst (λ (z : TypedTree). HasNoSlot z.tree) (same_answer (Ok (constant target (raw_int i))) (constant target (raw_int i)) x refl k.gave)
    (constant-slotless target (raw_int i))
cast_to-slotless target untyped_null x own h =
    let k = passed (is_plain target) (no_cast untyped_null target) (Ok (null_of target)) x h in
    subst (λ (z : TypedTree). HasNoSlot z.tree) (same_answer (Ok (null_of target)) (null_of target) x refl k.gave)
    (literal-slotless (typed (with_nullability target Nullable) raw_null))

member_node-slotless : (null : Bool) (e : TypedTree) (rs : Raws) → HasNoSlot e.tree → HasNoSlot (member_node null e rs).tree
member_node-slotless false e rs h =
    contains-slotless (constant (list_ty (element_type e) NonNullable) (raw_list rs)).tree e.tree (constant-slotless (list_ty (element_type e) NonNullable) (raw_list rs)) h
member_node-slotless true e rs h =
    binary-slotless (member_node false e rs).tree Operator.Or (null_of (bool_ty Nullable)).tree
    (contains-slotless (constant (list_ty (element_type e) NonNullable) (raw_list rs)).tree e.tree (constant-slotless (list_ty (element_type e) NonNullable) (raw_list rs)) h)
    (constant-slotless (bool_ty Nullable) raw_null)

pub membership-slotless : (cs : List Raw) (o : Operand) (x : TypedTree) → IsSlotless o → membership o cs ≡ Ok x → HasNoSlot x.tree
membership-slotless [] o x own h = let no : ⊥ = cc (h) in absurd no
membership-slotless (c ∷ cs) o x own h =
    let all = c ∷ cs in
    let s = stepped (taking (first_typed all) o) (λ e. member_of e all) x h in
    let e = s.given in
    let k = passed (is_plain e.ty) (not_plain (known e)) (elements e (element_type e) all >>= λ rs. Ok (member_node (has_null all) e rs)) x s.gave in
    let m = stepped (elements e (element_type e) all) (λ rs. Ok (member_node (has_null all) e rs)) x k.gave in
    let made = member_node (has_null all) e m.given in
    subst (λ (z : TypedTree). HasNoSlot z.tree) (same_answer (Ok made) made x refl m.gave)
    (member_node-slotless (has_null all) e m.given (taking-slotless (first_typed all) o e own s.was))
