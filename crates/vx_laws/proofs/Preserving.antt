-- A strictly typed expression means a value of its type, but for faults.
use Rattle.std.proofs.Common.{◌≡◌, ℕ, refl, ap, sym, ◌∙◌, Bool, true, ◌&&◌, subst, List, [], ◌∷◌, Result, Ok}
use Rattle.std.proofs.lemmas.Bool.{and_parts}
use Rattle.vx_dtype.specs.declared.Nullability.TheVariants.{NonNullable}
use Rattle.vx_dtype.specs.declared.CompareOperator.{CompareOperator}
use Rattle.vx_dtype.specs.declared.CompareOperator.TheVariants.{Eq, NotEq, Gt, Gte, Lt, Lte}
use Rattle.vx_dtype.specs.declared.BetweenOptions.{BetweenOptions}
use Rattle.vx_dtype.specs.Types.{Ty, bool_ty, int_ty, list_ty}
use Rattle.vx_dtype.specs.TypeRules.{nullability_of, union, with_nullability, alike, is_bool_ty, is_int_ty, is_text_ty, no_name_twice}
use Rattle.vx_dtype.specs.Values.{Val, Typed, value_of}
use Rattle.vx_dtype.specs.Fits.{fits, fits_but_for_faults}
use Rattle.vx_dtype.specs.Logic.{and3, or3, not3, is_null3}
use Rattle.vx_dtype.specs.Order.{compare3, between3}
use Rattle.vx_dtype.specs.Sums.{add3, sub3}
use Rattle.vx_dtype.specs.Like.{like3}
use Rattle.vx_dtype.specs.Casts.{takes_cast, cast3}
use Rattle.vx_dtype.specs.Lists.{contains3}
use Rattle.vx_expr.specs.declared.Operator.{Operator}
use Rattle.vx_expr.specs.Trees.{Tree, root, literal, get_item, binary, not_of, is_null_of, like, between, cast, list_contains, pack, merge, select, dynamic, Trees, no_trees, tree}
use Rattle.vx_semantics.specs.Typing.{Refusal, duplicate_field, type_mismatch, and_then, unless, distinct_type, literal_type, item_type, select_type, pack_type, merge_type, union_of, equal_plain, compare_type, logic_type, sum_type, binary_type, not_type, like_type, between_type, contains_type, cast_type, dynamic_type, typed_of, all_typed, names_in, type_or_empty}
use Rattle.vx_semantics.specs.Meaning.{Slots, binary3, dynamic3, slot_value, mean, meanings, sources}
use Rattle.vx_expr.specs.Slots.{slot_held}
use Rattle.vx_semantics.specs.Slots.{held_fits, slots_fit, all_slots_fit}
use Rattle.vx_laws.specs.Values.{MeaningFits}
use Rattle.vx_laws.proofs.Inverting.{and_then-ok, unless-ok, Ok-same}
use Rattle.vx_laws.proofs.Fitting.{null_ok-fits, compare3-fits, and3-fits, or3-fits, not3-fits, is_null3-fits, like3-fits, contains3-fits, between3-fits, add3-fits, sub3-fits, takes_cast-plain, cast3-fits, dynamic3-fits, valued-fits, fits-but_for_faults}
use Rattle.vx_laws.proofs.Structs.{item-fits, select3-fits, AllFit, pack-fits, AllSourcesFit, merged-fits}

abbrev pub FitsButFaults : Val → Ty → Type 0
FitsButFaults v t = fits_but_for_faults v t ≡ true

-- a type that passed the test of distinct names is the given one
pub distinct_type-ok : (t u : Ty) → distinct_type t ≡ Ok u → t ≡ u
distinct_type-ok t u h = let a = unless-ok (no_name_twice t) duplicate_field (Ok t) u h in Ok-same (Ok t) t u refl a.gave

-- a literal's type is the constant's, which it fits
pub record LiteralTyped (s : Typed) (u : Ty) : Type 0 where
  pub same : s.ty ≡ u
  pub is_value : fits s.value s.ty ≡ true

pub literal_type-ok : (s : Typed) (u : Ty) → literal_type s ≡ Ok u → LiteralTyped s u
literal_type-ok s u h =
    let a = and_then-ok (distinct_type s.ty) (λ t. unless (fits s.value t) type_mismatch (Ok t)) u h in
    let same = distinct_type-ok s.ty a.given a.was in
    let b = unless-ok (fits s.value a.given) type_mismatch (Ok a.given) u a.gave in
    record { same = same ∙ Ok-same (Ok a.given) a.given u refl b.gave; is_value = subst (λ (z : Ty). fits s.value z ≡ true) (sym same) b.holds }

pub literal-fits : (s : Typed) (u : Ty) → literal_type s ≡ Ok u → FitsButFaults (value_of s) u
literal-fits s u h =
    let k = literal_type-ok s u h in
    subst (λ (z : Ty). FitsButFaults (value_of s) z) k.same (fits-but_for_faults (value_of s) s.ty (valued-fits s.value s.ty k.is_value))

-- an answer behind one test
pub one_test : (b : Bool) (t u : Ty) → unless b type_mismatch (Ok t) ≡ Ok u → (b ≡ true) × (t ≡ u)
one_test b t u h = let a = unless-ok b type_mismatch (Ok t) u h in (a.holds, Ok-same (Ok t) t u refl a.gave)

compare-fits : (op : CompareOperator) (l r : Val) (a b u : Ty) → FitsButFaults l a → FitsButFaults r b → compare_type a b ≡ Ok u → FitsButFaults (compare3 op l r) u
compare-fits op l r a b u h k e =
    let t = one_test (equal_plain a b) (bool_ty (union_of a b)) u e in
    subst (λ (z : Ty). FitsButFaults (compare3 op l r) z) t.1 (compare3-fits op l r (nullability_of a) (nullability_of b) (null_ok-fits l a h) (null_ok-fits r b k))

and-fits : (l r : Val) (a b u : Ty) → FitsButFaults l a → FitsButFaults r b → logic_type a b ≡ Ok u → FitsButFaults (and3 l r) u
and-fits l r a b u h k e =
    let t = one_test (is_bool_ty a && is_bool_ty b) (bool_ty (union_of a b)) u e in
    subst (λ (z : Ty). FitsButFaults (and3 l r) z) t.1 (and3-fits l r (nullability_of a) (nullability_of b) (null_ok-fits l a h) (null_ok-fits r b k))

or-fits : (l r : Val) (a b u : Ty) → FitsButFaults l a → FitsButFaults r b → logic_type a b ≡ Ok u → FitsButFaults (or3 l r) u
or-fits l r a b u h k e =
    let t = one_test (is_bool_ty a && is_bool_ty b) (bool_ty (union_of a b)) u e in
    subst (λ (z : Ty). FitsButFaults (or3 l r) z) t.1 (or3-fits l r (nullability_of a) (nullability_of b) (null_ok-fits l a h) (null_ok-fits r b k))

add-fits : (l r : Val) (a b u : Ty) → FitsButFaults l a → FitsButFaults r b → sum_type a b ≡ Ok u → FitsButFaults (add3 l r) u
add-fits l r (int_ty p n) b u h k e =
    let t = one_test (alike (int_ty p n) b && true) (int_ty p (union n (nullability_of b))) u e in
    subst (λ (z : Ty). FitsButFaults (add3 l r) z) t.1 (add3-fits l r p n (nullability_of b) h (null_ok-fits r b k))
add-fits l r a b u h k e =
    let t = one_test (alike a b && is_int_ty a) (with_nullability a (union_of a b)) u e in
    let int = and_parts (alike a b) (is_int_ty a) t.0 in
    let no : ⊥ = cc (int.1) in
    absurd no

sub-fits : (l r : Val) (a b u : Ty) → FitsButFaults l a → FitsButFaults r b → sum_type a b ≡ Ok u → FitsButFaults (sub3 l r) u
sub-fits l r (int_ty p n) b u h k e =
    let t = one_test (alike (int_ty p n) b && true) (int_ty p (union n (nullability_of b))) u e in
    subst (λ (z : Ty). FitsButFaults (sub3 l r) z) t.1 (sub3-fits l r p n (nullability_of b) h (null_ok-fits r b k))
sub-fits l r a b u h k e =
    let t = one_test (alike a b && is_int_ty a) (with_nullability a (union_of a b)) u e in
    let int = and_parts (alike a b) (is_int_ty a) t.0 in
    let no : ⊥ = cc (int.1) in
    absurd no

binary-fits : (op : Operator) (l r : Val) (a b u : Ty) → FitsButFaults l a → FitsButFaults r b → binary_type op a b ≡ Ok u → FitsButFaults (binary3 op l r) u
binary-fits Operator.Eq = compare-fits Eq
binary-fits Operator.NotEq = compare-fits NotEq
binary-fits Operator.Gt = compare-fits Gt
binary-fits Operator.Gte = compare-fits Gte
binary-fits Operator.Lt = compare-fits Lt
binary-fits Operator.Lte = compare-fits Lte
binary-fits Operator.And = and-fits
binary-fits Operator.Or = or-fits
binary-fits Operator.Add = add-fits
binary-fits Operator.Sub = sub-fits

not-fits : (v : Val) (a u : Ty) → FitsButFaults v a → not_type a ≡ Ok u → FitsButFaults (not3 v) u
not-fits v (bool_ty n) u h e =
    let t = one_test true (bool_ty n) u e in
    subst (λ (z : Ty). FitsButFaults (not3 v) z) t.1 (not3-fits v n (null_ok-fits v (bool_ty n) h))
not-fits v _ u h e = let no : ⊥ = cc in absurd no

like-fits : (negated fold_case : Bool) (l r : Val) (a b u : Ty) → FitsButFaults l a → FitsButFaults r b → like_type a b ≡ Ok u → FitsButFaults (like3 negated fold_case l r) u
like-fits negated fold_case l r a b u h k e =
    let t = one_test (is_text_ty a && is_text_ty b) (bool_ty (union_of a b)) u e in
    subst (λ (z : Ty). FitsButFaults (like3 negated fold_case l r) z) t.1 (like3-fits negated fold_case l r (nullability_of a) (nullability_of b) (null_ok-fits l a h) (null_ok-fits r b k))

between-fits : (options : BetweenOptions) (v lower upper : Val) (a b c u : Ty) → FitsButFaults v a → FitsButFaults lower b → FitsButFaults upper c → between_type a b c ≡ Ok u → FitsButFaults (between3 options v lower upper) u
between-fits options v lower upper a b c u h k j e =
    let t = one_test (equal_plain a b && equal_plain a c) (bool_ty (union (nullability_of a) (union_of b c))) u e in
    subst (λ (z : Ty). FitsButFaults (between3 options v lower upper) z) t.1
    (between3-fits options v lower upper (nullability_of a) (nullability_of b) (nullability_of c) (null_ok-fits v a h) (null_ok-fits lower b k) (null_ok-fits upper c j))

contains-fits : (l v : Val) (a b u : Ty) → FitsButFaults l a → FitsButFaults v b → contains_type a b ≡ Ok u → FitsButFaults (contains3 l v) u
contains-fits l v (list_ty d n) b u h k e =
    let t = one_test (equal_plain d b) (bool_ty (union n (nullability_of b))) u e in
    subst (λ (z : Ty). FitsButFaults (contains3 l v) z) t.1 (contains3-fits l v n (nullability_of b) (null_ok-fits l (list_ty d n) h) (null_ok-fits v b k))
contains-fits l v _ b u h k e = let no : ⊥ = cc in absurd no

cast-fits : (target : Ty) (v : Val) (a u : Ty) → cast_type target a ≡ Ok u → FitsButFaults (cast3 target v) u
cast-fits target v a u e =
    let t = one_test (takes_cast a target) target u e in
    subst (λ (z : Ty). FitsButFaults (cast3 target v) z) t.1 (cast3-fits target v (takes_cast-plain a target t.0))

dynamic-fits : (op : CompareOperator) (default : Bool) (v : Val) (slots : Slots) (k : ℕ) (slot a u : Ty) → FitsButFaults v a → held_fits (slot_held slots k) slot ≡ true → dynamic_type slot a ≡ Ok u
    → FitsButFaults (dynamic3 op default v (slot_value slots k)) u
dynamic-fits op default v slots k slot a u h j e =
    let t = one_test (equal_plain a slot) (bool_ty (union_of a slot)) u e in
    subst (λ (z : Ty). FitsButFaults (dynamic3 op default v (slot_value slots k)) z) t.1 (dynamic3-fits op default v (slot_held slots k) slot (nullability_of a) (null_ok-fits v a h) j)

mutual
  unfolding mean typed_of slots_fit

  pub mean-fits : (t : Ty) (slots : Slots) (row : Val) (e : Tree) (u : Ty) → FitsButFaults row t → slots_fit slots e ≡ true → typed_of t e ≡ Ok u → FitsButFaults (mean t slots row e) u
  mean-fits t slots row root u h s e = subst (λ (z : Ty). FitsButFaults row z) (distinct_type-ok t u e) h
  mean-fits t slots row (literal c) u h s e = literal-fits c u e
  mean-fits t slots row (get_item f d) u h s e =
      let a = and_then-ok (typed_of t d) (item_type f) u e in
      item-fits f (mean t slots row d) a.given u (mean-fits t slots row d a.given h s a.was) a.gave
  mean-fits t slots row (binary l op r) u h s e =
      let parts = and_parts (slots_fit slots l) (slots_fit slots r) s in
      let a = and_then-ok (typed_of t l) (λ x. and_then (typed_of t r) (binary_type op x)) u e in
      let b = and_then-ok (typed_of t r) (binary_type op a.given) u a.gave in
      binary-fits op (mean t slots row l) (mean t slots row r) a.given b.given u (mean-fits t slots row l a.given h parts.0 a.was) (mean-fits t slots row r b.given h parts.1 b.was) b.gave
  mean-fits t slots row (not_of d) u h s e =
      let a = and_then-ok (typed_of t d) not_type u e in
      not-fits (mean t slots row d) a.given u (mean-fits t slots row d a.given h s a.was) a.gave
  mean-fits t slots row (is_null_of d) u h s e =
      let a = and_then-ok (typed_of t d) (λ x. Ok (bool_ty NonNullable)) u e in
      subst (λ (z : Ty). FitsButFaults (is_null3 (mean t slots row d)) z) (Ok-same (Ok u) (bool_ty NonNullable) u (sym a.gave) refl) (is_null3-fits (mean t slots row d) NonNullable)
  mean-fits t slots row (like d p negated fold_case) u h s e =
      let parts = and_parts (slots_fit slots d) (slots_fit slots p) s in
      let a = and_then-ok (typed_of t d) (λ x. and_then (typed_of t p) (like_type x)) u e in
      let b = and_then-ok (typed_of t p) (like_type a.given) u a.gave in
      like-fits negated fold_case (mean t slots row d) (mean t slots row p) a.given b.given u (mean-fits t slots row d a.given h parts.0 a.was) (mean-fits t slots row p b.given h parts.1 b.was) b.gave
  mean-fits t slots row (between d lower upper options) u h s e =
      let parts = and_parts (slots_fit slots d) (slots_fit slots lower && slots_fit slots upper) s in
      let more = and_parts (slots_fit slots lower) (slots_fit slots upper) parts.1 in
      let a = and_then-ok (typed_of t d) (λ x. and_then (typed_of t lower) (λ y. and_then (typed_of t upper) (between_type x y))) u e in
      let b = and_then-ok (typed_of t lower) (λ y. and_then (typed_of t upper) (between_type a.given y)) u a.gave in
      let c = and_then-ok (typed_of t upper) (between_type a.given b.given) u b.gave in
      between-fits options (mean t slots row d) (mean t slots row lower) (mean t slots row upper) a.given b.given c.given u
      (mean-fits t slots row d a.given h parts.0 a.was) (mean-fits t slots row lower b.given h more.0 b.was) (mean-fits t slots row upper c.given h more.1 c.was) c.gave
  mean-fits t slots row (cast d target) u h s e =
      let a = and_then-ok (typed_of t d) (cast_type target) u e in
      cast-fits target (mean t slots row d) a.given u a.gave
  mean-fits t slots row (list_contains l v) u h s e =
      let parts = and_parts (slots_fit slots l) (slots_fit slots v) s in
      let a = and_then-ok (typed_of t l) (λ x. and_then (typed_of t v) (contains_type x)) u e in
      let b = and_then-ok (typed_of t v) (contains_type a.given) u a.gave in
      contains-fits (mean t slots row l) (mean t slots row v) a.given b.given u (mean-fits t slots row l a.given h parts.0 a.was) (mean-fits t slots row v b.given h parts.1 b.was) b.gave
  mean-fits t slots row (pack names es n) u h s e =
      let a = and_then-ok (all_typed t es) (pack_type names n) u e in
      pack-fits names n (meanings t slots row es) a.given u (meanings-fit t slots row es a.given h s a.was) a.gave
  mean-fits t slots row (merge es n) u h s e =
      let a = and_then-ok (all_typed t es) (merge_type n) u e in
      merged-fits n (sources t slots row es) a.given u (sources-fit t slots row es a.given h s a.was) a.gave
  mean-fits t slots row (select c d) u h s e =
      let a = and_then-ok (typed_of t d) (select_type c) u e in
      select3-fits c (mean t slots row d) a.given u (mean-fits t slots row d a.given h s a.was) a.gave
  mean-fits t slots row (dynamic d op k slot default) u h s e =
      let parts = and_parts (held_fits (slot_held slots k) slot) (slots_fit slots d) s in
      let a = and_then-ok (typed_of t d) (dynamic_type slot) u e in
      dynamic-fits op default (mean t slots row d) slots k slot a.given u (mean-fits t slots row d a.given h parts.1 a.was) parts.0 a.gave

  pub meanings-fit : (t : Ty) (slots : Slots) (row : Val) (es : Trees) (us : List Ty) → FitsButFaults row t → all_slots_fit slots es ≡ true → all_typed t es ≡ Ok us → AllFit (meanings t slots row es) us
  meanings-fit t slots row no_trees us h s e = subst (λ (z : List Ty). AllFit [] z) (Ok-same (Ok us) [] us (sym e) refl) tt
  meanings-fit t slots row (tree d ds) us h s e =
      let parts = and_parts (slots_fit slots d) (all_slots_fit slots ds) s in
      let a = and_then-ok (typed_of t d) (λ x. and_then (all_typed t ds) (λ xs. Ok (x ∷ xs))) us e in
      let b = and_then-ok (all_typed t ds) (λ xs. Ok (a.given ∷ xs)) us a.gave in
      subst (λ (z : List Ty). AllFit (meanings t slots row (tree d ds)) z) (Ok-same (Ok us) (a.given ∷ b.given) us (sym b.gave) refl)
      (mean-fits t slots row d a.given h parts.0 a.was, meanings-fit t slots row ds b.given h parts.1 b.was)

  pub sources-fit : (t : Ty) (slots : Slots) (row : Val) (es : Trees) (us : List Ty) → FitsButFaults row t → all_slots_fit slots es ≡ true → all_typed t es ≡ Ok us → AllSourcesFit (sources t slots row es) us
  sources-fit t slots row no_trees us h s e = subst (λ (z : List Ty). AllSourcesFit [] z) (Ok-same (Ok us) [] us (sym e) refl) tt
  sources-fit t slots row (tree d ds) us h s e =
      let parts = and_parts (slots_fit slots d) (all_slots_fit slots ds) s in
      let a = and_then-ok (typed_of t d) (λ x. and_then (all_typed t ds) (λ xs. Ok (x ∷ xs))) us e in
      let b = and_then-ok (all_typed t ds) (λ xs. Ok (a.given ∷ xs)) us a.gave in
      subst (λ (z : List Ty). AllSourcesFit (sources t slots row (tree d ds)) z) (Ok-same (Ok us) (a.given ∷ b.given) us (sym b.gave) refl)
      (record { value = mean-fits t slots row d a.given h parts.0 a.was; named = ap (λ (r : Result Ty Refusal). names_in (type_or_empty r)) a.was }, sources-fit t slots row ds b.given h parts.1 b.was)

pub meaning_fits : MeaningFits
meaning_fits t slots row e u h s k = mean-fits t slots row e u h s k
