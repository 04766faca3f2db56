-- Types with no more fields and no deeper than a bound, and nodes whose types are no structs.
use Rattle.std.proofs.Common.{◌≡◌, ◌≤◌, ℕ, ◌+◌, max, refl, ap, sym, ◌∙◌, Bool, true, ◌&&◌, subst, length, Ok}
use Rattle.std.proofs.lemmas.Bool.{and_parts}
use Rattle.vx_dtype.specs.declared.BetweenOptions.{BetweenOptions}
use Rattle.vx_dtype.specs.declared.CompareOperator.{CompareOperator}
use Rattle.vx_dtype.specs.declared.Nullability.{Nullability}
use Rattle.vx_dtype.specs.declared.Nullability.TheVariants.{NonNullable}
use Rattle.vx_dtype.specs.Types.{Ty, bool_ty, int_ty, text_ty, list_ty, struct_ty, Fields}
use Rattle.vx_dtype.specs.TypeRules.{union, nullability_of, with_nullability, alike, is_plain, is_bool_ty, is_int_ty, is_text_ty, field_names, depth_of, depth_below}
use Rattle.vx_dtype.specs.Casts.{takes_cast}
use Rattle.vx_expr.specs.declared.Operator.{Operator}
use Rattle.vx_expr.specs.Trees.{Tree, binary, not_of, is_null_of, like, between, cast, list_contains, dynamic}
use Rattle.vx_semantics.specs.Typing.{and_then, union_of, equal_plain, binary_type, not_type, like_type, between_type, contains_type, cast_type, dynamic_type, typed_of}
use Rattle.vx_laws.proofs.Inverting.{and_then-ok, Ok-same}
use Rattle.vx_laws.proofs.Fitting.{takes_cast-plain}
use Rattle.vx_laws.proofs.Preserving.{one_test}
use Rattle.vx_laws_simplifying.specs.Narrowing.{no_more_nullable}
use Rattle.vx_laws_simplifying.proofs.Under.{UnderFields, bools, ints, texts, lists, structs, no_more, one_more, names-under}
use Rattle.vx_laws_simplifying.proofs.Narrows.{narrowing, Narrow}

mutual
  unfolding depth_of

  -- a type that narrows another is as deep
  pub depth-narrow : (a b : Ty) → Narrow a b → depth_of a ≡ depth_of b
  depth-narrow _ _ (bools n m h) = refl
  depth-narrow _ _ (ints p n m h) = refl
  depth-narrow _ _ (texts n m h) = refl
  depth-narrow _ _ (lists e d n m x h) = ap (λ (k : ℕ). k + 1) (depth-narrow e d x)
  depth-narrow _ _ (structs fs gs n m x h) = ap (λ (k : ℕ). k + 1) (depths-narrow fs gs x)

  depths-narrow : (fs gs : Fields) → UnderFields no_more_nullable fs gs → depth_below fs ≡ depth_below gs
  depths-narrow _ _ no_more = refl
  depths-narrow _ _ (one_more f t u fs gs x y) = ap (λ (k : ℕ). max k (depth_below fs)) (depth-narrow t u x) ∙ ap (max (depth_of u)) (depths-narrow fs gs y)

module _ (w d : ℕ) where
  -- a struct type within these bounds; another type is
  abbrev pub Slim : Ty → Type 0
  Slim (struct_ty fs n) = (length (field_names fs) ≤ w) × (depth_of (struct_ty fs n) ≤ d)
  Slim _ = Unit {0}

  pub slim-narrow : (a b : Ty) → Narrow a b → Slim b → Slim a
  slim-narrow _ _ (bools n m h) s = tt
  slim-narrow _ _ (ints p n m h) s = tt
  slim-narrow _ _ (texts n m h) s = tt
  slim-narrow _ _ (lists e c n m x h) s = tt
  slim-narrow _ _ (structs fs gs n m x h) s = (
    subst (λ (k : ℕ). k ≤ w) (sym (ap length (names-under no_more_nullable narrowing fs gs x))) s.0,
    subst (λ (k : ℕ). k ≤ d) (sym (depth-narrow (struct_ty fs n) (struct_ty gs m) (structs fs gs n m x h))) s.1,
  )

  -- a node whose type is within them
  abbrev pub Within : Ty → Tree → Type 0
  Within t n = (u : Ty) → typed_of t n ≡ Ok u → Slim u

  pub within-typed : (t : Ty) (n : Tree) (v : Ty) → typed_of t n ≡ Ok v → Slim v → Within t n
  within-typed t n v h s u k = subst Slim (Ok-same (typed_of t n) v u h k) s

-- ---- nodes of no struct's type

bool-no : (n : Nullability) (fs : Fields) (k : Nullability) → bool_ty n ≡ struct_ty fs k → ⊥
bool-no n fs k h = let no : ⊥ = cc in no

int-no : (a : Ty) (n : Nullability) (fs : Fields) (k : Nullability) → is_int_ty a ≡ true → with_nullability a n ≡ struct_ty fs k → ⊥
int-no (int_ty p m) n fs k i h = let no : ⊥ = cc in no
int-no (bool_ty m) n fs k i h = let no : ⊥ = cc in no
int-no (text_ty m) n fs k i h = let no : ⊥ = cc in no
int-no (list_ty e m) n fs k i h = let no : ⊥ = cc in no
int-no (struct_ty gs m) n fs k i h = let no : ⊥ = cc in no

sum-no : (a b : Ty) (fs : Fields) (k : Nullability) → (alike a b && is_int_ty a) ≡ true → with_nullability a (union_of a b) ≡ struct_ty fs k → ⊥
sum-no a b fs k h e = int-no a (union_of a b) fs k (and_parts (alike a b) (is_int_ty a) h).1 e

binary-no : (op : Operator) (a b : Ty) (fs : Fields) (k : Nullability) → binary_type op a b ≡ Ok (struct_ty fs k) → ⊥
binary-no Operator.Add a b fs k h = let x = one_test (alike a b && is_int_ty a) (with_nullability a (union_of a b)) (struct_ty fs k) h in sum-no a b fs k x.0 x.1
binary-no Operator.Sub a b fs k h = let x = one_test (alike a b && is_int_ty a) (with_nullability a (union_of a b)) (struct_ty fs k) h in sum-no a b fs k x.0 x.1
binary-no Operator.And a b fs k h = bool-no (union_of a b) fs k (one_test (is_bool_ty a && is_bool_ty b) (bool_ty (union_of a b)) (struct_ty fs k) h).1
binary-no Operator.Or a b fs k h = bool-no (union_of a b) fs k (one_test (is_bool_ty a && is_bool_ty b) (bool_ty (union_of a b)) (struct_ty fs k) h).1
binary-no _ a b fs k h = bool-no (union_of a b) fs k (one_test (equal_plain a b) (bool_ty (union_of a b)) (struct_ty fs k) h).1

not-no : (a : Ty) (fs : Fields) (k : Nullability) → is_bool_ty a ≡ true → a ≡ struct_ty fs k → ⊥
not-no a fs k h e = let same : is_bool_ty (struct_ty fs k) ≡ true = subst (λ (z : Ty). is_bool_ty z ≡ true) e h in let no : ⊥ = cc in no

contains-no : (a b : Ty) (fs : Fields) (k : Nullability) → contains_type a b ≡ Ok (struct_ty fs k) → ⊥
contains-no (list_ty e n) b fs k h = bool-no (union n (nullability_of b)) fs k (one_test (equal_plain e b) (bool_ty (union n (nullability_of b))) (struct_ty fs k) h).1
contains-no (bool_ty n) b fs k h = let no : ⊥ = cc in no
contains-no (int_ty p n) b fs k h = let no : ⊥ = cc in no
contains-no (text_ty n) b fs k h = let no : ⊥ = cc in no
contains-no (struct_ty gs n) b fs k h = let no : ⊥ = cc in no

cast-no : (a target : Ty) (fs : Fields) (k : Nullability) → takes_cast a target ≡ true → target ≡ struct_ty fs k → ⊥
cast-no a target fs k h e = let same : is_plain (struct_ty fs k) ≡ true = subst (λ (z : Ty). is_plain z ≡ true) e (takes_cast-plain a target h) in let no : ⊥ = cc in no

module _ (t : Ty) where
  -- a node that has no struct's type
  abbrev pub Plainly : Tree → Type 0
  Plainly n = (fs : Fields) (k : Nullability) → typed_of t n ≡ Ok (struct_ty fs k) → ⊥

  pub binary-plain : (l : Tree) (op : Operator) (r : Tree) → Plainly (binary l op r)
  unfolding typed_of
  binary-plain l op r fs k h =
      let a = and_then-ok (typed_of t l) (λ x. and_then (typed_of t r) (binary_type op x)) (struct_ty fs k) h in
      let b = and_then-ok (typed_of t r) (binary_type op a.given) (struct_ty fs k) a.gave in
      binary-no op a.given b.given fs k b.gave

  pub not-plain : (e : Tree) → Plainly (not_of e)
  unfolding typed_of
  not-plain e fs k h =
      let a = and_then-ok (typed_of t e) not_type (struct_ty fs k) h in
      let x = one_test (is_bool_ty a.given) a.given (struct_ty fs k) a.gave in
      not-no a.given fs k x.0 x.1

  pub is_null-plain : (e : Tree) → Plainly (is_null_of e)
  unfolding typed_of
  is_null-plain e fs k h =
      let a = and_then-ok (typed_of t e) (λ x. Ok (bool_ty NonNullable)) (struct_ty fs k) h in
      bool-no NonNullable fs k (Ok-same (Ok (bool_ty NonNullable)) (bool_ty NonNullable) (struct_ty fs k) refl a.gave)

  pub like-plain : (e p : Tree) (negated fold_case : Bool) → Plainly (like e p negated fold_case)
  unfolding typed_of
  like-plain e p negated fold_case fs k h =
      let a = and_then-ok (typed_of t e) (λ x. and_then (typed_of t p) (like_type x)) (struct_ty fs k) h in
      let b = and_then-ok (typed_of t p) (like_type a.given) (struct_ty fs k) a.gave in
      bool-no (union_of a.given b.given) fs k (one_test (is_text_ty a.given && is_text_ty b.given) (bool_ty (union_of a.given b.given)) (struct_ty fs k) b.gave).1

  pub between-plain : (e lower upper : Tree) (options : BetweenOptions) → Plainly (between e lower upper options)
  unfolding typed_of
  between-plain e lower upper options fs k h =
      let a = and_then-ok (typed_of t e) (λ x. and_then (typed_of t lower) (λ y. and_then (typed_of t upper) (between_type x y))) (struct_ty fs k) h in
      let b = and_then-ok (typed_of t lower) (λ y. and_then (typed_of t upper) (between_type a.given y)) (struct_ty fs k) a.gave in
      let c = and_then-ok (typed_of t upper) (between_type a.given b.given) (struct_ty fs k) b.gave in
      let n = union (nullability_of a.given) (union_of b.given c.given) in
      bool-no n fs k (one_test (equal_plain a.given b.given && equal_plain a.given c.given) (bool_ty n) (struct_ty fs k) c.gave).1

  pub cast-plain : (e : Tree) (target : Ty) → Plainly (cast e target)
  unfolding typed_of
  cast-plain e target fs k h =
      let a = and_then-ok (typed_of t e) (cast_type target) (struct_ty fs k) h in
      let x = one_test (takes_cast a.given target) target (struct_ty fs k) a.gave in
      cast-no a.given target fs k x.0 x.1

  pub contains-plain : (l v : Tree) → Plainly (list_contains l v)
  unfolding typed_of
  contains-plain l v fs k h =
      let a = and_then-ok (typed_of t l) (λ x. and_then (typed_of t v) (contains_type x)) (struct_ty fs k) h in
      let b = and_then-ok (typed_of t v) (contains_type a.given) (struct_ty fs k) a.gave in
      contains-no a.given b.given fs k b.gave

  pub dynamic-plain : (e : Tree) (op : CompareOperator) (slot : ℕ) (ty : Ty) (default : Bool) → Plainly (dynamic e op slot ty default)
  unfolding typed_of
  dynamic-plain e op slot ty default fs k h =
      let a = and_then-ok (typed_of t e) (dynamic_type ty) (struct_ty fs k) h in
      bool-no (union_of a.given ty) fs k (one_test (equal_plain a.given ty) (bool_ty (union_of a.given ty)) (struct_ty fs k) a.gave).1
