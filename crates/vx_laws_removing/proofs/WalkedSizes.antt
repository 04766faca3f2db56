-- The walk leaves few nodes: what has a struct's type is a pack, or a chain of field accesses no longer than the type that it begins with is deep.
use Rattle.std.proofs.Common.{◌≡◌, ◌≤◌, ℕ, suc, ◌+◌, ◌*◌, max, refl, ap, sym, ◌∙◌, Bool, true, false, cond, not, Option, Some, None, subst, List, [], ◌∷◌, length, map, Result, Ok, suc-mul, mul-le-mul_right, arith}
use Rattle.std.specs.Prelude.{nat_eq, option_map, unwrap_or}
use Rattle.std.specs.Option.{option_or}
use Rattle.std.specs.Str.{bytes_eq}
use Rattle.vx_dtype.specs.declared.Nullability.{Nullability}
use Rattle.vx_dtype.specs.declared.Nullability.TheVariants.{NonNullable}
use Rattle.vx_dtype.specs.Types.{Bytes, Ty, bool_ty, int_ty, text_ty, list_ty, struct_ty, Fields, no_fields, field}
use Rattle.vx_dtype.specs.TypeRules.{is_nullable, widened, field_type, has_name, distinct_names, depth_of, depth_below}
use Rattle.vx_dtype.specs.Zipped.{zipped}
use Rattle.vx_expr.specs.declared.FieldSelection.{FieldSelection}
use Rattle.vx_expr.specs.Selections.{names_where_known}
use Rattle.vx_expr.specs.Trees.{Tree, root, literal, get_item, binary, not_of, is_null_of, like, between, cast, list_contains, pack, merge, select, dynamic, Trees, no_trees, tree, trees_of, listed, children_of}
use Rattle.vx_semantics.specs.Merging.{merged_names, last_giver}
use Rattle.vx_semantics.specs.Typing.{Refusal, nullable_select, duplicate_field, type_mismatch, and_then, unless, item_type, pack_type, typed_of, all_typed}
use Rattle.vx_passes.specs.Selecting.{fields_pack}
use Rattle.vx_expr.specs.Children.{packed_value}
use Rattle.vx_passes.specs.Simplifying.{field_of_pack}
use Rattle.vx_passes.specs.Merging.{Giving, giving_names, givings_pack}
use Rattle.vx_laws.proofs.Inverting.{and_then-ok, unless-ok, Ok-same}
use Rattle.vx_laws.proofs.Preserving.{distinct_type-ok}
use Rattle.vx_laws.proofs.Structs.{item_type-ok}
use Rattle.vx_laws.proofs.Distinct.{field_names-zip}
use Rattle.vx_laws_removing.specs.Walking.{head_of, fields_taken, pack_taken, select_by_head, giving_by_head, givings_by_head, walked_node}
use Rattle.vx_laws_removing.proofs.Counted.{weight, size, sizes, Each}
use Rattle.vx_laws_removing.proofs.Slim.{Slim, Within, within-typed, Plainly, binary-plain, not-plain, is_null-plain, like-plain, between-plain, cast-plain, contains-plain, dynamic-plain}
use Rattle.vx_laws_removing.proofs.Summed.{sum, cost_in, cost, costs, cost-value, sum-costs}
use Rattle.vx_laws_removing.proofs.PackFields.{value-of, known-some}

-- ---- depths

field-depth : (f : Bytes) (fs : Fields) (u : Ty) → field_type f fs ≡ Some u → depth_of u ≤ depth_below fs
unfolding depth_of
field-depth f no_fields u h = let no : ⊥ = cc in absurd no
field-depth f (field g v fs) u h = by-test (bytes_eq f g) h (λ k. field-depth f fs u k)
  where
    by-test : (b : Bool) → cond b (Some v) (field_type f fs) ≡ Some u → (field_type f fs ≡ Some u → depth_of u ≤ depth_below fs) → depth_of u ≤ max (depth_of v) (depth_below fs)
    by-test true k r = let same : v ≡ u = cc in subst (λ (z : Ty). depth_of z ≤ max (depth_of v) (depth_below fs)) same (omega arith)
    by-test false k r = let a = r k in omega (arith, a)

depth-widened : (u : Ty) (n : Nullability) → depth_of (widened u n) ≡ depth_of u
unfolding depth_of
depth-widened (bool_ty m) n = refl
depth-widened (int_ty p m) n = refl
depth-widened (text_ty m) n = refl
depth-widened (list_ty e m) n = refl
depth-widened (struct_ty fs m) n = refl

unfoldable pub is_pack : Tree → Bool
is_pack (pack names es n) = true
is_pack _ = false

item-stays : (f : Bytes) (x : Tree) → is_pack x ≡ false → field_of_pack (get_item f x) ≡ Ok (get_item f x)
unfolding is_pack
item-stays f (pack names es n) h = let no : ⊥ = cc in absurd no
item-stays f x h = refl

no-cost : (f : Bytes) (x : Tree) → is_pack x ≡ false → cost x f ≡ 0
unfolding is_pack cost
no-cost f (pack names es n) h = let no : ⊥ = cc in absurd no
no-cost f x h = refl

module _ (w d : ℕ) (t : Ty) where
  -- nodes that the walk leaves: those of a struct's type
  abbrev pub Small : Tree → Type 0
  Small x = (fs : Fields) (k : Nullability) → typed_of t x ≡ Ok (struct_ty fs k) → size x + depth_of (struct_ty fs k) ≤ suc d

  mutual
    pub data Good : Tree → Type 0 where
      good_pack : (names : List Bytes) (es : Trees) (n : Nullability) → AllGood es → Good (pack names es n)
      good_other : (x : Tree) → is_pack x ≡ false → Small x → Good x

    pub data AllGood : Trees → Type 0 where
      none_good : AllGood no_trees
      more_good : (x : Tree) (xs : Trees) → Good x → AllGood xs → AllGood (tree x xs)

  each-good : (es : Trees) → AllGood es → Each Good (listed es)
  each-good _ none_good = tt
  each-good _ (more_good x xs g h) = (g, each-good xs h)

  good-each : (es : Trees) → Each Good (listed es) → AllGood es
  good-each no_trees h = none_good
  good-each (tree x xs) h = more_good x xs h.0 (good-each xs h.1)

  small-plain : (x : Tree) → Plainly t x → Small x
  small-plain x p fs k h = absurd (p fs k h)

  -- a leaf
  small-leaf : (x : Tree) → size x ≡ 1 → Within w d t x → Small x
  small-leaf x e s fs k h = let a = (s (struct_ty fs k) h).1 in omega (arith, e, a)

  -- a field on a chain
  small-item : (f : Bytes) (x : Tree) → Small x → Small (get_item f x)
  unfolding typed_of weight depth_of
  small-item f x s fs k h =
      let a = and_then-ok (typed_of t x) (item_type f) (struct_ty fs k) h in
      let i = item_type-ok f a.given (struct_ty fs k) a.gave in
      let below = s i.fields i.nullability (a.was ∙ ap (λ (z : Ty). Ok z) i.is) in
      let within = field-depth f i.fields i.own i.found in
      let same : depth_of (struct_ty fs k) ≡ depth_of i.own = ap depth_of i.gives ∙ depth-widened i.own i.nullability in
      omega (arith, below, within, same)

  item-short : (f : Bytes) (x : Tree) (v : Ty) → Small x → typed_of t (get_item f x) ≡ Ok v → size x ≤ d
  unfolding typed_of depth_of
  item-short f x v s h =
      let a = and_then-ok (typed_of t x) (item_type f) v h in
      let i = item_type-ok f a.given v a.gave in
      let below = s i.fields i.nullability (a.was ∙ ap (λ (z : Ty). Ok z) i.is) in
      omega (arith, below)

  -- what a field becomes
  record Took (f : Bytes) (x m : Tree) : Type 0 where
    pub small : size m ≤ suc (size x)
    pub by_cost : size m ≤ (d + 2) + cost x f
    pub good : Good m

  take-pack : (f : Bytes) (names : List Bytes) (es : Trees) (n : Nullability) (m : Tree) → AllGood es → packed_value f names es ≡ Some m → Took f (pack names es n) m
  unfolding weight cost cost_in
  take-pack f names es n m g h =
      let r = value-of Good f names es m (each-good es g) h in
      record { small = let a = r.1 in omega (arith, a); by_cost = cost-value f names es m (d + 2) h; good = r.0 }

  take-other : (f : Bytes) (x : Tree) (v : Ty) → is_pack x ≡ false → Small x → typed_of t (get_item f x) ≡ Ok v → Took f x (get_item f x)
  unfolding weight is_pack
  take-other f x v p s ty =
      let short = item-short f x v s ty in
      record { small = omega arith; by_cost = omega (arith, short); good = good_other (get_item f x) refl (small-item f x s) }

  take : (f : Bytes) (x m : Tree) (v : Ty) → Good x → field_of_pack (get_item f x) ≡ Ok m → typed_of t m ≡ Ok v → Took f x m
  take f _ m v (good_pack names es n g) h ty = take-pack f names es n m g (known-some (packed_value f names es) m h)
  take f _ m v (good_other x p s) h ty =
      let same = Ok-same (field_of_pack (get_item f x)) (get_item f x) m (item-stays f x p) h in
      subst (Took f x) same (take-other f x v p s (subst (λ (z : Tree). typed_of t z ≡ Ok v) (sym same) ty))

  -- fields, each of the expression that gives it
  module _ (giver : Bytes → Tree) (xs : Trees) (goods : (f : Bytes) → Good (giver f)) (cheap : (f : Bytes) → cost (giver f) f ≤ costs xs f) where
    abbrev items : List Bytes → Trees
    items names = trees_of (map (λ f. get_item f (giver f)) names)

    record AllTook (names : List Bytes) (ds : Trees) : Type 0 where
      pub small : sizes ds ≤ length names * (d + 2) + sum (costs xs) names
      pub good : AllGood ds

    take-all : (names : List Bytes) (ds : Trees) (us : List Ty) → fields_taken (items names) ≡ Ok ds → all_typed t ds ≡ Ok us → AllTook names ds
    unfolding typed_of weight sum
    take-all [] ds us h ty =
        let same = Ok-same (fields_taken no_trees) no_trees ds refl h in
        subst (AllTook []) same (record { small = omega arith; good = none_good })
    take-all (f ∷ names) ds us h ty =
        let x = and_then-ok (field_of_pack (get_item f (giver f))) (λ y. and_then (fields_taken (items names)) (λ ys. Ok (tree y ys))) ds h in
        let y = and_then-ok (fields_taken (items names)) (λ ys. Ok (tree x.given ys)) ds x.gave in
        let same = Ok-same (Ok ds) (tree x.given y.given) ds (sym y.gave) refl in
        let typed = subst (λ (z : Trees). all_typed t z ≡ Ok us) (sym same) ty in
        let a = and_then-ok (typed_of t x.given) (λ u. and_then (all_typed t y.given) (λ vs. Ok (u ∷ vs))) us typed in
        let b = and_then-ok (all_typed t y.given) (λ vs. Ok (a.given ∷ vs)) us a.gave in
        let one = take f (giver f) x.given a.given (goods f) x.was a.was in
        let rest = take-all names y.given b.given y.was b.was in
        subst (AllTook (f ∷ names)) same
        (record {
          small = let i = one.by_cost in let j = rest.small in let k = cheap f in let l = suc-mul (length names) (d + 2) in omega (arith, i, j, k, l);
          good = more_good x.given y.given one.good rest.good;
        })

    made-pack : (names : List Bytes) (n : Nullability) (m : Tree) (v : Ty) → pack_taken (pack names (items names) n) ≡ Ok m → typed_of t m ≡ Ok v → Slim w d v
        → (size m ≤ w * (d + 2) + (1 + sizes xs)) × Good m
    unfolding typed_of weight
    made-pack names n m v h ty s =
        let c = and_then-ok (fields_taken (items names)) (λ ds. Ok (pack names ds n)) m h in
        let same = Ok-same (Ok m) (pack names c.given n) m (sym c.gave) refl in
        let typed = subst (λ (z : Tree). typed_of t z ≡ Ok v) (sym same) ty in
        let a = and_then-ok (all_typed t c.given) (pack_type names n) v typed in
        let made : Result Ty Refusal = Ok (struct_ty (zipped names a.given) n) in
        let o = unless-ok (distinct_names names) duplicate_field (unless (nat_eq (length names) (length a.given)) type_mismatch made) v a.gave in
        let p = unless-ok (nat_eq (length names) (length a.given)) type_mismatch made v o.gave in
        let struct : struct_ty (zipped names a.given) n ≡ v = Ok-same made (struct_ty (zipped names a.given) n) v refl p.gave in
        let slim = subst (Slim w d) (sym struct) s in
        let few : length names ≤ w = subst (λ (z : List Bytes). length z ≤ w) (field_names-zip names a.given p.holds) slim.0 in
        let took = take-all names c.given a.given c.was a.was in
        let i = took.small in
        let j = sum-costs xs names o.holds in
        let k : length names * (d + 2) ≤ w * (d + 2) = mul-le-mul_right (d + 2) few in
        subst (λ (z : Tree). (size z ≤ w * (d + 2) + (1 + sizes xs)) × Good z) same (omega (arith, i, j, k), good_pack names c.given n took.good)

  -- ---- a select

  select-one : (o : Option (List Bytes)) (x p m : Tree) (v : Ty) → Good x → fields_pack x o ≡ Ok p → pack_taken p ≡ Ok m → typed_of t m ≡ Ok v → Slim w d v
      → (size m ≤ w * (d + 2) + (1 + size x)) × Good m
  unfolding weight costs
  select-one None x p m v g h k ty s = let no : ⊥ = cc in absurd no
  select-one (Some names) x p m v g h k ty s =
      let its = trees_of (map (λ f. get_item f x) names) in
      let same = Ok-same (Ok p) (pack names its NonNullable) p (sym h) refl in
      let r = made-pack (λ f. x) (tree x no_trees) (λ f. g) (λ f. omega arith) names NonNullable m v (ap pack_taken same ∙ k) ty s in
      let a = r.0 in
      (omega (arith, a), r.1)

  walked-select : (f : FieldSelection) (x m : Tree) (v : Ty) → Good x → walked_node t (select f x) ≡ Ok m → typed_of t m ≡ Ok v → Slim w d v
      → (size m ≤ w * (d + 2) + (1 + size x)) × Good m
  walked-select f x m v g h ty s =
      let a = and_then-ok (and_then (head_of t x) (select_by_head f x)) pack_taken m h in
      let b = and_then-ok (head_of t x) (select_by_head f x) a.given a.was in
      let c = unless-ok (not (is_nullable b.given.nullability)) nullable_select (fields_pack x (names_where_known f b.given.names)) a.given b.gave in
      select-one (names_where_known f b.given.names) x a.given m v g c.gave a.gave ty s

  -- ---- a merge

  -- what gives a name
  abbrev giver-of : Option Giving → Tree
  giver-of o = unwrap_or (option_map (λ (g : Giving). g.expression) o) root

  record GoodGiver (f : Bytes) (xs : Trees) (o : Option Giving) : Type 0 where
    pub good : Good (giver-of o)
    pub cheap : cost (giver-of o) f ≤ costs xs f

  good-root : Slim w d t → Good root
  unfolding typed_of is_pack weight
  good-root s = good_other root refl (small-leaf root refl (λ u h. subst (Slim w d) (distinct_type-ok t u h) s))

  giver-step : (f : Bytes) (x : Tree) (xs : Trees) (g : Giving) (o : Option Giving) (b : Bool) → Slim w d t → g.expression ≡ x → Good x → GoodGiver f xs o
      → GoodGiver f (tree x xs) (option_or o (cond b (Some g) None))
  unfolding costs cost
  giver-step f x xs g (Some z) b s e h k = record { good = k.good; cheap = let a = k.cheap in omega (arith, a) }
  giver-step f x xs g None true s e h k =
      record { good = subst Good (sym e) h; cheap = subst (λ (z : Tree). cost z f ≤ cost x f + costs xs f) (sym e) (omega arith) }
  giver-step f x xs g None false s e h k = record { good = good-root s; cheap = omega arith }

  givers : (f : Bytes) (xs : Trees) (gs : List Giving) → Slim w d t → AllGood xs → givings_by_head t xs ≡ Ok gs → GoodGiver f xs (last_giver giving_names f gs)
  unfolding cost costs
  givers f _ gs s none_good h =
      let same = Ok-same (givings_by_head t no_trees) [] gs refl h in
      subst (λ (z : List Giving). GoodGiver f no_trees (last_giver giving_names f z)) same (record { good = good-root s; cheap = omega arith })
  givers f _ gs s (more_good x xs g k) h =
      let a = and_then-ok (giving_by_head t x) (λ y. and_then (givings_by_head t xs) (λ ys. Ok (y ∷ ys))) gs h in
      let b = and_then-ok (givings_by_head t xs) (λ ys. Ok (a.given ∷ ys)) gs a.gave in
      let same = Ok-same (Ok gs) (a.given ∷ b.given) gs (sym b.gave) refl in
      let c = and_then-ok (head_of t x) (λ head. Ok (record { names = head.names; expression = x })) a.given a.was in
      let own : a.given.expression ≡ x = ap (λ (z : Giving). z.expression) (Ok-same (Ok a.given) a.given (record { names = c.given.names; expression = x }) refl (sym c.gave)) in
      subst (λ (z : List Giving). GoodGiver f (tree x xs) (last_giver giving_names f z)) same
      (giver-step f x xs a.given (last_giver giving_names f b.given) (has_name f a.given.names) s own g (givers f xs b.given s k b.was))

  walked-merge : (es : Trees) (n : Nullability) (m : Tree) (v : Ty) → Slim w d t → AllGood es → walked_node t (merge es n) ≡ Ok m → typed_of t m ≡ Ok v → Slim w d v
      → (size m ≤ w * (d + 2) + (1 + sizes es)) × Good m
  walked-merge es n m v s g h ty k =
      let a = and_then-ok (givings_by_head t es) (λ gs. pack_taken (givings_pack n gs)) m h in
      let gs = a.given in
      made-pack (λ f. giver-of (last_giver giving_names f gs)) es (λ f. (givers f es gs s g a.was).good) (λ f. (givers f es gs s g a.was).cheap)
      (merged_names giving_names gs) n m v a.gave ty k

  -- ---- each node

  stays : (n m : Tree) → walked_node t n ≡ Ok n → walked_node t n ≡ Ok m → Good n → (size m ≤ w * (d + 2) + size n) × Good m
  stays n m e h g = subst (λ (z : Tree). (size z ≤ w * (d + 2) + size n) × Good z) (Ok-same (walked_node t n) n m e h) (omega arith, g)

  leaf : (n m : Tree) (v : Ty) → walked_node t n ≡ Ok n → size n ≡ 1 → is_pack n ≡ false → walked_node t n ≡ Ok m → typed_of t m ≡ Ok v → Slim w d v
      → (size m ≤ w * (d + 2) + size n) × Good m
  leaf n m v e one p h ty s =
      let typed = subst (λ (z : Tree). typed_of t z ≡ Ok v) (sym (Ok-same (walked_node t n) n m e h)) ty in
      stays n m e h (good_other n p (small-leaf n one (within-typed w d t n v typed s)))

  pub walked-at : Slim w d t → (n m : Tree) (v : Ty) → Each Good (children_of n) → walked_node t n ≡ Ok m → typed_of t m ≡ Ok v → Slim w d v
      → (size m ≤ w * (d + 2) + size n) × Good m
  unfolding weight is_pack
  walked-at r root m v g h ty s = leaf root m v refl refl refl h ty s
  walked-at r (literal l) m v g h ty s = leaf (literal l) m v refl refl refl h ty s
  walked-at r (get_item f x) m v g h ty s = let k = take f x m v g.0 h ty in let a = k.small in (omega (arith, a), k.good)
  walked-at r (binary l op q) m v g h ty s = stays (binary l op q) m refl h (good_other (binary l op q) refl (small-plain (binary l op q) (binary-plain t l op q)))
  walked-at r (not_of x) m v g h ty s = stays (not_of x) m refl h (good_other (not_of x) refl (small-plain (not_of x) (not-plain t x)))
  walked-at r (is_null_of x) m v g h ty s = stays (is_null_of x) m refl h (good_other (is_null_of x) refl (small-plain (is_null_of x) (is_null-plain t x)))
  walked-at r (like x q negated fold_case) m v g h ty s =
      stays (like x q negated fold_case) m refl h (good_other (like x q negated fold_case) refl (small-plain (like x q negated fold_case) (like-plain t x q negated fold_case)))
  walked-at r (between x lower upper options) m v g h ty s =
      stays (between x lower upper options) m refl h (good_other (between x lower upper options) refl (small-plain (between x lower upper options) (between-plain t x lower upper options)))
  walked-at r (cast x target) m v g h ty s = stays (cast x target) m refl h (good_other (cast x target) refl (small-plain (cast x target) (cast-plain t x target)))
  walked-at r (list_contains l q) m v g h ty s = stays (list_contains l q) m refl h (good_other (list_contains l q) refl (small-plain (list_contains l q) (contains-plain t l q)))
  walked-at r (pack names es n) m v g h ty s = stays (pack names es n) m refl h (good_pack names es n (good-each es g))
  walked-at r (merge es n) m v g h ty s = walked-merge es n m v r (good-each es g) h ty s
  walked-at r (select f x) m v g h ty s = walked-select f x m v g.0 h ty s
  walked-at r (dynamic x op slot ty default) m v g h i s =
      stays (dynamic x op slot ty default) m refl h (good_other (dynamic x op slot ty default) refl (small-plain (dynamic x op slot ty default) (dynamic-plain t x op slot ty default)))
