-- A pass whose step leaves few nodes leaves few in the whole.
use Rattle.std.proofs.Common.{◌≡◌, ◌≤◌, ℕ, suc, ◌+◌, refl, sym, subst, List, ◌∷◌, ◌++◌, Result, Ok, arith}
use Rattle.vx_dtype.specs.declared.Nullability.TheVariants.{NonNullable}
use Rattle.vx_dtype.specs.Types.{Ty, bool_ty}
use Rattle.vx_expr.specs.Trees.{Tree, root, literal, get_item, binary, not_of, is_null_of, like, between, cast, list_contains, pack, merge, select, dynamic, Trees, no_trees, tree, listed, children_of}
use Rattle.vx_semantics.specs.Typing.{Refusal, and_then, item_type, select_type, pack_type, merge_type, binary_type, not_type, like_type, between_type, contains_type, cast_type, dynamic_type, typed_of, all_typed}
use Rattle.vx_semantics.specs.Nodes.{nodes_of, nodes_of_all}
use Rattle.vx_passes.specs.Rebuilding.{rebuilt, all_rebuilt}
use Rattle.vx_laws.proofs.Inverting.{and_then-ok, Ok-same}
use Rattle.vx_laws_removing.proofs.Walked.{Typed}
use Rattle.vx_laws_removing.proofs.Counted.{weight, weights, size, sizes, Each, each-split}
use Rattle.vx_laws_removing.proofs.Slim.{Slim, Within, slim-narrow}

-- what a pass makes of a node: few nodes, and of them something holds
pub record Sized (Good : Tree → Type 0) (k : ℕ) (e d : Tree) : Type 0 where
  pub small : size d ≤ weight (suc k) e
  pub good : Good d

record AllSized (Good : Tree → Type 0) (k : ℕ) (es ds : Trees) : Type 0 where
  pub small : sizes ds ≤ weights (suc k) es
  pub good : Each Good (listed ds)

module _ (t : Ty) (w d : ℕ) (step : Tree → Result Tree Refusal) (k : ℕ) (Good : Tree → Type 0)
    (types : (e : Tree) (u : Ty) (m : Tree) → typed_of t e ≡ Ok u → rebuilt step e ≡ Ok m → Typed t m u)
    (at : (n m : Tree) (v : Ty) → Each Good (children_of n) → step n ≡ Ok m → typed_of t m ≡ Ok v → Slim w d v → (size m ≤ k + size n) × Good m) where
  -- what the step makes of a node with its children made
  node-sized : (e n m : Tree) (u : Ty) → typed_of t e ≡ Ok u → Within w d t e → rebuilt step e ≡ Ok m → Each Good (children_of n) → step n ≡ Ok m
      → k + size n ≤ weight (suc k) e → Sized Good k e m
  node-sized e n m u h s r g i le =
      let ty = types e u m h r in
      let a = at n m ty.ty g i ty.is (slim-narrow w d ty.ty u ty.narrow (s u h)) in
      record { small = let b = a.0 in omega (arith, b, le); good = a.1 }

  mutual
    unfolding rebuilt typed_of nodes_of weight

    pub sized : (e : Tree) (u : Ty) → typed_of t e ≡ Ok u → Each (Within w d t) (nodes_of e) → (m : Tree) → rebuilt step e ≡ Ok m → Sized Good k e m
    sized root u h s m r = node-sized root root m u h s.0 r tt r (omega arith)
    sized (literal l) u h s m r = node-sized (literal l) (literal l) m u h s.0 r tt r (omega arith)
    sized (get_item f c) u h s m r =
        let a = and_then-ok (typed_of t c) (item_type f) u h in
        let x = and_then-ok (rebuilt step c) (λ y. step (get_item f y)) m r in
        let z = sized c a.given a.was s.1 x.given x.was in
        let le = z.small in
        node-sized (get_item f c) (get_item f x.given) m u h s.0 r (z.good, tt) x.gave (omega (arith, le))
    sized (binary l op q) u h s m r =
        let a = and_then-ok (typed_of t l) (λ x. and_then (typed_of t q) (binary_type op x)) u h in
        let b = and_then-ok (typed_of t q) (binary_type op a.given) u a.gave in
        let x = and_then-ok (rebuilt step l) (λ y. and_then (rebuilt step q) (λ z. step (binary y op z))) m r in
        let y = and_then-ok (rebuilt step q) (λ z. step (binary x.given op z)) m x.gave in
        let parts = each-split (Within w d t) (nodes_of l) (nodes_of q) s.1 in
        let i = sized l a.given a.was parts.0 x.given x.was in
        let j = sized q b.given b.was parts.1 y.given y.was in
        let le = i.small in
        let lf = j.small in
        node-sized (binary l op q) (binary x.given op y.given) m u h s.0 r (i.good, (j.good, tt)) y.gave (omega (arith, le, lf))
    sized (not_of c) u h s m r =
        let a = and_then-ok (typed_of t c) not_type u h in
        let x = and_then-ok (rebuilt step c) (λ y. step (not_of y)) m r in
        let z = sized c a.given a.was s.1 x.given x.was in
        let le = z.small in
        node-sized (not_of c) (not_of x.given) m u h s.0 r (z.good, tt) x.gave (omega (arith, le))
    sized (is_null_of c) u h s m r =
        let a = and_then-ok (typed_of t c) (λ x. Ok (bool_ty NonNullable)) u h in
        let x = and_then-ok (rebuilt step c) (λ y. step (is_null_of y)) m r in
        let z = sized c a.given a.was s.1 x.given x.was in
        let le = z.small in
        node-sized (is_null_of c) (is_null_of x.given) m u h s.0 r (z.good, tt) x.gave (omega (arith, le))
    sized (like l q negated fold_case) u h s m r =
        let a = and_then-ok (typed_of t l) (λ x. and_then (typed_of t q) (like_type x)) u h in
        let b = and_then-ok (typed_of t q) (like_type a.given) u a.gave in
        let x = and_then-ok (rebuilt step l) (λ y. and_then (rebuilt step q) (λ z. step (like y z negated fold_case))) m r in
        let y = and_then-ok (rebuilt step q) (λ z. step (like x.given z negated fold_case)) m x.gave in
        let parts = each-split (Within w d t) (nodes_of l) (nodes_of q) s.1 in
        let i = sized l a.given a.was parts.0 x.given x.was in
        let j = sized q b.given b.was parts.1 y.given y.was in
        let le = i.small in
        let lf = j.small in
        node-sized (like l q negated fold_case) (like x.given y.given negated fold_case) m u h s.0 r (i.good, (j.good, tt)) y.gave (omega (arith, le, lf))
    sized (between c lower upper options) u h s m r =
        let a = and_then-ok (typed_of t c) (λ x. and_then (typed_of t lower) (λ y. and_then (typed_of t upper) (between_type x y))) u h in
        let b = and_then-ok (typed_of t lower) (λ y. and_then (typed_of t upper) (between_type a.given y)) u a.gave in
        let f = and_then-ok (typed_of t upper) (between_type a.given b.given) u b.gave in
        let x = and_then-ok (rebuilt step c) (λ o. and_then (rebuilt step lower) (λ y. and_then (rebuilt step upper) (λ z. step (between o y z options)))) m r in
        let y = and_then-ok (rebuilt step lower) (λ y. and_then (rebuilt step upper) (λ z. step (between x.given y z options))) m x.gave in
        let z = and_then-ok (rebuilt step upper) (λ z. step (between x.given y.given z options)) m y.gave in
        let parts = each-split (Within w d t) (nodes_of c) (nodes_of lower ++ nodes_of upper) s.1 in
        let later = each-split (Within w d t) (nodes_of lower) (nodes_of upper) parts.1 in
        let i = sized c a.given a.was parts.0 x.given x.was in
        let j = sized lower b.given b.was later.0 y.given y.was in
        let l = sized upper f.given f.was later.1 z.given z.was in
        let le = i.small in
        let lf = j.small in
        let lg = l.small in
        node-sized (between c lower upper options) (between x.given y.given z.given options) m u h s.0 r (i.good, (j.good, (l.good, tt))) z.gave (omega (arith, le, lf, lg))
    sized (cast c target) u h s m r =
        let a = and_then-ok (typed_of t c) (cast_type target) u h in
        let x = and_then-ok (rebuilt step c) (λ y. step (cast y target)) m r in
        let z = sized c a.given a.was s.1 x.given x.was in
        let le = z.small in
        node-sized (cast c target) (cast x.given target) m u h s.0 r (z.good, tt) x.gave (omega (arith, le))
    sized (list_contains l q) u h s m r =
        let a = and_then-ok (typed_of t l) (λ x. and_then (typed_of t q) (contains_type x)) u h in
        let b = and_then-ok (typed_of t q) (contains_type a.given) u a.gave in
        let x = and_then-ok (rebuilt step l) (λ y. and_then (rebuilt step q) (λ z. step (list_contains y z))) m r in
        let y = and_then-ok (rebuilt step q) (λ z. step (list_contains x.given z)) m x.gave in
        let parts = each-split (Within w d t) (nodes_of l) (nodes_of q) s.1 in
        let i = sized l a.given a.was parts.0 x.given x.was in
        let j = sized q b.given b.was parts.1 y.given y.was in
        let le = i.small in
        let lf = j.small in
        node-sized (list_contains l q) (list_contains x.given y.given) m u h s.0 r (i.good, (j.good, tt)) y.gave (omega (arith, le, lf))
    sized (pack names es n) u h s m r =
        let a = and_then-ok (all_typed t es) (pack_type names n) u h in
        let x = and_then-ok (all_rebuilt step es) (λ ys. step (pack names ys n)) m r in
        let z = all-sized es a.given a.was s.1 x.given x.was in
        let le = z.small in
        node-sized (pack names es n) (pack names x.given n) m u h s.0 r z.good x.gave (omega (arith, le))
    sized (merge es n) u h s m r =
        let a = and_then-ok (all_typed t es) (merge_type n) u h in
        let x = and_then-ok (all_rebuilt step es) (λ ys. step (merge ys n)) m r in
        let z = all-sized es a.given a.was s.1 x.given x.was in
        let le = z.small in
        node-sized (merge es n) (merge x.given n) m u h s.0 r z.good x.gave (omega (arith, le))
    sized (select f c) u h s m r =
        let a = and_then-ok (typed_of t c) (select_type f) u h in
        let x = and_then-ok (rebuilt step c) (λ y. step (select f y)) m r in
        let z = sized c a.given a.was s.1 x.given x.was in
        let le = z.small in
        node-sized (select f c) (select f x.given) m u h s.0 r (z.good, tt) x.gave (omega (arith, le))
    sized (dynamic c op slot ty default) u h s m r =
        let a = and_then-ok (typed_of t c) (dynamic_type ty) u h in
        let x = and_then-ok (rebuilt step c) (λ y. step (dynamic y op slot ty default)) m r in
        let z = sized c a.given a.was s.1 x.given x.was in
        let le = z.small in
        node-sized (dynamic c op slot ty default) (dynamic x.given op slot ty default) m u h s.0 r (z.good, tt) x.gave (omega (arith, le))

    all-sized : (es : Trees) (us : List Ty) → all_typed t es ≡ Ok us → Each (Within w d t) (nodes_of_all es) → (ms : Trees) → all_rebuilt step es ≡ Ok ms → AllSized Good k es ms
    all-sized no_trees us h s ms r =
        let same = Ok-same (all_rebuilt step no_trees) no_trees ms refl r in
        subst (AllSized Good k no_trees) same (record { small = omega arith; good = tt })
    all-sized (tree c cs) us h s ms r =
        let a = and_then-ok (typed_of t c) (λ x. and_then (all_typed t cs) (λ xs. Ok (x ∷ xs))) us h in
        let b = and_then-ok (all_typed t cs) (λ xs. Ok (a.given ∷ xs)) us a.gave in
        let x = and_then-ok (rebuilt step c) (λ y. and_then (all_rebuilt step cs) (λ ys. Ok (tree y ys))) ms r in
        let y = and_then-ok (all_rebuilt step cs) (λ ys. Ok (tree x.given ys)) ms x.gave in
        let parts = each-split (Within w d t) (nodes_of c) (nodes_of_all cs) s in
        let i = sized c a.given a.was parts.0 x.given x.was in
        let j = all-sized cs b.given b.was parts.1 y.given y.was in
        let le = i.small in
        let lf = j.small in
        let same = Ok-same (Ok ms) (tree x.given y.given) ms (sym y.gave) refl in
        subst (AllSized Good k (tree c cs)) same (record { small = omega (arith, le, lf); good = (i.good, j.good) })
