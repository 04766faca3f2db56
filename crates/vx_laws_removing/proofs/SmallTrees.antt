-- Simplifying by types leaves few nodes: by taking fields from packs, ranges, the walk, and ranges again.
use Rattle.std.proofs.Common.{◌≡◌, ◌≤◌, ℕ, suc, ◌+◌, ◌*◌, refl, ap, sym, ◌∙◌, subst, List, [], ◌∷◌, map, length, Result, Ok, mul-le-mul_right, arith}
use Rattle.vx_dtype.specs.Types.{Ty, bool_ty, int_ty, text_ty, list_ty, struct_ty}
use Rattle.vx_expr.specs.Trees.{Tree}
use Rattle.vx_semantics.specs.Nodes.{nodes_of}
use Rattle.vx_semantics.specs.Typing.{Refusal, and_then, typed_of, type_or_empty}
use Rattle.vx_passes.specs.Merging.{without_merge}
use Rattle.vx_passes.specs.Ranges.{ranged}
use Rattle.vx_passes.specs.Rebuilding.{rebuilt}
use Rattle.vx_passes.specs.Selecting.{without_select}
use Rattle.vx_passes.specs.Simplifying.{simplified, without_packed_fields}
use Rattle.vx_laws.proofs.Inverting.{and_then-ok, Ok-same}
use Rattle.vx_laws_simplifying.proofs.RangedLaws.{ranges_typed}
use Rattle.vx_laws_simplifying.proofs.PackedFields.{without_packed_fields-kept}
use Rattle.vx_laws_simplifying.proofs.Passes.{MakesKept, passes-then}
use Rattle.vx_laws_removing.proofs.Removed.{without_select-kept, without_merge-kept}
use Rattle.vx_laws_removing.specs.Walking.{walked_node, passed}
use Rattle.vx_laws_removing.proofs.Walked.{Typed, narrowed, typed-made, walk_makes_the_passes}
use Rattle.vx_laws_removing.specs.Sizes.{width_of, struct_depth, greatest_of, most_fields, greatest_depth, SimplifiedStaysSmall}
use Rattle.vx_laws_removing.proofs.Counted.{weight, size, Each, weight-count, size-count}
use Rattle.vx_laws_removing.proofs.Slim.{Slim, Within}
use Rattle.vx_laws_removing.proofs.Leaning.{sized}
use Rattle.vx_laws_removing.proofs.Ranging.{AllWithin, ranged-lighter, ranged-within}
use Rattle.vx_laws_removing.proofs.PackFields.{packed-small}
use Rattle.vx_laws_removing.proofs.WalkedSizes.{Good, walked-at}

-- ---- the types that are met are within their greatest

slim-below : (w d : ℕ) (u : Ty) → width_of u ≤ w → struct_depth u ≤ d → Slim w d u
slim-below w d (struct_ty fs n) h k = (h, k)
slim-below w d (bool_ty n) h k = tt
slim-below w d (int_ty p n) h k = tt
slim-below w d (text_ty n) h k = tt
slim-below w d (list_ty e n) h k = tt

met : (w d : ℕ) (t : Ty) (ns : List Tree) → greatest_of width_of (map (λ n. type_or_empty (typed_of t n)) ns) ≤ w → greatest_of struct_depth (map (λ n. type_or_empty (typed_of t n)) ns) ≤ d
    → Each (Within w d t) ns
met w d t [] h k = tt
met w d t (n ∷ ns) h k =
    let own : Slim w d (type_or_empty (typed_of t n)) = slim-below w d (type_or_empty (typed_of t n)) (omega (arith, h)) (omega (arith, k)) in
    (λ u e. subst (Slim w d) (ap type_or_empty e) own, met w d t ns (omega (arith, h)) (omega (arith, k)))

-- ---- the walk

passed-kept : MakesKept passed
passed-kept =
    passes-then without_select (λ t d. and_then (without_merge t d) without_packed_fields) without_select-kept
    (passes-then without_merge (λ t d. without_packed_fields d) without_merge-kept without_packed_fields-kept)

walked-types : (t : Ty) (e : Tree) (u : Ty) (m : Tree) → typed_of t e ≡ Ok u → rebuilt (walked_node t) e ≡ Ok m → Typed t m u
walked-types t e u m h r = typed-made t (passed t e) u m (narrowed passed passed-kept t e u h) (sym (walk_makes_the_passes t e u h) ∙ r)

walked-small : (w d : ℕ) (t : Ty) (e : Tree) (u : Ty) (m : Tree) → Slim w d t → typed_of t e ≡ Ok u → AllWithin w d t e → passed t e ≡ Ok m → size m ≤ weight (suc (w * (d + 2))) e
walked-small w d t e u m s h f r =
    (sized t w d (walked_node t) (w * (d + 2)) (Good w d t) (walked-types t) (walked-at w d t s) e u h f m (walk_makes_the_passes t e u h ∙ r)).small

-- ---- all passes

count-all : (es bs ds : List Tree) (e a f d h x : ℕ) → e ≡ length es → a ≡ length bs → d ≡ length ds → h ≡ length bs * suc x → a ≤ e → f ≤ h → d ≤ f
    → length ds ≤ length es * (1 + x)
count-all es bs ds e a f d h x ce ca cd ch before walk after =
    let more : length bs * suc x ≤ length es * suc x = mul-le-mul_right (suc x) (omega (arith, ce, ca, before)) in
    let same : suc x ≡ 1 + x = omega arith in
    subst (λ (z : ℕ). length ds ≤ length es * z) same (omega (arith, cd, ch, walk, after, more))

pub simplified_stays_small : SimplifiedStaysSmall
simplified_stays_small t e d u h r =
    let w = most_fields t e in
    let k = greatest_depth t e in
    let scope : Slim w k t = slim-below w k t (omega arith) (omega arith) in
    let fits : AllWithin w k t e = met w k t (nodes_of e) (omega arith) (omega arith) in
    -- the passes
    let a = and_then-ok (simplified e) (λ x. and_then (without_select t x) (λ y. and_then (without_merge t y) simplified)) d r in
    let p = and_then-ok (without_packed_fields e) (λ x. Ok (ranged x)) a.given a.was in
    let b = and_then-ok (without_select t a.given) (λ y. and_then (without_merge t y) simplified) d a.gave in
    let c = and_then-ok (without_merge t b.given) simplified d b.gave in
    let f = and_then-ok (without_packed_fields c.given) (λ x. Ok (ranged x)) d c.gave in
    let first : ranged p.given ≡ a.given = Ok-same (Ok a.given) (ranged p.given) a.given (sym p.gave) refl in
    let last : ranged f.given ≡ d = Ok-same (Ok d) (ranged f.given) d (sym f.gave) refl in
    -- the fields on packs, and ranges
    let packed = packed-small w k t e u h fits p.given p.was in
    let typed = typed-made t (without_packed_fields e) u p.given (narrowed (λ t e. without_packed_fields e) without_packed_fields-kept t e u h) p.was in
    let inner_typed : typed_of t a.given ≡ Ok typed.ty = subst (λ (z : Tree). typed_of t z ≡ Ok typed.ty) first (ranges_typed t p.given typed.ty typed.is) in
    let inner_fits : AllWithin w k t a.given = subst (AllWithin w k t) first (ranged-within w k t p.given packed.good) in
    -- the walk
    let through : passed t a.given ≡ Ok f.given =
    ap (λ (x : Result Tree Refusal). and_then x (λ y. and_then (without_merge t y) without_packed_fields)) b.was
    ∙ (ap (λ (x : Result Tree Refusal). and_then x without_packed_fields) c.was ∙ f.was) in
    let walk = walked-small w k t a.given typed.ty f.given scope inner_typed inner_fits through in
    -- the counts
    let fewer_before : size a.given ≤ size e =
    let i = ap size first in let j = ranged-lighter p.given in let l = packed.small in omega (arith, i, j, l) in
    let fewer_after : size d ≤ size f.given = let i = ap size last in let j = ranged-lighter f.given in omega (arith, i, j) in
    count-all (nodes_of e) (nodes_of a.given) (nodes_of d) (size e) (size a.given) (size f.given) (size d) (weight (suc (w * (k + 2))) a.given) (w * (k + 2))
    (size-count e) (size-count a.given) (size-count d) (weight-count (suc (w * (k + 2))) a.given) fewer_before walk fewer_after
