-- Expressions are nodes: a child is lower, and a node takes as many children as it has.
use Rattle.std.proofs.Common.{◌≡◌, ℕ, zero, suc, ◌<◌, ◌≤◌, List, [], ◌∷◌, length, Contains, slice_index_or, refl, ap, sym, ◌∙◌, arith}
use Rattle.std.specs.Prelude.{Some}
use Rattle.std.specs.Cmp.{unsigned_Decides}
use Rattle.vx_expr.specs.Trees.{Tree, root, literal, get_item, binary, not_of, is_null_of, like, between, cast, list_contains, pack, merge, select}
use Rattle.vx_expr.specs.Trees.{dynamic, Trees, no_trees, tree, listed, trees_of, children_of}
use Rattle.vx_expr.specs.Children.{where_so}
use Rattle.vx_expr.proofs.TreeLemmas.{listed_trees_of}
use Rattle.vx_traversal.specs.Expressions.{node_height, highest_node, IsWithChildren}

lower_at : (es : Trees) (k : ℕ) (c : Tree) → k < length (listed es) → slice_index_or (listed es) k c ≡ c → node_height c ≤ highest_node es
lower_at no_trees k c lt is = absurd (omega arith)
lower_at (tree e es) zero c lt is = let same : node_height e ≡ node_height c = ap node_height is in omega (arith, same)
lower_at (tree e es) (suc k) c lt is = omega (arith, lower_at es k c (omega arith) is)

lower_in : (es : Trees) (c : Tree) → Contains (listed es) c → node_height c ≤ highest_node es
lower_in es c (k, lt, is) = lower_at es k c lt is

-- a child is lower than its node
pub child_is_lower : (e c : Tree) → Contains (children_of e) c → node_height c < node_height e
child_is_lower root c h = omega (arith, lower_in no_trees c h)
child_is_lower (literal s) c h = omega (arith, lower_in no_trees c h)
child_is_lower (get_item f e) c h = omega (arith, lower_in (tree e no_trees) c h)
child_is_lower (binary l op r) c h = omega (arith, lower_in (tree l (tree r no_trees)) c h)
child_is_lower (not_of e) c h = omega (arith, lower_in (tree e no_trees) c h)
child_is_lower (is_null_of e) c h = omega (arith, lower_in (tree e no_trees) c h)
child_is_lower (like e p negated fold_case) c h = omega (arith, lower_in (tree e (tree p no_trees)) c h)
child_is_lower (between e lower upper options) c h = omega (arith, lower_in (tree e (tree lower (tree upper no_trees))) c h)
child_is_lower (cast e t) c h = omega (arith, lower_in (tree e no_trees) c h)
child_is_lower (list_contains l v) c h = omega (arith, lower_in (tree l (tree v no_trees)) c h)
child_is_lower (pack names es n) c h = omega (arith, lower_in es c h)
child_is_lower (merge es n) c h = omega (arith, lower_in es c h)
child_is_lower (select s e) c h = omega (arith, lower_in (tree e no_trees) c h)
child_is_lower (dynamic e op k t default) c h = omega (arith, lower_in (tree e no_trees) c h)

from_none : (cs : List Tree) → length cs ≡ 0 → (P : List Tree → Type 0) → P [] → P cs
from_none [] h P p = p
from_none (c ∷ cs) h P p = absurd (omega (arith, h))

from_one : (cs : List Tree) → length cs ≡ 1 → (P : List Tree → Type 0) → ((c : Tree) → P (c ∷ [])) → P cs
from_one [] h P p = absurd (omega (arith, h))
from_one (c ∷ []) h P p = p c
from_one (c ∷ d ∷ cs) h P p = absurd (omega (arith, h))

from_two : (cs : List Tree) → length cs ≡ 2 → (P : List Tree → Type 0) → ((c d : Tree) → P (c ∷ d ∷ [])) → P cs
from_two [] h P p = absurd (omega (arith, h))
from_two (c ∷ []) h P p = absurd (omega (arith, h))
from_two (c ∷ d ∷ []) h P p = p c d
from_two (b ∷ c ∷ d ∷ cs) h P p = absurd (omega (arith, h))

from_three : (cs : List Tree) → length cs ≡ 3 → (P : List Tree → Type 0) → ((b c d : Tree) → P (b ∷ c ∷ d ∷ [])) → P cs
from_three [] h P p = absurd (omega (arith, h))
from_three (c ∷ []) h P p = absurd (omega (arith, h))
from_three (c ∷ d ∷ []) h P p = absurd (omega (arith, h))
from_three (b ∷ c ∷ d ∷ []) h P p = p b c d
from_three (a ∷ b ∷ c ∷ d ∷ cs) h P p = absurd (omega (arith, h))

-- the node with these children, which it then has
abbrev pub Rebuilt : Tree → List Tree → Type 0
Rebuilt e cs = (rebuilt : Tree) × IsWithChildren e cs rebuilt × (children_of rebuilt ≡ cs)

-- a node takes as many children as it has
pub rebuilt : (e : Tree) (cs : List Tree) → length cs ≡ length (children_of e) → Rebuilt e cs
rebuilt root cs h = from_none cs h (Rebuilt root) (root, refl, refl)
rebuilt (literal s) cs h = from_none cs h (Rebuilt (literal s)) (literal s, refl, refl)
rebuilt (get_item f e) cs h = from_one cs h (Rebuilt (get_item f e)) (λ c. (get_item f c, refl, refl))
rebuilt (binary l op r) cs h = from_two cs h (Rebuilt (binary l op r)) (λ c d. (binary c op d, refl, refl))
rebuilt (not_of e) cs h = from_one cs h (Rebuilt (not_of e)) (λ c. (not_of c, refl, refl))
rebuilt (is_null_of e) cs h = from_one cs h (Rebuilt (is_null_of e)) (λ c. (is_null_of c, refl, refl))
rebuilt (like e p negated fold_case) cs h = from_two cs h (Rebuilt (like e p negated fold_case)) (λ c d. (like c d negated fold_case, refl, refl))
rebuilt (between e lower upper options) cs h = from_three cs h (Rebuilt (between e lower upper options)) (λ b c d. (between b c d options, refl, refl))
rebuilt (cast e t) cs h = from_one cs h (Rebuilt (cast e t)) (λ c. (cast c t, refl, refl))
rebuilt (list_contains l v) cs h = from_two cs h (Rebuilt (list_contains l v)) (λ c d. (list_contains c d, refl, refl))
rebuilt (pack names es n) cs h = (
  pack names (trees_of cs) n,
  ap (λ b. where_so b (pack names (trees_of cs) n))
      ((unsigned_Decides (length cs) (length (listed es))).1 h),
  listed_trees_of cs,
)
rebuilt (merge es n) cs h = (
  merge (trees_of cs) n,
  ap (λ b. where_so b (merge (trees_of cs) n)) ((unsigned_Decides (length cs) (length (listed es))).1 h),
  listed_trees_of cs,
)
rebuilt (select s e) cs h = from_one cs h (Rebuilt (select s e)) (λ c. (select s c, refl, refl))
rebuilt (dynamic e op k t default) cs h = from_one cs h (Rebuilt (dynamic e op k t default)) (λ c. (dynamic c op k t default, refl, refl))

some_is : {A : Type 0} (x y : A) → Some x ≡ Some y → x ≡ y
some_is x y e = cc

-- a rebuilt node has the children that it was given
pub has_given : (e other : Tree) (cs : List Tree) → length cs ≡ length (children_of e) → IsWithChildren e cs other → children_of other ≡ cs
has_given e other cs h is =
    let made : Rebuilt e cs = rebuilt e cs h in
    ap children_of (some_is other made.0 (sym is ∙ made.1)) ∙ made.2
