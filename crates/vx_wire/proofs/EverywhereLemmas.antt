-- What holds at each node of an expression, and at each of its children.
use Rattle.std.proofs.Common.{◌≡◌, ℕ, zero, suc, ◌+◌, ◌<◌, ◌≤◌, List, [], ◌∷◌, length, drop, Some, sym, ap, subst, ◌∙◌, arith}
use Rattle.std.specs.List.{slice_get}
use Rattle.std.proofs.lemmas.Option.{same_Some, none-some, slice_get_within, get_or_from_slice_get}
use Rattle.std.proofs.lemmas.List.{drop_all, drop_more}
use Rattle.vx_expr.specs.Trees.{Tree, root, literal, get_item, binary, not_of, is_null_of, like, between, cast, list_contains, pack, merge, select, dynamic, Trees, no_trees, tree, trees_of, listed, children_of}
use Rattle.vx_expr.specs.Heights.{height, highest}
use Rattle.vx_wire.specs.Forms.{Everywhere, EverywhereIn}
use Rattle.vx_wire.proofs.WireLemmas.{below, everywhere}

mutual
  -- what follows from two things at a node follows from them at each node
  pub both_everywhere : (P Q R : Tree → Type 0) → ((e : Tree) → P e → Q e → R e) → (e : Tree) → Everywhere P e → Everywhere Q e → Everywhere R e
  both_everywhere P Q R f root p q = f root p q
  both_everywhere P Q R f (literal s) p q = f (literal s) p q
  both_everywhere P Q R f (get_item g e) p q = (f (get_item g e) p.0 q.0, both_everywhere P Q R f e p.1 q.1)
  both_everywhere P Q R f (binary l op r) p q = (f (binary l op r) p.0 q.0, both_everywhere P Q R f l p.1 q.1, both_everywhere P Q R f r p.2 q.2)
  both_everywhere P Q R f (not_of e) p q = (f (not_of e) p.0 q.0, both_everywhere P Q R f e p.1 q.1)
  both_everywhere P Q R f (is_null_of e) p q = (f (is_null_of e) p.0 q.0, both_everywhere P Q R f e p.1 q.1)
  both_everywhere P Q R f (like e d negated fold_case) p q = (f (like e d negated fold_case) p.0 q.0, both_everywhere P Q R f e p.1 q.1, both_everywhere P Q R f d p.2 q.2)
  both_everywhere P Q R f (between e lower upper options) p q =
      (f (between e lower upper options) p.0 q.0, both_everywhere P Q R f e p.1 q.1, both_everywhere P Q R f lower p.2 q.2, both_everywhere P Q R f upper p.3 q.3)
  both_everywhere P Q R f (cast e t) p q = (f (cast e t) p.0 q.0, both_everywhere P Q R f e p.1 q.1)
  both_everywhere P Q R f (list_contains l v) p q = (f (list_contains l v) p.0 q.0, both_everywhere P Q R f l p.1 q.1, both_everywhere P Q R f v p.2 q.2)
  both_everywhere P Q R f (pack names es n) p q = (f (pack names es n) p.0 q.0, both_everywhere_in P Q R f es p.1 q.1)
  both_everywhere P Q R f (merge es n) p q = (f (merge es n) p.0 q.0, both_everywhere_in P Q R f es p.1 q.1)
  both_everywhere P Q R f (select s e) p q = (f (select s e) p.0 q.0, both_everywhere P Q R f e p.1 q.1)
  both_everywhere P Q R f (dynamic e op k t default) p q = (f (dynamic e op k t default) p.0 q.0, both_everywhere P Q R f e p.1 q.1)

  both_everywhere_in : (P Q R : Tree → Type 0) → ((e : Tree) → P e → Q e → R e) → (es : Trees) → EverywhereIn P es → EverywhereIn Q es → EverywhereIn R es
  both_everywhere_in P Q R f no_trees p q = tt
  both_everywhere_in P Q R f (tree e es) p q = (both_everywhere P Q R f e p.0 q.0, both_everywhere_in P Q R f es p.1 q.1)

pub also_everywhere : (P R : Tree → Type 0) → ((e : Tree) → P e → R e) → (e : Tree) → Everywhere P e → Everywhere R e
also_everywhere P R f e p = both_everywhere P P R (λ d x y. f d x) e p p
