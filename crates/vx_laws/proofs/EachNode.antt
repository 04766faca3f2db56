-- What holds of each node of an expression, by what holds of a node's children.
use Rattle.std.proofs.Common.{◌≡◌, refl, ap, sym, true, ◌&&◌, subst, List, [], ◌∷◌, ◌++◌, Ok}
use Rattle.std.proofs.lemmas.Bool.{and_parts}
use Rattle.std.proofs.lemmas.List.{append-nil}
use Rattle.std.specs.List.{flat_map, AllByRecursion}
use Rattle.vx_dtype.specs.declared.Nullability.TheVariants.{NonNullable}
use Rattle.vx_dtype.specs.Types.{Ty, bool_ty}
use Rattle.vx_expr.specs.Slots.{slot_held}
use Rattle.vx_expr.specs.Trees.{Tree, root, literal, get_item, binary, not_of, is_null_of, like, between, cast, list_contains, pack, merge, select, dynamic, Trees, no_trees, tree, listed, children_of}
use Rattle.vx_semantics.specs.Typing.{and_then, item_type, select_type, pack_type, merge_type, binary_type, not_type, like_type, between_type, contains_type, cast_type, dynamic_type, typed_of, all_typed}
use Rattle.vx_semantics.specs.Meaning.{Slots}
use Rattle.vx_semantics.specs.Nodes.{nodes_of, nodes_of_all}
use Rattle.vx_semantics.specs.Slots.{held_fits, slots_fit, all_slots_fit}
use Rattle.vx_laws.proofs.Inverting.{and_then-ok}

-- what holds of each element of two lists, and of their union
pub all-both : {X : Type 0} (P : X → Type 0) (xs ys : List X) → AllByRecursion P xs → AllByRecursion P ys → AllByRecursion P (xs ++ ys)
all-both P [] ys h k = k
all-both P (x ∷ xs) ys h k = (h.0, all-both P xs ys h.1 k)

pub all-apart : {X : Type 0} (P : X → Type 0) (xs ys : List X) → AllByRecursion P (xs ++ ys) → AllByRecursion P xs × AllByRecursion P ys
all-apart P [] ys h = (tt, h)
all-apart P (x ∷ xs) ys h = let r = all-apart P xs ys h.1 in ((h.0, r.0), r.1)

pub all-flat : {X Y : Type 0} (P : Y → Type 0) (f : X → List Y) (xs : List X) → AllByRecursion (λ x. AllByRecursion P (f x)) xs → AllByRecursion P (flat_map f xs)
all-flat P f [] h = tt
all-flat P f (x ∷ xs) h = all-both P (f x) (flat_map f xs) h.0 (all-flat P f xs h.1)

pub flat-all : {X Y : Type 0} (P : Y → Type 0) (f : X → List Y) (xs : List X) → AllByRecursion P (flat_map f xs) → AllByRecursion (λ x. AllByRecursion P (f x)) xs
flat-all P f [] h = tt
flat-all P f (x ∷ xs) h = let r = all-apart P (f x) (flat_map f xs) h in (r.0, flat-all P f xs r.1)

-- a fact about each element from two others
pub all-then : {X : Type 0} (P Q R : X → Type 0) (xs : List X) → ((x : X) → P x → Q x → R x) → AllByRecursion P xs → AllByRecursion Q xs → AllByRecursion R xs
all-then P Q R [] f h k = tt
all-then P Q R (x ∷ xs) f h k = (f x h.0 k.0, all-then P Q R xs f h.1 k.1)

pub all-map : {X : Type 0} (P Q : X → Type 0) (xs : List X) → ((x : X) → P x → Q x) → AllByRecursion P xs → AllByRecursion Q xs
all-map P Q [] f h = tt
all-map P Q (x ∷ xs) f h = (f x h.0, all-map P Q xs f h.1)

module _ (P : Tree → Type 0) (step : (e : Tree) → AllByRecursion P (children_of e) → P e) where
  mutual
    -- what holds of a node where it holds of its children holds of each expression
    pub by_children : (e : Tree) → P e
    by_children root = step root tt
    by_children (literal s) = step (literal s) tt
    by_children (get_item f e) = step (get_item f e) (by_children e, tt)
    by_children (binary l op r) = step (binary l op r) (by_children l, (by_children r, tt))
    by_children (not_of e) = step (not_of e) (by_children e, tt)
    by_children (is_null_of e) = step (is_null_of e) (by_children e, tt)
    by_children (like e p negated fold_case) = step (like e p negated fold_case) (by_children e, (by_children p, tt))
    by_children (between e lower upper options) = step (between e lower upper options) (by_children e, (by_children lower, (by_children upper, tt)))
    by_children (cast e t) = step (cast e t) (by_children e, tt)
    by_children (list_contains l v) = step (list_contains l v) (by_children l, (by_children v, tt))
    by_children (pack names es n) = step (pack names es n) (all_by_children es)
    by_children (merge es n) = step (merge es n) (all_by_children es)
    by_children (select s e) = step (select s e) (by_children e, tt)
    by_children (dynamic e op k t default) = step (dynamic e op k t default) (by_children e, tt)

    all_by_children : (es : Trees) → AllByRecursion P (listed es)
    all_by_children no_trees = tt
    all_by_children (tree e es) = (by_children e, all_by_children es)

module _ {X : Type 0} (f : Tree → List X) where
  pub one-flat : (a : Tree) → f a ≡ flat_map f (a ∷ [])
  one-flat a = sym (append-nil (f a))

  pub two-flat : (a b : Tree) → f a ++ f b ≡ flat_map f (a ∷ b ∷ [])
  two-flat a b = ap (λ (xs : List X). f a ++ xs) (one-flat b)

  pub three-flat : (a b c : Tree) → f a ++ (f b ++ f c) ≡ flat_map f (a ∷ b ∷ c ∷ [])
  three-flat a b c = ap (λ (xs : List X). f a ++ xs) (two-flat b c)

listed-nodes : (es : Trees) → nodes_of_all es ≡ flat_map nodes_of (listed es)
unfolding nodes_of
listed-nodes no_trees = refl
listed-nodes (tree e es) = ap (λ (ns : List Tree). nodes_of e ++ ns) (listed-nodes es)

-- the nodes of an expression are the expression and those of its children
pub nodes-by_children : (e : Tree) → nodes_of e ≡ e ∷ flat_map nodes_of (children_of e)
unfolding nodes_of
nodes-by_children root = refl
nodes-by_children (literal s) = refl
nodes-by_children (get_item f e) = ap (λ (ns : List Tree). get_item f e ∷ ns) (one-flat nodes_of e)
nodes-by_children (binary l op r) = ap (λ (ns : List Tree). binary l op r ∷ ns) (two-flat nodes_of l r)
nodes-by_children (not_of e) = ap (λ (ns : List Tree). not_of e ∷ ns) (one-flat nodes_of e)
nodes-by_children (is_null_of e) = ap (λ (ns : List Tree). is_null_of e ∷ ns) (one-flat nodes_of e)
nodes-by_children (like e p negated fold_case) = ap (λ (ns : List Tree). like e p negated fold_case ∷ ns) (two-flat nodes_of e p)
nodes-by_children (between e lower upper options) = ap (λ (ns : List Tree). between e lower upper options ∷ ns) (three-flat nodes_of e lower upper)
nodes-by_children (cast e t) = ap (λ (ns : List Tree). cast e t ∷ ns) (one-flat nodes_of e)
nodes-by_children (list_contains l v) = ap (λ (ns : List Tree). list_contains l v ∷ ns) (two-flat nodes_of l v)
nodes-by_children (pack names es n) = ap (λ (ns : List Tree). pack names es n ∷ ns) (listed-nodes es)
nodes-by_children (merge es n) = ap (λ (ns : List Tree). merge es n ∷ ns) (listed-nodes es)
nodes-by_children (select s e) = ap (λ (ns : List Tree). select s e ∷ ns) (one-flat nodes_of e)
nodes-by_children (dynamic e op k t default) = ap (λ (ns : List Tree). dynamic e op k t default ∷ ns) (one-flat nodes_of e)

-- what holds of each node holds of the expression and of each node of its children
pub nodes-below : (P : Tree → Type 0) (e : Tree) → AllByRecursion P (nodes_of e) → P e × AllByRecursion (λ c. AllByRecursion P (nodes_of c)) (children_of e)
nodes-below P e h =
    let k : AllByRecursion P (e ∷ flat_map nodes_of (children_of e)) = subst (AllByRecursion P) (nodes-by_children e) h in
    (k.0, flat-all P nodes_of (children_of e) k.1)

-- what goes from a node to its children holds of each node where it holds of the expression
pub each_node : (P : Tree → Type 0) → ((e : Tree) → P e → AllByRecursion P (children_of e)) → (e : Tree) → P e → AllByRecursion P (nodes_of e)
each_node P goes =
    by_children (λ e. P e → AllByRecursion P (nodes_of e))
    (λ e below h.
    subst (AllByRecursion P) (sym (nodes-by_children e))
    (h, all-flat P nodes_of (children_of e) (all-then (λ c. P c → AllByRecursion P (nodes_of c)) P (λ c. AllByRecursion P (nodes_of c)) (children_of e) (λ c r g. r g) below (goes e h))))

-- an expression that has a strict type over a scope
abbrev pub IsTyped : Ty → Tree → Type 0
IsTyped t e = (u : Ty) × (typed_of t e ≡ Ok u)

listed-typed : (t : Ty) (es : Trees) (us : List Ty) → all_typed t es ≡ Ok us → AllByRecursion (IsTyped t) (listed es)
unfolding typed_of
listed-typed t no_trees us h = tt
listed-typed t (tree e es) us h =
    let a = and_then-ok (typed_of t e) (λ x. and_then (all_typed t es) (λ xs. Ok (x ∷ xs))) us h in
    let b = and_then-ok (all_typed t es) (λ xs. Ok (a.given ∷ xs)) us a.gave in
    ((a.given, a.was), listed-typed t es b.given b.was)

-- the children of a strictly typed node are strictly typed
pub children-typed : (t : Ty) (e : Tree) → IsTyped t e → AllByRecursion (IsTyped t) (children_of e)
unfolding typed_of
children-typed t root h = tt
children-typed t (literal s) h = tt
children-typed t (get_item f e) h = let a = and_then-ok (typed_of t e) (item_type f) h.0 h.1 in ((a.given, a.was), tt)
children-typed t (binary l op r) h =
    let a = and_then-ok (typed_of t l) (λ x. and_then (typed_of t r) (binary_type op x)) h.0 h.1 in
    let b = and_then-ok (typed_of t r) (binary_type op a.given) h.0 a.gave in
    ((a.given, a.was), ((b.given, b.was), tt))
children-typed t (not_of e) h = let a = and_then-ok (typed_of t e) not_type h.0 h.1 in ((a.given, a.was), tt)
children-typed t (is_null_of e) h = let a = and_then-ok (typed_of t e) (λ x. Ok (bool_ty NonNullable)) h.0 h.1 in ((a.given, a.was), tt)
children-typed t (like e p negated fold_case) h =
    let a = and_then-ok (typed_of t e) (λ x. and_then (typed_of t p) (like_type x)) h.0 h.1 in
    let b = and_then-ok (typed_of t p) (like_type a.given) h.0 a.gave in
    ((a.given, a.was), ((b.given, b.was), tt))
children-typed t (between e lower upper options) h =
    let a = and_then-ok (typed_of t e) (λ x. and_then (typed_of t lower) (λ y. and_then (typed_of t upper) (between_type x y))) h.0 h.1 in
    let b = and_then-ok (typed_of t lower) (λ y. and_then (typed_of t upper) (between_type a.given y)) h.0 a.gave in
    let c = and_then-ok (typed_of t upper) (between_type a.given b.given) h.0 b.gave in
    ((a.given, a.was), ((b.given, b.was), ((c.given, c.was), tt)))
children-typed t (cast e target) h = let a = and_then-ok (typed_of t e) (cast_type target) h.0 h.1 in ((a.given, a.was), tt)
children-typed t (list_contains l v) h =
    let a = and_then-ok (typed_of t l) (λ x. and_then (typed_of t v) (contains_type x)) h.0 h.1 in
    let b = and_then-ok (typed_of t v) (contains_type a.given) h.0 a.gave in
    ((a.given, a.was), ((b.given, b.was), tt))
children-typed t (pack names es n) h = let a = and_then-ok (all_typed t es) (pack_type names n) h.0 h.1 in listed-typed t es a.given a.was
children-typed t (merge es n) h = let a = and_then-ok (all_typed t es) (merge_type n) h.0 h.1 in listed-typed t es a.given a.was
children-typed t (select s e) h = let a = and_then-ok (typed_of t e) (select_type s) h.0 h.1 in ((a.given, a.was), tt)
children-typed t (dynamic e op k slot default) h = let a = and_then-ok (typed_of t e) (dynamic_type slot) h.0 h.1 in ((a.given, a.was), tt)

-- the nodes of a strictly typed expression are strictly typed
pub nodes-typed : (t : Ty) (e : Tree) (u : Ty) → typed_of t e ≡ Ok u → AllByRecursion (IsTyped t) (nodes_of e)
nodes-typed t e u h = each_node (IsTyped t) (children-typed t) e (u, h)

-- an expression whose slots fit
abbrev pub SlotsFit : Slots → Tree → Type 0
SlotsFit slots e = slots_fit slots e ≡ true

listed-fit : (slots : Slots) (es : Trees) → all_slots_fit slots es ≡ true → AllByRecursion (SlotsFit slots) (listed es)
unfolding slots_fit
listed-fit slots no_trees h = tt
listed-fit slots (tree e es) h = let p = and_parts (slots_fit slots e) (all_slots_fit slots es) h in (p.0, listed-fit slots es p.1)

children-fit : (slots : Slots) (e : Tree) → SlotsFit slots e → AllByRecursion (SlotsFit slots) (children_of e)
unfolding slots_fit
children-fit slots root h = tt
children-fit slots (literal s) h = tt
children-fit slots (get_item f e) h = (h, tt)
children-fit slots (binary l op r) h = let p = and_parts (slots_fit slots l) (slots_fit slots r) h in (p.0, (p.1, tt))
children-fit slots (not_of e) h = (h, tt)
children-fit slots (is_null_of e) h = (h, tt)
children-fit slots (like e p negated fold_case) h = let q = and_parts (slots_fit slots e) (slots_fit slots p) h in (q.0, (q.1, tt))
children-fit slots (between e lower upper options) h =
    let p = and_parts (slots_fit slots e) (slots_fit slots lower && slots_fit slots upper) h in
    let q = and_parts (slots_fit slots lower) (slots_fit slots upper) p.1 in
    (p.0, (q.0, (q.1, tt)))
children-fit slots (cast e t) h = (h, tt)
children-fit slots (list_contains l v) h = let p = and_parts (slots_fit slots l) (slots_fit slots v) h in (p.0, (p.1, tt))
children-fit slots (pack names es n) h = listed-fit slots es h
children-fit slots (merge es n) h = listed-fit slots es h
children-fit slots (select s e) h = (h, tt)
children-fit slots (dynamic e op k t default) h = let p = and_parts (held_fits (slot_held slots k) t) (slots_fit slots e) h in (p.1, tt)

-- where the slots of an expression fit, those of its nodes do
pub nodes-fit : (slots : Slots) (e : Tree) → SlotsFit slots e → AllByRecursion (SlotsFit slots) (nodes_of e)
nodes-fit slots = each_node (SlotsFit slots) (children-fit slots)
