-- Partition: an expression as parts, one for each annotation, and a root that puts together what the parts give.
use Rattle.std.specs.Prelude.{ℕ, suc, Bool, cond, List, [], ◌∷◌, ◌++◌, length, map, codes, decimal, Result, Ok}
use Rattle.vx_dtype.specs.declared.Nullability.TheVariants.{NonNullable}
use Rattle.vx_dtype.specs.Types.{Bytes, Ty, struct_ty}
use Rattle.vx_dtype.specs.Zipped.{zipped}
use Rattle.vx_expr.specs.Trees.{Tree, root, literal, get_item, binary, not_of, is_null_of, like, between, cast, list_contains, pack, merge, select, dynamic}
use Rattle.vx_expr.specs.Trees.{Trees, no_trees, tree, trees_of}
use Rattle.vx_semantics.specs.Typing.{Refusal, and_then}
use Rattle.vx_semantics.specs.LooseTyping.{loosely_typed}
use Rattle.vx_passes.specs.Annotating.{Entry, entry_of, annotated}
use Rattle.vx_passes.specs.TypedSimplifying.{simplified_typed}

-- an annotation and the expressions that became parts of it, in order
pub record Share (A : Type 0) : Type 0 where
  pub annotation : A
  pub parts : List Tree

-- an expression in which parts were taken out, and the shares, in order of first use
pub record Taken (A : Type 0) : Type 0 where
  pub expression : Tree
  pub shares : List (Share A)

-- the same of the expressions of a list
pub record AllTaken (A : Type 0) : Type 0 where
  pub expressions : Trees
  pub shares : List (Share A)

-- how many parts an annotation has so far
abbrev pub parts_count : {A : Type 0} → (A → A → Bool) → A → List (Share A) → ℕ
parts_count same a [] = 0
parts_count same a (x ∷ xs) = cond (same a x.annotation) (length x.parts) (parts_count same a xs)

-- the shares with one more part of an annotation
abbrev pub with_part : {A : Type 0} → (A → A → Bool) → A → Tree → List (Share A) → List (Share A)
with_part same a e [] = record { annotation = a; parts = e ∷ [] } ∷ []
with_part same a e (x ∷ xs) =
    cond (same a x.annotation) (record { annotation = x.annotation; parts = x.parts ++ e ∷ [] } ∷ xs) (x ∷ with_part same a e xs)

-- the name of a part: the annotation's text and the part's number, counted from 0
abbrev pub part_name : Bytes → ℕ → Bytes
part_name text i = text ++ (codes "_" ++ decimal i)

-- what stands for a part: its field of the field of its annotation
abbrev pub part_access : Bytes → ℕ → Tree
part_access text i = get_item (part_name text i) (get_item text root)

-- a node whose entry has exactly one annotation becomes the next part of it; else the node's children are looked at
abbrev pub part_or_below :
    {A : Type 0} → (A → A → Bool) → (A → Bytes) → Tree → List A → (List (Share A) → Taken A) → List (Share A) → Taken A
part_or_below same text e (a ∷ []) below shares =
    record { expression = part_access (text a) (parts_count same a shares); shares = with_part same a e shares }
part_or_below same text e _ below shares = below shares

-- a node put together again over one child, over two, and over those of a list
abbrev pub over_one : {A : Type 0} → (Tree → Tree) → Taken A → Taken A
over_one node x = record { expression = node x.expression; shares = x.shares }

abbrev pub over_two : {A : Type 0} → (Tree → Tree → Tree) → (List (Share A) → Taken A) → Taken A → Taken A
over_two node next x = over_one (node x.expression) (next x.shares)

abbrev pub over_list : {A : Type 0} → (Trees → Tree) → AllTaken A → Taken A
over_list node x = record { expression = node x.expressions; shares = x.shares }

abbrev pub over_three :
    {A : Type 0} → (Tree → Tree → Tree → Tree) → (List (Share A) → Taken A) → (List (Share A) → Taken A) → Taken A → Taken A
over_three node second third x = over_two (node x.expression) third (second x.shares)

-- an expression before the others of a list, which are looked at next
abbrev pub before_others : {A : Type 0} → Tree → AllTaken A → AllTaken A
before_others e x = record { expressions = tree e x.expressions; shares = x.shares }

abbrev pub before_taken : {A : Type 0} → (List (Share A) → AllTaken A) → Taken A → AllTaken A
before_taken next x = before_others x.expression (next x.shares)

unfoldable mutual
  -- the expression with each node of one annotation taken out from the root down, left to right, by the entries of a map
  pub taken_from : {A : Type 0} → (A → A → Bool) → (A → Bytes) → List (Entry A) → Tree → List (Share A) → Taken A
  taken_from same text m root = part_or_below same text root (entry_of root m) (λ ss. record { expression = root; shares = ss })
  taken_from same text m (literal s) =
      part_or_below same text (literal s) (entry_of (literal s) m) (λ ss. record { expression = literal s; shares = ss })
  taken_from same text m (get_item f e) =
      part_or_below same text (get_item f e) (entry_of (get_item f e) m) (λ ss. over_one (get_item f) (taken_from same text m e ss))
  taken_from same text m (binary l op r) =
      part_or_below same text (binary l op r) (entry_of (binary l op r) m)
      (λ ss. over_two (λ a. λ b. binary a op b) (taken_from same text m r) (taken_from same text m l ss))
  taken_from same text m (not_of e) =
      part_or_below same text (not_of e) (entry_of (not_of e) m) (λ ss. over_one not_of (taken_from same text m e ss))
  taken_from same text m (is_null_of e) =
      part_or_below same text (is_null_of e) (entry_of (is_null_of e) m) (λ ss. over_one is_null_of (taken_from same text m e ss))
  taken_from same text m (like e p negated fold_case) =
      part_or_below same text (like e p negated fold_case) (entry_of (like e p negated fold_case) m)
      (λ ss. over_two (λ d. λ q. like d q negated fold_case) (taken_from same text m p) (taken_from same text m e ss))
  taken_from same text m (between e lower upper options) =
      part_or_below same text (between e lower upper options) (entry_of (between e lower upper options) m)
      (λ ss. over_three (λ d. λ a. λ b. between d a b options) (taken_from same text m lower) (taken_from same text m upper) (taken_from same text m e ss))
  taken_from same text m (cast e t) =
      part_or_below same text (cast e t) (entry_of (cast e t) m) (λ ss. over_one (λ d. cast d t) (taken_from same text m e ss))
  taken_from same text m (list_contains l v) =
      part_or_below same text (list_contains l v) (entry_of (list_contains l v) m)
      (λ ss. over_two list_contains (taken_from same text m v) (taken_from same text m l ss))
  taken_from same text m (pack names es n) =
      part_or_below same text (pack names es n) (entry_of (pack names es n) m) (λ ss. over_list (λ ds. pack names ds n) (all_taken_from same text m es ss))
  taken_from same text m (merge es n) =
      part_or_below same text (merge es n) (entry_of (merge es n) m) (λ ss. over_list (λ ds. merge ds n) (all_taken_from same text m es ss))
  taken_from same text m (select s e) =
      part_or_below same text (select s e) (entry_of (select s e) m) (λ ss. over_one (select s) (taken_from same text m e ss))
  taken_from same text m (dynamic e op k t default) =
      part_or_below same text (dynamic e op k t default) (entry_of (dynamic e op k t default) m)
      (λ ss. over_one (λ d. dynamic d op k t default) (taken_from same text m e ss))

  -- the same of each expression of a list
  pub all_taken_from : {A : Type 0} → (A → A → Bool) → (A → Bytes) → List (Entry A) → Trees → List (Share A) → AllTaken A
  all_taken_from same text m no_trees ss = record { expressions = no_trees; shares = ss }
  all_taken_from same text m (tree e es) ss =
      before_taken (all_taken_from same text m es) (taken_from same text m e ss)

-- the numbered names of the parts of a share
abbrev pub part_names : Bytes → ℕ → List Tree → List Bytes
part_names text i [] = []
part_names text i (e ∷ es) = part_name text i ∷ part_names text (suc i) es

-- the parts of a share as a pack under their names
abbrev pub packed_parts : Bytes → List Tree → Tree
packed_parts text parts = pack (part_names text 0 parts) (trees_of parts) NonNullable

-- a partition: its expression, its looser type over the scope, its annotation
pub record Partition (A : Type 0) : Type 0 where
  pub annotation : A
  pub expression : Tree
  pub ty : Ty

-- the partition of a share: its pack, simplified by types and typed over the scope
abbrev pub typed_part : {A : Type 0} → Ty → A → Tree → Result (Partition A) Refusal
typed_part t a e = and_then (loosely_typed t e) (λ u. Ok (record { annotation = a; expression = e; ty = u }))

abbrev pub partition_of : {A : Type 0} → (A → Bytes) → Ty → Share A → Result (Partition A) Refusal
partition_of text t share = and_then (simplified_typed t (packed_parts (text share.annotation) share.parts)) (typed_part t share.annotation)

-- the partitions of the shares in order, with the first refusal
abbrev pub partitions_of : {A : Type 0} → (A → Bytes) → Ty → List (Share A) → Result (List (Partition A)) Refusal
partitions_of text t [] = Ok []
partitions_of text t (x ∷ xs) = and_then (partition_of text t x) (λ p. and_then (partitions_of text t xs) (λ ps. Ok (p ∷ ps)))

-- an expression in parts: the root over what the partitions give, and the partitions in order of first use
pub record Split (A : Type 0) : Type 0 where
  pub root_expression : Tree
  pub partitions : List (Partition A)

-- the type of what the partitions give: a struct, not nullable, with a field for each annotation
abbrev pub partitions_type : {A : Type 0} → (A → Bytes) → List (Partition A) → Ty
partitions_type text ps = struct_ty (zipped (map (λ p. text p.annotation) ps) (map (λ p. p.ty) ps)) NonNullable

-- the root simplified over the type of what the partitions give
abbrev pub with_root : {A : Type 0} → (A → Bytes) → Tree → List (Partition A) → Result (Split A) Refusal
with_root text e ps = and_then (simplified_typed (partitions_type text ps) e) (λ d. Ok (record { root_expression = d; partitions = ps }))

-- an expression split by its annotations, with the first refusal: of the partitions in order, then of the root
abbrev pub split_taken : {A : Type 0} → (A → Bytes) → Ty → Taken A → Result (Split A) Refusal
split_taken text t taken = and_then (partitions_of text t taken.shares) (with_root text taken.expression)

abbrev pub split : {A : Type 0} → (A → A → Bool) → (A → Bytes) → (Tree → List A) → Ty → Tree → Result (Split A) Refusal
split same text annotate t e = split_taken text t (taken_from same text (annotated same annotate e) e [])
