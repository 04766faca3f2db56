-- The partitions by columns: each is the pack of the parts of its column, as they are.
use Rattle.std.proofs.Common.{arith, ◌≡◌, refl, ap, sym, ◌∙◌, Bool, true, false, cond, inl, inr, List, [], ◌∷◌, ◌++◌, length, map, ◌≤◌, ◌<◌, ◌^◌, Result, Ok}
use Rattle.std.specs.List.{AllByRecursion}
use Rattle.std.specs.Str.{bytes_eq}
use Rattle.std.proofs.lemmas.Bool.{and_from}
use Rattle.vx_dtype.specs.declared.Nullability.TheVariants.{NonNullable}
use Rattle.vx_dtype.specs.Types.{Bytes, Ty}
use Rattle.vx_expr.specs.Conjuncts.{conjuncts_of}
use Rattle.vx_expr.specs.Trees.{Tree, pack, trees_of, listed}
use Rattle.vx_semantics.specs.Nodes.{nodes_of}
use Rattle.vx_semantics.specs.Typing.{Refusal, and_then, typed_of}
use Rattle.vx_passes.specs.Ranges.{ranged}
use Rattle.vx_passes.specs.Selecting.{without_select}
use Rattle.vx_passes.specs.Merging.{without_merge}
use Rattle.vx_passes.specs.Simplifying.{simplified}
use Rattle.vx_passes.specs.TypedSimplifying.{simplified_typed}
use Rattle.vx_passes.specs.Annotating.{Entry, entry_of}
use Rattle.vx_passes.specs.Splitting.{Share, Taken, with_part, taken_from, packed_parts, part_names, Partition, typed_part, partition_of, partitions_of}
use Rattle.vx_laws.proofs.Inverting.{bytes_same}
use Rattle.vx_laws.proofs.EachNode.{IsTyped, nodes-typed, all-map, all-then, each_node}
use Rattle.vx_laws_removing.specs.Simplest.{nodes_below, all_nodes, nodes_in, is_simple}
use Rattle.vx_laws_removing.proofs.Nodes.{without_select-stays, without_merge-stays, without_packed_fields-stays}
use Rattle.vx_laws_removing.proofs.Loosened.{strict_types_are_loose}
use Rattle.vx_laws_parts.specs.Preserved.{all_rowless, rowless}
use Rattle.vx_laws_parts.proofs.SharesHold.{SharesHold, shares-hold, taken-hold, annotations, parts_in, parts-few}
use Rattle.vx_laws_parts.proofs.PartsTyped.{typed-pack, parts-distinct, names-many}
use Rattle.vx_laws_columns.proofs.Sets.{set_of}
use Rattle.vx_laws_columns.proofs.Rows.{columns_in, IsRowless}
use Rattle.vx_laws_columns.proofs.Entries.{columns_map, Known, columns-known, row-none}
use Rattle.vx_laws_columns.proofs.Covered.{IsRowlessOrRow, nodes-rowless}
use Rattle.vx_laws_columns.proofs.AskedColumns.{IsSimple, children-simple}

-- lists of expressions as trees
pub listed-trees : (es : List Tree) → listed (trees_of es) ≡ es
listed-trees [] = refl
listed-trees (e ∷ es) = ap (λ (ds : List Tree). e ∷ ds) (listed-trees es)

pub pack-simple : (names : List Bytes) (es : List Tree) → AllByRecursion IsSimple es → IsSimple (pack names (trees_of es) NonNullable)
unfolding nodes_below
pack-simple names es h = all-simple es h
  where
    all-simple : (ds : List Tree) → AllByRecursion IsSimple ds → nodes_in is_simple (trees_of ds) ≡ true
    all-simple [] k = refl
    all-simple (d ∷ ds) k = and_from (all_nodes is_simple d) (nodes_in is_simple (trees_of ds)) k.0 (all-simple ds k.1)

pub pack-rowless : (names : List Bytes) (es : List Tree) → AllByRecursion IsRowless es → IsRowless (pack names (trees_of es) NonNullable)
unfolding rowless
pack-rowless names es h = each es h
  where
    each : (ds : List Tree) → AllByRecursion IsRowless ds → all_rowless (trees_of ds) ≡ true
    each [] k = refl
    each (d ∷ ds) k = and_from (rowless d) (all_rowless (trees_of ds)) k.0 (each ds k.1)

-- a pack of simple expressions is simplified already
pack-stays : (t : Ty) (names : List Bytes) (es : List Tree) → AllByRecursion IsSimple es → simplified_typed t (pack names (trees_of es) NonNullable) ≡ Ok (pack names (trees_of es) NonNullable)
unfolding conjuncts_of
pack-stays t names es h =
    let d = pack names (trees_of es) NonNullable in
    let good = pack-simple names es h in
    let once : simplified d ≡ Ok d = ap (λ (x : Result Tree Refusal). and_then x (λ y. Ok (ranged y))) (without_packed_fields-stays d good) in
    ap (λ (x : Result Tree Refusal). and_then x (λ a. and_then (without_select t a) (λ b. and_then (without_merge t b) simplified))) once
    ∙ (ap (λ (x : Result Tree Refusal). and_then x (λ b. and_then (without_merge t b) simplified)) (without_select-stays t d good)
    ∙ (ap (λ (x : Result Tree Refusal). and_then x simplified) (without_merge-stays t d good) ∙ once))

-- a part of a column
pub record Part (t : Ty) (c : Bytes) (n : Tree) : Type 0 where
  pub typed : IsTyped t n
  pub simple : IsSimple n
  pub rowless : IsRowless n
  pub alone : set_of (columns_in n) ≡ c ∷ []

-- some parts, at least one
abbrev pub IsFull : List Tree → Type 0
IsFull es = (n : Tree) × (ns : List Tree) × (es ≡ n ∷ ns)

abbrev pub own_name : Bytes → Bytes
own_name c = c

module _ (t : Ty) where
  abbrev pub taken_by_columns : Tree → Taken Bytes
  taken_by_columns d = taken_from bytes_eq own_name (columns_map t d) d []

  -- the parts of a strictly typed expression of simple nodes
  pub parts-of : (d : Tree) → IsTyped t d → IsSimple d → IsRowless d → SharesHold bytes_eq own_name (columns_map t d) (Part t) (taken_by_columns d).shares
  parts-of d h s r =
      let m = columns_map t d in
      let Facts = λ (n : Tree). IsTyped t n × (IsSimple n × (IsRowlessOrRow n × (IsRowless n → Known t m n))) in
      let facts : AllByRecursion Facts (nodes_of d) =
      all-then (IsTyped t) (λ n. IsSimple n × (IsRowlessOrRow n × (IsRowless n → Known t m n))) Facts (nodes_of d) (λ n x y. (x, y)) (nodes-typed t d h.0 h.1)
      (all-then IsSimple (λ n. IsRowlessOrRow n × (IsRowless n → Known t m n)) (λ n. IsSimple n × (IsRowlessOrRow n × (IsRowless n → Known t m n))) (nodes_of d) (λ n x y. (x, y))
      (each_node IsSimple children-simple d s)
      (all-then IsRowlessOrRow (λ n. IsRowless n → Known t m n) (λ n. IsRowlessOrRow n × (IsRowless n → Known t m n)) (nodes_of d) (λ n x y. (x, y)) (nodes-rowless d r) (columns-known t d r))) in
      shares-hold bytes_eq own_name m (Part t) (λ a b i. bytes_same a b i) d
      (all-map Facts (λ n. (a : Bytes) → entry_of n m ≡ a ∷ [] → Part t a n) (nodes_of d) (λ n f a i. by-row n f a i f.1.1.0) facts) [] tt
    where
      by-row : (n : Tree) → IsTyped t n × (IsSimple n × (IsRowlessOrRow n × (IsRowless n → Known t (columns_map t d) n))) → (a : Bytes) → entry_of n (columns_map t d) ≡ a ∷ [] → IsRowlessOrRow n → Part t a n
      by-row n f a i (inl k) = record { typed = f.0; simple = f.1.0; rowless = k; alone = sym (f.1.1.1 k) ∙ i }
      by-row n f a i (inr k) =
          let none : [] ≡ a ∷ [] = sym (ap (λ (z : Tree). entry_of z (columns_map t d)) k ∙ row-none t d r) ∙ i in
          let no : ⊥ = cc in absurd no

  module _ (m : List (Entry Bytes)) where
    abbrev pub AllFull : List (Share Bytes) → Type 0
    AllFull ss = AllByRecursion (λ x. IsFull x.parts) ss

    part-full : (a : Bytes) (e : Tree) (ss : List (Share Bytes)) → AllFull ss → AllFull (with_part bytes_eq a e ss)
    part-full a e [] h = ((e, [], refl), tt)
    part-full a e (x ∷ xs) h = by-test (bytes_eq a x.annotation) (part-full a e xs h.1)
      where
        by-test : (b : Bool) → AllFull (with_part bytes_eq a e xs) → AllFull (cond b (record { annotation = x.annotation; parts = x.parts ++ e ∷ [] } ∷ xs) (x ∷ with_part bytes_eq a e xs))
        by-test true r = ((h.0.0, h.0.1 ++ e ∷ [], ap (λ (ns : List Tree). ns ++ e ∷ []) h.0.2), h.1)
        by-test false r = (h.0, r)

    any-node : (ns : List Tree) → AllByRecursion (λ n. Unit {0}) ns
    any-node [] = tt
    any-node (n ∷ ns) = (tt, any-node ns)

    pub shares-full : (d : Tree) → AllFull (taken_from bytes_eq own_name m d []).shares
    shares-full d = taken-hold bytes_eq own_name m (λ n. Unit {0}) AllFull (λ a n ss h i k. part-full a n ss k) d (any-node (nodes_of d)) [] tt

  -- the partition of a column
  pub record IsOfColumn (p : Partition Bytes) : Type 0 where
    pub parts : List Tree
    pub is : p.expression ≡ packed_parts p.annotation parts
    pub full : IsFull parts
    pub hold : AllByRecursion (Part t p.annotation) parts
    pub typed : typed_of t p.expression ≡ Ok p.ty

  -- the partitions of shares
  pub record Partitioned (m : List (Entry Bytes)) (ss : List (Share Bytes)) : Type 0 where
    pub partitions : List (Partition Bytes)
    pub is : partitions_of own_name t ss ≡ Ok partitions
    pub annotations_same : map (λ p. p.annotation) partitions ≡ annotations bytes_eq own_name m ss
    pub expressions : map (λ p. p.expression) partitions ≡ map (λ x. packed_parts x.annotation x.parts) ss
    pub of_columns : AllByRecursion IsOfColumn partitions

  pub partitioned : (m : List (Entry Bytes)) (ss : List (Share Bytes)) → SharesHold bytes_eq own_name m (Part t) ss → AllFull m ss → parts_in bytes_eq own_name m ss ≤ 2 ^ 64 → Partitioned m ss
  partitioned m [] h f few = record { partitions = []; is = refl; annotations_same = refl; expressions = refl; of_columns = tt }
  partitioned m (x ∷ xs) h f few =
      let r = partitioned m xs h.1 f.1 (omega arith) in
      let e = packed_parts x.annotation x.parts in
      let names = part_names x.annotation 0 x.parts in
      let w = typed-pack t names x.parts (all-map (Part t x.annotation) (IsTyped t) x.parts (λ n k. k.typed) h.0) (parts-distinct x.annotation 0 x.parts (omega arith)) (names-many x.annotation 0 x.parts) in
      let here : Partition Bytes = record { annotation = x.annotation; expression = e; ty = w.0 } in
      let one : partition_of own_name t x ≡ Ok here =
      ap (λ (q : Result Tree Refusal). and_then q (typed_part t x.annotation)) (pack-stays t names x.parts (all-map (Part t x.annotation) IsSimple x.parts (λ n k. k.simple) h.0))
      ∙ ap (λ (q : Result Ty Refusal). and_then q (λ z. Ok (record { annotation = x.annotation; expression = e; ty = z }))) (strict_types_are_loose t e w.0 w.1) in
      record {
        partitions = here ∷ r.partitions;
        is =
            ap (λ (q : Result (Partition Bytes) Refusal). and_then q (λ p. and_then (partitions_of own_name t xs) (λ ps. Ok (p ∷ ps)))) one
            ∙ ap (λ (q : Result (List (Partition Bytes)) Refusal). and_then q (λ ps. Ok (here ∷ ps))) r.is;
        annotations_same = ap (λ (ks : List Bytes). x.annotation ∷ ks) r.annotations_same;
        expressions = ap (λ (ds : List Tree). e ∷ ds) r.expressions;
        of_columns = (record { parts = x.parts; is = refl; full = f.0; hold = h.0; typed = w.1 }, r.of_columns);
      }

  -- the partitions of a strictly typed expression of simple nodes
  pub partitions-of : (d : Tree) → IsTyped t d → IsSimple d → IsRowless d → length (nodes_of d) < 2 ^ 64 → Partitioned (columns_map t d) (taken_by_columns d).shares
  partitions-of d h s r few =
      let m = columns_map t d in
      let total = parts-few bytes_eq own_name m d [] in
      partitioned m (taken_by_columns d).shares (parts-of d h s r) (shares-full m d) (omega arith)
