-- What the partitions by columns are: one for each column that is asked, and each asks its column alone.
use Rattle.std.proofs.Common.{◌≡◌, refl, ap, sym, ◌∙◌, Bool, true, false, cond, not, ◌&&◌, ◌||◌, Option, subst, List, [], ◌∷◌, map, Result, Ok}
use Rattle.std.specs.Prelude.{option_map, ok_or}
use Rattle.std.specs.List.{flat_map, filter, AllByRecursion}
use Rattle.std.specs.Str.{bytes_eq}
use Rattle.std.proofs.lemmas.Bool.{and_parts}
use Rattle.std.proofs.lemmas.List.Elements.{All-from_recursion}
use Rattle.std.proofs.lemmas.List.Folds.{list_any-append}
use Rattle.std.proofs.lemmas.Slice.Eq.{bytes_eq-Decides}
use Rattle.vx_dtype.specs.declared.Nullability.TheVariants.{NonNullable}
use Rattle.vx_dtype.specs.Types.{Bytes, Ty, Fields}
use Rattle.vx_dtype.specs.TypeRules.{widened, has_name, distinct_names, field_names, field_type, no_name_twice, no_name_twice_below}
use Rattle.vx_dtype.specs.Values.{Val, null_val}
use Rattle.vx_dtype.specs.Structs.{field_of, first_names}
use Rattle.vx_expr.specs.Trees.{Tree, root, get_item}
use Rattle.vx_semantics.specs.Typing.{Refusal, unknown_field, duplicate_field, unless, and_then, item_type, typed_of, names_in}
use Rattle.vx_semantics.specs.Meaning.{Slots, mean}
use Rattle.vx_semantics.specs.Asked.{asked_columns}
use Rattle.vx_semantics.specs.Breaks.{Cause, by_sum}
use Rattle.vx_semantics.specs.Tables.{row_type}
use Rattle.vx_passes.specs.Annotating.{column_annotation}
use Rattle.vx_passes.specs.Replacing.{root_replaced}
use Rattle.vx_passes.specs.TypedSimplifying.{simplified_typed}
use Rattle.vx_passes.specs.Splitting.{packed_parts, part_names, Partition, Split, with_root, partitions_type}
use Rattle.vx_laws.proofs.Inverting.{and_then-ok, Ok-same, bytes_same, bytes_eq-itself}
use Rattle.vx_laws.proofs.EachNode.{IsTyped, SlotsFit, all-map}
use Rattle.vx_laws_removing.proofs.Settled.{simplified_simple}
use Rattle.vx_laws_simplifying.specs.Asking.{breaks_along}
use Rattle.vx_laws_simplifying.proofs.Observing.{breaking, breaking-observes, or-false, or-twice}
use Rattle.vx_laws_simplifying.proofs.Passes.{some_row, some_row-fits}
use Rattle.vx_laws_parts.specs.Preserved.{Simplifies}
use Rattle.vx_laws_parts.proofs.Outcomes.{preserved_rowless, preserved_type, preserved_asked_columns, preserved_meaning}
use Rattle.vx_laws_parts.proofs.RootKept.{preserved-kept}
use Rattle.vx_laws_parts.proofs.SharesHold.{annotations}
use Rattle.vx_laws_parts.specs.Recombining.{Splits}
use Rattle.vx_laws_parts.proofs.PartsTyped.{texts_tell_shares}
use Rattle.vx_laws_parts.proofs.Recombined.{splits_without_refusal, split_recombines}
use Rattle.vx_laws_columns.specs.Columns.{Prepared, SplitByColumns, SplitsByColumns, ColumnsRecombine, OnePartitionPerColumn, PartitionsOfAskedColumns, AsksItsColumn, PartitionsAskTheirColumn, StandsAlone, PartitionsStandAlone}
use Rattle.vx_laws_columns.proofs.Sets.{set_of, has-joined, firsts}
use Rattle.vx_laws_columns.proofs.Rows.{columns_in, columns-by_children, IsRowless}
use Rattle.vx_laws_columns.proofs.Entries.{columns_map, columns-known}
use Rattle.vx_laws_columns.proofs.Covered.{shares-order, columns_cover_rowless}
use Rattle.vx_laws_columns.proofs.AskedColumns.{IsSimple, asked-own, columns-in_scope}
use Rattle.vx_laws_columns.proofs.OtherScope.{Same, ColumnsSame, moved}
use Rattle.vx_laws_columns.proofs.SameBreaks.{each-asked, some-agrees}
use Rattle.vx_laws_columns.proofs.Partitions.{listed-trees, pack-simple, pack-rowless, Part, own_name, taken_by_columns, IsOfColumn, partitions-of}

-- a prepared expression is strictly typed, of simple nodes, and has the row only straight below fields
pub record Ready (fs : Fields) (d : Tree) : Type 0 where
  pub typed : IsTyped (row_type fs) d
  pub simple : IsSimple d
  pub rowless : IsRowless d

pub ready : (fs : Fields) (e : Tree) (u : Ty) (d : Tree) → Simplifies fs e u d → Ready fs d
ready fs e u d h =
    let t = row_type fs in
    let k = preserved_type fs e u h.typed in
    let same : k.0 ≡ d = Ok-same (simplified_typed t (root_replaced fs e)) k.0 d k.2 h.made in
    record {
      typed = (k.1, ap (typed_of t) (sym same) ∙ k.3);
      simple = simplified_simple t (root_replaced fs e) d h.made;
      rowless = preserved_rowless fs e u d h;
    }

pub splits-of : (fs : Fields) (e : Tree) (u : Ty) (d : Tree) (h : Prepared fs e u d) → Splits Bytes bytes_eq own_name (column_annotation (row_type fs)) (row_type fs) d (ready fs e u d h.simplifies).typed.0
splits-of fs e u d h =
    let r = ready fs e u d h.simplifies in
    record {
      decides = bytes_eq-Decides;
      distinct = texts_tell_shares Bytes bytes_eq own_name (column_annotation (row_type fs)) d bytes_eq-Decides (λ a b i. i);
      covered = columns_cover_rowless (row_type fs) d r.rowless;
      few = h.few;
      typed = r.typed.1;
    }

pub splits_by_columns : SplitsByColumns
splits_by_columns fs e u d h =
    let k = splits_without_refusal Bytes bytes_eq own_name (column_annotation (row_type fs)) (row_type fs) d (ready fs e u d h.simplifies).typed.0 (splits-of fs e u d h) in (k.0, k.1)

-- slots that fit in an expression fit in it once it is prepared
pub prepared-fits : (fs : Fields) (slots : Slots) (e : Tree) (u : Ty) (d : Tree) → Simplifies fs e u d → SlotsFit slots e → SlotsFit slots d
prepared-fits fs slots e u d h f =
    let t = row_type fs in
    let k = preserved-kept fs slots (some_row t) (breaking by_sum t slots (some_row t)) (breaking-observes by_sum t slots (some_row t)) (some_row-fits t) e u h.typed in
    subst (SlotsFit slots) (Ok-same (simplified_typed t (root_replaced fs e)) k.made d k.is h.made) (k.kept.fitting f)

pub columns_recombine : ColumnsRecombine
columns_recombine fs slots row e u d s h g =
    let t = row_type fs in
    let q = h.prepared.simplifies in
    split_recombines Bytes bytes_eq own_name (column_annotation t) t slots row d (ready fs e u d q).typed.0 s (splits-of fs e u d h.prepared) g h.made
    ∙ preserved_meaning fs slots row e u d q g

-- a split by columns: its partitions are those of the shares, and its root is what simplifying makes of what is left
pub record IsSplit (t : Ty) (d : Tree) (s : Split Bytes) : Type 0 where
  pub annotations_same : map (λ p. p.annotation) s.partitions ≡ annotations bytes_eq own_name (columns_map t d) (taken_by_columns t d).shares
  pub expressions : map (λ p. p.expression) s.partitions ≡ map (λ x. packed_parts x.annotation x.parts) (taken_by_columns t d).shares
  pub of_columns : AllByRecursion (IsOfColumn t) s.partitions
  pub root_is : simplified_typed (partitions_type own_name s.partitions) (taken_by_columns t d).expression ≡ Ok s.root_expression

with-root : (d : Tree) (ps : List (Partition Bytes)) (s : Split Bytes) → with_root own_name d ps ≡ Ok s → (s.partitions ≡ ps) × (simplified_typed (partitions_type own_name ps) d ≡ Ok s.root_expression)
with-root d ps s h =
    let a = and_then-ok (simplified_typed (partitions_type own_name ps) d) (λ c. Ok (record { root_expression = c; partitions = ps })) s h in
    let made : Split Bytes = record { root_expression = a.given; partitions = ps } in
    let same : made ≡ s = Ok-same (Ok s) made s (sym a.gave) refl in
    (ap (λ (z : Split Bytes). z.partitions) (sym same), a.was ∙ ap (λ (z : Split Bytes). Ok z.root_expression) same)

pub is-split : (fs : Fields) (e : Tree) (u : Ty) (d : Tree) (s : Split Bytes) → SplitByColumns fs e u d s → IsSplit (row_type fs) d s
is-split fs e u d s h =
    let t = row_type fs in
    let r = ready fs e u d h.prepared.simplifies in
    let k = partitions-of t d r.typed r.simple r.rowless h.prepared.few in
    let x = taken_by_columns t d in
    let root : with_root own_name x.expression k.partitions ≡ Ok s = sym (ap (λ (q : Result (List (Partition Bytes)) Refusal). and_then q (with_root own_name x.expression)) k.is) ∙ h.made in
    let w = with-root x.expression k.partitions s root in
    record {
      annotations_same = ap (map (λ (p : Partition Bytes). p.annotation)) w.0 ∙ k.annotations_same;
      expressions = ap (map (λ (p : Partition Bytes). p.expression)) w.0 ∙ k.expressions;
      of_columns = subst (AllByRecursion (IsOfColumn t)) (sym w.0) k.of_columns;
      root_is = ap (λ (ps : List (Partition Bytes)). simplified_typed (partitions_type own_name ps) x.expression) w.0 ∙ w.1;
    }

in-order : (fs : Fields) (e : Tree) (u : Ty) (d : Tree) (s : Split Bytes) → SplitByColumns fs e u d s → map (λ p. p.annotation) s.partitions ≡ set_of (columns_in d)
in-order fs e u d s h =
    let t = row_type fs in
    let r = ready fs e u d h.prepared.simplifies in
    (is-split fs e u d s h).annotations_same ∙ shares-order t (columns_map t d) own_name d r.rowless (columns-known t d r.rowless) []

pub one_partition_per_column : OnePartitionPerColumn
one_partition_per_column fs e u d s h =
    let r = ready fs e u d h.prepared.simplifies in
    in-order fs e u d s h ∙ (firsts (columns_in d) ∙ ap first_names (sym (asked-own (row_type fs) d r.typed r.simple r.rowless)))

-- a name that is among those that pass a test
has-filter : (test : Bytes → Bool) (c : Bytes) (names : List Bytes) → has_name c (filter test names) ≡ (test c && has_name c names)
has-filter test c [] = none (test c)
  where
    none : (b : Bool) → false ≡ (b && false)
    none true = refl
    none false = refl
has-filter test c (y ∷ ys) = by-tests (test y) (bytes_eq c y) (test c) refl refl refl (has-filter test c ys)
  where
    by-tests : (a b x : Bool) → test y ≡ a → bytes_eq c y ≡ b → test c ≡ x → has_name c (filter test ys) ≡ (test c && has_name c ys)
        → has_name c (cond a (y ∷ filter test ys) (filter test ys)) ≡ (x && (b || has_name c ys))
    by-tests true true true i j k r = ap (λ (z : Bool). z || has_name c (filter test ys)) j
    by-tests true false true i j k r = ap (λ (z : Bool). z || has_name c (filter test ys)) j ∙ (r ∙ ap (λ (z : Bool). z && has_name c ys) k)
    by-tests true true false i j k r = let no : true ≡ false = sym i ∙ (ap test (sym (bytes_same c y j)) ∙ k) in let wrong : ⊥ = cc in absurd wrong
    by-tests true false false i j k r = ap (λ (z : Bool). z || has_name c (filter test ys)) j ∙ (r ∙ ap (λ (z : Bool). z && has_name c ys) k)
    by-tests false true true i j k r = let no : true ≡ false = sym k ∙ (ap test (bytes_same c y j) ∙ i) in let wrong : ⊥ = cc in absurd wrong
    by-tests false false true i j k r = r ∙ ap (λ (z : Bool). z && has_name c ys) k
    by-tests false true false i j k r = r ∙ ap (λ (z : Bool). z && has_name c ys) k
    by-tests false false false i j k r = r ∙ ap (λ (z : Bool). z && has_name c ys) k

pub partitions_of_asked_columns : PartitionsOfAskedColumns
partitions_of_asked_columns fs e u d s c h =
    let t = row_type fs in
    let r = ready fs e u d h.prepared.simplifies in
    ap (has_name c) (in-order fs e u d s h)
    ∙ (has-joined c [] (columns_in d)
    ∙ (by-test (has_name c (columns_in d)) refl
    ∙ (sym (has-filter (λ x. has_name x (columns_in d)) c (names_in t))
    ∙ (ap (λ (xs : List Bytes). has_name c (filter (λ x. has_name x xs) (names_in t))) (sym (asked-own t d r.typed r.simple r.rowless))
    ∙ ap (has_name c) (preserved_asked_columns fs e u d h.prepared.simplifies)))))
  where
    by-test : (b : Bool) → has_name c (columns_in d) ≡ b → b ≡ (b && has_name c (names_in (row_type fs)))
    by-test true i = sym (columns-in_scope (row_type fs) d (ready fs e u d h.prepared.simplifies).typed (ready fs e u d h.prepared.simplifies).rowless c i).0
    by-test false i = refl

-- the columns of a part of a column, and of all parts
part-column : (t : Ty) (c : Bytes) (n : Tree) → Part t c n → (x : Bytes) → has_name x (columns_in n) ≡ bytes_eq x c
part-column t c n k x = sym (has-joined x [] (columns_in n)) ∙ (ap (has_name x) k.alone ∙ or-false (bytes_eq x c))

parts-column : (t : Ty) (c : Bytes) (n : Tree) (ns : List Tree) → AllByRecursion (Part t c) (n ∷ ns) → (x : Bytes) → has_name x (flat_map columns_in (n ∷ ns)) ≡ bytes_eq x c
parts-column t c n [] h x =
    list_any-append (bytes_eq x) (columns_in n) [] ∙ (or-false (has_name x (columns_in n)) ∙ part-column t c n h.0 x)
parts-column t c n (m ∷ ms) h x =
    list_any-append (bytes_eq x) (columns_in n) (flat_map columns_in (m ∷ ms))
    ∙ (ap (λ (b : Bool). b || has_name x (flat_map columns_in (m ∷ ms))) (part-column t c n h.0 x)
    ∙ (ap (λ (b : Bool). bytes_eq x c || b) (parts-column t c m ms h.1 x) ∙ or-twice (bytes_eq x c)))

-- of a partition: typed, simple, rowless, and its column
pub record Touches (t : Ty) (p : Partition Bytes) : Type 0 where
  pub simple : IsSimple p.expression
  pub rowless : IsRowless p.expression
  pub column : (x : Bytes) → has_name x (columns_in p.expression) ≡ bytes_eq x p.annotation

pub touches : (t : Ty) (p : Partition Bytes) → IsOfColumn t p → Touches t p
touches t p k =
    let names = part_names p.annotation 0 k.parts in
    let whole : columns_in p.expression ≡ flat_map columns_in k.parts =
    ap columns_in k.is ∙ (columns-by_children (packed_parts p.annotation k.parts) refl ∙ ap (flat_map columns_in) (listed-trees k.parts)) in
    record {
      simple = subst IsSimple (sym k.is) (pack-simple names k.parts (all-map (Part t p.annotation) IsSimple k.parts (λ n j. j.simple) k.hold));
      rowless = subst IsRowless (sym k.is) (pack-rowless names k.parts (all-map (Part t p.annotation) IsRowless k.parts (λ n j. j.rowless) k.hold));
      column = λ x.
          ap (has_name x) (whole ∙ ap (flat_map columns_in) k.full.2)
          ∙ parts-column t p.annotation k.full.0 k.full.1 (subst (AllByRecursion (Part t p.annotation)) k.full.2 k.hold) x;
    }

-- of distinct names the one that is this
filter-same : (p q : Bytes → Bool) (zs : List Bytes) → ((x : Bytes) → p x ≡ q x) → filter p zs ≡ filter q zs
filter-same p q [] h = refl
filter-same p q (z ∷ zs) h =
    ap (λ (b : Bool). cond b (z ∷ filter p zs) (filter p zs)) (h z) ∙ ap (λ (ys : List Bytes). cond (q z) (z ∷ ys) ys) (filter-same p q zs h)

filter-none : (c : Bytes) (names : List Bytes) → has_name c names ≡ false → filter (λ x. bytes_eq x c) names ≡ []
filter-none c [] h = refl
filter-none c (y ∷ ys) h = by-test (bytes_eq y c) refl (bytes_eq c y) refl h (filter-none c ys)
  where
    by-test : (a : Bool) → bytes_eq y c ≡ a → (b : Bool) → bytes_eq c y ≡ b → (b || has_name c ys) ≡ false → (has_name c ys ≡ false → filter (λ x. bytes_eq x c) ys ≡ [])
        → cond a (y ∷ filter (λ x. bytes_eq x c) ys) (filter (λ x. bytes_eq x c) ys) ≡ []
    by-test a i true j k r = let no : ⊥ = cc in absurd no
    by-test true i false j k r =
        let no : true ≡ false = sym (bytes_eq-itself c) ∙ (ap (bytes_eq c) (sym (bytes_same y c i)) ∙ j) in let wrong : ⊥ = cc in absurd wrong
    by-test false i false j k r = r k

filter-one : (c : Bytes) (names : List Bytes) → has_name c names ≡ true → distinct_names names ≡ true → filter (λ x. bytes_eq x c) names ≡ c ∷ []
filter-one c [] h d = let no : ⊥ = cc in absurd no
filter-one c (y ∷ ys) h d =
    let p = and_parts (not (has_name y ys)) (distinct_names ys) d in
    by-test (bytes_eq y c) refl (bytes_eq c y) refl h p.0 (λ k. filter-one c ys k p.1)
  where
    by-test : (a : Bool) → bytes_eq y c ≡ a → (b : Bool) → bytes_eq c y ≡ b → (b || has_name c ys) ≡ true → not (has_name y ys) ≡ true → (has_name c ys ≡ true → filter (λ x. bytes_eq x c) ys ≡ c ∷ [])
        → cond a (y ∷ filter (λ x. bytes_eq x c) ys) (filter (λ x. bytes_eq x c) ys) ≡ c ∷ []
    by-test true i b j k n r =
        let same : y ≡ c = bytes_same y c i in
        ap (λ (zs : List Bytes). y ∷ zs) (filter-none c ys (ap (λ (z : Bytes). has_name z ys) (sym same) ∙ so-not (has_name y ys) n)) ∙ ap (λ (z : Bytes). z ∷ []) same
      where
        so-not : (q : Bool) → not q ≡ true → q ≡ false
        so-not false z = refl
        so-not true z = let no : ⊥ = cc in absurd no
    by-test false i true j k n r =
        let no : true ≡ false = sym (bytes_eq-itself y) ∙ (ap (bytes_eq y) (sym (bytes_same c y j)) ∙ i) in let wrong : ⊥ = cc in absurd wrong
    by-test false i false j k n r = r k

distinct-fields : (fs : Fields) → no_name_twice (row_type fs) ≡ true → distinct_names (field_names fs) ≡ true
unfolding no_name_twice
distinct-fields fs h = (and_parts (distinct_names (field_names fs)) (no_name_twice_below fs) h).0

asks-its-column : (fs : Fields) (p : Partition Bytes) → IsOfColumn (row_type fs) p → asked_columns (row_type fs) p.expression ≡ p.annotation ∷ []
asks-its-column fs p k =
    let t = row_type fs in
    let c = p.annotation in
    let f = touches t p k in
    let scope = columns-in_scope t p.expression (p.ty, k.typed) f.rowless c (f.column c ∙ bytes_eq-itself c) in
    ap (λ (xs : List Bytes). filter (λ x. has_name x xs) (names_in t)) (asked-own t p.expression (p.ty, k.typed) f.simple f.rowless)
    ∙ (filter-same (λ x. has_name x (columns_in p.expression)) (λ x. bytes_eq x c) (names_in t) f.column ∙ filter-one c (names_in t) scope.0 (distinct-fields fs scope.1))

pub partitions_ask_their_column : PartitionsAskTheirColumn
partitions_ask_their_column fs e u d s h =
    All-from_recursion (AsksItsColumn fs) s.partitions
    (all-map (IsOfColumn (row_type fs)) (AsksItsColumn fs) s.partitions (λ p k. (asks-its-column fs p k, k.typed)) (is-split fs e u d s h).of_columns)

-- a column over other rows
column-same : (fs gs : Fields) (slots : Slots) (row other : Val) (c : Bytes) → no_name_twice (row_type fs) ≡ true → no_name_twice (row_type gs) ≡ true → field_type c gs ≡ field_type c fs
    → field_of c other ≡ field_of c row → Same (row_type fs) (row_type gs) slots row other (get_item c root)
unfolding typed_of mean
column-same fs gs slots row other c h k same value = record {
  typed =
      ap (λ (b : Bool). and_then (unless b duplicate_field (Ok (row_type gs))) (item_type c)) k
      ∙ (ap (λ (o : Option Ty). ok_or (option_map (λ z. widened z NonNullable) o) unknown_field) same
      ∙ sym (ap (λ (b : Bool). and_then (unless b duplicate_field (Ok (row_type fs))) (item_type c)) h));
  means = value;
}

pub stands-alone : (fs gs : Fields) (p : Partition Bytes) → IsOfColumn (row_type fs) p → no_name_twice (row_type gs) ≡ true → StandsAlone fs gs p
stands-alone fs gs p k h same = (typed, λ slots row other value. (meaning slots row other value, λ cause. breaking-same cause slots row other value))
  where
    facts : Touches (row_type fs) p
    facts = touches (row_type fs) p k

    columns : (slots : Slots) (row other : Val) → field_of p.annotation other ≡ field_of p.annotation row → ColumnsSame (row_type fs) (row_type gs) slots row other (columns_in p.expression)
    columns slots row other value =
        λ c i.
        let own : has_name p.annotation (columns_in p.expression) ≡ true = facts.column p.annotation ∙ bytes_eq-itself p.annotation in
        let scope = columns-in_scope (row_type fs) p.expression (p.ty, k.typed) facts.rowless p.annotation own in
        let one : p.annotation ≡ c = sym (bytes_same c p.annotation (sym (facts.column c) ∙ i)) in
        subst (λ (z : Bytes). Same (row_type fs) (row_type gs) slots row other (get_item z root)) one (column-same fs gs slots row other p.annotation scope.1 h same value)

    typed : typed_of (row_type gs) p.expression ≡ Ok p.ty
    typed = (moved (row_type fs) (row_type gs) [] null_val null_val p.expression facts.rowless (columns [] null_val null_val refl)).typed ∙ k.typed

    meaning : (slots : Slots) (row other : Val) → field_of p.annotation other ≡ field_of p.annotation row → mean (row_type gs) slots other p.expression ≡ mean (row_type fs) slots row p.expression
    meaning slots row other value = (moved (row_type fs) (row_type gs) slots row other p.expression facts.rowless (columns slots row other value)).means

    breaking-same : (cause : Cause) (slots : Slots) (row other : Val) → field_of p.annotation other ≡ field_of p.annotation row
        → breaks_along cause (row_type gs) slots other p.expression [] ≡ breaks_along cause (row_type fs) slots row p.expression []
    breaking-same cause slots row other value =
        each-asked (row_type gs) slots other cause p.expression (p.ty, typed) facts.simple facts.rowless
        ∙ (some-agrees (row_type fs) (row_type gs) slots row other cause p.expression facts.rowless (columns slots row other value)
        ∙ sym (each-asked (row_type fs) slots row cause p.expression (p.ty, k.typed) facts.simple facts.rowless))

pub partitions_stand_alone : PartitionsStandAlone
partitions_stand_alone fs e u d s gs h k =
    All-from_recursion (StandsAlone fs gs) s.partitions (all-map (IsOfColumn (row_type fs)) (StandsAlone fs gs) s.partitions (λ p j. stands-alone fs gs p j k) (is-split fs e u d s h).of_columns)
