-- What a split expression gives over the columns of a table, by the laws of such splits.
use Rattle.std.proofs.Common.{◌≡◌, refl, ap, sym, ◌∙◌, ℕ, Bool, true, false, cond, ◌||◌, ◌&&◌, List, [], ◌∷◌, map, Option, Some, None, is_some, Result, Ok, Err, subst, All, get_or, inl, inr}
use Rattle.std.specs.List.{list_any}
use Rattle.std.specs.Cmp.{first_so, second_so}
use Rattle.std.specs.Str.{bytes_eq}
use Rattle.std.proofs.lemmas.Slice.Eq.{bytes_eq-Decides}
use Rattle.std.proofs.lemmas.Bool.{or_right}
use Rattle.std.proofs.lemmas.Option.{same_Some, none-some}
use Rattle.vx_dtype.specs.Types.{Bytes, Ty, Fields, no_fields, field}
use Rattle.vx_dtype.specs.TypeRules.{field_type, field_names, distinct_names, no_name_twice, no_name_twice_below}
use Rattle.vx_dtype.specs.Values.{Val}
use Rattle.vx_dtype.specs.Fits.{val_fits, fits_but_for_faults}
use Rattle.vx_dtype.specs.Structs.{field_of}
use Rattle.vx_expr.specs.Trees.{Tree}
use Rattle.vx_column.specs.Columns.{Column, column, rows_fit}
use Rattle.vx_column.specs.StructColumns.{made_struct}
use Rattle.vx_column.specs.declared.columns.ColumnRef.{ColumnRef}
use Rattle.vx_semantics.specs.Tables.{row_type}
use Rattle.vx_semantics.specs.Slots.{slots_fit}
use Rattle.vx_semantics.specs.Meaning.{Slots, mean}
use Rattle.vx_semantics.specs.Breaks.{Cause, by_sum, by_cast, is_cause, break_of, breaks, breaks_by}
use Rattle.vx_semantics.specs.Asked.{asked_nodes, some_asked_breaks}
use Rattle.vx_eval.specs.declared.errors.EvalError.{EvalError}
use Rattle.vx_eval.specs.declared.errors.EvalError.TheVariants.{NoMemory, Typing, Overflow, BadCast}
use Rattle.vx_passes.specs.Splitting.{Partition, Split, partitions_type}
use Rattle.vx_partition.specs.Splits.{in_columns}
use Rattle.vx_laws_simplifying.specs.Narrowing.{narrows}
use Rattle.vx_laws_parts.specs.Recombining.{partitions_row}
use Rattle.vx_laws_columns.specs.Columns.{SplitByColumns, PartitionsStandAlone, ColumnsRecombine}
use Rattle.vx_laws_columns.specs.Evaluable.{node_breaks_at, split_nodes_break, RootIsTyped, NodesBreakAsAsked, PartitionNodesStandAlone, SplitSlotsFit}
use Rattle.vx_prepare.specs.Parts.{GivenBy, RefusesAtPart, RootGives, SplitGives}
use Rattle.vx_prepare.specs.Preparing.{IsOf, AreOf, HaveColumns, asked_breaks_by, EvaluatesAsked}
use Rattle.vx_prepare.proofs.ListLemmas.{any_or, any_same, any_swap}
use Rattle.vx_prepare.proofs.Outcomes.{Outcome, outcome, carried}
use Rattle.vx_prepare.proofs.Lookups.{under_name}
use Rattle.vx_prepare.proofs.PartLemmas.{single_field, part_outcome}
use Rattle.vx_prepare.proofs.RootLemmas.{PartsMade, IsReady, root_rows, parts_made, refusing_part}

-- the laws of splits by columns that are cited
pub record Laws : Type 0 where
  pub stand_alone : PartitionsStandAlone
  pub nodes_alone : PartitionNodesStandAlone
  pub recombine : ColumnsRecombine
  pub root_typed : RootIsTyped
  pub nodes_break : NodesBreakAsAsked
  pub slots : SplitSlotsFit
  pub fits : (v : Val) (t : Ty) → val_fits v t ≡ true → fits_but_for_faults v t ≡ true

-- ---- names of one column

field_by : (w t : Ty) (rest : Option Ty) (b : Bool) → cond b (Some w) rest ≡ Some t → no_name_twice w ≡ true → (rest ≡ Some t → no_name_twice t ≡ true) → no_name_twice t ≡ true
field_by w t rest true e own behind = subst (λ x. no_name_twice x ≡ true) (same_Some w t e) own
field_by w t rest false e own behind = behind e

field_distinct : (fs : Fields) (a : Bytes) (t : Ty) → no_name_twice_below fs ≡ true → field_type a fs ≡ Some t → no_name_twice t ≡ true
unfolding no_name_twice
field_distinct no_fields a t h at = absurd (none-some t at)
field_distinct (field g w fs) a t h at =
    field_by w t (field_type a fs) (bytes_eq a g) at (first_so (no_name_twice w) (no_name_twice_below fs) h) (field_distinct fs a t (second_so (no_name_twice w) (no_name_twice_below fs) h))

single_distinct : (fs : Fields) (a : Bytes) (c : Column) → no_name_twice (row_type fs) ≡ true → field_type a fs ≡ Some c.ty → no_name_twice (row_type (single_field a c)) ≡ true
unfolding no_name_twice
single_distinct fs a c h at =
    ap (λ b. b && true) (field_distinct fs a c.ty (second_so (distinct_names (field_names fs)) (no_name_twice_below fs) h) at)

-- ---- rows that fit

any_fit : (t : Ty) (f g : Val → Bool) → ((row : Val) → val_fits row t ≡ true → f row ≡ g row) → (rows : List Val) → rows_fit t rows ≡ true → list_any f rows ≡ list_any g rows
any_fit t f g same [] h = refl
any_fit t f g same (row ∷ rows) h =
    let own = same row (first_so (val_fits row t) (rows_fit t rows) h) in
    let behind = any_fit t f g same rows (second_so (val_fits row t) (rows_fit t rows) h) in
    λ i. own i || behind i

map_fit : (t : Ty) (f g : Val → Val) → ((row : Val) → val_fits row t ≡ true → f row ≡ g row) → (rows : List Val) → rows_fit t rows ≡ true → map f rows ≡ map g rows
map_fit t f g same [] h = refl
map_fit t f g same (row ∷ rows) h =
    let own = same row (first_so (val_fits row t) (rows_fit t rows) h) in
    let behind = map_fit t f g same rows (second_so (val_fits row t) (rows_fit t rows) h) in
    λ i. own i ∷ behind i

-- ---- both causes

some_cause : (c : Option Cause) → is_some c ≡ (is_cause by_sum c || is_cause by_cast c)
some_cause None = refl
some_cause (Some by_sum) = refl
some_cause (Some by_cast) = refl

asked_by_cause : (t : Ty) (slots : Slots) (e : Tree) (rows : List Val) → list_any (λ row. some_asked_breaks t slots row e) rows ≡ (asked_breaks_by by_sum t slots e rows || asked_breaks_by by_cast t slots e rows)
asked_by_cause t slots e rows =
    any_same (λ row. some_asked_breaks t slots row e) (λ row. list_any (breaks_by by_sum t slots row) (asked_nodes t e) || list_any (breaks_by by_cast t slots row) (asked_nodes t e))
    (λ row. any_same (breaks t slots row) (λ n. breaks_by by_sum t slots row n || breaks_by by_cast t slots row n) (λ n. some_cause (break_of t slots row n)) (asked_nodes t e)
    ∙ any_or (breaks_by by_sum t slots row) (breaks_by by_cast t slots row) (asked_nodes t e)) rows
    ∙ any_or (λ row. list_any (breaks_by by_sum t slots row) (asked_nodes t e)) (λ row. list_any (breaks_by by_cast t slots row) (asked_nodes t e)) rows

module _ (laws : Laws) (fs : Fields) (slots : Slots) (e : Tree) (u : Ty) (d : Tree) (s : Split Bytes) (splits : SplitByColumns fs e u d s) (fit : slots_fit slots e ≡ true)
    (distinct : no_name_twice (row_type fs) ≡ true) (len : ℕ) (names : List Bytes) (columns : List Column) (are : AreOf fs len names columns)
    (rows : List Val) (have : HaveColumns fs len names columns rows) where
  -- ---- the parts

  ready : All (IsReady fs slots rows len names columns) s.partitions
  ready k other below r g =
      let p = get_or s.partitions k other in
      let c = g.0 in
      let is : IsOf fs len p.annotation c = under_name (IsOf fs len) p.annotation names columns c are g.1 in
      let own : c.rows ≡ map (field_of p.annotation) rows = under_name (λ name. λ (x : Column). x.rows ≡ map (field_of name) rows) p.annotation names columns c have.each g.1 in
      let gs = single_field p.annotation c in
      let here : field_type p.annotation gs ≡ Some c.ty = ap (λ b. cond b (Some c.ty) None) ((bytes_eq-Decides p.annotation p.annotation).1 refl) in
      let once : no_name_twice (row_type gs) ≡ true = single_distinct fs p.annotation c distinct is.0 in
      part_outcome fs slots p c len rows (laws.stand_alone fs e u d s gs splits once k other below) (laws.nodes_alone fs e u d s gs splits once k other below)
      (here ∙ sym is.0) ((laws.slots fs slots e u d s splits fit).0 k other below) have.long own r g.2

  -- ---- where a node breaks

  abbrev root_breaks : Cause → Val → Bool
  root_breaks cause row = node_breaks_at cause (partitions_type (λ c. c) s.partitions) slots (partitions_row (λ c. c) (row_type fs) slots row s.partitions) s.root_expression

  abbrev part_breaks : Cause → Partition Bytes → Bool
  part_breaks cause p = list_any (λ row. node_breaks_at cause (row_type fs) slots row p.expression) rows

  asked_split : (cause : Cause) → asked_breaks_by cause (row_type fs) slots e rows ≡ (list_any (part_breaks cause) s.partitions || list_any (root_breaks cause) rows)
  asked_split cause =
      sym (any_fit (row_type fs) (λ row. split_nodes_break cause (row_type fs) slots row s) (λ row. list_any (breaks_by cause (row_type fs) slots row) (asked_nodes (row_type fs) e))
      (λ row fits. laws.nodes_break fs slots row e u d s cause splits (laws.fits row (row_type fs) fits)) rows have.fit)
      ∙ any_or (λ row. list_any (λ (p : Partition Bytes). node_breaks_at cause (row_type fs) slots row p.expression) s.partitions) (root_breaks cause) rows
      ∙ ap (λ b. b || list_any (root_breaks cause) rows) (any_swap (λ row. λ (p : Partition Bytes). node_breaks_at cause (row_type fs) slots row p.expression) rows s.partitions)

  none_broken : (ps : List (Partition Bytes)) (cs : List Column) → PartsMade fs slots rows ps cs → (cause : Cause) → list_any (part_breaks cause) ps ≡ false
  none_broken [] cs h cause = refl
  none_broken (p ∷ ps) [] h cause = absurd h
  none_broken (p ∷ ps) (c ∷ cs) h cause = ap (λ b. b || list_any (part_breaks cause) ps) (h.0.2 cause) ∙ none_broken ps cs h.1 cause

  -- ---- the root

  root_outcome : (cs : List Column) → PartsMade fs slots rows s.partitions cs → (r : Result ColumnRef EvalError)
      → GivenBy slots (made_struct (map (λ (p : Partition Bytes). p.annotation) s.partitions) cs len None) s.root_expression r
      → Outcome (λ row. mean (partitions_type (λ c. c) s.partitions) slots (partitions_row (λ c. c) (row_type fs) slots row s.partitions) s.root_expression) root_breaks
      (laws.root_typed fs e u d s splits).0 rows r
  root_outcome cs made r g =
      let t = partitions_type (λ c. c) s.partitions in
      let typed = laws.root_typed fs e u d s splits in
      let row_of = λ (row : Val). partitions_row (λ c. c) (row_type fs) slots row s.partitions in
      let over : GivenBy slots (column t (map row_of rows)) s.root_expression r = subst (λ x. GivenBy slots x s.root_expression r) (root_rows fs slots rows len have.long s.partitions cs made) g in
      carried row_of (λ row. mean t slots row s.root_expression) (λ row. mean t slots (row_of row) s.root_expression)
      (λ cause. λ row. node_breaks_at cause t slots row s.root_expression) (λ cause. λ row. node_breaks_at cause t slots (row_of row) s.root_expression) typed.0 rows r
      (λ row. refl) (λ cause row. refl)
      (outcome t slots (map row_of rows) s.root_expression typed.0 typed.1 (laws.slots fs slots e u d s splits fit).1 r over)

  -- ---- together

  both_false : (cause : Cause) (a b : Bool) → asked_breaks_by cause (row_type fs) slots e rows ≡ (a || b) → a ≡ false → b ≡ false → asked_breaks_by cause (row_type fs) slots e rows ≡ false
  both_false cause a b is h k = is ∙ ap (λ x. x || b) h ∙ k

  by_root : (cs : List Column) → PartsMade fs slots rows s.partitions cs → (r : Result ColumnRef EvalError)
      → Outcome (λ row. mean (partitions_type (λ c. c) s.partitions) slots (partitions_row (λ c. c) (row_type fs) slots row s.partitions) s.root_expression) root_breaks
      (laws.root_typed fs e u d s splits).0 rows r → EvaluatesAsked fs slots e u rows r
  by_root cs made (Ok c) o =
      let typed = laws.root_typed fs e u d s splits in
      let narrow : narrows c.ty u ≡ true = ap (λ x. narrows x u) o.0 ∙ typed.2 in
      let means = o.1 ∙ map_fit (row_type fs) (λ row. mean (partitions_type (λ c. c) s.partitions) slots (partitions_row (λ c. c) (row_type fs) slots row s.partitions) s.root_expression)
      (λ row. mean (row_type fs) slots row e) (λ row fits. laws.recombine fs slots row e u d s splits (laws.fits row (row_type fs) fits)) rows have.fit in
      let quiet = λ (cause : Cause). both_false cause (list_any (part_breaks cause) s.partitions) (list_any (root_breaks cause) rows) (asked_split cause) (none_broken s.partitions cs made cause) (o.2 cause) in
      let none = asked_by_cause (row_type fs) slots e rows ∙ ap (λ b. b || asked_breaks_by by_cast (row_type fs) slots e rows) (quiet by_sum) ∙ quiet by_cast in
      (narrow, means, none)
  by_root cs made (Err Overflow) o = asked_split by_sum ∙ or_right (list_any (part_breaks by_sum) s.partitions) (list_any (root_breaks by_sum) rows) o
  by_root cs made (Err BadCast) o = asked_split by_cast ∙ or_right (list_any (part_breaks by_cast) s.partitions) (list_any (root_breaks by_cast) rows) o
  by_root cs made (Err NoMemory) o = tt
  by_root cs made (Err (Typing r)) o = absurd o

  from_root : (r : Result ColumnRef EvalError) → RootGives len slots names columns (in_columns (λ c. c) s) r → EvaluatesAsked fs slots e u rows r
  from_root r g =
      let made = parts_made fs slots rows len names columns s.partitions g.0 ready g.1 in
      by_root g.0 made r (root_outcome g.0 made r g.2)

  from_part : (r : EvalError) → RefusesAtPart len slots names columns (map (λ (p : Partition Bytes). p.annotation) s.partitions) (map (λ (p : Partition Bytes). p.expression) s.partitions) r
      → EvaluatesAsked fs slots e u rows (Err r)
  from_part NoMemory g = tt
  from_part Overflow g =
      let found = refusing_part fs slots rows len names columns s.partitions Overflow ready g in
      asked_split by_sum ∙ ap (λ b. b || list_any (root_breaks by_sum) rows) (found.among (part_breaks by_sum) found.refuses)
  from_part BadCast g =
      let found = refusing_part fs slots rows len names columns s.partitions BadCast ready g in
      asked_split by_cast ∙ ap (λ b. b || list_any (root_breaks by_cast) rows) (found.among (part_breaks by_cast) found.refuses)
  from_part (Typing r) g = absurd (refusing_part fs slots rows len names columns s.partitions (Typing r) ready g).refuses

  pub split_evaluates : (r : Result ColumnRef EvalError) → SplitGives len slots names columns (in_columns (λ c. c) s) r → EvaluatesAsked fs slots e u rows r
  split_evaluates (Ok c) g = from_root (Ok c) g
  split_evaluates (Err r) (inl g) = from_part r g
  split_evaluates (Err r) (inr g) = from_root (Err r) g
