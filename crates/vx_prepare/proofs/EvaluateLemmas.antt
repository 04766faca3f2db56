-- What a prepared expression gives over the columns that it asks.
use Rattle.std.proofs.Common.{◌≡◌, refl, ap, sym, ◌∙◌, ℕ, true, List, [], ◌∷◌, map, length, Result, Ok, Err, IfOk, subst, All, arith}
use Rattle.vx_dtype.specs.Types.{Bytes, Ty, Fields}
use Rattle.vx_dtype.specs.TypeRules.{distinct_names, no_name_twice}
use Rattle.vx_dtype.specs.TypeViews.{type_view}
use Rattle.vx_dtype.specs.Values.{Val}
use Rattle.vx_expr.specs.Trees.{Tree}
use Rattle.vx_column.specs.Columns.{Column, column}
use Rattle.vx_column.specs.declared.columns.ColumnRef.{ColumnRef}
use Rattle.vx_semantics.specs.Tables.{row_type}
use Rattle.vx_semantics.specs.Meaning.{Slots, mean}
use Rattle.vx_semantics.specs.Asked.{asked_nodes}
use Rattle.vx_eval.specs.declared.errors.EvalError.{EvalError}
use Rattle.vx_passes.specs.Splitting.{Partition}
use Rattle.vx_partition.specs.Splits.{split_view}
use Rattle.vx_laws.proofs.Distinct.{typed-distinct}
use Rattle.vx_laws_simplifying.specs.Narrowing.{no_more_nullable, narrows}
use Rattle.vx_laws_simplifying.proofs.Narrows.{narrowing, narrow-narrows}
use Rattle.vx_laws_simplifying.proofs.Under.{under-own}
use Rattle.vx_laws_columns.proofs.ByColumn.{partitions_of_asked_columns}
use Rattle.vx_laws_columns.proofs.DistinctParts.{partitions_are_distinct}
use Rattle.vx_prepare.specs.Parts.{columns_fit, IsHeld, SplitGives}
use Rattle.vx_prepare.specs.Preparing.{IsPrepared, AreOf, HaveColumns, CanBeOver, EvaluatesAsked, HasCauseIn}
use Rattle.vx_prepare.specs.declared.prepared.PreparedExpr.{PreparedExpr}
use Rattle.vx_prepare.proofs.ListLemmas.{length_mapped}
use Rattle.vx_prepare.proofs.ColumnLemmas.{parts_held, asked_once}
use Rattle.vx_prepare.proofs.CauseLemmas.{cause_in}
use Rattle.vx_prepare.proofs.SplitLemmas.{split_evaluates}
use Rattle.vx_prepare.proofs.TableLemmas.{table_rows}
use Rattle.vx_prepare.proofs.PrepareLemmas.{checked_fits, checked_typed}
use Rattle.vx_prepare.proofs.Laws.{laws}

-- ---- what the parts ask of the columns

module _ (slots : Slots) (p : PreparedExpr) (len : ℕ) (columns : List Column) (can : CanBeOver slots p len columns) where
  pub parts_long : length p.split.partitions.items ≡ length p.split.partition_annotations.items
  parts_long =
      let ps = can.prepared.parts.partitions in
      ap (λ v. length v.expressions) can.prepared.held ∙ length_mapped (λ (x : Partition Bytes). x.expression) ps
      ∙ sym (length_mapped (λ (x : Partition Bytes). x.annotation) ps) ∙ sym (ap (λ v. length v.annotations) can.prepared.held)

  pub names_long : length p.split.partition_names ≡ length p.split.partitions.items
  names_long =
      let ps = can.prepared.parts.partitions in
      ap (λ v. length v.names) can.prepared.held ∙ length_mapped (λ (x : Partition Bytes). x.annotation) ps
      ∙ sym (length_mapped (λ (x : Partition Bytes). x.expression) ps) ∙ sym (ap (λ v. length v.expressions) can.prepared.held)

  pub names_once : distinct_names p.split.partition_names ≡ true
  names_once =
      let is = can.prepared in
      ap (λ v. distinct_names v.names) is.held ∙ (partitions_are_distinct can.fields can.expression (type_view p.dtype) is.simplified is.parts is.splits).0

  pub columns_held : All (IsHeld len p.columns columns) p.split.partition_annotations.items
  columns_held =
      let is = can.prepared in
      let own = subst (λ names. AreOf can.fields len names columns) is.columns can.own in
      let held = parts_held partitions_of_asked_columns can.fields can.expression (type_view p.dtype) is.simplified is.parts is.splits len columns own in
      let named = subst (λ names. All (IsHeld len names columns) (map (λ (x : Partition Bytes). x.annotation) is.parts.partitions)) (sym is.columns) held in
      subst (λ as_given. All (IsHeld len p.columns columns) as_given) (sym (ap (λ v. v.annotations) is.held)) named

  -- in the expression's type no name stands twice
  pub dtype_once : no_name_twice (type_view p.dtype) ≡ true
  dtype_once =
      let t = row_type can.fields in
      let e = can.expression in
      typed-distinct t e (type_view p.dtype) (checked_typed t slots e (type_view p.dtype) can.prepared.typed)

-- ---- what it gives

-- a type is no more nullable than itself
pub narrows-own : (u : Ty) → narrows u u ≡ true
narrows-own u = narrow-narrows u u (under-own no_more_nullable narrowing u)

length_told : (fs : Fields) (slots : Slots) (e : Tree) (u : Ty) (rows : List Val) (len : ℕ) (r : Result ColumnRef EvalError) → length rows ≡ len → EvaluatesAsked fs slots e u rows r → IfOk r (λ c. length c.rows ≡ len)
length_told fs slots e u rows len (Ok c) long h = ap length h.1 ∙ length_mapped (λ row. mean (row_type fs) slots row e) rows ∙ long
length_told fs slots e u rows len (Err r) long h = tt

type_told : (fs : Fields) (slots : Slots) (e : Tree) (u : Ty) (rows : List Val) (r : Result ColumnRef EvalError) → EvaluatesAsked fs slots e u rows r → IfOk r (λ c. narrows c.ty u ≡ true)
type_told fs slots e u rows (Ok c) h = h.0
type_told fs slots e u rows (Err r) h = tt

-- over no rows, and their type is the expression's
pub none_evaluated : (fs : Fields) (slots : Slots) (e : Tree) (u : Ty) (rows : List Val) (c : ColumnRef) → c ≡ column u [] → length rows ≡ 0 → EvaluatesAsked fs slots e u rows (Ok c)
none_evaluated fs slots e u [] c is none = (ap (λ (d : ColumnRef). narrows d.ty u) is ∙ narrows-own u, ap (λ (d : ColumnRef). d.rows) is, refl)
none_evaluated fs slots e u (v ∷ rows) c is none = absurd (omega (arith, none))

-- the rows of which columns are
pub rows_held : (fs : Fields) (slots : Slots) (e : Tree) (p : PreparedExpr) (len : ℕ) (columns : List Column) → columns_fit columns ≡ true → IsPrepared fs slots e p → no_name_twice (row_type fs) ≡ true
    → AreOf fs len p.columns columns → (rows : List Val) × HaveColumns fs len p.columns columns rows
rows_held fs slots e p len columns fit is distinct are = table_rows fs len p.columns columns are fit distinct (ap distinct_names is.columns ∙ asked_once fs e distinct)

module _ (slots : Slots) (p : PreparedExpr) (len : ℕ) (columns : List Column) (r : Result ColumnRef EvalError) (fit : columns_fit columns ≡ true) (gives : SplitGives len slots p.columns columns (split_view p.split) r) where
  pub known : (fs : Fields) (e : Tree) → IsPrepared fs slots e p → no_name_twice (row_type fs) ≡ true → AreOf fs len p.columns columns
      → (rows : List Val) → HaveColumns fs len p.columns columns rows → EvaluatesAsked fs slots e (type_view p.dtype) rows r
  known fs e is distinct are rows have =
      split_evaluates laws fs slots e (type_view p.dtype) is.simplified is.parts is.splits (checked_fits (row_type fs) slots e (type_view p.dtype) is.typed) distinct len p.columns columns are rows have r
      (subst (λ v. SplitGives len slots p.columns columns v r) is.held gives)

  pub some_rows : (fs : Fields) (e : Tree) → IsPrepared fs slots e p → no_name_twice (row_type fs) ≡ true → AreOf fs len p.columns columns
      → (rows : List Val) × HaveColumns fs len p.columns columns rows
  some_rows fs e is distinct are = rows_held fs slots e p len columns fit is distinct are

  pub causes : (fs : Fields) (e : Tree) → IsPrepared fs slots e p → no_name_twice (row_type fs) ≡ true → AreOf fs len p.columns columns → HasCauseIn (asked_nodes (row_type fs) e) r
  causes fs e is distinct are =
      let some = some_rows fs e is distinct are in
      cause_in fs slots e (type_view p.dtype) some.0 r (known fs e is distinct are some.0 some.1)

  module _ (can : CanBeOver slots p len columns) where
    pub long : IfOk r (λ c. length c.rows ≡ len)
    long =
        let some = some_rows can.fields can.expression can.prepared can.distinct can.own in
        length_told can.fields slots can.expression (type_view p.dtype) some.0 len r some.1.long (known can.fields can.expression can.prepared can.distinct can.own some.0 some.1)

    pub narrow : IfOk r (λ c. narrows c.ty (type_view p.dtype) ≡ true)
    narrow =
        let some = some_rows can.fields can.expression can.prepared can.distinct can.own in
        type_told can.fields slots can.expression (type_view p.dtype) some.0 r (known can.fields can.expression can.prepared can.distinct can.own some.0 some.1)
