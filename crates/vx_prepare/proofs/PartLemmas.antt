-- What a part gives over the rows of its column alone: what it means, and where it breaks, at the table's rows.
use Rattle.std.proofs.Common.{◌≡◌, refl, ap, ◌∙◌, ℕ, true, cond, List, [], ◌∷◌, map, length, Some, None, Result, unwrap_or, subst}
use Rattle.std.proofs.lemmas.Slice.Eq.{bytes_eq-Decides}
use Rattle.vx_dtype.specs.declared.Nullability.TheVariants.{NonNullable}
use Rattle.vx_dtype.specs.Types.{Bytes, Fields, no_fields, field}
use Rattle.vx_dtype.specs.TypeRules.{field_type}
use Rattle.vx_dtype.specs.Values.{Val, struct_val, fault, no_members, member}
use Rattle.vx_dtype.specs.Structs.{field_of, member_named}
use Rattle.vx_column.specs.Columns.{Column, column, row_at}
use Rattle.vx_column.specs.StructColumns.{made_struct}
use Rattle.vx_column.specs.declared.columns.ColumnRef.{ColumnRef}
use Rattle.vx_semantics.specs.Tables.{row_type}
use Rattle.vx_semantics.specs.Slots.{slots_fit}
use Rattle.vx_semantics.specs.Meaning.{Slots, mean}
use Rattle.vx_eval.specs.declared.errors.EvalError.{EvalError}
use Rattle.vx_eval.proofs.StructRows.{struct_made}
use Rattle.vx_passes.specs.Splitting.{Partition}
use Rattle.vx_laws_columns.specs.Columns.{StandsAlone}
use Rattle.vx_laws_columns.specs.Evaluable.{node_breaks_at, NodesStandAlone}
use Rattle.vx_prepare.specs.Parts.{GivenBy}
use Rattle.vx_prepare.proofs.ListLemmas.{at_mapped}
use Rattle.vx_prepare.proofs.Outcomes.{Outcome, outcome, carried}

-- a row of one column
single : Bytes → Val → Val
single a row = struct_val (member a (field_of a row) no_members)

same_field : (a : Bytes) (row : Val) → field_of a (single a row) ≡ field_of a row
unfolding single
same_field a row = ap (λ b. unwrap_or (cond b (Some (field_of a row)) (member_named a no_members)) fault) ((bytes_eq-Decides a a).1 refl)

-- the fields of such rows
abbrev pub single_field : Bytes → Column → Fields
single_field a c = field a c.ty no_fields

-- the rows of a column alone
singles : (a : Bytes) (c : Column) (len : ℕ) (rows : List Val) → length rows ≡ len → c.rows ≡ map (field_of a) rows → made_struct (a ∷ []) (c ∷ []) len None ≡ column (row_type (single_field a c)) (map (single a) rows)
unfolding single
singles a c len rows long own =
    struct_made (a ∷ []) (c ∷ []) NonNullable len rows (λ row. member a (field_of a row) no_members) long
    (λ i row at. ap (λ v. member a v no_members) (ap (λ vs. row_at (column c.ty vs) i) own ∙ at_mapped (field_of a) rows i row at))

module _ (fs : Fields) (slots : Slots) (p : Partition Bytes) (c : Column) (len : ℕ) (rows : List Val) (alone : StandsAlone fs (single_field p.annotation c) p)
    (nodes : NodesStandAlone fs (single_field p.annotation c) p) (same : field_type p.annotation (single_field p.annotation c) ≡ field_type p.annotation fs)
    (fit : slots_fit slots p.expression ≡ true) (long : length rows ≡ len) (own : c.rows ≡ map (field_of p.annotation) rows) where
  pub part_outcome : (r : Result ColumnRef EvalError) → GivenBy slots (made_struct (p.annotation ∷ []) (c ∷ []) len None) p.expression r
      → Outcome (λ row. mean (row_type fs) slots row p.expression) (λ cause. λ row. node_breaks_at cause (row_type fs) slots row p.expression) p.ty rows r
  part_outcome r g =
      let gs = single_field p.annotation c in
      let one = single p.annotation in
      let known = alone same in
      let over : GivenBy slots (column (row_type gs) (map one rows)) p.expression r = subst (λ x. GivenBy slots x p.expression r) (singles p.annotation c len rows long own) g in
      carried one (λ row. mean (row_type gs) slots row p.expression) (λ row. mean (row_type fs) slots row p.expression)
      (λ cause. λ row. node_breaks_at cause (row_type gs) slots row p.expression) (λ cause. λ row. node_breaks_at cause (row_type fs) slots row p.expression) p.ty rows r
      (λ row. (known.1 slots row (one row) (same_field p.annotation row)).0)
      (λ cause row. nodes same slots row (one row) (same_field p.annotation row) cause)
      (outcome (row_type gs) slots (map one rows) p.expression p.ty known.0 fit r over)
