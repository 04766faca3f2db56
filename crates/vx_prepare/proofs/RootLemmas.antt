-- What the parts of a split expression give over the columns, and the rows that the root is evaluated over.
use Rattle.std.proofs.Common.{◌≡◌, refl, ap, sym, ◌∙◌, ℕ, zero, suc, Bool, true, List, [], ◌∷◌, map, length, Some, None, Result, Ok, Err, subst, All}
use Rattle.std.specs.List.{list_any, slice_get, AllZip}
use Rattle.std.proofs.lemmas.Bool.{or_left, or_right}
use Rattle.std.proofs.lemmas.Option.{same_Some, none-some}
use Rattle.vx_dtype.specs.declared.Nullability.TheVariants.{NonNullable}
use Rattle.vx_dtype.specs.Types.{Bytes, Fields, struct_ty}
use Rattle.vx_dtype.specs.Values.{Val, member}
use Rattle.vx_dtype.specs.Zipped.{zipped}
use Rattle.vx_expr.specs.Trees.{Tree}
use Rattle.vx_column.specs.Columns.{Column, column, row_at}
use Rattle.vx_column.specs.StructColumns.{made_struct, row_members, column_types}
use Rattle.vx_column.specs.declared.columns.ColumnRef.{ColumnRef}
use Rattle.vx_semantics.specs.Tables.{row_type}
use Rattle.vx_semantics.specs.Meaning.{Slots, mean, zip_members}
use Rattle.vx_eval.specs.declared.errors.EvalError.{EvalError}
use Rattle.vx_eval.proofs.StructRows.{struct_made}
use Rattle.vx_passes.specs.Splitting.{Partition, partitions_type}
use Rattle.vx_laws_parts.specs.Recombining.{partitions_row}
use Rattle.vx_laws_columns.specs.Evaluable.{node_breaks_at}
use Rattle.vx_prepare.specs.Parts.{PartGives, AreGiven, SomeRefuses}
use Rattle.vx_prepare.proofs.ListLemmas.{at_mapped, all_first, all_rest}
use Rattle.vx_prepare.proofs.Outcomes.{Outcome}

module _ (fs : Fields) (slots : Slots) (rows : List Val) where
  -- what a part gives at the table's rows
  abbrev pub PartOutcome : Partition Bytes → Result ColumnRef EvalError → Type 0
  PartOutcome p r = Outcome (λ row. mean (row_type fs) slots row p.expression) (λ cause. λ row. node_breaks_at cause (row_type fs) slots row p.expression) p.ty rows r

  -- the columns are what the parts mean
  abbrev pub PartsMade : List (Partition Bytes) → List Column → Type 0
  PartsMade ps cs = AllZip (λ p. λ c. PartOutcome p (Ok c)) ps cs

  members_made : (ps : List (Partition Bytes)) (cs : List Column) → PartsMade ps cs → (i : ℕ) (row : Val) → slice_get rows i ≡ Some row
      → row_members (map (λ p. p.annotation) ps) cs i ≡ zip_members (map (λ p. p.annotation) ps) (map (λ p. mean (row_type fs) slots row p.expression) ps)
  members_made [] cs h i row at = refl
  members_made (p ∷ ps) [] h i row at = absurd h
  members_made (p ∷ ps) (c ∷ cs) h i row at =
      let own = ap (λ vs. row_at (column c.ty vs) i) h.0.1 ∙ at_mapped (λ x. mean (row_type fs) slots x p.expression) rows i row at in
      let behind = members_made ps cs h.1 i row at in
      λ k. member p.annotation (own k) (behind k)

  types_made : (ps : List (Partition Bytes)) (cs : List Column) → PartsMade ps cs → column_types cs ≡ map (λ p. p.ty) ps
  types_made [] [] h = refl
  types_made [] (c ∷ cs) h = absurd h
  types_made (p ∷ ps) [] h = absurd h
  types_made (p ∷ ps) (c ∷ cs) h = λ i. h.0.0 i ∷ types_made ps cs h.1 i

  -- the rows that the root is evaluated over
  pub root_rows : (len : ℕ) → length rows ≡ len → (ps : List (Partition Bytes)) (cs : List Column) → PartsMade ps cs
      → made_struct (map (λ p. p.annotation) ps) cs len None ≡ column (partitions_type (λ c. c) ps) (map (λ row. partitions_row (λ c. c) (row_type fs) slots row ps) rows)
  root_rows len long ps cs h =
      let names = map (λ (p : Partition Bytes). p.annotation) ps in
      let members = λ (row : Val). zip_members names (map (λ (p : Partition Bytes). mean (row_type fs) slots row p.expression) ps) in
      struct_made names cs NonNullable len rows members long (members_made ps cs h)
      ∙ ap (λ ts. column (struct_ty (zipped names ts) NonNullable) (map (λ row. partitions_row (λ c. c) (row_type fs) slots row ps) rows)) (types_made ps cs h)

  module _ (len : ℕ) (names : List Bytes) (columns : List Column) where
    -- whatever a part gives over its column is its outcome
    abbrev pub IsReady : Partition Bytes → Type 0
    IsReady p = (r : Result ColumnRef EvalError) → PartGives len slots names columns p.annotation p.expression r → PartOutcome p r

    pub parts_made : (ps : List (Partition Bytes)) (cs : List Column) → All IsReady ps → AreGiven len slots names columns (map (λ p. p.annotation) ps) (map (λ p. p.expression) ps) cs → PartsMade ps cs
    parts_made [] [] ready h = tt
    parts_made [] (c ∷ cs) ready h = absurd h
    parts_made (p ∷ ps) [] ready h = absurd h
    parts_made (p ∷ ps) (c ∷ cs) ready h = (all_first IsReady p ps ready (Ok c) h.0, parts_made ps cs (all_rest IsReady p ps ready) h.1)

    -- a part that refuses
    pub record RefusingPart (ps : List (Partition Bytes)) (r : EvalError) : Type 0 where
      pub part : Partition Bytes
      pub refuses : PartOutcome part (Err r)
      pub among : (test : Partition Bytes → Bool) → test part ≡ true → list_any test ps ≡ true

    refusing_at : (ps : List (Partition Bytes)) (r : EvalError) → All IsReady ps → (i : ℕ) (a : Bytes) (e : Tree) → slice_get (map (λ (p : Partition Bytes). p.annotation) ps) i ≡ Some a
        → slice_get (map (λ (p : Partition Bytes). p.expression) ps) i ≡ Some e → PartGives len slots names columns a e (Err r) → RefusingPart ps r
    refusing_at [] r ready i a e at here g = absurd (none-some a at)
    refusing_at (p ∷ ps) r ready zero a e at here g =
        let own : PartGives len slots names columns p.annotation p.expression (Err r) =
        subst (λ x. PartGives len slots names columns p.annotation x (Err r)) (sym (same_Some p.expression e here))
        (subst (λ x. PartGives len slots names columns x e (Err r)) (sym (same_Some p.annotation a at)) g) in
        record { part = p; refuses = all_first IsReady p ps ready (Err r) own; among = λ test h. or_left (test p) (list_any test ps) h }
    refusing_at (p ∷ ps) r ready (suc i) a e at here g =
        let behind = refusing_at ps r (all_rest IsReady p ps ready) i a e at here g in
        record { part = behind.part; refuses = behind.refuses; among = λ test h. or_right (test p) (list_any test ps) (behind.among test h) }

    pub refusing_part : (ps : List (Partition Bytes)) (r : EvalError) → All IsReady ps
        → SomeRefuses len slots names columns (map (λ p. p.annotation) ps) (map (λ p. p.expression) ps) r → RefusingPart ps r
    refusing_part ps r ready h = refusing_at ps r ready h.0 h.1 h.2 h.3 h.4 h.5
