-- Columns of what expressions mean, and the struct of them.
use Rattle.std.proofs.Common.{◌≡◌, refl, ap, sym, subst, ◌∙◌, ℕ, ◌==◌, Bool, true, false, List, [], ◌∷◌, map, length, Some, Ok, Err}
use Rattle.std.specs.Prelude.{is_ok}
use Rattle.std.specs.List.{slice_get}
use Rattle.std.specs.Cmp.{unsigned_Decides}
use Rattle.std.proofs.Math.ListN.{get_or}
use Rattle.std.proofs.lemmas.Bool.{and_from}
use Rattle.std.proofs.lemmas.List.{length-map, get_or-map}
use Rattle.std.proofs.lemmas.Option.{slice_get_within, get_or_from_slice_get}
use Rattle.vx_dtype.specs.declared.Nullability.{Nullability}
use Rattle.vx_dtype.specs.Types.{Bytes, Ty, struct_ty}
use Rattle.vx_dtype.specs.TypeRules.{distinct_names}
use Rattle.vx_dtype.specs.Values.{Val, null_val, member}
use Rattle.vx_dtype.specs.Zipped.{zipped}
use Rattle.vx_expr.specs.Trees.{Tree, pack, Trees, no_trees, tree}
use Rattle.vx_column.specs.Columns.{Column, column, row_at}
use Rattle.vx_column.specs.Answers.{AnswersColumn, unless}
use Rattle.vx_column.specs.StructColumns.{column_types, all_have_rows, row_members, struct_column}
use Rattle.vx_column.specs.declared.errors.ColumnError.{ColumnError}
use Rattle.vx_column.specs.declared.errors.ColumnError.TheVariants.{WrongLength, DuplicateField}
use Rattle.vx_semantics.specs.Typing.{duplicate_field, type_mismatch, unless as unless_typed, pack_type}
use Rattle.vx_semantics.specs.Meaning.{Slots, mean, meanings, zip_members}
use Rattle.vx_eval.specs.Failures.{failure_of}
use Rattle.vx_eval.specs.Meant.{AreMeant}
use Rattle.vx_eval.specs.Steps.{Makes}
use Rattle.vx_eval.specs.WholeStructs.{all_valid}
use Rattle.vx_eval.proofs.FailureLemmas.{fails_as, fails_not}
use Rattle.vx_eval.proofs.StructRows.{struct_told, struct_made}

-- the value of a column at a row is what the expression means there
pub value_meant : (t : Ty) (slots : Slots) (rows : List Val) (e : Tree) (c : Column) (i : ℕ) (row : Val) → slice_get rows i ≡ Some row → c.rows ≡ map (λ r. mean t slots r e) rows
    → row_at c i ≡ mean t slots row e
value_meant t slots rows e c i row at h =
    ap (λ vs. get_or vs i null_val) h ∙ get_or-map (λ r. mean t slots r e) rows i row null_val (slice_get_within rows i row at)
    ∙ ap (λ r. mean t slots r e) (get_or_from_slice_get rows i row row at)

-- each column has the rows
pub meant_have_rows : (t : Ty) (slots : Slots) (rows : List Val) (es : Trees) (cs : List Column) (n : ℕ) → length rows ≡ n → AreMeant t slots rows es cs → all_have_rows n cs ≡ true
meant_have_rows t slots rows no_trees [] n len h = refl
meant_have_rows t slots rows no_trees (c ∷ cs) n len h = absurd h
meant_have_rows t slots rows (tree e es) [] n len h = absurd h
meant_have_rows t slots rows (tree e es) (c ∷ cs) n len h =
    and_from (length c.rows == n) (all_have_rows n cs) ((unsigned_Decides (length c.rows) n).1 (ap length h.1 ∙ length-map rows (λ r. mean t slots r e) ∙ len))
    (meant_have_rows t slots rows es cs n len h.2)

members_meant : (t : Ty) (slots : Slots) (rows : List Val) (es : Trees) (cs : List Column) → AreMeant t slots rows es cs → (i : ℕ) (row : Val) → slice_get rows i ≡ Some row
    → (names : List Bytes) → row_members names cs i ≡ zip_members names (meanings t slots row es)
unfolding mean
members_meant t slots rows es cs h i row at [] = refl
members_meant t slots rows no_trees [] h i row at (f ∷ names) = refl
members_meant t slots rows no_trees (c ∷ cs) h i row at (f ∷ names) = absurd h
members_meant t slots rows (tree e es) [] h i row at (f ∷ names) = absurd h
members_meant t slots rows (tree e es) (c ∷ cs) h i row at (f ∷ names) =
    λ j. member f (value_meant t slots rows e c i row at h.1 j) (members_meant t slots rows es cs h.2 i row at names j)

pack_told : (names : List Bytes) (m : Nullability) (cs : List Column)
    → pack_type names m (column_types cs)
    ≡ unless_typed (distinct_names names) duplicate_field (unless_typed (length names == length cs) type_mismatch (Ok (struct_ty (zipped names (column_types cs)) m)))
pack_told names m cs =
    ap (λ k. unless_typed (distinct_names names) duplicate_field (unless_typed (length names == k) type_mismatch (Ok (struct_ty (zipped names (column_types cs)) m)))) (length-map cs (λ c. c.ty))

module _ (names : List Bytes) (m : Nullability) (cs : List Column) (n : ℕ) (t : Ty) (slots : Slots) (rows : List Val) (es : Trees) (len : length rows ≡ n) (meant : AreMeant t slots rows es cs) where
  abbrev packed_rows : List Val
  packed_rows = map (λ row. mean t slots row (pack names es m)) rows

  abbrev packed : Column
  packed = column (struct_ty (zipped names (column_types cs)) m) packed_rows

  packed_told : struct_column names cs n (all_valid m n) ≡ unless (length names == length cs) WrongLength (unless (distinct_names names) DuplicateField (Ok packed))
  unfolding mean
  packed_told =
      struct_told names cs m n (meant_have_rows t slots rows es cs n len meant)
      ∙ ap (λ c. unless (length names == length cs) WrongLength (unless (distinct_names names) DuplicateField (Ok c)))
      (struct_made names cs m n rows (λ row. zip_members names (meanings t slots row es)) len (λ i row at. members_meant t slots rows es cs meant i row at names))

  packed_by : (b d : Bool) (c : Column) → (length names == length cs) ≡ b → distinct_names names ≡ d → Ok c ≡ unless b WrongLength (unless d DuplicateField (Ok packed))
      → Makes (pack_type names m (column_types cs)) packed_rows (Ok c)
  packed_by true true c p q k =
      let same : c ≡ packed = cc in
      let told = pack_told names m cs ∙ (λ i. unless_typed (q i) duplicate_field (unless_typed (p i) type_mismatch (Ok (struct_ty (zipped names (column_types cs)) m)))) in
      (told ∙ ap (λ (d : Column). Ok d.ty) (sym same), ap (λ (d : Column). d.rows) same)
  packed_by true false c p q k = absurd cc
  packed_by false d c p q k = absurd cc

  unpacked_by : (b d : Bool) (e : ColumnError) → (length names == length cs) ≡ b → distinct_names names ≡ d → AnswersColumn (Err e) (unless b WrongLength (unless d DuplicateField (Ok packed)))
      → Makes (pack_type names m (column_types cs)) packed_rows (Err (failure_of e))
  unpacked_by true true e p q k = fails_not (pack_type names m (column_types cs)) packed_rows e packed k
  unpacked_by true false e p q k =
      fails_as (pack_type names m (column_types cs)) packed_rows e DuplicateField refl
      (ap is_ok (pack_told names m cs ∙ ap (λ x. unless_typed x duplicate_field (unless_typed (length names == length cs) type_mismatch (Ok packed.ty))) q)) k
  unpacked_by false d e p q k =
      fails_as (pack_type names m (column_types cs)) packed_rows e WrongLength refl
      (ap is_ok (pack_told names m cs ∙ (λ i. unless_typed (q i) duplicate_field (unless_typed (p i) type_mismatch (Ok packed.ty)))) ∙ none d) k
    where
      none : (x : Bool) → is_ok (unless_typed x duplicate_field (unless_typed false type_mismatch (Ok packed.ty))) ≡ false
      none true = refl
      none false = refl

  -- the struct of the columns is that of the values
  pub packs : (c : Column) → Ok c ≡ struct_column names cs n (all_valid m n) → Makes (pack_type names m (column_types cs)) packed_rows (Ok c)
  packs c k = packed_by (length names == length cs) (distinct_names names) c refl refl (k ∙ packed_told)

  -- and is refused where the rule refuses
  pub packs_not : (e : ColumnError) → AnswersColumn (Err e) (struct_column names cs n (all_valid m n)) → Makes (pack_type names m (column_types cs)) packed_rows (Err (failure_of e))
  packs_not e k = unpacked_by (length names == length cs) (distinct_names names) e refl refl (subst (AnswersColumn (Err e)) packed_told k)
