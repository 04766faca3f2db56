-- Columns of structs merged into one: names, types and rows.
use Rattle.std.proofs.Common.{◌≡◌, refl, ap, sym, subst, ◌∙◌, ℕ, suc, ◌==◌, Bool, true, false, cond, List, [], ◌∷◌, map, length, Option, Some, None, option_map, Ok, Err}
use Rattle.std.specs.Prelude.{unwrap_or}
use Rattle.std.specs.Option.{option_or, option_and_then}
use Rattle.std.specs.List.{AllZip, flat_map, list_all, slice_get}
use Rattle.std.specs.Cmp.{unsigned_Decides}
use Rattle.std.proofs.Math.ListN.{get_or-map}
use Rattle.std.proofs.lemmas.Bool.{and_parts, and_from}
use Rattle.std.proofs.lemmas.List.{length-map}
use Rattle.std.proofs.lemmas.List.Folds.{flat_map-map}
use Rattle.vx_dtype.specs.declared.Nullability.{Nullability}
use Rattle.vx_dtype.specs.Types.{Bytes, Ty, struct_ty, field}
use Rattle.vx_dtype.specs.TypeRules.{nullability_of, widened, has_name, distinct_names, fields_of, field_type}
use Rattle.vx_dtype.specs.StructTypes.{is_struct_ty, with_field}
use Rattle.vx_dtype.specs.Structs.{field_of, first_names}
use Rattle.vx_dtype.specs.Values.{Val, null_val, fault, member}
use Rattle.vx_dtype.specs.Zipped.{zipped}
use Rattle.vx_expr.specs.Trees.{merge, Trees, no_trees, tree}
use Rattle.vx_column.specs.Columns.{Column, column, row_at}
use Rattle.vx_column.specs.Answers.{AnswersColumn, unless, found_column, field_column}
use Rattle.vx_column.specs.StructColumns.{column_types, all_have_rows, row_members, made_struct, struct_column}
use Rattle.vx_column.specs.declared.errors.ColumnError.{ColumnError}
use Rattle.vx_column.specs.declared.errors.ColumnError.TheVariants.{WrongLength, DuplicateField}
use Rattle.vx_semantics.specs.Merging.{merged_names, last_giver}
use Rattle.vx_semantics.specs.Typing.{not_struct, unless as unless_typed, names_in, type_in, type_or_empty, merged_type_at, merged_fields_at, merge_type}
use Rattle.vx_semantics.specs.Meaning.{Slots, mean, sources, Source, source_names, merged_value, merged_members}
use Rattle.vx_typing.specs.declared.field_places.MergedField.{MergedField}
use Rattle.vx_typing.specs.MergedFields.{name_of}
use Rattle.vx_typing.proofs.FieldPlaces.{IsGiver}
use Rattle.vx_typing.proofs.NameLemmas.{first_names_distinct}
use Rattle.vx_eval.specs.Failures.{failure_of}
use Rattle.vx_eval.specs.Meant.{AreMeant}
use Rattle.vx_eval.specs.MergedColumns.{column_names, field_in, merged_column}
use Rattle.vx_eval.specs.Steps.{Makes}
use Rattle.vx_eval.specs.WholeStructs.{all_valid}
use Rattle.vx_eval.proofs.FailureLemmas.{fails_not}
use Rattle.vx_eval.proofs.PackLemmas.{value_meant, meant_have_rows}
use Rattle.vx_eval.proofs.StructRows.{struct_told, struct_made}

-- ---- the last giver of a name

module _ {X : Type 0} (names : X → List Bytes) (f : Bytes) where
  -- of what is seen by another, the last giver is what is seen of the last giver
  pub last_giver-map : {A : Type 0} (see : A → X) (xs : List A) → last_giver names f (map see xs) ≡ option_map see (last_giver (λ x. names (see x)) f xs)
  last_giver-map see [] = refl
  last_giver-map see (x ∷ xs) =
      ap (λ o. option_or o (cond (has_name f (names (see x))) (Some (see x)) None)) (last_giver-map see xs)
      ∙ by_rest (last_giver (λ y. names (see y)) f xs) (has_name f (names (see x)))
    where
      by_rest : (o : Option _) (b : Bool) → option_or (option_map see o) (cond b (Some (see x)) None) ≡ option_map see (option_or o (cond b (Some x) None))
      by_rest (Some y) b = refl
      by_rest None true = refl
      by_rest None false = refl

-- ---- the field of the last giver

-- the column of the field is that of the name
field_is : (f : Bytes) (c d : Column) → Ok d ≡ field_column f c → field_in f c ≡ Some d
field_is f c d h = by_type (field_type f (fields_of c.ty)) h
  where
    by_type : (o : Option Ty) → Ok d ≡ found_column f c o → option_map (λ t. column (widened t (nullability_of c.ty)) (map (field_of f) c.rows)) o ≡ Some d
    by_type None k = absurd cc
    by_type (Some t) k = cc

-- so of a merged field it is that of the name in the last column that gives it
pub field_found : (cs : List Column) (m : MergedField) (c d : Column) → IsGiver column_names cs m c → Ok d ≡ field_column m.name c → merged_column m.name cs ≡ Some d
field_found cs m c d giver h = ap (option_and_then (field_in m.name)) giver.last ∙ field_is m.name c d h

-- what is known of the column of a name
pub record FieldFound (cs : List Column) (f : Bytes) (d : Column) : Type 0 where
  pub giver : Column
  pub own : Ty
  pub last : last_giver column_names f cs ≡ Some giver
  pub typed : field_type f (fields_of giver.ty) ≡ Some own
  pub is : d ≡ column (widened own (nullability_of giver.ty)) (map (field_of f) giver.rows)

found_field : (cs : List Column) (f : Bytes) (d : Column) → merged_column f cs ≡ Some d → FieldFound cs f d
found_field cs f d h = by_giver (last_giver column_names f cs) refl h
  where
    by_type : (c : Column) (o : Option Ty) → last_giver column_names f cs ≡ Some c → field_type f (fields_of c.ty) ≡ o
        → option_map (λ t. column (widened t (nullability_of c.ty)) (map (field_of f) c.rows)) o ≡ Some d → FieldFound cs f d
    by_type c None e q k = absurd cc
    by_type c (Some t) e q k = record { giver = c; own = t; last = e; typed = q; is = cc }

    by_giver : (o : Option Column) → last_giver column_names f cs ≡ o → option_and_then (field_in f) o ≡ Some d → FieldFound cs f d
    by_giver None e k = absurd cc
    by_giver (Some c) e k = by_type c (field_type f (fields_of c.ty)) e refl k

pub all_found : (cs : List Column) (fs : List Bytes) (ds : List Column) → map (λ f. merged_column f cs) fs ≡ map Some ds → AllZip (FieldFound cs) fs ds
all_found cs [] [] h = tt
all_found cs [] (d ∷ ds) h = absurd cc
all_found cs (f ∷ fs) [] h = absurd cc
all_found cs (f ∷ fs) (d ∷ ds) h =
    let here : merged_column f cs ≡ Some d = cc in
    let rest : map (λ g. merged_column g cs) fs ≡ map Some ds = cc in
    (found_field cs f d here, all_found cs fs ds rest)

found_lengths : (cs : List Column) (fs : List Bytes) (ds : List Column) → AllZip (FieldFound cs) fs ds → length fs ≡ length ds
found_lengths cs [] [] h = refl
found_lengths cs [] (d ∷ ds) h = absurd h
found_lengths cs (f ∷ fs) [] h = absurd h
found_lengths cs (f ∷ fs) (d ∷ ds) h = ap suc (found_lengths cs fs ds h.1)

-- ---- types

type_found : (cs : List Column) (f : Bytes) (d : Column) → FieldFound cs f d → merged_type_at f (column_types cs) ≡ Some d.ty
type_found cs f d h =
    ap (option_and_then (type_in f)) (last_giver-map names_in f (λ c. c.ty) cs ∙ ap (option_map (λ (c : Column). c.ty)) h.last)
    ∙ ap (option_map (λ u. widened u (nullability_of h.giver.ty))) h.typed
    ∙ ap (λ (c : Column). Some c.ty) (sym h.is)

types_found : (cs : List Column) (fs : List Bytes) (ds : List Column) → AllZip (FieldFound cs) fs ds → zipped fs (column_types ds) ≡ merged_fields_at fs (column_types cs)
types_found cs [] [] h = refl
types_found cs [] (d ∷ ds) h = absurd h
types_found cs (f ∷ fs) [] h = absurd h
types_found cs (f ∷ fs) (d ∷ ds) h =
    ap (field f d.ty) (types_found cs fs ds h.1) ∙ ap (λ o. with_field f o (merged_fields_at fs (column_types cs))) (sym (type_found cs f d h.0))

-- the names of the columns' types are those of the columns
pub names_of_types : (cs : List Column) → merged_names names_in (column_types cs) ≡ merged_names column_names cs
names_of_types cs = ap first_names (flat_map-map names_in (λ (c : Column). c.ty) cs)

-- ---- rows

giver_has_rows : (f : Bytes) (n : ℕ) (cs : List Column) (c : Column) → all_have_rows n cs ≡ true → last_giver column_names f cs ≡ Some c → (length c.rows == n) ≡ true
giver_has_rows f n [] c h k = absurd cc
giver_has_rows f n (d ∷ cs) c h k =
    let parts = and_parts (length d.rows == n) (all_have_rows n cs) h in
    by_rest (last_giver column_names f cs) (has_name f (column_names d)) parts.0 k (giver_has_rows f n cs c parts.1)
  where
    by_rest : (o : Option Column) (b : Bool) → (length d.rows == n) ≡ true → option_or o (cond b (Some d) None) ≡ Some c → (o ≡ Some c → (length c.rows == n) ≡ true) → (length c.rows == n) ≡ true
    by_rest (Some z) b e q rest = rest q
    by_rest None true e q rest = let same : d ≡ c = cc in subst (λ z. (length z.rows == n) ≡ true) same e
    by_rest None false e q rest = absurd cc

found_have_rows : (cs : List Column) (n : ℕ) (fs : List Bytes) (ds : List Column) → all_have_rows n cs ≡ true → AllZip (FieldFound cs) fs ds → all_have_rows n ds ≡ true
found_have_rows cs n [] [] k h = refl
found_have_rows cs n [] (d ∷ ds) k h = absurd h
found_have_rows cs n (f ∷ fs) [] k h = absurd h
found_have_rows cs n (f ∷ fs) (d ∷ ds) k h =
    let one = h.0 in
    let same : length d.rows ≡ length one.giver.rows = ap (λ (c : Column). length c.rows) one.is ∙ length-map one.giver.rows (field_of f) in
    and_from (length d.rows == n) (all_have_rows n ds) (ap (λ l. l == n) same ∙ giver_has_rows f n cs one.giver k one.last) (found_have_rows cs n fs ds k h.1)

-- a struct of a column at a row, and the names of the column's fields
abbrev pub source_at : ℕ → Column → Source
source_at i c = record { names = column_names c; whole = row_at c i }

sources_meant : (t : Ty) (slots : Slots) (rows : List Val) (es : Trees) (cs : List Column) → AreMeant t slots rows es cs → (i : ℕ) (row : Val) → slice_get rows i ≡ Some row
    → sources t slots row es ≡ map (source_at i) cs
unfolding mean
sources_meant t slots rows no_trees [] h i row at = refl
sources_meant t slots rows no_trees (c ∷ cs) h i row at = absurd h
sources_meant t slots rows (tree e es) [] h i row at = absurd h
sources_meant t slots rows (tree e es) (c ∷ cs) h i row at =
    λ j. record { names = names_in (type_or_empty (h.0 j)); whole = sym (value_meant t slots rows e c i row at h.1) j } ∷ sources_meant t slots rows es cs h.2 i row at j

value_found : (cs : List Column) (i : ℕ) (f : Bytes) (d : Column) → FieldFound cs f d → row_at d i ≡ merged_value f (map (source_at i) cs)
value_found cs i f d h =
    ap (λ (c : Column). row_at c i) h.is ∙ get_or-map (field_of f) h.giver.rows i null_val
    ∙ sym (ap (λ o. unwrap_or (option_map (λ (s : Source). field_of f s.whole) o) fault) (last_giver-map source_names f (source_at i) cs ∙ ap (option_map (source_at i)) h.last))

members_found : (cs : List Column) (i : ℕ) (fs : List Bytes) (ds : List Column) → AllZip (FieldFound cs) fs ds → row_members fs ds i ≡ merged_members fs (map (source_at i) cs)
members_found cs i [] [] h = refl
members_found cs i [] (d ∷ ds) h = absurd h
members_found cs i (f ∷ fs) [] h = absurd h
members_found cs i (f ∷ fs) (d ∷ ds) h = λ j. member f (value_found cs i f d h.0 j) (members_found cs i fs ds h.1 j)

-- ---- the answers of the step

module _ (names : List Bytes) (m : Nullability) (cs ds : List Column) (n : ℕ) (is : names ≡ merged_names column_names cs) (found : map (λ f. merged_column f cs) names ≡ map Some ds)
    (all : list_all is_struct_ty (column_types cs) ≡ true)
    (t : Ty) (slots : Slots) (rows : List Val) (es : Trees) (len : length rows ≡ n) (meant : AreMeant t slots rows es cs) where
  abbrev merged_rows : List Val
  merged_rows = map (λ row. mean t slots row (merge es m)) rows

  abbrev merged_col : Column
  merged_col = column (struct_ty (merged_fields_at names (column_types cs)) m) merged_rows

  each : AllZip (FieldFound cs) names ds
  each = all_found cs names ds found

  row_merged : (i : ℕ) (row : Val) → slice_get rows i ≡ Some row → row_members names ds i ≡ merged_members (merged_names source_names (sources t slots row es)) (sources t slots row es)
  row_merged i row at =
      let same = sources_meant t slots rows es cs meant i row at in
      members_found cs i names ds each
      ∙ ap (λ ns. merged_members ns (map (source_at i) cs)) (is ∙ ap first_names (sym (flat_map-map source_names (source_at i) cs)))
      ∙ ap (λ ss. merged_members (merged_names source_names ss) ss) (sym same)

  merged_told : struct_column names ds n (all_valid m n) ≡ Ok merged_col
  unfolding mean
  merged_told =
      struct_told names ds m n (found_have_rows cs n names ds (meant_have_rows t slots rows es cs n len meant) each)
      ∙ (λ i. unless ((unsigned_Decides (length names) (length ds)).1 (found_lengths cs names ds each) i) WrongLength
      (unless ((ap distinct_names is ∙ first_names_distinct (flat_map column_names cs)) i) DuplicateField (Ok (made_struct names ds n (all_valid m n)))))
      ∙ ap Ok (struct_made names ds m n rows (λ row. merged_members (merged_names source_names (sources t slots row es)) (sources t slots row es)) len row_merged)
      ∙ ap (λ fs. Ok (column (struct_ty fs m) merged_rows)) (types_found cs names ds each)

  merge_told : merge_type m (column_types cs) ≡ Ok merged_col.ty
  merge_told =
      ap (λ b. unless_typed b not_struct (Ok (struct_ty (merged_fields_at (merged_names names_in (column_types cs)) (column_types cs)) m))) all
      ∙ ap (λ ns. Ok (struct_ty (merged_fields_at ns (column_types cs)) m)) (names_of_types cs ∙ sym is)

  -- the struct of the fields' columns is that of the structs' fields
  pub merges : (c : Column) → Ok c ≡ struct_column names ds n (all_valid m n) → Makes (merge_type m (column_types cs)) merged_rows (Ok c)
  merges c k =
      let same : c ≡ merged_col = let told = k ∙ merged_told in cc in
      (merge_told ∙ ap (λ (d : Column). Ok d.ty) (sym same), ap (λ (d : Column). d.rows) same)

  -- and is not refused
  pub merges_all : (e : ColumnError) → AnswersColumn (Err e) (struct_column names ds n (all_valid m n)) → Makes (merge_type m (column_types cs)) merged_rows (Err (failure_of e))
  merges_all e k = fails_not (merge_type m (column_types cs)) merged_rows e merged_col (subst (AnswersColumn (Err e)) merged_told k)

-- the columns of merged fields are those of their names
pub found_by_name : (cs : List Column) (ms : List MergedField) (ds : List Column) → map (λ m. merged_column m.name cs) ms ≡ map Some ds → map (λ f. merged_column f cs) (map name_of ms) ≡ map Some ds
found_by_name cs ms ds h = by_name ms ∙ h
  where
    by_name : (ns : List MergedField) → map (λ f. merged_column f cs) (map name_of ns) ≡ map (λ (m : MergedField). merged_column m.name cs) ns
    by_name [] = refl
    by_name (m ∷ ns) = ap (λ os. merged_column m.name cs ∷ os) (by_name ns)
