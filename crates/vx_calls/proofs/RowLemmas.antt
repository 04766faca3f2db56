-- Rows that arrays tell, and what is answered over them.
use Rattle.std.proofs.Common.{◌≡◌, ◌∙◌, refl, ap, sym, subst, ℕ, ◌==◌, Bool, true, ◌&&◌, List, [], ◌∷◌, map, length, None, Result, Ok}
use Rattle.std.proofs.lemmas.Bool.{and_parts, and_from}
use Rattle.std.proofs.lemmas.Bool.Decides.{Decides-eqb}
use Rattle.std.proofs.lemmas.List.{length-map}
use Rattle.vx_dtype.specs.StructTypes.{field_types}
use Rattle.vx_dtype.specs.TypeRules.{distinct_names, field_names, no_name_twice, no_name_twice_below}
use Rattle.vx_dtype.specs.Types.{Bytes, Ty, Fields}
use Rattle.vx_dtype.specs.Zipped.{zipped}
use Rattle.vx_expr.specs.Trees.{Tree}
use Rattle.vx_dtype.specs.Logic.{is_true_val}
use Rattle.vx_semantics.specs.Meaning.{Slots, mean}
use Rattle.vx_semantics.specs.Tables.{Zones, row_type}
use Rattle.vx_zones.specs.Zoning.{broken_rule}
use Rattle.vx_eval.specs.Evaluating.{Evaluates}
use Rattle.vx_scan.proofs.PrepareLemmas.{names_once}
use Rattle.vx_column.specs.Columns.{Column, column}
use Rattle.vx_column.specs.Answers.{AnswersColumn, unless}
use Rattle.vx_column.specs.StructColumns.{all_have_rows, column_types, lengths_agree, made_struct, struct_column}
use Rattle.vx_column.specs.declared.errors.ColumnError.{ColumnError}
use Rattle.vx_column.specs.declared.errors.ColumnError.TheVariants.{WrongLength, DuplicateField}
use Rattle.vx_laws_simplifying.proofs.PackedRows.{as_many, zipped-own}
use Rattle.vx_calls.specs.FilteredRows.{rows_told}
use Rattle.vx_calls.specs.Steps.{TellsTruths}

-- columns of the types of fields make the rows
rows_made : (fs : Fields) (cs : List Column) (n : ℕ) → column_types cs ≡ field_types fs → all_have_rows n cs ≡ true → distinct_names (field_names fs) ≡ true
    → struct_column (field_names fs) cs n None ≡ Ok (column (row_type fs) (rows_told fs n cs))
rows_made fs cs n types rows distinct =
    let names = field_names fs in
    let many : length names ≡ length cs = as_many fs ∙ sym (ap length types) ∙ length-map cs (λ c. c.ty) in
    let agree : lengths_agree names cs n None ≡ true =
    and_from (length names == length cs) (all_have_rows n cs && true) ((Decides-eqb (length names) (length cs)).1 many)
    (and_from (all_have_rows n cs) true rows refl) in
    let typed : zipped names (column_types cs) ≡ fs = ap (zipped names) types ∙ zipped-own fs in
    let same : made_struct names cs n None ≡ column (row_type fs) (rows_told fs n cs) = λ i. column (row_type (typed i)) (rows_told fs n cs) in
    ap (λ (b : Bool). unless b WrongLength (unless (distinct_names names) DuplicateField (Ok (made_struct names cs n None)))) agree
    ∙ ap (λ (b : Bool). unless b DuplicateField (Ok (made_struct names cs n None))) distinct ∙ ap Ok same

-- what is answered for columns of the types of fields is their rows
pub rows_answered : (fs : Fields) (names : List Bytes) (cs : List Column) (n : ℕ) (answer : Result Column ColumnError) → names ≡ field_names fs
    → column_types cs ≡ field_types fs → all_have_rows n cs ≡ true → distinct_names (field_names fs) ≡ true
    → AnswersColumn answer (struct_column names cs n None) → AnswersColumn answer (Ok (column (row_type fs) (rows_told fs n cs)))
rows_answered fs names cs n answer named types rows distinct h =
    subst (AnswersColumn answer) (ap (λ ns. struct_column ns cs n None) named ∙ rows_made fs cs n types rows distinct) h

-- an answer that tells a column is this column, where it is one
pub made_is : (answer : Result Column ColumnError) (told made : Column) → AnswersColumn answer (Ok told) → answer ≡ Ok made → made ≡ told
made_is answer told made h e =
    let both : AnswersColumn (Ok made) (Ok told) = subst (λ (a : Result Column ColumnError). AnswersColumn a (Ok told)) e h in
    cc

-- no name of the columns of zones stands twice
pub names_distinct : (zones : Zones) → broken_rule zones ≡ None → distinct_names (field_names zones.columns) ≡ true
unfolding no_name_twice
names_distinct zones h = (and_parts (distinct_names (field_names zones.columns)) (no_name_twice_below zones.columns) (names_once zones h)).0

-- ---- truths

map_twice : {A B C : Type 0} (f : A → B) (g : B → C) (xs : List A) → map g (map f xs) ≡ map (λ x. g (f x)) xs
map_twice f g [] = refl
map_twice f g (x ∷ xs) = ap (λ ys. g (f x) ∷ ys) (map_twice f g xs)

-- the truths of the column of a filter over rows
pub truths_told : (columns : Fields) (tree : Tree) (table rows : Column) (slots : Slots) (c : Column) (flags : List Bool) → table.ty ≡ row_type columns
    → rows ≡ table → slots ≡ [] → Evaluates rows.ty slots rows.rows tree (Ok c) → flags ≡ map is_true_val c.rows
    → TellsTruths columns tree table.rows (Ok flags)
truths_told columns tree table rows slots c flags typed same none h e =
    let t = row_type columns in
    let over_table = subst (λ (r : Column). Evaluates r.ty slots r.rows tree (Ok c)) same h in
    let slotless = subst (λ (s : Slots). Evaluates table.ty s table.rows tree (Ok c)) none over_table in
    let here : Evaluates t [] table.rows tree (Ok c) = subst (λ (u : Ty). Evaluates u [] table.rows tree (Ok c)) typed slotless in
    let means = ap (λ (made : Column). map is_true_val made.rows) here.1 ∙ map_twice (λ row. mean t [] row tree) is_true_val table.rows in
    (e ∙ means, here.2, here.3)
