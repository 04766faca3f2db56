-- The table of the available statistics of accepted zones over a run of blocks.
use Rattle.std.proofs.Common.{◌≡◌, ℕ, zero, suc, ◌+◌, ◌<◌, ◌≤◌, refl, ap, sym, ◌∙◌, Bool, true, false, cond, ◌&&◌, Option, Some, None, subst, List, [], ◌∷◌, map, take, drop, get_or, Result, Ok, arith}
use Rattle.std.specs.Prelude.{◌==◌, is_some, length, slice_get, slice_index_or}
use Rattle.std.specs.List.{All, AllByRecursion, filter, list_all, range_with_len}
use Rattle.std.proofs.lemmas.Bool.{and_parts, and_from}
use Rattle.std.proofs.lemmas.Bool.Decides.{Decides-eqb}
use Rattle.std.proofs.lemmas.List.{length-map}
use Rattle.std.proofs.lemmas.List.Elements.{All-from_recursion}
use Rattle.vx_dtype.specs.declared.PType.TheVariants.{U64}
use Rattle.vx_dtype.specs.declared.Nullability.TheVariants.{Nullable}
use Rattle.vx_dtype.specs.Types.{Bytes, Ty, int_ty, Fields, field}
use Rattle.vx_dtype.specs.TypeRules.{with_nullability, field_names, distinct_names, no_name_twice, no_name_twice_below}
use Rattle.vx_dtype.specs.Equal.{ty_eq}
use Rattle.vx_dtype.specs.EqualLaws.{ty_decides}
use Rattle.vx_dtype.specs.Values.{null_val, struct_val, member, Typed, value_of}
use Rattle.vx_dtype.specs.Zipped.{zipped}
use Rattle.vx_semantics.specs.Tables.{Zones, ZoneStat, row_type}
use Rattle.vx_semantics.specs.Pruning.{available}
use Rattle.vx_passes.specs.PruningTables.{available_statistics, first_type, statistics_fields, statistics_members, value_or_null, pruning_fields, pruning_row}
use Rattle.vx_zones.specs.Zoning.{counts_blocks}
use Rattle.vx_column.specs.declared.errors.ColumnError.{ColumnError}
use Rattle.vx_column.specs.declared.errors.ColumnError.TheVariants.{WrongLength, DuplicateField}
use Rattle.vx_column.specs.Columns.{Column, column}
use Rattle.vx_column.specs.Answers.{AnswersColumn, unless}
use Rattle.vx_column.specs.StructColumns.{column_types, all_have_rows, lengths_agree, row_members, struct_row, made_struct, struct_column}
use Rattle.vx_laws_pruning.specs.PruningLaws.{AreAccepted}
use Rattle.vx_laws_pruning.proofs.Accepted.{follows_rules}
use Rattle.vx_laws_pruning.proofs.ColumnTypes.{distinct-row}
use Rattle.vx_block_pruning.specs.Available.{flagged, name_of, TellsAvailable}
use Rattle.vx_block_pruning.specs.StatisticColumns.{column_type, column_of}
use Rattle.vx_block_pruning.specs.PruningTruths.{pruning_table}
use Rattle.vx_block_pruning.proofs.RunLemmas.{run-length, run-get, same-runs}

-- the types, names and values of the columns are those of the row of statistics
types-zipped : (first count : ℕ) (zs : List ZoneStat) → zipped (map name_of zs) (column_types (map (column_of first count) zs)) ≡ statistics_fields zs
types-zipped first count [] = refl
types-zipped first count (z ∷ zs) = ap (field (name_of z) (column_type z)) (types-zipped first count zs)

names-same : (zs : List ZoneStat) → field_names (statistics_fields zs) ≡ map name_of zs
names-same [] = refl
names-same (z ∷ zs) = ap (λ (ns : List Bytes). name_of z ∷ ns) (names-same zs)

value-at : (ss : List Typed) (i : ℕ) → slice_index_or (map value_of ss) i null_val ≡ value_or_null (slice_get ss i)
value-at [] i = refl
value-at (s ∷ ss) zero = refl
value-at (s ∷ ss) (suc i) = value-at ss i

members-at : (first count i j : ℕ) → i < count → first + i ≡ j → (zs : List ZoneStat) → row_members (map name_of zs) (map (column_of first count) zs) i ≡ statistics_members zs j
members-at first count i j l e [] = refl
members-at first count i j l e (z ∷ zs) =
    let value = value-at (take count (drop first z.values)) i ∙ ap value_or_null (run-get z.values first count i j l e) in
    λ k. member (name_of z) (value k) (members-at first count i j l e zs k)

kept-all : {X : Type 0} (holds keeps : X → Bool) (xs : List X) → list_all holds xs ≡ true → list_all holds (filter keeps xs) ≡ true
kept-all holds keeps [] h = refl
kept-all holds keeps (x ∷ xs) h =
    let parts = and_parts (holds x) (list_all holds xs) h in
    by-test (keeps x) parts.0 (kept-all holds keeps xs parts.1)
  where
    by-test : (b : Bool) → holds x ≡ true → list_all holds (filter keeps xs) ≡ true → list_all holds (cond b (x ∷ filter keeps xs) (filter keeps xs)) ≡ true
    by-test true k r = and_from (holds x) (list_all holds (filter keeps xs)) k r
    by-test false k r = r

-- each column has a row for each block of the run
rows-counted : (lengths : List ℕ) (first count : ℕ) → first + count ≤ length lengths → (zs : List ZoneStat) → list_all (counts_blocks lengths) zs ≡ true
    → all_have_rows count (map (column_of first count) zs) ≡ true
rows-counted lengths first count w [] h = refl
rows-counted lengths first count w (z ∷ zs) h =
    let parts = and_parts (counts_blocks lengths z) (list_all (counts_blocks lengths) zs) h in
    let run = take count (drop first z.values) in
    let many : length z.values ≡ length lengths = (Decides-eqb (length z.values) (length lengths)).0 parts.0 in
    let within : first + count ≤ length z.values = omega (arith, w, many) in
    let long : length (map value_of run) ≡ count = length-map run value_of ∙ run-length z.values first count within in
    and_from (length (map value_of run) == count) (all_have_rows count (map (column_of first count) zs)) ((Decides-eqb (length (map value_of run)) count).1 long)
    (rows-counted lengths first count w zs parts.1)

-- the columns of the available statistics under their joined names make the table
table-made : (zones : Zones) (first count : ℕ) (fs : List Bytes) (cs : List Column) → AreAccepted zones → first + count ≤ length zones.lengths
    → fs ≡ map name_of (available_statistics zones) → cs ≡ map (column_of first count) (available_statistics zones)
    → struct_column fs cs count None ≡ Ok (pruning_table zones first count)
unfolding no_name_twice
table-made zones first count fs cs a w e f =
    let zs = available_statistics zones in
    let names = map name_of zs in
    let columns = map (column_of first count) zs in
    let keeps : ZoneStat → Bool = λ z. is_some (available zones z.path z.stat) in
    let many : (length names == length columns) ≡ true =
    (Decides-eqb (length names) (length columns)).1 (length-map zs name_of ∙ sym (length-map zs (column_of first count))) in
    let rows = rows-counted zones.lengths first count w zs (kept-all (counts_blocks zones.lengths) keeps zones.stats (follows_rules zones a.lawful).counts) in
    let agree : lengths_agree names columns count None ≡ true =
    and_from (length names == length columns) (all_have_rows count columns && true) many (and_from (all_have_rows count columns) true rows refl) in
    let distinct : distinct_names names ≡ true =
    ap distinct_names (sym (names-same zs)) ∙ (and_parts (distinct_names (field_names (pruning_fields zones))) (no_name_twice_below (pruning_fields zones)) (distinct-row zones a)).0 in
    let from_start : first + 0 ≡ first = omega arith in
    let whole : 0 + count ≡ count = omega arith in
    let structs : map (struct_row names columns None) (range_with_len 0 count) ≡ map (pruning_row zones) (range_with_len first count) =
    same-runs (struct_row names columns None) (pruning_row zones) first count (λ i j l k. ap struct_val (members-at first count i j l k zs)) count 0 first whole from_start in
    let same : made_struct names columns count None ≡ pruning_table zones first count = λ i. column (row_type (types-zipped first count zs i)) (structs i) in
    (λ i. struct_column (e i) (f i) count None)
    ∙ (ap (λ (b : Bool). unless b WrongLength (unless (distinct_names names) DuplicateField (Ok (made_struct names columns count None)))) agree
    ∙ (ap (λ (b : Bool). unless b DuplicateField (Ok (made_struct names columns count None))) distinct ∙ ap Ok same))

-- each statistic of accepted zones has a value in each block of a run
many-runs : (lengths : List ℕ) (zs : List ZoneStat) (first count : ℕ) → list_all (counts_blocks lengths) zs ≡ true → first + count ≤ length lengths
    → AllByRecursion (λ (z : ZoneStat). first + count ≤ length z.values) zs
many-runs lengths [] first count h w = tt
many-runs lengths (z ∷ zs) first count h w =
    let parts = and_parts (counts_blocks lengths z) (list_all (counts_blocks lengths) zs) h in
    let same : length z.values ≡ length lengths = (Decides-eqb (length z.values) (length lengths)).0 parts.0 in
    (omega (arith, same, w), many-runs lengths zs first count parts.1 w)

pub each-has_run : (zones : Zones) (stats : List ZoneStat) (first count : ℕ) → AreAccepted zones → stats ≡ zones.stats → first + count ≤ length zones.lengths
    → All (λ (z : ZoneStat). first + count ≤ length z.values) stats
each-has_run zones stats first count a e w =
    All-from_recursion (λ (z : ZoneStat). first + count ≤ length z.values) stats
    (many-runs zones.lengths stats first count (ap (list_all (counts_blocks zones.lengths)) e ∙ (follows_rules zones a.lawful).counts) w)

-- what is answered for the columns of the flagged statistics tells the table
pub table-told : (zones : Zones) (zs : List ZoneStat) (flags : List Bool) (names : List Bytes) (cs : List Column) (first count : ℕ) (answer : Result Column ColumnError)
    → AreAccepted zones → zs ≡ zones.stats → TellsAvailable zones flags names → cs ≡ map (column_of first count) (flagged flags zs) → first + count ≤ length zones.lengths
    → AnswersColumn answer (struct_column names cs count None) → AnswersColumn answer (Ok (pruning_table zones first count))
table-told zones zs flags names cs first count answer a e h p w told =
    subst (AnswersColumn answer)
    (table-made zones first count names cs a w h.named (p ∙ ap (map (column_of first count)) (ap (flagged flags) e ∙ h.kept))) told
