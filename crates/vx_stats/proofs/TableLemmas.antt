-- The columns at a place of a table's blocks: of the type of the field there, and with its values in the rows.
use Rattle.std.proofs.Common.{◌≡◌, refl, ap, sym, ◌∙◌, ℕ, zero, suc, ◌+◌, ◌<◌, Bool, true, false, cond, not, ◌&&◌, ◌||◌, nat_eq, Option, Some, None, Err, subst, List, [], ◌∷◌, map, length, get_or, arith}
use Rattle.std.specs.List.{AllByRecursion, slice_get, list_all}
use Rattle.std.specs.Cmp.{first_so, second_so}
use Rattle.std.specs.Str.{bytes_eq}
use Rattle.std.specs.declared.vec.Vec.{Vec}
use Rattle.std.specs.declared.alloc.Global.{Global}
use Rattle.std.proofs.lemmas.Bool.{and_parts}
use Rattle.std.proofs.lemmas.Slice.Eq.{bytes_eq-Decides}
use Rattle.vx_dtype.specs.declared.Nullability.TheVariants.{Nullable}
use Rattle.vx_dtype.specs.Types.{Bytes, Ty, Fields, no_fields, field}
use Rattle.vx_dtype.specs.TypeRules.{with_nullability, field_names, has_name, distinct_names, no_name_twice}
use Rattle.vx_dtype.specs.StructTypes.{field_types}
use Rattle.vx_dtype.specs.Structs.{field_of}
use Rattle.vx_dtype.specs.Equal.{ty_eq}
use Rattle.vx_dtype.specs.EqualLaws.{ty_decides}
use Rattle.vx_dtype.proofs.DistinctLemmas.{not_found}
use Rattle.vx_column.specs.Columns.{Column, zip_rows}
use Rattle.vx_semantics.specs.Tables.{ZoneStat, Zones, row_type}
use Rattle.vx_zones.specs.Zoning.{are_shallow, broken_rule}
use Rattle.vx_zones.specs.declared.errors.ZoneError.{ZoneError}
use Rattle.vx_zones.specs.declared.errors.ZoneError.TheVariants as errors
use Rattle.vx_zones.specs.ZoneAnswers as ZoneAnswers
use Rattle.vx_tables.specs.Blocks.{block_view, block_long, blocks_long, block_typed, have_lengths, have_types, table_refusal, table_of_blocks, rows_of_columns, column_named}
use Rattle.vx_tables.proofs.BlockLemmas.{table_lengths}
use Rattle.vx_tables.proofs.MemberLemmas.{equal_numbers}
use Rattle.vx_tables.proofs.NamedLemmas.{named_rows}
use Rattle.vx_laws_stats.specs.BuiltStatistics.{built_stats, built_zones}
use Rattle.vx_laws_stats.proofs.BuiltZones.{break_no_rule}
use Rattle.vx_laws_stats.proofs.LeafFacts.{other-name}
use Rattle.vx_stats.specs.ColumnFacts.{AreOf, column_rows, column_at, no_column}
use Rattle.vx_stats.proofs.ColumnLemmas.{named-in}

-- where names are distinct, the column at a place is that of the name there
named-column : (fs : Fields) (cs : List Column) (i : ℕ) (f : Bytes) → distinct_names (field_names fs) ≡ true → slice_get (field_names fs) i ≡ Some f → length cs ≡ length (field_names fs) → column_named f fs cs ≡ Some (column_at i cs)
named-column no_fields cs i f d e k = let no : ⊥ = cc in absurd no
named-column (field g u fs) [] i f d e k = absurd (omega (arith, k))
named-column (field g u fs) (c ∷ cs) zero f d e k =
    let same : g ≡ f = cc in
    ap (λ (b : Bool). cond b (Some c) (column_named f fs cs)) ((bytes_eq-Decides f g).1 (sym same))
named-column (field g u fs) (c ∷ cs) (suc i) f d e k =
    let names = and_parts (not (has_name g (field_names fs))) (distinct_names (field_names fs)) d in
    let apart = other-name g f (field_names fs) (not_found (has_name g (field_names fs)) names.0) (named-in fs i f e) in
    ap (λ (b : Bool). cond b (Some c) (column_named f fs cs)) apart ∙ named-column fs cs i f names.1 e (omega (arith, k))

-- its values are those of the field in the rows
pub rows-at : (fs : Fields) (ns : List ℕ) (bs : List (List Column)) (i : ℕ) (f : Bytes) → distinct_names (field_names fs) ≡ true → slice_get (field_names fs) i ≡ Some f → blocks_long (length (field_names fs)) ns bs ≡ true
    → column_rows (map (column_at i) bs) ≡ map (map (field_of f)) (zip_rows (rows_of_columns fs) ns bs)
rows-at fs [] [] i f d e h = refl
rows-at fs [] (cs ∷ bs) i f d e h = let no : ⊥ = cc in absurd no
rows-at fs (n ∷ ns) [] i f d e h = let no : ⊥ = cc in absurd no
rows-at fs (n ∷ ns) (cs ∷ bs) i f d e h =
    let width = length (field_names fs) in
    let parts = and_parts (block_long width n cs) (blocks_long width ns bs) h in
    let long = and_parts (nat_eq (length cs) width) (list_all (λ c. nat_eq (length c.rows) n) cs) parts.0 in
    let named = named-column fs cs i f d e (equal_numbers (length cs) width long.0) in
    let here = sym (named_rows f fs n cs (column_at i cs) long.1 named) in
    let rest = rows-at fs ns bs i f d e parts.1 in
    λ j. here j ∷ rest j

-- each block has a column there
pub long-enough : (fs : Fields) (ns : List ℕ) (bs : List (List Column)) (i : ℕ) → i < length (field_names fs) → blocks_long (length (field_names fs)) ns bs ≡ true → AllByRecursion (λ b. i < length b) bs
long-enough fs [] [] i l h = tt
long-enough fs [] (cs ∷ bs) i l h = let no : ⊥ = cc in absurd no
long-enough fs (n ∷ ns) [] i l h = let no : ⊥ = cc in absurd no
long-enough fs (n ∷ ns) (cs ∷ bs) i l h =
    let width = length (field_names fs) in
    let parts = and_parts (block_long width n cs) (blocks_long width ns bs) h in
    let long = and_parts (nat_eq (length cs) width) (list_all (λ c. nat_eq (length c.rows) n) cs) parts.0 in
    let even : length cs ≡ width = equal_numbers (length cs) width long.0 in
    (omega (arith, l, even), long-enough fs ns bs i l parts.1)

-- of the type of the field
typed-at : (ts : List Ty) (cs : List Column) (i : ℕ) (t : Ty) → block_typed ts cs ≡ true → slice_get ts i ≡ Some t → i < length cs → (column_at i cs).ty ≡ t
typed-at ts [] i t h e l = absurd (omega (arith, l))
typed-at [] (c ∷ cs) i t h e l = let no : ⊥ = cc in absurd no
typed-at (u ∷ ts) (c ∷ cs) zero t h e l =
    let same : u ≡ t = cc in
    (ty_decides c.ty u).0 (first_so (ty_eq c.ty u) (block_typed ts cs) h) ∙ same
typed-at (u ∷ ts) (c ∷ cs) (suc i) t h e l = typed-at ts cs i t (second_so (ty_eq c.ty u) (block_typed ts cs) h) e (omega (arith, l))

pub types-at : (ts : List Ty) (bs : List (List Column)) (i : ℕ) (t : Ty) → list_all (block_typed ts) bs ≡ true → slice_get ts i ≡ Some t → AllByRecursion (λ b. i < length b) bs → AreOf t (map (column_at i) bs)
types-at ts [] i t h e l = tt
types-at ts (cs ∷ bs) i t h e l =
    let parts = and_parts (block_typed ts cs) (list_all (block_typed ts) bs) h in
    (ap (λ (u : Ty). with_nullability u Nullable) (typed-at ts cs i t parts.0 e l.0), types-at ts bs i t parts.1 e l.1)

-- zones that break no rule have distinct names, and columns that are not too deep
pub record Sound (z : Zones) : Type 0 where
  pub names : no_name_twice (row_type z.columns) ≡ true
  pub shallow : are_shallow z.columns ≡ true

first-passed : {X : Type 0} (a : Bool) (x : X) (o : Option X) → cond (not a) (Some x) o ≡ None → (a ≡ true) × (o ≡ None)
first-passed true x o h = (refl, h)
first-passed false x o h = let no : ⊥ = cc in absurd no

pub sound : (z : Zones) → broken_rule z ≡ None → Sound z
unfolding broken_rule
sound z h =
    let first = first-passed (no_name_twice (row_type z.columns)) _ _ h in
    let second = first-passed (are_shallow z.columns) _ _ first.1 in
    record { names = first.0; shallow = second.0 }

-- the built zones of a table, as they are made of its parts
pub as-built : (z : Zones) (bs : List (List Column)) (fs : Fields) (ns : List ℕ) (stats : List ZoneStat) → have_lengths z bs ≡ true → fs ≡ z.columns → ns ≡ z.lengths → stats ≡ built_stats (table_of_blocks z bs)
    → (record { columns = fs; lengths = ns; stats = stats }) ≡ built_zones (table_of_blocks z bs)
as-built z bs fs ns stats h a b c =
    let lengths : ns ≡ map length (table_of_blocks z bs).blocks = b ∙ sym (table_lengths z.columns (length (field_names z.columns)) z.lengths bs h) in
    λ i. record { columns = a i; lengths = lengths i; stats = c i }

-- they break no rule
pub unbroken : (z : Zones) (bs : List (List Column)) (fs : Fields) (ns : List ℕ) (stats : List ZoneStat) → have_lengths z bs ≡ true → broken_rule z ≡ None → fs ≡ z.columns → ns ≡ z.lengths → stats ≡ built_stats (table_of_blocks z bs)
    → broken_rule (record { columns = fs; lengths = ns; stats = stats }) ≡ None
unbroken z bs fs ns stats h r a b c =
    let s = sound z r in
    ap broken_rule (as-built z bs fs ns stats h a b c) ∙ break_no_rule (table_of_blocks z bs) s.names s.shallow

pub no-refusal : (z : Zones) (bs : List (List Column)) → have_lengths z bs ≡ true → have_types z bs ≡ true → table_refusal z bs ≡ None
no-refusal z bs h k = rw (h, k) refl

never-broken : (o : Option ZoneError) (e : ZoneError) → o ≡ None → o ≡ Some e → ⊥
never-broken o e h k = let no : None ≡ Some e = sym h ∙ k in cc

-- zones that break no rule are refused for want of memory alone
pub only-memory : (z : Zones) (e : ZoneError) → ZoneAnswers.MakesZones z (Err e) → broken_rule z ≡ None → e ≡ errors.NoMemory
only-memory z errors.NoMemory h k = refl
only-memory z errors.DuplicateName h k = absurd (never-broken (broken_rule z) errors.DuplicateName k h)
only-memory z errors.DeepType h k = absurd (never-broken (broken_rule z) errors.DeepType k h)
only-memory z errors.BadStatPath h k = absurd (never-broken (broken_rule z) errors.BadStatPath k h)
only-memory z errors.DuplicateStat h k = absurd (never-broken (broken_rule z) errors.DuplicateStat k h)
only-memory z errors.WrongStatCount h k = absurd (never-broken (broken_rule z) errors.WrongStatCount k h)
only-memory z errors.WrongStatType h k = absurd (never-broken (broken_rule z) errors.WrongStatType k h)

-- each block of blocks as they are kept has a column at a place
pub kept-at : (xs : List (Vec Column Global)) (i place : ℕ) (d : Vec Column Global) → AllByRecursion (λ b. place < length b) (map block_view xs) → i < length xs → place < length (get_or xs i d).items
kept-at [] i place d h k = absurd (omega (arith, k))
kept-at (x ∷ xs) zero place d h k = h.0
kept-at (x ∷ xs) (suc i) place d h k = kept-at xs i place d h.1 (omega (arith, k))
