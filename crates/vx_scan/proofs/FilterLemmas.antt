-- The phases of a block, from what their code reads and evaluates.
use Rattle.std.proofs.Common.{◌≡◌, refl, ap, ◌∙◌, sym, ℕ, ◌<◌, true, false, nat_eq, Some, List, [], ◌∷◌, map, length, Result, arith, subst, zero, suc}
use Rattle.std.specs.List.{list_all, slice_get}
use Rattle.std.proofs.lemmas.Bool.{and_from}
use Rattle.std.proofs.lemmas.Bool.Decides.{nat_tests}
use Rattle.vx_dtype.specs.TypeRules.{has_name, field_names}
use Rattle.vx_dtype.specs.Types.{Bytes, Fields}
use Rattle.vx_column.specs.Columns.{Column, kept_rows}
use Rattle.vx_expr.specs.Trees.{Tree}
use Rattle.vx_semantics.specs.Asked.{asked_columns}
use Rattle.vx_semantics.specs.Meaning.{Slots}
use Rattle.vx_semantics.specs.Scans.{reads_in, further_columns}
use Rattle.vx_semantics.specs.Tables.{row_type}
use Rattle.vx_prepare.specs.Preparing.{IsPrepared, AreOf, CanBeOver}
use Rattle.vx_prepare.specs.declared.prepared.PreparedExpr.{PreparedExpr}
use Rattle.vx_scan.specs.Stores.{StoreSeen}
use Rattle.vx_scan.specs.Opening.{IsPreparedScan}
use Rattle.vx_scan.specs.Steps.{MakesReads, further_names, AreColumnsOf, IsFiltered, kept_column}
use Rattle.vx_scan.specs.declared.errors.ScanError.{ScanError}
use Rattle.vx_scan.specs.declared.filtering.FilteredBlock.{FilteredBlock}
use Rattle.vx_scan.specs.declared.preparing.PreparedScan.{PreparedScan}
use Rattle.vx_scan.proofs.ColumnLemmas.{columns_are, kept_are, some_same}
use Rattle.vx_scan.proofs.ReadLemmas.{none_known, picked_are_there}

-- a place that has an item is within
pub there_within : {X : Type 0} (xs : List X) (i : ℕ) (x : X) → slice_get xs i ≡ Some x → i < length xs
there_within [] i x e = let no : ⊥ = cc in absurd no
there_within (y ∷ xs) zero x e = omega arith
there_within (y ∷ xs) (suc i) x e = let rest = there_within xs i x e in omega (arith, rest)

-- the names of asked columns are columns of the table
pub asked_there : (fs : Fields) (slots : Slots) (e : Tree) (expr : PreparedExpr) (names : List Bytes) → names ≡ expr.columns → IsPrepared fs slots e expr → list_all (λ n. has_name n (field_names fs)) names ≡ true
asked_there fs slots e expr names h k = ap (list_all (λ n. has_name n (field_names fs))) (h ∙ k.columns) ∙ picked_are_there _ (field_names fs)

-- the reads of the filter's phase: none of its columns is known before
pub filter_reads : (a b : StoreSeen) (block : ℕ) (none names columns asked : List Bytes) (result : Result (Unit {0}) ScanError) → none ≡ [] → names ≡ columns → columns ≡ asked
    → MakesReads (reads_in block (further_names none names)) a b result → MakesReads (reads_in block asked) a b result
filter_reads a b block none names columns asked result e h k m =
    subst (λ (ns : List Bytes). MakesReads (reads_in block ns) a b result) (ap (λ (known : List Bytes). further_names known names) e ∙ none_known names ∙ h ∙ k) m

-- the columns of the filter's phase
pub filter_columns : (a : StoreSeen) (block : ℕ) (none names columns : List Bytes) (unread cs : List Column) → none ≡ [] → unread ≡ [] → names ≡ columns
    → (AreColumnsOf a block none unread → AreColumnsOf a block names cs) → AreColumnsOf a block columns cs
filter_columns a block none names columns unread cs e u h k =
    let nothing : AreColumnsOf a block none unread = subst (λ (ns : List Bytes). AreColumnsOf a block ns unread) (sym e) (subst (λ (xs : List Column). AreColumnsOf a block [] xs) (sym u) tt) in
    subst (λ (ns : List Bytes). AreColumnsOf a block ns cs) h (k nothing)

-- the filter can be evaluated over its columns
pub can_be_whole : (a : StoreSeen) (slots : Slots) (f p : Tree) (scan : PreparedScan) (block len : ℕ) (cs : List Column) → IsPreparedScan a.zones slots f p scan → slice_get a.zones.lengths block ≡ Some len
    → AreColumnsOf a block scan.filter.columns cs → CanBeOver slots scan.filter len cs
can_be_whole a slots f p scan block len cs h e k =
    record { fields = a.zones.columns; expression = f; prepared = h.filter; distinct = h.distinct; own = columns_are a block len scan.filter.columns cs e k }

-- the reads of the projection's phase: the filter's columns are known
pub projection_reads : (a b : StoreSeen) (slots : Slots) (f p : Tree) (scan : PreparedScan) (block : ℕ) (names known : List Bytes) (result : Result (Unit {0}) ScanError) → IsPreparedScan a.zones slots f p scan
    → names ≡ scan.projection.columns → known ≡ scan.filter.columns → MakesReads (reads_in block (further_names known names)) a b result
    → MakesReads (reads_in block (further_columns (row_type a.zones.columns) f p)) a b result
projection_reads a b slots f p scan block names known result h e k m =
    let ns : names ≡ asked_columns (row_type a.zones.columns) p = e ∙ h.projection.columns in
    let ks : known ≡ asked_columns (row_type a.zones.columns) f = k ∙ h.filter.columns in
    subst (λ (rs : List Bytes). MakesReads (reads_in block rs) a b result) (λ i. further_names (ks i) (ns i)) m

pub projection_columns : (a : StoreSeen) (block : ℕ) (names columns known_names others : List Bytes) (known cs : List Column) → names ≡ columns → known_names ≡ others → AreColumnsOf a block others known
    → (AreColumnsOf a block known_names known → AreColumnsOf a block names cs) → AreColumnsOf a block columns cs
projection_columns a block names columns known_names others known cs e k own h =
    subst (λ (ns : List Bytes). AreColumnsOf a block ns cs) e (h (subst (λ (ns : List Bytes). AreColumnsOf a block ns known) (sym k) own))

-- the projection's columns at the rows that are kept, over which it can be evaluated
pub kept_of_type : (a : StoreSeen) (slots : Slots) (f : Tree) (names others : List Bytes) (block : ℕ) (filtered : FilteredBlock) (cs kept : List Column) → IsFiltered slots f others block a filtered
    → AreColumnsOf a block names cs → kept ≡ map (kept_column filtered.keep.rows) cs → AreOf a.zones.columns filtered.count names kept
kept_of_type a slots f names others block filtered cs kept k own e =
    let all : AreOf a.zones.columns (length (kept_rows filtered.keep.rows filtered.keep.rows)) names (map (kept_column filtered.keep.rows) cs) = kept_are a block names cs filtered.keep.rows k.len own in
    subst (λ (n : ℕ). AreOf a.zones.columns n names kept) (sym k.count) (subst (λ (xs : List Column). AreOf a.zones.columns (length (kept_rows filtered.keep.rows filtered.keep.rows)) names xs) (sym e) all)

pub can_be_kept : (a : StoreSeen) (slots : Slots) (f p : Tree) (scan : PreparedScan) (block : ℕ) (filtered : FilteredBlock) (cs kept : List Column) → IsPreparedScan a.zones slots f p scan
    → IsFiltered slots f scan.filter.columns block a filtered → AreColumnsOf a block scan.projection.columns cs → kept ≡ map (kept_column filtered.keep.rows) cs
    → CanBeOver slots scan.projection filtered.count kept
can_be_kept a slots f p scan block filtered cs kept h k own e =
    record {
      fields = a.zones.columns;
      expression = p;
      prepared = h.projection;
      distinct = h.distinct;
      own = kept_of_type a slots f scan.projection.columns scan.filter.columns block filtered cs kept k own e;
    }

-- columns of a block are as long as its truths
nat_eq_same : (n m : ℕ) → n ≡ m → nat_eq n m ≡ true
nat_eq_same n m e = grind (arith, nat_tests)

pub columns_long : (a : StoreSeen) (block len : ℕ) (names : List Bytes) (cs : List Column) → slice_get a.zones.lengths block ≡ Some len → AreColumnsOf a block names cs → list_all (λ c. nat_eq (length c.rows) len) cs ≡ true
columns_long a block len names [] e h = refl
columns_long a block len [] (c ∷ cs) e h = absurd h
columns_long a block len (n ∷ names) (c ∷ cs) e h =
    and_from (nat_eq (length c.rows) len) (list_all (λ c. nat_eq (length c.rows) len) cs) (nat_eq_same (length c.rows) len (some_same (sym h.0.len ∙ e))) (columns_long a block len names cs e h.1)

-- a number that is not zero
pub some_left : (n : ℕ) → (n ≡ 0 → ⊥) → nat_eq n 0 ≡ false
some_left zero h = absurd (h refl)
some_left (suc n) h = grind (arith, nat_tests)
