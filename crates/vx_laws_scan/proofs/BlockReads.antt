-- The reads of a scan, block by block.
use Rattle.std.proofs.Common.{◌≡◌, ℕ, refl, ap, sym, ◌∙◌, Bool, true, false, cond, List, [], ◌∷◌, ◌++◌}
use Rattle.std.specs.List.{flat_map}
use Rattle.vx_dtype.specs.Types.{Bytes, Ty}
use Rattle.vx_dtype.specs.Values.{Val}
use Rattle.vx_expr.specs.Trees.{Tree}
use Rattle.vx_semantics.specs.Meaning.{Slots}
use Rattle.vx_semantics.specs.Asked.{asked_columns}
use Rattle.vx_semantics.specs.Tables.{Table, Zones, row_type}
use Rattle.vx_semantics.specs.Scans.{matching_rows, has_rows, Phase, reads_in, further_columns, block_phases, phase_reads, kept_of, reads_of}

-- the reads of a block: the filter's asked columns, and where the filter is true at some row the projection's that are not among them
abbrev pub block_reads : Ty → Slots → Tree → Tree → ℕ × List Val → List (ℕ × Bytes)
block_reads t slots f p b =
    reads_in b.0 (asked_columns t f) ++ cond (has_rows (matching_rows t slots f b.1)) (reads_in b.0 (further_columns t f p)) []

append-none : {X : Type 0} (xs : List X) → xs ++ [] ≡ xs
append-none [] = refl
append-none {X} (x ∷ xs) = ap (λ (ys : List X). x ∷ ys) (append-none xs)

append-assoc : {X : Type 0} (xs ys zs : List X) → (xs ++ ys) ++ zs ≡ xs ++ (ys ++ zs)
append-assoc [] ys zs = refl
append-assoc {X} (x ∷ xs) ys zs = ap (λ (ws : List X). x ∷ ws) (append-assoc xs ys zs)

pub reads_append : (phases more : List Phase) → phase_reads (phases ++ more) ≡ phase_reads phases ++ phase_reads more
reads_append [] more = refl
reads_append (phase ∷ phases) more =
    ap (λ (rs : List (ℕ × Bytes)). phase.reads ++ rs) (reads_append phases more)
    ∙ sym (append-assoc phase.reads (phase_reads phases) (phase_reads more))

pub block_reads_are : (t : Ty) (slots : Slots) (f p : Tree) (b : ℕ × List Val) → phase_reads (block_phases t slots f p b) ≡ block_reads t slots f p b
block_reads_are t slots f p b = by-test (has_rows (matching_rows t slots f b.1))
  where
    by-test : (x : Bool)
        → reads_in b.0 (asked_columns t f)
        ++ phase_reads (cond x (record { expression = p; reads = reads_in b.0 (further_columns t f p); rows = matching_rows t slots f b.1 } ∷ []) [])
        ≡ reads_in b.0 (asked_columns t f) ++ cond x (reads_in b.0 (further_columns t f p)) []
    by-test true = ap (λ (rs : List (ℕ × Bytes)). reads_in b.0 (asked_columns t f) ++ rs) (append-none (reads_in b.0 (further_columns t f p)))
    by-test false = refl

by-block : (t : Ty) (slots : Slots) (f p : Tree) (bs : List (ℕ × List Val))
    → phase_reads (flat_map (block_phases t slots f p) bs) ≡ flat_map (block_reads t slots f p) bs
by-block t slots f p [] = refl
by-block t slots f p (b ∷ bs) =
    reads_append (block_phases t slots f p b) (flat_map (block_phases t slots f p) bs)
    ∙ (ap (λ (rs : List (ℕ × Bytes)). rs ++ phase_reads (flat_map (block_phases t slots f p) bs)) (block_reads_are t slots f p b)
    ∙ ap (λ (rs : List (ℕ × Bytes)). block_reads t slots f p b ++ rs) (by-block t slots f p bs))

-- the reads of a scan are those of its kept blocks
pub reads_by_block : (table : Table) (zones : Zones) (slots : Slots) (f p : Tree)
    → reads_of table zones slots f p ≡ flat_map (block_reads (row_type table.columns) slots f p) (kept_of table zones slots f)
reads_by_block table zones slots f p = by-block (row_type table.columns) slots f p (kept_of table zones slots f)
