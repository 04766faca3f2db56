-- Where no phase breaks, what the projection means at the matching rows holds no fault.
use Rattle.std.proofs.Common.{◌≡◌, ℕ, suc, refl, sym, ◌∙◌, Bool, true, false, cond, not, ◌||◌, List, [], ◌∷◌, ◌++◌}
use Rattle.std.specs.Prelude.{map}
use Rattle.std.specs.List.{list_any, list_all, filter, flat_map}
use Rattle.std.proofs.lemmas.Bool.{and_parts, and_from, or_parts, or_from}
use Rattle.vx_dtype.specs.Types.{Bytes, Ty}
use Rattle.vx_dtype.specs.Values.{Val}
use Rattle.vx_dtype.specs.Fits.{val_fits, holds_fault}
use Rattle.vx_dtype.specs.Logic.{is_true_val}
use Rattle.vx_expr.specs.Trees.{Tree}
use Rattle.vx_semantics.specs.Meaning.{Slots, mean}
use Rattle.vx_semantics.specs.Asked.{asked_columns, some_asked_breaks}
use Rattle.vx_semantics.specs.Tables.{Table, row_type, numbered_from}
use Rattle.vx_semantics.specs.Pruning.{rules_out}
use Rattle.vx_semantics.specs.Scans.{matching_rows, block_rows, has_rows, Phase, reads_in, further_columns, block_phases, phase_breaks}
use Rattle.vx_laws.proofs.Faultless.{no_break_no_fault}
use Rattle.vx_laws_scan.specs.Agreeing.{all_rows_fit}
use Rattle.vx_laws_scan.specs.Quiet.{IsTyped, QuietRowsHoldNoFault}

-- what a typed expression means at the rows of a phase that does not break
phase-faultless : (table : Table) (slots : Slots) (p : Tree) (u : Ty) (rows : List Val) → IsTyped table.columns slots p u → list_all (λ row. val_fits row (row_type table.columns)) rows ≡ true
    → list_any (λ row. some_asked_breaks (row_type table.columns) slots row p) rows ≡ false
    → list_any holds_fault (map (λ row. mean (row_type table.columns) slots row p) rows) ≡ false
phase-faultless table slots p u [] i f h = refl
phase-faultless table slots p u (row ∷ rows) i f h =
    let t = row_type table.columns in
    let fit = and_parts (val_fits row t) (list_all (λ r. val_fits r t) rows) f in
    let x = or_parts (some_asked_breaks t slots row p) (list_any (λ r. some_asked_breaks t slots r p) rows) h in
    or_from (holds_fault (mean t slots row p)) (list_any holds_fault (map (λ r. mean t slots r p) rows))
    (no_break_no_fault t slots row p u fit.0 i.fitting i.typed x.0) (phase-faultless table slots p u rows i fit.1 x.1)

-- what holds of all holds of those that a filter keeps
all-kept : {X : Type 0} (test holds : X → Bool) (xs : List X) → list_all holds xs ≡ true → list_all holds (filter test xs) ≡ true
all-kept test holds [] h = refl
all-kept test holds (x ∷ xs) h =
    let parts = and_parts (holds x) (list_all holds xs) h in
    by-test (test x) parts.0 (all-kept test holds xs parts.1)
  where
    by-test : (b : Bool) → holds x ≡ true → list_all holds (filter test xs) ≡ true → list_all holds (cond b (x ∷ filter test xs) (filter test xs)) ≡ true
    by-test true a r = and_from (holds x) (list_all holds (filter test xs)) a r
    by-test false a r = r

all-numbered : (t : Ty) (n : ℕ) (blocks : List (List Val)) → all_rows_fit t blocks ≡ true → list_all (λ (b : ℕ × List Val). list_all (λ row. val_fits row t) b.1) (numbered_from n blocks) ≡ true
all-numbered t n [] h = refl
all-numbered t n (rows ∷ blocks) h =
    let parts = and_parts (list_all (λ row. val_fits row t) rows) (all_rows_fit t blocks) h in
    and_from (list_all (λ row. val_fits row t) rows) (list_all (λ (b : ℕ × List Val). list_all (λ row. val_fits row t) b.1) (numbered_from (suc n) blocks)) parts.0 (all-numbered t (suc n) blocks parts.1)

any-append : {X : Type 0} (test : X → Bool) (xs ys : List X) → list_any test (xs ++ ys) ≡ (list_any test xs || list_any test ys)
any-append test [] ys = refl
any-append test (x ∷ xs) ys = by-test (test x) (any-append test xs ys)
  where
    by-test : (b : Bool) → list_any test (xs ++ ys) ≡ (list_any test xs || list_any test ys) → (b || list_any test (xs ++ ys)) ≡ ((b || list_any test xs) || list_any test ys)
    by-test true r = refl
    by-test false r = r

-- the second phase of a block with these matching rows
abbrev second : Tree → List (ℕ × Bytes) → List Val → List Phase
second p reads rows = cond (has_rows rows) (record { expression = p; reads = reads; rows = rows } ∷ []) []

-- the answer of a block whose phases do not break
block-faultless : (table : Table) (slots : Slots) (f p : Tree) (u : Ty) (b : ℕ × List Val) → IsTyped table.columns slots p u → list_all (λ row. val_fits row (row_type table.columns)) b.1 ≡ true
    → list_any (phase_breaks (row_type table.columns) slots) (block_phases (row_type table.columns) slots f p b) ≡ false
    → list_any holds_fault (block_rows (row_type table.columns) slots f p b.1) ≡ false
block-faultless table slots f p u b i h k =
    let t = row_type table.columns in
    let first : Phase = record { expression = f; reads = reads_in b.0 (asked_columns t f); rows = b.1 } in
    let reads = reads_in b.0 (further_columns t f p) in
    by-rows reads (matching_rows t slots f b.1) (all-kept (λ row. is_true_val (mean t slots row f)) (λ row. val_fits row t) b.1 h)
    (or_parts (phase_breaks t slots first) (list_any (phase_breaks t slots) (second p reads (matching_rows t slots f b.1))) k).1
  where
    by-rows : (reads : List (ℕ × Bytes)) (rows : List Val) → list_all (λ row. val_fits row (row_type table.columns)) rows ≡ true → list_any (phase_breaks (row_type table.columns) slots) (second p reads rows) ≡ false
        → list_any holds_fault (map (λ row. mean (row_type table.columns) slots row p) rows) ≡ false
    by-rows reads [] g j = refl
    by-rows reads (row ∷ rows) g j =
        let t = row_type table.columns in
        let phase : Phase = record { expression = p; reads = reads; rows = row ∷ rows } in
        let own = or_parts (phase_breaks t slots phase) false j in
        phase-faultless table slots p u (row ∷ rows) i g own.0

blocks-faultless : (table : Table) (slots : Slots) (f p : Tree) (u : Ty) (kept : List (ℕ × List Val)) → IsTyped table.columns slots p u
    → list_all (λ (b : ℕ × List Val). list_all (λ row. val_fits row (row_type table.columns)) b.1) kept ≡ true
    → list_any (phase_breaks (row_type table.columns) slots) (flat_map (block_phases (row_type table.columns) slots f p) kept) ≡ false
    → list_any holds_fault (flat_map (λ (b : ℕ × List Val). block_rows (row_type table.columns) slots f p b.1) kept) ≡ false
blocks-faultless table slots f p u [] i h k = refl
blocks-faultless table slots f p u (b ∷ kept) i h k =
    let t = row_type table.columns in
    let fit = and_parts (list_all (λ row. val_fits row t) b.1) (list_all (λ (c : ℕ × List Val). list_all (λ row. val_fits row t) c.1) kept) h in
    let parts = or_parts (list_any (phase_breaks t slots) (block_phases t slots f p b)) (list_any (phase_breaks t slots) (flat_map (block_phases t slots f p) kept))
    (sym (any-append (phase_breaks t slots) (block_phases t slots f p b) (flat_map (block_phases t slots f p) kept)) ∙ k) in
    any-append holds_fault (block_rows t slots f p b.1) (flat_map (λ (c : ℕ × List Val). block_rows t slots f p c.1) kept)
    ∙ or_from (list_any holds_fault (block_rows t slots f p b.1)) (list_any holds_fault (flat_map (λ (c : ℕ × List Val). block_rows t slots f p c.1) kept))
    (block-faultless table slots f p u b i fit.0 parts.0) (blocks-faultless table slots f p u kept i fit.1 parts.1)

pub quiet_rows : QuietRowsHoldNoFault
quiet_rows table zones slots f p u i h k =
    let t = row_type table.columns in
    let kept = filter (λ (b : ℕ × List Val). not (rules_out zones slots b.0 f)) (numbered_from 0 table.blocks) in
    blocks-faultless table slots f p u kept i
    (all-kept (λ (b : ℕ × List Val). not (rules_out zones slots b.0 f)) (λ (b : ℕ × List Val). list_all (λ row. val_fits row t) b.1) (numbered_from 0 table.blocks) (all-numbered t 0 table.blocks h)) k
