-- The rows of the kept blocks are all rows of the answer.
use Rattle.std.proofs.Common.{◌≡◌, ℕ, suc, ◌+◌, refl, ap, sym, ◌∙◌, Bool, true, false, cond, not, Some, subst, List, [], ◌∷◌, ◌++◌, arith}
use Rattle.std.specs.Prelude.{slice_get, map, length}
use Rattle.std.specs.List.{filter, flat_map, AllByRecursion}
use Rattle.vx_dtype.specs.Types.{Ty}
use Rattle.vx_dtype.specs.Values.{Val}
use Rattle.vx_dtype.specs.Logic.{is_true_val}
use Rattle.vx_expr.specs.Trees.{Tree}
use Rattle.vx_semantics.specs.Meaning.{Slots, mean}
use Rattle.vx_semantics.specs.Tables.{Zones, row_type, numbered_from}
use Rattle.vx_semantics.specs.Pruning.{rules_out}
use Rattle.vx_semantics.specs.Scans.{matching_rows, block_rows}
use Rattle.vx_laws_scan.specs.Pruned.{KeptNumbersAreKeptBlocks, KeptRowsAreAll}
use Rattle.vx_laws_scan.proofs.Ruling.{never-in}

none_matches : (t : Ty) (slots : Slots) (e : Tree) (rows : List Val) → AllByRecursion (λ row. is_true_val (mean t slots row e) ≡ false) rows → matching_rows t slots e rows ≡ []
none_matches t slots e [] h = refl
none_matches t slots e (row ∷ rows) h = rw h.0 (none_matches t slots e rows h.1)

-- what holds of each block by its number
abbrev pub AllNumbered : (ℕ → List Val → Type 0) → ℕ → List (List Val) → Type 0
AllNumbered P n [] = Unit {0}
AllNumbered P n (rows ∷ blocks) = P n rows × AllNumbered P (suc n) blocks

pub all_numbered : (P : ℕ → List Val → Type 0) (n : ℕ) (blocks : List (List Val)) → ((i : ℕ) (rows : List Val) → slice_get blocks i ≡ Some rows → P (n + i) rows) → AllNumbered P n blocks
all_numbered P n [] h = tt
all_numbered P n (rows ∷ blocks) h =
    let start : n + 0 ≡ n = omega arith in (
      subst (λ (k : ℕ). P k rows) start (h 0 rows refl),
      all_numbered P (suc n) blocks (λ i xs e. let next : n + suc i ≡ suc n + i = omega arith in subst (λ (k : ℕ). P k xs) next (h (suc i) xs e)),
    )

kept-all : (zones : Zones) (slots : Slots) (t : Ty) (f p : Tree) (n : ℕ) (blocks : List (List Val)) → AllNumbered (λ k rows. rules_out zones slots k f ≡ true → block_rows t slots f p rows ≡ []) n blocks
    → flat_map (λ (b : ℕ × List Val). block_rows t slots f p b.1) (filter (λ (b : ℕ × List Val). not (rules_out zones slots b.0 f)) (numbered_from n blocks)) ≡ flat_map (block_rows t slots f p) blocks
kept-all zones slots t f p n [] h = refl
kept-all zones slots t f p n (rows ∷ blocks) h = by-test (rules_out zones slots n f) h.0 (kept-all zones slots t f p (suc n) blocks h.1)
  where
    by-test : (b : Bool) → (b ≡ true → block_rows t slots f p rows ≡ [])
        → flat_map (λ (c : ℕ × List Val). block_rows t slots f p c.1) (filter (λ (c : ℕ × List Val). not (rules_out zones slots c.0 f)) (numbered_from (suc n) blocks)) ≡ flat_map (block_rows t slots f p) blocks
        → flat_map (λ (c : ℕ × List Val). block_rows t slots f p c.1)
        (cond (not b) ((n, rows) ∷ filter (λ (c : ℕ × List Val). not (rules_out zones slots c.0 f)) (numbered_from (suc n) blocks)) (filter (λ (c : ℕ × List Val). not (rules_out zones slots c.0 f)) (numbered_from (suc n) blocks)))
        ≡ block_rows t slots f p rows ++ flat_map (block_rows t slots f p) blocks
    by-test true e r = r ∙ sym (ap (λ (xs : List Val). xs ++ flat_map (block_rows t slots f p) blocks) (e refl))
    by-test false e r = ap (λ (xs : List Val). block_rows t slots f p rows ++ xs) r

pub kept_rows_are_all : KeptRowsAreAll
kept_rows_are_all zones table slots f p h =
    let t = row_type table.columns in
    kept-all zones slots t f p 0 table.blocks
    (all_numbered (λ k rows. rules_out zones slots k f ≡ true → block_rows t slots f p rows ≡ []) 0 table.blocks
    (λ i rows e k.
    let same : 0 + i ≡ i = omega arith in
    ap (map (λ (row : Val). mean t slots row p)) (none_matches t slots f rows (never-in zones table slots t f i rows h e (subst (λ (j : ℕ). rules_out zones slots j f ≡ true) same k)))))

-- numbering doesn't look at what is numbered
same-numbers : {X Y : Type 0} (test : ℕ → Bool) (n : ℕ) (xs : List X) (ys : List Y) → length xs ≡ length ys
    → map (λ (b : ℕ × X). b.0) (filter (λ (b : ℕ × X). test b.0) (numbered_from n xs)) ≡ map (λ (b : ℕ × Y). b.0) (filter (λ (b : ℕ × Y). test b.0) (numbered_from n ys))
same-numbers test n [] [] h = refl
same-numbers test n [] (y ∷ ys) h = absurd (omega (arith, h))
same-numbers test n (x ∷ xs) [] h = absurd (omega (arith, h))
same-numbers {X} {Y} test n (x ∷ xs) (y ∷ ys) h = let k : length xs ≡ length ys = omega (arith, h) in by-test (test n) (same-numbers test (suc n) xs ys k)
  where
    by-test : (b : Bool)
        → map (λ (c : ℕ × X). c.0) (filter (λ (c : ℕ × X). test c.0) (numbered_from (suc n) xs)) ≡ map (λ (c : ℕ × Y). c.0) (filter (λ (c : ℕ × Y). test c.0) (numbered_from (suc n) ys))
        → map (λ (c : ℕ × X). c.0) (cond b ((n, x) ∷ filter (λ (c : ℕ × X). test c.0) (numbered_from (suc n) xs)) (filter (λ (c : ℕ × X). test c.0) (numbered_from (suc n) xs)))
        ≡ map (λ (c : ℕ × Y). c.0) (cond b ((n, y) ∷ filter (λ (c : ℕ × Y). test c.0) (numbered_from (suc n) ys)) (filter (λ (c : ℕ × Y). test c.0) (numbered_from (suc n) ys)))
    by-test true r = ap (λ (ns : List ℕ). n ∷ ns) r
    by-test false r = r

pub kept_numbers : KeptNumbersAreKeptBlocks
kept_numbers zones table slots f h = same-numbers (λ n. not (rules_out zones slots n f)) 0 table.blocks zones.lengths h
