-- A block that is ruled out by honest statistics has no row at which the filter is true.
use Rattle.std.proofs.Common.{◌≡◌, ◌∙◌, ap, ℕ, zero, suc, ◌+◌, Bool, true, false, List, [], ◌∷◌, map, Some, arith}
use Rattle.std.specs.Prelude.{slice_get}
use Rattle.std.specs.List.{AllByRecursion}
use Rattle.std.proofs.lemmas.List.Elements.{All-from_recursion}
use Rattle.vx_dtype.specs.Logic.{is_true_val}
use Rattle.vx_dtype.specs.Types.{Ty}
use Rattle.vx_dtype.specs.Values.{Val}
use Rattle.vx_expr.specs.Trees.{Tree}
use Rattle.vx_semantics.specs.Meaning.{mean}
use Rattle.vx_semantics.specs.Pruning.{rules_out}
use Rattle.vx_semantics.specs.Tables.{Zones, row_type, numbered_from}
use Rattle.vx_laws_scan.proofs.Ruling.{never-in}
use Rattle.vx_calls.specs.CallLaws.{RuledOutBlocksHaveNoTrueRow}
use Rattle.vx_calls.specs.FilteredRows.{true_rows}

-- what is told of a block is whether the filter rules it out
told_at : (zones : Zones) (tree : Tree) (n k : ℕ) (lengths : List ℕ)
    → slice_get (map (λ (b : ℕ × ℕ). rules_out zones [] b.0 tree) (numbered_from n lengths)) k ≡ Some true → rules_out zones [] (n + k) tree ≡ true
told_at zones tree n k [] h = let no : ⊥ = cc in absurd no
told_at zones tree n zero (x ∷ xs) h =
    let same : n + 0 ≡ n = omega arith in
    let own : rules_out zones [] n tree ≡ true = cc in
    ap (λ (m : ℕ). rules_out zones [] m tree) same ∙ own
told_at zones tree n (suc k) (x ∷ xs) h =
    let same : n + suc k ≡ suc n + k = omega arith in
    ap (λ (m : ℕ). rules_out zones [] m tree) same ∙ told_at zones tree (suc n) k xs h

none_true : (t : Ty) (tree : Tree) (rows : List Val) → AllByRecursion (λ row. is_true_val (mean t [] row tree) ≡ false) rows
    → AllByRecursion (λ (flag : Bool). flag ≡ false) (map (λ row. is_true_val (mean t [] row tree)) rows)
none_true t tree [] h = tt
none_true t tree (row ∷ rows) h = (h.0, none_true t tree rows h.1)

pub ruled_out_has_none : RuledOutBlocksHaveNoTrueRow
ruled_out_has_none zones table columns tree block rows honest here out =
    let same : block ≡ 0 + block = omega arith in
    let ruled : rules_out zones [] block tree ≡ true = ap (λ (m : ℕ). rules_out zones [] m tree) same ∙ told_at zones tree 0 block zones.lengths out in
    All-from_recursion (λ (flag : Bool). flag ≡ false) (true_rows columns tree rows)
    (none_true (row_type columns) tree rows (never-in zones table [] (row_type columns) tree block rows honest here ruled))
