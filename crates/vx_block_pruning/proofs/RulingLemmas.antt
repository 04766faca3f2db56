-- The pruning expression of a filter over the table of statistics: it can be evaluated there, and what its column says.
use Rattle.std.proofs.Common.{◌≡◌, ℕ, ◌<◌, refl, ap, sym, ◌∙◌, Bool, true, false, Option, Some, None, subst, List, [], ◌∷◌, map, Result, Ok}
use Rattle.std.specs.Prelude.{length, MatchOption}
use Rattle.std.specs.List.{range_with_len}
use Rattle.vx_dtype.specs.declared.Nullability.{Nullability}
use Rattle.vx_dtype.specs.Types.{Ty, bool_ty}
use Rattle.vx_dtype.specs.TypeRules.{is_bool_ty}
use Rattle.vx_dtype.specs.Values.{Val}
use Rattle.vx_dtype.specs.Logic.{is_true_val}
use Rattle.vx_expr.specs.Trees.{Tree}
use Rattle.vx_semantics.specs.Typing.{Refusal, and_then, unless, type_mismatch}
use Rattle.vx_semantics.specs.Meaning.{Slots, mean}
use Rattle.vx_semantics.specs.Slots.{slots_fit}
use Rattle.vx_semantics.specs.Breaks.{by_sum, by_cast}
use Rattle.vx_semantics.specs.Tables.{Zones, row_type}
use Rattle.vx_passes.specs.Catalogs.{available_paths}
use Rattle.vx_passes.specs.PruningTables.{Pruning, pruning_over, pruning_fields, pruning_row}
use Rattle.vx_column.specs.Columns.{Column}
use Rattle.vx_laws.proofs.Inverting.{Ok-same}
use Rattle.vx_laws_pruning.specs.PruningLaws.{IsPrunable}
use Rattle.vx_laws_pruning.specs.PruningTypes.{IsBooleanOver}
use Rattle.vx_laws_pruning.proofs.Calmness.{is_calm, none_breaks}
use Rattle.vx_laws_pruning.proofs.SlotsKept.{pruning_slots_fit}
use Rattle.vx_laws_pruning.proofs.TreeTypes.{pruning_tree_is_typed, pruning_tree_is_calm}
use Rattle.vx_block_pruning.specs.PruningTruths.{pruning_table, pruning_truths, IsEvaluable, GivesColumn}

module _ (zones : Zones) (slots : Slots) (e : Tree) (prunable : IsPrunable zones slots e) where
  -- the pruning expression, if there is one, can be evaluated
  pub evaluable : MatchOption (pruning_over (available_paths zones) e) (Unit {0}) (λ p. IsEvaluable zones slots p.tree)
  evaluable =
      by-option (pruning_over (available_paths zones) e) (pruning_tree_is_typed zones slots e 0 prunable) (pruning_slots_fit zones slots e prunable.slots_fitting)
      (pruning_tree_is_calm zones e prunable.ty prunable.accepted prunable.typed)
    where
      by-option : (o : Option Pruning) → (0 < length zones.lengths → MatchOption o (Unit {0}) (λ p. IsBooleanOver (row_type (pruning_fields zones)) p.tree))
          → MatchOption o (Unit {0}) (λ p. slots_fit slots p.tree ≡ true) → MatchOption o (Unit {0}) (λ p. is_calm p.tree ≡ true) → MatchOption o (Unit {0}) (λ p. IsEvaluable zones slots p.tree)
      by-option None typed fitting calm = tt
      by-option (Some p) typed fitting calm =
          record { typed = typed; fitting = fitting; unbroken = λ c rows. none_breaks c (row_type (pruning_fields zones)) slots rows p.tree calm }

-- where there are blocks, the expression has a column over rows of the available statistics
pub gives-column : (zones : Zones) (slots : Slots) (e : Tree) (table : Column) (held : Slots) → IsEvaluable zones slots e → 0 < length zones.lengths → table.ty ≡ row_type (pruning_fields zones) → held ≡ slots
    → GivesColumn table.ty held table.rows e
gives-column zones slots e table held h blocks p q =
    subst (λ (x : Ty × Slots). GivesColumn x.0 x.1 table.rows e) (λ i. (sym p i, sym q i))
    (record {
      null = (h.typed blocks).null;
      typed =
          ap (λ r. and_then r (λ u. unless (slots_fit slots e) type_mismatch (Ok u))) (h.typed blocks).typed
          ∙ ap (λ (b : Bool). unless b type_mismatch (Ok (bool_ty (h.typed blocks).null))) h.fitting;
      summed = h.unbroken by_sum table.rows;
      cast = h.unbroken by_cast table.rows;
    })

truths-mapped : (truth : Val → Bool) (meant : Val → Val) (row : ℕ → Val) (ns : List ℕ) → map truth (map meant (map row ns)) ≡ map (λ n. truth (meant (row n))) ns
truths-mapped truth meant row [] = refl
truths-mapped truth meant row (n ∷ ns) = ap (λ (bs : List Bool). truth (meant (row n)) ∷ bs) (truths-mapped truth meant row ns)

-- the truths of its column over a run of blocks are those at the blocks
pub column-truths : (zones : Zones) (slots : Slots) (first count : ℕ) (e : Tree) (table : Column) (held : Slots) (rows : List Val) → table ≡ pruning_table zones first count → held ≡ slots
    → rows ≡ map (λ row. mean table.ty held row e) table.rows → map is_true_val rows ≡ pruning_truths zones slots first count e
column-truths zones slots first count e table held rows p q r =
    ap (map is_true_val) (r ∙ (λ i. map (λ row. mean (p i).ty (q i) row e) (p i).rows))
    ∙ truths-mapped is_true_val (λ row. mean (row_type (pruning_fields zones)) slots row e) (pruning_row zones) (range_with_len first count)

-- a column of an expression of a boolean type is boolean
pub is-boolean : (answer : Result Ty Refusal) (t : Ty) (null : Nullability) → answer ≡ Ok (bool_ty null) → answer ≡ Ok t → is_bool_ty t ≡ true
is-boolean answer t null h e = ap is_bool_ty (Ok-same answer t (bool_ty null) e h)
