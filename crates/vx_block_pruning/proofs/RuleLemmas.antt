-- What a rule over the statistics of a table says of a run of blocks.
use Rattle.std.proofs.Common.{◌≡◌, ℕ, ap, sym, ◌∙◌, true, false, Option, Some, None, subst, List, map, refl}
use Rattle.std.specs.Prelude.{MatchOption, option_map}
use Rattle.std.specs.List.{range_with_len}
use Rattle.std.proofs.Math.ListN.{replicate}
use Rattle.vx_dtype.specs.declared.Stat.{Stat}
use Rattle.vx_dtype.specs.Types.{Bytes}
use Rattle.vx_dtype.specs.Logic.{is_true_val}
use Rattle.vx_expr.specs.Trees.{Tree}
use Rattle.vx_semantics.specs.Meaning.{Slots, mean}
use Rattle.vx_semantics.specs.Slots.{slots_fit}
use Rattle.vx_semantics.specs.Tables.{Zones, row_type}
use Rattle.vx_semantics.specs.Pruning.{rules_out}
use Rattle.vx_passes.specs.Catalogs.{available_paths}
use Rattle.vx_passes.specs.PruningTables.{Pruning, pruning_over, pruning_fields, pruning_row}
use Rattle.vx_prune.specs.declared.relations.Relation.{Relation}
use Rattle.vx_prune.specs.Required.{PrunesBy}
use Rattle.vx_laws_pruning.specs.PruningLaws.{IsPrunable}
use Rattle.vx_laws_pruning.proofs.Accepted.{follows_rules}
use Rattle.vx_laws_pruning.proofs.AvailableStatistics.{distinct-paths}
use Rattle.vx_laws_pruning.proofs.Ruling.{pruning_tree_rules_out}
use Rattle.vx_block_pruning.specs.BlocksRuledOut.{run_ruled_out}
use Rattle.vx_block_pruning.specs.PruningTruths.{IsEvaluable, pruning_truths}
use Rattle.vx_block_pruning.specs.PruningRules.{IsRuleOf}
use Rattle.vx_block_pruning.specs.declared.rules.PruningRule.{PruningRule}
use Rattle.vx_block_pruning.proofs.RulingLemmas.{evaluable}
use Rattle.vx_block_pruning.proofs.RunLemmas.{none-in-run}

-- what is answered for a pruning expression tells the expression alone
pub tree-told : (o : Option Pruning) (answer : Tree × Relation (List Bytes) Stat) → PrunesBy o (Some answer) → Some answer.0 ≡ option_map (λ p. p.tree) o
tree-told None answer h = let no : ⊥ = cc in absurd no
tree-told (Some p) answer h = ap Some h.0

pub none-told : (o : Option Pruning) → PrunesBy o None → None ≡ option_map (λ p. p.tree) o
none-told None h = refl
none-told (Some p) h = absurd h

-- what holds of the pruning expression that there is
at-tree : (o : Option Pruning) (P : Tree → Type 0) (Q : Type 0) (pruning : Tree) → MatchOption o Q (λ p. P p.tree) → Some pruning ≡ option_map (λ p. p.tree) o → P pruning
at-tree None P Q pruning h e = let no : ⊥ = cc in absurd no
at-tree (Some p) P Q pruning h e = let same : p.tree ≡ pruning = cc in subst P same h

-- what holds where there is none
at-none : (o : Option Pruning) (P : Tree → Type 0) (Q : Type 0) → MatchOption o Q (λ p. P p.tree) → None ≡ option_map (λ p. p.tree) o → Q
at-none None P Q h e = h
at-none (Some p) P Q h e = let no : ⊥ = cc in absurd no

module _ (zones : Zones) (slots : Slots) (e : Tree) (rule : PruningRule) (h : IsRuleOf zones e rule) (fit : slots_fit slots e ≡ true) where
  prunable : IsPrunable zones slots e
  prunable = record { accepted = h.accepted; ty = h.ty; typed = h.typed; slots_fitting = fit }

  over-available : rule.pruning ≡ option_map (λ p. p.tree) (pruning_over (available_paths zones) e)
  over-available =
      h.pruning ∙ ap (λ (ps : List (List Bytes)). option_map (λ p. p.tree) (pruning_over ps e)) (distinct-paths zones (follows_rules zones h.accepted.lawful).apart)

  -- the rule's pruning expression can be evaluated, and is true at the blocks that the filter rules out
  pub rule-evaluable : (pruning : Tree) → rule.pruning ≡ Some pruning → IsEvaluable zones slots pruning
  rule-evaluable pruning is =
      at-tree (pruning_over (available_paths zones) e) (IsEvaluable zones slots) (Unit {0}) pruning (evaluable zones slots e prunable) (sym is ∙ over-available)

  rule-truth : (block : ℕ) (pruning : Tree) → rule.pruning ≡ Some pruning
      → is_true_val (mean (row_type (pruning_fields zones)) slots (pruning_row zones block) pruning) ≡ rules_out zones slots block e
  rule-truth block pruning is =
      at-tree (pruning_over (available_paths zones) e)
      (λ p. is_true_val (mean (row_type (pruning_fields zones)) slots (pruning_row zones block) p) ≡ rules_out zones slots block e) (rules_out zones slots block e ≡ false) pruning
      (pruning_tree_rules_out zones slots e block prunable) (sym is ∙ over-available)

  pub rule-truths : (first count : ℕ) (pruning : Tree) → rule.pruning ≡ Some pruning → pruning_truths zones slots first count pruning ≡ run_ruled_out zones slots first count e
  rule-truths first count pruning is = λ i. map (λ block. rule-truth block pruning is i) (range_with_len first count)

  -- without a pruning expression it rules out no block
  none-ruled : (block : ℕ) → rule.pruning ≡ None → rules_out zones slots block e ≡ false
  none-ruled block is =
      at-none (pruning_over (available_paths zones) e)
      (λ p. is_true_val (mean (row_type (pruning_fields zones)) slots (pruning_row zones block) p) ≡ rules_out zones slots block e) (rules_out zones slots block e ≡ false)
      (pruning_tree_rules_out zones slots e block prunable) (sym is ∙ over-available)

  pub rule-none : (first count : ℕ) → rule.pruning ≡ None → replicate count false ≡ run_ruled_out zones slots first count e
  rule-none first count is = none-in-run (λ block. rules_out zones slots block e) (λ block. none-ruled block is) first count
