-- The phases in which the first rows by a key are found: those of each block that isn't skipped, under the bound before it, and their reads.
use Rattle.std.specs.Prelude.{ℕ, nat_eq, Bool, false, cond, List, [], ◌∷◌, ◌++◌, map, codes}
use Rattle.std.specs.List.{flat_map, list_any}
use Rattle.vx_dtype.specs.declared.Nullability.TheVariants.{NonNullable}
use Rattle.vx_dtype.specs.Types.{Bytes, Ty}
use Rattle.vx_dtype.specs.Values.{Val}
use Rattle.vx_expr.specs.Trees.{Tree, root, get_item, pack, no_trees, tree}
use Rattle.vx_semantics.specs.Meaning.{Slots}
use Rattle.vx_semantics.specs.Breaks.{Cause}
use Rattle.vx_semantics.specs.Asked.{asked_columns}
use Rattle.vx_semantics.specs.Tables.{Table, Zones, row_type, numbered_from}
use Rattle.vx_semantics.specs.Scans.{Phase, block_phases, phase_breaks, phase_breaks_by, kept_blocks, reads_in, further_columns}
use Rattle.vx_laws_topk.specs.TopRows.{Keyed, TopAsk, bound_before, bounded_filter, bound_slots, top_skips, found_with}

-- a phase, and the slots with which its expression is evaluated
pub record SlottedPhase : Type 0 where
  pub slots : Slots
  pub phase : Phase

-- the key and the projection, packed into one row
abbrev pub keyed_projection : TopAsk → Tree
keyed_projection ask =
    pack (codes "key" ∷ codes "value" ∷ []) (tree (get_item ask.key root) (tree ask.projection no_trees)) NonNullable

-- the phases of a block behind the rows that were found: none where it is skipped, else those of the bounded filter and of the packed key and projection
abbrev pub phases_with : TopAsk → Ty → Zones → List Keyed → ℕ × List Val → List SlottedPhase
phases_with ask t zones found b =
    cond (top_skips ask zones found b.0) []
    (map (λ phase. record { slots = bound_slots ask (bound_before ask found); phase = phase })
    (block_phases t (bound_slots ask (bound_before ask found)) (bounded_filter ask) (keyed_projection ask) b))

-- the phases of blocks, each behind the rows that were found before it
abbrev pub phases_over : TopAsk → Ty → Zones → List Keyed → List (ℕ × List Val) → List SlottedPhase
phases_over ask t zones found [] = []
phases_over ask t zones found (b ∷ bs) = phases_with ask t zones found b ++ phases_over ask t zones (found_with ask t zones found b) bs

-- all phases
abbrev pub top_phases : TopAsk → Table → Zones → List SlottedPhase
top_phases ask table zones = phases_over ask (row_type table.columns) zones [] (numbered_from 0 table.blocks)

-- whether a phase breaks, and whether it does so by this cause
abbrev pub slotted_breaks : Ty → SlottedPhase → Bool
slotted_breaks t s = phase_breaks t s.slots s.phase

abbrev pub slotted_breaks_by : Cause → Ty → SlottedPhase → Bool
slotted_breaks_by c t s = phase_breaks_by c t s.slots s.phase

-- the phases up to and with the first that breaks, all where none does
abbrev pub slotted_to_break : Ty → List SlottedPhase → List SlottedPhase
slotted_to_break t [] = []
slotted_to_break t (s ∷ ss) = s ∷ cond (slotted_breaks t s) [] (slotted_to_break t ss)

-- whether a phase breaks, and the first that does so breaks by this cause
abbrev pub first_slotted_breaks_by : Cause → Ty → List SlottedPhase → Bool
first_slotted_breaks_by c t [] = false
first_slotted_breaks_by c t (s ∷ ss) = cond (slotted_breaks t s) (slotted_breaks_by c t s) (first_slotted_breaks_by c t ss)

-- the reads of phases, in order
abbrev pub slotted_reads : List SlottedPhase → List (ℕ × Bytes)
slotted_reads ss = flat_map (λ s. s.phase.reads) ss

-- the reads by which the first rows are found, and those up to the end of the first phase that breaks
abbrev pub top_reads : TopAsk → Table → Zones → List (ℕ × Bytes)
top_reads ask table zones = slotted_reads (top_phases ask table zones)

abbrev pub top_reads_to_break : TopAsk → Table → Zones → List (ℕ × Bytes)
top_reads_to_break ask table zones = slotted_reads (slotted_to_break (row_type table.columns) (top_phases ask table zones))

-- whether some phase breaks, and the first that does so breaks by this cause
abbrev pub some_top_phase_breaks : TopAsk → Table → Zones → Bool
some_top_phase_breaks ask table zones = list_any (slotted_breaks (row_type table.columns)) (top_phases ask table zones)

abbrev pub first_top_breaks_by : Cause → TopAsk → Table → Zones → Bool
first_top_breaks_by c ask table zones = first_slotted_breaks_by c (row_type table.columns) (top_phases ask table zones)

-- the blocks that may be read whatever is found: where some row is asked, those that the filter alone doesn't rule out
abbrev pub top_blocks : TopAsk → Zones → List ℕ
top_blocks ask zones = cond (nat_eq ask.count 0) [] (kept_blocks zones [] ask.filter_expr)

-- all reads that may be made: of each such block the columns that the bounded filter asks, and then those of key and projection that are not among them
abbrev pub top_asked : TopAsk → Zones → List (ℕ × Bytes)
top_asked ask zones =
    flat_map
    (λ b.
    reads_in b (asked_columns (row_type zones.columns) (bounded_filter ask))
    ++ reads_in b (further_columns (row_type zones.columns) (bounded_filter ask) (keyed_projection ask)))
    (top_blocks ask zones)
