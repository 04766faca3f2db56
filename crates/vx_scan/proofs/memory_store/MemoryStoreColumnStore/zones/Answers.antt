use Rattle.std.proofs.Common.{◌≡◌, true, refl, map, length, subst}
use Rattle.vx_dtype.specs.TypeRules.{field_names}
use Rattle.vx_tables.specs.Blocks.{block_view, have_lengths, have_types, block_fits}
use Rattle.vx_scan.specs.StoreViews.{StoreState}
use Rattle.vx_tables.proofs.BlockLemmas.{table_lengths}
use Rattle.vx_tables.proofs.FitLemmas.{table_fit}
use Rattle.std.specs.List.{list_all}
use Rattle.vx_scan.proofs.memory_store.MemoryStoreColumnStore.zones.Goals as goal

pub returns-clause-agrees : goal.returns-clause-agrees
returns-clause-agrees c =
    let long : have_lengths c.self.inside.zones (map block_view c.self.inside.blocks.items) ≡ true = c.self.invariant.0 in
    let kept = subst (λ (s : StoreState). have_lengths s.zones s.blocks ≡ true) c.self.view_is long in
    let typed : have_types c.self.inside.zones (map block_view c.self.inside.blocks.items) ≡ true = c.self.invariant.1 in
    let types = subst (λ (s : StoreState). have_types s.zones s.blocks ≡ true) c.self.view_is typed in
    let fitting : list_all block_fits (map block_view c.self.inside.blocks.items) ≡ true = c.self.invariant.2 in
    let fits = subst (λ (s : StoreState). list_all block_fits s.blocks ≡ true) c.self.view_is fitting in
    let lengths = table_lengths c.args.self.now.zones.columns (length (field_names c.args.self.now.zones.columns)) c.args.self.now.zones.lengths c.args.self.now.blocks kept in
    record { columns = refl; lengths = lengths; fit = table_fit c.args.self.now.zones.columns c.args.self.now.zones.lengths c.args.self.now.blocks kept types fits }
