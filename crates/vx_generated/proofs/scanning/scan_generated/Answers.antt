use Rattle.std.proofs.Common.{◌∙◌, ◌<◌, ◌^◌, sym, ap, subst, map, length, arith}
use Rattle.vx_semantics.specs.Tables.{Zones}
use Rattle.vx_wire.specs.Registries.{registered}
use Rattle.vx_tables.specs.Blocks.{table_refusal}
use Rattle.vx_scan.specs.StoreViews.{store_seen}
use Rattle.vx_tables.specs.Blocks.{block_view}
use Rattle.vx_generated.specs.Writable.{IsWritable}
use Rattle.vx_generated.proofs.SpelledLemmas.{filter-writable, projection-writable}
use Rattle.vx_generated.proofs.TableLemmas.{blocks-agree}
use Rattle.vx_generated.proofs.ScanLemmas.{IsMade, is-generated, reports, told-so, rows-fit, line-told}
use Rattle.vx_generated.proofs.scanning.scan_generated.Goals as goal

pub bytes_of-requires : goal.bytes_of-requires
bytes_of-requires c = subst IsWritable (sym c.in_ok-zones.ensures.filter) (filter-writable c.args.rows)

pub bytes_of-requires-2 : goal.bytes_of-requires-2
bytes_of-requires-2 c = subst IsWritable (sym c.in_ok-zones.ensures.projection) projection-writable

pub of_table-requires : goal.of_table-requires
of_table-requires c = (λ i. table_refusal (c.in_ok-zones.ensures.zones i) (c.in_ok-zones.ensures.blocks i)) ∙ blocks-agree c.args.rows

pub report_of-requires : goal.report_of-requires
report_of-requires c =
    let made : IsMade c.args.rows c.in_ok-zones.field-0.zones (map block_view c.in_ok-zones.field-0.blocks.items) c.in_ok-store.store
    c.in_ok-zones.field-0.filter c.in_ok-zones.field-0.projection c.in_ok-filter_text.filter_text.items c.in_ok-projection_text.projection_text.items = record {
      zones = c.in_ok-zones.ensures.zones;
      blocks = c.in_ok-zones.ensures.blocks;
      store_new = c.in_ok-store.ensures;
      filter = c.in_ok-zones.ensures.filter;
      projection = c.in_ok-zones.ensures.projection;
      filter_written = c.in_ok-filter_text.ensures;
      projection_written = c.in_ok-projection_text.ensures;
    } in
    let few : c.args.rows < 2 ^ 32 = omega (arith, c.ranges.rows.fits) in
    let is =
    is-generated c.args.rows c.in_ok-zones.field-0.zones (map block_view c.in_ok-zones.field-0.blocks.items) c.in_ok-store.store
    c.in_ok-zones.field-0.filter c.in_ok-zones.field-0.projection c.in_ok-filter_text.filter_text.items c.in_ok-projection_text.projection_text.items
    c.as_slice.result.now c.as_slice-2.result.now (registered c.default-registry.result) (store_seen c.scan.new.store) few c.default-registry.ensures made
    c.as_slice.ensures.value c.as_slice-2.ensures.value c.scan.ensures.same in
    reports c.args.rows (registered c.default-registry.result) c.as_slice.result.now c.as_slice-2.result.now (store_seen c.in_ok-store.store) (store_seen c.scan.new.store)
    c.scan.result is c.scan.ensures.ends

pub line_of-requires : goal.line_of-requires
line_of-requires c =
    let made : IsMade c.args.rows c.in_ok-zones.field-0.zones (map block_view c.in_ok-zones.field-0.blocks.items) c.in_ok-store.store
    c.in_ok-zones.field-0.filter c.in_ok-zones.field-0.projection c.in_ok-filter_text.filter_text.items c.in_ok-projection_text.projection_text.items = record {
      zones = c.in_ok-zones.ensures.zones;
      blocks = c.in_ok-zones.ensures.blocks;
      store_new = c.in_ok-store.ensures;
      filter = c.in_ok-zones.ensures.filter;
      projection = c.in_ok-zones.ensures.projection;
      filter_written = c.in_ok-filter_text.ensures;
      projection_written = c.in_ok-projection_text.ensures;
    } in
    let few : c.args.rows < 2 ^ 32 = omega (arith, c.ranges.rows.fits) in
    let is =
    is-generated c.args.rows c.in_ok-zones.field-0.zones (map block_view c.in_ok-zones.field-0.blocks.items) c.in_ok-store.store
    c.in_ok-zones.field-0.filter c.in_ok-zones.field-0.projection c.in_ok-filter_text.filter_text.items c.in_ok-projection_text.projection_text.items
    c.as_slice.result.now c.as_slice-2.result.now (registered c.default-registry.result) (store_seen c.scan.new.store) few c.default-registry.ensures made
    c.as_slice.ensures.value c.as_slice-2.ensures.value c.scan.ensures.same in
    let told = told-so c.args.rows (registered c.default-registry.result) c.as_slice.result.now c.as_slice-2.result.now (store_seen c.in_ok-store.store) (store_seen c.scan.new.store)
    c.scan.result c.in_ok-report.report is c.scan.ensures.ends c.in_ok-report.ensures in
    rows-fit c.args.rows (store_seen c.scan.new.store) c.scan.result c.in_ok-report.report told c.in_ok-report.ensures c.scan.ensures.fit

pub returns-clause-line : goal.returns-clause-line
returns-clause-line c =
    let made : IsMade c.args.rows c.in_ok-zones.field-0.zones (map block_view c.in_ok-zones.field-0.blocks.items) c.in_ok-store.store
    c.in_ok-zones.field-0.filter c.in_ok-zones.field-0.projection c.in_ok-filter_text.filter_text.items c.in_ok-projection_text.projection_text.items = record {
      zones = c.in_ok-zones.ensures.zones;
      blocks = c.in_ok-zones.ensures.blocks;
      store_new = c.in_ok-store.ensures;
      filter = c.in_ok-zones.ensures.filter;
      projection = c.in_ok-zones.ensures.projection;
      filter_written = c.in_ok-filter_text.ensures;
      projection_written = c.in_ok-projection_text.ensures;
    } in
    let few : c.args.rows < 2 ^ 32 = omega (arith, c.ranges.rows.fits) in
    let is =
    is-generated c.args.rows c.in_ok-zones.field-0.zones (map block_view c.in_ok-zones.field-0.blocks.items) c.in_ok-store.store
    c.in_ok-zones.field-0.filter c.in_ok-zones.field-0.projection c.in_ok-filter_text.filter_text.items c.in_ok-projection_text.projection_text.items
    c.as_slice.result.now c.as_slice-2.result.now (registered c.default-registry.result) (store_seen c.scan.new.store) few c.default-registry.ensures made
    c.as_slice.ensures.value c.as_slice-2.ensures.value c.scan.ensures.same in
    let told = told-so c.args.rows (registered c.default-registry.result) c.as_slice.result.now c.as_slice-2.result.now (store_seen c.in_ok-store.store) (store_seen c.scan.new.store)
    c.scan.result c.in_ok-report.report is c.scan.ensures.ends c.in_ok-report.ensures in
    c.in_ok-line.ensures
    ∙ line-told c.args.rows (length c.lengths-count.result.now) (store_seen c.scan.new.store) c.in_ok-report.report told
    (ap length c.lengths-count.ensures.lengths ∙ ap (λ (z : Zones). length z.lengths) c.in_ok-zones.ensures.zones)

pub returns-clause-store : goal.returns-clause-store
returns-clause-store c =
    let made : IsMade c.args.rows c.in_ok-zones.field-0.zones (map block_view c.in_ok-zones.field-0.blocks.items) c.in_ok-store.store
    c.in_ok-zones.field-0.filter c.in_ok-zones.field-0.projection c.in_ok-filter_text.filter_text.items c.in_ok-projection_text.projection_text.items = record {
      zones = c.in_ok-zones.ensures.zones;
      blocks = c.in_ok-zones.ensures.blocks;
      store_new = c.in_ok-store.ensures;
      filter = c.in_ok-zones.ensures.filter;
      projection = c.in_ok-zones.ensures.projection;
      filter_written = c.in_ok-filter_text.ensures;
      projection_written = c.in_ok-projection_text.ensures;
    } in
    let few : c.args.rows < 2 ^ 32 = omega (arith, c.ranges.rows.fits) in
    let is =
    is-generated c.args.rows c.in_ok-zones.field-0.zones (map block_view c.in_ok-zones.field-0.blocks.items) c.in_ok-store.store
    c.in_ok-zones.field-0.filter c.in_ok-zones.field-0.projection c.in_ok-filter_text.filter_text.items c.in_ok-projection_text.projection_text.items
    c.as_slice.result.now c.as_slice-2.result.now (registered c.default-registry.result) (store_seen c.scan.new.store) few c.default-registry.ensures made
    c.as_slice.ensures.value c.as_slice-2.ensures.value c.scan.ensures.same in
    let told = told-so c.args.rows (registered c.default-registry.result) c.as_slice.result.now c.as_slice-2.result.now (store_seen c.in_ok-store.store) (store_seen c.scan.new.store)
    c.scan.result c.in_ok-report.report is c.scan.ensures.ends c.in_ok-report.ensures in
    told.store
