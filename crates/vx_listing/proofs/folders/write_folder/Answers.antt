use Rattle.std.proofs.Common.{ap, map}
use Rattle.std.specs.String.{string_bytes}
use Rattle.vx_laws_listing.specs.ListingTexts.{columns_line, part_lines}
use Rattle.vx_listing.proofs.WriteLemmas.{parts_as, text_cut, text_then}
use Rattle.vx_listing.proofs.folders.write_folder.Goals as goal

pub returns-in-Ok-clause-writes : goal.returns-in-Ok-clause-writes
returns-in-Ok-clause-writes g c =
    let path = c.args.path.now in
    let table = c.args.table.now in
    let names = c.as_slice.result.now in
    let begins = c.as_slice-in-Ok.result.now in
    let parts =
    parts_as path table.zones (map string_bytes names) (map string_bytes table.names.items) begins table.begins.items _ _ _
    (ap (map string_bytes) c.as_slice.ensures.value) c.as_slice-in-Ok.ensures.value c.write_parts.ensures in
    text_then (columns_line table.zones.columns) (part_lines path table.zones (map string_bytes table.names.items) table.begins.items) _ _ _ _ c.in-Ok.ensures
    parts

pub returns-in-Err-clause-writes : goal.returns-in-Err-clause-writes
returns-in-Err-clause-writes g c =
    let table = c.args.table.now in
    text_cut (columns_line table.zones.columns) (part_lines c.args.path.now table.zones (map string_bytes table.names.items) table.begins.items) _ _ c.in-Err.error
    c.in-Err.ensures
