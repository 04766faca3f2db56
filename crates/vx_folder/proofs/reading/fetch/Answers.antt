use Rattle.std.proofs.Common.{◌≡◌, ◌∙◌, ap, ◌+◌, ◌-◌, ◌<◌, ◌≤◌, length, get_or, arith}
use Rattle.vx_semantics.specs.Tables.{Zones}
use Rattle.vx_folder.specs.FolderParts.{parts_view}
use Rattle.vx_folder.proofs.FetchLemmas.{place_there, column_found, range_there}
use Rattle.vx_folder.proofs.reading.fetch.Goals as goal

pub returns-clause-column : goal.returns-clause-column
returns-clause-column g c =
    let parts = parts_view (g.F.Files.kept c.args.parts.now.files.now) c.args.parts.now in
    let part = c.in_ok-part.part in
    let told = g.F.File.Ranged.bytes part.file.source in
    let h = part.file.layout in
    let at = c.in_ok-part.ensures.part in
    let place = c.args.block - c.index.result.now in
    let before : get_or parts.begins c.file_number-number.result 0 ≤ c.args.block = rw c.as_slice.ensures.value at c.file_number-number.ensures.before in
    let stands : at.begin + place ≡ c.args.block =
    place_there parts part.number told h at c.file_number-number.result c.args.block c.index.result.now c.in_ok-part.ensures.number c.index.ensures before in
    let lengths = c.lengths.ensures.lengths ∙ ap (λ (z : Zones). z.lengths) c.zones.ensures in
    let within : place < length h.zones.lengths = omega (arith, c.if-place-lengths.false, ap length lengths) in
    column_found parts part.number told h c.args.block place c.args.name.now c.in_ok-column.column at stands within c.in_ok-column.ensures.column

pub returns-clause-range : goal.returns-clause-range
returns-clause-range g c =
    let parts = parts_view (g.F.Files.kept c.args.parts.now.files.now) c.args.parts.now in
    let part = c.in_ok-part.part in
    let told = g.F.File.Ranged.bytes part.file.source in
    let h = part.file.layout in
    let at = c.in_ok-part.ensures.part in
    let place = c.args.block - c.index.result.now in
    let before : get_or parts.begins c.file_number-number.result 0 ≤ c.args.block = rw c.as_slice.ensures.value at c.file_number-number.ensures.before in
    let stands : at.begin + place ≡ c.args.block =
    place_there parts part.number told h at c.file_number-number.result c.args.block c.index.result.now c.in_ok-part.ensures.number c.index.ensures before in
    let lengths = c.lengths.ensures.lengths ∙ ap (λ (z : Zones). z.lengths) c.zones.ensures in
    let within : place < length h.zones.lengths = omega (arith, c.if-place-lengths.false, ap length lengths) in
    range_there parts part.number told h c.args.block place c.args.name.now c.in_ok-column.column at stands within c.requires.parts
    c.in_ok-column.ensures.range
