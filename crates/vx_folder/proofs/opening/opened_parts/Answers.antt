use Rattle.std.proofs.Common.{sym, subst, List, String, Global, map}
use Rattle.std.specs.String.{string_bytes}
use Rattle.vx_laws_shell.specs.Paths.{WhereEachKept}
use Rattle.vx_laws_shell.specs.FolderContents.{kept_in}
use Rattle.vx_folder.specs.FolderAnswers.{AreGathered, HoldsFiles}
use Rattle.vx_folder.specs.FolderParts.{Parts, held_of}
use Rattle.vx_folder.specs.PathViews.{kept_by}
use Rattle.vx_folder.proofs.OpenLemmas.{parts_are, parts_hold}
use Rattle.vx_folder.proofs.opening.opened_parts.Goals as goal

pub returns-clause-parts : goal.returns-clause-parts
returns-clause-parts g c =
    let path = c.args.path.now in
    let table = c.in_ok-table.table in
    let told = c.in_ok-table.ensures in
    let parts : Parts = record {
      kept = g.F.Files.kept c.args.files.now;
      folder = string_bytes c.in_ok-from_str.field-0;
      names = map string_bytes table.names.items;
      begins = table.begins.items;
      zones = table.zones;
    } in
    let h = subst (λ (ns : List (String Global)). WhereEachKept (kept_in (kept_by parts.kept) path (map string_bytes ns)) (AreGathered parts.zones parts.begins))
    (sym told.names) told.gathered in
    parts_are parts path c.in_ok-from_str.ensures.ok told.few h told.places.front told.places.paired

pub returns-clause-holds : goal.returns-clause-holds
returns-clause-holds g c =
    let path = c.args.path.now in
    let table = c.in_ok-table.table in
    let told = c.in_ok-table.ensures in
    let parts : Parts = record {
      kept = g.F.Files.kept c.args.files.now;
      folder = string_bytes c.in_ok-from_str.field-0;
      names = map string_bytes table.names.items;
      begins = table.begins.items;
      zones = table.zones;
    } in
    let h = subst (λ (ns : List (String Global)). WhereEachKept (kept_in (kept_by parts.kept) path (map string_bytes ns)) (AreGathered parts.zones parts.begins))
    (sym told.names) told.gathered in
    subst (λ (ns : List (String Global)). WhereEachKept (kept_in (kept_by parts.kept) path (map string_bytes ns)) (HoldsFiles (held_of parts))) told.names
    (parts_hold parts path c.in_ok-from_str.ensures.ok told.few h)
