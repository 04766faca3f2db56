use Rattle.std.proofs.Common.{Err, subst, sym}
use Rattle.vx_folder.specs.FolderTables.{table_view}
use Rattle.vx_folder.specs.PathViews.{paths_by}
use Rattle.vx_laws_shell.specs.Running.{end_by}
use Rattle.vx_laws_listing.specs.Listing.{IsFolderEnd, IsTableOfPath}
use Rattle.vx_listing.proofs.FolderLemmas.{folder_cut, folder_refused}
use Rattle.vx_listing.specs.ListingEnds.{Ends}
use Rattle.vx_listing.specs.declared.errors.ListingError.{ListingError}
use Rattle.vx_listing.specs.declared.errors.Refusal.TheVariants.{NotListed}
use Rattle.vx_listing.proofs.folders.list_folder.Goals as goal

pub returns-in-Err : goal.returns-in-Err
returns-in-Err g c =
    folder_refused c.args.path.now (paths_by (g.F.Files.kept c.args.files.now) (g.F.Files.listed c.args.files.now)) _ c.in-Err.error c.folder_refusal.result
    c.in-Err.ensures.refused c.folder_refusal.ensures

pub returns : goal.returns
returns g c =
    let path = c.args.path.now in
    let paths = paths_by (g.F.Files.kept c.args.files.now) (g.F.Files.listed c.args.files.now) in
    let end = end_by g.O.Sink.written g.O.Sink.faults in
    let before = end c.args.output.now in
    let after = end c.write_folder.new.output in
    let table = table_view c.in-Ok.table in
    let is : IsTableOfPath paths path table =
    record { held = c.in-Ok.ensures.table; places = c.in-Ok.ensures.places; sound = c.write_folder.ensures.sound } in
    subst (λ (e : ListingError). Ends (IsFolderEnd path paths before after) (Err (NotListed e))) (sym c.from.ensures)
    (folder_cut path paths before after table is c.in-Err-write_folder.error c.in-Err-write_folder.ensures.writes)
