use Rattle.std.proofs.Common.{Err, ap}
use Rattle.vx_folder.specs.PathViews.{kept_by}
use Rattle.vx_listing.proofs.FileLemmas.{path_end, unopened_path, unroomy_path}
use Rattle.vx_listing.proofs.running.list_path.Goals as goal

pub returns-in-Ok : goal.returns-in-Ok
returns-in-Ok g c =
    let path = c.args.path.now in
    path_end path (g.F.Files.kept c.args.files.now path) (g.F.File.Ranged.bytes c.in-Ok.file) c.in-Ok.ensures.opened _ _ c.list_opened.result
    c.list_opened.ensures

pub returns-in-Err-NotOpened : goal.returns-in-Err-NotOpened
returns-in-Err-NotOpened g c =
    let path = c.args.path.now in
    unopened_path path (g.F.Files.kept c.args.files.now path) _ (c.in-Err-NotOpened.ensures.refused (ap Err c.in-Err-NotOpened.field-0-is))

pub returns-in-Err-NoMemory : goal.returns-in-Err-NoMemory
returns-in-Err-NoMemory g c =
    let path = c.args.path.now in
    unroomy_path path (kept_by (g.F.Files.kept c.args.files.now) path) _
