use Rattle.std.proofs.Common.{map}
use Rattle.std.specs.String.{string_bytes}
use Rattle.vx_folder.specs.PathViews.{paths_by}
use Rattle.vx_listing.specs.AskedViews.{asked_view}
use Rattle.vx_listing.proofs.FileLemmas.{asked_so, refused_so}
use Rattle.vx_listing.proofs.running.list_words.Goals as goal

pub returns-in-Ok : goal.returns-in-Ok
returns-in-Ok g c =
    asked_so (map string_bytes c.args.words.now) (paths_by (g.F.Files.kept c.args.files.now) (g.F.Files.listed c.args.files.now)) (asked_view c.in-Ok.asked) _ _
    c.list_asked.result c.in-Ok.ensures c.list_asked.ensures

pub returns-in-Err : goal.returns-in-Err
returns-in-Err g c =
    refused_so (map string_bytes c.args.words.now) (paths_by (g.F.Files.kept c.args.files.now) (g.F.Files.listed c.args.files.now)) _ c.in-Err.refusal c.in-Err.ensures
