use Rattle.std.proofs.Common.{ap}
use Rattle.vx_scan.specs.StoreViews.{entry_view}
use Rattle.vx_folder.specs.FolderStates.{FolderState}
use Rattle.vx_folder.proofs.FolderLemmas.{kept_now, kept_read, reads_more}
use Rattle.vx_folder.proofs.folders.Folder.log_read.Goals as goal

pub invariant_of-self-2 : goal.invariant_of-self-2
invariant_of-self-2 g c =
    let s = c.args.self.now in
    let is = c.self.view_is in (
      c.self.invariant.0,
      c.self.invariant.1,
      kept_read s _ (entry_view c.args.read) (ap (λ (f : FolderState). f.zones) is) (ap (λ (f : FolderState). f.content) is)
          (reads_more s.reads c.self.inside.log.items c.push.new.self.items c.args.read c.in_ok-push.ensures.items (ap (λ (f : FolderState). f.reads) is))
          (ap (λ (f : FolderState). f.damaged) is) c.requires (kept_now _ s is c.self.invariant.2),
    )
