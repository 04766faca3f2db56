use Rattle.std.proofs.Common.{ap}
use Rattle.vx_scan.specs.StoreViews.{entry_view}
use Rattle.vx_file.specs.FileStates.{FileState}
use Rattle.vx_file.proofs.FileLemmas.{kept_now, kept_read, reads_more}
use Rattle.vx_file.proofs.block_file.BlockFile.log_read.Goals as goal

pub invariant_of-self-2 : goal.invariant_of-self-2
invariant_of-self-2 g c =
    let s = c.args.self.now in
    let is = c.self.view_is in
    kept_read s _ (entry_view c.args.read) (ap (λ (f : FileState). f.header) is) (ap (λ (f : FileState). f.bytes) is)
    (reads_more s.reads c.self.inside.log.items c.push.new.self.items c.args.read c.in_ok-push.ensures.items (ap (λ (f : FileState). f.reads) is))
    (ap (λ (f : FileState). f.damaged) is) c.requires (kept_now _ s is c.self.invariant)
