use Rattle.std.proofs.Common.{ap, ◌∙◌, [], ◌∷◌, ◌++◌}
use Rattle.vx_scan.specs.Stores.{Read}
use Rattle.vx_scan.specs.StoreViews.{entry_view}
use Rattle.vx_file.specs.FileStates.{FileState}
use Rattle.vx_file.proofs.FileLemmas.{kept_now, kept_damaged, reads_more}
use Rattle.vx_file.proofs.block_file.BlockFile.fail_by_damage.Goals as goal

pub invariant_of-self-2 : goal.invariant_of-self-2
invariant_of-self-2 g c =
    let s = c.args.self.now in
    let is = c.self.view_is in
    let more = reads_more s.damaged c.self.inside.damaged.items c.push.new.self.items c.in_ok-entry.field-0 c.in_ok-push.ensures.items (ap (λ (f : FileState). f.damaged) is) in
    kept_damaged s _ (entry_view c.args.read) (ap (λ (f : FileState). f.header) is) (ap (λ (f : FileState). f.bytes) is) (ap (λ (f : FileState). f.reads) is)
    (more ∙ ap (λ (r : Read). s.damaged ++ r ∷ []) c.in_ok-entry.ensures) c.requires (kept_now _ s is c.self.invariant)
