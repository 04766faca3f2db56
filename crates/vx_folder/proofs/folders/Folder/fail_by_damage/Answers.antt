use Rattle.std.proofs.Common.{ap, ◌∙◌, [], ◌∷◌, ◌++◌}
use Rattle.vx_scan.specs.Stores.{Read}
use Rattle.vx_scan.specs.StoreViews.{entry_view}
use Rattle.vx_folder.specs.FolderStates.{FolderState}
use Rattle.vx_folder.proofs.FolderLemmas.{kept_now, kept_damaged, reads_more}
use Rattle.vx_folder.proofs.folders.Folder.fail_by_damage.Goals as goal

pub invariant_of-self-2 : goal.invariant_of-self-2
invariant_of-self-2 g c =
    let s = c.args.self.now in
    let is = c.self.view_is in
    let more = reads_more s.damaged c.self.inside.damaged.items c.push.new.self.items c.in_ok-entry.field-0 c.in_ok-push.ensures.items (ap (λ (f : FolderState). f.damaged) is) in (
      c.self.invariant.0,
      c.self.invariant.1,
      kept_damaged s _ (entry_view c.args.read) (ap (λ (f : FolderState). f.zones) is) (ap (λ (f : FolderState). f.content) is) (ap (λ (f : FolderState). f.reads) is)
          (more ∙ ap (λ (r : Read). s.damaged ++ r ∷ []) c.in_ok-entry.ensures) c.requires (kept_now _ s is c.self.invariant.2),
    )
