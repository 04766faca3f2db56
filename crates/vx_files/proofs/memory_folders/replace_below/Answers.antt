use Rattle.std.proofs.Common.{rules, ap, ◌∙◌, ◌++◌}
use Rattle.std.proofs.lemmas.Fn.{filter_same}
use Rattle.vx_files.specs.MemoryViews.{files_out_of}
use Rattle.vx_files.proofs.memory_folders.replace_below.Goals as goal

pub returns-clause-kept : goal.returns-clause-kept
returns-clause-kept c =
    let left = filter_same _ _ _ (λ file b f k. search rules) _ _ c.retain.ensures.filtered in
    c.in-Ok.ensures.items ∙ ap (λ fs. fs ++ c.args.new.items) (left ∙ ap (files_out_of c.args.folder.now) c.in_ok-reserve.ensures.items)
