use Rattle.std.proofs.Common.{◌≡◌, ◌∙◌, refl, sym, ap, map, false, ◌++◌}
use Rattle.vx_dtype.specs.Types.{Bytes}
use Rattle.vx_files.specs.Kept.{MayBeFree}
use Rattle.vx_files.specs.FolderKeeping.{named_view}
use Rattle.vx_files.specs.MemoryViews.{file_view, files_view, kept_among}
use Rattle.vx_files.proofs.FolderLemmas.{folder_kept, none_stands, not_both, some_below, some_stands}
use Rattle.vx_files.proofs.memory_files.MemoryFilesFiles.keep_folder.Goals.{else-not-replaces-via-then-not-replaces+else-some_is_below, else-not-replaces-via-else-not-replaces}
use Rattle.vx_files.proofs.memory_files.MemoryFilesFiles.keep_folder.Goals as goal

pub returns-then-some_is_below : goal.returns-then-some_is_below
returns-then-some_is_below c =
    let folder = c.args.folder.now in
    let seen = ap (some_below folder) (ap (map file_view) c.as_slice.ensures.value) in
    (c.if-not-replaces.true, some_stands folder (files_view c.args.self.now) (sym seen ∙ sym c.if-some_is_below.ensures), λ other. refl, refl)

pub returns-in-Ok-replace_below : goal.returns-in-Ok-replace_below
returns-in-Ok-replace_below c =
    let folder = c.args.folder.now in
    let files = map named_view c.args.files.now in
    let old = files_view c.args.self.now in
    let free : c.args.replaces ≡ false → (name : Bytes) → MayBeFree (kept_among old (folder ++ name)) = elim c.else-not-replaces.branch [
      | else-not-replaces-via-then-not-replaces+else-some_is_below w ↦ λ e name.
          none_stands folder old (sym (ap (some_below folder) (ap (map file_view) w.as_slice.ensures.value)) ∙ sym w.if-some_is_below.ensures) name
      | else-not-replaces-via-else-not-replaces w ↦ λ e name. not_both c.args.replaces w.if-not-replaces.false e
    ] in
    let keeps = folder_kept folder files c.args.self.now.files.items c.in-Ok.new.items c.replace_below.new.files.items c.in-Ok-replace_below.ensures.kept c.in-Ok.ensures in
    (record { keeps = keeps; free = free }, refl)
