use Rattle.std.proofs.Common.{◌≡◌, ◌∙◌, Some, length, slice_get}
use Rattle.std.specs.String.{string_bytes}
use Rattle.std.proofs.lemmas.Result.{err_from_is_err_and}
use Rattle.vx_folder.specs.FolderAnswers.{gathered_zones}
use Rattle.vx_folder.specs.PathViews.{kept_by}
use Rattle.vx_folder.proofs.FetchLemmas.{got}
use Rattle.vx_folder.proofs.OpenLemmas.{some_stand, lawful_first, lawful_next, blocks_grow, first_so_far, more_so_far, first_refused_at, refused_at}
use Rattle.vx_folder.proofs.opening.gathered_files.Goals as goal

pub returns-in_err-first-clause-refused : goal.returns-in_err-first-clause-refused
returns-in_err-first-clause-refused g c =
    let kept = kept_by (g.F.Files.kept c.args.files.now) in
    let names = c.args.names.now in
    let first = c.index-names-0.result in
    let here : slice_get names 0 ≡ Some first = got names 0 first first (some_stand (length names) c.is_empty.result c.is_empty.ensures c.if-is_empty.false) c.index-names-0.is in
    let p = err_from_is_err_and c.from_residual.result c.from_residual.ensures.1 in
    rw (p.1, p.2) (first_refused_at kept c.args.path.now string_bytes names first c.as_str.result.now c.as_str.ensures.value c.in_err-first.field-0.0 here
    c.in_err-first.ensures.refused)

pub loop-i-init : goal.loop-i-init
loop-i-init g c =
    let kept = kept_by (g.F.Files.kept c.args.files.now) in
    let names = c.args.names.now in
    let first = c.index-names-0.result in
    let here : slice_get names 0 ≡ Some first = got names 0 first first (some_stand (length names) c.is_empty.result c.is_empty.ensures c.if-is_empty.false) c.index-names-0.is in
    let zones = c.in_ok-gathered.ensures.zones ∙ c.zones.ensures in (
      lawful_first c.in_ok-gathered.gathered c.zones.result.now c.in_ok-gathered.ensures.zones c.in_ok-gathered.ensures.rules c.in_ok-gathered.ensures.begins,
      first_so_far kept c.args.path.now string_bytes names first c.as_str.result.now c.as_str.ensures.value c.in_ok-first.first
          (gathered_zones c.in_ok-gathered.gathered) c.in_ok-gathered.gathered.begins.items here zones c.in_ok-gathered.ensures.begins c.in_ok-first.ensures.file,
    )

pub returns-in_err-gather-clause-refused : goal.returns-in_err-gather-clause-refused
returns-in_err-gather-clause-refused g c =
    let kept = kept_by (g.F.Files.kept c.args.files.now) in
    let names = c.args.names.now in
    let i = c.loop-i.i in
    let own = c.index-names-i.result in
    let before = c.loop-i.gathered in
    let here : slice_get names i ≡ Some own = got names i own own c.loop-i-test.true c.index-names-i.is in
    let p = err_from_is_err_and c.from_residual-in_err-gather.result c.from_residual-in_err-gather.ensures.1 in
    rw (p.1, p.2) (refused_at kept c.args.path.now string_bytes names own c.as_str-in-loop-i.result.now c.as_str-in-loop-i.ensures.value i
    (gathered_zones before) (gathered_zones c.gather.new.gathered) before.begins.items c.in_err-gather.field-0.0 here c.loop-i.invariant.1 c.in_err-gather.ensures.gathers)

pub loop-i-preserved : goal.loop-i-preserved
loop-i-preserved g c =
    let kept = kept_by (g.F.Files.kept c.args.files.now) in
    let names = c.args.names.now in
    let i = c.loop-i.i in
    let own = c.index-names-i.result in
    let before = c.loop-i.gathered in
    let after = c.gather.new.gathered in
    let here : slice_get names i ≡ Some own = got names i own own c.loop-i-test.true c.index-names-i.is in (
      lawful_next before after i c.loop-i.invariant.0 c.in_ok-gather.ensures.lawful c.in_ok-gather.ensures.begins
          (blocks_grow _ (gathered_zones before) (gathered_zones after) c.in_ok-gather.ensures.gathers),
      more_so_far kept c.args.path.now string_bytes names own c.as_str-in-loop-i.result.now c.as_str-in-loop-i.ensures.value i
          (gathered_zones before) (gathered_zones after) before.begins.items after.begins.items here c.in_ok-gather.ensures.begins c.loop-i.invariant.1 c.in_ok-gather.ensures.gathers,
    )
