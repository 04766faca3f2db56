use Rattle.std.proofs.Common.{◌≡◌, ◌∙◌, true, cond, ap, subst, map}
use Rattle.std.proofs.lemmas.List.{take_all}
use Rattle.std.specs.HashSet.{contains}
use Rattle.std.specs.List.{list_any}
use Rattle.std.specs.Str.{bytes_eq}
use Rattle.vx_scan.specs.StoreViews.{entry_view}
use Rattle.vx_shell.proofs.ReadNames.{one_more_read}
use Rattle.vx_shell.proofs.counting.set_of_names.Goals as goal

pub loop-entry-init : goal.loop-entry-init
loop-entry-init c = λ name. ap (list_any (bytes_eq name)) c.new-read.ensures.empty

pub loop-entry-preserved : goal.loop-entry-preserved
loop-entry-preserved c =
    let l = c.loop-entry in
    let e = c.entry-item.result in
    one_more_read c.args.reads.now l.entry-index e l.read c.insert.new.self c.loop-entry-test.true c.entry-item.is l.invariant
    (λ name. c.in_ok-insert.ensures.updates.0 name ∙ ap (λ own. cond (bytes_eq own name) true (contains bytes_eq l.read name)) c.in_ok-clone.ensures.cases)

pub returns : goal.returns
returns c =
    let l = c.loop-entry in
    λ name. subst (λ rs. contains bytes_eq l.read name ≡ list_any (λ r. bytes_eq name r.1) (map entry_view rs)) (take_all l.entry-index c.args.reads.now c.loop-entry-test.false) (l.invariant name)
