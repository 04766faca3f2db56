use Rattle.std.proofs.Common.{ap, subst, [], Ok, Err}
use Rattle.vx_scan.specs.StoreViews.{store_seen}
use Rattle.vx_topk.specs.TopEnds.{IsTopOf}
use Rattle.vx_query.specs.RunViews.{scan_of, top_view}
use Rattle.vx_query.proofs.TopAnswerLemmas.{searched, unsearched}
use Rattle.vx_query.proofs.tops.search_store.Goals as goal

pub returns-in-Ok-clause-searched : goal.returns-in-Ok-clause-searched
returns-in-Ok-clause-searched c =
    let a = scan_of c.args.store [] [] in
    let top = top_view c.args.top in
    let f = c.args.filter.now in
    let p = c.args.projection.now in
    let before = store_seen c.args.store in
    let after = store_seen c.top_rows.new.store in
    let ends = subst (λ k. IsTopOf f p k top.descending top.count before after (Ok c.in-Ok.report)) c.in_ok-key.ensures c.in-Ok.ensures.ends in
    searched a top f p before c.top_rows.new.store c.in-Ok.report c.in_ok-text-in-Ok.text (ap store_seen c.requires.fresh) c.in-Ok.ensures.same ends
    c.in_ok-text-in-Ok.ensures

pub returns-clause-searched : goal.returns-clause-searched
returns-clause-searched c =
    let a = scan_of c.args.store [] [] in
    let top = top_view c.args.top in
    let f = c.args.filter.now in
    let p = c.args.projection.now in
    let before = store_seen c.args.store in
    let after = store_seen c.top_rows.new.store in
    let ends = subst (λ k. IsTopOf f p k top.descending top.count before after (Err c.in-Err.error)) c.in_ok-key.ensures c.in-Err.ensures.ends in
    c.unsearched.ensures.broken a top f p (unsearched a top f p before after c.in-Err.error (ap store_seen c.requires.fresh) c.in-Err.ensures.same ends)

pub returns-clause-refused : goal.returns-clause-refused
returns-clause-refused c =
    let a = scan_of c.args.store [] [] in
    let top = top_view c.args.top in
    let f = c.args.filter.now in
    let p = c.args.projection.now in
    let before = store_seen c.args.store in
    let after = store_seen c.top_rows.new.store in
    let ends = subst (λ k. IsTopOf f p k top.descending top.count before after (Err c.in-Err.error)) c.in_ok-key.ensures c.in-Err.ensures.ends in
    c.unsearched.ensures.refused a top f p (unsearched a top f p before after c.in-Err.error (ap store_seen c.requires.fresh) c.in-Err.ensures.same ends)
