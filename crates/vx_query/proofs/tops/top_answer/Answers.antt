use Rattle.std.proofs.Common.{◌≡◌, ◌∙◌, sym, ap, subst, [], Ok, Err}
use Rattle.vx_wire.specs.Encodings.{is_default_kind}
use Rattle.vx_request.specs.Requests.{request_of}
use Rattle.vx_request.specs.RequestViews.{scan_view}
use Rattle.vx_scan.specs.StoreViews.{store_seen}
use Rattle.vx_scan.specs.Texts.{SpellBoth}
use Rattle.vx_query.specs.BlockAgreement.{agree}
use Rattle.vx_query.specs.RefusalViews.{request_refusal, scan_refusal}
use Rattle.vx_query.specs.RunViews.{scan_of, top_view}
use Rattle.vx_query.specs.TopViews.{DecodesBoth, IsTopUnanswered}
use Rattle.vx_query.proofs.AnswerLemmas.{table_of_agreeing, if_ok_then, if_err_then, if_err}
use Rattle.vx_query.proofs.BlockAgreementLemmas.{agree_in}
use Rattle.vx_query.proofs.TopAnswerLemmas.{answered_by, unanswered_by, undecoded_by, refused_by}
use Rattle.vx_query.proofs.tops.top_answer.Goals as goal

pub returns-in_err-request-clause-refused : goal.returns-in_err-request-clause-refused
returns-in_err-request-clause-refused c =
    let top = top_view c.args.top in
    if_err (IsTopUnanswered top c.args.input.now) (request_refusal c.in_err-request.field-0.0) c.from_residual.result c.from_residual.ensures.1
    (refused_by top c.args.input.now c.in_err-request.field-0.0 c.in_err-request.ensures)

pub returns-in_err-both-clause-refused : goal.returns-in_err-both-clause-refused
returns-in_err-both-clause-refused c =
    let top = top_view c.args.top in
    let asked = scan_view c.in_ok-request.request in
    let e = c.in_err-both.field-0.0 in
    let residual = c.from_residual-in_err-both in
    let refused : DecodesBoth asked.filter asked.projection (Err e) =
    subst (λ k. k) (λ i. DecodesBoth (c.as_slice.ensures.value i) (c.as_slice-2.ensures.value i) (Err e)) c.in_err-both.ensures.both in
    if_err (IsTopUnanswered top c.args.input.now) (scan_refusal e) residual.result residual.ensures.1
    (undecoded_by top c.args.input.now asked e c.in_ok-request.ensures refused)

pub of_table-requires : goal.of_table-requires
of_table-requires c =
    let asked = scan_view c.in_ok-request.request in
    let found : request_of c.args.input.now ≡ Ok asked = c.in_ok-request.ensures in
    table_of_agreeing asked.zones asked.blocks (ap agree (sym found) ∙ agree_in c.args.input.now)

pub returns-clause-answered : goal.returns-clause-answered
returns-clause-answered c =
    let top = top_view c.args.top in
    let asked = scan_view c.in_ok-request.request in
    let own = scan_of c.in_ok-store.store [] [] in
    let both = c.in_ok-both.both in
    let spelled : SpellBoth is_default_kind asked.filter asked.projection both.0 both.1 =
    subst (λ k. k) (λ i. SpellBoth is_default_kind (c.as_slice.ensures.value i) (c.as_slice-2.ensures.value i) both.0 both.1) c.in_ok-both.ensures.both in
    if_ok_then _ _ c.search_store.result
    (λ searched told. answered_by top c.args.input.now asked own both.0 both.1 searched.ending (store_seen searched.store) c.in_ok-request.ensures spelled
    (sym (ap (λ s. s.zones) c.in_ok-store.ensures)) (sym (ap (λ s. s.blocks) c.in_ok-store.ensures)) told) c.search_store.ensures.searched

pub returns-clause-refused : goal.returns-clause-refused
returns-clause-refused c =
    let top = top_view c.args.top in
    let asked = scan_view c.in_ok-request.request in
    let own = scan_of c.in_ok-store.store [] [] in
    let both = c.in_ok-both.both in
    let spelled : SpellBoth is_default_kind asked.filter asked.projection both.0 both.1 =
    subst (λ k. k) (λ i. SpellBoth is_default_kind (c.as_slice.ensures.value i) (c.as_slice-2.ensures.value i) both.0 both.1) c.in_ok-both.ensures.both in
    if_err_then _ _ c.search_store.result
    (λ r none. unanswered_by top c.args.input.now asked own both.0 both.1 r c.in_ok-request.ensures spelled
    (sym (ap (λ s. s.zones) c.in_ok-store.ensures)) (sym (ap (λ s. s.blocks) c.in_ok-store.ensures)) none) c.search_store.ensures.refused
