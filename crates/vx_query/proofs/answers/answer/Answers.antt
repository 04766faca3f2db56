use Rattle.std.proofs.Common.{◌≡◌, ◌∙◌, sym, ap, refl, subst, map, [], Ok}
use Rattle.vx_request.specs.Requests.{request_of}
use Rattle.vx_request.specs.RequestViews.{scan_view}
use Rattle.vx_scan.specs.StoreAnswers.{new_store}
use Rattle.vx_scan.specs.StoreViews.{store_seen}
use Rattle.vx_tables.specs.Blocks.{block_view, table_refusal}
use Rattle.vx_query.specs.EndingViews.{IsScanned}
use Rattle.vx_query.specs.RefusalViews.{IsUnanswered, IsUnscanned, request_refusal}
use Rattle.vx_query.specs.Running.{scan_by}
use Rattle.vx_query.specs.RunViews.{scan_of, statistics_view}
use Rattle.vx_query.specs.BlockAgreement.{agree}
use Rattle.vx_query.proofs.BlockAgreementLemmas.{agree_in}
use Rattle.vx_query.proofs.AnswerLemmas.{table_of_agreeing, if_ok_then, if_err_then, if_err, refused_by}
use Rattle.vx_query.proofs.AnsweredLemmas.{answered_by, unscanned_by}
use Rattle.vx_query.proofs.StatisticsLemmas.{scan_of_zones, table_refused_by, zones_by_same}
use Rattle.vx_query.proofs.answers.answer.Goals as goal

pub returns-in_err-request-clause-refused : goal.returns-in_err-request-clause-refused
returns-in_err-request-clause-refused c =
    if_err (IsUnanswered c.args.input.now) (request_refusal c.in_err-request.field-0.0) c.from_residual.result c.from_residual.ensures.1
    (refused_by c.args.input.now c.in_err-request.field-0.0 c.in_err-request.ensures)

pub scanned_zones-requires : goal.scanned_zones-requires
scanned_zones-requires c =
    let asked = scan_view c.in_ok-request.request in
    let found : request_of c.args.input.now ≡ Ok asked = c.in_ok-request.ensures in
    ap (λ bs. table_refusal asked.zones (map block_view bs)) c.as_slice.ensures.value
    ∙ table_of_agreeing asked.zones asked.blocks (ap agree (sym found) ∙ agree_in c.args.input.now)

pub of_table-requires : goal.of_table-requires
of_table-requires c =
    let asked = scan_view c.in_ok-request.request in
    let found : request_of c.args.input.now ≡ Ok asked = c.in_ok-request.ensures in
    let chosen = statistics_view c.args.statistics in
    let own = scan_of (new_store asked.zones (map block_view c.as_slice.result.now) []) [] [] in
    let same : c.in_ok-scanned.scanned ≡ (scan_by chosen asked).zones =
    c.in_ok-scanned.ensures ∙ zones_by_same chosen own asked refl (ap (map block_view) c.as_slice.ensures.value) in
    ap (λ z. table_refusal z asked.blocks) same ∙ table_refused_by chosen asked (ap agree (sym found) ∙ agree_in c.args.input.now)

pub returns-clause-answered : goal.returns-clause-answered
returns-clause-answered c =
    let asked = scan_view c.in_ok-request.request in
    let found : request_of c.args.input.now ≡ Ok asked = c.in_ok-request.ensures in
    let chosen = statistics_view c.args.statistics in
    let own = scan_of (new_store asked.zones (map block_view c.as_slice.result.now) []) [] [] in
    let zones : c.in_ok-scanned.scanned ≡ (scan_by chosen asked).zones =
    c.in_ok-scanned.ensures ∙ zones_by_same chosen own asked refl (ap (map block_view) c.as_slice.ensures.value) in
    let scan = scan_of c.in_ok-store.store c.as_slice-2.result.now c.as_slice-3.result.now in
    let same : scan ≡ scan_by chosen asked =
    scan_of_zones chosen asked scan (ap (λ s. s.zones) c.in_ok-store.ensures ∙ zones) (ap (λ s. s.blocks) c.in_ok-store.ensures) c.as_slice-2.ensures.value c.as_slice-3.ensures.value in
    if_ok_then _ _ c.scan_store.result
    (λ scanned told. answered_by chosen c.args.input.now asked scanned.ending (store_seen scanned.store) found (subst (λ b. IsScanned b scanned.ending (store_seen scanned.store)) same told)) c.scan_store.ensures.scanned

pub returns-clause-refused : goal.returns-clause-refused
returns-clause-refused c =
    let asked = scan_view c.in_ok-request.request in
    let found : request_of c.args.input.now ≡ Ok asked = c.in_ok-request.ensures in
    let chosen = statistics_view c.args.statistics in
    let own = scan_of (new_store asked.zones (map block_view c.as_slice.result.now) []) [] [] in
    let zones : c.in_ok-scanned.scanned ≡ (scan_by chosen asked).zones =
    c.in_ok-scanned.ensures ∙ zones_by_same chosen own asked refl (ap (map block_view) c.as_slice.ensures.value) in
    let scan = scan_of c.in_ok-store.store c.as_slice-2.result.now c.as_slice-3.result.now in
    let same : scan ≡ scan_by chosen asked =
    scan_of_zones chosen asked scan (ap (λ s. s.zones) c.in_ok-store.ensures ∙ zones) (ap (λ s. s.blocks) c.in_ok-store.ensures) c.as_slice-2.ensures.value c.as_slice-3.ensures.value in
    if_err_then _ _ c.scan_store.result (λ r none. unscanned_by chosen c.args.input.now asked r found (subst (λ b. IsUnscanned b r) same none)) c.scan_store.ensures.refused
