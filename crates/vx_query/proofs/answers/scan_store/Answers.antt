use Rattle.std.proofs.Common.{◌≡◌, ap, sym, subst}
use Rattle.vx_wire.specs.Encodings.{is_default_kind}
use Rattle.vx_wire.specs.Registries.{registered}
use Rattle.vx_scan.specs.StoreViews.{store_seen}
use Rattle.vx_query.specs.EndingViews.{IsScanned}
use Rattle.vx_query.specs.RunViews.{scan_of}
use Rattle.vx_query.proofs.AnswerLemmas.{reported_scan, unreported_scan, unfailing, scanned_as, unscanned_as, if_ok_then, if_err_then}
use Rattle.vx_query.proofs.answers.scan_store.Goals as goal

pub returns-in_ok-text-in-Ok-clause-scanned : goal.returns-in_ok-text-in-Ok-clause-scanned
returns-in_ok-text-in-Ok-clause-scanned c =
    let kinds : registered c.default-registry.result ≡ is_default_kind = λ j e. (c.default-registry.ensures e) j in
    let a = scan_of c.args.store c.args.filter.now c.args.projection.now in
    reported_scan a (registered c.default-registry.result) (store_seen c.args.store) c.scan.new.store c.in-Ok.report
    c.in_ok-text-in-Ok.text kinds (ap store_seen c.requires) c.in-Ok.ensures.same c.in-Ok.ensures.ends c.in_ok-text-in-Ok.ensures

pub unreported-requires : goal.unreported-requires
unreported-requires c =
    let a = scan_of c.args.store c.args.filter.now c.args.projection.now in
    let kinds : registered c.default-registry.result ≡ is_default_kind = λ j e. (c.default-registry.ensures e) j in
    let why = unreported_scan a (registered c.default-registry.result) (store_seen c.args.store) (store_seen c.scan.new.store) c.in-Err.error kinds
    (ap store_seen c.requires) c.in-Err.ensures.same c.in-Err.ensures.ends in
    record { faultless = unfailing a (store_seen c.scan.new.store) c.in-Err.error why }

pub returns-in-Err-clause-scanned : goal.returns-in-Err-clause-scanned
returns-in-Err-clause-scanned c =
    let a = scan_of c.args.store c.args.filter.now c.args.projection.now in
    let error = c.in-Err.error in
    let kinds : registered c.default-registry.result ≡ is_default_kind = λ j e. (c.default-registry.ensures e) j in
    let why = unreported_scan a (registered c.default-registry.result) (store_seen c.args.store) (store_seen c.scan.new.store) error kinds
    (ap store_seen c.requires) c.in-Err.ensures.same c.in-Err.ensures.ends in
    if_ok_then _ _ c.unreported.result
    (λ kept ended. subst (λ s. IsScanned a kept.ending (store_seen s)) (sym ended.1) (scanned_as a error kept.ending (store_seen c.scan.new.store) why ended.0))
    c.unreported.ensures.kept

pub returns-in-Err-clause-refused : goal.returns-in-Err-clause-refused
returns-in-Err-clause-refused c =
    let a = scan_of c.args.store c.args.filter.now c.args.projection.now in
    let error = c.in-Err.error in
    let kinds : registered c.default-registry.result ≡ is_default_kind = λ j e. (c.default-registry.ensures e) j in
    let why = unreported_scan a (registered c.default-registry.result) (store_seen c.args.store) (store_seen c.scan.new.store) error kinds
    (ap store_seen c.requires) c.in-Err.ensures.same c.in-Err.ensures.ends in
    if_err_then _ _ c.unreported.result (λ r refused. unscanned_as a error r (store_seen c.scan.new.store) why refused.0 refused.1) c.unreported.ensures.refused
