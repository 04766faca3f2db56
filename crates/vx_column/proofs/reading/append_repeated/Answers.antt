use Rattle.std.proofs.Common.{◌≡◌, ap, ◌∙◌, subst, ◌+◌, List, take, length, arith}
use Rattle.std.specs.List.{AppendsClonesOf}
use Rattle.std.proofs.lemmas.List.{take_all}
use Rattle.vx_dtype.specs.RawViews.{raw_view}
use Rattle.vx_dtype.specs.declared.values.ScalarValue.{ScalarValue}
use Rattle.vx_column.proofs.AppendLemmas.{appends_repeated}
use Rattle.vx_column.proofs.reading.append_repeated.Goals as goal

pub returns-clause-rows : goal.returns-clause-rows
returns-clause-rows c t f =
    let old = c.args.values.now.items in
    let new = c.resize.new.self.items in
    let reserved = c.reserve.new.self.items in
    let n = c.len.result + c.args.len in
    let whole : take (c.len.result + c.args.len) reserved ≡ old = take_all n reserved (omega (arith, c.len.ensures, c.reserve.new.self.ok.0)) ∙ c.in_ok-reserve.ensures.items in
    let number : length new ≡ length old + c.args.len =
    omega (arith, c.resize.new.self.ok.0, c.in_ok-resize.ensures.len, c.len.ensures, c.reserve.new.self.ok.0, ap length c.in_ok-reserve.ensures.items) in
    let clones = subst (λ (xs : List ScalarValue). AppendsClonesOf (λ x y. raw_view y ≡ raw_view x) xs new c.in_ok-clone.field-0) whole c.in_ok-resize.ensures.items in
    appends_repeated t c.args.len old new c.args.value.now c.in_ok-clone.field-0 f c.in_ok-clone.ensures.cases number clones
