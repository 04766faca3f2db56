use Rattle.std.proofs.Common.{◌≡◌, true, sym, ◌∙◌}
use Rattle.std.specs.Prelude.{Decides}
use Rattle.vx_dtype.specs.EqualLaws.{ty_decides}
use Rattle.vx_dtype.specs.Equal.{ty_eq}
use Rattle.vx_column.specs.ColumnEqualLaws.{column_decides}
use Rattle.vx_column.proofs.EqualLemmas.{types_answer, decide_same}
use Rattle.vx_column.proofs.SameLemmas.{columns_answer}
use Rattle.vx_column.proofs.equality.ColumnRefPartialEq.eq.Goals as goal

pub same-requires : goal.same-requires
same-requires c =
    let told : ty_eq c.args.self.now.ty c.args.other.now.ty ≡ true = (λ i. ty_eq (sym c.dtype.ensures.shown i) (sym c.dtype-2.ensures.shown i)) ∙ sym c.eq.ensures ∙ c.if-eq.true in
    (ty_decides c.args.self.now.ty c.args.other.now.ty).0 told

pub returns-then-eq-clause-gives : goal.returns-then-eq-clause-gives
returns-then-eq-clause-gives c =
    let told : ty_eq c.args.self.now.ty c.args.other.now.ty ≡ true = (λ i. ty_eq (sym c.dtype.ensures.shown i) (sym c.dtype-2.ensures.shown i)) ∙ sym c.eq.ensures ∙ c.if-eq.true in
    let types : c.args.self.now.ty ≡ c.args.other.now.ty = (ty_decides c.args.self.now.ty c.args.other.now.ty).0 told in
    decide_same (c.args.self.now ≡ c.args.other.now) _ _ (columns_answer c.args.self.now c.args.other.now _ types c.same.ensures) (column_decides c.args.self.now c.args.other.now)

pub returns-then-eq-clause-same : goal.returns-then-eq-clause-same
returns-then-eq-clause-same c =
    let told : ty_eq c.args.self.now.ty c.args.other.now.ty ≡ true = (λ i. ty_eq (sym c.dtype.ensures.shown i) (sym c.dtype-2.ensures.shown i)) ∙ sym c.eq.ensures ∙ c.if-eq.true in
    let types : c.args.self.now.ty ≡ c.args.other.now.ty = (ty_decides c.args.self.now.ty c.args.other.now.ty).0 told in
    columns_answer c.args.self.now c.args.other.now _ types c.same.ensures

pub returns-else-eq-clause-same : goal.returns-else-eq-clause-same
returns-else-eq-clause-same c =
    let told : c.eq.result ≡ ty_eq c.args.self.now.ty c.args.other.now.ty = c.eq.ensures ∙ (λ i. ty_eq (c.dtype.ensures.shown i) (c.dtype-2.ensures.shown i)) in
    let decides : Decides c.eq.result (c.args.self.now.ty ≡ c.args.other.now.ty) = rw told (ty_decides c.args.self.now.ty c.args.other.now.ty) in
    types_answer c.args.self.now c.args.other.now c.eq.result decides c.if-eq.false
