use Rattle.std.proofs.Common.{◌∙◌, ◌≡◌, ◌∷◌, [], ap, arith, Option}
use Rattle.std.proofs.lemmas.Result.{IfOk-weaker}
use Rattle.vx_dtype.specs.Values.{Typed}
use Rattle.vx_dtype.specs.TypeViews.{type_view}
use Rattle.vx_laws_topk.specs.TopRows.{bound_slots, bound_before}
use Rattle.vx_topk.specs.RowKeys.{known_key}
use Rattle.vx_topk.proofs.BoundLemmas.{bound-none, bound-last, bound-empty, last-fits, no-entries}
use Rattle.vx_topk.proofs.first_rows.FirstRows.bound.Goals as goal

pub returns-then-len-self : goal.returns-then-len-self
returns-then-len-self c ask v found next asked h = bound-none ask v found next c.args.self.now asked h (omega (arith, c.if-len-self.true, c.len.ensures.len))

pub known-requires : goal.known-requires
known-requires c =
    let h = c.requires.held in
    last-fits h.0 h.1 h.2 c.args.self.now h.3 c.in-Some.last.now c.in-Some.field-0-1.now c.in-Some.ensures.last

pub returns-in-Some : goal.returns-in-Some
returns-in-Some c ask v found next asked h =
    let k = type_view c.args.dtype.now in
    IfOk-weaker c.known.result (λ (b : Option Typed). b ≡ known_key k c.in-Some.last.now.key) (λ (b : Option Typed). b ∷ [] ≡ bound_slots ask (bound_before ask found))
    (λ (b : Option Typed) e. ap (λ (x : Option Typed). x ∷ []) e
    ∙ bound-last ask v found next c.args.self.now asked h (omega (arith, c.if-len-self.false, c.len.ensures.len)) c.in-Some.last.now c.in-Some.field-0-1.now c.in-Some.ensures.last)
    c.known.ensures

pub returns-in-None : goal.returns-in-None
returns-in-None c ask v found next asked h =
    bound-empty ask v found next c.args.self.now asked h (omega (arith, c.if-len-self.false, c.len.ensures.len))
    (no-entries c.args.self.now.rows.entries c.in-None.ensures.variant.1)
