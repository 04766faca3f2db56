use Rattle.std.proofs.Common.{◌≡◌, true, refl, ◌∙◌, sym, ap}
use Rattle.vx_dtype.specs.EqualLaws.{ptype_decides}
use Rattle.vx_numbers.specs.Numbers.{NumberList}
use Rattle.vx_numbers.specs.NumbersEqual.{both_decide}
use Rattle.vx_numbers.proofs.numbers.same_list.Goals as goal

pub returns-then-not-same_type : goal.returns-then-not-same_type
returns-then-not-same_type c = (
  λ n. cc,
  λ same.
      let types = c.ptype.ensures.value ∙ ap (λ (list : NumberList). list.ptype) same ∙ sym c.ptype-2.ensures.value in
      let alike : c.same_type.result ≡ true = c.same_type.ensures ∙ (ptype_decides c.ptype.result c.ptype-2.result).1 types in
      cc,
)

pub same_numbers-requires : goal.same_numbers-requires
same_numbers-requires c =
    let types : c.ptype.result ≡ c.ptype-2.result = (ptype_decides c.ptype.result c.ptype-2.result).0 (sym c.same_type.ensures ∙ c.if-not-same_type.false) in
    sym c.ptype-2.ensures.value ∙ sym types ∙ c.ptype.ensures.value

pub returns : goal.returns
returns c =
    let types : c.ptype.result ≡ c.ptype-2.result = (ptype_decides c.ptype.result c.ptype-2.result).0 (sym c.same_type.ensures ∙ c.if-not-same_type.false) in
    let one = sym c.ptype.ensures.value ∙ types ∙ c.ptype-2.ensures.value in
    both_decide c.args.left.now c.args.right.now true c.same_numbers.result (λ _. one, λ _. refl) c.same_numbers.ensures
