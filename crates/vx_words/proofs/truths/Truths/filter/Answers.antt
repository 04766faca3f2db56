use Rattle.std.proofs.Common.{◌+◌, ◌++◌, List, Option, Bool, drop, None, ◌∙◌, sym, ap, arith}
use Rattle.std.proofs.lemmas.List.{get_or_default}
use Rattle.vx_words.specs.Truths.{truths_of_words, kept_items}
use Rattle.vx_words.proofs.KeptLemmas.{kept_step, kept_end}
use Rattle.vx_words.proofs.truths.Truths.filter.Goals as goal

pub prove-unreachable-requires : goal.prove-unreachable-requires
prove-unreachable-requires c =
    let past = c.if-prove.true in
    let inside = c.in-Some.ensures.within in
    omega (arith, c.len-places.ensures)

pub overflow_add-len : goal.overflow_add-len
overflow_add-len c =
    let inside = c.if-prove.false in
    let after = c.in-Some.ensures.from_there in
    let few = c.kept.invariant.0 in
    let fits = c.len-places.type_inv in
    record { fits = omega arith }

pub overflow_add-from : goal.overflow_add-from
overflow_add-from c =
    let inside = c.if-prove.false in
    let fits = c.len-places.type_inv in
    record { fits = omega arith }

pub kept-preserved : goal.kept-preserved
kept-preserved c =
    let first = c.in-Some.ensures in
    let after = first.from_there in
    let inside = first.within in
    let few = c.kept.invariant.0 in
    let made : List (Option Bool) = truths_of_words c.kept.valid.items c.kept.values.items c.kept.len in
    let rest : List (Option Bool) = kept_items (drop (c.in-Some.i + 1) c.args.self.now) (drop (c.in-Some.i + 1) c.args.keep.now) in (
      omega arith,
      omega arith,
      c.in_ok-push_truth.ensures.tidy,
      ap (λ xs. xs ++ rest) c.in_ok-push_truth.ensures.truths
          ∙ kept_step c.args.self.now c.args.keep.now c.requires made c.kept.from c.in-Some.i c.truth_at.result first
          (get_or_default c.args.self.now c.in-Some.i c.truth_at.result None (omega (arith, c.requires)) ∙ sym c.truth_at.ensures) c.kept.invariant.3,
    )

pub returns : goal.returns
returns c =
    c.of_words.ensures
    ∙ kept_end c.args.self.now c.args.keep.now c.requires (truths_of_words c.kept.valid.items c.kept.values.items c.kept.len) c.kept.from
    c.kept.invariant.1 c.in_default.ensures c.kept.invariant.3
