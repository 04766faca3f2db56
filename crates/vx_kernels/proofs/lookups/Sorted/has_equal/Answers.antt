use Rattle.std.proofs.Common.{sym, ◌∙◌, subst}
use Rattle.std.specs.List.Sorted.{IsSorted}
use Rattle.vx_kernels.proofs.LookupLemmas.{searched_any}
use Rattle.vx_kernels.proofs.lookups.Sorted.has_equal.Goals as goal

pub returns : goal.returns
returns g c =
    let sorted : IsSorted g.T.Ord.cmp c.as_slice.result.now = subst (λ xs. IsSorted g.T.Ord.cmp xs) (sym c.as_slice.ensures.value) c.args.self.now.rising in
    let found = searched_any g.met.T.Ord.total c.as_slice.result.now c.args.x.now c.binary_search.result sorted c.binary_search.ensures.bound c.binary_search.ensures.position in
    rw (← c.as_slice.ensures.value) (c.is_ok.ensures.value ∙ found)
