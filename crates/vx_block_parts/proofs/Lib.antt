mod SliceLemmas
mod RuleLemmas
mod SeenLemmas
mod LawLemmas
mod JoinLemmas
