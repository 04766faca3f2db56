-- The passes of simplifying by types, one after another.
use Rattle.vx_semantics.specs.Typing.{and_then}
use Rattle.vx_passes.specs.Simplifying.{simplified}
use Rattle.vx_passes.specs.Selecting.{without_select}
use Rattle.vx_passes.specs.Merging.{without_merge}
use Rattle.vx_passes.specs.TypedSimplifying.{simplified_typed}
use Rattle.vx_laws_simplifying.proofs.Passes.{MakesKept, passes-then}
use Rattle.vx_laws_simplifying.proofs.PackedFields.{simplified-kept}
use Rattle.vx_laws_removing.proofs.Removed.{without_select-kept, without_merge-kept}

pub simplified_typed-kept : MakesKept simplified_typed
simplified_typed-kept =
    passes-then (λ t e. simplified e) (λ t a. and_then (without_select t a) (λ b. and_then (without_merge t b) simplified)) simplified-kept
    (passes-then without_select (λ t b. and_then (without_merge t b) simplified) without_select-kept
    (passes-then without_merge (λ t e. simplified e) without_merge-kept simplified-kept))
