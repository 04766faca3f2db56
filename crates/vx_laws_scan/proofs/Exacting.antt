-- Pruning is exact on its class.
use Rattle.std.proofs.Common.{◌≡◌, ℕ, true, Ok}
use Rattle.std.proofs.lemmas.Bool.{and_parts, true_from_ne_false, false_from_ne_true, both_ways}
use Rattle.vx_dtype.specs.Types.{Ty}
use Rattle.vx_dtype.specs.Values.{Val, value_of}
use Rattle.vx_dtype.specs.Logic.{is_true_val}
use Rattle.vx_expr.specs.declared.Operator.{Operator}
use Rattle.vx_expr.specs.Trees.{Tree, root, literal, binary, list_contains}
use Rattle.vx_semantics.specs.Typing.{and_then, binary_type, typed_of}
use Rattle.vx_semantics.specs.Meaning.{Slots, mean}
use Rattle.vx_semantics.specs.Tables.{Zones, row_type}
use Rattle.vx_semantics.specs.Pruning.{rules_out}
use Rattle.vx_laws.proofs.Inverting.{and_then-ok}
use Rattle.vx_laws_scan.specs.Exactness.{is_operand, is_list_without_null, is_exact_filter, PathsAreBounded, PruningIsExact}
use Rattle.vx_laws_scan.proofs.Connectives.{IsExact, and-exact, or-exact}
use Rattle.vx_laws_scan.proofs.Comparisons.{plain-exact}
use Rattle.vx_laws_scan.proofs.Memberships.{membership-exact, membership-ok}

exact : (zones : Zones) (slots : Slots) (block : ℕ) (row : Val) (e : Tree) (u : Ty) → is_exact_filter e ≡ true → typed_of (row_type zones.columns) e ≡ Ok u → PathsAreBounded zones block e
    → IsExact zones slots block row e
unfolding is_exact_filter typed_of PathsAreBounded
exact zones slots block row (binary l Operator.And r) u h e b =
    let t = row_type zones.columns in
    let parts = and_parts (is_exact_filter l) (is_exact_filter r) h in
    let x = and_then-ok (typed_of t l) (λ z. and_then (typed_of t r) (binary_type Operator.And z)) u e in
    let y = and_then-ok (typed_of t r) (binary_type Operator.And x.given) u x.gave in
    and-exact zones slots block row l r (exact zones slots block row l x.given parts.0 x.was b.0) (exact zones slots block row r y.given parts.1 y.was b.1)
exact zones slots block row (binary l Operator.Or r) u h e b =
    let t = row_type zones.columns in
    let parts = and_parts (is_exact_filter l) (is_exact_filter r) h in
    let x = and_then-ok (typed_of t l) (λ z. and_then (typed_of t r) (binary_type Operator.Or z)) u e in
    let y = and_then-ok (typed_of t r) (binary_type Operator.Or x.given) u x.gave in
    or-exact zones slots block row l r (exact zones slots block row l x.given parts.0 x.was b.0) (exact zones slots block row r y.given parts.1 y.was b.1)
exact zones slots block row (list_contains (literal s) v) u h e b =
    let parts = and_parts (is_list_without_null (value_of s)) (is_operand v) h in
    membership-exact zones block slots row s v (membership-ok zones block slots row s v u parts.0 parts.1 e b)
exact zones slots block row (list_contains root v) u h e b = let no : ⊥ = cc (h) in absurd no
exact zones slots block row (list_contains _ v) u h e b = let no : ⊥ = cc (h) in absurd no
exact zones slots block row e u h k b = (plain-exact zones slots block row e u h k b).own

pub pruning_is_exact : PruningIsExact
pruning_is_exact zones slots block row e u h k b =
    let t = row_type zones.columns in
    let x = exact zones slots block row e u h k b in (
      λ r i p. false_from_ne_true (is_true_val (mean t slots row i)) (x.sound r i p),
      λ all.
          true_from_ne_false (rules_out zones slots block e)
          (λ r. let w = x.complete r in both_ways (is_true_val (mean t slots row w.tree)) (all w.tree w.replaced) w.fact),
    )
