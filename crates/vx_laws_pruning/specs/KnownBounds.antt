-- Bounds of accepted zones meet what exact pruning asks of them.
use Rattle.std.specs.Prelude.{ℕ, ◌≡◌, true, false, Some, Ok}
use Rattle.std.specs.Bool.{Decides}
use Rattle.vx_dtype.specs.declared.CompareOperator.{CompareOperator}
use Rattle.vx_dtype.specs.declared.Stat.TheVariants.{Min, Max}
use Rattle.vx_dtype.specs.Types.{Ty}
use Rattle.vx_dtype.specs.Values.{Val}
use Rattle.vx_dtype.specs.Logic.{is_true_val}
use Rattle.vx_dtype.specs.Order.{compares}
use Rattle.vx_expr.specs.Trees.{Tree, root, get_item, binary, not_of, between, list_contains}
use Rattle.vx_semantics.specs.Typing.{typed_of}
use Rattle.vx_semantics.specs.Meaning.{Slots, mean}
use Rattle.vx_semantics.specs.Tables.{Zones, row_type}
use Rattle.vx_semantics.specs.Paths.{path_of}
use Rattle.vx_semantics.specs.Pruning.{known_at, rules_out}
use Rattle.vx_semantics.specs.Instances.{IsInstance}
use Rattle.vx_laws_scan.specs.Exactness.{is_exact_filter, IsBounded}
use Rattle.vx_laws_pruning.specs.PruningLaws.{AreAccepted}

-- a least and a greatest value of a path are known in a block, the least at most the greatest
pub record HasKnownBounds (zones : Zones) (block : ℕ) (e : Tree) : Type 0 where
  pub low : Val
  pub high : Val
  pub least : known_at zones block Min (path_of e) ≡ Some low
  pub greatest : known_at zones block Max (path_of e) ≡ Some high
  pub in_order : compares CompareOperator.Lte low high ≡ true

-- over accepted zones such a path is bounded: it has a strict type, and both are values of that type
abbrev pub KnownBoundsAreBounds : Type 0
KnownBoundsAreBounds = (zones : Zones) (block : ℕ) (e : Tree) → AreAccepted zones → HasKnownBounds zones block e → IsBounded zones block e

-- each path of a filter of the exact class is so
unfoldable pub PathsHaveKnownBounds : Zones → ℕ → Tree → Type 0
PathsHaveKnownBounds zones block root = HasKnownBounds zones block root
PathsHaveKnownBounds zones block (get_item f e) = HasKnownBounds zones block (get_item f e)
PathsHaveKnownBounds zones block (binary l op r) = PathsHaveKnownBounds zones block l × PathsHaveKnownBounds zones block r
PathsHaveKnownBounds zones block (not_of e) = PathsHaveKnownBounds zones block e
PathsHaveKnownBounds zones block (between e lower upper options) =
    PathsHaveKnownBounds zones block e × PathsHaveKnownBounds zones block lower × PathsHaveKnownBounds zones block upper
PathsHaveKnownBounds zones block (list_contains l e) = PathsHaveKnownBounds zones block e
PathsHaveKnownBounds zones block _ = Unit {0}

-- over accepted zones a strictly typed filter of the exact class, whose paths have known bounds in a block,
-- rules the block out exactly where no instance of the filter means true
abbrev pub AcceptedPruningIsExact : Type 0
AcceptedPruningIsExact =
    (zones : Zones) (slots : Slots) (block : ℕ) (row : Val) (filter_expr : Tree) (u : Ty)
    → AreAccepted zones → is_exact_filter filter_expr ≡ true → typed_of (row_type zones.columns) filter_expr ≡ Ok u
    → PathsHaveKnownBounds zones block filter_expr
    → Decides (rules_out zones slots block filter_expr)
    ((instance_expr : Tree) → IsInstance zones block filter_expr instance_expr → is_true_val (mean (row_type zones.columns) slots row instance_expr) ≡ false)
