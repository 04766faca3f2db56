-- An expression of each kind over two expressions, all kinds of statistics, and raw values of each kind, for examples that hold for every kind.
use Rattle.std.specs.Prelude.{ℕ, pos, true, false, List, [], ◌∷◌, Option, Some, None, codes}
use Rattle.vx_dtype.specs.declared.PType.TheVariants.{I32, I64}
use Rattle.vx_dtype.specs.declared.Nullability.TheVariants.{NonNullable, Nullable}
use Rattle.vx_dtype.specs.declared.CompareOperator.{CompareOperator}
use Rattle.vx_dtype.specs.declared.Stat.{Stat}
use Rattle.vx_dtype.specs.declared.Stat.TheVariants.{Min, Max, NaNCount, NullCount}
use Rattle.vx_dtype.specs.Types.{int_ty}
use Rattle.vx_dtype.specs.Values.{Raw, raw_null, raw_bool, raw_int, raw_text, raw_list, raw_struct, no_raws, raw, Val, int_val}
use Rattle.vx_expr.specs.declared.Operator.{Operator}
use Rattle.vx_expr.specs.declared.FieldSelection.TheVariants.{Include}
use Rattle.vx_expr.specs.Trees.{Tree, get_item, binary, not_of, is_null_of, like, cast, list_contains, merge, select, dynamic, no_trees, tree}
use Rattle.vx_worked_examples.specs.Samples.{pack_two}

-- each kind but the row, a constant and a range, the first expression before the second
abbrev pub kinds_over : Tree → Tree → List Tree
kinds_over d e =
    get_item (codes "a") d
    ∷ binary d Operator.And e
    ∷ not_of d
    ∷ is_null_of d
    ∷ like d e true false
    ∷ cast d (int_ty I64 Nullable)
    ∷ list_contains d e
    ∷ pack_two "a" d "b" e
    ∷ merge (tree d (tree e no_trees)) Nullable
    ∷ select (Include (codes "a" ∷ [])) d
    ∷ dynamic d CompareOperator.Lt 3 (int_ty I32 NonNullable) true
    ∷ []

-- all kinds of statistics
abbrev pub stats : List Stat
stats = Min ∷ Max ∷ NaNCount ∷ NullCount ∷ []

-- the statistics of numbers from the first to the second
abbrev pub range_of : ℕ → ℕ → Stat → Option Val
range_of least greatest Min = Some (int_val I32 (pos least))
range_of least greatest Max = Some (int_val I32 (pos greatest))
range_of least greatest _ = None

-- raw values of each kind, of which no two are the same
abbrev pub raws : List Raw
raws =
    raw_null
    ∷ raw_bool true
    ∷ raw_bool false
    ∷ raw_int (pos 1)
    ∷ raw_int (pos 2)
    ∷ raw_text (codes "a")
    ∷ raw_text (codes "b")
    ∷ raw_list no_raws
    ∷ raw_list (raw (raw_int (pos 1)) no_raws)
    ∷ raw_list (raw (raw_int (pos 1)) (raw raw_null no_raws))
    ∷ raw_list (raw (raw_int (pos 1)) (raw (raw_int (pos 2)) no_raws))
    ∷ raw_struct no_raws
    ∷ raw_struct (raw (raw_int (pos 2)) no_raws)
    ∷ raw_struct (raw (raw_int (pos 2)) (raw raw_null no_raws))
    ∷ []
