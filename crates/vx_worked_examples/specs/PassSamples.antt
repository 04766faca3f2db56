-- Words for the worked examples of the passes: two conjuncts, literals, a scope of three columns, and what a partition is.
use Rattle.std.specs.Prelude.{ℤ, pos, List, [], ◌∷◌, map, codes, Option, Some, None, Result, Ok, Err}
use Prim.Native.String.{String}
use Rattle.std.specs.Str.{bytes_eq}
use Rattle.vx_dtype.specs.declared.PType.TheVariants.{I32, I64, U32, U64}
use Rattle.vx_dtype.specs.declared.Nullability.TheVariants.{NonNullable, Nullable}
use Rattle.vx_dtype.specs.declared.Stat.{Stat}
use Rattle.vx_dtype.specs.declared.StrictComparison.{StrictComparison}
use Rattle.vx_dtype.specs.Types.{Bytes, Ty, int_ty, bool_ty, struct_ty, no_fields, field}
use Rattle.vx_expr.specs.declared.Operator.{Operator}
use Rattle.vx_expr.specs.Trees.{Tree, root, get_item, binary, between, pack, no_trees, tree}
use Rattle.vx_semantics.specs.Typing.{Refusal}
use Rattle.vx_worked_examples.specs.Samples.{number, col}
use Rattle.vx_passes.specs.Annotating.{Entry, column_annotation}
use Rattle.vx_passes.specs.Splitting.{Split, split}
use Rattle.vx_semantics.specs.Tables.{statistic_path}
use Rattle.vx_passes.specs.Falsifying.{Question}
use Rattle.vx_passes.specs.PruningTables.{Pruning, pruning_over}

-- a constant of i32
abbrev pub n : ℤ → Tree
n i = number I32 i

-- a field of an expression
abbrev pub item : String → Tree → Tree
item f e = get_item (codes f) e

-- a column compared with a constant, and the other way round
abbrev pub column_compared : String → Operator → ℤ → Tree
column_compared c op i = binary (col c) op (n i)

abbrev pub constant_compared : ℤ → Operator → String → Tree
constant_compared i op c = binary (n i) op (col c)

-- two expressions joined by `and`
abbrev pub both : Tree → Tree → Tree
both l r = binary l Operator.And r

-- a range of a column between two constants
abbrev pub column_between : ℤ → StrictComparison → String → StrictComparison → ℤ → Tree
column_between lower below c above upper = between (col c) (n lower) (n upper) (record { lower_strict = below; upper_strict = above })

-- a struct of two fields of numbers, and two columns beside it
abbrev pub three_columns : Ty
three_columns =
    struct_ty
    (field (codes "a") (struct_ty (field (codes "x") (int_ty I32 NonNullable) (field (codes "y") (bool_ty NonNullable) no_fields)) NonNullable)
    (field (codes "b") (bool_ty NonNullable)
    (field (codes "c") (bool_ty NonNullable) no_fields)))
    NonNullable

-- a partition by columns as its root and, by name, its parts
pub record Parts : Type 0 where
  pub root_expression : Tree
  pub parts : List (Bytes × Tree)

abbrev pub parts_of : Result (Split Bytes) Refusal → Result Parts Refusal
parts_of (Ok s) = Ok (record { root_expression = s.root_expression; parts = map (λ p. (p.annotation, p.expression)) s.partitions })
parts_of (Err r) = Err r

abbrev pub column_parts : Ty → Tree → Result Parts Refusal
column_parts t e = parts_of (split bytes_eq (λ a. a) (column_annotation t) t e)

-- a part's field of a column's field of the row
abbrev pub part : String → String → Tree
part column name = get_item (codes name) (get_item (codes column) root)

-- a pruning expression as its tree and what it needs
abbrev pub pruned_by : Option Pruning → Option (Tree × List Question)
pruned_by (Some p) = Some (p.tree, p.required)
pruned_by None = None

-- the pruning expression of a filter over these statistics of the column `a`
abbrev pub pruned_with : List Stat → Tree → Option (Tree × List Question)
pruned_with stats e = pruned_by (pruning_over (map (statistic_path (codes "a" ∷ [])) stats) e)

-- a statistic of the column `a` that is needed
abbrev pub of_a : Stat → Question
of_a stat = (codes "a" ∷ [], stat)

-- the column `a` from ten up to, and without, fifty
abbrev pub ten_to_fifty : Tree
ten_to_fifty = column_between (pos 10) StrictComparison.NonStrict "a" StrictComparison.Strict (pos 50)

-- an expression with these annotations
abbrev pub annotated_by : Tree → List Bytes → Entry Bytes
annotated_by e names = record { expression = e; annotations = names }

-- the count of a column's values that are not a number is 0
abbrev pub none_is_nan : String → Tree
none_is_nan c = binary (col c) Operator.Eq (number U64 (pos 0))

-- two ranges in which no number lies
abbrev pub five_to_two : Tree
five_to_two = column_between (pos 5) StrictComparison.NonStrict "x" StrictComparison.NonStrict (pos 2)

abbrev pub ten_to_five : Tree
ten_to_five = column_between (pos 10) StrictComparison.NonStrict "x" StrictComparison.NonStrict (pos 5)

-- a scope of one number, of one that is nullable itself, of two numbers
abbrev pub x_alone : Ty
x_alone = struct_ty (field (codes "x") (int_ty I32 NonNullable) no_fields) NonNullable

abbrev pub nullable_x : Ty
nullable_x = struct_ty (field (codes "x") (int_ty I32 NonNullable) no_fields) Nullable

abbrev pub x_and_y : Ty
x_and_y = struct_ty (field (codes "x") (int_ty I32 NonNullable) (field (codes "y") (int_ty I32 NonNullable) no_fields)) NonNullable

-- a scope of two structs that both have a field `b`, of another type
abbrev pub two_giving : Ty
two_giving =
    struct_ty
    (field (codes "0") (struct_ty (field (codes "a") (int_ty I32 NonNullable) (field (codes "b") (int_ty I64 NonNullable) no_fields)) NonNullable)
    (field (codes "1") (struct_ty (field (codes "b") (int_ty U32 NonNullable) (field (codes "c") (int_ty U64 NonNullable) no_fields)) NonNullable)
    no_fields))
    NonNullable

-- the pack of their merge, and its type
abbrev pub their_merge : Tree
their_merge =
    pack (codes "a" ∷ codes "b" ∷ codes "c" ∷ [])
    (tree (item "a" (col "0")) (tree (item "b" (col "1")) (tree (item "c" (col "1")) no_trees))) NonNullable

abbrev pub their_type : Ty
their_type =
    struct_ty (field (codes "a") (int_ty I32 NonNullable) (field (codes "b") (int_ty U32 NonNullable) (field (codes "c") (int_ty U64 NonNullable) no_fields)))
    NonNullable

-- a scope of one nullable struct of two fields
abbrev pub nullable_giving : Ty
nullable_giving =
    struct_ty
    (field (codes "0") (struct_ty (field (codes "a") (int_ty I32 NonNullable) (field (codes "b") (int_ty I64 NonNullable) no_fields)) Nullable) no_fields)
    NonNullable

-- a scope of two structs that have one field of one name
abbrev pub two_of_a : Ty
two_of_a =
    struct_ty
    (field (codes "p") (struct_ty (field (codes "a") (int_ty I32 NonNullable) no_fields) NonNullable)
    (field (codes "q") (struct_ty (field (codes "a") (int_ty I32 NonNullable) no_fields) NonNullable) no_fields))
    NonNullable
