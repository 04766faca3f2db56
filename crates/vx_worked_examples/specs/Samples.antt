-- Words for the worked examples: constants, columns, tables of one column, and the answer of a scan as one record.
use Rattle.std.specs.Prelude.{ℕ, zero, suc, ℤ, pos, Bool, true, false, List, [], ◌∷◌, map, length, codes, Option, Some, None, Result}
use Prim.Native.String.{String}
use Rattle.vx_dtype.specs.declared.PType.{PType}
use Rattle.vx_dtype.specs.declared.PType.TheVariants.{U8, U16, U32, U64, I8, I16, I32, I64}
use Rattle.vx_dtype.specs.declared.Nullability.TheVariants.{NonNullable, Nullable}
use Rattle.vx_dtype.specs.declared.Stat.{Stat}
use Rattle.vx_dtype.specs.declared.Stat.TheVariants.{Min, Max}
use Rattle.vx_dtype.specs.declared.CompareOperator.{CompareOperator}
use Rattle.vx_dtype.specs.declared.StrictComparison.{StrictComparison}
use Rattle.vx_dtype.specs.declared.BetweenOptions.{BetweenOptions}
use Rattle.vx_dtype.specs.Types.{Bytes, Ty, bool_ty, int_ty, text_ty, list_ty, struct_ty, Fields, no_fields, field}
use Rattle.vx_dtype.specs.Values.{Vals, no_vals, val}
use Rattle.vx_dtype.specs.Values.{raw_null, raw_bool, raw_int, raw_text, raw_list, Raws, no_raws, raw, Val, null_val, bool_val, int_val, fault, struct_val}
use Rattle.vx_dtype.specs.Values.{no_members, member, Typed}
use Rattle.vx_dtype.specs.Fits.{fits}
use Rattle.vx_expr.specs.declared.Operator.{Operator}
use Rattle.vx_expr.specs.Trees.{Tree, root, literal, get_item, binary, not_of, pack, dynamic, no_trees, tree}
use Rattle.vx_semantics.specs.Typing.{Refusal, typed_of}
use Rattle.vx_semantics.specs.Meaning.{Slots, mean}
use Rattle.vx_semantics.specs.Tables.{Table, ZoneStat, Zones, row_type}
use Rattle.vx_semantics.specs.Scans.{kept_rows_of, skipped_blocks, reads_of, read_columns, phases_of, phase_breaks_by}
use Rattle.vx_semantics.specs.Breaks.{Cause, by_sum, by_cast, break_of}

-- a column
abbrev pub col : String → Tree
col name = get_item (codes name) root

-- a constant of an integer type, a boolean, a text
abbrev pub number : PType → ℤ → Tree
number p i = literal (record { ty = int_ty p NonNullable; value = raw_int i })

abbrev pub boolean : Bool → Tree
boolean b = literal (record { ty = bool_ty NonNullable; value = raw_bool b })

abbrev pub quoted : String → Tree
quoted s = literal (record { ty = text_ty NonNullable; value = raw_text (codes s) })

-- numbers as a list of raw values
abbrev pub raw_numbers : List ℤ → Raws
raw_numbers [] = no_raws
raw_numbers (i ∷ is) = raw (raw_int i) (raw_numbers is)

-- the null of a type
abbrev pub null_of : Ty → Tree
null_of t = literal (record { ty = t; value = raw_null })

-- two operands under an operator
infix 20 ◌⟨◌⟩◌
abbrev pub ◌⟨◌⟩◌ : Tree → Operator → Tree → Tree
l ⟨ op ⟩ r = binary l op r

-- one member, one field
abbrev pub alone : String → Val → Val
alone name v = struct_val (member (codes name) v no_members)

abbrev pub only : String → Ty → Fields
only name t = field (codes name) t no_fields

-- numbers of an integer type as rows of one column
abbrev pub rows_of_numbers : PType → String → List ℤ → List Val
rows_of_numbers p name is = map (λ i. alone name (int_val p i)) is

-- numbers of an integer type as values
abbrev pub numbers : PType → List ℤ → List Val
numbers p is = map (int_val p) is

-- a table of one column of an integer type
abbrev pub number_table : PType → String → List (List ℤ) → Table
number_table p name blocks = record { columns = only name (int_ty p NonNullable); blocks = map (rows_of_numbers p name) blocks }

-- values of an integer type as a statistic holds them
abbrev pub bounds : PType → List ℤ → List Typed
bounds p is = map (λ i. record { ty = int_ty p Nullable; value = raw_int i }) is

-- a statistic of a path
abbrev pub statistic : List String → Stat → List Typed → ZoneStat
statistic path stat values = record { path = map codes path; stat = stat; values = values }

-- the zones of a table with these statistics
abbrev pub zones_of : Table → List ZoneStat → Zones
zones_of table stats = record { columns = table.columns; lengths = map length table.blocks; stats = stats }

-- what a scan answers: the strict types of filter and projection, the rows over the kept blocks, the skipped blocks, the columns that are read, the reads
pub record Answer : Type 0 where
  pub filter_type : Result Ty Refusal
  pub projection_type : Result Ty Refusal
  pub rows : List Val
  pub skipped : List ℕ
  pub columns : List Bytes
  pub reads : List (ℕ × Bytes)

abbrev pub answer_of : Table → List ZoneStat → Slots → Tree → Tree → Answer
answer_of table stats slots filter_expr projection =
    record {
      filter_type = typed_of (row_type table.columns) filter_expr;
      projection_type = typed_of (row_type table.columns) projection;
      rows = kept_rows_of table (zones_of table stats) slots filter_expr projection;
      skipped = skipped_blocks (zones_of table stats) slots filter_expr;
      columns = read_columns table (reads_of table (zones_of table stats) slots filter_expr projection);
      reads = reads_of table (zones_of table stats) slots filter_expr projection;
    }

-- the strict types of a filter and a projection over a table
abbrev pub types_of : Table → Tree → Tree → Result Ty Refusal × Result Ty Refusal
types_of table filter_expr projection = (typed_of (row_type table.columns) filter_expr, typed_of (row_type table.columns) projection)

-- of each phase of a scan in order, whether it breaks by a sum, and whether by a cast
abbrev pub breaks_in_order : Table → List ZoneStat → Slots → Tree → Tree → List (Bool × Bool)
breaks_in_order table stats slots filter_expr projection =
    map
    (λ phase. (phase_breaks_by by_sum (row_type table.columns) slots phase, phase_breaks_by by_cast (row_type table.columns) slots phase))
    (phases_of table (zones_of table stats) slots filter_expr projection)

-- no phase breaks; one phase that breaks by a sum, and by a cast
abbrev pub sound : Bool × Bool
sound = (false, false)

abbrev pub broken_sum : Bool × Bool
broken_sum = (true, false)

abbrev pub broken_cast : Bool × Bool
broken_cast = (false, true)

-- the table of the first example: twelve and twenty are above ten
abbrev pub two_blocks : Table
two_blocks = number_table I32 "x" ((pos 1 ∷ pos 12 ∷ []) ∷ (pos 20 ∷ []) ∷ [])

-- a table of small numbers, the greatest among them, in two blocks
abbrev pub up_to_127 : Table
up_to_127 = number_table I8 "x" ((pos 1 ∷ pos 127 ∷ []) ∷ (pos 5 ∷ []) ∷ [])

-- the filter of the first example: the column is above ten
abbrev pub above_ten : Tree
above_ten = col "x" ⟨ Operator.Gt ⟩ number I32 (pos 10)

-- reads of one column in each of these blocks
abbrev pub reads_in : String → List ℕ → List (ℕ × Bytes)
reads_in name blocks = map (λ b. (b, codes name)) blocks

-- a table of a nullable struct and a struct, in one row: null, and two
abbrev pub two_structs : Table
two_structs = record {
  columns = field (codes "p") (struct_ty (only "a" (int_ty I32 NonNullable)) Nullable) (only "q" (struct_ty (only "b" (int_ty I32 NonNullable)) NonNullable));
  blocks = (struct_val (member (codes "p") null_val (member (codes "q") (alone "b" (int_val I32 (pos 2))) no_members)) ∷ []) ∷ [];
}

-- a table whose column `a_b` and whose field `b` of `a` have one joined name, in one row: one, and one
abbrev pub joined_twice : Table
joined_twice = record {
  columns = field (codes "a_b") (int_ty I32 NonNullable) (only "a" (struct_ty (only "b" (int_ty I32 NonNullable)) NonNullable));
  blocks = (struct_val (member (codes "a_b") (int_val I32 (pos 1)) (member (codes "a") (alone "b" (int_val I32 (pos 1))) no_members)) ∷ []) ∷ [];
}

-- a table of two small columns in one row: 127, and 5
abbrev pub two_small : Table
two_small = record {
  columns = field (codes "x") (int_ty I8 NonNullable) (only "y" (int_ty I8 NonNullable));
  blocks = (struct_val (member (codes "x") (int_val I8 (pos 127)) (member (codes "y") (int_val I8 (pos 5)) no_members)) ∷ []) ∷ [];
}

-- a pack of one value, of two values
abbrev pub pack_one : String → Tree → Tree
pack_one f e = pack (codes f ∷ []) (tree e no_trees) NonNullable

abbrev pub pack_two : String → Tree → String → Tree → Tree
pack_two f e g d = pack (codes f ∷ codes g ∷ []) (tree e (tree d no_trees)) NonNullable

-- a constant list of numbers
abbrev pub number_list : PType → List ℤ → Tree
number_list p is = literal (record { ty = list_ty (int_ty p NonNullable) NonNullable; value = raw_list (raw_numbers is) })

-- a number of a nullable type, or null
abbrev pub number_or_null : Option ℤ → Val
number_or_null None = null_val
number_or_null (Some i) = int_val I32 i

-- a table of one nullable column
abbrev pub nullable_table : String → List (List (Option ℤ)) → Table
nullable_table name blocks = record { columns = only name (int_ty I32 Nullable); blocks = map (λ rows. map (λ i. alone name (number_or_null i)) rows) blocks }

-- the rows of a block: five, null and nine
abbrev pub rows_with_null : List Val
rows_with_null = alone "x" (int_val I32 (pos 5)) ∷ alone "x" null_val ∷ alone "x" (int_val I32 (pos 9)) ∷ []

-- a slot with a value
abbrev pub slot_of : PType → ℤ → Option Typed
slot_of p i = Some (record { ty = int_ty p NonNullable; value = raw_int i })

-- a struct of each kind of type, nullable and not: numbers, booleans, texts, a list, and two structs of which both have a field `q`
abbrev pub struct_p_q : Ty
struct_p_q = struct_ty (field (codes "p") (int_ty I32 NonNullable) (only "q" (text_ty NonNullable))) NonNullable

abbrev pub struct_q_r : Ty
struct_q_r = struct_ty (field (codes "q") (bool_ty NonNullable) (only "r" (int_ty I32 NonNullable))) Nullable

abbrev pub mixed : Ty
mixed =
    struct_ty
    (field (codes "a") (int_ty I32 NonNullable)
    (field (codes "b") (int_ty I32 Nullable)
    (field (codes "f") (bool_ty NonNullable)
    (field (codes "g") (bool_ty Nullable)
    (field (codes "t") (text_ty NonNullable)
    (field (codes "u") (text_ty Nullable)
    (field (codes "l") (list_ty (int_ty I32 Nullable) Nullable)
    (field (codes "s") struct_p_q
    (only "n" struct_q_r)))))))))
    NonNullable

-- the zones of one block whose numbers lie from five to nine, and the same with one of the two bounds alone
abbrev pub five_to_nine : Zones
five_to_nine =
    zones_of (number_table I32 "x" ((pos 5 ∷ pos 9 ∷ []) ∷ []))
    (statistic ("x" ∷ []) Min (bounds I32 (pos 5 ∷ [])) ∷ statistic ("x" ∷ []) Max (bounds I32 (pos 9 ∷ [])) ∷ [])

abbrev pub from_five : Zones
from_five = zones_of (number_table I32 "x" ((pos 5 ∷ pos 9 ∷ []) ∷ [])) (statistic ("x" ∷ []) Min (bounds I32 (pos 5 ∷ [])) ∷ [])

abbrev pub up_to_nine : Zones
up_to_nine = zones_of (number_table I32 "x" ((pos 5 ∷ pos 9 ∷ []) ∷ [])) (statistic ("x" ∷ []) Max (bounds I32 (pos 9 ∷ [])) ∷ [])

-- all comparisons by their numbers
abbrev pub comparisons : List CompareOperator
comparisons = CompareOperator.Eq ∷ CompareOperator.NotEq ∷ CompareOperator.Gt ∷ CompareOperator.Gte ∷ CompareOperator.Lt ∷ CompareOperator.Lte ∷ []

-- a comparison of the column with the value of the first slot, with this default
abbrev pub with_slot : CompareOperator → Bool → Tree
with_slot op default = dynamic (col "x") op 0 (int_ty I32 NonNullable) default

-- the integer types in their order
abbrev pub integer_types : List PType
integer_types = U8 ∷ U16 ∷ U32 ∷ U64 ∷ I8 ∷ I16 ∷ I32 ∷ I64 ∷ []

-- whether each number is one of the integer type in its place
abbrev pub each_fits : List PType → List ℤ → List Bool
each_fits [] is = []
each_fits (p ∷ ps) [] = []
each_fits (p ∷ ps) (i ∷ is) = fits (raw_int i) (int_ty p NonNullable) ∷ each_fits ps is

-- types of each kind, of which no two are the same: a boolean, two numbers, a text, two lists, a struct without fields, and two with one
abbrev pub kinds_of_types : List Ty
kinds_of_types =
    bool_ty NonNullable
    ∷ int_ty I32 NonNullable
    ∷ int_ty I64 NonNullable
    ∷ text_ty NonNullable
    ∷ list_ty (int_ty I32 NonNullable) NonNullable
    ∷ list_ty (text_ty NonNullable) NonNullable
    ∷ struct_ty no_fields NonNullable
    ∷ struct_ty (only "a" (bool_ty NonNullable)) NonNullable
    ∷ struct_ty (only "b" (bool_ty NonNullable)) NonNullable
    ∷ []

-- all operators by their numbers
abbrev pub operators : List Operator
operators =
    Operator.Eq ∷ Operator.NotEq ∷ Operator.Gt ∷ Operator.Gte ∷ Operator.Lt ∷ Operator.Lte ∷ Operator.And ∷ Operator.Or ∷ Operator.Add ∷ Operator.Sub ∷ []

-- true, false, null and a fault
abbrev pub values_of_truth : List Val
values_of_truth = bool_val true ∷ bool_val false ∷ null_val ∷ fault ∷ []

-- the ends of a range: how it is bound below and above
abbrev pub ends : StrictComparison → StrictComparison → BetweenOptions
ends lower upper = record { lower_strict = lower; upper_strict = upper }

-- what an expression means that asks no column, and by what it breaks
abbrev pub mean_of : Tree → Val
mean_of e = mean (struct_ty no_fields NonNullable) [] (struct_val no_members) e

abbrev pub break_in : Tree → Option Cause
break_in e = break_of (struct_ty no_fields NonNullable) [] (struct_val no_members) e

-- a table of two blocks of one row, one and twenty, and its bounds
abbrev pub one_and_twenty : Table
one_and_twenty = number_table I32 "x" ((pos 1 ∷ []) ∷ (pos 20 ∷ []) ∷ [])

abbrev pub one_and_twenty_bounds : List ZoneStat
one_and_twenty_bounds =
    statistic ("x" ∷ []) Min (bounds I32 (pos 1 ∷ pos 20 ∷ [])) ∷ statistic ("x" ∷ []) Max (bounds I32 (pos 1 ∷ pos 20 ∷ [])) ∷ []

-- what an expression without slots means at each row of a type
abbrev pub values_over : Ty → List Val → Tree → List Val
values_over t rows e = map (λ row. mean t [] row e) rows

-- an expression negated so many times
abbrev pub negated : ℕ → Tree → Tree
negated zero e = e
negated (suc n) e = not_of (negated n e)

-- numbers as a list value
abbrev pub numbers_in : List ℤ → Vals
numbers_in [] = no_vals
numbers_in (i ∷ is) = val (int_val I32 i) (numbers_in is)

-- a row of two numbers
abbrev pub row_of_two : String → ℤ → String → ℤ → Val
row_of_two f i g j = struct_val (member (codes f) (int_val I32 i) (member (codes g) (int_val I32 j) no_members))

-- a struct type of two fields
abbrev pub two_fields : String → Ty → String → Ty → Ty
two_fields f t g u = struct_ty (field (codes f) t (only g u)) NonNullable
