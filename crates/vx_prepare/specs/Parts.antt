-- For the checker: no public clause cites this. What the parts of a split expression give, and what it gives by them.
use Rattle.std.specs.Prelude.{◌≡◌, ◌⊎◌, ℕ, Bool, List, [], ◌∷◌, length, Some, None, Result, Ok, Err}
use Rattle.std.specs.List.{slice_get, list_all}
use Rattle.std.specs.Str.{bytes_eq}
use Rattle.std.specs.declared.vec.Vec.{Vec}
use Rattle.std.specs.declared.alloc.Global.{Global}
use Rattle.vx_dtype.specs.Types.{Bytes}
use Rattle.vx_expr.specs.Trees.{Tree}
use Rattle.vx_column.specs.Columns.{Column, rows_fit}
use Rattle.vx_column.specs.StructColumns.{made_struct}
use Rattle.vx_column.specs.declared.columns.ColumnRef.{ColumnRef}
use Rattle.vx_semantics.specs.Typing.{Refusal}
use Rattle.vx_semantics.specs.Meaning.{Slots}
use Rattle.vx_eval.specs.Evaluating.{Evaluates}
use Rattle.vx_eval.specs.declared.errors.EvalError.{EvalError}
use Rattle.vx_eval.specs.declared.errors.EvalError.TheVariants.{NoMemory}
use Rattle.vx_passes.specs.Splitting.{Split}
use Rattle.vx_partition.specs.Splits.{SplitColumns, first_of, in_columns}

-- what was split is seen as these columns
abbrev pub IsSplitAs : Result (Split Bytes) Refusal → SplitColumns Bytes → Type 0
IsSplitAs split s = (made : Split Bytes) × (split ≡ Ok made) × (s ≡ in_columns (λ c. c) made)

-- columns hold values of their types
abbrev pub columns_fit : List Column → Bool
columns_fit cs = list_all (λ c. rows_fit c.ty c.rows) cs

-- an expression gives this over the rows of a column
abbrev pub GivenBy : Slots → Column → Tree → Result ColumnRef EvalError → Type 0
GivenBy slots c e result = Evaluates c.ty slots c.rows e result

-- a column of so many rows stands under a name
abbrev pub IsHeld : ℕ → List Bytes → List Column → Bytes → Type 0
IsHeld len names columns a = (c : Column) × (first_of (bytes_eq a) names columns ≡ Some c) × (length c.rows ≡ len)

-- a part of the column under a name gives this over the rows of this column alone
abbrev pub PartGives : ℕ → Slots → List Bytes → List Column → Bytes → Tree → Result ColumnRef EvalError → Type 0
PartGives len slots names columns a e result =
    (c : Column) × (first_of (bytes_eq a) names columns ≡ Some c) × GivenBy slots (made_struct (a ∷ []) (c ∷ []) len None) e result

-- the parts, of the columns under these names, give these columns
abbrev pub AreGiven : ℕ → Slots → List Bytes → List Column → List Bytes → List Tree → List Column → Type 0
AreGiven len slots names columns [] [] [] = Unit {0}
AreGiven len slots names columns (a ∷ keys) (e ∷ es) (c ∷ cs) =
    PartGives len slots names columns a e (Ok c) × AreGiven len slots names columns keys es cs
AreGiven len slots names columns _ _ _ = ⊥

-- some part gives no column, by this refusal
abbrev pub SomeRefuses : ℕ → Slots → List Bytes → List Column → List Bytes → List Tree → EvalError → Type 0
SomeRefuses len slots names columns keys es r =
    (i : ℕ) × (a : Bytes) × (e : Tree) × (slice_get keys i ≡ Some a) × (slice_get es i ≡ Some e) × PartGives len slots names columns a e (Err r)

-- the same, but that want of memory may come at any time
abbrev pub RefusesAtPart : ℕ → Slots → List Bytes → List Column → List Bytes → List Tree → EvalError → Type 0
RefusesAtPart len slots names columns keys es NoMemory = Unit {0}
RefusesAtPart len slots names columns keys es r = SomeRefuses len slots names columns keys es r

-- what the parts give, one after the other
abbrev pub PartsGive : ℕ → Slots → List Bytes → List Column → List Bytes → List Tree → Result (Vec ColumnRef Global) EvalError → Type 0
PartsGive len slots names columns keys es (Ok cs) = AreGiven len slots names columns keys es cs.items
PartsGive len slots names columns keys es (Err r) = RefusesAtPart len slots names columns keys es r

-- the root gives this over what the parts give
abbrev pub RootGives : ℕ → Slots → List Bytes → List Column → SplitColumns Bytes → Result ColumnRef EvalError → Type 0
RootGives len slots names columns s result =
    (cs : List Column) × AreGiven len slots names columns s.annotations s.expressions cs
    × GivenBy slots (made_struct s.names cs len None) s.root_expression result

-- what a split expression gives: what its root gives, or the refusal of a part
abbrev pub SplitGives : ℕ → Slots → List Bytes → List Column → SplitColumns Bytes → Result ColumnRef EvalError → Type 0
SplitGives len slots names columns s (Ok c) = RootGives len slots names columns s (Ok c)
SplitGives len slots names columns s (Err r) =
    RefusesAtPart len slots names columns s.annotations s.expressions r ⊎ RootGives len slots names columns s (Err r)
