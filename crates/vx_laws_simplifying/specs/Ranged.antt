-- Ranges in the place of comparisons keep type, meaning, and what is asked.
use Rattle.std.specs.Prelude.{◌≡◌, List, Ok}
use Rattle.vx_dtype.specs.Types.{Bytes, Ty}
use Rattle.vx_dtype.specs.Values.{Val}
use Rattle.vx_expr.specs.Trees.{Tree}
use Rattle.vx_semantics.specs.Typing.{typed_of}
use Rattle.vx_semantics.specs.Meaning.{Slots, mean}
use Rattle.vx_semantics.specs.Breaks.{Cause}
use Rattle.vx_semantics.specs.Asked.{asked_columns}
use Rattle.vx_passes.specs.Ranges.{ranged}
use Rattle.vx_laws_simplifying.specs.Asking.{breaks_along, asks_along}

-- a strictly typed expression has with its ranges the same type, nullability included
abbrev pub RangesKeepType : Type 0
RangesKeepType = (t : Ty) (e : Tree) (u : Ty) → typed_of t e ≡ Ok u → typed_of t (ranged e) ≡ Ok u

-- an expression, typed or not, means with its ranges what it means, at every row
abbrev pub RangesKeepMeaning : Type 0
RangesKeepMeaning = (t : Ty) (slots : Slots) (row : Val) (e : Tree) → mean t slots row (ranged e) ≡ mean t slots row e

-- for each path and cause a node that it asks with its ranges breaks where one does that it asks
abbrev pub RangesKeepBreaks : Type 0
RangesKeepBreaks =
    (cause : Cause) (t : Ty) (slots : Slots) (row : Val) (e : Tree) (path : List Bytes)
    → breaks_along cause t slots row (ranged e) path ≡ breaks_along cause t slots row e path

-- for each path it asks with its ranges the same columns
abbrev pub RangesKeepColumns : Type 0
RangesKeepColumns = (t : Ty) (e : Tree) (path : List Bytes) (c : Bytes) → asks_along t (ranged e) path c ≡ asks_along t e path c

-- and in the whole the same ones in the same order
abbrev pub RangesKeepAskedColumns : Type 0
RangesKeepAskedColumns = (t : Ty) (e : Tree) → asked_columns t (ranged e) ≡ asked_columns t e
