-- What explaining two texts answers, and what showing one does.
use Rattle.std.specs.Prelude.{◌≡◌, Bool, [], ◌++◌, codes, Result, Ok, Err}
use Rattle.std.specs.String.{string_bytes}
use Rattle.std.specs.declared.string.String.{String}
use Rattle.std.specs.declared.alloc.Global.{Global}
use Rattle.vx_dtype.specs.Types.{Bytes, Ty}
use Rattle.vx_expr.specs.Trees.{Tree}
use Rattle.vx_expr.specs.CompactTexts.{compact_text}
use Rattle.vx_semantics.specs.Tables.{Zones, row_type}
use Rattle.vx_wire.specs.declared.encodings.ExprEncoding.{ExprEncoding}
use Rattle.vx_scan.specs.ErrorKinds.{ErrorKind, of_memory, of_text, of_types, kind_of, OnlyOfText}
use Rattle.vx_scan.specs.Scanning.{scan_type}
use Rattle.vx_scan.specs.Texts.{SpellsTree, IsTextRefused, SpellBoth, AreRefused}
use Rattle.vx_scan.specs.declared.errors.Side.TheVariants.{Text}
use Rattle.vx_scan.specs.declared.errors.ScanError.{ScanError}
use Rattle.vx_text.specs.Writing.{query_text}
use Rattle.vx_explain.specs.Explanations.{explain_text}

-- the explanation of two texts over a table with these zones: they spell a filter and a projection, strictly typed over its rows, the filter a boolean
pub record HasExplanation (holds : ExprEncoding → Bool) (zones : Zones) (filter_text projection_text text : Bytes) : Type 0 where
  pub filter : Tree
  pub projection : Tree
  pub spelled : SpellBoth holds filter_text projection_text filter projection
  pub ty : Ty
  pub typed : scan_type (row_type zones.columns) [] filter projection ≡ Ok ty
  pub told : text ≡ explain_text zones filter projection

-- why two texts have no explanation, by the kind of the error: they are refused before a scan's first block, as texts or by the typing of the expressions that
-- they spell; want of memory may come at any time
abbrev pub IsUnexplained : ErrorKind → (ExprEncoding → Bool) → Zones → Bytes → Bytes → ScanError → Type 0
IsUnexplained of_memory holds zones filter_text projection_text e = Unit {0}
IsUnexplained of_text holds zones filter_text projection_text e = AreRefused holds filter_text projection_text e
IsUnexplained of_types holds zones filter_text projection_text e =
    (f : Tree) × (p : Tree) × SpellBoth holds filter_text projection_text f p × (scan_type (row_type zones.columns) [] f p ≡ Err e)
IsUnexplained _ holds zones filter_text projection_text e = ⊥

-- two texts are explained, or refused
abbrev pub Explains : (ExprEncoding → Bool) → Zones → Bytes → Bytes → Result (String Global) ScanError → Type 0
Explains holds zones filter_text projection_text (Ok text) = HasExplanation holds zones filter_text projection_text (string_bytes text)
Explains holds zones filter_text projection_text (Err e) = IsUnexplained (kind_of e) holds zones filter_text projection_text e

-- the line of an expression: its compact text
abbrev pub shown_line : Tree → Bytes
shown_line e = compact_text e ++ codes "\n"

-- the line of the query that names an expression
abbrev pub query_line : Tree → Bytes
query_line e = query_text e ++ codes "\n"

-- the text of the expression that bytes spell, or why they spell none; want of memory may come at any time
abbrev pub Shows : (Tree → Bytes) → (ExprEncoding → Bool) → Bytes → Result (String Global) ScanError → Type 0
Shows shown holds bytes (Ok text) = (e : Tree) × SpellsTree holds bytes e × (string_bytes text ≡ shown e)
Shows shown holds bytes (Err why) = OnlyOfText (kind_of why) (IsTextRefused holds Text bytes why)
