-- What is told of an explanation's parts and of its pruning, and how its refusals come.
use Rattle.std.proofs.Common.{◌≡◌, ◌∙◌, sym, ap, refl, Bool, List, [], ◌++◌, append_assoc, map, codes, Option, Some, None, Err, inl, inr}
use Rattle.std.specs.List.{filter}
use Rattle.vx_dtype.specs.declared.Stat.{Stat}
use Rattle.vx_dtype.specs.Types.{Bytes, Fields}
use Rattle.vx_dtype.specs.Texts.{quoted_text}
use Rattle.vx_expr.specs.Trees.{Tree}
use Rattle.vx_expr.specs.CompactTexts.{compact_text}
use Rattle.vx_semantics.specs.Meaning.{Slots}
use Rattle.vx_semantics.specs.Tables.{Zones, ZoneStat, row_type, joined_name}
use Rattle.vx_semantics.specs.Typing.{and_then}
use Rattle.vx_passes.specs.PruningTables.{Pruning}
use Rattle.vx_laws_columns.specs.Columns.{split_by_columns}
use Rattle.vx_partition.specs.Splits.{split_view}
use Rattle.vx_partition.specs.SplitTexts.{split_text}
use Rattle.vx_prune.specs.Required.{PrunesBy, is_required}
use Rattle.vx_prune.specs.declared.relations.Relation.{Relation}
use Rattle.vx_prepare.specs.Preparing.{IsPrepared}
use Rattle.vx_prepare.specs.declared.prepared.PreparedExpr.{PreparedExpr}
use Rattle.vx_wire.specs.declared.encodings.ExprEncoding.{ExprEncoding}
use Rattle.vx_scan.specs.ErrorKinds.{ErrorKind, of_memory, of_text, of_types, of_break, of_read, kind_of, OnlyOfText, OnlyOfTypes}
use Rattle.vx_scan.specs.Opening.{Decodes, PreparesBoth}
use Rattle.vx_scan.specs.Scanning.{scan_type}
use Rattle.vx_scan.specs.Texts.{SpellsTree, IsTextRefused, SpellBoth, AreRefused}
use Rattle.vx_scan.specs.declared.errors.Side.TheVariants.{Filter, Projection}
use Rattle.vx_scan.specs.declared.errors.ScanError.{ScanError}
use Rattle.vx_explain.specs.Explanations.{parts_of, parts_text, pruning_text, required_names, labelled, explanation_lines}
use Rattle.vx_scan.proofs.KindLemmas.{text_refused_so}
use Rattle.vx_explain.specs.Explaining.{IsUnexplained, Explains}

-- the parts of a prepared expression are told
pub parts_told : (fs : Fields) (slots : Slots) (e : Tree) (p : PreparedExpr) → IsPrepared fs slots e p → split_text (split_view p.split) ≡ parts_text (parts_of fs e)
parts_told fs slots e p h =
    ap split_text h.held
    ∙ ap parts_text (sym (ap (λ r. and_then r (split_by_columns (row_type fs))) h.splits.prepared.simplifies.made ∙ h.splits.made))

-- a pruning expression that is answered is told, and so are its statistics
pub pruning_told : (told : Option Pruning) (answer : Tree × Relation (List Bytes) Stat) → PrunesBy told (Some answer) → compact_text answer.0 ≡ pruning_text told
pruning_told None answer h = absurd (cc h)
pruning_told (Some p) answer h = ap compact_text h.0

pub no_pruning_told : (told : Option Pruning) → PrunesBy told None → codes "-" ≡ pruning_text told
no_pruning_told None h = refl
no_pruning_told (Some p) h = absurd h

pub required_told : (told : Option Pruning) (answer : Tree × Relation (List Bytes) Stat) (zs : List ZoneStat) → PrunesBy told (Some answer)
    → map (λ z. quoted_text (joined_name z.path z.stat)) (filter (λ z. is_required answer.1 (z.path, z.stat)) zs) ≡ required_names zs told
required_told None answer zs h = absurd (cc h)
required_told (Some p) answer zs h =
    ap (λ (test : ZoneStat → Bool). map (λ z. quoted_text (joined_name z.path z.stat)) (filter test zs)) (λ i z. h.1 (z.path, z.stat) i)

pub none_required : (told : Option Pruning) (zs : List ZoneStat) → PrunesBy told None → [] ≡ required_names zs told
none_required None zs h = refl
none_required (Some p) zs h = absurd h

-- lines and what stands behind them
labelled_then : (word text rest more : Bytes) → labelled word text rest ++ more ≡ labelled word text (rest ++ more)
labelled_then word text rest more =
    append_assoc word (text ++ (codes "\n" ++ rest)) more ∙ ap (λ x. word ++ x) (append_assoc text (codes "\n" ++ rest) more)

pub lines_joined : (filter_text pruning required filter_parts projection_text projection_parts : Bytes)
    → labelled (codes "filter ") filter_text (labelled (codes "pruning ") pruning (labelled (codes "required ") required (labelled (codes "parts ") filter_parts [])))
    ++ labelled (codes "projection ") projection_text (labelled (codes "parts ") projection_parts [])
    ≡ explanation_lines filter_text pruning required filter_parts projection_text projection_parts
lines_joined filter_text pruning required filter_parts projection_text projection_parts =
    let rest = labelled (codes "projection ") projection_text (labelled (codes "parts ") projection_parts []) in
    let last = labelled (codes "parts ") filter_parts [] in
    labelled_then (codes "filter ") filter_text (labelled (codes "pruning ") pruning (labelled (codes "required ") required last)) rest
    ∙ ap (labelled (codes "filter ") filter_text) (
    labelled_then (codes "pruning ") pruning (labelled (codes "required ") required last) rest
    ∙ ap (labelled (codes "pruning ") pruning) (
    labelled_then (codes "required ") required last rest ∙ ap (labelled (codes "required ") required) (labelled_then (codes "parts ") filter_parts [] rest)))

-- a text that spells nothing refuses both, and so does what is not typed
module _ (holds : ExprEncoding → Bool) (zones : Zones) (ft pt : Bytes) where
  unspelled : (e : ScanError) → OnlyOfText (kind_of e) (AreRefused holds ft pt e) → Explains holds zones ft pt (Err e)
  unspelled e h = by (kind_of e) h
    where
      by : (k : ErrorKind) → OnlyOfText k (AreRefused holds ft pt e) → IsUnexplained k holds zones ft pt e
      by of_memory r = tt
      by of_text r = r
      by of_types r = absurd r
      by (of_break cause) r = r
      by of_read r = r

  pub filter_unspelled : (e : ScanError) → Decodes holds Filter ft (Err e) → Explains holds zones ft pt (Err e)
  filter_unspelled e h = unspelled e (text_refused_so (kind_of e) (IsTextRefused holds Filter ft e) (AreRefused holds ft pt e) (λ r. inl r) h)

  pub projection_unspelled : (f : Tree) (e : ScanError) → SpellsTree holds ft f → Decodes holds Projection pt (Err e) → Explains holds zones ft pt (Err e)
  projection_unspelled f e k h =
      unspelled e (text_refused_so (kind_of e) (IsTextRefused holds Projection pt e) (AreRefused holds ft pt e) (λ r. inr ((f, k), r)) h)

  pub untyped : (f p : Tree) (e : ScanError) → SpellBoth holds ft pt f p → PreparesBoth zones.columns [] f p (Err e) → Explains holds zones ft pt (Err e)
  untyped f p e spelled h = by (kind_of e) h
    where
      by : (k : ErrorKind) → OnlyOfTypes k (scan_type (row_type zones.columns) [] f p ≡ Err e) → IsUnexplained k holds zones ft pt e
      by of_memory r = tt
      by of_text r = absurd r
      by of_types r = (f, p, spelled, r)
      by (of_break cause) r = r
      by of_read r = r
