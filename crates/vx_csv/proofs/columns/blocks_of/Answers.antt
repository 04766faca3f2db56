use Rattle.std.proofs.Common.{◌∙◌, ◌<◌, sym, ap, ℕ, min, List, [], ◌∷◌, ◌++◌, map, length, take, drop, arith}
use Rattle.std.proofs.lemmas.List.{map-append}
use Rattle.std.specs.declared.vec.Vec.{Vec}
use Rattle.std.specs.declared.alloc.Global.{Global}
use Rattle.csv.specs.Records.{fields_of}
use Rattle.vx_dtype.specs.Types.{Bytes}
use Rattle.vx_dtype.specs.TypeViews.{type_view}
use Rattle.vx_column.specs.Columns.{Column}
use Rattle.vx_tables.specs.Blocks.{block_view}
use Rattle.vx_laws_csv.specs.CsvTables.{cut, columns_from}
use Rattle.vx_csv.proofs.Steps.{one-more}
use Rattle.vx_csv.proofs.Blocks.{cut-step, block-length, texts-front, texts-back, taken-front, taken-back}
use Rattle.vx_csv.proofs.columns.blocks_of.Goals as goal

pub loop-left-init : goal.loop-left-init
loop-left-init c =
    let parts = cut c.args.size (map fields_of c.args.rows.now) in
    let columns = columns_from c.args.null.now 0 (map type_view c.args.dtypes.now) in (
      c.requires.texts,
      c.requires.taken,
      ap (λ (ns : List ℕ). ns ++ map length parts) (sym c.new-lengths.ensures.items),
      ap (λ (xs : List (Vec Column Global)). map block_view xs ++ map columns parts) (sym c.new-columns.ensures.items),
    )

pub columns_of-requires-clause-texts : goal.columns_of-requires-clause-texts
columns_of-requires-clause-texts c =
    let left = c.loop-left.left.now in
    let front = c.split_at.ensures.front ∙ ap (λ (n : ℕ). take n left) c.first_length-count.ensures in
    texts-front (min c.args.size (length left)) left c.split_at.result.0.now front c.loop-left.invariant.0

pub columns_of-requires-clause-taken : goal.columns_of-requires-clause-taken
columns_of-requires-clause-taken c =
    let left = c.loop-left.left.now in
    let front = c.split_at.ensures.front ∙ ap (λ (n : ℕ). take n left) c.first_length-count.ensures in
    taken-front c.args.null.now (map type_view c.args.dtypes.now) (min c.args.size (length left)) left c.split_at.result.0.now front c.loop-left.invariant.1

pub loop-left-preserved : goal.loop-left-preserved
loop-left-preserved c =
    let size = c.args.size in
    let null = c.args.null.now in
    let ts = map type_view c.args.dtypes.now in
    let rows = map fields_of c.args.rows.now in
    let left = c.loop-left.left.now in
    let block = c.split_at.result.0.now in
    let rest = c.split_at.result.1.now in
    let count = min size (length left) in
    let front = c.split_at.ensures.front ∙ ap (λ (n : ℕ). take n left) c.first_length-count.ensures in
    let back = c.split_at.ensures.back ∙ ap (λ (n : ℕ). drop n left) c.first_length-count.ensures in
    let some : 0 < length left = omega arith in
    let step = cut-step size left block rest c.requires.size some front back in
    let columns : List (List Bytes) → List Column = columns_from null 0 ts in
    let length-here = c.first_length-count.ensures ∙ block-length size left block front in
    let lengths-now = c.in_ok-push.ensures.items ∙ ap (λ (n : ℕ). c.loop-left.lengths.items ++ n ∷ []) length-here in
    let made = c.in_ok-columns_of.field-0 in
    let columns-now = ap (map block_view) c.in_ok-push-2.ensures.items ∙ map-append block_view c.loop-left.columns.items (made ∷ []) ∙ ap (λ (cs : List Column). map block_view c.loop-left.columns.items ++ cs ∷ []) c.in_ok-columns_of.ensures in (
      texts-back count left rest back c.loop-left.invariant.0,
      taken-back null ts count left rest back c.loop-left.invariant.1,
      one-more (map length (cut size rows)) c.loop-left.lengths.items c.push.new.self.items (map length (cut size (map fields_of rest))) (map length (cut size (map fields_of left)))
          (length (map fields_of block)) c.loop-left.invariant.2 (ap (map length) step) lengths-now,
      one-more (map columns (cut size rows)) (map block_view c.loop-left.columns.items) (map block_view c.push-in-loop-left.new.self.items) (map columns (cut size (map fields_of rest)))
          (map columns (cut size (map fields_of left))) (columns (map fields_of block)) c.loop-left.invariant.3 (ap (map columns) step) columns-now,
    )
