-- Packs of the columns for the row, then simplifying by types: what is kept, and that each node left is asked.
use Rattle.std.proofs.Common.{◌≡◌, refl, sym, ◌∙◌, Bool, subst, []}
use Rattle.vx_dtype.specs.Types.{Ty, Fields}
use Rattle.vx_dtype.specs.Values.{Val}
use Rattle.vx_expr.specs.Trees.{Tree}
use Rattle.vx_semantics.specs.Meaning.{Slots}
use Rattle.vx_semantics.specs.Breaks.{by_sum, breaks_by}
use Rattle.vx_semantics.specs.Asked.{Asking}
use Rattle.vx_semantics.specs.Nodes.{some_node}
use Rattle.vx_semantics.specs.Tables.{row_type}
use Rattle.vx_passes.specs.Replacing.{root_replaced}
use Rattle.vx_passes.specs.TypedSimplifying.{simplified_typed}
use Rattle.vx_laws.proofs.Inverting.{Ok-same}
use Rattle.vx_laws_simplifying.proofs.Observing.{Observes, seen, breaking, is_column, breaking-observes, is_column-observes, columns-kept, asked_columns-kept, breaking-along, column-along}
use Rattle.vx_laws_simplifying.proofs.Narrows.{narrow-narrows}
use Rattle.vx_laws_simplifying.proofs.Kept.{Kept}
use Rattle.vx_laws.proofs.AnySlots.{FitsButNulls, fits-but_nulls}
use Rattle.vx_laws_simplifying.proofs.Passes.{some_row, some_row-fits}
use Rattle.vx_laws_removing.proofs.Settled.{simplified_simple}
use Rattle.vx_laws_parts.specs.Preserved.{is_column_node, Simplifies, PreservesType, PreservedIsRowless, PreservesColumns, PreservesAskedColumns, PreservesMeaning, PreservesBreaks}
use Rattle.vx_laws_parts.proofs.RootKept.{preserved-kept}
use Rattle.vx_laws_parts.proofs.Rowless.{root_replaced-rowless, simplified_typed-rowless}
use Rattle.vx_laws_parts.proofs.Shown.{Shows, breaking-shows, is_column-shows, shown}

preserved : (fs : Fields) (slots : Slots) (row : Val) (test : Asking → Bool) (o : Observes (row_type fs) slots row test) (e : Tree) (u : Ty) (d : Tree) → Simplifies fs e u d
    → FitsButNulls row (row_type fs) → Kept (row_type fs) slots row test o e d u
preserved fs slots row test o e u d h g =
    let m = preserved-kept fs slots row test o g e u h.typed in
    subst (λ (z : Tree). Kept (row_type fs) slots row test o e z u) (Ok-same (simplified_typed (row_type fs) (root_replaced fs e)) m.made d m.is h.made) m.kept

pub preserved_rowless : PreservedIsRowless
preserved_rowless fs e u d h = simplified_typed-rowless (row_type fs) (root_replaced fs e) d (root_replaced-rowless fs e) h.made

-- each node that is left is asked
preserved-seen : (fs : Fields) (slots : Slots) (row : Val) (test : Asking → Bool) (o : Observes (row_type fs) slots row test) (node : Tree → Bool) → Shows test node → (e : Tree) (u : Ty) (d : Tree) → Simplifies fs e u d
    → FitsButNulls row (row_type fs) → some_node node d ≡ seen test (row_type fs) e []
preserved-seen fs slots row test o node s e u d h g =
    let k = preserved fs slots row test o e u d h g in
    sym (shown (row_type fs) test node s d k.ty k.typed (simplified_simple (row_type fs) (root_replaced fs e) d h.made) (preserved_rowless fs e u d h) [] (λ j. refl)) ∙ k.sees [] refl

pub preserved_type : PreservesType
preserved_type fs e u h =
    let t = row_type fs in
    let o = breaking-observes by_sum t [] (some_row t) in
    let m = preserved-kept fs [] (some_row t) (breaking by_sum t [] (some_row t)) o (some_row-fits t) e u h in
    (m.made, m.kept.ty, m.is, m.kept.typed, narrow-narrows m.kept.ty u m.kept.narrow)

pub preserved_columns : PreservesColumns
preserved_columns fs e u d c h =
    let t = row_type fs in
    preserved-seen fs [] (some_row t) (is_column c) (is_column-observes c t [] (some_row t)) (is_column_node c) (is_column-shows c) e u d h (some_row-fits t) ∙ sym (column-along t e [] c)

pub preserved_asked_columns : PreservesAskedColumns
preserved_asked_columns fs e u d h =
    let t = row_type fs in
    asked_columns-kept t e d
    (λ c. columns-kept t e d [] c ((preserved fs [] (some_row t) (is_column c) (is_column-observes c t [] (some_row t)) e u d h (some_row-fits t)).sees [] refl))

pub preserved_meaning : PreservesMeaning
preserved_meaning fs slots row e u d h g =
    let t = row_type fs in (preserved fs slots row (breaking by_sum t slots row) (breaking-observes by_sum t slots row) e u d h (fits-but_nulls row t g)).means

pub preserved_breaks : PreservesBreaks
preserved_breaks fs slots row e u d cause h g =
    let t = row_type fs in
    preserved-seen fs slots row (breaking cause t slots row) (breaking-observes cause t slots row) (breaks_by cause t slots row) (breaking-shows cause t slots row) e u d h (fits-but_nulls row t g) ∙ sym (breaking-along cause t slots row e [])
