-- The bounded filter and the packed key and projection: types, slots, meaning, what they ask and what they rule out.
use Rattle.std.proofs.Common.{◌≡◌, refl, ap, ap₂, ◌∙◌, Bool, true, false, ◌&&◌, ◌||◌, Option, Some, None, Ok, List, [], ◌∷◌, ◌++◌, map, append-nil}
use Rattle.std.specs.Prelude.{codes}
use Rattle.std.specs.List.{flat_map, list_any}
use Rattle.std.proofs.lemmas.Bool.{and_from, and_parts}
use Rattle.std.proofs.lemmas.List.Folds.{list_any-append}
use Rattle.vx_dtype.specs.declared.Nullability.{Nullability}
use Rattle.vx_dtype.specs.declared.Nullability.TheVariants.{NonNullable, Nullable}
use Rattle.vx_dtype.specs.Types.{Ty, bool_ty, int_ty, text_ty, list_ty, struct_ty, Fields}
use Rattle.vx_dtype.specs.TypeRules.{is_plain, is_bool_ty, same_ptype, alike, union, nullability_of, widened}
use Rattle.vx_dtype.specs.Values.{Val, bool_val, int_val, text_val}
use Rattle.vx_dtype.specs.Fits.{in_range, val_fits, fits}
use Rattle.vx_dtype.specs.Logic.{is_null_val}
use Rattle.vx_expr.specs.Trees.{Tree, root, get_item, dynamic, no_trees, tree}
use Rattle.vx_semantics.specs.Typing.{logic_type, dynamic_type, typed_of}
use Rattle.vx_semantics.specs.Meaning.{mean}
use Rattle.vx_semantics.specs.Asked.{Asking, asks_node, asks_column, asked, node_in, asked_nodes}
use Rattle.vx_semantics.specs.Slots.{slots_fit, held_fits}
use Rattle.vx_semantics.specs.Tables.{row_type}
use Rattle.vx_semantics.specs.Pruning.{rules_out}
use Rattle.vx_semantics.specs.Scans.{matching_rows}
use Rattle.vx_laws.proofs.Fitting.{same_ptype-itself}
use Rattle.vx_laws_stats.specs.BuiltStatistics.{raw_of}
use Rattle.vx_laws_topk.specs.TopRows.{Keyed, TopAsk, key_operator, bound_slots, keyed}
use Rattle.vx_laws_topk.specs.TopPhases.{keyed_projection}
use Rattle.vx_laws_topk.specs.BoundLaws.{IsTypedAsk, IsBoundOf, packed, BoundedFilterIsBoolean, BoundSlotsFit, BoundedFilterRulesOutMore}
use Rattle.vx_laws_topk.specs.BoundLaws.{KeyedProjectionIsStruct, KeyedProjectionFitsAnySlots, KeyedProjectionMeansBoth, BlockRowsArePacked, PackedIsUnpacked}
use Rattle.vx_laws_topk.specs.BoundLaws.{BoundedFilterAsksTheSame, KeyedProjectionAsksTheSame}
use Rattle.vx_laws_topk.proofs.SlotlessRules.{slotless_fits, slotless_rules}

-- ---- types

union-none : (n : Nullability) → union n NonNullable ≡ n
union-none NonNullable = refl
union-none Nullable = refl

union-itself : (n : Nullability) → union n n ≡ n
union-itself NonNullable = refl
union-itself Nullable = refl

-- the key's type: it stays as it is in a row that is never null
key-widened : (t : Ty) → is_plain t ≡ true → widened t NonNullable ≡ t
key-widened (bool_ty n) h = ap bool_ty (union-none n)
key-widened (int_ty p n) h = ap (int_ty p) (union-none n)
key-widened (text_ty n) h = ap text_ty (union-none n)
key-widened (list_ty e n) h = let no : ⊥ = cc in absurd no
key-widened (struct_ty fs n) h = let no : ⊥ = cc in absurd no

pub alike-itself : (t : Ty) → is_plain t ≡ true → alike t t ≡ true
unfolding alike
alike-itself (bool_ty n) h = refl
alike-itself (int_ty p n) h = same_ptype-itself p
alike-itself (text_ty n) h = refl
alike-itself (list_ty e n) h = let no : ⊥ = cc in absurd no
alike-itself (struct_ty fs n) h = let no : ⊥ = cc in absurd no

key-typed : (columns : Fields) (ask : TopAsk) (u p : Ty) → IsTypedAsk columns ask u p → typed_of (row_type columns) (get_item ask.key root) ≡ Ok ask.key_type
unfolding typed_of
key-typed columns ask u p h =
    rw (h.names, h.column) (ap Ok (key-widened ask.key_type h.plain))

dynamic-typed : (t : Ty) → is_plain t ≡ true → dynamic_type t t ≡ Ok (bool_ty (nullability_of t))
dynamic-typed t h = rw (alike-itself t h, h, union-itself (nullability_of t)) refl

logic-typed : (u : Ty) (n : Nullability) → is_bool_ty u ≡ true → logic_type u (bool_ty n) ≡ Ok (bool_ty (union (nullability_of u) n))
logic-typed u n h = rw h refl

pub bounded_filter_is_boolean : BoundedFilterIsBoolean
unfolding typed_of
bounded_filter_is_boolean columns ask u p h =
    rw (h.filter_typed, key-typed columns ask u p h, dynamic-typed ask.key_type h.plain) (logic-typed u (nullability_of ask.key_type) h.boolean)

pub keyed_projection_is_struct : KeyedProjectionIsStruct
unfolding typed_of
keyed_projection_is_struct columns ask u p h = rw (key-typed columns ask u p h, h.projection_typed) refl

-- ---- slots

bound-held : (t : Ty) (bound : Val) → is_plain t ≡ true → val_fits bound t ≡ true → is_null_val bound ≡ false → held_fits (Some (record { ty = t; value = raw_of bound })) t ≡ true
unfolding val_fits fits alike
bound-held (bool_ty n) (bool_val b) h f k = refl
bound-held (int_ty p n) (int_val q i) h f k =
    let parts = and_parts (same_ptype q p) (in_range p i) f in
    and_from (same_ptype p p) (in_range p i && true) (same_ptype-itself p) (and_from (in_range p i) true parts.1 refl)
bound-held (text_ty n) (text_val s) h f k = refl
bound-held _ _ h f k = let no : ⊥ = cc in absurd no

pub bound_slots_fit : BoundSlotsFit
unfolding slots_fit
bound_slots_fit ask bound plain slotless h =
    and_from (slots_fit (bound_slots ask bound) ask.filter_expr) (slots_fit (bound_slots ask bound) (dynamic (get_item ask.key root) (key_operator ask.descending) 0 ask.key_type true))
    (slotless_fits (bound_slots ask bound) ask.filter_expr slotless) (by-bound bound h)
  where
    by-bound : (o : Option Val) → IsBoundOf ask.key_type o → slots_fit (bound_slots ask o) (dynamic (get_item ask.key root) (key_operator ask.descending) 0 ask.key_type true) ≡ true
    by-bound None k = refl
    by-bound (Some b) k = rw (bound-held ask.key_type b plain k.0 k.1) refl

pub keyed_projection_fits : KeyedProjectionFitsAnySlots
unfolding slots_fit
keyed_projection_fits slots ask h = rw (slotless_fits slots ask.projection h) refl

-- ---- meaning

pub keyed_projection_means : KeyedProjectionMeansBoth
unfolding mean
keyed_projection_means ask t slots row = refl

pub block_rows_are_packed : BlockRowsArePacked
block_rows_are_packed ask t slots f rows = each (matching_rows t slots f rows)
  where
    each : (rows : List Val) → map (λ row. mean t slots row (keyed_projection ask)) rows ≡ map packed (map (keyed ask t slots) rows)
    each [] = refl
    each (row ∷ rows) = ap₂ (λ (v : Val) (vs : List Val). v ∷ vs) (keyed_projection_means ask t slots row) (each rows)

pub packed_is_unpacked : PackedIsUnpacked
packed_is_unpacked [] = refl
packed_is_unpacked (r ∷ rows) = ap (λ (rs : List Keyed). r ∷ rs) (packed_is_unpacked rows)

-- ---- what is ruled out, and what is asked

pub bounded_filter_rules_out : BoundedFilterRulesOutMore
unfolding rules_out
bounded_filter_rules_out zones slots block ask slotless h =
    ap (λ (b : Bool). b || rules_out zones slots block (dynamic (get_item ask.key root) (key_operator ask.descending) 0 ask.key_type true))
    (slotless_rules zones slots [] block ask.filter_expr slotless ∙ h)

nodes-append : (xs ys : List Asking) → flat_map node_in (xs ++ ys) ≡ flat_map node_in xs ++ flat_map node_in ys
nodes-append [] ys = refl
nodes-append (asks_node e ∷ xs) ys = ap (λ (es : List Tree). e ∷ es) (nodes-append xs ys)
nodes-append (asks_column c ∷ xs) ys = nodes-append xs ys

or-none : (b : Bool) → (b || false) ≡ b
or-none true = refl
or-none false = refl

pub bounded_filter_asks : BoundedFilterAsksTheSame
unfolding asked
bounded_filter_asks test t ask h =
    let bound = dynamic (get_item ask.key root) (key_operator ask.descending) 0 ask.key_type true in
    rw (
      h.conjunction ask.filter_expr bound,
      nodes-append (asked t ask.filter_expr []) (asked t bound []),
      list_any-append test (asked_nodes t ask.filter_expr) (asked_nodes t bound),
      h.comparison (get_item ask.key root) (key_operator ask.descending) 0 ask.key_type true,
      h.access ask.key root,
    )
    (or-none (list_any test (asked_nodes t ask.filter_expr)))

pub keyed_projection_asks : KeyedProjectionAsksTheSame
unfolding asked
keyed_projection_asks test t ask h =
    rw (
      h.packing (codes "key" ∷ codes "value" ∷ []) (tree (get_item ask.key root) (tree ask.projection no_trees)) NonNullable,
      h.access ask.key root,
      append-nil (asked t ask.projection []),
    ) refl
