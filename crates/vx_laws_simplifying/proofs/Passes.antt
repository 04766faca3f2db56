-- Passes that keep each strictly typed expression, alone and one after another.
use Rattle.std.proofs.Common.{◌≡◌, ℕ, refl, ap, ◌∙◌, Bool, true, false, ◌&&◌, Option, Some, None, subst, List, [], ◌∷◌, Result, Ok}
use Rattle.std.specs.Prelude.{option_map, unwrap_or}
use Rattle.std.proofs.lemmas.Bool.{and_from}
use Rattle.vx_dtype.specs.Types.{Bytes, Ty, bool_ty, int_ty, text_ty, list_ty, struct_ty, Fields, no_fields, field}
use Rattle.vx_dtype.specs.TypeRules.{fields_of, field_type}
use Rattle.vx_dtype.specs.Values.{Val, list_val, struct_val, fault, no_vals, Members, no_members, member, Typed}
use Rattle.vx_dtype.specs.Fits.{fits_but_for_faults, members_fit_but_for_faults}
use Rattle.vx_expr.specs.Slots.{slot_held}
use Rattle.vx_expr.specs.Trees.{Tree, root, literal, get_item, binary, not_of, is_null_of, like, between, cast, list_contains, pack, merge, select, dynamic, Trees, no_trees, tree}
use Rattle.vx_semantics.specs.Typing.{Refusal, and_then, typed_of}
use Rattle.vx_semantics.specs.Meaning.{Slots}
use Rattle.vx_semantics.specs.Slots.{held_fits, slots_fit, all_slots_fit}
use Rattle.vx_semantics.specs.Breaks.{by_sum}
use Rattle.vx_semantics.specs.Asked.{Asking}
use Rattle.vx_laws.proofs.Inverting.{Ok-same}
use Rattle.vx_laws.proofs.Structs.{members-fit, struct-fits}
use Rattle.vx_laws.proofs.Paths.{in_option, path_in}
use Rattle.vx_laws_simplifying.proofs.Observing.{Observes, breaking, is_column, breaking-observes, is_column-observes, breaks-kept, columns-kept, asked_columns-kept}
use Rattle.vx_laws_simplifying.specs.Keeping.{Pass, has_path, KeepsType, KeepsColumns, KeepsAskedColumns, KeepsSlots, KeepsMeaning, KeepsBreaks}
use Rattle.vx_laws_simplifying.proofs.Narrows.{narrow-narrows}
use Rattle.vx_laws_simplifying.proofs.Kept.{Kept, kept-then, Made}
use Rattle.vx_laws.specs.Values.{plain_nullable, fields_nullable}
use Rattle.vx_laws.proofs.AnySlots.{FitsButNulls, fits-but_nulls}

path_in-has : (path : List Bytes) (u : Ty) → path_in path u ≡ has_path path u
path_in-has [] u = refl
path_in-has (f ∷ path) u = by-type (field_type f (fields_of u)) (λ w. path_in-has path w)
  where
    by-type : (o : Option Ty) → ((w : Ty) → path_in path w ≡ has_path path w) → in_option (path_in path) o ≡ unwrap_or (option_map (has_path path) o) false
    by-type None k = refl
    by-type (Some w) k = k w

mutual
  -- some row of a type, but for faults
  pub some_row : Ty → Val
  some_row (list_ty e n) = list_val no_vals
  some_row (struct_ty fs n) = struct_val (some_members fs)
  some_row _ = fault

  some_members : Fields → Members
  some_members no_fields = no_members
  some_members (field f t fs) = member f (some_row t) (some_members fs)

mutual
  unfolding fits_but_for_faults some_row plain_nullable

  pub some_row-fits : (t : Ty) → FitsButNulls (some_row t) t
  some_row-fits (list_ty e n) = refl
  some_row-fits (struct_ty fs n) = struct-fits (some_members fs) (fields_nullable fs) n (some_members-fit fs)
  some_row-fits (bool_ty n) = refl
  some_row-fits (int_ty p n) = refl
  some_row-fits (text_ty n) = refl

  some_members-fit : (fs : Fields) → members_fit_but_for_faults (some_members fs) (fields_nullable fs) ≡ true
  some_members-fit no_fields = refl
  some_members-fit (field f t fs) = members-fit f (some_row t) (some_members fs) (plain_nullable t) (fields_nullable fs) (some_row-fits t) (some_members-fit fs)

none-held : (k : ℕ) → slot_held [] k ≡ None
none-held k = refl

mutual
  unfolding slots_fit

  -- no slots fit any expression
  pub no_slots-fit : (e : Tree) → slots_fit [] e ≡ true
  no_slots-fit root = refl
  no_slots-fit (literal s) = refl
  no_slots-fit (get_item f d) = no_slots-fit d
  no_slots-fit (binary l op r) = and_from (slots_fit [] l) (slots_fit [] r) (no_slots-fit l) (no_slots-fit r)
  no_slots-fit (not_of d) = no_slots-fit d
  no_slots-fit (is_null_of d) = no_slots-fit d
  no_slots-fit (like d p negated fold_case) = and_from (slots_fit [] d) (slots_fit [] p) (no_slots-fit d) (no_slots-fit p)
  no_slots-fit (between d lower upper options) =
      and_from (slots_fit [] d) (slots_fit [] lower && slots_fit [] upper) (no_slots-fit d) (and_from (slots_fit [] lower) (slots_fit [] upper) (no_slots-fit lower) (no_slots-fit upper))
  no_slots-fit (cast d t) = no_slots-fit d
  no_slots-fit (list_contains l v) = and_from (slots_fit [] l) (slots_fit [] v) (no_slots-fit l) (no_slots-fit v)
  no_slots-fit (pack names es n) = no_slots-all es
  no_slots-fit (merge es n) = no_slots-all es
  no_slots-fit (select s d) = no_slots-fit d
  no_slots-fit (dynamic d op k slot default) =
      and_from (held_fits (slot_held [] k) slot) (slots_fit [] d) (ap (λ (o : Option Typed). held_fits o slot) (none-held k)) (no_slots-fit d)

  no_slots-all : (es : Trees) → all_slots_fit [] es ≡ true
  no_slots-all no_trees = refl
  no_slots-all (tree d ds) = and_from (slots_fit [] d) (all_slots_fit [] ds) (no_slots-fit d) (no_slots-all ds)

-- a pass that makes of each strictly typed expression one that is kept in its place, whatever is seen
abbrev pub MakesKept : Pass → Type 0
MakesKept pass =
    (t : Ty) (slots : Slots) (row : Val) (test : Asking → Bool) (o : Observes t slots row test) (e : Tree) (u : Ty)
    → FitsButNulls row t → typed_of t e ≡ Ok u → Made t slots row test o (pass t e) e u

-- one pass after another
pub passes-then : (first second : Pass) → MakesKept first → MakesKept second → MakesKept (λ t e. and_then (first t e) (second t))
passes-then first second p q t slots row test o e u g h =
    let m = p t slots row test o e u g h in
    let k = q t slots row test o m.made m.kept.ty g m.kept.typed in
    record {
      made = k.made;
      is = ap (λ (x : Result Tree Refusal). and_then x (second t)) m.is ∙ k.is;
      kept = kept-then t slots row test o e m.made k.made u m.kept k.kept;
    }

-- what was made is what the pass answered
made-kept : (t : Ty) (slots : Slots) (row : Val) (test : Asking → Bool) (o : Observes t slots row test) (r : Result Tree Refusal) (e : Tree) (u : Ty) (d : Tree) → Made t slots row test o r e u → r ≡ Ok d → Kept t slots row test o e d u
made-kept t slots row test o r e u d m h = subst (λ (z : Tree). Kept t slots row test o e z u) (Ok-same r m.made d m.is h) m.kept

pub keeps_type : (pass : Pass) → MakesKept pass → KeepsType pass
keeps_type pass p t e u h =
    let o = breaking-observes by_sum t [] (some_row t) in
    let m = p t [] (some_row t) (breaking by_sum t [] (some_row t)) o e u (some_row-fits t) h in
    (m.made, m.kept.ty, m.is, m.kept.typed, narrow-narrows m.kept.ty u m.kept.narrow)

pub keeps_columns : (pass : Pass) → MakesKept pass → KeepsColumns pass
keeps_columns pass p t e u d h i path c k =
    let o = is_column-observes c t [] (some_row t) in
    let m = made-kept t [] (some_row t) (is_column c) o (pass t e) e u d (p t [] (some_row t) (is_column c) o e u (some_row-fits t) h) i in
    columns-kept t e d path c (m.sees path (path_in-has path u ∙ k))

pub keeps_asked_columns : (pass : Pass) → MakesKept pass → KeepsAskedColumns pass
keeps_asked_columns pass p t e u d h i = asked_columns-kept t e d (λ c. keeps_columns pass p t e u d h i [] c refl)

pub keeps_slots : (pass : Pass) → MakesKept pass → KeepsSlots pass
keeps_slots pass p t slots e u d h i s =
    let row = some_row t in
    let o = breaking-observes by_sum t slots row in
    (made-kept t slots row (breaking by_sum t slots row) o (pass t e) e u d (p t slots row (breaking by_sum t slots row) o e u (some_row-fits t) h) i).fitting s

pub keeps_meaning : (pass : Pass) → MakesKept pass → KeepsMeaning pass
keeps_meaning pass p t slots row e u d h i g =
    let o = breaking-observes by_sum t slots row in
    (made-kept t slots row (breaking by_sum t slots row) o (pass t e) e u d (p t slots row (breaking by_sum t slots row) o e u (fits-but_nulls row t g) h) i).means

pub keeps_breaks : (pass : Pass) → MakesKept pass → KeepsBreaks pass
keeps_breaks pass p t slots row e u d h i g cause path k =
    let o = breaking-observes cause t slots row in
    let m = made-kept t slots row (breaking cause t slots row) o (pass t e) e u d (p t slots row (breaking cause t slots row) o e u (fits-but_nulls row t g) h) i in
    breaks-kept cause t slots row e d path (m.sees path (path_in-has path u ∙ k))
