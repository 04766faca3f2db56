-- The bound is the key of the last held row.
use Rattle.std.proofs.Common.{◌≡◌, refl, ap, ap₂, sym, ◌∙◌, subst, ℕ, suc, ◌-◌, ◌≤◌, ◌<◌, Bool, true, false, cond, Option, Some, None, List, [], ◌∷◌, map, length, arith, ⊎_elim}
use Rattle.std.specs.Prelude.{nat_le, slice_get}
use Rattle.std.specs.List.{AllByRecursion}
use Rattle.std.proofs.lemmas.Bool.{cases_Bool, leb-false, lt-leb}
use Rattle.std.proofs.lemmas.List.{length-take}
use Rattle.vx_dtype.specs.Types.{Ty, bool_ty, int_ty, text_ty}
use Rattle.vx_dtype.specs.TypeRules.{is_plain}
use Rattle.vx_dtype.specs.Values.{Typed, Val, valued}
use Rattle.vx_dtype.specs.Fits.{fits}
use Rattle.vx_semantics.specs.Pruning.{known}
use Rattle.vx_laws_stats.specs.BuiltStatistics.{raw_of}
use Rattle.vx_dtype.specs.declared.values.ScalarValue.{ScalarValue}
use Rattle.vx_laws_topk.specs.TopRows.{Keyed, TopAsk, in_key_order, top, first_rows, known_last, bound_before, bound_slots}
use Rattle.vx_laws_topk.proofs.Inserting.{length-in_key_order}
use Rattle.vx_topk.specs.RowKeys.{key_raw, known_key}
use Rattle.vx_topk.specs.FirstRows.{Entry, keyed_entry, IsHeld, HoldFirst, IsAskedBy}
use Rattle.vx_topk.specs.declared.row_keys.SortKey.{SortKey}
use Rattle.vx_topk.specs.declared.row_keys.SortKey.TheVariants as keys
use Rattle.vx_topk.specs.declared.row_keys.RowPlace.{RowPlace}
use Rattle.vx_topk.specs.declared.row_keys.RowKey.{RowKey}
use Rattle.vx_topk.specs.declared.first_rows.FirstRows.{FirstRows}
use Rattle.vx_topk.proofs.HoldLemmas.{map-length}

-- the last of a list, by its place
abbrev IsLast : Entry → List Entry → Type 0
IsLast e es = slice_get es (length es - 1) ≡ Some e

last-behind : (e x y : Entry) (es : List Entry) → IsLast e (x ∷ y ∷ es) → IsLast e (y ∷ es)
last-behind e x y es h =
    let a : length (x ∷ y ∷ es) - 1 ≡ suc (length es) = omega arith in
    let b : length (y ∷ es) - 1 ≡ length es = omega arith in
    ap (slice_get (y ∷ es)) b ∙ sym (ap (slice_get (x ∷ y ∷ es)) a) ∙ h

last-one : (e x : Entry) → IsLast e (x ∷ []) → x ≡ e
last-one e x h = let a : length (x ∷ []) - 1 ≡ 0 = omega arith in let k : Some x ≡ Some e = sym (ap (slice_get (x ∷ [])) a) ∙ h in cc

known-last : (k v : Ty) (es : List Entry) (e : Entry) → IsLast e es → known_last (map (keyed_entry k v) es) ≡ known (valued (key_raw e.0.key) k)
known-last k v [] e h = let no : ⊥ = cc in absurd no
known-last k v (x ∷ []) e h = ap (λ (y : Entry). known (valued (key_raw y.0.key) k)) (last-one e x h)
known-last k v (x ∷ y ∷ es) e h = known-last k v (y ∷ es) e (last-behind e x y es h)

last-held : (P : Entry → Type 0) (es : List Entry) (e : Entry) → IsLast e es → AllByRecursion P es → P e
last-held P [] e h all = let no : ⊥ = cc in absurd no
last-held P (x ∷ []) e h all = subst P (last-one e x h) all.0
last-held P (x ∷ y ∷ es) e h all = last-held P (y ∷ es) e (last-behind e x y es h) all.1

pub last-fits : {k : Ty} (v : Ty) (found : List Keyed) (next : RowPlace) (first : FirstRows) → HoldFirst k v found next first → (row : RowKey) (value : ScalarValue)
    → IsLast (row, value) first.rows.entries → fits (key_raw row.key) k ≡ true
last-fits {k} v found next first h row value l = (last-held (IsHeld k v first.descending next) first.rows.entries (row, value) l h.held).key

-- a key as a bound
key-slots : (ask : TopAsk) (x : SortKey) → is_plain ask.key_type ≡ true → fits (key_raw x) ask.key_type ≡ true
    → known_key ask.key_type x ∷ [] ≡ bound_slots ask (known (valued (key_raw x) ask.key_type))
unfolding valued fits
key-slots ask x p h = by-type ask.key_type x p h ∙ same (known (valued (key_raw x) ask.key_type))
  where
    slots-of : Ty → Option Val → List (Option Typed)
    slots-of t None = None ∷ []
    slots-of t (Some bound) = Some (record { ty = t; value = raw_of bound }) ∷ []

    same : (o : Option Val) → slots-of ask.key_type o ≡ bound_slots ask o
    same None = refl
    same (Some b) = refl

    by-type : (t : Ty) (x : SortKey) → is_plain t ≡ true → fits (key_raw x) t ≡ true → known_key t x ∷ [] ≡ slots-of t (known (valued (key_raw x) t))
    by-type t keys.Null p h = refl
    by-type (bool_ty n) (keys.Truth b) p h = refl
    by-type (int_ty q n) (keys.Number i) p h = refl
    by-type (text_ty n) (keys.Text s) p h = refl
    by-type _ _ p h = let no : ⊥ = cc in absurd no

module _ (ask : TopAsk) {k : Ty} (v : Ty) (found : List Keyed) (next : RowPlace) (first : FirstRows) (asked : IsAskedBy ask k first) (h : HoldFirst k v found next first) where
  own-rows : first_rows ask found ≡ map (keyed_entry k v) first.rows.entries
  own-rows = ap₂ (λ (d : Bool) (n : ℕ). top d n found) asked.descending asked.count ∙ sym h.rows

  lengths : length first.rows.entries ≡ length (top first.descending first.count found)
  lengths = sym (map-length (keyed_entry k v) first.rows.entries) ∙ ap length h.rows

  pub bound-none : length first.rows.entries < first.count → None ∷ [] ≡ bound_slots ask (bound_before ask found)
  bound-none few =
      let cut = length-take first.count (in_key_order first.descending found) in
      let all = length-in_key_order first.descending found in
      let less : length found < ask.count = omega (arith, few, lengths, cut, all, asked.count) in
      ap (λ (b : Bool). bound_slots ask (cond b (known_last (first_rows ask found)) None)) (sym (lt-leb ask.count (length found) less))

  enough : first.count ≤ length first.rows.entries → nat_le ask.count (length found) ≡ true
  enough full =
      let cut = length-take first.count (in_key_order first.descending found) in
      let all = length-in_key_order first.descending found in
      let more : ask.count ≤ length found = omega (arith, full, lengths, cut, all, asked.count) in
      ⊎_elim (λ (a : nat_le ask.count (length found) ≡ true). a)
      (λ (a : nat_le ask.count (length found) ≡ false). absurd (omega (arith, more, leb-false ask.count (length found) a)))
      (cases_Bool (nat_le ask.count (length found)))

  pub bound-last : first.count ≤ length first.rows.entries → (row : RowKey) (value : ScalarValue) → IsLast (row, value) first.rows.entries
      → known_key k row.key ∷ [] ≡ bound_slots ask (bound_before ask found)
  bound-last full row value l =
      let before : bound_before ask found ≡ known (valued (key_raw row.key) k) =
      ap (λ (b : Bool). cond b (known_last (first_rows ask found)) None) (enough full) ∙ ap known_last own-rows ∙ known-last k v first.rows.entries (row, value) l in
      let plain : is_plain ask.key_type ≡ true = ap is_plain asked.ty ∙ h.plain in
      let fitting : fits (key_raw row.key) ask.key_type ≡ true = ap (fits (key_raw row.key)) asked.ty ∙ last-fits v found next first h row value l in
      ap (λ (t : Ty). known_key t row.key ∷ []) (sym asked.ty) ∙ key-slots ask row.key plain fitting
      ∙ ap (λ (t : Ty). bound_slots ask (known (valued (key_raw row.key) t))) asked.ty ∙ ap (bound_slots ask) (sym before)

  pub bound-empty : first.count ≤ length first.rows.entries → first.rows.entries ≡ [] → None ∷ [] ≡ bound_slots ask (bound_before ask found)
  bound-empty full none =
      ap (bound_slots ask)
      (sym (ap (λ (b : Bool). cond b (known_last (first_rows ask found)) None) (enough full) ∙ ap known_last own-rows
      ∙ ap (λ (es : List Entry). known_last (map (keyed_entry k v) es)) none))

pub no-entries : (es : List Entry) → (0 < length es → false ≡ true) → es ≡ []
no-entries [] h = refl
no-entries (e ∷ es) h = let no : false ≡ true = h (omega arith) in let never : ⊥ = cc in absurd never
