-- What is held stays the first rows while rows come in.
use Rattle.std.proofs.Common.{◌≡◌, refl, ap, sym, ◌∙◌, subst, ℕ, zero, suc, ◌≤◌, Bool, true, false, cond, List, [], ◌∷◌, ◌++◌, map, length, take, arith}
use Rattle.std.specs.List.{AllByRecursion, All}
use Rattle.std.specs.Map.{keys_of}
use Rattle.std.specs.BTreeMap.{insert_entry}
use Rattle.std.specs.declared.cmp.Ordering.{Ordering}
use Rattle.std.specs.declared.cmp.Ordering.TheVariants.{Less, Equal, Greater}
use Rattle.std.specs.Ordering.{ordering_index, ordering_reverse, is_lt, match_ordering}
use Rattle.std.specs.Cmp.{IsTotalOrder}
use Rattle.std.specs.Bool.{◌==◌}
use Rattle.std.proofs.lemmas.List.{take_all, take-append-le, length-take}
use Rattle.std.proofs.lemmas.List.Elements.{recursion_from_All}
use Rattle.vx_dtype.specs.Types.{Ty}
use Rattle.vx_dtype.specs.TypeRules.{is_plain}
use Rattle.vx_dtype.specs.Values.{Raw, valued}
use Rattle.vx_dtype.specs.Logic.{is_null_val}
use Rattle.vx_dtype.specs.Fits.{fits, val_fits}
use Rattle.vx_dtype.specs.RawViews.{raw_view}
use Rattle.vx_dtype.specs.declared.values.ScalarValue.{ScalarValue}
use Rattle.vx_dtype.proofs.ValuedLemmas.{val_fits_valued}
use Rattle.vx_laws.proofs.EachNode.{all-both, all-map}
use Rattle.vx_laws_stats.proofs.Extremes.{is_of, or_second}
use Rattle.vx_laws_topk.specs.TopRows.{Keyed, stands_before, in_key_order, top}
use Rattle.vx_laws_topk.specs.BoundLaws.{put_behind_ties}
use Rattle.vx_laws_topk.proofs.Inserting.{OfType}
use Rattle.vx_laws_topk.proofs.OneMore.{further_among}
use Rattle.vx_topk.specs.RowKeys.{key_raw, place_cmp, row_cmp}
use Rattle.vx_topk.specs.RowOrders.{place_cmp_total, row_cmp_total}
use Rattle.vx_topk.specs.FirstRows.{Entry, keyed_entry, IsHeld, HoldFirst, behind, start_of, IsBehindAll}
use Rattle.vx_topk.specs.declared.row_keys.SortKey.{SortKey}
use Rattle.vx_topk.specs.declared.row_keys.RowPlace.{RowPlace}
use Rattle.vx_topk.specs.declared.row_keys.RowKey.{RowKey}
use Rattle.vx_topk.specs.declared.first_rows.FirstRows.{FirstRows}
use Rattle.vx_topk.proofs.RowKeyLemmas.{row-before, next-place, next-block}

-- ---- behind the last one is behind all

pub greater : (o : Ordering) → (ordering_index o == 2) ≡ true → o ≡ Greater
greater Less h = let no : ⊥ = cc in absurd no
greater Equal h = let no : ⊥ = cc in absurd no
greater Greater h = refl

behind-chain : {K : Type 0} {R : K → K → Ordering} → IsTotalOrder R → (x y z : K) → R x y ≡ Greater → is_lt (R y z) ≡ false → R x z ≡ Greater
behind-chain {K} {R} o x y z h k = o.antisymm x z ∙ ap ordering_reverse (by-order (R z y) refl)
  where
    back : R y x ≡ Less
    back = o.antisymm y x ∙ ap ordering_reverse h

    by-order : (r : Ordering) → R z y ≡ r → R z x ≡ Less
    by-order Less e = o.trans z y x e back
    by-order Equal e = o.congr z y x e ∙ back
    by-order Greater e =
        let less : R y z ≡ Less = o.antisymm y z ∙ ap ordering_reverse e in
        let no : ⊥ = cc in absurd no

pub behind-last : (row last : RowKey) (es : List Entry) → row_cmp row last ≡ Greater → All (λ q. is_lt (row_cmp last q) ≡ false) (keys_of es) → IsBehindAll row es
behind-last row last es h all = each es (recursion_from_All (λ q. is_lt (row_cmp last q) ≡ false) (keys_of es) all)
  where
    each : (es : List Entry) → AllByRecursion (λ q. is_lt (row_cmp last q) ≡ false) (keys_of es) → IsBehindAll row es
    each [] k = tt
    each (e ∷ es) k = (behind-chain row_cmp_total row last e.0 h k.0, each es k.1)

-- ---- places

pub held-later : (k v : Ty) (d : Bool) (p q : RowPlace) (es : List Entry) → place_cmp p q ≡ Less → AllByRecursion (IsHeld k v d p) es → AllByRecursion (IsHeld k v d q) es
held-later k v d p q es less =
    all-map (IsHeld k v d p) (IsHeld k v d q) es
    (λ e h. record { direction = h.direction; key = h.key; value = h.value; earlier = place_cmp_total.trans e.0.place p q h.earlier less })

pub hold-next-block : (k v : Ty) (found : List Keyed) (p : RowPlace) (first : FirstRows) → HoldFirst k v found p first → HoldFirst k v found (start_of (suc p.block)) first
hold-next-block k v found p first h =
    record { plain = h.plain; keys = h.keys; held = held-later k v first.descending p (start_of (suc p.block)) first.rows.entries (next-block p) h.held; rows = h.rows }

-- ---- a further row

-- a row that is put in at a place, and the row that it stands for
pub record IsNew (k v : Ty) (d : Bool) (p : RowPlace) (row : RowKey) (value : ScalarValue) : Type 0 where
  pub direction : row.descending ≡ d
  pub place : row.place ≡ p
  pub key_fits : fits (key_raw row.key) k ≡ true
  pub value_fits : fits (raw_view value) v ≡ true

abbrev new-row : Ty → Ty → RowKey → ScalarValue → Keyed
new-row k v row value = record { key = valued (key_raw row.key) k; value = valued (raw_view value) v }

module _ (k v : Ty) (d : Bool) (p : RowPlace) (plain : is_plain k ≡ true) (row : RowKey) (value : ScalarValue) (new : IsNew k v d p row value) where
  stands : (e : Entry) → IsHeld k v d p e → row_cmp row e.0 ≡ cond (stands_before d (valued (key_raw row.key) k) (valued (key_raw e.0.key) k)) Less Greater
  stands e h =
      row-before k row e.0 plain new.key_fits h.key (h.direction ∙ sym new.direction) (ap (place_cmp e.0.place) new.place ∙ h.earlier)
      ∙ ap (λ (b : Bool). cond (stands_before b (valued (key_raw row.key) k) (valued (key_raw e.0.key) k)) Less Greater) new.direction

  -- it goes in as a row goes behind its ties
  put-rows : (es : List Entry) → AllByRecursion (IsHeld k v d p) es
      → map (keyed_entry k v) (insert_entry row_cmp es row value) ≡ put_behind_ties d (new-row k v row value) (map (keyed_entry k v) es)
  put-rows [] h = refl
  put-rows (e ∷ es) h =
      ap (λ (o : Ordering). map (keyed_entry k v) (match_ordering o ((row, value) ∷ e ∷ es) ((e.0, value) ∷ es) (e ∷ insert_entry row_cmp es row value))) (stands e h.0)
      ∙ by-test (stands_before d (valued (key_raw row.key) k) (valued (key_raw e.0.key) k)) (put-rows es h.1)
    where
      by-test : (b : Bool) → map (keyed_entry k v) (insert_entry row_cmp es row value) ≡ put_behind_ties d (new-row k v row value) (map (keyed_entry k v) es)
          → map (keyed_entry k v) (match_ordering (cond b Less Greater) ((row, value) ∷ e ∷ es) ((e.0, value) ∷ es) (e ∷ insert_entry row_cmp es row value))
          ≡ cond b (new-row k v row value ∷ keyed_entry k v e ∷ map (keyed_entry k v) es) (keyed_entry k v e ∷ put_behind_ties d (new-row k v row value) (map (keyed_entry k v) es))
      by-test true r = refl
      by-test false r = ap (λ (rs : List Keyed). keyed_entry k v e ∷ rs) r

  -- and is held then with the others
  put-held : (q : RowPlace) (es : List Entry) → AllByRecursion (IsHeld k v d p) es → IsHeld k v d q (row, value) → AllByRecursion (IsHeld k v d q) es
      → AllByRecursion (IsHeld k v d q) (insert_entry row_cmp es row value)
  put-held q [] h own all = (own, tt)
  put-held q (e ∷ es) h own all =
      subst (λ (o : Ordering). AllByRecursion (IsHeld k v d q) (match_ordering o ((row, value) ∷ e ∷ es) ((e.0, value) ∷ es) (e ∷ insert_entry row_cmp es row value))) (sym (stands e h.0))
      (by-test (stands_before d (valued (key_raw row.key) k) (valued (key_raw e.0.key) k)) (put-held q es h.1 own all.1))
    where
      by-test : (b : Bool) → AllByRecursion (IsHeld k v d q) (insert_entry row_cmp es row value)
          → AllByRecursion (IsHeld k v d q) (match_ordering (cond b Less Greater) ((row, value) ∷ e ∷ es) ((e.0, value) ∷ es) (e ∷ insert_entry row_cmp es row value))
      by-test true r = (own, all)
      by-test false r = (all.0, r)

  -- behind all others it goes to the end
  put-last : (es : List Entry) → AllByRecursion (IsHeld k v d p) es → IsBehindAll row es
      → put_behind_ties d (new-row k v row value) (map (keyed_entry k v) es) ≡ map (keyed_entry k v) es ++ new-row k v row value ∷ []
  put-last [] h b = refl
  put-last (e ∷ es) h b =
      by-test (stands_before d (valued (key_raw row.key) k) (valued (key_raw e.0.key) k)) (sym (stands e h.0) ∙ b.0) (put-last es h.1 b.1)
    where
      by-test : (c : Bool) → cond c Less Greater ≡ Greater → put_behind_ties d (new-row k v row value) (map (keyed_entry k v) es) ≡ map (keyed_entry k v) es ++ new-row k v row value ∷ []
          → cond c (new-row k v row value ∷ keyed_entry k v e ∷ map (keyed_entry k v) es) (keyed_entry k v e ∷ put_behind_ties d (new-row k v row value) (map (keyed_entry k v) es))
          ≡ keyed_entry k v e ∷ (map (keyed_entry k v) es ++ new-row k v row value ∷ [])
      by-test true x r = let no : ⊥ = cc in absurd no
      by-test false x r = ap (λ (rs : List Keyed). keyed_entry k v e ∷ rs) r

own-key : (k : Ty) (x : SortKey) → fits (key_raw x) k ≡ true → is_of k (valued (key_raw x) k) ≡ true
own-key k x h = or_second (is_null_val (valued (key_raw x) k)) (val_fits (valued (key_raw x) k) k) (val_fits_valued (key_raw x) k h)

map-take : (f : Entry → Keyed) (n : ℕ) (es : List Entry) → map f (take n es) ≡ take n (map f es)
map-take f zero es = refl
map-take f (suc n) [] = refl
map-take f (suc n) (e ∷ es) = ap (λ (rs : List Keyed). f e ∷ rs) (map-take f n es)

pub map-length : (f : Entry → Keyed) (es : List Entry) → length (map f es) ≡ length es
map-length f [] = refl
map-length f (e ∷ es) = ap suc (map-length f es)

all-taken : (P : Entry → Type 0) (n : ℕ) (es : List Entry) → AllByRecursion P es → AllByRecursion P (take n es)
all-taken P zero es h = tt
all-taken P (suc n) [] h = tt
all-taken P (suc n) (e ∷ es) h = (h.0, all-taken P n es h.1)

-- no more rows are held than are asked
pub held-few : (k v : Ty) (found : List Keyed) (p : RowPlace) (first : FirstRows) → HoldFirst k v found p first → length first.rows.entries ≤ first.count
held-few k v found p first h =
    let own = map-length (keyed_entry k v) first.rows.entries in
    let cut = length-take first.count (in_key_order first.descending found) in
    omega (arith, own, ap length h.rows, cut)

module _ (k v : Ty) (found : List Keyed) (p : RowPlace) (first : FirstRows) (h : HoldFirst k v found p first) (row : RowKey) (value : ScalarValue)
    (new : IsNew k v first.descending p row value) where
  abbrev r : Keyed
  r = new-row k v row value

  own : AllByRecursion (OfType k) (r ∷ [])
  own = (own-key k row.key new.key_fits, tt)

  more-top : top first.descending first.count (found ++ r ∷ []) ≡ take first.count (put_behind_ties first.descending r (top first.descending first.count found))
  more-top = further_among k h.plain first.descending first.count found r h.keys own

  later : place_cmp p (behind p) ≡ Less
  later = subst (λ (n : ℕ). place_cmp p (record { block = p.block; row = n }) ≡ Less) (omega arith) (next-place p)

  held-behind : AllByRecursion (IsHeld k v first.descending (behind p)) first.rows.entries
  held-behind = held-later k v first.descending p (behind p) first.rows.entries later h.held

  -- it isn't put in
  pub hold-dropped : first.count ≤ length first.rows.entries → IsBehindAll row first.rows.entries → HoldFirst k v (found ++ r ∷ []) (behind p) first
  hold-dropped full last =
      let es = first.rows.entries in
      let rs = map (keyed_entry k v) es in
      let enough : first.count ≤ length rs = omega (arith, full, map-length (keyed_entry k v) es) in
      let few : length rs ≤ first.count = omega (arith, held-few k v found p first h, map-length (keyed_entry k v) es) in
      record {
        plain = h.plain;
        keys = all-both (OfType k) found (r ∷ []) h.keys own;
        held = held-behind;
        rows =
            sym (take_all first.count rs few) ∙ sym (take-append-le first.count rs (r ∷ []) enough)
            ∙ ap (take first.count) (sym (put-last k v first.descending p h.plain row value new es h.held last)
            ∙ ap (put_behind_ties first.descending r) h.rows)
            ∙ sym more-top;
      }

  -- it is put in, and the rows are cut
  pub hold-put : (next : FirstRows) → next.count ≡ first.count → next.descending ≡ first.descending → next.rows.entries ≡ take first.count (insert_entry row_cmp first.rows.entries row value)
      → HoldFirst k v (found ++ r ∷ []) (behind p) next
  hold-put next same_count same_direction entries =
      let es = first.rows.entries in
      let d = first.descending in
      let here : IsHeld k v d (behind p) (row, value) =
      record { direction = new.direction; key = new.key_fits; value = new.value_fits; earlier = ap (λ (q : RowPlace). place_cmp q (behind p)) new.place ∙ later } in
      let all = all-taken (IsHeld k v d (behind p)) first.count (insert_entry row_cmp es row value)
      (put-held k v d p h.plain row value new (behind p) es h.held here held-behind) in
      record {
        plain = h.plain;
        keys = all-both (OfType k) found (r ∷ []) h.keys own;
        held =
            subst (λ (b : Bool). AllByRecursion (IsHeld k v b (behind p)) next.rows.entries) (sym same_direction)
            (subst (λ (xs : List Entry). AllByRecursion (IsHeld k v d (behind p)) xs) (sym entries) all);
        rows =
            ap (map (keyed_entry k v)) entries ∙ map-take (keyed_entry k v) first.count (insert_entry row_cmp es row value)
            ∙ ap (take first.count) (put-rows k v d p h.plain row value new es h.held ∙ ap (put_behind_ties d r) h.rows)
            ∙ sym more-top
            ∙ ap (λ (b : Bool). top b first.count (found ++ r ∷ [])) (sym same_direction)
            ∙ ap (λ (n : ℕ). top next.descending n (found ++ r ∷ [])) (sym same_count);
      }

-- the values of entries, as raw values
pub map-twice : (es : List Entry) → map raw_view (map (λ (e : Entry). e.1) es) ≡ map (λ (e : Entry). raw_view e.1) es
map-twice [] = refl
map-twice (e ∷ es) = ap (λ (xs : List Raw). raw_view e.1 ∷ xs) (map-twice es)
