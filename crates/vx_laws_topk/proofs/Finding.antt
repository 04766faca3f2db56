-- The rows that are found block by block under a bound that tightens have the first rows of all.
use Rattle.std.proofs.Common.{◌≡◌, refl, ap, ap₂, sym, ◌∙◌, subst, ℕ, suc, ◌+◌, Bool, true, false, cond, ◌&&◌, ◌||◌, Option, Some, None, List, [], ◌∷◌, ◌++◌, map, append_assoc, append-nil, arith, eqb-true}
use Rattle.std.specs.Prelude.{nat_eq}
use Rattle.std.specs.List.{filter, flat_map, list_all, AllByRecursion}
use Rattle.std.specs.Option.{option_and_then}
use Rattle.std.proofs.lemmas.Bool.{and_parts}
use Rattle.std.proofs.lemmas.List.{map-append}
use Rattle.vx_dtype.specs.Types.{Ty, bool_ty, int_ty, text_ty}
use Rattle.vx_dtype.specs.TypeRules.{is_plain, same_ptype}
use Rattle.vx_dtype.specs.Values.{Val, null_val, bool_val, int_val, text_val, list_val, struct_val, fault, valued}
use Rattle.vx_dtype.specs.Fits.{val_fits, in_range}
use Rattle.vx_dtype.specs.Logic.{Tri, holds, fails, unknown, broken, tri, and_tri, and3, is_null_val, is_true_val}
use Rattle.vx_dtype.specs.Structs.{field_of}
use Rattle.vx_expr.specs.Trees.{Tree}
use Rattle.vx_semantics.specs.Meaning.{Slots, mean, slot_value, dynamic3}
use Rattle.vx_semantics.specs.Tables.{Table, Zones, row_type, numbered_from}
use Rattle.vx_semantics.specs.Pruning.{rules_out}
use Rattle.vx_semantics.specs.Scans.{matching_rows, block_rows}
use Rattle.vx_zones.specs.Zoning.{type_at}
use Rattle.vx_laws.proofs.Comparing.{same_ptype-same}
use Rattle.vx_laws.proofs.EachNode.{all-both}
use Rattle.vx_laws_scan.specs.Agreeing.{all_rows_fit}
use Rattle.vx_laws_scan.proofs.Keeping.{AllNumbered, all_numbered}
use Rattle.vx_laws_scan.proofs.Ruling.{is_holds, true-tri, true-truth, never-in}
use Rattle.vx_laws_stats.specs.BuiltStatistics.{raw_of}
use Rattle.vx_laws_stats.proofs.Extremes.{is_of}
use Rattle.vx_laws_stats.proofs.HonestBlocks.{path-fits}
use Rattle.vx_laws_topk.specs.TopRows.{Keyed, TopAsk, key_operator, stands_before, top, first_rows, bound_before, bounded_filter, bound_slots, top_skips, keyed, block_keyed, found_with, found_over, skipped_over, values_of, all_keyed}
use Rattle.vx_laws_topk.specs.TopLaws.{IsAskedOf, TopIsOfAllRows, AllKeyedAreRows, CountOfNone}
use Rattle.vx_laws_topk.proofs.KeyOrder.{before-known}
use Rattle.vx_laws_topk.proofs.Inserting.{OfType, filter-all}
use Rattle.vx_laws_topk.proofs.Firsts.{bound-so, bound-of-type, bound-not_null, bounded-top, top-again}
use Rattle.vx_laws_topk.proofs.Slotless.{slotless-means}

-- ---- a row at which the bounded filter means true

true-and : (l r : Val) → is_true_val (and3 l r) ≡ (is_true_val l && is_true_val r)
true-and l r =
    true-truth (and_tri (tri l) (tri r)) ∙ by-table (tri l) (tri r)
    ∙ ap₂ (λ (a b : Bool). a && b) (sym (true-tri l)) (sym (true-tri r))
  where
    by-table : (x y : Tri) → is_holds (and_tri x y) ≡ (is_holds x && is_holds y)
    by-table holds holds = refl
    by-table holds fails = refl
    by-table holds unknown = refl
    by-table holds broken = refl
    by-table fails holds = refl
    by-table fails fails = refl
    by-table fails unknown = refl
    by-table fails broken = refl
    by-table unknown holds = refl
    by-table unknown fails = refl
    by-table unknown unknown = refl
    by-table unknown broken = refl
    by-table broken y = refl

-- the raw value of a plain value stands for it, at its type
own-value : (t : Ty) (v : Val) → is_plain t ≡ true → is_of t v ≡ true → valued (raw_of v) t ≡ v
unfolding valued val_fits
own-value (bool_ty n) null_val p h = refl
own-value (bool_ty n) (bool_val b) p h = refl
own-value (int_ty q n) null_val p h = refl
own-value (int_ty q n) (int_val r i) p h =
    let same : r ≡ q = same_ptype-same r q (and_parts (same_ptype r q) (in_range q i) h).0 in
    ap (λ s. int_val s i) (sym same)
own-value (text_ty n) null_val p h = refl
own-value (text_ty n) (text_val s) p h = refl
own-value _ _ p h = let no : ⊥ = cc in absurd no

-- whether a bound lets a key through: any where there is no bound
abbrev passes : TopAsk → Option Val → Val → Bool
passes ask None v = true
passes ask (Some bound) v = stands_before ask.descending v bound

-- a bound that a row's key can be compared with
abbrev IsBound : TopAsk → Option Val → Type 0
IsBound ask None = Unit {0}
IsBound ask (Some bound) = (is_of ask.key_type bound ≡ true) × (is_null_val bound ≡ false)

open-test : (d : Bool) (t : Ty) (v : Val) → is_plain t ≡ true → is_of t v ≡ true → is_true_val (dynamic3 (key_operator d) true v None) ≡ true
unfolding val_fits
open-test d t fault p h = let no : ⊥ = cc in absurd no
open-test d t _ p h = refl

bound-test : (d : Bool) (v b : Val) → is_null_val b ≡ false → is_true_val (dynamic3 (key_operator d) true v (Some b)) ≡ stands_before d v b
bound-test d null_val fault h = refl
bound-test d null_val _ h = refl
bound-test d (bool_val a) b h = sym (before-known d (bool_val a) b refl h)
bound-test d (int_val p a) b h = sym (before-known d (int_val p a) b refl h)
bound-test d (text_val a) b h = sym (before-known d (text_val a) b refl h)
bound-test d (list_val a) b h = sym (before-known d (list_val a) b refl h)
bound-test d (struct_val a) b h = sym (before-known d (struct_val a) b refl h)
bound-test d fault b h = sym (before-known d fault b refl h)

slot-test : (ask : TopAsk) (bound : Option Val) (v : Val) → is_plain ask.key_type ≡ true → is_of ask.key_type v ≡ true → IsBound ask bound
    → is_true_val (dynamic3 (key_operator ask.descending) true v (slot_value (bound_slots ask bound) 0)) ≡ passes ask bound v
slot-test ask None v p h k = open-test ask.descending ask.key_type v p h
slot-test ask (Some b) v p h k =
    ap (λ (w : Val). is_true_val (dynamic3 (key_operator ask.descending) true v (Some w))) (own-value ask.key_type b p k.0)
    ∙ bound-test ask.descending v b k.1

filter-any : (rows : List Keyed) → filter (λ r. true) rows ≡ rows
filter-any [] = refl
filter-any (r ∷ rows) = ap (λ (rs : List Keyed). r ∷ rs) (filter-any rows)

none-found : (ask : TopAsk) (t : Ty) (slots : Slots) (f : Tree) (rows : List Val) → AllByRecursion (λ row. is_true_val (mean t slots row f) ≡ false) rows
    → block_keyed ask t slots f rows ≡ []
none-found ask t slots f [] h = refl
none-found ask t slots f (row ∷ rows) h = rw h.0 (none-found ask t slots f rows h.1)

-- ---- what is asked of a table

module _ (table : Table) (ask : TopAsk) (asked : IsAskedOf table ask) where
  abbrev t : Ty
  t = row_type table.columns

  -- the rows of blocks fit, and each has a key of the type
  abbrev Fit : List Val → Type 0
  Fit rows = list_all (λ row. val_fits row t) rows ≡ true

  key-of-type : (row : Val) → val_fits row t ≡ true → is_of ask.key_type (field_of ask.key row) ≡ true
  key-of-type row h = path-fits (ask.key ∷ []) t row ask.key_type h (ap (option_and_then (type_at [])) asked.column)

  keyed-of-type : (slots : Slots) (f : Tree) (rows : List Val) → Fit rows → AllByRecursion (OfType ask.key_type) (block_keyed ask t slots f rows)
  keyed-of-type slots f [] h = tt
  keyed-of-type slots f (row ∷ rows) h =
      let parts = and_parts (val_fits row t) (list_all (λ (r : Val). val_fits r t) rows) h in
      by-test (is_true_val (mean t slots row f)) (key-of-type row parts.0) (keyed-of-type slots f rows parts.1)
    where
      by-test : (b : Bool) → is_of ask.key_type (field_of ask.key row) ≡ true → AllByRecursion (OfType ask.key_type) (block_keyed ask t slots f rows)
          → AllByRecursion (OfType ask.key_type) (map (keyed ask t slots) (cond b (row ∷ matching_rows t slots f rows) (matching_rows t slots f rows)))
      by-test true k l = (k, l)
      by-test false k l = l

  all-of-type : (blocks : List (List Val)) → all_rows_fit t blocks ≡ true → AllByRecursion (OfType ask.key_type) (flat_map (block_keyed ask t [] ask.filter_expr) blocks)
  all-of-type [] h = tt
  all-of-type (rows ∷ blocks) h =
      let parts = and_parts (list_all (λ (row : Val). val_fits row t) rows) (all_rows_fit t blocks) h in
      all-both (OfType ask.key_type) (block_keyed ask t [] ask.filter_expr rows) (flat_map (block_keyed ask t [] ask.filter_expr) blocks)
      (keyed-of-type [] ask.filter_expr rows parts.0) (all-of-type blocks parts.1)

  -- the bounded filter means true where the filter does and the bound lets the key through
  bounded-true : (bound : Option Val) (row : Val) → val_fits row t ≡ true → IsBound ask bound
      → is_true_val (mean t (bound_slots ask bound) row (bounded_filter ask)) ≡ (is_true_val (mean t [] row ask.filter_expr) && passes ask bound (field_of ask.key row))
  unfolding mean
  bounded-true bound row h k =
      let slots = bound_slots ask bound in
      true-and (mean t slots row ask.filter_expr) (dynamic3 (key_operator ask.descending) true (field_of ask.key row) (slot_value slots 0))
      ∙ ap₂ (λ (a b : Bool). a && b) (ap is_true_val (slotless-means t slots [] row ask.filter_expr asked.filter_slots))
      (slot-test ask bound (field_of ask.key row) asked.plain (key-of-type row h) k)

  -- so it finds those rows that the filter finds whose keys the bound lets through
  bounded-keyed : (bound : Option Val) (rows : List Val) → Fit rows → IsBound ask bound
      → block_keyed ask t (bound_slots ask bound) (bounded_filter ask) rows ≡ filter (λ r. passes ask bound r.key) (block_keyed ask t [] ask.filter_expr rows)
  bounded-keyed bound [] h k = refl
  bounded-keyed bound (row ∷ rows) h k =
      let parts = and_parts (val_fits row t) (list_all (λ (r : Val). val_fits r t) rows) h in
      ap (λ (b : Bool). map (keyed ask t slots) (cond b (row ∷ here) here)) (bounded-true bound row parts.0 k)
      ∙ by-test (is_true_val (mean t [] row ask.filter_expr)) (bounded-keyed bound rows parts.1 k)
    where
      slots : Slots
      slots = bound_slots ask bound

      here : List Val
      here = matching_rows t slots (bounded_filter ask) rows

      there : List Val
      there = matching_rows t [] ask.filter_expr rows

      passing : List Keyed → List Keyed
      passing rs = filter (λ r. passes ask bound r.key) rs

      same-row : keyed ask t slots row ≡ keyed ask t [] row
      same-row = ap (λ (v : Val). record { key = field_of ask.key row; value = v }) (slotless-means t slots [] row ask.projection asked.projection_slots)

      by-pass : (c : Bool) → map (keyed ask t slots) here ≡ passing (map (keyed ask t []) there)
          → map (keyed ask t slots) (cond c (row ∷ here) here) ≡ cond c (keyed ask t [] row ∷ passing (map (keyed ask t []) there)) (passing (map (keyed ask t []) there))
      by-pass true e = ap₂ (λ (r : Keyed) (rs : List Keyed). r ∷ rs) same-row e
      by-pass false e = e

      by-test : (a : Bool) → map (keyed ask t slots) here ≡ passing (map (keyed ask t []) there)
          → map (keyed ask t slots) (cond (a && passes ask bound (field_of ask.key row)) (row ∷ here) here) ≡ passing (map (keyed ask t []) (cond a (row ∷ there) there))
      by-test true e = by-pass (passes ask bound (field_of ask.key row)) e
      by-test false e = e

  -- the bound behind rows is one that keys can be compared with, and cuts off none of the first
  bound-fine : (found : List Keyed) → AllByRecursion (OfType ask.key_type) found → IsBound ask (bound_before ask found)
  bound-fine found f = by-bound (bound_before ask found) refl
    where
      by-bound : (o : Option Val) → bound_before ask found ≡ o → IsBound ask o
      by-bound None e = tt
      by-bound (Some b) e = let h = bound-so ask found b e in (bound-of-type ask ask.key_type found b h f, bound-not_null ask found b h)

  passing-top : (found more : List Keyed) → AllByRecursion (OfType ask.key_type) found → AllByRecursion (OfType ask.key_type) more
      → first_rows ask (found ++ filter (λ r. passes ask (bound_before ask found) r.key) more) ≡ first_rows ask (found ++ more)
  passing-top found more f g = by-bound (bound_before ask found) refl
    where
      by-bound : (o : Option Val) → bound_before ask found ≡ o → first_rows ask (found ++ filter (λ r. passes ask o r.key) more) ≡ first_rows ask (found ++ more)
      by-bound None e = ap (λ (rs : List Keyed). first_rows ask (found ++ rs)) (filter-any more)
      by-bound (Some b) e = bounded-top ask ask.key_type b found more asked.plain (bound-so ask found b e) f g

  -- ---- block by block

  module _ (zones : Zones) (some : nat_eq ask.count 0 ≡ false) where
    -- a block that is ruled out under a bound gives no row under it
    abbrev Kept : ℕ → List Val → Type 0
    Kept n rows =
        (bound : Option Val) → rules_out zones (bound_slots ask bound) n (bounded_filter ask) ≡ true → block_keyed ask t (bound_slots ask bound) (bounded_filter ask) rows ≡ []

    abbrev passing-rows : List Keyed → List Val → List Keyed
    passing-rows found rows = filter (λ r. passes ask (bound_before ask found) r.key) (block_keyed ask t [] ask.filter_expr rows)

    found-one : (found : List Keyed) (n : ℕ) (rows : List Val) → AllByRecursion (OfType ask.key_type) found → Fit rows → Kept n rows
        → found_with ask t zones found (n, rows) ≡ found ++ passing-rows found rows
    found-one found n rows f h kept =
        ap (λ (b : Bool). cond (b || ruled) found (found ++ given)) some ∙ by-test ruled refl
      where
        slots : Slots
        slots = bound_slots ask (bound_before ask found)

        ruled : Bool
        ruled = rules_out zones slots n (bounded_filter ask)

        given : List Keyed
        given = block_keyed ask t slots (bounded_filter ask) rows

        same : given ≡ passing-rows found rows
        same = bounded-keyed (bound_before ask found) rows h (bound-fine found f)

        by-test : (b : Bool) → ruled ≡ b → cond b found (found ++ given) ≡ found ++ passing-rows found rows
        by-test true e =
            sym (append-nil found) ∙ ap (λ (rs : List Keyed). found ++ rs) (sym (kept (bound_before ask found) e) ∙ same)
        by-test false e = ap (λ (rs : List Keyed). found ++ rs) same

    found-all : (found : List Keyed) (n : ℕ) (blocks : List (List Val)) → AllByRecursion (OfType ask.key_type) found → all_rows_fit t blocks ≡ true → AllNumbered Kept n blocks
        → first_rows ask (found_over ask t zones found (numbered_from n blocks)) ≡ first_rows ask (found ++ flat_map (block_keyed ask t [] ask.filter_expr) blocks)
    found-all found n [] f h kept = ap (first_rows ask) (sym (append-nil found))
    found-all found n (rows ∷ blocks) f h kept =
        let parts = and_parts (list_all (λ (row : Val). val_fits row t) rows) (all_rows_fit t blocks) h in
        let more = block_keyed ask t [] ask.filter_expr rows in
        let rest = flat_map (block_keyed ask t [] ask.filter_expr) blocks in
        let some_more = passing-rows found rows in
        let own = keyed-of-type [] ask.filter_expr rows parts.0 in
        let own_rest = all-of-type blocks parts.1 in
        let own_some = filter-all (OfType ask.key_type) (λ r. passes ask (bound_before ask found) r.key) more own in
        let both = all-both (OfType ask.key_type) found some_more f own_some in
        let one = found-one found n rows f parts.0 kept.0 in
        let d = ask.descending in
        ap (λ (rs : List Keyed). first_rows ask (found_over ask t zones rs (numbered_from (suc n) blocks))) one
        ∙ found-all (found ++ some_more) (suc n) blocks both parts.1 kept.1
        ∙ sym (top-again d ask.key_type asked.plain ask.count (found ++ some_more) rest both own_rest)
        ∙ ap (λ (rs : List Keyed). first_rows ask (rs ++ rest)) (passing-top found more f own)
        ∙ top-again d ask.key_type asked.plain ask.count (found ++ more) rest (all-both (OfType ask.key_type) found more f own) own_rest
        ∙ ap (first_rows ask) (append_assoc found more rest)

pub top_is_of_all_rows : TopIsOfAllRows
top_is_of_all_rows ask table zones asked fit honest = ap values_of (by-count (nat_eq ask.count 0) refl)
  where
    t : Ty
    t = row_type table.columns

    by-count : (b : Bool) → nat_eq ask.count 0 ≡ b → first_rows ask (found_over ask t zones [] (numbered_from 0 table.blocks)) ≡ first_rows ask (all_keyed ask table)
    by-count true e =
        let none : ask.count ≡ 0 = eqb-true ask.count 0 e in
        ap (λ (k : ℕ). top ask.descending k (found_over ask t zones [] (numbered_from 0 table.blocks))) none
        ∙ ap (λ (k : ℕ). top ask.descending k (all_keyed ask table)) (sym none)
    by-count false e =
        found-all table ask asked zones e [] 0 table.blocks tt fit
        (all_numbered (Kept table ask asked zones e) 0 table.blocks (λ i rows at bound k.
        let same : 0 + i ≡ i = omega arith in
        none-found ask t (bound_slots ask bound) (bounded_filter ask) rows
        (never-in zones table (bound_slots ask bound) t (bounded_filter ask) i rows honest at
        (subst (λ (j : ℕ). rules_out zones (bound_slots ask bound) j (bounded_filter ask) ≡ true) same k))))

-- ---- all rows, and none

pub all_keyed_are_rows : AllKeyedAreRows
all_keyed_are_rows ask table = each table.blocks
  where
    t : Ty
    t = row_type table.columns

    values : (rows : List Val) → values_of (map (keyed ask t []) rows) ≡ map (λ row. mean t [] row ask.projection) rows
    values [] = refl
    values (row ∷ rows) = ap (λ (vs : List Val). mean t [] row ask.projection ∷ vs) (values rows)

    each : (blocks : List (List Val)) → values_of (flat_map (block_keyed ask t [] ask.filter_expr) blocks) ≡ flat_map (block_rows t [] ask.filter_expr ask.projection) blocks
    each [] = refl
    each (rows ∷ blocks) =
        map-append (λ (r : Keyed). r.value) (block_keyed ask t [] ask.filter_expr rows) (flat_map (block_keyed ask t [] ask.filter_expr) blocks)
        ∙ ap₂ (λ (vs ws : List Val). vs ++ ws) (values (matching_rows t [] ask.filter_expr rows)) (each blocks)

pub count_of_none : CountOfNone
count_of_none ask table zones none =
    (ap (λ (k : ℕ). values_of (top ask.descending k (found_over ask t zones [] (numbered_from 0 table.blocks)))) none, all-skipped [] (numbered_from 0 table.blocks))
  where
    t : Ty
    t = row_type table.columns

    skips : (found : List Keyed) (n : ℕ) → top_skips ask zones found n ≡ true
    skips found n = ap (λ (k : ℕ). nat_eq k 0 || rules_out zones (bound_slots ask (bound_before ask found)) n (bounded_filter ask)) none

    all-skipped : (found : List Keyed) (bs : List (ℕ × List Val)) → skipped_over ask t zones found bs ≡ map (λ b. b.0) bs
    all-skipped found [] = refl
    all-skipped found (b ∷ bs) =
        let rest = skipped_over ask t zones (found_with ask t zones found b) bs in
        ap (λ (c : Bool). cond c (b.0 ∷ rest) rest) (skips found b.0)
        ∙ ap (λ (ns : List ℕ). b.0 ∷ ns) (all-skipped (found_with ask t zones found b) bs)
