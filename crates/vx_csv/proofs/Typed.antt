-- The types that are found of rows, one for each name, and given columns that aren't refused.
use Rattle.std.proofs.Common.{◌≡◌, ◌∙◌, refl, sym, ap, ℕ, suc, ◌+◌, ◌<◌, ◌≤◌, Bool, true, false, cond, List, [], ◌∷◌, map, drop, length, Option, Some, None, nat_le, leb-true, arith}
use Rattle.std.specs.List.{list_all}
use Rattle.std.specs.Option.{option_or}
use Rattle.std.proofs.lemmas.Bool.{and_from}
use Rattle.std.proofs.lemmas.List.{drop_more, drop_all}
use Rattle.vx_dtype.specs.declared.PType.TheVariants.{I64}
use Rattle.vx_dtype.specs.declared.Nullability.{Nullability}
use Rattle.vx_dtype.specs.declared.Nullability.TheVariants.{Nullable}
use Rattle.vx_dtype.specs.Types.{Bytes, Ty, bool_ty, int_ty, text_ty, Fields}
use Rattle.vx_dtype.specs.TypeRules.{is_plain, field_names, distinct_names}
use Rattle.vx_dtype.specs.StructTypes.{field_types}
use Rattle.vx_dtype.specs.Zipped.{zipped}
use Rattle.vx_laws_csv.specs.Cells.{cell_at}
use Rattle.vx_laws_csv.specs.FoundTypes.{all_null, all_taken, found_nullability, found_type, found_types}
use Rattle.vx_laws_csv.specs.Refusals.{Refusal, too_many_rows, other_names, not_plain}
use Rattle.vx_laws_csv.specs.CsvTables.{found_columns, number_refusal, columns_refusal, plain_refusal, values_refusal, given_refusal, rows_taken}
use Rattle.vx_dtype.specs.Equal.{names_eq}
use Rattle.vx_dtype.specs.EqualLaws.{names_decides}
use Rattle.vx_csv.proofs.Texts.{neither}
use Rattle.vx_laws_csv.proofs.Taken.{nothing_is_refused, values-taken}

-- ---- a loop over names

pub found-step : (null : Bytes) (i : ℕ) (names : List Bytes) (rows : List (List Bytes)) → i < length names
    → found_types null i (drop i names) rows ≡ found_type null (map (cell_at i) rows) ∷ found_types null (i + 1) (drop (i + 1) names) rows
found-step null i names rows h = ap (λ (ns : List Bytes). found_types null i ns rows) (drop_more names i [] h)

pub found-end : (null : Bytes) (i : ℕ) (names : List Bytes) (rows : List (List Bytes)) → length names ≤ i → found_types null i (drop i names) rows ≡ []
found-end null i names rows h = ap (λ (ns : List Bytes). found_types null i ns rows) (drop_all i names h)

pub found-count : (null : Bytes) (i : ℕ) (names : List Bytes) (rows : List (List Bytes)) → length (found_types null i names rows) ≡ length names
found-count null i [] rows = refl
found-count null i (f ∷ names) rows = ap suc (found-count null (i + 1) names rows)

-- ---- columns that are found

names-zipped : (fs : List Bytes) (ts : List Ty) → length ts ≡ length fs → field_names (zipped fs ts) ≡ fs
names-zipped [] ts e = refl
names-zipped (f ∷ fs) [] e = absurd (omega (arith, e))
names-zipped (f ∷ fs) (t ∷ ts) e = ap (λ (gs : List Bytes). f ∷ gs) (names-zipped fs ts (omega (arith, e)))

types-zipped : (fs : List Bytes) (ts : List Ty) → length ts ≡ length fs → field_types (zipped fs ts) ≡ ts
types-zipped [] [] e = refl
types-zipped [] (t ∷ ts) e = absurd (omega (arith, e))
types-zipped (f ∷ fs) [] e = absurd (omega (arith, e))
types-zipped (f ∷ fs) (t ∷ ts) e = ap (λ (us : List Ty). t ∷ us) (types-zipped fs ts (omega (arith, e)))

plain-by : (a i b : Bool) (n : Nullability) → is_plain (cond a (text_ty n) (cond i (int_ty I64 n) (cond b (bool_ty n) (text_ty n)))) ≡ true
plain-by true i b n = refl
plain-by false true b n = refl
plain-by false false true n = refl
plain-by false false false n = refl

found-plain : (null : Bytes) (i : ℕ) (names : List Bytes) (rows : List (List Bytes)) → list_all is_plain (found_types null i names rows) ≡ true
found-plain null i [] rows = refl
found-plain null i (f ∷ names) rows =
    let cells = map (cell_at i) rows in
    and_from (is_plain (found_type null cells)) (list_all is_plain (found_types null (i + 1) names rows))
    (plain-by (all_null null cells) (all_taken null (int_ty I64 Nullable) cells) (all_taken null (bool_ty Nullable) cells) (found_nullability null cells))
    (found-plain null (i + 1) names rows)

pub record AreFound (null : Bytes) (names : List Bytes) (rows : List (List Bytes)) : Type 0 where
  pub are_named : field_names (found_columns null names rows) ≡ names
  pub are_plain : list_all is_plain (field_types (found_columns null names rows)) ≡ true
  pub are_taken : rows_taken null (field_types (found_columns null names rows)) rows ≡ true

pub are-found : (null : Bytes) (names : List Bytes) (rows : List (List Bytes)) → AreFound null names rows
are-found null names rows =
    let ts = found_types null 0 names rows in
    let count = found-count null 0 names rows in
    let types = types-zipped names ts count in
    record {
      are_named = names-zipped names ts count;
      are_plain = ap (list_all is_plain) types ∙ found-plain null 0 names rows;
      are_taken = ap (λ (us : List Ty). rows_taken null us rows) types ∙ values-taken null ts 1 rows (nothing_is_refused null names rows);
    }

-- ---- columns that are given

so-far : (b : Bool) (o : Option Refusal) (x : Refusal) → cond b o (Some x) ≡ None → (b ≡ true) × (o ≡ None)
so-far true o x h = (refl, h)
so-far false o x h = absurd cc

pub all-plain : (column : ℕ) (ts : List Ty) → plain_refusal column ts ≡ None → list_all is_plain ts ≡ true
all-plain column [] h = refl
all-plain column (t ∷ ts) h =
    let parts = so-far (is_plain t) (plain_refusal (column + 1) ts) (not_plain column t) h in
    and_from (is_plain t) (list_all is_plain ts) parts.0 (all-plain (column + 1) ts parts.1)

unnumbered : (b : Bool) (x : Refusal) → cond b None (Some x) ≡ None → b ≡ true
unnumbered true x h = refl
unnumbered false x h = absurd cc

-- no more rows than are asked for
pub few : (most : ℕ) (rows : List (List Bytes)) → None ≡ number_refusal most rows → length rows ≤ most
few most rows h = leb-true (length rows) most (unnumbered (nat_le (length rows) most) (too_many_rows (length rows)) (sym h))

pub record AreGiven (null : Bytes) (fs : Fields) (rows : List (List Bytes)) : Type 0 where
  pub distinct : distinct_names (field_names fs) ≡ true
  pub plain : list_all is_plain (field_types fs) ≡ true
  pub taken : rows_taken null (field_types fs) rows ≡ true

pub are-given : (null : Bytes) (fs : Fields) (names : List Bytes) (rows : List (List Bytes)) → None ≡ given_refusal null fs names rows → distinct_names names ≡ true → AreGiven null fs rows
are-given null fs names rows h d =
    let ts = field_types fs in
    let first = neither (columns_refusal fs names) (option_or (plain_refusal 1 ts) (values_refusal null ts 1 rows)) (sym h) in
    let second = neither (plain_refusal 1 ts) (values_refusal null ts 1 rows) first.1 in
    let same : names ≡ field_names fs = (names_decides names (field_names fs)).0 (unnumbered (names_eq names (field_names fs)) other_names first.0) in
    record { distinct = ap distinct_names (sym same) ∙ d; plain = all-plain 1 ts second.0; taken = values-taken null ts 1 rows second.1 }
