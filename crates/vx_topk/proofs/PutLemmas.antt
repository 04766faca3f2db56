-- Rows of a block are put in one by one.
use Rattle.std.proofs.Common.{◌≡◌, refl, ap, sym, ◌∙◌, subst, ℕ, zero, suc, ◌+◌, ◌<◌, true, List, [], ◌∷◌, ◌++◌, map, take, length, append-nil, append_assoc, arith}
use Rattle.std.proofs.Math.ListN.{get_or}
use Rattle.std.proofs.lemmas.Bool.{and_parts}
use Rattle.std.proofs.lemmas.List.{take_more, take_all}
use Rattle.vx_dtype.specs.Types.{Ty}
use Rattle.vx_dtype.specs.Values.{valued}
use Rattle.vx_dtype.specs.Fits.{fits}
use Rattle.vx_dtype.specs.RawViews.{raw_view}
use Rattle.vx_dtype.specs.declared.values.ScalarValue.{ScalarValue}
use Rattle.vx_column.specs.Columns.{seen, seen_rows, values_fit}
use Rattle.vx_laws_topk.specs.TopRows.{Keyed}
use Rattle.vx_laws_topk.specs.BoundLaws.{keyed_type, unpacked}
use Rattle.vx_topk.specs.FirstRows.{HoldFirst, ArePutIn, AsksTheSame, behind, start_of}
use Rattle.vx_topk.specs.declared.row_keys.RowPlace.{RowPlace}
use Rattle.vx_topk.specs.declared.first_rows.FirstRows.{FirstRows}
use Rattle.vx_topk.proofs.HoldLemmas.{hold-next-block}

-- the value at a place of values that fit fits
pub fits-at : (t : Ty) (rows : List ScalarValue) (i : ℕ) (x : ScalarValue) → i < length rows → x ≡ get_or rows i x → values_fit t rows ≡ true → fits (raw_view x) t ≡ true
fits-at t [] i x h e f = absurd (omega (arith, h))
fits-at t (y ∷ ys) zero x h e f = ap (λ (z : ScalarValue). fits (raw_view z) t) e ∙ (and_parts (fits (raw_view y) t) (values_fit t ys) f).0
fits-at t (y ∷ ys) (suc i) x h e f = fits-at t ys i x (omega (arith, h)) e (and_parts (fits (raw_view y) t) (values_fit t ys) f).1

-- one row more
seen-append : (t : Ty) (xs ys : List ScalarValue) → map unpacked (seen_rows t (xs ++ ys)) ≡ map unpacked (seen_rows t xs) ++ map unpacked (seen_rows t ys)
seen-append t [] ys = refl
seen-append t (x ∷ xs) ys = ap (λ (rs : List Keyed). unpacked (seen t x) ∷ rs) (seen-append t xs ys)

seen-more : (t : Ty) (rows : List ScalarValue) (i : ℕ) (x : ScalarValue) → i < length rows → x ≡ get_or rows i x
    → map unpacked (seen_rows t (take (i + 1) rows)) ≡ map unpacked (seen_rows t (take i rows)) ++ unpacked (seen t x) ∷ []
seen-more t rows i x h e =
    ap (λ (xs : List ScalarValue). map unpacked (seen_rows t xs)) (take_more rows i x h)
    ∙ seen-append t (take i rows) (get_or rows i x ∷ [])
    ∙ ap (λ (y : ScalarValue). map unpacked (seen_rows t (take i rows)) ++ unpacked (seen t y) ∷ []) (sym e)

pub put-none : (first : FirstRows) (block : ℕ) (rows : List ScalarValue) → ArePutIn first first block 0 rows
put-none first block rows =
    record {
      same = (refl, refl);
      holds = λ k v found h f. subst (λ (rs : List Keyed). HoldFirst k v rs (start_of block) first) (sym (append-nil found)) h;
    }

-- what a call of `put_row` says
abbrev PutsRow : FirstRows → FirstRows → RowPlace → ScalarValue → Type 0
PutsRow before after place x =
    (k v : Ty) (found : List Keyed) → HoldFirst k v found place before → fits (raw_view x) (keyed_type k v) ≡ true
    → HoldFirst k v (found ++ unpacked (valued (raw_view x) (keyed_type k v)) ∷ []) (behind place) after

pub put-more : (first before after : FirstRows) (block i : ℕ) (rows : List ScalarValue) (x : ScalarValue) → ArePutIn first before block i rows → i < length rows → x ≡ get_or rows i x
    → AsksTheSame before after → PutsRow before after (record { block = block; row = i }) x → ArePutIn first after block (i + 1) rows
put-more first before after block i rows x h less e same puts =
    record {
      same = (same.0 ∙ h.same.0, same.1 ∙ h.same.1);
      holds = λ k v found held f.
          let t = keyed_type k v in
          let so_far = map unpacked (seen_rows t (take i rows)) in
          let more : found ++ map unpacked (seen_rows t (take (i + 1) rows)) ≡ (found ++ so_far) ++ unpacked (seen t x) ∷ [] =
          ap (λ (rs : List Keyed). found ++ rs) (seen-more t rows i x less e) ∙ sym (append_assoc found so_far (unpacked (seen t x) ∷ [])) in
          subst (λ (rs : List Keyed). HoldFirst k v rs (record { block = block; row = i + 1 }) after) (sym more)
          (puts k v (found ++ so_far) (h.holds k v found held f) (fits-at t rows i x less e f));
    }

pub put-all : (first after : FirstRows) (block : ℕ) (rows : List ScalarValue) → ArePutIn first after block (length rows) rows → (k v : Ty) (found : List Keyed)
    → HoldFirst k v found (start_of block) first → values_fit (keyed_type k v) rows ≡ true → HoldFirst k v (found ++ map unpacked (seen_rows (keyed_type k v) rows)) (start_of (block + 1)) after
put-all first after block rows h k v found held f =
    let t = keyed_type k v in
    let whole : take (length rows) rows ≡ rows = take_all (length rows) rows (omega arith) in
    let next : suc block ≡ block + 1 = omega arith in
    subst (λ (n : ℕ). HoldFirst k v (found ++ map unpacked (seen_rows t rows)) (start_of n) after) next
    (hold-next-block k v (found ++ map unpacked (seen_rows t rows)) (record { block = block; row = length rows }) after
    (subst (λ (xs : List ScalarValue). HoldFirst k v (found ++ map unpacked (seen_rows t xs)) (record { block = block; row = length rows }) after) whole (h.holds k v found held f)))
