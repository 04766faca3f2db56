-- Values that are put behind a list, and the rows that they stand for.
use Rattle.std.proofs.Common.{◌≡◌, refl, ap, ◌∙◌, ◌⊎◌, inl, inr, sym, ℕ, ◌+◌, ◌<◌, ◌≤◌, true, List, [], ◌∷◌, ◌++◌, length, take, arith}
use Rattle.std.specs.List.{AppendsClones, AppendsClonesOf, AllClonesOf}
use Rattle.std.proofs.Math.ListN.{replicate}
use Rattle.std.proofs.lemmas.List.{append_assoc, append-nil, length-append, take_all}
use Rattle.vx_dtype.specs.Types.{Ty}
use Rattle.vx_dtype.specs.Values.{valued}
use Rattle.vx_dtype.specs.Fits.{fits}
use Rattle.vx_dtype.specs.RawViews.{raw_view}
use Rattle.vx_dtype.specs.declared.values.ScalarValue.{ScalarValue}
use Rattle.vx_column.specs.Columns.{Column, column, AppendsRows, raws_fit, raw_rows, values_fit, seen, seen_rows}
use Rattle.vx_column.specs.StructColumns.{StandsAt}
use Rattle.vx_column.proofs.FitLemmas.{of_both}
use Rattle.vx_column.proofs.CellLemmas.{made_more}
use Rattle.vx_column.proofs.MadeLemmas.{clones_are_the_same}

-- none so far
pub appends_none : (c : Column) (xs : List ScalarValue) → AppendsRows (column c.ty (take 0 c.rows)) xs xs
appends_none c xs = record {
  more = [];
  behind = sym (append-nil xs);
  fit = refl;
  rows = refl;
}

-- one more row
pub appends_more : (c : Column) (start old new : List ScalarValue) (i : ℕ) (x : ScalarValue) → i < length c.rows → StandsAt i c x → new ≡ old ++ x ∷ []
    → AppendsRows (column c.ty (take i c.rows)) start old → AppendsRows (column c.ty (take (i + 1) c.rows)) start new
appends_more c start old new i x h s e before =
    let more = made_more c before.more (before.more ++ x ∷ []) i x h s refl (before.fit, before.rows) in
    record {
      more = before.more ++ x ∷ [];
      behind = e ∙ ap (λ xs. xs ++ x ∷ []) before.behind ∙ append_assoc start before.more (x ∷ []);
      fit = more.0;
      rows = more.1;
    }

-- all rows
pub appends_all : (c : Column) (start new : List ScalarValue) (i : ℕ) → length c.rows ≤ i → AppendsRows (column c.ty (take i c.rows)) start new → AppendsRows c start new
appends_all c start new i h all = record {
  more = all.more;
  behind = all.behind;
  fit = all.fit;
  rows = all.rows ∙ take_all i c.rows h;
}

-- the same values behind other ones
pub appends_behind : (c : Column) (start new : List ScalarValue) → AppendsRows c [] new → AppendsRows c start (start ++ new)
appends_behind c start new all = record {
  more = all.more;
  behind = ap (λ xs. start ++ xs) all.behind;
  fit = all.fit;
  rows = all.rows;
}

-- the rows of clones
pub appends_clones : (t : Ty) (old new xs : List ScalarValue) → values_fit t xs ≡ true → AppendsClones (λ x y. raw_view y ≡ raw_view x) old new xs → AppendsRows (column t (seen_rows t xs)) old new
appends_clones t old new xs f (ys, e, same) =
    let raws = clones_are_the_same xs ys same in
    record {
      more = ys;
      behind = e;
      fit = ap (raws_fit t) raws ∙ f;
      rows = ap (raw_rows t) raws;
    }

-- the rows of clones of one value
one_clone : (x y : ScalarValue) → (y ≡ x) ⊎ (raw_view y ≡ raw_view x) → raw_view y ≡ raw_view x
one_clone x y (inl same) = ap raw_view same
one_clone x y (inr clone) = clone

seen_clones : (t : Ty) (x : ScalarValue) (ys : List ScalarValue) → AllClonesOf (λ a b. raw_view b ≡ raw_view a) x ys → seen_rows t ys ≡ replicate (length ys) (seen t x)
seen_clones t x [] h = refl
seen_clones t x (y ∷ ys) (here, rest) = λ i. valued (one_clone x y here i) t ∷ seen_clones t x ys rest i

clones_fit : (t : Ty) (x : ScalarValue) (ys : List ScalarValue) → fits (raw_view x) t ≡ true → AllClonesOf (λ a b. raw_view b ≡ raw_view a) x ys → values_fit t ys ≡ true
clones_fit t x [] f h = refl
clones_fit t x (y ∷ ys) f (here, rest) = of_both _ _ (ap (λ r. fits r t) (one_clone x y here) ∙ f) (clones_fit t x ys f rest)

pub appends_repeated : (t : Ty) (n : ℕ) (old new : List ScalarValue) (x y : ScalarValue) → fits (raw_view x) t ≡ true → raw_view y ≡ raw_view x → length new ≡ length old + n → AppendsClonesOf (λ a b. raw_view b ≡ raw_view a) old new y → AppendsRows (column t (replicate n (seen t x))) old new
appends_repeated t n old new x y f v l (ys, e, clones) =
    let number : length ys ≡ n = omega (arith, l, ap length e, length-append old ys) in
    record {
      more = ys;
      behind = e;
      fit = clones_fit t y ys (ap (λ r. fits r t) v ∙ f) clones;
      rows = seen_clones t y ys clones ∙ (λ i. replicate (number i) (valued (v i) t));
    }
