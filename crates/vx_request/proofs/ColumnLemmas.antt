-- Columns of cells, one after another.
use Rattle.std.proofs.Common.{◌≡◌, ℕ, ◌+◌, ◌<◌, ◌≤◌, Bool, true, false, List, [], ◌∷◌, ◌++◌, length, drop, get_or, map, Option, Some, None, Ok, Err, refl, sym, ap, ◌∙◌}
use Rattle.std.proofs.lemmas.List.{drop_more, drop_all}
use Rattle.serde_json.specs.Data.{Items}
use Rattle.vx_dtype.specs.Types.{Ty}
use Rattle.vx_column.specs.Columns.{Column}
use Rattle.vx_column.specs.Answers.{unless}
use Rattle.vx_column.specs.declared.errors.ColumnError.{ColumnError}
use Rattle.vx_column.specs.declared.errors.ColumnError.TheVariants.{WrongValue, DuplicateField}
use Rattle.vx_request.specs.Objects.{◌>>=◌}
use Rattle.vx_request.specs.Cells.{column_in, columns_of}
use Rattle.vx_request.proofs.ItemLemmas.{found_before, found_one_more, found_at_end}

-- whether a column of raw values is refused so
abbrev pub is_of_values : ColumnError → Bool
is_of_values WrongValue = true
is_of_values DuplicateField = true
is_of_values _ = false

-- a column of raw values is refused for a value or a name alone
pub never_other : (fit names : Bool) (c : Column) (e : ColumnError) → is_of_values e ≡ false
    → Err e ≡ unless fit WrongValue (unless names DuplicateField (Ok c)) → ⊥
never_other true true c e h told = absurd (cc told)
never_other true false c e h told = absurd (let is : e ≡ DuplicateField = cc told in cc (h, ap is_of_values is))
never_other false names c e h told = absurd (let is : e ≡ WrongValue = cc told in cc (h, ap is_of_values is))

no_lists : (ts : List Ty) → columns_of ts [] ≡ Some []
no_lists [] = refl
no_lists (t ∷ ts) = refl

module _ {X Y : Type 0} (see : X → Ty) (show : Y → Items) where
  -- the columns of the types and the lists from a place on
  abbrev pub left : List X → List Y → ℕ → Option (List Column)
  left xs ys i = columns_of (map see (drop i xs)) (map show (drop i ys))

  -- the first of the columns is made before the others
  columns_step : (xs : List X) (ys : List Y) (i : ℕ) (x : X) (y : Y) → i < length xs → i < length ys → x ≡ get_or xs i x → y ≡ get_or ys i y
      → left xs ys i ≡ (column_in (see x) (show y) >>= λ c. left xs ys (i + 1) >>= λ cs. Some (c ∷ cs))
  columns_step xs ys i x y h k a b =
      ap (λ us. columns_of (map see us) (map show (drop i ys))) (drop_more xs i x h ∙ ap (λ u. u ∷ drop (i + 1) xs) (sym a))
      ∙ ap (λ ms. columns_of (map see (x ∷ drop (i + 1) xs)) (map show ms)) (drop_more ys i y k ∙ ap (λ m. m ∷ drop (i + 1) ys) (sym b))

  -- one column more
  pub column_more : (xs : List X) (ys : List Y) (i : ℕ) (x : X) (y : Y) (c : Column) (found found' : List Column) (all : Option (List Column))
      → i < length xs → i < length ys → x ≡ get_or xs i x → y ≡ get_or ys i y → column_in (see x) (show y) ≡ Some c
      → all ≡ found_before found (left xs ys i) → found' ≡ found ++ c ∷ [] → all ≡ found_before found' (left xs ys (i + 1))
  column_more xs ys i x y c found found' all h k a b one before new =
      let rest = left xs ys (i + 1) in
      before ∙ ap (found_before found) (columns_step xs ys i x y h k a b ∙ ap (λ o. o >>= λ z. rest >>= λ cs. Some (z ∷ cs)) one)
      ∙ found_one_more Column found c rest ∙ ap (λ zs. found_before zs rest) (sym new)

  -- where a column isn't made, none are
  pub column_missing : (xs : List X) (ys : List Y) (i : ℕ) (x : X) (y : Y) (found : List Column) (all : Option (List Column))
      → i < length xs → i < length ys → x ≡ get_or xs i x → y ≡ get_or ys i y → column_in (see x) (show y) ≡ None
      → all ≡ found_before found (left xs ys i) → None ≡ all
  column_missing xs ys i x y found all h k a b none before =
      let rest = left xs ys (i + 1) in
      sym (before ∙ ap (found_before found) (columns_step xs ys i x y h k a b ∙ ap (λ o. o >>= λ z. rest >>= λ cs. Some (z ∷ cs)) none))

  -- past the last list no columns are left
  pub columns_end : (xs : List X) (ys : List Y) (i : ℕ) (found : List Column) (all : Option (List Column)) → length ys ≤ i
      → all ≡ found_before found (left xs ys i) → Some found ≡ all
  columns_end xs ys i found all past before =
      sym (before ∙ ap (λ ms. found_before found (columns_of (map see (drop i xs)) (map show ms))) (drop_all i ys past)
      ∙ ap (found_before found) (no_lists (map see (drop i xs))) ∙ found_at_end Column found)
