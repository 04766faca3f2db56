-- Columns as data: a type, and a list of values of the type, one per row.
use Rattle.std.specs.Prelude.{◌≡◌, ℕ, slice_index_or, count_by, Bool, true, ◌&&◌, cond, List, [], ◌∷◌, ◌++◌, map}
use Rattle.vx_dtype.specs.Types.{Ty}
use Rattle.vx_dtype.specs.Values.{Raw, Val, null_val, valued}
use Rattle.vx_dtype.specs.Logic.{is_true_val}
use Rattle.vx_dtype.specs.Fits.{fits, val_fits}
use Rattle.vx_dtype.specs.RawViews.{raw_view}
use Rattle.vx_dtype.specs.declared.values.ScalarValue.{ScalarValue}

-- a column: its type, and the value at each row
pub record Column : Type 0 where
  pub ty : Ty
  pub rows : List Val

-- whether the value at each row is one of the type
abbrev pub rows_fit : Ty → List Val → Bool
rows_fit t [] = true
rows_fit t (v ∷ vs) = val_fits v t && rows_fit t vs

-- whether each raw value is one of the type
abbrev pub raws_fit : Ty → List Raw → Bool
raws_fit t [] = true
raws_fit t (x ∷ xs) = fits x t && raws_fit t xs

-- what raw values of a type stand for, row by row
abbrev pub raw_rows : Ty → List Raw → List Val
raw_rows t xs = map (λ x. valued x t) xs

-- whether each value of the code is one of the type
abbrev pub values_fit : Ty → List ScalarValue → Bool
values_fit t xs = raws_fit t (map raw_view xs)

-- what a value of the code stands for at a type
abbrev pub seen : Ty → ScalarValue → Val
seen t x = valued (raw_view x) t

-- what values of the code stand for at a type, row by row
abbrev pub seen_rows : Ty → List ScalarValue → List Val
seen_rows t xs = raw_rows t (map raw_view xs)

-- the column of these rows
abbrev pub column : Ty → List Val → Column
column t vs = record { ty = t; rows = vs }

-- a column's rows stand behind a list, in order, as values of the column's type
pub record AppendsRows (c : Column) (before after : List ScalarValue) : Type 0 where
  pub more : List ScalarValue
  pub behind : after ≡ before ++ more
  pub fit : values_fit c.ty more ≡ true
  pub rows : seen_rows c.ty more ≡ c.rows

-- the value at a row, counted from 0; null past the last
abbrev pub row_at : Column → ℕ → Val
row_at c i = slice_index_or c.rows i null_val

-- what a rule of two values gives row by row, as far as both columns go
abbrev pub zip_rows : {A B C : Type 0} → (A → B → C) → List A → List B → List C
zip_rows f [] ys = []
zip_rows f (x ∷ xs) [] = []
zip_rows f (x ∷ xs) (y ∷ ys) = f x y ∷ zip_rows f xs ys

-- the value, or null where the other value is true
abbrev pub masked : Val → Val → Val
masked v m = cond (is_true_val m) null_val v

-- the rows where the other column is true
abbrev pub kept_rows : List Val → List Val → List Val
kept_rows [] ks = []
kept_rows (v ∷ vs) [] = []
kept_rows (v ∷ vs) (k ∷ ks) = cond (is_true_val k) (v ∷ kept_rows vs ks) (kept_rows vs ks)

-- at how many rows a boolean column is true
abbrev pub true_count : List Val → ℕ
true_count ks = count_by is_true_val ks

-- what a rule of three values gives row by row, as far as all columns go
abbrev pub zip_rows3 : {A B C D : Type 0} → (A → B → C → D) → List A → List B → List C → List D
zip_rows3 f [] ys zs = []
zip_rows3 f (x ∷ xs) [] zs = []
zip_rows3 f (x ∷ xs) (y ∷ ys) [] = []
zip_rows3 f (x ∷ xs) (y ∷ ys) (z ∷ zs) = f x y z ∷ zip_rows3 f xs ys zs
