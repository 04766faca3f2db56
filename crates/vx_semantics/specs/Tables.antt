-- Tables in blocks, and their statistics.
use Rattle.std.specs.Prelude.{ℕ, suc, Bool, true, false, ◌&&◌, List, [], ◌∷◌, ◌++◌, codes}
use Rattle.vx_dtype.specs.declared.Nullability.TheVariants.{NonNullable}
use Rattle.vx_dtype.specs.declared.Stat.{Stat}
use Rattle.vx_dtype.specs.declared.Stat.TheVariants.{Min, Max, NaNCount, NullCount}
use Rattle.vx_dtype.specs.StatNames.{stat_name}
use Rattle.vx_dtype.specs.Types.{Bytes, Ty, struct_ty, Fields}
use Rattle.vx_dtype.specs.Values.{Val, Typed}
use Rattle.vx_dtype.specs.Equal.{names_eq}

-- a table: its columns, and its rows in blocks; each row is a struct of the columns
pub record Table : Type 0 where
  pub columns : Fields
  pub blocks : List (List Val)

-- one statistic of one path: its value in each block
pub record ZoneStat : Type 0 where
  pub path : List Bytes
  pub stat : Stat
  pub values : List Typed

-- the statistics of a table: its columns, the number of rows of each block, and the statistics
pub record Zones : Type 0 where
  pub columns : Fields
  pub lengths : List ℕ
  pub stats : List ZoneStat

-- the type of the rows of a table with these columns
abbrev pub row_type : Fields → Ty
row_type fs = struct_ty fs NonNullable

-- the items, each with its number, counted from n
abbrev pub numbered_from {ℓ} : {X : Type ℓ} → ℕ → List X → List (ℕ × X)
numbered_from n [] = []
numbered_from n (x ∷ xs) = (n, x) ∷ numbered_from (suc n) xs

-- whether two statistics are of one kind
abbrev pub same_stat : Stat → Stat → Bool
same_stat Min Min = true
same_stat Max Max = true
same_stat NaNCount NaNCount = true
same_stat NullCount NullCount = true
same_stat _ _ = false

-- whether two statistics are of one path and kind
abbrev pub same_statistic : List Bytes × Stat → List Bytes × Stat → Bool
same_statistic a b = names_eq a.0 b.0 && same_stat a.1 b.1

-- a statistic as a path: the path and, behind it, the statistic's name
abbrev pub statistic_path : List Bytes → Stat → List Bytes
statistic_path path stat = path ++ stat_name stat ∷ []

-- the names of a path with `_` between
abbrev pub joined_path : List Bytes → Bytes
joined_path [] = []
joined_path (f ∷ []) = f
joined_path (f ∷ g ∷ fs) = f ++ (codes "_" ++ joined_path (g ∷ fs))

-- the joined name of a statistic of a path: the path's names and the statistic's, with `_` between
abbrev pub joined_name : List Bytes → Stat → Bytes
joined_name path stat = joined_path (statistic_path path stat)
