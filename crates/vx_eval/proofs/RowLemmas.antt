-- Rules row by row over rows that are made of the same rows.
use Rattle.std.proofs.Common.{◌≡◌, List, [], ◌∷◌, map, refl, ap}
use Rattle.vx_column.specs.Columns.{zip_rows, zip_rows3}

pub zip_map : {R A B C : Type 0} (f : A → B → C) (g : R → A) (h : R → B) (rows : List R) → zip_rows f (map g rows) (map h rows) ≡ map (λ row. f (g row) (h row)) rows
zip_map f g h [] = refl
zip_map f g h (row ∷ rows) = ap (λ xs. f (g row) (h row) ∷ xs) (zip_map f g h rows)

pub zip_map3 : {R A B C D : Type 0} (f : A → B → C → D) (g : R → A) (h : R → B) (k : R → C) (rows : List R) → zip_rows3 f (map g rows) (map h rows) (map k rows) ≡ map (λ row. f (g row) (h row) (k row)) rows
zip_map3 f g h k [] = refl
zip_map3 f g h k (row ∷ rows) = ap (λ xs. f (g row) (h row) (k row) ∷ xs) (zip_map3 f g h k rows)
