-- A walk over the types of a table's columns gives the statistics of its plain fields in order.
use Rattle.std.proofs.Common.{◌≡◌, refl, ap, sym, ◌∙◌, List, [], ◌∷◌, ◌++◌, map}
use Rattle.std.specs.List.{flat_map}
use Rattle.std.proofs.lemmas.List.Concat.{flat_map-append}
use Rattle.vx_dtype.specs.Types.{Bytes, Ty, bool_ty, int_ty, text_ty, list_ty, struct_ty, Fields, no_fields, field}
use Rattle.vx_dtype.specs.Values.{Val}
use Rattle.vx_dtype.specs.Structs.{field_of}
use Rattle.vx_semantics.specs.Paths.{path_value}
use Rattle.vx_semantics.specs.Tables.{ZoneStat}
use Rattle.vx_laws_stats.specs.BuiltStatistics.{Leaf, under, leaves_of, leaves_below, values_at, statistics_of, statistics_at}
use Rattle.vx_stats.specs.Walks.{leaf, walked_at, walked_below}

-- the statistics of a plain field below a path, at the values of the path in each block
abbrev below : List Bytes → List (List Val) → Leaf → List ZoneStat
below path columns l = statistics_of (leaf (path ++ l.path) l.ty) (map (values_at l.path) columns)

append-nil : {X : Type 0} (xs : List X) → xs ++ [] ≡ xs
append-nil [] = refl
append-nil (x ∷ xs) = ap (λ ys. x ∷ ys) (append-nil xs)

append-assoc : {X : Type 0} (xs ys zs : List X) → xs ++ (ys ++ zs) ≡ (xs ++ ys) ++ zs
append-assoc [] ys zs = refl
append-assoc (x ∷ xs) ys zs = ap (λ ws. x ∷ ws) (append-assoc xs ys zs)

own-values : (rows : List Val) → values_at [] rows ≡ rows
own-values [] = refl
own-values (row ∷ rows) = ap (λ vs. row ∷ vs) (own-values rows)

own-columns : (columns : List (List Val)) → map (values_at []) columns ≡ columns
own-columns [] = refl
own-columns (rows ∷ columns) = let here = own-values rows in let rest = own-columns columns in λ i. here i ∷ rest i

-- the values of a path are those of its rest in the field of its first name
first-values : (f : Bytes) (path : List Bytes) (rows : List Val) → values_at (f ∷ path) rows ≡ values_at path (map (field_of f) rows)
first-values f path [] = refl
first-values f path (row ∷ rows) = ap (λ vs. path_value path (field_of f row) ∷ vs) (first-values f path rows)

first-columns : (f : Bytes) (path : List Bytes) (columns : List (List Val)) → map (values_at (f ∷ path)) columns ≡ map (values_at path) (map (map (field_of f)) columns)
first-columns f path [] = refl
first-columns f path (rows ∷ columns) = let here = first-values f path rows in let rest = first-columns f path columns in λ i. here i ∷ rest i

alone : (path : List Bytes) (t : Ty) (columns : List (List Val)) → statistics_of (leaf path t) columns ≡ flat_map (below path columns) (leaf [] t ∷ [])
alone path t columns =
    let to = append-nil path in
    let values = own-columns columns in
    (λ i. statistics_of (leaf (sym to i) t) (sym values i)) ∙ sym (append-nil (statistics_of (leaf (path ++ []) t) (map (values_at []) columns)))

under-field : (path : List Bytes) (f : Bytes) (columns : List (List Val)) (ls : List Leaf) → flat_map (below (path ++ f ∷ []) (map (map (field_of f)) columns)) ls ≡ flat_map (below path columns) (map (under f) ls)
under-field path f columns [] = refl
under-field path f columns (l ∷ ls) =
    let to : (path ++ f ∷ []) ++ l.path ≡ path ++ (f ∷ l.path) = sym (append-assoc path (f ∷ []) l.path) in
    let values = sym (first-columns f l.path columns) in
    let rest = under-field path f columns ls in
    λ i. statistics_of (leaf (to i) l.ty) (values i) ++ rest i

mutual
  walk : (path : List Bytes) (t : Ty) (columns : List (List Val)) → walked_at path t columns ≡ flat_map (below path columns) (leaves_of t)
  walk path (bool_ty n) columns = alone path (bool_ty n) columns
  walk path (int_ty p n) columns = alone path (int_ty p n) columns
  walk path (text_ty n) columns = alone path (text_ty n) columns
  walk path (list_ty e n) columns = refl
  walk path (struct_ty fs n) columns = walk-below path fs columns

  walk-below : (path : List Bytes) (fs : Fields) (columns : List (List Val)) → walked_below path fs columns ≡ flat_map (below path columns) (leaves_below fs)
  walk-below path no_fields columns = refl
  walk-below path (field f t fs) columns =
      let here = walk (path ++ f ∷ []) t (map (map (field_of f)) columns) ∙ under-field path f columns (leaves_of t) in
      let rest = walk-below path fs columns in
      (λ i. here i ++ rest i) ∙ sym (flat_map-append (below path columns) (map (under f) (leaves_of t)) (leaves_below fs))

-- from the table on
pub walked : (fs : Fields) (blocks : List (List Val)) → walked_below [] fs blocks ≡ flat_map (statistics_at blocks) (leaves_below fs)
walked fs blocks = walk-below [] fs blocks

-- the statistics of a field more
pub one-field-more : {X : Type 0} (whole before here rest after : List X) → whole ≡ before ++ (here ++ rest) → after ≡ before ++ here → whole ≡ after ++ rest
one-field-more whole before here rest after e h = e ∙ append-assoc before here rest ∙ ap (λ xs. xs ++ rest) (sym h)

pub nothing-left : {X : Type 0} (whole before rest : List X) → whole ≡ before ++ rest → rest ≡ [] → whole ≡ before
nothing-left whole before rest e h = e ∙ ap (λ xs. before ++ xs) h ∙ append-nil before
