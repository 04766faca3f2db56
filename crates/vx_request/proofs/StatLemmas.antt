-- Statistics of a request, as their cells are read into columns of their types, and by what they are refused where one isn't read.
use Rattle.std.proofs.Common.{◌≡◌, refl, ap, sym, ◌∙◌, subst, ℕ, suc, ◌+◌, Bool, true, false, cond, not, ◌&&◌, List, [], ◌∷◌, map, length, Option, Some, None, option_map, Ok}
use Rattle.std.specs.Prelude.{◌==◌, is_some, unwrap_or}
use Rattle.std.specs.Option.{option_and_then}
use Rattle.std.specs.List.{list_all}
use Rattle.std.specs.Result.{result_ok}
use Rattle.std.proofs.lemmas.Bool.{and_parts}
use Rattle.std.proofs.lemmas.Option.{none-some, same_Some}
use Rattle.serde_json.specs.Data.{Items, no_items, item}
use Rattle.serde_json.specs.Events.{items_len}
use Rattle.vx_dtype.specs.declared.Nullability.TheVariants.{Nullable}
use Rattle.vx_dtype.specs.declared.Stat.{Stat}
use Rattle.vx_dtype.specs.declared.Stat.TheVariants.{NaNCount}
use Rattle.vx_dtype.specs.Types.{Bytes, Ty, bool_ty, int_ty, text_ty, list_ty, struct_ty, no_fields, Fields}
use Rattle.vx_dtype.specs.TypeRules.{is_plain, no_name_twice}
use Rattle.vx_dtype.specs.Equal.{ty_eq}
use Rattle.vx_dtype.specs.EqualLaws.{ty_decides}
use Rattle.vx_dtype.specs.Values.{Raw, Typed, valued}
use Rattle.vx_dtype.specs.Fits.{fits}
use Rattle.vx_semantics.specs.Tables.{ZoneStat}
use Rattle.vx_column.specs.Columns.{Column, column, raws_fit, raw_rows}
use Rattle.vx_column.specs.Answers.{unless}
use Rattle.vx_column.specs.declared.errors.ColumnError.TheVariants.{WrongValue, DuplicateField}
use Rattle.vx_zones.specs.LeafTypes.{nullable, type_by}
use Rattle.vx_zones.specs.StatColumns.{column_stat, typed_rows}
use Rattle.vx_zones.specs.Zoning.{statistic_type, values_have}
use Rattle.vx_zones.proofs.PlainLemmas.{raw_back, plain_names}
use Rattle.vx_request.specs.Objects.{◌>>=◌, each_item}
use Rattle.vx_request.specs.RequestMembers.{StatText}
use Rattle.vx_request.specs.Cells.{raw_in, typed_where, no_value, cells_from, column_where, column_in}
use Rattle.vx_request.specs.Requests.{no_stat, typed_stat}
use Rattle.vx_request.specs.ReadStatistics.{stat_by, has_type_by, IsRead}

and_false : (a : Bool) → (a && false) ≡ false
and_false true = refl
and_false false = refl

-- ---- cells

module _ (t : Ty) (plain : is_plain t ≡ true) where
  -- a cell of a statistic by what is read of it
  abbrev cell_by : Option Raw → Typed
  cell_by o = unwrap_or (o >>= typed_where t) no_value

  -- whether each of these is of the type
  abbrev all_of : List Typed → Bool
  all_of ss = list_all (λ s. ty_eq s.ty t) ss

  -- no plain type is that of what stands for no value
  no_such : (u : Ty) → is_plain u ≡ true → ty_eq (struct_ty no_fields Nullable) u ≡ false
  unfolding ty_eq
  no_such (bool_ty n) h = refl
  no_such (int_ty p n) h = refl
  no_such (text_ty n) h = refl
  no_such (list_ty e n) h = let no : ⊥ = cc (h) in absurd no
  no_such (struct_ty fs n) h = let no : ⊥ = cc (h) in absurd no

  abbrev AreCells : List Typed → Option (List Raw) → Type 0
  AreCells ss None = all_of ss ≡ false
  AreCells ss (Some xs) = ss ≡ map (λ x. cell_by (Some x)) xs

  one_cell : (o : Option Raw) (rest : Option (List Raw)) (ss : List Typed) → AreCells ss rest → AreCells (cell_by o ∷ ss) (o >>= λ x. rest >>= λ xs. Some (x ∷ xs))
  one_cell None rest ss h = ap (λ (b : Bool). b && all_of ss) (no_such t plain)
  one_cell (Some x) None ss h = ap (λ (b : Bool). ty_eq (cell_by (Some x)).ty t && b) h ∙ and_false (ty_eq (cell_by (Some x)).ty t)
  one_cell (Some x) (Some xs) ss h = ap (λ (ys : List Typed). cell_by (Some x) ∷ ys) h

  all_cells : (cells : Items) → AreCells (cells_from t cells) (each_item (raw_in t) cells)
  all_cells no_items = refl
  all_cells (item d ds) = one_cell (raw_in t d) (each_item (raw_in t) ds) (cells_from t ds) (all_cells ds)

  fitting-cell : (x : Raw) → fits x t ≡ true → cell_by (Some x) ≡ record { ty = t; value = x }
  fitting-cell x h = ap (λ (b : Bool). unwrap_or (cond b (Some (record { ty = t; value = x })) None) no_value) h

  other-cell : (x : Raw) → fits x t ≡ false → cell_by (Some x) ≡ no_value
  other-cell x h = ap (λ (b : Bool). unwrap_or (cond b (Some (record { ty = t; value = x })) None) no_value) h

  own-type : ty_eq t t ≡ true
  own-type = (ty_decides t t).1 refl

  cells-typed : (xs : List Raw) → raws_fit t xs ≡ true → all_of (map (λ x. cell_by (Some x)) xs) ≡ true
  cells-typed [] h = refl
  cells-typed (x ∷ xs) h =
      let parts = and_parts (fits x t) (raws_fit t xs) h in
      (λ i. ty_eq (fitting-cell x parts.0 i).ty t && all_of (map (λ y. cell_by (Some y)) xs)) ∙ (λ i. own-type i && cells-typed xs parts.1 i)

  cells-held : (xs : List Raw) → raws_fit t xs ≡ true → typed_rows (column t (raw_rows t xs)) ≡ map (λ x. cell_by (Some x)) xs
  cells-held [] h = refl
  cells-held (x ∷ xs) h =
      let parts = and_parts (fits x t) (raws_fit t xs) h in
      let here = (λ i. record { ty = t; value = raw_back t x plain parts.0 i }) ∙ sym (fitting-cell x parts.0) in
      let rest = cells-held xs parts.1 in
      λ i. here i ∷ rest i

  cells-other : (xs : List Raw) → raws_fit t xs ≡ false → all_of (map (λ x. cell_by (Some x)) xs) ≡ false
  cells-other [] h = absurd cc
  cells-other (x ∷ xs) h = by-fit (λ e. cells-other xs (sym (ap (λ (b : Bool). b && raws_fit t xs) e) ∙ h)) (fits x t) refl
    where
      by-fit : (fits x t ≡ true → all_of (map (λ y. cell_by (Some y)) xs) ≡ false) → (b : Bool) → fits x t ≡ b → all_of (map (λ y. cell_by (Some y)) (x ∷ xs)) ≡ false
      by-fit later true e = ap (λ (b : Bool). ty_eq (cell_by (Some x)).ty t && b) (later e) ∙ and_false (ty_eq (cell_by (Some x)).ty t)
      by-fit later false e =
          let others = all_of (map (λ y. cell_by (Some y)) xs) in
          (λ i. ty_eq (other-cell x e i).ty t && others) ∙ ap (λ (b : Bool). b && others) (no_such t plain)

  -- the column that cells are of a plain type, and none where one of them is no value of it
  abbrev IsColumnOf : List Typed → Option Column → Type 0
  IsColumnOf ss None = all_of ss ≡ false
  IsColumnOf ss (Some c) = (all_of ss ≡ true) × (c.ty ≡ t) × (typed_rows c ≡ ss)

  by_fit : (ss : List Typed) (xs : List Raw) (b : Bool) → raws_fit t xs ≡ b → ss ≡ map (λ x. cell_by (Some x)) xs
      → IsColumnOf ss (result_ok (unless b WrongValue (unless (no_name_twice t) DuplicateField (Ok (column t (raw_rows t xs))))))
  by_fit ss xs false e h = ap all_of h ∙ cells-other xs e
  by_fit ss xs true e h =
      subst (λ (n : Bool). IsColumnOf ss (result_ok (unless n DuplicateField (Ok (column t (raw_rows t xs)))))) (sym (plain_names t plain))
      (ap all_of h ∙ cells-typed xs e, refl, cells-held xs e ∙ sym h)

  by_raws : (ss : List Typed) (o : Option (List Raw)) → AreCells ss o → IsColumnOf ss (o >>= column_where t)
  by_raws ss None h = h
  by_raws ss (Some xs) h = by_fit ss xs (raws_fit t xs) refl h

  pub column_read : (cells : Items) (o : Option Column) → o ≡ column_in t cells → IsColumnOf (cells_from t cells) o
  column_read cells o e = subst (λ (r : Option Column). IsColumnOf (cells_from t cells) r) (sym e) (by_raws (cells_from t cells) (each_item (raw_in t) cells) (all_cells cells))

-- ---- statistics

module _ (types : List Bytes → Option Ty) (s : StatText) where
  -- the type of the statistic
  abbrev own_type : Option Ty
  own_type = option_and_then (statistic_type s.stat) (types s.path)

  no_count : (o : Option Ty) → option_and_then (statistic_type NaNCount) o ≡ None
  no_count None = refl
  no_count (Some t) = refl

  without_type : (o : Option Ty) → None ≡ option_map nullable o → has_type_by types (typed_stat s o) ≡ false
  without_type None e = ap (values_have []) (no_count (types []))
  without_type (Some t) e = absurd cc

  -- where the path leads to no plain field
  pub unread_path : None ≡ option_map nullable own_type → has_type_by types (stat_by types s) ≡ false
  unread_path e = without_type own_type e

  with_type : (o : Option Ty) (t : Ty) (b : Bool) → own_type ≡ o → Some t ≡ option_map nullable o → list_all (λ x. ty_eq x.ty t) (cells_from t s.values) ≡ b
      → has_type_by types (typed_stat s o) ≡ b
  with_type None t b k e h = absurd cc
  with_type (Some w) t b k e h =
      let same : t ≡ nullable w = same_Some t (nullable w) e in
      ap (values_have (cells_from (nullable w) s.values)) k ∙ subst (λ (u : Ty). list_all (λ (x : Typed). ty_eq x.ty u) (cells_from u s.values) ≡ b) same h

  -- where a cell is no value of the type, and where all are
  pub has_type : (t : Ty) (b : Bool) → Some t ≡ option_map nullable own_type → list_all (λ x. ty_eq x.ty t) (cells_from t s.values) ≡ b → has_type_by types (stat_by types s) ≡ b
  has_type t b e h = with_type own_type t b refl e h

  held : (o : Option Ty) (t : Ty) (c : Column) → Some t ≡ option_map nullable o → typed_rows c ≡ cells_from t s.values → column_stat s.path s.stat c ≡ typed_stat s o
  held None t c e h = absurd cc
  held (Some w) t c e h =
      let same : t ≡ nullable w = same_Some t (nullable w) e in
      λ i. record { path = s.path; stat = s.stat; values = (h ∙ ap (λ (u : Ty). cells_from u s.values) same) i }

  pub is_read : (t : Ty) (c : Column) → Some t ≡ option_map nullable own_type → typed_rows c ≡ cells_from t s.values → column_stat s.path s.stat c ≡ stat_by types s
  is_read t c e h = held own_type t c e h

  -- where a cell is no value of the type, and where all are
  pub unread_cells : (t : Ty) (plain : is_plain t ≡ true) → Some t ≡ option_map nullable own_type → None ≡ column_in t s.values → has_type_by types (stat_by types s) ≡ false
  unread_cells t plain own told = has_type t false own (column_read t plain s.values None told)

  pub read_cells : (t : Ty) (plain : is_plain t ≡ true) → Some t ≡ option_map nullable own_type → (c : Column) → Some c ≡ column_in t s.values → (path : List Bytes) (z : ZoneStat) → path ≡ s.path
      → z ≡ column_stat path s.stat c → IsRead types s (Some z)
  read_cells t plain own c told path z here made =
      let read = column_read t plain s.values (Some c) told in
      (has_type t true own read.0, made ∙ ap (λ (p : List Bytes). column_stat p s.stat c) here ∙ is_read t c own read.2)
