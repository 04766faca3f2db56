-- Columns that are kept as the columns of fields: the column of a field, and those of some fields.
use Rattle.std.proofs.Common.{◌≡◌, refl, ap, ◌∙◌, sym, subst, ℕ, zero, suc, ◌+◌, ◌<◌, Bool, true, false, not, Option, Some, None, cond, option_map, unwrap_or, List, [], ◌∷◌, map, length, get_or, arith}
use Rattle.std.specs.Str.{bytes_eq}
use Rattle.std.specs.List.{All, AllZip, range_with_len, position, position_or_len}
use Rattle.vx_dtype.specs.Types.{Bytes, Ty, bool_ty, int_ty, text_ty, list_ty, struct_ty, Fields}
use Rattle.vx_dtype.specs.declared.Nullability.{Nullability}
use Rattle.vx_dtype.specs.declared.Nullability.TheVariants.{NonNullable, Nullable}
use Rattle.vx_dtype.specs.TypeRules.{field_names, field_type, fields_of, nullability_of, widened}
use Rattle.vx_dtype.specs.StructTypes.{field_types, projected}
use Rattle.vx_dtype.specs.Zipped.{zipped}
use Rattle.vx_dtype.specs.Structs.{member_named, field_of, members_at, selected}
use Rattle.vx_dtype.specs.Values.{Val, struct_val, member, fault}
use Rattle.vx_dtype.proofs.ProjectionLemmas.{before, types_named, projected_named}
use Rattle.vx_dtype.proofs.ZippedLemmas.{field_names_zipped, field_types_zipped}
use Rattle.vx_column.specs.Columns.{Column, column, row_at, rows_fit}
use Rattle.vx_column.specs.StructColumns.{column_types, all_have_rows, struct_row, row_members, made_struct, place_of}
use Rattle.vx_column.specs.Cells.{structs_of, all_rows_fit, AreFieldsOf, HasAtPlace}
use Rattle.vx_column.proofs.FitLemmas.{of_both}
use Rattle.vx_column.proofs.FieldLemmas.{field_typed, position_is, position_within, type_placed}
use Rattle.vx_column.proofs.ProjectionLemmas.{IsPlaceOf, placed_all, places_within}
use Rattle.vx_column.proofs.CellLemmas.{fields_number, fields_have_rows, column_fits}
use Rattle.vx_column.proofs.KeptLemmas.{rows_by_place}

-- the member at the first place of a name is the column's value
member_step : (f g : Bytes) (gs : List Bytes) (c : Column) (cs : List Column) (i p : ℕ) (d : Column) (b : Bool) (n : ℕ) → bytes_eq f g ≡ b → cond (not b) (1 + n) 0 ≡ p → p < length (c ∷ cs) → ((q : ℕ) → n ≡ q → q < length cs → member_named f (row_members gs cs i) ≡ Some (row_at (get_or cs q d) i)) → member_named f (row_members (g ∷ gs) (c ∷ cs) i) ≡ Some (row_at (get_or (c ∷ cs) p d) i)
member_step f g gs c cs i zero d true n e p h rest = rw e refl
member_step f g gs c cs i (suc q) d true n e p h rest = absurd (omega (arith, p))
member_step f g gs c cs i zero d false n e p h rest = absurd (omega (arith, p))
member_step f g gs c cs i (suc q) d false n e p h rest = rw e (rest q (omega (arith, p)) (omega arith))

member_first : (f : Bytes) (fs : List Bytes) (cs : List Column) (i p : ℕ) (d : Column) → length fs ≡ length cs → position_or_len (bytes_eq f) fs ≡ p → p < length cs → member_named f (row_members fs cs i) ≡ Some (row_at (get_or cs p d) i)
member_first f [] [] i p d e q h = absurd (omega arith)
member_first f [] (c ∷ cs) i p d e q h = absurd (omega (arith, e))
member_first f (g ∷ gs) [] i p d e q h = absurd (omega arith)
member_first f (g ∷ gs) (c ∷ cs) i p d e q h =
    member_step f g gs c cs i p d (bytes_eq f g) (position_or_len (bytes_eq f) gs) refl q h (λ r s w. member_first f gs cs i r d (omega (arith, e)) s w)

-- so is the field of the struct of a row
pub field_here : (f : Bytes) (t : Ty) (cs : List Column) (n i p : ℕ) (d : Column) → AreFieldsOf t cs n → position (bytes_eq f) (field_names (fields_of t)) ≡ Some p → field_of f (struct_row (field_names (fields_of t)) cs None i) ≡ row_at (get_or cs p d) i
field_here f t cs n i p d h e =
    let number = fields_number t cs n h in
    let within : p < length cs = omega (arith, position_within f (fields_of t) p e, number) in
    ap (λ o. unwrap_or o fault) (member_first f (field_names (fields_of t)) cs i p d number (position_is (bytes_eq f) (field_names (fields_of t)) p e) within)

map_map : (f : Val → Val) (g h : ℕ → Val) (is : List ℕ) → ((i : ℕ) → f (g i) ≡ h i) → map f (map g is) ≡ map h is
map_map f g h [] e = refl
map_map f g h (i ∷ is) e = λ j. e i j ∷ map_map f g h is e j

-- the rows of the field are those of its column
pub field_rows : (f : Bytes) (t : Ty) (cs : List Column) (n p : ℕ) (c : Column) → AreFieldsOf t cs n → position (bytes_eq f) (field_names (fields_of t)) ≡ Some p → c ≡ get_or cs p c → map (field_of f) (structs_of (field_names (fields_of t)) cs n) ≡ c.rows
field_rows f t cs n p c h e is =
    let number = fields_number t cs n h in
    let within : p < length cs = omega (arith, position_within f (fields_of t) p e, number) in
    let lengths : length c.rows ≡ n = ap (λ (k : Column). length k.rows) is ∙ fields_have_rows n cs h.lengths p c within in
    map_map (field_of f) (struct_row (field_names (fields_of t)) cs None) (row_at c) (range_with_len 0 n) (λ i. field_here f t cs n i p c h e ∙ ap (λ (k : Column). row_at k i) (sym is)) ∙ sym (rows_by_place c n lengths)

-- beside a type that isn't nullable a type stays
widened_never : (t : Ty) → widened t NonNullable ≡ t
widened_never (bool_ty NonNullable) = refl
widened_never (bool_ty Nullable) = refl
widened_never (int_ty p NonNullable) = refl
widened_never (int_ty p Nullable) = refl
widened_never (text_ty NonNullable) = refl
widened_never (text_ty Nullable) = refl
widened_never (list_ty e NonNullable) = refl
widened_never (list_ty e Nullable) = refl
widened_never (struct_ty fs NonNullable) = refl
widened_never (struct_ty fs Nullable) = refl

-- the type of the field is that of its column
pub field_type_here : (f : Bytes) (t : Ty) (cs : List Column) (n p : ℕ) (c : Column) → AreFieldsOf t cs n → position (bytes_eq f) (field_names (fields_of t)) ≡ Some p → c ≡ get_or cs p c → field_type f (fields_of t) ≡ Some c.ty
field_type_here f t cs n p c h e is = field_typed f (fields_of t) p c.ty e (type_placed (λ (k : Column). k.ty) f (fields_of t) cs p c e h.types is)

pub field_column_here : (f : Bytes) (t : Ty) (cs : List Column) (n p : ℕ) (c : Column) → AreFieldsOf t cs n → position (bytes_eq f) (field_names (fields_of t)) ≡ Some p → c ≡ get_or cs p c → c ≡ column (widened c.ty (nullability_of t)) (map (field_of f) (structs_of (field_names (fields_of t)) cs n))
field_column_here f t cs n p c h e is =
    let wide : widened c.ty (nullability_of t) ≡ c.ty = ap (λ (u : Ty). widened c.ty (nullability_of u)) h.shape ∙ widened_never c.ty in
    λ j. column (sym wide j) (sym (field_rows f t cs n p c h e is) j)

-- the members at names are the values of the columns at the names' places
taken_members : (fs : List Bytes) (t : Ty) (cs ds : List Column) (n i : ℕ) (ps : List ℕ) → AreFieldsOf t cs n → AllZip (IsPlaceOf (fields_of t)) fs ps → AllZip (HasAtPlace cs) ps ds → members_at fs (struct_row (field_names (fields_of t)) cs None i) ≡ row_members fs ds i
taken_members [] t cs ds n i ps h p a = refl
taken_members (f ∷ fs) t cs ds n i [] h p a = absurd p
taken_members (f ∷ fs) t cs [] n i (q ∷ ps) h p a = absurd a
taken_members (f ∷ fs) t cs (d ∷ ds) n i (q ∷ ps) h p a =
    λ j. member f ((field_here f t cs n i q d h p.0 ∙ ap (λ (k : Column). row_at k i) (sym (a.0 d))) j) (taken_members fs t cs ds n i ps h p.1 a.1 j)

-- so the rows of some fields are the structs of their columns
pub taken_rows : (fs : List Bytes) (t : Ty) (cs ds : List Column) (n : ℕ) (ps : List ℕ) → AreFieldsOf t cs n → AllZip (IsPlaceOf (fields_of t)) fs ps → AllZip (HasAtPlace cs) ps ds → map (selected fs) (structs_of (field_names (fields_of t)) cs n) ≡ structs_of fs ds n
taken_rows fs t cs ds n ps h p a = map_map (selected fs) (struct_row (field_names (fields_of t)) cs None) (struct_row fs ds None) (range_with_len 0 n) (λ i. ap struct_val (taken_members fs t cs ds n i ps h p a))

-- the columns at places have as many rows as all
taken_lengths : (fs : List Bytes) (t : Ty) (cs ds : List Column) (n : ℕ) (ps : List ℕ) → AreFieldsOf t cs n → AllZip (IsPlaceOf (fields_of t)) fs ps → AllZip (HasAtPlace cs) ps ds → all_have_rows n ds ≡ true
taken_lengths fs t cs [] n ps h p a = refl
taken_lengths fs t cs (d ∷ ds) n [] h p a = absurd a
taken_lengths [] t cs (d ∷ ds) n (q ∷ ps) h p a = absurd p
taken_lengths (f ∷ fs) t cs (d ∷ ds) n (q ∷ ps) h p a =
    let number = fields_number t cs n h in
    let within : q < length cs = omega (arith, position_within f (fields_of t) q p.0, number) in
    let rows : length d.rows ≡ n = ap (λ (k : Column). length k.rows) (a.0 d) ∙ fields_have_rows n cs h.lengths q d within in
    of_both _ _ (grind (arith, rows)) (taken_lengths fs t cs ds n ps h p.1 a.1)

-- of their types
taken_fit : (fs : List Bytes) (t : Ty) (cs ds : List Column) (n : ℕ) (ps : List ℕ) → AreFieldsOf t cs n → AllZip (IsPlaceOf (fields_of t)) fs ps → AllZip (HasAtPlace cs) ps ds → all_rows_fit ds ≡ true
taken_fit fs t cs [] n ps h p a = refl
taken_fit fs t cs (d ∷ ds) n [] h p a = absurd a
taken_fit [] t cs (d ∷ ds) n (q ∷ ps) h p a = absurd p
taken_fit (f ∷ fs) t cs (d ∷ ds) n (q ∷ ps) h p a =
    let number = fields_number t cs n h in
    let within : q < length cs = omega (arith, position_within f (fields_of t) q p.0, number) in
    let own : rows_fit d.ty d.rows ≡ true = ap (λ (k : Column). rows_fit k.ty k.rows) (a.0 d) ∙ column_fits cs q d h.fit within in
    of_both _ _ own (taken_fit fs t cs ds n ps h p.1 a.1)

-- and the types of the names
types_step : (t : Ty) (ts us : List Ty) (r : Option (List Ty)) → before (Some t) r ≡ Some ts → ((vs : List Ty) → r ≡ Some vs → us ≡ vs) → t ∷ us ≡ ts
types_step t ts us None e h = absurd cc
types_step t ts us (Some vs) e h =
    let same : t ∷ vs ≡ ts = cc in
    ap (λ ws. t ∷ ws) (h vs refl) ∙ same

taken_types : (fs : List Bytes) (t : Ty) (cs ds : List Column) (n : ℕ) (ps : List ℕ) (ts : List Ty) → AreFieldsOf t cs n → AllZip (IsPlaceOf (fields_of t)) fs ps → AllZip (HasAtPlace cs) ps ds → types_named fs (fields_of t) ≡ Some ts → column_types ds ≡ ts
taken_types [] t cs [] n [] ts h p a e = cc
taken_types [] t cs (d ∷ ds) n [] ts h p a e = absurd a
taken_types [] t cs ds n (q ∷ ps) ts h p a e = absurd p
taken_types (f ∷ fs) t cs ds n [] ts h p a e = absurd p
taken_types (f ∷ fs) t cs [] n (q ∷ ps) ts h p a e = absurd a
taken_types (f ∷ fs) t cs (d ∷ ds) n (q ∷ ps) ts h p a e =
    types_step d.ty ts (column_types ds) (types_named fs (fields_of t)) (ap (λ o. before o (types_named fs (fields_of t))) (sym (field_type_here f t cs n q d h p.0 (a.0 d))) ∙ e) (λ us k. taken_types fs t cs ds n ps us h p.1 a.1 k)

zip_lengths : (fs : List Bytes) (gs : Fields) (ps : List ℕ) → AllZip (IsPlaceOf gs) fs ps → length fs ≡ length ps
zip_lengths [] gs [] h = refl
zip_lengths [] gs (p ∷ ps) h = absurd h
zip_lengths (f ∷ fs) gs [] h = absurd h
zip_lengths (f ∷ fs) gs (p ∷ ps) h = ap (λ n. suc n) (zip_lengths fs gs ps h.1)

place_lengths : (cs ds : List Column) (ps : List ℕ) → AllZip (HasAtPlace cs) ps ds → length ps ≡ length ds
place_lengths cs [] [] h = refl
place_lengths cs (d ∷ ds) [] h = absurd h
place_lengths cs [] (p ∷ ps) h = absurd h
place_lengths cs (d ∷ ds) (p ∷ ps) h = ap (λ n. suc n) (place_lengths cs ds ps h.1)

-- what is known of the fields that were taken: their types and their names
pub record AreTaken (fs : List Bytes) (made : Fields) (ds : List Column) : Type 0 where
  pub types : column_types ds ≡ field_types made
  pub names : field_names made ≡ fs

taken_step : (fs : List Bytes) (made : Fields) (ds : List Column) (r : Option (List Ty)) → option_map (zipped fs) r ≡ Some made → length fs ≡ length ds → ((ts : List Ty) → r ≡ Some ts → column_types ds ≡ ts) → AreTaken fs made ds
taken_step fs made ds None e k h = absurd cc
taken_step fs made ds (Some ts) e k h =
    let same : zipped fs ts ≡ made = cc in
    let types : column_types ds ≡ ts = h ts refl in
    let fields : zipped fs (column_types ds) ≡ made = ap (zipped fs) types ∙ same in
    record {
      types = sym (field_types_zipped (λ (c : Column). c.ty) fs ds k) ∙ ap field_types fields;
      names = ap field_names (sym fields) ∙ field_names_zipped (λ (c : Column). c.ty) fs ds k;
    }

pub taken : (fs : List Bytes) (t : Ty) (cs ds : List Column) (n : ℕ) (ps : List ℕ) (made : Fields) → AreFieldsOf t cs n → AllZip (IsPlaceOf (fields_of t)) fs ps → AllZip (HasAtPlace cs) ps ds → projected fs (fields_of t) ≡ Some made → AreTaken fs made ds
taken fs t cs ds n ps made h p a e =
    taken_step fs made ds (types_named fs (fields_of t)) (sym (projected_named fs (fields_of t)) ∙ e) (zip_lengths fs (fields_of t) ps p ∙ place_lengths cs ds ps a) (λ ts k. taken_types fs t cs ds n ps ts h p a k)

-- they are the columns of the fields of their struct type
pub taken_fields : (fs : List Bytes) (t : Ty) (cs ds : List Column) (n : ℕ) (ps : List ℕ) (made : Fields) → AreFieldsOf t cs n → AllZip (IsPlaceOf (fields_of t)) fs ps → AllZip (HasAtPlace cs) ps ds → projected fs (fields_of t) ≡ Some made → AreFieldsOf (struct_ty made NonNullable) ds n
taken_fields fs t cs ds n ps made h p a e = record {
  shape = refl;
  types = (taken fs t cs ds n ps made h p a e).types;
  lengths = taken_lengths fs t cs ds n ps h p a;
  fit = taken_fit fs t cs ds n ps h p a;
}

pub taken_column : (fs : List Bytes) (t : Ty) (cs ds : List Column) (n : ℕ) (ps : List ℕ) (made : Fields) → AreFieldsOf t cs n → AllZip (IsPlaceOf (fields_of t)) fs ps → AllZip (HasAtPlace cs) ps ds → projected fs (fields_of t) ≡ Some made → structs_of (field_names made) ds n ≡ map (selected fs) (structs_of (field_names (fields_of t)) cs n)
taken_column fs t cs ds n ps made h p a e = ap (λ gs. structs_of gs ds n) (taken fs t cs ds n ps made h p a e).names ∙ sym (taken_rows fs t cs ds n ps h p a)

-- the columns of a struct that is made are those of its fields
pub made_fields : (fs : List Bytes) (cs : List Column) (n : ℕ) (t : Ty) → t ≡ struct_ty (zipped fs (column_types cs)) NonNullable → length fs ≡ length cs → all_have_rows n cs ≡ true → all_rows_fit cs ≡ true → AreFieldsOf t cs n
made_fields fs cs n t e k h f = record {
  shape = e ∙ ap (λ u. struct_ty (fields_of u) NonNullable) (sym e);
  types = sym (field_types_zipped (λ (c : Column). c.ty) fs cs k) ∙ ap (λ u. field_types (fields_of u)) (sym e);
  lengths = h;
  fit = f;
}

pub made_names : (fs : List Bytes) (cs : List Column) (t : Ty) → t ≡ struct_ty (zipped fs (column_types cs)) NonNullable → length fs ≡ length cs → field_names (fields_of t) ≡ fs
made_names fs cs t e k = ap (λ u. field_names (fields_of u)) e ∙ field_names_zipped (λ (c : Column). c.ty) fs cs k

-- the projection of a column that is kept as columns of fields
pub project_within : (fs : List Bytes) (c : Column) (gs : Fields) (n : Nullability) (cs : List Column) (len : ℕ) (ps : List ℕ) → c.ty ≡ struct_ty gs n → AreFieldsOf c.ty cs len → map (place_of gs) fs ≡ map Some ps → All (λ p. p < length cs) ps
project_within fs c gs n cs len ps t h e =
    let number : length (field_names gs) ≡ length cs = ap (λ u. length (field_names (fields_of u))) (sym t) ∙ fields_number c.ty cs len h in
    places_within gs fs ps (length cs) number (placed_all gs fs ps e)

never_nullable : (c : Column) (gs : Fields) (n : Nullability) (cs : List Column) (len : ℕ) → c.ty ≡ struct_ty gs n → AreFieldsOf c.ty cs len → NonNullable ≡ n
never_nullable c gs n cs len t h = sym (ap nullability_of h.shape) ∙ ap nullability_of t

pub project_answer : (fs : List Bytes) (c : Column) (gs made again : Fields) (n : Nullability) (cs ds : List Column) (len : ℕ) (ps : List ℕ) → c.ty ≡ struct_ty gs n → AreFieldsOf c.ty cs len → structs_of (field_names (fields_of c.ty)) cs len ≡ c.rows → map (place_of gs) fs ≡ map Some ps → AllZip (HasAtPlace cs) ps ds → projected fs gs ≡ Some made → again ≡ made → (AreFieldsOf (struct_ty again n) ds len) × (column (struct_ty again n) (structs_of (field_names again) ds len) ≡ column (struct_ty made (nullability_of c.ty)) (map (selected fs) c.rows))
project_answer fs c gs made again n cs ds len ps t h r e a p s =
    let same : gs ≡ fields_of c.ty = ap fields_of (sym t) in
    let placed : AllZip (IsPlaceOf (fields_of c.ty)) fs ps = subst (λ hs. AllZip (IsPlaceOf hs) fs ps) same (placed_all gs fs ps e) in
    let found : projected fs (fields_of c.ty) ≡ Some made = ap (projected fs) (sym same) ∙ p in
    let fields = taken_fields fs c.ty cs ds len ps made h placed a found in
    let rows = taken_column fs c.ty cs ds len ps made h placed a found in
    let never = never_nullable c gs n cs len t h in
    let kind : n ≡ nullability_of c.ty = ap nullability_of (sym t) in (
      subst (λ u. AreFieldsOf u ds len) (λ j. struct_ty (sym s j) (never j)) fields,
      λ j. column (struct_ty (s j) (kind j)) ((ap (λ hs. structs_of (field_names hs) ds len) s ∙ rows ∙ ap (map (selected fs)) r) j),
    )

pub made_answer : (fs : List Bytes) (cs : List Column) (n : ℕ) (t : Ty) (valid : Option (List Bool)) → t ≡ struct_ty (zipped fs (column_types cs)) NonNullable → length fs ≡ length cs → valid ≡ None → column t (structs_of (field_names (fields_of t)) cs n) ≡ made_struct fs cs n valid
made_answer fs cs n t valid e k v =
    let none : column t (structs_of (field_names (fields_of t)) cs n) ≡ made_struct fs cs n None = λ j. column (e j) (structs_of (made_names fs cs t e k j) cs n) in
    none ∙ ap (made_struct fs cs n) (sym v)
