-- There are rows of a table that have given columns: in the columns that aren't given stands some value of their types.
use Rattle.std.proofs.Common.{◌≡◌, refl, ap, sym, ◌∙◌, ℕ, zero, suc, ◌+◌, ◌<◌, ◌≤◌, Bool, true, false, cond, not, ◌&&◌, List, [], ◌∷◌, map, length, Option, Some, None, unwrap_or, subst, arith, get_or, pos}
use Rattle.std.specs.List.{slice_get, AllZip, range_with_len}
use Rattle.std.specs.Cmp.{first_so, second_so}
use Rattle.std.specs.Cmp.Derive.{both_true}
use Rattle.std.specs.Str.{bytes_eq}
use Rattle.std.proofs.lemmas.Bool.{false≢true, or_left, or_right}
use Rattle.std.proofs.lemmas.Slice.Eq.{bytes_eq-Decides}
use Rattle.std.proofs.lemmas.Option.{same_Some, none-some}
use Rattle.vx_dtype.specs.declared.Nullability.TheVariants.{NonNullable}
use Rattle.vx_dtype.specs.Types.{Bytes, Ty, bool_ty, int_ty, text_ty, list_ty, struct_ty, Fields, no_fields, field}
use Rattle.vx_dtype.specs.declared.PType.{PType}
use Rattle.vx_dtype.specs.declared.PType.TheVariants.{U8, U16, U32, U64, I8, I16, I32, I64}
use Rattle.vx_dtype.specs.TypeRules.{field_type, field_names, has_name, distinct_names, no_name_twice, same_ptype}
use Rattle.vx_dtype.specs.Values.{Val, null_val, bool_val, int_val, text_val, list_val, struct_val, fault, no_vals, Members, no_members, member}
use Rattle.vx_dtype.specs.Fits.{val_fits, members_fit, in_range}
use Rattle.vx_dtype.specs.Structs.{field_of, member_named}
use Rattle.vx_column.specs.Columns.{Column, rows_fit, row_at}
use Rattle.vx_semantics.specs.Tables.{row_type}
use Rattle.vx_laws.proofs.Distinct.{struct-distinct, not-has}
use Rattle.vx_prepare.specs.Preparing.{IsOf, AreOf, HaveColumns}
use Rattle.vx_prepare.specs.Parts.{columns_fit}
use Rattle.vx_prepare.proofs.ListLemmas.{length_mapped, map_mapped, range_length}

-- ---- a value of each type

unfoldable mutual
  some_val : Ty → Val
  some_val (bool_ty n) = bool_val false
  some_val (int_ty p n) = int_val p (pos 0)
  some_val (text_ty n) = text_val []
  some_val (list_ty e n) = list_val no_vals
  some_val (struct_ty fs n) = struct_val (some_members fs)

  some_members : Fields → Members
  some_members no_fields = no_members
  some_members (field f t fs) = member f (some_val t) (some_members fs)

zero_fits : (p : PType) → (same_ptype p p && in_range p (pos 0)) ≡ true
zero_fits U8 = refl
zero_fits U16 = refl
zero_fits U32 = refl
zero_fits U64 = refl
zero_fits I8 = refl
zero_fits I16 = refl
zero_fits I32 = refl
zero_fits I64 = refl

same_bytes : (f : Bytes) → bytes_eq f f ≡ true
same_bytes f = (bytes_eq-Decides f f).1 refl

mutual
  unfolding some_val val_fits

  some_fits : (t : Ty) → val_fits (some_val t) t ≡ true
  some_fits (bool_ty n) = refl
  some_fits (int_ty p n) = zero_fits p
  some_fits (text_ty n) = refl
  some_fits (list_ty e n) = refl
  some_fits (struct_ty fs n) = some_members_fit fs

  some_members_fit : (fs : Fields) → members_fit (some_members fs) fs ≡ true
  some_members_fit no_fields = refl
  some_members_fit (field f t fs) = both_true (same_bytes f) (both_true (some_fits t) (some_members_fit fs))

-- ---- the columns under names

abbrev found : Bytes → List Bytes → List Column → Option Column
found f [] cs = None
found f (n ∷ ns) [] = None
found f (n ∷ ns) (c ∷ cs) = cond (bytes_eq f n) (Some c) (found f ns cs)

found_by : (R : Bytes → Column → Type 0) (f n : Bytes) (c d : Column) (rest : Option Column) (b : Bool) → bytes_eq f n ≡ b → R n d → cond b (Some d) rest ≡ Some c → (rest ≡ Some c → R f c) → R f c
found_by R f n c d rest true e own at behind = subst (λ x. R f x) (same_Some d c at) (subst (λ x. R x d) (sym ((bytes_eq-Decides f n).0 e)) own)
found_by R f n c d rest false e own at behind = behind at

found_has : (R : Bytes → Column → Type 0) (f : Bytes) (c : Column) (ns : List Bytes) (cs : List Column) → AllZip R ns cs → found f ns cs ≡ Some c → R f c
found_has R f c [] cs h at = absurd (none-some c at)
found_has R f c (n ∷ ns) [] h at = absurd (none-some c at)
found_has R f c (n ∷ ns) (d ∷ cs) h at = found_by R f n c d (found f ns cs) (bytes_eq f n) refl h.0 at (found_has R f c ns cs h.1)

found_fits_by : (c d : Column) (cs : List Column) (rest : Option Column) (b : Bool) → rows_fit d.ty d.rows ≡ true → cond b (Some d) rest ≡ Some c → (rest ≡ Some c → rows_fit c.ty c.rows ≡ true) → rows_fit c.ty c.rows ≡ true
found_fits_by c d cs rest true own at behind = subst (λ (x : Column). rows_fit x.ty x.rows ≡ true) (same_Some d c at) own
found_fits_by c d cs rest false own at behind = behind at

found_fits : (f : Bytes) (c : Column) (ns : List Bytes) (cs : List Column) → columns_fit cs ≡ true → found f ns cs ≡ Some c → rows_fit c.ty c.rows ≡ true
found_fits f c [] cs h at = absurd (none-some c at)
found_fits f c (n ∷ ns) [] h at = absurd (none-some c at)
found_fits f c (n ∷ ns) (d ∷ cs) h at =
    found_fits_by c d cs (found f ns cs) (bytes_eq f n) (first_so (rows_fit d.ty d.rows) (columns_fit cs) h) at (found_fits f c ns cs (second_so (rows_fit d.ty d.rows) (columns_fit cs) h))

value_fits : (t : Ty) (xs : List Val) (i : ℕ) → rows_fit t xs ≡ true → i < length xs → val_fits (get_or xs i null_val) t ≡ true
value_fits t [] i h k = absurd (omega (arith, k))
value_fits t (x ∷ xs) zero h k = first_so (val_fits x t) (rows_fit t xs) h
value_fits t (x ∷ xs) (suc i) h k = value_fits t xs i (second_so (val_fits x t) (rows_fit t xs) h) (omega (arith, k))

by_place : {B : Type 0} (f : ℕ → B) (xs : List B) (a : ℕ) → ((i : ℕ) (x : B) → slice_get xs i ≡ Some x → f (a + i) ≡ x) → xs ≡ map f (range_with_len a (length xs))
by_place f [] a h = refl
by_place f (x ∷ xs) a h =
    let first : a ≡ a + 0 = omega arith in
    let behind = by_place f xs (a + 1) (λ i y e. (let next : a + 1 + i ≡ a + suc i = omega arith in ap f next) ∙ h (suc i) y e) in
    λ j. (sym (ap f first ∙ h 0 x refl)) j ∷ behind j

at_place : (xs : List Val) (i : ℕ) (x : Val) → slice_get xs i ≡ Some x → get_or xs i null_val ≡ x
at_place [] i x at = absurd (none-some x at)
at_place (y ∷ ys) zero x at = same_Some y x at
at_place (y ∷ ys) (suc i) x at = at_place ys i x at

other_column : (n f : Bytes) (ns : List Bytes) (cs : List Column) (c : Column) (b : Bool) → bytes_eq f n ≡ b → has_name n ns ≡ false → has_name f ns ≡ true → cond b (Some c) (found f ns cs) ≡ found f ns cs
other_column n f ns cs c false e none some = refl
other_column n f ns cs c true e none some = absurd (false≢true (sym none ∙ subst (λ x. has_name x ns ≡ true) ((bytes_eq-Decides f n).0 e) some))

module _ (names : List Bytes) (columns : List Column) where
  -- the value of a field of this type in a row
  abbrev value_from : Option Column → ℕ → Ty → Val
  value_from None i t = some_val t
  value_from (Some c) i t = row_at c i

  abbrev members_of : Fields → ℕ → Members
  members_of no_fields i = no_members
  members_of (field f t fs) i = member f (value_from (found f names columns) i t) (members_of fs i)

  abbrev table_row : Fields → ℕ → Val
  table_row fs i = struct_val (members_of fs i)

  -- ---- a given column is the field of the rows

  member_by : (f g : Bytes) (t w : Ty) (fs : Fields) (i : ℕ) (c : Column) (b : Bool) → bytes_eq f g ≡ b → cond b (Some w) (field_type f fs) ≡ Some t → found f names columns ≡ Some c
      → (field_type f fs ≡ Some t → member_named f (members_of fs i) ≡ Some (row_at c i))
      → cond b (Some (value_from (found g names columns) i w)) (member_named f (members_of fs i)) ≡ Some (row_at c i)
  member_by f g t w fs i c true e typed at behind =
      let here : found g names columns ≡ Some c = ap (λ x. found x names columns) (sym ((bytes_eq-Decides f g).0 e)) ∙ at in
      ap (λ x. Some (value_from x i w)) here
  member_by f g t w fs i c false e typed at behind = behind typed

  member_found : (f : Bytes) (t : Ty) (fs : Fields) (i : ℕ) (c : Column) → field_type f fs ≡ Some t → found f names columns ≡ Some c → member_named f (members_of fs i) ≡ Some (row_at c i)
  member_found f t no_fields i c typed at = absurd (none-some t typed)
  member_found f t (field g w fs) i c typed at = member_by f g t w fs i c (bytes_eq f g) refl typed at (λ rest. member_found f t fs i c rest at)

  column_is : (fs : Fields) (len : ℕ) (f : Bytes) (t : Ty) (c : Column) → field_type f fs ≡ Some t → found f names columns ≡ Some c → length c.rows ≡ len
      → c.rows ≡ map (field_of f) (map (table_row fs) (range_with_len 0 len))
  column_is fs len f t c typed at long =
      let each : (i : ℕ) (x : Val) → slice_get c.rows i ≡ Some x → field_of f (table_row fs (0 + i)) ≡ x =
      λ i x here. (let same : 0 + i ≡ i = omega arith in ap (λ k. field_of f (table_row fs k)) same) ∙ ap (λ o. unwrap_or o fault) (member_found f t fs i c typed at) ∙ at_place c.rows i x here in
      by_place (λ i. field_of f (table_row fs i)) c.rows 0 each ∙ ap (λ n. map (λ i. field_of f (table_row fs i)) (range_with_len 0 n)) long
      ∙ sym (map_mapped (field_of f) (table_row fs) (λ i. field_of f (table_row fs i)) (λ i. refl) (range_with_len 0 len))

  -- ---- the rows fit

  module _ (all : Fields) (len : ℕ) (are : AreOf all len names columns) (fit : columns_fit columns ≡ true) where
    value_of_field : (f : Bytes) (t : Ty) (i : ℕ) → i < len → field_type f all ≡ Some t → (o : Option Column) → found f names columns ≡ o → val_fits (value_from o i t) t ≡ true
    value_of_field f t i below typed None e = some_fits t
    value_of_field f t i below typed (Some c) e =
        let is : IsOf all len f c = found_has (IsOf all len) f c names columns are e in
        let same : c.ty ≡ t = same_Some c.ty t (sym is.0 ∙ typed) in
        subst (λ w. val_fits (row_at c i) w ≡ true) same (value_fits c.ty c.rows i (found_fits f c names columns fit e) (omega (arith, below, is.1)))

    other_name : (f g : Bytes) (fs : Fields) (t : Ty) (b : Bool) → bytes_eq g f ≡ b → has_name f (field_names fs) ≡ false → has_name g (field_names fs) ≡ true
        → cond b (Some t) (field_type g fs) ≡ field_type g fs
    other_name f g fs t false e none some = refl
    other_name f g fs t true e none some =
        absurd (false≢true (sym none ∙ subst (λ x. has_name x (field_names fs) ≡ true) ((bytes_eq-Decides g f).0 e) some))

    members_of_fit : (fs : Fields) (i : ℕ) → i < len → ((f : Bytes) → has_name f (field_names fs) ≡ true → field_type f all ≡ field_type f fs) → distinct_names (field_names fs) ≡ true
        → members_fit (members_of fs i) fs ≡ true
    unfolding val_fits
    members_of_fit no_fields i below same distinct = refl
    members_of_fit (field f t fs) i below same distinct =
        let none = not-has (has_name f (field_names fs)) (first_so (not (has_name f (field_names fs))) (distinct_names (field_names fs)) distinct) in
        let named : has_name f (f ∷ field_names fs) ≡ true = or_left (bytes_eq f f) (has_name f (field_names fs)) (same_bytes f) in
        let typed : field_type f all ≡ Some t = same f named ∙ ap (λ b. cond b (Some t) (field_type f fs)) (same_bytes f) in
        let rest : (g : Bytes) → has_name g (field_names fs) ≡ true → field_type g all ≡ field_type g fs =
        λ g some. same g (or_right (bytes_eq g f) (has_name g (field_names fs)) some) ∙ other_name f g fs t (bytes_eq g f) refl none some in
        both_true (same_bytes f) (both_true (value_of_field f t i below typed (found f names columns) refl)
        (members_of_fit fs i below rest (second_so (not (has_name f (field_names fs))) (distinct_names (field_names fs)) distinct)))

    rows_of_fit : distinct_names (field_names all) ≡ true → (a n : ℕ) → a + n ≤ len → rows_fit (row_type all) (map (table_row all) (range_with_len a n)) ≡ true
    unfolding val_fits
    rows_of_fit distinct a zero within = refl
    rows_of_fit distinct a (suc n) within =
        both_true (members_of_fit all a (omega (arith, within)) (λ f some. refl) distinct) (rows_of_fit distinct (a + 1) n (omega (arith, within)))

-- ---- each name's own column

module _ (fs : Fields) (len : ℕ) (names : List Bytes) (columns : List Column) where
  each_is : (ns : List Bytes) (cs : List Column) → AllZip (IsOf fs len) ns cs → distinct_names ns ≡ true → ((f : Bytes) → has_name f ns ≡ true → found f names columns ≡ found f ns cs)
      → AllZip (λ name. λ (c : Column). c.rows ≡ map (field_of name) (map (table_row names columns fs) (range_with_len 0 len))) ns cs
  each_is [] [] h distinct same = tt
  each_is [] (c ∷ cs) h distinct same = absurd h
  each_is (n ∷ ns) [] h distinct same = absurd h
  each_is (n ∷ ns) (c ∷ cs) h distinct same =
      let none = not-has (has_name n ns) (first_so (not (has_name n ns)) (distinct_names ns) distinct) in
      let at : found n names columns ≡ Some c = same n (or_left (bytes_eq n n) (has_name n ns) (same_bytes n)) ∙ ap (λ b. cond b (Some c) (found n ns cs)) (same_bytes n) in
      let rest : (f : Bytes) → has_name f ns ≡ true → found f names columns ≡ found f ns cs =
      λ f some. same f (or_right (bytes_eq f n) (has_name f ns) some) ∙ other_column n f ns cs c (bytes_eq f n) refl none some in
      (column_is names columns fs len n c.ty c h.0.0 at h.0.1, each_is ns cs h.1 (second_so (not (has_name n ns)) (distinct_names ns) distinct) rest)

  -- there are rows that have the columns
  pub table_rows : AreOf fs len names columns → columns_fit columns ≡ true → no_name_twice (row_type fs) ≡ true → distinct_names names ≡ true → (rows : List Val) × HaveColumns fs len names columns rows
  table_rows are fit distinct once =
      let rows = map (table_row names columns fs) (range_with_len 0 len) in
      let fitting = rows_of_fit names columns fs len are fit (struct-distinct fs NonNullable distinct).names 0 len (omega arith) in
      (rows, record { fit = fitting; long = length_mapped (table_row names columns fs) (range_with_len 0 len) ∙ range_length 0 len; each = each_is names columns are once (λ f some. refl) })
