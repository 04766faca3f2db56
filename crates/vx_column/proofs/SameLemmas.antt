-- Equality and hash of columns, row by row and by the columns of fields.
use Rattle.std.proofs.Common.{◌≡◌, refl, ap, ◌∙◌, sym, subst, ℕ, zero, suc, ◌+◌, ◌<◌, ◌≤◌, Bool, true, false, Option, Some, None, List, [], ◌∷◌, ◌++◌, map, length, take, drop, get_or, fold, arith}
use Rattle.std.specs.Prelude.{Decides}
use Rattle.std.specs.List.{AllZip, flat_map}
use Rattle.std.specs.Hash as fed
use Rattle.std.specs.Hash.{HashWrites}
use Rattle.std.proofs.lemmas.List.{take_all, take_more, drop_more, drop_all}
use Rattle.std.proofs.lemmas.Grind.{fold-append}
use Rattle.vx_dtype.specs.Types.{Bytes, Ty, struct_ty, Fields, no_fields, field}
use Rattle.vx_dtype.specs.declared.Nullability.{Nullability}
use Rattle.vx_dtype.specs.declared.Nullability.TheVariants.{NonNullable}
use Rattle.vx_dtype.specs.TypeRules.{field_names, fields_of}
use Rattle.vx_dtype.specs.StructTypes.{field_types}
use Rattle.vx_dtype.specs.Values.{Val, null_val, struct_val, Members, member, valued, members_valued}
use Rattle.vx_dtype.specs.Fits.{fits, fields_fit}
use Rattle.vx_dtype.specs.Feeds.{ty_feed, raw_feed}
use Rattle.vx_dtype.specs.RawViews.{raw_view, raws_of}
use Rattle.vx_dtype.specs.declared.values.ScalarValue.{ScalarValue}
use Rattle.vx_column.specs.Columns.{Column, column, row_at, seen}
use Rattle.vx_column.specs.Answers.{PartsOf}
use Rattle.vx_column.specs.ColumnEqual.{val_feed, members_feed, column_feed}
use Rattle.vx_column.specs.StructColumns.{column_types, row_members}
use Rattle.vx_column.specs.Cells.{structs_of, AreFieldsOf, AreStructsOf, HasFit, HasAt, fields_feed}
use Rattle.vx_column.proofs.FitLemmas.{both_of}
use Rattle.vx_column.proofs.EqualLemmas.{valued-same, val_feed-valued}
use Rattle.vx_column.proofs.StructLemmas.{all_zip_more}
use Rattle.vx_column.proofs.CellLemmas.{fields_number, structs_row, structs_length}

-- a value that is kept at a row is another of the type where their raw values are the same
pub has_kept : (c : Column) (i : ℕ) (x y : ScalarValue) (b : Bool) → fits (raw_view x) c.ty ≡ true → fits (raw_view y) c.ty ≡ true → seen c.ty x ≡ row_at c i → Decides b (raw_view x ≡ raw_view y) → Decides b (HasAt i c y)
has_kept c i x y b f g s d = (
  λ e. sym s ∙ ap (λ r. valued r c.ty) (d.0 e),
  λ p. d.1 (valued-same c.ty (raw_view x) (raw_view y) f g (s ∙ p)),
)

-- the values of a struct's fields are of the columns' types
parts_fit : (cs : List Column) (fs : Fields) (xs : List ScalarValue) → column_types cs ≡ field_types fs → fields_fit (raws_of (map raw_view xs)) fs ≡ true → AllZip HasFit cs xs
unfolding fits
parts_fit [] no_fields [] e h = tt
parts_fit [] no_fields (x ∷ xs) e h = absurd cc
parts_fit [] (field f t fs) xs e h = absurd cc
parts_fit (c ∷ cs) no_fields xs e h = absurd cc
parts_fit (c ∷ cs) (field f t fs) [] e h = absurd cc
parts_fit (c ∷ cs) (field f t fs) (x ∷ xs) e h =
    let here : c.ty ≡ t = cc in
    let rest : column_types cs ≡ field_types fs = cc in
    let both = both_of (fits (raw_view x) t) (fields_fit (raws_of (map raw_view xs)) fs) h in
    (ap (fits (raw_view x)) here ∙ both.0, parts_fit cs fs xs rest both.1)

-- and the columns have them at a row where the struct of the row is the struct
members_has : (i : ℕ) (cs : List Column) (fs : Fields) (xs : List ScalarValue) → column_types cs ≡ field_types fs → AllZip (HasAt i) cs xs → row_members (field_names fs) cs i ≡ members_valued (raws_of (map raw_view xs)) fs
unfolding valued
members_has i [] no_fields [] e h = refl
members_has i [] no_fields (x ∷ xs) e h = absurd h
members_has i [] (field f t fs) xs e h = absurd cc
members_has i (c ∷ cs) no_fields xs e h = absurd cc
members_has i (c ∷ cs) (field f t fs) [] e h = absurd h
members_has i (c ∷ cs) (field f t fs) (x ∷ xs) e h =
    let here : c.ty ≡ t = cc in
    let rest : column_types cs ≡ field_types fs = cc in
    λ j. member f ((h.0 ∙ ap (valued (raw_view x)) here) j) (members_has i cs fs xs rest h.1 j)

has_members : (i : ℕ) (cs : List Column) (fs : Fields) (xs : List ScalarValue) → column_types cs ≡ field_types fs → AllZip HasFit cs xs → row_members (field_names fs) cs i ≡ members_valued (raws_of (map raw_view xs)) fs → AllZip (HasAt i) cs xs
unfolding valued
has_members i [] no_fields [] e g h = tt
has_members i [] no_fields (x ∷ xs) e g h = absurd g
has_members i [] (field f t fs) xs e g h = absurd cc
has_members i (c ∷ cs) no_fields xs e g h = absurd cc
has_members i (c ∷ cs) (field f t fs) [] e g h = absurd g
has_members i (c ∷ cs) (field f t fs) (x ∷ xs) e g h =
    let here : c.ty ≡ t = cc in
    let rest : column_types cs ≡ field_types fs = cc in
    let value : row_at c i ≡ valued (raw_view x) t = cc in
    let members : row_members (field_names fs) cs i ≡ members_valued (raws_of (map raw_view xs)) fs = cc in
    (value ∙ ap (valued (raw_view x)) (sym here), has_members i cs fs xs rest g.1 members)

-- the parts of a struct value of the type of columns of fields
pub parts_of_row : (t : Ty) (cs : List Column) (n : ℕ) (v : Val) (xs : List ScalarValue) → AreFieldsOf t cs n → PartsOf (fields_of t) NonNullable v (Some xs) → AllZip HasFit cs xs
parts_of_row t cs n v xs h p = parts_fit cs (fields_of t) xs h.types p.0

-- equal structs have equal members
pub same_members : {ms ns : Members} → struct_val ms ≡ struct_val ns → ms ≡ ns
same_members e = cc

-- the columns have the parts of a struct value exactly where the struct of the row is the value
pub has_struct : (c : Column) (i : ℕ) (cs : List Column) (n : ℕ) (y : ScalarValue) (xs : List ScalarValue) (b : Bool) → AreFieldsOf c.ty cs n → structs_of (field_names (fields_of c.ty)) cs n ≡ c.rows → i < length c.rows → PartsOf (fields_of c.ty) NonNullable (seen c.ty y) (Some xs) → Decides b (AllZip (HasAt i) cs xs) → Decides b (HasAt i c y)
has_struct c i cs n y xs b h r w p d =
    let row = structs_row c (field_names (fields_of c.ty)) cs n i r w in (
      λ e. sym row ∙ ap struct_val (members_has i cs (fields_of c.ty) xs h.types (d.0 e)) ∙ sym p.1,
      λ q. d.1 (has_members i cs (fields_of c.ty) xs h.types (parts_fit cs (fields_of c.ty) xs h.types p.0) (same_members (row ∙ q ∙ p.1))),
    )

-- a struct type that isn't nullable has no null
pub no_null : (fs : Fields) (v : Val) (P : Type 0) → PartsOf fs NonNullable v None → Decides false P
no_null fs v P p = (λ e. absurd cc, λ q. p.0)

-- what holds place by place of two lists
pub zip_length : {A B : Type 0} (R : A → B → Type 0) (xs : List A) (ys : List B) → AllZip R xs ys → length xs ≡ length ys
zip_length R [] [] h = refl
zip_length R [] (y ∷ ys) h = absurd h
zip_length R (x ∷ xs) [] h = absurd h
zip_length R (x ∷ xs) (y ∷ ys) h = ap (λ n. suc n) (zip_length R xs ys h.1)

pub zip_at : {A B : Type 0} (R : A → B → Type 0) (xs : List A) (ys : List B) (k : ℕ) (d : A) (e : B) → AllZip R xs ys → k < length xs → R (get_or xs k d) (get_or ys k e)
zip_at R [] ys k d e h w = absurd (omega arith)
zip_at R (x ∷ xs) [] k d e h w = absurd h
zip_at R (x ∷ xs) (y ∷ ys) zero d e h w = h.0
zip_at R (x ∷ xs) (y ∷ ys) (suc k) d e h w = zip_at R xs ys k d e h.1 (omega arith)

pub zip_more : {A B : Type 0} (R : A → B → Type 0) (xs : List A) (ys : List B) (k : ℕ) (d : A) (e : B) → k < length xs → k < length ys → AllZip R (take k xs) (take k ys) → R (get_or xs k d) (get_or ys k e) → AllZip R (take (k + 1) xs) (take (k + 1) ys)
zip_more R xs ys k d e w v h r = subst (λ zs. AllZip R (take (k + 1) xs) zs) (sym (take_more ys k e v)) (all_zip_more R xs (take k ys) k d (get_or ys k e) w h r)

pub zip_all : {A B : Type 0} (R : A → B → Type 0) (xs : List A) (ys : List B) (k : ℕ) → length xs ≤ k → length ys ≤ k → AllZip R (take k xs) (take k ys) → AllZip R xs ys
zip_all R xs ys k w v h = subst (λ zs. AllZip R zs ys) (take_all k xs w) (subst (λ zs. AllZip R (take k xs) zs) (take_all k ys v) h)

-- two tests of what is the same one way round and the other
pub turned : {A : Type 0} (x y : A) (b : Bool) → Decides b (x ≡ y) → Decides b (y ≡ x)
turned x y b d = (λ e. sym (d.0 e), λ p. d.1 (sym p))

-- what a hash takes in of a struct of columns' values
pub members_fed : (fs : List Bytes) (cs : List Column) (i : ℕ) → length fs ≡ length cs → members_feed (row_members fs cs i) ≡ fields_feed cs i
unfolding val_feed
members_fed [] [] i e = refl
members_fed [] (c ∷ cs) i e = absurd (omega (arith, e))
members_fed (f ∷ fs) [] i e = absurd (omega (arith, e))
members_fed (f ∷ fs) (c ∷ cs) i e = ap (λ w. fed.u8 1 ++ val_feed (row_at c i) ++ w) (members_fed fs cs i (omega (arith, e)))

-- what is told of a struct value's parts, at the type of columns of fields
pub struct_parts : (t : Ty) (cs : List Column) (n : ℕ) (y : ScalarValue) (o : Option (List ScalarValue)) → AreFieldsOf t cs n → fits (raw_view y) t ≡ true → ((fs : Fields) (m : Nullability) → fits (raw_view y) (struct_ty fs m) ≡ true → PartsOf fs m (seen (struct_ty fs m) y) o) → PartsOf (fields_of t) NonNullable (seen t y) o
struct_parts t cs n y o h f told =
    subst (λ u. PartsOf (fields_of t) NonNullable (seen u y) o) (sym h.shape) (told (fields_of t) NonNullable (ap (fits (raw_view y)) (sym h.shape) ∙ f))

-- columns at one place of lists of columns of the same types
length_columns : (cs : List Column) → length (column_types cs) ≡ length cs
length_columns [] = refl
length_columns (c ∷ cs) = ap (λ n. suc n) (length_columns cs)

pub fields_alike : (cs ds : List Column) → column_types cs ≡ column_types ds → length cs ≡ length ds
fields_alike cs ds e = sym (length_columns cs) ∙ ap length e ∙ length_columns ds

pub types_at : (cs ds : List Column) (k : ℕ) (c d : Column) → column_types cs ≡ column_types ds → k < length cs → c ≡ get_or cs k c → d ≡ get_or ds k d → c.ty ≡ d.ty
types_at [] ds k c d e h p q = absurd (omega arith)
types_at (x ∷ cs) [] k c d e h p q = absurd cc
types_at (x ∷ cs) (y ∷ ds) zero c d e h p q =
    let first : x.ty ≡ y.ty = cc in
    ap (λ (z : Column). z.ty) p ∙ first ∙ ap (λ (z : Column). z.ty) (sym q)
types_at (x ∷ cs) (y ∷ ds) (suc k) c d e h p q =
    let rest : column_types cs ≡ column_types ds = cc in
    types_at cs ds k c d rest (omega arith) p q

pub column_same : (c d : Column) → c.ty ≡ d.ty → c.rows ≡ d.rows → c ≡ d
column_same c d t r = λ j. column (t j) (r j)

-- columns of one type are the same where their rows are
pub columns_answer : (c d : Column) (b : Bool) → c.ty ≡ d.ty → Decides b (c.rows ≡ d.rows) → Decides b (c ≡ d)
columns_answer c d b t k = (λ e. column_same c d t (k.0 e), λ p. k.1 (ap (λ (z : Column). z.rows) p))

-- a hash that has taken in a column's type, how many rows it has, and each of them has taken in the column
pub hash_fed : {B : Type 0} (write : B → List ℕ → B) (s a b e : B) (c : Column) (t : Ty) (n : ℕ) → t ≡ c.ty → n ≡ length c.rows → a ≡ fold write s (ty_feed t) → b ≡ fold write a (fed.usize n) → e ≡ fold write b (flat_map val_feed c.rows) → e ≡ fold write s (column_feed c)
hash_fed write s a b e c t n p q x y z =
    let rows : b ≡ fold write a (fed.usize (length c.rows)) = y ∙ ap (λ m. fold write a (fed.usize m)) q in
    let all : e ≡ fold write a (fed.usize (length c.rows) ++ flat_map val_feed c.rows) = z ∙ ap (λ w. fold write w (flat_map val_feed c.rows)) rows ∙ sym (fold-append write a (fed.usize (length c.rows)) (flat_map val_feed c.rows)) in
    let type : a ≡ fold write s (ty_feed c.ty) = x ∙ ap (λ u. fold write s (ty_feed u)) p in
    all ∙ ap (λ w. fold write w (fed.usize (length c.rows) ++ flat_map val_feed c.rows)) type ∙ sym (fold-append write s (ty_feed c.ty) (fed.usize (length c.rows) ++ flat_map val_feed c.rows))

-- what a hash takes in of a value that is kept at a row, and of a struct of columns' values
pub kept_fed : (c : Column) (i : ℕ) (x : ScalarValue) → fits (raw_view x) c.ty ≡ true → seen c.ty x ≡ row_at c i → raw_feed (raw_view x) ≡ val_feed (row_at c i)
kept_fed c i x f s = sym (val_feed-valued c.ty (raw_view x) f) ∙ ap val_feed s

fold_three : {B : Type 0} (write : B → List ℕ → B) (s : B) (x y z : HashWrites) → fold write s (x ++ y ++ z) ≡ fold write (fold write (fold write s x) y) z
fold_three write s x y z = simp fold-append

pub struct_fed : {B : Type 0} (write : B → List ℕ → B) (s a b : B) (c : Column) (i : ℕ) (cs : List Column) (n : ℕ) → AreFieldsOf c.ty cs n → structs_of (field_names (fields_of c.ty)) cs n ≡ c.rows → i < length c.rows → a ≡ fold write s (fed.u8 5) → b ≡ fold write a (fields_feed cs i) → b ≡ fold write s (val_feed (row_at c i))
unfolding val_feed
struct_fed write s a b c i cs n h r w x y =
    let row = structs_row c (field_names (fields_of c.ty)) cs n i r w in
    let members = members_fed (field_names (fields_of c.ty)) cs i (fields_number c.ty cs n h) in
    y ∙ ap (λ z. fold write z (fields_feed cs i)) x ∙ sym (fold-append write s (fed.u8 5) (fields_feed cs i)) ∙ ap (λ z. fold write s (fed.u8 5 ++ z)) (sym members) ∙ ap (λ v. fold write s (val_feed v)) row

pub fields_fed_more : {B : Type 0} (write : B → List ℕ → B) (s e a b : B) (cs : List Column) (k i : ℕ) (c : Column) → k < length cs → c ≡ get_or cs k c → e ≡ fold write s (fields_feed (drop k cs) i) → a ≡ fold write s (fed.u8 1) → b ≡ fold write a (val_feed (row_at c i)) → e ≡ fold write b (fields_feed (drop (k + 1) cs) i)
fields_fed_more write s e a b cs k i c h p before x y =
    let next = fields_feed (drop (k + 1) cs) i in
    let own : b ≡ fold write (fold write s (fed.u8 1)) (val_feed (row_at (get_or cs k c) i)) = y ∙ (λ j. fold write (x j) (val_feed (row_at (p j) i))) in
    before ∙ ap (λ ds. fold write s (fields_feed ds i)) (drop_more cs k c h) ∙ fold_three write s (fed.u8 1) (val_feed (row_at (get_or cs k c) i)) next ∙ ap (λ z. fold write z next) (sym own)

pub fields_fed_all : {B : Type 0} (write : B → List ℕ → B) (s e b : B) (cs : List Column) (k i : ℕ) → length cs ≤ k → e ≡ fold write s (fields_feed (drop k cs) i) → b ≡ fold write s (fed.u8 0) → b ≡ e
fields_fed_all write s e b cs k i h before x = x ∙ sym (before ∙ ap (λ ds. fold write s (fields_feed ds i)) (drop_all k cs h))

pub rows_fed_more : {B : Type 0} (write : B → List ℕ → B) (s e b : B) (vs : List Val) (i : ℕ) → i < length vs → e ≡ fold write s (flat_map val_feed (drop i vs)) → b ≡ fold write s (val_feed (get_or vs i null_val)) → e ≡ fold write b (flat_map val_feed (drop (i + 1) vs))
rows_fed_more write s e b vs i h before x =
    let next = flat_map val_feed (drop (i + 1) vs) in
    before ∙ ap (λ ws. fold write s (flat_map val_feed ws)) (drop_more vs i null_val h) ∙ fold-append write s (val_feed (get_or vs i null_val)) next ∙ ap (λ z. fold write z next) (sym x)

pub rows_fed_all : {B : Type 0} (write : B → List ℕ → B) (s e : B) (vs : List Val) (i : ℕ) → length vs ≤ i → e ≡ fold write s (flat_map val_feed (drop i vs)) → s ≡ e
rows_fed_all write s e vs i h before = sym (before ∙ ap (λ ws. fold write s (flat_map val_feed ws)) (drop_all i vs h))

-- a column that is kept as columns of fields
pub kept_structs_of : (c : Column) (cs : List Column) (n : ℕ) → AreFieldsOf c.ty cs n → structs_of (field_names (fields_of c.ty)) cs n ≡ c.rows → AreStructsOf c cs
kept_structs_of c cs n h r =
    let number = structs_length c (field_names (fields_of c.ty)) cs n r in
    record {
      fields = subst (AreFieldsOf c.ty cs) number h;
      rows = ap (structs_of (field_names (fields_of c.ty)) cs) (sym number) ∙ r;
    }

pub kept_types_same : (c d : Column) (cs ds : List Column) (n : ℕ) → d.ty ≡ c.ty → AreFieldsOf c.ty cs n → AreStructsOf d ds → column_types ds ≡ column_types cs
kept_types_same c d cs ds n s h k = k.fields.types ∙ ap (λ u. field_types (fields_of u)) s ∙ sym h.types
