-- The columns that cells are have the types and the numbers of rows of their lists.
use Rattle.std.proofs.Common.{◌≡◌, ℕ, suc, Bool, true, false, ◌&&◌, ◌==◌, nat_eq, cond, List, [], ◌∷◌, length, map, Option, Some, None, Ok, refl, sym, ap, ◌∙◌, arith, true≢false, is_some}
use Rattle.std.proofs.lemmas.List.{length-map}
use Rattle.std.proofs.lemmas.Bool.{eqb-true, eq-eqb}
use Rattle.std.specs.List.{list_all}
use Rattle.std.specs.Result.{result_ok}
use Rattle.serde_json.specs.Data.{Data, Items, no_items, item}
use Rattle.serde_json.specs.Events.{items_len}
use Rattle.vx_dtype.specs.EqualLaws.{ty_eq-own}
use Rattle.vx_dtype.specs.Equal.{ty_eq}
use Rattle.vx_dtype.specs.StructTypes.{field_types}
use Rattle.vx_dtype.specs.TypeRules.{field_names, no_name_twice}
use Rattle.vx_dtype.specs.Types.{Ty, Fields, no_fields, field}
use Rattle.vx_dtype.specs.Values.{Raw}
use Rattle.vx_column.specs.Columns.{Column, column, raws_fit, raw_rows}
use Rattle.vx_column.specs.Answers.{unless}
use Rattle.vx_column.specs.declared.errors.ColumnError.TheVariants.{WrongValue, DuplicateField}
use Rattle.vx_tables.specs.Blocks.{block_long, blocks_long, block_typed}
use Rattle.vx_request.specs.Objects.{◌>>=◌, each_item}
use Rattle.vx_request.specs.RequestMembers.{BlockText}
use Rattle.vx_request.specs.Cells.{raw_in, column_where, column_in, columns_of, blocks_of}
use Rattle.vx_request.specs.Requests.{is_rectangle}

pub and_left : (a b : Bool) → a && b ≡ true → a ≡ true
and_left true b h = refl
and_left false b h = absurd (true≢false (sym h))

pub and_right : (a b : Bool) → a && b ≡ true → b ≡ true
and_right true b h = h
and_right false b h = absurd (true≢false (sym h))

pub both_true : (a b : Bool) → a ≡ true → b ≡ true → a && b ≡ true
both_true a b h g = rw (h, g)

pub not_found : {X : Type 0} (x : X) → None ≡ Some x → ⊥
not_found x e = true≢false (sym (ap is_some e))

-- what a step gave, it gave of what was found before it
pub found_then : {A B : Type 0} (o : Option A) (f : A → Option B) (y : B) → (o >>= f) ≡ Some y → (x : A) × (o ≡ Some x) × (f x ≡ Some y)
found_then None f y h = absurd (not_found y h)
found_then (Some x) f y h = (x, refl, h)

-- a list with one item more
count_last : {A : Type 0} (x : A) (o : Option (List A)) (n : ℕ) (xs : List A) → ((ys : List A) → o ≡ Some ys → length ys ≡ n)
    → (ys : List A) × (o ≡ Some ys) × (Some (x ∷ ys) ≡ Some xs) → length xs ≡ suc n
count_last x o n xs rest (ys, more, whole) = let e : x ∷ ys ≡ xs = cc whole in sym (ap length e) ∙ ap suc (rest ys more)

count_one : {A : Type 0} (o : Option A) (rest : Option (List A)) (n : ℕ) (xs : List A) → ((ys : List A) → rest ≡ Some ys → length ys ≡ n)
    → (x : A) × (o ≡ Some x) × ((rest >>= λ ys. Some (x ∷ ys)) ≡ Some xs) → length xs ≡ suc n
count_one o rest n xs counts (x, found, more) = count_last x rest n xs counts (found_then rest (λ ys. Some (x ∷ ys)) xs more)

-- of each item one is read
pub each_counts : {A : Type 0} (read : Data → Option A) (ds : Items) (xs : List A) → each_item read ds ≡ Some xs → length xs ≡ items_len ds
each_counts read no_items xs h = let e : [] ≡ xs = cc h in sym (ap length e)
each_counts read (item d ds) xs h =
    count_one (read d) (each_item read ds) (items_len ds) xs (λ ys more. each_counts read ds ys more) (found_then (read d) _ xs h)

-- the column of raw values has their type and number
where_is : (fit names : Bool) (t : Ty) (xs : List Raw) (c : Column)
    → cond fit (cond names (Some (column t (raw_rows t xs))) None) None ≡ Some c → (c.ty ≡ t) × (length c.rows ≡ length xs)
where_is true true t xs c h = let e : column t (raw_rows t xs) ≡ c = cc h in (sym (ap (λ k. k.ty) e), sym (ap (λ k. length k.rows) e) ∙ length-map xs _)
where_is true false t xs c h = absurd (not_found c h)
where_is false names t xs c h = absurd (not_found c h)

pub as_where : (fit names : Bool) (c : Column) → result_ok (unless fit WrongValue (unless names DuplicateField (Ok c))) ≡ cond fit (cond names (Some c) None) None
as_where true true c = refl
as_where true false c = refl
as_where false names c = refl

raws_shape : (t : Ty) (xs : List Raw) (c : Column) → column_where t xs ≡ Some c → (c.ty ≡ t) × (length c.rows ≡ length xs)
raws_shape t xs c h = where_is (raws_fit t xs) (no_name_twice t) t xs c (sym (as_where (raws_fit t xs) (no_name_twice t) (column t (raw_rows t xs))) ∙ h)

-- the column that cells are has their type and number
pub column_shape : (t : Ty) (cells : Items) (c : Column) → column_in t cells ≡ Some c → (c.ty ≡ t) × (length c.rows ≡ items_len cells)
column_shape t cells c h = by (found_then (each_item (raw_in t) cells) (column_where t) c h)
  where
    by : (xs : List Raw) × (each_item (raw_in t) cells ≡ Some xs) × (column_where t xs ≡ Some c) → (c.ty ≡ t) × (length c.rows ≡ items_len cells)
    by (xs, found, made) = (((raws_shape t xs c made).0, (raws_shape t xs c made).1 ∙ each_counts (raw_in t) cells xs found))

-- the columns of a block, of as many types as lists, each of so many cells
abbrev pub BlockShape : ℕ → List Ty → List Items → List Column → Type 0
BlockShape n ts css cs = (length cs ≡ length css) × (block_typed ts cs ≡ true) × (list_all (λ c. nat_eq (length c.rows) n) cs ≡ true)

-- a column before those of a block
shape_last : (n : ℕ) (t : Ty) (ts : List Ty) (cells : Items) (css : List Items) (c : Column) (o : Option (List Column)) (cs : List Column)
    → (items_len cells == n) ≡ true → column_in t cells ≡ Some c → ((ds : List Column) → o ≡ Some ds → BlockShape n ts css ds)
    → (ds : List Column) × (o ≡ Some ds) × (Some (c ∷ ds) ≡ Some cs) → BlockShape n (t ∷ ts) (cells ∷ css) cs
shape_last n t ts cells css c o cs long one shapes (ds, more, whole) =
    let e : c ∷ ds ≡ cs = cc whole in
    let first = column_shape t cells c one in
    let rest = shapes ds more in
    let typed : ty_eq c.ty t ≡ true = rw (first.0) (ty_eq-own t) in
    let counted : nat_eq (length c.rows) n ≡ true = eq-eqb _ n (first.1 ∙ eqb-true _ n long) in
    rw (sym e) (ap suc rest.0, both_true _ _ typed rest.1, both_true _ _ counted rest.2)

shape_one : (n : ℕ) (t : Ty) (ts : List Ty) (cells : Items) (css : List Items) (o : Option (List Column)) (cs : List Column)
    → (items_len cells == n) ≡ true → ((ds : List Column) → o ≡ Some ds → BlockShape n ts css ds)
    → (c : Column) × (column_in t cells ≡ Some c) × ((o >>= λ ds. Some (c ∷ ds)) ≡ Some cs) → BlockShape n (t ∷ ts) (cells ∷ css) cs
shape_one n t ts cells css o cs long shapes (c, one, more) =
    shape_last n t ts cells css c o cs long one shapes (found_then o (λ ds. Some (c ∷ ds)) cs more)

pub columns_shape : (n : ℕ) (ts : List Ty) (css : List Items) (cs : List Column) → length css ≡ length ts → list_all (λ cells. items_len cells == n) css ≡ true
    → columns_of ts css ≡ Some cs → BlockShape n ts css cs
columns_shape n [] [] cs wide long h = let e : [] ≡ cs = cc h in rw (sym e) (refl, refl, refl)
columns_shape n [] (cells ∷ css) cs wide long h = absurd (omega (arith, wide))
columns_shape n (t ∷ ts) [] cs wide long h = absurd (omega (arith, wide))
columns_shape n (t ∷ ts) (cells ∷ css) cs wide long h =
    shape_one n t ts cells css (columns_of ts css) cs (and_left _ _ long)
    (λ ds more. columns_shape n ts css ds (omega (arith, wide)) (and_right _ _ long) more) (found_then (column_in t cells) _ cs h)

pub names_number : (fs : Fields) → length (field_names fs) ≡ length (field_types fs)
names_number no_fields = refl
names_number (field f t fs) = ap suc (names_number fs)

-- the blocks have the lengths and the types of their columns
abbrev pub BlocksShape : Fields → List BlockText → List (List Column) → Type 0
BlocksShape fs bs css = (blocks_long (length (field_names fs)) (map (λ b. b.rows) bs) css ≡ true) × (list_all (block_typed (field_types fs)) css ≡ true)

-- a block before the others
block_last : (fs : Fields) (b : BlockText) (bs : List BlockText) (cs : List Column) (o : Option (List (List Column))) (css : List (List Column))
    → is_rectangle (length (field_names fs)) b ≡ true → columns_of (field_types fs) b.values ≡ Some cs
    → ((rest : List (List Column)) → o ≡ Some rest → BlocksShape fs bs rest)
    → (rest : List (List Column)) × (o ≡ Some rest) × (Some (cs ∷ rest) ≡ Some css) → BlocksShape fs (b ∷ bs) css
block_last fs b bs cs o css box one shapes (rest, more, whole) =
    let e : cs ∷ rest ≡ css = cc whole in
    let wide : length b.values ≡ length (field_names fs) = eqb-true _ _ (and_left _ _ box) in
    let first = columns_shape b.rows (field_types fs) b.values cs (wide ∙ names_number fs) (and_right _ _ box) one in
    let others = shapes rest more in
    let long : block_long (length (field_names fs)) b.rows cs ≡ true = both_true _ _ (eq-eqb _ _ (first.0 ∙ wide)) first.2 in
    rw (sym e) (both_true _ _ long others.0, both_true _ _ first.1 others.1)

block_one : (fs : Fields) (b : BlockText) (bs : List BlockText) (o : Option (List (List Column))) (css : List (List Column))
    → is_rectangle (length (field_names fs)) b ≡ true → ((rest : List (List Column)) → o ≡ Some rest → BlocksShape fs bs rest)
    → (cs : List Column) × (columns_of (field_types fs) b.values ≡ Some cs) × ((o >>= λ rest. Some (cs ∷ rest)) ≡ Some css) → BlocksShape fs (b ∷ bs) css
block_one fs b bs o css box shapes (cs, one, more) = block_last fs b bs cs o css box one shapes (found_then o (λ rest. Some (cs ∷ rest)) css more)

pub blocks_shape : (fs : Fields) (bs : List BlockText) (css : List (List Column)) → list_all (is_rectangle (length (field_names fs))) bs ≡ true
    → blocks_of (field_types fs) (map (λ b. b.values) bs) ≡ Some css → BlocksShape fs bs css
blocks_shape fs [] css boxes h = let e : [] ≡ css = cc h in rw (sym e) (refl, refl)
blocks_shape fs (b ∷ bs) css boxes h =
    block_one fs b bs (blocks_of (field_types fs) (map (λ b. b.values) bs)) css (and_left (is_rectangle (length (field_names fs)) b) _ boxes)
    (λ rest more. blocks_shape fs bs rest (and_right _ _ boxes) more) (found_then (columns_of (field_types fs) b.values) _ css h)
