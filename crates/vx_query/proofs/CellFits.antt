-- The columns that cells are hold values of their types.
use Rattle.std.proofs.Common.{◌≡◌, ◌∙◌, sym, refl, subst, Bool, true, false, cond, List, [], ◌∷◌, Option, Some, None}
use Rattle.std.specs.List.{list_all}
use Rattle.serde_json.specs.Data.{Items}
use Rattle.vx_dtype.specs.Fits.{fits, val_fits}
use Rattle.vx_dtype.specs.TypeRules.{no_name_twice}
use Rattle.vx_dtype.specs.Types.{Ty}
use Rattle.vx_dtype.specs.Values.{Raw, valued}
use Rattle.vx_dtype.proofs.ValuedLemmas.{val_fits_valued}
use Rattle.vx_column.specs.Columns.{Column, column, raw_rows, raws_fit, rows_fit}
use Rattle.vx_tables.specs.Blocks.{block_fits}
use Rattle.vx_request.specs.Cells.{blocks_of, column_in, column_where, columns_of, raw_in}
use Rattle.vx_request.specs.Objects.{◌>>=◌, each_item}
use Rattle.vx_query.proofs.CellLemmas.{and_left, and_right, as_where, both_true, found_then, not_found}

raws_are_fit : (t : Ty) (xs : List Raw) → raws_fit t xs ≡ true → rows_fit t (raw_rows t xs) ≡ true
raws_are_fit t [] h = refl
raws_are_fit t (x ∷ xs) h =
    both_true (val_fits (valued x t) t) (rows_fit t (raw_rows t xs)) (val_fits_valued x t (and_left (fits x t) (raws_fit t xs) h))
    (raws_are_fit t xs (and_right (fits x t) (raws_fit t xs) h))

where_fits : (fit names : Bool) (t : Ty) (xs : List Raw) (c : Column) → raws_fit t xs ≡ fit
    → cond fit (cond names (Some (column t (raw_rows t xs))) None) None ≡ Some c → rows_fit c.ty c.rows ≡ true
where_fits true true t xs c fit h =
    let e : column t (raw_rows t xs) ≡ c = cc h in
    subst (λ k. rows_fit k.ty k.rows ≡ true) e (raws_are_fit t xs fit)
where_fits true false t xs c fit h = absurd (not_found c h)
where_fits false names t xs c fit h = absurd (not_found c h)

column_fits : (t : Ty) (cells : Items) (c : Column) → column_in t cells ≡ Some c → rows_fit c.ty c.rows ≡ true
column_fits t cells c h = by (found_then (each_item (raw_in t) cells) (column_where t) c h)
  where
    by : (xs : List Raw) × (each_item (raw_in t) cells ≡ Some xs) × (column_where t xs ≡ Some c) → rows_fit c.ty c.rows ≡ true
    by (xs, found, made) =
        where_fits (raws_fit t xs) (no_name_twice t) t xs c refl (sym (as_where (raws_fit t xs) (no_name_twice t) (column t (raw_rows t xs))) ∙ made)

-- a column before those of a block
fits_last : (c : Column) (o : Option (List Column)) (cs : List Column) → rows_fit c.ty c.rows ≡ true
    → ((ds : List Column) → o ≡ Some ds → block_fits ds ≡ true) → (ds : List Column) × (o ≡ Some ds) × (Some (c ∷ ds) ≡ Some cs) → block_fits cs ≡ true
fits_last c o cs own others (ds, more, whole) =
    let e : c ∷ ds ≡ cs = cc whole in
    subst (λ k. block_fits k ≡ true) e (both_true (rows_fit c.ty c.rows) (block_fits ds) own (others ds more))

fits_one : (t : Ty) (cells : Items) (o : Option (List Column)) (cs : List Column) → ((ds : List Column) → o ≡ Some ds → block_fits ds ≡ true)
    → (c : Column) × (column_in t cells ≡ Some c) × ((o >>= λ ds. Some (c ∷ ds)) ≡ Some cs) → block_fits cs ≡ true
fits_one t cells o cs others (c, one, more) = fits_last c o cs (column_fits t cells c one) others (found_then o (λ ds. Some (c ∷ ds)) cs more)

columns_fit : (ts : List Ty) (css : List Items) (cs : List Column) → columns_of ts css ≡ Some cs → block_fits cs ≡ true
columns_fit [] [] cs h = let e : [] ≡ cs = cc h in subst (λ k. block_fits k ≡ true) e refl
columns_fit [] (cells ∷ css) cs h = let e : [] ≡ cs = cc h in subst (λ k. block_fits k ≡ true) e refl
columns_fit (t ∷ ts) [] cs h = let e : [] ≡ cs = cc h in subst (λ k. block_fits k ≡ true) e refl
columns_fit (t ∷ ts) (cells ∷ css) cs h =
    fits_one t cells (columns_of ts css) cs (λ ds more. columns_fit ts css ds more) (found_then (column_in t cells) _ cs h)

-- a block before the others
all_last : (cs : List Column) (o : Option (List (List Column))) (css : List (List Column)) → block_fits cs ≡ true
    → ((rest : List (List Column)) → o ≡ Some rest → list_all block_fits rest ≡ true)
    → (rest : List (List Column)) × (o ≡ Some rest) × (Some (cs ∷ rest) ≡ Some css) → list_all block_fits css ≡ true
all_last cs o css own others (rest, more, whole) =
    let e : cs ∷ rest ≡ css = cc whole in
    subst (λ k. list_all block_fits k ≡ true) e (both_true (block_fits cs) (list_all block_fits rest) own (others rest more))

all_one : (ts : List Ty) (b : List Items) (o : Option (List (List Column))) (css : List (List Column))
    → ((rest : List (List Column)) → o ≡ Some rest → list_all block_fits rest ≡ true)
    → (cs : List Column) × (columns_of ts b ≡ Some cs) × ((o >>= λ rest. Some (cs ∷ rest)) ≡ Some css) → list_all block_fits css ≡ true
all_one ts b o css others (cs, one, more) = all_last cs o css (columns_fit ts b cs one) others (found_then o (λ rest. Some (cs ∷ rest)) css more)

pub blocks_fit : (ts : List Ty) (bs : List (List Items)) (css : List (List Column)) → blocks_of ts bs ≡ Some css → list_all block_fits css ≡ true
blocks_fit ts [] css h = let e : [] ≡ css = cc h in subst (λ k. list_all block_fits k ≡ true) e refl
blocks_fit ts (b ∷ bs) css h =
    all_one ts b (blocks_of ts bs) css (λ rest more. blocks_fit ts bs rest more) (found_then (columns_of ts b) _ css h)
