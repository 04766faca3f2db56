-- The rows of a block are of the row type, where its columns hold values of theirs.
use Rattle.std.proofs.Common.{◌≡◌, ◌+◌, ◌<◌, drop, get_or, refl, ap, ◌∙◌, sym, ℕ, zero, suc, true, ◌&&◌, nat_eq, List, [], ◌∷◌, map, length, replicate, arith}
use Rattle.std.proofs.lemmas.List.{drop_more}
use Rattle.std.specs.Cmp.{first_so, second_so}
use Rattle.std.specs.Cmp.Derive.{both_true}
use Rattle.std.specs.List.{list_all}
use Rattle.std.specs.Str.{bytes_eq}
use Rattle.std.proofs.lemmas.Slice.Eq.{bytes_eq-Decides}
use Rattle.vx_dtype.specs.Types.{Bytes, Ty, struct_ty, Fields, no_fields, field}
use Rattle.vx_dtype.specs.declared.Nullability.TheVariants.{NonNullable}
use Rattle.vx_dtype.specs.TypeRules.{field_names}
use Rattle.vx_dtype.specs.StructTypes.{field_types}
use Rattle.vx_dtype.specs.Equal.{ty_eq}
use Rattle.vx_dtype.specs.EqualLaws.{ty_decides}
use Rattle.vx_dtype.specs.Values.{Val, struct_val, Members, no_members, member}
use Rattle.vx_dtype.specs.Fits.{val_fits, members_fit}
use Rattle.vx_column.specs.Columns.{Column, zip_rows, rows_fit}
use Rattle.vx_tables.specs.Blocks.{block_long, blocks_long, block_typed, block_fits, block_members, rows_of_columns}
use Rattle.vx_tables.proofs.MemberLemmas.{equal_numbers}

-- rows without members are of no fields
none_fit : (n : ℕ) → rows_fit (struct_ty no_fields NonNullable) (map struct_val (replicate n no_members)) ≡ true
unfolding val_fits
none_fit zero = refl
none_fit (suc n) = none_fit n

-- values of a type before members of fields are members of both
zip_fit : (f : Bytes) (t : Ty) (fs : Fields) (xs : List Val) (ms : List Members) → rows_fit t xs ≡ true → rows_fit (struct_ty fs NonNullable) (map struct_val ms) ≡ true → rows_fit (struct_ty (field f t fs) NonNullable) (map struct_val (zip_rows (member f) xs ms)) ≡ true
unfolding val_fits
zip_fit f t fs [] ms h k = refl
zip_fit f t fs (x ∷ xs) [] h k = refl
zip_fit f t fs (x ∷ xs) (m ∷ ms) h k =
    let name : bytes_eq f f ≡ true = (bytes_eq-Decides f f).1 refl in
    let rest = zip_fit f t fs xs ms (second_so (val_fits x t) (rows_fit t xs) h) (second_so (members_fit m fs) (rows_fit (struct_ty fs NonNullable) (map struct_val ms)) k) in
    both_true (both_true name (both_true (first_so (val_fits x t) (rows_fit t xs) h) (first_so (members_fit m fs) (rows_fit (struct_ty fs NonNullable) (map struct_val ms)) k))) rest

pub rows_are_fit : (fs : Fields) (n : ℕ) (cs : List Column) → length cs ≡ length (field_names fs) → block_typed (field_types fs) cs ≡ true → block_fits cs ≡ true → rows_fit (struct_ty fs NonNullable) (rows_of_columns fs n cs) ≡ true
rows_are_fit no_fields n cs e h k = none_fit n
rows_are_fit (field f t fs) n [] e h k = absurd (omega (arith, e))
rows_are_fit (field f t fs) n (c ∷ cs) e h k =
    let same : c.ty ≡ t = (ty_decides c.ty t).0 (first_so (ty_eq c.ty t) (block_typed (field_types fs) cs) h) in
    let own : rows_fit t c.rows ≡ true = ap (λ u. rows_fit u c.rows) (sym same) ∙ first_so (rows_fit c.ty c.rows) (block_fits cs) k in
    let rest = rows_are_fit fs n cs (omega (arith, e)) (second_so (ty_eq c.ty t) (block_typed (field_types fs) cs) h) (second_so (rows_fit c.ty c.rows) (block_fits cs) k) in
    zip_fit f t fs c.rows (block_members fs n cs) own rest

-- the columns behind one that holds values of its type do so where all do
pub fits_more : (cs : List Column) (i : ℕ) (c : Column) → i < length cs → c ≡ get_or cs i c → rows_fit c.ty c.rows ≡ true → block_fits (drop i cs) ≡ block_fits (drop (i + 1) cs)
fits_more cs i c h e k =
    let own : rows_fit (get_or cs i c).ty (get_or cs i c).rows ≡ true = ap (λ (d : Column). rows_fit d.ty d.rows) (sym e) ∙ k in
    ap block_fits (drop_more cs i c h) ∙ ap (λ b. b && block_fits (drop (i + 1) cs)) own

-- and so are those of all blocks
pub table_fit : (fs : Fields) (ns : List ℕ) (bs : List (List Column)) → blocks_long (length (field_names fs)) ns bs ≡ true → list_all (block_typed (field_types fs)) bs ≡ true → list_all block_fits bs ≡ true → list_all (rows_fit (struct_ty fs NonNullable)) (zip_rows (rows_of_columns fs) ns bs) ≡ true
table_fit fs [] [] l h k = refl
table_fit fs [] (cs ∷ bs) l h k = absurd cc
table_fit fs (n ∷ ns) [] l h k = absurd cc
table_fit fs (n ∷ ns) (cs ∷ bs) l h k =
    let width = length (field_names fs) in
    let long : block_long width n cs ≡ true = first_so (block_long width n cs) (blocks_long width ns bs) l in
    let wide = equal_numbers (length cs) width (first_so (nat_eq (length cs) width) (list_all (λ c. nat_eq (length c.rows) n) cs) long) in
    let here = rows_are_fit fs n cs wide (first_so (block_typed (field_types fs) cs) (list_all (block_typed (field_types fs)) bs) h) (first_so (block_fits cs) (list_all block_fits bs) k) in
    both_true here (table_fit fs ns bs (second_so (block_long width n cs) (blocks_long width ns bs) l) (second_so (block_typed (field_types fs) cs) (list_all (block_typed (field_types fs)) bs) h) (second_so (block_fits cs) (list_all block_fits bs) k))
