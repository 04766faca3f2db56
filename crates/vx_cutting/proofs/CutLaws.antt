-- A table that is cut anew has the same rows, in blocks of the stated lengths.
use Rattle.std.proofs.Common.{◌≡◌, refl, ap, sym, ◌∙◌, ℕ, zero, suc, ◌+◌, ◌-◌, ◌*◌, ◌<◌, ◌≤◌, min, true, List, [], ◌∷◌, ◌++◌, length, map, take, drop, replicate, nat_eq, arith}
use Rattle.std.specs.Cmp.{first_so, second_so}
use Rattle.std.specs.Cmp.Derive.{both_true}
use Rattle.std.specs.List.{flat_map, list_all, range_with_len, sum}
use Rattle.std.proofs.lemmas.Bool.Decides.{nat_tests}
use Rattle.std.proofs.lemmas.List.Sums.{sum_by-cons}
use Rattle.std.proofs.lemmas.List.{length-append, length-take, length-drop, drop_more, take-map, drop-map, take-replicate, drop-replicate, take_min, length-replicate, replicate-append-replicate}
use Rattle.vx_dtype.specs.Types.{Ty, Fields, no_fields, field}
use Rattle.vx_dtype.specs.Equal.{ty_eq}
use Rattle.vx_dtype.specs.EqualLaws.{ty_decides}
use Rattle.vx_dtype.specs.StructTypes.{field_types}
use Rattle.vx_dtype.specs.TypeRules.{field_names}
use Rattle.vx_dtype.specs.Values.{Val, struct_val, Members, no_members, member}
use Rattle.vx_column.specs.Columns.{Column, column, zip_rows}
use Rattle.vx_semantics.specs.Tables.{Zones}
use Rattle.vx_tables.specs.Blocks.{block_long, blocks_long, block_typed, block_members, rows_of_columns, table_of_blocks}
use Rattle.vx_tables.proofs.MemberLemmas.{equal_numbers, length_mapped, members_count}
use Rattle.vx_cutting.specs.Cutting.{rows_cut, blocks_cut, length_cut, column_there, joined_from, joined_columns, all_have_rows, block_cut, zones_cut, blocks_anew}
use Rattle.vx_cutting.specs.CutLaws.{IsTable, CutTablesAreTables, CuttingKeepsRows}
use Rattle.vx_cutting.proofs.CutLists.{concat, part, parts_join, zip_part, zip_append, map_concat}

pub same_number : (a b : ℕ) → a ≡ b → nat_eq a b ≡ true
same_number a b e = grind (arith, nat_tests)

-- ---- the columns of all blocks

-- the column of a block there has so many rows, and the columns behind it
rows_there : (n place : ℕ) (cs : List Column) → list_all (λ c. nat_eq (length c.rows) n) cs ≡ true → place < length cs → length (column_there place cs).rows ≡ n
rows_there n place [] h l = absurd (omega (arith, l))
rows_there n zero (c ∷ cs) h l = equal_numbers (length c.rows) n (first_so _ _ h)
rows_there n (suc place) (c ∷ cs) h l = rows_there n place cs (second_so _ _ h) (omega (arith, l))

behind_have : (n place : ℕ) (cs : List Column) → list_all (λ c. nat_eq (length c.rows) n) cs ≡ true → list_all (λ c. nat_eq (length c.rows) n) (drop place cs) ≡ true
behind_have n zero cs h = h
behind_have n (suc place) [] h = refl
behind_have n (suc place) (c ∷ cs) h = behind_have n place cs (second_so _ _ h)

-- a block of so many columns of so many rows
wide : (w n : ℕ) (cs : List Column) → block_long w n cs ≡ true → length cs ≡ w
wide w n cs h = equal_numbers (length cs) w (first_so _ _ h)

even : (w n : ℕ) (cs : List Column) → block_long w n cs ≡ true → list_all (λ c. nat_eq (length c.rows) n) cs ≡ true
even w n cs h = second_so (nat_eq (length cs) w) (list_all (λ c. nat_eq (length c.rows) n) cs) h

-- the values of a column of all blocks are as many as the blocks have rows
joined_count : (w place : ℕ) (ns : List ℕ) (bs : List (List Column)) → place < w → blocks_long w ns bs ≡ true → length (flat_map (λ cs. (column_there place cs).rows) bs) ≡ sum ns
joined_count w place [] [] l h = refl
joined_count w place [] (cs ∷ bs) l h = absurd cc
joined_count w place (n ∷ ns) [] l h = absurd cc
joined_count w place (n ∷ ns) (cs ∷ bs) l h =
    let long = first_so (block_long w n cs) (blocks_long w ns bs) h in
    let here = rows_there n place cs (even w n cs long) (omega (arith, l, wide w n cs long)) in
    let rest = joined_count w place ns bs l (second_so (block_long w n cs) (blocks_long w ns bs) h) in
    let split : length (flat_map (λ ds. (column_there place ds).rows) (cs ∷ bs)) ≡ length (column_there place cs).rows + length (flat_map (λ ds. (column_there place ds).rows) bs) =
    length-append (column_there place cs).rows (flat_map (λ ds. (column_there place ds).rows) bs) in
    omega (arith, here, rest, split, sum_by-cons (λ x. x) n ns)

pub joined_have : (w place : ℕ) (ts : List Ty) (ns : List ℕ) (bs : List (List Column)) → place + length ts ≤ w → blocks_long w ns bs ≡ true → all_have_rows (sum ns) (joined_from bs place ts) ≡ true
joined_have w place [] ns bs l h = refl
joined_have w place (t ∷ ts) ns bs l h =
    both_true (same_number _ (sum ns) (joined_count w place ns bs (omega (arith, l)) h)) (joined_have w (place + 1) ts ns bs (omega (arith, l)) h)

pub joined_width : (place : ℕ) (ts : List Ty) (bs : List (List Column)) → length (joined_from bs place ts) ≡ length ts
joined_width place [] bs = refl
joined_width place (t ∷ ts) bs = ap suc (joined_width (place + 1) ts bs)

-- ---- lengths and types

cut_long : (n rows block : ℕ) (cs : List Column) → all_have_rows rows cs ≡ true → list_all (λ c. nat_eq (length c.rows) (length_cut n rows block)) (block_cut n cs block) ≡ true
cut_long n rows block [] h = refl
cut_long n rows block (c ∷ cs) h =
    let own = equal_numbers (length c.rows) rows (first_so _ _ h) in
    let cut : length (rows_cut n c.rows block) ≡ length_cut n rows block =
    omega (arith, own, length-take n (drop (block * n) c.rows), length-drop (block * n) c.rows) in
    both_true (same_number _ _ cut) (cut_long n rows block cs (second_so _ _ h))

blocks_cut_long : (n rows w : ℕ) (cs : List Column) (ks : List ℕ) → length cs ≡ w → all_have_rows rows cs ≡ true → blocks_long w (map (length_cut n rows) ks) (map (block_cut n cs) ks) ≡ true
blocks_cut_long n rows w cs [] e h = refl
blocks_cut_long n rows w cs (k ∷ ks) e h =
    both_true (both_true (same_number _ w (length_mapped (λ c. column c.ty (rows_cut n c.rows k)) cs ∙ e)) (cut_long n rows k cs h)) (blocks_cut_long n rows w cs ks e h)

own_type : (t : Ty) → ty_eq t t ≡ true
own_type t = (ty_decides t t).1 refl

cut_typed : (n place block : ℕ) (ts : List Ty) (bs : List (List Column)) → block_typed ts (block_cut n (joined_from bs place ts) block) ≡ true
cut_typed n place block [] bs = refl
cut_typed n place block (t ∷ ts) bs = both_true (own_type t) (cut_typed n (place + 1) block ts bs)

blocks_cut_typed : (n : ℕ) (ts : List Ty) (bs : List (List Column)) (ks : List ℕ) → list_all (block_typed ts) (map (block_cut n (joined_from bs 0 ts)) ks) ≡ true
blocks_cut_typed n ts bs [] = refl
blocks_cut_typed n ts bs (k ∷ ks) = both_true (cut_typed n 0 k ts bs) (blocks_cut_typed n ts bs ks)

types_count : (fs : Fields) → length (field_types fs) ≡ length (field_names fs)
types_count no_fields = refl
types_count (field f t fs) = ap suc (types_count fs)

pub cut_tables_are_tables : CutTablesAreTables
cut_tables_are_tables n zones blocks some is =
    let fs = zones.columns in
    let ts = field_types fs in
    let w = length (field_names fs) in
    let rows = sum zones.lengths in
    let columns = joined_columns zones blocks in
    let ks = range_with_len 0 (blocks_cut n rows) in
    let count = types_count fs in
    record {
      lengths = blocks_cut_long n rows w columns ks (joined_width 0 ts blocks ∙ count) (joined_have w 0 ts zones.lengths blocks (omega (arith, count)) is.lengths);
      types = blocks_cut_typed n ts blocks ks;
    }

-- ---- rows

replicate_part : (n rows block : ℕ) → replicate (length_cut n rows block) no_members ≡ part n (replicate rows no_members) block
replicate_part n rows block =
    let left = rows - block * n in
    let first = take_min n (replicate left no_members) in
    let count = length-replicate left no_members in
    sym (take-replicate (min n left) left no_members (omega arith)) ∙ ap (λ k. take (min n k) (replicate left no_members)) (sym count) ∙ first
    ∙ ap (take n) (sym (drop-replicate (block * n) rows no_members))

-- the members of the rows of a block that is cut are cut alike
members_cut : (fs : Fields) (n rows block : ℕ) (cs : List Column) → block_members fs (length_cut n rows block) (block_cut n cs block) ≡ part n (block_members fs rows cs) block
members_cut no_fields n rows block cs = replicate_part n rows block
members_cut (field f t fs) n rows block [] = replicate_part n rows block
members_cut (field f t fs) n rows block (c ∷ cs) =
    ap (zip_rows (member f) (part n c.rows block)) (members_cut fs n rows block cs) ∙ zip_part (member f) n block c.rows (block_members fs rows cs)

rows_are_cut : (fs : Fields) (n rows block : ℕ) (cs : List Column) → rows_of_columns fs (length_cut n rows block) (block_cut n cs block) ≡ part n (rows_of_columns fs rows cs) block
rows_are_cut fs n rows block cs =
    ap (map struct_val) (members_cut fs n rows block cs) ∙ sym (take-map struct_val n (drop (block * n) (block_members fs rows cs))) ∙ ap (take n) (sym (drop-map struct_val (block * n) (block_members fs rows cs)))

blocks_are_cut : (fs : Fields) (n rows : ℕ) (cs : List Column) (ks : List ℕ) → zip_rows (rows_of_columns fs) (map (length_cut n rows) ks) (map (block_cut n cs) ks) ≡ map (part n (rows_of_columns fs rows cs)) ks
blocks_are_cut fs n rows cs [] = refl
blocks_are_cut fs n rows cs (k ∷ ks) =
    let here = rows_are_cut fs n rows k cs in
    let rest = blocks_are_cut fs n rows cs ks in
    λ i. here i ∷ rest i

-- the members of the rows of all blocks, of the columns from a place on
abbrev members_from : Fields → ℕ → ℕ → List Column → List Members
members_from fs place n cs = block_members fs n (drop place cs)

none_join : (w : ℕ) (ns : List ℕ) (bs : List (List Column)) (place : ℕ) → blocks_long w ns bs ≡ true → replicate (sum ns) no_members ≡ concat (zip_rows (members_from no_fields place) ns bs)
none_join w [] [] place h = refl
none_join w [] (cs ∷ bs) place h = absurd cc
none_join w (n ∷ ns) [] place h = absurd cc
none_join w (n ∷ ns) (cs ∷ bs) place h =
    let rest = none_join w ns bs place (second_so (block_long w n cs) (blocks_long w ns bs) h) in
    ap (λ k. replicate k no_members) (sum_by-cons (λ x. x) n ns) ∙ sym (replicate-append-replicate n (sum ns) no_members) ∙ ap (λ ms. replicate n no_members ++ ms) rest

-- the column at a place and those behind it
there : (place : ℕ) (cs : List Column) → place < length cs → drop place cs ≡ column_there place cs ∷ drop (place + 1) cs
there place cs l = drop_more cs place _ l

one_more_field : (w : ℕ) (fs : Fields) (f : List ℕ) (t : Ty) (ns : List ℕ) (bs : List (List Column)) (place : ℕ) → place < w → blocks_long w ns bs ≡ true
    → zip_rows (member f) (flat_map (λ cs. (column_there place cs).rows) bs) (concat (zip_rows (members_from fs (place + 1)) ns bs)) ≡ concat (zip_rows (members_from (field f t fs) place) ns bs)
one_more_field w fs f t [] [] place l h = refl
one_more_field w fs f t [] (cs ∷ bs) place l h = absurd cc
one_more_field w fs f t (n ∷ ns) [] place l h = absurd cc
one_more_field w fs f t (n ∷ ns) (cs ∷ bs) place l h =
    let long = first_so (block_long w n cs) (blocks_long w ns bs) h in
    let within : place < length cs = omega (arith, l, wide w n cs long) in
    let own = rows_there n place cs (even w n cs long) within in
    let behind = members_count fs n (drop (place + 1) cs) (behind_have n (place + 1) cs (even w n cs long)) in
    let rest = one_more_field w fs f t ns bs place l (second_so (block_long w n cs) (blocks_long w ns bs) h) in
    let rows = (column_there place cs).rows in
    let here : zip_rows (member f) rows (members_from fs (place + 1) n cs) ≡ members_from (field f t fs) place n cs = ap (block_members (field f t fs) n) (sym (there place cs within)) in
    zip_append (member f) rows (flat_map (λ ds. (column_there place ds).rows) bs) (members_from fs (place + 1) n cs) (concat (zip_rows (members_from fs (place + 1)) ns bs)) (own ∙ sym behind)
    ∙ (λ i. here i ++ rest i)

members_joined : (w : ℕ) (fs : Fields) (ns : List ℕ) (bs : List (List Column)) (place : ℕ) → place + length (field_types fs) ≤ w → blocks_long w ns bs ≡ true
    → block_members fs (sum ns) (joined_from bs place (field_types fs)) ≡ concat (zip_rows (members_from fs place) ns bs)
members_joined w no_fields ns bs place l h = none_join w ns bs place h
members_joined w (field f t fs) ns bs place l h =
    ap (zip_rows (member f) (flat_map (λ cs. (column_there place cs).rows) bs)) (members_joined w fs ns bs (place + 1) (omega (arith, l)) h)
    ∙ one_more_field w fs f t ns bs place (omega (arith, l)) h

zip_mapped : {A B C D : Type 0} (g : C → D) (f : A → B → C) (xs : List A) (ys : List B) → map g (zip_rows f xs ys) ≡ zip_rows (λ x y. g (f x y)) xs ys
zip_mapped g f [] ys = refl
zip_mapped g f (x ∷ xs) [] = refl
zip_mapped g f (x ∷ xs) (y ∷ ys) = ap (λ zs. g (f x y) ∷ zs) (zip_mapped g f xs ys)

rows_joined : (fs : Fields) (ns : List ℕ) (bs : List (List Column)) → blocks_long (length (field_names fs)) ns bs ≡ true
    → rows_of_columns fs (sum ns) (joined_from bs 0 (field_types fs)) ≡ concat (zip_rows (rows_of_columns fs) ns bs)
rows_joined fs ns bs h =
    ap (map struct_val) (members_joined (length (field_names fs)) fs ns bs 0 (omega (arith, types_count fs)) h)
    ∙ map_concat struct_val (zip_rows (block_members fs) ns bs) ∙ ap concat (zip_mapped (map struct_val) (block_members fs) ns bs)

-- the rows of all blocks, and how many they are
abbrev pub whole_rows : Zones → List (List Column) → List Val
whole_rows zones blocks = rows_of_columns zones.columns (sum zones.lengths) (joined_columns zones blocks)

whole_count : (zones : Zones) (blocks : List (List Column)) → IsTable zones blocks → length (whole_rows zones blocks) ≡ sum zones.lengths
whole_count zones blocks is =
    let fs = zones.columns in
    let columns = joined_columns zones blocks in
    let w = length (field_names fs) in
    let have = joined_have w 0 (field_types fs) zones.lengths blocks (omega (arith, types_count fs)) is.lengths in
    length_mapped struct_val (block_members fs (sum zones.lengths) columns) ∙ members_count fs (sum zones.lengths) columns have

-- the rows of a table that is cut are parts of them
pub cut_parts : (n : ℕ) (zones : Zones) (blocks : List (List Column)) → IsTable zones blocks
    → (table_of_blocks (zones_cut n zones) (blocks_anew n zones blocks)).blocks ≡ map (part n (whole_rows zones blocks)) (range_with_len 0 (blocks_cut n (length (whole_rows zones blocks))))
cut_parts n zones blocks is =
    blocks_are_cut zones.columns n (sum zones.lengths) (joined_columns zones blocks) (range_with_len 0 (blocks_cut n (sum zones.lengths)))
    ∙ ap (λ k. map (part n (whole_rows zones blocks)) (range_with_len 0 (blocks_cut n k))) (sym (whole_count zones blocks is))

pub cutting_keeps_rows : CuttingKeepsRows
cutting_keeps_rows n zones blocks some is =
    ap concat (cut_parts n zones blocks is) ∙ parts_join n (whole_rows zones blocks) some ∙ rows_joined zones.columns zones.lengths blocks is.lengths
