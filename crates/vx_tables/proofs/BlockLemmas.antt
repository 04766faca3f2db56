-- Blocks by their numbers: how long and of which types each is, and the rows of the table there.
use Rattle.std.proofs.Common.{◌≡◌, ◌≢◌, refl, ap, ◌∙◌, sym, ℕ, zero, suc, ◌+◌, ◌<◌, ◌≤◌, Bool, true, false, ◌&&◌, nat_eq, Some, List, [], ◌∷◌, map, length, drop, get_or, option_map, add-one, arith}
use Rattle.std.specs.Cmp.{first_so, second_so}
use Rattle.std.specs.List.{list_all, slice_get}
use Rattle.std.proofs.lemmas.List.{drop_all}
use Rattle.std.proofs.lemmas.Option.{slice_get-get_or, slice_get_read, slice_get-map}
use Rattle.vx_dtype.specs.Types.{Bytes, Ty, Fields}
use Rattle.vx_dtype.specs.TypeRules.{field_names, field_type}
use Rattle.vx_dtype.specs.StructTypes.{field_types}
use Rattle.vx_dtype.specs.Structs.{field_of}
use Rattle.vx_column.specs.Columns.{Column, zip_rows}
use Rattle.vx_semantics.specs.Tables.{Zones}
use Rattle.vx_tables.specs.Blocks.{block_long, blocks_long, is_type, block_typed, have_lengths, have_types, rows_of_columns, table_of_blocks, column_named}
use Rattle.vx_tables.specs.Blocks.{block_view}
use Rattle.std.specs.declared.vec.Vec.{Vec}
use Rattle.std.specs.declared.alloc.Global.{Global}
use Rattle.vx_tables.proofs.MemberLemmas.{rows_count, equal_numbers}
use Rattle.vx_tables.proofs.NamedLemmas.{named_typed, named_counted, named_rows}

-- the columns from a place on are the one there, of the type there, and those behind it
typed_suc : (ts : List Ty) (cs : List Column) (i : ℕ) (c : Column) → i < length cs → block_typed (drop i ts) (drop i cs) ≡ (is_type (slice_get ts i) (get_or cs i c).ty && block_typed (drop (suc i) ts) (drop (suc i) cs))
typed_suc ts [] i c h = absurd (omega arith)
typed_suc [] (d ∷ cs) zero c h = refl
typed_suc [] (d ∷ cs) (suc i) c h =
    let nil : List Ty = [] in
    let none : drop i nil ≡ nil = drop_all i nil (omega arith) in
    let next : drop (suc i) nil ≡ nil = drop_all (suc i) nil (omega arith) in
    ap (λ (ts : List Ty). block_typed ts (drop i cs)) (sym none) ∙ typed_suc nil cs i c (omega arith)
typed_suc (u ∷ ts) (d ∷ cs) zero c h = refl
typed_suc (u ∷ ts) (d ∷ cs) (suc i) c h = typed_suc ts cs i c (omega arith)

pub typed_more : (ts : List Ty) (cs : List Column) (i : ℕ) (c : Column) → i < length cs → block_typed (drop i ts) (drop i cs) ≡ (is_type (slice_get ts i) (get_or cs i c).ty && block_typed (drop (i + 1) ts) (drop (i + 1) cs))
typed_more ts cs i c h = rw add-one (typed_suc ts cs i c h)

-- behind the last column there is nothing to test
pub typed_end : (ts : List Ty) (cs : List Column) (i : ℕ) → length cs ≤ i → block_typed (drop i ts) (drop i cs) ≡ true
typed_end ts cs i h = ap (block_typed (drop i ts)) (drop_all i cs h)

and_false : (b : Bool) → (b && false) ≡ false
and_false true = refl
and_false false = refl

-- where their numbers differ they aren't as long as they have to be
pub blocks_uneven : (w : ℕ) (ns : List ℕ) (bs : List (Vec Column Global)) → length bs ≢ length ns → blocks_long w ns (map block_view bs) ≡ false
blocks_uneven w [] [] h = absurd (h refl)
blocks_uneven w [] (b ∷ bs) h = refl
blocks_uneven w (n ∷ ns) [] h = refl
blocks_uneven w (n ∷ ns) (b ∷ bs) h =
    let rest : blocks_long w ns (map block_view bs) ≡ false = blocks_uneven w ns bs (λ e. h (ap suc e)) in
    ap (λ r. block_long w n b.items && r) rest ∙ and_false (block_long w n b.items)

-- there are as many blocks as numbers of rows
pub blocks_count : (w : ℕ) (ns : List ℕ) (bs : List (List Column)) → blocks_long w ns bs ≡ true → length ns ≡ length bs
blocks_count w [] [] h = refl
blocks_count w [] (cs ∷ bs) h = absurd cc
blocks_count w (n ∷ ns) [] h = absurd cc
blocks_count w (n ∷ ns) (cs ∷ bs) h = ap suc (blocks_count w ns bs (second_so (block_long w n cs) (blocks_long w ns bs) h))

-- each is as long as it has to be
pub block_at : (w : ℕ) (ns : List ℕ) (bs : List (List Column)) (i n : ℕ) (cs : List Column) → blocks_long w ns bs ≡ true → slice_get ns i ≡ Some n → slice_get bs i ≡ Some cs → block_long w n cs ≡ true
block_at w [] bs i n cs h e k = absurd cc
block_at w (m ∷ ns) [] i n cs h e k = absurd cc
block_at w (m ∷ ns) (ds ∷ bs) zero n cs h e k =
    let a : m ≡ n = cc in
    let b : ds ≡ cs = cc in
    (λ j. block_long w (sym a j) (sym b j)) ∙ first_so (block_long w m ds) (blocks_long w ns bs) h
block_at w (m ∷ ns) (ds ∷ bs) (suc i) n cs h e k = block_at w ns bs i n cs (second_so (block_long w m ds) (blocks_long w ns bs) h) e k

-- what holds of all holds of each
pub all_at : {X : Type 0} (p : X → Bool) (xs : List X) (i : ℕ) (x : X) → list_all p xs ≡ true → slice_get xs i ≡ Some x → p x ≡ true
all_at p [] i x h e = absurd cc
all_at p (y ∷ xs) zero x h e = let same : y ≡ x = cc in ap p (sym same) ∙ first_so (p y) (list_all p xs) h
all_at p (y ∷ xs) (suc i) x h e = all_at p xs i x (second_so (p y) (list_all p xs) h) e

-- what is made of two lists stands at the place of both
zip_at : {A B C : Type 0} (f : A → B → C) (xs : List A) (ys : List B) (i : ℕ) (x : A) (y : B) → slice_get xs i ≡ Some x → slice_get ys i ≡ Some y → slice_get (zip_rows f xs ys) i ≡ Some (f x y)
zip_at f [] ys i x y h k = absurd cc
zip_at f (a ∷ xs) [] i x y h k = absurd cc
zip_at f (a ∷ xs) (b ∷ ys) zero x y h k =
    let p : a ≡ x = cc in
    let q : b ≡ y = cc in
    λ j. Some (f (p j) (q j))
zip_at f (a ∷ xs) (b ∷ ys) (suc i) x y h k = zip_at f xs ys i x y h k

-- the blocks of the table have as many rows as they have to
pub table_lengths : (fs : Fields) (w : ℕ) (ns : List ℕ) (bs : List (List Column)) → blocks_long w ns bs ≡ true → map length (zip_rows (rows_of_columns fs) ns bs) ≡ ns
table_lengths fs w [] [] h = refl
table_lengths fs w [] (cs ∷ bs) h = absurd cc
table_lengths fs w (n ∷ ns) [] h = absurd cc
table_lengths fs w (n ∷ ns) (cs ∷ bs) h =
    let here : block_long w n cs ≡ true = first_so (block_long w n cs) (blocks_long w ns bs) h in
    let rows = rows_count fs n cs (second_so (nat_eq (length cs) w) (list_all (λ c. nat_eq (length c.rows) n) cs) here) in
    let rest = table_lengths fs w ns bs (second_so (block_long w n cs) (blocks_long w ns bs) h) in
    λ i. rows i ∷ rest i

-- what is known of a column that is held: its type, its length, and its values in the table
pub record HeldColumn (zones : Zones) (bs : List (List Column)) (i : ℕ) (f : Bytes) (c : Column) : Type 0 where
  pub typed : field_type f zones.columns ≡ Some c.ty
  pub counted : slice_get zones.lengths i ≡ Some (length c.rows)
  pub rows : option_map (map (field_of f)) (slice_get (table_of_blocks zones bs).blocks i) ≡ Some c.rows

pub held : (zones : Zones) (bs : List (List Column)) (i : ℕ) (f : Bytes) (cs : List Column) (c : Column) → have_lengths zones bs ≡ true → have_types zones bs ≡ true → i < length zones.lengths → slice_get bs i ≡ Some cs → column_named f zones.columns cs ≡ Some c → HeldColumn zones bs i f c
held zones bs i f cs c h k l e q =
    let n = get_or zones.lengths i 0 in
    let at : slice_get zones.lengths i ≡ Some n = slice_get-get_or zones.lengths i 0 l in
    let width = length (field_names zones.columns) in
    let long : block_long width n cs ≡ true = block_at width zones.lengths bs i n cs h at e in
    let all : list_all (λ c. nat_eq (length c.rows) n) cs ≡ true = second_so (nat_eq (length cs) width) (list_all (λ c. nat_eq (length c.rows) n) cs) long in
    let types : block_typed (field_types zones.columns) cs ≡ true = all_at (block_typed (field_types zones.columns)) bs i cs k e in
    let there = zip_at (rows_of_columns zones.columns) zones.lengths bs i n cs at e in
    record {
      typed = named_typed f zones.columns cs c types q;
      counted = at ∙ ap (λ m. Some m) (sym (named_counted f zones.columns n cs c all q));
      rows = ap (option_map (map (field_of f))) there ∙ ap (λ v. Some v) (named_rows f zones.columns n cs c all q);
    }

-- the block at a place has as many columns as the table
pub width_at : (zones : Zones) (bs : List (List Column)) (i : ℕ) (cs : List Column) → have_lengths zones bs ≡ true → i < length zones.lengths → slice_get bs i ≡ Some cs → length cs ≡ length (field_names zones.columns)
width_at zones bs i cs h l e =
    let n = get_or zones.lengths i 0 in
    let width = length (field_names zones.columns) in
    let long : block_long width n cs ≡ true = block_at width zones.lengths bs i n cs h (slice_get-get_or zones.lengths i 0 l) e in
    equal_numbers (length cs) width (first_so (nat_eq (length cs) width) (list_all (λ c. nat_eq (length c.rows) n) cs) long)

-- the block that is read is the one at its place
pub stored_at : (xs : List (Vec Column Global)) (i : ℕ) (x : Vec Column Global) (cs : List Column) → i < length xs → x ≡ get_or xs i x → cs ≡ x.items → slice_get (map block_view xs) i ≡ Some cs
stored_at xs i x cs h e k = slice_get-map block_view xs i ∙ ap (option_map block_view) (slice_get_read xs (length xs) i x refl h e) ∙ ap (λ v. Some v) (sym k)
