-- The columns of a block: between two states of a store, of their types and lengths, at the rows of the block, and at some of these.
use Rattle.std.proofs.Common.{◌≡◌, refl, ap, ◌∙◌, sym, ℕ, zero, suc, ◌+◌, ◌<◌, Bool, true, false, cond, not, ◌||◌, nat_lt, Option, Some, None, List, [], ◌∷◌, ◌++◌, map, length, take, get_or, option_map, arith, subst}
use Rattle.std.specs.List.{AllZip, filter, list_all, list_any, slice_get, position, position_or_len}
use Rattle.std.specs.Str.{bytes_eq}
use Rattle.std.proofs.lemmas.Bool.{and_parts, and_from}
use Rattle.std.proofs.lemmas.Bool.Decides.{nat_tests}
use Rattle.std.proofs.lemmas.List.Folds.{list_any_at}
use Rattle.std.proofs.lemmas.List.Quantifiers.{position-Some}
use Rattle.std.proofs.lemmas.List.{take_more}
use Rattle.std.proofs.lemmas.Slice.Eq.{bytes_eq-Decides}
use Rattle.vx_dtype.specs.Logic.{is_true_val}
use Rattle.vx_dtype.specs.Structs.{field_of}
use Rattle.vx_dtype.specs.TypeRules.{has_name, field_type}
use Rattle.vx_dtype.specs.Fits.{val_fits}
use Rattle.vx_dtype.specs.Types.{Bytes, Ty}
use Rattle.vx_dtype.specs.Values.{Val}
use Rattle.vx_column.specs.Columns.{Column, kept_rows, rows_fit}
use Rattle.vx_expr.specs.Trees.{Tree}
use Rattle.vx_semantics.specs.Meaning.{Slots, mean}
use Rattle.vx_semantics.specs.Scans.{matching_rows}
use Rattle.vx_semantics.specs.Tables.{Table, Zones, row_type}
use Rattle.vx_prepare.specs.Preparing.{AreOf, HaveColumns}
use Rattle.vx_scan.specs.Stores.{StoreSeen, WhereTold, AreHeld, AgreesWith, IsSameStore, IsColumnOf}
use Rattle.vx_scan.specs.Steps.{AreColumnsOf, further_names, kept_column}

-- a column of a block is one in each state of the store
pub column_moved : (a b : StoreSeen) (block : ℕ) (name : Bytes) (c : Column) → b.zones ≡ a.zones → b.held ≡ a.held → IsColumnOf a block name c → IsColumnOf b block name c
column_moved a b block name c e k h = record {
  ty = subst (λ (z : Zones). field_type name z.columns ≡ Some c.ty) (sym e) h.ty;
  len = subst (λ (z : Zones). slice_get z.lengths block ≡ Some (length c.rows)) (sym e) h.len;
  rows = subst (λ (held : Option Table). WhereTold held (AreHeld block name c.rows)) (sym k) h.rows;
}

pub columns_moved : (a b : StoreSeen) (block : ℕ) (names : List Bytes) (cs : List Column) → b.zones ≡ a.zones → b.held ≡ a.held → AreColumnsOf a block names cs → AreColumnsOf b block names cs
columns_moved a b block [] [] e k h = tt
columns_moved a b block [] (c ∷ cs) e k h = absurd h
columns_moved a b block (n ∷ names) [] e k h = absurd h
columns_moved a b block (n ∷ names) (c ∷ cs) e k h = (column_moved a b block n c e k h.0, columns_moved a b block names cs e k h.1)

-- one more column of one more name
pub zipped_more : {A B : Type 0} (R : A → B → Type 0) (xs : List A) (ys : List B) (x : A) (y : B) → AllZip R xs ys → R x y → AllZip R (xs ++ (x ∷ [])) (ys ++ (y ∷ []))
zipped_more R [] [] x y h r = (r, tt)
zipped_more R [] (b ∷ ys) x y h r = absurd h
zipped_more R (a ∷ xs) [] x y h r = absurd h
zipped_more R (a ∷ xs) (b ∷ ys) x y h r = (h.0, zipped_more R xs ys x y h.1 r)

pub zipped_length : {A B : Type 0} (R : A → B → Type 0) (xs : List A) (ys : List B) → AllZip R xs ys → length xs ≡ length ys
zipped_length R [] [] h = refl
zipped_length R [] (b ∷ ys) h = absurd h
zipped_length R (a ∷ xs) [] h = absurd h
zipped_length R (a ∷ xs) (b ∷ ys) h = ap suc (zipped_length R xs ys h.1)

zipped_at : {A B : Type 0} (R : A → B → Type 0) (xs : List A) (ys : List B) (i : ℕ) (d : A) (e : B) → AllZip R xs ys → i < length xs → R (get_or xs i d) (get_or ys i e)
zipped_at R [] ys i d e h l = let no : ⊥ = omega arith in absurd no
zipped_at R (x ∷ xs) [] i d e h l = absurd h
zipped_at R (x ∷ xs) (y ∷ ys) zero d e h l = h.0
zipped_at R (x ∷ xs) (y ∷ ys) (suc i) d e h l = zipped_at R xs ys i d e h.1 (omega arith)

-- one more column that is read for the name at a place
pub columns_grow : (a m : StoreSeen) (block : ℕ) (names known_names : List Bytes) (known items new : List Column) (i : ℕ) (name : Bytes) (c : Column) → i < length names → name ≡ get_or names i name → IsSameStore a m
    → new ≡ items ++ c ∷ [] → (AreColumnsOf a block known_names known → AreColumnsOf a block (take i names) items) → (AreColumnsOf m block known_names known → IsColumnOf m block name c)
    → AreColumnsOf a block known_names known → AreColumnsOf a block (take (i + 1) names) new
columns_grow a m block names known_names known items new i name c l e s g h k r =
    let own : IsColumnOf a block name c = column_moved m a block name c (sym s.zones) (sym s.held) (k (columns_moved a m block known_names known s.zones s.held r)) in
    let next : take (i + 1) names ≡ take i names ++ name ∷ [] = take_more names i name l ∙ ap (λ (n : Bytes). take i names ++ n ∷ []) (sym e) in
    subst (λ (cs : List Column). AreColumnsOf a block (take (i + 1) names) cs) (sym g)
    (subst (λ (ns : List Bytes). AreColumnsOf a block ns (items ++ c ∷ [])) (sym next) (zipped_more (IsColumnOf a block) (take i names) items name c (h r) own))

-- the column that is known under a name
pub known_column : (a : StoreSeen) (block : ℕ) (names : List Bytes) (known : List Column) (name : Bytes) (i : ℕ) (c d : Column) → position (bytes_eq name) names ≡ Some i → c ≡ get_or known i d → AreColumnsOf a block names known → IsColumnOf a block name c
known_column a block names known name i c d e g h =
    let found = position-Some (bytes_eq name) names i name e in
    let same : name ≡ get_or names i name = (bytes_eq-Decides name (get_or names i name)).0 found.1 in
    let own : IsColumnOf a block (get_or names i name) (get_or known i d) = zipped_at (IsColumnOf a block) names known i name d h found.0 in
    subst (λ (n : Bytes). IsColumnOf a block n c) (sym same) (subst (λ (x : Column). IsColumnOf a block (get_or names i name) x) (sym g) own)

-- a name with a place is known, and one without isn't
pub placed_known : (names : List Bytes) (name : Bytes) (i : ℕ) → position (bytes_eq name) names ≡ Some i → further_names names (name ∷ []) ≡ []
placed_known names name i e =
    let found = position-Some (bytes_eq name) names i name e in
    let there : has_name name names ≡ true = list_any_at (bytes_eq name) names i name found.0 found.1 in
    ap (λ (b : Bool). cond (not b) (name ∷ []) []) there

none_there : {X : Type 0} (p : X → Bool) (xs : List X) → nat_lt (position_or_len p xs) (length xs) ≡ false → list_any p xs ≡ false
none_there p [] h = refl
none_there p (x ∷ xs) h = by-test (p x) h (none_there p xs)
  where
    n : ℕ
    n = position_or_len p xs

    by-test : (b : Bool) → nat_lt (cond (not b) (1 + n) 0) (suc (length xs)) ≡ false → (nat_lt n (length xs) ≡ false → list_any p xs ≡ false) → (b || list_any p xs) ≡ false
    by-test true k r = let no : ⊥ = grind (arith, nat_tests) in absurd no
    by-test false k r = r (grind (arith, nat_tests))

not_placed : (b : Bool) (n : ℕ) → cond b (Some n) None ≡ None → b ≡ false
not_placed true n h = let no : ⊥ = cc in absurd no
not_placed false n h = refl

pub unplaced_further : (names : List Bytes) (name : Bytes) → position (bytes_eq name) names ≡ None → further_names names (name ∷ []) ≡ name ∷ []
unplaced_further names name e =
    let n = position_or_len (bytes_eq name) names in
    let none : has_name name names ≡ false = none_there (bytes_eq name) names (not_placed (nat_lt n (length names)) n e) in
    ap (λ (b : Bool). cond (not b) (name ∷ []) []) none

-- columns of a block of so many rows
pub some_same : {X : Type 0} {x y : X} → Some x ≡ Some y → x ≡ y
some_same e = cc

pub columns_are : (a : StoreSeen) (block len : ℕ) (names : List Bytes) (cs : List Column) → slice_get a.zones.lengths block ≡ Some len → AreColumnsOf a block names cs → AreOf a.zones.columns len names cs
columns_are a block len [] [] e h = tt
columns_are a block len [] (c ∷ cs) e h = absurd h
columns_are a block len (n ∷ names) [] e h = absurd h
columns_are a block len (n ∷ names) (c ∷ cs) e h = ((h.0.ty, some_same (sym h.0.len ∙ e)), columns_are a block len names cs e h.1)

-- and at the rows of the block, where the table is told
pub told_at : (P : Table → Type 0) (held : Option Table) (table : Table) → held ≡ Some table → WhereTold held P → P table
told_at P None table e h = let no : ⊥ = cc in absurd no
told_at P (Some other) table e h = subst P (some_same e) h

pub columns_have : (a : StoreSeen) (table : Table) (block : ℕ) (names : List Bytes) (cs : List Column) (rows : List Val) → a.held ≡ Some table → slice_get table.blocks block ≡ Some rows → AreColumnsOf a block names cs
    → AllZip (λ name. λ (c : Column). c.rows ≡ map (field_of name) rows) names cs
columns_have a table block [] [] rows e k h = tt
columns_have a table block [] (c ∷ cs) rows e k h = absurd h
columns_have a table block (n ∷ names) [] rows e k h = absurd h
columns_have a table block (n ∷ names) (c ∷ cs) rows e k h =
    let held : AreHeld block n c.rows table = told_at (AreHeld block n c.rows) a.held table e h.0.rows in
    let own : Some (map (field_of n) rows) ≡ Some c.rows = ap (option_map (map (field_of n))) (sym k) ∙ held in
    (sym (some_same own), columns_have a table block names cs rows e k h.1)

-- the block of a table that agrees with its zones
pub record IsBlock (zones : Zones) (block len : ℕ) (table : Table) : Type 0 where
  pub rows : List Val
  pub there : slice_get table.blocks block ≡ Some rows
  pub long : length rows ≡ len
  pub fit : rows_fit (row_type zones.columns) rows ≡ true

all_at : {X : Type 0} (p : X → Bool) (xs : List X) (i : ℕ) (x : X) → list_all p xs ≡ true → slice_get xs i ≡ Some x → p x ≡ true
all_at p [] i x h e = let no : ⊥ = cc in absurd no
all_at p (y ∷ xs) zero x h e = ap p (sym (some_same e)) ∙ (and_parts (p y) (list_all p xs) h).0
all_at p (y ∷ xs) (suc i) x h e = all_at p xs i x (and_parts (p y) (list_all p xs) h).1 e

unmapped : {X Y : Type 0} (f : X → Y) (xs : List X) (i : ℕ) (y : Y) → slice_get (map f xs) i ≡ Some y → (x : X) × (slice_get xs i ≡ Some x) × (f x ≡ y)
unmapped f [] i y e = let no : ⊥ = cc in absurd no
unmapped f (x ∷ xs) zero y e = (x, refl, some_same e)
unmapped f (x ∷ xs) (suc i) y e = unmapped f xs i y e

pub block_is : (zones : Zones) (block len : ℕ) (table : Table) → AgreesWith zones table → slice_get zones.lengths block ≡ Some len → IsBlock zones block len table
block_is zones block len table a e =
    let at = unmapped length table.blocks block len (ap (λ (ns : List ℕ). slice_get ns block) a.lengths ∙ e) in
    record { rows = at.0; there = at.1; long = at.2; fit = all_at (rows_fit (row_type zones.columns)) table.blocks block at.0 a.fit at.1 }

pub block_columns : (a : StoreSeen) (table : Table) (block len : ℕ) (names : List Bytes) (cs : List Column) (b : IsBlock a.zones block len table) → a.held ≡ Some table → AreColumnsOf a block names cs
    → HaveColumns a.zones.columns len names cs b.rows
block_columns a table block len names cs b e h = record { fit = b.fit; long = b.long; each = columns_have a table block names cs b.rows e b.there h }

-- the values of a column at the rows at which a test is true
pub kept_of : (g k : Val → Val) (rows : List Val) → kept_rows (map g rows) (map k rows) ≡ map g (filter (λ row. is_true_val (k row)) rows)
kept_of g k [] = refl
kept_of g k (row ∷ rows) = by-test (is_true_val (k row)) (kept_of g k rows)
  where
    by-test : (b : Bool) → kept_rows (map g rows) (map k rows) ≡ map g (filter (λ r. is_true_val (k r)) rows)
        → cond b (g row ∷ kept_rows (map g rows) (map k rows)) (kept_rows (map g rows) (map k rows)) ≡ map g (cond b (row ∷ filter (λ r. is_true_val (k r)) rows) (filter (λ r. is_true_val (k r)) rows))
    by-test true e = ap (λ (vs : List Val). g row ∷ vs) e
    by-test false e = e

-- as many values are kept of each column of so many rows
pub kept_length : (vs ws ks : List Val) → length vs ≡ length ks → length ws ≡ length ks → length (kept_rows vs ks) ≡ length (kept_rows ws ks)
kept_length [] [] ks h k = refl
kept_length [] (w ∷ ws) [] h k = refl
kept_length [] (w ∷ ws) (b ∷ ks) h k = let no : ⊥ = omega (arith, h) in absurd no
kept_length (v ∷ vs) [] [] h k = refl
kept_length (v ∷ vs) [] (b ∷ ks) h k = let no : ⊥ = omega (arith, k) in absurd no
kept_length (v ∷ vs) (w ∷ ws) [] h k = refl
kept_length (v ∷ vs) (w ∷ ws) (b ∷ ks) h k = by-test (is_true_val b) (kept_length vs ws ks (omega (arith, h)) (omega (arith, k)))
  where
    by-test : (x : Bool) → length (kept_rows vs ks) ≡ length (kept_rows ws ks) → length (cond x (v ∷ kept_rows vs ks) (kept_rows vs ks)) ≡ length (cond x (w ∷ kept_rows ws ks) (kept_rows ws ks))
    by-test true e = ap suc e
    by-test false e = e

pub kept_fit : (t : Ty) (p : Val → Bool) (rows : List Val) → rows_fit t rows ≡ true → rows_fit t (filter p rows) ≡ true
kept_fit t p [] h = refl
kept_fit t p (row ∷ rows) h = by-test (p row) (and_parts (val_fits row t) (rows_fit t rows) h).0 (kept_fit t p rows (and_parts (val_fits row t) (rows_fit t rows) h).1)
  where
    by-test : (b : Bool) → val_fits row t ≡ true → rows_fit t (filter p rows) ≡ true → rows_fit t (cond b (row ∷ filter p rows) (filter p rows)) ≡ true
    by-test true own rest = and_from (val_fits row t) (rows_fit t (filter p rows)) own rest
    by-test false own rest = rest

-- the columns at these rows: how many rows there are, and what they are where the table is told
pub kept_are : (a : StoreSeen) (block : ℕ) (names : List Bytes) (cs : List Column) (keep : List Val) → slice_get a.zones.lengths block ≡ Some (length keep) → AreColumnsOf a block names cs
    → AreOf a.zones.columns (length (kept_rows keep keep)) names (map (kept_column keep) cs)
kept_are a block [] [] keep e h = tt
kept_are a block [] (c ∷ cs) keep e h = absurd h
kept_are a block (n ∷ names) [] keep e h = absurd h
kept_are a block (n ∷ names) (c ∷ cs) keep e h =
    ((h.0.ty, kept_length c.rows keep keep (some_same (sym h.0.len ∙ e)) refl), kept_are a block names cs keep e h.1)

kept_have : (k : Val → Val) (names : List Bytes) (cs : List Column) (rows : List Val) → AllZip (λ name. λ (c : Column). c.rows ≡ map (field_of name) rows) names cs
    → AllZip (λ name. λ (c : Column). c.rows ≡ map (field_of name) (filter (λ row. is_true_val (k row)) rows)) names (map (kept_column (map k rows)) cs)
kept_have k [] [] rows h = tt
kept_have k [] (c ∷ cs) rows h = absurd h
kept_have k (n ∷ names) [] rows h = absurd h
kept_have k (n ∷ names) (c ∷ cs) rows h = (ap (λ (vs : List Val). kept_rows vs (map k rows)) h.0 ∙ kept_of (field_of n) k rows, kept_have k names cs rows h.1)

length_mapped : {X Y : Type 0} (f : X → Y) (xs : List X) → length (map f xs) ≡ length xs
length_mapped f [] = refl
length_mapped f (x ∷ xs) = ap suc (length_mapped f xs)

-- as many rows match as truths are kept
pub matching_length : (t : Ty) (slots : Slots) (f : Tree) (rows keep : List Val) → keep ≡ map (λ row. mean t slots row f) rows → length (matching_rows t slots f rows) ≡ length (kept_rows keep keep)
matching_length t slots f rows keep e =
    let k : Val → Val = λ row. mean t slots row f in
    sym (
    ap (λ (ks : List Val). length (kept_rows ks ks)) e
    ∙ ap length (kept_of k k rows)
    ∙ length_mapped k (matching_rows t slots f rows))

pub matching_columns : (a : StoreSeen) (slots : Slots) (f : Tree) (names : List Bytes) (cs : List Column) (rows keep : List Val) (len : ℕ)
    → HaveColumns a.zones.columns len names cs rows → keep ≡ map (λ row. mean (row_type a.zones.columns) slots row f) rows
    → HaveColumns a.zones.columns (length (kept_rows keep keep)) names (map (kept_column keep) cs) (matching_rows (row_type a.zones.columns) slots f rows)
matching_columns a slots f names cs rows keep len h e =
    let t = row_type a.zones.columns in
    let k : Val → Val = λ row. mean t slots row f in
    record {
      fit = kept_fit t (λ row. is_true_val (k row)) rows h.fit;
      long = matching_length t slots f rows keep e;
      each = subst (λ (ks : List Val). AllZip (λ name. λ (c : Column). c.rows ≡ map (field_of name) (matching_rows t slots f rows)) names (map (kept_column ks) cs)) (sym e) (kept_have k names cs rows h.each);
    }
