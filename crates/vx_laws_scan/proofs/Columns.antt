-- From the asked columns to what rows and tables have in common.
use Rattle.std.proofs.Common.{◌≡◌, ℕ, suc, refl, ap, sym, ◌∙◌, Bool, true, false, cond, not, ◌||◌, subst, List, [], ◌∷◌, ◌++◌, Ok}
use Rattle.std.specs.Prelude.{map}
use Rattle.std.specs.Str.{bytes_eq}
use Rattle.std.specs.List.{list_all, flat_map, filter, AllByRecursion, AllZip}
use Rattle.std.proofs.lemmas.Bool.{and_parts, or_left, or_right}
use Rattle.std.proofs.lemmas.List.Elements.{All-from_recursion, recursion_from_All}
use Rattle.vx_dtype.specs.Types.{Bytes, Ty, Fields}
use Rattle.vx_dtype.specs.TypeRules.{field_names, has_name}
use Rattle.vx_dtype.specs.Values.{Val}
use Rattle.vx_dtype.specs.Fits.{val_fits}
use Rattle.vx_dtype.specs.Logic.{is_true_val}
use Rattle.vx_dtype.specs.Structs.{field_of}
use Rattle.vx_expr.specs.Trees.{Tree}
use Rattle.vx_semantics.specs.Typing.{typed_of}
use Rattle.vx_semantics.specs.Meaning.{Slots, mean}
use Rattle.vx_semantics.specs.Breaks.{break_of}
use Rattle.vx_semantics.specs.Asked.{Asking, asks_node, asks_column, node_in, column_in, asked, asked_nodes, asked_columns}
use Rattle.vx_semantics.specs.Tables.{Zones, row_type, numbered_from}
use Rattle.vx_semantics.specs.Pruning.{rules_out}
use Rattle.vx_semantics.specs.Scans.{matching_rows, block_rows, has_rows, reads_in, further_columns}
use Rattle.vx_laws.proofs.Inverting.{bytes_same, bytes_eq-itself}
use Rattle.vx_laws.proofs.Fitting.{fits-but_for_faults}
use Rattle.vx_laws.proofs.AnySlots.{fits-but_nulls}
use Rattle.vx_laws_scan.specs.Agreeing.{AgreeOn, AreAlike, AgreeingRowsMeanTheSame, AgreeingRowsBreakTheSame, BlocksAgree, all_rows_fit, TablesAgree, table_of, AgreeingTablesHaveTheSameRows, AgreeingTablesHaveTheSameReads}
use Rattle.vx_laws_scan.proofs.Alike.{AskedAgree, NodesSame, Outcome, mean-agreeing}
use Rattle.vx_laws_scan.proofs.Keeping.{kept_rows_are_all}
use Rattle.vx_laws_scan.proofs.BlockReads.{block_reads, reads_by_block}

-- what holds of each name that a filter keeps holds of a name that passes
kept-name : (P : Bytes → Type 0) (test : Bytes → Bool) (names : List Bytes) (c : Bytes) → AllByRecursion P (filter test names) → has_name c names ≡ true → test c ≡ true → P c
kept-name P test [] c h k p = let no : ⊥ = cc in absurd no
kept-name P test (g ∷ names) c h k p = by-name (bytes_eq c g) refl k h (λ r i. kept-name P test names c r i p)
  where
    here : (x : Bool) → test g ≡ x → x ≡ true → AllByRecursion P (cond x (g ∷ filter test names) (filter test names)) → P g
    here true e i r = r.0
    here false e i r = let no : ⊥ = cc in absurd no

    there : (x : Bool) → AllByRecursion P (cond x (g ∷ filter test names) (filter test names)) → AllByRecursion P (filter test names)
    there true r = r.1
    there false r = r

    by-name : (x : Bool) → bytes_eq c g ≡ x → (x || has_name c names) ≡ true → AllByRecursion P (filter test (g ∷ names)) → (AllByRecursion P (filter test names) → has_name c names ≡ true → P c) → P c
    by-name true e i r go =
        let same = bytes_same c g e in
        subst P (sym same) (here (test g) refl (subst (λ (z : Bytes). test z ≡ true) same p) r)
    by-name false e i r go = go (there (test g) r) i

-- the rows agree on what is asked where they agree on each asked column
asked-agree : (columns : Fields) (slots : Slots) (a b : Val) (asks : List Asking)
    → ((c : Bytes) → has_name c (flat_map column_in asks) ≡ true → has_name c (field_names columns) ≡ true → field_of c a ≡ field_of c b) → AskedAgree columns slots a b asks
asked-agree columns slots a b [] h = tt
asked-agree columns slots a b (asks_node e ∷ asks) h = asked-agree columns slots a b asks h
asked-agree columns slots a b (asks_column c ∷ asks) h = (
  h c (or_left (bytes_eq c c) (has_name c (flat_map column_in asks)) (bytes_eq-itself c)),
  asked-agree columns slots a b asks (λ d i. h d (or_right (bytes_eq d c) (has_name d (flat_map column_in asks)) i)),
)

alike-asked : (columns : Fields) (slots : Slots) (e : Tree) (a b : Val) → AgreeOn (asked_columns (row_type columns) e) a b → AskedAgree columns slots a b (asked (row_type columns) e [])
alike-asked columns slots e a b h =
    let t = row_type columns in
    let test = λ (c : Bytes). has_name c (flat_map column_in (asked t e [])) in
    asked-agree columns slots a b (asked t e [])
    (λ c i k. kept-name (λ d. field_of d a ≡ field_of d b) test (field_names columns) c (recursion_from_All (λ d. field_of d a ≡ field_of d b) (asked_columns t e) h) k i)

whole : (columns : Fields) (slots : Slots) (e : Tree) (u : Ty) (a b : Val) → AreAlike columns e u a b
    → Outcome columns slots a b (asked (row_type columns) e []) [] (mean (row_type columns) slots a e) (mean (row_type columns) slots b e)
whole columns slots e u a b h = mean-agreeing columns slots a b e u (fits-but_nulls a (row_type columns) h.first_fits) (fits-but_nulls b (row_type columns) h.second_fits) h.typed [] refl (alike-asked columns slots e a b h.agree)

pub agreeing_rows_mean : AgreeingRowsMeanTheSame
agreeing_rows_mean columns slots e u a b h = (whole columns slots e u a b h).value

nodes-all : (columns : Fields) (slots : Slots) (a b : Val) (asks : List Asking) → NodesSame columns slots a b asks
    → AllByRecursion (λ n. break_of (row_type columns) slots a n ≡ break_of (row_type columns) slots b n) (flat_map node_in asks)
nodes-all columns slots a b [] h = tt
nodes-all columns slots a b (asks_node e ∷ asks) h = (h.0, nodes-all columns slots a b asks h.1)
nodes-all columns slots a b (asks_column c ∷ asks) h = nodes-all columns slots a b asks h

pub agreeing_rows_break : AgreeingRowsBreakTheSame
agreeing_rows_break columns slots e u a b h =
    let t = row_type columns in
    All-from_recursion (λ n. break_of t slots a n ≡ break_of t slots b n) (asked_nodes t e) (nodes-all columns slots a b (asked t e []) ((whole columns slots e u a b h).nodes))

-- rows in pairs that mean the same by an expression
abbrev pub SameMeanings : Ty → Slots → Tree → List Val → List Val → Type 0
SameMeanings t slots e rows others = AllZip (λ a b. mean t slots a e ≡ mean t slots b e) rows others

same-meanings : (columns : Fields) (slots : Slots) (e : Tree) (u : Ty) (rows others : List Val) → typed_of (row_type columns) e ≡ Ok u → list_all (λ row. val_fits row (row_type columns)) rows ≡ true
    → list_all (λ row. val_fits row (row_type columns)) others ≡ true → AllZip (AgreeOn (asked_columns (row_type columns) e)) rows others → SameMeanings (row_type columns) slots e rows others
same-meanings columns slots e u [] [] t h k z = tt
same-meanings columns slots e u [] (b ∷ others) t h k z = absurd z
same-meanings columns slots e u (a ∷ rows) [] t h k z = absurd z
same-meanings columns slots e u (a ∷ rows) (b ∷ others) t h k z =
    let x = and_parts (val_fits a (row_type columns)) (list_all (λ row. val_fits row (row_type columns)) rows) h in
    let y = and_parts (val_fits b (row_type columns)) (list_all (λ row. val_fits row (row_type columns)) others) k in (
      agreeing_rows_mean columns slots e u a b
          (record { typed = t; first_fits = fits-but_for_faults a (row_type columns) x.0; second_fits = fits-but_for_faults b (row_type columns) y.0; agree = z.0 }),
      same-meanings columns slots e u rows others t x.1 y.1 z.1,
    )

-- the matching rows of a block in pairs
same-matching : (t : Ty) (slots : Slots) (f p : Tree) (rows others : List Val) → SameMeanings t slots f rows others → SameMeanings t slots p rows others
    → SameMeanings t slots p (matching_rows t slots f rows) (matching_rows t slots f others)
same-matching t slots f p [] [] h k = tt
same-matching t slots f p [] (b ∷ others) h k = absurd h
same-matching t slots f p (a ∷ rows) [] h k = absurd h
same-matching t slots f p (a ∷ rows) (b ∷ others) h k =
    by-test (is_true_val (mean t slots a f)) (is_true_val (mean t slots b f)) (ap is_true_val h.0) (same-matching t slots f p rows others h.1 k.1)
  where
    by-test : (x y : Bool) → x ≡ y → SameMeanings t slots p (matching_rows t slots f rows) (matching_rows t slots f others)
        → SameMeanings t slots p (cond x (a ∷ matching_rows t slots f rows) (matching_rows t slots f rows)) (cond y (b ∷ matching_rows t slots f others) (matching_rows t slots f others))
    by-test true true e r = (k.0, r)
    by-test false false e r = r
    by-test true false e r = let no : ⊥ = cc in absurd no
    by-test false true e r = let no : ⊥ = cc in absurd no

same-mapped : (t : Ty) (slots : Slots) (p : Tree) (rows others : List Val) → SameMeanings t slots p rows others → map (λ row. mean t slots row p) rows ≡ map (λ row. mean t slots row p) others
same-mapped t slots p [] [] h = refl
same-mapped t slots p [] (b ∷ others) h = absurd h
same-mapped t slots p (a ∷ rows) [] h = absurd h
same-mapped t slots p (a ∷ rows) (b ∷ others) h = ap (λ (v : Val). v ∷ map (λ row. mean t slots row p) rows) h.0 ∙ ap (λ (vs : List Val). mean t slots b p ∷ vs) (same-mapped t slots p rows others h.1)

same-has_rows : (t : Ty) (slots : Slots) (p : Tree) (rows others : List Val) → SameMeanings t slots p rows others → has_rows rows ≡ has_rows others
same-has_rows t slots p [] [] h = refl
same-has_rows t slots p [] (b ∷ others) h = absurd h
same-has_rows t slots p (a ∷ rows) [] h = absurd h
same-has_rows t slots p (a ∷ rows) (b ∷ others) h = refl

-- blocks of two tables, numbered from n, whose rows in the kept blocks mean the same by the filter and by the projection
abbrev pub BlocksSame : Zones → Slots → Ty → Tree → Tree → ℕ → List (List Val) → List (List Val) → Type 0
BlocksSame zones slots t f p n [] [] = Unit {0}
BlocksSame zones slots t f p n (rows ∷ blocks) (others ∷ more) =
    (rules_out zones slots n f ≡ false → SameMeanings t slots p (matching_rows t slots f rows) (matching_rows t slots f others)) × BlocksSame zones slots t f p (suc n) blocks more
BlocksSame zones slots t f p n _ _ = ⊥

blocks-same : (zones : Zones) (columns : Fields) (slots : Slots) (f p : Tree) (u w : Ty) (n : ℕ) (blocks others : List (List Val)) → typed_of (row_type columns) f ≡ Ok u → typed_of (row_type columns) p ≡ Ok w
    → all_rows_fit (row_type columns) blocks ≡ true → all_rows_fit (row_type columns) others ≡ true → BlocksAgree zones slots f (asked_columns (row_type columns) f) n blocks others
    → BlocksAgree zones slots f (asked_columns (row_type columns) p) n blocks others → BlocksSame zones slots (row_type columns) f p n blocks others
blocks-same zones columns slots f p u w n [] [] x y h k i j = tt
blocks-same zones columns slots f p u w n [] (os ∷ others) x y h k i j = absurd i
blocks-same zones columns slots f p u w n (rs ∷ blocks) [] x y h k i j = absurd i
blocks-same zones columns slots f p u w n (rs ∷ blocks) (os ∷ others) x y h k i j =
    let t = row_type columns in
    let fits = and_parts (list_all (λ row. val_fits row t) rs) (all_rows_fit t blocks) h in
    let fit = and_parts (list_all (λ row. val_fits row t) os) (all_rows_fit t others) k in (
      λ kept. same-matching t slots f p rs os (same-meanings columns slots f u rs os x fits.0 fit.0 (i.0 kept)) (same-meanings columns slots p w rs os y fits.0 fit.0 (j.0 kept)),
      blocks-same zones columns slots f p u w (suc n) blocks others x y fits.1 fit.1 i.1 j.1,
    )

-- a part of the answer per kept block, which is the same where the blocks are
same-answers : {X : Type 0} (zones : Zones) (slots : Slots) (t : Ty) (f p : Tree) (part : ℕ × List Val → List X)
    → ((n : ℕ) (rows others : List Val) → SameMeanings t slots p (matching_rows t slots f rows) (matching_rows t slots f others) → part (n, rows) ≡ part (n, others))
    → (n : ℕ) (blocks others : List (List Val)) → BlocksSame zones slots t f p n blocks others
    → flat_map part (filter (λ (b : ℕ × List Val). not (rules_out zones slots b.0 f)) (numbered_from n blocks)) ≡ flat_map part (filter (λ (b : ℕ × List Val). not (rules_out zones slots b.0 f)) (numbered_from n others))
same-answers zones slots t f p part s n [] [] h = refl
same-answers zones slots t f p part s n [] (os ∷ others) h = absurd h
same-answers zones slots t f p part s n (rs ∷ blocks) [] h = absurd h
same-answers {X} zones slots t f p part s n (rs ∷ blocks) (os ∷ others) h = by-test (rules_out zones slots n f) (λ e. s n rs os (h.0 e)) (same-answers zones slots t f p part s (suc n) blocks others h.1)
  where
    by-test : (x : Bool) → (x ≡ false → part (n, rs) ≡ part (n, os))
        → flat_map part (filter (λ (b : ℕ × List Val). not (rules_out zones slots b.0 f)) (numbered_from (suc n) blocks)) ≡ flat_map part (filter (λ (b : ℕ × List Val). not (rules_out zones slots b.0 f)) (numbered_from (suc n) others))
        → flat_map part (cond (not x) ((n, rs) ∷ filter (λ (b : ℕ × List Val). not (rules_out zones slots b.0 f)) (numbered_from (suc n) blocks)) (filter (λ (b : ℕ × List Val). not (rules_out zones slots b.0 f)) (numbered_from (suc n) blocks)))
        ≡ flat_map part (cond (not x) ((n, os) ∷ filter (λ (b : ℕ × List Val). not (rules_out zones slots b.0 f)) (numbered_from (suc n) others)) (filter (λ (b : ℕ × List Val). not (rules_out zones slots b.0 f)) (numbered_from (suc n) others)))
    by-test true e r = r
    by-test false e r =
        ap (λ (xs : List X). xs ++ flat_map part (filter (λ (b : ℕ × List Val). not (rules_out zones slots b.0 f)) (numbered_from (suc n) blocks))) (e refl)
        ∙ ap (λ (xs : List X). part (n, os) ++ xs) r

tables-same : (zones : Zones) (columns : Fields) (slots : Slots) (f p : Tree) (blocks others : List (List Val)) → TablesAgree zones columns slots f p blocks others
    → BlocksSame zones slots (row_type columns) f p 0 blocks others
tables-same zones columns slots f p blocks others h =
    blocks-same zones columns slots f p h.filter_type h.projection_type 0 blocks others h.filter_typed h.projection_typed h.first_fits h.second_fits h.filter_agrees h.projection_agrees

pub agreeing_tables_rows : AgreeingTablesHaveTheSameRows
agreeing_tables_rows zones columns slots f p blocks others h x y =
    let t = row_type columns in
    sym (kept_rows_are_all zones (table_of columns blocks) slots f p x)
    ∙ (same-answers zones slots t f p (λ (b : ℕ × List Val). block_rows t slots f p b.1) (λ n rows os s. same-mapped t slots p (matching_rows t slots f rows) (matching_rows t slots f os) s) 0 blocks others
    (tables-same zones columns slots f p blocks others h)
    ∙ kept_rows_are_all zones (table_of columns others) slots f p y)

pub agreeing_tables_reads : AgreeingTablesHaveTheSameReads
agreeing_tables_reads zones columns slots f p blocks others h =
    let t = row_type columns in
    reads_by_block (table_of columns blocks) zones slots f p
    ∙ (same-answers zones slots t f p (block_reads t slots f p)
    (λ n rows os s.
    ap (λ (x : Bool). reads_in n (asked_columns t f) ++ cond x (reads_in n (further_columns t f p)) [])
    (same-has_rows t slots p (matching_rows t slots f rows) (matching_rows t slots f os) s))
    0 blocks others (tables-same zones columns slots f p blocks others h)
    ∙ sym (reads_by_block (table_of columns others) zones slots f p))
