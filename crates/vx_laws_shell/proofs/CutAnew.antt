-- A table that is cut anew keeps its rows, and so each answer in rows.
use Rattle.std.proofs.Common.{◌≡◌, refl, ap, sym, ◌∙◌, subst, ℕ, zero, suc, ◌<◌, ◌≤◌, Bool, ◌&&◌, List, [], ◌∷◌, ◌++◌, map, length, take, drop, arith, append-nil}
use Rattle.std.specs.List.{flat_map, list_all}
use Rattle.std.proofs.lemmas.List.{length-append, length-drop, length-take, take-append-drop, take_all, drop_all, take_at, drop_at, map-append}
use Rattle.std.proofs.lemmas.List.Elements.{filter-append}
use Rattle.std.proofs.lemmas.List.Folds.{list_all-append}
use Rattle.vx_dtype.specs.Fits.{val_fits}
use Rattle.vx_dtype.specs.Logic.{is_true_val}
use Rattle.vx_dtype.specs.Types.{Ty}
use Rattle.vx_dtype.specs.Values.{Val}
use Rattle.vx_expr.specs.Trees.{Tree}
use Rattle.vx_semantics.specs.Meaning.{Slots, mean}
use Rattle.vx_semantics.specs.Tables.{Table, row_type}
use Rattle.vx_semantics.specs.Scans.{matching_rows, block_rows}
use Rattle.vx_laws_scan.proofs.Keeping.{kept_rows_are_all}
use Rattle.vx_laws_stats.specs.BuiltStatistics.{built_zones}
use Rattle.vx_laws_stats.proofs.HonestBlocks.{honest, no_row_lost}
use Rattle.vx_laws_topk.specs.TopLaws.{IsAskedOf}
use Rattle.vx_laws_topk.specs.TopRows.{Keyed, TopAsk, first_rows, keyed, block_keyed, values_of, all_keyed}
use Rattle.vx_laws_topk.proofs.Finding.{top_is_of_all_rows}
use Rattle.vx_laws_shell.specs.CutAnew.{rows_in_blocks, blocks_within, cut_anew, AreBlocksOf, TablesAreCutAnew, CutTablesKeepRows, CutTablesStayTables}
use Rattle.vx_laws_shell.specs.CutAnew.{StatisticsBuiltAnewAreHonest, CutTablesLoseNoRow, CutTablesKeepLimits, CutTablesKeepFirstRows}
use Rattle.vx_laws_shell.proofs.Answered.{honest_limits_give_first_rows}

-- ---- blocks have the rows

-- behind the first of rows fewer are left
fewer : (n : ℕ) (row : Val) (rows : List Val) (most : ℕ) → 0 < n → length (row ∷ rows) ≤ suc most → length (drop n (row ∷ rows)) ≤ most
fewer n row rows most some long = omega (arith, length-drop n (row ∷ rows), some, long)

rows_within : (most n : ℕ) (rows : List Val) → 0 < n → length rows ≤ most → rows_in_blocks (blocks_within most n rows) ≡ rows
rows_within zero n [] some long = refl
rows_within zero n (row ∷ rows) some long = absurd (omega (arith, long))
rows_within (suc most) n [] some long = refl
rows_within (suc most) n (row ∷ rows) some long =
    ap (λ (more : List Val). take n (row ∷ rows) ++ more) (rows_within most n (drop n (row ∷ rows)) some (fewer n row rows most some long))
    ∙ take-append-drop n (row ∷ rows)

rows_kept : (n : ℕ) (table : Table) → 0 < n → rows_in_blocks (cut_anew n table).blocks ≡ rows_in_blocks table.blocks
rows_kept n table some = rows_within (length (rows_in_blocks table.blocks)) n (rows_in_blocks table.blocks) some (omega arith)

-- ---- blocks are as long as is asked

none_within : (most n : ℕ) → blocks_within most n [] ≡ []
none_within zero n = refl
none_within (suc most) n = refl

-- a first block, and those of the rows behind it
first_within : (most n : ℕ) (rows rest : List Val) → 0 < n → 0 < length rows → drop n rows ≡ rest → length rest ≤ most
    → AreBlocksOf n (blocks_within most n rest) → AreBlocksOf n (take n rows ∷ blocks_within most n rest)
first_within most n rows [] some filled e long h =
    subst (λ (blocks : List (List Val)). AreBlocksOf n (take n rows ∷ blocks)) (sym (none_within most n))
    (omega (arith, length-take n rows, some, filled), omega (arith, length-take n rows))
first_within zero n rows (row ∷ rest) some filled e long h = absurd (omega (arith, long))
first_within (suc most) n rows (row ∷ rest) some filled e long h =
    (omega (arith, length-take n rows, length-drop n rows, ap (λ (more : List Val). length more) e), h)

are_blocks : (most n : ℕ) (rows : List Val) → 0 < n → length rows ≤ most → AreBlocksOf n (blocks_within most n rows)
are_blocks zero n rows some long = tt
are_blocks (suc most) n [] some long = tt
are_blocks (suc most) n (row ∷ rows) some long =
    let less = fewer n row rows most some long in
    first_within most n (row ∷ rows) (drop n (row ∷ rows)) some (omega arith) refl less (are_blocks most n (drop n (row ∷ rows)) some less)

-- ---- no others are

cut_first : (most n : ℕ) (rows rest : List Val) (blocks : List (List Val)) → 0 < length rows → take n (rows ++ rest) ≡ rows → drop n (rows ++ rest) ≡ rest
    → length (rows ++ rest) ≤ most → ((m : ℕ) → length rest ≤ m → blocks_within m n rest ≡ blocks) → blocks_within most n (rows ++ rest) ≡ rows ∷ blocks
cut_first most n [] rest blocks some front back long more = absurd (omega (arith, some))
cut_first zero n (row ∷ rows) rest blocks some front back long more = absurd (omega (arith, long))
cut_first (suc most) n (row ∷ rows) rest blocks some front back long more =
    let others = ap (λ (left : List Val). blocks_within most n left) back ∙ more most (omega (arith, long, length-append rows rest)) in
    λ i. front i ∷ others i

cut_back : (most n : ℕ) (blocks : List (List Val)) → 0 < n → AreBlocksOf n blocks → length (rows_in_blocks blocks) ≤ most
    → blocks_within most n (rows_in_blocks blocks) ≡ blocks
cut_back most n [] some h long = none_within most n
cut_back most n (rows ∷ []) some h long =
    cut_first most n rows [] [] h.0 (ap (λ (all : List Val). take n all) (append-nil rows) ∙ take_all n rows h.1)
    (ap (λ (all : List Val). drop n all) (append-nil rows) ∙ drop_all n rows h.1) long (λ m l. none_within m n)
cut_back most n (rows ∷ next ∷ blocks) some h long =
    let rest = rows_in_blocks (next ∷ blocks) in
    cut_first most n rows rest (next ∷ blocks) (omega (arith, some, h.0)) (take_at rows rest n h.0) (drop_at rows rest n h.0) long
    (λ m l. cut_back m n (next ∷ blocks) some h.1 l)

pub tables_are_cut_anew : TablesAreCutAnew
tables_are_cut_anew n table some =
    record {
      rows = rows_kept n table some;
      blocks = are_blocks (length (rows_in_blocks table.blocks)) n (rows_in_blocks table.blocks) some (omega arith);
      no_others = λ blocks same h. sym (cut_back (length (rows_in_blocks blocks)) n blocks some h (omega arith))
          ∙ ap (λ (rows : List Val). blocks_within (length rows) n rows) same;
    }

-- ---- answers in rows

-- what is made of rows one after another is made of blocks of them so
over_blocks : {A : Type 0} (g : List Val → List A) → g [] ≡ [] → ((xs ys : List Val) → g (xs ++ ys) ≡ g xs ++ g ys) → (blocks : List (List Val))
    → flat_map g blocks ≡ g (rows_in_blocks blocks)
over_blocks g none both [] = sym none
over_blocks {A} g none both (rows ∷ blocks) = ap (λ (more : List A). g rows ++ more) (over_blocks g none both blocks) ∙ sym (both rows (rows_in_blocks blocks))

over_anew : {A : Type 0} (g : List Val → List A) → g [] ≡ [] → ((xs ys : List Val) → g (xs ++ ys) ≡ g xs ++ g ys) → (n : ℕ) (table : Table) → 0 < n
    → flat_map g (cut_anew n table).blocks ≡ flat_map g table.blocks
over_anew g none both n table some =
    over_blocks g none both (cut_anew n table).blocks ∙ ap (λ (rows : List Val). g rows) (rows_kept n table some) ∙ sym (over_blocks g none both table.blocks)

-- of matching rows
matching_both : {A : Type 0} (made : Val → A) (t : Ty) (slots : Slots) (f : Tree) (xs ys : List Val)
    → map made (matching_rows t slots f (xs ++ ys)) ≡ map made (matching_rows t slots f xs) ++ map made (matching_rows t slots f ys)
matching_both made t slots f xs ys =
    ap (λ (rows : List Val). map made rows) (filter-append (λ (row : Val). is_true_val (mean t slots row f)) xs ys)
    ∙ map-append made (matching_rows t slots f xs) (matching_rows t slots f ys)

pub cut_tables_keep_rows : CutTablesKeepRows
cut_tables_keep_rows n table slots f p some =
    let t = row_type table.columns in
    over_anew (λ (rows : List Val). block_rows t slots f p rows) refl (matching_both (λ (row : Val). mean t slots row p) t slots f) n table some

all_in_blocks : (test : Val → Bool) (blocks : List (List Val)) → list_all (λ (rows : List Val). list_all test rows) blocks ≡ list_all test (rows_in_blocks blocks)
all_in_blocks test [] = refl
all_in_blocks test (rows ∷ blocks) =
    ap (λ (b : Bool). list_all test rows && b) (all_in_blocks test blocks) ∙ sym (list_all-append test rows (rows_in_blocks blocks))

pub cut_tables_stay_tables : CutTablesStayTables
cut_tables_stay_tables n table some h =
    let fits : Val → Bool = λ row. val_fits row (row_type table.columns) in
    record {
      names = h.names;
      fit = all_in_blocks fits (cut_anew n table).blocks ∙ ap (λ (rows : List Val). list_all fits rows) (rows_kept n table some)
          ∙ sym (all_in_blocks fits table.blocks) ∙ h.fit;
    }

pub built_anew_are_honest : StatisticsBuiltAnewAreHonest
built_anew_are_honest n table some h = honest (cut_anew n table) (cut_tables_stay_tables n table some h)

pub cut_tables_lose_no_row : CutTablesLoseNoRow
cut_tables_lose_no_row n table zones slots f p some h own =
    no_row_lost (cut_anew n table) slots f p (cut_tables_stay_tables n table some h)
    ∙ cut_tables_keep_rows n table slots f p some
    ∙ sym (kept_rows_are_all zones table slots f p own)

pub cut_tables_keep_limits : CutTablesKeepLimits
cut_tables_keep_limits n table zones f p limit some h own = λ anew found.
    let cut = cut_anew n table in
    honest_limits_give_first_rows cut (built_zones cut) f p limit (honest cut (cut_tables_stay_tables n table some h)) anew
    ∙ ap (λ (rows : List Val). take limit rows) (cut_tables_keep_rows n table [] f p some)
    ∙ sym (honest_limits_give_first_rows table zones f p limit own found)

keyed_anew : (n : ℕ) (table : Table) (ask : TopAsk) → 0 < n → all_keyed ask (cut_anew n table) ≡ all_keyed ask table
keyed_anew n table ask some =
    let t = row_type table.columns in
    over_anew (λ (rows : List Val). block_keyed ask t [] ask.filter_expr rows) refl (matching_both (keyed ask t []) t [] ask.filter_expr) n table some

pub cut_tables_keep_first_rows : CutTablesKeepFirstRows
cut_tables_keep_first_rows n table zones ask some h own asked =
    let cut = cut_anew n table in
    let is_table = cut_tables_stay_tables n table some h in
    let asked_of : IsAskedOf cut ask =
    record { column = asked.column; plain = asked.plain; filter_slots = asked.filter_slots; projection_slots = asked.projection_slots } in
    top_is_of_all_rows ask cut (built_zones cut) asked_of is_table.fit (honest cut is_table)
    ∙ ap (λ (rows : List Keyed). values_of (first_rows ask rows)) (keyed_anew n table ask some)
    ∙ sym (top_is_of_all_rows ask table zones asked h.fit own)
