-- What is answered over files as one table is what is answered over the files, in turn.
use Rattle.std.proofs.Common.{◌≡◌, refl, ap, sym, ◌∙◌, ℕ, suc, ◌+◌, ◌<◌, nat_eq, Bool, true, false, cond, not, ◌||◌, Option, Some, None, is_some, List, [], ◌∷◌, ◌++◌, map, length, get_or, Result, Ok, Err, IfOk, arith, append-nil}
use Rattle.std.specs.List.{AllByRecursion, filter, flat_map, list_any}
use Rattle.std.specs.Option.{option_or}
use Rattle.std.proofs.lemmas.List.{map-append, get_or-append-add, get_or_append_left}
use Rattle.std.proofs.lemmas.List.Concat.{flat_map-append}
use Rattle.std.proofs.lemmas.List.Folds.{flat_map-map}
use Rattle.vx_dtype.specs.Types.{Bytes, Ty, Fields}
use Rattle.vx_dtype.specs.Values.{Val}
use Rattle.vx_expr.specs.Trees.{Tree}
use Rattle.vx_semantics.specs.Asked.{asked_columns, some_asked_breaks}
use Rattle.vx_semantics.specs.Pruning.{rules_out}
use Rattle.vx_semantics.specs.Tables.{Table, Zones, row_type, numbered_from}
use Rattle.vx_semantics.specs.Scans.{matching_rows, has_rows, reads_in, further_columns, kept_blocks, kept_of}
use Rattle.vx_laws_scan.proofs.Keeping.{kept_numbers}
use Rattle.vx_laws_topk.specs.TopPhases.{SlottedPhase}
use Rattle.vx_laws_file.proofs.Lists.{each_so}
use Rattle.vx_laws_statements.specs.Clauses.{Key}
use Rattle.vx_laws_statements.specs.Refusals.{StatementRefusal}
use Rattle.vx_laws_statements.specs.Statements.{Plan, plan_of}
use Rattle.vx_scan.specs.Stores.{Read}
use Rattle.vx_laws_shell.specs.Answers.{Stop, damaged, broken, first_stop, unslotted, phases_in, rows_in, before_stop, Found, found_in_order}
use Rattle.vx_laws_shell.specs.Answers.{Answer, refused_with, answer_stopped, answer_planned, answer_wanted}
use Rattle.vx_laws_shell.specs.Folders.{TableFile, file_before, files_joined, table_of_files, HasItsZones, IsOfForm, AreOneFolder, damaged_behind, answer_of_file}
use Rattle.vx_laws_shell.specs.Folders.{status_in_turn, output_in_turn, IsInTurn, AnswersOfFiles, statement_over, StatementsOfFiles}
use Rattle.vx_laws_shell.specs.Lines.{row_lines}
use Rattle.vx_laws_shell.specs.Wants.{condition_tree, in_order, wanted_in, wanted_of}
use Rattle.vx_laws_shell.proofs.FolderFiles.{has_before, joined, others_are, columns_first}
use Rattle.vx_laws_shell.proofs.FolderScans.{kept_both}
use Rattle.vx_laws_shell.proofs.OrderedRuns.{lines_append}
use Rattle.vx_laws_shell.proofs.Stops.{stop_append}

-- ---- blocks that are kept

-- an item behind so many others, with its number
abbrev shifted : {X : Type 0} → ℕ → ℕ × X → ℕ × X
shifted n b = (n + b.0, b.1)

-- the item at a place, with its number
abbrev at_place : {X : Type 0} → List X → X → ℕ → ℕ × X
at_place all d k = (k, get_or all k d)

-- items whose numbers pass a test, and their numbers
abbrev passing : {X : Type 0} → (ℕ → Bool) → ℕ → List X → List (ℕ × X)
passing {X} test m xs = filter (λ (b : ℕ × X). test b.0) (numbered_from m xs)

abbrev numbers : {X : Type 0} → List (ℕ × X) → List ℕ
numbers {X} bs = map (λ (b : ℕ × X). b.0) bs

-- they are the items at the places of their numbers
placed : {X : Type 0} (d : X) (all : List X) (test : ℕ → Bool) (m : ℕ) (xs : List X)
    → ((k : ℕ) → k < length xs → get_or all (m + k) d ≡ get_or xs k d)
    → map (at_place all d) (numbers (passing test m xs)) ≡ passing test m xs
placed d all test m [] h = refl
placed {X} d all test m (x ∷ xs) h = by-test (test m) (placed d all test (suc m) xs later)
  where
    later : (k : ℕ) → k < length xs → get_or all (suc m + k) d ≡ get_or xs k d
    later k l = let next : suc m + k ≡ m + suc k = omega arith in ap (λ (j : ℕ). get_or all j d) next ∙ h (suc k) (omega (arith, l))

    here : get_or all m d ≡ x
    here = let start : m ≡ m + 0 = omega arith in ap (λ (j : ℕ). get_or all j d) start ∙ h 0 (omega arith)

    rest : List (ℕ × X)
    rest = passing test (suc m) xs

    by-test : (b : Bool) → map (at_place all d) (numbers rest) ≡ rest
        → map (at_place all d) (numbers (cond b ((m, x) ∷ rest) rest)) ≡ cond b ((m, x) ∷ rest) rest
    by-test true e = λ i. (m, here i) ∷ e i
    by-test false e = e

-- and behind so many others they are the items at these places
placed_behind : {X : Type 0} (d : X) (all : List X) (test : ℕ → Bool) (n m : ℕ) (xs : List X)
    → ((k : ℕ) → k < length xs → get_or all (n + (m + k)) d ≡ get_or xs k d)
    → map (at_place all d) (map (λ (b : ℕ). n + b) (numbers (passing test m xs))) ≡ map (shifted n) (passing test m xs)
placed_behind d all test n m [] h = refl
placed_behind {X} d all test n m (x ∷ xs) h = by-test (test m) (placed_behind d all test n (suc m) xs later)
  where
    later : (k : ℕ) → k < length xs → get_or all (n + (suc m + k)) d ≡ get_or xs k d
    later k l =
        let next : n + (suc m + k) ≡ n + (m + suc k) = omega arith in
        ap (λ (j : ℕ). get_or all j d) next ∙ h (suc k) (omega (arith, l))

    here : get_or all (n + m) d ≡ x
    here = let start : n + m ≡ n + (m + 0) = omega arith in ap (λ (j : ℕ). get_or all j d) start ∙ h 0 (omega arith)

    rest : List (ℕ × X)
    rest = passing test (suc m) xs

    by-test : (b : Bool) → map (at_place all d) (map (λ (c : ℕ). n + c) (numbers rest)) ≡ map (shifted n) rest
        → map (at_place all d) (map (λ (c : ℕ). n + c) (numbers (cond b ((m, x) ∷ rest) rest))) ≡ map (shifted n) (cond b ((m, x) ∷ rest) rest)
    by-test true e = λ i. (n + m, here i) ∷ e i
    by-test false e = e

-- the blocks of a table that are kept, by their numbers
kept_at : (table : Table) (zones : Zones) (f : Tree) (all : List (List Val)) → length table.blocks ≡ length zones.lengths
    → ((k : ℕ) → k < length table.blocks → get_or all (0 + k) [] ≡ get_or table.blocks k [])
    → map (at_place all []) (kept_blocks zones [] f) ≡ kept_of table zones [] f
kept_at table zones f all same h =
    ap (λ (ns : List ℕ). map (at_place all []) ns) (sym (kept_numbers zones table [] f same))
    ∙ placed {X = List Val} [] all (λ (n : ℕ). not (rules_out zones [] n f)) 0 table.blocks h

kept_behind : (table : Table) (zones : Zones) (f : Tree) (n : ℕ) (all : List (List Val)) → length table.blocks ≡ length zones.lengths
    → ((k : ℕ) → k < length table.blocks → get_or all (n + (0 + k)) [] ≡ get_or table.blocks k [])
    → map (at_place all []) (map (λ (b : ℕ). n + b) (kept_blocks zones [] f)) ≡ map (shifted n) (kept_of table zones [] f)
kept_behind table zones f n all same h =
    ap (λ (ns : List ℕ). map (at_place all []) (map (λ (b : ℕ). n + b) ns)) (sym (kept_numbers zones table [] f same))
    ∙ placed_behind {X = List Val} [] all (λ (b : ℕ). not (rules_out zones [] b f)) n 0 table.blocks h

-- of a file before another one: its own, and then those of the other
kept_so : (file other : TableFile) (own : HasItsZones file) (more : HasItsZones other) (form : IsOfForm file other) (f p : Tree)
    → kept_of (file_before file other).table (file_before file other).zones [] f
    ≡ kept_of file.table file.zones [] f ++ map (shifted (length file.table.blocks)) (kept_of other.table other.zones [] f)
kept_so file other own more form f p =
    let all = file.table.blocks ++ other.table.blocks in
    let n = length file.table.blocks in
    let behind : List ℕ = map (λ (b : ℕ). length file.table.blocks + b) (kept_blocks other.zones [] f) in
    sym (kept_at (file_before file other).table (file_before file other).zones f all (has_before file other own more).blocks
    (λ k l. let same : 0 + k ≡ k = omega arith in ap (λ (j : ℕ). get_or all j []) same))
    ∙ ap (λ (ns : List ℕ). map (at_place all []) ns) (kept_both file other own more form [] f p)
    ∙ map-append (at_place all []) (kept_blocks file.zones [] f) behind
    ∙ ap (λ (bs : List (ℕ × List Val)). bs ++ map (at_place all []) behind)
    (kept_at file.table file.zones f all own.blocks
    (λ k l. let same : 0 + k ≡ k = omega arith in
    ap (λ (j : ℕ). get_or all j []) same ∙ get_or_append_left file.table.blocks other.table.blocks [] k l))
    ∙ ap (λ (bs : List (ℕ × List Val)). kept_of file.table file.zones [] f ++ bs)
    (kept_behind other.table other.zones f n all more.blocks
    (λ k l. let same : length file.table.blocks + (0 + k) ≡ length file.table.blocks + k = omega arith in
    ap (λ (j : ℕ). get_or all j []) same ∙ get_or-append-add file.table.blocks other.table.blocks k []))

-- ---- how blocks stop a run

module _ (is_damaged : Read → Bool) (n : ℕ) (t : Ty) (f p : Tree) where
  damaged_in : (block : ℕ) (names : List Bytes)
      → list_any is_damaged (reads_in (n + block) names) ≡ list_any (damaged_behind n is_damaged) (reads_in block names)
  damaged_in block [] = refl
  damaged_in block (name ∷ names) = ap (λ (b : Bool). is_damaged (n + block, name) || b) (damaged_in block names)

  -- how a phase without slots ends, by whether a column that it reads is damaged
  abbrev ended : Tree → List Val → Bool → Option Stop
  ended e rows d = cond d (Some damaged) (cond (list_any (λ (row : Val). some_asked_breaks t [] row e) rows) (Some broken) None)

  shifted_block : (b : ℕ × List Val) → first_stop is_damaged t (phases_in t f p (shifted n b)) ≡ first_stop (damaged_behind n is_damaged) t (phases_in t f p b)
  shifted_block b = by-rows (has_rows matching)
    where
      matching : List Val
      matching = matching_rows t [] f b.1

      own : list_any is_damaged (reads_in (n + b.0) (asked_columns t f)) ≡ list_any (damaged_behind n is_damaged) (reads_in b.0 (asked_columns t f))
      own = damaged_in b.0 (asked_columns t f)

      further : list_any is_damaged (reads_in (n + b.0) (further_columns t f p)) ≡ list_any (damaged_behind n is_damaged) (reads_in b.0 (further_columns t f p))
      further = damaged_in b.0 (further_columns t f p)

      by-rows : (x : Bool)
          → first_stop is_damaged t (map unslotted (record { expression = f; reads = reads_in (n + b.0) (asked_columns t f); rows = b.1 }
          ∷ cond x (record { expression = p; reads = reads_in (n + b.0) (further_columns t f p); rows = matching } ∷ []) []))
          ≡ first_stop (damaged_behind n is_damaged) t (map unslotted (record { expression = f; reads = reads_in b.0 (asked_columns t f); rows = b.1 }
          ∷ cond x (record { expression = p; reads = reads_in b.0 (further_columns t f p); rows = matching } ∷ []) []))
      by-rows true = λ i. option_or (ended f b.1 (own i)) (option_or (ended p matching (further i)) None)
      by-rows false = λ i. option_or (ended f b.1 (own i)) None

  shifted_stop : (bs : List (ℕ × List Val))
      → first_stop is_damaged t (flat_map (phases_in t f p) (map (shifted n) bs)) ≡ first_stop (damaged_behind n is_damaged) t (flat_map (phases_in t f p) bs)
  shifted_stop [] = refl
  shifted_stop (b ∷ bs) =
      let own = shifted_block b in
      let rest = shifted_stop bs in
      stop_append is_damaged t (phases_in t f p (shifted n b)) (flat_map (phases_in t f p) (map (shifted n) bs))
      ∙ (λ i. option_or (own i) (rest i))
      ∙ sym (stop_append (damaged_behind n is_damaged) t (phases_in t f p b) (flat_map (phases_in t f p) bs))

  shifted_before : (bs : List (ℕ × List Val)) → before_stop is_damaged t f p (map (shifted n) bs) ≡ map (shifted n) (before_stop (damaged_behind n is_damaged) t f p bs)
  shifted_before [] = refl
  shifted_before (b ∷ bs) =
      let own = shifted_block b in
      let rest = shifted_before bs in
      (λ i. cond (is_some (own i)) [] (shifted n b ∷ rest i)) ∙ by-stop (first_stop (damaged_behind n is_damaged) t (phases_in t f p b))
    where
      by-stop : (o : Option Stop)
          → cond (is_some o) [] (shifted n b ∷ map (shifted n) (before_stop (damaged_behind n is_damaged) t f p bs))
          ≡ map (shifted n) (cond (is_some o) [] (b ∷ before_stop (damaged_behind n is_damaged) t f p bs))
      by-stop None = refl
      by-stop (Some s) = refl

-- the blocks before the stop of some and of more
before_append : (is_damaged : Read → Bool) (t : Ty) (f p : Tree) (xs ys : List (ℕ × List Val))
    → before_stop is_damaged t f p (xs ++ ys)
    ≡ before_stop is_damaged t f p xs ++ cond (is_some (first_stop is_damaged t (flat_map (phases_in t f p) xs))) [] (before_stop is_damaged t f p ys)
before_append is_damaged t f p [] ys = refl
before_append is_damaged t f p (x ∷ xs) ys =
    by-stop (first_stop is_damaged t (phases_in t f p x)) (before_append is_damaged t f p xs ys)
    ∙ ap (λ (o : Option Stop). before_stop is_damaged t f p (x ∷ xs) ++ cond (is_some o) [] (before_stop is_damaged t f p ys))
    (sym (stop_append is_damaged t (phases_in t f p x) (flat_map (phases_in t f p) xs)))
  where
    later : Option Stop
    later = first_stop is_damaged t (flat_map (phases_in t f p) xs)

    by-stop : (o : Option Stop)
        → before_stop is_damaged t f p (xs ++ ys) ≡ before_stop is_damaged t f p xs ++ cond (is_some later) [] (before_stop is_damaged t f p ys)
        → cond (is_some o) [] (x ∷ before_stop is_damaged t f p (xs ++ ys))
        ≡ cond (is_some o) [] (x ∷ before_stop is_damaged t f p xs) ++ cond (is_some (option_or o later)) [] (before_stop is_damaged t f p ys)
    by-stop None e = ap (λ (bs : List (ℕ × List Val)). x ∷ bs) e
    by-stop (Some s) e = refl

-- ---- what is found over a file

abbrev stop_of_file : (Read → Bool) → Tree → Tree → TableFile → Option Stop
stop_of_file is_damaged f p file =
    first_stop is_damaged (row_type file.table.columns) (flat_map (phases_in (row_type file.table.columns) f p) (kept_of file.table file.zones [] f))

abbrev rows_of_file : (Read → Bool) → Tree → Tree → TableFile → List Val
rows_of_file is_damaged f p file =
    flat_map (rows_in (row_type file.table.columns) f p)
    (before_stop is_damaged (row_type file.table.columns) f p (kept_of file.table file.zones [] f))

module _ (is_damaged : Read → Bool) (file other : TableFile) (own : HasItsZones file) (more : HasItsZones other) (form : IsOfForm file other) (f p : Tree) where
  stop_both : stop_of_file is_damaged f p (file_before file other)
      ≡ option_or (stop_of_file is_damaged f p file) (stop_of_file (damaged_behind (length file.table.blocks) is_damaged) f p other)
  stop_both =
      let t = row_type file.table.columns in
      let n = length file.table.blocks in
      let kept = kept_of file.table file.zones [] f in
      let others = kept_of other.table other.zones [] f in
      let columns : file.table.columns ≡ other.table.columns = sym form.columns in
      ap (λ (bs : List (ℕ × List Val)). first_stop is_damaged t (flat_map (phases_in t f p) bs)) (kept_so file other own more form f p)
      ∙ ap (λ (ss : List SlottedPhase). first_stop is_damaged t ss) (flat_map-append (phases_in t f p) kept (map (shifted n) others))
      ∙ stop_append is_damaged t (flat_map (phases_in t f p) kept) (flat_map (phases_in t f p) (map (shifted n) others))
      ∙ ap (λ (o : Option Stop). option_or (first_stop is_damaged t (flat_map (phases_in t f p) kept)) o) (shifted_stop is_damaged n t f p others)
      ∙ ap (λ (fs : Fields). option_or (first_stop is_damaged t (flat_map (phases_in t f p) kept))
      (first_stop (damaged_behind n is_damaged) (row_type fs) (flat_map (phases_in (row_type fs) f p) others))) columns

  rows_both : rows_of_file is_damaged f p (file_before file other)
      ≡ rows_of_file is_damaged f p file
      ++ cond (is_some (stop_of_file is_damaged f p file)) [] (rows_of_file (damaged_behind (length file.table.blocks) is_damaged) f p other)
  rows_both =
      let t = row_type file.table.columns in
      let n = length file.table.blocks in
      let kept = kept_of file.table file.zones [] f in
      let others = kept_of other.table other.zones [] f in
      let columns : file.table.columns ≡ other.table.columns = sym form.columns in
      let first = before_stop is_damaged t f p kept in
      ap (λ (bs : List (ℕ × List Val)). flat_map (rows_in t f p) (before_stop is_damaged t f p bs)) (kept_so file other own more form f p)
      ∙ ap (λ (bs : List (ℕ × List Val)). flat_map (rows_in t f p) bs) (before_append is_damaged t f p kept (map (shifted n) others))
      ∙ flat_map-append (rows_in t f p) first
      (cond (is_some (stop_of_file is_damaged f p file)) [] (before_stop is_damaged t f p (map (shifted n) others)))
      ∙ ap (λ (rows : List Val). flat_map (rows_in t f p) first ++ rows) (by-stop (stop_of_file is_damaged f p file))
      ∙ ap (λ (fs : Fields). flat_map (rows_in t f p) first ++ cond (is_some (stop_of_file is_damaged f p file)) []
      (flat_map (rows_in (row_type fs) f p) (before_stop (damaged_behind n is_damaged) (row_type fs) f p others))) columns
    where
      by-stop : (o : Option Stop)
          → flat_map (rows_in (row_type file.table.columns) f p)
          (cond (is_some o) []
          (before_stop is_damaged (row_type file.table.columns) f p (map (shifted (length file.table.blocks)) (kept_of other.table other.zones [] f))))
          ≡ cond (is_some o) [] (flat_map (rows_in (row_type file.table.columns) f p)
          (before_stop (damaged_behind (length file.table.blocks) is_damaged) (row_type file.table.columns) f p (kept_of other.table other.zones [] f)))
      by-stop None =
          ap (λ (bs : List (ℕ × List Val)). flat_map (rows_in (row_type file.table.columns) f p) bs)
          (shifted_before is_damaged (length file.table.blocks) (row_type file.table.columns) f p (kept_of other.table other.zones [] f))
          ∙ flat_map-map (rows_in (row_type file.table.columns) f p) (shifted (length file.table.blocks))
          (before_stop (damaged_behind (length file.table.blocks) is_damaged) (row_type file.table.columns) f p (kept_of other.table other.zones [] f))
      by-stop (Some s) = refl

-- ---- answers

abbrev status_by : Option Stop → ℕ
status_by None = 0
status_by (Some damaged) = 3
status_by (Some broken) = 5

status_stopped : (table : Table) (found : Found) (o : Option Stop) → (answer_stopped table found o).status ≡ status_by o
status_stopped table found None = refl
status_stopped table found (Some damaged) = refl
status_stopped table found (Some broken) = refl

output_stopped : (table : Table) (found : Found) (o : Option Stop) → (answer_stopped table found o).output ≡ row_lines found.rows
output_stopped table found None = refl
output_stopped table found (Some damaged) = refl
output_stopped table found (Some broken) = refl

-- an answer over a file has the status of its stop, and writes its rows
status_is : (is_damaged : Read → Bool) (f p : Tree) (file : TableFile) → (answer_of_file f p is_damaged file).status ≡ status_by (stop_of_file is_damaged f p file)
status_is is_damaged f p file =
    status_stopped file.table (found_in_order is_damaged file.table file.zones f p None) (stop_of_file is_damaged f p file)

output_is : (is_damaged : Read → Bool) (f p : Tree) (file : TableFile) → (answer_of_file f p is_damaged file).output ≡ row_lines (rows_of_file is_damaged f p file)
output_is is_damaged f p file =
    output_stopped file.table (found_in_order is_damaged file.table file.zones f p None) (stop_of_file is_damaged f p file)

-- the first status of two that isn't 0, and what is written up to it
two_statuses : (o q : Option Stop) → status_by (option_or o q) ≡ cond (nat_eq (status_by o) 0) (status_by q) (status_by o)
two_statuses None q = refl
two_statuses (Some damaged) q = refl
two_statuses (Some broken) q = refl

two_outputs : (o : Option Stop) (rows more : List Val)
    → row_lines (rows ++ cond (is_some o) [] more) ≡ row_lines rows ++ cond (nat_eq (status_by o) 0) (row_lines more) []
two_outputs None rows more = lines_append rows more
two_outputs (Some damaged) rows more = lines_append rows []
two_outputs (Some broken) rows more = lines_append rows []

one_status : (o : Option Stop) → status_by o ≡ cond (nat_eq (status_by o) 0) 0 (status_by o)
one_status None = refl
one_status (Some damaged) = refl
one_status (Some broken) = refl

one_output : (b : Bool) (output : Bytes) → output ≡ output ++ cond b [] []
one_output true output = sym (append-nil output)
one_output false output = sym (append-nil output)

-- a file before others
abbrev Turn : (Read → Bool) → Tree → Tree → TableFile → ℕ → Bytes → Type 0
Turn is_damaged f p file status output = ((answer_of_file f p is_damaged file).status ≡ status) × ((answer_of_file f p is_damaged file).output ≡ output)

turns : (is_damaged : Read → Bool) (first : TableFile) (files : List TableFile) (f p : Tree) → AreOneFolder first files
    → Turn is_damaged f p (files_joined first files) (status_in_turn (answer_of_file f p) is_damaged (first ∷ files)) (output_in_turn (answer_of_file f p) is_damaged (first ∷ files))
turns is_damaged first [] f p h =
    let status = status_is is_damaged f p first in (
      status ∙ one_status (stop_of_file is_damaged f p first) ∙ ap (λ (s : ℕ). cond (nat_eq s 0) 0 s) (sym status),
      one_output (nat_eq (answer_of_file f p is_damaged first).status 0) (answer_of_file f p is_damaged first).output,
    )
turns is_damaged first (next ∷ files) f p h =
    let rest = joined first next files h in
    let other = files_joined next files in
    let later = damaged_behind (length first.table.blocks) is_damaged in
    let more = turns later next files f p (others_are first next files h) in
    let status = status_is is_damaged f p first in
    let output = output_is is_damaged f p first in
    let other_status = sym (status_is later f p other) ∙ more.0 in
    let other_output = sym (output_is later f p other) ∙ more.1 in (
      status_is is_damaged f p (file_before first other)
          ∙ ap (λ (o : Option Stop). status_by o) (stop_both is_damaged first other h.first_has rest.has rest.form f p)
          ∙ two_statuses (stop_of_file is_damaged f p first) (stop_of_file later f p other)
          ∙ (λ i. cond (nat_eq (sym status i) 0) (other_status i) (sym status i)),
      output_is is_damaged f p (file_before first other)
          ∙ ap (λ (rows : List Val). row_lines rows) (rows_both is_damaged first other h.first_has rest.has rest.form f p)
          ∙ two_outputs (stop_of_file is_damaged f p first) (rows_of_file is_damaged f p first) (rows_of_file later f p other)
          ∙ (λ i. sym output i ++ cond (nat_eq (sym status i) 0) (other_output i) []),
    )

pub answers_of_files : AnswersOfFiles
answers_of_files is_damaged first files f p h =
    let turn = turns is_damaged first files f p h in
    record { status = turn.0; output = turn.1 }

-- ---- statements

-- a statement that asks neither an order nor a limit is answered by its condition and its rows
planned_so : (statement : Bytes) (plan : Plan) (is_damaged : Read → Bool) (file : TableFile) → plan_of (row_type file.table.columns) statement ≡ Ok plan
    → plan.order ≡ None → plan.limit ≡ None
    → statement_over statement is_damaged file ≡ answer_of_file (condition_tree plan.filter) plan.rows.tree is_damaged file
unfolding wanted_of
planned_so statement plan is_damaged file e order limit =
    ap (λ (r : Result Plan StatementRefusal). answer_planned is_damaged file.table file.zones r) e
    ∙ ap (λ (o : Option Key). answer_wanted is_damaged file.table file.zones plan (wanted_in file.table.columns plan o)) order
    ∙ ap (λ (l : Option ℕ). answer_wanted is_damaged file.table file.zones plan (Ok (in_order l))) limit

refused_so : (statement : Bytes) (refusal : StatementRefusal) (is_damaged : Read → Bool) (file : TableFile)
    → plan_of (row_type file.table.columns) statement ≡ Err refusal → statement_over statement is_damaged file ≡ refused_with 4
refused_so statement refusal is_damaged file e = ap (λ (r : Result Plan StatementRefusal). answer_planned is_damaged file.table file.zones r) e

-- answers that are the same over each file are so in turn
same_turns : (answer other : (Read → Bool) → TableFile → Answer) (is_damaged : Read → Bool) (files : List TableFile)
    → AllByRecursion (λ (file : TableFile). (d : Read → Bool) → answer d file ≡ other d file) files
    → (status_in_turn answer is_damaged files ≡ status_in_turn other is_damaged files)
    × (output_in_turn answer is_damaged files ≡ output_in_turn other is_damaged files)
same_turns answer other is_damaged [] h = (refl, refl)
same_turns answer other is_damaged (file ∷ files) h =
    let own = h.0 is_damaged in
    let rest = same_turns answer other (damaged_behind (length file.table.blocks) is_damaged) files h.1 in
    (λ i. cond (nat_eq (own i).status 0) (rest.0 i) (own i).status, λ i. (own i).output ++ cond (nat_eq (own i).status 0) (rest.1 i) [])

-- a statement has one plan over files of one form
plan_over : (statement : Bytes) (columns others : Fields) (r : Result Plan StatementRefusal) → others ≡ columns → plan_of (row_type columns) statement ≡ r
    → plan_of (row_type others) statement ≡ r
plan_over statement columns others r same e = ap (λ (fs : Fields). plan_of (row_type fs) statement) same ∙ e

pub statements_of_files : StatementsOfFiles
statements_of_files is_damaged first files statement h plain = by-plan (plan_of (row_type first.table.columns) statement) refl plain
  where
    by-plan : (r : Result Plan StatementRefusal) → plan_of (row_type first.table.columns) statement ≡ r
        → IfOk r (λ (plan : Plan). (plan.order ≡ None) × (plan.limit ≡ None)) → IsInTurn (statement_over statement) is_damaged first files
    by-plan (Ok plan) e asks =
        let f = condition_tree plan.filter in
        let p = plan.rows.tree in
        let all = planned_so statement plan is_damaged (files_joined first files)
        (plan_over statement first.table.columns (table_of_files first files).columns (Ok plan) (columns_first first files) e) asks.0 asks.1 in
        let each = each_so (IsOfForm first)
        (λ (file : TableFile). (d : Read → Bool) → statement_over statement d file ≡ answer_of_file (condition_tree plan.filter) plan.rows.tree d file) files
        (λ file form d. planned_so statement plan d file (plan_over statement first.table.columns file.table.columns (Ok plan) form.columns e) asks.0 asks.1)
        h.forms in
        let same = same_turns (statement_over statement) (answer_of_file f p) is_damaged (first ∷ files)
        (λ d. planned_so statement plan d first e asks.0 asks.1, each) in
        let answers = answers_of_files is_damaged first files f p h in
        record {
          status = ap (λ (a : Answer). a.status) all ∙ answers.status ∙ sym same.0;
          output = ap (λ (a : Answer). a.output) all ∙ answers.output ∙ sym same.1;
        }
    by-plan (Err refusal) e asks =
        let later = damaged_behind (length first.table.blocks) is_damaged in
        let all = refused_so statement refusal is_damaged (files_joined first files)
        (plan_over statement first.table.columns (table_of_files first files).columns (Err refusal) (columns_first first files) e) in
        let own = refused_so statement refusal is_damaged first e in
        record {
          status = ap (λ (a : Answer). a.status) all
              ∙ sym (ap (λ (a : Answer). cond (nat_eq a.status 0) (status_in_turn (statement_over statement) later files) a.status) own);
          output = ap (λ (a : Answer). a.output) all
              ∙ sym (ap (λ (a : Answer). a.output ++ cond (nat_eq a.status 0) (output_in_turn (statement_over statement) later files) []) own);
        }
