-- What is found over some blocks of a store is the answer over these blocks of its table.
use Rattle.std.proofs.Common.{◌≡◌, refl, ap, sym, ◌∙◌, subst, ℕ, ◌+◌, ◌-◌, ◌<◌, ◌≤◌, Bool, true, false, cond, nat_le, nat_lt, ◌||◌, Option, Some, None, option_map, Result, Ok, Err, List, [], ◌∷◌, map, length, take, drop, arith}
use Rattle.std.specs.List.{filter, list_all, list_any}
use Rattle.std.specs.Str.{bytes_eq}
use Rattle.std.proofs.lemmas.Bool.{and_parts, eqb-true, le-leb, leb-true, lt-leb}
use Rattle.std.proofs.lemmas.List.{length-map, take_all}
use Rattle.vx_dtype.specs.Types.{Bytes}
use Rattle.vx_dtype.specs.TypeRules.{field_names}
use Rattle.vx_dtype.specs.Values.{Val}
use Rattle.vx_laws_shell.specs.Answers.{Answer, answer_of, answer_of_statement, answer_within, refused_with}
use Rattle.vx_laws_shell.specs.Parts.{is_within, range_or_all, read_behind, table_within, zones_within}
use Rattle.vx_laws_shell.specs.Running.{End}
use Rattle.vx_laws_shell.specs.Words.{Asked, BlockRange}
use Rattle.vx_scan.specs.Stores.{Read, StoreSeen, WhereTold, AgreesWith}
use Rattle.vx_scan.proofs.ScanLemmas.{told_so, told_both, told_all}
use Rattle.vx_semantics.specs.Scans.{read_columns}
use Rattle.vx_semantics.specs.Tables.{Table, Zones, ZoneStat}
use Rattle.vx_zones.specs.Zoning.{broken_rule, counts_blocks}
use Rattle.vx_laws_pruning.proofs.Accepted.{follows_rules}
use Rattle.vx_block_parts.specs.Parts.{is_between, read_from, read_between, seen_between}
use Rattle.vx_block_parts.specs.PartLaws.{PartsReadTheirBlocks}
use Rattle.vx_block_parts.specs.PartMoves.{MovesBetween}
use Rattle.vx_shell.specs.declared.answers.Found.{Found}
use Rattle.vx_shell_words.specs.declared.asked.BlockRange as code
use Rattle.vx_shell.specs.declared.errors.Refusal.{Refusal}
use Rattle.vx_shell.specs.declared.errors.Refusal.TheVariants as refusals
use Rattle.vx_shell.specs.Founds.{counts_found, CountsFault, IsWritten, FindsAnswer, FindsStatement, FindsWithin, AnswersStore}
use Rattle.vx_shell.proofs.SettledAnswers.{finds_settled}

-- ---- answers that are the same

-- what is found by one answer is found by another that is the same over the table
pub finds_same : (answer_over other_over : (Read → Bool) → Table → Answer) (a b : StoreSeen) (x y : End) (result : Result Found Refusal)
    → WhereTold a.held (λ table. (is_damaged : Read → Bool) → answer_over is_damaged table ≡ other_over is_damaged table)
    → FindsAnswer answer_over a b x y result → FindsAnswer other_over a b x y result
finds_same answer_over other_over a b x y result same h =
    record {
      made = h.made;
      grown = h.grown;
      lines = h.lines;
      added = h.added;
      cause = h.cause;
      told = told_both a.held (λ table. (is_damaged : Read → Bool) → answer_over is_damaged table ≡ other_over is_damaged table)
          (λ table. (is_damaged : Read → Bool) → list_any is_damaged h.made ≡ false
          → IsWritten is_damaged (answer_over is_damaged table) table h.made b.failed x y result)
          (λ table. (is_damaged : Read → Bool) → list_any is_damaged h.made ≡ false
          → IsWritten is_damaged (other_over is_damaged table) table h.made b.failed x y result)
          (λ table e k is_damaged clean.
          subst (λ (answer : Answer). IsWritten is_damaged answer table h.made b.failed x y result) (e is_damaged) (k is_damaged clean))
          same h.told;
    }

-- ---- reads of some blocks

-- none is of a damaged column
none_behind : (range : BlockRange) (is_damaged : Read → Bool) (made : List Read)
    → list_any is_damaged (map (read_behind range) made) ≡ list_any (λ read. is_damaged (read_behind range read)) made
none_behind range is_damaged [] = refl
none_behind range is_damaged (read ∷ made) = ap (λ (b : Bool). is_damaged (read_behind range read) || b) (none_behind range is_damaged made)

-- and which read the same columns
named_behind : (range : BlockRange) (c : Bytes) (made : List Read)
    → list_any (λ r. bytes_eq c r.1) made ≡ list_any (λ r. bytes_eq c r.1) (map (read_behind range) made)
named_behind range c [] = refl
named_behind range c (read ∷ made) = ap (λ (b : Bool). bytes_eq c read.1 || b) (named_behind range c made)

same_columns : (range : BlockRange) (table : Table) (made : List Read) → read_columns (table_within range table) made ≡ read_columns table (map (read_behind range) made)
same_columns range table made =
    let tests : (λ (c : Bytes). list_any (λ (r : Read). bytes_eq c r.1) made) ≡ (λ (c : Bytes). list_any (λ (r : Read). bytes_eq c r.1) (map (read_behind range) made)) =
    λ i c. named_behind range c made i in
    ap (λ (test : Bytes → Bool). filter test (field_names table.columns)) tests

-- the read that failed
failed_there : (range : BlockRange) (failed : Option Read) (read : Read) → read_between range.from range.up_to failed ≡ Some read
    → failed ≡ Some (read_behind range read)
failed_there range None read h = let no : ⊥ = cc in absurd no
failed_there range (Some whole) read h = by (is_between range.from range.up_to whole) refl h
  where
    by : (b : Bool) → is_between range.from range.up_to whole ≡ b → cond b (Some (read_from range.from whole)) None ≡ Some read
        → Some whole ≡ Some (read_behind range read)
    by true inside e =
        let low : range.from ≤ whole.0 = leb-true range.from whole.0 (and_parts (nat_le range.from whole.0) (nat_lt whole.0 range.up_to) inside).0 in
        let same : read_from range.from whole ≡ read = cc in
        let block : whole.0 ≡ range.from + (whole.0 - range.from) = omega (arith, low) in
        (λ i. Some (block i, whole.1)) ∙ ap (λ (r : Read). Some (read_behind range r)) same
    by false inside e = let no : ⊥ = cc in absurd no

-- ---- what is written

part_written : (range : BlockRange) (is_damaged : Read → Bool) (table : Table) (made : List Read) (failed : Option Read) (x y : End) (answer : Answer)
    (result : Result Found Refusal)
    → IsWritten (λ read. is_damaged (read_behind range read)) answer (table_within range table) made (read_between range.from range.up_to failed) x y result
    → IsWritten is_damaged answer table (map (read_behind range) made) failed x y result
part_written range is_damaged table made failed x y answer (Ok found) h =
    let counts : counts_found (table_within range table) made found ≡ counts_found table (map (read_behind range) made) found =
    λ i. record (counts_found table (map (read_behind range) made) found) { columns_read = length (same_columns range table made i) } in
    (h.0, h.1, h.2 ∙ ap Some counts)
part_written range is_damaged table made failed x y answer (Err refusals.StoreFault) h =
    (read_behind range h.0, failed_there range failed h.0 h.1, h.2, h.3)
part_written range is_damaged table made failed x y answer (Err refusal) h = h

part_cause : (range : BlockRange) (a b : StoreSeen) (x y : End) (result : Result Found Refusal)
    → CountsFault result (seen_between range.from range.up_to a) (seen_between range.from range.up_to b) x y → CountsFault result a b x y
part_cause range a b x y (Ok found) h = tt
part_cause range a b x y (Err refusals.StoreFault) h = h
part_cause range a b x y (Err refusals.Unwritten) h = h
part_cause range a b x y (Err refusals.Unread) h = h
part_cause range a b x y (Err _) h = tt

-- ---- the answer over some blocks

within_answer : (range : BlockRange) (zones : Zones) (statement : Bytes) (is_damaged : Read → Bool) (table : Table) → AgreesWith zones table
    → range.up_to ≤ length zones.lengths
    → answer_of_statement (λ read. is_damaged (read_behind range read)) (table_within range table) (zones_within range zones) statement
    ≡ answer_within is_damaged table zones statement range
within_answer range zones statement is_damaged table agrees within =
    let long : length table.blocks ≡ length zones.lengths =
    sym (length-map table.blocks (λ (rows : List Val). length rows)) ∙ ap (λ (ns : List ℕ). length ns) agrees.lengths in
    let inside : is_within (length table.blocks) range ≡ true = le-leb range.up_to (length table.blocks) (omega (arith, long, within)) in
    sym (ap (λ (b : Bool). cond b
    (answer_of_statement (λ read. is_damaged (read_behind range read)) (table_within range table) (zones_within range zones) statement) (refused_with 2)) inside)

-- where it is told
told_within : (range : BlockRange) (zones : Zones) (statement : Bytes) (made : List Read) (failed : Option Read) (x y : End) (result : Result Found Refusal)
    (held : Option Table) → range.up_to ≤ length zones.lengths → WhereTold held (AgreesWith zones)
    → WhereTold (option_map (table_within range) held)
    (λ table. (is_damaged : Read → Bool) → list_any is_damaged made ≡ false
    → IsWritten is_damaged (answer_of_statement is_damaged table (zones_within range zones) statement) table made (read_between range.from range.up_to failed) x y
    result)
    → WhereTold held
    (λ table. (is_damaged : Read → Bool) → list_any is_damaged (map (read_behind range) made) ≡ false
    → IsWritten is_damaged (answer_within is_damaged table zones statement range) table (map (read_behind range) made) failed x y result)
told_within range zones statement made failed x y result None within agrees h = tt
told_within range zones statement made failed x y result (Some table) within agrees h = λ is_damaged clean.
    let damaged : Read → Bool = λ read. is_damaged (read_behind range read) in
    let clean_here : list_any damaged made ≡ false = sym (none_behind range is_damaged made) ∙ clean in
    part_written range is_damaged table made failed x y (answer_within is_damaged table zones statement range) result
    (subst (λ (given : Answer). IsWritten damaged given (table_within range table) made (read_between range.from range.up_to failed) x y result)
    (within_answer range zones statement is_damaged table agrees within) (h damaged clean_here))

-- what is found over a part is found over these blocks
pub part_finds : PartsReadTheirBlocks → (range : BlockRange) (statement : Bytes) (a b : StoreSeen) (x y : End) (result : Result Found Refusal)
    → range.up_to ≤ length a.zones.lengths → WhereTold a.held (AgreesWith a.zones) → MovesBetween range.from range.up_to a b
    → FindsStatement statement (seen_between range.from range.up_to a) (seen_between range.from range.up_to b) x y result → FindsWithin statement range a b x y result
part_finds reads range statement a b x y result within agrees moves h =
    record {
      made = map (read_behind range) h.made;
      grown = reads range.from range.up_to a b h.made moves h.grown;
      lines = h.lines;
      added = h.added;
      cause = part_cause range a b x y result h.cause;
      told = told_within range a.zones statement h.made b.failed x y result a.held within agrees h.told;
    }

-- ---- the answer over all blocks

take_whole : {X : Type 0} (n : ℕ) (xs : List X) → length xs ≤ n → drop 0 (take n xs) ≡ xs
take_whole n xs h = take_all n xs h

-- all blocks are the whole table, with all of its statistics
whole_zones : (n : ℕ) (zones : Zones) → length zones.lengths ≤ n → list_all (counts_blocks zones.lengths) zones.stats ≡ true
    → zones_within (range_or_all n None) zones ≡ zones
whole_zones n zones h k =
    λ i. record { columns = zones.columns; lengths = take_whole n zones.lengths h i; stats = by zones.stats k i }
  where
    by : (zs : List ZoneStat) → list_all (counts_blocks zones.lengths) zs ≡ true
        → (zones_within (range_or_all n None) (record { columns = zones.columns; lengths = zones.lengths; stats = zs })).stats ≡ zs
    by [] g = refl
    by (z ∷ zs) g =
        let parts = and_parts (counts_blocks zones.lengths z) (list_all (counts_blocks zones.lengths) zs) g in
        let long : length z.values ≡ length zones.lengths = eqb-true (length z.values) (length zones.lengths) parts.0 in
        let own : take n z.values ≡ z.values = take_all n z.values (omega (arith, long, h)) in
        λ i. record { path = z.path; stat = z.stat; values = own i } ∷ by zs parts.1 i

whole_table : (n : ℕ) (table : Table) → length table.blocks ≤ n → table_within (range_or_all n None) table ≡ table
whole_table n table h = λ i. record { columns = table.columns; blocks = take_whole n table.blocks h i }

whole_read : (n : ℕ) (read : Read) → read_behind (range_or_all n None) read ≡ read
whole_read n read = let same : 0 + read.0 ≡ read.0 = omega arith in λ i. (same i, read.1)

whole_answer : (zones : Zones) (statement : Bytes) (is_damaged : Read → Bool) (table : Table) → AgreesWith zones table → broken_rule zones ≡ None
    → answer_of_statement is_damaged table zones statement ≡ answer_within is_damaged table zones statement (range_or_all (length table.blocks) None)
whole_answer zones statement is_damaged table agrees rules =
    let n = length table.blocks in
    let range = range_or_all n None in
    let long : n ≡ length zones.lengths =
    sym (length-map table.blocks (λ (rows : List Val). length rows)) ∙ ap (λ (ns : List ℕ). length ns) agrees.lengths in
    let zones_same : zones_within range zones ≡ zones = whole_zones n zones (omega (arith, long)) (follows_rules zones rules).counts in
    let table_same : table_within range table ≡ table = whole_table n table (omega arith) in
    let all : answer_of_statement (λ read. is_damaged (read_behind range read)) (table_within range table) (zones_within range zones) statement
    ≡ answer_of_statement is_damaged table zones statement =
    λ i. answer_of_statement (λ read. is_damaged (whole_read n read i)) (table_same i) (zones_same i) statement in
    sym all ∙ within_answer range zones statement is_damaged table agrees (omega (arith, long))

-- the answer to what asks these blocks
asked_over : (asked : Asked) (blocks : Option BlockRange) (zones : Zones) (table : Table) (is_damaged : Read → Bool) → asked.blocks ≡ blocks
    → answer_within is_damaged table zones asked.statement (range_or_all (length table.blocks) blocks) ≡ answer_of is_damaged table zones asked
unfolding answer_of
asked_over asked blocks zones table is_damaged same =
    ap (λ (o : Option BlockRange). answer_within is_damaged table zones asked.statement (range_or_all (length table.blocks) o)) (sym same)

-- what is found over all blocks is the answer to what asks no blocks
pub whole_finds : (asked : Asked) (a b : StoreSeen) (x y : End) (result : Result Found Refusal) → asked.blocks ≡ None → broken_rule a.zones ≡ None
    → WhereTold a.held (AgreesWith a.zones)
    → FindsAnswer (λ is_damaged table. answer_of_statement is_damaged table a.zones asked.statement) a b x y result → AnswersStore asked a b x y result
whole_finds asked a b x y result none rules agrees h =
    finds_same (λ is_damaged table. answer_of_statement is_damaged table a.zones asked.statement) (λ is_damaged table. answer_of is_damaged table a.zones asked) a b x y
    result
    (told_so a.held (AgreesWith a.zones)
    (λ table. (is_damaged : Read → Bool) → answer_of_statement is_damaged table a.zones asked.statement ≡ answer_of is_damaged table a.zones asked)
    (λ table agree is_damaged. whole_answer a.zones asked.statement is_damaged table agree rules ∙ asked_over asked None a.zones table is_damaged none) agrees)
    h

-- and over these blocks to what asks them
pub range_finds : (asked : Asked) (range : BlockRange) (a b : StoreSeen) (x y : End) (result : Result Found Refusal) → asked.blocks ≡ Some range
    → FindsAnswer (λ is_damaged table. answer_within is_damaged table a.zones asked.statement range) a b x y result → AnswersStore asked a b x y result
range_finds asked range a b x y result some h =
    finds_same (λ is_damaged table. answer_within is_damaged table a.zones asked.statement range) (λ is_damaged table. answer_of is_damaged table a.zones asked) a b x y
    result
    (told_all a.held
    (λ table. (is_damaged : Read → Bool) → answer_within is_damaged table a.zones asked.statement range ≡ answer_of is_damaged table a.zones asked)
    (λ table is_damaged. asked_over asked (Some range) a.zones table is_damaged some))
    h

-- blocks past the end are refused
past_answer : (range : BlockRange) (zones : Zones) (statement : Bytes) (is_damaged : Read → Bool) (table : Table) → AgreesWith zones table
    → length zones.lengths < range.up_to → answer_within is_damaged table zones statement range ≡ refused_with 2
past_answer range zones statement is_damaged table agrees past =
    let long : length table.blocks ≡ length zones.lengths =
    sym (length-map table.blocks (λ (rows : List Val). length rows)) ∙ ap (λ (ns : List ℕ). length ns) agrees.lengths in
    let outside : is_within (length table.blocks) range ≡ false = lt-leb range.up_to (length table.blocks) (omega (arith, long, past)) in
    ap (λ (b : Bool). cond b
    (answer_of_statement (λ read. is_damaged (read_behind range read)) (table_within range table) (zones_within range zones) statement) (refused_with 2)) outside

pub past_finds : (asked : Asked) (range : BlockRange) (told : code.BlockRange) (blocks : ℕ) (a : StoreSeen) (x : End) → asked.blocks ≡ Some range
    → length a.zones.lengths < range.up_to → WhereTold a.held (AgreesWith a.zones) → AnswersStore asked a a x x (Err (refusals.PastEnd told blocks))
past_finds asked range told blocks a x some past agrees =
    range_finds asked range a a x x (Err (refusals.PastEnd told blocks)) some
    (finds_settled (λ is_damaged table. answer_within is_damaged table a.zones asked.statement range) a x 2 (refusals.PastEnd told blocks) refl
    (told_so a.held (AgreesWith a.zones)
    (λ table. (is_damaged : Read → Bool) → answer_within is_damaged table a.zones asked.statement range ≡ refused_with 2)
    (λ table agree is_damaged. past_answer range a.zones asked.statement is_damaged table agree past) agrees))
