-- How a part of a store is seen, before a call of the store and behind it.
use Rattle.std.proofs.Common.{◌≡◌, refl, ap, sym, ◌∙◌, subst, inl, inr, ℕ, ◌+◌, ◌-◌, ◌<◌, ◌≤◌, true, cond, nat_le, nat_lt, Option, Some, None, option_map, List, [], ◌∷◌, ◌++◌, map, length, take, drop, Result, Ok, Err, arith}
use Rattle.std.specs.List.{filter}
use Rattle.std.proofs.lemmas.Bool.{and_from, le-leb, lt-ltb}
use Rattle.std.proofs.lemmas.List.{append-nil, map-append, drop-map, take-map}
use Rattle.std.proofs.lemmas.List.Elements.{filter-append}
use Rattle.vx_dtype.specs.Types.{Bytes}
use Rattle.vx_dtype.specs.Values.{Val}
use Rattle.vx_dtype.specs.Structs.{field_of}
use Rattle.vx_column.specs.Columns.{Column, rows_fit}
use Rattle.vx_column.specs.declared.columns.ColumnRef.{ColumnRef}
use Rattle.vx_semantics.specs.Tables.{Table, Zones, row_type}
use Rattle.vx_scan.specs.Stores.{Read, StoreSeen, WhereTold, AgreesWith, AreHeld, IsSameStore, IsColumnOf, Reads}
use Rattle.vx_scan.specs.declared.errors.StoreError.{StoreError}
use Rattle.vx_scan.specs.declared.errors.StoreError.TheVariants as errors
use Rattle.vx_block_parts.specs.Parts.{zones_between, table_between, is_between, read_from, reads_between, read_between, seen_between, IsPartOf}
use Rattle.vx_block_parts.specs.PartMoves.{MovesBetween}
use Rattle.vx_block_parts.proofs.SliceLemmas.{length_between, get_between, all_between}

-- ---- reads of these blocks

is_within : (from up_to block : ℕ) (name : Bytes) → from + block < up_to → is_between from up_to (from + block, name) ≡ true
is_within from up_to block name h =
    and_from (nat_le from (from + block)) (nat_lt (from + block) up_to) (le-leb from (from + block) (omega arith)) (lt-ltb (from + block) up_to h)

read_again : (from block : ℕ) (name : Bytes) → read_from from (from + block, name) ≡ (block, name)
read_again from block name = let same : from + block - from ≡ block = omega arith in λ i. (same i, name)

pub log_grows : (from up_to : ℕ) (log made : List Read) → reads_between from up_to (log ++ made) ≡ reads_between from up_to log ++ reads_between from up_to made
log_grows from up_to log made =
    ap (map (read_from from)) (filter-append (is_between from up_to) log made)
    ∙ map-append (read_from from) (filter (is_between from up_to) log) (filter (is_between from up_to) made)

one_read : (from up_to block : ℕ) (name : Bytes) → from + block < up_to → reads_between from up_to ((from + block, name) ∷ []) ≡ (block, name) ∷ []
one_read from up_to block name h =
    let read : Read = (from + block, name) in
    (λ i. map (read_from from) (cond (is_within from up_to block name h i) (read ∷ []) [])) ∙ (λ i. read_again from block name i ∷ [])

failed_read : (from up_to block : ℕ) (name : Bytes) → from + block < up_to → read_between from up_to (Some (from + block, name)) ≡ Some (block, name)
failed_read from up_to block name h =
    let read : Read = (from + block, name) in
    (λ i. cond (is_within from up_to block name h i) (Some (read_from from read)) None) ∙ (λ i. Some (read_again from block name i))

-- ---- a read of the store, as one of the part

pub same_between : (from up_to : ℕ) (s t : StoreSeen) → IsSameStore s t → IsSameStore (seen_between from up_to s) (seen_between from up_to t)
same_between from up_to s t h = record {
  zones = ap (zones_between from up_to) h.zones;
  held = ap (option_map (table_between from up_to)) h.held;
  faultless = h.faultless;
  later = h.later;
  quiet = h.quiet;
}

held_rows : (from up_to block : ℕ) (name : Bytes) (rows : List Val) (held : Option Table) → from + block < up_to → WhereTold held (AreHeld (from + block) name rows)
    → WhereTold (option_map (table_between from up_to) held) (AreHeld block name rows)
held_rows from up_to block name rows None h k = tt
held_rows from up_to block name rows (Some table) h k = ap (option_map (map (field_of name))) (get_between from up_to block table.blocks h) ∙ k

column_between : (from up_to block : ℕ) (name : Bytes) (s : StoreSeen) (c : Column) → from + block < up_to → IsColumnOf s (from + block) name c
    → IsColumnOf (seen_between from up_to s) block name c
column_between from up_to block name s c h k =
    record { ty = k.ty; len = get_between from up_to block s.zones.lengths h ∙ k.len; rows = held_rows from up_to block name c.rows s.held h k.rows }

pub part_reads : (from up_to block : ℕ) (name : Bytes) (s t : StoreSeen) (answer : Result ColumnRef StoreError) → from + block < up_to
    → Reads s t (from + block) name answer → Reads (seen_between from up_to s) (seen_between from up_to t) block name answer
part_reads from up_to block name s t (Ok c) h k =
    let read : Read = (from + block, name) in (
      column_between from up_to block name s c h k.0,
      ap (reads_between from up_to) k.1 ∙ log_grows from up_to s.log (read ∷ [])
          ∙ ap (λ (rs : List Read). reads_between from up_to s.log ++ rs) (one_read from up_to block name h),
      ap (read_between from up_to) k.2,
    )
part_reads from up_to block name s t (Err errors.Failed) h k =
    (k.0, ap (reads_between from up_to) k.1, ap (read_between from up_to) k.2 ∙ failed_read from up_to block name h)
part_reads from up_to block name s t (Err errors.NoMemory) h k = (ap (reads_between from up_to) k.0, ap (read_between from up_to) k.1)

pub read_moves : (from up_to block : ℕ) (name : Bytes) (s t : StoreSeen) (answer : Result ColumnRef StoreError) → from + block < up_to → IsSameStore s t
    → Reads s t (from + block) name answer → MovesBetween from up_to s t
read_moves from up_to block name s t (Ok c) h same k =
    let read : Read = (from + block, name) in
    record { same = same; made = read ∷ []; grown = k.1; between = and_from (is_between from up_to read) true (is_within from up_to block name h) refl; failed = inl k.2 }
read_moves from up_to block name s t (Err errors.Failed) h same k =
    let read : Read = (from + block, name) in
    record { same = same; made = []; grown = k.1 ∙ sym (append-nil s.log); between = refl; failed = inr (read, k.2, is_within from up_to block name h) }
read_moves from up_to block name s t (Err errors.NoMemory) h same k =
    record { same = same; made = []; grown = k.0 ∙ sym (append-nil s.log); between = refl; failed = inl k.1 }

-- ---- the blocks of a part

pub block_there : (from up_to block : ℕ) (zones : Zones) → up_to ≤ length zones.lengths → block < length (zones_between from up_to zones).lengths
    → from + block < up_to
block_there from up_to block zones within h = omega (arith, length_between from up_to zones.lengths within, h)

pub agrees_between : (from up_to : ℕ) (held : Option Table) (zones : Zones) → WhereTold held (AgreesWith zones)
    → WhereTold (option_map (table_between from up_to) held) (AgreesWith (zones_between from up_to zones))
agrees_between from up_to None zones h = tt
agrees_between from up_to (Some table) zones h = record {
  columns = h.columns;
  lengths =
      sym (drop-map length from (take up_to table.blocks)) ∙ ap (drop from) (sym (take-map length up_to table.blocks))
      ∙ ap (λ (ns : List ℕ). drop from (take up_to ns)) h.lengths;
  fit = all_between (rows_fit (row_type zones.columns)) from up_to table.blocks h.fit;
}

-- the part is one of the store behind a call too
pub still_part : (from up_to : ℕ) (own : Zones) (s t : StoreSeen) → IsSameStore s t → IsPartOf from up_to own s → IsPartOf from up_to own t
still_part from up_to own s t same h = record {
  order = h.order;
  within = subst (λ (zones : Zones). up_to ≤ length zones.lengths) (sym same.zones) h.within;
  zones = h.zones ∙ ap (zones_between from up_to) (sym same.zones);
  agrees =
      subst (λ (zones : Zones). WhereTold t.held (AgreesWith zones)) (sym same.zones)
      (subst (λ (held : Option Table). WhereTold held (AgreesWith s.zones)) (sym same.held) h.agrees);
}
