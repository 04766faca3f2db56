-- Blocks that are put into parts.
use Rattle.std.proofs.Common.{◌≡◌, refl, sym, ap, ◌∙◌, subst, ℕ, ◌+◌, ◌<◌, ◌≤◌, nat_le, Bool, true, false, cond, ◌&&◌, List, [], ◌∷◌, ◌++◌, map, length, flat_map, Result, Ok, Err, IfOk, le-leb, arith}
use Rattle.std.proofs.lemmas.Bool.{and_parts, lt-leb}
use Rattle.std.proofs.lemmas.List.{append_assoc, length-map}
use Rattle.std.specs.List.{AllByRecursion, list_all, sum}
use Rattle.vx_dtype.specs.TypeRules.{field_names}
use Rattle.vx_dtype.specs.StructTypes.{field_types}
use Rattle.vx_column.specs.Columns.{Column}
use Rattle.vx_semantics.specs.Tables.{Zones}
use Rattle.vx_tables.specs.Blocks.{block_long, block_typed, blocks_long}
use Rattle.vx_cutting.specs.CutLaws.{IsTable}
use Rattle.vx_cutting.specs.Cutting.{bare_zones}
use Rattle.vx_cutting.specs.Parting.{Part, no_block, and_block, parts_behind, Parted, table_of_part, Puts, PartsAreTheTable}

-- a block that a part has room for, and one that begins another part
pub puts_in : (most : ℕ) (zones : Zones) (whole : List Parted) (part : Part) (n : ℕ) (block : List Column) → sum part.lengths + n ≤ most
    → Puts most zones whole part n block whole (and_block part n block)
unfolding parts_behind
puts_in most zones whole part n block fits = λ ns blocks.
    ap (λ (b : Bool). whole ++ map (table_of_part zones) (cond b (parts_behind most (and_block part n block) ns blocks) (part ∷ parts_behind most (and_block no_block n block) ns blocks)))
    (le-leb (sum part.lengths + n) most fits)

pub puts_behind : (most : ℕ) (zones : Zones) (whole : List Parted) (part : Part) (n : ℕ) (block : List Column) → most < sum part.lengths + n
    → Puts most zones whole part n block (whole ++ table_of_part zones part ∷ []) (and_block no_block n block)
unfolding parts_behind
puts_behind most zones whole part n block past = λ ns blocks.
    ap (λ (b : Bool). whole ++ map (table_of_part zones) (cond b (parts_behind most (and_block part n block) ns blocks) (part ∷ parts_behind most (and_block no_block n block) ns blocks)))
    (lt-leb (sum part.lengths + n) most past)
    ∙ sym (append_assoc whole (table_of_part zones part ∷ []) (map (table_of_part zones) (parts_behind most (and_block no_block n block) ns blocks)))

-- no block behind a part
pub none_behind : (most : ℕ) (part : Part) → parts_behind most part [] [] ≡ part ∷ []
unfolding parts_behind
none_behind most part = refl

-- what is made, where something is
pub if_made : {X E : Type 0} (P Q : X → Type 0) (r : Result X E) → ((x : X) → P x → Q x) → IfOk r P → IfOk r Q
if_made P Q (Ok x) step h = step x h
if_made P Q (Err e) step h = tt

-- ---- the law

-- what is made of blocks behind a part is those blocks and the part's own
parts_are : (most : ℕ) (zones : Zones) (width : ℕ) (part : Part) (ns : List ℕ) (blocks : List (List Column)) → blocks_long width ns blocks ≡ true
    → (flat_map (λ (p : Parted). p.zones.lengths) (map (table_of_part zones) (parts_behind most part ns blocks)) ≡ part.lengths ++ ns)
    × (flat_map (λ (p : Parted). p.blocks) (map (table_of_part zones) (parts_behind most part ns blocks)) ≡ part.blocks ++ blocks)
unfolding parts_behind
parts_are most zones width part [] [] long = (refl, refl)
parts_are most zones width part [] (block ∷ blocks) long = let no : ⊥ = cc in absurd no
parts_are most zones width part (n ∷ ns) [] long = let no : ⊥ = cc in absurd no
parts_are most zones width part (n ∷ ns) (block ∷ blocks) long =
    let left = (and_parts (block_long width n block) (blocks_long width ns blocks) long).1 in
    either (nat_le (sum part.lengths + n) most) (parts_are most zones width (and_block part n block) ns blocks left)
    (parts_are most zones width (and_block no_block n block) ns blocks left)
  where
    lengths_of : List Part → List ℕ
    lengths_of parts = flat_map (λ (p : Parted). p.zones.lengths) (map (table_of_part zones) parts)

    blocks_of : List Part → List (List Column)
    blocks_of parts = flat_map (λ (p : Parted). p.blocks) (map (table_of_part zones) parts)

    either : (b : Bool)
        → (lengths_of (parts_behind most (and_block part n block) ns blocks) ≡ (part.lengths ++ n ∷ []) ++ ns)
        × (blocks_of (parts_behind most (and_block part n block) ns blocks) ≡ (part.blocks ++ block ∷ []) ++ blocks)
        → (lengths_of (parts_behind most (and_block no_block n block) ns blocks) ≡ n ∷ ns)
        × (blocks_of (parts_behind most (and_block no_block n block) ns blocks) ≡ block ∷ blocks)
        → (lengths_of (cond b (parts_behind most (and_block part n block) ns blocks) (part ∷ parts_behind most (and_block no_block n block) ns blocks)) ≡ part.lengths ++ n ∷ ns)
        × (blocks_of (cond b (parts_behind most (and_block part n block) ns blocks) (part ∷ parts_behind most (and_block no_block n block) ns blocks)) ≡ part.blocks ++ block ∷ blocks)
    either true with_it begun = (with_it.0 ∙ append_assoc part.lengths (n ∷ []) ns, with_it.1 ∙ append_assoc part.blocks (block ∷ []) blocks)
    either false with_it begun = (ap (λ (ms : List ℕ). part.lengths ++ ms) begun.0, ap (λ (bs : List (List Column)). part.blocks ++ bs) begun.1)

-- each part is a table where the blocks are one
abbrev IsWhole : ℕ → Zones → Part → Type 0
IsWhole width zones part = (blocks_long width part.lengths part.blocks ≡ true) × (list_all (block_typed (field_types zones.columns)) part.blocks ≡ true)

long_push : (width : ℕ) (ns : List ℕ) (blocks : List (List Column)) (n : ℕ) (block : List Column) → blocks_long width ns blocks ≡ true → block_long width n block ≡ true
    → blocks_long width (ns ++ n ∷ []) (blocks ++ block ∷ []) ≡ true
long_push width [] [] n block h k = ap (λ (b : Bool). b && true) k
long_push width [] (c ∷ blocks) n block h k = let no : ⊥ = cc in absurd no
long_push width (m ∷ ns) [] n block h k = let no : ⊥ = cc in absurd no
long_push width (m ∷ ns) (c ∷ blocks) n block h k =
    let both = and_parts (block_long width m c) (blocks_long width ns blocks) h in
    ap (λ (b : Bool). b && blocks_long width (ns ++ n ∷ []) (blocks ++ block ∷ [])) both.0 ∙ long_push width ns blocks n block both.1 k

typed_push : (zones : Zones) (blocks : List (List Column)) (block : List Column) → list_all (block_typed (field_types zones.columns)) blocks ≡ true
    → block_typed (field_types zones.columns) block ≡ true → list_all (block_typed (field_types zones.columns)) (blocks ++ block ∷ []) ≡ true
typed_push zones [] block h k = ap (λ (b : Bool). b && true) k
typed_push zones (c ∷ blocks) block h k =
    let both = and_parts (block_typed (field_types zones.columns) c) (list_all (block_typed (field_types zones.columns)) blocks) h in
    ap (λ (b : Bool). b && list_all (block_typed (field_types zones.columns)) (blocks ++ block ∷ [])) both.0 ∙ typed_push zones blocks block both.1 k

abbrev AreTables : Zones → List Part → Type 0
AreTables zones parts = AllByRecursion (λ (p : Parted). IsTable p.zones p.blocks) (map (table_of_part zones) parts)

part_table : (zones : Zones) (part : Part) → IsWhole (length (field_names zones.columns)) zones part → IsTable (bare_zones zones part.lengths) part.blocks
part_table zones part is = record { lengths = is.0; types = is.1 }

each_table : (most : ℕ) (zones : Zones) (part : Part) (ns : List ℕ) (blocks : List (List Column)) → IsWhole (length (field_names zones.columns)) zones part
    → blocks_long (length (field_names zones.columns)) ns blocks ≡ true → list_all (block_typed (field_types zones.columns)) blocks ≡ true
    → AreTables zones (parts_behind most part ns blocks)
unfolding parts_behind
each_table most zones part [] blocks is long typed = (part_table zones part is, tt)
each_table most zones part (n ∷ ns) [] is long typed = (part_table zones part is, tt)
each_table most zones part (n ∷ ns) (block ∷ blocks) is long typed =
    let width = length (field_names zones.columns) in
    let lengths = and_parts (block_long width n block) (blocks_long width ns blocks) long in
    let types = and_parts (block_typed (field_types zones.columns) block) (list_all (block_typed (field_types zones.columns)) blocks) typed in
    either (nat_le (sum part.lengths + n) most)
    (each_table most zones (and_block part n block) ns blocks
    (long_push width part.lengths part.blocks n block is.0 lengths.0, typed_push zones part.blocks block is.1 types.0) lengths.1 types.1)
    (each_table most zones (and_block no_block n block) ns blocks (long_push width [] [] n block refl lengths.0, typed_push zones [] block refl types.0) lengths.1 types.1)
  where
    either : (b : Bool) → AreTables zones (parts_behind most (and_block part n block) ns blocks) → AreTables zones (parts_behind most (and_block no_block n block) ns blocks)
        → AreTables zones (cond b (parts_behind most (and_block part n block) ns blocks) (part ∷ parts_behind most (and_block no_block n block) ns blocks))
    either true with_it begun = with_it
    either false with_it begun = (part_table zones part is, begun)

some_part : (most : ℕ) (part : Part) (ns : List ℕ) (blocks : List (List Column)) → 0 < length (parts_behind most part ns blocks)
unfolding parts_behind
some_part most part [] blocks = omega arith
some_part most part (n ∷ ns) [] = omega arith
some_part most part (n ∷ ns) (block ∷ blocks) =
    either (nat_le (sum part.lengths + n) most) (parts_behind most (and_block part n block) ns blocks)
    (parts_behind most (and_block no_block n block) ns blocks) (some_part most (and_block part n block) ns blocks)
  where
    either : (b : Bool) (with_it begun : List Part) → 0 < length with_it → 0 < length (cond b with_it (part ∷ begun))
    either true with_it begun h = h
    either false with_it begun h = omega arith

each_column : (zones : Zones) (parts : List Part) → AllByRecursion (λ (p : Parted). p.zones.columns ≡ zones.columns) (map (table_of_part zones) parts)
each_column zones [] = tt
each_column zones (part ∷ parts) = (refl, each_column zones parts)

pub parts_are_the_table : PartsAreTheTable
parts_are_the_table most zones blocks is =
    let are = parts_are most zones (length (field_names zones.columns)) no_block zones.lengths blocks is.lengths in
    record {
      columns = each_column zones (parts_behind most no_block zones.lengths blocks);
      lengths = are.0;
      blocks_are = are.1;
      some = subst (λ (n : ℕ). 0 < n) (sym (length-map (parts_behind most no_block zones.lengths blocks) (table_of_part zones)))
          (some_part most no_block zones.lengths blocks);
      tables = each_table most zones no_block zones.lengths blocks (refl, refl) is.lengths is.types;
    }
