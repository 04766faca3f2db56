-- A catalog of goods in eight blocks of two rows: the table of the larger worked scan.
use Rattle.std.specs.Prelude.{ℕ, pos, true, false, List, [], ◌∷◌, map, codes}
use Prim.Native.String.{String}
use Rattle.vx_dtype.specs.declared.PType.TheVariants.{U32, U64, I64}
use Rattle.vx_dtype.specs.declared.Nullability.TheVariants.{NonNullable, Nullable}
use Rattle.vx_dtype.specs.declared.Stat.TheVariants.{Max}
use Rattle.vx_dtype.specs.Types.{Bytes, bool_ty, int_ty, text_ty, list_ty, struct_ty, Fields, no_fields, field}
use Rattle.vx_dtype.specs.Values.{Val, null_val, bool_val, int_val, text_val, list_val, struct_val, no_vals, no_members, member}
use Rattle.vx_expr.specs.declared.Operator.TheVariants.{Eq, Gte, And}
use Rattle.vx_expr.specs.declared.FieldSelection.TheVariants.{Include}
use Rattle.vx_expr.specs.Trees.{Tree, root, get_item, like, merge, select, no_trees, tree}
use Rattle.vx_semantics.specs.Tables.{Table, ZoneStat}
use Rattle.vx_worked_examples.specs.Samples.{col, number, quoted, ◌⟨◌⟩◌, bounds, statistic}

-- the columns: a number, a name, a price, tags, an address of city and zip code, and whether it is on sale
abbrev pub catalog_columns : Fields
catalog_columns =
    field (codes "id") (int_ty U64 NonNullable)
    (field (codes "name") (text_ty Nullable)
    (field (codes "price") (int_ty I64 NonNullable)
    (field (codes "tags") (list_ty (text_ty NonNullable) NonNullable)
    (field (codes "address") (struct_ty (field (codes "city") (text_ty Nullable) (field (codes "zip") (int_ty U32 NonNullable) no_fields)) NonNullable)
    (field (codes "active") (bool_ty NonNullable) no_fields)))))

-- a text as a value
abbrev pub words : String → Val
words s = text_val (codes s)

-- a row: its number (the zip code too), its name, its price and its city; no tags, on sale
abbrev pub listing : ℕ → Val → ℕ → Val → Val
listing id name price city =
    struct_val
    (member (codes "id") (int_val U64 (pos id))
    (member (codes "name") name
    (member (codes "price") (int_val I64 (pos price))
    (member (codes "tags") (list_val no_vals)
    (member (codes "address") (struct_val (member (codes "city") city (member (codes "zip") (int_val U32 (pos id)) no_members)))
    (member (codes "active") (bool_val true) no_members))))))

-- the catalog
abbrev pub catalog : Table
catalog = record {
  columns = catalog_columns;
  blocks =
      (listing 1 (words "anna") 50 (words "Oslo") ∷ listing 2 (words "bob") 90 (words "Rome") ∷ [])
      ∷ (listing 3 (words "alex") 100 (words "Oslo") ∷ listing 4 (words "amy") 250 (words "Bonn") ∷ [])
      ∷ (listing 5 (null_val) 300 (words "Oslo") ∷ listing 6 (words "ann") 120 (words "Oslo") ∷ [])
      ∷ (listing 7 (words "carl") 400 (words "Oslo") ∷ listing 8 (words "ada") 99 (words "Oslo") ∷ [])
      ∷ (listing 9 (words "abe") 10 (words "Oslo") ∷ listing 10 (words "al") 20 (words "Oslo") ∷ [])
      ∷ (listing 11 (words "eve") 500 (words "Rome") ∷ listing 12 (words "axel") 150 (null_val) ∷ [])
      ∷ (listing 13 (words "arne") 700 (words "Oslo") ∷ listing 14 (words "Anna") 800 (words "Oslo") ∷ [])
      ∷ (listing 15 (words "zoe") 100 (words "Oslo") ∷ listing 16 (words "aki") 1000 (words "Oslo") ∷ [])
      ∷ [];
}

-- the greatest price of each block
abbrev pub catalog_statistics : List ZoneStat
catalog_statistics = statistic ("price" ∷ []) Max (bounds I64 (map pos (90 ∷ 250 ∷ 300 ∷ 400 ∷ 20 ∷ 500 ∷ 800 ∷ 1000 ∷ []))) ∷ []

-- what costs at least a hundred, has a name that begins with a small a, and lies in Oslo
abbrev pub dear_in_oslo : Tree
dear_in_oslo =
    ((col "price" ⟨ Gte ⟩ number I64 (pos 100)) ⟨ And ⟩ like (col "name") (quoted "a%") false false)
    ⟨ And ⟩ (get_item (codes "city") (col "address") ⟨ Eq ⟩ quoted "Oslo")

-- number, name and city of the row and its address together
abbrev pub brief : Tree
brief = select (Include (codes "id" ∷ codes "name" ∷ codes "city" ∷ [])) (merge (tree root (tree (col "address") no_trees)) NonNullable)

-- their types
abbrev pub brief_columns : Fields
brief_columns = field (codes "id") (int_ty U64 NonNullable) (field (codes "name") (text_ty Nullable) (field (codes "city") (text_ty Nullable) no_fields))

-- a row of the answer
abbrev pub brief_of : ℕ → String → String → Val
brief_of id name city =
    struct_val (member (codes "id") (int_val U64 (pos id)) (member (codes "name") (words name) (member (codes "city") (words city) no_members)))

-- the reads of a block: the filter's three columns, and with the projection's one
abbrev pub filter_reads : ℕ → List (ℕ × Bytes)
filter_reads b = (b, codes "name") ∷ (b, codes "price") ∷ (b, codes "address") ∷ []

abbrev pub all_reads : ℕ → List (ℕ × Bytes)
all_reads b = (b, codes "name") ∷ (b, codes "price") ∷ (b, codes "address") ∷ (b, codes "id") ∷ []
