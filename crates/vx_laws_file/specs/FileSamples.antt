-- Small tables and their files, written out byte by byte.
use Rattle.std.specs.Prelude.{ℕ, zero, suc, true, false, pos, negsuc, List, [], ◌∷◌, ◌++◌, codes}
use Rattle.vx_dtype.specs.declared.PType.TheVariants.{U8, U32, U64, I16, I32}
use Rattle.vx_dtype.specs.declared.Nullability.TheVariants.{NonNullable, Nullable}
use Rattle.vx_dtype.specs.declared.Stat.TheVariants.{Min, Max, NullCount}
use Rattle.vx_dtype.specs.Types.{Bytes, Ty, bool_ty, int_ty, text_ty, list_ty, struct_ty, Fields, no_fields, field}
use Rattle.vx_dtype.specs.Values.{raw_null, raw_int, raw_text, Val, null_val, bool_val, int_val, text_val, list_val, struct_val, no_vals, val}
use Rattle.vx_dtype.specs.Values.{no_members, member}
use Rattle.vx_dtype.specs.ScalarAnswers.{typed}
use Rattle.vx_column.specs.Columns.{Column, column}
use Rattle.vx_semantics.specs.Tables.{ZoneStat, Zones}
use Rattle.vx_laws_file.specs.FileForms.{Header, FileContent}

-- ---- one column of numbers in two blocks, without statistics

abbrev pub number : Ty
number = int_ty I32 NonNullable

abbrev pub one_column : Fields
one_column = field (codes "x") number no_fields

abbrev pub first_zones : Zones
first_zones = record { columns = one_column; lengths = 2 ∷ 1 ∷ []; stats = [] }

abbrev pub first_blocks : List (List Column)
first_blocks =
    (column number (int_val I32 (pos 1) ∷ int_val I32 (pos 12) ∷ []) ∷ [])
    ∷ (column number (int_val I32 (pos 20) ∷ []) ∷ [])
    ∷ []

-- the mark, the length of the header, and the header
abbrev pub first_front : Bytes
first_front =
    0x56 ∷ 0x58 ∷ 0x42 ∷ 0x4c ∷ 0x4b ∷ 0x30 ∷ 0x30 ∷ 0x31 ∷ 0x0e
    ∷ 0x04 ∷ 0x00 ∷ 0x01 ∷ 0x01 ∷ 0x78 ∷ 0x01 ∷ 0x00 ∷ 0x06 ∷ 0x02 ∷ 0x02 ∷ 0x01 ∷ 0x00 ∷ 0x0a ∷ 0x05 ∷ []

-- the range of the first block, and that of the second
abbrev pub first_range : Bytes
first_range = 0x01 ∷ 0x01 ∷ 0x00 ∷ 0x00 ∷ 0x00 ∷ 0x01 ∷ 0x0c ∷ 0x00 ∷ 0x00 ∷ 0x00 ∷ []

abbrev pub second_range : Bytes
second_range = 0x01 ∷ 0x14 ∷ 0x00 ∷ 0x00 ∷ 0x00 ∷ []

abbrev pub first_file : Bytes
first_file = first_front ++ (first_range ++ second_range)

-- the file with another first byte; without its last byte; with another first byte of its last range
abbrev pub without_mark : Bytes
without_mark =
    0x57 ∷ 0x58 ∷ 0x42 ∷ 0x4c ∷ 0x4b ∷ 0x30 ∷ 0x30 ∷ 0x31 ∷ 0x0e
    ∷ 0x04 ∷ 0x00 ∷ 0x01 ∷ 0x01 ∷ 0x78 ∷ 0x01 ∷ 0x00 ∷ 0x06 ∷ 0x02 ∷ 0x02 ∷ 0x01 ∷ 0x00 ∷ 0x0a ∷ 0x05 ∷ (first_range ++ second_range)

abbrev pub cut_file : Bytes
cut_file = first_front ++ (first_range ++ 0x01 ∷ 0x14 ∷ 0x00 ∷ 0x00 ∷ [])

abbrev pub spoilt_range : Bytes
spoilt_range = 0x02 ∷ 0x14 ∷ 0x00 ∷ 0x00 ∷ 0x00 ∷ []

abbrev pub spoilt_file : Bytes
spoilt_file = first_front ++ (first_range ++ spoilt_range)

abbrev pub spoilt_content : FileContent
spoilt_content = record { zones = first_zones; ranges = (first_range ∷ []) ∷ (spoilt_range ∷ []) ∷ [] }

-- what is held of it: 0 in the place of the damaged value
abbrev pub spoilt_blocks : List (List Column)
spoilt_blocks =
    (column number (int_val I32 (pos 1) ∷ int_val I32 (pos 12) ∷ []) ∷ [])
    ∷ (column number (int_val I32 (pos 0) ∷ []) ∷ [])
    ∷ []

-- ---- two columns of one name

abbrev pub doubled_header : Header
doubled_header = record {
  zones = record { columns = field (codes "x") number (field (codes "x") number no_fields); lengths = []; stats = [] };
  range_lengths = [];
}

abbrev pub doubled_file : Bytes
doubled_file =
    0x56 ∷ 0x58 ∷ 0x42 ∷ 0x4c ∷ 0x4b ∷ 0x30 ∷ 0x30 ∷ 0x31 ∷ 0x0f
    ∷ 0x04 ∷ 0x00 ∷ 0x02 ∷ 0x01 ∷ 0x78 ∷ 0x01 ∷ 0x00 ∷ 0x06 ∷ 0x01 ∷ 0x78 ∷ 0x01 ∷ 0x00 ∷ 0x06 ∷ 0x00 ∷ 0x00 ∷ []

-- ---- the mark, and the number of a header's bytes that don't follow

abbrev pub headless_file : Bytes
headless_file = 0x56 ∷ 0x58 ∷ 0x42 ∷ 0x4c ∷ 0x4b ∷ 0x30 ∷ 0x30 ∷ 0x31 ∷ 0x01 ∷ []

-- ---- the limits of a header: the rows of one block, and a column whose type is so many lists in one another

abbrev pub header_of_rows : ℕ → Header
header_of_rows n = record { zones = record { columns = no_fields; lengths = n ∷ []; stats = [] }; range_lengths = [] ∷ [] }

abbrev pub lists_in_lists : ℕ → Ty
lists_in_lists zero = bool_ty NonNullable
lists_in_lists (suc n) = list_ty (lists_in_lists n) NonNullable

abbrev pub header_of_lists : ℕ → Header
header_of_lists n = record { zones = record { columns = field (codes "x") (lists_in_lists n) no_fields; lengths = []; stats = [] }; range_lengths = [] }

-- ---- rows without columns

abbrev pub bare_zones : Zones
bare_zones = record { columns = no_fields; lengths = 3 ∷ []; stats = [] }

abbrev pub bare_file : Bytes
bare_file = 0x56 ∷ 0x58 ∷ 0x42 ∷ 0x4c ∷ 0x4b ∷ 0x30 ∷ 0x30 ∷ 0x31 ∷ 0x06 ∷ 0x04 ∷ 0x00 ∷ 0x00 ∷ 0x01 ∷ 0x03 ∷ 0x00 ∷ []

-- ---- a struct of each kind of value, none of which may be null, and what stands in the place of one that is damaged

abbrev pub no_nulls : Ty
no_nulls =
    struct_ty (field (codes "b") (bool_ty NonNullable) (field (codes "n") (int_ty U8 NonNullable) (field (codes "s") (text_ty NonNullable)
    (field (codes "l") (list_ty number Nullable) (field (codes "m") (list_ty number NonNullable) no_fields))))) NonNullable

abbrev pub no_nulls_filler : Val
no_nulls_filler =
    struct_val (member (codes "b") (bool_val false) (member (codes "n") (int_val U8 (pos 0)) (member (codes "s") (text_val [])
    (member (codes "l") null_val (member (codes "m") (list_val no_vals) no_members)))))

-- ---- a column of each kind, with nulls and statistics, in three blocks, one of which is empty

abbrev pub list_type : Ty
list_type = list_ty (int_ty U8 Nullable) NonNullable

abbrev pub struct_type : Ty
struct_type = struct_ty (field (codes "p") (int_ty U32 NonNullable) no_fields) Nullable

abbrev pub each_kind : Fields
each_kind =
    field (codes "b") (bool_ty Nullable)
    (field (codes "n") (int_ty I16 NonNullable) (field (codes "s") (text_ty Nullable) (field (codes "l") list_type (field (codes "t") struct_type no_fields))))

abbrev pub least_numbers : ZoneStat
least_numbers = record {
  path = codes "n" ∷ [];
  stat = Min;
  values = typed (int_ty I16 Nullable) (raw_int (negsuc 1)) ∷ typed (int_ty I16 Nullable) raw_null ∷ typed (int_ty I16 Nullable) (raw_int (pos 5)) ∷ [];
}

abbrev pub null_counts : ZoneStat
null_counts = record {
  path = codes "t" ∷ codes "p" ∷ [];
  stat = NullCount;
  values = typed (int_ty U64 Nullable) (raw_int (pos 1)) ∷ typed (int_ty U64 Nullable) (raw_int (pos 0)) ∷ typed (int_ty U64 Nullable) raw_null ∷ [];
}

abbrev pub greatest_texts : ZoneStat
greatest_texts = record {
  path = codes "s" ∷ [];
  stat = Max;
  values = typed (text_ty Nullable) (raw_text (0xc3 ∷ 0xa9 ∷ [])) ∷ typed (text_ty Nullable) raw_null ∷ typed (text_ty Nullable) (raw_text []) ∷ [];
}

abbrev pub kinds_zones : Zones
kinds_zones = record { columns = each_kind; lengths = 2 ∷ 0 ∷ 1 ∷ []; stats = least_numbers ∷ null_counts ∷ greatest_texts ∷ [] }

abbrev pub with_p : ℕ → Val
with_p n = struct_val (member (codes "p") (int_val U32 (pos n)) no_members)

-- the columns of a block of these values
abbrev pub kinds_block : List Val → List Val → List Val → List Val → List Val → List Column
kinds_block bs ns ss ls ts =
    column (bool_ty Nullable) bs ∷ column (int_ty I16 NonNullable) ns ∷ column (text_ty Nullable) ss ∷ column list_type ls ∷ column struct_type ts ∷ []

abbrev pub kinds_blocks : List (List Column)
kinds_blocks =
    kinds_block (bool_val true ∷ null_val ∷ []) (int_val I16 (negsuc 1) ∷ int_val I16 (pos 300) ∷ []) (text_val (0xc3 ∷ 0xa9 ∷ []) ∷ null_val ∷ [])
    (list_val (val (int_val U8 (pos 1)) (val null_val no_vals)) ∷ list_val no_vals ∷ []) (with_p 7 ∷ null_val ∷ [])
    ∷ kinds_block [] [] [] [] []
    ∷ kinds_block (bool_val false ∷ []) (int_val I16 (pos 5) ∷ []) (text_val [] ∷ []) (list_val (val (int_val U8 (pos 255)) no_vals) ∷ [])
    (with_p 4294967295 ∷ [])
    ∷ []

-- the mark and the length of the header, the columns, the lengths of the blocks
abbrev pub kinds_columns : Bytes
kinds_columns =
    0x56 ∷ 0x58 ∷ 0x42 ∷ 0x4c ∷ 0x4b ∷ 0x30 ∷ 0x30 ∷ 0x31 ∷ 0x64
    ∷ 0x04 ∷ 0x00 ∷ 0x05
    ∷ 0x01 ∷ 0x62 ∷ 0x00 ∷ 0x01
    ∷ 0x01 ∷ 0x6e ∷ 0x01 ∷ 0x00 ∷ 0x05
    ∷ 0x01 ∷ 0x73 ∷ 0x02 ∷ 0x01
    ∷ 0x01 ∷ 0x6c ∷ 0x03 ∷ 0x00 ∷ 0x01 ∷ 0x01 ∷ 0x00
    ∷ 0x01 ∷ 0x74 ∷ 0x04 ∷ 0x01 ∷ 0x01 ∷ 0x01 ∷ 0x70 ∷ 0x01 ∷ 0x00 ∷ 0x02
    ∷ 0x03 ∷ 0x02 ∷ 0x00 ∷ 0x01 ∷ []

-- the statistics: the least of `n`, the nulls of `t.p`, the greatest of `s`; then the lengths of the ranges
abbrev pub kinds_statistics : Bytes
kinds_statistics =
    0x03
    ∷ 0x01 ∷ 0x01 ∷ 0x6e ∷ 0x00 ∷ 0x01 ∷ 0xfe ∷ 0xff ∷ 0x00 ∷ 0x01 ∷ 0x05 ∷ 0x00
    ∷ 0x02 ∷ 0x01 ∷ 0x74 ∷ 0x01 ∷ 0x70 ∷ 0x02
    ∷ 0x01 ∷ 0x01 ∷ 0x00 ∷ 0x00 ∷ 0x00 ∷ 0x00 ∷ 0x00 ∷ 0x00 ∷ 0x00
    ∷ 0x01 ∷ 0x00 ∷ 0x00 ∷ 0x00 ∷ 0x00 ∷ 0x00 ∷ 0x00 ∷ 0x00 ∷ 0x00
    ∷ 0x00
    ∷ 0x01 ∷ 0x01 ∷ 0x73 ∷ 0x01 ∷ 0x01 ∷ 0x02 ∷ 0xc3 ∷ 0xa9 ∷ 0x00 ∷ 0x01 ∷ 0x00
    ∷ 0x03 ∷ 0x06 ∷ 0x05 ∷ 0x07 ∷ 0x07
    ∷ 0x00 ∷ 0x00 ∷ 0x00 ∷ 0x00 ∷ 0x00
    ∷ 0x02 ∷ 0x03 ∷ 0x02 ∷ 0x04 ∷ 0x06 ∷ []

-- the ranges, a line for each that isn't empty
abbrev pub kinds_ranges : Bytes
kinds_ranges =
    0x01 ∷ 0x01 ∷ 0x00
    ∷ 0x01 ∷ 0xfe ∷ 0xff ∷ 0x01 ∷ 0x2c ∷ 0x01
    ∷ 0x01 ∷ 0x02 ∷ 0xc3 ∷ 0xa9 ∷ 0x00
    ∷ 0x01 ∷ 0x02 ∷ 0x01 ∷ 0x01 ∷ 0x00 ∷ 0x01 ∷ 0x00
    ∷ 0x01 ∷ 0x01 ∷ 0x07 ∷ 0x00 ∷ 0x00 ∷ 0x00 ∷ 0x00
    ∷ 0x01 ∷ 0x00
    ∷ 0x01 ∷ 0x05 ∷ 0x00
    ∷ 0x01 ∷ 0x00
    ∷ 0x01 ∷ 0x01 ∷ 0x01 ∷ 0xff
    ∷ 0x01 ∷ 0x01 ∷ 0xff ∷ 0xff ∷ 0xff ∷ 0xff ∷ []

abbrev pub kinds_file : Bytes
kinds_file = kinds_columns ++ (kinds_statistics ++ kinds_ranges)
