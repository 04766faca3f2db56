-- The bytes of both expressions are written, and read again.
use Rattle.std.proofs.Common.{◌≡◌, refl, ℕ, zero, suc, ◌/◌, ◌^◌, ◌<◌, ◌≤◌, true, length, pos, arith, rules, IsAscii}
use Rattle.std.specs.Str.{is_utf8}
use Rattle.std.proofs.lemmas.Str.{is_utf8-from_IsUtf8, IsUtf8-from_ascii}
use Rattle.vx_dtype.specs.declared.PType.{PType}
use Rattle.vx_dtype.specs.declared.Nullability.TheVariants.{NonNullable}
use Rattle.vx_dtype.specs.Types.{int_ty}
use Rattle.vx_dtype.specs.TypeRules.{depth_of, most_deep}
use Rattle.vx_dtype.specs.Fits.{fits}
use Rattle.vx_dtype.specs.Values.{raw_int}
use Rattle.vx_expr.specs.Trees.{Tree, root}
use Rattle.vx_wire_bytes.specs.Numbers.{number_bytes}
use Rattle.vx_wire_bytes.specs.ValueForms.{integer_bytes}
use Rattle.vx_wire_bytes.specs.Wires.{HasShortParts}
use Rattle.vx_wire.specs.Encodings.{is_default_kind}
use Rattle.vx_wire.specs.Forms.{wire_of, wire_text, Everywhere}
use Rattle.vx_wire.specs.Metadata.{HasForm, IsSerializable, HasShortMetadata}
use Rattle.vx_wire.proofs.LawLemmas.{read_again, form_built}
use Rattle.vx_scan.specs.Texts.{SpellsTree, SpellBoth}
use Rattle.vx_laws_generated.specs.GeneratedTable.{GeneratedColumn, id_column, v_column, name_of, integer_of, field_expr, constant_of, generated_filter, generated_projection}
use Rattle.vx_generated.specs.Writable.{IsWritable}
use Rattle.vx_generated.proofs.NumberLemmas.{half-fits, v_bound-fits}
use Rattle.vx_generated.proofs.BytesLemmas.{few-not_deep, few-not_many}

-- ---- what can be written

shallow : (p : PType) → depth_of (int_ty p NonNullable) ≤ most_deep
unfolding depth_of
shallow p = omega arith

filter-serializable : (rows : ℕ) → Everywhere IsSerializable (generated_filter rows)
filter-serializable rows = (tt, (tt, (tt, tt), shallow (integer_of id_column)), (tt, (tt, tt), shallow (integer_of v_column)))

name-short : (c : GeneratedColumn) → length (name_of c) < 2 ^ 32
name-short id_column = let short : 2 < 2 ^ 32 = omega arith in short
name-short v_column = let short : 1 < 2 ^ 32 = omega arith in short

filter-short : (rows : ℕ) → Everywhere HasShortMetadata (generated_filter rows)
filter-short rows = (tt, (tt, (name-short id_column, tt), (tt, tt)), (tt, (name-short v_column, tt), (tt, tt)))

filter-parts : (rows : ℕ) → HasShortParts (wire_of (generated_filter rows))
unfolding number_bytes integer_bytes
filter-parts rows = search rules

pub filter-writable : (rows : ℕ) → IsWritable (generated_filter rows)
filter-writable rows = record { serializable = filter-serializable rows; short = filter-short rows; parts = filter-parts rows }

projection-parts : HasShortParts (wire_of generated_projection)
unfolding number_bytes
projection-parts = search rules

pub projection-writable : IsWritable generated_projection
projection-writable = record { serializable = (tt, tt); short = (name-short id_column, tt); parts = projection-parts }

-- ---- what is read again

name-ascii : (c : GeneratedColumn) → IsAscii (name_of c)
name-ascii id_column zero = omega arith
name-ascii id_column (suc zero) = omega arith
name-ascii id_column (suc (suc i)) = omega arith
name-ascii v_column zero = omega arith
name-ascii v_column (suc i) = omega arith

name-utf8 : (c : GeneratedColumn) → is_utf8 (name_of c) ≡ true
name-utf8 c = is_utf8-from_IsUtf8 (name_of c) (IsUtf8-from_ascii (name_of c) (name-ascii c))

field-form : (c : GeneratedColumn) → HasForm (field_expr c)
field-form id_column = record { metadata = record { utf8 = name-utf8 id_column; short = name-short id_column }; children = refl }
field-form v_column = record { metadata = record { utf8 = name-utf8 v_column; short = name-short v_column }; children = refl }

constant-form : (c : GeneratedColumn) (n : ℕ) → fits (raw_int (pos n)) (int_ty (integer_of c) NonNullable) ≡ true → HasForm (constant_of c n)
constant-form c n h = record {
  metadata = (record { names = tt; depth = shallow (integer_of c) }, record { fit = h; texts = tt });
  children = refl;
}

root-form : HasForm root
root-form = record { metadata = tt; children = refl }

filter-forms : (rows : ℕ) → rows < 2 ^ 32 → Everywhere HasForm (generated_filter rows)
filter-forms rows h = (
  record { metadata = tt; children = refl },
  (record { metadata = tt; children = refl }, (field-form id_column, root-form), constant-form id_column (rows / 2) (half-fits rows h)),
  (record { metadata = tt; children = refl }, (field-form v_column, root-form), constant-form v_column 50 v_bound-fits),
)

filter-long : (rows : ℕ) → length (wire_text (generated_filter rows)) ≡ 111
unfolding number_bytes integer_bytes
filter-long rows = refl

projection-long : length (wire_text generated_projection) ≡ 21
unfolding number_bytes
projection-long = refl

spelled-by : (e : Tree) → HasShortParts (wire_of e) → Everywhere HasForm e → length (wire_text e) < 256 → SpellsTree is_default_kind (wire_text e) e
spelled-by e short forms few =
    (wire_of e, read_again e short (few-not_deep (wire_text e) few) (few-not_many (wire_text e) few), form_built e forms)

pub both-spelled : (rows : ℕ) → rows < 2 ^ 32 → SpellBoth is_default_kind (wire_text (generated_filter rows)) (wire_text generated_projection) (generated_filter rows) generated_projection
both-spelled rows h =
    let few = filter-long rows in
    let short = projection-long in
    record {
      filter_spelled = spelled-by (generated_filter rows) (filter-parts rows) (filter-forms rows h) (omega (arith, few));
      projection_spelled = spelled-by generated_projection projection-parts (field-form id_column, root-form) (omega (arith, short));
    }
