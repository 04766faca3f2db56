-- What has metadata is written and short.
use Rattle.std.proofs.Common.{◌≢◌, refl, List, [], ◌∷◌}
use Rattle.std.specs.List.{AllByRecursion}
use Rattle.vx_dtype.specs.Types.{Bytes, Ty, bool_ty, int_ty, text_ty, list_ty, struct_ty, Fields, no_fields, field}
use Rattle.vx_dtype.specs.Values.{Raw, raw_null, raw_bool, raw_int, raw_text, raw_list, raw_struct, Raws, no_raws, raw}
use Rattle.vx_expr.specs.Trees.{Tree, root, literal, get_item, binary, not_of, is_null_of, like, between, cast, list_contains, pack, merge, select, dynamic}
use Rattle.vx_expr.specs.Selections.{listed_names}
use Rattle.vx_wire_bytes.specs.Fields.{IsShort, IsText}
use Rattle.vx_wire_bytes.specs.TypeForms.{NamesAre, FieldNamesAre}
use Rattle.vx_wire_bytes.specs.ValueForms.{TextsAre, AllTextsAre}
use Rattle.vx_wire_bytes.specs.declared.errors.WireError.{WireError}
use Rattle.vx_wire_bytes.specs.declared.errors.WireError.TheVariants as errors
use Rattle.vx_wire.specs.Metadata.{HasMetadata, IsSerializable, HasShortMetadata}
use Rattle.vx_kinds.specs.Refusals.{IsNodeUnserialized}

mutual
  names_short : (t : Ty) → NamesAre IsText t → NamesAre IsShort t
  names_short (bool_ty n) h = tt
  names_short (int_ty p n) h = tt
  names_short (text_ty n) h = tt
  names_short (list_ty e n) h = names_short e h
  names_short (struct_ty fs n) h = (h.0, fields_short fs h.1)

  fields_short : (fs : Fields) → FieldNamesAre IsText fs → FieldNamesAre IsShort fs
  fields_short no_fields h = tt
  fields_short (field f t fs) h = (h.0.short, names_short t h.1, fields_short fs h.2)

mutual
  texts_short : (x : Raw) → TextsAre IsText x → TextsAre IsShort x
  texts_short raw_null h = tt
  texts_short (raw_bool b) h = tt
  texts_short (raw_int i) h = tt
  texts_short (raw_text s) h = h.short
  texts_short (raw_list xs) h = (h.0, all_texts_short xs h.1)
  texts_short (raw_struct xs) h = all_texts_short xs h

  all_texts_short : (xs : Raws) → AllTextsAre IsText xs → AllTextsAre IsShort xs
  all_texts_short no_raws h = tt
  all_texts_short (raw x xs) h = (texts_short x h.0, all_texts_short xs h.1)

listed_short : (names : List Bytes) → AllByRecursion IsText names → AllByRecursion IsShort names
listed_short [] h = tt
listed_short (name ∷ names) h = (h.0.short, listed_short names h.1)

spelled_is_serializable : (e : Tree) → HasMetadata e → IsSerializable e
spelled_is_serializable (literal s) h = h.0.depth
spelled_is_serializable (cast e t) h = h.depth
spelled_is_serializable (dynamic e op k t default) h = h
spelled_is_serializable root h = tt
spelled_is_serializable (get_item f e) h = tt
spelled_is_serializable (binary l op r) h = tt
spelled_is_serializable (not_of e) h = tt
spelled_is_serializable (is_null_of e) h = tt
spelled_is_serializable (like e p negated fold_case) h = tt
spelled_is_serializable (between e lower upper options) h = tt
spelled_is_serializable (list_contains l v) h = tt
spelled_is_serializable (pack names es n) h = tt
spelled_is_serializable (merge es n) h = tt
spelled_is_serializable (select s e) h = tt

spelled_is_short : (e : Tree) → HasMetadata e → HasShortMetadata e
spelled_is_short (literal s) h = (names_short s.ty h.0.names, texts_short s.value h.1.texts)
spelled_is_short (get_item f e) h = h.short
spelled_is_short (cast e t) h = names_short t h.names
spelled_is_short (select s e) h = (h.0, listed_short (listed_names s) h.1)
spelled_is_short (pack names es n) h = (h.0, listed_short names h.1)
spelled_is_short (dynamic e op k t default) h = absurd h
spelled_is_short root h = tt
spelled_is_short (binary l op r) h = tt
spelled_is_short (not_of e) h = tt
spelled_is_short (is_null_of e) h = tt
spelled_is_short (like e p negated fold_case) h = tt
spelled_is_short (between e lower upper options) h = tt
spelled_is_short (list_contains l v) h = tt
spelled_is_short (merge es n) h = tt

pub spelled_is_not_refused : (e : Tree) (why : WireError) → HasMetadata e → why ≢ errors.NoMemory → ¬ (IsNodeUnserialized e why)
spelled_is_not_refused e errors.NoMemory spelled other = absurd (other refl)
spelled_is_not_refused e errors.NotSerializable spelled other = λ refused. refused (spelled_is_serializable e spelled)
spelled_is_not_refused e errors.TooLong spelled other = λ refused. refused.1 (spelled_is_short e spelled)
spelled_is_not_refused e errors.BadWire spelled other = λ refused. refused
spelled_is_not_refused e errors.TooDeep spelled other = λ refused. refused
spelled_is_not_refused e errors.TooManyNodes spelled other = λ refused. refused
