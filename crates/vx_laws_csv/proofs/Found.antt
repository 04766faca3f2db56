-- The type that is found of cells takes each of them, and is within each candidate that does.
use Rattle.std.proofs.Common.{◌≡◌, ◌∙◌, refl, sym, ap, subst, Bool, true, false, cond, List, ◌∷◌, Some, None, is_some, bytes_eq}
use Rattle.std.proofs.lemmas.Bool.{and_parts, and_left, false≢true}
use Rattle.vx_dtype.specs.declared.PType.TheVariants.{U8, U16, U32, U64, I8, I16, I32, I64}
use Rattle.vx_dtype.specs.declared.Nullability.{Nullability}
use Rattle.vx_dtype.specs.declared.Nullability.TheVariants.{NonNullable, Nullable}
use Rattle.vx_dtype.specs.Types.{Bytes, Ty, bool_ty, int_ty, text_ty, list_ty, struct_ty}
use Rattle.vx_dtype.specs.Values.{raw_text}
use Rattle.vx_laws_csv.specs.Cells.{takes}
use Rattle.vx_laws_csv.specs.FoundTypes.{all_null, all_taken, found_nullability, is_within, is_null_within}
use Rattle.vx_laws_csv.specs.CsvLaws.{FoundTypesTakeAll, FoundTypesAreLeast, NullsAreTexts}
use Rattle.vx_laws_csv.proofs.Lists.{all-always, all-so, all-both}
use Rattle.vx_laws_csv.proofs.CellFacts.{integer-widened, truth-widened, integer-told, truth-told, integer-narrowed, truth-narrowed, text-taken, only-null}

-- ---- the type by the four tests: all null, all numbers, all truths, none null

abbrev nullability-by : Bool → Nullability
nullability-by told = cond told NonNullable Nullable

abbrev type-by : Bool → Bool → Bool → Nullability → Ty
type-by nulls numbers truths n = cond nulls (text_ty n) (cond numbers (int_ty I64 n) (cond truths (bool_ty n) (text_ty n)))

taken-by : (null : Bytes) (cells : List Bytes) (a i b k : Bool) → all_taken null (int_ty I64 Nullable) cells ≡ i → all_taken null (bool_ty Nullable) cells ≡ b
    → all_taken null (text_ty NonNullable) cells ≡ k → all_taken null (type-by a i b (nullability-by k)) cells ≡ true
taken-by null cells true i b true ei eb ek = ek
taken-by null cells true i b false ei eb ek = all-always (takes null (text_ty Nullable)) (text-taken null) cells
taken-by null cells false true b true ei eb ek =
    all-both (takes null (int_ty I64 Nullable)) (takes null (text_ty NonNullable)) (takes null (int_ty I64 NonNullable)) (integer-narrowed null) cells ei ek
taken-by null cells false true b false ei eb ek = ei
taken-by null cells false false true true ei eb ek =
    all-both (takes null (bool_ty Nullable)) (takes null (text_ty NonNullable)) (takes null (bool_ty NonNullable)) (truth-narrowed null) cells eb ek
taken-by null cells false false true false ei eb ek = eb
taken-by null cells false false false true ei eb ek = ek
taken-by null cells false false false false ei eb ek = all-always (takes null (text_ty Nullable)) (text-taken null) cells

pub found_types_take_all : FoundTypesTakeAll
found_types_take_all null cells =
    taken-by null cells (all_null null cells) (all_taken null (int_ty I64 Nullable) cells) (all_taken null (bool_ty Nullable) cells)
    (all_taken null (text_ty NonNullable) cells) refl refl refl

-- ---- the least

null-within : (k : Bool) (m : Nullability) → (m ≡ NonNullable → k ≡ true) → is_null_within (nullability-by k) m ≡ true
null-within true m h = refl
null-within false Nullable h = refl
null-within false NonNullable h = absurd (false≢true (h refl))

text-within : (a i b k : Bool) (m : Nullability) → (m ≡ NonNullable → k ≡ true) → is_within (type-by a i b (nullability-by k)) (text_ty m) ≡ true
text-within true i b k m h = null-within k m h
text-within false true b k m h = null-within k m h
text-within false false true k m h = null-within k m h
text-within false false false k m h = null-within k m h

texts-told : (null : Bytes) (cells : List Bytes) (k : Bool) (m : Nullability) → all_taken null (text_ty NonNullable) cells ≡ k → all_taken null (text_ty m) cells ≡ true
    → m ≡ NonNullable → k ≡ true
texts-told null cells k m ek all is = sym ek ∙ subst (λ (n : Nullability). all_taken null (text_ty n) cells ≡ true) is all

integers-told : (null : Bytes) (cells : List Bytes) (k : Bool) (m : Nullability) → all_taken null (text_ty NonNullable) cells ≡ k → all_taken null (int_ty I64 m) cells ≡ true
    → m ≡ NonNullable → k ≡ true
integers-told null cells k m ek all is =
    sym ek ∙ all-so (takes null (int_ty I64 NonNullable)) (takes null (text_ty NonNullable)) (integer-told null) cells (subst (λ (n : Nullability). all_taken null (int_ty I64 n) cells ≡ true) is all)

truths-told : (null : Bytes) (cells : List Bytes) (k : Bool) (m : Nullability) → all_taken null (text_ty NonNullable) cells ≡ k → all_taken null (bool_ty m) cells ≡ true
    → m ≡ NonNullable → k ≡ true
truths-told null cells k m ek all is =
    sym ek ∙ all-so (takes null (bool_ty NonNullable)) (takes null (text_ty NonNullable)) (truth-told null) cells (subst (λ (n : Nullability). all_taken null (bool_ty n) cells ≡ true) is all)

integer-within : (null : Bytes) (cells : List Bytes) (m : Nullability) (a i b k : Bool) → all_taken null (int_ty I64 Nullable) cells ≡ i
    → all_taken null (text_ty NonNullable) cells ≡ k → a ≡ false → all_taken null (int_ty I64 m) cells ≡ true
    → is_within (type-by a i b (nullability-by k)) (int_ty I64 m) ≡ true
integer-within null cells m true i b k ei ek seen all = absurd cc
integer-within null cells m false true b k ei ek seen all = null-within k m (integers-told null cells k m ek all)
integer-within null cells m false false b k ei ek seen all =
    absurd (false≢true (sym ei ∙ all-so (takes null (int_ty I64 m)) (takes null (int_ty I64 Nullable)) (λ s h. integer-widened null s m h) cells all))

truth-within : (null : Bytes) (cells : List Bytes) (m : Nullability) (a i b k : Bool) → all_null null cells ≡ a → all_taken null (int_ty I64 Nullable) cells ≡ i
    → all_taken null (bool_ty Nullable) cells ≡ b → all_taken null (text_ty NonNullable) cells ≡ k → a ≡ false → all_taken null (bool_ty m) cells ≡ true
    → is_within (type-by a i b (nullability-by k)) (bool_ty m) ≡ true
truth-within null cells m true i b k ea ei eb ek seen all = absurd cc
truth-within null cells m false true b k ea ei eb ek seen all =
    let truths = all-so (takes null (bool_ty m)) (takes null (bool_ty Nullable)) (λ s h. truth-widened null s m h) cells all in
    let nulls = all-both (takes null (int_ty I64 Nullable)) (takes null (bool_ty Nullable)) (λ s. bytes_eq s null) (only-null null) cells ei truths in
    absurd (false≢true (sym ea ∙ nulls))
truth-within null cells m false false true k ea ei eb ek seen all = null-within k m (truths-told null cells k m ek all)
truth-within null cells m false false false k ea ei eb ek seen all =
    absurd (false≢true (sym eb ∙ all-so (takes null (bool_ty m)) (takes null (bool_ty Nullable)) (λ s h. truth-widened null s m h) cells all))

pub found_types_are_least : FoundTypesAreLeast
found_types_are_least null cells (text_ty m) some is all =
    text-within (all_null null cells) (all_taken null (int_ty I64 Nullable) cells) (all_taken null (bool_ty Nullable) cells)
    (all_taken null (text_ty NonNullable) cells) m (texts-told null cells (all_taken null (text_ty NonNullable) cells) m refl all)
found_types_are_least null cells (bool_ty m) some is all =
    truth-within null cells m (all_null null cells) (all_taken null (int_ty I64 Nullable) cells) (all_taken null (bool_ty Nullable) cells)
    (all_taken null (text_ty NonNullable) cells) refl refl refl refl some all
found_types_are_least null cells (int_ty I64 m) some is all =
    integer-within null cells m (all_null null cells) (all_taken null (int_ty I64 Nullable) cells) (all_taken null (bool_ty Nullable) cells)
    (all_taken null (text_ty NonNullable) cells) refl refl some all
found_types_are_least null cells (int_ty U8 m) some is all = absurd (false≢true is)
found_types_are_least null cells (int_ty U16 m) some is all = absurd (false≢true is)
found_types_are_least null cells (int_ty U32 m) some is all = absurd (false≢true is)
found_types_are_least null cells (int_ty U64 m) some is all = absurd (false≢true is)
found_types_are_least null cells (int_ty I8 m) some is all = absurd (false≢true is)
found_types_are_least null cells (int_ty I16 m) some is all = absurd (false≢true is)
found_types_are_least null cells (int_ty I32 m) some is all = absurd (false≢true is)
found_types_are_least null cells (list_ty t m) some is all = absurd (false≢true is)
found_types_are_least null cells (struct_ty fs m) some is all = absurd (false≢true is)

-- ---- nulls alone

untaken : (null s : Bytes) → bytes_eq s null ≡ true → takes null (text_ty NonNullable) s ≡ false
untaken null s is = ap (λ (b : Bool). is_some (cond b None (Some (raw_text s)))) is

pub nulls_are_texts : NullsAreTexts
nulls_are_texts null s cells h =
    let here = (and_parts (bytes_eq s null) (all_null null cells) h).0 in
    let told : all_taken null (text_ty NonNullable) (s ∷ cells) ≡ false =
    and_left (takes null (text_ty NonNullable) s) (all_taken null (text_ty NonNullable) cells) (untaken null s here) in
    ap
    (λ (a : Bool).
    type-by a (all_taken null (int_ty I64 Nullable) (s ∷ cells)) (all_taken null (bool_ty Nullable) (s ∷ cells)) (found_nullability null (s ∷ cells)))
    h
    ∙ ap (λ (k : Bool). text_ty (nullability-by k)) told
