-- The tokens of a written type are read as the type.
use Rattle.std.proofs.Common.{◌≡◌, ℕ, zero, suc, ◌<◌, ◌≤◌, List, [], ◌∷◌, ◌++◌, refl, sym, ap, ◌∙◌, append_assoc, append-nil, Some, None, arith, codes}
use Rattle.vx_dtype.specs.declared.PType.{PType}
use Rattle.vx_dtype.specs.declared.PType.TheVariants.{U8, U16, U32, U64, I8, I16, I32, I64}
use Rattle.vx_dtype.specs.declared.Nullability.{Nullability}
use Rattle.vx_dtype.specs.declared.Nullability.TheVariants.{NonNullable, Nullable}
use Rattle.vx_dtype.specs.Types.{Bytes, Ty, bool_ty, int_ty, text_ty, list_ty, struct_ty, Fields, no_fields, field}
use Rattle.vx_dtype.specs.TypeRules.{with_nullability}
use Rattle.vx_dtype.specs.Texts.{ptype_text, integer_named}
use Rattle.vx_dtype.specs.Zipped.{zipped}
use Rattle.vx_tokens.specs.declared.tokens.Sign.{Sign}
use Rattle.vx_tokens.specs.declared.tokens.Sign.TheVariants as signs
use Rattle.vx_tokens.specs.declared.tokens.Token.{Token}
use Rattle.vx_tokens.specs.declared.tokens.Token.TheVariants.{Word, Mark}
use Rattle.vx_tokens.specs.Tokens.{◌>>=◌}
use Rattle.vx_text.specs.Grammar.{Read, after, choose, closed, more_parts, parts, and_field, labelled, struct_type, plain_type, base_with, marked, type_with, type_at, type_front}
use Rattle.vx_laws_text.specs.WrittenTokens.{name_token, nullability_tokens, type_tokens, label_tokens}
use Rattle.vx_laws_text.proofs.Sizes.{type_size, labels_size}
use Rattle.vx_laws_text.proofs.ReadParts.{closes_curly, after_comma, last_part, next_part, no_parts, some_parts, name_no_sign, labelled_read}

-- ---- fields of a struct, one behind the other

abbrev added : List Bytes × List Ty → Fields → List Bytes × List Ty
added so_far no_fields = so_far
added so_far (field f t fs) = added (and_field so_far (f, t)) fs

abbrev names_in : Fields → List Bytes
names_in no_fields = []
names_in (field f t fs) = f ∷ names_in fs

abbrev types_in : Fields → List Ty
types_in no_fields = []
types_in (field f t fs) = t ∷ types_in fs

added_all : (names : List Bytes) (types : List Ty) (fs : Fields) → added (names, types) fs ≡ (names ++ names_in fs, types ++ types_in fs)
added_all names types no_fields = λ i. (sym (append-nil names) i, sym (append-nil types) i)
added_all names types (field f t fs) =
    added_all (names ++ f ∷ []) (types ++ t ∷ []) fs ∙ (λ i. (append_assoc names (f ∷ []) (names_in fs) i, append_assoc types (t ∷ []) (types_in fs) i))

zipped_all : (fs : Fields) → zipped (names_in fs) (types_in fs) ≡ fs
zipped_all no_fields = refl
zipped_all (field f t fs) = ap (field f t) (zipped_all fs)

struct_again : (fs : Fields) → struct_type (added ([], []) fs) ≡ struct_ty fs NonNullable
struct_again fs = ap struct_type (added_all [] [] fs) ∙ ap (λ (gs : Fields). struct_ty gs NonNullable) (zipped_all fs)

-- ---- nullability

-- a type as it is without null, and the mark behind it
marked_read : (base : Ty) (n : Nullability) (rest : List Token) → with_nullability base NonNullable ≡ base → after signs.Question rest ≡ None
    → marked (base, nullability_tokens n rest) ≡ (with_nullability base n, rest)
unfolding after
marked_read base NonNullable rest is none = ap (λ o. choose o (λ others. (with_nullability base Nullable, others)) (base, rest)) none ∙ (λ i. (sym is i, rest))
marked_read base Nullable rest is none = refl

plain_read : (p : PType) → plain_type (ptype_text p) ≡ Some (int_ty p NonNullable)
unfolding integer_named
plain_read U8 = refl
plain_read U16 = refl
plain_read U32 = refl
plain_read U64 = refl
plain_read I8 = refl
plain_read I16 = refl
plain_read I32 = refl
plain_read I64 = refl

module _ (read : List Token → Read Ty) where
  -- a type whose base is read
  base_read : (base : Ty) (n : Nullability) (tokens rest : List Token) → base_with read tokens ≡ Some (base, nullability_tokens n rest) → with_nullability base NonNullable ≡ base
      → after signs.Question rest ≡ None → type_with read tokens ≡ Some (with_nullability base n, rest)
  base_read base n tokens rest h is none = ap (λ r. r >>= λ t. Some (marked t)) h ∙ ap Some (marked_read base n rest is none)

  int_read : (p : PType) (n : Nullability) (rest : List Token) → base_with read (Word (ptype_text p) ∷ nullability_tokens n rest) ≡ Some (int_ty p NonNullable, nullability_tokens n rest)
  unfolding integer_named
  int_read U8 n rest = refl
  int_read U16 n rest = refl
  int_read U32 n rest = refl
  int_read U64 n rest = refl
  int_read I8 n rest = refl
  int_read I16 n rest = refl
  int_read I32 n rest = refl
  int_read I64 n rest = refl

  list_read : (t : Ty) (tokens others : List Token) → read tokens ≡ Some (t, Mark signs.RoundClose ∷ others)
      → base_with read (Word (codes "list") ∷ Mark signs.RoundOpen ∷ tokens) ≡ Some (list_ty t NonNullable, others)
  unfolding after
  list_read t tokens others h = ap (λ r. r >>= λ t. closed signs.RoundClose (list_ty t.0 NonNullable, t.1)) h

  struct_read : (fs : Fields) (tokens others : List Token) → parts (labelled read) and_field ([], []) signs.CurlyClose tokens ≡ Some (added ([], []) fs, others)
      → base_with read (Mark signs.CurlyOpen ∷ tokens) ≡ Some (struct_ty fs NonNullable, others)
  struct_read fs tokens others h = ap (λ r. r >>= λ fs. Some (struct_type fs.0, fs.1)) h ∙ ap (λ (t : Ty). Some (t, others)) (struct_again fs)

after_name : (s : Sign) (f : Bytes) (rest : List Token) → after s (name_token f ∷ rest) ≡ None
after_name s f rest = name_no_sign s f rest

none_round : (rest : List Token) → after signs.Question (Mark signs.RoundClose ∷ rest) ≡ None
unfolding after
none_round rest = refl

none_behind : (fs : Fields) (rest : List Token) → after signs.Question (label_tokens (Mark signs.Comma ∷ []) fs (Mark signs.CurlyClose ∷ rest)) ≡ None
unfolding after type_tokens
none_behind no_fields rest = refl
none_behind (field f t fs) rest = refl

mutual
  unfolding type_at type_tokens type_size

  read_type : (t : Ty) (deep : ℕ) (rest : List Token) → type_size t ≤ deep → deep ≤ 4096 → after signs.Question rest ≡ None → type_at deep (type_tokens t rest) ≡ Some (t, rest)
  read_type (bool_ty n) zero rest le most none = absurd (omega arith)
  read_type (bool_ty n) (suc deep) rest le most none = base_read (type_at deep) (bool_ty NonNullable) n (type_tokens (bool_ty n) rest) rest refl refl none
  read_type (int_ty p n) zero rest le most none = absurd (omega arith)
  read_type (int_ty p n) (suc deep) rest le most none = base_read (type_at deep) (int_ty p NonNullable) n (type_tokens (int_ty p n) rest) rest (int_read (type_at deep) p n rest) refl none
  read_type (text_ty n) zero rest le most none = absurd (omega arith)
  read_type (text_ty n) (suc deep) rest le most none = base_read (type_at deep) (text_ty NonNullable) n (type_tokens (text_ty n) rest) rest refl refl none
  read_type (list_ty t n) zero rest le most none = absurd (omega arith)
  read_type (list_ty t n) (suc deep) rest le most none =
      base_read (type_at deep) (list_ty t NonNullable) n (type_tokens (list_ty t n) rest) rest (list_read (type_at deep) t _ _ (read_type t deep _ (omega arith) (omega arith) (none_round _))) refl none
  read_type (struct_ty fs n) zero rest le most none = absurd (omega arith)
  read_type (struct_ty fs n) (suc deep) rest le most none =
      base_read (type_at deep) (struct_ty fs NonNullable) n (type_tokens (struct_ty fs n) rest) rest (struct_read (type_at deep) fs _ _ (read_labels fs deep _ (omega arith) (omega arith))) refl none

  read_labels : (fs : Fields) (deep : ℕ) (rest : List Token) → labels_size 0 fs ≤ deep → deep < 4096
      → parts (labelled (type_at deep)) and_field ([], []) signs.CurlyClose (label_tokens [] fs (Mark signs.CurlyClose ∷ rest)) ≡ Some (added ([], []) fs, rest)
  read_labels no_fields deep rest le most = no_parts _ and_field ([], []) signs.CurlyClose _ rest (closes_curly rest).closed_by
  read_labels (field f t fs) deep rest le most =
      some_parts _ and_field ([], []) signs.CurlyClose _ (name_no_sign signs.CurlyClose f _)
      ∙ read_more fs f t deep 4095 ([], []) rest (read_type t deep _ (omega arith) (omega arith) (none_behind fs rest)) (omega arith) (omega arith) (omega arith)

  -- the fields behind one whose type is read
  read_more : (fs : Fields) (f : Bytes) (t : Ty) (deep n : ℕ) (so_far : List Bytes × List Ty) (rest : List Token)
      → type_at deep (type_tokens t (label_tokens (Mark signs.Comma ∷ []) fs (Mark signs.CurlyClose ∷ rest))) ≡ Some (t, label_tokens (Mark signs.Comma ∷ []) fs (Mark signs.CurlyClose ∷ rest))
      → labels_size 1 fs ≤ deep → deep ≤ 4096 → labels_size 1 fs ≤ n
      → more_parts (labelled (type_at deep)) and_field signs.CurlyClose (suc n) so_far
      (name_token f ∷ Mark signs.Colon ∷ type_tokens t (label_tokens (Mark signs.Comma ∷ []) fs (Mark signs.CurlyClose ∷ rest))) ≡ Some (added (and_field so_far (f, t)) fs, rest)
  read_more no_fields f t deep n so_far rest h le most more =
      last_part _ and_field signs.CurlyClose n so_far _ _ rest (f, t) (labelled_read (type_at deep) f t _ _ h) (closes_curly rest)
  read_more (field g u fs) f t deep zero so_far rest h le most more = absurd (omega arith)
  read_more (field g u fs) f t deep (suc n) so_far rest h le most more =
      next_part _ and_field signs.CurlyClose (suc n) so_far _ _ _ (f, t) (labelled_read (type_at deep) f t _ _ h) (after_comma _)
      ∙ read_more fs g u deep n (and_field so_far (f, t)) rest (read_type u deep _ (omega arith) most (none_behind fs rest)) (omega arith) most (omega arith)

pub type_read : (t : Ty) (rest : List Token) → type_size t ≤ 4096 → after signs.Question rest ≡ None → type_front (type_tokens t rest) ≡ Some (t, rest)
type_read t rest le none = read_type t 4096 rest le (omega arith) none
