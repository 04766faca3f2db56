-- The tokens of written texts: names, types, items, constants, expressions.
use Rattle.std.proofs.Common.{◌≡◌, ℕ, suc, ◌^◌, ◌<◌, Bool, true, false, List, [], ◌∷◌, ◌++◌, refl, subst, append_assoc, append-nil, Option, Some, None, arith, codes, ℤ, pos, negsuc, decimal}
use Rattle.std.specs.Prelude.{if◌then◌else◌}
use Rattle.std.specs.Fmt.{signed_decimal}
use Rattle.vx_dtype.specs.declared.StrictComparison.{StrictComparison}
use Rattle.vx_dtype.specs.declared.StrictComparison.TheVariants.{Strict, NonStrict}
use Rattle.vx_dtype.specs.declared.PType.{PType}
use Rattle.vx_dtype.specs.declared.PType.TheVariants.{U8, U16, U32, U64, I8, I16, I32, I64}
use Rattle.vx_dtype.specs.declared.Nullability.{Nullability}
use Rattle.vx_dtype.specs.declared.Nullability.TheVariants.{NonNullable, Nullable}
use Rattle.vx_dtype.specs.Types.{Bytes, Ty, bool_ty, int_ty, text_ty, list_ty, struct_ty, Fields, no_fields, field}
use Rattle.vx_dtype.specs.Values.{Raw, raw_null, raw_bool, raw_int, raw_text, raw_list, raw_struct, Raws, no_raws, raw, Typed}
use Rattle.vx_dtype.specs.Fits.{fits}
use Rattle.vx_dtype.specs.Texts.{nullability_text, ptype_text, integer_named}
use Rattle.vx_dtype.specs.ScalarTexts.{number_suffix}
use Rattle.vx_expr.specs.declared.operators.Operator.{Operator}
use Rattle.vx_expr.specs.declared.selections.FieldSelection.{FieldSelection}
use Rattle.vx_expr.specs.OperatorTexts.{operator_text}
use Rattle.vx_expr.specs.Selections.{listed_names}
use Rattle.vx_expr.specs.Trees.{Tree, root, literal, get_item, binary, not_of, is_null_of, like, between, cast}
use Rattle.vx_expr.specs.Trees.{list_contains, pack, merge, select, dynamic, Trees, no_trees, tree}
use Rattle.vx_tokens.specs.declared.tokens.Keyword.{Keyword}
use Rattle.vx_tokens.specs.declared.tokens.Keyword.TheVariants as words
use Rattle.vx_tokens.specs.declared.tokens.Sign.TheVariants as signs
use Rattle.vx_tokens.specs.declared.tokens.Token.{Token}
use Rattle.vx_tokens.specs.declared.tokens.Token.TheVariants.{Reserved, Word, Number, Mark}
use Rattle.vx_tokens.specs.Tokens.{token_at, run_of, keyword_of, one_sign}
use Rattle.vx_tokens.specs.Names.{is_word, name_text, names_text}
use Rattle.vx_text.specs.Writing.{is_bare, choice_text, type_text, labels_text, item_text, items_text, literal_text, like_word, range_word, between_word, pack_word, merge_word, query_text, listed_texts, named_texts}
use Rattle.vx_laws_text.specs.WrittenTokens.{name_tokens, choice_tokens, nullability_tokens, type_tokens, label_tokens, number_tokens, truth_token, item_tokens, items_tokens, bare_tokens, literal_tokens, operator_token, like_keyword, range_keyword, pack_keyword, merge_keyword, query_tokens, listed_tokens, named_tokens}
use Rattle.vx_laws_text.specs.Expressions.{AreTexts, IsType, AreFields}
use Rattle.vx_laws_text.proofs.Cutting.{Cut, cut-end, cut-blank, cut-token, cut-parts}
use Rattle.vx_laws_text.proofs.Pieces.{stops, cut-reserved, cut-free, cut-name, cut-quote, cut-number, IsSuffix, no_suffix, cut-sign, round_open, round_close, square_open, square_close, curly_open, curly_close, comma, colon, dot, dollar, question, tilde, minus}
use Rattle.vx_laws_text.proofs.Decimals.{are_digits}
use Rattle.vx_laws_text.proofs.Ready.{IsShort, IsItem, AreItems, ReadyConstant, IsReady, AreReady}

-- what stands before a part of a list, and its tokens
record IsSeparator (s : Bytes) (tokens : List Token) : Type 0 where
  cut : (rest : Bytes) (others : List Token) → Cut rest others → Cut (s ++ rest) (tokens ++ others)

none : IsSeparator [] []
none = record { cut = λ rest others c. c }

behind_comma : IsSeparator (codes ", ") (Mark signs.Comma ∷ [])
behind_comma = record { cut = λ rest others c. cut-sign 44 signs.Comma (32 ∷ rest) others comma (cut-blank 32 rest others refl c) }

-- ---- names

names_stop : (fs : List Bytes) (rest : Bytes) → stops rest ≡ true → stops (names_text (codes ", ") fs ++ rest) ≡ true
unfolding names_text
names_stop [] rest stop = stop
names_stop (f ∷ fs) rest stop = refl

cut_names : (s : Bytes) (before : List Token) → IsSeparator s before → (fs : List Bytes) → AreTexts fs → (rest : Bytes) (tokens : List Token) → stops rest ≡ true → Cut rest tokens
    → Cut (names_text s fs ++ rest) (name_tokens before fs tokens)
unfolding names_text name_tokens
cut_names s before is [] k rest tokens stop c = c
cut_names s before is (f ∷ fs) k rest tokens stop c =
    cut-parts s _ rest _ (is.cut _ _ (cut-parts (name_text f) _ rest _
    (cut-name f _ _ k.0 (names_stop fs rest stop) (cut_names (codes ", ") _ behind_comma fs k.1 rest tokens stop c))))

cut_choice : (s : FieldSelection) → AreTexts (listed_names s) → (rest : Bytes) (tokens : List Token) → Cut rest tokens → Cut (choice_text s ++ rest) (choice_tokens s tokens)
cut_choice (FieldSelection.Include fs) k rest tokens c =
    cut-sign 123 _ _ _ curly_open (cut-parts (names_text [] fs) _ rest _ (cut_names [] [] none fs k _ _ refl (cut-sign 125 _ _ _ curly_close c)))
cut_choice (FieldSelection.Exclude fs) k rest tokens c =
    cut-sign 126 _ _ _ tilde (cut-sign 123 _ _ _ curly_open (cut-parts (names_text [] fs) _ rest _ (cut_names [] [] none fs k _ _ refl (cut-sign 125 _ _ _ curly_close c))))

choice_stops : (s : FieldSelection) (rest : Bytes) → stops (choice_text s ++ rest) ≡ true
choice_stops (FieldSelection.Include fs) rest = refl
choice_stops (FieldSelection.Exclude fs) rest = refl

-- ---- types

cut_nullability : (n : Nullability) (rest : Bytes) (tokens : List Token) → Cut rest tokens → Cut (nullability_text n ++ rest) (nullability_tokens n tokens)
cut_nullability NonNullable rest tokens c = c
cut_nullability Nullable rest tokens c = cut-sign 63 _ _ _ question c

null_stops : (n : Nullability) (rest : Bytes) → stops rest ≡ true → stops (nullability_text n ++ rest) ≡ true
null_stops NonNullable rest stop = stop
null_stops Nullable rest stop = refl

-- the name of an integer type is a word that isn't reserved
record IsTypeName (s : Bytes) : Type 0 where
  free : keyword_of s ≡ None
  word : is_word s ≡ true

type_name : (p : PType) → IsTypeName (ptype_text p)
unfolding keyword_of
type_name U8 = record { free = refl; word = refl }
type_name U16 = record { free = refl; word = refl }
type_name U32 = record { free = refl; word = refl }
type_name U64 = record { free = refl; word = refl }
type_name I8 = record { free = refl; word = refl }
type_name I16 = record { free = refl; word = refl }
type_name I32 = record { free = refl; word = refl }
type_name I64 = record { free = refl; word = refl }

bool_name : IsTypeName (codes "bool")
unfolding keyword_of
bool_name = record { free = refl; word = refl }

text_name : IsTypeName (codes "utf8")
unfolding keyword_of
text_name = record { free = refl; word = refl }

list_name : IsTypeName (codes "list")
unfolding keyword_of
list_name = record { free = refl; word = refl }

cut_plain : (s : Bytes) → IsTypeName s → (n : Nullability) (rest : Bytes) (tokens : List Token) → stops rest ≡ true → Cut rest tokens
    → Cut ((s ++ nullability_text n) ++ rest) (Word s ∷ nullability_tokens n tokens)
cut_plain s k n rest tokens stop c =
    cut-parts s (nullability_text n) rest _ (cut-free s _ _ k.free k.word (null_stops n rest stop) (cut_nullability n rest tokens c))

labels_stop : (fs : Fields) (rest : Bytes) → stops rest ≡ true → stops (labels_text (codes ", ") fs ++ rest) ≡ true
unfolding type_text
labels_stop no_fields rest stop = stop
labels_stop (field f t fs) rest stop = refl

mutual
  unfolding type_text type_tokens

  cut_type : (t : Ty) → IsType t → (rest : Bytes) (tokens : List Token) → stops rest ≡ true → Cut rest tokens → Cut (type_text t ++ rest) (type_tokens t tokens)
  cut_type (bool_ty n) k rest tokens stop c = cut_plain (codes "bool") bool_name n rest tokens stop c
  cut_type (int_ty p n) k rest tokens stop c = cut_plain (ptype_text p) (type_name p) n rest tokens stop c
  cut_type (text_ty n) k rest tokens stop c = cut_plain (codes "utf8") text_name n rest tokens stop c
  cut_type (list_ty t n) k rest tokens stop c =
      cut-free (codes "list") _ _ list_name.free refl refl (cut-sign 40 _ _ _ round_open (cut-parts (type_text t) _ rest _
      (cut_type t k _ _ refl (cut-sign 41 _ _ _ round_close (cut_nullability n rest tokens c)))))
  cut_type (struct_ty fs n) k rest tokens stop c =
      cut-sign 123 _ _ _ curly_open (cut-parts (labels_text [] fs) _ rest _
      (cut_labels fs [] [] none k _ _ refl (cut-sign 125 _ _ _ curly_close (cut_nullability n rest tokens c))))

  cut_labels : (fs : Fields) (s : Bytes) (before : List Token) → IsSeparator s before → AreFields fs → (rest : Bytes) (tokens : List Token) → stops rest ≡ true → Cut rest tokens
      → Cut (labels_text s fs ++ rest) (label_tokens before fs tokens)
  cut_labels no_fields s before is k rest tokens stop c = c
  cut_labels (field f t fs) s before is k rest tokens stop c =
      cut-parts s _ rest _ (is.cut _ _ (cut-parts (name_text f) _ rest _
      (cut-name f _ _ k.0 refl (cut-sign 58 _ _ _ colon (cut-blank 32 _ _ refl (cut-parts (type_text t) _ rest _
      (cut_type t k.1 _ _ (labels_stop fs rest stop) (cut_labels fs (codes ", ") _ behind_comma k.2 rest tokens stop c))))))))

-- ---- items

cut_natural : (n : ℕ) (suffix : Bytes) (p : Option PType) → n < 2 ^ 64 → IsSuffix suffix p → (rest : Bytes) (tokens : List Token) → stops rest ≡ true → Cut rest tokens
    → Cut (decimal n ++ (suffix ++ rest)) (Number (decimal n) p ∷ tokens)
cut_natural n suffix p short is rest tokens stop c =
    let k = are_digits n short in
    cut-number (decimal n) suffix rest p tokens k.digits k.number is stop c

cut_integer : (i : ℤ) (suffix : Bytes) (p : Option PType) → IsShort i → IsSuffix suffix p → (rest : Bytes) (tokens : List Token) → stops rest ≡ true → Cut rest tokens
    → Cut (signed_decimal i ++ (suffix ++ rest)) (number_tokens i p tokens)
cut_integer (pos n) suffix p short is rest tokens stop c = cut_natural n suffix p short is rest tokens stop c
cut_integer (negsuc n) suffix p short is rest tokens stop c = cut-sign 45 _ _ _ minus (cut_natural (suc n) suffix p short is rest tokens stop c)

cut_truth : (b : Bool) (rest : Bytes) (tokens : List Token) → stops rest ≡ true → Cut rest tokens → Cut ((if b then codes "true" else codes "false") ++ rest) (truth_token b ∷ tokens)
unfolding keyword_of
cut_truth true rest tokens stop c = cut-reserved (codes "true") rest words.True tokens refl refl stop c
cut_truth false rest tokens stop c = cut-reserved (codes "false") rest words.False tokens refl refl stop c

cut_null : (rest : Bytes) (tokens : List Token) → stops rest ≡ true → Cut rest tokens → Cut (codes "null" ++ rest) (Reserved words.Null ∷ tokens)
unfolding keyword_of
cut_null rest tokens stop c = cut-reserved (codes "null") rest words.Null tokens refl refl stop c

items_stop : (xs : Raws) (rest : Bytes) → stops rest ≡ true → stops (items_text (codes ", ") xs ++ rest) ≡ true
unfolding item_text
items_stop no_raws rest stop = stop
items_stop (raw x xs) rest stop = refl

mutual
  unfolding item_text item_tokens

  cut_item : (x : Raw) → IsItem x → (rest : Bytes) (tokens : List Token) → stops rest ≡ true → Cut rest tokens → Cut (item_text x ++ rest) (item_tokens x tokens)
  cut_item raw_null k rest tokens stop c = cut_null rest tokens stop c
  cut_item (raw_bool b) k rest tokens stop c = cut_truth b rest tokens stop c
  cut_item (raw_int i) k rest tokens stop c = cut_integer i [] None k no_suffix rest tokens stop c
  cut_item (raw_text s) k rest tokens stop c = cut-quote s rest tokens k stop c
  cut_item (raw_list xs) k rest tokens stop c =
      cut-sign 91 _ _ _ square_open (cut-parts (items_text [] xs) _ rest _ (cut_items xs [] [] none k _ _ refl (cut-sign 93 _ _ _ square_close c)))
  cut_item (raw_struct xs) k rest tokens stop c =
      cut-sign 123 _ _ _ curly_open (cut-parts (items_text [] xs) _ rest _ (cut_items xs [] [] none k _ _ refl (cut-sign 125 _ _ _ curly_close c)))

  cut_items : (xs : Raws) (s : Bytes) (before : List Token) → IsSeparator s before → AreItems xs → (rest : Bytes) (tokens : List Token) → stops rest ≡ true → Cut rest tokens
      → Cut (items_text s xs ++ rest) (items_tokens before xs tokens)
  cut_items no_raws s before is k rest tokens stop c = c
  cut_items (raw x xs) s before is k rest tokens stop c =
      cut-parts s _ rest _ (is.cut _ _ (cut-parts (item_text x) _ rest _
      (cut_item x k.0 _ _ (items_stop xs rest stop) (cut_items xs (codes ", ") _ behind_comma k.1 rest tokens stop c))))

-- ---- constants

pub type_suffix : (p : PType) → IsSuffix (ptype_text p) (Some p)
unfolding integer_named
type_suffix U8 = record { inner = refl; names = refl; apart = λ rest h. refl }
type_suffix U16 = record { inner = refl; names = refl; apart = λ rest h. refl }
type_suffix U32 = record { inner = refl; names = refl; apart = λ rest h. refl }
type_suffix U64 = record { inner = refl; names = refl; apart = λ rest h. refl }
type_suffix I8 = record { inner = refl; names = refl; apart = λ rest h. refl }
type_suffix I16 = record { inner = refl; names = refl; apart = λ rest h. refl }
type_suffix I32 = record { inner = refl; names = refl; apart = λ rest h. refl }
type_suffix I64 = record { inner = refl; names = refl; apart = λ rest h. refl }

-- a value of a type without a name behind it
cut_unnamed : (x : Raw) → IsItem x → (rest : Bytes) (tokens : List Token) → stops rest ≡ true → Cut rest tokens → Cut ((item_text x ++ []) ++ rest) (item_tokens x tokens)
cut_unnamed x k rest tokens stop c = rw (append-nil (item_text x)) (cut_item x k rest tokens stop c)

-- a number with the name of its type behind it
cut_named_number : (i : ℤ) (p : PType) → IsShort i → (rest : Bytes) (tokens : List Token) → stops rest ≡ true → Cut rest tokens
    → Cut ((item_text (raw_int i) ++ ptype_text p) ++ rest) (number_tokens i (Some p) tokens)
unfolding item_text
cut_named_number i p k rest tokens stop c =
    cut-parts (signed_decimal i) (ptype_text p) rest _ (cut_integer i (ptype_text p) (Some p) k (type_suffix p) rest tokens stop c)

cut_bare : (t : Ty) (x : Raw) → is_bare t ≡ true → fits x t ≡ true → IsItem x → (rest : Bytes) (tokens : List Token) → stops rest ≡ true → Cut rest tokens
    → Cut ((item_text x ++ number_suffix t) ++ rest) (bare_tokens t x tokens)
unfolding fits
cut_bare (int_ty p n) (raw_int i) bare fit k rest tokens stop c = cut_named_number i p k rest tokens stop c
cut_bare (int_ty p NonNullable) raw_null bare fit k rest tokens stop c = absurd cc
cut_bare (int_ty p Nullable) raw_null bare fit k rest tokens stop c = absurd cc
cut_bare (int_ty p n) (raw_bool b) bare fit k rest tokens stop c = absurd cc
cut_bare (int_ty p n) (raw_text s) bare fit k rest tokens stop c = absurd cc
cut_bare (int_ty p n) (raw_list xs) bare fit k rest tokens stop c = absurd cc
cut_bare (int_ty p n) (raw_struct xs) bare fit k rest tokens stop c = absurd cc
cut_bare (bool_ty n) (raw_int i) bare fit k rest tokens stop c = absurd cc
cut_bare (bool_ty n) raw_null bare fit k rest tokens stop c = cut_unnamed raw_null k rest tokens stop c
cut_bare (bool_ty n) (raw_bool b) bare fit k rest tokens stop c = cut_unnamed (raw_bool b) k rest tokens stop c
cut_bare (bool_ty n) (raw_text s) bare fit k rest tokens stop c = absurd cc
cut_bare (bool_ty n) (raw_list xs) bare fit k rest tokens stop c = absurd cc
cut_bare (bool_ty n) (raw_struct xs) bare fit k rest tokens stop c = absurd cc
cut_bare (text_ty n) (raw_int i) bare fit k rest tokens stop c = absurd cc
cut_bare (text_ty n) raw_null bare fit k rest tokens stop c = cut_unnamed raw_null k rest tokens stop c
cut_bare (text_ty n) (raw_bool b) bare fit k rest tokens stop c = absurd cc
cut_bare (text_ty n) (raw_text s) bare fit k rest tokens stop c = cut_unnamed (raw_text s) k rest tokens stop c
cut_bare (text_ty n) (raw_list xs) bare fit k rest tokens stop c = absurd cc
cut_bare (text_ty n) (raw_struct xs) bare fit k rest tokens stop c = absurd cc
cut_bare (list_ty e n) x bare fit k rest tokens stop c = absurd cc
cut_bare (struct_ty fs n) x bare fit k rest tokens stop c = absurd cc

cut_lit : (rest : Bytes) (tokens : List Token) → Cut rest tokens → Cut (codes "lit(" ++ rest) (Reserved words.Lit ∷ Mark signs.RoundOpen ∷ tokens)
unfolding keyword_of
cut_lit rest tokens c = cut-reserved (codes "lit") _ words.Lit _ refl refl refl (cut-sign 40 _ _ _ round_open c)

cut_typed : (t : Ty) (x : Raw) → IsType t → IsItem x → (rest : Bytes) (tokens : List Token) → Cut rest tokens
    → Cut ((codes "lit(" ++ (type_text t ++ (codes ", " ++ (item_text x ++ codes ")")))) ++ rest)
    (Reserved words.Lit ∷ Mark signs.RoundOpen ∷ type_tokens t (Mark signs.Comma ∷ item_tokens x (Mark signs.RoundClose ∷ tokens)))
cut_typed t x kt kx rest tokens c =
    cut_lit _ _ (cut-parts (type_text t) _ rest _ (cut_type t kt _ _ refl (behind_comma.cut _ _ (cut-parts (item_text x) _ rest _
    (cut_item x kx _ _ refl (cut-sign 41 _ _ _ round_close c))))))

cut_constant : (s : Typed) → ReadyConstant s → (rest : Bytes) (tokens : List Token) → stops rest ≡ true → Cut rest tokens → Cut (literal_text s ++ rest) (literal_tokens s tokens)
unfolding literal_text literal_tokens
cut_constant s k rest tokens stop c = go (is_bare s.ty) refl
  where
    go : (t : Bool) → is_bare s.ty ≡ t
        → Cut ((if t then item_text s.value ++ number_suffix s.ty else codes "lit(" ++ (type_text s.ty ++ (codes ", " ++ (item_text s.value ++ codes ")")))) ++ rest)
        (if t then bare_tokens s.ty s.value tokens
        else Reserved words.Lit ∷ Mark signs.RoundOpen ∷ type_tokens s.ty (Mark signs.Comma ∷ item_tokens s.value (Mark signs.RoundClose ∷ tokens)))
    go true bare = cut_bare s.ty s.value bare k.fit k.item rest tokens stop c
    go false bare = cut_typed s.ty s.value k.type k.item rest tokens c

-- ---- expressions

-- an operator with a space before it and behind it
cut_operator : (op : Operator) (rest : Bytes) (tokens : List Token) → Cut rest tokens → Cut (codes " " ++ (operator_text op ++ (codes " " ++ rest))) (operator_token op ∷ tokens)
unfolding token_at run_of keyword_of one_sign
cut_operator Operator.Or rest tokens c = cut-blank 32 _ _ refl (cut-reserved (codes "or") _ words.Or _ refl refl refl (cut-blank 32 _ _ refl c))
cut_operator Operator.And rest tokens c = cut-blank 32 _ _ refl (cut-reserved (codes "and") _ words.And _ refl refl refl (cut-blank 32 _ _ refl c))
cut_operator Operator.Eq rest tokens c =
    cut-blank 32 _ _ refl (cut-token _ (Mark signs.Eq) (32 ∷ rest) _ (record { filled = refl; found = refl; shorter = omega arith }) (cut-blank 32 _ _ refl c))
cut_operator Operator.NotEq rest tokens c =
    cut-blank 32 _ _ refl (cut-token _ (Mark signs.NotEq) (32 ∷ rest) _ (record { filled = refl; found = refl; shorter = omega arith }) (cut-blank 32 _ _ refl c))
cut_operator Operator.Gt rest tokens c =
    cut-blank 32 _ _ refl (cut-token _ (Mark signs.Gt) (32 ∷ rest) _ (record { filled = refl; found = refl; shorter = omega arith }) (cut-blank 32 _ _ refl c))
cut_operator Operator.Gte rest tokens c =
    cut-blank 32 _ _ refl (cut-token _ (Mark signs.Gte) (32 ∷ rest) _ (record { filled = refl; found = refl; shorter = omega arith }) (cut-blank 32 _ _ refl c))
cut_operator Operator.Lt rest tokens c =
    cut-blank 32 _ _ refl (cut-token _ (Mark signs.Lt) (32 ∷ rest) _ (record { filled = refl; found = refl; shorter = omega arith }) (cut-blank 32 _ _ refl c))
cut_operator Operator.Lte rest tokens c =
    cut-blank 32 _ _ refl (cut-token _ (Mark signs.Lte) (32 ∷ rest) _ (record { filled = refl; found = refl; shorter = omega arith }) (cut-blank 32 _ _ refl c))
cut_operator Operator.Add rest tokens c =
    cut-blank 32 _ _ refl (cut-token _ (Mark signs.Plus) (32 ∷ rest) _ (record { filled = refl; found = refl; shorter = omega arith }) (cut-blank 32 _ _ refl c))
cut_operator Operator.Sub rest tokens c =
    cut-blank 32 _ _ refl (cut-token _ (Mark signs.Minus) (32 ∷ rest) _ (record { filled = refl; found = refl; shorter = omega arith }) (cut-blank 32 _ _ refl c))

-- parts behind a space
cut_inner : (a b c : Bytes) (tokens : List Token) → Cut (32 ∷ (a ++ (b ++ c))) tokens → Cut (32 ∷ ((a ++ b) ++ c)) tokens
cut_inner a b c tokens h = rw append_assoc h

-- the word of a call
record IsCall (s : Bytes) (k : Keyword) : Type 0 where
  reserved : keyword_of s ≡ Some k
  word : is_word s ≡ true

is_null_call : IsCall (codes "is_null") words.IsNull
unfolding keyword_of
is_null_call = record { reserved = refl; word = refl }

cast_call : IsCall (codes "cast") words.Cast
unfolding keyword_of
cast_call = record { reserved = refl; word = refl }

contains_call : IsCall (codes "contains") words.Contains
unfolding keyword_of
contains_call = record { reserved = refl; word = refl }

like_call : (negated fold_case : Bool) → IsCall (like_word negated fold_case) (like_keyword negated fold_case)
unfolding keyword_of
like_call false false = record { reserved = refl; word = refl }
like_call true false = record { reserved = refl; word = refl }
like_call false true = record { reserved = refl; word = refl }
like_call true true = record { reserved = refl; word = refl }

range_call : (lower upper : StrictComparison) → IsCall (range_word lower upper) (range_keyword lower upper)
unfolding keyword_of
range_call NonStrict NonStrict = record { reserved = refl; word = refl }
range_call Strict Strict = record { reserved = refl; word = refl }
range_call Strict NonStrict = record { reserved = refl; word = refl }
range_call NonStrict Strict = record { reserved = refl; word = refl }

pack_call : (n : Nullability) → IsCall (pack_word n) (pack_keyword n)
unfolding keyword_of
pack_call NonNullable = record { reserved = refl; word = refl }
pack_call Nullable = record { reserved = refl; word = refl }

merge_call : (n : Nullability) → IsCall (merge_word n) (merge_keyword n)
unfolding keyword_of
merge_call NonNullable = record { reserved = refl; word = refl }
merge_call Nullable = record { reserved = refl; word = refl }

cut_call : (s : Bytes) (k : Keyword) → IsCall s k → (rest : Bytes) (tokens : List Token) → Cut rest tokens → Cut (s ++ (40 ∷ rest)) (Reserved k ∷ Mark signs.RoundOpen ∷ tokens)
cut_call s k is rest tokens c = cut-reserved s (40 ∷ rest) k _ is.reserved is.word refl (cut-sign 40 _ _ _ round_open c)

cut_not : (rest : Bytes) (tokens : List Token) → Cut rest tokens → Cut (codes "(not " ++ rest) (Mark signs.RoundOpen ∷ Reserved words.Not ∷ tokens)
unfolding keyword_of
cut_not rest tokens c = cut-sign 40 _ _ _ round_open (cut-reserved (codes "not") _ words.Not _ refl refl refl (cut-blank 32 _ _ refl c))

listed_stop : (es : Trees) (rest : Bytes) → stops rest ≡ true → stops (listed_texts (codes ", ") es ++ rest) ≡ true
unfolding query_text
listed_stop no_trees rest stop = stop
listed_stop (tree e es) rest stop = refl

named_stop : (names : List Bytes) (es : Trees) (rest : Bytes) → stops rest ≡ true → stops (named_texts (codes ", ") names es ++ rest) ≡ true
unfolding query_text
named_stop [] es rest stop = stop
named_stop (f ∷ names) no_trees rest stop = stop
named_stop (f ∷ names) (tree e es) rest stop = refl

mutual
  unfolding query_text query_tokens

  cut_query : (e : Tree) → IsReady e → (rest : Bytes) (tokens : List Token) → stops rest ≡ true → Cut rest tokens → Cut (query_text e ++ rest) (query_tokens e tokens)
  cut_query root k rest tokens stop c = cut-sign 36 _ _ _ dollar c
  cut_query (literal s) k rest tokens stop c = cut_constant s k rest tokens stop c
  cut_query (get_item f e) k rest tokens stop c =
      cut-parts (query_text e) _ rest _ (cut_query e k.1 _ _ refl (cut-sign 46 _ _ _ dot (cut-name f rest tokens k.0 stop c)))
  cut_query (binary l op r) k rest tokens stop c =
      cut-sign 40 _ _ _ round_open (cut-parts (query_text l) _ rest _ (cut_query l k.0 _ _ refl
      (cut_inner (operator_text op) _ rest _ (cut_operator op _ _ (cut-parts (query_text r) _ rest _ (cut_query r k.1 _ _ refl (cut-sign 41 _ _ _ round_close c)))))))
  cut_query (not_of e) k rest tokens stop c =
      cut_not _ _ (cut-parts (query_text e) _ rest _ (cut_query e k _ _ refl (cut-sign 41 _ _ _ round_close c)))
  cut_query (is_null_of e) k rest tokens stop c =
      cut_call (codes "is_null") _ is_null_call _ _ (cut-parts (query_text e) _ rest _ (cut_query e k _ _ refl (cut-sign 41 _ _ _ round_close c)))
  cut_query (like e p negated fold_case) k rest tokens stop c =
      cut-parts (like_word negated fold_case) _ rest _ (cut_call _ _ (like_call negated fold_case) _ _ (cut-parts (query_text e) _ rest _ (cut_query e k.0 _ _ refl
      (behind_comma.cut _ _ (cut-parts (query_text p) _ rest _ (cut_query p k.1 _ _ refl (cut-sign 41 _ _ _ round_close c)))))))
  cut_query (between e lower upper options) k rest tokens stop c =
      cut-parts (between_word options) _ rest _ (cut_call _ _ (range_call options.lower_strict options.upper_strict) _ _
      (cut-parts (query_text e) _ rest _ (cut_query e k.0 _ _ refl
      (behind_comma.cut _ _ (cut-parts (query_text lower) _ rest _ (cut_query lower k.1 _ _ refl
      (behind_comma.cut _ _ (cut-parts (query_text upper) _ rest _ (cut_query upper k.2 _ _ refl (cut-sign 41 _ _ _ round_close c))))))))))
  cut_query (cast e t) k rest tokens stop c =
      cut_call (codes "cast") _ cast_call _ _ (cut-parts (query_text e) _ rest _ (cut_query e k.0 _ _ refl
      (behind_comma.cut _ _ (cut-parts (type_text t) _ rest _ (cut_type t k.1 _ _ refl (cut-sign 41 _ _ _ round_close c))))))
  cut_query (list_contains l v) k rest tokens stop c =
      cut_call (codes "contains") _ contains_call _ _ (cut-parts (query_text l) _ rest _ (cut_query l k.0 _ _ refl
      (behind_comma.cut _ _ (cut-parts (query_text v) _ rest _ (cut_query v k.1 _ _ refl (cut-sign 41 _ _ _ round_close c))))))
  cut_query (pack names es n) k rest tokens stop c =
      cut-parts (pack_word n) _ rest _ (cut_call _ _ (pack_call n) _ _ (cut-parts (named_texts [] names es) _ rest _
      (cut_named es names [] [] none k.0 k.2 _ _ refl (cut-sign 41 _ _ _ round_close c))))
  cut_query (merge es n) k rest tokens stop c =
      cut-parts (merge_word n) _ rest _ (cut_call _ _ (merge_call n) _ _ (cut-parts (listed_texts [] es) _ rest _
      (cut_listed es [] [] none k _ _ refl (cut-sign 41 _ _ _ round_close c))))
  cut_query (select s e) k rest tokens stop c =
      cut-parts (query_text e) _ rest _ (cut_query e k.1 _ _ (choice_stops s rest) (cut_choice s k.0 rest tokens c))
  cut_query (dynamic e op i t default) k rest tokens stop c = absurd k

  cut_listed : (es : Trees) (s : Bytes) (before : List Token) → IsSeparator s before → AreReady es → (rest : Bytes) (tokens : List Token) → stops rest ≡ true → Cut rest tokens
      → Cut (listed_texts s es ++ rest) (listed_tokens before es tokens)
  cut_listed no_trees s before is k rest tokens stop c = c
  cut_listed (tree e es) s before is k rest tokens stop c =
      cut-parts s _ rest _ (is.cut _ _ (cut-parts (query_text e) _ rest _
      (cut_query e k.0 _ _ (listed_stop es rest stop) (cut_listed es (codes ", ") _ behind_comma k.1 rest tokens stop c))))

  cut_named : (es : Trees) (names : List Bytes) (s : Bytes) (before : List Token) → IsSeparator s before → AreTexts names → AreReady es → (rest : Bytes) (tokens : List Token) → stops rest ≡ true
      → Cut rest tokens → Cut (named_texts s names es ++ rest) (named_tokens before names es tokens)
  cut_named no_trees [] s before is kn k rest tokens stop c = c
  cut_named no_trees (f ∷ names) s before is kn k rest tokens stop c = c
  cut_named (tree e es) [] s before is kn k rest tokens stop c = c
  cut_named (tree e es) (f ∷ names) s before is kn k rest tokens stop c =
      cut-parts s _ rest _ (is.cut _ _ (cut-parts (name_text f) _ rest _
      (cut-name f _ _ kn.0 refl (cut-sign 58 _ _ _ colon (cut-blank 32 _ _ refl (cut-parts (query_text e) _ rest _
      (cut_query e k.0 _ _ (named_stop names es rest stop) (cut_named es names (codes ", ") _ behind_comma kn.1 k.1 rest tokens stop c))))))))

-- the tokens of the text of an expression
pub cut_text : (e : Tree) → IsReady e → Cut (query_text e) (query_tokens e [])
cut_text e k = subst (λ (bytes : Bytes). Cut bytes (query_tokens e [])) (append-nil (query_text e)) (cut_query e k [] [] refl cut-end)
