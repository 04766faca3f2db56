-- What is read as a type or an item stands at the front of tokens by their productions.
use Rattle.std.proofs.Common.{◌≡◌, ℕ, zero, suc, Bool, true, false, List, [], ◌∷◌, ◌++◌, refl, sym, ap, subst, ◌∙◌, append_assoc, Option, Some, None, codes}
use Rattle.std.specs.Prelude.{if◌then◌else◌}
use Rattle.std.specs.Str.{bytes_eq}
use Rattle.std.proofs.lemmas.Slice.Eq.{bytes_eq-Decides}
use Rattle.vx_dtype.specs.declared.PType.{PType}
use Rattle.vx_dtype.specs.declared.Nullability.TheVariants.{NonNullable, Nullable}
use Rattle.vx_dtype.specs.Types.{Bytes, Ty, list_ty}
use Rattle.vx_dtype.specs.TypeRules.{with_nullability}
use Rattle.vx_dtype.specs.Values.{Raw}
use Rattle.vx_tokens.specs.declared.tokens.Keyword.{Keyword}
use Rattle.vx_tokens.specs.declared.tokens.Keyword.TheVariants as words
use Rattle.vx_tokens.specs.declared.tokens.Sign.TheVariants as signs
use Rattle.vx_tokens.specs.declared.tokens.Token.{Token}
use Rattle.vx_tokens.specs.declared.tokens.Token.TheVariants.{Reserved, Word, Quoted, Quote, Number, Mark}
use Rattle.vx_tokens.specs.Tokens.{◌>>=◌}
use Rattle.vx_text.specs.NamedExpressions.{and_one}
use Rattle.vx_text.specs.Grammar.{Read, after, choose, closed, most_tokens, parts, labelled, and_field, struct_type, list_with, struct_with, plain_type, word_base, base_with, marked, type_with, type_at, type_front, list_item, struct_item, integer_item, negative_item, word_item, item_with, item_at, item_front}
use Rattle.vx_laws_text.specs.Productions.{IsType, plain_base, null_base, IsBase, named_base, list_base, struct_base, AreFields, no_fields, one_field, more_fields, IsItem, null_item, true_item, false_item, number_item, minus_item, text_item, square_item, curly_item, AreItems, no_items, one_item, more_items}
use Rattle.vx_laws_text.proofs.Sound.{Front, Sound, bound, after_is, closed_is, PartsFrom, parts_sound, IsLabelled, labelled_sound}

-- a part at the front, and what is read behind it
pub at_front : {A : Type 0} (P : List Token → A → Type 0) (tokens taken rest : List Token) (v : A) (x : A × List Token) → tokens ≡ taken ++ rest → P taken v → ◌≡◌ {A = Read A} (Some (v, rest)) (Some x) → Front P tokens x
at_front {A} P tokens taken rest v x split is e =
    let pair : ◌≡◌ {A = A × List Token} (v, rest) x = cc in
    record { taken = taken; split = split ∙ ap (λ (z : A × List Token). taken ++ z.1) pair; is = subst (λ (z : A × List Token). P taken z.0) pair is }

pub with_end : (ts rest : List Token) (t : Token) → ts ++ t ∷ rest ≡ (ts ++ t ∷ []) ++ rest
with_end ts rest t = sym (append_assoc ts (t ∷ []) rest)

-- ---- types

fields_from : (ts : List Token) (f : Bytes × Ty) (fs : List (Bytes × Ty)) → PartsFrom (IsLabelled IsType) ts f fs → AreFields ts (f ∷ fs)
fields_from ts f [] p = subst (λ (z : List Token). AreFields z (f ∷ [])) (sym p.2) (one_field p.0 p.1 f.0 f.1 p.3 p.4)
fields_from ts f (g ∷ gs) p =
    let l = p.3 in
    subst (λ (z : List Token). AreFields z (f ∷ g ∷ gs)) (sym (p.2 ∙ ap (λ (z : List Token). z ++ Mark signs.Comma ∷ p.1) l.2))
    (more_fields l.0 l.1 p.1 f.0 f.1 g gs l.3 l.4 (fields_from p.1 g gs p.4))

module _ (read : List Token → Read Ty) (k : Sound read IsType) where
  list_sound : (tokens : List Token) (x : Ty × List Token) → list_with read tokens ≡ Some x → Front IsBase (Word (codes "list") ∷ tokens) x
  list_sound tokens x e =
      let a = bound (after signs.RoundOpen tokens) (λ rest. read rest >>= λ t. closed signs.RoundClose (list_ty t.0 NonNullable, t.1)) x e in
      let b = bound (read a.x) (λ t. closed signs.RoundClose (list_ty t.0 NonNullable, t.1)) x a.gives in
      let c = closed_is signs.RoundClose (list_ty b.x.0 NonNullable, b.x.1) x b.gives in
      let f = k.sound a.x b.x b.is in
      record {
        taken = Word (codes "list") ∷ Mark signs.RoundOpen ∷ (f.taken ++ Mark signs.RoundClose ∷ []);
        split = ap (λ (z : List Token). Word (codes "list") ∷ z) (after_is signs.RoundOpen tokens a.x a.is
            ∙ ap (λ (z : List Token). Mark signs.RoundOpen ∷ z) (f.split ∙ (ap (λ (z : List Token). f.taken ++ z) c.is ∙ with_end f.taken x.1 (Mark signs.RoundClose))));
        is = subst (IsBase (Word (codes "list") ∷ Mark signs.RoundOpen ∷ (f.taken ++ Mark signs.RoundClose ∷ []))) c.same (list_base f.taken b.x.0 f.is);
      }

  struct_sound : (tokens : List Token) (x : Ty × List Token) → struct_with read tokens ≡ Some x → Front IsBase (Mark signs.CurlyOpen ∷ tokens) x
  struct_sound tokens x e =
      let b = bound (parts (labelled read) and_field ([], []) signs.CurlyClose tokens) (λ fs. Some (struct_type fs.0, fs.1)) x e in
      let a = parts_sound (labelled read) (IsLabelled IsType) AreFields and_field signs.CurlyClose ([], []) (labelled_sound read IsType k) no_fields fields_from tokens b.x b.is in
      at_front IsBase (Mark signs.CurlyOpen ∷ tokens) (Mark signs.CurlyOpen ∷ (a.taken ++ Mark signs.CurlyClose ∷ [])) b.x.1 (struct_type b.x.0) x
      (ap (λ (z : List Token). Mark signs.CurlyOpen ∷ z) (a.split ∙ with_end a.taken b.x.1 (Mark signs.CurlyClose)))
      (subst (λ (s : List Bytes × List Ty). IsBase (Mark signs.CurlyOpen ∷ (a.taken ++ Mark signs.CurlyClose ∷ [])) (struct_type s)) a.gives (struct_base a.taken a.xs a.are)) b.gives

  word_sound : (s : Bytes) (rest : List Token) (x : Ty × List Token) → word_base read s rest ≡ Some x → Front IsBase (Word s ∷ rest) x
  word_sound s rest x e = go (bytes_eq s (codes "list")) refl e
    where
      go : (b : Bool) → bytes_eq s (codes "list") ≡ b → (if b then list_with read rest else (plain_type s >>= λ t. Some (t, rest))) ≡ Some x → Front IsBase (Word s ∷ rest) x
      go true is e = subst (λ (z : Bytes). Front IsBase (Word z ∷ rest) x) (sym ((bytes_eq-Decides s (codes "list")).0 is)) (list_sound rest x e)
      go false is e =
          let b = bound (plain_type s) (λ t. Some (t, rest)) x e in
          at_front IsBase (Word s ∷ rest) (Word s ∷ []) rest b.x x refl (named_base s b.x b.is) b.gives

  base_sound : (tokens : List Token) (x : Ty × List Token) → base_with read tokens ≡ Some x → Front IsBase tokens x
  base_sound [] x e = absurd cc
  base_sound (Word s ∷ rest) x e = word_sound s rest x e
  base_sound (Mark signs.CurlyOpen ∷ rest) x e = struct_sound rest x e
  base_sound (Mark s ∷ rest) x e = absurd cc
  base_sound (t ∷ rest) x e = absurd cc

  abbrev marked_as : Ty → List Token → Option (List Token) → Ty × List Token
  marked_as t tokens o = choose o (λ rest. (with_nullability t Nullable, rest)) (t, tokens)

  type_sound : (tokens : List Token) (x : Ty × List Token) → type_with read tokens ≡ Some x → Front IsType tokens x
  type_sound tokens x e =
      let b = bound (base_with read tokens) (λ t. Some (marked t)) x e in
      let f = base_sound tokens b.x b.is in
      go b.x f (after signs.Question b.x.1) (λ rest is. after_is signs.Question b.x.1 rest is) b.gives
    where
      go : (t : Ty × List Token) → Front IsBase tokens t → (o : Option (List Token)) → ((rest : List Token) → o ≡ Some rest → t.1 ≡ Mark signs.Question ∷ rest) → Some (marked_as t.0 t.1 o) ≡ Some x → Front IsType tokens x
      go t f None h e = at_front IsType tokens f.taken t.1 t.0 x f.split (plain_base f.taken t.0 f.is) e
      go t f (Some rest) h e =
          at_front IsType tokens (f.taken ++ Mark signs.Question ∷ []) rest (with_nullability t.0 Nullable) x
          (f.split ∙ (ap (λ (z : List Token). f.taken ++ z) (h rest refl) ∙ with_end f.taken rest (Mark signs.Question))) (null_base f.taken t.0 f.is) e

types_sound : (n : ℕ) → Sound (type_at n) IsType
unfolding type_at
types_sound zero = record { sound = λ tokens x e. absurd cc }
types_sound (suc n) = record { sound = λ tokens x e. type_sound (type_at n) (types_sound n) tokens x e }

pub type_front_sound : Sound type_front IsType
type_front_sound = record { sound = (types_sound most_tokens).sound }

-- ---- items

items_from : (ts : List Token) (x : Option Raw) (xs : List (Option Raw)) → PartsFrom IsItem ts x xs → AreItems ts (x ∷ xs)
items_from ts x [] p = one_item ts x p
items_from ts x (y ∷ ys) p = subst (λ (z : List Token). AreItems z (x ∷ y ∷ ys)) (sym p.2) (more_items p.0 p.1 x y ys p.3 (items_from p.1 y ys p.4))

number_sound : (digits : Bytes) (p : Option PType) (rest : List Token) (x : Option Raw × List Token) → integer_item false digits p rest ≡ Some x → Front IsItem (Number digits p ∷ rest) x
number_sound digits None rest x e = at_front IsItem (Number digits None ∷ rest) (Number digits None ∷ []) rest _ x refl (number_item digits) e
number_sound digits (Some p) rest x e = absurd cc

minus_sound : (tokens : List Token) (x : Option Raw × List Token) → negative_item tokens ≡ Some x → Front IsItem (Mark signs.Minus ∷ tokens) x
minus_sound [] x e = absurd cc
minus_sound (Number digits None ∷ rest) x e = at_front IsItem (Mark signs.Minus ∷ Number digits None ∷ rest) (Mark signs.Minus ∷ Number digits None ∷ []) rest _ x refl (minus_item digits) e
minus_sound (Number digits (Some p) ∷ rest) x e = absurd cc
minus_sound (Word s ∷ rest) x e = absurd cc
minus_sound (Mark s ∷ rest) x e = absurd cc
minus_sound (Reserved k ∷ rest) x e = absurd cc
minus_sound (Quoted f ∷ rest) x e = absurd cc
minus_sound (Quote s ∷ rest) x e = absurd cc

module _ (read : List Token → Read (Option Raw)) (k : Sound read IsItem) where
  square_sound : (tokens : List Token) (x : Option Raw × List Token) → (parts read and_one (Some []) signs.SquareClose tokens >>= λ xs. Some (list_item xs.0, xs.1)) ≡ Some x → Front IsItem (Mark signs.SquareOpen ∷ tokens) x
  square_sound tokens x e =
      let b = bound (parts read and_one (Some []) signs.SquareClose tokens) (λ xs. Some (list_item xs.0, xs.1)) x e in
      let a = parts_sound read IsItem AreItems and_one signs.SquareClose (Some []) k no_items items_from tokens b.x b.is in
      at_front IsItem (Mark signs.SquareOpen ∷ tokens) (Mark signs.SquareOpen ∷ (a.taken ++ Mark signs.SquareClose ∷ [])) b.x.1 (list_item b.x.0) x
      (ap (λ (z : List Token). Mark signs.SquareOpen ∷ z) (a.split ∙ with_end a.taken b.x.1 (Mark signs.SquareClose)))
      (subst (λ (s : Option (List Raw)). IsItem (Mark signs.SquareOpen ∷ (a.taken ++ Mark signs.SquareClose ∷ [])) (list_item s)) a.gives (square_item a.taken a.xs a.are)) b.gives

  curly_sound : (tokens : List Token) (x : Option Raw × List Token) → (parts read and_one (Some []) signs.CurlyClose tokens >>= λ xs. Some (struct_item xs.0, xs.1)) ≡ Some x → Front IsItem (Mark signs.CurlyOpen ∷ tokens) x
  curly_sound tokens x e =
      let b = bound (parts read and_one (Some []) signs.CurlyClose tokens) (λ xs. Some (struct_item xs.0, xs.1)) x e in
      let a = parts_sound read IsItem AreItems and_one signs.CurlyClose (Some []) k no_items items_from tokens b.x b.is in
      at_front IsItem (Mark signs.CurlyOpen ∷ tokens) (Mark signs.CurlyOpen ∷ (a.taken ++ Mark signs.CurlyClose ∷ [])) b.x.1 (struct_item b.x.0) x
      (ap (λ (z : List Token). Mark signs.CurlyOpen ∷ z) (a.split ∙ with_end a.taken b.x.1 (Mark signs.CurlyClose)))
      (subst (λ (s : Option (List Raw)). IsItem (Mark signs.CurlyOpen ∷ (a.taken ++ Mark signs.CurlyClose ∷ [])) (struct_item s)) a.gives (curly_item a.taken a.xs a.are)) b.gives

  reserved_sound : (w : Keyword) (rest : List Token) (x : Option Raw × List Token) → (word_item w >>= λ y. Some (Some y, rest)) ≡ Some x → Front IsItem (Reserved w ∷ rest) x
  reserved_sound words.Null rest x e = at_front IsItem (Reserved words.Null ∷ rest) (Reserved words.Null ∷ []) rest _ x refl null_item e
  reserved_sound words.True rest x e = at_front IsItem (Reserved words.True ∷ rest) (Reserved words.True ∷ []) rest _ x refl true_item e
  reserved_sound words.False rest x e = at_front IsItem (Reserved words.False ∷ rest) (Reserved words.False ∷ []) rest _ x refl false_item e
  reserved_sound w rest x e = absurd cc

  item_sound : (tokens : List Token) (x : Option Raw × List Token) → item_with read tokens ≡ Some x → Front IsItem tokens x
  item_sound [] x e = absurd cc
  item_sound (Reserved w ∷ rest) x e = reserved_sound w rest x e
  item_sound (Number digits p ∷ rest) x e = number_sound digits p rest x e
  item_sound (Quote s ∷ rest) x e = at_front IsItem (Quote s ∷ rest) (Quote s ∷ []) rest _ x refl (text_item s) e
  item_sound (Mark signs.Minus ∷ rest) x e = minus_sound rest x e
  item_sound (Mark signs.SquareOpen ∷ rest) x e = square_sound rest x e
  item_sound (Mark signs.CurlyOpen ∷ rest) x e = curly_sound rest x e
  item_sound (Mark s ∷ rest) x e = absurd cc
  item_sound (Word s ∷ rest) x e = absurd cc
  item_sound (Quoted s ∷ rest) x e = absurd cc

items_sound : (n : ℕ) → Sound (item_at n) IsItem
unfolding item_at
items_sound zero = record { sound = λ tokens x e. absurd cc }
items_sound (suc n) = record { sound = λ tokens x e. item_sound (item_at n) (items_sound n) tokens x e }

pub item_front_sound : Sound item_front IsItem
item_front_sound = record { sound = (items_sound most_tokens).sound }
