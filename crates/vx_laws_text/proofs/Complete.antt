-- What stands at the front of tokens by the productions of the grammar is read: lists of parts, types and items.
use Rattle.std.proofs.Common.{◌≡◌, ℕ, zero, suc, ◌<◌, ◌≤◌, Bool, true, false, List, [], ◌∷◌, ◌++◌, length, refl, sym, ap, ◌∙◌, append_assoc, append-nil, Option, Some, None, arith, codes, length-append}
use Rattle.std.specs.Prelude.{if◌then◌else◌}
use Rattle.std.specs.Str.{bytes_eq}
use Rattle.std.proofs.lemmas.Slice.Eq.{bytes_eq-Decides}
use Rattle.vx_dtype.specs.declared.Nullability.TheVariants.{NonNullable, Nullable}
use Rattle.vx_dtype.specs.Types.{Bytes, Ty, list_ty}
use Rattle.vx_dtype.specs.TypeRules.{with_nullability}
use Rattle.vx_dtype.specs.Values.{Raw}
use Rattle.vx_tokens.specs.declared.tokens.Sign.{Sign}
use Rattle.vx_tokens.specs.declared.tokens.Sign.TheVariants as signs
use Rattle.vx_tokens.specs.declared.tokens.Token.{Token}
use Rattle.vx_tokens.specs.declared.tokens.Token.TheVariants.{Word, Mark}
use Rattle.vx_dtype.specs.Texts.{integer_named}
use Rattle.vx_tokens.specs.Tokens.{◌>>=◌}
use Rattle.vx_text.specs.NamedExpressions.{and_one}
use Rattle.vx_text.specs.Grammar.{Read, after, choose, closed, more_parts, parts, and_then, name_at, names_at, labelled, and_field, struct_type, list_with, plain_type, base_with, marked, type_with, type_at, type_front, list_item, struct_item, item_with, item_at, item_front}
use Rattle.vx_laws_text.specs.Productions.{gathered, IsName, word_name, quoted_name, AreNames, no_names, one_name, more_names, IsType, plain_base, null_base, IsBase, named_base, list_base, struct_base, AreFields, no_fields, one_field, more_fields, IsItem, null_item, true_item, false_item, number_item, minus_item, text_item, square_item, curly_item, AreItems, no_items, one_item, more_items}
use Rattle.vx_laws_text.proofs.ReadParts.{Closes, closes_square, closes_curly, after_comma, last_part, next_part, no_parts, some_parts}
use Rattle.vx_laws_text.proofs.Sound.{PartsFrom}

-- a rule reads these tokens as a part, whatever of the given kind stands behind them
pub record ReadsPart {A : Type 0} (part : List Token → Read A) (Follows : List Token → Type 0) (ts : List Token) (x : A) : Type 0 where
  pub reads : (rest : List Token) → Follows rest → part (ts ++ rest) ≡ Some (x, rest)

-- parts with a comma between any two
abbrev pub PartsOf : {A : Type 0} → (List Token → A → Type 0) → List Token → List A → Type 0
PartsOf P ts [] = ts ≡ []
PartsOf P ts (x ∷ xs) = PartsFrom P ts x xs

pub parts_short : {A : Type 0} (P : List Token → A → Type 0) (ts : List Token) (x : A) (xs : List A) → PartsFrom P ts x xs → length xs ≤ length ts
parts_short P ts x [] p = omega arith
parts_short P ts x (y ∷ ys) p = omega (arith, ap length p.2, length-append p.0 (Mark signs.Comma ∷ p.1), parts_short P p.1 y ys p.4)

-- how a list of parts ends
pub record Ending (Follows : List Token → Type 0) (close : Sign) : Type 0 where
  pub comma : (rest : List Token) → Follows (Mark signs.Comma ∷ rest)
  pub end : (rest : List Token) → Follows (Mark close ∷ rest)
  pub closes : (rest : List Token) → Closes close (Mark close ∷ rest) rest

module _ {A S : Type 0} (part : List Token → Read A) (Follows : List Token → Type 0) (add : S → A → S) (close : Sign) (k : Ending Follows close) where
  more_read : (xs : List A) (x : A) (ts : List Token) (n : ℕ) (so_far : S) (rest : List Token) → PartsFrom (ReadsPart part Follows) ts x xs → length xs ≤ n
      → more_parts part add close (suc n) so_far (ts ++ Mark close ∷ rest) ≡ Some (gathered add (add so_far x) xs, rest)
  more_read [] x ts n so_far rest p le = last_part part add close n so_far _ _ rest x (p.reads (Mark close ∷ rest) (k.end rest)) (k.closes rest)
  more_read (y ∷ ys) x ts zero so_far rest p le = absurd (omega arith)
  more_read (y ∷ ys) x ts (suc n) so_far rest p le =
      let split : ts ++ Mark close ∷ rest ≡ p.0 ++ Mark signs.Comma ∷ (p.1 ++ Mark close ∷ rest) =
      ap (λ (z : List Token). z ++ Mark close ∷ rest) p.2 ∙ append_assoc p.0 (Mark signs.Comma ∷ p.1) (Mark close ∷ rest) in
      ap (more_parts part add close (suc (suc n)) so_far) split
      ∙ (next_part part add close (suc n) so_far _ _ _ x (p.3.reads (Mark signs.Comma ∷ (p.1 ++ Mark close ∷ rest)) (k.comma _)) (after_comma _)
      ∙ more_read ys y p.1 n (add so_far x) rest p.4 (omega arith))

  -- the first token of parts doesn't close them
  pub record Opens (ts : List Token) : Type 0 where
    pub unclosed : (rest : List Token) → after close (ts ++ rest) ≡ None

  pub none_read : (none : S) (ts rest : List Token) → ts ≡ [] → parts part add none close (ts ++ Mark close ∷ rest) ≡ Some (none, rest)
  none_read none ts rest is =
      ap (λ (z : List Token). parts part add none close (z ++ Mark close ∷ rest)) is ∙ no_parts part add none close (Mark close ∷ rest) rest (k.closes rest).closed_by

  pub some_read : (none : S) (x : A) (xs : List A) (ts rest : List Token) → PartsFrom (ReadsPart part Follows) ts x xs → Opens ts → length ts < 4096
      → parts part add none close (ts ++ Mark close ∷ rest) ≡ Some (gathered add (add none x) xs, rest)
  some_read none x xs ts rest p o le =
      some_parts part add none close (ts ++ Mark close ∷ rest) (o.unclosed (Mark close ∷ rest)) ∙ more_read xs x ts 4095 none rest p (omega (arith, parts_short (ReadsPart part Follows) ts x xs p))

-- ---- names

abbrev pub Anything : List Token → Type 0
Anything rest = Unit {0}

pub name_complete : {ts : List Token} {f : Bytes} → IsName ts f → (rest : List Token) → name_at (ts ++ rest) ≡ Some (f, rest)
unfolding name_at
name_complete (word_name f) rest = refl
name_complete (quoted_name f) rest = refl

pub name_no_sign : {ts : List Token} {f : Bytes} → IsName ts f → (s : Sign) (rest : List Token) → after s (ts ++ rest) ≡ None
unfolding after
name_no_sign (word_name f) s rest = refl
name_no_sign (quoted_name f) s rest = refl

names_parts : {ts : List Token} {fs : List Bytes} → AreNames ts fs → PartsOf (ReadsPart name_at Anything) ts fs
names_parts no_names = refl
names_parts (one_name ts f d) = record { reads = λ rest any. name_complete d rest }
names_parts (more_names ts us f g fs d ds) = (ts, us, refl, record { reads = λ rest any. name_complete d rest }, names_parts ds)

gathered_names : (so_far fs : List Bytes) → gathered and_then so_far fs ≡ so_far ++ fs
gathered_names so_far [] = sym (append-nil so_far)
gathered_names so_far (f ∷ fs) = gathered_names (so_far ++ f ∷ []) fs ∙ append_assoc so_far (f ∷ []) fs

curly_names : Ending Anything signs.CurlyClose
curly_names = record { comma = λ rest. tt; end = λ rest. tt; closes = closes_curly }

name_first : {ts : List Token} {f : Bytes} → IsName ts f → (us : List Token) (rest : List Token) → after signs.CurlyClose ((ts ++ us) ++ rest) ≡ None
name_first {ts} {f} d us rest = ap (after signs.CurlyClose) (append_assoc ts us rest) ∙ name_no_sign d signs.CurlyClose (us ++ rest)

pub names_complete : {ts : List Token} {fs : List Bytes} → AreNames ts fs → length ts < 4096 → (rest : List Token) → names_at (ts ++ Mark signs.CurlyClose ∷ rest) ≡ Some (fs, rest)
names_complete no_names le rest = none_read name_at Anything and_then signs.CurlyClose curly_names [] [] rest refl
names_complete (one_name ts f d) le rest =
    some_read name_at Anything and_then signs.CurlyClose curly_names [] f [] ts rest (names_parts (one_name ts f d)) (record { unclosed = λ others. name_no_sign d signs.CurlyClose others }) le
names_complete (more_names ts us f g fs d ds) le rest =
    some_read name_at Anything and_then signs.CurlyClose curly_names [] f (g ∷ fs) (ts ++ Mark signs.Comma ∷ us) rest (names_parts (more_names ts us f g fs d ds))
    (record { unclosed = λ others. name_first d (Mark signs.Comma ∷ us) others }) le ∙ ap (λ (z : List Bytes). Some (z, rest)) (gathered_names ([] ++ f ∷ []) (g ∷ fs))

pub labelled_complete : {A : Type 0} (part : List Token → Read A) (Follows : List Token → Type 0) (ns ts : List Token) (f : Bytes) (x : A) → IsName ns f → ReadsPart part Follows ts x
    → ReadsPart (labelled part) Follows (ns ++ Mark signs.Colon ∷ ts) (f, x)
unfolding after
labelled_complete part Follows ns ts f x d k = record {
  reads = λ rest follows.
      ap (labelled part) (append_assoc ns (Mark signs.Colon ∷ ts) rest)
      ∙ (ap (λ r. r >>= λ g. after signs.Colon g.1 >>= λ others. part others >>= λ y. Some ((g.0, y.0), y.1)) (name_complete d (Mark signs.Colon ∷ (ts ++ rest)))
      ∙ ap (λ r. r >>= λ y. Some ((f, y.0), y.1)) (k.reads rest follows));
}

-- ---- types

-- no question mark stands behind a type
pub record NoQuestion (rest : List Token) : Type 0 where
  pub none : after signs.Question rest ≡ None

no_question : (s : Sign) (rest : List Token) → after signs.Question (Mark s ∷ rest) ≡ None → NoQuestion (Mark s ∷ rest)
no_question s rest h = record { none = h }

pub comma_follows : (rest : List Token) → NoQuestion (Mark signs.Comma ∷ rest)
unfolding after
comma_follows rest = record { none = refl }

pub round_follows : (rest : List Token) → NoQuestion (Mark signs.RoundClose ∷ rest)
unfolding after
round_follows rest = record { none = refl }

curly_follows : (rest : List Token) → NoQuestion (Mark signs.CurlyClose ∷ rest)
unfolding after
curly_follows rest = record { none = refl }

curly_types : Ending NoQuestion signs.CurlyClose
curly_types = record { comma = comma_follows; end = curly_follows; closes = closes_curly }

-- the base of a type is read, whatever stands behind it
record ReadsBase (read : List Token → Read Ty) (ts : List Token) (t : Ty) : Type 0 where
  base : (rest : List Token) → base_with read (ts ++ rest) ≡ Some (t, rest)

list_no_name : plain_type (codes "list") ≡ None
unfolding integer_named
list_no_name = refl

no_list : (s : Bytes) (t : Ty) → plain_type s ≡ Some t → bytes_eq s (codes "list") ≡ false
no_list s t e = go (bytes_eq s (codes "list")) refl
  where
    go : (b : Bool) → bytes_eq s (codes "list") ≡ b → b ≡ false
    go true is = let no : None ≡ Some t = sym list_no_name ∙ (ap plain_type (sym ((bytes_eq-Decides s (codes "list")).0 is)) ∙ e) in absurd cc
    go false is = refl

named_reads : (read : List Token → Read Ty) (s : Bytes) (t : Ty) → plain_type s ≡ Some t → ReadsBase read (Word s ∷ []) t
named_reads read s t e = record {
  base = λ rest.
      ap (λ b. if b then list_with read rest else (plain_type s >>= λ u. Some (u, rest))) (no_list s t e) ∙ ap (λ o. o >>= λ u. Some (u, rest)) e;
}

list_reads : (read : List Token → Read Ty) (ts : List Token) (t : Ty) → ReadsPart read NoQuestion ts t → ReadsBase read (Word (codes "list") ∷ Mark signs.RoundOpen ∷ (ts ++ Mark signs.RoundClose ∷ [])) (list_ty t NonNullable)
unfolding after
list_reads read ts t k = record {
  base = λ rest.
      ap (λ (z : List Token). base_with read (Word (codes "list") ∷ Mark signs.RoundOpen ∷ z)) (append_assoc ts (Mark signs.RoundClose ∷ []) rest)
      ∙ ap (λ r. r >>= λ u. closed signs.RoundClose (list_ty u.0 NonNullable, u.1)) (k.reads (Mark signs.RoundClose ∷ rest) (round_follows rest));
}

struct_reads : (read : List Token → Read Ty) (ts : List Token) (fs : List (Bytes × Ty))
    → ((rest : List Token) → parts (labelled read) and_field ([], []) signs.CurlyClose (ts ++ Mark signs.CurlyClose ∷ rest) ≡ Some (gathered and_field ([], []) fs, rest))
    → ReadsBase read (Mark signs.CurlyOpen ∷ (ts ++ Mark signs.CurlyClose ∷ [])) (struct_type (gathered and_field ([], []) fs))
struct_reads read ts fs k = record {
  base = λ rest.
      ap (λ (z : List Token). base_with read (Mark signs.CurlyOpen ∷ z)) (append_assoc ts (Mark signs.CurlyClose ∷ []) rest)
      ∙ ap (λ r. r >>= λ gs. Some (struct_type gs.0, gs.1)) (k rest);
}

plain_reads : (read : List Token → Read Ty) (ts : List Token) (t : Ty) → ReadsBase read ts t → ReadsPart (type_with read) NoQuestion ts t
plain_reads read ts t k = record {
  reads = λ rest follows.
      ap (λ r. r >>= λ u. Some (marked u)) (k.base rest) ∙ ap (λ o. Some (choose o (λ others. (with_nullability t Nullable, others)) (t, rest))) follows.none;
}

null_reads : (read : List Token → Read Ty) (ts : List Token) (t : Ty) → ReadsBase read ts t → ReadsPart (type_with read) NoQuestion (ts ++ Mark signs.Question ∷ []) (with_nullability t Nullable)
unfolding after
null_reads read ts t k = record {
  reads = λ rest follows.
      ap (type_with read) (append_assoc ts (Mark signs.Question ∷ []) rest) ∙ ap (λ r. r >>= λ u. Some (marked u)) (k.base (Mark signs.Question ∷ rest));
}

abbrev FieldsRead : (List Token → Read Ty) → List Token → List (Bytes × Ty) → Type 0
FieldsRead read ts fs = PartsOf (ReadsPart (labelled read) NoQuestion) ts fs

fields_read : (read : List Token → Read Ty) {ts : List Token} {fs : List (Bytes × Ty)} → AreFields ts fs → FieldsRead read ts fs → length ts < 4096
    → (rest : List Token) → parts (labelled read) and_field ([], []) signs.CurlyClose (ts ++ Mark signs.CurlyClose ∷ rest) ≡ Some (gathered and_field ([], []) fs, rest)
fields_read read no_fields k le rest = none_read (labelled read) NoQuestion and_field signs.CurlyClose curly_types ([], []) [] rest refl
fields_read read (one_field ns ts f t d e) k le rest =
    some_read (labelled read) NoQuestion and_field signs.CurlyClose curly_types ([], []) (f, t) [] (ns ++ Mark signs.Colon ∷ ts) rest k
    (record { unclosed = λ others. name_first d (Mark signs.Colon ∷ ts) others }) le
fields_read read (more_fields ns ts us f t g fs d e ds) k le rest =
    some_read (labelled read) NoQuestion and_field signs.CurlyClose curly_types ([], []) (f, t) (g ∷ fs) ((ns ++ Mark signs.Colon ∷ ts) ++ Mark signs.Comma ∷ us) rest k
    (record { unclosed = λ others. ap (after signs.CurlyClose) (append_assoc (ns ++ Mark signs.Colon ∷ ts) (Mark signs.Comma ∷ us) others) ∙ name_first d (Mark signs.Colon ∷ ts) (Mark signs.Comma ∷ (us ++ others)) }) le

base_some : {ts : List Token} {t : Ty} → IsBase ts t → 1 ≤ length ts
base_some (named_base s t e) = omega arith
base_some (list_base ts t d) = omega arith
base_some (struct_base ts fs d) = omega arith

mutual
  unfolding type_at

  type_complete : {ts : List Token} {t : Ty} → IsType ts t → (deep : ℕ) → length ts ≤ deep → deep ≤ 4096 → ReadsPart (type_at deep) NoQuestion ts t
  type_complete (plain_base ts t d) zero le most = absurd (omega (arith, base_some d))
  type_complete (plain_base ts t d) (suc deep) le most = plain_reads (type_at deep) ts t (base_complete d deep (omega arith) (omega arith))
  type_complete (null_base ts t d) zero le most = absurd (omega (arith, length-append ts (Mark signs.Question ∷ [])))
  type_complete (null_base ts t d) (suc deep) le most = null_reads (type_at deep) ts t (base_complete d deep (omega (arith, length-append ts (Mark signs.Question ∷ []))) (omega arith))

  base_complete : {ts : List Token} {t : Ty} → IsBase ts t → (deep : ℕ) → length ts ≤ suc deep → deep < 4096 → ReadsBase (type_at deep) ts t
  base_complete (named_base s t e) deep le most = named_reads (type_at deep) s t e
  base_complete (list_base ts t d) deep le most =
      list_reads (type_at deep) ts t (type_complete d deep (omega (arith, length-append ts (Mark signs.RoundClose ∷ []))) (omega arith))
  base_complete (struct_base ts fs d) deep le most =
      let small : length ts < deep = omega (arith, length-append ts (Mark signs.CurlyClose ∷ [])) in
      struct_reads (type_at deep) ts fs (fields_read (type_at deep) d (fields_complete d deep (omega arith) (omega arith)) (omega arith))

  fields_complete : {ts : List Token} {fs : List (Bytes × Ty)} → AreFields ts fs → (deep : ℕ) → length ts ≤ deep → deep ≤ 4096 → FieldsRead (type_at deep) ts fs
  fields_complete no_fields deep le most = refl
  fields_complete (one_field ns ts f t d e) deep le most =
      labelled_complete (type_at deep) NoQuestion ns ts f t d (type_complete e deep (omega (arith, length-append ns (Mark signs.Colon ∷ ts))) most)
  fields_complete (more_fields ns ts us f t g fs d e ds) deep le most =
      let all = length-append (ns ++ Mark signs.Colon ∷ ts) (Mark signs.Comma ∷ us) in (
        ns ++ Mark signs.Colon ∷ ts,
        us,
        refl,
        labelled_complete (type_at deep) NoQuestion ns ts f t d (type_complete e deep (omega (arith, all, length-append ns (Mark signs.Colon ∷ ts))) most),
        fields_complete ds deep (omega (arith, all)) most,
      )

pub type_front_complete : {ts : List Token} {t : Ty} → IsType ts t → length ts ≤ 4096 → (rest : List Token) → NoQuestion rest → type_front (ts ++ rest) ≡ Some (t, rest)
type_front_complete d le rest follows = (type_complete d 4096 le (omega arith)).reads rest follows

-- ---- items

-- an item's first token closes no list
record Unclosed (ts : List Token) : Type 0 where
  square : (rest : List Token) → after signs.SquareClose (ts ++ rest) ≡ None
  curly : (rest : List Token) → after signs.CurlyClose (ts ++ rest) ≡ None

item_unclosed : {ts : List Token} {x : Option Raw} → IsItem ts x → Unclosed ts
unfolding after
item_unclosed null_item = record { square = λ rest. refl; curly = λ rest. refl }
item_unclosed true_item = record { square = λ rest. refl; curly = λ rest. refl }
item_unclosed false_item = record { square = λ rest. refl; curly = λ rest. refl }
item_unclosed (number_item digits) = record { square = λ rest. refl; curly = λ rest. refl }
item_unclosed (minus_item digits) = record { square = λ rest. refl; curly = λ rest. refl }
item_unclosed (text_item s) = record { square = λ rest. refl; curly = λ rest. refl }
item_unclosed (square_item ts xs d) = record { square = λ rest. refl; curly = λ rest. refl }
item_unclosed (curly_item ts xs d) = record { square = λ rest. refl; curly = λ rest. refl }

item_some : {ts : List Token} {x : Option Raw} → IsItem ts x → 1 ≤ length ts
item_some null_item = omega arith
item_some true_item = omega arith
item_some false_item = omega arith
item_some (number_item digits) = omega arith
item_some (minus_item digits) = omega arith
item_some (text_item s) = omega arith
item_some (square_item ts xs d) = omega arith
item_some (curly_item ts xs d) = omega arith

-- the sign that closes items
record ClosesItems (close : Sign) : Type 0 where
  ending : Ending Anything close
  unclosed : {ts : List Token} {x : Option Raw} → IsItem ts x → (rest : List Token) → after close (ts ++ rest) ≡ None

in_square : ClosesItems signs.SquareClose
in_square = record { ending = record { comma = λ rest. tt; end = λ rest. tt; closes = closes_square }; unclosed = λ d rest. (item_unclosed d).square rest }

in_curly : ClosesItems signs.CurlyClose
in_curly = record { ending = record { comma = λ rest. tt; end = λ rest. tt; closes = closes_curly }; unclosed = λ d rest. (item_unclosed d).curly rest }

items_read : (read : List Token → Read (Option Raw)) (close : Sign) → ClosesItems close → {ts : List Token} {xs : List (Option Raw)} → AreItems ts xs → PartsOf (ReadsPart read Anything) ts xs → length ts < 4096
    → (rest : List Token) → parts read and_one (Some []) close (ts ++ Mark close ∷ rest) ≡ Some (gathered and_one (Some []) xs, rest)
items_read read close c no_items k le rest = none_read read Anything and_one close c.ending (Some []) [] rest refl
items_read read close c (one_item ts x d) k le rest = some_read read Anything and_one close c.ending (Some []) x [] ts rest k (record { unclosed = λ others. c.unclosed d others }) le
items_read read close c (more_items ts us x y xs d ds) k le rest =
    some_read read Anything and_one close c.ending (Some []) x (y ∷ xs) (ts ++ Mark signs.Comma ∷ us) rest k
    (record { unclosed = λ others. ap (after close) (append_assoc ts (Mark signs.Comma ∷ us) others) ∙ c.unclosed d (Mark signs.Comma ∷ (us ++ others)) }) le

square_reads : (read : List Token → Read (Option Raw)) (ts : List Token) (xs : List (Option Raw))
    → ((rest : List Token) → parts read and_one (Some []) signs.SquareClose (ts ++ Mark signs.SquareClose ∷ rest) ≡ Some (gathered and_one (Some []) xs, rest))
    → ReadsPart (item_with read) Anything (Mark signs.SquareOpen ∷ (ts ++ Mark signs.SquareClose ∷ [])) (list_item (gathered and_one (Some []) xs))
square_reads read ts xs k = record {
  reads = λ rest any.
      ap (λ (z : List Token). item_with read (Mark signs.SquareOpen ∷ z)) (append_assoc ts (Mark signs.SquareClose ∷ []) rest)
      ∙ ap (λ r. r >>= λ ys. Some (list_item ys.0, ys.1)) (k rest);
}

curly_reads : (read : List Token → Read (Option Raw)) (ts : List Token) (xs : List (Option Raw))
    → ((rest : List Token) → parts read and_one (Some []) signs.CurlyClose (ts ++ Mark signs.CurlyClose ∷ rest) ≡ Some (gathered and_one (Some []) xs, rest))
    → ReadsPart (item_with read) Anything (Mark signs.CurlyOpen ∷ (ts ++ Mark signs.CurlyClose ∷ [])) (struct_item (gathered and_one (Some []) xs))
curly_reads read ts xs k = record {
  reads = λ rest any.
      ap (λ (z : List Token). item_with read (Mark signs.CurlyOpen ∷ z)) (append_assoc ts (Mark signs.CurlyClose ∷ []) rest)
      ∙ ap (λ r. r >>= λ ys. Some (struct_item ys.0, ys.1)) (k rest);
}

mutual
  unfolding item_at

  item_complete : {ts : List Token} {x : Option Raw} → IsItem ts x → (deep : ℕ) → length ts ≤ suc deep → deep < 4096 → ReadsPart (item_at (suc deep)) Anything ts x
  item_complete null_item deep le most = record { reads = λ rest any. refl }
  item_complete true_item deep le most = record { reads = λ rest any. refl }
  item_complete false_item deep le most = record { reads = λ rest any. refl }
  item_complete (number_item digits) deep le most = record { reads = λ rest any. refl }
  item_complete (minus_item digits) deep le most = record { reads = λ rest any. refl }
  item_complete (text_item s) deep le most = record { reads = λ rest any. refl }
  item_complete (square_item ts xs d) deep le most =
      let small : length ts < deep = omega (arith, length-append ts (Mark signs.SquareClose ∷ [])) in
      square_reads (item_at deep) ts xs (items_read (item_at deep) signs.SquareClose in_square d (items_complete d deep small (omega arith)) (omega arith))
  item_complete (curly_item ts xs d) deep le most =
      let small : length ts < deep = omega (arith, length-append ts (Mark signs.CurlyClose ∷ [])) in
      curly_reads (item_at deep) ts xs (items_read (item_at deep) signs.CurlyClose in_curly d (items_complete d deep small (omega arith)) (omega arith))

  items_complete : {ts : List Token} {xs : List (Option Raw)} → AreItems ts xs → (deep : ℕ) → length ts < deep → deep ≤ 4096 → PartsOf (ReadsPart (item_at deep) Anything) ts xs
  items_complete no_items deep lt most = refl
  items_complete (one_item ts x d) zero lt most = absurd (omega arith)
  items_complete (one_item ts x d) (suc deep) lt most = item_complete d deep (omega arith) (omega arith)
  items_complete (more_items ts us x y xs d ds) zero lt most = absurd (omega arith)
  items_complete (more_items ts us x y xs d ds) (suc deep) lt most =
      let all = length-append ts (Mark signs.Comma ∷ us) in
      (ts, us, refl, item_complete d deep (omega (arith, all)) (omega arith), items_complete ds (suc deep) (omega (arith, all)) most)

pub item_front_complete : {ts : List Token} {x : Option Raw} → IsItem ts x → length ts ≤ 4096 → (rest : List Token) → item_front (ts ++ rest) ≡ Some (x, rest)
item_front_complete d le rest = (item_complete d 4095 le (omega arith)).reads rest tt
