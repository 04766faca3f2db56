-- The grammar of queries, one constructor per production: which tokens are which part of a query, and what they name.
use Rattle.std.specs.Prelude.{◌≡◌, ◌≤◌, true, false, List, [], ◌∷◌, ◌++◌, length, Option, Some, None, option_map, codes}
use Rattle.vx_dtype.specs.declared.PType.{PType}
use Rattle.vx_dtype.specs.declared.Nullability.TheVariants.{NonNullable, Nullable}
use Rattle.vx_dtype.specs.Types.{Bytes, Ty, list_ty}
use Rattle.vx_dtype.specs.TypeRules.{with_nullability}
use Rattle.vx_dtype.specs.Values.{Raw, raw_null, raw_bool, raw_int, raw_text}
use Rattle.vx_expr.specs.declared.operators.Operator.{Operator}
use Rattle.vx_expr.specs.Trees.{Tree, root, not_of, cast}
use Rattle.vx_tokens.specs.declared.tokens.Keyword.{Keyword}
use Rattle.vx_tokens.specs.declared.tokens.Keyword.TheVariants as words
use Rattle.vx_tokens.specs.declared.tokens.Sign.TheVariants as signs
use Rattle.vx_tokens.specs.declared.tokens.Token.{Token}
use Rattle.vx_tokens.specs.declared.tokens.Token.TheVariants.{Reserved, Word, Quoted, Quote, Number, Mark}
use Rattle.vx_text.specs.declared.operators.Level.{Level}
use Rattle.vx_text.specs.declared.operators.Level.TheVariants as levels
use Rattle.vx_tokens.specs.Numbers.{integer_of}
use Rattle.vx_text.specs.NamedExpressions.{Named, binary_of, constant_of, number_literal, bool_literal}
use Rattle.vx_text.specs.NamedExpressions.{text_literal, and_one, and_argument, call_of, with_name, pack_of}
use Rattle.vx_text.specs.Grammar.{most_tokens, and_field, struct_type, plain_type, list_item, struct_item}
use Rattle.vx_text.specs.Grammar.{field_of, included, excluded, column, token_operator, level_of, query_of}

-- what parts give, each added to what those before it gave
abbrev pub gathered : {A S : Type 0} → (S → A → S) → S → List A → S
gathered add so_far [] = so_far
gathered add so_far (x ∷ xs) = gathered add (add so_far x) xs

-- tokens within brackets
abbrev pub in_round : List Token → List Token
in_round ts = Mark signs.RoundOpen ∷ (ts ++ Mark signs.RoundClose ∷ [])

abbrev pub in_square : List Token → List Token
in_square ts = Mark signs.SquareOpen ∷ (ts ++ Mark signs.SquareClose ∷ [])

abbrev pub in_curly : List Token → List Token
in_curly ts = Mark signs.CurlyOpen ∷ (ts ++ Mark signs.CurlyClose ∷ [])

abbrev pub two_in_round : List Token → List Token → List Token
two_in_round ts us = Mark signs.RoundOpen ∷ (ts ++ Mark signs.Comma ∷ (us ++ Mark signs.RoundClose ∷ []))

-- a name: a word that isn't reserved, or a quoted name
pub data IsName : List Token → Bytes → Type 0 where
  word_name : (f : Bytes) → IsName (Word f ∷ []) f
  quoted_name : (f : Bytes) → IsName (Quoted f ∷ []) f

-- names = [ name { "," name } ]
pub data AreNames : List Token → List Bytes → Type 0 where
  no_names : AreNames [] []
  one_name : (ts : List Token) (f : Bytes) → IsName ts f → AreNames ts (f ∷ [])
  more_names : (ts us : List Token) (f g : Bytes) (fs : List Bytes) → IsName ts f → AreNames us (g ∷ fs)
      → AreNames (ts ++ Mark signs.Comma ∷ us) (f ∷ g ∷ fs)

mutual
  -- type = base [ "?" ]
  pub data IsType : List Token → Ty → Type 0 where
    plain_base : (ts : List Token) (t : Ty) → IsBase ts t → IsType ts t
    null_base : (ts : List Token) (t : Ty) → IsBase ts t → IsType (ts ++ Mark signs.Question ∷ []) (with_nullability t Nullable)

  -- base = "bool" | "utf8" | integer type name | "list" "(" type ")" | "{" [ name ":" type { "," name ":" type } ] "}"
  pub data IsBase : List Token → Ty → Type 0 where
    named_base : (s : Bytes) (t : Ty) → plain_type s ≡ Some t → IsBase (Word s ∷ []) t
    list_base : (ts : List Token) (t : Ty) → IsType ts t → IsBase (Word (codes "list") ∷ in_round ts) (list_ty t NonNullable)
    struct_base : (ts : List Token) (fs : List (Bytes × Ty)) → AreFields ts fs → IsBase (in_curly ts) (struct_type (gathered and_field ([], []) fs))

  pub data AreFields : List Token → List (Bytes × Ty) → Type 0 where
    no_fields : AreFields [] []
    one_field : (ns ts : List Token) (f : Bytes) (t : Ty) → IsName ns f → IsType ts t → AreFields (ns ++ Mark signs.Colon ∷ ts) ((f, t) ∷ [])
    more_fields : (ns ts us : List Token) (f : Bytes) (t : Ty) (g : Bytes × Ty) (fs : List (Bytes × Ty))
        → IsName ns f → IsType ts t → AreFields us (g ∷ fs)
        → AreFields ((ns ++ Mark signs.Colon ∷ ts) ++ Mark signs.Comma ∷ us) ((f, t) ∷ g ∷ fs)

mutual
  -- item = "null" | "true" | "false" | [ "-" ] number without type name | text | "[" [ item { "," item } ] "]" | "{" [ item { "," item } ] "}"
  pub data IsItem : List Token → Option Raw → Type 0 where
    null_item : IsItem (Reserved words.Null ∷ []) (Some raw_null)
    true_item : IsItem (Reserved words.True ∷ []) (Some (raw_bool true))
    false_item : IsItem (Reserved words.False ∷ []) (Some (raw_bool false))
    number_item : (digits : Bytes) → IsItem (Number digits None ∷ []) (option_map raw_int (integer_of false digits))
    minus_item : (digits : Bytes) → IsItem (Mark signs.Minus ∷ Number digits None ∷ []) (option_map raw_int (integer_of true digits))
    text_item : (s : Bytes) → IsItem (Quote s ∷ []) (Some (raw_text s))
    square_item : (ts : List Token) (xs : List (Option Raw)) → AreItems ts xs → IsItem (in_square ts) (list_item (gathered and_one (Some []) xs))
    curly_item : (ts : List Token) (xs : List (Option Raw)) → AreItems ts xs → IsItem (in_curly ts) (struct_item (gathered and_one (Some []) xs))

  pub data AreItems : List Token → List (Option Raw) → Type 0 where
    no_items : AreItems [] []
    one_item : (ts : List Token) (x : Option Raw) → IsItem ts x → AreItems ts (x ∷ [])
    more_items : (ts us : List Token) (x y : Option Raw) (xs : List (Option Raw)) → IsItem ts x → AreItems us (y ∷ xs)
        → AreItems (ts ++ Mark signs.Comma ∷ us) (x ∷ y ∷ xs)

-- the token of an operator that binds so tightly
pub record IsOperator (level : Level) (t : Token) (op : Operator) : Type 0 where
  pub named : token_operator t ≡ Some op
  pub binds : level_of op ≡ level

mutual
  -- or = and { "or" and }, a left chain
  pub data IsOr : List Token → Named → Type 0 where
    one_or : (ts : List Token) (e : Named) → IsAnd ts e → IsOr ts e
    more_or : (ls rs : List Token) (t : Token) (op : Operator) (l r : Named) → IsOr ls l → IsOperator levels.Disjunction t op → IsAnd rs r
        → IsOr (ls ++ t ∷ rs) (binary_of l op r)

  -- and = not { "and" not }
  pub data IsAnd : List Token → Named → Type 0 where
    one_and : (ts : List Token) (e : Named) → IsNot ts e → IsAnd ts e
    more_and : (ls rs : List Token) (t : Token) (op : Operator) (l r : Named) → IsAnd ls l → IsOperator levels.Conjunction t op → IsNot rs r
        → IsAnd (ls ++ t ∷ rs) (binary_of l op r)

  -- not = "not" not | compare
  pub data IsNot : List Token → Named → Type 0 where
    one_not : (ts : List Token) (e : Named) → IsCompare ts e → IsNot ts e
    more_not : (ts : List Token) (e : Named) → IsNot ts e → IsNot (Reserved words.Not ∷ ts) (option_map not_of e)

  -- compare = sum [ ("=" | "!=" | ">" | ">=" | "<" | "<=") sum ]
  pub data IsCompare : List Token → Named → Type 0 where
    one_compare : (ts : List Token) (e : Named) → IsSum ts e → IsCompare ts e
    two_compare : (ls rs : List Token) (t : Token) (op : Operator) (l r : Named) → IsSum ls l → IsOperator levels.Comparison t op → IsSum rs r
        → IsCompare (ls ++ t ∷ rs) (binary_of l op r)

  -- sum = post { ("+" | "-") post }
  pub data IsSum : List Token → Named → Type 0 where
    one_sum : (ts : List Token) (e : Named) → IsPost ts e → IsSum ts e
    more_sum : (ls rs : List Token) (t : Token) (op : Operator) (l r : Named) → IsSum ls l → IsOperator levels.Sum t op → IsPost rs r
        → IsSum (ls ++ t ∷ rs) (binary_of l op r)

  -- post = atom { "." name | "{" names "}" | "~" "{" names "}" }
  pub data IsPost : List Token → Named → Type 0 where
    one_post : (ts : List Token) (e : Named) → IsAtom ts e → IsPost ts e
    field_post : (ts ns : List Token) (e : Named) (f : Bytes) → IsPost ts e → IsName ns f → IsPost (ts ++ Mark signs.Dot ∷ ns) (field_of e f)
    include_post : (ts ns : List Token) (e : Named) (fs : List Bytes) → IsPost ts e → AreNames ns fs → IsPost (ts ++ in_curly ns) (included e fs)
    exclude_post : (ts ns : List Token) (e : Named) (fs : List Bytes) → IsPost ts e → AreNames ns fs
        → IsPost (ts ++ Mark signs.Tilde ∷ in_curly ns) (excluded e fs)

  -- atom = "(" or ")" | "$" | name | [ "-" ] number | text | "true" | "false" | "lit" "(" type "," item ")" | call
  pub data IsAtom : List Token → Named → Type 0 where
    bracket_atom : (ts : List Token) (e : Named) → IsOr ts e → IsAtom (in_round ts) e
    row_atom : IsAtom (Mark signs.Dollar ∷ []) (Some root)
    name_atom : (ts : List Token) (f : Bytes) → IsName ts f → IsAtom ts (Some (column f))
    number_atom : (digits : Bytes) (p : Option PType) → IsAtom (Number digits p ∷ []) (number_literal false digits p)
    minus_atom : (digits : Bytes) (p : Option PType) → IsAtom (Mark signs.Minus ∷ Number digits p ∷ []) (number_literal true digits p)
    text_atom : (s : Bytes) → IsAtom (Quote s ∷ []) (Some (text_literal s))
    true_atom : IsAtom (Reserved words.True ∷ []) (Some (bool_literal true))
    false_atom : IsAtom (Reserved words.False ∷ []) (Some (bool_literal false))
    lit_atom : (ts us : List Token) (t : Ty) (x : Option Raw) → IsType ts t → IsItem us x
        → IsAtom (Reserved words.Lit ∷ two_in_round ts us) (constant_of t x)
    cast_atom : (ts us : List Token) (e : Named) (t : Ty) → IsOr ts e → IsType us t
        → IsAtom (Reserved words.Cast ∷ two_in_round ts us) (option_map (λ x. cast x t) e)
    pack_atom : (ts : List Token) (es : List (Option (Bytes × Tree))) → AreNamed ts es
        → IsAtom (Reserved words.Pack ∷ in_round ts) (pack_of NonNullable (gathered and_one (Some []) es))
    pack_null_atom : (ts : List Token) (es : List (Option (Bytes × Tree))) → AreNamed ts es
        → IsAtom (Reserved words.PackNull ∷ in_round ts) (pack_of Nullable (gathered and_one (Some []) es))
    call_atom : (k : Keyword) (ts : List Token) (es : List Named) (e : Named) → AreQueries ts es
        → call_of k (gathered and_argument (0, Some []) es) ≡ Some e
        → IsAtom (Reserved k ∷ in_round ts) e

  -- arguments: [ or { "," or } ]
  pub data AreQueries : List Token → List Named → Type 0 where
    no_queries : AreQueries [] []
    one_query : (ts : List Token) (e : Named) → IsOr ts e → AreQueries ts (e ∷ [])
    more_queries : (ts us : List Token) (e d : Named) (es : List Named) → IsOr ts e → AreQueries us (d ∷ es)
        → AreQueries (ts ++ Mark signs.Comma ∷ us) (e ∷ d ∷ es)

  -- named arguments: [ name ":" or { "," name ":" or } ]
  pub data AreNamed : List Token → List (Option (Bytes × Tree)) → Type 0 where
    no_named : AreNamed [] []
    one_named : (ns ts : List Token) (f : Bytes) (e : Named) → IsName ns f → IsOr ts e → AreNamed (ns ++ Mark signs.Colon ∷ ts) (with_name f e ∷ [])
    more_named : (ns ts us : List Token) (f : Bytes) (e : Named) (d : Option (Bytes × Tree)) (es : List (Option (Bytes × Tree))) → IsName ns f → IsOr ts e
        → AreNamed us (d ∷ es)
        → AreNamed ((ns ++ Mark signs.Colon ∷ ts) ++ Mark signs.Comma ∷ us) (with_name f e ∷ d ∷ es)

-- query = or
abbrev pub IsQuery : List Token → Named → Type 0
IsQuery tokens e = IsOr tokens e

-- what is read is a query, and names that
abbrev pub ReadIsQuery : Type 0
ReadIsQuery = (tokens : List Token) (e : Named) → query_of tokens ≡ Some e → IsQuery tokens e

-- a query is read, as what it names
abbrev pub QueryIsRead : Type 0
QueryIsRead = (tokens : List Token) (e : Named) → length tokens ≤ most_tokens → IsQuery tokens e → query_of tokens ≡ Some e
