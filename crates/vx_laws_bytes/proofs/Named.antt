-- What tokens name holds no more than they do.
use Rattle.std.proofs.Common.{◌≡◌, ◌∙◌, sym, ap, refl, subst, ℕ, ◌+◌, ◌*◌, ◌≤◌, ◌<◌, ◌^◌, ◌==◌, Bool, true, false, List, [], ◌∷◌, ◌++◌, length, length-append, map, Option, Some, None, is_some, Ok, ℤ, arith, true≢false}
use Rattle.std.specs.Prelude.{option_map, if◌then◌else◌, codes}
use Rattle.std.specs.Str.{bytes_eq}
use Rattle.std.proofs.lemmas.Option.{same_Some}
use Rattle.vx_dtype.specs.declared.PType.{PType}
use Rattle.vx_dtype.specs.declared.Nullability.{Nullability}
use Rattle.vx_dtype.specs.declared.Nullability.TheVariants.{NonNullable, Nullable}
use Rattle.vx_dtype.specs.Types.{Bytes, Ty, bool_ty, int_ty, text_ty, list_ty, struct_ty, Fields, no_fields, field}
use Rattle.vx_dtype.specs.TypeRules.{with_nullability}
use Rattle.vx_dtype.specs.Values.{Raw, raw_null, raw_bool, raw_int, raw_text, raw_list, raw_struct, Raws, no_raws, raw}
use Rattle.vx_dtype.specs.RawViews.{raws_of}
use Rattle.vx_dtype.specs.Fits.{fits}
use Rattle.vx_dtype.specs.ScalarAnswers.{typed}
use Rattle.vx_dtype.specs.Zipped.{zipped}
use Rattle.vx_expr.specs.declared.operators.Operator.{Operator}
use Rattle.vx_expr.specs.Children.{one_of, two_of, three_of}
use Rattle.vx_expr.specs.Trees.{Tree, literal, get_item, not_of, is_null_of, like, between, cast, list_contains, Trees, no_trees, tree, trees_of}
use Rattle.vx_dtype.specs.declared.StrictComparison.TheVariants.{Strict, NonStrict}
use Rattle.vx_tokens.specs.declared.tokens.Keyword.{Keyword}
use Rattle.vx_tokens.specs.declared.tokens.Keyword.TheVariants as words
use Rattle.vx_tokens.specs.declared.tokens.Sign.TheVariants as signs
use Rattle.vx_tokens.specs.declared.tokens.Token.{Token}
use Rattle.vx_tokens.specs.declared.tokens.Token.TheVariants.{Reserved, Word, Quoted, Quote, Number, Mark}
use Rattle.vx_dtype.specs.Texts.{integer_named}
use Rattle.vx_tokens.specs.Numbers.{integer_of}
use Rattle.vx_text.specs.NamedExpressions.{Named, Arguments, binary_of, constant, constant_of, bounds, integer_type, number_literal, bool_literal, text_literal, call_tree, takes, and_one, and_argument, called_with, call_of, with_name, pack_of}
use Rattle.vx_text.specs.Grammar.{most_tokens, and_field, struct_type, plain_type, list_item, struct_item, field_of, included, excluded, column}
use Rattle.vx_text.specs.Reading.{most_bytes, reading_of}
use Rattle.vx_laws_text.specs.Answers.{ReadIsAnswer, IsAnswer}
use Rattle.vx_laws_text.specs.Productions.{gathered, in_round, in_square, in_curly, two_in_round, IsName, word_name, quoted_name, AreNames, no_names, one_name, more_names, IsType, plain_base, null_base, IsBase, named_base, list_base, struct_base, AreFields, no_fields as no_field_tokens, one_field, more_fields, IsItem, null_item, true_item, false_item, number_item, minus_item, text_item, square_item, curly_item, AreItems, no_items, one_item, more_items, IsOperator, IsOr, one_or, more_or, IsAnd, one_and, more_and, IsNot, one_not, more_not, IsCompare, one_compare, two_compare, IsSum, one_sum, more_sum, IsPost, one_post, field_post, include_post, exclude_post, IsAtom, bracket_atom, row_atom, name_atom, number_atom, minus_atom, text_atom, true_atom, false_atom, lit_atom, cast_atom, pack_atom, pack_null_atom, call_atom, AreQueries, no_queries, one_query, more_queries, AreNamed, no_named, one_named, more_named}
use Rattle.vx_laws_bytes.specs.ShortQueries.{QueriesAreShort, IsShortTree}
use Rattle.vx_laws_bytes.proofs.Bulk.{names_bulk, type_bulk, fields_bulk, value_bulk, values_bulk, bulk, bulks, metadata_short}
use Rattle.vx_laws_bytes.proofs.Spelled.{parts_short}
use Rattle.vx_laws_bytes.proofs.Tokens.{cost, cost_append, cut_cost}

-- ---- brackets

round_cost : (ts : List Token) → cost (in_round ts) ≡ 16 + cost ts
round_cost ts = let both = cost_append ts (Mark signs.RoundClose ∷ []) in omega (arith, both)

square_cost : (ts : List Token) → cost (in_square ts) ≡ 16 + cost ts
square_cost ts = let both = cost_append ts (Mark signs.SquareClose ∷ []) in omega (arith, both)

curly_cost : (ts : List Token) → cost (in_curly ts) ≡ 16 + cost ts
curly_cost ts = let both = cost_append ts (Mark signs.CurlyClose ∷ []) in omega (arith, both)

two_cost : (ts us : List Token) → cost (two_in_round ts us) ≡ 24 + (cost ts + cost us)
two_cost ts us =
    let both = cost_append ts (Mark signs.Comma ∷ (us ++ Mark signs.RoundClose ∷ [])) in
    let rest = cost_append us (Mark signs.RoundClose ∷ []) in
    omega (arith, both, rest)

-- ---- names

name_cost : {ts : List Token} {f : Bytes} → IsName ts f → 8 + length f ≤ cost ts
name_cost (word_name f) = omega arith
name_cost (quoted_name f) = omega arith

names_cost : {ts : List Token} {fs : List Bytes} → AreNames ts fs → names_bulk fs ≤ cost ts
names_cost no_names = omega arith
names_cost (one_name ts f d) = let own = name_cost d in omega (arith, own)
names_cost (more_names ts us f g fs d ds) =
    let own = name_cost d in
    let rest = names_cost ds in
    let both = cost_append ts (Mark signs.Comma ∷ us) in
    omega (arith, own, rest, both)

-- ---- types

nullable_bulk : (t : Ty) (n : Nullability) → type_bulk (with_nullability t n) ≡ type_bulk t
nullable_bulk (bool_ty m) n = refl
nullable_bulk (int_ty p m) n = refl
nullable_bulk (text_ty m) n = refl
nullable_bulk (list_ty e m) n = refl
nullable_bulk (struct_ty fs m) n = refl

some_none : {A : Type 0} {x : A} → None ≡ Some x → ⊥
some_none e = true≢false (ap is_some (sym e))

plain_bulk : (s : Bytes) (t : Ty) → plain_type s ≡ Some t → type_bulk t ≤ 1
plain_bulk s t h = by (bytes_eq s (codes "bool")) (bytes_eq s (codes "utf8")) (integer_named s) h
  where
    is : (u : Ty) → type_bulk u ≡ 1 → Some u ≡ Some t → type_bulk t ≤ 1
    is u one same = let e = ap type_bulk (same_Some u t same) in omega (arith, one, e)

    by : (a b : Bool) (o : Option PType)
        → (if a then Some (bool_ty NonNullable) else (if b then Some (text_ty NonNullable) else option_map (λ p. int_ty p NonNullable) o)) ≡ Some t
        → type_bulk t ≤ 1
    by true b o e = is (bool_ty NonNullable) refl e
    by false true o e = is (text_ty NonNullable) refl e
    by false false (Some p) e = is (int_ty p NonNullable) refl e
    by false false None e = absurd (some_none e)

types_bulk : List Ty → ℕ
types_bulk [] = 0
types_bulk (t ∷ ts) = type_bulk t + types_bulk ts

pairs_bulk : List (Bytes × Ty) → ℕ
pairs_bulk [] = 0
pairs_bulk (p ∷ ps) = 1 + (length p.0 + (type_bulk p.1 + pairs_bulk ps))

names_behind : (fs : List Bytes) (f : Bytes) → names_bulk (fs ++ f ∷ []) ≡ names_bulk fs + (1 + length f)
names_behind [] f = omega arith
names_behind (g ∷ fs) f = let rest = names_behind fs f in omega (arith, rest)

types_behind : (ts : List Ty) (t : Ty) → types_bulk (ts ++ t ∷ []) ≡ types_bulk ts + type_bulk t
unfolding types_bulk
types_behind [] t = omega arith
types_behind (u ∷ ts) t = let rest = types_behind ts t in omega (arith, rest)

gathered_fields : (acc : List Bytes × List Ty) (ps : List (Bytes × Ty))
    → names_bulk (gathered and_field acc ps).0 + types_bulk (gathered and_field acc ps).1 ≡ (names_bulk acc.0 + types_bulk acc.1) + pairs_bulk ps
unfolding pairs_bulk
gathered_fields acc [] = omega arith
gathered_fields acc (p ∷ ps) =
    let rest = gathered_fields (and_field acc p) ps in
    let names = names_behind acc.0 p.0 in
    let types = types_behind acc.1 p.1 in
    omega (arith, rest, names, types)

zipped_bulk : (fs : List Bytes) (ts : List Ty) → fields_bulk (zipped fs ts) ≤ names_bulk fs + types_bulk ts
unfolding types_bulk
zipped_bulk [] ts = omega arith
zipped_bulk (f ∷ fs) [] = omega arith
zipped_bulk (f ∷ fs) (t ∷ ts) = let rest = zipped_bulk fs ts in omega (arith, rest)

struct_bulk : (ps : List (Bytes × Ty)) → type_bulk (struct_type (gathered and_field ([], []) ps)) ≤ 1 + pairs_bulk ps
unfolding types_bulk
struct_bulk ps =
    let all = gathered and_field ([], []) ps in
    let own = zipped_bulk all.0 all.1 in
    let whole = gathered_fields ([], []) ps in
    omega (arith, own, whole)

mutual
  unfolding pairs_bulk

  type_cost : {ts : List Token} {t : Ty} → IsType ts t → type_bulk t ≤ cost ts
  type_cost (plain_base ts t d) = base_cost d
  type_cost (null_base ts t d) =
      let own = base_cost d in
      let same = nullable_bulk t Nullable in
      let both = cost_append ts (Mark signs.Question ∷ []) in
      omega (arith, own, same, both)

  base_cost : {ts : List Token} {t : Ty} → IsBase ts t → type_bulk t ≤ cost ts
  base_cost (named_base s t e) = let own = plain_bulk s t e in omega (arith, own)
  base_cost (list_base ts t d) = let own = type_cost d in let both = round_cost ts in omega (arith, own, both)
  base_cost (struct_base ts ps d) =
      let own = struct_bulk ps in
      let rest = pairs_cost d in
      let both = curly_cost ts in
      omega (arith, own, rest, both)

  pairs_cost : {ts : List Token} {ps : List (Bytes × Ty)} → AreFields ts ps → pairs_bulk ps ≤ cost ts
  pairs_cost no_field_tokens = omega arith
  pairs_cost (one_field ns ts f t n d) =
      let name = name_cost n in
      let own = type_cost d in
      let both = cost_append ns (Mark signs.Colon ∷ ts) in
      omega (arith, name, own, both)
  pairs_cost (more_fields ns ts us f t g ps n d ds) =
      let name = name_cost n in
      let own = type_cost d in
      let rest = pairs_cost ds in
      let both = cost_append ns (Mark signs.Colon ∷ ts) in
      let all = cost_append (ns ++ Mark signs.Colon ∷ ts) (Mark signs.Comma ∷ us) in
      omega (arith, name, own, rest, both, all)

-- ---- items

item_bulk : Option Raw → ℕ
item_bulk None = 0
item_bulk (Some x) = value_bulk x

items_bulk : Option (List Raw) → ℕ
items_bulk None = 0
items_bulk (Some xs) = values_bulk (raws_of xs)

each_bulk : List (Option Raw) → ℕ
each_bulk [] = 0
each_bulk (x ∷ xs) = item_bulk x + each_bulk xs

values_behind : (xs : List Raw) (x : Raw) → values_bulk (raws_of (xs ++ x ∷ [])) ≡ values_bulk (raws_of xs) + value_bulk x
values_behind [] x = omega arith
values_behind (y ∷ xs) x = let rest = values_behind xs x in omega (arith, rest)

one_more_item : (acc : Option (List Raw)) (x : Option Raw) → items_bulk (and_one acc x) ≤ items_bulk acc + item_bulk x
unfolding items_bulk item_bulk
one_more_item (Some xs) (Some x) = let own = values_behind xs x in omega (arith, own)
one_more_item (Some xs) None = omega arith
one_more_item None x = omega arith

gathered_items : (acc : Option (List Raw)) (xs : List (Option Raw)) → items_bulk (gathered and_one acc xs) ≤ items_bulk acc + each_bulk xs
unfolding each_bulk
gathered_items acc [] = omega arith
gathered_items acc (x ∷ xs) =
    let own = one_more_item acc x in
    let rest = gathered_items (and_one acc x) xs in
    omega (arith, own, rest)

list_bulk : (o : Option (List Raw)) → item_bulk (list_item o) ≤ 1 + items_bulk o
unfolding items_bulk item_bulk
list_bulk (Some xs) = omega arith
list_bulk None = omega arith

struct_item_bulk : (o : Option (List Raw)) → item_bulk (struct_item o) ≤ 1 + items_bulk o
unfolding items_bulk item_bulk
struct_item_bulk (Some xs) = omega arith
struct_item_bulk None = omega arith

number_of_bulk : (o : Option ℤ) → item_bulk (option_map raw_int o) ≤ 1
unfolding item_bulk
number_of_bulk (Some i) = omega arith
number_of_bulk None = omega arith

number_bulk : (negative : Bool) (digits : Bytes) → item_bulk (option_map raw_int (integer_of negative digits)) ≤ 1
number_bulk negative digits = number_of_bulk (integer_of negative digits)

no_items_bulk : items_bulk (Some []) ≡ 0
unfolding items_bulk
no_items_bulk = refl

mutual
  unfolding item_bulk items_bulk each_bulk

  item_cost : {ts : List Token} {x : Option Raw} → IsItem ts x → item_bulk x ≤ cost ts
  item_cost null_item = omega arith
  item_cost true_item = omega arith
  item_cost false_item = omega arith
  item_cost (number_item digits) = let own = number_bulk false digits in omega (arith, own)
  item_cost (minus_item digits) = let own = number_bulk true digits in omega (arith, own)
  item_cost (text_item s) = omega arith
  item_cost (square_item ts xs d) =
      let own = list_bulk (gathered and_one (Some []) xs) in
      let all = gathered_items (Some []) xs in
      let none = no_items_bulk in
      let rest = items_cost d in
      let both = square_cost ts in
      omega (arith, own, all, none, rest, both)
  item_cost (curly_item ts xs d) =
      let own = struct_item_bulk (gathered and_one (Some []) xs) in
      let all = gathered_items (Some []) xs in
      let none = no_items_bulk in
      let rest = items_cost d in
      let both = curly_cost ts in
      omega (arith, own, all, none, rest, both)

  items_cost : {ts : List Token} {xs : List (Option Raw)} → AreItems ts xs → each_bulk xs ≤ cost ts
  items_cost no_items = omega arith
  items_cost (one_item ts x d) = let own = item_cost d in omega (arith, own)
  items_cost (more_items ts us x y xs d ds) =
      let own = item_cost d in
      let rest = items_cost ds in
      let both = cost_append ts (Mark signs.Comma ∷ us) in
      omega (arith, own, rest, both)

-- ---- expressions

named_bulk : Named → ℕ
named_bulk None = 0
named_bulk (Some e) = bulk e

listed_bulk : Option (List Tree) → ℕ
listed_bulk None = 0
listed_bulk (Some es) = bulks (trees_of es)

every_bulk : List Named → ℕ
every_bulk [] = 0
every_bulk (e ∷ es) = 1 + (named_bulk e + every_bulk es)

both_bulk : (l r : Named) (op : Operator) → named_bulk (binary_of l op r) ≤ 1 + (named_bulk l + named_bulk r)
unfolding named_bulk binary_of
both_bulk (Some l) (Some r) op = omega arith
both_bulk (Some l) None op = omega arith
both_bulk None r op = omega arith

not_bulk : (e : Named) → named_bulk (option_map not_of e) ≤ 1 + named_bulk e
unfolding named_bulk
not_bulk (Some e) = omega arith
not_bulk None = omega arith

field_bulk : (e : Named) (f : Bytes) → named_bulk (field_of e f) ≤ 1 + (length f + named_bulk e)
unfolding named_bulk
field_bulk (Some e) f = omega arith
field_bulk None f = omega arith

included_bulk : (e : Named) (fs : List Bytes) → named_bulk (included e fs) ≤ 1 + (names_bulk fs + named_bulk e)
unfolding named_bulk
included_bulk (Some e) fs = omega arith
included_bulk None fs = omega arith

excluded_bulk : (e : Named) (fs : List Bytes) → named_bulk (excluded e fs) ≤ 1 + (names_bulk fs + named_bulk e)
unfolding named_bulk
excluded_bulk (Some e) fs = omega arith
excluded_bulk None fs = omega arith

cast_bulk : (e : Named) (t : Ty) → named_bulk (option_map (λ x. cast x t) e) ≤ 1 + (type_bulk t + named_bulk e)
unfolding named_bulk
cast_bulk (Some e) t = omega arith
cast_bulk None t = omega arith

constant_bulk : (t : Ty) (x : Option Raw) → named_bulk (constant_of t x) ≤ 1 + (type_bulk t + item_bulk x)
unfolding named_bulk item_bulk
constant_bulk t None = omega arith
constant_bulk t (Some r) = by (fits r t)
  where
    by : (b : Bool) → named_bulk (if b then Some (literal (typed t r)) else None) ≤ 1 + (type_bulk t + value_bulk r)
    by true = omega arith
    by false = omega arith

number_literal_bulk : (negative : Bool) (digits : Bytes) (p : Option PType) → named_bulk (number_literal negative digits p) ≤ 3
number_literal_bulk negative digits p =
    let own = constant_bulk (int_ty (integer_type p) NonNullable) (option_map raw_int (integer_of negative digits)) in
    let number = number_bulk negative digits in
    omega (arith, own, number)

-- the arguments of calls
trees_behind : (es : List Tree) (e : Tree) → bulks (trees_of (es ++ e ∷ [])) ≡ bulks (trees_of es) + (1 + bulk e)
trees_behind [] e = omega arith
trees_behind (d ∷ es) e = let rest = trees_behind es e in omega (arith, rest)

one_more_tree : (acc : Option (List Tree)) (e : Named) → listed_bulk (and_one acc e) ≤ listed_bulk acc + (1 + named_bulk e)
unfolding listed_bulk named_bulk
one_more_tree (Some es) (Some e) = let own = trees_behind es e in omega (arith, own)
one_more_tree (Some es) None = omega arith
one_more_tree None e = omega arith

gathered_trees : (acc : Arguments) (es : List Named) → listed_bulk (gathered and_argument acc es).1 ≤ listed_bulk acc.1 + every_bulk es
unfolding every_bulk
gathered_trees acc [] = omega arith
gathered_trees acc (e ∷ es) =
    let own = one_more_tree acc.1 e in
    let rest = gathered_trees (and_argument acc e) es in
    omega (arith, own, rest)

one_bulk : (make : Tree → Tree) → ((x : Tree) → bulk (make x) ≡ 1 + bulk x) → (es : List Tree)
    → named_bulk (option_map make (one_of es)) ≤ 1 + bulks (trees_of es)
unfolding named_bulk
one_bulk make is [] = omega arith
one_bulk make is (x ∷ []) = let own = is x in omega (arith, own)
one_bulk make is (x ∷ y ∷ es) = omega arith

two_bulk : (make : Tree → Tree → Tree) → ((x y : Tree) → bulk (make x y) ≡ 1 + (bulk x + bulk y)) → (es : List Tree)
    → named_bulk (option_map (λ p. make p.0 p.1) (two_of es)) ≤ 1 + bulks (trees_of es)
unfolding named_bulk
two_bulk make is [] = omega arith
two_bulk make is (x ∷ []) = omega arith
two_bulk make is (x ∷ y ∷ []) = let own = is x y in omega (arith, own)
two_bulk make is (x ∷ y ∷ z ∷ es) = omega arith

three_bulk : (make : Tree → Tree → Tree → Tree) → ((x y z : Tree) → bulk (make x y z) ≡ 1 + (bulk x + (bulk y + bulk z))) → (es : List Tree)
    → named_bulk (option_map (λ p. make p.0 p.1 p.2) (three_of es)) ≤ 1 + bulks (trees_of es)
unfolding named_bulk
three_bulk make is [] = omega arith
three_bulk make is (x ∷ []) = omega arith
three_bulk make is (x ∷ y ∷ []) = omega arith
three_bulk make is (x ∷ y ∷ z ∷ []) = let own = is x y z in omega (arith, own)
three_bulk make is (x ∷ y ∷ z ∷ w ∷ es) = omega arith

call_bulk : (k : Keyword) (es : List Tree) → named_bulk (call_tree k es) ≤ 1 + bulks (trees_of es)
unfolding named_bulk
call_bulk words.IsNull es = one_bulk is_null_of (λ x. refl) es
call_bulk words.Contains es = two_bulk list_contains (λ x y. refl) es
call_bulk words.Like es = two_bulk (λ x y. like x y false false) (λ x y. refl) es
call_bulk words.NotLike es = two_bulk (λ x y. like x y true false) (λ x y. refl) es
call_bulk words.Ilike es = two_bulk (λ x y. like x y false true) (λ x y. refl) es
call_bulk words.NotIlike es = two_bulk (λ x y. like x y true true) (λ x y. refl) es
call_bulk words.Between es = three_bulk (λ x y z. between x y z (bounds NonStrict NonStrict)) (λ x y z. refl) es
call_bulk words.BetweenOo es = three_bulk (λ x y z. between x y z (bounds Strict Strict)) (λ x y z. refl) es
call_bulk words.BetweenOc es = three_bulk (λ x y z. between x y z (bounds Strict NonStrict)) (λ x y z. refl) es
call_bulk words.BetweenCo es = three_bulk (λ x y z. between x y z (bounds NonStrict Strict)) (λ x y z. refl) es
call_bulk words.Merge es = omega arith
call_bulk words.MergeNull es = omega arith
call_bulk _ es = omega arith

called_bulk : (k : Keyword) (o : Option (List Tree)) → named_bulk (called_with k o) ≤ 1 + listed_bulk o
unfolding named_bulk listed_bulk
called_bulk k (Some es) = call_bulk k es
called_bulk k None = omega arith

call_of_bulk : (k : Keyword) (args : Arguments) (e : Named) → call_of k args ≡ Some e → named_bulk e ≤ 1 + listed_bulk args.1
call_of_bulk k args e h = by (takes k args.0) h
  where
    by : (b : Bool) → (if b then Some (called_with k args.1) else None) ≡ Some e → named_bulk e ≤ 1 + listed_bulk args.1
    by true is = subst (λ (x : Named). named_bulk x ≤ 1 + listed_bulk args.1) (same_Some (called_with k args.1) e is) (called_bulk k args.1)
    by false is = absurd (some_none is)

-- the entries of packs
entry_bulk : Option (Bytes × Tree) → ℕ
entry_bulk None = 0
entry_bulk (Some p) = 2 + (length p.0 + bulk p.1)

entries_bulk : List (Bytes × Tree) → ℕ
entries_bulk ps = names_bulk (map (λ p. p.0) ps) + bulks (trees_of (map (λ p. p.1) ps))

packed_bulk : Option (List (Bytes × Tree)) → ℕ
packed_bulk None = 0
packed_bulk (Some ps) = entries_bulk ps

all_entries : List (Option (Bytes × Tree)) → ℕ
all_entries [] = 0
all_entries (p ∷ ps) = entry_bulk p + all_entries ps

entries_behind : (ps : List (Bytes × Tree)) (p : Bytes × Tree) → entries_bulk (ps ++ p ∷ []) ≡ entries_bulk ps + (2 + (length p.0 + bulk p.1))
unfolding entries_bulk
entries_behind [] p = omega arith
entries_behind (q ∷ ps) p = let rest = entries_behind ps p in omega (arith, rest)

one_more_entry : (acc : Option (List (Bytes × Tree))) (p : Option (Bytes × Tree)) → packed_bulk (and_one acc p) ≤ packed_bulk acc + entry_bulk p
unfolding packed_bulk entry_bulk
one_more_entry (Some ps) (Some p) = let own = entries_behind ps p in omega (arith, own)
one_more_entry (Some ps) None = omega arith
one_more_entry None p = omega arith

gathered_entries : (acc : Option (List (Bytes × Tree))) (ps : List (Option (Bytes × Tree)))
    → packed_bulk (gathered and_one acc ps) ≤ packed_bulk acc + all_entries ps
unfolding all_entries
gathered_entries acc [] = omega arith
gathered_entries acc (p ∷ ps) =
    let own = one_more_entry acc p in
    let rest = gathered_entries (and_one acc p) ps in
    omega (arith, own, rest)

no_entries_bulk : packed_bulk (Some []) ≡ 0
unfolding packed_bulk entries_bulk
no_entries_bulk = refl

with_name_bulk : (f : Bytes) (e : Named) → entry_bulk (with_name f e) ≤ 2 + (length f + named_bulk e)
unfolding entry_bulk named_bulk
with_name_bulk f (Some e) = omega arith
with_name_bulk f None = omega arith

pack_bulk : (n : Nullability) (o : Option (List (Bytes × Tree))) → named_bulk (pack_of n o) ≤ 1 + packed_bulk o
unfolding named_bulk packed_bulk entries_bulk
pack_bulk n (Some ps) = omega arith
pack_bulk n None = omega arith

-- ---- queries: what one names holds less than its tokens

operands_cost : (ls rs : List Token) (t : Token) (op : Operator) (l r : Named) → named_bulk l + 1 ≤ cost ls → named_bulk r + 1 ≤ cost rs
    → named_bulk (binary_of l op r) + 1 ≤ cost (ls ++ t ∷ rs)
operands_cost ls rs t op l r h k =
    let own = both_bulk l r op in
    let both = cost_append ls (t ∷ rs) in
    omega (arith, own, h, k, both)

no_trees_bulk : listed_bulk (Some []) ≡ 0
unfolding listed_bulk
no_trees_bulk = refl

mutual
  unfolding named_bulk listed_bulk every_bulk all_entries

  or_cost : {ts : List Token} {e : Named} → IsOr ts e → named_bulk e + 1 ≤ cost ts
  or_cost (one_or ts e d) = and_cost d
  or_cost (more_or ls rs t op l r d o f) = operands_cost ls rs t op l r (or_cost d) (and_cost f)

  and_cost : {ts : List Token} {e : Named} → IsAnd ts e → named_bulk e + 1 ≤ cost ts
  and_cost (one_and ts e d) = not_cost d
  and_cost (more_and ls rs t op l r d o f) = operands_cost ls rs t op l r (and_cost d) (not_cost f)

  not_cost : {ts : List Token} {e : Named} → IsNot ts e → named_bulk e + 1 ≤ cost ts
  not_cost (one_not ts e d) = compare_cost d
  not_cost (more_not ts e d) = let own = not_cost d in let more = not_bulk e in omega (arith, own, more)

  compare_cost : {ts : List Token} {e : Named} → IsCompare ts e → named_bulk e + 1 ≤ cost ts
  compare_cost (one_compare ts e d) = sum_cost d
  compare_cost (two_compare ls rs t op l r d o f) = operands_cost ls rs t op l r (sum_cost d) (sum_cost f)

  sum_cost : {ts : List Token} {e : Named} → IsSum ts e → named_bulk e + 1 ≤ cost ts
  sum_cost (one_sum ts e d) = post_cost d
  sum_cost (more_sum ls rs t op l r d o f) = operands_cost ls rs t op l r (sum_cost d) (post_cost f)

  post_cost : {ts : List Token} {e : Named} → IsPost ts e → named_bulk e + 1 ≤ cost ts
  post_cost (one_post ts e d) = atom_cost d
  post_cost (field_post ts ns e f d n) =
      let own = post_cost d in
      let name = name_cost n in
      let more = field_bulk e f in
      let both = cost_append ts (Mark signs.Dot ∷ ns) in
      omega (arith, own, name, more, both)
  post_cost (include_post ts ns e fs d n) =
      let own = post_cost d in
      let names = names_cost n in
      let more = included_bulk e fs in
      let inner = curly_cost ns in
      let both = cost_append ts (in_curly ns) in
      omega (arith, own, names, more, inner, both)
  post_cost (exclude_post ts ns e fs d n) =
      let own = post_cost d in
      let names = names_cost n in
      let more = excluded_bulk e fs in
      let inner = curly_cost ns in
      let both = cost_append ts (Mark signs.Tilde ∷ in_curly ns) in
      omega (arith, own, names, more, inner, both)

  atom_cost : {ts : List Token} {e : Named} → IsAtom ts e → named_bulk e + 1 ≤ cost ts
  atom_cost (bracket_atom ts e d) = let own = or_cost d in let both = round_cost ts in omega (arith, own, both)
  atom_cost row_atom = omega arith
  atom_cost (name_atom ts f n) = let name = name_cost n in omega (arith, name)
  atom_cost (number_atom digits p) = let own = number_literal_bulk false digits p in omega (arith, own)
  atom_cost (minus_atom digits p) = let own = number_literal_bulk true digits p in omega (arith, own)
  atom_cost (text_atom s) = omega arith
  atom_cost true_atom = omega arith
  atom_cost false_atom = omega arith
  atom_cost (lit_atom ts us t x d i) =
      let own = constant_bulk t x in
      let ty = type_cost d in
      let item = item_cost i in
      let both = two_cost ts us in
      omega (arith, own, ty, item, both)
  atom_cost (cast_atom ts us e t d i) =
      let own = or_cost d in
      let ty = type_cost i in
      let more = cast_bulk e t in
      let both = two_cost ts us in
      omega (arith, own, ty, more, both)
  atom_cost (pack_atom ts es d) =
      let own = pack_bulk NonNullable (gathered and_one (Some []) es) in
      let all = gathered_entries (Some []) es in
      let none = no_entries_bulk in
      let rest = named_cost d in
      let both = round_cost ts in
      omega (arith, own, all, none, rest, both)
  atom_cost (pack_null_atom ts es d) =
      let own = pack_bulk Nullable (gathered and_one (Some []) es) in
      let all = gathered_entries (Some []) es in
      let none = no_entries_bulk in
      let rest = named_cost d in
      let both = round_cost ts in
      omega (arith, own, all, none, rest, both)
  atom_cost (call_atom k ts es e d is) =
      let own = call_of_bulk k (gathered and_argument (0, Some []) es) e is in
      let all = gathered_trees (0, Some []) es in
      let none = no_trees_bulk in
      let rest = queries_cost d in
      let both = round_cost ts in
      omega (arith, own, all, none, rest, both)

  queries_cost : {ts : List Token} {es : List Named} → AreQueries ts es → every_bulk es ≤ cost ts
  queries_cost no_queries = omega arith
  queries_cost (one_query ts e d) = let own = or_cost d in omega (arith, own)
  queries_cost (more_queries ts us e d es q qs) =
      let own = or_cost q in
      let rest = queries_cost qs in
      let both = cost_append ts (Mark signs.Comma ∷ us) in
      omega (arith, own, rest, both)

  named_cost : {ts : List Token} {es : List (Option (Bytes × Tree))} → AreNamed ts es → all_entries es ≤ cost ts
  named_cost no_named = omega arith
  named_cost (one_named ns ts f e n d) =
      let name = name_cost n in
      let own = or_cost d in
      let more = with_name_bulk f e in
      let both = cost_append ns (Mark signs.Colon ∷ ts) in
      omega (arith, name, own, more, both)
  named_cost (more_named ns ts us f e p es n d ds) =
      let name = name_cost n in
      let own = or_cost d in
      let more = with_name_bulk f e in
      let rest = named_cost ds in
      let both = cost_append ns (Mark signs.Colon ∷ ts) in
      let all = cost_append (ns ++ Mark signs.Colon ∷ ts) (Mark signs.Comma ∷ us) in
      omega (arith, name, own, more, rest, both, all)

-- ---- what a text names

-- no query holds more than this
most : ℕ
most = 9732096

query_bulk : (query : Bytes) (e : Tree) → IsAnswer query (Ok e) → 9 * bulk e ≤ most
unfolding named_bulk most
query_bulk query e answer =
    let own = or_cost answer.2.1 in
    let cut = cut_cost answer.1.cut in
    let short = answer.1.short in
    let few = answer.2.0 in
    omega (arith, own, cut, short, few)

pub short_queries : ReadIsAnswer → QueriesAreShort
unfolding most
short_queries answers query e h =
    let held = query_bulk query e (subst (IsAnswer query) h (answers query)) in
    record { metadata = metadata_short most (omega arith) e (omega (arith, held)); parts = parts_short most (omega arith) (omega arith) e held }
