-- The tokens of a written expression are read as the expression.
use Rattle.std.proofs.Common.{◌≡◌, ℕ, zero, suc, ◌+◌, ◌-◌, ◌<◌, ◌≤◌, Bool, true, false, List, [], ◌∷◌, ◌++◌, length, map, refl, sym, ap, ◌∙◌, append_assoc, append-nil, Option, Some, None, arith, ℤ, pos, negsuc}
use Rattle.std.specs.Prelude.{option_map, if◌then◌else◌}
use Rattle.vx_dtype.specs.declared.StrictComparison.{StrictComparison}
use Rattle.vx_dtype.specs.declared.StrictComparison.TheVariants.{Strict, NonStrict}
use Rattle.vx_dtype.specs.declared.PType.{PType}
use Rattle.vx_dtype.specs.declared.Nullability.{Nullability}
use Rattle.vx_dtype.specs.declared.Nullability.TheVariants.{NonNullable, Nullable}
use Rattle.vx_dtype.specs.Types.{Bytes, Ty, bool_ty, int_ty, text_ty, list_ty, struct_ty}
use Rattle.vx_dtype.specs.Values.{Raw, raw_null, raw_bool, raw_int, raw_text, raw_list, raw_struct, Typed}
use Rattle.vx_dtype.specs.Fits.{fits}
use Rattle.vx_dtype.specs.ScalarAnswers.{typed}
use Rattle.vx_expr.specs.declared.operators.Operator.{Operator}
use Rattle.vx_expr.specs.declared.selections.FieldSelection.{FieldSelection}
use Rattle.vx_expr.specs.Trees.{Tree, root, literal, get_item, binary, not_of, is_null_of, like, between, cast}
use Rattle.vx_expr.specs.Trees.{list_contains, pack, merge, select, dynamic, Trees, no_trees, tree, trees_of, listed}
use Rattle.vx_tokens.specs.declared.tokens.Keyword.{Keyword}
use Rattle.vx_tokens.specs.declared.tokens.Keyword.TheVariants as words
use Rattle.vx_tokens.specs.declared.tokens.Sign.TheVariants as signs
use Rattle.vx_tokens.specs.declared.tokens.Token.{Token}
use Rattle.vx_tokens.specs.declared.tokens.Token.TheVariants.{Reserved, Mark}
use Rattle.vx_tokens.specs.Tokens.{◌>>=◌}
use Rattle.vx_tokens.specs.Numbers.{signed}
use Rattle.vx_text.specs.NamedExpressions.{Named, Arguments, constant_of, and_one, and_argument, call_of, with_name, pack_of}
use Rattle.vx_text.specs.Grammar.{Read, after, closed, more_parts, type_front, item_front, lit_behind, field_of, included, excluded, step_at, steps, plain_call, arguments_with, named, all_named_with, pack_call, cast_call, atom_with, post_with, nots_at, query_at}
use Rattle.vx_text.specs.Writing.{is_bare}
use Rattle.vx_laws_text.specs.WrittenTokens.{name_token, name_tokens, choice_tokens, type_tokens, number_tokens, number_type, item_tokens, bare_tokens, literal_tokens, operator_token, range_keyword, query_tokens, listed_tokens, named_tokens}
use Rattle.vx_laws_text.proofs.Sizes.{names_size, choice_size, type_size, item_size, literal_size, query_size, listed_size, named_size}
use Rattle.vx_laws_text.proofs.Pieces.{if-true}
use Rattle.vx_laws_text.proofs.Ready.{IsShort, IsItem, ReadyConstant, IsReady, AreReady}
use Rattle.vx_laws_text.proofs.ReadParts.{closes_round, after_comma, last_part, next_part, no_parts, some_parts, name_read, name_no_sign, names_read, labelled_read}
use Rattle.vx_laws_text.proofs.ReadTypes.{type_read}
use Rattle.vx_laws_text.proofs.ReadItems.{natural_read, item_read}
use Rattle.vx_laws_text.proofs.Levels.{Ends, ends-nil, ends-round, ends-comma, operator_no_step, no_steps, from_post, from_negated, from_operands}

-- ---- the first token of an expression closes no list, and isn't `not`

record Begins (tokens : List Token) : Type 0 where
  close : after signs.RoundClose tokens ≡ None
  plain : nots_at tokens ≡ (0, tokens)

number_begins : (i : ℤ) (p : Option PType) (rest : List Token) → Begins (number_tokens i p rest)
unfolding after nots_at
number_begins (pos n) p rest = record { close = refl; plain = refl }
number_begins (negsuc n) p rest = record { close = refl; plain = refl }

item_begins : (x : Raw) (rest : List Token) → Begins (item_tokens x rest)
unfolding after nots_at item_tokens
item_begins raw_null rest = record { close = refl; plain = refl }
item_begins (raw_bool true) rest = record { close = refl; plain = refl }
item_begins (raw_bool false) rest = record { close = refl; plain = refl }
item_begins (raw_int i) rest = number_begins i None rest
item_begins (raw_text s) rest = record { close = refl; plain = refl }
item_begins (raw_list xs) rest = record { close = refl; plain = refl }
item_begins (raw_struct xs) rest = record { close = refl; plain = refl }

bare_begins : (t : Ty) (x : Raw) (rest : List Token) → Begins (bare_tokens t x rest)
bare_begins t (raw_int i) rest = number_begins i (number_type t) rest
bare_begins t raw_null rest = item_begins raw_null rest
bare_begins t (raw_bool b) rest = item_begins (raw_bool b) rest
bare_begins t (raw_text s) rest = item_begins (raw_text s) rest
bare_begins t (raw_list xs) rest = item_begins (raw_list xs) rest
bare_begins t (raw_struct xs) rest = item_begins (raw_struct xs) rest

literal_begins : (s : Typed) (rest : List Token) → Begins (literal_tokens s rest)
unfolding after nots_at literal_tokens
literal_begins s rest = go (is_bare s.ty)
  where
    go : (b : Bool) → Begins (if b then bare_tokens s.ty s.value rest
        else Reserved words.Lit ∷ Mark signs.RoundOpen ∷ type_tokens s.ty (Mark signs.Comma ∷ item_tokens s.value (Mark signs.RoundClose ∷ rest)))
    go true = bare_begins s.ty s.value rest
    go false = record { close = refl; plain = refl }

query_begins : (e : Tree) (rest : List Token) → IsReady e → Begins (query_tokens e rest)
unfolding after nots_at query_tokens
query_begins root rest k = record { close = refl; plain = refl }
query_begins (literal s) rest k = literal_begins s rest
query_begins (get_item f e) rest k = query_begins e (Mark signs.Dot ∷ name_token f ∷ rest) k.1
query_begins (binary l op r) rest k = record { close = refl; plain = refl }
query_begins (not_of e) rest k = record { close = refl; plain = refl }
query_begins (is_null_of e) rest k = record { close = refl; plain = refl }
query_begins (like e p false false) rest k = record { close = refl; plain = refl }
query_begins (like e p true false) rest k = record { close = refl; plain = refl }
query_begins (like e p false true) rest k = record { close = refl; plain = refl }
query_begins (like e p true true) rest k = record { close = refl; plain = refl }
query_begins (between e lower upper options) rest k = range_begins options.lower_strict options.upper_strict _
  where
    range_begins : (lower upper : StrictComparison) (others : List Token) → Begins (Reserved (range_keyword lower upper) ∷ others)
    range_begins NonStrict NonStrict others = record { close = refl; plain = refl }
    range_begins Strict Strict others = record { close = refl; plain = refl }
    range_begins Strict NonStrict others = record { close = refl; plain = refl }
    range_begins NonStrict Strict others = record { close = refl; plain = refl }
query_begins (cast e t) rest k = record { close = refl; plain = refl }
query_begins (list_contains l v) rest k = record { close = refl; plain = refl }
query_begins (pack names es NonNullable) rest k = record { close = refl; plain = refl }
query_begins (pack names es Nullable) rest k = record { close = refl; plain = refl }
query_begins (merge es NonNullable) rest k = record { close = refl; plain = refl }
query_begins (merge es Nullable) rest k = record { close = refl; plain = refl }
query_begins (select s e) rest k = query_begins e (choice_tokens s rest) k.1
query_begins (dynamic e op n t default) rest k = absurd k

-- ---- an expression is an atom and steps behind it

-- how many steps may follow the atom, where so many may follow the expression
abbrev steps_over : Tree → ℕ → ℕ
steps_over (get_item f e) n = steps_over e (suc n)
steps_over (select s e) n = steps_over e (suc n)
steps_over _ n = n

abbrev steps_in : Tree → ℕ
steps_in (get_item f e) = 1 + steps_in e
steps_in (select s e) = 1 + steps_in e
steps_in _ = 0

over_is : (e : Tree) (n : ℕ) → steps_over e n ≡ steps_in e + n
over_is (get_item f e) n = over_is e (suc n) ∙ omega arith
over_is (select s e) n = over_is e (suc n) ∙ omega arith
over_is root n = omega arith
over_is (literal s) n = omega arith
over_is (binary l op r) n = omega arith
over_is (not_of e) n = omega arith
over_is (is_null_of e) n = omega arith
over_is (like e p negated fold_case) n = omega arith
over_is (between e lower upper options) n = omega arith
over_is (cast e t) n = omega arith
over_is (list_contains l v) n = omega arith
over_is (pack names es k) n = omega arith
over_is (merge es k) n = omega arith
over_is (dynamic e op k t default) n = omega arith

choice_some : (s : FieldSelection) → 1 ≤ choice_size s
choice_some (FieldSelection.Include fs) = omega arith
choice_some (FieldSelection.Exclude fs) = omega arith

steps_within : (e : Tree) → steps_in e ≤ query_size e
unfolding query_size
steps_within (get_item f e) = omega (arith, steps_within e)
steps_within (select s e) = omega (arith, steps_within e, choice_some s)
steps_within root = omega arith
steps_within (literal s) = omega arith
steps_within (binary l op r) = omega arith
steps_within (not_of e) = omega arith
steps_within (is_null_of e) = omega arith
steps_within (like e p negated fold_case) = omega arith
steps_within (between e lower upper options) = omega arith
steps_within (cast e t) = omega arith
steps_within (list_contains l v) = omega arith
steps_within (pack names es k) = omega arith
steps_within (merge es k) = omega arith
steps_within (dynamic e op k t default) = omega arith

module _ (read : List Token → Read Named) where
  -- the atom of an expression and its own steps are read, whatever stands behind them
  pub record Reads (e : Tree) : Type 0 where
    pub steps_are : (rest : List Token) (n : ℕ) → (atom_with read (query_tokens e rest) >>= λ x. steps (steps_over e n) x.0 x.1) ≡ steps n (Some e) rest

  -- an expression is read as an operand
  pub record Posts (e : Tree) : Type 0 where
    pub post : (rest : List Token) → step_at rest ≡ None → post_with read (query_tokens e rest) ≡ Some (Some e, rest)

  -- an expression is read as a query
  pub record Whole (e : Tree) : Type 0 where
    pub whole : (rest : List Token) → Ends rest → read (query_tokens e rest) ≡ Some (Some e, rest)

  abbrev AllWhole : Trees → Type 0
  AllWhole no_trees = Unit {0}
  AllWhole (tree e es) = Whole e × AllWhole es

  posts : (e : Tree) → Reads e → query_size e ≤ 4096 → Posts e
  posts e k le = record {
    post = λ rest none.
        let n = 4096 - steps_in e in
        let same : steps_over e n ≡ 4096 = over_is e n ∙ omega (arith, steps_within e) in
        ap (λ (m : ℕ). atom_with read (query_tokens e rest) >>= λ x. steps m x.0 x.1) (sym same) ∙ (k.steps_are rest n ∙ no_steps n (Some e) rest none);
  }

-- the queries that are read one in another
whole_at : (deep : ℕ) (e : Tree) → IsReady e → Posts (query_at deep) e → Whole (query_at (suc deep)) e
unfolding query_at
whole_at deep e ready k = record {
  whole = λ rest ends.
      from_post (query_at deep) (query_tokens e rest) rest (Some e) (k.post rest ends.step) (query_begins e rest ready).plain ends;
}

-- ---- names behind an expression

abbrev go_on : ℕ → Read Named → Read Named
go_on n r = r >>= λ x. steps n x.0 x.1

abbrev with_field : Named → Read Bytes → Read Named
with_field e r = r >>= λ f. Some (field_of e f.0, f.1)

abbrev with_included : Named → Read (List Bytes) → Read Named
with_included e r = r >>= λ fs. Some (included e fs.0, fs.1)

abbrev with_excluded : Named → Read (List Bytes) → Read Named
with_excluded e r = r >>= λ fs. Some (excluded e fs.0, fs.1)

module _ (read : List Token → Read Named) where
  item_reads : (f : Bytes) (e : Tree) → Reads read e → Reads read (get_item f e)
  unfolding query_tokens steps step_at
  item_reads f e k = record {
    steps_are = λ rest n.
        k.steps_are (Mark signs.Dot ∷ name_token f ∷ rest) (suc n)
        ∙ ap (λ r. go_on n (with_field (Some e) r)) (name_read f rest);
  }

  include_reads : (fs : List Bytes) (e : Tree) → names_size 0 fs ≤ 4096 → Reads read e → Reads read (select (FieldSelection.Include fs) e)
  unfolding query_tokens steps step_at
  include_reads fs e le k = record {
    steps_are = λ rest n.
        k.steps_are (Mark signs.CurlyOpen ∷ name_tokens [] fs (Mark signs.CurlyClose ∷ rest)) (suc n)
        ∙ ap (λ r. go_on n (with_included (Some e) r)) (names_read fs rest le);
  }

  exclude_reads : (fs : List Bytes) (e : Tree) → names_size 0 fs ≤ 4096 → Reads read e → Reads read (select (FieldSelection.Exclude fs) e)
  unfolding query_tokens steps step_at after
  exclude_reads fs e le k = record {
    steps_are = λ rest n.
        k.steps_are (Mark signs.Tilde ∷ Mark signs.CurlyOpen ∷ name_tokens [] fs (Mark signs.CurlyClose ∷ rest)) (suc n)
        ∙ ap (λ r. go_on n (with_excluded (Some e) r)) (names_read fs rest le);
  }

  select_reads : (s : FieldSelection) (e : Tree) → choice_size s ≤ 4096 → Reads read e → Reads read (select s e)
  select_reads (FieldSelection.Include fs) e le k = include_reads fs e (omega arith) k
  select_reads (FieldSelection.Exclude fs) e le k = exclude_reads fs e (omega arith) k

  -- an expression that is an atom
  atom_reads : (e : Tree) → ((n : ℕ) → steps_over e n ≡ n) → ((rest : List Token) → atom_with read (query_tokens e rest) ≡ Some (Some e, rest)) → Reads read e
  atom_reads e none h = record {
    steps_are = λ rest n.
        ap (λ (m : ℕ). atom_with read (query_tokens e rest) >>= λ x. steps m x.0 x.1) (none n) ∙ ap (λ r. r >>= λ x. steps n x.0 x.1) (h rest);
  }

  -- ---- constants

  fit_constant : (t : Ty) (x : Raw) → fits x t ≡ true → constant_of t (Some x) ≡ Some (literal (typed t x))
  fit_constant t x fit = if-true (fits x t) _ _ fit

  number_atom : (i : ℤ) (p : PType) (rest : List Token) → IsShort i → fits (raw_int i) (int_ty p NonNullable) ≡ true
      → atom_with read (number_tokens i (Some p) rest) ≡ Some (Some (literal (typed (int_ty p NonNullable) (raw_int i))), rest)
  number_atom (pos n) p rest short fit =
      ap (λ (o : Option ℕ). Some (constant_of (int_ty p NonNullable) (option_map raw_int (option_map (signed false) o)), rest)) (natural_read n short)
      ∙ ap (λ (o : Named). Some (o, rest)) (fit_constant (int_ty p NonNullable) (raw_int (pos n)) fit)
  number_atom (negsuc n) p rest short fit =
      ap (λ (o : Option ℕ). Some (constant_of (int_ty p NonNullable) (option_map raw_int (option_map (signed true) o)), rest)) (natural_read (suc n) short)
      ∙ ap (λ (o : Named). Some (o, rest)) (fit_constant (int_ty p NonNullable) (raw_int (negsuc n)) fit)

  bare_atom : (t : Ty) (x : Raw) (rest : List Token) → is_bare t ≡ true → fits x t ≡ true → IsItem x → atom_with read (bare_tokens t x rest) ≡ Some (Some (literal (typed t x)), rest)
  unfolding item_tokens fits
  bare_atom (int_ty p NonNullable) (raw_int i) rest bare fit k = number_atom i p rest k fit
  bare_atom (int_ty p NonNullable) raw_null rest bare fit k = absurd cc
  bare_atom (int_ty p NonNullable) (raw_bool b) rest bare fit k = absurd cc
  bare_atom (int_ty p NonNullable) (raw_text s) rest bare fit k = absurd cc
  bare_atom (int_ty p NonNullable) (raw_list xs) rest bare fit k = absurd cc
  bare_atom (int_ty p NonNullable) (raw_struct xs) rest bare fit k = absurd cc
  bare_atom (int_ty p Nullable) x rest bare fit k = absurd cc
  bare_atom (bool_ty NonNullable) (raw_bool true) rest bare fit k = refl
  bare_atom (bool_ty NonNullable) (raw_bool false) rest bare fit k = refl
  bare_atom (bool_ty NonNullable) raw_null rest bare fit k = absurd cc
  bare_atom (bool_ty NonNullable) (raw_int i) rest bare fit k = absurd cc
  bare_atom (bool_ty NonNullable) (raw_text s) rest bare fit k = absurd cc
  bare_atom (bool_ty NonNullable) (raw_list xs) rest bare fit k = absurd cc
  bare_atom (bool_ty NonNullable) (raw_struct xs) rest bare fit k = absurd cc
  bare_atom (bool_ty Nullable) x rest bare fit k = absurd cc
  bare_atom (text_ty NonNullable) (raw_text s) rest bare fit k = refl
  bare_atom (text_ty NonNullable) raw_null rest bare fit k = absurd cc
  bare_atom (text_ty NonNullable) (raw_bool b) rest bare fit k = absurd cc
  bare_atom (text_ty NonNullable) (raw_int i) rest bare fit k = absurd cc
  bare_atom (text_ty NonNullable) (raw_list xs) rest bare fit k = absurd cc
  bare_atom (text_ty NonNullable) (raw_struct xs) rest bare fit k = absurd cc
  bare_atom (text_ty Nullable) x rest bare fit k = absurd cc
  bare_atom (list_ty e n) x rest bare fit k = absurd cc
  bare_atom (struct_ty fs n) x rest bare fit k = absurd cc

comma_no_question : (rest : List Token) → after signs.Question (Mark signs.Comma ∷ rest) ≡ None
unfolding after
comma_no_question rest = refl

round_no_question : (rest : List Token) → after signs.Question (Mark signs.RoundClose ∷ rest) ≡ None
unfolding after
round_no_question rest = refl

lit_atom : (t : Ty) (x : Raw) (rest : List Token) → fits x t ≡ true → IsItem x → 4 + (type_size t + item_size x) ≤ 4096
    → lit_behind (Mark signs.RoundOpen ∷ type_tokens t (Mark signs.Comma ∷ item_tokens x (Mark signs.RoundClose ∷ rest))) ≡ Some (Some (literal (typed t x)), rest)
unfolding lit_behind after
lit_atom t x rest fit k le =
    ap (λ r. r >>= λ u. after signs.Comma u.1 >>= λ more. item_front more >>= λ y. closed signs.RoundClose (constant_of u.0 y.0, y.1)) (type_read t (Mark signs.Comma ∷ item_tokens x (Mark signs.RoundClose ∷ rest)) (omega arith) (comma_no_question (item_tokens x (Mark signs.RoundClose ∷ rest))))
    ∙ (ap (λ r. r >>= λ y. closed signs.RoundClose (constant_of t y.0, y.1)) (item_read x (Mark signs.RoundClose ∷ rest) k (omega arith))
    ∙ ap (λ (o : Named). Some (o, rest)) (if-true (fits x t) _ _ fit))

constant_atom : (read : List Token → Read Named) (s : Typed) (rest : List Token) → ReadyConstant s → literal_size s ≤ 4096 → atom_with read (literal_tokens s rest) ≡ Some (Some (literal s), rest)
unfolding literal_tokens
constant_atom read s rest k le = go (is_bare s.ty) refl le
  where
    go : (b : Bool) → is_bare s.ty ≡ b → (if b then item_size s.value else 4 + (type_size s.ty + item_size s.value)) ≤ 4096
        → atom_with read (if b then bare_tokens s.ty s.value rest
        else Reserved words.Lit ∷ Mark signs.RoundOpen ∷ type_tokens s.ty (Mark signs.Comma ∷ item_tokens s.value (Mark signs.RoundClose ∷ rest))) ≡ Some (Some (literal s), rest)
    go true bare small = bare_atom read s.ty s.value rest bare k.fit k.item
    go false bare small = lit_atom s.ty s.value rest k.fit k.item small

-- ---- arguments of calls

abbrev argued : Arguments → Trees → Arguments
argued so_far no_trees = so_far
argued so_far (tree e es) = argued (and_argument so_far (Some e)) es

argued_all : (n : ℕ) (so_far : List Tree) (es : Trees) → argued (n, Some so_far) es ≡ (n + length (listed es), Some (so_far ++ listed es))
argued_all n so_far no_trees =
    let k : n ≡ n + 0 = omega arith in
    λ i. (k i, Some (sym (append-nil so_far) i))
argued_all n so_far (tree e es) =
    let k : n + 1 + length (listed es) ≡ n + suc (length (listed es)) = omega arith in
    argued_all (n + 1) (so_far ++ e ∷ []) es ∙ (λ i. (k i, Some (append_assoc so_far (e ∷ []) (listed es) i)))

trees_again : (es : Trees) → trees_of (listed es) ≡ es
trees_again no_trees = refl
trees_again (tree e es) = ap (tree e) (trees_again es)

abbrev pair_up : Option (List (Bytes × Tree)) → List Bytes → Trees → Option (List (Bytes × Tree))
pair_up so_far (f ∷ names) (tree e es) = pair_up (and_one so_far (Some (f, e))) names es
pair_up so_far _ _ = so_far

abbrev pairs : List Bytes → Trees → List (Bytes × Tree)
pairs (f ∷ names) (tree e es) = (f, e) ∷ pairs names es
pairs _ _ = []

paired_all : (so_far : List (Bytes × Tree)) (names : List Bytes) (es : Trees) → pair_up (Some so_far) names es ≡ Some (so_far ++ pairs names es)
paired_all so_far [] no_trees = ap Some (sym (append-nil so_far))
paired_all so_far [] (tree e es) = ap Some (sym (append-nil so_far))
paired_all so_far (f ∷ names) no_trees = ap Some (sym (append-nil so_far))
paired_all so_far (f ∷ names) (tree e es) = paired_all (so_far ++ (f, e) ∷ []) names es ∙ ap Some (append_assoc so_far ((f, e) ∷ []) (pairs names es))

names_again : (names : List Bytes) (es : Trees) → length names ≡ length (listed es) → map (λ (e : Bytes × Tree). e.0) (pairs names es) ≡ names
names_again [] no_trees h = refl
names_again [] (tree e es) h = absurd (omega arith)
names_again (f ∷ names) no_trees h = absurd (omega arith)
names_again (f ∷ names) (tree e es) h = ap (λ (fs : List Bytes). f ∷ fs) (names_again names es (omega arith))

values_again : (names : List Bytes) (es : Trees) → length names ≡ length (listed es) → trees_of (map (λ (e : Bytes × Tree). e.1) (pairs names es)) ≡ es
values_again [] no_trees h = refl
values_again [] (tree e es) h = absurd (omega arith)
values_again (f ∷ names) no_trees h = absurd (omega arith)
values_again (f ∷ names) (tree e es) h = ap (tree e) (values_again names es (omega arith))

pack_again : (n : Nullability) (names : List Bytes) (es : Trees) → length names ≡ length (listed es) → pack_of n (pair_up (Some []) names es) ≡ Some (pack names es n)
pack_again n names es h = ap (pack_of n) (paired_all [] names es) ∙ (λ i. Some (pack (names_again names es h i) (values_again names es h i) n))

module _ (read : List Token → Read Named) where
  more_arguments : (es : Trees) (e : Tree) (n : ℕ) (so_far : Arguments) (rest : List Token) → Whole read e → AllWhole read es → listed_size 1 es ≤ n
      → more_parts read and_argument signs.RoundClose (suc n) so_far (query_tokens e (listed_tokens (Mark signs.Comma ∷ []) es (Mark signs.RoundClose ∷ rest))) ≡ Some (argued (and_argument so_far (Some e)) es, rest)
  unfolding query_tokens query_size
  more_arguments no_trees e n so_far rest k ks le = last_part read and_argument signs.RoundClose n so_far _ _ rest (Some e) (k.whole _ (ends-round rest)) (closes_round rest)
  more_arguments (tree g es) e zero so_far rest k ks le = absurd (omega arith)
  more_arguments (tree g es) e (suc n) so_far rest k ks le =
      next_part read and_argument signs.RoundClose (suc n) so_far _ _ _ (Some e) (k.whole _ (ends-comma _)) (after_comma _)
      ∙ more_arguments es g n (and_argument so_far (Some e)) rest ks.0 ks.1 (omega arith)

  arguments_read : (es : Trees) (rest : List Token) → AreReady es → AllWhole read es → listed_size 0 es < 4096
      → arguments_with read (listed_tokens [] es (Mark signs.RoundClose ∷ rest)) ≡ Some (argued (0, Some []) es, rest)
  unfolding query_tokens query_size
  arguments_read no_trees rest ready ks le = no_parts read and_argument (0, Some []) signs.RoundClose _ rest (closes_round rest).closed_by
  arguments_read (tree e es) rest ready ks le =
      some_parts read and_argument (0, Some []) signs.RoundClose _ (query_begins e _ ready.0).close
      ∙ more_arguments es e 4095 (0, Some []) rest ks.0 ks.1 (omega arith)

  called : (w : Keyword) (es : Trees) (made : Tree) (rest : List Token) → AreReady es → AllWhole read es → listed_size 0 es < 4096 → call_of w (argued (0, Some []) es) ≡ Some (Some made)
      → plain_call read w (Mark signs.RoundOpen ∷ listed_tokens [] es (Mark signs.RoundClose ∷ rest)) ≡ Some (Some made, rest)
  unfolding plain_call after
  called w es made rest ready ks le is =
      ap (λ r. r >>= λ xs. call_of w xs.0 >>= λ e. Some (e, xs.1)) (arguments_read es rest ready ks le)
      ∙ ap (λ r. r >>= λ (e : Named). Some (e, rest)) is

  -- the same of named ones
  named_read : (f : Bytes) (e : Tree) (rest : List Token) → Whole read e → Ends rest → named read (name_token f ∷ Mark signs.Colon ∷ query_tokens e rest) ≡ Some (Some (f, e), rest)
  named_read f e rest k ends = ap (λ r. r >>= λ x. Some (with_name x.0.0 x.0.1, x.1)) (labelled_read read f (Some e) (query_tokens e rest) rest (k.whole rest ends))

  more_named : (es : Trees) (names : List Bytes) (f : Bytes) (e : Tree) (n : ℕ) (so_far : Option (List (Bytes × Tree))) (rest : List Token) → Whole read e → AllWhole read es → named_size 1 names es ≤ n
      → more_parts (named read) and_one signs.RoundClose (suc n) so_far
      (name_token f ∷ Mark signs.Colon ∷ query_tokens e (named_tokens (Mark signs.Comma ∷ []) names es (Mark signs.RoundClose ∷ rest))) ≡ Some (pair_up (and_one so_far (Some (f, e))) names es, rest)
  unfolding query_tokens query_size
  more_named no_trees [] f e n so_far rest k ks le =
      last_part (named read) and_one signs.RoundClose n so_far _ _ rest (Some (f, e)) (named_read f e _ k (ends-round rest)) (closes_round rest)
  more_named no_trees (g ∷ names) f e n so_far rest k ks le =
      last_part (named read) and_one signs.RoundClose n so_far _ _ rest (Some (f, e)) (named_read f e _ k (ends-round rest)) (closes_round rest)
  more_named (tree d es) [] f e n so_far rest k ks le =
      last_part (named read) and_one signs.RoundClose n so_far _ _ rest (Some (f, e)) (named_read f e _ k (ends-round rest)) (closes_round rest)
  more_named (tree d es) (g ∷ names) f e zero so_far rest k ks le = absurd (omega arith)
  more_named (tree d es) (g ∷ names) f e (suc n) so_far rest k ks le =
      next_part (named read) and_one signs.RoundClose (suc n) so_far _ _ _ (Some (f, e)) (named_read f e _ k (ends-comma _)) (after_comma _)
      ∙ more_named es names g d n (and_one so_far (Some (f, e))) rest ks.0 ks.1 (omega arith)

  all_named_read : (es : Trees) (names : List Bytes) (rest : List Token) → AllWhole read es → named_size 0 names es < 4096
      → all_named_with read (named_tokens [] names es (Mark signs.RoundClose ∷ rest)) ≡ Some (pair_up (Some []) names es, rest)
  unfolding query_tokens query_size
  all_named_read no_trees [] rest ks le = no_parts (named read) and_one (Some []) signs.RoundClose _ rest (closes_round rest).closed_by
  all_named_read no_trees (f ∷ names) rest ks le = no_parts (named read) and_one (Some []) signs.RoundClose _ rest (closes_round rest).closed_by
  all_named_read (tree e es) [] rest ks le = no_parts (named read) and_one (Some []) signs.RoundClose _ rest (closes_round rest).closed_by
  all_named_read (tree e es) (f ∷ names) rest ks le =
      some_parts (named read) and_one (Some []) signs.RoundClose _ (name_no_sign signs.RoundClose f _)
      ∙ more_named es names f e 4095 (Some []) rest ks.0 ks.1 (omega arith)

  pack_read : (n : Nullability) (names : List Bytes) (es : Trees) (rest : List Token) → AllWhole read es → length names ≡ length (listed es) → named_size 0 names es < 4096
      → pack_call read n (Mark signs.RoundOpen ∷ named_tokens [] names es (Mark signs.RoundClose ∷ rest)) ≡ Some (Some (pack names es n), rest)
  unfolding pack_call after
  pack_read n names es rest ks same le =
      ap (λ r. r >>= λ xs. Some (pack_of n xs.0, xs.1)) (all_named_read es names rest ks le) ∙ ap (λ (o : Named). Some (o, rest)) (pack_again n names es same)

  -- ---- atoms

  cast_atom : (e : Tree) (t : Ty) (rest : List Token) → Whole read e → type_size t ≤ 4096 → atom_with read (query_tokens (cast e t) rest) ≡ Some (Some (cast e t), rest)
  unfolding query_tokens cast_call after
  cast_atom e t rest k le =
      ap (λ r. r >>= λ x. after signs.Comma x.1 >>= λ more. type_front more >>= λ u. closed signs.RoundClose (option_map (λ y. cast y u.0) x.0, u.1))
      (k.whole (Mark signs.Comma ∷ type_tokens t (Mark signs.RoundClose ∷ rest)) (ends-comma _))
      ∙ ap (λ r. r >>= λ u. closed signs.RoundClose (Some (cast e u.0), u.1)) (type_read t (Mark signs.RoundClose ∷ rest) le (round_no_question rest))

  is_null_atom : (e : Tree) (rest : List Token) → IsReady e → Whole read e → query_size e < 4096 → atom_with read (query_tokens (is_null_of e) rest) ≡ Some (Some (is_null_of e), rest)
  unfolding query_tokens query_size
  is_null_atom e rest ready k le = called words.IsNull (tree e no_trees) (is_null_of e) rest (ready, tt) (k, tt) (omega arith) refl

  contains_atom : (l v : Tree) (rest : List Token) → IsReady l → IsReady v → Whole read l → Whole read v → 1 + (query_size l + query_size v) < 4096
      → atom_with read (query_tokens (list_contains l v) rest) ≡ Some (Some (list_contains l v), rest)
  unfolding query_tokens query_size
  contains_atom l v rest rl rv kl kv le = called words.Contains (tree l (tree v no_trees)) (list_contains l v) rest (rl, (rv, tt)) (kl, (kv, tt)) (omega arith) refl

  like_atom : (e p : Tree) (negated fold_case : Bool) (rest : List Token) → IsReady e → IsReady p → Whole read e → Whole read p → 1 + (query_size e + query_size p) < 4096
      → atom_with read (query_tokens (like e p negated fold_case) rest) ≡ Some (Some (like e p negated fold_case), rest)
  unfolding query_tokens query_size
  like_atom e p false false rest re rp ke kp le = called words.Like (tree e (tree p no_trees)) (like e p false false) rest (re, (rp, tt)) (ke, (kp, tt)) (omega arith) refl
  like_atom e p true false rest re rp ke kp le = called words.NotLike (tree e (tree p no_trees)) (like e p true false) rest (re, (rp, tt)) (ke, (kp, tt)) (omega arith) refl
  like_atom e p false true rest re rp ke kp le = called words.Ilike (tree e (tree p no_trees)) (like e p false true) rest (re, (rp, tt)) (ke, (kp, tt)) (omega arith) refl
  like_atom e p true true rest re rp ke kp le = called words.NotIlike (tree e (tree p no_trees)) (like e p true true) rest (re, (rp, tt)) (ke, (kp, tt)) (omega arith) refl

  between_atom : (e l u : Tree) (lower upper : StrictComparison) (rest : List Token) → AreReady (tree e (tree l (tree u no_trees))) → AllWhole read (tree e (tree l (tree u no_trees)))
      → 2 + (query_size e + (query_size l + query_size u)) < 4096
      → atom_with read (query_tokens (between e l u (record { lower_strict = lower; upper_strict = upper })) rest) ≡ Some (Some (between e l u (record { lower_strict = lower; upper_strict = upper })), rest)
  unfolding query_tokens query_size
  between_atom e l u NonStrict NonStrict rest ready k le = called words.Between (tree e (tree l (tree u no_trees))) _ rest ready k (omega arith) refl
  between_atom e l u Strict Strict rest ready k le = called words.BetweenOo (tree e (tree l (tree u no_trees))) _ rest ready k (omega arith) refl
  between_atom e l u Strict NonStrict rest ready k le = called words.BetweenOc (tree e (tree l (tree u no_trees))) _ rest ready k (omega arith) refl
  between_atom e l u NonStrict Strict rest ready k le = called words.BetweenCo (tree e (tree l (tree u no_trees))) _ rest ready k (omega arith) refl

  merged : (w : Keyword) (n : Nullability) (es : Trees) → ((m : ℕ) (xs : List Tree) → call_of w (m, Some xs) ≡ Some (Some (merge (trees_of xs) n))) → call_of w (argued (0, Some []) es) ≡ Some (Some (merge es n))
  merged w n es is = ap (call_of w) (argued_all 0 [] es) ∙ (is _ (listed es) ∙ ap (λ (xs : Trees). Some (Some (merge xs n))) (trees_again es))

  merge_atom : (es : Trees) (n : Nullability) (rest : List Token) → AreReady es → AllWhole read es → listed_size 0 es < 4096 → atom_with read (query_tokens (merge es n) rest) ≡ Some (Some (merge es n), rest)
  unfolding query_tokens
  merge_atom es NonNullable rest ready ks le = called words.Merge es (merge es NonNullable) rest ready ks le (merged words.Merge NonNullable es (λ m xs. refl))
  merge_atom es Nullable rest ready ks le = called words.MergeNull es (merge es Nullable) rest ready ks le (merged words.MergeNull Nullable es (λ m xs. refl))

  pack_atom : (names : List Bytes) (es : Trees) (n : Nullability) (rest : List Token) → AllWhole read es → length names ≡ length (listed es) → named_size 0 names es < 4096
      → atom_with read (query_tokens (pack names es n) rest) ≡ Some (Some (pack names es n), rest)
  unfolding query_tokens
  pack_atom names es NonNullable rest ks same le = pack_read NonNullable names es rest ks same le
  pack_atom names es Nullable rest ks same le = pack_read Nullable names es rest ks same le

root_atom : (read : List Token → Read Named) (rest : List Token) → atom_with read (query_tokens root rest) ≡ Some (Some root, rest)
unfolding query_tokens
root_atom read rest = refl

literal_atom : (read : List Token → Read Named) (s : Typed) → ReadyConstant s → literal_size s ≤ 4096 → (rest : List Token) → atom_with read (query_tokens (literal s) rest) ≡ Some (Some (literal s), rest)
unfolding query_tokens
literal_atom read s k le rest = constant_atom read s rest k le

-- what stands between round brackets
in_brackets : (read : List Token → Read Named) (tokens rest : List Token) (e : Tree) → read tokens ≡ Some (Some e, Mark signs.RoundClose ∷ rest) → atom_with read (Mark signs.RoundOpen ∷ tokens) ≡ Some (Some e, rest)
unfolding after
in_brackets read tokens rest e h = ap (λ r. r >>= closed signs.RoundClose) h

not_atom : (deep : ℕ) (e : Tree) (rest : List Token) → IsReady e → Posts (query_at deep) e → atom_with (query_at (suc deep)) (query_tokens (not_of e) rest) ≡ Some (Some (not_of e), rest)
unfolding query_tokens query_at
not_atom deep e rest ready k =
    let others = Mark signs.RoundClose ∷ rest in
    in_brackets (query_at (suc deep)) (Reserved words.Not ∷ query_tokens e others) rest (not_of e)
    (from_negated (query_at deep) (query_tokens e others) others e (k.post others (ends-round rest).step) (query_begins e others ready).plain (ends-round rest))

binary_atom : (deep : ℕ) (l : Tree) (op : Operator) (r : Tree) (rest : List Token) → IsReady l → IsReady r → Posts (query_at deep) l → Posts (query_at deep) r
    → atom_with (query_at (suc deep)) (query_tokens (binary l op r) rest) ≡ Some (Some (binary l op r), rest)
unfolding query_tokens query_at
binary_atom deep l op r rest rl rr kl kr =
    let others = Mark signs.RoundClose ∷ rest in
    let right = query_tokens r others in
    let left = query_tokens l (operator_token op ∷ right) in
    in_brackets (query_at (suc deep)) left rest (binary l op r)
    (from_operands (query_at deep) op left right others l r (record {
      l_read = kl.post (operator_token op ∷ right) (operator_no_step op right);
      r_read = kr.post others (ends-round rest).step;
      l_plain = (query_begins l (operator_token op ∷ right) rl).plain;
      r_plain = (query_begins r others rr).plain;
      ends = ends-round rest;
    }))

-- ---- expressions

-- how an expression is read, wherever there is room for queries one in another
abbrev ReadsWithin : Tree → Type 0
ReadsWithin e = (deep : ℕ) → query_size e ≤ suc deep → deep < 4096 → Reads (query_at deep) e

posts_of : (e : Tree) → ReadsWithin e → (deep : ℕ) → query_size e ≤ suc deep → deep < 4096 → Posts (query_at deep) e
posts_of e k deep le most = posts (query_at deep) e (k deep le most) (omega arith)

whole_of : (e : Tree) → IsReady e → ReadsWithin e → (deep : ℕ) → query_size e < deep → deep ≤ 4096 → Whole (query_at deep) e
whole_of e ready k zero lt most = absurd (omega arith)
whole_of e ready k (suc deep) lt most = whole_at deep e ready (posts_of e k deep (omega arith) (omega arith))

not_reads : (e : Tree) → IsReady e → ReadsWithin e → (deep : ℕ) (rest : List Token) → 3 + query_size e ≤ suc deep → deep < 4096 → atom_with (query_at deep) (query_tokens (not_of e) rest) ≡ Some (Some (not_of e), rest)
not_reads e ready k zero rest le most = absurd (omega arith)
not_reads e ready k (suc deep) rest le most = not_atom deep e rest ready (posts_of e k deep (omega arith) (omega arith))

binary_reads : (l : Tree) (op : Operator) (r : Tree) → IsReady l → IsReady r → ReadsWithin l → ReadsWithin r → (deep : ℕ) (rest : List Token) → 3 + (query_size l + query_size r) ≤ suc deep → deep < 4096
    → atom_with (query_at deep) (query_tokens (binary l op r) rest) ≡ Some (Some (binary l op r), rest)
binary_reads l op r rl rr kl kr zero rest le most = absurd (omega arith)
binary_reads l op r rl rr kl kr (suc deep) rest le most = binary_atom deep l op r rest rl rr (posts_of l kl deep (omega arith) (omega arith)) (posts_of r kr deep (omega arith) (omega arith))

mutual
  unfolding query_size

  reads : (e : Tree) (deep : ℕ) → IsReady e → query_size e ≤ suc deep → deep < 4096 → Reads (query_at deep) e
  reads root deep k le most = atom_reads (query_at deep) root (λ n. refl) (root_atom (query_at deep))
  reads (literal s) deep k le most = atom_reads (query_at deep) (literal s) (λ n. refl) (literal_atom (query_at deep) s k (omega arith))
  reads (get_item f e) deep k le most = item_reads (query_at deep) f e (reads e deep k.1 (omega arith) most)
  reads (binary l op r) deep k le most =
      atom_reads (query_at deep) (binary l op r) (λ n. refl) (λ rest. binary_reads l op r k.0 k.1 (λ d b m. reads l d k.0 b m) (λ d b m. reads r d k.1 b m) deep rest le most)
  reads (not_of e) deep k le most = atom_reads (query_at deep) (not_of e) (λ n. refl) (λ rest. not_reads e k (λ d b m. reads e d k b m) deep rest le most)
  reads (is_null_of e) deep k le most =
      atom_reads (query_at deep) (is_null_of e) (λ n. refl) (λ rest. is_null_atom (query_at deep) e rest k (whole_of e k (λ d b m. reads e d k b m) deep (omega arith) (omega arith)) (omega arith))
  reads (like e p negated fold_case) deep k le most =
      atom_reads (query_at deep) (like e p negated fold_case) (λ n. refl) (λ rest. like_atom (query_at deep) e p negated fold_case rest k.0 k.1
      (whole_of e k.0 (λ d b m. reads e d k.0 b m) deep (omega arith) (omega arith)) (whole_of p k.1 (λ d b m. reads p d k.1 b m) deep (omega arith) (omega arith)) (omega arith))
  reads (between e l u options) deep k le most =
      atom_reads (query_at deep) (between e l u options) (λ n. refl) (λ rest. between_atom (query_at deep) e l u options.lower_strict options.upper_strict rest (k.0, (k.1, (k.2, tt))) (
        whole_of e k.0 (λ d b m. reads e d k.0 b m) deep (omega arith) (omega arith),
        (
          whole_of l k.1 (λ d b m. reads l d k.1 b m) deep (omega arith) (omega arith),
          (whole_of u k.2 (λ d b m. reads u d k.2 b m) deep (omega arith) (omega arith), tt),
        ),
      ) (omega arith))
  reads (cast e t) deep k le most =
      atom_reads (query_at deep) (cast e t) (λ n. refl) (λ rest. cast_atom (query_at deep) e t rest
      (whole_of e k.0 (λ d b m. reads e d k.0 b m) deep (omega arith) (omega arith)) (omega arith))
  reads (list_contains l v) deep k le most =
      atom_reads (query_at deep) (list_contains l v) (λ n. refl) (λ rest. contains_atom (query_at deep) l v rest k.0 k.1
      (whole_of l k.0 (λ d b m. reads l d k.0 b m) deep (omega arith) (omega arith)) (whole_of v k.1 (λ d b m. reads v d k.1 b m) deep (omega arith) (omega arith)) (omega arith))
  reads (pack names es n) deep k le most =
      atom_reads (query_at deep) (pack names es n) (λ m. refl) (λ rest. pack_atom (query_at deep) names es n rest
      (reads_named es names 0 deep k.1 k.2 (omega arith) (omega arith)) k.1 (omega arith))
  reads (merge es n) deep k le most =
      atom_reads (query_at deep) (merge es n) (λ m. refl) (λ rest. merge_atom (query_at deep) es n rest k (reads_all es 0 deep k (omega arith) (omega arith)) (omega arith))
  reads (select s e) deep k le most = select_reads (query_at deep) s e (omega arith) (reads e deep k.1 (omega arith) most)
  reads (dynamic e op i t default) deep k le most = absurd k

  reads_all : (es : Trees) (before deep : ℕ) → AreReady es → listed_size before es < deep → deep ≤ 4096 → AllWhole (query_at deep) es
  reads_all no_trees before deep k lt most = tt
  reads_all (tree e es) before deep k lt most =
      (whole_of e k.0 (λ d b m. reads e d k.0 b m) deep (omega arith) most, reads_all es 1 deep k.1 (omega arith) most)

  reads_named : (es : Trees) (names : List Bytes) (before deep : ℕ) → length names ≡ length (listed es) → AreReady es → named_size before names es < deep → deep ≤ 4096 → AllWhole (query_at deep) es
  reads_named no_trees names before deep same k lt most = tt
  reads_named (tree e es) [] before deep same k lt most = absurd (omega arith)
  reads_named (tree e es) (f ∷ names) before deep same k lt most =
      (whole_of e k.0 (λ d b m. reads e d k.0 b m) deep (omega arith) most, reads_named es names 1 deep (omega arith) k.1 (omega arith) most)

-- the tokens of the text of an expression are a query that names it
pub query_read : (e : Tree) → IsReady e → query_size e ≤ 4096 → query_at 4096 (query_tokens e []) ≡ Some (Some e, [])
query_read e k le = (whole_at 4095 e k (posts_of e (λ d b m. reads e d k b m) 4095 le (omega arith))).whole [] ends-nil
