-- What stands at the front of tokens by the productions of the grammar is read: queries.
use Rattle.std.proofs.Common.{◌≡◌, ℕ, zero, suc, ◌+◌, ◌-◌, ◌<◌, ◌≤◌, List, [], ◌∷◌, ◌++◌, length, refl, sym, ap, ◌∙◌, append_assoc, append-nil, Option, Some, None, arith, length-append}
use Rattle.std.specs.Prelude.{option_map, if◌then◌else◌, ◌==◌}
use Rattle.vx_dtype.specs.declared.PType.{PType}
use Rattle.vx_dtype.specs.declared.Nullability.{Nullability}
use Rattle.vx_dtype.specs.declared.Nullability.TheVariants.{NonNullable, Nullable}
use Rattle.vx_dtype.specs.Types.{Bytes, Ty}
use Rattle.vx_dtype.specs.Values.{Raw}
use Rattle.vx_expr.specs.declared.operators.Operator.{Operator}
use Rattle.vx_expr.specs.Trees.{Tree, not_of, cast}
use Rattle.vx_tokens.specs.declared.tokens.Keyword.{Keyword}
use Rattle.vx_tokens.specs.declared.tokens.Keyword.TheVariants as words
use Rattle.vx_tokens.specs.declared.tokens.Sign.{Sign}
use Rattle.vx_tokens.specs.declared.tokens.Sign.TheVariants as signs
use Rattle.vx_tokens.specs.declared.tokens.Token.{Token}
use Rattle.vx_tokens.specs.declared.tokens.Token.TheVariants.{Reserved, Word, Quoted, Quote, Number, Mark}
use Rattle.vx_text.specs.declared.operators.Level.{Level}
use Rattle.vx_text.specs.declared.operators.Level.TheVariants as levels
use Rattle.vx_tokens.specs.Tokens.{◌>>=◌}
use Rattle.vx_text.specs.NamedExpressions.{Named, Arguments, binary_of, negated, constant_of, and_one, and_argument, call_of, with_name, pack_of}
use Rattle.vx_text.specs.Grammar.{Read, after, closed, most_tokens, parts, names_at, type_front, item_front, lit_behind, token_operator, operator_within, level_number, operator_at, next_operand, chain, chained, field_of, included, excluded, column, step_at, steps, arguments_with, plain_call, named, all_named_with, pack_call, cast_call, word_atom, atom_with, post_with, sum_with, compared, compare_with, nots_at, one_more, not_with, and_with, or_with, query_at, whole, query_of}
use Rattle.vx_laws_text.specs.Productions.{gathered, IsName, word_name, quoted_name, AreNames, IsType, IsItem, IsOperator, IsOr, one_or, more_or, IsAnd, one_and, more_and, IsNot, one_not, more_not, IsCompare, one_compare, two_compare, IsSum, one_sum, more_sum, IsPost, one_post, field_post, include_post, exclude_post, IsAtom, bracket_atom, row_atom, name_atom, number_atom, minus_atom, text_atom, true_atom, false_atom, lit_atom, cast_atom, pack_atom, pack_null_atom, call_atom, AreQueries, no_queries, one_query, more_queries, AreNamed, no_named, one_named, more_named, QueryIsRead}
use Rattle.vx_laws_text.proofs.ReadParts.{closes_round}
use Rattle.vx_laws_text.proofs.Levels.{Ends, ends-nil, ends-round, ends-comma, no_steps}
use Rattle.vx_laws_text.proofs.Sound.{PartsFrom}
use Rattle.vx_laws_text.proofs.Complete.{ReadsPart, Ending, none_read, some_read, name_complete, name_no_sign, names_complete, labelled_complete, comma_follows, round_follows, type_front_complete, item_front_complete}

-- ---- what may stand behind each level

record AfterPost (rest : List Token) : Type 0 where
  step : step_at rest ≡ None

record AfterNot (rest : List Token) : Type 0 where
  step : step_at rest ≡ None
  sum : operator_at levels.Sum rest ≡ None
  comparison : operator_at levels.Comparison rest ≡ None

record AfterAnd (rest : List Token) : Type 0 where
  step : step_at rest ≡ None
  sum : operator_at levels.Sum rest ≡ None
  comparison : operator_at levels.Comparison rest ≡ None
  conjunction : operator_at levels.Conjunction rest ≡ None

-- ---- the token of an operator

no_step : (t : Token) (op : Operator) (rest : List Token) → token_operator t ≡ Some op → step_at (t ∷ rest) ≡ None
unfolding step_at
no_step (Mark signs.Dot) op rest e = absurd cc
no_step (Mark signs.CurlyOpen) op rest e = absurd cc
no_step (Mark signs.Tilde) op rest e = absurd cc
no_step (Mark s) op rest e = refl
no_step (Reserved k) op rest e = refl
no_step (Word f) op rest e = refl
no_step (Quoted f) op rest e = refl
no_step (Quote s) op rest e = refl
no_step (Number digits p) op rest e = refl

-- an operator at a level
operator_there : (level at : Level) (t : Token) (op : Operator) (rest : List Token) → IsOperator level t op → operator_at at (t ∷ rest) ≡ (if level_number level == level_number at then Some (op, rest) else None)
unfolding operator_at
operator_there level at t op rest k =
    ap (λ o. operator_within at o rest) k.named ∙ ap (λ l. if level_number l == level_number at then Some (op, rest) else None) k.binds

after_post : {level : Level} {t : Token} {op : Operator} → IsOperator level t op → (rest : List Token) → AfterPost (t ∷ rest)
after_post {level} {t} {op} k rest = record { step = no_step t op rest k.named }

after_not : {t : Token} {op : Operator} → IsOperator levels.Conjunction t op → (rest : List Token) → AfterNot (t ∷ rest)
after_not {t} {op} k rest = record {
  step = no_step t op rest k.named;
  sum = operator_there levels.Conjunction levels.Sum t op rest k;
  comparison = operator_there levels.Conjunction levels.Comparison t op rest k;
}

after_and : {t : Token} {op : Operator} → IsOperator levels.Disjunction t op → (rest : List Token) → AfterAnd (t ∷ rest)
after_and {t} {op} k rest = record {
  step = no_step t op rest k.named;
  sum = operator_there levels.Disjunction levels.Sum t op rest k;
  comparison = operator_there levels.Disjunction levels.Comparison t op rest k;
  conjunction = operator_there levels.Disjunction levels.Conjunction t op rest k;
}

-- ---- chains

-- a chain of operands, with room for as many more as are asked for
record ChainReads (level : Level) (operand : List Token → Read Named) (After : List Token → Type 0) (ts : List Token) (e : Named) : Type 0 where
  count : ℕ
  small : count ≤ length ts
  reads : (rest : List Token) (n : ℕ) → After rest → (operand (ts ++ rest) >>= λ l. chain level operand (count + n) l.0 l.1) ≡ chain level operand n e rest

module _ (level : Level) (operand : List Token → Read Named) (After : List Token → Type 0) where
  chain_one : (ts : List Token) (e : Named) → ReadsPart operand After ts e → ChainReads level operand After ts e
  chain_one ts e k = record {
    count = 0;
    small = omega arith;
    reads = λ rest n after.
        let same : 0 + n ≡ n = omega arith in
        ap (λ r. r >>= λ l. chain level operand (0 + n) l.0 l.1) (k.reads rest after) ∙ ap (λ m. chain level operand m e rest) same;
  }

  chain_step : (n : ℕ) (l r : Named) (op : Operator) (tokens others rest : List Token) → operator_at level tokens ≡ Some (op, others) → operand others ≡ Some (r, rest)
      → chain level operand (suc n) l tokens ≡ chain level operand n (binary_of l op r) rest
  unfolding chain
  chain_step n l r op tokens others rest is h =
      ap (next_operand (chain level operand n) operand l tokens) is ∙ ap (λ x. x >>= λ y. chain level operand n (binary_of l op y.0) y.1) h

  chain_more : (ls rs : List Token) (t : Token) (op : Operator) (l r : Named) → ChainReads level operand After ls l → ((rest : List Token) → After (t ∷ rest))
      → ((rest : List Token) → operator_at level (t ∷ rest) ≡ Some (op, rest)) → ReadsPart operand After rs r → ChainReads level operand After (ls ++ t ∷ rs) (binary_of l op r)
  chain_more ls rs t op l r k follows is kr = record {
    count = suc k.count;
    small = omega (arith, k.small, length-append ls (t ∷ rs));
    reads = λ rest n after.
        let same : suc k.count + n ≡ k.count + suc n = omega arith in
        ap (λ (z : List Token). operand z >>= λ x. chain level operand (suc k.count + n) x.0 x.1) (append_assoc ls (t ∷ rs) rest)
        ∙ (ap (λ m. operand (ls ++ t ∷ (rs ++ rest)) >>= λ x. chain level operand m x.0 x.1) same
        ∙ (k.reads (t ∷ (rs ++ rest)) (suc n) (follows (rs ++ rest)) ∙ chain_step n l r op (t ∷ (rs ++ rest)) (rs ++ rest) rest (is (rs ++ rest)) (kr.reads rest after)));
  }

  chain_ends : (n : ℕ) (e : Named) (rest : List Token) → operator_at level rest ≡ None → chain level operand n e rest ≡ Some (e, rest)
  unfolding chain
  chain_ends zero e rest none = refl
  chain_ends (suc n) e rest none = ap (next_operand (chain level operand n) operand e rest) none

  chain_whole : (ts : List Token) (e : Named) → ChainReads level operand After ts e → length ts ≤ 4096 → (rest : List Token) → After rest → operator_at level rest ≡ None → chained level operand (ts ++ rest) ≡ Some (e, rest)
  chain_whole ts e k le rest after none =
      let n = 4096 - k.count in
      let same : k.count + n ≡ 4096 = omega (arith, k.small) in
      ap (λ m. operand (ts ++ rest) >>= λ l. chain level operand m l.0 l.1) (sym same) ∙ (k.reads rest n after ∙ chain_ends n e rest none)

-- ---- steps

record StepsRead (read : List Token → Read Named) (ts : List Token) (e : Named) : Type 0 where
  count : ℕ
  small : count ≤ length ts
  reads : (rest : List Token) (n : ℕ) → (atom_with read (ts ++ rest) >>= λ x. steps (count + n) x.0 x.1) ≡ steps n e rest

-- the first token closes no list of arguments, and isn't `not`
record Starts (ts : List Token) : Type 0 where
  unclosed : (rest : List Token) → after signs.RoundClose (ts ++ rest) ≡ None
  plain : (rest : List Token) → nots_at (ts ++ rest) ≡ (0, ts ++ rest)

starts_before : (ts us : List Token) → Starts ts → Starts (ts ++ us)
starts_before ts us k = record {
  unclosed = λ rest. ap (after signs.RoundClose) (append_assoc ts us rest) ∙ k.unclosed (us ++ rest);
  plain = λ rest. ap nots_at (append_assoc ts us rest) ∙ (k.plain (us ++ rest) ∙ (λ i. (0, sym (append_assoc ts us rest) i)));
}

module _ (read : List Token → Read Named) where
  steps_one : (ts : List Token) (e : Named) → ((rest : List Token) → atom_with read (ts ++ rest) ≡ Some (e, rest)) → StepsRead read ts e
  steps_one ts e k = record {
    count = 0;
    small = omega arith;
    reads = λ rest n.
        let same : 0 + n ≡ n = omega arith in
        ap (λ r. r >>= λ x. steps (0 + n) x.0 x.1) (k rest) ∙ ap (λ m. steps m e rest) same;
  }

  steps_more : (ts us : List Token) (e d : Named) → StepsRead read ts e → ((rest : List Token) (n : ℕ) → steps (suc n) e (us ++ rest) ≡ steps n d rest) → 1 ≤ length us → StepsRead read (ts ++ us) d
  steps_more ts us e d k step some = record {
    count = suc k.count;
    small = omega (arith, k.small, length-append ts us);
    reads = λ rest n.
        let same : suc k.count + n ≡ k.count + suc n = omega arith in
        ap (λ (z : List Token). atom_with read z >>= λ x. steps (suc k.count + n) x.0 x.1) (append_assoc ts us rest)
        ∙ (ap (λ m. atom_with read (ts ++ (us ++ rest)) >>= λ x. steps m x.0 x.1) same ∙ (k.reads (us ++ rest) (suc n) ∙ step rest n));
  }

  post_reads : (ts : List Token) (e : Named) → StepsRead read ts e → length ts ≤ 4096 → ReadsPart (post_with read) AfterPost ts e
  post_reads ts e k le = record {
    reads = λ rest after.
        let n = 4096 - k.count in
        let same : k.count + n ≡ 4096 = omega (arith, k.small) in
        ap (λ m. atom_with read (ts ++ rest) >>= λ x. steps m x.0 x.1) (sym same) ∙ (k.reads rest n ∙ no_steps n e rest after.step);
  }

abbrev go_on : ℕ → Read Named → Read Named
go_on n r = r >>= λ x. steps n x.0 x.1

abbrev with_field : Named → Read Bytes → Read Named
with_field e r = r >>= λ f. Some (field_of e f.0, f.1)

abbrev with_included : Named → Read (List Bytes) → Read Named
with_included e r = r >>= λ fs. Some (included e fs.0, fs.1)

abbrev with_excluded : Named → Read (List Bytes) → Read Named
with_excluded e r = r >>= λ fs. Some (excluded e fs.0, fs.1)

field_step : (e : Named) {ns : List Token} {f : Bytes} → IsName ns f → (rest : List Token) (n : ℕ) → steps (suc n) e (Mark signs.Dot ∷ (ns ++ rest)) ≡ steps n (field_of e f) rest
unfolding steps step_at
field_step e d rest n = ap (λ r. go_on n (with_field e r)) (name_complete d rest)

include_step : (e : Named) {ns : List Token} {fs : List Bytes} → AreNames ns fs → length ns < 4096 → (rest : List Token) (n : ℕ)
    → steps (suc n) e (Mark signs.CurlyOpen ∷ ((ns ++ Mark signs.CurlyClose ∷ []) ++ rest)) ≡ steps n (included e fs) rest
unfolding steps step_at
include_step e {ns} {fs} d le rest n =
    ap (λ (z : List Token). go_on n (with_included e (names_at z))) (append_assoc ns (Mark signs.CurlyClose ∷ []) rest) ∙ ap (λ r. go_on n (with_included e r)) (names_complete d le rest)

exclude_step : (e : Named) {ns : List Token} {fs : List Bytes} → AreNames ns fs → length ns < 4096 → (rest : List Token) (n : ℕ)
    → steps (suc n) e (Mark signs.Tilde ∷ Mark signs.CurlyOpen ∷ ((ns ++ Mark signs.CurlyClose ∷ []) ++ rest)) ≡ steps n (excluded e fs) rest
unfolding steps step_at after
exclude_step e {ns} {fs} d le rest n =
    ap (λ (z : List Token). go_on n (with_excluded e (names_at z))) (append_assoc ns (Mark signs.CurlyClose ∷ []) rest) ∙ ap (λ r. go_on n (with_excluded e r)) (names_complete d le rest)

-- ---- lists of arguments

queries_ending : Ending Ends signs.RoundClose
queries_ending = record { comma = ends-comma; end = ends-round; closes = closes_round }

-- the first token of arguments closes no list
record Unclosed (ts : List Token) : Type 0 where
  unclosed : (rest : List Token) → after signs.RoundClose (ts ++ rest) ≡ None

unclosed_before : (ts us : List Token) → Unclosed ts → Unclosed (ts ++ us)
unclosed_before ts us k = record { unclosed = λ rest. ap (after signs.RoundClose) (append_assoc ts us rest) ∙ k.unclosed (us ++ rest) }

name_unclosed : {ns : List Token} {f : Bytes} → IsName ns f → Unclosed ns
name_unclosed d = record { unclosed = λ rest. name_no_sign d signs.RoundClose rest }

-- parts up to a closing bracket
abbrev PartsRead : {A : Type 0} → (List Token → Read A) → List Token → List A → Type 0
PartsRead part ts [] = ts ≡ []
PartsRead part ts (x ∷ xs) = PartsFrom (ReadsPart part Ends) ts x xs × Unclosed ts

bracketed : {A S : Type 0} (part : List Token → Read A) (add : S → A → S) (none : S) (ts : List Token) (xs : List A) → PartsRead part ts xs → length ts < 4096
    → (rest : List Token) → parts part add none signs.RoundClose (ts ++ Mark signs.RoundClose ∷ rest) ≡ Some (gathered add none xs, rest)
bracketed part add none ts [] k le rest = none_read part Ends add signs.RoundClose queries_ending none ts rest k
bracketed part add none ts (x ∷ xs) k le rest =
    some_read part Ends add signs.RoundClose queries_ending none x xs ts rest k.0 (record { unclosed = k.1.unclosed }) le

-- ---- atoms

module _ (read : List Token → Read Named) where
  bracket_read : (ts : List Token) (e : Named) → ReadsPart read Ends ts e → (rest : List Token) → atom_with read (Mark signs.RoundOpen ∷ ((ts ++ Mark signs.RoundClose ∷ []) ++ rest)) ≡ Some (e, rest)
  unfolding after
  bracket_read ts e k rest =
      ap (λ (z : List Token). read z >>= closed signs.RoundClose) (append_assoc ts (Mark signs.RoundClose ∷ []) rest)
      ∙ ap (λ r. r >>= closed signs.RoundClose) (k.reads (Mark signs.RoundClose ∷ rest) (ends-round rest))

  name_read : {ts : List Token} {f : Bytes} → IsName ts f → (rest : List Token) → atom_with read (ts ++ rest) ≡ Some (Some (column f), rest)
  name_read (word_name f) rest = refl
  name_read (quoted_name f) rest = refl

  called_read : (w : Keyword) (ts : List Token) (es : List Named) (e : Named) → PartsRead read ts es → length ts < 4096 → call_of w (gathered and_argument (0, Some []) es) ≡ Some e
      → (rest : List Token) → plain_call read w (Mark signs.RoundOpen ∷ ((ts ++ Mark signs.RoundClose ∷ []) ++ rest)) ≡ Some (e, rest)
  unfolding plain_call after
  called_read w ts es e k le is rest =
      ap (λ (z : List Token). arguments_with read z >>= λ xs. call_of w xs.0 >>= λ d. Some (d, xs.1)) (append_assoc ts (Mark signs.RoundClose ∷ []) rest)
      ∙ (ap (λ r. r >>= λ xs. call_of w xs.0 >>= λ d. Some (d, xs.1)) (bracketed read and_argument (0, Some []) ts es k le rest)
      ∙ ap (λ r. r >>= λ (d : Named). Some (d, rest)) is)

  pack_read : (n : Nullability) (ts : List Token) (es : List (Option (Bytes × Tree))) → PartsRead (named read) ts es → length ts < 4096
      → (rest : List Token) → pack_call read n (Mark signs.RoundOpen ∷ ((ts ++ Mark signs.RoundClose ∷ []) ++ rest)) ≡ Some (pack_of n (gathered and_one (Some []) es), rest)
  unfolding pack_call after
  pack_read n ts es k le rest =
      ap (λ (z : List Token). all_named_with read z >>= λ xs. Some (pack_of n xs.0, xs.1)) (append_assoc ts (Mark signs.RoundClose ∷ []) rest)
      ∙ ap (λ r. r >>= λ xs. Some (pack_of n xs.0, xs.1)) (bracketed (named read) and_one (Some []) ts es k le rest)

  cast_read : (ts us : List Token) (e : Named) (t : Ty) → ReadsPart read Ends ts e → IsType us t → length us ≤ 4096
      → (rest : List Token) → cast_call read (Mark signs.RoundOpen ∷ ((ts ++ Mark signs.Comma ∷ (us ++ Mark signs.RoundClose ∷ [])) ++ rest)) ≡ Some (option_map (λ x. cast x t) e, rest)
  unfolding cast_call after
  cast_read ts us e t k d le rest =
      ap (λ (z : List Token). read z >>= λ x. after signs.Comma x.1 >>= λ more. type_front more >>= λ u. closed signs.RoundClose (option_map (λ y. cast y u.0) x.0, u.1))
      (append_assoc ts (Mark signs.Comma ∷ (us ++ Mark signs.RoundClose ∷ [])) rest)
      ∙ (ap (λ r. r >>= λ x. after signs.Comma x.1 >>= λ more. type_front more >>= λ u. closed signs.RoundClose (option_map (λ y. cast y u.0) x.0, u.1))
      (k.reads (Mark signs.Comma ∷ ((us ++ Mark signs.RoundClose ∷ []) ++ rest)) (ends-comma _))
      ∙ (ap (λ (z : List Token). type_front z >>= λ u. closed signs.RoundClose (option_map (λ y. cast y u.0) e, u.1)) (append_assoc us (Mark signs.RoundClose ∷ []) rest)
      ∙ ap (λ r. r >>= λ u. closed signs.RoundClose (option_map (λ y. cast y u.0) e, u.1)) (type_front_complete d le (Mark signs.RoundClose ∷ rest) (round_follows rest))))

  -- a keyword whose calls have plain arguments
  word_call : (w : Keyword) (es : Arguments) (e : Named) (tokens : List Token) → call_of w es ≡ Some e → word_atom read w tokens ≡ plain_call read w tokens
  word_call words.True es e tokens is = absurd cc
  word_call words.False es e tokens is = absurd cc
  word_call words.Lit es e tokens is = absurd cc
  word_call words.Cast es e tokens is = absurd cc
  word_call words.Pack es e tokens is = absurd cc
  word_call words.PackNull es e tokens is = absurd cc
  word_call w es e tokens is = refl

  named_reads : (ns ts : List Token) (f : Bytes) (e : Named) → IsName ns f → ReadsPart read Ends ts e → ReadsPart (named read) Ends (ns ++ Mark signs.Colon ∷ ts) (with_name f e)
  named_reads ns ts f e d k = record {
    reads = λ rest ends.
        ap (λ r. r >>= λ x. Some (with_name x.0.0 x.0.1, x.1)) ((labelled_complete read Ends ns ts f e d k).reads rest ends);
  }

lit_read : (ts us : List Token) (t : Ty) (x : Option Raw) → IsType ts t → IsItem us x → length ts ≤ 4096 → length us ≤ 4096
    → (rest : List Token) → lit_behind (Mark signs.RoundOpen ∷ ((ts ++ Mark signs.Comma ∷ (us ++ Mark signs.RoundClose ∷ [])) ++ rest)) ≡ Some (constant_of t x, rest)
unfolding lit_behind after
lit_read ts us t x d i lt lu rest =
    ap (λ (z : List Token). type_front z >>= λ u. after signs.Comma u.1 >>= λ more. item_front more >>= λ y. closed signs.RoundClose (constant_of u.0 y.0, y.1))
    (append_assoc ts (Mark signs.Comma ∷ (us ++ Mark signs.RoundClose ∷ [])) rest)
    ∙ (ap (λ r. r >>= λ u. after signs.Comma u.1 >>= λ more. item_front more >>= λ y. closed signs.RoundClose (constant_of u.0 y.0, y.1))
    (type_front_complete d lt (Mark signs.Comma ∷ ((us ++ Mark signs.RoundClose ∷ []) ++ rest)) (comma_follows _))
    ∙ (ap (λ (z : List Token). item_front z >>= λ y. closed signs.RoundClose (constant_of t y.0, y.1)) (append_assoc us (Mark signs.RoundClose ∷ []) rest)
    ∙ ap (λ r. r >>= λ y. closed signs.RoundClose (constant_of t y.0, y.1)) (item_front_complete i lu (Mark signs.RoundClose ∷ rest))))

-- ---- levels

sum_whole : (read : List Token → Read Named) (ts : List Token) (e : Named) → ChainReads levels.Sum (post_with read) AfterPost ts e → length ts ≤ 4096 → (rest : List Token) → step_at rest ≡ None
    → operator_at levels.Sum rest ≡ None → sum_with read (ts ++ rest) ≡ Some (e, rest)
sum_whole read ts e k le rest step none = chain_whole levels.Sum (post_with read) AfterPost ts e k le rest (record { step = step }) none

-- a comparison, and its first token
record Compares (read : List Token → Read Named) (ts : List Token) (e : Named) : Type 0 where
  part : ReadsPart (compare_with read) AfterNot ts e
  starts : Starts ts

compare_one : (read : List Token → Read Named) (ts : List Token) (e : Named) → ChainReads levels.Sum (post_with read) AfterPost ts e → length ts ≤ 4096 → Starts ts → Compares read ts e
compare_one read ts e k le starts = record {
  part = record {
    reads = λ rest after.
        ap (λ r. r >>= λ l. compared (sum_with read) l.0 l.1 (operator_at levels.Comparison l.1)) (sum_whole read ts e k le rest after.step after.sum)
        ∙ ap (compared (sum_with read) e rest) after.comparison;
  };
  starts = starts;
}

compare_two : (read : List Token → Read Named) (ls rs : List Token) (t : Token) (op : Operator) (l r : Named) → ChainReads levels.Sum (post_with read) AfterPost ls l → ChainReads levels.Sum (post_with read) AfterPost rs r
    → length (ls ++ t ∷ rs) ≤ 4096 → Starts ls → IsOperator levels.Comparison t op → Compares read (ls ++ t ∷ rs) (binary_of l op r)
compare_two read ls rs t op l r kl kr le starts is = record {
  part = record {
    reads = λ rest after.
        let all = length-append ls (t ∷ rs) in
        let others = rs ++ rest in
        ap (compare_with read) (append_assoc ls (t ∷ rs) rest)
        ∙ (ap (λ r. r >>= λ x. compared (sum_with read) x.0 x.1 (operator_at levels.Comparison x.1))
        (sum_whole read ls l kl (omega (arith, all)) (t ∷ others) (no_step t op others is.named) (operator_there levels.Comparison levels.Sum t op others is))
        ∙ (ap (compared (sum_with read) l (t ∷ others)) (operator_there levels.Comparison levels.Comparison t op others is)
        ∙ ap (λ r. r >>= λ x. Some (binary_of l op x.0, x.1)) (sum_whole read rs r kr (omega (arith, all)) rest after.step after.sum)));
  };
  starts = starts_before ls (t ∷ rs) starts;
}

negated_suc : (n : ℕ) (e : Named) → negated (suc n) e ≡ option_map not_of (negated n e)
unfolding negated
negated_suc zero e = refl
negated_suc (suc n) e = negated_suc n (option_map not_of e)

-- so many `not` and a comparison, and that the first token closes nothing
record Negates (read : List Token → Read Named) (ts : List Token) (e : Named) : Type 0 where
  part : ReadsPart (not_with read) AfterNot ts e
  unclosed : Unclosed ts

abbrev behind_nots : (List Token → Read Named) → ℕ × List Token → Read Named
behind_nots read n = compare_with read n.1 >>= λ e. Some (negated n.0 e.0, e.1)

not_one : (read : List Token → Read Named) (ts : List Token) (e : Named) → Compares read ts e → Negates read ts e
unfolding negated
not_one read ts e k = record {
  part = record {
    reads = λ rest after.
        ap (behind_nots read) (k.starts.plain rest) ∙ ap (λ r. r >>= λ y. Some (negated 0 y.0, y.1)) (k.part.reads rest after);
  };
  unclosed = record { unclosed = k.starts.unclosed };
}

abbrev negating : ℕ → Read Named → Read Named
negating n r = r >>= λ y. Some (negated n y.0, y.1)

more_nots : (read : List Token → Read Named) (n : ℕ × List Token) (e : Named) (rest : List Token) → behind_nots read n ≡ Some (e, rest) → behind_nots read (one_more n) ≡ Some (option_map not_of e, rest)
more_nots read n e rest h = go (compare_with read n.1) h
  where
    go : (r : Read Named) → negating n.0 r ≡ Some (e, rest) → negating (1 + n.0) r ≡ Some (option_map not_of e, rest)
    go None h = absurd cc
    go (Some y) h =
        let pair : ◌≡◌ {A = Named × List Token} (negated n.0 y.0, y.1) (e, rest) = cc in
        let k : 1 + n.0 ≡ suc n.0 = omega arith in
        ap (λ m. Some (negated m y.0, y.1)) k ∙ (ap (λ (z : Named). Some (z, y.1)) (negated_suc n.0 y.0) ∙ ap (λ (z : Named × List Token). Some (option_map not_of z.0, z.1)) pair)

not_more : (read : List Token → Read Named) (ts : List Token) (e : Named) → Negates read ts e → Negates read (Reserved words.Not ∷ ts) (option_map not_of e)
unfolding nots_at after
not_more read ts e k = record {
  part = record { reads = λ rest after. more_nots read (nots_at (ts ++ rest)) e rest (k.part.reads rest after) };
  unclosed = record { unclosed = λ rest. refl };
}

-- chains of these, and their first tokens
record Conjoins (read : List Token → Read Named) (ts : List Token) (e : Named) : Type 0 where
  chain : ChainReads levels.Conjunction (not_with read) AfterNot ts e
  unclosed : Unclosed ts

record Disjoins (read : List Token → Read Named) (ts : List Token) (e : Named) : Type 0 where
  chain : ChainReads levels.Disjunction (and_with read) AfterAnd ts e
  unclosed : Unclosed ts

and_part : (read : List Token → Read Named) (ts : List Token) (e : Named) → Conjoins read ts e → length ts ≤ 4096 → ReadsPart (and_with read) AfterAnd ts e
and_part read ts e k le = record {
  reads = λ rest after.
      chain_whole levels.Conjunction (not_with read) AfterNot ts e k.chain le rest (record { step = after.step; sum = after.sum; comparison = after.comparison }) after.conjunction;
}

or_part : (read : List Token → Read Named) (ts : List Token) (e : Named) → Disjoins read ts e → length ts ≤ 4096 → ReadsPart (or_with read) Ends ts e
or_part read ts e k le = record {
  reads = λ rest ends.
      chain_whole levels.Disjunction (and_with read) AfterAnd ts e k.chain le rest (record { step = ends.step; sum = ends.sum; comparison = ends.comparison; conjunction = ends.conjunction }) ends.disjunction;
}

-- ---- derivations

record Sums (read : List Token → Read Named) (ts : List Token) (e : Named) : Type 0 where
  chain : ChainReads levels.Sum (post_with read) AfterPost ts e
  starts : Starts ts

record PostReads (read : List Token → Read Named) (ts : List Token) (e : Named) : Type 0 where
  steps_read : StepsRead read ts e
  starts : Starts ts

record AtomReads (read : List Token → Read Named) (ts : List Token) (e : Named) : Type 0 where
  atom : (rest : List Token) → atom_with read (ts ++ rest) ≡ Some (e, rest)
  starts : Starts ts

mark_starts : (s : Sign) (us : List Token) → ((rest : List Token) → after signs.RoundClose (Mark s ∷ rest) ≡ None) → Starts (Mark s ∷ us)
unfolding nots_at
mark_starts s us h = record { unclosed = λ rest. h (us ++ rest); plain = λ rest. refl }

open_starts : (us : List Token) → Starts (Mark signs.RoundOpen ∷ us)
unfolding after
open_starts us = mark_starts signs.RoundOpen us (λ rest. refl)

dollar_starts : (us : List Token) → Starts (Mark signs.Dollar ∷ us)
unfolding after
dollar_starts us = mark_starts signs.Dollar us (λ rest. refl)

minus_starts : (us : List Token) → Starts (Mark signs.Minus ∷ us)
unfolding after
minus_starts us = mark_starts signs.Minus us (λ rest. refl)

name_starts : {ts : List Token} {f : Bytes} → IsName ts f → Starts ts
unfolding after nots_at
name_starts (word_name f) = record { unclosed = λ rest. refl; plain = λ rest. refl }
name_starts (quoted_name f) = record { unclosed = λ rest. refl; plain = λ rest. refl }

number_starts : (digits : Bytes) (p : Option PType) (us : List Token) → Starts (Number digits p ∷ us)
unfolding after nots_at
number_starts digits p us = record { unclosed = λ rest. refl; plain = λ rest. refl }

text_starts : (s : Bytes) (us : List Token) → Starts (Quote s ∷ us)
unfolding after nots_at
text_starts s us = record { unclosed = λ rest. refl; plain = λ rest. refl }

word_starts : (w : Keyword) (us : List Token) → (w ≡ words.Not → ⊥) → Starts (Reserved w ∷ us)
unfolding after nots_at
word_starts words.Not us other = absurd (other refl)
word_starts w us other = record { unclosed = λ rest. refl; plain = λ rest. refl }

call_starts : (w : Keyword) (es : Arguments) (e : Named) (us : List Token) → call_of w es ≡ Some e → Starts (Reserved w ∷ us)
unfolding after nots_at
call_starts words.Not es e us is = absurd cc
call_starts w es e us is = record { unclosed = λ rest. refl; plain = λ rest. refl }

-- how an expression is read, wherever there is room for queries one in another
abbrev OrWithin : List Token → Named → Type 0
OrWithin ts e = (deep : ℕ) → length ts ≤ suc deep → deep < 4096 → Disjoins (query_at deep) ts e

query_part : (ts : List Token) (e : Named) → OrWithin ts e → (deep : ℕ) → length ts < deep → deep ≤ 4096 → ReadsPart (query_at deep) Ends ts e
unfolding query_at
query_part ts e k zero lt most = absurd (omega arith)
query_part ts e k (suc deep) lt most = or_part (query_at deep) ts e (k deep (omega arith) (omega arith)) (omega arith)

or_unclosed : (ts : List Token) (e : Named) → OrWithin ts e → length ts ≤ 4096 → Unclosed ts
or_unclosed ts e k le = (k 4095 le (omega arith)).unclosed

bracket_length : (t : Token) (ts : List Token) → length (t ∷ (ts ++ Mark signs.RoundClose ∷ [])) ≡ 2 + length ts
bracket_length t ts = omega (arith, length-append ts (Mark signs.RoundClose ∷ []))

call_length : (w : Keyword) (ts : List Token) → length (Reserved w ∷ Mark signs.RoundOpen ∷ (ts ++ Mark signs.RoundClose ∷ [])) ≡ 3 + length ts
call_length w ts = omega (arith, length-append ts (Mark signs.RoundClose ∷ []))

two_length : (w : Keyword) (ts us : List Token) → length (Reserved w ∷ Mark signs.RoundOpen ∷ (ts ++ Mark signs.Comma ∷ (us ++ Mark signs.RoundClose ∷ []))) ≡ 4 + (length ts + length us)
two_length w ts us = omega (arith, length-append ts (Mark signs.Comma ∷ (us ++ Mark signs.RoundClose ∷ [])), length-append us (Mark signs.RoundClose ∷ []))

mutual
  reads_or : {ts : List Token} {e : Named} → IsOr ts e → (deep : ℕ) → length ts ≤ suc deep → deep < 4096 → Disjoins (query_at deep) ts e
  reads_or (one_or ts e d) deep le most =
      let k = reads_and d deep le most in
      record { chain = chain_one levels.Disjunction (and_with (query_at deep)) AfterAnd ts e (and_part (query_at deep) ts e k (omega arith)); unclosed = k.unclosed }
  reads_or (more_or ls rs t op l r dl is dr) deep le most =
      let all = length-append ls (t ∷ rs) in
      let kl = reads_or dl deep (omega (arith, all)) most in
      let kr = reads_and dr deep (omega (arith, all)) most in
      record {
        chain = chain_more levels.Disjunction (and_with (query_at deep)) AfterAnd ls rs t op l r kl.chain (after_and is)
            (λ rest. operator_there levels.Disjunction levels.Disjunction t op rest is) (and_part (query_at deep) rs r kr (omega (arith, all)));
        unclosed = unclosed_before ls (t ∷ rs) kl.unclosed;
      }

  reads_and : {ts : List Token} {e : Named} → IsAnd ts e → (deep : ℕ) → length ts ≤ suc deep → deep < 4096 → Conjoins (query_at deep) ts e
  reads_and (one_and ts e d) deep le most =
      let k = reads_not d deep le most in
      record { chain = chain_one levels.Conjunction (not_with (query_at deep)) AfterNot ts e k.part; unclosed = k.unclosed }
  reads_and (more_and ls rs t op l r dl is dr) deep le most =
      let all = length-append ls (t ∷ rs) in
      let kl = reads_and dl deep (omega (arith, all)) most in
      let kr = reads_not dr deep (omega (arith, all)) most in
      record {
        chain = chain_more levels.Conjunction (not_with (query_at deep)) AfterNot ls rs t op l r kl.chain (after_not is)
            (λ rest. operator_there levels.Conjunction levels.Conjunction t op rest is) kr.part;
        unclosed = unclosed_before ls (t ∷ rs) kl.unclosed;
      }

  reads_not : {ts : List Token} {e : Named} → IsNot ts e → (deep : ℕ) → length ts ≤ suc deep → deep < 4096 → Negates (query_at deep) ts e
  reads_not (one_not ts e d) deep le most = not_one (query_at deep) ts e (reads_compare d deep le most)
  reads_not (more_not ts e d) deep le most = not_more (query_at deep) ts e (reads_not d deep (omega arith) most)

  reads_compare : {ts : List Token} {e : Named} → IsCompare ts e → (deep : ℕ) → length ts ≤ suc deep → deep < 4096 → Compares (query_at deep) ts e
  reads_compare (one_compare ts e d) deep le most =
      let k = reads_sum d deep le most in
      compare_one (query_at deep) ts e k.chain (omega arith) k.starts
  reads_compare (two_compare ls rs t op l r dl is dr) deep le most =
      let all = length-append ls (t ∷ rs) in
      let kl = reads_sum dl deep (omega (arith, all)) most in
      let kr = reads_sum dr deep (omega (arith, all)) most in
      compare_two (query_at deep) ls rs t op l r kl.chain kr.chain (omega arith) kl.starts is

  reads_sum : {ts : List Token} {e : Named} → IsSum ts e → (deep : ℕ) → length ts ≤ suc deep → deep < 4096 → Sums (query_at deep) ts e
  reads_sum (one_sum ts e d) deep le most =
      let k = reads_post d deep le most in
      record { chain = chain_one levels.Sum (post_with (query_at deep)) AfterPost ts e (post_reads (query_at deep) ts e k.steps_read (omega arith)); starts = k.starts }
  reads_sum (more_sum ls rs t op l r dl is dr) deep le most =
      let all = length-append ls (t ∷ rs) in
      let kl = reads_sum dl deep (omega (arith, all)) most in
      let kr = reads_post dr deep (omega (arith, all)) most in
      record {
        chain = chain_more levels.Sum (post_with (query_at deep)) AfterPost ls rs t op l r kl.chain (after_post is)
            (λ rest. operator_there levels.Sum levels.Sum t op rest is) (post_reads (query_at deep) rs r kr.steps_read (omega (arith, all)));
        starts = starts_before ls (t ∷ rs) kl.starts;
      }

  reads_post : {ts : List Token} {e : Named} → IsPost ts e → (deep : ℕ) → length ts ≤ suc deep → deep < 4096 → PostReads (query_at deep) ts e
  reads_post (one_post ts e d) deep le most =
      let k = reads_atom d deep le most in
      record { steps_read = steps_one (query_at deep) ts e k.atom; starts = k.starts }
  reads_post (field_post ts ns e f d name) deep le most =
      let us = Mark signs.Dot ∷ ns in
      let k = reads_post d deep (omega (arith, length-append ts us)) most in
      record { steps_read = steps_more (query_at deep) ts us e (field_of e f) k.steps_read (λ rest n. field_step e name rest n) (omega arith); starts = starts_before ts us k.starts }
  reads_post (include_post ts ns e fs d names) deep le most =
      let us = Mark signs.CurlyOpen ∷ (ns ++ Mark signs.CurlyClose ∷ []) in
      let all = length-append ts us in
      let small : length ns < 4096 = omega (arith, all, length-append ns (Mark signs.CurlyClose ∷ [])) in
      let k = reads_post d deep (omega (arith, all)) most in
      record { steps_read = steps_more (query_at deep) ts us e (included e fs) k.steps_read (λ rest n. include_step e names small rest n) (omega arith); starts = starts_before ts us k.starts }
  reads_post (exclude_post ts ns e fs d names) deep le most =
      let us = Mark signs.Tilde ∷ Mark signs.CurlyOpen ∷ (ns ++ Mark signs.CurlyClose ∷ []) in
      let all = length-append ts us in
      let small : length ns < 4096 = omega (arith, all, length-append ns (Mark signs.CurlyClose ∷ [])) in
      let k = reads_post d deep (omega (arith, all)) most in
      record { steps_read = steps_more (query_at deep) ts us e (excluded e fs) k.steps_read (λ rest n. exclude_step e names small rest n) (omega arith); starts = starts_before ts us k.starts }

  reads_atom : {ts : List Token} {e : Named} → IsAtom ts e → (deep : ℕ) → length ts ≤ suc deep → deep < 4096 → AtomReads (query_at deep) ts e
  reads_atom (bracket_atom ts e d) deep le most =
      let all = bracket_length (Mark signs.RoundOpen) ts in
      record {
        atom = bracket_read (query_at deep) ts e (query_part ts e (λ n b m. reads_or d n b m) deep (omega arith) (omega arith));
        starts = open_starts (ts ++ Mark signs.RoundClose ∷ []);
      }
  reads_atom row_atom deep le most = record { atom = λ rest. refl; starts = dollar_starts [] }
  reads_atom (name_atom ts f name) deep le most = record { atom = λ rest. name_read (query_at deep) name rest; starts = name_starts name }
  reads_atom (number_atom digits p) deep le most = record { atom = λ rest. refl; starts = number_starts digits p [] }
  reads_atom (minus_atom digits p) deep le most = record { atom = λ rest. refl; starts = minus_starts (Number digits p ∷ []) }
  reads_atom (text_atom s) deep le most = record { atom = λ rest. refl; starts = text_starts s [] }
  reads_atom true_atom deep le most = record { atom = λ rest. refl; starts = word_starts words.True [] (λ same. cc) }
  reads_atom false_atom deep le most = record { atom = λ rest. refl; starts = word_starts words.False [] (λ same. cc) }
  reads_atom (lit_atom ts us t x d i) deep le most =
      let all = two_length words.Lit ts us in
      record { atom = lit_read ts us t x d i (omega arith) (omega arith); starts = word_starts words.Lit _ (λ same. cc) }
  reads_atom (cast_atom ts us e t d u) deep le most =
      let all = two_length words.Cast ts us in
      record {
        atom = cast_read (query_at deep) ts us e t (query_part ts e (λ n b m. reads_or d n b m) deep (omega arith) (omega arith)) u (omega arith);
        starts = word_starts words.Cast _ (λ same. cc);
      }
  reads_atom (pack_atom ts es d) deep le most =
      let all = call_length words.Pack ts in
      record {
        atom = pack_read (query_at deep) NonNullable ts es (reads_named d deep (omega arith) (omega arith)) (omega arith);
        starts = word_starts words.Pack _ (λ same. cc);
      }
  reads_atom (pack_null_atom ts es d) deep le most =
      let all = call_length words.PackNull ts in
      record {
        atom = pack_read (query_at deep) Nullable ts es (reads_named d deep (omega arith) (omega arith)) (omega arith);
        starts = word_starts words.PackNull _ (λ same. cc);
      }
  reads_atom (call_atom w ts es e d is) deep le most =
      let all = call_length w ts in
      record {
        atom = λ rest. word_call (query_at deep) w _ e _ is ∙ called_read (query_at deep) w ts es e (reads_queries d deep (omega arith) (omega arith)) (omega arith) is rest;
        starts = call_starts w _ e _ is;
      }

  reads_queries : {ts : List Token} {es : List Named} → AreQueries ts es → (deep : ℕ) → length ts < deep → deep ≤ 4096 → PartsRead (query_at deep) ts es
  reads_queries no_queries deep lt most = refl
  reads_queries (one_query ts e d) deep lt most =
      (query_part ts e (λ n b m. reads_or d n b m) deep lt most, or_unclosed ts e (λ n b m. reads_or d n b m) (omega arith))
  reads_queries (more_queries ts us e g es d ds) deep lt most =
      let all = length-append ts (Mark signs.Comma ∷ us) in
      let below = reads_queries ds deep (omega (arith, all)) most in (
        (ts, us, refl, query_part ts e (λ n b m. reads_or d n b m) deep (omega (arith, all)) most, below.0),
        unclosed_before ts (Mark signs.Comma ∷ us) (or_unclosed ts e (λ n b m. reads_or d n b m) (omega (arith, all))),
      )

  reads_named : {ts : List Token} {es : List (Option (Bytes × Tree))} → AreNamed ts es → (deep : ℕ) → length ts < deep → deep ≤ 4096 → PartsRead (named (query_at deep)) ts es
  reads_named no_named deep lt most = refl
  reads_named (one_named ns ts f e name d) deep lt most =
      let all = length-append ns (Mark signs.Colon ∷ ts) in (
        named_reads (query_at deep) ns ts f e name (query_part ts e (λ n b m. reads_or d n b m) deep (omega (arith, all)) most),
        unclosed_before ns (Mark signs.Colon ∷ ts) (name_unclosed name),
      )
  reads_named (more_named ns ts us f e g es name d ds) deep lt most =
      let all = length-append (ns ++ Mark signs.Colon ∷ ts) (Mark signs.Comma ∷ us) in
      let own = length-append ns (Mark signs.Colon ∷ ts) in
      let below = reads_named ds deep (omega (arith, all)) most in (
        (ns ++ Mark signs.Colon ∷ ts, us, refl, named_reads (query_at deep) ns ts f e name (query_part ts e (λ n b m. reads_or d n b m) deep (omega (arith, all, own)) most), below.0),
        unclosed_before (ns ++ Mark signs.Colon ∷ ts) (Mark signs.Comma ∷ us) (unclosed_before ns (Mark signs.Colon ∷ ts) (name_unclosed name)),
      )

pub query_is_read : QueryIsRead
unfolding query_of query_at
query_is_read tokens e le d =
    let k = or_part (query_at 4095) tokens e (reads_or d 4095 le (omega arith)) le in
    ap (λ (z : List Token). query_at most_tokens z >>= whole) (sym (append-nil tokens)) ∙ ap (λ r. r >>= whole) (k.reads [] ends-nil)
