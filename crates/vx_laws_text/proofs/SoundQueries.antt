-- What is read as a query is one by the productions of the grammar.
use Rattle.std.proofs.Common.{◌≡◌, ℕ, zero, suc, ◌+◌, Bool, true, false, List, [], ◌∷◌, ◌++◌, refl, sym, ap, subst, ◌∙◌, append_assoc, append-nil, Option, Some, None, arith}
use Rattle.std.specs.Prelude.{option_map, if◌then◌else◌, ◌==◌}
use Rattle.vx_dtype.specs.declared.Nullability.{Nullability}
use Rattle.vx_dtype.specs.declared.Nullability.TheVariants.{NonNullable, Nullable}
use Rattle.vx_dtype.specs.Types.{Bytes}
use Rattle.vx_expr.specs.declared.operators.Operator.{Operator}
use Rattle.vx_expr.specs.Trees.{Tree, not_of, cast}
use Rattle.vx_tokens.specs.declared.tokens.Keyword.{Keyword}
use Rattle.vx_tokens.specs.declared.tokens.Keyword.TheVariants as words
use Rattle.vx_tokens.specs.declared.tokens.Sign.TheVariants as signs
use Rattle.vx_tokens.specs.declared.tokens.Token.{Token}
use Rattle.vx_tokens.specs.declared.tokens.Token.TheVariants.{Reserved, Word, Quoted, Quote, Number, Mark}
use Rattle.vx_text.specs.declared.operators.Level.{Level}
use Rattle.vx_text.specs.declared.operators.Level.TheVariants as levels
use Rattle.vx_text.specs.declared.steps.Step.{Step}
use Rattle.vx_tokens.specs.Tokens.{◌>>=◌, is_not}
use Rattle.vx_text.specs.NamedExpressions.{Named, binary_of, negated, constant_of, and_one, and_argument, call_of, with_name, pack_of}
use Rattle.vx_text.specs.Grammar.{Read, after, closed, most_tokens, name_at, names_at, labelled, type_front, item_front, lit_behind, token_operator, operator_within, level_of, level_number, operator_at, next_operand, chain, chained, field_of, included, excluded, step_at, step_with, next_step, steps, negative_number, arguments_with, plain_call, named, all_named_with, pack_call, cast_call, word_atom, atom_with, post_with, sum_with, compared, compare_with, nots_at, one_more, column, not_with, and_with, or_with, query_at, whole, query_of}
use Rattle.vx_laws_text.specs.Productions.{gathered, IsName, word_name, quoted_name, IsOperator, IsOr, one_or, more_or, IsAnd, one_and, more_and, IsNot, one_not, more_not, IsCompare, one_compare, two_compare, IsSum, one_sum, more_sum, IsPost, one_post, field_post, include_post, exclude_post, IsAtom, bracket_atom, row_atom, name_atom, number_atom, minus_atom, text_atom, true_atom, false_atom, lit_atom, cast_atom, pack_atom, pack_null_atom, call_atom, AreQueries, no_queries, one_query, more_queries, AreNamed, no_named, one_named, more_named, ReadIsQuery}
use Rattle.vx_laws_text.proofs.Sound.{Front, Sound, bound, equal, after_is, closed_is, PartsFrom, parts_sound, names_sound_one, names_sound, IsLabelled, labelled_sound}
use Rattle.vx_laws_text.proofs.SoundParts.{at_front, with_end, type_front_sound, item_front_sound}

-- ---- operators

level_at : ℕ → Level
level_at n = if n == 0 then levels.Disjunction else (if n == 1 then levels.Conjunction else (if n == 2 then levels.Comparison else levels.Sum))

level_at-number : (l : Level) → level_at (level_number l) ≡ l
unfolding level_at
level_at-number levels.Disjunction = refl
level_at-number levels.Conjunction = refl
level_at-number levels.Comparison = refl
level_at-number levels.Sum = refl

level_is : (l m : Level) → (level_number l == level_number m) ≡ true → l ≡ m
level_is l m e = sym (level_at-number l) ∙ (ap level_at (equal (level_number l) (level_number m) e) ∙ level_at-number m)

-- an operator at the front
record Operates (level : Level) (tokens : List Token) (op : Operator × List Token) : Type 0 where
  token : Token
  split : tokens ≡ token ∷ op.1
  is : IsOperator level token op.0

operator_is : (level : Level) (tokens : List Token) (op : Operator × List Token) → operator_at level tokens ≡ Some op → Operates level tokens op
unfolding operator_at
operator_is level [] op e = absurd cc
operator_is level (t ∷ rest) op e = go (token_operator t) refl e
  where
    go : (o : Option Operator) → token_operator t ≡ o → operator_within level o rest ≡ Some op → Operates level (t ∷ rest) op
    go None is e = absurd cc
    go (Some made) is e = within (level_number (level_of made) == level_number level) refl e
      where
        within : (b : Bool) → (level_number (level_of made) == level_number level) ≡ b → ◌≡◌ {A = Read Operator} (if b then Some (made, rest) else None) (Some op) → Operates level (t ∷ rest) op
        within true same e =
            let pair : ◌≡◌ {A = Operator × List Token} (made, rest) op = cc in
            record {
              token = t;
              split = ap (λ (z : Operator × List Token). t ∷ z.1) pair;
              is = subst (λ (z : Operator × List Token). IsOperator level t z.0) pair (record { named = is; binds = level_is (level_of made) level same });
            }
        within false same e = absurd cc

-- tokens, an operator, and what stands behind it
behind_operator : (ls tokens rs rest others : List Token) (t : Token) → tokens ≡ t ∷ rest → rest ≡ rs ++ others → ls ++ tokens ≡ (ls ++ t ∷ rs) ++ others
behind_operator ls tokens rs rest others t is split =
    ap (λ (z : List Token). ls ++ z) (is ∙ ap (λ (z : List Token). t ∷ z) split) ∙ sym (append_assoc ls (t ∷ rs) others)

module _ (level : Level) (operand : List Token → Read Named) (P Q : List Token → Named → Type 0) (k : Sound operand P)
    (one : (ts : List Token) (e : Named) → P ts e → Q ts e)
    (more : (ls rs : List Token) (t : Token) (op : Operator) (l r : Named) → Q ls l → IsOperator level t op → P rs r → Q (ls ++ t ∷ rs) (binary_of l op r)) where
  chain_sound : (n : ℕ) (ls : List Token) (left : Named) (tokens : List Token) (x : Named × List Token) → Q ls left → chain level operand n left tokens ≡ Some x → Front Q (ls ++ tokens) x
  unfolding chain
  chain_sound zero ls left tokens x q e = at_front Q (ls ++ tokens) ls tokens left x refl q e
  chain_sound (suc n) ls left tokens x q e = go (operator_at level tokens) refl (λ us u others d h. chain_sound n us u others x d h) e
    where
      go : (o : Read Operator) → operator_at level tokens ≡ o → ((us : List Token) (u : Named) (others : List Token) → Q us u → chain level operand n u others ≡ Some x → Front Q (us ++ others) x)
          → next_operand (chain level operand n) operand left tokens o ≡ Some x → Front Q (ls ++ tokens) x
      go None is next e = at_front Q (ls ++ tokens) ls tokens left x refl q e
      go (Some op) is next e =
          let o = operator_is level tokens op is in
          let b = bound (operand op.1) (λ r. chain level operand n (binary_of left op.0 r.0) r.1) x e in
          let f = k.sound op.1 b.x b.is in
          let made = more ls f.taken o.token op.0 left b.x.0 q o.is f.is in
          subst (λ (z : List Token). Front Q z x) (sym (behind_operator ls tokens f.taken op.1 b.x.1 o.token o.split f.split)) (next (ls ++ o.token ∷ f.taken) (binary_of left op.0 b.x.0) b.x.1 made b.gives)

  pub chained_sound : Sound (chained level operand) Q
  chained_sound = record {
    sound = λ tokens x e.
        let b = bound (operand tokens) (λ l. chain level operand most_tokens l.0 l.1) x e in
        let f = k.sound tokens b.x b.is in
        subst (λ (z : List Token). Front Q z x) (sym f.split) (chain_sound most_tokens f.taken b.x.0 b.x.1 x (one f.taken b.x.0 f.is) b.gives);
  }

-- ---- steps

step_front : (ls tokens rest taken others : List Token) → tokens ≡ rest → rest ≡ taken ++ others → ls ++ tokens ≡ (ls ++ taken) ++ others
step_front ls tokens rest taken others is split = ap (λ (z : List Token). ls ++ z) (is ∙ split) ∙ sym (append_assoc ls taken others)

field_step : (ls : List Token) (d : Named) (rest : List Token) (x : Named × List Token) → IsPost ls d → (name_at rest >>= λ f. Some (field_of d f.0, f.1)) ≡ Some x → Front IsPost (ls ++ Mark signs.Dot ∷ rest) x
field_step ls d rest x q e =
    let b = bound (name_at rest) (λ f. Some (field_of d f.0, f.1)) x e in
    let f = names_sound_one.sound rest b.x b.is in
    at_front IsPost (ls ++ Mark signs.Dot ∷ rest) (ls ++ Mark signs.Dot ∷ f.taken) b.x.1 (field_of d b.x.0) x
    (step_front ls (Mark signs.Dot ∷ rest) (Mark signs.Dot ∷ rest) (Mark signs.Dot ∷ f.taken) b.x.1 refl (ap (λ (z : List Token). Mark signs.Dot ∷ z) f.split))
    (field_post ls f.taken d b.x.0 q f.is) b.gives

include_step : (ls : List Token) (d : Named) (rest : List Token) (x : Named × List Token) → IsPost ls d → (names_at rest >>= λ fs. Some (included d fs.0, fs.1)) ≡ Some x → Front IsPost (ls ++ Mark signs.CurlyOpen ∷ rest) x
include_step ls d rest x q e =
    let b = bound (names_at rest) (λ fs. Some (included d fs.0, fs.1)) x e in
    let f = names_sound rest b.x b.is in
    at_front IsPost (ls ++ Mark signs.CurlyOpen ∷ rest) (ls ++ Mark signs.CurlyOpen ∷ (f.taken ++ Mark signs.CurlyClose ∷ [])) b.x.1 (included d b.x.0) x
    (step_front ls (Mark signs.CurlyOpen ∷ rest) (Mark signs.CurlyOpen ∷ rest) (Mark signs.CurlyOpen ∷ (f.taken ++ Mark signs.CurlyClose ∷ [])) b.x.1 refl
    (ap (λ (z : List Token). Mark signs.CurlyOpen ∷ z) (f.split ∙ with_end f.taken b.x.1 (Mark signs.CurlyClose))))
    (include_post ls f.taken d b.x.0 q f.are) b.gives

exclude_step : (ls : List Token) (d : Named) (rest : List Token) (x : Named × List Token) → IsPost ls d
    → (after signs.CurlyOpen rest >>= λ others. names_at others >>= λ fs. Some (excluded d fs.0, fs.1)) ≡ Some x → Front IsPost (ls ++ Mark signs.Tilde ∷ rest) x
exclude_step ls d rest x q e =
    let a = bound (after signs.CurlyOpen rest) (λ others. names_at others >>= λ fs. Some (excluded d fs.0, fs.1)) x e in
    let b = bound (names_at a.x) (λ fs. Some (excluded d fs.0, fs.1)) x a.gives in
    let f = names_sound a.x b.x b.is in
    at_front IsPost (ls ++ Mark signs.Tilde ∷ rest) (ls ++ Mark signs.Tilde ∷ Mark signs.CurlyOpen ∷ (f.taken ++ Mark signs.CurlyClose ∷ [])) b.x.1 (excluded d b.x.0) x
    (step_front ls (Mark signs.Tilde ∷ rest) (Mark signs.Tilde ∷ rest) (Mark signs.Tilde ∷ Mark signs.CurlyOpen ∷ (f.taken ++ Mark signs.CurlyClose ∷ [])) b.x.1 refl
    (ap (λ (z : List Token). Mark signs.Tilde ∷ z) (after_is signs.CurlyOpen rest a.x a.is ∙ ap (λ (z : List Token). Mark signs.CurlyOpen ∷ z) (f.split ∙ with_end f.taken b.x.1 (Mark signs.CurlyClose)))))
    (exclude_post ls f.taken d b.x.0 q f.are) b.gives

-- the step at the front of tokens
abbrev stepped : Named → Read Step → Read Named
stepped d o = o >>= λ s. step_with s.0 d s.1

step_sound : (ls : List Token) (d : Named) (tokens : List Token) (s : Step × List Token) (x : Named × List Token) → IsPost ls d → step_at tokens ≡ Some s → step_with s.0 d s.1 ≡ Some x → Front IsPost (ls ++ tokens) x
unfolding step_at
step_sound ls d [] s x q is e = absurd cc
step_sound ls d (Mark signs.Dot ∷ rest) s x q is e = field_step ls d rest x q (ap (stepped d) is ∙ e)
step_sound ls d (Mark signs.CurlyOpen ∷ rest) s x q is e = include_step ls d rest x q (ap (stepped d) is ∙ e)
step_sound ls d (Mark signs.Tilde ∷ rest) s x q is e = exclude_step ls d rest x q (ap (stepped d) is ∙ e)
step_sound ls d (Mark sign ∷ rest) s x q is e = absurd cc
step_sound ls d (t ∷ rest) s x q is e = absurd cc

steps_sound : (n : ℕ) (ls : List Token) (d : Named) (tokens : List Token) (x : Named × List Token) → IsPost ls d → steps n d tokens ≡ Some x → Front IsPost (ls ++ tokens) x
unfolding steps
steps_sound zero ls d tokens x q e = at_front IsPost (ls ++ tokens) ls tokens d x refl q e
steps_sound (suc n) ls d tokens x q e = go (step_at tokens) refl (λ us u others p h. steps_sound n us u others x p h) e
  where
    go : (o : Read Step) → step_at tokens ≡ o → ((us : List Token) (u : Named) (others : List Token) → IsPost us u → steps n u others ≡ Some x → Front IsPost (us ++ others) x)
        → next_step (steps n) d tokens o ≡ Some x → Front IsPost (ls ++ tokens) x
    go None is next e = at_front IsPost (ls ++ tokens) ls tokens d x refl q e
    go (Some s) is next e =
        let b = bound (step_with s.0 d s.1) (λ y. steps n y.0 y.1) x e in
        let f = step_sound ls d tokens s b.x q is b.is in
        subst (λ (z : List Token). Front IsPost z x) (sym f.split) (next f.taken b.x.0 b.x.1 f.is b.gives)

-- ---- atoms

queries_from : (ts : List Token) (e : Named) (es : List Named) → PartsFrom IsOr ts e es → AreQueries ts (e ∷ es)
queries_from ts e [] p = one_query ts e p
queries_from ts e (d ∷ ds) p = subst (λ (z : List Token). AreQueries z (e ∷ d ∷ ds)) (sym p.2) (more_queries p.0 p.1 e d ds p.3 (queries_from p.1 d ds p.4))

-- a named argument
abbrev IsNamedOne : List Token → Option (Bytes × Tree) → Type 0
IsNamedOne ts x = (f : Bytes) × (e : Named) × (x ≡ with_name f e) × IsLabelled IsOr ts (f, e)

named_from : (ts : List Token) (x : Option (Bytes × Tree)) (xs : List (Option (Bytes × Tree))) → PartsFrom IsNamedOne ts x xs → AreNamed ts (x ∷ xs)
named_from ts x [] p =
    let l = p.3 in
    subst (λ (z : Option (Bytes × Tree)). AreNamed ts (z ∷ [])) (sym p.2) (subst (λ (z : List Token). AreNamed z (with_name p.0 p.1 ∷ [])) (sym l.2) (one_named l.0 l.1 p.0 p.1 l.3 l.4))
named_from ts x (y ∷ ys) p =
    let h = p.3 in
    let l = h.3 in
    subst (λ (z : Option (Bytes × Tree)). AreNamed ts (z ∷ y ∷ ys)) (sym h.2)
    (subst (λ (z : List Token). AreNamed z (with_name h.0 h.1 ∷ y ∷ ys)) (sym (p.2 ∙ ap (λ (z : List Token). z ++ Mark signs.Comma ∷ p.1) l.2))
    (more_named l.0 l.1 p.1 h.0 h.1 y ys l.3 l.4 (named_from p.1 y ys p.4)))

name_word : (t : Token) (f : Bytes) (rest : List Token) (x : Named × List Token) → IsName (t ∷ []) f → ◌≡◌ {A = Read Named} (Some (Some (column f), rest)) (Some x) → Front IsAtom (t ∷ rest) x
name_word t f rest x is e = at_front IsAtom (t ∷ rest) (t ∷ []) rest (Some (column f)) x refl (name_atom (t ∷ []) f is) e

minus_sound : (tokens : List Token) (x : Named × List Token) → negative_number tokens ≡ Some x → Front IsAtom (Mark signs.Minus ∷ tokens) x
minus_sound [] x e = absurd cc
minus_sound (Number digits p ∷ rest) x e = at_front IsAtom (Mark signs.Minus ∷ Number digits p ∷ rest) (Mark signs.Minus ∷ Number digits p ∷ []) rest _ x refl (minus_atom digits p) e
minus_sound (t ∷ rest) x e = absurd cc

-- a word, an opening bracket, parts, and what stands behind the closing one
called_split : (w : Keyword) (tokens rest taken others : List Token) → tokens ≡ Mark signs.RoundOpen ∷ rest → rest ≡ taken ++ Mark signs.RoundClose ∷ others
    → Reserved w ∷ tokens ≡ (Reserved w ∷ Mark signs.RoundOpen ∷ (taken ++ Mark signs.RoundClose ∷ [])) ++ others
called_split w tokens rest taken others is split =
    ap (λ (z : List Token). Reserved w ∷ z) (is ∙ ap (λ (z : List Token). Mark signs.RoundOpen ∷ z) (split ∙ with_end taken others (Mark signs.RoundClose)))

-- the same with two parts
two_split : (w : Keyword) (tokens rest us others vs last tail : List Token) → tokens ≡ Mark signs.RoundOpen ∷ rest → rest ≡ us ++ Mark signs.Comma ∷ others → others ≡ vs ++ last → last ≡ Mark signs.RoundClose ∷ tail
    → Reserved w ∷ tokens ≡ (Reserved w ∷ Mark signs.RoundOpen ∷ (us ++ Mark signs.Comma ∷ (vs ++ Mark signs.RoundClose ∷ []))) ++ tail
two_split w tokens rest us others vs last tail is split second end =
    ap (λ (z : List Token). Reserved w ∷ z) (is ∙ ap (λ (z : List Token). Mark signs.RoundOpen ∷ z)
    (split ∙ (ap (λ (z : List Token). us ++ Mark signs.Comma ∷ z) (second ∙ (ap (λ (z : List Token). vs ++ z) end ∙ with_end vs tail (Mark signs.RoundClose)))
    ∙ sym (append_assoc us (Mark signs.Comma ∷ (vs ++ Mark signs.RoundClose ∷ [])) tail))))

lit_sound : (tokens : List Token) (x : Named × List Token) → lit_behind tokens ≡ Some x → Front IsAtom (Reserved words.Lit ∷ tokens) x
unfolding lit_behind
lit_sound tokens x e =
    let a = bound (after signs.RoundOpen tokens) (λ rest. type_front rest >>= λ t. after signs.Comma t.1 >>= λ more. item_front more >>= λ y. closed signs.RoundClose (constant_of t.0 y.0, y.1)) x e in
    let b = bound (type_front a.x) (λ t. after signs.Comma t.1 >>= λ more. item_front more >>= λ y. closed signs.RoundClose (constant_of t.0 y.0, y.1)) x a.gives in
    let c = bound (after signs.Comma b.x.1) (λ more. item_front more >>= λ y. closed signs.RoundClose (constant_of b.x.0 y.0, y.1)) x b.gives in
    let d = bound (item_front c.x) (λ y. closed signs.RoundClose (constant_of b.x.0 y.0, y.1)) x c.gives in
    let last = closed_is signs.RoundClose (constant_of b.x.0 d.x.0, d.x.1) x d.gives in
    let t = type_front_sound.sound a.x b.x b.is in
    let u = item_front_sound.sound c.x d.x d.is in
    record {
      taken = Reserved words.Lit ∷ Mark signs.RoundOpen ∷ (t.taken ++ Mark signs.Comma ∷ (u.taken ++ Mark signs.RoundClose ∷ []));
      split = two_split words.Lit tokens a.x t.taken c.x u.taken d.x.1 x.1 (after_is signs.RoundOpen tokens a.x a.is)
          (t.split ∙ ap (λ (z : List Token). t.taken ++ z) (after_is signs.Comma b.x.1 c.x c.is)) u.split last.is;
      is = subst (IsAtom (Reserved words.Lit ∷ Mark signs.RoundOpen ∷ (t.taken ++ Mark signs.Comma ∷ (u.taken ++ Mark signs.RoundClose ∷ [])))) last.same (lit_atom t.taken u.taken b.x.0 d.x.0 t.is u.is);
    }

not_token : (t : Token) → is_not t ≡ true → t ≡ Reserved words.Not
not_token (Reserved words.Not) e = refl
not_token (Reserved w) e = absurd cc
not_token (Mark s) e = absurd cc
not_token (Word f) e = absurd cc
not_token (Quoted f) e = absurd cc
not_token (Quote s) e = absurd cc
not_token (Number digits p) e = absurd cc

negated_suc : (n : ℕ) (e : Named) → negated (suc n) e ≡ option_map not_of (negated n e)
unfolding negated
negated_suc zero e = refl
negated_suc (suc n) e = negated_suc n (option_map not_of e)

negated_more : (n : ℕ) (e : Named) → negated (1 + n) e ≡ option_map not_of (negated n e)
negated_more n e =
    let k : 1 + n ≡ suc n = omega arith in
    ap (λ m. negated m e) k ∙ negated_suc n e

module _ (read : List Token → Read Named) (k : Sound read IsOr) where
  plain_sound : (w : Keyword) (tokens : List Token) (x : Named × List Token) → plain_call read w tokens ≡ Some x → Front IsAtom (Reserved w ∷ tokens) x
  unfolding plain_call
  plain_sound w tokens x e =
      let a = bound (after signs.RoundOpen tokens) (λ rest. arguments_with read rest >>= λ es. call_of w es.0 >>= λ d. Some (d, es.1)) x e in
      let b = bound (arguments_with read a.x) (λ es. call_of w es.0 >>= λ d. Some (d, es.1)) x a.gives in
      let c = bound (call_of w b.x.0) (λ d. Some (d, b.x.1)) x b.gives in
      let p = parts_sound read IsOr AreQueries and_argument signs.RoundClose (0, Some []) k no_queries queries_from a.x b.x b.is in
      at_front IsAtom (Reserved w ∷ tokens) (Reserved w ∷ Mark signs.RoundOpen ∷ (p.taken ++ Mark signs.RoundClose ∷ [])) b.x.1 c.x x
      (called_split w tokens a.x p.taken b.x.1 (after_is signs.RoundOpen tokens a.x a.is) p.split) (call_atom w p.taken p.xs c.x p.are (ap (call_of w) p.gives ∙ c.is)) c.gives

  named_one : Sound (named read) IsNamedOne
  named_one = record {
    sound = λ tokens x e.
        let b = bound (labelled read tokens) (λ d. Some (with_name d.0.0 d.0.1, d.1)) x e in
        let f = (labelled_sound read IsOr k).sound tokens b.x b.is in
        at_front IsNamedOne tokens f.taken b.x.1 (with_name b.x.0.0 b.x.0.1) x f.split (b.x.0.0, b.x.0.1, refl, f.is) b.gives;
  }

  pack_parts : (n : Nullability) (tokens : List Token) (x : Named × List Token) (w : Keyword)
      → ((ts : List Token) (es : List (Option (Bytes × Tree))) → AreNamed ts es → IsAtom (Reserved w ∷ Mark signs.RoundOpen ∷ (ts ++ Mark signs.RoundClose ∷ [])) (pack_of n (gathered and_one (Some []) es)))
      → pack_call read n tokens ≡ Some x → Front IsAtom (Reserved w ∷ tokens) x
  unfolding pack_call
  pack_parts n tokens x w made e =
      let a = bound (after signs.RoundOpen tokens) (λ rest. all_named_with read rest >>= λ es. Some (pack_of n es.0, es.1)) x e in
      let b = bound (all_named_with read a.x) (λ es. Some (pack_of n es.0, es.1)) x a.gives in
      let p = parts_sound (named read) IsNamedOne AreNamed and_one signs.RoundClose (Some []) named_one no_named named_from a.x b.x b.is in
      at_front IsAtom (Reserved w ∷ tokens) (Reserved w ∷ Mark signs.RoundOpen ∷ (p.taken ++ Mark signs.RoundClose ∷ [])) b.x.1 (pack_of n b.x.0) x
      (called_split w tokens a.x p.taken b.x.1 (after_is signs.RoundOpen tokens a.x a.is) p.split)
      (subst (λ (z : Option (List (Bytes × Tree))). IsAtom (Reserved w ∷ Mark signs.RoundOpen ∷ (p.taken ++ Mark signs.RoundClose ∷ [])) (pack_of n z)) p.gives (made p.taken p.xs p.are)) b.gives

  cast_sound : (tokens : List Token) (x : Named × List Token) → cast_call read tokens ≡ Some x → Front IsAtom (Reserved words.Cast ∷ tokens) x
  unfolding cast_call
  cast_sound tokens x e =
      let a = bound (after signs.RoundOpen tokens) (λ rest. read rest >>= λ d. after signs.Comma d.1 >>= λ more. type_front more >>= λ t. closed signs.RoundClose (option_map (λ y. cast y t.0) d.0, t.1)) x e in
      let b = bound (read a.x) (λ d. after signs.Comma d.1 >>= λ more. type_front more >>= λ t. closed signs.RoundClose (option_map (λ y. cast y t.0) d.0, t.1)) x a.gives in
      let c = bound (after signs.Comma b.x.1) (λ more. type_front more >>= λ t. closed signs.RoundClose (option_map (λ y. cast y t.0) b.x.0, t.1)) x b.gives in
      let d = bound (type_front c.x) (λ t. closed signs.RoundClose (option_map (λ y. cast y t.0) b.x.0, t.1)) x c.gives in
      let last = closed_is signs.RoundClose (option_map (λ y. cast y d.x.0) b.x.0, d.x.1) x d.gives in
      let t = k.sound a.x b.x b.is in
      let u = type_front_sound.sound c.x d.x d.is in
      record {
        taken = Reserved words.Cast ∷ Mark signs.RoundOpen ∷ (t.taken ++ Mark signs.Comma ∷ (u.taken ++ Mark signs.RoundClose ∷ []));
        split = two_split words.Cast tokens a.x t.taken c.x u.taken d.x.1 x.1 (after_is signs.RoundOpen tokens a.x a.is)
            (t.split ∙ ap (λ (z : List Token). t.taken ++ z) (after_is signs.Comma b.x.1 c.x c.is)) u.split last.is;
        is = subst (IsAtom (Reserved words.Cast ∷ Mark signs.RoundOpen ∷ (t.taken ++ Mark signs.Comma ∷ (u.taken ++ Mark signs.RoundClose ∷ [])))) last.same (cast_atom t.taken u.taken b.x.0 d.x.0 t.is u.is);
      }

  word_sound : (w : Keyword) (tokens : List Token) (x : Named × List Token) → word_atom read w tokens ≡ Some x → Front IsAtom (Reserved w ∷ tokens) x
  word_sound words.True tokens x e = at_front IsAtom (Reserved words.True ∷ tokens) (Reserved words.True ∷ []) tokens _ x refl true_atom e
  word_sound words.False tokens x e = at_front IsAtom (Reserved words.False ∷ tokens) (Reserved words.False ∷ []) tokens _ x refl false_atom e
  word_sound words.Lit tokens x e = lit_sound tokens x e
  word_sound words.Cast tokens x e = cast_sound tokens x e
  word_sound words.Pack tokens x e = pack_parts NonNullable tokens x words.Pack (λ ts es are. pack_atom ts es are) e
  word_sound words.PackNull tokens x e = pack_parts Nullable tokens x words.PackNull (λ ts es are. pack_null_atom ts es are) e
  word_sound w tokens x e = plain_sound w tokens x e

  bracket_sound : (tokens : List Token) (x : Named × List Token) → (read tokens >>= closed signs.RoundClose) ≡ Some x → Front IsAtom (Mark signs.RoundOpen ∷ tokens) x
  bracket_sound tokens x e =
      let b = bound (read tokens) (closed signs.RoundClose) x e in
      let c = closed_is signs.RoundClose b.x x b.gives in
      let f = k.sound tokens b.x b.is in
      record {
        taken = Mark signs.RoundOpen ∷ (f.taken ++ Mark signs.RoundClose ∷ []);
        split = ap (λ (z : List Token). Mark signs.RoundOpen ∷ z) (f.split ∙ (ap (λ (z : List Token). f.taken ++ z) c.is ∙ with_end f.taken x.1 (Mark signs.RoundClose)));
        is = subst (IsAtom (Mark signs.RoundOpen ∷ (f.taken ++ Mark signs.RoundClose ∷ []))) c.same (bracket_atom f.taken b.x.0 f.is);
      }

  atom_sound : (tokens : List Token) (x : Named × List Token) → atom_with read tokens ≡ Some x → Front IsAtom tokens x
  atom_sound [] x e = absurd cc
  atom_sound (Mark signs.RoundOpen ∷ rest) x e = bracket_sound rest x e
  atom_sound (Mark signs.Dollar ∷ rest) x e = at_front IsAtom (Mark signs.Dollar ∷ rest) (Mark signs.Dollar ∷ []) rest _ x refl row_atom e
  atom_sound (Mark signs.Minus ∷ rest) x e = minus_sound rest x e
  atom_sound (Mark s ∷ rest) x e = absurd cc
  atom_sound (Word f ∷ rest) x e = name_word (Word f) f rest x (word_name f) e
  atom_sound (Quoted f ∷ rest) x e = name_word (Quoted f) f rest x (quoted_name f) e
  atom_sound (Number digits p ∷ rest) x e = at_front IsAtom (Number digits p ∷ rest) (Number digits p ∷ []) rest _ x refl (number_atom digits p) e
  atom_sound (Quote s ∷ rest) x e = at_front IsAtom (Quote s ∷ rest) (Quote s ∷ []) rest _ x refl (text_atom s) e
  atom_sound (Reserved w ∷ rest) x e = word_sound w rest x e

  -- ---- levels

  post_sound : Sound (post_with read) IsPost
  post_sound = record {
    sound = λ tokens x e.
        let b = bound (atom_with read tokens) (λ d. steps most_tokens d.0 d.1) x e in
        let f = atom_sound tokens b.x b.is in
        subst (λ (z : List Token). Front IsPost z x) (sym f.split) (steps_sound most_tokens f.taken b.x.0 b.x.1 x (one_post f.taken b.x.0 f.is) b.gives);
  }

  sum_sound : Sound (sum_with read) IsSum
  sum_sound = chained_sound levels.Sum (post_with read) IsPost IsSum post_sound one_sum more_sum

  compare_sound : Sound (compare_with read) IsCompare
  compare_sound = record {
    sound = λ tokens x e.
        let b = bound (sum_with read tokens) (λ l. compared (sum_with read) l.0 l.1 (operator_at levels.Comparison l.1)) x e in
        go tokens b.x (sum_sound.sound tokens b.x b.is) x (operator_at levels.Comparison b.x.1) refl b.gives;
  }
    where
      go : (tokens : List Token) (l : Named × List Token) → Front IsSum tokens l → (x : Named × List Token) (o : Read Operator) → operator_at levels.Comparison l.1 ≡ o → compared (sum_with read) l.0 l.1 o ≡ Some x
          → Front IsCompare tokens x
      go tokens l f x None is e = at_front IsCompare tokens f.taken l.1 l.0 x f.split (one_compare f.taken l.0 f.is) e
      go tokens l f x (Some op) is e =
          let o = operator_is levels.Comparison l.1 op is in
          let b = bound (sum_with read op.1) (λ r. Some (binary_of l.0 op.0 r.0, r.1)) x e in
          let g = sum_sound.sound op.1 b.x b.is in
          at_front IsCompare tokens (f.taken ++ o.token ∷ g.taken) b.x.1 (binary_of l.0 op.0 b.x.0) x
          (f.split ∙ behind_operator f.taken l.1 g.taken op.1 b.x.1 o.token o.split g.split) (two_compare f.taken g.taken o.token op.0 l.0 b.x.0 f.is o.is g.is) b.gives

  plain_not : (tokens : List Token) (x : Named × List Token) → (compare_with read tokens >>= λ e. Some (negated 0 e.0, e.1)) ≡ Some x → Front IsNot tokens x
  unfolding negated
  plain_not tokens x e =
      let b = bound (compare_with read tokens) (λ e. Some (negated 0 e.0, e.1)) x e in
      let f = compare_sound.sound tokens b.x b.is in
      at_front IsNot tokens f.taken b.x.1 b.x.0 x f.split (one_not f.taken b.x.0 f.is) b.gives

  abbrev behind_nots : ℕ × List Token → Read Named
  behind_nots n = compare_with read n.1 >>= λ e. Some (negated n.0 e.0, e.1)

  one_not_more : (t : Token) (tokens : List Token) (n : ℕ × List Token) (x : Named × List Token) → is_not t ≡ true → ((y : Named × List Token) → behind_nots n ≡ Some y → Front IsNot tokens y)
      → behind_nots (1 + n.0, n.1) ≡ Some x → Front IsNot (t ∷ tokens) x
  one_not_more t tokens n x is below e =
      let b = bound (compare_with read n.1) (λ e. Some (negated (1 + n.0) e.0, e.1)) x e in
      let f = below (negated n.0 b.x.0, b.x.1) (ap (λ r. r >>= λ e. Some (negated n.0 e.0, e.1)) b.is) in
      at_front IsNot (t ∷ tokens) (Reserved words.Not ∷ f.taken) b.x.1 (option_map not_of (negated n.0 b.x.0)) x
      (ap (λ (z : List Token). t ∷ z) f.split ∙ ap (λ (z : Token). z ∷ (f.taken ++ b.x.1)) (not_token t is)) (more_not f.taken (negated n.0 b.x.0) f.is)
      (ap (λ (z : Named). Some (z, b.x.1)) (sym (negated_more n.0 b.x.0)) ∙ b.gives)

  nots_either : (t : Token) (tokens : List Token) (x : Named × List Token) (b : Bool) → is_not t ≡ b → ((y : Named × List Token) → behind_nots (nots_at tokens) ≡ Some y → Front IsNot tokens y)
      → behind_nots (if b then one_more (nots_at tokens) else (0, t ∷ tokens)) ≡ Some x → Front IsNot (t ∷ tokens) x
  nots_either t tokens x true is below e = one_not_more t tokens (nots_at tokens) x is below e
  nots_either t tokens x false is below e = plain_not (t ∷ tokens) x e

  nots_sound : (tokens : List Token) (x : Named × List Token) → behind_nots (nots_at tokens) ≡ Some x → Front IsNot tokens x
  unfolding nots_at
  nots_sound [] x e = plain_not [] x e
  nots_sound (t ∷ tokens) x e = nots_either t tokens x (is_not t) refl (nots_sound tokens) e

  not_sound : Sound (not_with read) IsNot
  not_sound = record { sound = λ tokens x e. nots_sound tokens x e }

  and_sound : Sound (and_with read) IsAnd
  and_sound = chained_sound levels.Conjunction (not_with read) IsNot IsAnd not_sound one_and more_and

  or_sound : Sound (or_with read) IsOr
  or_sound = chained_sound levels.Disjunction (and_with read) IsAnd IsOr and_sound one_or more_or

queries_sound : (n : ℕ) → Sound (query_at n) IsOr
unfolding query_at
queries_sound zero = record { sound = λ tokens x e. absurd cc }
queries_sound (suc n) = record { sound = λ tokens x e. (or_sound (query_at n) (queries_sound n)).sound tokens x e }

whole_is : (x : Named × List Token) (e : Named) → whole x ≡ Some e → x.1 ≡ []
whole_is (d, []) e h = refl
whole_is (d, t ∷ rest) e h = absurd cc

whole_names : (x : Named × List Token) (e : Named) → whole x ≡ Some e → x.0 ≡ e
whole_names (d, []) e h = cc
whole_names (d, t ∷ rest) e h = absurd cc

pub read_is_query : ReadIsQuery
unfolding query_of
read_is_query tokens e h =
    let b = bound (query_at most_tokens tokens) whole e h in
    let f = (queries_sound most_tokens).sound tokens b.x b.is in
    let all : tokens ≡ f.taken = f.split ∙ (ap (λ (z : List Token). f.taken ++ z) (whole_is b.x e b.gives) ∙ append-nil f.taken) in
    subst (λ (z : Named). IsOr tokens z) (whole_names b.x e b.gives) (subst (λ (z : List Token). IsOr z b.x.0) (sym all) f.is)
