-- From an operand to a query: the levels of operators, one in another.
use Rattle.std.proofs.Common.{◌≡◌, ℕ, zero, suc, List, [], ◌∷◌, refl, ap, ◌∙◌, Some, None}
use Rattle.vx_expr.specs.declared.operators.Operator.{Operator}
use Rattle.vx_expr.specs.Trees.{Tree, binary, not_of}
use Rattle.vx_tokens.specs.declared.tokens.Keyword.TheVariants as words
use Rattle.vx_tokens.specs.declared.tokens.Sign.TheVariants as signs
use Rattle.vx_tokens.specs.declared.tokens.Token.{Token}
use Rattle.vx_tokens.specs.declared.tokens.Token.TheVariants.{Reserved, Mark}
use Rattle.vx_text.specs.declared.operators.Level.{Level}
use Rattle.vx_text.specs.declared.operators.Level.TheVariants as levels
use Rattle.vx_tokens.specs.Tokens.{◌>>=◌}
use Rattle.vx_text.specs.NamedExpressions.{Named, binary_of, negated}
use Rattle.vx_text.specs.Grammar.{Read, most_tokens, operator_at, next_operand, chain, chained, step_at, next_step, steps, post_with, sum_with, compared, compare_with, nots_at, one_more, not_with, and_with, or_with}
use Rattle.vx_laws_text.specs.WrittenTokens.{operator_token}

-- ---- what may stand behind a query

-- no step and no operator
pub record Ends (rest : List Token) : Type 0 where
  pub step : step_at rest ≡ None
  pub sum : operator_at levels.Sum rest ≡ None
  pub comparison : operator_at levels.Comparison rest ≡ None
  pub conjunction : operator_at levels.Conjunction rest ≡ None
  pub disjunction : operator_at levels.Disjunction rest ≡ None

pub ends-nil : Ends []
unfolding step_at operator_at
ends-nil = record { step = refl; sum = refl; comparison = refl; conjunction = refl; disjunction = refl }

pub ends-round : (rest : List Token) → Ends (Mark signs.RoundClose ∷ rest)
unfolding step_at operator_at
ends-round rest = record { step = refl; sum = refl; comparison = refl; conjunction = refl; disjunction = refl }

pub ends-comma : (rest : List Token) → Ends (Mark signs.Comma ∷ rest)
unfolding step_at operator_at
ends-comma rest = record { step = refl; sum = refl; comparison = refl; conjunction = refl; disjunction = refl }

-- no step behind an operator's left operand
pub operator_no_step : (op : Operator) (rest : List Token) → step_at (operator_token op ∷ rest) ≡ None
unfolding step_at
operator_no_step Operator.Or rest = refl
operator_no_step Operator.And rest = refl
operator_no_step Operator.Eq rest = refl
operator_no_step Operator.NotEq rest = refl
operator_no_step Operator.Gt rest = refl
operator_no_step Operator.Gte rest = refl
operator_no_step Operator.Lt rest = refl
operator_no_step Operator.Lte rest = refl
operator_no_step Operator.Add rest = refl
operator_no_step Operator.Sub rest = refl

pub no_steps : (n : ℕ) (e : Named) (rest : List Token) → step_at rest ≡ None → steps n e rest ≡ Some (e, rest)
unfolding steps
no_steps zero e rest none = refl
no_steps (suc n) e rest none = ap (next_step (steps n) e rest) none

-- ---- chains

module _ (level : Level) (operand : List Token → Read Named) where
  chain_none : (n : ℕ) (e : Named) (rest : List Token) → operator_at level rest ≡ None → chain level operand n e rest ≡ Some (e, rest)
  unfolding chain
  chain_none zero e rest none = refl
  chain_none (suc n) e rest none = ap (next_operand (chain level operand n) operand e rest) none

  chain_one : (n : ℕ) (l r : Named) (op : Operator) (rest more behind : List Token) → operator_at level rest ≡ Some (op, more) → operand more ≡ Some (r, behind) → operator_at level behind ≡ None
      → chain level operand (suc n) l rest ≡ Some (binary_of l op r, behind)
  unfolding chain
  chain_one n l r op rest more behind is h none =
      ap (next_operand (chain level operand n) operand l rest) is
      ∙ (ap (λ x. x >>= λ y. chain level operand n (binary_of l op y.0) y.1) h ∙ chain_none n (binary_of l op r) behind none)

  pub chained_none : (tokens rest : List Token) (e : Named) → operand tokens ≡ Some (e, rest) → operator_at level rest ≡ None → chained level operand tokens ≡ Some (e, rest)
  chained_none tokens rest e h none = ap (λ x. x >>= λ y. chain level operand most_tokens y.0 y.1) h ∙ chain_none most_tokens e rest none

  pub chained_one : (tokens rest more behind : List Token) (l r : Named) (op : Operator) → operand tokens ≡ Some (l, rest) → operator_at level rest ≡ Some (op, more) → operand more ≡ Some (r, behind)
      → operator_at level behind ≡ None → chained level operand tokens ≡ Some (binary_of l op r, behind)
  chained_one tokens rest more behind l r op h is k none =
      ap (λ x. x >>= λ y. chain level operand most_tokens y.0 y.1) h ∙ chain_one 4095 l r op rest more behind is k none

-- ---- levels

module _ (read : List Token → Read Named) where
  pub sum_up : (tokens rest : List Token) (e : Named) → post_with read tokens ≡ Some (e, rest) → operator_at levels.Sum rest ≡ None → sum_with read tokens ≡ Some (e, rest)
  sum_up tokens rest e h none = chained_none levels.Sum (post_with read) tokens rest e h none

  pub compare_up : (tokens rest : List Token) (e : Named) → sum_with read tokens ≡ Some (e, rest) → operator_at levels.Comparison rest ≡ None → compare_with read tokens ≡ Some (e, rest)
  compare_up tokens rest e h none =
      ap (λ x. x >>= λ y. compared (sum_with read) y.0 y.1 (operator_at levels.Comparison y.1)) h ∙ ap (compared (sum_with read) e rest) none

  pub not_up : (tokens rest : List Token) (e : Named) → compare_with read tokens ≡ Some (e, rest) → nots_at tokens ≡ (0, tokens) → not_with read tokens ≡ Some (e, rest)
  unfolding negated
  not_up tokens rest e h plain =
      ap (λ (n : ℕ × List Token). compare_with read n.1 >>= λ y. Some (negated n.0 y.0, y.1)) plain ∙ ap (λ x. x >>= λ y. Some (negated 0 y.0, y.1)) h

  pub and_up : (tokens rest : List Token) (e : Named) → not_with read tokens ≡ Some (e, rest) → operator_at levels.Conjunction rest ≡ None → and_with read tokens ≡ Some (e, rest)
  and_up tokens rest e h none = chained_none levels.Conjunction (not_with read) tokens rest e h none

  pub or_up : (tokens rest : List Token) (e : Named) → and_with read tokens ≡ Some (e, rest) → operator_at levels.Disjunction rest ≡ None → or_with read tokens ≡ Some (e, rest)
  or_up tokens rest e h none = chained_none levels.Disjunction (and_with read) tokens rest e h none

  -- up from each level
  from_not : (tokens rest : List Token) (e : Named) → not_with read tokens ≡ Some (e, rest) → Ends rest → or_with read tokens ≡ Some (e, rest)
  from_not tokens rest e h k = or_up tokens rest e (and_up tokens rest e h k.conjunction) k.disjunction

  from_compare : (tokens rest : List Token) (e : Named) → compare_with read tokens ≡ Some (e, rest) → nots_at tokens ≡ (0, tokens) → Ends rest → or_with read tokens ≡ Some (e, rest)
  from_compare tokens rest e h plain k = from_not tokens rest e (not_up tokens rest e h plain) k

  from_sum : (tokens rest : List Token) (e : Named) → sum_with read tokens ≡ Some (e, rest) → nots_at tokens ≡ (0, tokens) → Ends rest → or_with read tokens ≡ Some (e, rest)
  from_sum tokens rest e h plain k = from_compare tokens rest e (compare_up tokens rest e h k.comparison) plain k

  pub from_post : (tokens rest : List Token) (e : Named) → post_with read tokens ≡ Some (e, rest) → nots_at tokens ≡ (0, tokens) → Ends rest → or_with read tokens ≡ Some (e, rest)
  from_post tokens rest e h plain k = from_sum tokens rest e (sum_up tokens rest e h k.sum) plain k

  -- an operand behind `not`
  pub from_negated : (tokens rest : List Token) (e : Tree) → post_with read tokens ≡ Some (Some e, rest) → nots_at tokens ≡ (0, tokens) → Ends rest
      → or_with read (Reserved words.Not ∷ tokens) ≡ Some (Some (not_of e), rest)
  unfolding negated nots_at
  from_negated tokens rest e h plain k =
      let compare = compare_up tokens rest (Some e) (sum_up tokens rest (Some e) h k.sum) k.comparison in
      let not : not_with read (Reserved words.Not ∷ tokens) ≡ Some (Some (not_of e), rest) =
      ap (λ (n : ℕ × List Token). compare_with read n.1 >>= λ y. Some (negated n.0 y.0, y.1)) (ap one_more plain)
      ∙ ap (λ x. x >>= λ y. Some (negated 1 y.0, y.1)) compare in
      from_not (Reserved words.Not ∷ tokens) rest (Some (not_of e)) not k

  -- two operands, with an operator's token between them
  pub record Operands (left : List Token) (t : Token) (right rest : List Token) (l r : Tree) : Type 0 where
    pub l_read : post_with read left ≡ Some (Some l, t ∷ right)
    pub r_read : post_with read right ≡ Some (Some r, rest)
    pub l_plain : nots_at left ≡ (0, left)
    pub r_plain : nots_at right ≡ (0, right)
    pub ends : Ends rest

  sum_operands : (op : Operator) (left : List Token) (t : Token) (right rest : List Token) (l r : Tree) → operator_at levels.Sum (t ∷ right) ≡ Some (op, right) → Operands left t right rest l r
      → or_with read left ≡ Some (Some (binary l op r), rest)
  unfolding binary_of
  sum_operands op left t right rest l r is k =
      from_sum left rest (Some (binary l op r)) (chained_one levels.Sum (post_with read) left (t ∷ right) right rest (Some l) (Some r) op k.l_read is k.r_read k.ends.sum) k.l_plain k.ends

  comparison_operands : (op : Operator) (left : List Token) (t : Token) (right rest : List Token) (l r : Tree) → operator_at levels.Comparison (t ∷ right) ≡ Some (op, right)
      → operator_at levels.Sum (t ∷ right) ≡ None → Operands left t right rest l r → or_with read left ≡ Some (Some (binary l op r), rest)
  unfolding binary_of
  comparison_operands op left t right rest l r is no_sum k =
      let l_sum = sum_up left (t ∷ right) (Some l) k.l_read no_sum in
      let r_sum = sum_up right rest (Some r) k.r_read k.ends.sum in
      let compare : compare_with read left ≡ Some (Some (binary l op r), rest) =
      ap (λ x. x >>= λ y. compared (sum_with read) y.0 y.1 (operator_at levels.Comparison y.1)) l_sum
      ∙ (ap (compared (sum_with read) (Some l) (t ∷ right)) is ∙ ap (λ x. x >>= λ y. Some (binary_of (Some l) op y.0, y.1)) r_sum) in
      from_compare left rest (Some (binary l op r)) compare k.l_plain k.ends

  conjunction_operands : (op : Operator) (left : List Token) (t : Token) (right rest : List Token) (l r : Tree) → operator_at levels.Conjunction (t ∷ right) ≡ Some (op, right)
      → operator_at levels.Sum (t ∷ right) ≡ None → operator_at levels.Comparison (t ∷ right) ≡ None → Operands left t right rest l r → or_with read left ≡ Some (Some (binary l op r), rest)
  unfolding binary_of
  conjunction_operands op left t right rest l r is no_sum no_comparison k =
      let l_not = not_up left (t ∷ right) (Some l) (compare_up left (t ∷ right) (Some l) (sum_up left (t ∷ right) (Some l) k.l_read no_sum) no_comparison) k.l_plain in
      let r_not = not_up right rest (Some r) (compare_up right rest (Some r) (sum_up right rest (Some r) k.r_read k.ends.sum) k.ends.comparison) k.r_plain in
      or_up left rest (Some (binary l op r))
      (chained_one levels.Conjunction (not_with read) left (t ∷ right) right rest (Some l) (Some r) op l_not is r_not k.ends.conjunction) k.ends.disjunction

  disjunction_operands : (op : Operator) (left : List Token) (t : Token) (right rest : List Token) (l r : Tree) → operator_at levels.Disjunction (t ∷ right) ≡ Some (op, right)
      → operator_at levels.Sum (t ∷ right) ≡ None → operator_at levels.Comparison (t ∷ right) ≡ None → operator_at levels.Conjunction (t ∷ right) ≡ None
      → Operands left t right rest l r → or_with read left ≡ Some (Some (binary l op r), rest)
  unfolding binary_of
  disjunction_operands op left t right rest l r is no_sum no_comparison no_conjunction k =
      let l_and = and_up left (t ∷ right) (Some l) (not_up left (t ∷ right) (Some l) (compare_up left (t ∷ right) (Some l) (sum_up left (t ∷ right) (Some l) k.l_read no_sum) no_comparison) k.l_plain) no_conjunction in
      let r_and = and_up right rest (Some r) (not_up right rest (Some r) (compare_up right rest (Some r) (sum_up right rest (Some r) k.r_read k.ends.sum) k.ends.comparison) k.r_plain) k.ends.conjunction in
      chained_one levels.Disjunction (and_with read) left (t ∷ right) right rest (Some l) (Some r) op l_and is r_and k.ends.disjunction

  pub from_operands : (op : Operator) (left right rest : List Token) (l r : Tree) → Operands left (operator_token op) right rest l r → or_with read left ≡ Some (Some (binary l op r), rest)
  unfolding operator_at
  from_operands Operator.Or left right rest l r k = disjunction_operands Operator.Or left _ right rest l r refl refl refl refl k
  from_operands Operator.And left right rest l r k = conjunction_operands Operator.And left _ right rest l r refl refl refl k
  from_operands Operator.Eq left right rest l r k = comparison_operands Operator.Eq left _ right rest l r refl refl k
  from_operands Operator.NotEq left right rest l r k = comparison_operands Operator.NotEq left _ right rest l r refl refl k
  from_operands Operator.Gt left right rest l r k = comparison_operands Operator.Gt left _ right rest l r refl refl k
  from_operands Operator.Gte left right rest l r k = comparison_operands Operator.Gte left _ right rest l r refl refl k
  from_operands Operator.Lt left right rest l r k = comparison_operands Operator.Lt left _ right rest l r refl refl k
  from_operands Operator.Lte left right rest l r k = comparison_operands Operator.Lte left _ right rest l r refl refl k
  from_operands Operator.Add left right rest l r k = sum_operands Operator.Add left _ right rest l r refl k
  from_operands Operator.Sub left right rest l r k = sum_operands Operator.Sub left _ right rest l r refl k
