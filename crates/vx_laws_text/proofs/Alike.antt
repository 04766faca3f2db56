-- What is read of the same tokens, with other numbers that bound recursions, is the same, and leaves no more tokens than there were.
use Rattle.std.proofs.Common.{◌≡◌, ℕ, zero, suc, ◌<◌, ◌≤◌, Bool, true, false, List, [], ◌∷◌, length, refl, sym, ap, subst, ◌∙◌, Option, Some, None, arith, codes}
use Rattle.std.specs.Prelude.{option_map, if◌then◌else◌, ◌==◌}
use Rattle.std.specs.Str.{bytes_eq}
use Rattle.vx_dtype.specs.declared.PType.{PType}
use Rattle.vx_dtype.specs.declared.Nullability.{Nullability}
use Rattle.vx_dtype.specs.declared.Nullability.TheVariants.{NonNullable, Nullable}
use Rattle.vx_dtype.specs.Types.{Bytes, Ty, list_ty}
use Rattle.vx_dtype.specs.TypeRules.{with_nullability}
use Rattle.vx_dtype.specs.Values.{Raw}
use Rattle.vx_expr.specs.declared.operators.Operator.{Operator}
use Rattle.vx_expr.specs.Trees.{cast}
use Rattle.vx_tokens.specs.declared.tokens.Keyword.{Keyword}
use Rattle.vx_tokens.specs.declared.tokens.Keyword.TheVariants as words
use Rattle.vx_tokens.specs.declared.tokens.Sign.{Sign}
use Rattle.vx_tokens.specs.declared.tokens.Sign.TheVariants as signs
use Rattle.vx_tokens.specs.declared.tokens.Token.{Token}
use Rattle.vx_tokens.specs.declared.tokens.Token.TheVariants.{Reserved, Word, Quoted, Quote, Number, Mark}
use Rattle.vx_text.specs.declared.operators.Level.{Level}
use Rattle.vx_text.specs.declared.operators.Level.TheVariants as levels
use Rattle.vx_text.specs.declared.steps.Step.{Step}
use Rattle.vx_text.specs.declared.steps.Step.TheVariants as step_kinds
use Rattle.vx_tokens.specs.Tokens.{◌>>=◌, is_sign, is_not}
use Rattle.vx_text.specs.NamedExpressions.{Named, binary_of, negated, constant_of, and_one, and_argument, call_of, with_name, pack_of}
use Rattle.vx_text.specs.Grammar.{Read, after, choose, closed, most_tokens, more_parts, parts, and_then, name_at, names_at, labelled, and_field, struct_type, list_with, struct_with, plain_type, word_base, base_with, marked, type_with, type_at, type_front, list_item, struct_item, integer_item, negative_item, word_item, item_with, item_at, item_front, lit_behind, token_operator, operator_within, level_of, level_number, operator_at, next_operand, chain, chained, token_step, step_at, step_with, next_step, steps, negative_number, arguments_with, plain_call, named, all_named_with, pack_call, cast_call, word_atom, sign_atom, atom_with, post_with, sum_with, compared, compare_with, nots_at, one_more, not_with, and_with, or_with, query_at}

-- two readings are the same, and leave so many tokens at most
pub record Both {A : Type 0} (r s : Read A) (n : ℕ) : Type 0 where
  pub same : r ≡ s
  pub short : (x : A × List Token) → r ≡ Some x → length x.1 ≤ n

both-none : {A : Type 0} (n : ℕ) → Both {A = A} None None n
both-none n = record { same = refl; short = λ x e. absurd cc }

both-some : {A : Type 0} (x : A × List Token) (n : ℕ) → length x.1 ≤ n → Both (Some x) (Some x) n
both-some {A} x n le = record { same = refl; short = λ y e. let is : x ≡ y = cc in subst (λ (z : A × List Token). length z.1 ≤ n) is le }

wider : {A : Type 0} (r s : Read A) (m n : ℕ) → Both r s m → m ≤ n → Both r s n
wider r s m n k le = record { same = k.same; short = λ x e. let h = k.short x e in omega arith }

then_same : {A B : Type 0} (r : Read A) (f g : A × List Token → Read B) (m n : ℕ) → ((x : A × List Token) → r ≡ Some x → length x.1 ≤ m)
    → ((x : A × List Token) → length x.1 ≤ m → Both (f x) (g x) n) → Both (r >>= f) (r >>= g) n
then_same None f g m n short h = both-none n
then_same (Some x) f g m n short h = h x (short x refl)

both-then : {A B : Type 0} (r s : Read A) (f g : A × List Token → Read B) (m n : ℕ) → Both r s m → ((x : A × List Token) → length x.1 ≤ m → Both (f x) (g x) n) → Both (r >>= f) (s >>= g) n
both-then {A} r s f g m n k h = subst (λ (t : Read A). Both (r >>= f) (t >>= g) n) k.same (then_same r f g m n k.short h)

both-where : {A B : Type 0} (o : Option A) (f g : A → Read B) (n : ℕ) → ((x : A) → Both (f x) (g x) n) → Both (o >>= f) (o >>= g) n
both-where None f g n h = both-none n
both-where (Some x) f g n h = h x

both-if : {A : Type 0} (t : Bool) (a b c d : Read A) (n : ℕ) → Both a c n → Both b d n → Both (if t then a else b) (if t then c else d) n
both-if true a b c d n h k = h
both-if false a b c d n h k = k

-- ---- a sign at the front

sign_left : (t : Bool) (rest : List Token) (x : List Token) → (if t then Some rest else None) ≡ Some x → rest ≡ x
sign_left true rest x e = cc
sign_left false rest x e = absurd cc

after-shorter : (s : Sign) (tokens rest : List Token) → after s tokens ≡ Some rest → length rest < length tokens
unfolding after
after-shorter s [] rest e = absurd cc
after-shorter s (t ∷ tokens) rest e = omega (arith, ap length (sign_left (is_sign s t) tokens rest e))

both-after : {A : Type 0} (s : Sign) (tokens : List Token) (f g : List Token → Read A) (n : ℕ) → ((rest : List Token) → length rest < length tokens → Both (f rest) (g rest) n)
    → Both (after s tokens >>= f) (after s tokens >>= g) n
both-after {A} s tokens f g n h = go (after s tokens) (after-shorter s tokens)
  where
    go : (o : Option (List Token)) → ((rest : List Token) → o ≡ Some rest → length rest < length tokens) → Both (o >>= f) (o >>= g) n
    go None k = both-none n
    go (Some rest) k = h rest (k rest refl)

both-choose : {A : Type 0} (s : Sign) (tokens : List Token) (f g : List Token → Read A) (a b : Read A) (n : ℕ) → ((rest : List Token) → length rest < length tokens → Both (f rest) (g rest) n)
    → Both a b n → Both (choose (after s tokens) f a) (choose (after s tokens) g b) n
both-choose s tokens f g a b n h k = go (after s tokens) (after-shorter s tokens)
  where
    go : (o : Option (List Token)) → ((rest : List Token) → o ≡ Some rest → length rest < length tokens) → Both (choose o f a) (choose o g b) n
    go None j = k
    go (Some rest) j = h rest (j rest refl)

both-closed : {A : Type 0} (s : Sign) (x : A) (tokens : List Token) (n : ℕ) → length tokens ≤ n → Both (closed s (x, tokens)) (closed s (x, tokens)) n
both-closed s x tokens n le = both-after s tokens (λ rest. Some (x, rest)) (λ rest. Some (x, rest)) n (λ rest lt. both-some (x, rest) n (omega arith))

-- ---- rules that read alike where there are so many tokens at most

pub record Alike {A : Type 0} (k : ℕ) (p q : List Token → Read A) : Type 0 where
  pub alike : (tokens : List Token) → length tokens ≤ k → Both (p tokens) (q tokens) (length tokens)

-- parts with a comma between any two, where two numbers bound them
pub more-both : {A S : Type 0} (p q : List Token → Read A) (add : S → A → S) (close : Sign) (k : ℕ) → Alike k p q → p [] ≡ None → (n m : ℕ) (so_far : S) (tokens : List Token) → length tokens ≤ k
    → length tokens ≤ n → length tokens ≤ m → Both (more_parts p add close n so_far tokens) (more_parts q add close m so_far tokens) (length tokens)
unfolding more_parts
more-both {A} {S} p q add close k h none n m so_far [] le ln lm = record { same = first n ∙ sym (second m); short = λ x e. let no : None ≡ Some x = sym (first n) ∙ e in absurd cc }
  where
    first : (n : ℕ) → more_parts p add close n so_far [] ≡ None
    first zero = refl
    first (suc n) = ap (λ r. r >>= λ x. choose (after signs.Comma x.1) (more_parts p add close n (add so_far x.0)) (closed close (add so_far x.0, x.1))) none

    second : (m : ℕ) → more_parts q add close m so_far [] ≡ None
    second zero = refl
    second (suc m) = ap (λ r. r >>= λ x. choose (after signs.Comma x.1) (more_parts q add close m (add so_far x.0)) (closed close (add so_far x.0, x.1))) (sym (h.alike [] le).same ∙ none)
more-both p q add close k h none zero m so_far (t ∷ tokens) le ln lm = absurd (omega arith)
more-both p q add close k h none (suc n) zero so_far (t ∷ tokens) le ln lm = absurd (omega arith)
more-both p q add close k h none (suc n) (suc m) so_far (t ∷ tokens) le ln lm =
    both-then (p (t ∷ tokens)) (q (t ∷ tokens)) _ _ (length (t ∷ tokens)) (length (t ∷ tokens)) (h.alike (t ∷ tokens) le) (λ x short.
    both-choose signs.Comma x.1 (more_parts p add close n (add so_far x.0)) (more_parts q add close m (add so_far x.0)) _ _ (length (t ∷ tokens))
    (λ rest lt. wider _ _ (length rest) (length (t ∷ tokens)) (more-both p q add close k h none n m (add so_far x.0) rest (omega arith) (omega arith) (omega arith)) (omega arith))
    (both-closed close (add so_far x.0) x.1 (length (t ∷ tokens)) short))

parts-both : {A S : Type 0} (p q : List Token → Read A) (add : S → A → S) (none : S) (close : Sign) (k : ℕ) → Alike k p q → p [] ≡ None → (tokens : List Token) → length tokens ≤ k → k ≤ 4096
    → Both (parts p add none close tokens) (parts q add none close tokens) (length tokens)
parts-both p q add none close k h empty tokens le most =
    both-choose close tokens (λ rest. Some (none, rest)) (λ rest. Some (none, rest)) _ _ (length tokens) (λ rest lt. both-some (none, rest) (length tokens) (omega arith))
    (more-both p q add close k h empty most_tokens most_tokens none tokens le (omega arith) (omega arith))

-- ---- names

name-both : (tokens : List Token) → Both (name_at tokens) (name_at tokens) (length tokens)
unfolding name_at
name-both [] = both-none 0
name-both (Word f ∷ rest) = both-some (f, rest) (length (Word f ∷ rest)) (omega arith)
name-both (Quoted f ∷ rest) = both-some (f, rest) (length (Quoted f ∷ rest)) (omega arith)
name-both (Reserved k ∷ rest) = both-none (length (Reserved k ∷ rest))
name-both (Quote s ∷ rest) = both-none (length (Quote s ∷ rest))
name-both (Number digits suffix ∷ rest) = both-none (length (Number digits suffix ∷ rest))
name-both (Mark s ∷ rest) = both-none (length (Mark s ∷ rest))

pub name-alike : (k : ℕ) → Alike k name_at name_at
name-alike k = record { alike = λ tokens le. name-both tokens }

pub no_name : name_at [] ≡ None
unfolding name_at
no_name = refl

names-both : (tokens : List Token) → length tokens ≤ 4096 → Both (names_at tokens) (names_at tokens) (length tokens)
names-both tokens le = parts-both name_at name_at and_then [] signs.CurlyClose 4096 (name-alike 4096) no_name tokens le (omega arith)

labelled-both : {A : Type 0} (p q : List Token → Read A) (k : ℕ) → Alike k p q → (tokens : List Token) → length tokens ≤ suc k → Both (labelled p tokens) (labelled q tokens) (length tokens)
labelled-both p q k h tokens le =
    both-then (name_at tokens) (name_at tokens) _ _ (length tokens) (length tokens) (name-both tokens) (λ f short.
    both-after signs.Colon f.1 _ _ (length tokens) (λ rest lt.
    both-then (p rest) (q rest) _ _ (length rest) (length tokens) (h.alike rest (omega arith)) (λ x shorter. both-some ((f.0, x.0), x.1) (length tokens) (omega arith))))

no_label : {A : Type 0} (p : List Token → Read A) → labelled p [] ≡ None
unfolding name_at
no_label p = refl

-- ---- types

abbrev marked_by : Ty → List Token → Option (List Token) → Ty × List Token
marked_by t tokens o = choose o (λ rest. (with_nullability t Nullable, rest)) (t, tokens)

marked_short : (t : Ty) (tokens : List Token) → length (marked (t, tokens)).1 ≤ length tokens
marked_short t tokens = go (after signs.Question tokens) (after-shorter signs.Question tokens)
  where
    go : (o : Option (List Token)) → ((rest : List Token) → o ≡ Some rest → length rest < length tokens) → length (marked_by t tokens o).1 ≤ length tokens
    go None h = omega arith
    go (Some rest) h = let lt = h rest refl in omega arith

module _ (p q : List Token → Read Ty) (k : ℕ) (h : Alike k p q) (most : k < 4096) where
  list_both : (tokens : List Token) → length tokens ≤ k → Both (list_with p tokens) (list_with q tokens) (length tokens)
  list_both tokens le =
      both-after signs.RoundOpen tokens _ _ (length tokens) (λ rest lt.
      both-then (p rest) (q rest) _ _ (length rest) (length tokens) (h.alike rest (omega arith)) (λ t short.
      both-closed signs.RoundClose (list_ty t.0 NonNullable) t.1 (length tokens) (omega arith)))

  struct_both : (tokens : List Token) → length tokens ≤ k → Both (struct_with p tokens) (struct_with q tokens) (length tokens)
  struct_both tokens le =
      both-then (parts (labelled p) and_field ([], []) signs.CurlyClose tokens) (parts (labelled q) and_field ([], []) signs.CurlyClose tokens) _ _ (length tokens) (length tokens)
      (parts-both (labelled p) (labelled q) and_field ([], []) signs.CurlyClose k (record { alike = λ others within. labelled-both p q k h others (omega arith) }) (no_label p) tokens le (omega arith))
      (λ fs short. both-some (struct_type fs.0, fs.1) (length tokens) short)

  word_both : (s : Bytes) (tokens : List Token) → length tokens ≤ k → Both (word_base p s tokens) (word_base q s tokens) (length tokens)
  word_both s tokens le =
      both-if (bytes_eq s (codes "list")) _ _ _ _ (length tokens) (list_both tokens le) (both-where (plain_type s) _ _ (length tokens) (λ t. both-some (t, tokens) (length tokens) (omega arith)))

  base_both : (tokens : List Token) → length tokens ≤ suc k → Both (base_with p tokens) (base_with q tokens) (length tokens)
  base_both [] le = both-none 0
  base_both (Word s ∷ rest) le = wider _ _ (length rest) (length (Word s ∷ rest)) (word_both s rest (omega arith)) (omega arith)
  base_both (Mark signs.CurlyOpen ∷ rest) le = wider _ _ (length rest) (length (Mark signs.CurlyOpen ∷ rest)) (struct_both rest (omega arith)) (omega arith)
  base_both (Mark s ∷ rest) le = both-none (length (Mark s ∷ rest))
  base_both (t ∷ rest) le = both-none (length (t ∷ rest))

  type_both : (tokens : List Token) → length tokens ≤ suc k → Both (type_with p tokens) (type_with q tokens) (length tokens)
  type_both tokens le =
      both-then (base_with p tokens) (base_with q tokens) _ _ (length tokens) (length tokens) (base_both tokens le) (λ t short.
      both-some (marked t) (length tokens) (let less = marked_short t.0 t.1 in omega arith))

no_type : (n : ℕ) → type_at n [] ≡ None
unfolding type_at
no_type zero = refl
no_type (suc n) = refl

pub types_alike : (k n m : ℕ) → k ≤ 4096 → k ≤ n → k ≤ m → Alike k (type_at n) (type_at m)
unfolding type_at
types_alike zero n m le ln lm = record { alike = go }
  where
    go : (tokens : List Token) → length tokens ≤ 0 → Both (type_at n tokens) (type_at m tokens) (length tokens)
    go [] none = record { same = no_type n ∙ sym (no_type m); short = λ x e. let no : None ≡ Some x = sym (no_type n) ∙ e in absurd cc }
    go (t ∷ tokens) none = absurd (omega arith)
types_alike (suc k) zero m le ln lm = absurd (omega arith)
types_alike (suc k) (suc n) zero le ln lm = absurd (omega arith)
types_alike (suc k) (suc n) (suc m) le ln lm =
    record { alike = λ tokens within. type_both (type_at n) (type_at m) k (types_alike k n m (omega arith) (omega arith) (omega arith)) (omega arith) tokens within }

type_front-both : (tokens : List Token) → length tokens ≤ 4096 → Both (type_front tokens) (type_front tokens) (length tokens)
type_front-both tokens le = (types_alike 4096 4096 4096 (omega arith) (omega arith) (omega arith)).alike tokens le

-- ---- items

integer_both : (negative : Bool) (digits : Bytes) (p : Option PType) (rest : List Token) → Both (integer_item negative digits p rest) (integer_item negative digits p rest) (length rest)
integer_both negative digits None rest = both-some _ (length rest) (omega arith)
integer_both negative digits (Some p) rest = both-none (length rest)

negative_both : (tokens : List Token) → Both (negative_item tokens) (negative_item tokens) (length tokens)
negative_both [] = both-none 0
negative_both (Number digits suffix ∷ rest) = wider _ _ (length rest) (length (Number digits suffix ∷ rest)) (integer_both true digits suffix rest) (omega arith)
negative_both (t ∷ rest) = both-none (length (t ∷ rest))

module _ (p q : List Token → Read (Option Raw)) (k : ℕ) (h : Alike k p q) (none : p [] ≡ None) (most : k < 4096) where
  items_both : (close : Sign) (tokens : List Token) → length tokens ≤ k → Both (parts p and_one (Some []) close tokens) (parts q and_one (Some []) close tokens) (length tokens)
  items_both close tokens le = parts-both p q and_one (Some []) close k h none tokens le (omega arith)

  item_both : (tokens : List Token) → length tokens ≤ suc k → Both (item_with p tokens) (item_with q tokens) (length tokens)
  item_both [] le = both-none 0
  item_both (Reserved w ∷ rest) le = both-where (word_item w) _ _ (length (Reserved w ∷ rest)) (λ x. both-some (Some x, rest) (length (Reserved w ∷ rest)) (omega arith))
  item_both (Number digits suffix ∷ rest) le = wider _ _ (length rest) (length (Number digits suffix ∷ rest)) (integer_both false digits suffix rest) (omega arith)
  item_both (Quote s ∷ rest) le = both-some _ (length (Quote s ∷ rest)) (omega arith)
  item_both (Mark signs.Minus ∷ rest) le = wider _ _ (length rest) (length (Mark signs.Minus ∷ rest)) (negative_both rest) (omega arith)
  item_both (Mark signs.SquareOpen ∷ rest) le =
      both-then (parts p and_one (Some []) signs.SquareClose rest) (parts q and_one (Some []) signs.SquareClose rest) _ _ (length rest) (length (Mark signs.SquareOpen ∷ rest)) (items_both signs.SquareClose rest (omega arith))
      (λ xs short. both-some (list_item xs.0, xs.1) (length (Mark signs.SquareOpen ∷ rest)) (omega arith))
  item_both (Mark signs.CurlyOpen ∷ rest) le =
      both-then (parts p and_one (Some []) signs.CurlyClose rest) (parts q and_one (Some []) signs.CurlyClose rest) _ _ (length rest) (length (Mark signs.CurlyOpen ∷ rest)) (items_both signs.CurlyClose rest (omega arith))
      (λ xs short. both-some (struct_item xs.0, xs.1) (length (Mark signs.CurlyOpen ∷ rest)) (omega arith))
  item_both (Mark s ∷ rest) le = both-none (length (Mark s ∷ rest))
  item_both (t ∷ rest) le = both-none (length (t ∷ rest))

no_item : (n : ℕ) → item_at n [] ≡ None
unfolding item_at
no_item zero = refl
no_item (suc n) = refl

pub items_alike : (k n m : ℕ) → k ≤ 4096 → k ≤ n → k ≤ m → Alike k (item_at n) (item_at m)
unfolding item_at
items_alike zero n m le ln lm = record { alike = go }
  where
    go : (tokens : List Token) → length tokens ≤ 0 → Both (item_at n tokens) (item_at m tokens) (length tokens)
    go [] none = record { same = no_item n ∙ sym (no_item m); short = λ x e. let no : None ≡ Some x = sym (no_item n) ∙ e in absurd cc }
    go (t ∷ tokens) none = absurd (omega arith)
items_alike (suc k) zero m le ln lm = absurd (omega arith)
items_alike (suc k) (suc n) zero le ln lm = absurd (omega arith)
items_alike (suc k) (suc n) (suc m) le ln lm =
    record { alike = λ tokens within. item_both (item_at n) (item_at m) k (items_alike k n m (omega arith) (omega arith) (omega arith)) (no_item n) (omega arith) tokens within }

item_front-both : (tokens : List Token) → length tokens ≤ 4096 → Both (item_front tokens) (item_front tokens) (length tokens)
item_front-both tokens le = (items_alike 4096 4096 4096 (omega arith) (omega arith) (omega arith)).alike tokens le

lit_both : (tokens : List Token) → length tokens ≤ 4096 → Both (lit_behind tokens) (lit_behind tokens) (length tokens)
unfolding lit_behind
lit_both tokens le =
    both-after signs.RoundOpen tokens _ _ (length tokens) (λ rest lt.
    both-then (type_front rest) (type_front rest) _ _ (length rest) (length tokens) (type_front-both rest (omega arith)) (λ t short.
    both-after signs.Comma t.1 _ _ (length tokens) (λ more less.
    both-then (item_front more) (item_front more) _ _ (length more) (length tokens) (item_front-both more (omega arith)) (λ x shorter.
    both-closed signs.RoundClose (constant_of t.0 x.0) x.1 (length tokens) (omega arith)))))

-- ---- operators and steps

operator_both : (level : Level) (tokens : List Token) → Both (operator_at level tokens) (operator_at level tokens) (length tokens)
unfolding operator_at
operator_both level [] = both-none 0
operator_both level (t ∷ rest) = go (token_operator t)
  where
    go : (o : Option Operator) → Both (operator_within level o rest) (operator_within level o rest) (length (t ∷ rest))
    go None = both-none (length (t ∷ rest))
    go (Some op) = both-if (level_number (level_of op) == level_number level) _ _ _ _ (length (t ∷ rest)) (both-some (op, rest) (length (t ∷ rest)) (omega arith)) (both-none (length (t ∷ rest)))

-- an operator takes a token
operator_shorter : (level : Level) (tokens : List Token) (op : Operator × List Token) → operator_at level tokens ≡ Some op → length op.1 < length tokens
unfolding operator_at
operator_shorter level [] op e = absurd cc
operator_shorter level (t ∷ rest) op e = go (token_operator t) e
  where
    go : (o : Option Operator) → operator_within level o rest ≡ Some op → length op.1 < length (t ∷ rest)
    go None e = absurd cc
    go (Some made) e = within (level_number (level_of made) == level_number level) e
      where
        within : (b : Bool) → (if b then Some (made, rest) else None) ≡ Some op → length op.1 < length (t ∷ rest)
        within true e = let is : rest ≡ op.1 = cc in omega (arith, ap length is)
        within false e = absurd cc

next_both : (p q : List Token → Read Named) (go_on go_on' : Named → List Token → Read Named) (k : ℕ) → Alike k p q → (left : Named) (tokens : List Token) → length tokens ≤ k
    → ((e : Named) (rest : List Token) → length rest < length tokens → Both (go_on e rest) (go_on' e rest) (length rest))
    → (o : Read Operator) → ((x : Operator × List Token) → o ≡ Some x → length x.1 < length tokens) → Both (next_operand go_on p left tokens o) (next_operand go_on' q left tokens o) (length tokens)
next_both p q go_on go_on' k h left tokens le more None short = both-some (left, tokens) (length tokens) (omega arith)
next_both p q go_on go_on' k h left tokens le more (Some op) short =
    let lt = short op refl in
    both-then (p op.1) (q op.1) _ _ (length op.1) (length tokens) (h.alike op.1 (omega arith)) (λ r less.
    wider _ _ (length r.1) (length tokens) (more (binary_of left op.0 r.0) r.1 (omega arith)) (omega arith))

pub chain-both : (level : Level) (p q : List Token → Read Named) (k : ℕ) → Alike k p q → (n m : ℕ) (left : Named) (tokens : List Token) → length tokens ≤ k → length tokens ≤ n → length tokens ≤ m
    → Both (chain level p n left tokens) (chain level q m left tokens) (length tokens)
unfolding chain operator_at
chain-both level p q k h zero zero left [] le ln lm = both-some (left, []) 0 (omega arith)
chain-both level p q k h zero (suc m) left [] le ln lm = both-some (left, []) 0 (omega arith)
chain-both level p q k h (suc n) zero left [] le ln lm = both-some (left, []) 0 (omega arith)
chain-both level p q k h (suc n) (suc m) left [] le ln lm = both-some (left, []) 0 (omega arith)
chain-both level p q k h zero m left (t ∷ tokens) le ln lm = absurd (omega arith)
chain-both level p q k h (suc n) zero left (t ∷ tokens) le ln lm = absurd (omega arith)
chain-both level p q k h (suc n) (suc m) left (t ∷ tokens) le ln lm =
    next_both p q (chain level p n) (chain level q m) k h left (t ∷ tokens) le (λ e rest lt. chain-both level p q k h n m e rest (omega arith) (omega arith) (omega arith))
    (operator_at level (t ∷ tokens)) (operator_shorter level (t ∷ tokens))

chained-both : (level : Level) (p q : List Token → Read Named) (k : ℕ) → Alike k p q → k ≤ 4096 → (tokens : List Token) → length tokens ≤ k → Both (chained level p tokens) (chained level q tokens) (length tokens)
chained-both level p q k h most tokens le =
    both-then (p tokens) (q tokens) _ _ (length tokens) (length tokens) (h.alike tokens le) (λ l short.
    wider _ _ (length l.1) (length tokens) (chain-both level p q k h most_tokens most_tokens l.0 l.1 (omega arith) (omega arith) (omega arith)) short)

step_both : (s : Step) (e : Named) (tokens : List Token) → length tokens ≤ 4096 → Both (step_with s e tokens) (step_with s e tokens) (length tokens)
step_both step_kinds.Field e tokens le =
    both-then (name_at tokens) (name_at tokens) _ _ (length tokens) (length tokens) (name-both tokens) (λ f short. both-some _ (length tokens) short)
step_both step_kinds.Include e tokens le =
    both-then (names_at tokens) (names_at tokens) _ _ (length tokens) (length tokens) (names-both tokens le) (λ f short. both-some _ (length tokens) short)
step_both step_kinds.Exclude e tokens le =
    both-after signs.CurlyOpen tokens _ _ (length tokens) (λ rest lt.
    both-then (names_at rest) (names_at rest) _ _ (length rest) (length tokens) (names-both rest (omega arith)) (λ f short. both-some _ (length tokens) (omega arith)))

-- a step takes a token
step_shorter : (tokens : List Token) (s : Step × List Token) → step_at tokens ≡ Some s → length s.1 < length tokens
unfolding step_at
step_shorter [] s e = absurd cc
step_shorter (t ∷ rest) s e = go (token_step t) e
  where
    go : (o : Option Step) → (o >>= λ x. Some (x, rest)) ≡ Some s → length s.1 < length (t ∷ rest)
    go None e = absurd cc
    go (Some x) e = let is : rest ≡ s.1 = cc in omega (arith, ap length is)

next_step_both : (go_on go_on' : Named → List Token → Read Named) (e : Named) (tokens : List Token) → length tokens ≤ 4096
    → ((e : Named) (rest : List Token) → length rest < length tokens → Both (go_on e rest) (go_on' e rest) (length rest))
    → (o : Read Step) → ((x : Step × List Token) → o ≡ Some x → length x.1 < length tokens) → Both (next_step go_on e tokens o) (next_step go_on' e tokens o) (length tokens)
next_step_both go_on go_on' e tokens le more None short = both-some (e, tokens) (length tokens) (omega arith)
next_step_both go_on go_on' e tokens le more (Some s) short =
    let lt = short s refl in
    both-then (step_with s.0 e s.1) (step_with s.0 e s.1) _ _ (length s.1) (length tokens) (step_both s.0 e s.1 (omega arith)) (λ x less.
    wider _ _ (length x.1) (length tokens) (more x.0 x.1 (omega arith)) (omega arith))

pub steps-both : (n m : ℕ) (e : Named) (tokens : List Token) → length tokens ≤ 4096 → length tokens ≤ n → length tokens ≤ m → Both (steps n e tokens) (steps m e tokens) (length tokens)
unfolding steps step_at
steps-both zero zero e [] le ln lm = both-some (e, []) 0 (omega arith)
steps-both zero (suc m) e [] le ln lm = both-some (e, []) 0 (omega arith)
steps-both (suc n) zero e [] le ln lm = both-some (e, []) 0 (omega arith)
steps-both (suc n) (suc m) e [] le ln lm = both-some (e, []) 0 (omega arith)
steps-both zero m e (t ∷ tokens) le ln lm = absurd (omega arith)
steps-both (suc n) zero e (t ∷ tokens) le ln lm = absurd (omega arith)
steps-both (suc n) (suc m) e (t ∷ tokens) le ln lm =
    next_step_both (steps n) (steps m) e (t ∷ tokens) le (λ d rest lt. steps-both n m d rest (omega arith) (omega arith) (omega arith)) (step_at (t ∷ tokens)) (step_shorter (t ∷ tokens))

-- ---- atoms

negative_number_both : (tokens : List Token) → Both (negative_number tokens) (negative_number tokens) (length tokens)
negative_number_both [] = both-none 0
negative_number_both (Number digits suffix ∷ rest) = both-some _ (length (Number digits suffix ∷ rest)) (omega arith)
negative_number_both (t ∷ rest) = both-none (length (t ∷ rest))

if_short : (b : Bool) (x y : ℕ × List Token) (n : ℕ) → length x.1 ≤ n → length y.1 ≤ n → length (if b then x else y).1 ≤ n
if_short true x y n h k = h
if_short false x y n h k = k

nots_short : (tokens : List Token) → length (nots_at tokens).1 ≤ length tokens
unfolding nots_at
nots_short [] = omega arith
nots_short (t ∷ tokens) =
    let h = nots_short tokens in
    if_short (is_not t) (one_more (nots_at tokens)) (0, t ∷ tokens) (length (t ∷ tokens)) (omega arith) (omega arith)

module _ (p q : List Token → Read Named) (k : ℕ) (h : Alike k p q) (none : p [] ≡ None) (most : k < 4096) where
  plain_both : (w : Keyword) (tokens : List Token) → length tokens ≤ k → Both (plain_call p w tokens) (plain_call q w tokens) (length tokens)
  unfolding plain_call
  plain_both w tokens le =
      both-after signs.RoundOpen tokens _ _ (length tokens) (λ rest lt.
      both-then (arguments_with p rest) (arguments_with q rest) _ _ (length rest) (length tokens) (parts-both p q and_argument (0, Some []) signs.RoundClose k h none rest (omega arith) (omega arith)) (λ es short.
      both-where (call_of w es.0) _ _ (length tokens) (λ e. both-some (e, es.1) (length tokens) (omega arith))))

  named_both : (tokens : List Token) → length tokens ≤ k → Both (named p tokens) (named q tokens) (length tokens)
  named_both tokens le =
      both-then (labelled p tokens) (labelled q tokens) _ _ (length tokens) (length tokens) (labelled-both p q k h tokens (omega arith)) (λ e short. both-some (with_name e.0.0 e.0.1, e.1) (length tokens) short)

  no_named : named p [] ≡ None
  no_named = ap (λ r. r >>= λ e. Some (with_name e.0.0 e.0.1, e.1)) (no_label p)

  pack_both : (n : Nullability) (tokens : List Token) → length tokens ≤ k → Both (pack_call p n tokens) (pack_call q n tokens) (length tokens)
  unfolding pack_call
  pack_both n tokens le =
      both-after signs.RoundOpen tokens _ _ (length tokens) (λ rest lt.
      both-then (all_named_with p rest) (all_named_with q rest) _ _ (length rest) (length tokens)
      (parts-both (named p) (named q) and_one (Some []) signs.RoundClose k (record { alike = named_both }) no_named rest (omega arith) (omega arith)) (λ es short.
      both-some (pack_of n es.0, es.1) (length tokens) (omega arith)))

  cast_both : (tokens : List Token) → length tokens ≤ k → Both (cast_call p tokens) (cast_call q tokens) (length tokens)
  unfolding cast_call
  cast_both tokens le =
      both-after signs.RoundOpen tokens _ _ (length tokens) (λ rest lt.
      both-then (p rest) (q rest) _ _ (length rest) (length tokens) (h.alike rest (omega arith)) (λ e short.
      both-after signs.Comma e.1 _ _ (length tokens) (λ more less.
      both-then (type_front more) (type_front more) _ _ (length more) (length tokens) (type_front-both more (omega arith)) (λ t shorter.
      both-closed signs.RoundClose (option_map (λ x. cast x t.0) e.0) t.1 (length tokens) (omega arith)))))

  word_atom_both : (w : Keyword) (tokens : List Token) → length tokens ≤ k → Both (word_atom p w tokens) (word_atom q w tokens) (length tokens)
  word_atom_both words.True tokens le = both-some _ (length tokens) (omega arith)
  word_atom_both words.False tokens le = both-some _ (length tokens) (omega arith)
  word_atom_both words.Lit tokens le = lit_both tokens (omega arith)
  word_atom_both words.Cast tokens le = cast_both tokens le
  word_atom_both words.Pack tokens le = pack_both NonNullable tokens le
  word_atom_both words.PackNull tokens le = pack_both Nullable tokens le
  word_atom_both w tokens le = plain_both w tokens le

  sign_atom_both : (s : Sign) (tokens : List Token) → length tokens ≤ k → Both (sign_atom p s tokens) (sign_atom q s tokens) (length tokens)
  sign_atom_both signs.RoundOpen tokens le =
      both-then (p tokens) (q tokens) _ _ (length tokens) (length tokens) (h.alike tokens le) (λ e short. both-closed signs.RoundClose e.0 e.1 (length tokens) short)
  sign_atom_both signs.Dollar tokens le = both-some _ (length tokens) (omega arith)
  sign_atom_both signs.Minus tokens le = negative_number_both tokens
  sign_atom_both s tokens le = both-none (length tokens)

  atom_both : (tokens : List Token) → length tokens ≤ suc k → Both (atom_with p tokens) (atom_with q tokens) (length tokens)
  atom_both [] le = both-none 0
  atom_both (Mark s ∷ rest) le = wider _ _ (length rest) (length (Mark s ∷ rest)) (sign_atom_both s rest (omega arith)) (omega arith)
  atom_both (Word f ∷ rest) le = both-some _ (length (Word f ∷ rest)) (omega arith)
  atom_both (Quoted f ∷ rest) le = both-some _ (length (Quoted f ∷ rest)) (omega arith)
  atom_both (Number digits suffix ∷ rest) le = both-some _ (length (Number digits suffix ∷ rest)) (omega arith)
  atom_both (Quote s ∷ rest) le = both-some _ (length (Quote s ∷ rest)) (omega arith)
  atom_both (Reserved w ∷ rest) le = wider _ _ (length rest) (length (Reserved w ∷ rest)) (word_atom_both w rest (omega arith)) (omega arith)

  -- ---- levels

  post_alike : Alike (suc k) (post_with p) (post_with q)
  post_alike = record {
    alike = λ tokens le.
        both-then (atom_with p tokens) (atom_with q tokens) _ _ (length tokens) (length tokens) (atom_both tokens le) (λ e short.
        wider _ _ (length e.1) (length tokens) (steps-both most_tokens most_tokens e.0 e.1 (omega arith) (omega arith) (omega arith)) short);
  }

  sum_alike : Alike (suc k) (sum_with p) (sum_with q)
  sum_alike = record { alike = λ tokens le. chained-both levels.Sum (post_with p) (post_with q) (suc k) post_alike (omega arith) tokens le }

  compared_both : (left : Named) (tokens : List Token) → length tokens ≤ suc k → (o : Read Operator) → ((x : Operator × List Token) → o ≡ Some x → length x.1 < length tokens)
      → Both (compared (sum_with p) left tokens o) (compared (sum_with q) left tokens o) (length tokens)
  compared_both left tokens le None short = both-some (left, tokens) (length tokens) (omega arith)
  compared_both left tokens le (Some op) short =
      let lt = short op refl in
      both-then (sum_with p op.1) (sum_with q op.1) _ _ (length op.1) (length tokens) (sum_alike.alike op.1 (omega arith)) (λ r less. both-some (binary_of left op.0 r.0, r.1) (length tokens) (omega arith))

  compare_alike : Alike (suc k) (compare_with p) (compare_with q)
  compare_alike = record {
    alike = λ tokens le.
        both-then (sum_with p tokens) (sum_with q tokens) _ _ (length tokens) (length tokens) (sum_alike.alike tokens le) (λ l short.
        wider _ _ (length l.1) (length tokens) (compared_both l.0 l.1 (omega arith) (operator_at levels.Comparison l.1) (operator_shorter levels.Comparison l.1)) short);
  }

  not_alike : Alike (suc k) (not_with p) (not_with q)
  not_alike = record {
    alike = λ tokens le.
        let short = nots_short tokens in
        both-then (compare_with p (nots_at tokens).1) (compare_with q (nots_at tokens).1) _ _ (length (nots_at tokens).1) (length tokens) (compare_alike.alike (nots_at tokens).1 (omega arith)) (λ e less.
        both-some (negated (nots_at tokens).0 e.0, e.1) (length tokens) (omega arith));
  }

  and_alike : Alike (suc k) (and_with p) (and_with q)
  and_alike = record { alike = λ tokens le. chained-both levels.Conjunction (not_with p) (not_with q) (suc k) not_alike (omega arith) tokens le }

  or_alike : Alike (suc k) (or_with p) (or_with q)
  or_alike = record { alike = λ tokens le. chained-both levels.Disjunction (and_with p) (and_with q) (suc k) and_alike (omega arith) tokens le }

-- ---- queries

no_query : (n : ℕ) → query_at n [] ≡ None
unfolding query_at nots_at
no_query zero = refl
no_query (suc n) = refl

pub queries_alike : (k n m : ℕ) → k ≤ 4096 → k ≤ n → k ≤ m → Alike k (query_at n) (query_at m)
unfolding query_at
queries_alike zero n m le ln lm = record { alike = go }
  where
    go : (tokens : List Token) → length tokens ≤ 0 → Both (query_at n tokens) (query_at m tokens) (length tokens)
    go [] none = record { same = no_query n ∙ sym (no_query m); short = λ x e. let no : None ≡ Some x = sym (no_query n) ∙ e in absurd cc }
    go (t ∷ tokens) none = absurd (omega arith)
queries_alike (suc k) zero m le ln lm = absurd (omega arith)
queries_alike (suc k) (suc n) zero le ln lm = absurd (omega arith)
queries_alike (suc k) (suc n) (suc m) le ln lm = or_alike (query_at n) (query_at m) k (queries_alike k n m (omega arith) (omega arith) (omega arith)) (no_query n) (omega arith)
