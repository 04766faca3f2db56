-- Parts with a comma between any two are read one after the other.
use Rattle.std.proofs.Common.{◌≡◌, ℕ, zero, suc, ◌≤◌, Bool, true, false, List, [], ◌∷◌, ◌++◌, refl, ap, ◌∙◌, append_assoc, Some, None, arith}
use Rattle.std.specs.Prelude.{if◌then◌else◌}
use Rattle.vx_dtype.specs.Types.{Bytes}
use Rattle.vx_tokens.specs.declared.tokens.Sign.{Sign}
use Rattle.vx_tokens.specs.declared.tokens.Sign.TheVariants as signs
use Rattle.vx_tokens.specs.declared.tokens.Token.{Token}
use Rattle.vx_tokens.specs.declared.tokens.Token.TheVariants.{Word, Quoted, Mark}
use Rattle.vx_tokens.specs.Tokens.{◌>>=◌}
use Rattle.vx_text.specs.Grammar.{Read, after, choose, closed, more_parts, parts, most_tokens, and_then, name_at, names_at, labelled}
use Rattle.vx_tokens.specs.Names.{is_plain_word}
use Rattle.vx_laws_text.specs.WrittenTokens.{name_token, name_tokens}
use Rattle.vx_laws_text.proofs.Sizes.{names_size}

-- tokens that end a list with this sign: no comma stands at their front
pub record Closes (close : Sign) (tokens rest : List Token) : Type 0 where
  pub no_comma : after signs.Comma tokens ≡ None
  pub closed_by : after close tokens ≡ Some rest

pub closes_round : (rest : List Token) → Closes signs.RoundClose (Mark signs.RoundClose ∷ rest) rest
unfolding after
closes_round rest = record { no_comma = refl; closed_by = refl }

pub closes_square : (rest : List Token) → Closes signs.SquareClose (Mark signs.SquareClose ∷ rest) rest
unfolding after
closes_square rest = record { no_comma = refl; closed_by = refl }

pub closes_curly : (rest : List Token) → Closes signs.CurlyClose (Mark signs.CurlyClose ∷ rest) rest
unfolding after
closes_curly rest = record { no_comma = refl; closed_by = refl }

pub after_comma : (rest : List Token) → after signs.Comma (Mark signs.Comma ∷ rest) ≡ Some rest
unfolding after
after_comma rest = refl

pub last_part : {A S : Type 0} (part : List Token → Read A) (add : S → A → S) (close : Sign) (n : ℕ) (so_far : S) (tokens behind rest : List Token) (x : A)
    → part tokens ≡ Some (x, behind) → Closes close behind rest → more_parts part add close (suc n) so_far tokens ≡ Some (add so_far x, rest)
unfolding more_parts
last_part part add close n so_far tokens behind rest x h k =
    ap (λ r. r >>= λ y. choose (after signs.Comma y.1) (more_parts part add close n (add so_far y.0)) (closed close (add so_far y.0, y.1))) h
    ∙ (ap (λ r. choose r (more_parts part add close n (add so_far x)) (closed close (add so_far x, behind))) k.no_comma
    ∙ ap (λ r. r >>= λ others. Some (add so_far x, others)) k.closed_by)

pub next_part : {A S : Type 0} (part : List Token → Read A) (add : S → A → S) (close : Sign) (n : ℕ) (so_far : S) (tokens behind more : List Token) (x : A)
    → part tokens ≡ Some (x, behind) → after signs.Comma behind ≡ Some more → more_parts part add close (suc n) so_far tokens ≡ more_parts part add close n (add so_far x) more
unfolding more_parts
next_part part add close n so_far tokens behind more x h k =
    ap (λ r. r >>= λ y. choose (after signs.Comma y.1) (more_parts part add close n (add so_far y.0)) (closed close (add so_far y.0, y.1))) h
    ∙ ap (λ r. choose r (more_parts part add close n (add so_far x)) (closed close (add so_far x, behind))) k

pub no_parts : {A S : Type 0} (part : List Token → Read A) (add : S → A → S) (none : S) (close : Sign) (tokens rest : List Token)
    → after close tokens ≡ Some rest → parts part add none close tokens ≡ Some (none, rest)
no_parts part add none close tokens rest h = ap (λ r. choose r (λ others. Some (none, others)) (more_parts part add close most_tokens none tokens)) h

pub some_parts : {A S : Type 0} (part : List Token → Read A) (add : S → A → S) (none : S) (close : Sign) (tokens : List Token)
    → after close tokens ≡ None → parts part add none close tokens ≡ more_parts part add close most_tokens none tokens
some_parts part add none close tokens h = ap (λ r. choose r (λ others. Some (none, others)) (more_parts part add close most_tokens none tokens)) h

-- ---- names

name_either : (f : Bytes) (rest : List Token) (t : Bool) → name_at ((if t then Word f else Quoted f) ∷ rest) ≡ Some (f, rest)
unfolding name_at
name_either f rest true = refl
name_either f rest false = refl

pub name_read : (f : Bytes) (rest : List Token) → name_at (name_token f ∷ rest) ≡ Some (f, rest)
unfolding name_token
name_read f rest = name_either f rest (is_plain_word f)

not_closed_either : (f : Bytes) (rest : List Token) (s : Sign) (t : Bool) → after s ((if t then Word f else Quoted f) ∷ rest) ≡ None
unfolding after
not_closed_either f rest s true = refl
not_closed_either f rest s false = refl

-- a name is no sign
pub name_no_sign : (s : Sign) (f : Bytes) (rest : List Token) → after s (name_token f ∷ rest) ≡ None
unfolding name_token
name_no_sign s f rest = not_closed_either f rest s (is_plain_word f)

more_names : (fs : List Bytes) (f : Bytes) (n : ℕ) (so_far : List Bytes) (rest : List Token) → names_size 1 fs ≤ n
    → more_parts name_at and_then signs.CurlyClose (suc n) so_far (name_token f ∷ name_tokens (Mark signs.Comma ∷ []) fs (Mark signs.CurlyClose ∷ rest)) ≡ Some (so_far ++ f ∷ fs, rest)
unfolding name_tokens
more_names [] f n so_far rest le = last_part name_at and_then signs.CurlyClose n so_far _ _ rest f (name_read f _) (closes_curly rest)
more_names (g ∷ fs) f zero so_far rest le = absurd (omega arith)
more_names (g ∷ fs) f (suc n) so_far rest le =
    next_part name_at and_then signs.CurlyClose (suc n) so_far _ _ _ f (name_read f _) (after_comma _)
    ∙ (more_names fs g n (so_far ++ f ∷ []) rest (omega arith) ∙ ap (λ (xs : List Bytes). Some (xs, rest)) (append_assoc so_far (f ∷ []) (g ∷ fs)))

pub names_read : (fs : List Bytes) (rest : List Token) → names_size 0 fs ≤ 4096 → names_at (name_tokens [] fs (Mark signs.CurlyClose ∷ rest)) ≡ Some (fs, rest)
unfolding name_tokens
names_read [] rest le = no_parts name_at and_then [] signs.CurlyClose _ rest (closes_curly rest).closed_by
names_read (f ∷ fs) rest le =
    some_parts name_at and_then [] signs.CurlyClose _ (name_no_sign signs.CurlyClose f _) ∙ more_names fs f 4095 [] rest (omega arith)

-- a name and a part behind it
pub labelled_read : {A : Type 0} (part : List Token → Read A) (f : Bytes) (x : A) (tokens rest : List Token) → part tokens ≡ Some (x, rest)
    → labelled part (name_token f ∷ Mark signs.Colon ∷ tokens) ≡ Some ((f, x), rest)
unfolding after
labelled_read part f x tokens rest h =
    ap (λ r. r >>= λ g. after signs.Colon g.1 >>= λ others. part others >>= λ y. Some ((g.0, y.0), y.1)) (name_read f (Mark signs.Colon ∷ tokens))
    ∙ ap (λ r. r >>= λ y. Some ((f, y.0), y.1)) h
