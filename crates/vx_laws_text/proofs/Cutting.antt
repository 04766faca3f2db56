-- How a text is cut into tokens: what stands at the front, and the tokens of what stands behind it.
use Rattle.std.proofs.Common.{◌≡◌, ℕ, zero, suc, ◌<◌, ◌≤◌, Bool, true, false, List, [], ◌∷◌, ◌++◌, length, refl, sym, ap, ◌∙◌, append_assoc, append-nil, Some, None, arith}
use Rattle.std.specs.List.{list_all}
use Rattle.std.proofs.lemmas.Bool.{and_parts}
use Rattle.vx_dtype.specs.Types.{Bytes}
use Rattle.vx_tokens.specs.declared.tokens.Token.{Token}
use Rattle.vx_tokens.specs.Tokens.{◌>>=◌, is_blank, before, run_of, token_at, behind_blank, next_token, tokens_within, tokens_of}

-- the tokens of a text, however many characters at most are to be looked at
pub record Cut (bytes : Bytes) (tokens : List Token) : Type 0 where
  pub within : (n : ℕ) (so_far : List Token) → length bytes ≤ n → tokens_within n so_far bytes ≡ Some (so_far ++ tokens)

end_within : (n : ℕ) (so_far : List Token) → tokens_within n so_far [] ≡ Some (so_far ++ [])
unfolding tokens_within
end_within zero so_far = ap Some (sym (append-nil so_far))
end_within (suc n) so_far = ap Some (sym (append-nil so_far))

pub cut-end : Cut [] []
cut-end = record { within = λ n so_far le. end_within n so_far }

blank_within : (b : ℕ) (bytes : Bytes) (tokens : List Token) → is_blank b ≡ true → Cut bytes tokens → (n : ℕ) (so_far : List Token) → length (b ∷ bytes) ≤ n → tokens_within n so_far (b ∷ bytes) ≡ Some (so_far ++ tokens)
unfolding tokens_within
blank_within b bytes tokens blank c zero so_far le = absurd (omega arith)
blank_within b bytes tokens blank c (suc n) so_far le = rw blank (c.within n so_far (omega arith))

pub cut-blank : (b : ℕ) (bytes : Bytes) (tokens : List Token) → is_blank b ≡ true → Cut bytes tokens → Cut (b ∷ bytes) tokens
cut-blank b bytes tokens blank c = record { within = blank_within b bytes tokens blank c }

-- a token at the front of a text, what stands behind it, and that it is no blank
pub record Front (bytes : Bytes) (t : Token) (rest : Bytes) : Type 0 where
  pub filled : behind_blank bytes ≡ None
  pub found : token_at bytes ≡ Some (t, rest)
  pub shorter : length rest < length bytes

token_within : (bytes : Bytes) (t : Token) (rest : Bytes) (tokens : List Token) → Front bytes t rest → Cut rest tokens → (n : ℕ) (so_far : List Token) → length bytes ≤ n → tokens_within n so_far bytes ≡ Some (so_far ++ t ∷ tokens)
unfolding tokens_within
token_within [] t rest tokens f c n so_far le = absurd (omega (arith, f.shorter))
token_within (b ∷ bytes) t rest tokens f c zero so_far le = absurd (omega arith)
token_within (b ∷ bytes) t rest tokens f c (suc n) so_far le =
    ap (next_token (tokens_within n) so_far (b ∷ bytes)) f.filled
    ∙ (ap (λ found. found >>= λ x. tokens_within n (so_far ++ x.0 ∷ []) x.1) f.found
    ∙ (c.within n (so_far ++ t ∷ []) (omega (arith, f.shorter)) ∙ ap Some (append_assoc so_far (t ∷ []) tokens)))

pub cut-token : (bytes : Bytes) (t : Token) (rest : Bytes) (tokens : List Token) → Front bytes t rest → Cut rest tokens → Cut bytes (t ∷ tokens)
cut-token bytes t rest tokens f c = record { within = token_within bytes t rest tokens f c }

pub tokens_of-cut : (bytes : Bytes) (tokens : List Token) → Cut bytes tokens → tokens_of bytes ≡ Some tokens
tokens_of-cut bytes tokens c = c.within (length bytes) [] (omega arith)

-- a text in parts, one in another
pub cut-parts : (a b c : Bytes) (tokens : List Token) → Cut (a ++ (b ++ c)) tokens → Cut ((a ++ b) ++ c) tokens
cut-parts a b c tokens h = rw append_assoc h

-- whether a text begins with a character of a class
abbrev pub begins : (ℕ → Bool) → Bytes → Bool
begins class [] = false
begins class (b ∷ bytes) = class b

-- a run of characters of a class, where none follows
pub run_of-append : (class : ℕ → Bool) (s rest : Bytes) → list_all class s ≡ true → begins class rest ≡ false → run_of class (s ++ rest) ≡ (s, rest)
unfolding run_of
run_of-append class [] [] all stops = refl
run_of-append class [] (b ∷ rest) all stops = rw stops refl
run_of-append class (b ∷ s) rest all stops =
    let h = and_parts (class b) (list_all class s) all in
    rw h.0 (ap (before (b ∷ [])) (run_of-append class s rest h.1 stops))
