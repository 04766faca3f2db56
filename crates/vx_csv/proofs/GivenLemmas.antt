-- One more column of a text that gives columns.
use Rattle.std.proofs.Common.{◌≡◌, ◌∙◌, sym, ap, ℕ, suc, List, [], ◌∷◌, Option, Some, Result, Ok, Err, IfOk}
use Rattle.vx_dtype.specs.Types.{Bytes, Ty}
use Rattle.vx_tokens.specs.Tokens.{◌>>=◌}
use Rattle.vx_tokens.specs.declared.tokens.Sign.TheVariants as signs
use Rattle.vx_tokens.specs.declared.tokens.Token.{Token}
use Rattle.vx_text.specs.Grammar.{after, and_field}
use Rattle.vx_laws_csv.specs.GivenColumns.{column_at, columns_end, more_columns}

-- behind a comma the columns go on
end-goes : (go_on : List Token → Option (List Bytes × List Ty)) (so_far : List Bytes × List Ty) (tokens rest : List Token) → after signs.Comma tokens ≡ Some rest → columns_end go_on so_far tokens ≡ go_on rest
unfolding after
end-goes go_on so_far [] rest h = let no : ⊥ = cc in absurd no
end-goes go_on so_far (t ∷ tokens) rest h = ap (λ found. found >>= go_on) h

pub column-goes : (n : ℕ) (so_far now : List Bytes × List Ty) (tokens behind rest : List Token) (c : Bytes × Ty) → Some (c, behind) ≡ column_at tokens → now ≡ and_field so_far c → Some rest ≡ after signs.Comma behind
    → more_columns n now rest ≡ more_columns (suc n) so_far tokens
unfolding more_columns
column-goes n so_far now tokens behind rest c e is f =
    ap (λ cs. more_columns n cs rest) is
    ∙ sym (end-goes (more_columns n (and_field so_far c)) (and_field so_far c) behind rest (sym f))
    ∙ ap (λ found. found >>= λ x. columns_end (more_columns n (and_field so_far x.0)) (and_field so_far x.0) x.1) e

-- an answer that is the same as another one
pub ok-moved : {A E B : Type 0} (view : A → B) (x y : B) (r : Result A E) → x ≡ y → IfOk r (λ a. view a ≡ x) → IfOk r (λ a. view a ≡ y)
ok-moved view x y (Ok a) same h = h ∙ same
ok-moved view x y (Err e) same h = h
