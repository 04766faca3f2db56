-- What reading a text answers.
use Rattle.std.proofs.Common.{◌≡◌, ◌<◌, ◌≤◌, Bool, true, false, List, length, refl, sym, ap, ◌∙◌, Option, Some, None, Ok, Err, le-ltb, lt-ltb, ltb-true, ltb-false}
use Rattle.std.specs.Prelude.{nat_lt, if◌then◌else◌}
use Rattle.vx_dtype.specs.Types.{Bytes}
use Rattle.vx_text.specs.declared.errors.TextError.TheVariants as errors
use Rattle.vx_tokens.specs.declared.tokens.Token.{Token}
use Rattle.vx_text.specs.NamedExpressions.{Named}
use Rattle.vx_tokens.specs.Tokens.{tokens_of}
use Rattle.vx_text.specs.Grammar.{most_tokens, query_of}
use Rattle.vx_text.specs.Reading.{most_bytes, named_or_refused, query_or_refused, reading_of}
use Rattle.vx_laws_text.specs.Answers.{IsCut, IsShortQuery, IsAnswer, ReadIsAnswer, AnswerIsRead}
use Rattle.vx_laws_text.specs.Cuts.{Cuts}
use Rattle.vx_laws_text.specs.Productions.{IsQuery}
use Rattle.vx_laws_text.proofs.Pieces.{if-true, if-false}
use Rattle.vx_laws_text.proofs.CutOrNot.{found_are_cut, cut_are_found}
use Rattle.vx_laws_text.proofs.SoundQueries.{read_is_query}
use Rattle.vx_laws_text.proofs.CompleteQueries.{query_is_read}

none_some : {A : Type 0} (o : Option A) (x : A) → o ≡ None → o ≡ Some x → ⊥
none_some {A} o x e f =
    let no : ◌≡◌ {A = Option A} None (Some x) = sym e ∙ f in
    cc

named_answer : (text : Bytes) (tokens : List Token) → IsCut text tokens → length tokens ≤ most_tokens → (o : Option Named) → query_of tokens ≡ o → IsAnswer text (named_or_refused o)
named_answer text tokens k le None e = (tokens, k, (le, λ d q. none_some (query_of tokens) d e (query_is_read tokens d le q)))
named_answer text tokens k le (Some None) e = (tokens, k, (le, read_is_query tokens None e))
named_answer text tokens k le (Some (Some d)) e = (tokens, k, (le, read_is_query tokens (Some d) e))

tokens_answer : (text : Bytes) → length text ≤ most_bytes → (o : Option (List Token)) → tokens_of text ≡ o → IsAnswer text (query_or_refused o)
tokens_answer text le None e = (le, λ tokens c. none_some (tokens_of text) tokens e (cut_are_found text tokens c))
tokens_answer text le (Some tokens) e = go (nat_lt most_tokens (length tokens)) refl
  where
    cut : IsCut text tokens
    cut = record { short = le; cut = found_are_cut text tokens e }

    go : (b : Bool) → nat_lt most_tokens (length tokens) ≡ b → IsAnswer text (if b then Err errors.TooManyTokens else named_or_refused (query_of tokens))
    go true is = (tokens, cut, ltb-true most_tokens (length tokens) is)
    go false is = named_answer text tokens cut (ltb-false most_tokens (length tokens) is) (query_of tokens) refl

pub read_is_answer : ReadIsAnswer
unfolding reading_of
read_is_answer text = go (nat_lt most_bytes (length text)) refl
  where
    go : (b : Bool) → nat_lt most_bytes (length text) ≡ b → IsAnswer text (if b then Err errors.TooLong else query_or_refused (tokens_of text))
    go true is = ltb-true most_bytes (length text) is
    go false is = tokens_answer text (ltb-false most_bytes (length text) is) (tokens_of text) refl

-- a text within the limit, by what its tokens are
short_read : (text : Bytes) → length text ≤ most_bytes → reading_of text ≡ query_or_refused (tokens_of text)
unfolding reading_of
short_read text le = if-false (nat_lt most_bytes (length text)) _ _ (le-ltb most_bytes (length text) le)

cut_read : (text : Bytes) (tokens : List Token) → IsCut text tokens → reading_of text ≡ query_or_refused (Some tokens)
cut_read text tokens k = short_read text k.short ∙ ap query_or_refused (cut_are_found text tokens k.cut)

query_read : (text : Bytes) (tokens : List Token) (e : Named) → IsCut text tokens → IsShortQuery tokens e → reading_of text ≡ named_or_refused (Some e)
query_read text tokens e k q =
    cut_read text tokens k ∙ (if-false (nat_lt most_tokens (length tokens)) _ _ (le-ltb most_tokens (length tokens) q.0) ∙ ap named_or_refused (query_is_read tokens e q.0 q.1))

no_query : (tokens : List Token) → ((e : Named) → IsQuery tokens e → ⊥) → query_of tokens ≡ None
no_query tokens h = go (query_of tokens) refl
  where
    go : (o : Option Named) → query_of tokens ≡ o → o ≡ None
    go None e = refl
    go (Some d) e = absurd (h d (read_is_query tokens d e))

no_tokens : (text : Bytes) → ((tokens : List Token) → Cuts text tokens → ⊥) → tokens_of text ≡ None
no_tokens text h = go (tokens_of text) refl
  where
    go : (o : Option (List Token)) → tokens_of text ≡ o → o ≡ None
    go None e = refl
    go (Some tokens) e = absurd (h tokens (found_are_cut text tokens e))

long_read : (text : Bytes) → most_bytes < length text → reading_of text ≡ Err errors.TooLong
unfolding reading_of
long_read text lt = if-true (nat_lt most_bytes (length text)) _ _ (lt-ltb most_bytes (length text) lt)

pub answer_is_read : AnswerIsRead
answer_is_read text (Ok e) a = query_read text a.0 (Some e) a.1 a.2
answer_is_read text (Err errors.TooLong) a = long_read text a
answer_is_read text (Err errors.BadToken) a = short_read text a.0 ∙ ap query_or_refused (no_tokens text a.1)
answer_is_read text (Err errors.TooManyTokens) a =
    cut_read text a.0 a.1 ∙ if-true (nat_lt most_tokens (length a.0)) _ _ (lt-ltb most_tokens (length a.0) a.2)
answer_is_read text (Err errors.BadQuery) a =
    let n = a.2 in
    cut_read text a.0 a.1 ∙ (if-false (nat_lt most_tokens (length a.0)) _ _ (le-ltb most_tokens (length a.0) n.0) ∙ ap named_or_refused (no_query a.0 n.1))
answer_is_read text (Err errors.BadValue) a = query_read text a.0 None a.1 a.2
answer_is_read text (Err errors.NoMemory) a = absurd a
answer_is_read text (Err errors.NotWritable) a = absurd a
