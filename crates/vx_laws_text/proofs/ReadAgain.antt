-- What is written is read.
use Rattle.std.proofs.Common.{◌≡◌, ◌≤◌, [], length, ap, ◌∙◌, Some, arith, le-ltb}
use Rattle.std.specs.Prelude.{nat_lt}
use Rattle.vx_expr.specs.Trees.{Tree}
use Rattle.vx_tokens.specs.Tokens.{◌>>=◌, tokens_of}
use Rattle.vx_text.specs.Grammar.{most_tokens, whole, query_of}
use Rattle.vx_text.specs.Reading.{most_bytes, named_or_refused, query_or_refused, reading_of}
use Rattle.vx_text.specs.Writing.{query_text}
use Rattle.vx_laws_text.specs.WrittenTokens.{query_tokens}
use Rattle.vx_laws_text.specs.Written.{WrittenIsCut, WrittenIsRead}
use Rattle.vx_laws_text.proofs.Cutting.{tokens_of-cut}
use Rattle.vx_laws_text.proofs.Pieces.{if-false}
use Rattle.vx_laws_text.proofs.Ready.{IsReady, ready}
use Rattle.vx_laws_text.proofs.Sizes.{query_length}
use Rattle.vx_laws_text.proofs.CutTexts.{cut_text}
use Rattle.vx_laws_text.proofs.ReadQueries.{query_read}

cut_again : (e : Tree) → IsReady e → tokens_of (query_text e) ≡ Some (query_tokens e [])
cut_again e k = tokens_of-cut (query_text e) (query_tokens e []) (cut_text e k)

named_again : (e : Tree) → IsReady e → length (query_tokens e []) ≤ most_tokens → query_of (query_tokens e []) ≡ Some (Some e)
unfolding query_of
named_again e k le = ap (λ r. r >>= whole) (query_read e k (omega (arith, query_length e [])))

pub written_text_is_cut : WrittenIsCut
written_text_is_cut e k w = cut_again e (ready e k w)

pub written_text_is_read : WrittenIsRead
unfolding reading_of
written_text_is_read e k w within =
    let r = ready e k w in
    let cut = cut_again e r in
    let few = within.tokens (query_tokens e []) cut in
    if-false (nat_lt most_bytes (length (query_text e))) _ _ (le-ltb most_bytes (length (query_text e)) within.bytes)
    ∙ (ap query_or_refused cut
    ∙ (if-false (nat_lt most_tokens (length (query_tokens e []))) _ _ (le-ltb most_tokens (length (query_tokens e [])) few)
    ∙ ap named_or_refused (named_again e r few)))
