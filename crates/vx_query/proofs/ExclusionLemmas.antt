-- Of one input, of one word and of one query at most one thing is told.
use Rattle.std.proofs.Common.{◌≡◌, ◌∙◌, sym, subst, inl, inr}
use Rattle.vx_dtype.specs.Types.{Bytes}
use Rattle.vx_expr.specs.Trees.{Tree}
use Rattle.vx_text.specs.Reading.{reading_of}
use Rattle.vx_request.specs.Requests.{request_of}
use Rattle.vx_query.specs.Running.{Names, HasBytes, IsShallow, IsOverlong}
use Rattle.vx_query.specs.Causes.{HasNoBytes}
use Rattle.vx_query.specs.Exclusions.{InputsMeanOne, WordsMeanOne, QueriesMeanOne}
use Rattle.vx_query.specs.WireLaws.{WireLaws}
use Rattle.vx_query.proofs.RefusalLemmas.{one_err, not_err, one_ok, one_scan, one_held_refusal, held_unrefused}
use Rattle.vx_query.proofs.RequestCauseLemmas.{refused_so}
use Rattle.vx_query.proofs.RequestEnds.{not_none}
use Rattle.vx_query.proofs.WordLemmas.{one_word, one_word_refusal, unrefused_word}

pub inputs_mean_one : WireLaws → InputsMeanOne
inputs_mean_one laws = record {
  one_reason = λ input e g h k. one_err (request_of input) e g (refused_so e input h) (refused_so g input k);
  one_refusal = one_held_refusal laws;
  one_scan = λ input a b f p g q h k. one_scan laws input a f p b g q h k;
  no_request_refused = λ input e g h k. not_err (request_of input) k.asked e k.held (refused_so e input h);
  no_request_scanned = λ input e a f p h k. not_err (request_of input) a e k.asked (refused_so e input h);
  none_refused_scanned = λ input e a f p h k. held_unrefused laws input a f p e k h;
}

pub words_mean_one : WordsMeanOne
words_mean_one = record {
  one_refusal = one_word_refusal;
  one_expression = one_word;
  no_digits_refused = λ word e none h. not_none (sym h.digits ∙ none);
  no_digits_spelled = λ word e none h. not_none (sym h.digits ∙ none);
  none_refused_spelled = λ word e g h k. unrefused_word word g e k h;
}

-- a query names one expression
same_named : (query : Bytes) (e g : Tree) → Names query e → Names query g → e ≡ g
same_named query e g h k = one_ok (reading_of query) e g h k

refused_or_named : (query name : Bytes) (e : Tree) → HasNoBytes query name → Names query e → ¬ (HasBytes e)
refused_or_named query name e h names has =
    elim h [
      | inl read ↦ not_err (reading_of query) e read.0 names read.1
      | inr other ↦ elim other [
        | inl deep ↦ deep.0.2 (subst IsShallow (same_named query e deep.0.0 names deep.0.1) has.0)
        | inr long ↦ has.1 (subst IsOverlong (same_named query long.0.0 e long.0.1 names) long.0.3)
      ]
    ]

pub queries_mean_one : QueriesMeanOne
queries_mean_one = record { one_expression = same_named; none_refused_named = refused_or_named }
