use Rattle.std.proofs.Common.{lit<}
use Rattle.std.proofs.lemmas.Str.Pattern.{split_parts}
use Rattle.std.specs.String.{string_bytes}
use Rattle.vx_sql_lines.proofs.QuoteLemmas.{doubled-without_quote, utf8-behind_quote, written_to_quote}
use Rattle.vx_sql_lines.proofs.names.push_doubled.Goals as goal

pub loop-before-preserved : goal.loop-before-preserved
loop-before-preserved c =
    let left = c.loop-before.left.now in
    let parts = rw c.in-Some.is at (split_parts 39 left c.split_once.result c.split_once.ensures.cases (lit< tt)) in
    record {
      text = utf8-behind_quote left c.in-Some.before.now c.in-Some.behind.now parts.0 c.loop-before.invariant.text;
      written =
          written_to_quote _ (string_bytes c.loop-before.out) (string_bytes c.push_str.new.self) (string_bytes c.push_str-in-Some.new.self) left
          c.in-Some.before.now c.in-Some.behind.now c.loop-before.invariant.written parts.0 parts.1 c.in_ok-push_str.ensures.bytes
          c.in_ok-push_str-2.ensures.bytes;
    }

pub returns : goal.returns
returns c =
    let left = c.loop-before.left.now in
    let without = rw c.in_default.is at (split_parts 39 left c.split_once.result c.split_once.ensures.cases (lit< tt)) in
    cc (doubled-without_quote left without, c.loop-before.invariant.written, c.in_ok-push_str-3.ensures.bytes)
