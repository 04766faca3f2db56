use Rattle.std.proofs.Common.{◌++◌, refl}
use Rattle.std.proofs.lemmas.Map.Iter.{rest_more, rest_all}
use Rattle.vx_partition.specs.Entries.{numbered_entries}
use Rattle.vx_partition.specs.Numbering.{known}
use Rattle.vx_partition.proofs.EntryLemmas.{as_entries}
use Rattle.vx_partition.proofs.KeyLemmas.{keyed, distinct_numbered, one_more_keyed, all_keyed}
use Rattle.vx_partition.proofs.annotations.Annotations.of_numbered.Goals as goal

pub loop-annotated-init : goal.loop-annotated-init
loop-annotated-init g c =
    λ i. keyed (λ v. v.items) (c.new-entries.ensures.empty i) ++ as_entries (c.into_iter-annotated-iterator.ensures.into_iter_gives.0 i)

pub loop-annotated-preserved : goal.loop-annotated-preserved
loop-annotated-preserved g c =
    let found = c.args.found in
    let distinct = distinct_numbered (known found.numbers) c.requires.numbering.once found.entries.entries c.requires.entries
    c.into_iter-annotated-iterator.ensures.into_iter_gives.4 in
    let taken = rest_more (λ p. p) c.loop-annotated.annotated-iterator c.next.new.self c.next.result _ c.in-Some.is c.next.ensures.steps in
    one_more_keyed (λ v. v.items) (numbered_entries found) distinct c.loop-annotated.entries.entries c.insert.new.self.entries
    c.loop-annotated.annotated-iterator c.next.new.self _ c.in-Some.annotated.annotations refl c.loop-annotated.invariant taken c.in_ok-insert.ensures.entries

pub loop-annotated-preserved-in_ok-insert : goal.loop-annotated-preserved-in_ok-insert
loop-annotated-preserved-in_ok-insert g c =
    let found = c.args.found in
    let distinct = distinct_numbered (known found.numbers) c.requires.numbering.once found.entries.entries c.requires.entries
    c.into_iter-annotated-iterator.ensures.into_iter_gives.4 in
    let taken = rest_more (λ p. p) c.loop-annotated.annotated-iterator c.next.new.self c.next.result _ c.in-Some.is c.next.ensures.steps in
    one_more_keyed (λ v. v.items) (numbered_entries found) distinct c.loop-annotated.entries.entries c.insert.new.self.entries
    c.loop-annotated.annotated-iterator c.next.new.self _ c.in-Some.annotated.annotations refl c.loop-annotated.invariant taken c.in_ok-insert.ensures.entries

pub returns : goal.returns
returns g c =
    let found = c.args.found in
    let distinct = distinct_numbered (known found.numbers) c.requires.numbering.once found.entries.entries c.requires.entries
    c.into_iter-annotated-iterator.ensures.into_iter_gives.4 in
    all_keyed (λ v. v.items) (numbered_entries found) distinct c.loop-annotated.entries.entries c.loop-annotated.annotated-iterator c.loop-annotated.invariant
    (rest_all (λ p. p) c.loop-annotated.annotated-iterator c.next.new.self c.next.result c.in-None.is c.next.ensures.steps)
