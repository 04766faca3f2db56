use Rattle.std.proofs.Common.{rules, ◌≡◌, ◌<◌, ◌≤◌, ◌∙◌, ◌++◌, List, length, ap}
use Rattle.std.proofs.lemmas.List.{take_all}
use Rattle.vx_dtype.specs.Types.{Bytes}
use Rattle.vx_semantics.specs.Merging.{merged_names}
use Rattle.vx_typing.proofs.FewStructs.{one_struct_more}
use Rattle.vx_typing.proofs.few_structs.names_of_few.Goals as goal

pub loop-i-preserved : goal.loop-i-preserved
loop-i-preserved c =
    let l = c.loop-i in
    let structs = c.args.structs.now in
    let own = c.index-structs-i.result in
    let within : l.i < length structs = search rules in
    let more : c.in_ok-names.names.items ≡ l.names.items ++ c.in_ok-new.new.items =
    c.in_ok-names.ensures ∙ ap (λ (ns : List Bytes). l.names.items ++ ns) c.as_slice.ensures.value in
    one_struct_more structs l.i own l.names.items c.in_ok-new.new.items c.in_ok-names.names.items c.requires within c.index-structs-i.is l.invariant c.in_ok-new.ensures more

pub returns : goal.returns
returns c =
    let l = c.loop-i in
    let past : length c.args.structs.now ≤ l.i = search rules in
    l.invariant ∙ ap (merged_names (λ (own : List Bytes). own)) (take_all l.i c.args.structs.now past)
