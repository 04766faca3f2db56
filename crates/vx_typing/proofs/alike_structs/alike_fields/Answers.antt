use Rattle.std.proofs.Common.{◌∙◌, drop, arith}
use Rattle.std.proofs.lemmas.List.{length-drop}
use Rattle.vx_typing.proofs.AlikeStructs.{first_and_others, alike_names, alike_given}
use Rattle.vx_typing.proofs.alike_structs.alike_fields.Goals as goal

pub returns-in_ok-own_fields-in-len1-up-clause-names : goal.returns-in_ok-own_fields-in-len1-up-clause-names
returns-in_ok-own_fields-in-len1-up-clause-names c =
    let structs = c.args.structs.now in
    let names = c.first-item.result in
    let is = first_and_others structs names c.in-len1-up.len_at_least c.first-item.is in
    c.in_ok-own_fields-in-len1-up.ensures.names ∙ c.as_slice.ensures ∙ alike_names structs names (drop 1 structs) is c.requires

pub returns-in_ok-own_fields-in-len1-up-clause-places : goal.returns-in_ok-own_fields-in-len1-up-clause-places
returns-in_ok-own_fields-in-len1-up-clause-places c =
    let structs = c.args.structs.now in
    let names = c.first-item.result in
    let is = first_and_others structs names c.in-len1-up.len_at_least c.first-item.is in
    let fields = c.in_ok-own_fields-in-len1-up.field-0.items in
    alike_given structs names (drop 1 structs) is c.requires fields _ c.as_slice.result.now c.in_ok-own_fields-in-len1-up.ensures.names c.in_ok-own_fields-in-len1-up.ensures.places
    (omega (arith, length-drop 1 structs, c.in-len1-up.len_at_least)) c.as_slice.ensures
