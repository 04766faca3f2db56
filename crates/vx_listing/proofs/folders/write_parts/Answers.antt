use Rattle.std.proofs.Common.{rules, ◌≡◌, ◌∙◌, sym, ap, ℕ, ◌+◌, ◌<◌, ◌≤◌, [], ◌++◌, map, length, drop, refl, arith}
use Rattle.std.proofs.Math.ListN.{get_or}
use Rattle.std.specs.String.{string_bytes}
use Rattle.vx_laws_listing.specs.ListingTexts.{block_lines, end_among, lengths_between, part_lines}
use Rattle.vx_listing.proofs.TextLemmas.{end_within, parts_end, parts_step}
use Rattle.vx_listing.proofs.WriteLemmas.{all_written, more_cut, more_written, none_written, part_as}
use Rattle.vx_listing.proofs.folders.write_parts.Goals as goal

pub loop-file-init : goal.loop-file-init
loop-file-init g c = ([], none_written _, refl)

pub write_part-requires : goal.write_part-requires
write_part-requires g c =
    let within = end_within 0 c.args.blocks (c.loop-file.file + 1) c.args.begins.now c.requires.ascend in
    omega (arith, within, c.end_among-end.ensures, c.requires.all)

pub loop-file-preserved : goal.loop-file-preserved
loop-file-preserved g c =
    let path = c.args.path.now in
    let zones = c.args.zones.now in
    let names = c.args.names.now in
    let begins = c.args.begins.now in
    let i = c.loop-file.file in
    let name = c.index-names-file.result in
    let begin = get_or begins i 0 in
    let rest = drop (i + 1) begins in
    let last = end_among (length zones.lengths) rest in
    let within : i < length names = search rules in
    let so_far = c.loop-file.invariant in
    let ends : c.end_among-end.result ≡ last = c.end_among-end.ensures ∙ ap (λ (n : ℕ). end_among n rest) c.requires.all in
    more_written so_far.0 (block_lines (path ++ string_bytes name) zones.stats begin (lengths_between begin last zones.lengths))
    (part_lines path zones (map string_bytes (drop i names)) (drop i begins)) (part_lines path zones (map string_bytes (drop (i + 1) names)) rest)
    (part_lines path zones (map string_bytes names) begins) _ _ _ so_far.2
    (parts_step string_bytes path zones names begins i name within c.requires.paired (sym c.index-names-file.is)) so_far.1
    (part_as path c.as_str.result.now (string_bytes name) zones begin c.end_among-end.result last _ _ _ c.as_str.ensures.value ends c.in-Ok.ensures)

pub returns-in-Err : goal.returns-in-Err
returns-in-Err g c =
    let path = c.args.path.now in
    let zones = c.args.zones.now in
    let names = c.args.names.now in
    let begins = c.args.begins.now in
    let i = c.loop-file.file in
    let name = c.index-names-file.result in
    let begin = get_or begins i 0 in
    let rest = drop (i + 1) begins in
    let last = end_among (length zones.lengths) rest in
    let within : i < length names = search rules in
    let so_far = c.loop-file.invariant in
    let ends : c.end_among-end.result ≡ last = c.end_among-end.ensures ∙ ap (λ (n : ℕ). end_among n rest) c.requires.all in
    more_cut so_far.0 (block_lines (path ++ string_bytes name) zones.stats begin (lengths_between begin last zones.lengths))
    (part_lines path zones (map string_bytes (drop i names)) (drop i begins)) (part_lines path zones (map string_bytes (drop (i + 1) names)) rest)
    (part_lines path zones (map string_bytes names) begins) _ _ _ c.in-Err.error so_far.2
    (parts_step string_bytes path zones names begins i name within c.requires.paired (sym c.index-names-file.is)) so_far.1
    (part_as path c.as_str.result.now (string_bytes name) zones begin c.end_among-end.result last _ _ _ c.as_str.ensures.value ends c.in-Err.ensures)

pub returns : goal.returns
returns g c =
    let path = c.args.path.now in
    let zones = c.args.zones.now in
    let names = c.args.names.now in
    let begins = c.args.begins.now in
    let i = c.loop-file.file in
    let past : length names ≤ i = search rules in
    let so_far = c.loop-file.invariant in
    all_written so_far.0 (part_lines path zones (map string_bytes (drop i names)) (drop i begins)) (part_lines path zones (map string_bytes names) begins) _ _
    so_far.2 (parts_end string_bytes path zones names begins i past) so_far.1
