use Rattle.std.proofs.Common.{◌≡◌, ◌++◌, ◌≤◌, ℕ, List, map, sum, ap, refl, ◌∙◌, subst, arith}
use Rattle.std.specs.List.{AllByRecursion, flat_map}
use Rattle.std.proofs.lemmas.Result.{err_from_is_err_and}
use Rattle.vx_dtype.specs.Types.{Bytes}
use Rattle.vx_tables.specs.Blocks.{block_view}
use Rattle.vx_wire_bytes.specs.Fields.{IsShort}
use Rattle.vx_laws_file.specs.FileForms.{most_rows}
use Rattle.vx_file_bytes.specs.WritingParts.{BlockIs, block_bytes, block_numbers, header_front, joined_bytes}
use Rattle.vx_file_bytes.proofs.TableLemmas.{file_is, has_file, no_refusal, short_blocks, short_header, unwritten}
use Rattle.vx_file_bytes.proofs.writing.write_table.Goals as goal

pub returns-in_err-write_blocks-clause-refused : goal.returns-in_err-write_blocks-clause-refused
returns-in_err-write_blocks-clause-refused c =
    let zones = c.args.zones.now in
    let blocks = map block_view c.args.blocks.now in
    let p = err_from_is_err_and c.from_residual-in_err-write_blocks.result c.from_residual-in_err-write_blocks.ensures.1 in
    rw (p.1, p.2)
    (unwritten zones blocks (AllByRecursion (BlockIs IsShort) blocks) c.in_err-write_blocks.field-0.0 (no_refusal zones blocks c.requires.lengths c.requires.types) (short_blocks zones blocks)
    c.in_err-write_blocks.ensures.err)

pub returns-then-len-ge-LONG-clause-refused : goal.returns-then-len-ge-LONG-clause-refused
returns-then-len-ge-LONG-clause-refused c =
    let zones = c.args.zones.now in
    let blocks = map block_view c.args.blocks.now in
    let written = c.write_blocks.new.header.items in
    let header : written ≡ header_front zones ++ flat_map block_numbers blocks =
    c.in_ok-write_blocks.ensures.ok.1 ∙ ap (λ (b : Bytes). b ++ flat_map block_numbers blocks) c.in_ok-header.ensures.ok.0 in
    (no_refusal zones blocks c.requires.lengths c.requires.types, λ p. omega (arith, short_header zones blocks written header p, c.len.ensures, c.if-len-ge-LONG.true))

pub returns-clause-written : goal.returns-clause-written
returns-clause-written c =
    let zones = c.args.zones.now in
    let blocks = map block_view c.args.blocks.now in
    let written = c.write_blocks.new.header.items in
    let header : written ≡ header_front zones ++ flat_map block_numbers blocks =
    c.in_ok-write_blocks.ensures.ok.1 ∙ ap (λ (b : Bytes). b ++ flat_map block_numbers blocks) c.in_ok-header.ensures.ok.0 in
    let ranges : c.write_blocks.new.ranges.items ≡ flat_map block_bytes blocks =
    c.in_ok-write_blocks.ensures.ok.0 ∙ ap (λ (b : Bytes). b ++ flat_map block_bytes blocks) c.new-ranges.ensures.items in
    let head = c.as_slice.ensures.value in
    let tail = c.as_slice-2.ensures.value in
    let whole : c.in_ok-joined.field-0.items ≡ joined_bytes written c.write_blocks.new.ranges.items = c.in_ok-joined.ensures ∙ (λ i. joined_bytes (head i) (tail i)) in
    let rows = subst (λ (ns : List ℕ). sum ns ≤ most_rows) c.lengths.ensures.lengths (c.if-not-are_few_rows.ensures.0 refl) in
    let short : IsShort written = omega (arith, c.len.ensures, c.if-len-ge-LONG.false) in (
      file_is zones blocks written c.write_blocks.new.ranges.items c.in_ok-joined.field-0.items header ranges whole,
      has_file zones blocks written c.requires.lengths c.requires.types c.requires.fit c.lengths.ensures.rules c.lengths.ensures.fit c.lengths.ensures.few rows
          c.in_ok-write_blocks.ensures.ok.2 c.in_ok-header.ensures.ok.1 header short,
    )
