use Rattle.std.proofs.Common.{◌+◌, ◌<◌, length, sym, ap, ◌∙◌, arith}
use Rattle.std.proofs.lemmas.List.{length-take-le}
use Rattle.vx_file_open.proofs.LayoutLemmas.{block_of, range_is, count_is, range_within, sum_small}
use Rattle.vx_file_open.proofs.layouts.Layout.range.Goals as goal

pub slice_bounds-sum_of-end : goal.slice_bounds-sum_of-end
slice_bounds-sum_of-end c =
    let at =
    block_of c.args.self.now c.self.inside.zones c.self.inside.range_lengths.items c.self.inside.places.items c.args.block c.index.result.now c.as_slice-lengths.result.now c.index-2.result.now
    c.self.view_is c.self.invariant c.requires.block c.index.ensures c.as_slice-lengths.ensures.value c.index-2.ensures in
    let column : c.args.column < length c.as_slice-lengths.result.now = omega (arith, at.wide, c.requires.column) in
    sym (length-take-le c.args.column c.as_slice-lengths.result.now (omega (arith, column)))

pub sum_of-requires : goal.sum_of-requires
sum_of-requires c =
    let at =
    block_of c.args.self.now c.self.inside.zones c.self.inside.range_lengths.items c.self.inside.places.items c.args.block c.index.result.now c.as_slice-lengths.result.now c.index-2.result.now
    c.self.view_is c.self.invariant c.requires.block c.index.ensures c.as_slice-lengths.ensures.value c.index-2.ensures in
    sum_small c.args.self.now c.args.block c.args.column c.index-2.result.now c.as_slice-lengths.result.now at

pub overflow_add-place : goal.overflow_add-place
overflow_add-place c =
    let at =
    block_of c.args.self.now c.self.inside.zones c.self.inside.range_lengths.items c.self.inside.places.items c.args.block c.index.result.now c.as_slice-lengths.result.now c.index-2.result.now
    c.self.view_is c.self.invariant c.requires.block c.index.ensures c.as_slice-lengths.ensures.value c.index-2.ensures in
    let column : c.args.column < length c.as_slice-lengths.result.now = omega (arith, at.wide, c.requires.column) in
    omega (arith, c.sum_of.ensures, range_within c.args.self.now c.args.block c.args.column c.index-2.result.now c.as_slice-lengths.result.now at column)

pub offset_bounds-lengths-column : goal.offset_bounds-lengths-column
offset_bounds-lengths-column c =
    let at =
    block_of c.args.self.now c.self.inside.zones c.self.inside.range_lengths.items c.self.inside.places.items c.args.block c.index.result.now c.as_slice-lengths.result.now c.index-2.result.now
    c.self.view_is c.self.invariant c.requires.block c.index.ensures c.as_slice-lengths.ensures.value c.index-2.ensures in
    let column : c.args.column < length c.as_slice-lengths.result.now = omega (arith, at.wide, c.requires.column) in
    omega (arith, column, c.type_inv.lengths)

pub bounds-lengths-column : goal.bounds-lengths-column
bounds-lengths-column c =
    let at =
    block_of c.args.self.now c.self.inside.zones c.self.inside.range_lengths.items c.self.inside.places.items c.args.block c.index.result.now c.as_slice-lengths.result.now c.index-2.result.now
    c.self.view_is c.self.invariant c.requires.block c.index.ensures c.as_slice-lengths.ensures.value c.index-2.ensures in
    let column : c.args.column < length c.as_slice-lengths.result.now = omega (arith, at.wide, c.requires.column) in
    column

pub returns-clause-place : goal.returns-clause-place
returns-clause-place c =
    let at =
    block_of c.args.self.now c.self.inside.zones c.self.inside.range_lengths.items c.self.inside.places.items c.args.block c.index.result.now c.as_slice-lengths.result.now c.index-2.result.now
    c.self.view_is c.self.invariant c.requires.block c.index.ensures c.as_slice-lengths.ensures.value c.index-2.ensures in
    ap (λ k. c.index-2.result.now + k) c.sum_of.ensures ∙ range_is c.args.self.now c.args.block c.args.column c.index-2.result.now c.as_slice-lengths.result.now at

pub returns-clause-count : goal.returns-clause-count
returns-clause-count c =
    let at =
    block_of c.args.self.now c.self.inside.zones c.self.inside.range_lengths.items c.self.inside.places.items c.args.block c.index.result.now c.as_slice-lengths.result.now c.index-2.result.now
    c.self.view_is c.self.invariant c.requires.block c.index.ensures c.as_slice-lengths.ensures.value c.index-2.ensures in
    let column : c.args.column < length c.as_slice-lengths.result.now = omega (arith, at.wide, c.requires.column) in
    count_is c.args.self.now c.args.block c.args.column c.index-2.result.now c.as_slice-lengths.result.now at column

pub returns-clause-within : goal.returns-clause-within
returns-clause-within c =
    let at =
    block_of c.args.self.now c.self.inside.zones c.self.inside.range_lengths.items c.self.inside.places.items c.args.block c.index.result.now c.as_slice-lengths.result.now c.index-2.result.now
    c.self.view_is c.self.invariant c.requires.block c.index.ensures c.as_slice-lengths.ensures.value c.index-2.ensures in
    let column : c.args.column < length c.as_slice-lengths.result.now = omega (arith, at.wide, c.requires.column) in
    omega (arith, c.sum_of.ensures, range_within c.args.self.now c.args.block c.args.column c.index-2.result.now c.as_slice-lengths.result.now at column)
