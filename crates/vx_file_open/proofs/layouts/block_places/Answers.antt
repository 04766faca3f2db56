use Rattle.std.proofs.Common.{◌≡◌, ◌+◌, sum, arith}
use Rattle.vx_file_open.specs.Layouts.{lists_of, block_place}
use Rattle.vx_file_open.proofs.PlaceLemmas.{places_more_with, list_at, place_within}
use Rattle.vx_file_open.proofs.layouts.block_places.Goals as goal

pub sum_of-place-requires : goal.sum_of-place-requires
sum_of-place-requires c =
    let there = list_at c.args.range_lengths.now c.loop-i.i c.index-range_lengths-i.result c.as_slice.result.now c.loop-i-test.true c.index-range_lengths-i.is c.as_slice.ensures.value in
    let within = place_within c.args.front (lists_of c.args.range_lengths.now) c.loop-i.i c.as_slice.result.now there in
    omega (arith, within, c.requires)

pub overflow_add-place : goal.overflow_add-place
overflow_add-place c =
    let there = list_at c.args.range_lengths.now c.loop-i.i c.index-range_lengths-i.result c.as_slice.result.now c.loop-i-test.true c.index-range_lengths-i.is c.as_slice.ensures.value in
    let within = place_within c.args.front (lists_of c.args.range_lengths.now) c.loop-i.i c.as_slice.result.now there in
    omega (arith, within, c.requires, c.loop-i.invariant.1, c.sum_of-place.ensures)

pub loop-i-preserved : goal.loop-i-preserved
loop-i-preserved c =
    let nss = lists_of c.args.range_lengths.now in
    let there = list_at c.args.range_lengths.now c.loop-i.i c.index-range_lengths-i.result c.as_slice.result.now c.loop-i-test.true c.index-range_lengths-i.is c.as_slice.ensures.value in
    let place : c.loop-i.place + c.sum_of-place.result ≡ block_place c.args.front nss c.loop-i.i + sum c.as_slice.result.now = omega (arith, c.loop-i.invariant.1, c.sum_of-place.ensures) in
    places_more_with c.args.front nss c.loop-i.i (c.loop-i.place + c.sum_of-place.result) c.as_slice.result.now c.push-in-loop-i.new.self.items c.loop-i.places.items there place c.in_ok-push-2.ensures.items c.loop-i.invariant.0
