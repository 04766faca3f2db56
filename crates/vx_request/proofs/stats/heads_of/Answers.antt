use Rattle.std.proofs.Common.{◌≡◌, length, arith}
use Rattle.vx_request.proofs.HeadLemmas.{as_many_paths, path_at}
use Rattle.vx_request.proofs.stats.heads_of.Goals as goal

pub bounds-paths-i : goal.bounds-paths-i
bounds-paths-i c =
    let many : length c.args.paths.now ≡ length c.args.stats.now = as_many_paths c.args.stats.now c.args.paths.now c.requires in
    omega (arith, many, c.loop-i-test.true)

pub head_of-requires : goal.head_of-requires
head_of-requires c =
    path_at c.args.stats.now c.args.paths.now c.loop-i.i c.index-stats-i.result c.index-paths-i.result c.loop-i-test.true c.index-stats-i.is c.index-paths-i.is c.requires
