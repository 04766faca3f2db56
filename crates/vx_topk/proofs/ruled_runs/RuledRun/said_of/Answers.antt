use Rattle.std.proofs.Common.{◌≡◌, ◌∙◌, ◌+◌, ◌-◌, ◌<◌, ap, Bool, List, false, length, get_or, arith}
use Rattle.vx_topk.proofs.RuledRunLemmas.{told-at}
use Rattle.vx_topk.proofs.ruled_runs.RuledRun.said_of.Goals as goal

pub returns-then-place-ruled : goal.returns-then-place-ruled
returns-then-place-ruled c says told =
    let run = c.args.self.now in
    let same = c.as_slice-ruled.ensures.value in
    let long : length c.as_slice-ruled.result.now ≡ length run.ruled.items = ap (λ (bs : List Bool). length bs) same in
    let place = c.args.block - run.first in
    let within : place < length run.ruled.items = omega (arith, long) in
    let there : run.first + place ≡ c.args.block = omega arith in
    ap (λ (bs : List Bool). get_or bs place false) same ∙ told-at says run.first (length run.ruled.items) run.ruled.items told place c.args.block false within there
