-- For the checker: no public clause cites this.
-- The order of the rows that are held is total.
use Rattle.std.specs.Cmp.{IsTotalOrder, nat_cmp_total, int_cmp_total, bool_cmp_total, on_total, back_total, then_total}
use Rattle.std.specs.Cmp.Lexicographic.{nat_list_cmp_total}
use Rattle.vx_topk.specs.RowKeys.{key_kind, key_truth, key_number, key_text, kin_cmp, rising, falling, place_cmp, row_cmp}
use Rattle.vx_topk.specs.declared.row_keys.RowPlace.{RowPlace}
use Rattle.vx_topk.specs.declared.row_keys.RowKey.{RowKey}

pub kin_cmp_total : IsTotalOrder kin_cmp
kin_cmp_total = then_total (on_total key_truth bool_cmp_total) (then_total (on_total key_number int_cmp_total) (on_total key_text nat_list_cmp_total))

pub place_cmp_total : IsTotalOrder place_cmp
place_cmp_total = then_total (on_total (λ (p : RowPlace). p.block) nat_cmp_total) (on_total (λ (p : RowPlace). p.row) nat_cmp_total)

pub row_cmp_total : IsTotalOrder row_cmp
row_cmp_total =
    then_total (on_total (λ (k : RowKey). k.descending) bool_cmp_total)
    (then_total (on_total (λ (k : RowKey). key_kind k.key) nat_cmp_total)
    (then_total (on_total rising kin_cmp_total)
    (then_total (back_total (on_total falling kin_cmp_total)) (on_total (λ (k : RowKey). k.place) place_cmp_total))))
