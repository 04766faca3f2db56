-- Values of statistics, beside their types.
use Rattle.std.proofs.Common.{◌≡◌, ap, Some, None}
use Rattle.vx_dtype.specs.Types.{Bytes, Ty}
use Rattle.vx_dtype.specs.Values.{Raw}
use Rattle.vx_dtype.specs.ScalarAnswers.{typed}
use Rattle.vx_wire_bytes.specs.Reading.{◌>>=◌}
use Rattle.vx_wire_bytes.specs.ValueReading.{value_at}
use Rattle.vx_laws_file.specs.HeaderReading.{scalar_at}

pub scalar_some : (t : Ty) (bytes : Bytes) (x : Raw) (after : Bytes) → Some (x, after) ≡ value_at t bytes → Some (typed t x, after) ≡ scalar_at t bytes
unfolding scalar_at
scalar_some t bytes x after e = ap (λ o. o >>= λ y. Some (typed t y.0, y.1)) e

pub scalar_none : (t : Ty) (bytes : Bytes) → None ≡ value_at t bytes → None ≡ scalar_at t bytes
unfolding scalar_at
scalar_none t bytes e = ap (λ o. o >>= λ y. Some (typed t y.0, y.1)) e
