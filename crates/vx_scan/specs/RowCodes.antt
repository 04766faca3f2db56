-- For the checker: no public clause cites this. A code of rows: by it the checker tells those that are seen apart.
use Rattle.std.proofs.Common.{List, refl}
use Rattle.std.specs.Coded.{Coded, code_by, coded_list}
use Rattle.vx_dtype.specs.declared.Nullability.TheVariants.{Nullable}
use Rattle.vx_dtype.specs.Types.{bool_ty}
use Rattle.vx_dtype.specs.Values.{Raw, Typed}
use Rattle.vx_dtype.specs.ValueCodes.{coded_typed}

-- a raw value is stored as a constant
abbrev pub coded_raw : Coded Raw
coded_raw = code_by Typed coded_typed (λ x. record { ty = bool_ty Nullable; value = x }) (λ s. s.value) (λ _. refl)

-- rows are stored as the list of their raw values
abbrev pub coded_rows : Coded (List Raw)
coded_rows = coded_list coded_raw
