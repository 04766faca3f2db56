-- The value that is read at a row.
use Rattle.vx_dtype.specs.declared.values.ScalarValue.{ScalarValue}
use Rattle.vx_column.specs.declared.reading.RowValue.{RowValue}
use Rattle.vx_column.specs.declared.reading.RowValue.TheVariants.{Kept, Made}

-- the value, whether it is kept or made
abbrev pub shown : RowValue → ScalarValue
shown (Kept value) = value.now
shown (Made value) = value
