-- Why a scan gives no report, by kind: which errors can come at an end is said by their kinds.
use Rattle.vx_semantics.specs.Breaks.{Cause, by_sum, by_cast}
use Rattle.vx_scan.specs.declared.errors.ScanError.{ScanError}
use Rattle.vx_scan.specs.declared.errors.ScanError.TheVariants as errors

-- want of memory; a text that spells no expression; typing that refuses the expressions; a sum or a cast that breaks; or a read that failed
pub data ErrorKind : Type 0 where
  of_memory : ErrorKind
  of_text : ErrorKind
  of_types : ErrorKind
  of_break : Cause → ErrorKind
  of_read : ErrorKind

-- the kind of an error
abbrev pub kind_of : ScanError → ErrorKind
kind_of errors.NoMemory = of_memory
kind_of (errors.BadWire side) = of_text
kind_of (errors.TooDeep side) = of_text
kind_of (errors.TooManyNodes side) = of_text
kind_of (errors.UnknownExpr side) = of_text
kind_of (errors.BadMetadata side) = of_text
kind_of (errors.WrongChildren side) = of_text
kind_of (errors.NotStruct side) = of_types
kind_of (errors.NullableSelect side) = of_types
kind_of (errors.UnknownField side) = of_types
kind_of (errors.DuplicateField side) = of_types
kind_of (errors.TypeMismatch side) = of_types
kind_of errors.FilterNotBool = of_types
kind_of errors.Overflow = of_break by_sum
kind_of errors.BadCast = of_break by_cast
kind_of errors.StoreFault = of_read

-- of the errors only those of texts come, and only for this reason; want of memory may come at any time
abbrev pub OnlyOfText : ErrorKind → Type 0 → Type 0
OnlyOfText of_memory Why = Unit {0}
OnlyOfText of_text Why = Why
OnlyOfText _ Why = ⊥

-- only those of typing, for this reason, or want of memory
abbrev pub OnlyOfTypes : ErrorKind → Type 0 → Type 0
OnlyOfTypes of_memory Why = Unit {0}
OnlyOfTypes of_types Why = Why
OnlyOfTypes _ Why = ⊥

-- want of memory alone
abbrev pub OnlyOfMemory : ErrorKind → Type 0
OnlyOfMemory of_memory = Unit {0}
OnlyOfMemory _ = ⊥

-- only a break, or want of memory
abbrev pub OnlyOfBreaks : ErrorKind → Type 0
OnlyOfBreaks of_memory = Unit {0}
OnlyOfBreaks (of_break cause) = Unit {0}
OnlyOfBreaks _ = ⊥
