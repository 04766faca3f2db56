pub mod Preparing
pub mod Parts
pub use Rattle.vx_dtype.specs.Types
pub use Rattle.vx_dtype.specs.TypeRules
pub use Rattle.vx_dtype.specs.TypeViews
pub use Rattle.vx_dtype.specs.Values
pub use Rattle.vx_dtype.specs.Structs
pub use Rattle.vx_expr.specs.Trees
pub use Rattle.vx_column.specs.Columns
pub use Rattle.vx_semantics.specs.Tables
pub use Rattle.vx_semantics.specs.Meaning
pub use Rattle.vx_semantics.specs.Breaks
pub use Rattle.vx_semantics.specs.Asked
pub use Rattle.vx_typing.specs.TypingAnswers
pub use Rattle.vx_eval.specs.Evaluating
pub use Rattle.vx_laws_simplifying.specs.Narrowing
pub use Rattle.vx_laws_columns.specs.Columns as SplitLaws
