-- The explanation of a statement over the zones of a table, in each form: what stands before the blocks, a piece for each block, and what stands behind them.
use Rattle.std.specs.Prelude.{ℕ, suc, Bool, List, [], ◌∷◌, ◌++◌, codes, Result, Ok, Err}
use Rattle.vx_dtype.specs.Types.{Bytes}
use Rattle.vx_semantics.specs.Tables.{Zones, row_type}
use Rattle.vx_laws_statements.specs.Refusals.{StatementRefusal}
use Rattle.vx_laws_statements.specs.Statements.{Plan, plan_of}
use Rattle.vx_laws_shell.specs.Wants.{OrderRefusal, Wanted, wanted_of}
use Rattle.vx_laws_explaining.specs.ExplainingWords.{Asked, Form, as_text, as_json, as_picture}
use Rattle.vx_laws_explaining.specs.Explained.{Explained, explained_of}
use Rattle.vx_laws_explaining.specs.ExplainedTexts.{text_front, block_shown}
use Rattle.vx_laws_explaining.specs.ExplainedJson.{json_front, block_json}
use Rattle.vx_laws_explaining.specs.ExplainedPictures.{picture_front, block_pictured}

-- what stands before the blocks
abbrev pub front_in : Form → Explained → Bytes
front_in as_text x = text_front x
front_in as_json x = json_front x
front_in as_picture x = picture_front x

-- the piece of a block, by its number, its rows, and whether it is skipped
abbrev pub block_in : Form → Explained → ℕ → ℕ → Bool → Bytes
block_in as_text x block rows skipped = block_shown x.deciders block rows skipped
block_in as_json x block rows skipped = block_json x.deciders block rows skipped
block_in as_picture x block rows skipped = block_pictured x.columns x.deciders block rows skipped

-- what stands behind the blocks
abbrev pub end_in : Form → Bytes
end_in as_text = []
end_in as_json = codes "]}\n"
end_in as_picture = codes "</svg>\n"

-- the pieces of blocks of these lengths, numbered from this one on, as far as it is known of them whether they are skipped
abbrev pub blocks_in : Form → Explained → ℕ → List ℕ → List Bool → Bytes
blocks_in form x block (rows ∷ lengths) (out ∷ skipped) = block_in form x block rows out ++ blocks_in form x (suc block) lengths skipped
blocks_in form x block _ _ = []

-- the pieces of the blocks, and what stands behind them
abbrev pub rest_in : Form → Explained → Bytes
rest_in form x = blocks_in form x 0 x.lengths x.skipped ++ end_in form

-- an explanation
abbrev pub explanation_in : Form → Explained → Bytes
explanation_in form x = front_in form x ++ rest_in form x

-- why a statement isn't explained over a table: it names nothing over its columns, or its rows aren't wanted
pub data Unexplained : Type 0 where
  unplanned : StatementRefusal → Unexplained
  unwanted : OrderRefusal → Unexplained

-- the explanation of a plan whose rows are wanted
abbrev pub explained_wanted : Form → Zones → Plan → Result Wanted OrderRefusal → Result Bytes Unexplained
explained_wanted form zones plan (Ok wanted) = Ok (explanation_in form (explained_of zones plan))
explained_wanted form zones plan (Err r) = Err (unwanted r)

abbrev pub explained_planned : Form → Zones → Result Plan StatementRefusal → Result Bytes Unexplained
explained_planned form zones (Ok plan) = explained_wanted form zones plan (wanted_of zones.columns plan)
explained_planned form zones (Err r) = Err (unplanned r)

-- the explanation that words ask over zones, or why there is none
abbrev pub explanation_of : Zones → Asked → Result Bytes Unexplained
explanation_of zones asked = explained_planned asked.form zones (plan_of (row_type zones.columns) asked.statement)
