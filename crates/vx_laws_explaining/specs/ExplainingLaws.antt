-- Laws of what is explained.
use Rattle.std.specs.Prelude.{◌≡◌, ℕ, true, not, List, [], length, map, None, Ok}
use Rattle.std.specs.List.{filter}
use Rattle.vx_dtype.specs.Types.{Bytes, Ty}
use Rattle.vx_semantics.specs.Slots.{slots_fit}
use Rattle.vx_semantics.specs.Scans.{kept_blocks, skipped_blocks}
use Rattle.vx_semantics.specs.Tables.{Zones, numbered_from, row_type}
use Rattle.vx_semantics.specs.Typing.{typed_of}
use Rattle.vx_zones.specs.Zoning.{broken_rule}
use Rattle.vx_laws_statements.specs.Statements.{Plan, plan_of}
use Rattle.vx_laws_shell.specs.FolderContents.{AreFileNames, kept_in}
use Rattle.vx_laws_shell.specs.Origins.{block_file, folder}
use Rattle.vx_laws_shell.specs.Paths.{Paths, holds, lists}
use Rattle.vx_laws_shell.specs.Running.{End}
use Rattle.vx_laws_shell.specs.Wants.{condition_tree}
use Rattle.vx_laws_explaining.specs.Explained.{Explained, explained_of, number_skipped}
use Rattle.vx_laws_explaining.specs.Explaining.{AskOrigin, IsAskedText}
use Rattle.vx_laws_explaining.specs.ExplainingWords.{Asked}

-- the numbers of the blocks that are told as skipped, and of those that are told as read
abbrev pub told_skipped : Explained → List ℕ
told_skipped x = map (λ b. b.0) (filter (λ b. b.1) (numbered_from 0 x.skipped))

abbrev pub told_read : Explained → List ℕ
told_read x = map (λ b. b.0) (filter (λ b. not b.1) (numbered_from 0 x.skipped))

-- the blocks told as skipped are those that a scan of the statement's expressions skips, and no others; the blocks told as read are those that it keeps
abbrev pub SkippedAreScans : Type 0
SkippedAreScans =
    (zones : Zones) (plan : Plan)
    → (told_skipped (explained_of zones plan) ≡ skipped_blocks zones [] (condition_tree plan.filter))
    × (told_read (explained_of zones plan) ≡ kept_blocks zones [] (condition_tree plan.filter))

-- and so many are told
abbrev pub NumberIsSkipped : Type 0
NumberIsSkipped =
    (zones : Zones) (plan : Plan)
    → number_skipped (explained_of zones plan).skipped ≡ length (skipped_blocks zones [] (condition_tree plan.filter))

-- it is told of each block
abbrev pub EachBlockIsTold : Type 0
EachBlockIsTold = (zones : Zones) (plan : Plan) → length (explained_of zones plan).skipped ≡ length (explained_of zones plan).lengths

-- the condition of a plan over zones that break no rule is typed over their rows, and asks no slot; so are its rows
abbrev pub PlansAreTyped : Type 0
PlansAreTyped =
    (zones : Zones) (text : Bytes) (plan : Plan) → broken_rule zones ≡ None → plan_of (row_type zones.columns) text ≡ Ok plan
    → ((u : Ty) × (typed_of (row_type zones.columns) (condition_tree plan.filter) ≡ Ok u)) × (slots_fit [] (condition_tree plan.filter) ≡ true)
    × (typed_of (row_type zones.columns) plan.rows.tree ≡ Ok plan.rows.ty) × (slots_fit [] plan.rows.tree ≡ true)

-- ---- what is known of a table

-- it is known what stands in the folder of a path, and what each of its block files is
pub record IsKnownFolder (paths : Paths) (path : Bytes) : Type 0 where
  pub standing : List Bytes
  pub names : List Bytes
  pub files : List Bytes
  pub listed : paths.listed path ≡ lists standing
  pub ordered : AreFileNames standing names
  pub kept : kept_in paths.kept path names ≡ map holds files

-- where the bytes of a block file are known, a statement over it is explained by one text
abbrev pub OneExplanationOfFile : Type 0
OneExplanationOfFile =
    (words : List Bytes) (paths : Paths) (asked : Asked) (path bytes : Bytes) (i j k l : End) (text other : Bytes)
    → AskOrigin words asked (block_file path) → paths.kept path ≡ holds bytes → IsAskedText words paths i j text → IsAskedText words paths k l other
    → text ≡ other

-- and so it is over a folder of which it is known what stands there and what each block file is
abbrev pub OneExplanationOfFolder : Type 0
OneExplanationOfFolder =
    (words : List Bytes) (paths : Paths) (asked : Asked) (path : Bytes) (i j k l : End) (text other : Bytes) → AskOrigin words asked (folder path)
    → IsKnownFolder paths path → IsAskedText words paths i j text → IsAskedText words paths k l other → text ≡ other
