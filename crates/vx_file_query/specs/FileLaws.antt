-- The scan of a block file that an input asks ends in one way: the causes of its endings exclude one another.
use Rattle.std.specs.Prelude.{◌≡◌, ◌⊎◌}
use Rattle.vx_dtype.specs.Types.{Bytes}
use Rattle.vx_expr.specs.Trees.{Tree}
use Rattle.vx_semantics.specs.Breaks.{Cause}
use Rattle.vx_laws_file.specs.FileForms.{FileContent}
use Rattle.vx_request.specs.FileRequests.{RequestedFile}
use Rattle.vx_file_query.specs.FileEndings.{HoldsFileScan, FileEnding, file_broken, FileEnds}

-- two scans are asked by one request, of one file's content, of one filter and of one projection
pub record IsSameFileScan (a : RequestedFile) (held : FileContent) (f p : Tree) (b : RequestedFile) (other : FileContent) (g q : Tree) : Type 0 where
  pub asked : a ≡ b
  pub content : held ≡ other
  pub filter : f ≡ g
  pub projection : p ≡ q

-- an input asks one scan
abbrev pub OneFileScan : Type 0
OneFileScan =
    (input : Bytes) (a b : RequestedFile) (content other : FileContent) (f p g q : Tree) → HoldsFileScan input a content f p → HoldsFileScan input b other g q
    → IsSameFileScan a content f p b other g q

-- two endings are the same; or both are breaks, of which either may be told where the first phase that breaks does so by both causes
abbrev pub IsSameEnding : FileEnding → FileEnding → Type 0
IsSameEnding x y = (x ≡ y) ⊎ ((cause : Cause) × (other : Cause) × (x ≡ file_broken cause) × (y ≡ file_broken other))

-- the scan that an input asks ends in one way
abbrev pub FileScansEndOneWay : Type 0
FileScansEndOneWay = (input : Bytes) (x y : FileEnding) → FileEnds input x → FileEnds input y → IsSameEnding x y
