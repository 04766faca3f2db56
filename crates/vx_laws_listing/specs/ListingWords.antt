-- What the words of `blocks` ask: a block file, or the block files of a folder.
use Rattle.std.specs.Prelude.{cond, List, [], ◌∷◌, codes, Option, Some, None}
use Rattle.std.specs.Str.{bytes_eq}
use Rattle.vx_dtype.specs.Types.{Bytes}
use Rattle.vx_laws_shell.specs.Origins.{Origin, origin_on_disk}

-- where the blocks are that words ask, by the name of a folder or of a block file; none where they have not this form
unfoldable pub listing_asked_of : List Bytes → Option Origin
listing_asked_of (word ∷ name ∷ []) = cond (bytes_eq word (codes "blocks")) (Some (origin_on_disk name)) None
listing_asked_of _ = None
