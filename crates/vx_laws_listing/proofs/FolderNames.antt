-- What stands in a folder decides the names of its block files.
use Rattle.std.proofs.Common.{◌≡◌, sym, ◌∙◌, List}
use Rattle.vx_dtype.specs.Types.{Bytes}
use Rattle.vx_laws_shell.specs.FolderContents.{AreFileNames}
use Rattle.vx_laws_listing.proofs.OneOrder.{one_order}

pub one_names : (listed xs ys : List Bytes) → AreFileNames listed xs → AreFileNames listed ys → xs ≡ ys
one_names listed xs ys a b = one_order xs ys a.ascending b.ascending (λ name. a.same name ∙ sym (b.same name))
