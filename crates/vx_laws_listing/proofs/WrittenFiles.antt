-- What is written is listed.
use Rattle.std.proofs.Common.{refl, sym, subst}
use Rattle.vx_laws_file.specs.FileForms.{content_of}
use Rattle.vx_laws_file.specs.Opening.{IsOpened}
use Rattle.vx_laws_file.proofs.WrittenLemmas.{written_is_opened}
use Rattle.vx_laws_writing.specs.Writing.{blocks_kept, zones_kept}
use Rattle.vx_laws_listing.specs.ListingLaws.{WrittenIsListed}

pub written_is_listed : WrittenIsListed
written_is_listed rows told bytes is =
    let zones = zones_kept rows told in
    let blocks = blocks_kept rows told in
    record {
      content = content_of zones blocks;
      opened = subst (λ bs. IsOpened bs (content_of zones blocks)) (sym is.bytes_are) (written_is_opened zones blocks is.file);
      zones_are = refl;
    }
