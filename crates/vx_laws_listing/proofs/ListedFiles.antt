-- One listing of a file.
use Rattle.std.proofs.Common.{◌≡◌, ap, sym, ◌∙◌, subst, inl, inr, List, ◌++◌, Option, Some}
use Rattle.vx_dtype.specs.Types.{Bytes}
use Rattle.vx_semantics.specs.Tables.{Zones}
use Rattle.vx_io.specs.Ends.{Added}
use Rattle.vx_laws_file.specs.FileForms.{Header, FileContent}
use Rattle.vx_laws_file.proofs.Openings.{one_content, opened_is_not_refused}
use Rattle.vx_laws_shell.specs.Origins.{block_file, folder}
use Rattle.vx_laws_shell.specs.Paths.{Kept, holds, WhereKept, Paths}
use Rattle.vx_laws_shell.specs.Running.{End}
use Rattle.vx_laws_listing.specs.ListingTexts.{listing_lines}
use Rattle.vx_laws_listing.specs.ListingWords.{listing_asked_of}
use Rattle.vx_laws_listing.specs.Listing.{listed, AreZonesOfFile, AreZonesOfPath, IsListingEnd}
use Rattle.vx_laws_listing.specs.ListingLaws.{HeadersDecide, ListedIsNotRefused, OneListing}

-- bytes hold one table
one_zones : (bytes : Bytes) (zones others : Zones) → AreZonesOfFile zones bytes → AreZonesOfFile others bytes → zones ≡ others
one_zones bytes zones others a b = sym a.zones_are ∙ ap (λ (c : FileContent). c.zones) (one_content bytes a.content b.content a.opened b.opened) ∙ b.zones_are

-- of one text one thing is added
pub one_added : (told x y : Option Bytes) (bytes lines more : Bytes) → told ≡ Some bytes → lines ≡ more → Added told x lines → Added told y more → x ≡ y
one_added told x y bytes lines more t e a b =
    let first : x ≡ Some (bytes ++ lines) = subst (λ o. Added o x lines) t a in
    let second : y ≡ Some (bytes ++ more) = subst (λ o. Added o y more) t b in
    first ∙ ap (λ (z : Bytes). Some (bytes ++ z)) e ∙ sym second

-- where words ask a block file they ask no folder, and one file alone
no_folder : (path other : Bytes) → Some (block_file path) ≡ Some (folder other) → ⊥
no_folder path other e = cc

one_path : (path other : Bytes) → Some (block_file path) ≡ Some (block_file other) → path ≡ other
one_path path other e = cc

file_asked : (words : List Bytes) (paths : Paths) (path : Bytes) (before after : End) → listing_asked_of words ≡ Some (block_file path)
    → IsListingEnd words paths before after listed
    → (zones : Zones) × AreZonesOfPath (paths.kept path) zones × Added before.bytes after.bytes (listing_lines path zones)
file_asked words paths path before after form (inl h) =
    subst (λ (p : Bytes). (zones : Zones) × AreZonesOfPath (paths.kept p) zones × Added before.bytes after.bytes (listing_lines p zones))
    (sym (one_path path h.0 (sym form ∙ h.1))) h.2
file_asked words paths path before after form (inr h) = absurd (no_folder path h.0 (sym form ∙ h.1))

known_zones : (kept : Kept) (bytes : Bytes) (zones : Zones) → kept ≡ holds bytes → AreZonesOfPath kept zones → AreZonesOfFile zones bytes
known_zones kept bytes zones e h = subst (λ (k : Kept). WhereKept k (AreZonesOfFile zones)) e h.held

pub one_listing : OneListing
one_listing words paths path bytes old before x y form held told a b =
    let own = file_asked words paths path before x form a in
    let other = file_asked words paths path before y form b in
    let zones : own.0 ≡ other.0 =
    one_zones bytes own.0 other.0 (known_zones (paths.kept path) bytes own.0 held own.1) (known_zones (paths.kept path) bytes other.0 held other.1) in
    one_added before.bytes x.bytes y.bytes old (listing_lines path own.0) (listing_lines path other.0) told (ap (listing_lines path) zones) own.2 other.2

pub listed_is_not_refused : ListedIsNotRefused
listed_is_not_refused path bytes before x y r a b =
    let zones = a.1.held in
    opened_is_not_refused bytes zones.content r zones.opened b.0

pub headers_decide : HeadersDecide
headers_decide bytes more content others zones a b e is =
    let one = one_content bytes is.content content is.opened a in
    record {
      content = others;
      opened = b;
      zones_are = sym (ap (λ (h : Header). h.zones) e) ∙ sym (ap (λ (c : FileContent). c.zones) one) ∙ is.zones_are;
    }
