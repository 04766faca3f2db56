-- Where the blocks of files stand in what they hold as one.
use Rattle.std.proofs.Common.{◌≡◌, sym, ap, ◌∙◌, subst, ℕ, zero, suc, ◌+◌, ◌<◌, Option, Some, List, [], ◌∷◌, ◌++◌, length, drop, arith, slice_get}
use Rattle.std.specs.List.{AllByRecursion}
use Rattle.std.specs.Option.{option_and_then}
use Rattle.std.proofs.lemmas.Option.{same_Some, none-some}
use Rattle.vx_dtype.specs.Types.{Bytes}
use Rattle.vx_dtype.specs.TypeRules.{field_type}
use Rattle.vx_column.specs.Columns.{Column}
use Rattle.vx_semantics.specs.Tables.{Zones}
use Rattle.vx_laws_file.specs.FileForms.{FileContent}
use Rattle.vx_laws_file.specs.Ranges.{range_named}
use Rattle.vx_file_open.specs.ColumnAnswers.{IsColumnIn, IsRangeRead}
use Rattle.vx_scan.proofs.CutLemmas.{in_first, in_later}
use Rattle.vx_laws_shell.specs.FolderContents.{contents_joined}
use Rattle.vx_folder.specs.FolderParts.{HaveBegins, AgreesAt}
use Rattle.vx_folder.proofs.JoinLemmas.{get_front, get_behind}

-- each file has the ranges of as many blocks as it has lengths
abbrev pub HasItsRanges : FileContent → Type 0
HasItsRanges content = length content.ranges ≡ length content.zones.lengths

-- the blocks of a file stand behind so many others in what files hold as one
pub record StandsAt (joined content : FileContent) (place : ℕ) : Type 0 where
  pub lengths : (i : ℕ) → i < length content.zones.lengths → slice_get joined.zones.lengths (place + i) ≡ slice_get content.zones.lengths i
  pub ranges : (i : ℕ) → i < length content.zones.lengths → slice_get joined.ranges (place + i) ≡ slice_get content.ranges i

first_stands : (first : FileContent) (contents : List FileContent) → HasItsRanges first → StandsAt (contents_joined first contents) first 0
first_stands first [] has = record {
  lengths = λ i h. let none : 0 + i ≡ i = omega arith in ap (slice_get first.zones.lengths) none;
  ranges = λ i h. let none : 0 + i ≡ i = omega arith in ap (slice_get first.ranges) none;
}
first_stands first (next ∷ contents) has =
    let rest = contents_joined next contents in
    record {
      lengths = λ i h.
          let none : 0 + i ≡ i = omega arith in
          ap (slice_get (first.zones.lengths ++ rest.zones.lengths)) none ∙ get_front first.zones.lengths rest.zones.lengths i h;
      ranges = λ i h.
          let none : 0 + i ≡ i = omega arith in
          ap (slice_get (first.ranges ++ rest.ranges)) none ∙ get_front first.ranges rest.ranges i (omega (arith, h, has));
    }

later_stands : (first next content : FileContent) (contents : List FileContent) (place : ℕ) → HasItsRanges first → StandsAt (contents_joined next contents) content place
    → StandsAt (contents_joined first (next ∷ contents)) content (length first.zones.lengths + place)
later_stands first next content contents place has stands =
    let rest = contents_joined next contents in
    let n = length first.zones.lengths in
    record {
      lengths = λ i h.
          let at : n + place + i ≡ n + (place + i) = omega arith in
          ap (slice_get (first.zones.lengths ++ rest.zones.lengths)) at ∙ get_behind first.zones.lengths rest.zones.lengths (place + i) ∙ stands.lengths i h;
      ranges = λ i h.
          let at : n + place + i ≡ length first.ranges + (place + i) = omega (arith, has) in
          ap (slice_get (first.ranges ++ rest.ranges)) at ∙ get_behind first.ranges rest.ranges (place + i) ∙ stands.ranges i h;
    }

-- where a file begins, and that it stands there
pub record IsPlaced (joined content : FileContent) (n begin : ℕ) : Type 0 where
  pub place : ℕ
  pub begins : begin ≡ n + place
  pub stands : StandsAt joined content place

pub placed_at : (first : FileContent) (contents : List FileContent) (n : ℕ) (begins : List ℕ) (number begin : ℕ) (content : FileContent)
    → AllByRecursion HasItsRanges (first ∷ contents) → HaveBegins (first ∷ contents) n begins → slice_get begins number ≡ Some begin
    → slice_get (first ∷ contents) number ≡ Some content → IsPlaced (contents_joined first contents) content n begin
placed_at first contents n [] number begin content has at b c = absurd at
placed_at first contents n (first_begin ∷ begins) zero begin content has at b c =
    let is : first ≡ content = same_Some first content c in
    let here : begin ≡ n = sym (same_Some first_begin begin b) ∙ at.0 in
    record {
      place = 0;
      begins = omega (arith, here);
      stands = subst (λ (d : FileContent). StandsAt (contents_joined first contents) d 0) is (first_stands first contents has.0);
    }
placed_at first [] n (first_begin ∷ begins) (suc number) begin content has at b c = absurd (none-some content c)
placed_at first (next ∷ contents) n (first_begin ∷ begins) (suc number) begin content has at b c =
    let rest = placed_at next contents (n + length first.zones.lengths) begins number begin content has.1 at.1 b c in
    record {
      place = length first.zones.lengths + rest.place;
      begins = omega (arith, rest.begins);
      stands = later_stands first next content contents rest.place has.0 rest.stands;
    }

-- what is read of a block of a file is what is read of its place in all
pub read_there : (joined content : FileContent) (place block i : ℕ) (name : Bytes) (found : Option Column) → StandsAt joined content place
    → content.zones.columns ≡ joined.zones.columns → i < length content.zones.lengths → block ≡ place + i → IsRangeRead content i name found → IsRangeRead joined block name found
read_there joined content place block i name found stands same within at x =
    let r = x.3 in
    let back = sym same in
    let here : slice_get joined.ranges block ≡ slice_get content.ranges i = ap (slice_get joined.ranges) at ∙ stands.ranges i within in (
      x.0,
      x.1,
      x.2,
      record {
        number = ap (slice_get joined.zones.lengths) at ∙ stands.lengths i within ∙ r.number;
        ty = ap (field_type name) back ∙ r.ty;
        stands = (λ k. option_and_then (range_named name (back k)) (here k)) ∙ r.stands;
      },
      x.4,
    )

-- ---- the lengths of a file in those of a folder

pub length_there : (zones file : Zones) (begin block i : ℕ) → AgreesAt zones begin file → i < length file.lengths → block ≡ begin + i
    → slice_get zones.lengths block ≡ slice_get file.lengths i
length_there zones file begin block i agrees within at =
    ap (slice_get zones.lengths) at ∙ sym (in_later begin i zones.lengths) ∙ sym (in_first (length file.lengths) i (drop begin zones.lengths) within)
    ∙ ap (λ (ns : List ℕ). slice_get ns i) agrees.lengths

pub column_there : (zones file : Zones) (begin block i : ℕ) (name : Bytes) (c : Column) → AgreesAt zones begin file → i < length file.lengths → block ≡ begin + i
    → IsColumnIn file i name c → IsColumnIn zones block name c
column_there zones file begin block i name c agrees within at here = record {
  ty = ap (field_type name) (sym agrees.columns) ∙ here.ty;
  len = length_there zones file begin block i agrees within at ∙ here.len;
}
