-- Where the range of a column of a block stands, by the places that were made of the header.
use Rattle.std.proofs.Common.{◌≡◌, refl, sym, ap, ◌∙◌, subst, ℕ, zero, suc, ◌+◌, ◌<◌, ◌^◌, Some, List, [], ◌∷◌, length, take, get_or, sum, arith}
use Rattle.std.specs.List.{AllByRecursion, slice_get}
use Rattle.std.proofs.lemmas.List.Sums.{sum_by_more_le}
use Rattle.std.proofs.lemmas.Option.{same_Some, slice_get-get_or, get_or_from_slice_get, slice_get_read}
use Rattle.std.specs.declared.vec.Vec.{Vec}
use Rattle.std.specs.declared.alloc.Global.{Global}
use Rattle.vx_dtype.specs.TypeRules.{field_names}
use Rattle.vx_semantics.specs.Tables.{Zones}
use Rattle.vx_tables.proofs.MemberLemmas.{length_mapped}
use Rattle.vx_laws_file.specs.FileForms.{Header, AreRangeLengths}
use Rattle.vx_laws_file.specs.Opening.{range_place}
use Rattle.vx_file_open.specs.Layouts.{list_of, lists_of, front_length, block_place, IsLaidOut}
use Rattle.vx_file_open.proofs.Lengths.{layout_small}
use Rattle.vx_file_open.proofs.PlaceLemmas.{first_within, place_within, list_at}

-- each of them is so at its place
pub each_at : {X : Type 0} (P : X → Type 0) (xs : List X) (i : ℕ) (x : X) → AllByRecursion P xs → slice_get xs i ≡ Some x → P x
each_at P [] i x h e = absurd cc
each_at P (y ∷ xs) zero x h e = subst P (same_Some y x e) h.0
each_at P (y ∷ xs) (suc i) x h e = each_at P xs i x h.1 e

-- the lengths of the ranges of a block that is there, and its place
pub record IsBlockAt (h : Header) (block : ℕ) (ns : List ℕ) (place : ℕ) : Type 0 where
  pub wide : length ns ≡ length (field_names h.zones.columns)
  pub listed : get_or h.range_lengths block [] ≡ ns
  pub starts : place ≡ block_place (front_length h) h.range_lengths block
  pub within : place + sum ns < 2 ^ 64

pub block_is : (h : Header) (places : List ℕ) (block : ℕ) (ns : List ℕ) (place : ℕ) → IsLaidOut h places → slice_get h.range_lengths block ≡ Some ns → block < length h.range_lengths
    → slice_get places block ≡ Some place → IsBlockAt h block ns place
block_is h places block ns place l e lt p =
    let starts : place ≡ block_place (front_length h) h.range_lengths block =
    same_Some place (block_place (front_length h) h.range_lengths block) (sym p ∙ l.stand.each block (omega (arith, lt))) in
    let all = layout_small h l.header l.short in
    let within = place_within (front_length h) h.range_lengths block ns e in
    record {
      wide = (each_at (AreRangeLengths (length (field_names h.zones.columns))) h.range_lengths block ns l.header.each_range e).0;
      listed = get_or_from_slice_get h.range_lengths block ns [] e;
      starts = starts;
      within = omega (arith, starts, within, all);
    }

pub range_is : (h : Header) (block column place : ℕ) (ns : List ℕ) → IsBlockAt h block ns place → place + sum (take column ns) ≡ range_place h block column
range_is h block column place ns b =
    let listed : sum (take column (get_or h.range_lengths block [])) ≡ sum (take column ns) = ap (λ (ms : List ℕ). sum (take column ms)) b.listed in
    omega (arith, b.starts, listed)

-- the length of a range, and that it ends at a place
pub count_is : (h : Header) (block column place : ℕ) (ns : List ℕ) → IsBlockAt h block ns place → column < length ns
    → slice_get (get_or h.range_lengths block []) column ≡ Some (get_or ns column 0)
count_is h block column place ns b lt = ap (λ (ms : List ℕ). slice_get ms column) b.listed ∙ slice_get-get_or ns column 0 lt

pub range_within : (h : Header) (block column place : ℕ) (ns : List ℕ) → IsBlockAt h block ns place → column < length ns
    → place + sum (take column ns) + get_or ns column 0 < 2 ^ 64
range_within h block column place ns b lt = omega (arith, b.within, sum_by_more_le (λ x. x) ns column 0 lt)

pub sum_small : (h : Header) (block column place : ℕ) (ns : List ℕ) → IsBlockAt h block ns place → sum (take column ns) < 2 ^ 64
sum_small h block column place ns b = omega (arith, b.within, first_within ns column)

-- the same by the parts of a layout
pub block_of : (h : Header) (zones : Zones) (vs : List (Vec ℕ Global)) (places : List ℕ) (block : ℕ) (v : Vec ℕ Global) (ns : List ℕ) (place : ℕ)
    → record { zones = zones; range_lengths = lists_of vs } ≡ h → IsLaidOut (record { zones = zones; range_lengths = lists_of vs }) places → block < length h.zones.lengths
    → v ≡ get_or vs block v → ns ≡ v.items → place ≡ get_or places block place → IsBlockAt h block ns place
block_of h zones vs places block v ns place same l lt read items found =
    let laid : IsLaidOut h places = subst (λ (g : Header). IsLaidOut g places) same l in
    let within : block < length h.range_lengths = omega (arith, lt, laid.header.each_block) in
    let mapped : length (lists_of vs) ≡ length h.range_lengths = ap (λ (g : Header). length g.range_lengths) same in
    let short : block < length vs = omega (arith, within, mapped, length_mapped list_of vs) in
    let listed : slice_get (lists_of vs) block ≡ Some ns = list_at vs block v ns short read items in
    let there : slice_get h.range_lengths block ≡ Some ns = ap (λ (g : Header). slice_get g.range_lengths block) (sym same) ∙ listed in
    block_is h places block ns place laid there within (slice_get_read places (length places) block place refl (omega (arith, within, laid.stand.number)) found)
