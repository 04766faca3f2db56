-- Opening a file: what its mark, its header and its end make of it.
use Rattle.std.proofs.Common.{◌≡◌, ◌≢◌, sym, ap, ◌∙◌, subst, ℕ, ◌+◌, Bool, true, false, cond, nat_eq, Option, Some, None, length, drop, arith, length-append, length-drop}
use Rattle.std.specs.Prelude.{Decides, Result, Ok, Err}
use Rattle.std.proofs.lemmas.Bool.{eqb-true, eqb-false}
use Rattle.vx_dtype.specs.Types.{Bytes}
use Rattle.vx_zones.specs.Zoning.{broken_rule}
use Rattle.vx_laws_file.specs.FileForms.{Header, front_bytes}
use Rattle.vx_laws_file.specs.Opening.{HasMark, HasHeader, all_lengths}
use Rattle.vx_laws_file.proofs.Lists.{cut_blocks_are}
use Rattle.vx_laws_file.proofs.Openings.{header_and_end_open}
use Rattle.vx_file_ranges.specs.Places.{TellsBytes}
use Rattle.vx_file_open.specs.Layouts.{front_length, IsFileWith, WhereBytes}
use Rattle.vx_file_open.specs.OpenAnswers.{OpensBytes, IsFront, FrontStands, EndsWell}
use Rattle.vx_file_open.specs.declared.errors.FileError.{FileError}
use Rattle.vx_file_open.specs.declared.errors.FileError.TheVariants as errors

-- what stands behind the mark that is there
pub stands_behind : (told now : Option Bytes) (found : Bool) (x : Option (Header × ℕ)) → now ≡ told → WhereBytes told (λ bytes. Decides found (HasMark bytes)) → found ≡ true
    → WhereBytes now (λ bytes. HasMark bytes → FrontStands x bytes) → WhereBytes told (FrontStands x)
stands_behind told now found x same mark right stands = by told mark (subst (λ o. WhereBytes o (λ bytes. HasMark bytes → FrontStands x bytes)) same stands)
  where
    by : (told : Option Bytes) → WhereBytes told (λ bytes. Decides found (HasMark bytes)) → WhereBytes told (λ bytes. HasMark bytes → FrontStands x bytes) → WhereBytes told (FrontStands x)
    by None m s = tt
    by (Some bytes) m s = s (m.0 right)

-- bytes that end where the last range does are a file
pub file_is : (h : Header) (bytes : Bytes) → TellsBytes (Some bytes) → HasHeader bytes h (drop (front_length h) bytes) → broken_rule h.zones ≡ None
    → length bytes ≡ front_length h + all_lengths h → IsFileWith h bytes
file_is h bytes are there rules ends =
    let rest = drop (front_length h) bytes in
    let long : length rest ≡ all_lengths h = omega (arith, length-drop (front_length h) bytes, ends) in
    let parts = cut_blocks_are h.range_lengths rest (omega (arith, long)) in
    record {
      are_bytes = are;
      opened = header_and_end_open bytes h rest there rules long;
      same_header = λ i. record { zones = h.zones; range_lengths = parts.0 i };
    }

-- others end elsewhere
ends_elsewhere : (h : Header) (bytes : Bytes) → HasHeader bytes h (drop (front_length h) bytes) → length bytes ≢ front_length h + all_lengths h
    → length (drop (front_length h) bytes) ≢ all_lengths h
ends_elsewhere h bytes there other same =
    let rest = drop (front_length h) bytes in
    other (ap length there.stands ∙ length-append (front_bytes h) rest ∙ ap (λ k. front_length h + k) same)

pub opens_is : (told : Option Bytes) (h : Header) (ends : Bool) (answer : Result Header FileError) → TellsBytes told → WhereBytes told (FrontStands (Some (h, front_length h)))
    → broken_rule h.zones ≡ None → WhereBytes told (EndsWell h ends) → answer ≡ cond ends (Ok h) (Err errors.BadEnd) → WhereBytes told (λ bytes. OpensBytes bytes answer)
opens_is None h ends answer are there rules well is = tt
opens_is (Some bytes) h ends answer are there rules well is = subst (OpensBytes bytes) (sym is) (by ends well)
  where
    by : (b : Bool) → b ≡ nat_eq (length bytes) (front_length h + all_lengths h) → OpensBytes bytes (cond b (Ok h) (Err errors.BadEnd))
    by true e = file_is h bytes are there rules (eqb-true (length bytes) (front_length h + all_lengths h) (sym e))
    by false e = (h, drop (front_length h) bytes, there, rules, ends_elsewhere h bytes there (eqb-false (length bytes) (front_length h + all_lengths h) (sym e)))

pub layout_opens : (told now after : Option Bytes) (found : Bool) (h layout : Header) (place : ℕ) (ends : Bool) (answer : Result Header FileError) → now ≡ told → after ≡ told
    → WhereBytes told (λ bytes. Decides found (HasMark bytes)) → found ≡ true → WhereBytes now (λ bytes. HasMark bytes → FrontStands (Some (h, place)) bytes) → IsFront h place
    → layout ≡ h → broken_rule h.zones ≡ None → TellsBytes after → WhereBytes after (EndsWell layout ends) → answer ≡ cond ends (Ok layout) (Err errors.BadEnd)
    → WhereBytes told (λ bytes. OpensBytes bytes answer)
layout_opens told now after found h layout place ends answer same_now same_after mark right stands front made rules are well is =
    let behind : WhereBytes told (FrontStands (Some (h, place))) = stands_behind told now found (Some (h, place)) same_now mark right stands in
    let there : WhereBytes told (FrontStands (Some (h, front_length h))) = subst (λ k. WhereBytes told (FrontStands (Some (h, k)))) front.ends behind in
    let tells : TellsBytes told = subst TellsBytes same_after are in
    let ended : WhereBytes told (EndsWell h ends) = subst (λ (g : Header). WhereBytes told (EndsWell g ends)) made (subst (λ o. WhereBytes o (EndsWell layout ends)) same_after well) in
    opens_is told h ends answer tells there rules ended (is ∙ ap (λ (g : Header). cond ends (Ok g) (Err errors.BadEnd)) made)
