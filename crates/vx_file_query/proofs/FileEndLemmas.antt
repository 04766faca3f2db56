-- The scan of a block file that an input asks ends in one way.
use Rattle.std.proofs.Common.{◌≡◌, ◌⊎◌, ◌∙◌, sym, ap, refl, subst, inl, inr, Bool, true, false, ◌||◌, cond, List, [], ◌∷◌, Result, Ok, Err, true≢false}
use Rattle.std.specs.List.{list_any}
use Rattle.vx_dtype.specs.Types.{Bytes, Ty}
use Rattle.vx_expr.specs.Trees.{Tree}
use Rattle.vx_semantics.specs.Breaks.{Cause}
use Rattle.vx_semantics.specs.Meaning.{Slots}
use Rattle.vx_semantics.specs.Tables.{row_type}
use Rattle.vx_semantics.specs.Scans.{Phase, phase_breaks, phase_breaks_by, phases_of, some_phase_breaks, first_breaks_by}
use Rattle.vx_wire.specs.Encodings.{is_default_kind}
use Rattle.vx_scan.specs.declared.errors.ScanError.{ScanError}
use Rattle.vx_scan.proofs.TextLemmas.{one_spelled, both_are_taken, one_text_refusal}
use Rattle.vx_laws_file.specs.FileForms.{FileContent}
use Rattle.vx_laws_file.specs.Opening.{FileRefusal, bad_magic, bad_header, bad_zones, bad_end, IsOpened, IsRefusedFile}
use Rattle.vx_laws_file.specs.HeldTables.{held_table}
use Rattle.vx_laws_file.proofs.Openings.{one_content, one_refusal, opened_is_not_refused}
use Rattle.vx_request.specs.FileRequests.{RequestedFile, file_request_of}
use Rattle.vx_request.specs.declared.errors.FileRequestError.{FileRequestError}
use Rattle.vx_file_query.specs.FileEndings.{MeetsDamage, MeetsNoDamage, BreaksFileBy, IsFileWhole, SpellsFile, type_of_file, HoldsContent, HoldsFileScan, HoldsNoFile, AreFileTextsRefused, HoldsFileRefused, HoldsFileSo, HoldsBadFile, FileEnding, misasked, misfiled, file_unscanned, file_broken, file_reported, FileEnds}
use Rattle.vx_file_query.specs.FileLaws.{OneFileScan, FileScansEndOneWay}
use Rattle.vx_file_query.specs.declared.errors.FilePart.{FilePart}
use Rattle.vx_file_query.specs.declared.errors.FilePart.TheVariants.{Magic, Header, Zones, End, Column}

-- ---- an answer is one

one_ok : {T E : Type 0} (r : Result T E) (x y : T) → r ≡ Ok x → r ≡ Ok y → x ≡ y
one_ok (Err e) x y h k = absurd (cc h)
one_ok (Ok z) x y h k =
    let own : z ≡ x = cc h in
    let other : z ≡ y = cc k in
    sym own ∙ other

one_err : {T E : Type 0} (r : Result T E) (e g : E) → r ≡ Err e → r ≡ Err g → e ≡ g
one_err (Ok x) e g h k = absurd (cc h)
one_err (Err x) e g h k =
    let own : x ≡ e = cc h in
    let other : x ≡ g = cc k in
    sym own ∙ other

not_err : {T E : Type 0} (r : Result T E) (x : T) (e : E) → r ≡ Ok x → ¬ (r ≡ Err e)
not_err (Ok y) x e h k = absurd (cc k)
not_err (Err y) x e h k = absurd (cc h)

-- ---- an input asks one scan

-- a request is of one file
same_content : (input : Bytes) (a b : RequestedFile) (f g : FileContent) → HoldsContent input a f → HoldsContent input b g → (a ≡ b) × (f ≡ g)
same_content input a b f g h k =
    let asked : a ≡ b = one_ok (file_request_of input) a b h.asked k.asked in
    (asked, one_content b.file f g (subst (λ (c : RequestedFile). IsOpened c.file f) asked h.opened) k.opened)

pub one_file_scan : OneFileScan
one_file_scan input a b content other f p g q h k =
    let both = same_content input a b content other h.holds k.holds in
    let spelled : SpellsFile b f p = subst (λ c. SpellsFile c f p) both.0 h.spelled in
    record {
      asked = both.0;
      content = both.1;
      filter = one_spelled is_default_kind b.filter f g spelled.filter_spelled k.spelled.filter_spelled;
      projection = one_spelled is_default_kind b.projection p q spelled.projection_spelled k.spelled.projection_spelled;
    }

-- what is so of the scan that an input asks is so of it
so_of : (So : FileContent → Tree → Tree → Type 0) (input : Bytes) (a : RequestedFile) (content : FileContent) (f p : Tree) → HoldsFileSo So input
    → HoldsFileScan input a content f p → So content f p
so_of So input a content f p h k =
    let same = one_file_scan input h.asked a h.content content h.filter h.projection f p h.scan k in
    subst (λ k. k) (λ i. So (same.content i) (same.filter i) (same.projection i)) h.so

-- ---- no two reasons

-- bytes that hold a file aren't refused, and are for one reason
no_file_held : (input : Bytes) (r : FileRefusal) (a : RequestedFile) (content : FileContent) → HoldsNoFile r input → ¬ (HoldsContent input a content)
no_file_held input r a content h k =
    let asked : h.asked ≡ a = one_ok (file_request_of input) h.asked a h.held k.asked in
    opened_is_not_refused a.file content r k.opened (subst (λ (c : RequestedFile). IsRefusedFile c.file r) asked h.refused)

one_no_file : (input : Bytes) (r q : FileRefusal) → HoldsNoFile r input → HoldsNoFile q input → r ≡ q
one_no_file input r q h k =
    let asked : h.asked ≡ k.asked = one_ok (file_request_of input) h.asked k.asked h.held k.held in
    one_refusal k.asked.file r q (subst (λ (c : RequestedFile). IsRefusedFile c.file r) asked h.refused) k.refused

-- the expressions of a scan aren't refused, and are for one reason
typed_alike : (a : RequestedFile) (content : FileContent) (f p g q : Tree) (r : Result Ty ScanError) → SpellsFile a f p → SpellsFile a g q
    → type_of_file content f p ≡ r → type_of_file content g q ≡ r
typed_alike a content f p g q r x y h =
    let filter : f ≡ g = one_spelled is_default_kind a.filter f g x.filter_spelled y.filter_spelled in
    let projection : p ≡ q = one_spelled is_default_kind a.projection p q x.projection_spelled y.projection_spelled in
    sym (λ i. type_of_file content (filter i) (projection i)) ∙ h

not_refused : (a : RequestedFile) (content : FileContent) (f p : Tree) (t : Ty) (e : ScanError) → SpellsFile a f p → type_of_file content f p ≡ Ok t
    → ¬ (AreFileTextsRefused a content e)
not_refused a content f p t e spelled typed (inl texts) = both_are_taken is_default_kind a.filter a.projection f p e spelled texts
not_refused a content f p t e spelled typed (inr own) =
    not_err (type_of_file content own.0 own.1) t e (typed_alike a content f p own.0 own.1 (Ok t) spelled own.2 typed) own.3

one_texts_refusal : (a : RequestedFile) (content : FileContent) (e g : ScanError) → AreFileTextsRefused a content e → AreFileTextsRefused a content g → e ≡ g
one_texts_refusal a content e g (inl h) (inl k) = one_text_refusal is_default_kind a.filter a.projection e g h k
one_texts_refusal a content e g (inl h) (inr k) = absurd (both_are_taken is_default_kind a.filter a.projection k.0 k.1 e k.2 h)
one_texts_refusal a content e g (inr h) (inl k) = absurd (both_are_taken is_default_kind a.filter a.projection h.0 h.1 g h.2 k)
one_texts_refusal a content e g (inr h) (inr k) =
    one_err (type_of_file content k.0 k.1) e g (typed_alike a content h.0 h.1 k.0 k.1 (Err e) h.2 k.2 h.3) k.3

refused_unscanned : (input : Bytes) (e : ScanError) (a : RequestedFile) (content : FileContent) (f p : Tree) → HoldsFileRefused e input
    → ¬ (HoldsFileScan input a content f p)
refused_unscanned input e a content f p h k =
    let both = same_content input h.asked a h.content content h.holds k.holds in
    not_refused a content f p k.ty e k.spelled k.typed (subst (λ k. k) (λ i. AreFileTextsRefused (both.0 i) (both.1 i) e) h.refused)

one_file_refusal : (input : Bytes) (e g : ScanError) → HoldsFileRefused e input → HoldsFileRefused g input → e ≡ g
one_file_refusal input e g h k =
    let both = same_content input h.asked k.asked h.content k.content h.holds k.holds in
    one_texts_refusal k.asked k.content e g (subst (λ k. k) (λ i. AreFileTextsRefused (both.0 i) (both.1 i) e) h.refused) k.refused

-- the part of a file that a refusal names
abbrev part_of : FileRefusal → FilePart
part_of bad_magic = Magic
part_of bad_header = Header
part_of (bad_zones e) = Zones
part_of bad_end = End

-- a file that isn't as it has to be is refused, or has a damaged column that is read
abbrev IsBadPart : FilePart → Bytes → Type 0
IsBadPart part input = ((r : FileRefusal) × HoldsNoFile r input × (part ≡ part_of r)) ⊎ ((part ≡ Column) × HoldsFileSo MeetsDamage input)

bad_part : (part : FilePart) (input : Bytes) → HoldsBadFile part input → IsBadPart part input
bad_part Magic input h = inl (bad_magic, h, refl)
bad_part Header input h = inl (bad_header, h, refl)
bad_part Zones input h = inl (bad_zones h.0, h.1, refl)
bad_part End input h = inl (bad_end, h, refl)
bad_part Column input h = inr (refl, h)

-- its request is one
bad_asked : (part : FilePart) (input : Bytes) → IsBadPart part input → (a : RequestedFile) × (file_request_of input ≡ Ok a)
bad_asked part input (inl h) = (h.1.asked, h.1.held)
bad_asked part input (inr h) = (h.1.asked, h.1.scan.holds.asked)

one_part : (part other : FilePart) (input : Bytes) → IsBadPart part input → IsBadPart other input → part ≡ other
one_part part other input (inl h) (inl k) = h.2 ∙ ap part_of (one_no_file input h.0 k.0 h.1 k.1) ∙ sym k.2
one_part part other input (inl h) (inr k) = absurd (no_file_held input h.0 k.1.asked k.1.content h.1 k.1.scan.holds)
one_part part other input (inr h) (inl k) = absurd (no_file_held input k.0 h.1.asked h.1.content k.1 h.1.scan.holds)
one_part part other input (inr h) (inr k) = h.0 ∙ sym k.0

bad_unrefused : (part : FilePart) (input : Bytes) (e : ScanError) → IsBadPart part input → ¬ (HoldsFileRefused e input)
bad_unrefused part input e (inl h) k = no_file_held input h.0 k.asked k.content h.1 k.holds
bad_unrefused part input e (inr h) k = refused_unscanned input e h.1.asked h.1.content h.1.filter h.1.projection k h.1.scan

bad_unscanned : (part : FilePart) (input : Bytes) (a : RequestedFile) (content : FileContent) (f p : Tree) → IsBadPart part input
    → HoldsFileScan input a content f p → ¬ (¬ (MeetsDamage content f p))
bad_unscanned part input a content f p (inl h) k none = no_file_held input h.0 a content h.1 k.holds
bad_unscanned part input a content f p (inr h) k none = none (so_of MeetsDamage input a content f p h.1 k)

-- ---- phases that break

break_step : (own other rest some : Bool) → (rest ≡ true → some ≡ true) → cond own other rest ≡ true → (own || some) ≡ true
break_step true other rest some more h = refl
break_step false other rest some more h = more h

some_breaks : (cause : Cause) (t : Ty) (slots : Slots) (phases : List Phase) → first_breaks_by cause t slots phases ≡ true
    → list_any (phase_breaks t slots) phases ≡ true
some_breaks cause t slots [] h = absurd (true≢false (sym h))
some_breaks cause t slots (phase ∷ phases) h =
    break_step (phase_breaks t slots phase) (phase_breaks_by cause t slots phase) (first_breaks_by cause t slots phases)
    (list_any (phase_breaks t slots) phases) (some_breaks cause t slots phases) h

-- a scan that breaks isn't whole
pub breaking_file : (cause : Cause) (content : FileContent) (f p : Tree) → BreaksFileBy cause content f p
    → some_phase_breaks (held_table content) content.zones [] f p ≡ true
breaking_file cause content f p h =
    some_breaks cause (row_type content.zones.columns) [] (phases_of (held_table content) content.zones [] f p) h.1

broken_unreported : (input : Bytes) (cause : Cause) (a : RequestedFile) (content : FileContent) (f p : Tree) → HoldsFileSo (BreaksFileBy cause) input
    → HoldsFileScan input a content f p → ¬ (some_phase_breaks (held_table content) content.zones [] f p ≡ false)
broken_unreported input cause a content f p h k unbroken =
    true≢false (sym (breaking_file cause content f p (so_of (BreaksFileBy cause) input a content f p h k)) ∙ unbroken)

-- ---- one ending

-- an input that is no request ends so alone
refused_alone : (input : Bytes) (e : FileRequestError) (y : FileEnding) → file_request_of input ≡ Err e → FileEnds input y → misasked e ≡ y
refused_alone input e (misasked g) h k = ap misasked (one_err (file_request_of input) e g h k)
refused_alone input e (misfiled part) h k =
    let asked = bad_asked part input (bad_part part input k) in
    absurd (not_err (file_request_of input) asked.0 e asked.1 h)
refused_alone input e (file_unscanned g) h k = absurd (not_err (file_request_of input) k.asked e k.holds.asked h)
refused_alone input e (file_broken cause) h k = absurd (not_err (file_request_of input) k.asked e k.scan.holds.asked h)
refused_alone input e (file_reported a content f p) h k = absurd (not_err (file_request_of input) a e k.0.holds.asked h)

pub one_ending : FileScansEndOneWay
one_ending input (misasked e) (misasked g) h k = inl (refused_alone input e (misasked g) h k)
one_ending input (misasked e) (misfiled part) h k = inl (refused_alone input e (misfiled part) h k)
one_ending input (misasked e) (file_unscanned g) h k = inl (refused_alone input e (file_unscanned g) h k)
one_ending input (misasked e) (file_broken cause) h k = inl (refused_alone input e (file_broken cause) h k)
one_ending input (misasked e) (file_reported a content f p) h k = inl (refused_alone input e (file_reported a content f p) h k)
one_ending input (misfiled part) (misasked e) h k = inl (sym (refused_alone input e (misfiled part) k h))
one_ending input (misfiled part) (misfiled other) h k = inl (ap misfiled (one_part part other input (bad_part part input h) (bad_part other input k)))
one_ending input (misfiled part) (file_unscanned e) h k = absurd (bad_unrefused part input e (bad_part part input h) k)
one_ending input (misfiled part) (file_broken cause) h k =
    absurd (bad_unscanned part input k.asked k.content k.filter k.projection (bad_part part input h) k.scan k.so.0)
one_ending input (misfiled part) (file_reported a content f p) h k = absurd (bad_unscanned part input a content f p (bad_part part input h) k.0 k.1.0)
one_ending input (file_unscanned e) (misasked g) h k = inl (sym (refused_alone input g (file_unscanned e) k h))
one_ending input (file_unscanned e) (misfiled part) h k = absurd (bad_unrefused part input e (bad_part part input k) h)
one_ending input (file_unscanned e) (file_unscanned g) h k = inl (ap file_unscanned (one_file_refusal input e g h k))
one_ending input (file_unscanned e) (file_broken cause) h k =
    absurd (refused_unscanned input e k.asked k.content k.filter k.projection h k.scan)
one_ending input (file_unscanned e) (file_reported a content f p) h k = absurd (refused_unscanned input e a content f p h k.0)
one_ending input (file_broken cause) (misasked g) h k = inl (sym (refused_alone input g (file_broken cause) k h))
one_ending input (file_broken cause) (misfiled part) h k =
    absurd (bad_unscanned part input h.asked h.content h.filter h.projection (bad_part part input k) h.scan h.so.0)
one_ending input (file_broken cause) (file_unscanned e) h k =
    absurd (refused_unscanned input e h.asked h.content h.filter h.projection k h.scan)
one_ending input (file_broken cause) (file_broken other) h k = inr (cause, other, refl, refl)
one_ending input (file_broken cause) (file_reported a content f p) h k = absurd (broken_unreported input cause a content f p h k.0 k.1.1)
one_ending input (file_reported a content f p) (misasked g) h k = inl (sym (refused_alone input g (file_reported a content f p) k h))
one_ending input (file_reported a content f p) (misfiled part) h k =
    absurd (bad_unscanned part input a content f p (bad_part part input k) h.0 h.1.0)
one_ending input (file_reported a content f p) (file_unscanned e) h k = absurd (refused_unscanned input e a content f p k h.0)
one_ending input (file_reported a content f p) (file_broken cause) h k = absurd (broken_unreported input cause a content f p k h.0 h.1.1)
one_ending input (file_reported a content f p) (file_reported b other g q) h k =
    let same = one_file_scan input a b content other f p g q h.0 k.0 in
    inl (λ i. file_reported (same.asked i) (same.content i) (same.filter i) (same.projection i))

-- an input whose scan meets no damage breaks, or is reported
pub scanned_ends : (input : Bytes) (a : RequestedFile) (content : FileContent) (f p : Tree) (y : FileEnding) → HoldsFileScan input a content f p
    → MeetsNoDamage content f p → FileEnds input y
    → ((cause : Cause) × (y ≡ file_broken cause) × BreaksFileBy cause content f p) ⊎ ((y ≡ file_reported a content f p) × IsFileWhole content f p)
scanned_ends input a content f p (misasked e) h none k = absurd (not_err (file_request_of input) a e h.holds.asked k)
scanned_ends input a content f p (misfiled part) h none k = absurd (bad_unscanned part input a content f p (bad_part part input k) h none)
scanned_ends input a content f p (file_unscanned e) h none k = absurd (refused_unscanned input e a content f p k h)
scanned_ends input a content f p (file_broken cause) h none k = inl (cause, refl, so_of (BreaksFileBy cause) input a content f p k h)
scanned_ends input a content f p (file_reported b other g q) h none k =
    let same = one_file_scan input b a other content g q f p k.0 h in
    inr (
      (λ i. file_reported (same.asked i) (same.content i) (same.filter i) (same.projection i)),
      subst (λ k. k) (λ i. IsFileWhole (same.content i) (same.filter i) (same.projection i)) k.1,
    )
