-- What is left of a file that wasn't read before, where it was read up to the first read that failed.
use Rattle.std.proofs.Common.{◌≡◌, sym, ap, ◌∙◌, subst, ◌⊎◌, inl, inr, ◌≤◌, Option, Some, None, List, [], ◌∷◌, ◌++◌}
use Rattle.std.proofs.lemmas.Option.{none-some, same_Some}
use Rattle.vx_io.specs.Counts.{one_more}
use Rattle.vx_scan.specs.Stores.{Read}
use Rattle.vx_file.specs.FileStates.{FileState, FailsByFault, FailsByDamage}
use Rattle.vx_file_scan.specs.FirstFailures.{IsUnread, IsUnfailed, FailsOnce, FailsAtMostOnce, IsReadToFailure}
use Rattle.vx_file_scan.specs.FileScans.{DamagedOnce}
use Rattle.vx_file_scan.specs.FailureLaws.{FilesAreLeftAtFailures}

-- where none of its reads failed before
pub from_unread : (s t : FileState) → IsUnread s → IsReadToFailure s t → IsUnfailed s t ⊎ FailsOnce s t
from_unread s t unread h = subst (λ (o : Option Read). FailsAtMostOnce o s t) unread.failed h.once

unfailed_quiet : (s t : FileState) → IsUnfailed s t ⊎ FailsOnce s t → t.failed ≡ None → t.count ≡ s.count
unfailed_quiet s t (inl h) e = h.count
unfailed_quiet s t (inr h) e = absurd (none-some h.read (sym e ∙ h.failed))

-- the source's count stays where none failed
pub quiet_so : (s t : FileState) → IsUnread s → IsReadToFailure s t → t.failed ≡ s.failed → t.count ≡ s.count
quiet_so s t unread h e = unfailed_quiet s t (from_unread s t unread h) (e ∙ unread.failed)

caused : (s t : FileState) (read : Read) → IsUnfailed s t ⊎ FailsOnce s t → t.failed ≡ Some read → FailsByFault s t ⊎ FailsByDamage s t read
caused s t read (inl h) e = absurd (none-some read (sym h.failed ∙ e))
caused s t read (inr h) e =
    subst (λ (r : Read). FailsByFault s t ⊎ FailsByDamage s t r) (same_Some h.read read (sym h.failed ∙ e)) h.cause

-- the read that failed did so by a fault or by damage
pub cause_so : (s t : FileState) → IsUnread s → IsReadToFailure s t → (read : Read) → t.failed ≡ Some read → FailsByFault s t ⊎ FailsByDamage s t read
cause_so s t unread h read e = caused s t read (from_unread s t unread h) e

-- no read is damaged but the one that failed
damaged_so : (s t : FileState) → s.damaged ≡ [] → IsUnfailed s t ⊎ FailsOnce s t → DamagedOnce t.failed t.damaged
damaged_so s t none (inl h) = inl (h.damaged ∙ none)
damaged_so s t none (inr h) = by h.cause
  where
    by : FailsByFault s t ⊎ FailsByDamage s t h.read → DamagedOnce t.failed t.damaged
    by (inl k) = inl (k.damaged ∙ none)
    by (inr k) = inr (h.read, h.failed, k.damaged ∙ ap (λ (rs : List Read). rs ++ h.read ∷ []) none)

never_nil : (read : Read) → ¬ (read ∷ [] ≡ [])
never_nil read k = cc

risen_so : (s t : FileState) (read : Read) → s.damaged ≡ [] → FailsByFault s t ⊎ FailsByDamage s t read → t.damaged ≡ [] → one_more s.count ≤ t.count
risen_so s t read none (inl k) e = k.risen
risen_so s t read none (inr k) e =
    absurd (never_nil read (sym (k.damaged ∙ ap (λ (rs : List Read). rs ++ read ∷ []) none) ∙ e))

pub left_at_failure : FilesAreLeftAtFailures
left_at_failure s t unread h = record {
  same = h.later.same;
  damaged = damaged_so s t unread.damaged (from_unread s t unread h);
  quiet = unfailed_quiet s t (from_unread s t unread h);
  risen = λ read failed. risen_so s t read unread.damaged (cause_so s t unread h read failed);
}
