-- What calls make of a file up to the first read that fails is one relation: a file may stay as it is, and goes on by it.
use Rattle.std.proofs.Common.{◌≡◌, refl, sym, ap, ◌∙◌, subst, ◌⊎◌, inl, inr, ℕ, ◌≤◌, Option, Some, None, List, [], ◌∷◌, ◌++◌}
use Rattle.vx_dtype.specs.Types.{Bytes}
use Rattle.vx_io.specs.Counts.{one_more}
use Rattle.vx_laws_file.specs.FileForms.{Header}
use Rattle.vx_scan.specs.Stores.{Read}
use Rattle.vx_file_open.specs.Layouts.{WhereBytes}
use Rattle.vx_file.specs.FileStates.{FileState, IsSameFile, IsSpoilt, FailsByFault, FailsByDamage}
use Rattle.vx_file.specs.FileMoves.{later_file, later_file_on}
use Rattle.vx_file_scan.specs.FirstFailures.{IsUnfailed, FailsOnce, FailsAtMostOnce, IsReadToFailure}

as_before : (s : FileState) (o : Option Read) → s.failed ≡ o → FailsAtMostOnce o s s
as_before s (Some read) e = refl
as_before s None e = inl (record { failed = e; count = refl; damaged = refl })

pub read_to_failure : (s : FileState) → IsReadToFailure s s
read_to_failure s = record { later = later_file s; once = as_before s s.failed refl }

-- a read that failed behind others of which none did has failed since the first state
spoilt_before : (a b : FileState) (read : Read) → IsSameFile a b → WhereBytes b.bytes (λ bytes. IsSpoilt b.header bytes read)
    → WhereBytes a.bytes (λ bytes. IsSpoilt a.header bytes read)
spoilt_before a b read same h =
    subst (λ (g : Header). WhereBytes a.bytes (λ bytes. IsSpoilt g bytes read)) same.header
    (subst (λ (o : Option Bytes). WhereBytes o (λ bytes. IsSpoilt b.header bytes read)) same.bytes h)

caused_before : (a b c : FileState) (read : Read) → IsSameFile a b → IsUnfailed a b → FailsByFault b c ⊎ FailsByDamage b c read
    → FailsByFault a c ⊎ FailsByDamage a c read
caused_before a b c read same h (inl k) = inl (record { risen = subst (λ (n : ℕ). one_more n ≤ c.count) h.count k.risen; damaged = k.damaged ∙ h.damaged })
caused_before a b c read same h (inr k) = inr (record {
  same = k.same ∙ h.count;
  damaged = k.damaged ∙ ap (λ (rs : List Read). rs ++ read ∷ []) h.damaged;
  spoilt = spoilt_before a b read same k.spoilt;
})

unfailed_on : (a b c : FileState) → IsSameFile a b → IsUnfailed a b → IsUnfailed b c ⊎ FailsOnce b c → IsUnfailed a c ⊎ FailsOnce a c
unfailed_on a b c same h (inl k) = inl (record { failed = k.failed; count = k.count ∙ h.count; damaged = k.damaged ∙ h.damaged })
unfailed_on a b c same h (inr k) = inr (record { read = k.read; failed = k.failed; cause = caused_before a b c k.read same h k.cause })

-- at most one read fails, where that is so of each of two steps
once_on : (o : Option Read) (a b c : FileState) → IsSameFile a b → a.failed ≡ o → FailsAtMostOnce o a b → FailsAtMostOnce b.failed b c → FailsAtMostOnce o a c
once_on (Some read) a b c same e h k =
    subst (λ (p : Option Read). FailsAtMostOnce p b c) (ap (λ (s : FileState). s.failed) h ∙ e) k ∙ h
once_on None a b c same e (inl h) k = unfailed_on a b c same h (subst (λ (p : Option Read). FailsAtMostOnce p b c) h.failed k)
once_on None a b c same e (inr h) k =
    inr (subst (λ (s : FileState). FailsOnce a s) (sym (subst (λ (p : Option Read). FailsAtMostOnce p b c) h.failed k)) h)

pub read_to_failure_on : (a b c : FileState) → IsReadToFailure a b → IsReadToFailure b c → IsReadToFailure a c
read_to_failure_on a b c h k = record {
  later = later_file_on a b c h.later k.later;
  once = once_on a.failed a b c h.later.same refl h.once k.once;
}
