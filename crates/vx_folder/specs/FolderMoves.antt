-- What calls make of a folder up to the first read that fails is one relation: a folder may stay as it is, and goes on by it.
use Rattle.std.proofs.Common.{◌≡◌, refl, sym, ap, ◌∙◌, subst, ◌⊎◌, inl, inr, ℕ, ◌≤◌, Option, Some, None, List, [], ◌∷◌, ◌++◌, arith}
use Rattle.std.proofs.lemmas.List.{append_assoc, append-nil}
use Rattle.vx_io.specs.Counts.{one_more}
use Rattle.vx_laws_file.specs.FileForms.{FileContent}
use Rattle.vx_scan.specs.Stores.{Read}
use Rattle.vx_folder.specs.FolderStates.{FolderState, WhereHeld, IsSameFolder, HasGrown, IsLaterFolder, IsSpoilt, FailsByFault, FailsByDamage, IsUnfailed, FailsOnce, FailsAtMostOnce, IsReadFolder}

pub grown_by_none : (xs : List Read) → HasGrown xs xs
grown_by_none xs = ([], sym (append-nil xs))

pub grown_on : (xs ys zs : List Read) → HasGrown xs ys → HasGrown ys zs → HasGrown xs zs
grown_on xs ys zs h k = (h.0 ++ k.0, k.1 ∙ ap (λ (rs : List Read). rs ++ k.0) h.1 ∙ append_assoc xs h.0 k.0)

at_least_same : (n : ℕ) → n ≤ n
at_least_same n = omega arith

at_least_on : (a b c : ℕ) → a ≤ b → b ≤ c → a ≤ c
at_least_on a b c h k = omega (arith, h, k)

pub later_folder : (s : FolderState) → IsLaterFolder s s
later_folder s = record {
  same = record { zones = refl; content = refl; later = at_least_same s.count };
  reads = grown_by_none s.reads;
  damaged = grown_by_none s.damaged;
}

pub later_folder_on : (a b c : FolderState) → IsLaterFolder a b → IsLaterFolder b c → IsLaterFolder a c
later_folder_on a b c h k = record {
  same = record {
    zones = k.same.zones ∙ h.same.zones;
    content = k.same.content ∙ h.same.content;
    later = at_least_on a.count b.count c.count h.same.later k.same.later;
  };
  reads = grown_on a.reads b.reads c.reads h.reads k.reads;
  damaged = grown_on a.damaged b.damaged c.damaged h.damaged k.damaged;
}

as_before : (s : FolderState) (o : Option Read) → s.failed ≡ o → FailsAtMostOnce o s s
as_before s (Some read) e = refl
as_before s None e = inl (record { failed = e; count = refl; damaged = refl })

pub read_folder : (s : FolderState) → IsReadFolder s s
read_folder s = record { later = later_folder s; once = as_before s s.failed refl }

-- a read that failed behind others of which none did has failed since the first state
spoilt_before : (a b : FolderState) (read : Read) → IsSameFolder a b → WhereHeld b.content (λ content. IsSpoilt content read)
    → WhereHeld a.content (λ content. IsSpoilt content read)
spoilt_before a b read same h = subst (λ (o : Option FileContent). WhereHeld o (λ content. IsSpoilt content read)) same.content h

caused_before : (a b c : FolderState) (read : Read) → IsSameFolder a b → IsUnfailed a b → FailsByFault b c ⊎ FailsByDamage b c read
    → FailsByFault a c ⊎ FailsByDamage a c read
caused_before a b c read same h (inl k) = inl (record { risen = subst (λ (n : ℕ). one_more n ≤ c.count) h.count k.risen; damaged = k.damaged ∙ h.damaged })
caused_before a b c read same h (inr k) = inr (record {
  same = k.same ∙ h.count;
  damaged = k.damaged ∙ ap (λ (rs : List Read). rs ++ read ∷ []) h.damaged;
  spoilt = spoilt_before a b read same k.spoilt;
})

unfailed_on : (a b c : FolderState) → IsSameFolder a b → IsUnfailed a b → IsUnfailed b c ⊎ FailsOnce b c → IsUnfailed a c ⊎ FailsOnce a c
unfailed_on a b c same h (inl k) = inl (record { failed = k.failed; count = k.count ∙ h.count; damaged = k.damaged ∙ h.damaged })
unfailed_on a b c same h (inr k) = inr (record { read = k.read; failed = k.failed; cause = caused_before a b c k.read same h k.cause })

-- at most one read fails, where that is so of each of two steps
once_on : (o : Option Read) (a b c : FolderState) → IsSameFolder a b → a.failed ≡ o → FailsAtMostOnce o a b → FailsAtMostOnce b.failed b c
    → FailsAtMostOnce o a c
once_on (Some read) a b c same e h k =
    subst (λ (p : Option Read). FailsAtMostOnce p b c) (ap (λ (s : FolderState). s.failed) h ∙ e) k ∙ h
once_on None a b c same e (inl h) k = unfailed_on a b c same h (subst (λ (p : Option Read). FailsAtMostOnce p b c) h.failed k)
once_on None a b c same e (inr h) k =
    inr (subst (λ (s : FolderState). FailsOnce a s) (sym (subst (λ (p : Option Read). FailsAtMostOnce p b c) h.failed k)) h)

pub read_folder_on : (a b c : FolderState) → IsReadFolder a b → IsReadFolder b c → IsReadFolder a c
read_folder_on a b c h k = record {
  later = later_folder_on a b c h.later k.later;
  once = once_on a.failed a b c h.later.same refl h.once k.once;
}
