-- What calls make of a block file is one relation: a file may stay as it is, and goes on by it.
use Rattle.std.proofs.Common.{refl, sym, ap, ◌∙◌, ℕ, ◌≤◌, List, [], ◌++◌, arith}
use Rattle.std.proofs.lemmas.List.{append_assoc, append-nil}
use Rattle.vx_scan.specs.Stores.{Read}
use Rattle.vx_file.specs.FileStates.{FileState, HasGrown, IsLaterFile}

pub grown_by_none : (xs : List Read) → HasGrown xs xs
grown_by_none xs = ([], sym (append-nil xs))

pub grown_on : (xs ys zs : List Read) → HasGrown xs ys → HasGrown ys zs → HasGrown xs zs
grown_on xs ys zs h k = (h.0 ++ k.0, k.1 ∙ ap (λ (rs : List Read). rs ++ k.0) h.1 ∙ append_assoc xs h.0 k.0)

at_least_same : (n : ℕ) → n ≤ n
at_least_same n = omega arith

at_least_on : (a b c : ℕ) → a ≤ b → b ≤ c → a ≤ c
at_least_on a b c h k = omega (arith, h, k)

pub later_file : (s : FileState) → IsLaterFile s s
later_file s = record {
  same = record { header = refl; bytes = refl; later = at_least_same s.count };
  reads = grown_by_none s.reads;
  damaged = grown_by_none s.damaged;
}

pub later_file_on : (a b c : FileState) → IsLaterFile a b → IsLaterFile b c → IsLaterFile a c
later_file_on a b c h k = record {
  same = record {
    header = k.same.header ∙ h.same.header;
    bytes = k.same.bytes ∙ h.same.bytes;
    later = at_least_on a.count b.count c.count h.same.later k.same.later;
  };
  reads = grown_on a.reads b.reads c.reads h.reads k.reads;
  damaged = grown_on a.damaged b.damaged c.damaged h.damaged k.damaged;
}
