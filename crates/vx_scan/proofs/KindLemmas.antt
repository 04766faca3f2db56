-- Kinds of errors: what follows from a reason follows from it in an answer, and want of memory is one error.
use Rattle.std.proofs.Common.{◌≡◌, refl}
use Rattle.vx_scan.specs.ErrorKinds.{ErrorKind, of_memory, of_text, of_types, of_break, of_read, kind_of, OnlyOfText}
use Rattle.vx_scan.specs.declared.errors.ScanError.{ScanError}
use Rattle.vx_scan.specs.declared.errors.ScanError.TheVariants as errors

-- a refusal for a reason is one for what follows from it
pub text_refused_so : (k : ErrorKind) (Why So : Type 0) → (Why → So) → OnlyOfText k Why → OnlyOfText k So
text_refused_so of_memory Why So so h = tt
text_refused_so of_text Why So so h = so h
text_refused_so of_types Why So so h = h
text_refused_so (of_break cause) Why So so h = h
text_refused_so of_read Why So so h = h

-- want of memory is one error
pub memory_alone : (e : ScanError) → kind_of e ≡ of_memory → e ≡ errors.NoMemory
memory_alone errors.NoMemory h = refl
memory_alone _ h = let no : ⊥ = cc in absurd no
