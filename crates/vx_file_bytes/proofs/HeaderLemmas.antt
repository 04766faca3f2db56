-- A header that is read whole is the one that the bytes spell.
use Rattle.std.proofs.Common.{◌≡◌, ◌≢◌, refl, sym, ap, ◌∙◌, append-nil, Bool, true, false, Some, None, [], ◌∷◌, ◌++◌, length, ◌==◌, arith}
use Rattle.std.proofs.lemmas.Bool.Decides.{nat_tests}
use Rattle.std.proofs.lemmas.Option.{none-some}
use Rattle.vx_dtype.specs.Types.{Bytes}
use Rattle.vx_wire_bytes.proofs.NumberLemmas.{IsBytes, some_is}
use Rattle.vx_laws_file.specs.FileForms.{Header, header_bytes, IsHeader}
use Rattle.vx_laws_file.specs.HeaderReading.{header_at}
use Rattle.vx_laws_file.proofs.HeaderReaders.{header_reader}
use Rattle.vx_file_bytes.specs.ReadingAnswers.{IsHeaderRead}

again : (h : Header) (bytes : Bytes) → IsHeader h → bytes ≡ header_bytes h → header_at bytes ≡ Some (h, [])
again h bytes p e = ap header_at (e ∙ sym (append-nil (header_bytes h))) ∙ header_reader.again h [] p

pub header_whole : (bytes : Bytes) (h : Header) (rest : Bytes) → IsBytes bytes → Some (h, rest) ≡ header_at bytes → rest ≡ [] → IsHeaderRead bytes (Some h)
header_whole bytes h rest here e none =
    let t = header_reader.takes bytes (h, rest) here (sym e) in
    (t.1, t.0.parts ∙ ap (λ (r : Bytes). header_bytes h ++ r) none ∙ append-nil (header_bytes h))

pub no_header : (bytes : Bytes) → None ≡ header_at bytes → IsHeaderRead bytes None
no_header bytes e h p is = none-some (h, []) (e ∙ again h bytes p is)

pub header_with_more : (bytes : Bytes) (g : Header) (rest : Bytes) → Some (g, rest) ≡ header_at bytes → rest ≢ [] → IsHeaderRead bytes None
header_with_more bytes g rest e more h p is = more (ap (λ (x : Header × Bytes). x.1) (some_is (g, rest) (h, []) (e ∙ again h bytes p is)))

-- ---- whether something is left

pub empty_is : (bytes : Bytes) (t : Bool) → t ≡ (length bytes == 0) → t ≡ true → bytes ≡ []
empty_is [] t e f = refl
empty_is (b ∷ bytes) t e f = absurd (grind (arith, nat_tests))

pub filled_is : (bytes : Bytes) (t : Bool) → t ≡ (length bytes == 0) → t ≡ false → bytes ≢ []
filled_is [] t e f g = absurd (grind (arith, nat_tests))
filled_is (b ∷ bytes) t e f g = absurd cc
