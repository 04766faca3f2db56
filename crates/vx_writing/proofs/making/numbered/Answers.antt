use Rattle.std.proofs.Common.{◌≡◌, ◌∙◌, ap, List, length, map, arith}
use Rattle.std.proofs.lemmas.List.{length_push, map_push}
use Rattle.std.specs.String.{string_bytes}
use Rattle.vx_files.specs.FolderKeeping.{named_view}
use Rattle.vx_laws_writing.specs.Writing.{file_name}
use Rattle.vx_files.specs.declared.files.NamedBytes.{NamedBytes}
use Rattle.vx_writing.proofs.PartFiles.{one_more_named}
use Rattle.vx_writing.proofs.making.numbered.Goals as goal

pub loop-bytes-preserved : goal.loop-bytes-preserved
loop-bytes-preserved c =
    let l = c.loop-bytes in
    let bytes = c.in-Some.bytes in
    let name = c.in_ok-name.name in
    let file : NamedBytes = record { name = name; bytes = bytes } in
    let pushed = c.in_ok-push.ensures.items in
    let number : c.len-in-loop-bytes.result ≡ length l.yielded = omega (arith, c.len-in-loop-bytes.ensures, l.named.ok, l.invariant.1) in (
      ap (λ (files : List NamedBytes). map named_view files) pushed ∙ map_push named_view l.named.items file
          ∙ one_more_named l.yielded bytes (map named_view l.named.items) (string_bytes name) l.invariant.0 (c.in_ok-name.ensures ∙ ap file_name number),
      omega (arith, ap (λ (files : List NamedBytes). length files) pushed, length_push l.named.items file, length_push l.yielded bytes, l.invariant.1),
    )
