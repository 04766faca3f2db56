-- How headers are seen.
use Rattle.std.specs.Prelude.{map}
use Rattle.vx_zones.specs.ZoneViews.{stat_view}
use Rattle.vx_laws_file.specs.FileForms.{Header}
use Rattle.vx_file_bytes.specs.declared.headers.FileHeader.{FileHeader}

-- the header that this one stands for
abbrev pub header_view : FileHeader → Header
header_view h =
    record {
      zones = record { columns = h.fields; lengths = h.lengths.items; stats = map stat_view h.stats.items };
      range_lengths = map (λ ns. ns.items) h.range_lengths.items;
    }
