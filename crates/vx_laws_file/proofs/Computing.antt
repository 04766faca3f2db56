-- What has to unfold for the worked examples to compute.
use Rattle.std.specs.Str.{chars}
use Rattle.vx_dtype.specs.TypeRules.{no_name_twice, depth_of}
use Rattle.vx_dtype.specs.Equal.{ty_eq}
use Rattle.vx_dtype.specs.Values.{valued}
use Rattle.vx_dtype.specs.Fits.{fits, val_fits}
use Rattle.vx_wire_bytes.specs.Numbers.{number_bytes}
use Rattle.vx_wire_bytes.specs.Reading.{sevens_at, number_at, piece_at, text_at}
use Rattle.vx_wire_bytes.specs.ValueForms.{integer_bytes}
use Rattle.vx_wire_bytes.specs.ValueReading.{integer_at, elements_with, all_elements_with, kind_at}
use Rattle.vx_zones.specs.Zoning.{broken_rule}
use Rattle.vx_laws_file.specs.HeaderReading.{front_at}
use Rattle.vx_laws_file.specs.FileReading.{opened_of}
use Rattle.vx_laws_file.specs.HeldTables.{range_values}

-- named on an `unfolding` line it opens all of these
unfoldable pub all_forms : Unit {0}
unfolding chars no_name_twice depth_of ty_eq valued fits val_fits number_bytes sevens_at number_at piece_at text_at integer_bytes integer_at elements_with all_elements_with kind_at
    broken_rule range_values opened_of front_at
all_forms = tt
