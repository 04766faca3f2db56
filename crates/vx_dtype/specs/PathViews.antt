-- How the parts of a path are seen: each as the bytes of its name.
use Rattle.vx_dtype.specs.Types.{Bytes}
use Rattle.vx_dtype.specs.declared.paths.Field.{Field}
use Rattle.vx_dtype.specs.declared.paths.Field.TheVariants.{Name}

-- the name that a part of a path stands for
abbrev pub part_name : Field → Bytes
part_name (Name f) = f
