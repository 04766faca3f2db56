-- Where the bytes of a table are, by its name.
use Rattle.std.specs.Prelude.{◌==◌, ◌||◌, cond, codes, ◌++◌, Bool, ℕ}
use Rattle.std.specs.Io.BufRead.{ends_with_byte}
use Rattle.std.specs.List.{list_any}
use Rattle.std.specs.Str.{bytes_eq}
use Rattle.vx_dtype.specs.Types.{Bytes}

-- where the bytes of a table are: on the standard input, as JSON, in a block file, or in the block files of a folder
pub data Origin : Type 0 where
  standard_input : Origin
  block_file : Bytes → Origin
  folder : Bytes → Origin

-- whether a byte makes a name a path: `.` or `/`
abbrev pub is_of_path : ℕ → Bool
is_of_path b = b == 46 || b == 47

-- the path that a name means: itself, or where neither `.` nor `/` stands in it, with the ending of block files
abbrev pub path_of : Bytes → Bytes
path_of name = cond (list_any is_of_path name) name (name ++ codes ".vxb")

-- what a name means that isn't `stdin`: where it ends in `/` a folder, else a block file
abbrev pub origin_on_disk : Bytes → Origin
origin_on_disk name = cond (ends_with_byte 47 name) (folder name) (block_file (path_of name))

-- what the name of a table means: `stdin` the standard input, each other one a folder or a block file
abbrev pub origin_of : Bytes → Origin
origin_of name = cond (bytes_eq name (codes "stdin")) standard_input (origin_on_disk name)
