-- For the checker: no public clause cites this. The elements of a list as the code looks values up in them.
use Rattle.std.specs.Prelude.{◌≡◌, Bool, false, List, Option, Some, None}
use Rattle.std.specs.List.{list_any}
use Rattle.vx_dtype.specs.Values.{Raw, raw_bool, raw_int, raw_text, raw_list}
use Rattle.vx_kernels.specs.RawRules.{raw_equal, raws_have}
use Rattle.vx_kernels.specs.declared.lookups.Key.{Key}
use Rattle.vx_kernels.specs.declared.lookups.Key.TheVariants.{Truth, Number, Text}

-- the value that a key stands for
abbrev pub key_raw : Key → Raw
key_raw (Truth b) = raw_bool b
key_raw (Number i) = raw_int i
key_raw (Text s) = raw_text s.now

-- a plain value that isn't null, and none of another
abbrev pub plain_part : Raw → Option Raw
plain_part (raw_bool b) = Some (raw_bool b)
plain_part (raw_int i) = Some (raw_int i)
plain_part (raw_text s) = Some (raw_text s)
plain_part _ = None

-- whether one of the keys equals a value
abbrev pub keys_have : List Key → Raw → Bool
keys_have keys v = list_any (λ k. raw_equal (key_raw k) v) keys

-- whether one of a list's elements equals a value; what is no list has none
abbrev pub list_has : Raw → Raw → Bool
list_has (raw_list xs) v = raws_have xs v
list_has _ v = false

-- the keys have the values that a list's elements have
abbrev pub AreKeysOf : Raw → List Key → Type 0
AreKeysOf list keys = (v : Raw) → list_has list v ≡ keys_have keys v
