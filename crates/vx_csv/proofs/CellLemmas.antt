-- What is some where a test holds, and null whether it does or not.
use Rattle.std.proofs.Common.{◌≡◌, refl, Bool, true, false, cond, Some, None, is_some, unwrap_or}
use Rattle.vx_dtype.specs.Values.{Raw, raw_null}

pub some-if : (b : Bool) (x : Raw) → b ≡ is_some (cond b (Some x) None)
some-if true x = refl
some-if false x = refl

pub null-either : (b : Bool) → raw_null ≡ unwrap_or (cond b (Some raw_null) None) raw_null
null-either true = refl
null-either false = refl
