-- The members of an object as the map holds them, and whole numbers.
use Rattle.std.proofs.Common.{◌≡◌, ℕ, pos, List, length, Option, Some, None, String, Global, refl}
use Rattle.serde_json.proofs.Views.{members_len-members_view}
use Rattle.serde_json.specs.Data.{Num, unsigned, negative, float}
use Rattle.serde_json.specs.Events.{members_len}
use Rattle.serde_json.specs.Find.{as_u64, as_i64, as_integer}
use Rattle.serde_json.specs.View.{members_view}
use Rattle.serde_json.specs.declared.value.Value.{Value}
use Rattle.vx_request.specs.Objects.{◌>>=◌}

-- an object has as many members as its map has entries
pub members_len_view : (es : List (String Global × Value)) → members_len (members_view es) ≡ length es
members_len_view es = members_len-members_view es

-- a number that is a count is that whole number
pub integer_by_count : (o : Option Num) (n : ℕ) → (o >>= as_u64) ≡ Some n → (o >>= as_integer) ≡ Some (pos n)
integer_by_count None n e = absurd (cc e)
integer_by_count (Some (unsigned m)) n e = cc e
integer_by_count (Some (negative z)) n e = absurd (cc e)
integer_by_count (Some (float x)) n e = absurd (cc e)

-- a number that is no count is a whole number where it is one of 64 bits with a sign
pub integer_by_sign : (o : Option Num) → (o >>= as_u64) ≡ None → (o >>= as_integer) ≡ (o >>= as_i64)
integer_by_sign None e = refl
integer_by_sign (Some (unsigned m)) e = absurd (cc e)
integer_by_sign (Some (negative z)) e = refl
integer_by_sign (Some (float x)) e = refl
