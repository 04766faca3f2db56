-- Values as data. A raw value is what a scalar holds beside its type; a value has its names and integer types in itself, and may be a fault.
use Rattle.std.specs.Prelude.{ℤ, Bool, true, false, cond}
use Rattle.vx_dtype.specs.Types.{Bytes, Ty, bool_ty, int_ty, text_ty, list_ty, struct_ty, Fields, no_fields, field, PType}

mutual
  -- a value without names and integer types
  pub data Raw : Type 0 where
    raw_null : Raw
    raw_bool : Bool → Raw
    raw_int : ℤ → Raw
    raw_text : Bytes → Raw
    raw_list : Raws → Raw
    raw_struct : Raws → Raw

  -- a list of raw values
  pub data Raws : Type 0 where
    no_raws : Raws
    raw : Raw → Raws → Raws

mutual
  -- the value of an expression at a row: null, a boolean, a number of an integer type, a text, a list, a struct of named members, or a fault
  pub data Val : Type 0 where
    null_val : Val
    bool_val : Bool → Val
    int_val : PType → ℤ → Val
    text_val : Bytes → Val
    list_val : Vals → Val
    struct_val : Members → Val
    fault : Val

  -- a list of values
  pub data Vals : Type 0 where
    no_vals : Vals
    val : Val → Vals → Vals

  -- the members of a struct in order, each with its name and value
  pub data Members : Type 0 where
    no_members : Members
    member : Bytes → Val → Members → Members

-- a raw value beside its type, as a scalar holds them
pub record Typed : Type 0 where
  pub ty : Ty
  pub value : Raw

-- the boolean, number or text of a raw value, at a type of its shape
abbrev pub bool_at : Bool → Ty → Val
bool_at b (bool_ty n) = bool_val b
bool_at b _ = fault

abbrev pub int_at : ℤ → Ty → Val
int_at i (int_ty p n) = int_val p i
int_at i _ = fault

abbrev pub text_at : Bytes → Ty → Val
text_at s (text_ty n) = text_val s
text_at s _ = fault

-- whether there are as many raw values as fields
abbrev pub as_many : Raws → Fields → Bool
as_many no_raws no_fields = true
as_many (raw x xs) (field f t fs) = as_many xs fs
as_many _ _ = false

unfoldable mutual
  -- the value that a raw value of a type stands for; a fault where the raw value has another shape, or more parts than the type has fields, or fewer
  pub valued : Raw → Ty → Val
  valued raw_null t = null_val
  valued (raw_bool b) t = bool_at b t
  valued (raw_int i) t = int_at i t
  valued (raw_text s) t = text_at s t
  valued (raw_list xs) (list_ty e n) = list_val (all_valued xs e)
  valued (raw_list xs) _ = fault
  valued (raw_struct xs) (struct_ty fs n) = cond (as_many xs fs) (struct_val (members_valued xs fs)) fault
  valued (raw_struct xs) _ = fault

  -- the values that raw values of one type stand for
  pub all_valued : Raws → Ty → Vals
  all_valued no_raws t = no_vals
  all_valued (raw x xs) t = val (valued x t) (all_valued xs t)

  -- the members that raw values stand for, each of its field's type, as far as both go
  pub members_valued : Raws → Fields → Members
  members_valued no_raws fs = no_members
  members_valued (raw x xs) no_fields = no_members
  members_valued (raw x xs) (field f t fs) = member f (valued x t) (members_valued xs fs)

-- the value that a scalar stands for
abbrev pub value_of : Typed → Val
value_of s = valued s.value s.ty
