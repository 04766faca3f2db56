-- Three-valued logic after Kleene, with a fault that absorbs: it wins over false, true and null on the other side.
use Rattle.std.specs.Prelude.{Bool, true, false}
use Rattle.vx_dtype.specs.Values.{Val, null_val, bool_val, fault}

-- a truth value: true, false, unknown (null), or broken (a fault)
pub data Tri : Type 0 where
  holds : Tri
  fails : Tri
  unknown : Tri
  broken : Tri

-- the truth value of a value; what is neither a boolean nor null counts as broken
abbrev pub tri : Val → Tri
tri (bool_val true) = holds
tri (bool_val false) = fails
tri null_val = unknown
tri _ = broken

-- the value of a truth value
abbrev pub truth : Tri → Val
truth holds = bool_val true
truth fails = bool_val false
truth unknown = null_val
truth broken = fault

-- broken where a side is; else false where a side is false, true where both are true, else unknown
abbrev pub and_tri : Tri → Tri → Tri
and_tri broken _ = broken
and_tri _ broken = broken
and_tri fails _ = fails
and_tri _ fails = fails
and_tri holds holds = holds
and_tri _ _ = unknown

-- broken where a side is; else true where a side is true, false where both are false, else unknown
abbrev pub or_tri : Tri → Tri → Tri
or_tri broken _ = broken
or_tri _ broken = broken
or_tri holds _ = holds
or_tri _ holds = holds
or_tri fails fails = fails
or_tri _ _ = unknown

-- true and false exchanged
abbrev pub not_tri : Tri → Tri
not_tri holds = fails
not_tri fails = holds
not_tri unknown = unknown
not_tri broken = broken

-- the three connectives on values
abbrev pub and3 : Val → Val → Val
and3 l r = truth (and_tri (tri l) (tri r))

abbrev pub or3 : Val → Val → Val
or3 l r = truth (or_tri (tri l) (tri r))

abbrev pub not3 : Val → Val
not3 v = truth (not_tri (tri v))

-- whether a value is null: true for null, false for any other value, a fault for a fault
abbrev pub is_null3 : Val → Val
is_null3 fault = fault
is_null3 null_val = bool_val true
is_null3 _ = bool_val false

-- whether a value is null
abbrev pub is_null_val : Val → Bool
is_null_val null_val = true
is_null_val _ = false

-- whether a value is the boolean true
abbrev pub is_true_val : Val → Bool
is_true_val (bool_val true) = true
is_true_val _ = false

-- what a rule of two operands gives: a fault where a side is one, null where a side is null, else what the rule says
abbrev pub on_known : (Val → Val → Val) → Val → Val → Val
on_known rule fault _ = fault
on_known rule _ fault = fault
on_known rule null_val _ = null_val
on_known rule _ null_val = null_val
on_known rule l r = rule l r
