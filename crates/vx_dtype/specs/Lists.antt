-- Membership in a list: a null element and a faulty one equal nothing.
use Rattle.std.specs.Prelude.{Bool, false, ◌||◌}
use Rattle.vx_dtype.specs.Values.{Val, bool_val, list_val, fault, Vals, no_vals, val}
use Rattle.vx_dtype.specs.Logic.{on_known, is_true_val}
use Rattle.vx_dtype.specs.Order.{compare3, Eq}

-- whether an element of the list equals the value
abbrev pub has_element : Vals → Val → Bool
has_element no_vals v = false
has_element (val x xs) v = is_true_val (compare3 Eq x v) || has_element xs v

-- whether a list holds a value that is not null; what is no list holds nothing
abbrev pub contains_of : Val → Val → Val
contains_of (list_val xs) v = bool_val (has_element xs v)
contains_of _ _ = fault

-- whether a list holds a value
abbrev pub contains3 : Val → Val → Val
contains3 list v = on_known contains_of list v
