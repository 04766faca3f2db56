-- JSON values looked into: objects with exactly these members, lists of such values, whole numbers.
use Rattle.std.specs.Prelude.{ℕ, ℤ, ◌==◌, Bool, false, cond, List, [], ◌∷◌, length, Option, Some, None, option_and_then}
use Rattle.serde_json.specs.Data.{Data, Items, no_items, item, Members}
use Rattle.serde_json.specs.Events.{members_len}
use Rattle.serde_json.specs.Find.{get, as_object, as_array, as_number, as_u64, as_integer}
use Rattle.serde_json.specs.Written.{has_float}
use Rattle.vx_dtype.specs.Types.{Bytes}

-- the step after a value that was found, none where there was none
infixl 10 ◌>>=◌
abbrev pub ◌>>=◌ : {A B : Type 0} → Option A → (A → Option B) → Option B
o >>= f = option_and_then f o

-- whether there are members, and so many
abbrev pub are_members : ℕ → Option Members → Bool
are_members n None = false
are_members n (Some ms) = members_len ms == n

-- whether a value is an object of so many members
abbrev pub has_members : ℕ → Data → Bool
has_members n d = are_members n (as_object d)

-- the values of the members of these names, where none is missing
abbrev pub values_named : List Bytes → Data → Option (List Data)
values_named [] d = Some []
values_named (k ∷ ks) d = get k d >>= λ x. values_named ks d >>= λ xs. Some (x ∷ xs)

-- the values of an object that has exactly the members of these names
abbrev pub object_of : List Bytes → Data → Option (List Data)
object_of ks d = cond (has_members (length ks) d) (values_named ks d) None

-- what is read of each of the items, where it is read of all
abbrev pub each_item : {A : Type 0} → (Data → Option A) → Items → Option (List A)
each_item read no_items = Some []
each_item read (item d ds) = read d >>= λ x. each_item read ds >>= λ xs. Some (x ∷ xs)

-- what is read of each value of a list
abbrev pub list_read : {A : Type 0} → (Data → Option A) → Data → Option (List A)
list_read read d = as_array d >>= each_item read

-- a whole number of 64 bits that is not negative, and one with or without a sign
abbrev pub count_in : Data → Option ℕ
count_in d = as_number d >>= as_u64

abbrev pub integer_in : Data → Option ℤ
integer_in d = as_number d >>= as_integer

-- what is read of a value whose numbers, at any depth, are whole numbers of 64 bits; any other number is a float
abbrev pub whole_read : {A : Type 0} → (Data → Option A) → Data → Option A
whole_read read d = cond (has_float d) None (read d)
