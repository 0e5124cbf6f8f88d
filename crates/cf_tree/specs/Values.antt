-- Values, environments and outcomes.
use Rattle.std.specs.Prelude.{ℕ, ℤ, pos, ◌≡◌, Bool, true, false, not, ◌&&◌, ◌||◌, int_lt, List, [], ◌∷◌, slice_index_or}
use Rattle.std.specs.Ordering.{int_eq}
use Rattle.cf_tree.specs.declared.base.Base.{Base}
use Rattle.cf_tree.specs.declared.base.Base.TheVariants.{Int, Bool as Truth, Set}
use Rattle.cf_tree.specs.declared.base.Order.{Order}
use Rattle.cf_tree.specs.declared.base.Order.TheVariants.{Eq, Ne, Lt, Le, Gt, Ge}
use Rattle.cf_tree.specs.Sets.{IsRising}

-- a number, a truth value, or a set as a strictly rising list
pub data Value : Type 0 where
  number : ℤ → Value
  truth : Bool → Value
  elements : List ℤ → Value

-- values, or the number of the choose that has no solution
pub data Outcome : Type 0 where
  values : List Value → Outcome
  no_solution : ℕ → Outcome

abbrev pub number_of : Value → ℤ
number_of (number z) = z
number_of (truth b) = pos 0
number_of (elements zs) = pos 0

abbrev pub truth_of : Value → Bool
truth_of (number z) = false
truth_of (truth b) = b
truth_of (elements zs) = false

abbrev pub elements_of : Value → List ℤ
elements_of (number z) = []
elements_of (truth b) = []
elements_of (elements zs) = zs

-- the value of a variable, by its level
abbrev pub value_at : List Value → ℕ → Value
value_at env x = slice_index_or env x (number (pos 0))

-- the first of a list of values
abbrev pub first_of : List Value → Value
first_of [] = number (pos 0)
first_of (v ∷ vs) = v

abbrev pub HasBase : Base → Value → Type 0
HasBase Int v = (z : ℤ) × (v ≡ number z)
HasBase Truth v = (b : Bool) × (v ≡ truth b)
HasBase Set v = (zs : List ℤ) × (v ≡ elements zs) × IsRising zs

-- one value of each base, in order
abbrev pub HaveBases : List Base → List Value → Type 0
HaveBases [] [] = Unit {0}
HaveBases [] (v ∷ vs) = ⊥
HaveBases (b ∷ bs) [] = ⊥
HaveBases (b ∷ bs) (v ∷ vs) = HasBase b v × HaveBases bs vs

abbrev pub same_truth : Bool → Bool → Bool
same_truth b c = b && c || not b && not c

abbrev pub same_list : List ℤ → List ℤ → Bool
same_list [] [] = true
same_list [] (y ∷ ys) = false
same_list (x ∷ xs) [] = false
same_list (x ∷ xs) (y ∷ ys) = int_eq x y && same_list xs ys

-- whether two values of one base are the same
abbrev pub same_value : Value → Value → Bool
same_value (number x) w = int_eq x (number_of w)
same_value (truth b) w = same_truth b (truth_of w)
same_value (elements zs) w = same_list zs (elements_of w)

-- how two values of one base compare; only numbers have an order
abbrev pub compared : Order → Value → Value → Bool
compared Eq v w = same_value v w
compared Ne v w = not (same_value v w)
compared Lt v w = int_lt (number_of v) (number_of w)
compared Le v w = not (int_lt (number_of w) (number_of v))
compared Gt v w = int_lt (number_of w) (number_of v)
compared Ge v w = not (int_lt (number_of v) (number_of w))
