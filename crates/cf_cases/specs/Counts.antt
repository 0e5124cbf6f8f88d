-- How the numbers of cases of parts come together.
use Rattle.std.specs.Prelude.{ℕ, ◌+◌, ◌-◌, ◌*◌, ◌^◌, min, Bool, true, false}
use Rattle.cf_tree.specs.declared.base.Order.{Order}
use Rattle.cf_tree.specs.declared.base.Order.TheVariants.{Eq, Ne, Lt, Le, Gt, Ge}
use Rattle.cf_linear.specs.Cases.{opposite, Normal, normal_atom, normal_and, normal_or, case_count}
use Rattle.cf_cases.specs.declared.counting.Counts.{Counts, One, Two'}

-- at most 2 ^ 128 - 1
abbrev pub wide : ℕ → ℕ
wide n = min n (2 ^ 128 - 1)

-- the order, where `holds` is true, or the opposite one
abbrev pub order_as : Bool → Order → Order
order_as true o = o
order_as false o = opposite o

abbrev pub order_ways : Order → ℕ
order_ways Eq = 1
order_ways Ne = 2
order_ways Lt = 1
order_ways Le = 1
order_ways Gt = 1
order_ways Ge = 1

abbrev pub both_or_either : Bool → ℕ → ℕ → ℕ
both_or_either true a b = a * b
both_or_either false a b = a + b

-- the numbers of cases of a relation and of its parts
pub data CountTree : Type 0 where
  one_count : ℕ → CountTree
  two_counts : ℕ → CountTree → CountTree → CountTree

abbrev pub count_tree : Counts → CountTree
count_tree (One n) = one_count n
count_tree (Two' n p a q b) = two_counts n (count_tree a) (count_tree b)

abbrev pub count_in : CountTree → ℕ
count_in (one_count n) = n
count_in (two_counts n a b) = n

abbrev pub left_in : CountTree → CountTree
left_in (one_count n) = one_count n
left_in (two_counts n a b) = a

abbrev pub right_in : CountTree → CountTree
right_in (one_count n) = one_count n
right_in (two_counts n a b) = b

abbrev pub both_counts : Bool → CountTree → CountTree → CountTree
both_counts both a b = two_counts (wide (both_or_either both (count_in a) (count_in b))) a b

-- each counted once
abbrev pub counts_of : Normal → CountTree
counts_of (normal_atom a) = one_count (wide (case_count (normal_atom a)))
counts_of (normal_and p q) = both_counts true (counts_of p) (counts_of q)
counts_of (normal_or p q) = both_counts false (counts_of p) (counts_of q)
