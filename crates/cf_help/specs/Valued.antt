-- The values of forms over the values of their parts.
use Rattle.std.specs.Prelude.{ℤ, neg_ℤ, int_lt, List, Result, Ok, Err, if◌then◌else◌}
use Rattle.cf_tree.specs.Numbers.{quotient, remainder, absolute}
use Rattle.cf_tree.specs.RawTree.{RawTree, raw_neg, raw_abs, raw_div, raw_mod, raw_min, raw_max}
use Rattle.cf_tree.specs.declared.base.Place.{Place}
use Rattle.cf_tree.specs.declared.base.Sense.{Sense}
use Rattle.cf_tree.specs.declared.base.Sense.TheVariants.{Least, Greatest}
use Rattle.cf_program.specs.Constants.{Constant, divisor, of_several, least_of, greatest_of}
use Rattle.cf_program.specs.declared.fault.TypeFault.{TypeFault}
use Rattle.cf_program.specs.declared.fault.TypeFault.TheVariants.{NotConstant}

-- the value of a form at p over that of its one part; another form is not constant
abbrev pub value_over_one : List Constant → Place → RawTree → ℤ → Result ℤ TypeFault
value_over_one cs p (raw_neg q a) v = Ok (neg_ℤ v)
value_over_one cs p (raw_abs q a) v = Ok (absolute v)
value_over_one cs p (raw_div q a k) v = Ok (quotient v (divisor cs k))
value_over_one cs p (raw_mod q a k) v = Ok (remainder v (divisor cs k))
value_over_one cs p _ v = Err (NotConstant p)

-- the least or the greatest of two values
abbrev pub nearer : Sense → ℤ → ℤ → ℤ
nearer Least a b = if int_lt b a then b else a
nearer Greatest a b = if int_lt a b then b else a

-- and of several
abbrev pub extreme : Sense → List ℤ → ℤ
extreme Least vs = of_several least_of vs
extreme Greatest vs = of_several greatest_of vs

-- the value of a form at p over those of its parts in a row; another form is not constant
abbrev pub value_over_row : Place → RawTree → List ℤ → Result ℤ TypeFault
value_over_row p (raw_min q es) vs = Ok (extreme Least vs)
value_over_row p (raw_max q es) vs = Ok (extreme Greatest vs)
value_over_row p _ vs = Err (NotConstant p)
