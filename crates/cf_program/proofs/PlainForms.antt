-- The forms of language 2 among those of both editions, as examples write them: literals as divisors and factors, a choose of outputs and a relation alone, and
-- programs of functions alone.
use Rattle.std.specs.Prelude.{ℕ, ℤ, List, [], map, false, Some, Result}
use Rattle.cf_tree.specs.declared.base.Edition.TheVariants.{Two}
use Rattle.cf_tree.specs.declared.base.Place.{Place}
use Rattle.cf_tree.specs.declared.raw.Param.{Param}
use Rattle.cf_tree.specs.DefView.{RawDefTree, item_def}
use Rattle.cf_tree.specs.RawTree.{RawTree, raw_divides as raw_divides_by, raw_div as raw_div_by, raw_mod as raw_mod_by, raw_choose as raw_choose_of, PartTree, number_lit, no_given, no_aim}
use Rattle.cf_program.specs.declared.fault.TypeFault.{TypeFault}
use Rattle.cf_program.specs.declared.linearity.Linearity.TheVariants.{Plain, Late}
use Rattle.cf_program.specs.Checked.{TypedTree, checked as checked_of}

abbrev pub raw_divides : Place → ℤ → RawTree → RawTree
raw_divides p k a = raw_divides_by p (number_lit k) a

abbrev pub raw_div : Place → RawTree → ℤ → RawTree
raw_div p a k = raw_div_by p a (number_lit k)

abbrev pub raw_mod : Place → RawTree → ℤ → RawTree
raw_mod p a k = raw_mod_by p a (number_lit k)

abbrev pub raw_choose : Place → List Param → RawTree → RawTree
raw_choose p outputs r = raw_choose_of p outputs [] no_given r no_aim

-- a factor times a name
abbrev pub part : Place → ℤ → List ℕ → PartTree
part p f x = record { start = p; is_negative = false; factor = Some (number_lit f); place = p; name = x }

abbrev pub checked : List RawDefTree → Result TypedTree TypeFault
checked ds = checked_of Two Plain (map item_def ds)

abbrev pub checked_late : List RawDefTree → Result TypedTree TypeFault
checked_late ds = checked_of Two Late (map item_def ds)
