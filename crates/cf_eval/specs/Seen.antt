-- The plain values that values of the program stand for.
use Rattle.std.specs.Prelude.{List, map}
use Rattle.cf_num.specs.Limit.{IsWithin}
use Rattle.cf_tree.specs.Values.{Value, number, truth, elements}
use Rattle.cf_eval.specs.declared.value.Value.{Value as RunValue}
use Rattle.cf_eval.specs.declared.value.Value.TheVariants.{Int, Truth, Elements}

abbrev pub plain : RunValue → Value
plain (Int z) = number z
plain (Truth b) = truth b
plain (Elements zs) = elements zs

abbrev pub plains : List RunValue → List Value
plains vs = map plain vs

-- a number of the value, if it is one, is within the limit
abbrev pub IsFit : RunValue → Type 0
IsFit (Int z) = IsWithin z
IsFit (Truth b) = Unit {0}
IsFit (Elements zs) = Unit {0}
