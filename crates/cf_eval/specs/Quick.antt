-- What is found without the exact way: numbers of 64 bits, how they compare, sets of variables.
use Rattle.std.specs.Prelude.{◌≡◌, ◌≢◌, ℤ, Bool, List, [], ◌∷◌, Option, Some, None}
use Rattle.cf_tree.specs.Values.{Value, number}
use Rattle.cf_eval.specs.declared.quick.TheConstants.{UNKNOWN}
use Rattle.cf_eval.specs.Reached.{Reached, given, as_set, as_truth}

-- a number that is found is what is given
abbrev pub Finds : Option ℤ → Reached (List Value) → Type 0
Finds None r = Unit {0}
Finds (Some z) r = r ≡ given (number z ∷ [])

-- the same, where one number stands for none
abbrev pub Packs : ℤ → Reached (List Value) → Type 0
Packs z r = z ≢ UNKNOWN → r ≡ given (number z ∷ [])

-- a set that is found is the one that is given
abbrev pub FindsSet : Option (List ℤ) → Reached (List Value) → Type 0
FindsSet None r = Unit {0}
FindsSet (Some zs) r = as_set r ≡ given zs

-- a truth value that is found is what is given
abbrev pub FindsTruth : Option Bool → Reached (List Value) → Type 0
FindsTruth None r = Unit {0}
FindsTruth (Some b) r = as_truth r ≡ given b
