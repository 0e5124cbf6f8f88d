-- What an equation step makes of a system, and when it passes the limit.
use Rattle.std.specs.Prelude.{ℕ, Bool, false, List, [], ◌∷◌, map, slice_index_or, drop}
use Rattle.cf_linear.specs.Rows.{Row}
use Rattle.cf_linear.specs.Systems.{System, Answer, no_answer}
use Rattle.cf_linear.specs.Steps.{present, merge, merge_passes, last, last_passes}
use Rattle.cf_linear.specs.Keep.{In}
use Rattle.cf_linear.specs.Views.{system_of, step_of, back_of}
use Rattle.cf_equation.specs.declared.unknowns.Present.{Present}
use Rattle.cf_equation.specs.declared.unknowns.Present.TheVariants.{Nothing, One, Several}
use Rattle.cf_equation.specs.declared.step.Reduced.{Reduced}

-- the first equation, and the others
abbrev pub first_of : System → Row
first_of m = slice_index_or m.equations 0 []

abbrev pub rest_of : System → List Row
rest_of m = drop 1 m.equations

-- none, one, or the first two
abbrev pub present_of : List ℕ → Present
present_of [] = Nothing
present_of (u ∷ []) = One u
present_of (u ∷ w ∷ us) = Several u w

-- the system that is left, and what was made
abbrev pub reduced : Reduced → Answer
reduced r = record { system = system_of r.system; steps = map step_of r.steps.items; back = map back_of r.back.items; bounds = [] }

-- a Merge of the first two unknowns of the first equation, or its end
abbrev pub equation_answer : System → List ℕ → Answer
equation_answer m [] = no_answer m
equation_answer m (u ∷ []) = last m (first_of m) (rest_of m) u
equation_answer m (u ∷ w ∷ us) = merge m (first_of m) u w

abbrev pub equation_passes : System → List ℕ → Bool
equation_passes m [] = false
equation_passes m (u ∷ []) = last_passes m (first_of m) (rest_of m) u
equation_passes m (u ∷ w ∷ us) = merge_passes m (first_of m) u w

-- the unknowns of the first equation
abbrev pub first_present : System → List ℕ
first_present m = present m.unknown (first_of m)
