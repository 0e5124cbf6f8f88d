-- A relation has a case, and so a solved choose has an arm.
use Rattle.std.proofs.Common.{true, List, [], ◌∷◌, map}
use Rattle.cf_tree.specs.CodeTree.{ArmTree, arms_of}
use Rattle.cf_tree.specs.RelTree.{RelTree}
use Rattle.cf_linear.specs.Cases.{negation_normal, disjuncts, system_of_case, first_systems}
use Rattle.cf_linear.specs.Layout.{Layout}
use Rattle.cf_linear.specs.Systems.{System}
use Rattle.cf_cases.proofs.Quantifiers.{some-map}
use Rattle.cf_cases.proofs.FirstSystemLaws.{HasItem, some_case}
use Rattle.cf_choose.specs.Solved.{HasArms}

mapped : {A B : Type 0} (f : A → B) (xs : List A) → HasItem xs → HasItem (map f xs)
mapped f xs h = some-map (λ _. Unit {0}) f xs h

arms_from : (ts : List ArmTree) → HasItem ts → HasArms (arms_of ts)
arms_from [] h = absurd h
arms_from (t ∷ ts) h = tt

pub has_arms : (l : Layout) (rel : RelTree) (f : System → ArmTree) → HasArms (arms_of (map f (first_systems l rel)))
unfolding first_systems
has_arms l rel f =
    arms_from (map f (map (system_of_case l) (disjuncts (negation_normal true rel))))
    (mapped f (map (system_of_case l) (disjuncts (negation_normal true rel)))
    (mapped (system_of_case l) (disjuncts (negation_normal true rel)) (some_case (negation_normal true rel))))
