-- Problems with and without solutions.
use Rattle.std.proofs.Common.{◌≡◌, ℕ, zero, suc, ◌==◌, ℤ, pos, negsuc, List, [], ◌∷◌, Bool, true, false, cond, refl, arith, inl, inr}
use Rattle.std.specs.Prelude.{not}
use Rattle.std.proofs.lemmas.Int.{ints}
use Rattle.std.proofs.lemmas.List.Elements.{All-push}
use Rattle.cf_linear.specs.Rows.{Row, Values}
use Rattle.cf_close.specs.declared.fact.Fact.{Fact}
use Rattle.cf_close.specs.declared.fact.FactKind.TheVariants.{Equation, Inequality}
use Rattle.cf_close.specs.Facts.{FactHolds}
use Rattle.cf_close.specs.Problems.{Conjunction, Problem, Marks, OrHolds, MarkedHold, Solves, HasNone}
use Rattle.cf_close.proofs.NodeLemmas.{All-none}

abbrev bare : Conjunction
bare = record { facts = []; ors = [] }

abbrev alone : Fact → Problem
alone f = record { conjunctions = record { facts = f ∷ []; ors = [] } ∷ []; root = 0 }

abbrev equation : Row → Fact
equation r = record { kind = Equation; row = r }

holds_alone : (v : Values) (m : Marks) (f : Fact) → Solves v m (alone f) → FactHolds v f
holds_alone v m f s = (s.marked 0 bare (omega arith) s.root).facts_hold 0 f (omega arith)

-- 1 is not 0
one_is_not_0 : HasNone (alone (equation ((0, pos 1) ∷ [])))
one_is_not_0 = record { none = λ v m s. let h = rw s.one at (holds_alone v m (equation ((0, pos 1) ∷ [])) s) in cc h }

-- -1 is below 0
minus_1_is_below_0 : HasNone (alone (record { kind = Inequality; row = (0, negsuc 0) ∷ [] }))
minus_1_is_below_0 = record {
  none = λ v m s. let h = rw s.one at (holds_alone v m (record { kind = Inequality; row = (0, negsuc 0) ∷ [] }) s) in omega (arith, ints);
}

-- an or without branches
no_branch_holds : HasNone (record { conjunctions = record { facts = []; ors = [] ∷ [] } ∷ []; root = 0 })
no_branch_holds = record { none = λ v m s. (s.marked 0 bare (omega arith) s.root).ors_hold 0 [] (omega arith) }

-- x == 3 or x == 2
abbrev two_or_three : List Conjunction
two_or_three = record { facts = []; ors = (2 ∷ 1 ∷ []) ∷ [] } ∷
    record { facts = equation ((0, negsuc 1) ∷ (1, pos 1) ∷ []) ∷ []; ors = [] } ∷
    record { facts = equation ((0, negsuc 2) ∷ (1, pos 1) ∷ []) ∷ []; ors = [] } ∷ []

abbrev at_two : Values
at_two c = cond (c == 0) (pos 1) (pos 2)

abbrev but_the_last : Marks
but_the_last i = not (i == 2)

marked_hold : MarkedHold at_two but_the_last two_or_three
marked_hold zero d l e = record {
  facts_hold = All-none (FactHolds at_two);
  ors_hold = All-push (OrHolds but_the_last) [] (2 ∷ 1 ∷ []) (All-none (OrHolds but_the_last)) (inr (inl refl));
}
marked_hold (suc zero) d l e = record {
  facts_hold = All-push (FactHolds at_two) [] (equation ((0, negsuc 1) ∷ (1, pos 1) ∷ [])) (All-none (FactHolds at_two)) refl;
  ors_hold = All-none (OrHolds but_the_last);
}
marked_hold (suc (suc zero)) d l e = cc e
marked_hold (suc (suc (suc i))) d l e = absurd (omega (arith, l))

two_solves : Solves at_two but_the_last (record { conjunctions = two_or_three; root = 0 })
two_solves = record { one = refl; root = refl; marked = marked_hold }
