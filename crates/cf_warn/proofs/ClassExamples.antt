-- Worked questions whether classes hold every number: they do, they miss one, the question is refused, and what its own question says.
use Rattle.std.proofs.Common.{◌≡◌, ◌≤◌, ◌^◌, ◌-◌, pos, negsuc, refl, List, [], ◌∷◌, None, Some, replicate, arith}
use Rattle.std.proofs.lemmas.Int.{ints}
use Rattle.std.proofs.lemmas.List.Elements.{All-nil, All-cons}
use Rattle.cf_tree.specs.declared.base.Base.TheVariants.{Int}
use Rattle.cf_tree.specs.declared.base.Order.TheVariants.{Eq}
use Rattle.cf_tree.specs.Meaning.{means, peak}
use Rattle.cf_tree.specs.RelTree.{term_lit, term_var, term_sub, rel_compare, rel_divides, rel_and, rel_or}
use Rattle.cf_tree.specs.Typing.{one}
use Rattle.cf_tree.specs.Values.{number, values, no_solution}
use Rattle.cf_num.specs.Divisors.{gcd_by, factors_by}
use Rattle.cf_num.specs.Parts.{parts_of}
use Rattle.cf_linear.specs.declared.refusal.LimitKind.TheVariants.{Cases}
use Rattle.cf_linear.specs.declared.refusal.Refusal.TheVariants.{Past, Limit}
use Rattle.cf_linear.specs.Steps.{clean, mix, factors_of, merge, merge_passes, merge_factor, last, pick, searched, dropped, searched_by, bound, bound_passes, bound_factor}
use Rattle.cf_linear.specs.Stages.{run, run_for, clean_stage, equation_stage, bound_stage, unknown_stage, row_stage, stage}
use Rattle.cf_linear.specs.Cases.{disjuncts, case_count, system_of_case, first_systems, write_atom, written_passes}
use Rattle.cf_linear.specs.Arm.{arm}
use Rattle.cf_linear.specs.Chooses.{arms, first_refused, refusal_by, limit}
use Rattle.cf_choose.specs.Laws.{IsUnrefused}
use Rattle.cf_match.specs.declared.class.Class.{Class}
use Rattle.cf_match.specs.declared.class.Class.TheVariants.{Point, Residue}
use Rattle.cf_warn.specs.Classes.{IsClass, AreClasses, covered}
use Rattle.cf_warn.specs.Missing.{none_outputs, none, tuple_count}
use Rattle.cf_warn.specs.Solutions.{question_code, AreAlways, AreMissing}
use Rattle.cf_warn.proofs.ClassLaws.{covered_typed, covered_linear, one_output}
use Rattle.cf_warn.proofs.MissingTypes.{none_typed, none_linear, none_are_outputs}
use Rattle.cf_warn.proofs.SolutionLaws.{question_solution, question_none, always, missing}

-- ---- the question: one test for each class, joined from the left
three_tests : covered (Residue (pos 2) (pos 0) ∷ Point (pos 3) ∷ Residue (pos 5) (pos 1) ∷ []) ≡
    rel_and (rel_compare Eq (term_var 1) (term_lit (pos 0)))
    (rel_or (rel_or (rel_divides (pos 2) (term_sub (term_var 0) (term_lit (pos 0)))) (rel_compare Eq (term_var 0) (term_lit (pos 3))))
    (rel_divides (pos 5) (term_sub (term_var 0) (term_lit (pos 1)))))
three_tests = refl

-- ---- classes
abbrev pub evens : Class
evens = Residue (pos 2) (pos 0)

is_evens : IsClass evens
is_evens = ((omega (arith, ints), omega (arith, ints)), omega (arith, ints), omega (arith, ints))

-- no remainder is as great as its divisor, or below 0, and no number is past the limit
no_classes : (IsClass (Residue (pos 2) (pos 2)) → ⊥) × (IsClass (Residue (pos 2) (negsuc 0)) → ⊥) × (IsClass (Residue (pos 0) (pos 0)) → ⊥)
    × (IsClass (Point (pos 170141183460469231731687303715884105728)) → ⊥) × (AreClasses [] → ⊥)
no_classes = (
  (λ c. let h = c.2 in omega (arith, ints)),
  (λ c. let h = c.1 in omega (arith, ints)),
  (λ c. let h = c.0.0 in omega (arith, ints)),
  (λ c. omega (arith, ints)),
  λ c. let h = c.some in omega arith,
)

-- ---- the even and the odd numbers are all numbers
abbrev pub doubles : List Class
doubles = evens ∷ Residue (pos 2) (pos 1) ∷ []

pub doubles-are : AreClasses doubles
doubles-are = record {
  some = omega arith;
  each = All-cons IsClass evens (Residue (pos 2) (pos 1) ∷ []) is_evens
      (All-cons IsClass (Residue (pos 2) (pos 1)) [] ((omega (arith, ints), omega (arith, ints)), omega (arith, ints), omega (arith, ints)) (All-nil IsClass));
}

pub doubles-solved : limit (one Int) (one Int) (covered doubles) ≡ None
unfolding arms arm first_systems disjuncts system_of_case write_atom run run_for stage clean_stage equation_stage bound_stage unknown_stage row_stage clean mix
    factors_of merge merge_passes merge_factor last pick searched dropped searched_by bound bound_passes bound_factor gcd_by factors_by parts_of limit
    refusal_by case_count written_passes first_refused
doubles-solved = refl

doubles-unrefused : IsUnrefused (one Int) (one Int) (covered doubles)
doubles-unrefused = record {
  typed = covered_typed doubles doubles-are.each;
  linear = covered_linear doubles;
  are_outputs = one_output;
  within = doubles-solved;
}

pub doubles-tuples : tuple_count (one Int) (one Int) (covered doubles) ≡ 2
unfolding arms arm first_systems disjuncts system_of_case write_atom run run_for stage clean_stage equation_stage bound_stage unknown_stage row_stage clean mix
    factors_of merge merge_passes merge_factor last pick searched dropped searched_by bound bound_passes bound_factor gcd_by factors_by parts_of
doubles-tuples = refl

pub doubles-limit : limit [] (none_outputs (one Int) (one Int) (covered doubles)) (none (one Int) (one Int) (covered doubles)) ≡ None
unfolding arms arm first_systems disjuncts system_of_case write_atom run run_for stage clean_stage equation_stage bound_stage unknown_stage row_stage clean mix
    factors_of merge merge_passes merge_factor last pick searched dropped searched_by bound bound_passes bound_factor gcd_by factors_by parts_of limit
    refusal_by case_count written_passes first_refused
doubles-limit = refl

pub doubles-peak : peak (question_code (none_outputs (one Int) (one Int) (covered doubles)) (none (one Int) (one Int) (covered doubles))) [] ≤ 2 ^ 127 - 1
unfolding arms arm first_systems disjuncts system_of_case write_atom run run_for stage clean_stage equation_stage bound_stage unknown_stage row_stage clean mix
    factors_of merge merge_passes merge_factor last pick searched dropped searched_by bound bound_passes bound_factor gcd_by factors_by parts_of
doubles-peak = omega arith

doubles-question : IsUnrefused [] (none_outputs (one Int) (one Int) (covered doubles)) (none (one Int) (one Int) (covered doubles))
doubles-question = record {
  typed = none_typed (one Int) (one Int) (covered doubles) doubles-unrefused;
  linear = none_linear (one Int) (one Int) (covered doubles) doubles-unrefused;
  are_outputs = none_are_outputs (one Int) (one Int) (covered doubles) doubles-unrefused;
  within = doubles-limit;
}

doubles-run : means (question_code (none_outputs (one Int) (one Int) (covered doubles)) (none (one Int) (one Int) (covered doubles))) [] ≡ no_solution 1
unfolding arms arm first_systems disjuncts system_of_case write_atom run run_for stage clean_stage equation_stage bound_stage unknown_stage row_stage clean mix
    factors_of merge merge_passes merge_factor last pick searched dropped searched_by bound bound_passes bound_factor gcd_by factors_by parts_of
doubles-run = refl

pub doubles-always : AreAlways (one Int) (one Int) (covered doubles)
doubles-always =
    always (one Int) (one Int) (covered doubles) doubles-unrefused
    (question_none (none_outputs (one Int) (one Int) (covered doubles)) (none (one Int) (one Int) (covered doubles)) 1 doubles-question doubles-run)

-- ---- the even numbers and 3: the number 1 is missed
abbrev pub mixed : List Class
mixed = evens ∷ Point (pos 3) ∷ []

pub mixed-are : AreClasses mixed
mixed-are = record {
  some = omega arith;
  each = All-cons IsClass evens (Point (pos 3) ∷ []) is_evens (All-cons IsClass (Point (pos 3)) [] (omega (arith, ints)) (All-nil IsClass));
}

pub mixed-solved : limit (one Int) (one Int) (covered mixed) ≡ None
unfolding arms arm first_systems disjuncts system_of_case write_atom run run_for stage clean_stage equation_stage bound_stage unknown_stage row_stage clean mix
    factors_of merge merge_passes merge_factor last pick searched dropped searched_by bound bound_passes bound_factor gcd_by factors_by parts_of limit
    refusal_by case_count written_passes first_refused
mixed-solved = refl

mixed-unrefused : IsUnrefused (one Int) (one Int) (covered mixed)
mixed-unrefused = record {
  typed = covered_typed mixed mixed-are.each;
  linear = covered_linear mixed;
  are_outputs = one_output;
  within = mixed-solved;
}

pub mixed-tuples : tuple_count (one Int) (one Int) (covered mixed) ≡ 2
unfolding arms arm first_systems disjuncts system_of_case write_atom run run_for stage clean_stage equation_stage bound_stage unknown_stage row_stage clean mix
    factors_of merge merge_passes merge_factor last pick searched dropped searched_by bound bound_passes bound_factor gcd_by factors_by parts_of
mixed-tuples = refl

pub mixed-limit : limit [] (none_outputs (one Int) (one Int) (covered mixed)) (none (one Int) (one Int) (covered mixed)) ≡ None
unfolding arms arm first_systems disjuncts system_of_case write_atom run run_for stage clean_stage equation_stage bound_stage unknown_stage row_stage clean mix
    factors_of merge merge_passes merge_factor last pick searched dropped searched_by bound bound_passes bound_factor gcd_by factors_by parts_of limit
    refusal_by case_count written_passes first_refused
mixed-limit = refl

pub mixed-peak : peak (question_code (none_outputs (one Int) (one Int) (covered mixed)) (none (one Int) (one Int) (covered mixed))) [] ≤ 2 ^ 127 - 1
unfolding arms arm first_systems disjuncts system_of_case write_atom run run_for stage clean_stage equation_stage bound_stage unknown_stage row_stage clean mix
    factors_of merge merge_passes merge_factor last pick searched dropped searched_by bound bound_passes bound_factor gcd_by factors_by parts_of
mixed-peak = omega arith

mixed-question : IsUnrefused [] (none_outputs (one Int) (one Int) (covered mixed)) (none (one Int) (one Int) (covered mixed))
mixed-question = record {
  typed = none_typed (one Int) (one Int) (covered mixed) mixed-unrefused;
  linear = none_linear (one Int) (one Int) (covered mixed) mixed-unrefused;
  are_outputs = none_are_outputs (one Int) (one Int) (covered mixed) mixed-unrefused;
  within = mixed-limit;
}

pub mixed-run : means (question_code (none_outputs (one Int) (one Int) (covered mixed)) (none (one Int) (one Int) (covered mixed))) [] ≡
    values (number (pos 1) ∷ number (pos 0) ∷ [])
unfolding arms arm first_systems disjuncts system_of_case write_atom run run_for stage clean_stage equation_stage bound_stage unknown_stage row_stage clean mix
    factors_of merge merge_passes merge_factor last pick searched dropped searched_by bound bound_passes bound_factor gcd_by factors_by parts_of
mixed-run = refl

pub mixed-missing : AreMissing (one Int) (one Int) (covered mixed) (number (pos 1) ∷ [])
mixed-missing =
    missing (one Int) (one Int) (covered mixed) mixed-unrefused (number (pos 1) ∷ []) (number (pos 0) ∷ []) refl
    (question_solution (none_outputs (one Int) (one Int) (covered mixed)) (none (one Int) (one Int) (covered mixed))
    (number (pos 1) ∷ number (pos 0) ∷ []) mixed-question mixed-run)

-- ---- more classes than cases: the question itself is refused
abbrev pub many : List Class
many = replicate 1025 (Point (pos 0))

pub many-refused : limit (one Int) (one Int) (covered many) ≡ Some (Limit Cases 1025)
unfolding limit refusal_by case_count
many-refused = refl

-- ---- the greatest number: the question is solved, and whether its output exists is in doubt
abbrev pub greatest : List Class
greatest = Point (pos 170141183460469231731687303715884105727) ∷ []

pub greatest-solved : limit (one Int) (one Int) (covered greatest) ≡ None
unfolding arms arm first_systems disjuncts system_of_case write_atom run run_for stage clean_stage equation_stage bound_stage unknown_stage row_stage clean mix
    factors_of merge merge_passes merge_factor last pick searched dropped searched_by bound bound_passes bound_factor gcd_by factors_by parts_of limit
    refusal_by case_count written_passes first_refused
greatest-solved = refl

pub greatest-tuples : tuple_count (one Int) (one Int) (covered greatest) ≡ 1
unfolding arms arm first_systems disjuncts system_of_case write_atom run run_for stage clean_stage equation_stage bound_stage unknown_stage row_stage clean mix
    factors_of merge merge_passes merge_factor last pick searched dropped searched_by bound bound_passes bound_factor gcd_by factors_by parts_of
greatest-tuples = refl

pub greatest-limit : limit [] (none_outputs (one Int) (one Int) (covered greatest)) (none (one Int) (one Int) (covered greatest)) ≡ Some Past
unfolding arms arm first_systems disjuncts system_of_case write_atom run run_for stage clean_stage equation_stage bound_stage unknown_stage row_stage clean mix
    factors_of merge merge_passes merge_factor last pick searched dropped searched_by bound bound_passes bound_factor gcd_by factors_by parts_of limit
    refusal_by case_count written_passes first_refused
greatest-limit = refl
