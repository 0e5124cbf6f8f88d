-- Worked examples of the lines of `check`.
use Rattle.std.proofs.Common.{◌≡◌, ◌≤◌, ap, refl, sym, subst, Ok, Err, Some, None, ℕ, zero, suc, pos, negsuc, true, false, nat_lt, List, [], ◌∷◌, Vec, Global, arith, codes}
use Rattle.std.proofs.lemmas.Int.{ints}
use Rattle.std.specs.Fmt.{digits}
use Rattle.std.specs.Prelude.{Contains}
use Rattle.std.proofs.lemmas.List.Elements.{All-nil, All-cons}
use Rattle.cf_tree.specs.declared.base.Base.TheVariants.{Int, Set}
use Rattle.cf_tree.specs.declared.base.Edition.TheVariants.{Two, Three}
use Rattle.cf_tree.specs.declared.base.Order.TheVariants.{Eq, Ge}
use Rattle.cf_tree.specs.declared.base.Place.{Place}
use Rattle.cf_tree.specs.RelTree.{RelTree, term_lit, term_var, term_add, term_mul, set_var, rel_true, rel_false, rel_compare, rel_subset, rel_and, rel_or}
use Rattle.cf_linear.specs.declared.refusal.LimitKind.TheVariants as kind
use Rattle.cf_linear.specs.declared.refusal.Refusal.TheVariants as refusal
use Rattle.cf_match.specs.Classes.{IsIn}
use Rattle.cf_match.specs.Matches.{MatchTree}
use Rattle.cf_match.specs.declared.class.Class.{Class}
use Rattle.cf_match.specs.declared.class.Class.TheVariants.{Point, Residue}
use Rattle.cf_tree.specs.ChooseTree.{ChooseTree}
use Rattle.cf_eval.specs.declared.value.Value.{Value as RunValue}
use Rattle.cf_eval.specs.declared.value.Value.TheVariants as ran
use Rattle.cf_warn.specs.declared.answer.Doubt.TheVariants.{Refused, Overflow}
use Rattle.cf_warn.specs.declared.answer.ExistenceAnswer.TheVariants as existence
use Rattle.cf_warn.specs.declared.answer.UniquenessAnswer.TheVariants as uniqueness
use Rattle.cf_warn.specs.declared.coverage.Cover.TheVariants as cover
use Rattle.cf_warn.specs.Covers.{IsCover}
use Rattle.cf_warn.specs.Verdicts.{IsExistence, IsUniqueness}
use Rattle.cf_advice.specs.declared.ors.Side.TheVariants.{LeftOfOr, RightOfOr}
use Rattle.cf_form.specs.Told.{ToldChoose}
use Rattle.cf_warn.specs.Missing.{tuple_count}
use Rattle.cf_answer.specs.Checks.{existence_line, uniqueness_line, cover_line, tuples_line, unbounded_line, unreached_line, unused_lines, AreAskedLines, never, no_inputs, AreBesideLines, branch_line, AreUnreachedLines, IsOwn, AreLines, of_choose, of_arm, of_match}
use Rattle.cf_answer.specs.Fronts.{File, notes_at, output_names, written_in}
use Rattle.cf_answer.specs.Tells.{HasNoInputs, HasNone, NeverHoldsAt, TellsNever, TellsNeverHolds, TellsNoInputs, TellsUnreached}
use Rattle.cf_answer.specs.ToldChecks.{Asked}
use Rattle.cf_answer.specs.Texts.{fault_line}
use Rattle.cf_answer.specs.Unmet.{answered, judged, nothing_answered, nothing_unmet, one_no, one_undecided, unmet_for, with_answered}
use Rattle.cf_answer.specs.declared.fault.Fault.TheVariants as fault
use Rattle.cf_answer.specs.declared.unmet.Answered.{Answered}
use Rattle.cf_words.specs.declared.command.Strictness.TheVariants as strictness

-- choose 7, where p, s and a are in scope, and the relation speaks of a and s
abbrev some_choose : ChooseTree
some_choose = record {
  number = 7;
  names = codes "p" ∷ codes "s" ∷ codes "a" ∷ [];
  scope = Int ∷ Set ∷ Int ∷ [];
  outputs = Int ∷ Set ∷ [];
  relation = rel_and (rel_compare Eq (term_var 3) (term_var 2)) (rel_subset (set_var 4) (set_var 1));
}

-- choose 12, which speaks of no variable in scope
abbrev without_parameters : ChooseTree
without_parameters = record {
  number = 12;
  names = codes "p" ∷ [];
  scope = Int ∷ [];
  outputs = Int ∷ [];
  relation = rel_compare Eq (term_var 1) (term_var 1);
}

module _ (sample first second : Vec RunValue Global) where
  always : existence_line some_choose existence.Always ≡ codes "choose 7: outputs always\n"
  unfolding digits
  always = refl

  missing : sample.items ≡ ran.Elements (negsuc 0 ∷ pos 4 ∷ []) ∷ ran.Int (pos 5) ∷ [] →
      existence_line some_choose (existence.Missing sample) ≡ codes "choose 7: no outputs for s = {-1,4}, a = 5\n"
  unfolding digits
  missing e = rw e refl

  missing_everywhere : sample.items ≡ [] → existence_line without_parameters (existence.Missing sample) ≡ codes "choose 12: no outputs\n"
  unfolding digits
  missing_everywhere e = rw e refl

  existence_past : existence_line some_choose (existence.Undecided (Refused refusal.Past)) ≡ codes "choose 7: existence undecided: coefficient past 128 bits\n"
  unfolding digits
  existence_past = refl

  existence_limit : existence_line some_choose (existence.Undecided (Refused (refusal.Limit kind.Search 2097152))) ≡ codes
      "choose 7: existence undecided: Search 2097152\n"
  unfolding digits
  existence_limit = refl

  unique : uniqueness_line some_choose uniqueness.Unique ≡ codes "choose 7: outputs unique\n"
  unfolding digits
  unique = refl

  two : sample.items ≡ ran.Elements [] ∷ ran.Int (pos 1) ∷ [] → first.items ≡ ran.Int (pos 0) ∷ ran.Elements [] ∷ [] →
      second.items ≡ ran.Int (pos 1) ∷ ran.Elements (pos 2 ∷ []) ∷ [] →
      uniqueness_line some_choose (uniqueness.Two sample first second) ≡ codes "choose 7: two outputs for s = {}, a = 1: 0 {} and 1 {2}\n"
  unfolding digits
  two e f g = rw (e, f, g) refl

  two_everywhere : sample.items ≡ [] → first.items ≡ ran.Int (negsuc 0) ∷ [] → second.items ≡ ran.Int (pos 0) ∷ [] →
      uniqueness_line without_parameters (uniqueness.Two sample first second) ≡ codes "choose 12: two outputs: -1 and 0\n"
  unfolding digits
  two_everywhere e f g = rw (e, f, g) refl

  uniqueness_overflow : uniqueness_line some_choose (uniqueness.Undecided Overflow) ≡ codes "choose 7: uniqueness undecided: overflow\n"
  unfolding digits
  uniqueness_overflow = refl

covered : cover_line 2 cover.All ≡ codes "match 2: covers all numbers\n"
unfolding digits
covered = refl

misses : cover_line 2 (cover.Misses (pos 5)) ≡ codes "match 2: misses 5\n"
unfolding digits
misses = refl

coverage_limit : cover_line 2 (cover.Undecided (Refused (refusal.Limit kind.Cases 2048))) ≡ codes "match 2: coverage undecided: Cases 2048\n"
unfolding digits
coverage_limit = refl

-- match 1, whose first arm has the number 2, and whose second one has no variable
abbrev one_match : List MatchTree
one_match = record { number = 1; arms = 2 ∷ 0 ∷ []; classes = Residue (pos 2) (pos 0) ∷ Point (pos 3) ∷ [] } ∷ []

-- the only match
only : (m : MatchTree) → Contains one_match m → m ≡ record { number = 1; arms = 2 ∷ 0 ∷ []; classes = Residue (pos 2) (pos 0) ∷ Point (pos 3) ∷ [] }
only m (zero, lt, is) = cc
only m (suc k, lt, is) = absurd (omega (arith, lt))

there : Contains one_match (record { number = 1; arms = 2 ∷ 0 ∷ []; classes = Residue (pos 2) (pos 0) ∷ Point (pos 3) ∷ [] })
there = (0, omega arith, refl)

a_match_is_no_choose : IsOwn one_match 1 → ⊥
a_match_is_no_choose h = (h _ there).0 refl

an_arm_is_no_choose : IsOwn one_match 2 → ⊥
an_arm_is_no_choose h = (h _ there).1 (0, omega arith, refl)

three_is_a_choose : IsOwn one_match 3
three_is_a_choose m c = (λ e. no_match (ap (λ v. v.number) (only m c)) e, λ a. no_arm (ap (λ v. v.arms) (only m c)) a)
  where
    no_match : m.number ≡ 1 → m.number ≡ 3 → ⊥
    no_match e f = omega (arith, e, f)

    no_arm : m.arms ≡ 2 ∷ 0 ∷ [] → Contains m.arms 3 → ⊥
    no_arm e a = not_three (rw e at a)
      where
        not_three : Contains {X = ℕ} (2 ∷ 0 ∷ []) 3 → ⊥
        not_three (zero, lt, is) = omega (arith, is)
        not_three (suc zero, lt, is) = omega (arith, is)
        not_three (suc (suc k), lt, is) = omega (arith, lt)

-- ---- the lines of each kind of number, where these verdicts hold
-- choose 2 is the one of the first arm: `match == 2 * i + 0`
abbrev of_first_arm : ChooseTree
of_first_arm = record {
  number = 2;
  names = codes "a" ∷ codes "match" ∷ [];
  scope = Int ∷ Int ∷ [];
  outputs = Int ∷ [];
  relation = rel_compare Eq (term_var 1) (term_add (term_mul (term_lit (pos 2)) (term_var 2)) (term_lit (pos 0)));
}

-- choose 1 is the one that stands for a number that no arm fits
abbrev of_no_arm : ChooseTree
of_no_arm = record { number = 1; names = codes "a" ∷ codes "match" ∷ []; scope = Int ∷ Int ∷ []; outputs = Int ∷ []; relation = rel_false }

-- the sources that are checked: of language 2, and of edition 3, in which nothing stands at a number but at 2
abbrev in_two : File
in_two = record { edition = Two; name = codes "f"; spots = [] }

abbrev in_three : File
in_three = record {
  edition = Three;
  name = codes "f";
  spots = record { place = record { line = 3; column = 5 }; outputs = []; ors = [] } ∷ record { place = record { line = 4; column = 7 }; outputs = codes "i" ∷ []; ors = [] } ∷ [];
}

none_unreached : AreUnreachedLines 1 (Residue (pos 2) (pos 0) ∷ Point (pos 3) ∷ []) []
none_unreached = (false, (λ e. cc e), [], refl, (false, (λ e. cc e), [], refl, refl))

few_tuples : (n tuples : ℕ) → tuples ≤ 10000 → tuples_line n tuples ≡ []
few_tuples n tuples l = let e : nat_lt 10000 tuples ≡ false = grind arith in rw e refl

two_lines : IsOwn one_match 7 → IsExistence some_choose.scope some_choose.outputs some_choose.relation existence.Always →
    IsUniqueness some_choose.scope some_choose.outputs 2 some_choose.relation uniqueness.Unique →
    AreLines in_two one_match [] some_choose (codes "choose 7: outputs always\nchoose 7: outputs unique\n") (answered nothing_unmet nothing_unmet)
unfolding digits
two_lines own e u = of_choose own refl existence.Always uniqueness.Unique e u

one_line_of_an_arm : IsUniqueness of_first_arm.scope of_first_arm.outputs 1 of_first_arm.relation (uniqueness.Undecided Overflow) →
    AreLines in_two one_match [] of_first_arm (codes "choose 2: uniqueness undecided: overflow\n") (answered nothing_unmet one_undecided)
unfolding digits
one_line_of_an_arm u = of_arm _ there (0, omega arith, refl) (uniqueness.Undecided Overflow) u [] refl

one_line_of_a_match : IsCover (Residue (pos 2) (pos 0) ∷ Point (pos 3) ∷ []) (cover.Misses (pos 5)) →
    AreLines in_two one_match [] of_no_arm (codes "match 1: misses 5\n") (answered one_no nothing_unmet)
unfolding digits
one_line_of_a_match c = of_match _ there refl (cover.Misses (pos 5)) c [] refl

-- in edition 3 nothing is said of how long it was asked
undecided_arm_of_three : tuple_count of_first_arm.scope of_first_arm.outputs of_first_arm.relation ≤ 10000 →
    AreLines in_three one_match [] of_first_arm (codes "choose 2: uniqueness undecided: overflow\n") (answered nothing_unmet one_undecided)
unfolding digits
undecided_arm_of_three q = of_arm _ there (0, omega arith, refl) (uniqueness.Undecided Overflow) tt [] ([], (false, (λ e. cc e), [], refl, refl), few q)
  where
    few : tuple_count of_first_arm.scope of_first_arm.outputs of_first_arm.relation ≤ 10000 → [] ≡ tuples_line 2 (tuple_count of_first_arm.scope of_first_arm.outputs of_first_arm.relation)
    few l = sym (few_tuples 2 _ l)

undecided_match_of_three : AreLines in_three one_match [] of_no_arm (codes "match 1: coverage undecided: overflow\n") (answered one_undecided nothing_unmet)
unfolding digits
undecided_match_of_three = of_match _ there refl (cover.Undecided Overflow) tt [] none_unreached

-- nor how it is known that no class holds a number
five_is_odd : IsIn (Residue (pos 2) (pos 0)) (pos 5) → ⊥
five_is_odd h = cc

five_is_not_three : IsIn (Point (pos 3)) (pos 5) → ⊥
five_is_not_three h = cc

missed_match_of_three : AreLines in_three one_match [] of_no_arm (codes "match 1: misses 5\n") (answered one_no nothing_unmet)
unfolding digits
missed_match_of_three =
    let misses : Class → Type 0 = λ c. IsIn c (pos 5) → ⊥ in
    of_match _ there refl (cover.Misses (pos 5))
    (All-cons misses (Residue (pos 2) (pos 0)) (Point (pos 3) ∷ []) five_is_odd (All-cons misses (Point (pos 3)) [] five_is_not_three (All-nil misses)))
    [] none_unreached

-- ---- as they are written
written_of_two : written_in in_two 2 (codes "choose 2: outputs unique\n") ≡ codes "choose 2: outputs unique\n"
written_of_two = refl

-- each line begins with the place of its number
written_of_three : written_in in_three 2 (codes "choose 2: outputs unique\nchoose 2: nothing bounds output i\n") ≡ codes
    "f:4:7: choose 2: outputs unique\nf:4:7: choose 2: nothing bounds output i\n"
unfolding digits
written_of_three = refl

named_variable : output_names in_three 2 ≡ codes "i" ∷ []
named_variable = refl

noted_variable : notes_at in_three 2 ≡ record { outputs = codes "i" ∷ []; ors = [] }
noted_variable = refl

-- ---- lines beside the answers
unbounded : unbounded_line 2 (codes "i") ≡ codes "choose 2: nothing bounds output i\n"
unfolding digits
unbounded = refl

-- the second arm has the number 1 here, and is told as arm 2
unreached : unreached_line 1 1 ≡ codes "match 1: no number reaches arm 2\n"
unfolding digits
unreached = refl

many : tuples_line 2 10001 ≡ codes "choose 2: a line may try 10001 tuples\n"
unfolding digits
many = refl

not_many : tuples_line 2 10000 ≡ []
not_many = refl

unused : unused_lines (codes "f") (record { place = record { line = 1; column = 10 }; name = codes "a"; base = Int } ∷ []) ≡ codes
    "f:1:10: nothing uses parameter a\n"
unfolding digits
unused = refl

-- 3 is odd, so an arm of 3 behind one of the odd numbers is not reached
unreached_three : TellsUnreached (Residue (pos 2) (pos 1) ∷ Point (pos 3) ∷ []) 1 (Point (pos 3))
unreached_three z is = (0, Residue (pos 2) (pos 1), omega arith, refl, subst (λ x. IsIn (Residue (pos 2) (pos 1)) x) (sym is) refl)

-- a condition `0 >= 1` holds for no inputs, and a relation `0 >= 1` for no outputs
abbrev asked_nothing : Asked
asked_nothing = record { scope = []; outputs = Int ∷ []; shown = Int ∷ []; levels = [] }

abbrev never_true : RelTree
never_true = rel_compare Ge (term_lit (pos 0)) (term_lit (pos 1))

no_inputs_at_all : HasNoInputs asked_nothing (record { truths = []; relation = rel_true; given = Some never_true })
no_inputs_at_all env i = let h = i.allowed in omega (arith, ints, h)

never_at_all : HasNone asked_nothing (record { truths = []; relation = never_true; given = None }) []
never_at_all xs s = let h = s.1 in omega (arith, ints, h)

-- the second branch has the number 1 here, and is told as branch 2
abbrev second_or : Place
second_or = record { line = 2; column = 88 }

dead_branch : branch_line 1 second_or 1 ≡ codes "choose 1: branch 2 of || at 2:88 never holds\n"
unfolding digits
dead_branch = refl

-- nothing is noted where there is no choose
noted_nowhere : notes_at in_two 1 ≡ record { outputs = []; ors = [] }
noted_nowhere = refl

-- of `x == 0 || 0 >= 1` the second branch never holds
abbrev zero_or_never : RelTree
zero_or_never = rel_or (rel_compare Eq (term_var 0) (term_lit (pos 0))) never_true

second_never : NeverHoldsAt asked_nothing (RightOfOr ∷ []) (record { truths = []; relation = zero_or_never; given = None })
second_never = (refl, never_true, refl, λ env xs i s h. omega (arith, ints, h))

-- only this branch is told, behind the line on the output
beside_of_both : TellsNeverHolds asked_nothing (record { truths = []; relation = zero_or_never; given = None } ∷ []) (RightOfOr ∷ []) →
    AreBesideLines asked_nothing (record { truths = []; relation = zero_or_never; given = None } ∷ []) 1
    (record { outputs = codes "x" ∷ []; ors = (record { place = second_or; branches = (LeftOfOr ∷ []) ∷ (RightOfOr ∷ []) ∷ [] }) ∷ [] })
    (codes "choose 1: branch 2 of || at 2:88 never holds\n")
unfolding digits
beside_of_both h = (
  [],
  codes "choose 1: branch 2 of || at 2:88 never holds\n",
  refl,
  (false, (λ e. cc e), [], refl, refl),
  (
    codes "choose 1: branch 2 of || at 2:88 never holds\n",
    [],
    refl,
    (
      false,
      (λ e. cc e),
      codes "choose 1: branch 2 of || at 2:88 never holds\n",
      refl,
      (true, (λ e. h), [], refl, refl),
    ),
    refl,
  ),
)

-- the lines of a choose that never has outputs: one, which is a no
only_line : (c : ToldChoose) → TellsNever asked_nothing c.branches →
    AreAskedLines 2 [] asked_nothing c.branches (record { outputs = codes "x" ∷ []; ors = [] }) (codes "choose 2: no outputs for any inputs\n") (answered one_no nothing_unmet)
unfolding digits
only_line c h = never h

no_inputs_line : (c : ToldChoose) → TellsNoInputs asked_nothing c.branches →
    AreAskedLines 2 [] asked_nothing c.branches (record { outputs = codes "x" ∷ []; ors = [] }) (codes "choose 2: given holds for no inputs\n") (answered one_no nothing_unmet)
unfolding digits
no_inputs_line c h = no_inputs h

-- ---- a strict check
-- two noes on existence and one doubt; a no and two doubts on uniqueness
abbrev some_unmet : Answered
some_unmet =
    with_answered (answered one_no one_undecided)
    (with_answered (answered one_no one_no) (with_answered (answered one_undecided one_undecided) nothing_answered))

abbrev one_doubt : Answered
one_doubt = answered nothing_unmet one_undecided

counted : some_unmet ≡ record { existence = record { no = 2; undecided = 1 }; uniqueness = record { no = 1; undecided = 2 } }
counted = refl

asked_of_existence : unmet_for strictness.Existing some_unmet ≡ record { no = 2; undecided = 1 }
asked_of_existence = refl

asked_of_both : unmet_for strictness.Unique some_unmet ≡ record { no = 3; undecided = 3 }
asked_of_both = refl

no_before_undecided : (judged strictness.Existing some_unmet ≡ Err (fault.AnswersNo 2)) × (judged strictness.Unique some_unmet ≡ Err (fault.AnswersNo 3))
no_before_undecided = (refl, refl)

undecided_uniqueness : (judged strictness.Existing one_doubt ≡ Ok tt) × (judged strictness.Unique one_doubt ≡ Err (fault.AnswersUndecided 1))
undecided_uniqueness = (refl, refl)

not_strict : judged strictness.Told some_unmet ≡ Ok tt
not_strict = refl

all_yes : (judged strictness.Existing nothing_answered ≡ Ok tt) × (judged strictness.Unique nothing_answered ≡ Ok tt)
all_yes = (refl, refl)

one_answer : (fault_line (fault.AnswersNo 1) ≡ codes "check: 1 answer is no\n") ×
    (fault_line (fault.AnswersUndecided 1) ≡ codes "check: 1 answer is undecided\n")
unfolding digits
one_answer = (refl, refl)

more_answers : (fault_line (fault.AnswersNo 2) ≡ codes "check: 2 answers are no\n")
    × (fault_line (fault.AnswersUndecided 12) ≡ codes "check: 12 answers are undecided\n")
unfolding digits
more_answers = (refl, refl)
