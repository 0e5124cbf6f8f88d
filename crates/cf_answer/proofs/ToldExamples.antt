-- Worked examples of what `check` asks of a choose that is told of, and tells of it.
use Rattle.std.proofs.Common.{◌≡◌, refl, pos, negsuc, true, false, Some, None, [], ◌∷◌, Vec, Global, codes}
use Rattle.std.specs.Fmt.{digits}
use Rattle.cf_tree.specs.declared.base.Base.TheVariants.{Int, Bool as Truth, Set}
use Rattle.cf_tree.specs.declared.base.Order.TheVariants.{Eq, Ge}
use Rattle.cf_tree.specs.RelTree.{RelTree, term_lit, term_var, rel_false, rel_compare, rel_or, rel_not}
use Rattle.cf_tree.specs.Values.{number, truth, elements}
use Rattle.cf_tree.specs.ChooseTree.{ChooseTree}
use Rattle.cf_eval.specs.declared.value.Value.{Value as RunValue}
use Rattle.cf_eval.specs.declared.value.Value.TheVariants as ran
use Rattle.cf_form.specs.Told.{ToldBranch, ToldChoose}
use Rattle.cf_warn.specs.declared.answer.Doubt.TheVariants.{Overflow}
use Rattle.cf_warn.specs.declared.answer.ExistenceAnswer.TheVariants as existence
use Rattle.cf_warn.specs.declared.answer.UniquenessAnswer.TheVariants as uniqueness
use Rattle.cf_answer.specs.Checks.{AreLinesBy, existence_text, told_names, uniqueness_text}
use Rattle.cf_answer.specs.Fronts.{File}
use Rattle.cf_answer.specs.Texts.{numbered_line}
use Rattle.cf_answer.specs.ToldChecks.{Asked, ComeTo, IsBranchExistence, existence_question, named_levels, named_sample, shown_values, first_existence, first_uniqueness, told_of, is_later_branch}
use Rattle.cf_answer.specs.Unmet.{nothing_answered}

-- x == a, where p, a and b are in scope
abbrev same : RelTree
same = rel_compare Eq (term_var 3) (term_var 1)

-- b >= 0
abbrev condition : RelTree
condition = rel_compare Ge (term_var 2) (term_lit (pos 0))

-- choose 4 branches on p; where p is true it is `x == a`, and nothing else solves it
abbrev where_true : ToldBranch
where_true = record { truths = (0, true) ∷ []; relation = same; given = Some condition }

abbrev where_false : ToldBranch
where_false = record { truths = (0, false) ∷ []; relation = rel_false; given = Some condition }

abbrev four : ToldChoose
four = record { number = 4; outputs = Truth ∷ []; hidden = 1; parameters = 0 ∷ 1 ∷ []; branches = where_true ∷ where_false ∷ [] }

-- ---- only inputs for which the condition holds are asked of
asked_with_condition : existence_question where_true ≡ rel_or (rel_not condition) same
asked_with_condition = refl

asked_without_condition : existence_question (record { truths = []; relation = same; given = None }) ≡ same
asked_without_condition = refl

-- ---- a sample names the parameters, and what the condition speaks of
levels_of_four : named_levels 3 four ≡ 0 ∷ 1 ∷ 2 ∷ []
levels_of_four = refl

-- the truth variable with the value of the branch, b with that of the sample, and a, of which this question does not speak, as 0
named_of_false : named_sample (Truth ∷ Int ∷ Int ∷ []) (0 ∷ 1 ∷ 2 ∷ []) ((0, false) ∷ []) (existence_question where_false) (number (pos 5) ∷ []) ≡
    truth false ∷ number (pos 0) ∷ number (pos 5) ∷ []
named_of_false = refl

named_set : named_sample (Set ∷ Int ∷ []) (0 ∷ 1 ∷ []) [] (rel_compare Eq (term_var 2) (term_var 1)) (number (negsuc 2) ∷ []) ≡
    elements [] ∷ number (negsuc 2) ∷ []
named_set = refl

-- ---- a truth output is written as one, and hidden outputs are not
shown : shown_values (Truth ∷ Int ∷ Truth ∷ []) (number (pos 1) ∷ number (pos 7) ∷ number (pos 0) ∷ elements (pos 3 ∷ []) ∷ []) ≡
    truth true ∷ number (pos 7) ∷ truth false ∷ []
shown = refl

-- ---- branches in order
-- the choose of one of its branches
abbrev choose_four : ChooseTree
choose_four =
    record { number = 4; names = codes "p" ∷ codes "a" ∷ codes "b" ∷ []; scope = Truth ∷ Int ∷ Int ∷ []; outputs = Int ∷ Set ∷ []; relation = same }

module _ (sample later first second : Vec RunValue Global) where
  first_sample : first_existence (existence.Missing sample) (existence.Missing later) ≡ existence.Missing sample
  first_sample = refl

  sample_before_doubt : first_existence (existence.Undecided Overflow) (existence.Missing later) ≡ existence.Missing later
  sample_before_doubt = refl

  doubt_stays : first_existence (existence.Undecided Overflow) existence.Always ≡ existence.Undecided Overflow
  doubt_stays = refl

  later_doubt : first_uniqueness uniqueness.Unique (uniqueness.Undecided Overflow) ≡ uniqueness.Undecided Overflow
  later_doubt = refl

  two_stay : first_uniqueness (uniqueness.Two sample first second) uniqueness.Unique ≡ uniqueness.Two sample first second
  two_stay = refl

  -- the second branch is asked where the first has no sample
  second_asked : (a : Asked) → IsBranchExistence a where_true existence.Always → IsBranchExistence a where_false (existence.Missing sample) →
      ComeTo (IsBranchExistence a) first_existence existence.Always four.branches (existence.Missing sample)
  second_asked a h k = (existence.Always, h, (existence.Missing sample, k, refl))

  -- ---- lines
  line_of_four : sample.items ≡ ran.Truth false ∷ ran.Int (pos 0) ∷ ran.Int (pos 5) ∷ [] →
      numbered_line 4 (existence_text (told_names choose_four four) (existence.Missing sample)) ≡ codes "choose 4: no outputs for p = false, a = 0, b = 5\n"
  unfolding digits
  line_of_four e = rw e refl

  two_of_four : sample.items ≡ ran.Truth true ∷ ran.Int (pos 0) ∷ ran.Int (pos 0) ∷ [] → first.items ≡ ran.Truth true ∷ [] →
      second.items ≡ ran.Truth false ∷ [] →
      numbered_line 4 (uniqueness_text (told_names choose_four four) (uniqueness.Two sample first second)) ≡ codes "choose 4: two outputs for p = true, a = 0, b = 0: true and false\n"
  unfolding digits
  two_of_four e f g = rw (e, f, g) refl

-- ---- which choose is told of, and which is a later branch of it
found : told_of (four ∷ []) 4 ≡ Some four
found = refl

not_found : told_of (four ∷ []) 5 ≡ None
not_found = refl

later_branch : is_later_branch (four ∷ []) 4 4 ≡ true
later_branch = refl

first_branch : is_later_branch (four ∷ []) 3 4 ≡ false
first_branch = refl

-- in language 2, where nothing is told, none is
no_branch : is_later_branch [] 4 4 ≡ false
no_branch = refl

no_lines : (file : File) (q : ChooseTree) → AreLinesBy true file [] (four ∷ []) q [] nothing_answered
no_lines file q = (refl, refl)
