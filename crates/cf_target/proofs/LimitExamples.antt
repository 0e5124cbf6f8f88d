-- The limit of the depth of a target as a number: on both sides of it.
use Rattle.std.proofs.Common.{ℕ, zero, suc, List, [], ◌∷◌, refl, codes, arith}
use Rattle.std.specs.Prelude.{pos}
use Rattle.cf_lex.specs.declared.token.Token.{Token}
use Rattle.cf_tree.specs.declared.base.Edition.{Edition}
use Rattle.cf_tree.specs.declared.base.Edition.TheVariants.{Two}
use Rattle.cf_tree.specs.declared.base.Base.TheVariants.{Int}
use Rattle.cf_tree.specs.CodeTree.{CodeTree, code_lit, code_neg}
use Rattle.cf_reader.specs.Readers.{at, pure, refuse, must, bind, first, deep, at_end, more_of, others_of, several_of, one_or_tuple}
use Rattle.cf_reader.specs.Kinds.{results_of}
use Rattle.cf_reader.specs.Operations.{op_of}
use Rattle.cf_reader.proofs.Sample.{word, sign, literal}
use Rattle.cf_target.specs.Levels.{last_level, with_digit}
use Rattle.cf_target.specs.Reading.{variables_of, all_variables, vars_of, bounds_of, list_of, elements_of, one_of, divided_of, listed_of, slice_of, fresh_of, if_of, let_of, operated_of, divides_by, behind_of, inside_of, item_of, steps_of, all_steps, gives_of, arm_from, all_arms, solve_of, forms_of, unless_zero, word_of, negative_of, step, read}
use Rattle.cf_target.specs.Spelling.{TargetTree, IsTarget}
use Rattle.cf_target.specs.Targets.{bases_of, main_of, headless_of, part_of, target_of}
use Rattle.cf_target.proofs.Targets.{found_law}

-- 1 within so many `neg(..)`
abbrev negated : ℕ → CodeTree
negated zero = code_lit (pos 1)
negated (suc n) = code_neg (negated n)

abbrev within : ℕ → List Token → List Token
within zero rest = literal 1 ∷ rest
within (suc n) rest = word (codes "neg") ∷ sign (codes "(") ∷ within n (sign (codes ")") ∷ rest)

abbrev target : ℕ → TargetTree
target n = record { params = []; results = Int ∷ []; code = negated n }

abbrev tokens : ℕ → List Token
tokens n = word (codes "main") ∷ sign (codes "(") ∷ sign (codes ")") ∷ sign (codes ":") ∷ word (codes "int") ∷ sign (codes "=") ∷ within n []

-- 499 of them and the number make a depth of 500
deepest-target : IsTarget Two (target 499) (tokens 499)
unfolding bases_of main_of headless_of part_of target_of at pure refuse must bind first deep at_end more_of others_of several_of one_or_tuple op_of results_of last_level with_digit variables_of all_variables vars_of bounds_of list_of elements_of one_of divided_of listed_of slice_of fresh_of if_of let_of operated_of divides_by behind_of inside_of item_of steps_of all_steps gives_of arm_from all_arms solve_of forms_of unless_zero word_of negative_of step read
deepest-target = found_law Two (tokens 499) (target 499) [] refl

one-level_more : (edition : Edition) (ts : List Token) → IsTarget edition (target 500) ts → ⊥
one-level_more edition ts h = omega (arith, h.1)
