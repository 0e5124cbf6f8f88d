-- The texts of values and outcomes.
use Rattle.std.specs.Prelude.{ℕ, ℤ, List, ◌++◌, map, codes, decimal}
use Rattle.std.specs.List.{join_with_byte}
use Rattle.std.specs.Fmt.{signed_decimal}
use Rattle.cf_tree.specs.Words.{truth_text}
use Rattle.cf_tree.specs.Values.{Value, number, truth, elements, Outcome as Plain, values, no_solution}
use Rattle.cf_eval.specs.Seen.{plains}
use Rattle.cf_eval.specs.declared.value.Outcome.{Outcome}
use Rattle.cf_eval.specs.declared.value.Outcome.TheVariants as outcome

-- the rising elements between braces, with a comma between each two
abbrev pub set_text : List ℤ → List ℕ
set_text zs = codes "{" ++ join_with_byte 44 (map signed_decimal zs) ++ codes "}"

-- a number in decimal, a truth value or a set
abbrev pub value_text : Value → List ℕ
value_text (number z) = signed_decimal z
value_text (truth b) = truth_text b
value_text (elements zs) = set_text zs

-- values with a space between each two
abbrev pub values_text : List Value → List ℕ
values_text vs = join_with_byte 32 (map value_text vs)

abbrev pub no_solution_text : ℕ → List ℕ
no_solution_text n = codes "no solution at choose " ++ decimal n

-- the text of what a target means
abbrev pub outcome_text : Plain → List ℕ
outcome_text (values vs) = values_text vs
outcome_text (no_solution n) = no_solution_text n

-- the text of what a run came to
abbrev pub reply_text : Outcome → List ℕ
reply_text (outcome.Values v) = outcome_text (values (plains v.items))
reply_text (outcome.NoSolution n) = outcome_text (no_solution n)
reply_text outcome.Overflow = codes "overflow"
