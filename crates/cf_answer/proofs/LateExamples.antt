-- Worked examples of sources whose coefficients are inputs: what `run` replies to a line, and what it refuses.
use Rattle.std.proofs.Common.{◌≡◌, ap, subst, refl, ℕ, true, pos, List, [], ◌∷◌, ◌++◌, ◌-◌, ◌+◌, Err, Some, codes, arith, false}
use Rattle.std.specs.Fmt.{digits}
use Rattle.cf_num.specs.Divisors.{gcd_by, factors_by}
use Rattle.cf_num.specs.Limit.{limit as greatest}
use Rattle.cf_num.specs.Parts.{parts_of}
use Rattle.cf_io.specs.Limits.{line_limit}
use Rattle.cf_tree.specs.declared.base.Base.{Base}
use Rattle.cf_tree.specs.declared.base.Base.TheVariants.{Int}
use Rattle.cf_tree.specs.declared.base.Order.TheVariants.{Eq, Le}
use Rattle.cf_tree.specs.declared.base.Place.{Place}
use Rattle.cf_tree.specs.declared.raw.BinOp.TheVariants.{Mul, And, Compare}
use Rattle.cf_tree.specs.declared.raw.Param.{Param}
use Rattle.cf_tree.specs.DefView.{RawItemTree, item_def}
use Rattle.cf_tree.specs.declared.base.Edition.TheVariants.{Two}
use Rattle.cf_tree.specs.ExprTree.{ExprTree, expr_choose}
use Rattle.cf_tree.specs.RawTree.{RawTree, raw_name, raw_lit, raw_binary, raw_choose, no_given, no_aim}
use Rattle.cf_tree.specs.RelTree.{rel_and, rel_compare, term_add, term_mul, term_var}
use Rattle.cf_tree.specs.Values.{Value, number}
use Rattle.cf_linear.specs.Arm.{arm}
use Rattle.cf_linear.specs.Cases.{disjuncts, case_count, system_of_case, first_systems, write_atom, written_passes}
use Rattle.cf_linear.specs.Chooses.{arms, first_refused, refusal_by, limit}
use Rattle.cf_linear.specs.Stages.{run, run_for, clean_stage, equation_stage, bound_stage, unknown_stage, row_stage, stage}
use Rattle.cf_linear.specs.Steps.{clean, mix, factors_of, merge, merge_passes, merge_factor, last, pick, searched, dropped, searched_by, bound, bound_passes, bound_factor}
use Rattle.cf_eval.specs.Reading.{values_from}
use Rattle.cf_eval.specs.Spelling.{without_return, SpellsValues}
use Rattle.cf_eval.proofs.SpellLemmas.{Spells-takes}
use Rattle.cf_late.specs.Texts.{late_text}
use Rattle.cf_lex.specs.Editions.{edition_of}
use Rattle.cf_parse.specs.Programs.{IsProgram}
use Rattle.cf_program.specs.declared.linearity.Linearity.TheVariants.{Plain}
use Rattle.cf_program.specs.Checked.{TypedTree, checked}
use Rattle.cf_program.specs.declared.fault.TypeFault.TheVariants as rule
use Rattle.cf_answer.specs.Forms.{as_text, Form}
use Rattle.cf_answer.specs.LateReplies.{main_comes}
use Rattle.cf_answer.specs.Limits.{of_source}
use Rattle.cf_answer.specs.Owed.{by_late, IsReplyBy, AreReplies, OwesRun, compiled, late}
use Rattle.cf_pass.specs.Passes.{Told}
use Rattle.cf_answer.specs.Picked.{main_bases}
use Rattle.cf_answer.specs.Replies.{comes}
use Rattle.cf_answer.specs.Refusals.{broken, IsBadProgram, unruly, IsBadRun, broken_late}
use Rattle.cf_answer.specs.Sources.{IsTypedBy, IsTypedSource, IsCheckedLate, IsLateSource}
use Rattle.cf_answer.specs.declared.fault.Fault.{Fault}
use Rattle.cf_answer.specs.declared.fault.Fault.TheVariants as fault
use Rattle.cf_answer.proofs.CauseLemmas.{trees_agree}
use Rattle.cf_answer.proofs.RuleLemmas.{typed_is_checked}
use Rattle.cf_answer.proofs.RunLemmas.{late_run_kept}
use Rattle.cf_answer.proofs.SourceLemmas.{one_program}

abbrev at : ℕ → Place
at column = record { line = 1; column = column }

abbrev int : ℕ → List ℕ → Param
int column name = record { place = at column; name = name; base = Int }

abbrev main : List Param → List Base → RawTree → List RawItemTree
main params results body = item_def (record { place = at 1; name = codes "main"; params = params; results = results; body = body }) ∷ []

abbrev typed : List Param → List Base → ExprTree → TypedTree
typed params results body = record { defs = record { name = codes "main"; params = params; results = results; body = body } ∷ []; main = 0 }

abbrev choose : Place → List Param → RawTree → RawTree
choose p outputs rel = raw_choose p outputs [] no_given rel no_aim

abbrev times : ℕ → List ℕ → List ℕ → RawTree
times column x y = raw_binary (at column) Mul (raw_name (at (column - 2)) x) (raw_name (at (column + 2)) y)

-- ---- what `run` takes
-- def main(a: int, b: int): int = choose (x: int) where a * x == b
abbrev scope : List Param
scope = int 10 (codes "a") ∷ int 18 (codes "b") ∷ []

abbrev quotient : List RawItemTree
quotient = main scope (Int ∷ []) (choose (at 33) (int 41 (codes "x") ∷ [])
    (raw_binary (at 61) (Compare Eq) (times 57 (codes "a") (codes "x")) (raw_name (at 64) (codes "b"))))

abbrev quotient_tree : TypedTree
quotient_tree = typed scope (Int ∷ []) (expr_choose 1 scope (Int ∷ []) (rel_compare Eq (term_mul (term_var 0) (term_var 2)) (term_var 1)))

quotient_is_late : IsCheckedLate Two quotient quotient_tree
quotient_is_late = (at 57, refl, refl)

run_takes_it : (f : Fault) → IsBadRun Two quotient f → ⊥
run_takes_it = late_run_kept Two quotient quotient_tree quotient_is_late

others_refuse_it : IsBadProgram Two quotient (fault.Rule (rule.NotLinear (at 57)))
others_refuse_it = unruly _ (broken (rule.NotLinear (at 57)) refl)

-- def main(a: int): (int, int) = choose (x: int, y: int) where x * y == a
product_of_outputs : IsBadRun Two (main (int 10 (codes "a") ∷ []) (Int ∷ Int ∷ []) (choose (at 32) (int 40 (codes "x") ∷ int 48 (codes "y") ∷ [])
    (raw_binary (at 68) (Compare Eq) (times 64 (codes "x") (codes "y")) (raw_name (at 71) (codes "a"))))) (fault.Rule (rule.NotLinear (at 64)))
product_of_outputs = broken_late (at 64) _ refl (broken (rule.NotLinear (at 64)) refl)

-- def main(a: int, b: int): int = choose (x: int, y: int) where a * x == b && x * y == 3
abbrev two_products : List RawItemTree
two_products = main scope (Int ∷ []) (choose (at 33) (int 41 (codes "x") ∷ int 49 (codes "y") ∷ []) (raw_binary (at 74) And
    (raw_binary (at 69) (Compare Eq) (times 65 (codes "a") (codes "x")) (raw_name (at 72) (codes "b")))
    (raw_binary (at 83) (Compare Eq) (times 79 (codes "x") (codes "y")) (raw_lit (at 86) (pos 3)))))

second_for_run : IsBadRun Two two_products (fault.Rule (rule.NotLinear (at 79)))
second_for_run = broken_late (at 65) _ refl (broken (rule.NotLinear (at 79)) refl)

first_for_others : IsBadProgram Two two_products (fault.Rule (rule.NotLinear (at 65)))
first_for_others = unruly _ (broken (rule.NotLinear (at 65)) refl)

-- the same function twice
another_rule_for_run : IsBadRun Two (quotient ++ quotient) (fault.Rule (rule.DuplicateName (at 1)))
another_rule_for_run = broken_late (at 57) _ refl (broken (rule.DuplicateName (at 1)) refl)

-- ---- no pass is called
not_compiled : {A : Type 0} (source : List ℕ) (tree other : TypedTree) → IsLateSource source tree → IsTypedSource source other → A
not_compiled source tree other l s =
    let same : s.0 ≡ l.0 = trees_agree (of_source (edition_of source)) (IsProgram (edition_of source)) (one_program source) source s.0 l.0 s.1 l.1 in
    let kept = (typed_is_checked (edition_of source) Plain l.0 other (subst (λ p. IsTypedBy (edition_of source) Plain p other) same s.2)).1 in
    let broken : checked (edition_of source) Plain l.0 ≡ Err (rule.NotLinear l.2.0) = l.2.1 in absurd (cc)

abbrev told : ℕ → List Told
told tally = record { name = codes "fold"; tally = tally; turns = 0; makes = λ n c. c; whole = true } ∷ []

-- the tally of the first
abbrev first_tally : List Told → ℕ
first_tally [] = 0
first_tally (p ∷ ps) = p.tally

a_pass_that_worked : (form : Form) (source : List ℕ) (tree : TypedTree) (ls : List (List ℕ)) (text : List ℕ) → IsLateSource source tree →
    OwesRun true form source (told 0) (told 1) ls text → ⊥
a_pass_that_worked form source tree ls text l (compiled t (c, turned) replies picked) = not_compiled source tree c.0 l c.1
a_pass_that_worked form source tree ls text l (late other s replies allowed same) = let one : 1 ≡ 0 = ap first_tally same in omega (arith, one)

-- ---- what it replies
-- the values that a line is read as are those that it spells
spells : (bases : List Base) (line : List ℕ) (vs : List Value) → values_from greatest bases (without_return line) [] ≡ Some vs →
    SpellsValues greatest bases line vs
spells bases line vs e = let r = Spells-takes greatest bases (without_return line) [] vs e in rw r.1 r.2

takes_two_numbers : main_bases quotient_tree ≡ Int ∷ Int ∷ []
takes_two_numbers = refl

three_and_twelve : values_from greatest (Int ∷ Int ∷ []) (codes "3 12") [] ≡ Some (number (pos 3) ∷ number (pos 12) ∷ [])
three_and_twelve = refl

three_in_twelve : late_text (main_comes quotient_tree (number (pos 3) ∷ number (pos 12) ∷ [])) ≡ codes "4"
unfolding arms arm first_systems disjuncts system_of_case write_atom run run_for stage clean_stage equation_stage bound_stage unknown_stage row_stage clean
    mix factors_of merge merge_passes merge_factor last pick searched dropped searched_by bound bound_passes bound_factor gcd_by factors_by parts_of limit
    refusal_by case_count written_passes first_refused digits
three_in_twelve = refl

reply_of_twelve : IsReplyBy as_text (by_late quotient_tree) (codes "3 12") (codes "4")
unfolding line_limit
reply_of_twelve = subst (IsReplyBy as_text (by_late quotient_tree) (codes "3 12")) three_in_twelve
    (comes (number (pos 3) ∷ number (pos 12) ∷ []) (omega arith) (spells (Int ∷ Int ∷ []) (codes "3 12") _ three_and_twelve))

three_in_ten : late_text (main_comes quotient_tree (number (pos 3) ∷ number (pos 10) ∷ [])) ≡ codes "no solution at choose 1"
unfolding arms arm first_systems disjuncts system_of_case write_atom run run_for stage clean_stage equation_stage bound_stage unknown_stage row_stage clean
    mix factors_of merge merge_passes merge_factor last pick searched dropped searched_by bound bound_passes bound_factor gcd_by factors_by parts_of limit
    refusal_by case_count written_passes first_refused digits
three_in_ten = refl

reply_of_ten : IsReplyBy as_text (by_late quotient_tree) (codes "3 10") (codes "no solution at choose 1")
unfolding line_limit
reply_of_ten = subst (IsReplyBy as_text (by_late quotient_tree) (codes "3 10")) three_in_ten
    (comes (number (pos 3) ∷ number (pos 10) ∷ []) (omega arith) (spells (Int ∷ Int ∷ []) (codes "3 10") _ refl))

-- a <= p * x + q * y && p * x + q * y <= b
abbrev weights : TypedTree
weights =
    let params = int 10 (codes "p") ∷ int 18 (codes "q") ∷ int 26 (codes "a") ∷ int 34 (codes "b") ∷ [] in
    let sum = term_add (term_mul (term_var 0) (term_var 4)) (term_mul (term_var 1) (term_var 5)) in
    typed params (Int ∷ Int ∷ []) (expr_choose 1 params (Int ∷ Int ∷ []) (rel_and (rel_compare Le (term_var 2) sum) (rel_compare Le sum (term_var 3))))

abbrev four : List Base
four = Int ∷ Int ∷ Int ∷ Int ∷ []

sevens : late_text (main_comes weights (number (pos 2) ∷ number (pos 3) ∷ number (pos 7) ∷ number (pos 7) ∷ [])) ≡ codes "14 -7"
unfolding arms arm first_systems disjuncts system_of_case write_atom run run_for stage clean_stage equation_stage bound_stage unknown_stage row_stage clean
    mix factors_of merge merge_passes merge_factor last pick searched dropped searched_by bound bound_passes bound_factor gcd_by factors_by parts_of limit
    refusal_by case_count written_passes first_refused digits
sevens = refl

abbrev large : List Value
large = number (pos 2097152) ∷ number (pos 2097153) ∷ number (pos 0) ∷ number (pos 9) ∷ []

too_many : late_text (main_comes weights large) ≡ codes "choose 1: Search 2097152"
unfolding arms arm first_systems disjuncts system_of_case write_atom run run_for stage clean_stage equation_stage bound_stage unknown_stage row_stage clean
    mix factors_of merge merge_passes merge_factor last pick searched dropped searched_by bound bound_passes bound_factor gcd_by factors_by parts_of limit
    refusal_by case_count written_passes first_refused digits
too_many = refl

reply_of_sevens : IsReplyBy as_text (by_late weights) (codes "2 3 7 7") (codes "14 -7")
unfolding line_limit
reply_of_sevens = subst (IsReplyBy as_text (by_late weights) (codes "2 3 7 7")) sevens
    (comes (number (pos 2) ∷ number (pos 3) ∷ number (pos 7) ∷ number (pos 7) ∷ []) (omega arith) (spells four (codes "2 3 7 7") _ refl))

reply_of_large : IsReplyBy as_text (by_late weights) (codes "2097152 2097153 0 9") (codes "choose 1: Search 2097152")
unfolding line_limit
reply_of_large = subst (IsReplyBy as_text (by_late weights) (codes "2097152 2097153 0 9")) too_many
    (comes large (omega arith) (spells four (codes "2097152 2097153 0 9") _ refl))

-- the line behind a refused one is answered
refused_between : AreReplies (record { by = by_late weights; form = record { key = false; wording = as_text } }) (codes "2 3 7 7" ∷ codes "2097152 2097153 0 9" ∷ codes "2 3 7 7" ∷ [])
    (codes "14 -7\nchoose 1: Search 2097152\n14 -7\n")
refused_between = (
  codes "14 -7",
  _,
  refl,
  reply_of_sevens,
  (codes "choose 1: Search 2097152", _, refl, reply_of_large, (codes "14 -7", _, refl, reply_of_sevens, refl)),
)
