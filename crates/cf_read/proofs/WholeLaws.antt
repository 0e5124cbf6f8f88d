-- Where a relation holds, the problem of its formula has a solution.
use Rattle.std.proofs.Common.{◌≡◌, ◌∙◌, ℕ, ◌+◌, ◌<◌, ◌≤◌, List, ◌++◌, length, refl, ap, subst, arith}
use Rattle.std.specs.Prelude.{Result, Ok, Err, IfOk, ◌^◌, ◌-◌}
use Rattle.cf_tree.specs.declared.base.Base.{Base}
use Rattle.cf_tree.specs.RelTree.{RelTree}
use Rattle.cf_tree.specs.Relation.{IsTyped, IsLinear}
use Rattle.cf_linear.specs.declared.refusal.TheConstants.{MOST_SETS}
use Rattle.cf_linear.specs.Layout.{Layout, layout_of, set_count, first_free}
use Rattle.cf_cases.specs.declared.first_systems.TheConstants.{LEVEL_LIMIT}
use Rattle.cf_cases.proofs.FirstSystemLaws.{pow_small}
use Rattle.cf_cases.proofs.PlacedLaws.{placed-rel}
use Rattle.cf_venn.specs.Columns.{column_values}
use Rattle.cf_venn.proofs.OutputLaws.{sets_have_counts, forms_at}
use Rattle.cf_choose.specs.declared.fault.ChooseFault.{ChooseFault}
use Rattle.cf_close.specs.Problems.{Problem, HasNone}
use Rattle.cf_formula.specs.declared.ways.Written.{Written as DeclaredWritten}
use Rattle.cf_formula.specs.FormulaView.{formula_tree}
use Rattle.cf_formula.specs.Writing.{written}
use Rattle.cf_formula.specs.WritingAnswers.{written_of}
use Rattle.cf_formula.proofs.FirstLaws.{relation-agrees, written_are}
use Rattle.cf_formula.proofs.WritingLaws.{still_one}
use Rattle.cf_read.specs.declared.reading.RelationProblem.{RelationProblem}
use Rattle.cf_read.specs.FormulaProblems.{problem_of_formula}
use Rattle.cf_read.specs.Reading.{HasColumns, NeverHolds}
use Rattle.cf_read.proofs.FormulaLaws.{formula_solved}

-- ---- columns
pub columns_low : (l : Layout) → set_count l ≤ MOST_SETS → (length l.numbers < LEVEL_LIMIT) × (length l.out_numbers < LEVEL_LIMIT) → first_free l < 2 ^ 32
columns_low l few h =
    low (length l.numbers) (length l.out_numbers) (2 ^ length l.inputs) (2 ^ set_count l) h (pow_small (length l.inputs) (omega arith))
    (pow_small (set_count l) few)
  where
    low : (a b i j : ℕ) → (a < LEVEL_LIMIT) × (b < LEVEL_LIMIT) → i ≤ 64 → j ≤ 64 → a + i + b + j - 1 < 2 ^ 32
    low a b i j h x y = let u = h.0 in let w = h.1 in omega arith

pub columns_are : (l : Layout) → set_count l ≤ MOST_SETS → first_free l < 2 ^ 32 → HasColumns l
columns_are l few low = record { sets = few; room = low }

-- ---- the law
module _ (scope outputs : List Base) (rel : RelTree) (typed : IsTyped (scope ++ outputs) rel) (linear : IsLinear rel) where
  pub never_holds : (p : Problem) → p ≡ problem_of_formula (written (layout_of scope outputs rel) rel).formula → HasNone p → NeverHolds scope outputs rel
  never_holds p is none = record {
    never = λ env xs b c h.
        let l = layout_of scope outputs rel in
        let v = column_values l (env ++ xs) in
        let placed = placed-rel scope outputs rel typed linear in
        let at = sets_have_counts scope outputs rel env xs b c v (λ d k. refl) in
        let holds = (relation-agrees l (env ++ xs) v (forms_at scope outputs env xs b c l v at.0) (scope ++ outputs) rel typed placed).0 h in
        let u = (written_are l rel placed).forth v refl (holds, at.1) in
        formula_solved (written l rel).formula u.0 (still_one l (first_free l) v u.0 (omega arith) u.1 refl) u.2 (subst HasNone is none);
  }

-- the question that was made of the written formula
pub read_from : (scope outputs : List Base) (rel : RelTree) (l : Layout) (w : DeclaredWritten) (answer : Result RelationProblem ChooseFault) →
    l ≡ layout_of scope outputs rel → written_of w ≡ written l rel → IsTyped (scope ++ outputs) rel → IsLinear rel →
    IfOk answer (λ q. q.problem ≡ problem_of_formula (formula_tree w.formula)) → IfOk answer (λ q. HasNone q.problem → NeverHolds scope outputs rel)
read_from scope outputs rel l w (Ok q) e f typed linear is =
    never_holds scope outputs rel typed linear q.problem
    (is ∙ ap problem_of_formula (ap (λ x. x.formula) f ∙ ap (λ m. (written m rel).formula) e))
read_from scope outputs rel l w (Err x) e f typed linear is = tt
