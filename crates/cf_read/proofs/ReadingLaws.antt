-- Where a relation holds, its problem has a solution.
use Rattle.std.proofs.Common.{◌≡◌, pos, List, [], ◌++◌, sym, ◌∙◌, refl, subst}
use Rattle.std.specs.Prelude.{Result, Ok, Err, IfOk}
use Rattle.cf_tree.specs.declared.base.Base.{Base}
use Rattle.cf_tree.specs.RelTree.{RelTree}
use Rattle.cf_tree.specs.Relation.{IsTyped, IsLinear}
use Rattle.cf_linear.specs.Cases.{first_systems}
use Rattle.cf_linear.specs.Layout.{Layout, layout_of}
use Rattle.cf_linear.specs.Rows.{Values}
use Rattle.cf_linear.specs.Systems.{System, Sat}
use Rattle.cf_cases.specs.Laws.{MeetsFrom}
use Rattle.cf_cases.proofs.BelowLaws.{positive_free}
use Rattle.cf_cases.proofs.Quantifiers.{some-imp}
use Rattle.cf_venn.specs.Columns.{column_values}
use Rattle.cf_venn.proofs.SolvingLaws.{held_by_counts}
use Rattle.cf_choose.specs.declared.fault.ChooseFault.{ChooseFault}
use Rattle.cf_close.specs.Problems.{Problem, HasNone}
use Rattle.cf_read.specs.declared.reading.RelationProblem.{RelationProblem}
use Rattle.cf_read.specs.Reading.{NeverHolds}
use Rattle.cf_read.specs.Systems.{IsProblemOf}
use Rattle.cf_read.proofs.SystemLaws.{problem_solved}

met_with_one : (l : Layout) (v : Values) → v 0 ≡ pos 1 → (m : System) → MeetsFrom l v m → (w : Values) × (w 0 ≡ pos 1) × Sat m w
met_with_one l v one m h = (h.0, sym (h.1 0 (positive_free l)) ∙ one, h.2)

no_system : System
no_system = record { known = []; unknown = []; next = 0; equations = []; inequalities = []; needs = 0 }

pub never_holds : (scope outputs : List Base) (rel : RelTree) (p : Problem) → IsTyped (scope ++ outputs) rel → IsLinear rel →
    IsProblemOf (first_systems (layout_of scope outputs rel) rel) p → HasNone p → NeverHolds scope outputs rel
never_holds scope outputs rel p typed linear is none = record {
  never = λ env xs b c h.
      let l = layout_of scope outputs rel in
      let v = column_values l (env ++ xs) in
      let met = (held_by_counts scope outputs rel typed linear env xs b c).0 h in
      problem_solved (first_systems l rel) p no_system is
      (some-imp (MeetsFrom l v) (λ m. (w : Values) × (w 0 ≡ pos 1) × Sat m w) (met_with_one l v refl) (first_systems l rel) met) none;
}

-- the question that was made of the first systems
pub read_from : (scope outputs : List Base) (rel : RelTree) (l : Layout) (systems : List System) (answer : Result RelationProblem ChooseFault) →
    l ≡ layout_of scope outputs rel → systems ≡ first_systems l rel → IsTyped (scope ++ outputs) rel → IsLinear rel →
    IfOk answer (λ q. IsProblemOf systems q.problem) → IfOk answer (λ q. HasNone q.problem → NeverHolds scope outputs rel)
read_from scope outputs rel l systems (Ok q) e f typed linear is =
    λ none. never_holds scope outputs rel q.problem typed linear
    (subst (λ m. IsProblemOf (first_systems m rel) q.problem) e (subst (λ ss. IsProblemOf ss q.problem) f is)) none
read_from scope outputs rel l systems (Err x) e f typed linear is = tt
