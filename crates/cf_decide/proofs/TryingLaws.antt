-- What a run of the arms without a solution says of the choose.
use Rattle.std.proofs.Common.{◌≡◌, ℕ, List, map, subst, sym, ap, ◌∙◌}
use Rattle.std.proofs.lemmas.List.{length-map}
use Rattle.cf_tree.specs.Allowed.{Chosen}
use Rattle.cf_tree.specs.declared.base.Base.{Base}
use Rattle.cf_tree.specs.CodeTree.{CodeTree, code_solve, arms_of}
use Rattle.cf_tree.specs.Meaning.{means}
use Rattle.cf_tree.specs.Relation.{Sol}
use Rattle.cf_tree.specs.RelTree.{RelTree}
use Rattle.cf_tree.specs.RelView.{rel_tree}
use Rattle.cf_tree.specs.Values.{Value, no_solution, value_at, HaveBases}
use Rattle.cf_tree.proofs.SolvingLemmas.{solve_chosen}
use Rattle.cf_linear.specs.Chooses.{arms}
use Rattle.cf_choose.specs.declared.solved.SolvedParts.{SolvedParts}
use Rattle.cf_choose.specs.Laws.{IsUnrefused}
use Rattle.cf_choose.specs.Solved.{IsSolved}
use Rattle.cf_choose.proofs.DefinedArms.{unrefused_solve, unrefused_typed}
use Rattle.cf_warn.specs.Questions.{parameters}
use Rattle.cf_warn.specs.Solutions.{AreMissing}
use Rattle.cf_warn.proofs.MissingLaws.{unsolved_none}
use Rattle.cf_warn.proofs.SolutionLaws.{missing}
use Rattle.cf_decide.specs.Trying.{IsUnsolved}

module _ (scope outputs : List Base) (rel : RelTree) (u : IsUnrefused scope outputs rel) where
  -- the arms have no solution: no outputs solve the relation
  arms_unsolved : (env : List Value) (n : ℕ) → HaveBases scope env → means (code_solve 1 (arms_of (arms scope outputs rel))) env ≡ no_solution n →
      IsUnsolved scope outputs rel env
  arms_unsolved env n have none =
      let chosen = solve_chosen 1 scope outputs rel (arms_of (arms scope outputs rel)) (unrefused_solve scope outputs rel u).1
      (unrefused_typed scope outputs rel u) env have in
      record { bases = have; unsolved = (subst (Chosen 1 (Sol outputs rel env)) none chosen).1 }

  -- no outputs in an environment: none at the values of its parameters
  parameters_missing : (env : List Value) → IsUnsolved scope outputs rel env → AreMissing scope outputs rel (map (value_at env) (parameters scope rel))
  parameters_missing env h =
      let s = unsolved_none scope outputs rel u env h.bases h.unsolved in
      missing scope outputs rel u (map (value_at env) (parameters scope rel)) s.0 (length-map (parameters scope rel) (value_at env)) s.1

module _ (p : SolvedParts) (s : IsSolved p) where
  unrefused : IsUnrefused p.scope.items p.outputs.items (rel_tree p.rel)
  unrefused = record { typed = s.typed; linear = s.linear; are_outputs = s.are_outputs; within = s.within }

  pub run_unsolved : (code : CodeTree) (env : List Value) (n : ℕ) → code ≡ code_solve 1 (arms_of (arms p.scope.items p.outputs.items (rel_tree p.rel))) →
      HaveBases p.scope.items env → means code env ≡ no_solution n → IsUnsolved p.scope.items p.outputs.items (rel_tree p.rel) env
  run_unsolved code env n same have none =
      arms_unsolved p.scope.items p.outputs.items (rel_tree p.rel) unrefused env n have (subst (λ c. means c env ≡ no_solution n) same none)

  pub sample_missing : (env sample : List Value) (params : List ℕ) → params ≡ parameters p.scope.items (rel_tree p.rel) →
      IsUnsolved p.scope.items p.outputs.items (rel_tree p.rel) env → sample ≡ map (value_at env) params →
      AreMissing p.scope.items p.outputs.items (rel_tree p.rel) sample
  sample_missing env sample params are h same =
      subst (AreMissing p.scope.items p.outputs.items (rel_tree p.rel)) (sym (same ∙ ap (map (value_at env)) are))
      (parameters_missing p.scope.items p.outputs.items (rel_tree p.rel) unrefused env h)
