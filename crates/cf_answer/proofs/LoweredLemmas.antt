-- The chooses of a lowered program are those of the program.
use Rattle.std.proofs.Common.{◌≡◌, ℕ, List, map, ap, subst, ◌∙◌}
use Rattle.std.specs.Prelude.{◌⊎◌}
use Rattle.cf_tree.specs.DefView.{DefTree, def_tree}
use Rattle.cf_program.specs.Lowered.{lowered_def}
use Rattle.cf_program.specs.declared.typed.TypedDefs.{TypedDefs}
use Rattle.cf_match.specs.declared.lowered.LoweredParts.{LoweredParts}
use Rattle.cf_build.specs.Chooses.{all_chooses}
use Rattle.cf_build.specs.Solves.{FaultAnswer}
use Rattle.cf_build.specs.declared.fault.BuildFault.{BuildFault}
use Rattle.cf_build.proofs.LoweredAnswers.{same_chooses}
use Rattle.cf_answer.specs.Refusals.{fault_of, IsRefusedSource}
use Rattle.cf_answer.specs.Sources.{IsLoweredSource}
use Rattle.cf_answer.specs.declared.fault.Fault.TheVariants as fault
use Rattle.cf_answer.proofs.TextLemmas.{build_refused}

pub chooses_source : (defs low : List DefTree) → low ≡ map lowered_def defs → all_chooses low ≡ all_chooses defs
chooses_source defs low d = ap all_chooses d ∙ same_chooses defs

module _ (source : List ℕ) (l : LoweredParts) (t : TypedDefs) (s : IsLoweredSource source l) (is : t ≡ l.typed) where
  -- the functions of the lowered program
  pub lowered_defs : map def_tree t.defs.items ≡ map lowered_def s.typed.defs
  lowered_defs = ap (λ u. map def_tree u.defs.items) is ∙ s.defs

  pub lowered_chooses : all_chooses (map def_tree t.defs.items) ≡ all_chooses s.typed.defs
  lowered_chooses = chooses_source s.typed.defs (map def_tree t.defs.items) lowered_defs

  -- a choose of it is refused
  pub lowered_refused : (f : BuildFault) → FaultAnswer (all_chooses (map def_tree t.defs.items)) f →
      IsRefusedSource source (fault_of f) ⊎ (fault_of f ≡ fault.NoMemory)
  lowered_refused f h = build_refused source s.typed f s.is (subst (λ qs. FaultAnswer qs f) lowered_chooses h)
