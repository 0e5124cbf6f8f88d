-- What a program of edition 3 keeps in which no rule is broken, and what its formed program does.
use Rattle.std.specs.Prelude.{ℕ, ◌≤◌, ◌≡◌, nat_eq, Option, Some, None, List, length, map, reverse, slice_get, codes, All}
use Rattle.std.specs.List.{IsDistinct}
use Rattle.cf_tree.specs.DefView.{DefTree}
use Rattle.cf_tree.specs.ExprTree.{at_any}
use Rattle.cf_tree.specs.Params.{names_of}
use Rattle.cf_program.specs.declared.linearity.Linearity.{Linearity}
use Rattle.cf_program.specs.DistinctNames.{AreDistinct}
use Rattle.cf_program.specs.LateLinear.{IsLinearBy}
use Rattle.cf_program.specs.TypedProgram.{AreTypedDefsBy, all_numbers}
use Rattle.cf_form.specs.LinearWide.{IsLinearBehind, IsLinearWide}
use Rattle.cf_form.specs.Numbers.{ShareByBranch, placed_from}
use Rattle.cf_form.specs.Relations.{MayStand, CallMayStand, GivenMayStand}
use Rattle.cf_form.specs.SourceChooses.{source_chooses}
use Rattle.cf_form.specs.Told.{wide_chooses, first_passed}
use Rattle.cf_form.specs.Wide.{WideRel}
use Rattle.cf_form.specs.Widened.{IsOfLanguageTwo}

-- a condition holds no product with inputs
abbrev pub IsLinearGiven : Option WideRel → Type 0
IsLinearGiven None = Unit {0}
IsLinearGiven (Some p) = IsLinearWide 0 p

-- functions with their types, and the names and the number of `main`
pub record IsTypedBy (how : Linearity) (defs : List DefTree) (main : ℕ) : Type 0 where
  pub typed : AreTypedDefsBy (IsLinearBy how) (reverse defs)
  pub functions : AreDistinct (map (λ d. d.name) defs)
  pub params : All (λ d. AreDistinct (names_of d.params)) defs
  pub has_main : (d : DefTree) × (slice_get defs main ≡ Some d) × (d.name ≡ codes "main")
  pub positive : All (λ n. 1 ≤ n) (all_numbers defs)

-- and its relations are made of what may stand there, and expanded they are linear; no atom of them has too many alternatives, and none is to be least
pub record IsSource (how : Linearity) (defs : List DefTree) (main : ℕ) : Type 0 where
  pub typed : IsTypedBy how defs main
  pub distinct : IsDistinct nat_eq (all_numbers defs)
  pub relations : All (λ q. MayStand (CallMayStand q.0) q.1.relation × GivenMayStand (CallMayStand q.0) q.1.given) (source_chooses defs)
  pub linear : All (λ q. IsLinearBehind how (length q.scope) q.relation) (wide_chooses defs)
  pub linear_given : All (λ q. IsLinearGiven q.given) (wide_chooses defs)
  pub few : first_passed (wide_chooses defs) ≡ None
  pub unaimed : All (λ q. q.1.aim ≡ at_any) (source_chooses defs)

-- numbers are the same only of branches, and no new form stands there
pub record IsFormedBy (how : Linearity) (defs : List DefTree) (main : ℕ) : Type 0 where
  pub typed : IsTypedBy how defs main
  pub numbers : ShareByBranch (placed_from 0 defs)
  pub formed : All (λ d. IsOfLanguageTwo d.body) defs
