-- What every program of edition 3 keeps in which no rule is broken, before it is lowered, as a fact about its functions with levels.
use Rattle.std.specs.Prelude.{ℕ, ◌≤◌, ◌≡◌, nat_eq, List, map, reverse, slice_get, codes, Some, All}
use Rattle.std.specs.List.{IsDistinct}
use Rattle.cf_tree.specs.DefView.{DefTree}
use Rattle.cf_tree.specs.Params.{names_of}
use Rattle.cf_program.specs.declared.linearity.Linearity.{Linearity}
use Rattle.cf_program.specs.DistinctNames.{AreDistinct}
use Rattle.cf_program.specs.LateLinear.{IsLinearBy}
use Rattle.cf_program.specs.LinearTrees.{DefsAreLinear}
use Rattle.cf_program.specs.TypedProgram.{AreTypedDefsBy, all_numbers}
use Rattle.cf_program.specs.Walk.{takes_inputs}

-- functions in the order of the text, with the number of `main`: typed, their relations, what is given and their objectives linear, and names and numbers
-- different
pub record IsSourceBy (how : Linearity) (defs : List DefTree) (main : ℕ) : Type 0 where
  pub typed : AreTypedDefsBy (IsLinearBy how) (reverse defs)
  pub linear : DefsAreLinear (takes_inputs how) (reverse defs)
  pub functions : AreDistinct (map (λ d. d.name) defs)
  pub params : All (λ d. AreDistinct (names_of d.params)) defs
  pub has_main : (d : DefTree) × (slice_get defs main ≡ Some d) × (d.name ≡ codes "main")
  pub distinct : IsDistinct nat_eq (all_numbers defs)
  pub positive : All (λ n. 1 ≤ n) (all_numbers defs)
