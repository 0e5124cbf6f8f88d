-- A target whose code was rewritten.
use Rattle.std.specs.Prelude.{◌≡◌, List, length}
use Rattle.cf_tree.specs.declared.target.RawTarget.{RawTarget}
use Rattle.cf_tree.specs.CodeView.{code_tree}
use Rattle.cf_pass.specs.Improves.{Improves}
use Rattle.cf_pass.specs.Passes.{Told, AreMade}

-- the target whose code passes that told `given` and tell `last` have made of the code before: it may take its place
pub record IsRewritten (given last : List Told) (before after : RawTarget) : Type 0 where
  pub params : after.params.items ≡ before.params.items
  pub results : after.results.items ≡ before.results.items
  pub made : AreMade (length before.params.items) given last (code_tree before.code) (code_tree after.code)
  pub better : Improves (length before.params.items) (code_tree before.code) (code_tree after.code)
