use Rattle.cf_tree.specs.CodeView.{code_tree}
use Rattle.cf_pass.specs.Improves.{Improves}
use Rattle.cf_build.proofs.PassLists.{AreUnder}
use Rattle.cf_build.proofs.rewrite.rewrite_by_each.Given as goal

abbrev pub invariant-loop-pass : goal.invariant-loop-pass
invariant-loop-pass g l =
    Improves l.fn.outside (code_tree l.fn.code) (code_tree l.code)
    × AreUnder (λ b. (goal.Pass-dyn g (b.vtable, b.value)).told b.value) l.fn.outside (code_tree l.fn.code) (code_tree l.code) l.fn.passes.items l.pass-items
    l.pass-index
