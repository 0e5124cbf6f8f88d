use Rattle.std.proofs.Common.{rules, ◌≡◌, ◌∙◌, length, subst}
use Rattle.std.specs.Prelude.{IfOk}
use Rattle.cf_tree.specs.CodeView.{code_tree}
use Rattle.cf_range.specs.Settled.{union_of}
use Rattle.cf_range.proofs.SetLists.{more_parts}
use Rattle.cf_range.proofs.sets.union_of.Goals as goal

pub returns-then-len-eq1 : goal.returns-then-len-eq1
returns-then-len-eq1 c =
    subst (λ cs. IfOk c.union_of_one.result (λ new. code_tree new ≡ union_of cs)) c.only.ensures c.union_of_one.ensures

pub returns-else-len-eq1 : goal.returns-else-len-eq1
returns-else-len-eq1 c =
    let none : length c.args.parts.items ≡ 0 → ⊥ = search rules in
    let one : length c.args.parts.items ≡ 1 → ⊥ = search rules in
    c.union_over.ensures ∙ more_parts c.args.parts.items none one
