use Rattle.std.proofs.Common.{rules, ◌≡◌, ◌∙◌, length}
use Rattle.cf_range.proofs.TidiedLists.{one_part, more_parts}
use Rattle.cf_range.proofs.tidy.sum_of.Goals as goal

pub returns-then-len-eq1 : goal.returns-then-len-eq1
returns-then-len-eq1 c =
    let e : length c.args.parts.items ≡ 1 = search rules in
    c.least_of.ensures ∙ one_part c.args.parts.items e

pub returns-else-len-eq1 : goal.returns-else-len-eq1
returns-else-len-eq1 c =
    let none : length c.args.parts.items ≡ 0 → ⊥ = search rules in
    let only : length c.args.parts.items ≡ 1 → ⊥ = search rules in
    c.sum_of_more.ensures ∙ more_parts c.args.parts.items none only
