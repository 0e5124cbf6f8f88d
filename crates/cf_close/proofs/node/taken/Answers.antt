use Rattle.std.proofs.Common.{◌∙◌, ◌++◌, ap}
use Rattle.cf_close.specs.Nodes.{removed}
use Rattle.cf_close.proofs.node.taken.Goals as goal

pub returns : goal.returns
returns c =
    let e = rw c.in_ok-remove_or.was at c.remove_or.ensures in
    record {
      facts_are = c.in_ok-all.ensures.facts_are ∙ ap (λ y. y ++ c.args.branch.now.facts) (ap (λ y. y.facts) e ∙ c.in_ok-rest.ensures.facts_are);
      ors_are = c.in_ok-all.ensures.ors_are ∙
          ap (λ y. y ++ c.args.branch.now.ors) (ap (λ y. y.ors) e ∙ ap (λ y. removed c.args.or y) c.in_ok-rest.ensures.ors_are);
    }
