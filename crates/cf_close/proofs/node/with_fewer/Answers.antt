use Rattle.std.proofs.Common.{◌∙◌, ap, refl}
use Rattle.cf_close.proofs.node.with_fewer.Goals as goal

pub returns : goal.returns
returns c =
    let d = rw c.in_ok-remove.was at c.remove.ensures in
    let e = rw c.in_ok-set_or.was at c.set_or.ensures in
    record {
      facts_are = ap (λ y. y.facts) e ∙ c.in_ok-rest.ensures.facts_are;
      ors_are = ap (λ y. y.ors) e ∙ rw (c.in_ok-rest.ensures.ors_are, d, c.in_ok-fewer.ensures) refl;
    }
