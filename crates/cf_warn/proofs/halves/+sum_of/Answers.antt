use Rattle.std.proofs.Common.{pos, ap, ◌∙◌, arith}
use Rattle.cf_tree.specs.RelTree.{term_add, term_lit}
use Rattle.cf_tree.specs.RelView.{term_tree}
use Rattle.cf_warn.proofs.HalvesLaws.{halves_of_two}
use Rattle.cf_warn.proofs.halves.+sum_of.Goals as goal

pub returns : goal.returns
returns t c =
    halves_of_two (λ a b. term_add a b) (term_lit (pos 0)) term_tree c.args.parts.now _ _ _ _ (omega (arith, c.if-parts-eq0.false, c.if-parts-eq1.false))
    c.split_at.ensures.front c.split_at.ensures.back (ap term_tree c.in_ok-left.ensures.ok ∙ c.in_ok-sum_of.ensures)
    (ap term_tree c.in_ok-right.ensures.ok ∙ c.in_ok-sum_of-2.ensures)
