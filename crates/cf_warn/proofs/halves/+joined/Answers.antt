use Rattle.std.proofs.Common.{ap, ◌∙◌, arith}
use Rattle.cf_tree.specs.RelView.{rel_tree}
use Rattle.cf_warn.specs.Writing.{both_of, empty_of}
use Rattle.cf_warn.proofs.HalvesLaws.{halves_of_two}
use Rattle.cf_warn.proofs.halves.+joined.Goals as goal

pub returns : goal.returns
returns t c =
    c.both.ensures
    ∙ halves_of_two (both_of c.args.join) (empty_of c.args.join) rel_tree c.args.parts.now _ _ _ _ (omega (arith, c.if-parts-eq0.false, c.if-parts-eq1.false))
    c.split_at.ensures.front c.split_at.ensures.back (ap rel_tree c.in_ok-left.ensures.ok ∙ c.in_ok-joined.ensures)
    (ap rel_tree c.in_ok-right.ensures.ok ∙ c.in_ok-joined-2.ensures)
