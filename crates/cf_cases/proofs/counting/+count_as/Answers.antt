use Rattle.std.proofs.Common.{ap, ◌∙◌}
use Rattle.cf_tree.specs.RelView.{term_tree, rel_tree}
use Rattle.cf_cases.specs.Counts.{wide, order_ways}
use Rattle.cf_cases.proofs.CountLaws.{true_count, false_count, same_count, other_count, subset_count, compare_count, divides_count, and_count, or_count}
use Rattle.cf_cases.proofs.counting.+count_as.Goals as goal

pub returns-in-True : goal.returns-in-True
returns-in-True t c = rw c.in-True.is (true_count c.args.holds)

pub returns-in-False : goal.returns-in-False
returns-in-False t c = rw c.in-False.is (false_count c.args.holds)

pub returns-in-SameSet : goal.returns-in-SameSet
returns-in-SameSet t c = rw c.in-SameSet.is (same_count c.args.holds _ _)

pub returns-in-OtherSet : goal.returns-in-OtherSet
returns-in-OtherSet t c = rw c.in-OtherSet.is (other_count c.args.holds _ _)

pub returns-in-Subset : goal.returns-in-Subset
returns-in-Subset t c = rw c.in-Subset.is (subset_count c.args.holds _ _)

pub returns-in-Compare : goal.returns-in-Compare
returns-in-Compare t c =
    rw c.in-Compare.is (compare_count c.args.holds c.in-Compare.order (term_tree c.in-Compare.left.value) (term_tree c.in-Compare.right.value) _ _ _ _ _
    (c.order_ways-ways.ensures.ways ∙ ap order_ways c.order_as.ensures) (rw c.deref.ensures at c.choices.ensures)
    (rw c.deref-in-Compare.ensures at c.choices-in-Compare.ensures) c.saturating_mul-signs.ensures c.saturating_mul.ensures)

pub returns-in-Divides : goal.returns-in-Divides
returns-in-Divides t c =
    let e = rw c.deref-in-Divides.ensures at c.choices-in-Divides.ensures in
    rw c.in-Divides.is (e ∙ ap wide (divides_count c.args.holds c.in-Divides.k (term_tree c.in-Divides.of.value)))

pub returns-in-And : goal.returns-in-And
returns-in-And t c =
    rw c.in-And.is (and_count c.args.holds (rel_tree c.in-And.a.value) (rel_tree c.in-And.b.value) _ _ _ (rw c.deref-in-And.ensures at c.count_as.ensures)
    (rw c.deref-in-And-2.ensures at c.count_as-in-And.ensures) c.both_or_either.ensures)

pub returns-in-Or : goal.returns-in-Or
returns-in-Or t c =
    rw c.in-Or.is (or_count c.args.holds (rel_tree c.in-Or.a.value) (rel_tree c.in-Or.b.value) _ _ _ (rw c.deref-in-Or.ensures at c.count_as-in-Or.ensures)
    (rw c.deref-in-Or-2.ensures at c.count_as-in-Or-2.ensures) c.both_or_either-in-Or.ensures)
