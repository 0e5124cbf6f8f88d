use Rattle.std.proofs.Common.{◌≡◌, ap, not, Err, rules}
use Rattle.cf_tree.specs.RelView.{rel_tree}
use Rattle.cf_linear.specs.Views.{plain_layout}
use Rattle.cf_linear.specs.Cases.{negation_normal}
use Rattle.cf_cases.specs.SystemBuilders.{rows_of}
use Rattle.cf_cases.specs.Counts.{count_tree}
use Rattle.cf_cases.proofs.PartLaws.{plain-and, plain-or, and_counts, or_counts}
use Rattle.cf_cases.proofs.SystemBuilderLaws.{parts_fail}
use Rattle.cf_cases.proofs.AddLaws.{true_case, false_case, same_case, other_case, subset_case}
use Rattle.cf_cases.proofs.case.+add_case.Goals as goal

pub add_case-returns-in-True-clause-gives : goal.add_case-returns-in-True-clause-gives
add_case-returns-in-True-clause-gives t c =
    rw (c.in-True.is, ← true_case (plain_layout c.args.layout.now) (rows_of c.args.builder.now) c.args.holds c.args.index) c.add_constant.ensures.gives

pub add_case-returns-in-False-clause-gives : goal.add_case-returns-in-False-clause-gives
add_case-returns-in-False-clause-gives t c =
    rw (c.in-False.is, ← false_case (plain_layout c.args.layout.now) (rows_of c.args.builder.now) c.args.holds c.args.index)
    c.add_constant-in-False.ensures.gives

pub add_case-returns-in-SameSet-clause-gives : goal.add_case-returns-in-SameSet-clause-gives
add_case-returns-in-SameSet-clause-gives t c =
    let g = rw (c.deref.ensures, c.deref-in-SameSet.ensures) at c.add_apart.ensures.gives in
    rw (c.in-SameSet.is, ← same_case (plain_layout c.args.layout.now) (rows_of c.args.builder.now) c.args.holds _ _ c.args.index) g

pub add_case-returns-in-OtherSet-clause-gives : goal.add_case-returns-in-OtherSet-clause-gives
add_case-returns-in-OtherSet-clause-gives t c =
    let g = rw (c.deref-in-OtherSet.ensures, c.deref-in-OtherSet-2.ensures) at c.add_apart-in-OtherSet.ensures.gives in
    rw (c.in-OtherSet.is, ← other_case (plain_layout c.args.layout.now) (rows_of c.args.builder.now) c.args.holds _ _ c.args.index) g

pub add_case-returns-in-Subset-clause-gives : goal.add_case-returns-in-Subset-clause-gives
add_case-returns-in-Subset-clause-gives t c =
    let g = rw (c.deref-in-Subset.ensures, c.deref-in-Subset-2.ensures) at c.add_apart-in-Subset.ensures.gives in
    rw (c.in-Subset.is, ← subset_case (plain_layout c.args.layout.now) (rows_of c.args.builder.now) c.args.holds _ _ c.args.index) g

pub add_case-parts_of-first-requires-clause-index : goal.add_case-parts_of-first-requires-clause-index
add_case-parts_of-first-requires-clause-index t c = rw (
  c.deref-in-And.ensures,
  c.deref-in-And-2.ensures,
  ← plain-and c.args.holds (rel_tree c.in-And.a.value) (rel_tree c.in-And.b.value),
) (rw c.in-And.is at c.requires.index)

pub add_case-returns-in_err-add_part-in-And-clause-gives : goal.add_case-returns-in_err-add_part-in-And-clause-gives
add_case-returns-in_err-add_part-in-And-clause-gives t c =
    let e : c.from_residual.result ≡ Err c.in_err-add_part-in-And.field-0.0 = search rules in
    rw (e, c.in-And.is, plain-and c.args.holds (rel_tree c.in-And.a.value) (rel_tree c.in-And.b.value))
    (parts_fail (plain_layout c.args.layout.now) c.args.holds (negation_normal c.args.holds (rel_tree c.in-And.a.value))
    (negation_normal c.args.holds (rel_tree c.in-And.b.value)) c.args.index c.parts_of-first.result.0 c.parts_of-first.result.1
    (rw (c.deref-in-And.ensures, c.deref-in-And-2.ensures) at c.parts_of-first.ensures.whole) c.args.builder.now c.in_err-add_part-in-And.field-0.0
    (rw c.deref-in-And-3.ensures at c.in_err-add_part-in-And.ensures.gives))

pub add_case-parts_of-first-requires-in-Or-clause-index : goal.add_case-parts_of-first-requires-in-Or-clause-index
add_case-parts_of-first-requires-in-Or-clause-index t c = rw (
  c.deref-in-Or.ensures,
  c.deref-in-Or-2.ensures,
  ← plain-or c.args.holds (rel_tree c.in-Or.a.value) (rel_tree c.in-Or.b.value),
) (rw c.in-Or.is at c.requires.index)

pub add_case-returns-in_err-add_part-in-Or-clause-gives : goal.add_case-returns-in_err-add_part-in-Or-clause-gives
add_case-returns-in_err-add_part-in-Or-clause-gives t c =
    let e : c.from_residual-in_err-add_part-in-Or.result ≡ Err c.in_err-add_part-in-Or.field-0.0 = search rules in
    rw (e, c.in-Or.is, plain-or c.args.holds (rel_tree c.in-Or.a.value) (rel_tree c.in-Or.b.value))
    (parts_fail (plain_layout c.args.layout.now) (not c.args.holds) (negation_normal c.args.holds (rel_tree c.in-Or.a.value))
    (negation_normal c.args.holds (rel_tree c.in-Or.b.value)) c.args.index c.parts_of-first-in-Or.result.0 c.parts_of-first-in-Or.result.1
    (rw (c.deref-in-Or.ensures, c.deref-in-Or-2.ensures) at c.parts_of-first-in-Or.ensures.whole) c.args.builder.now c.in_err-add_part-in-Or.field-0.0
    (rw c.deref-in-Or-3.ensures at c.in_err-add_part-in-Or.ensures.gives))

pub add_case-parts_of-first-requires-clause-counts : goal.add_case-parts_of-first-requires-clause-counts
add_case-parts_of-first-requires-clause-counts t c =
    rw (c.deref-in-And.ensures, c.deref-in-And-2.ensures)
    (and_counts c.args.holds (rel_tree c.args.rel.now) (rel_tree c.in-And.a.value) (rel_tree c.in-And.b.value) (count_tree c.args.counts.now)
    (ap rel_tree c.in-And.is) c.requires.counts)

pub add_case-parts_of-first-requires-in-Or-clause-counts : goal.add_case-parts_of-first-requires-in-Or-clause-counts
add_case-parts_of-first-requires-in-Or-clause-counts t c =
    rw (c.deref-in-Or.ensures, c.deref-in-Or-2.ensures)
    (or_counts c.args.holds (rel_tree c.args.rel.now) (rel_tree c.in-Or.a.value) (rel_tree c.in-Or.b.value) (count_tree c.args.counts.now)
    (ap rel_tree c.in-Or.is) c.requires.counts)
