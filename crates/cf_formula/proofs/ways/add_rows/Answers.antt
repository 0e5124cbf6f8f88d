use Rattle.cf_linear.specs.Views.{plain_layout}
use Rattle.cf_cases.specs.SystemBuilders.{rows_of}
use Rattle.cf_cases.proofs.AddLaws.{true_case, false_case, same_case, other_case, subset_case}
use Rattle.cf_formula.proofs.ways.add_rows.Goals as goal

pub returns-in-True-clause-gives : goal.returns-in-True-clause-gives
returns-in-True-clause-gives c =
    rw (c.in-True.is, ← true_case (plain_layout c.args.layout.now) (rows_of c.args.builder.now) c.args.holds c.args.index) c.add_constant.ensures.gives

pub returns-in-False-clause-gives : goal.returns-in-False-clause-gives
returns-in-False-clause-gives c =
    rw (c.in-False.is, ← false_case (plain_layout c.args.layout.now) (rows_of c.args.builder.now) c.args.holds c.args.index)
    c.add_constant-in-False.ensures.gives

pub returns-in-SameSet-clause-gives : goal.returns-in-SameSet-clause-gives
returns-in-SameSet-clause-gives c =
    let g = rw (c.deref.ensures, c.deref-in-SameSet.ensures) at c.add_apart.ensures.gives in
    rw (c.in-SameSet.is, ← same_case (plain_layout c.args.layout.now) (rows_of c.args.builder.now) c.args.holds _ _ c.args.index) g

pub returns-in-OtherSet-clause-gives : goal.returns-in-OtherSet-clause-gives
returns-in-OtherSet-clause-gives c =
    let g = rw (c.deref-in-OtherSet.ensures, c.deref-in-OtherSet-2.ensures) at c.add_apart-in-OtherSet.ensures.gives in
    rw (c.in-OtherSet.is, ← other_case (plain_layout c.args.layout.now) (rows_of c.args.builder.now) c.args.holds _ _ c.args.index) g

pub returns-in-Subset-clause-gives : goal.returns-in-Subset-clause-gives
returns-in-Subset-clause-gives c =
    let g = rw (c.deref-in-Subset.ensures, c.deref-in-Subset-2.ensures) at c.add_apart-in-Subset.ensures.gives in
    rw (c.in-Subset.is, ← subset_case (plain_layout c.args.layout.now) (rows_of c.args.builder.now) c.args.holds _ _ c.args.index) g
