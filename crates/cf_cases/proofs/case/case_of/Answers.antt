use Rattle.std.proofs.Common.{◌≡◌, ◌∙◌, true, false, refl, sym, Err, rules}
use Rattle.cf_tree.specs.RelView.{rel_tree}
use Rattle.cf_linear.specs.Cases.{negation_normal, AtomRows}
use Rattle.cf_linear.specs.Views.{plain_layout, system_of}
use Rattle.cf_cases.specs.SystemBuilders.{rows_of}
use Rattle.cf_cases.proofs.SystemBuilderLaws.{system_is, fits_is, past_is, fault_is}
use Rattle.cf_cases.proofs.case.case_of.Goals as goal

pub returns-clause-system : goal.returns-clause-system
returns-clause-system c =
    let start : AtomRows = record { equations = c.new.result.items; inequalities = c.new-2.result.items; next = c.first_free.result; passes = false } in
    system_is (plain_layout c.args.layout.now) (negation_normal true (rel_tree c.args.counted.now)) c.args.index start (rows_of c.add_case.new.builder)
    (system_of c.in_ok-first_system.field-0)
    (rw (c.new.ensures.items, c.new-2.ensures.items, c.first_free.ensures) refl) (rw c.rel-rel.ensures at c.in_ok-add_case.ensures.gives)
    c.in_ok-first_system.ensures c.requires.index

pub returns-clause-fits : goal.returns-clause-fits
returns-clause-fits c =
    let start : AtomRows = record { equations = c.new.result.items; inequalities = c.new-2.result.items; next = c.first_free.result; passes = false } in
    fits_is (plain_layout c.args.layout.now) (negation_normal true (rel_tree c.args.counted.now)) c.args.index start (rows_of c.add_case.new.builder)
    (rw (c.new.ensures.items, c.new-2.ensures.items, c.first_free.ensures) refl) (rw c.rel-rel.ensures at c.in_ok-add_case.ensures.gives) refl c.requires.index

pub returns-in_err-add_case-clause-past : goal.returns-in_err-add_case-clause-past
returns-in_err-add_case-clause-past c h =
    let e : c.from_residual.result ≡ Err c.in_err-add_case.field-0.0 = search rules in
    let start : AtomRows = record { equations = c.new.result.items; inequalities = c.new-2.result.items; next = c.first_free.result; passes = false } in
    past_is (plain_layout c.args.layout.now) (negation_normal true (rel_tree c.args.counted.now)) c.args.index start c.in_err-add_case.field-0.0
    (rw (c.new.ensures.items, c.new-2.ensures.items, c.first_free.ensures) refl) (rw c.rel-rel.ensures at c.in_err-add_case.ensures.gives) c.requires.index
    (fault_is c.in_err-add_case.field-0.0 (sym e ∙ h))
