use Rattle.std.proofs.Common.{◌≡◌, ◌∙◌, ap, length, arith, Err, rules}
use Rattle.cf_tree.specs.RelView.{term_tree}
use Rattle.cf_linear.specs.Views.{plain_layout}
use Rattle.cf_linear.specs.Written.{abs_count}
use Rattle.cf_linear.proofs.WritingLemmas.{write-next, next_positive}
use Rattle.cf_cases.specs.Picking.{signs_at}
use Rattle.cf_cases.specs.SystemBuilders.{rows_of}
use Rattle.cf_cases.proofs.PickLaws.{length-signs_at}
use Rattle.cf_cases.proofs.AddLaws.{divides_gives, divides_past}
use Rattle.cf_cases.proofs.SystemBuilderLaws.{guards_fine, fails_from}
use Rattle.cf_cases.proofs.atom.add_divides.Goals as goal

pub row_of-requires-clause-signs : goal.row_of-requires-clause-signs
row_of-requires-clause-signs c = ap length (c.deref.ensures.value ∙ c.in_ok-signs.ensures) ∙ length-signs_at _ _

pub add_divided-requires-clause-guards : goal.add_divided-requires-clause-guards
add_divided-requires-clause-guards c =
    rw c.in_ok-written.ensures.guards (guards_fine (plain_layout c.args.layout.now) (term_tree c.args.of.now) c.deref.result.now c.args.builder.now.next
    c.requires.placed c.requires.above c.in_ok-written.ensures.fits)

pub add_divided-requires-clause-column : goal.add_divided-requires-clause-column
add_divided-requires-clause-column c = next_positive (plain_layout c.args.layout.now) (term_tree c.args.of.now) c.deref.result.now c.args.builder.now.next
    c.in_ok-written.written.next c.requires.above c.in_ok-written.ensures.next

pub add_divided-requires-clause-room : goal.add_divided-requires-clause-room
add_divided-requires-clause-room c =
    let e = c.in_ok-written.ensures.next ∙ write-next (plain_layout c.args.layout.now) (term_tree c.args.of.now) c.deref.result.now c.args.builder.now.next in
    omega arith

pub returns-clause-next : goal.returns-clause-next
returns-clause-next c =
    let e = c.in_ok-written.ensures.next ∙ write-next (plain_layout c.args.layout.now) (term_tree c.args.of.now) c.deref.result.now c.args.builder.now.next in
    rw e at c.add_divided.ensures.next

pub returns-clause-gives : goal.returns-clause-gives
returns-clause-gives c =
    let s : c.deref.result.now ≡ signs_at (abs_count (term_tree c.args.of.now)) c.args.index = c.deref.ensures.value ∙ c.in_ok-signs.ensures in
    divides_gives (plain_layout c.args.layout.now) (rows_of c.args.builder.now) c.args.holds c.args.k.now (term_tree c.args.of.now) c.args.index
    c.add_divided.new.builder c.add_divided.result
    (rw s at c.in_ok-written.ensures.fits)
    (rw (c.in_ok-written.ensures.row, c.in_ok-written.ensures.guards, c.in_ok-written.ensures.next, s) at c.add_divided.ensures.gives)

pub returns-in_err-written-clause-gives : goal.returns-in_err-written-clause-gives
returns-in_err-written-clause-gives c =
    let s : c.deref.result.now ≡ signs_at (abs_count (term_tree c.args.of.now)) c.args.index = c.deref.ensures.value ∙ c.in_ok-signs.ensures in
    let e : c.from_residual-in_err-written.result ≡ Err c.in_err-written.field-0.0 = search rules in
    rw e (divides_past (plain_layout c.args.layout.now) (rows_of c.args.builder.now) c.args.holds c.args.k.now (term_tree c.args.of.now) c.args.index
    c.in_err-written.field-0.0 (rw s at (fails_from c.in_err-written.field-0.0 _ c.in_err-written.ensures.past)))
