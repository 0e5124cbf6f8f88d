use Rattle.std.proofs.Common.{◌≡◌, ◌∙◌, ◌+◌, ap, refl, arith, length, length-append, Err, rules}
use Rattle.cf_tree.specs.RelView.{term_tree}
use Rattle.cf_linear.specs.Written.{abs_count}
use Rattle.cf_linear.specs.Views.{plain_layout}
use Rattle.cf_linear.proofs.WritingLemmas.{write-next, next_above}
use Rattle.cf_cases.specs.SystemBuilders.{rows_of}
use Rattle.cf_cases.proofs.PickLaws.{length-signs_at}
use Rattle.cf_cases.proofs.SystemBuilderLaws.{compare_gives, left_fails, right_fails, fails_from, guards_fine}
use Rattle.cf_cases.proofs.atom.add_compare.Goals as goal

pub split_at-requires : goal.split_at-requires
split_at-requires c =
    let e : length c.deref.result.now ≡ abs_count (term_tree c.args.left.now) + abs_count (term_tree c.args.right.now) =
    ap length (c.deref.ensures.value ∙ c.in_ok-signs.ensures) ∙ length-signs_at _ _ in
    omega (arith, e, c.in_ok-abs_count.ensures)

pub row_of-requires-2-clause-signs : goal.row_of-requires-2-clause-signs
row_of-requires-2-clause-signs c =
    let e : length c.deref.result.now ≡ abs_count (term_tree c.args.left.now) + abs_count (term_tree c.args.right.now) =
    ap length (c.deref.ensures.value ∙ c.in_ok-signs.ensures) ∙ length-signs_at _ _ in
    let parts = ap length c.split_at.ensures.by_index.0 ∙ length-append c.split_at.result.0.now c.split_at.result.1.now in
    omega (arith, e, parts, c.split_at.ensures.front_len, c.in_ok-abs_count.ensures)

pub row_of-requires-2-clause-above : goal.row_of-requires-2-clause-above
row_of-requires-2-clause-above c = next_above (plain_layout c.args.layout.now) (term_tree c.args.left.now) c.split_at.result.0.now c.args.builder.now.next
    c.in_ok-first.first.next c.requires.above c.in_ok-first.ensures.next

pub row_of-requires-2-clause-room : goal.row_of-requires-2-clause-room
row_of-requires-2-clause-room c =
    let e = c.in_ok-first.ensures.next ∙ write-next (plain_layout c.args.layout.now) (term_tree c.args.left.now) c.split_at.result.0.now
    c.args.builder.now.next in omega arith

pub add_written-requires-clause-first : goal.add_written-requires-clause-first
add_written-requires-clause-first c =
    rw c.in_ok-first.ensures.guards (guards_fine (plain_layout c.args.layout.now) (term_tree c.args.left.now) c.split_at.result.0.now c.args.builder.now.next
    c.requires.left c.requires.above c.in_ok-first.ensures.fits)

pub add_written-requires-clause-second : goal.add_written-requires-clause-second
add_written-requires-clause-second c =
    rw c.in_ok-second.ensures.guards (guards_fine (plain_layout c.args.layout.now) (term_tree c.args.right.now) c.split_at.result.1.now
    c.in_ok-first.first.next c.requires.right
    (next_above (plain_layout c.args.layout.now) (term_tree c.args.left.now) c.split_at.result.0.now c.args.builder.now.next
    c.in_ok-first.first.next c.requires.above c.in_ok-first.ensures.next) c.in_ok-second.ensures.fits)

pub returns-clause-next : goal.returns-clause-next
returns-clause-next c =
    let e = c.in_ok-first.ensures.next ∙ write-next (plain_layout c.args.layout.now) (term_tree c.args.left.now) c.split_at.result.0.now
    c.args.builder.now.next in
    let f = c.in_ok-second.ensures.next ∙ write-next (plain_layout c.args.layout.now) (term_tree c.args.right.now) c.split_at.result.1.now
    c.in_ok-first.first.next in
    rw (f, e) at c.add_written.ensures.next

pub returns-in_err-first-clause-gives : goal.returns-in_err-first-clause-gives
returns-in_err-first-clause-gives c =
    let e : c.from_residual-in_err-first.result ≡ Err c.in_err-first.field-0.0 = search rules in
    rw e (left_fails (plain_layout c.args.layout.now) (rows_of c.args.builder.now) refl c.args.order (term_tree c.args.left.now) (term_tree c.args.right.now)
    c.args.index c.deref.result.now c.split_at.result.0.now c.split_at.result.1.now c.order_ways.result c.order_ways.ensures.ways
    (c.deref.ensures.value ∙ c.in_ok-signs.ensures) c.split_at.ensures.by_index.0 (c.split_at.ensures.front_len ∙ c.in_ok-abs_count.ensures)
    c.in_err-first.field-0.0 (fails_from c.in_err-first.field-0.0 _ c.in_err-first.ensures.past))

pub returns-in_err-second-clause-gives : goal.returns-in_err-second-clause-gives
returns-in_err-second-clause-gives c =
    let e : c.from_residual-in_err-second.result ≡ Err c.in_err-second.field-0.0 = search rules in
    rw e (right_fails (plain_layout c.args.layout.now) (rows_of c.args.builder.now) refl c.args.order (term_tree c.args.left.now) (term_tree c.args.right.now)
    c.args.index c.deref.result.now c.split_at.result.0.now c.split_at.result.1.now c.order_ways.result c.order_ways.ensures.ways
    (c.deref.ensures.value ∙ c.in_ok-signs.ensures) c.split_at.ensures.by_index.0 (c.split_at.ensures.front_len ∙ c.in_ok-abs_count.ensures)
    c.in_ok-first.ensures.fits c.in_err-second.field-0.0
    (rw c.in_ok-first.ensures.next at (fails_from c.in_err-second.field-0.0 _ c.in_err-second.ensures.past)))

pub returns-clause-gives : goal.returns-clause-gives
returns-clause-gives c =
    compare_gives (plain_layout c.args.layout.now) (rows_of c.args.builder.now) refl c.args.order (term_tree c.args.left.now) (term_tree c.args.right.now)
    c.args.index c.deref.result.now c.split_at.result.0.now c.split_at.result.1.now c.order_ways.result c.order_ways.ensures.ways
    (c.deref.ensures.value ∙ c.in_ok-signs.ensures) c.split_at.ensures.by_index.0 (c.split_at.ensures.front_len ∙ c.in_ok-abs_count.ensures)
    c.in_ok-first.ensures.fits (rw c.in_ok-first.ensures.next at c.in_ok-second.ensures.fits) c.way_of.result c.add_written.new.builder c.add_written.result
    c.way_of.ensures (rw (
      c.in_ok-first.ensures.row,
      c.in_ok-first.ensures.guards,
      c.in_ok-second.ensures.row,
      c.in_ok-second.ensures.guards,
      c.in_ok-second.ensures.next,
      c.in_ok-first.ensures.next,
    ) at c.add_written.ensures.gives)
