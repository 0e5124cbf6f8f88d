use Rattle.std.proofs.Common.{rules, ◌≡◌, true, false, List, ℕ, IfOk, length, nat_eq, subst}
use Rattle.cf_stmt.specs.Blocks.{Block, bind, part, join, test, arm}
use Rattle.cf_stmt.specs.BlockView.{block_tree}
use Rattle.cf_stmt.specs.declared.block.Block.{the_lemmas}
use Rattle.cf_print_shape.specs.Shapes.{number_of, gives}
use Rattle.cf_print_block.specs.PrinterView.{setting_in}
use Rattle.cf_print_block.specs.Places.{giving}
use Rattle.cf_print_block.specs.Statements.{block, held, in_place, inner_behind, inner_ahead, all_in_variables, never_read}
use Rattle.cf_print_block.proofs.StatementLaws.{bind_block, bind_held, part_block, part_held, test_block, test_held, plain_block, searched_block, unread_block}
use Rattle.cf_print_block.proofs.statements.+block.Goals as goal

pub put_block-returns-in_ok-inner-in-Bind : goal.put_block-returns-in_ok-inner-in-Bind
put_block-returns-in_ok-inner-in-Bind t c =
    let is : block_tree c.args.block.now ≡ bind (block_tree c.deref.result.now) (block_tree c.deref-in-Bind-3.result.now) = search (rules, the_lemmas) in
    let has : gives (block_tree c.deref.result.now) ≡ true = search rules in
    let here : c.in_ok-first-in-Bind.first ≡
    in_place (setting_in c.args.printer.now) c.args.place c.args.scope (block_tree c.deref.result.now)
    (held (setting_in c.args.printer.now) c.args.scope (block_tree c.deref.result.now))
    (block (setting_in c.args.printer.now) c.args.scope (block_tree c.deref.result.now)) c.args.draft = search rules in
    let within : c.in_ok-inner-in-Bind.inner ≡ inner_behind (setting_in c.args.printer.now) c.args.place c.args.scope (block_tree c.deref-in-Bind-3.result.now)
    c.in_ok-first-in-Bind.first = search rules in
    subst (λ u. IfOk c.put_block-in-Bind.result (λ x. x ≡ u))
    (bind_block (setting_in c.args.printer.now) c.args.scope (block_tree c.args.block.now) (block_tree c.deref.result.now)
    (block_tree c.deref-in-Bind-3.result.now) c.args.place c.args.draft c.in_ok-first-in-Bind.first c.in_ok-inner-in-Bind.inner is has here within)
    c.put_block-in-Bind.ensures

pub put_block-returns-in_ok-inner-in-Part : goal.put_block-returns-in_ok-inner-in-Part
put_block-returns-in_ok-inner-in-Part t c =
    let is : block_tree c.args.block.now ≡ part (block_tree c.deref-in-Part.result.now) (block_tree c.deref-in-Part-4.result.now) =
    search (rules, the_lemmas) in
    let has : gives (block_tree c.deref-in-Part.result.now) ≡ true = search rules in
    let here : c.in_ok-first-in-Part.first ≡
    in_place (setting_in c.args.printer.now) c.args.place c.args.scope (block_tree c.deref-in-Part.result.now)
    (held (setting_in c.args.printer.now) c.args.scope (block_tree c.deref-in-Part.result.now))
    (block (setting_in c.args.printer.now) c.args.scope (block_tree c.deref-in-Part.result.now)) c.args.draft = search rules in
    let within : c.in_ok-inner-in-Part.inner ≡ inner_ahead (setting_in c.args.printer.now) c.args.place c.args.scope (block_tree c.deref-in-Part-4.result.now)
    c.in_ok-first-in-Part.first = search rules in
    subst (λ u. IfOk c.put_block-in-Part.result (λ x. x ≡ u))
    (part_block (setting_in c.args.printer.now) c.args.scope (block_tree c.args.block.now) (block_tree c.deref-in-Part.result.now)
    (block_tree c.deref-in-Part-4.result.now) c.args.place c.args.draft c.in_ok-first-in-Part.first c.in_ok-inner-in-Part.inner is has here within)
    c.put_block-in-Part.ensures

pub held_inside-returns-in_ok-inner-in-Bind : goal.held_inside-returns-in_ok-inner-in-Bind
held_inside-returns-in_ok-inner-in-Bind t c =
    let is : block_tree c.args.block.now ≡ bind (block_tree c.deref.result.now) (block_tree c.deref-in-Bind-2.result.now) = search (rules, the_lemmas) in
    let here : c.in_ok-first-in-Bind.first ≡
    in_place (setting_in c.args.printer.now) c.args.place c.args.scope (block_tree c.deref.result.now)
    (held (setting_in c.args.printer.now) c.args.scope (block_tree c.deref.result.now))
    (block (setting_in c.args.printer.now) c.args.scope (block_tree c.deref.result.now)) c.args.draft = search rules in
    let within : c.in_ok-inner-in-Bind.inner ≡ inner_behind (setting_in c.args.printer.now) c.args.place c.args.scope (block_tree c.deref-in-Bind-2.result.now)
    c.in_ok-first-in-Bind.first = search rules in
    subst (λ u. IfOk c.held_inside.result (λ x. x ≡ u))
    (bind_held (setting_in c.args.printer.now) c.args.scope (block_tree c.args.block.now) (block_tree c.deref.result.now)
    (block_tree c.deref-in-Bind-2.result.now) c.args.place c.args.draft c.in_ok-first-in-Bind.first c.in_ok-inner-in-Bind.inner is here within)
    c.held_inside.ensures

pub held_inside-returns-in_ok-inner-in-Part : goal.held_inside-returns-in_ok-inner-in-Part
held_inside-returns-in_ok-inner-in-Part t c =
    let is : block_tree c.args.block.now ≡ part (block_tree c.deref-in-Part.result.now) (block_tree c.deref-in-Part-3.result.now) =
    search (rules, the_lemmas) in
    let here : c.in_ok-first-in-Part.first ≡
    in_place (setting_in c.args.printer.now) c.args.place c.args.scope (block_tree c.deref-in-Part.result.now)
    (held (setting_in c.args.printer.now) c.args.scope (block_tree c.deref-in-Part.result.now))
    (block (setting_in c.args.printer.now) c.args.scope (block_tree c.deref-in-Part.result.now)) c.args.draft = search rules in
    let within : c.in_ok-inner-in-Part.inner ≡ inner_ahead (setting_in c.args.printer.now) c.args.place c.args.scope (block_tree c.deref-in-Part-3.result.now)
    c.in_ok-first-in-Part.first = search rules in
    subst (λ u. IfOk c.held_inside-in-Part.result (λ x. x ≡ u))
    (part_held (setting_in c.args.printer.now) c.args.scope (block_tree c.args.block.now) (block_tree c.deref-in-Part.result.now)
    (block_tree c.deref-in-Part-3.result.now) c.args.place c.args.draft c.in_ok-first-in-Part.first c.in_ok-inner-in-Part.inner is here within)
    c.held_inside-in-Part.ensures

pub put_block-returns-in_ok-condition-in-Test : goal.put_block-returns-in_ok-condition-in-Test
put_block-returns-in_ok-condition-in-Test t c =
    let is : block_tree c.args.block.now ≡ test (block_tree c.deref-in-Test.result.now) (block_tree c.in-Test.yes.value) (block_tree c.in-Test.no.value) =
    search (rules, the_lemmas) in
    let has : gives (block_tree c.deref-in-Test.result.now) ≡ true = search rules in
    let here : c.in_ok-condition-in-Test.condition ≡
    in_place (setting_in c.args.printer.now) c.args.place c.args.scope (block_tree c.deref-in-Test.result.now)
    (held (setting_in c.args.printer.now) c.args.scope (block_tree c.deref-in-Test.result.now))
    (block (setting_in c.args.printer.now) c.args.scope (block_tree c.deref-in-Test.result.now)) c.args.draft = search rules in
    subst (λ u. IfOk c.put_tested.result (λ x. x ≡ u))
    (test_block (setting_in c.args.printer.now) c.args.scope (block_tree c.args.block.now) (block_tree c.deref-in-Test.result.now)
    (block_tree c.in-Test.yes.value) (block_tree c.in-Test.no.value) c.args.place c.args.draft c.in_ok-condition-in-Test.condition is has here)
    c.put_tested.ensures

pub held_inside-returns-in_ok-condition-in-Test : goal.held_inside-returns-in_ok-condition-in-Test
held_inside-returns-in_ok-condition-in-Test t c =
    let is : block_tree c.args.block.now ≡ test (block_tree c.deref-in-Test.result.now) (block_tree c.in-Test.yes.value) (block_tree c.in-Test.no.value) =
    search (rules, the_lemmas) in
    let here : c.in_ok-condition-in-Test.condition ≡
    in_place (setting_in c.args.printer.now) c.args.place c.args.scope (block_tree c.deref-in-Test.result.now)
    (held (setting_in c.args.printer.now) c.args.scope (block_tree c.deref-in-Test.result.now))
    (block (setting_in c.args.printer.now) c.args.scope (block_tree c.deref-in-Test.result.now)) c.args.draft = search rules in
    subst (λ u. IfOk c.guarded.result (λ x. x ≡ u))
    (test_held (setting_in c.args.printer.now) c.args.scope (block_tree c.args.block.now) (block_tree c.deref-in-Test.result.now)
    (block_tree c.in-Test.yes.value) (block_tree c.in-Test.no.value) c.args.place c.args.draft c.in_ok-condition-in-Test.condition is here)
    c.guarded.ensures

pub put_block-returns-then-len-eq0 : goal.put_block-returns-then-len-eq0
put_block-returns-then-len-eq0 t c =
    let is : block_tree c.args.block.now ≡ arm c.in-Arm.bounds.items (block_tree c.in-Arm.body.value) (block_tree c.in-Arm.later.value) =
    search (rules, the_lemmas) in
    let bounds : nat_eq (length c.in-Arm.bounds.items) 0 ≡ true = search rules in
    let here : c.giving-at.result ≡ giving (setting_in c.args.printer.now) (number_of (block_tree c.in-Arm.later.value)) c.args.place = search rules in
    subst (λ u. IfOk c.plain_arm.result (λ x. x ≡ u))
    (plain_block (setting_in c.args.printer.now) c.args.scope (block_tree c.args.block.now) c.in-Arm.bounds.items (block_tree c.in-Arm.body.value)
    (block_tree c.in-Arm.later.value) c.args.place c.giving-at.result c.args.draft is bounds here)
    c.plain_arm.ensures

pub put_block-returns-else-len-eq0 : goal.put_block-returns-else-len-eq0
put_block-returns-else-len-eq0 t c =
    let is : block_tree c.args.block.now ≡ arm c.in-Arm.bounds.items (block_tree c.in-Arm.body.value) (block_tree c.in-Arm.later.value) =
    search (rules, the_lemmas) in
    let bounds : nat_eq (length c.in-Arm.bounds.items) 0 ≡ false = search rules in
    let here : c.giving-at.result ≡ giving (setting_in c.args.printer.now) (number_of (block_tree c.in-Arm.later.value)) c.args.place = search rules in
    subst (λ u. IfOk c.searched_arm.result (λ x. x ≡ u))
    (searched_block (setting_in c.args.printer.now) c.args.scope (block_tree c.args.block.now) c.in-Arm.bounds.items (block_tree c.in-Arm.body.value)
    (block_tree c.in-Arm.later.value) c.args.place c.giving-at.result c.args.draft is bounds here)
    c.searched_arm.ensures

pub put_joined-returns-then-not-gives-2 : goal.put_joined-returns-then-not-gives-2
put_joined-returns-then-not-gives-2 t c =
    let is : block_tree c.args.block.now ≡ join (block_tree c.deref.result.now) (block_tree c.deref-then-not-gives-2-2.result.now) =
    search (rules, the_lemmas) in
    let has : gives (block_tree c.deref.result.now) ≡ true = search rules in
    let never : gives (block_tree c.deref-then-not-gives-2-2.result.now) ≡ false = search rules in
    let here : c.in_ok-first-in-Join.first ≡
    in_place (setting_in c.args.printer.now) c.args.place c.args.scope (block_tree c.deref.result.now)
    (held (setting_in c.args.printer.now) c.args.scope (block_tree c.deref.result.now))
    (block (setting_in c.args.printer.now) c.args.scope (block_tree c.deref.result.now)) c.args.draft = search rules in
    let unread : c.in_ok-behind-in-Join.behind ≡
    (all_in_variables (setting_in c.args.printer.now) c.args.place.depth never_read c.in_ok-first-in-Join.first).draft = search rules in
    subst (λ u. IfOk c.put_block-then-not-gives-2.result (λ x. x ≡ u))
    (unread_block (setting_in c.args.printer.now) c.args.scope (block_tree c.args.block.now) (block_tree c.deref.result.now)
    (block_tree c.deref-then-not-gives-2-2.result.now) c.args.place c.args.draft c.in_ok-behind-in-Join.behind c.in_ok-first-in-Join.first is has never here
    unread)
    c.put_block-then-not-gives-2.ensures
