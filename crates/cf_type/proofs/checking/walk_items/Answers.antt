use Rattle.std.proofs.Common.{◌≡◌, ◌<◌, ◌≤◌, [], Ok, length, map, take, sym, ◌∙◌, subst, arith}
use Rattle.std.proofs.lemmas.List.{length-map}
use Rattle.cf_tree.specs.DefView.{raw_def_tree, raw_item_tree, def_tree}
use Rattle.cf_program.specs.CheckAnswers.{CheckFault}
use Rattle.cf_program.specs.Checked.{functions_of, walk_items}
use Rattle.cf_type.specs.Walked.{functions_in, walk_item}
use Rattle.cf_type.specs.WalkedView.{walked_of}
use Rattle.cf_type.proofs.DefSteps.{functions_are, few, item_fails, item_goes_on, counted_next}
use Rattle.cf_type.proofs.checking.walk_items.Goals as goal

pub add_item-requires : goal.add_item-requires
add_item-requires c =
    let l = c.loop-item in
    subst (λ ds. length l.walked.defs.items ≤ length ds) (sym c.requires) (few c.args.items.now l.item-index (length l.walked.defs.items) l.invariant.0)

pub returns-in-Err : goal.returns-in-Err
returns-in-Err c =
    let l = c.loop-item in
    let items = c.args.items.now in
    let x = c.item-item.result in
    let edition = c.args.setting.now.edition in
    let how = c.args.setting.now.how in
    let all = functions_of (map raw_item_tree items) in
    let w = walked_of l.walked in
    let k = length l.walked.defs.items in
    let whole = walk_items edition how all [] [] [] 1 (map raw_item_tree items) in
    let fault = c.in-Err.fault in
    let within : l.item-index < length items = omega (arith, c.loop-item-test.true) in
    let told : CheckFault fault (walk_item edition how all (map raw_def_tree (take k (functions_in items))) w (raw_item_tree x)) =
    subst (λ a. CheckFault fault (walk_item edition how a (map raw_def_tree (take k (functions_in items))) w (raw_item_tree x))) (sym (functions_are items))
    (subst (λ ds. CheckFault fault (walk_item edition how (map raw_def_tree ds) (map raw_def_tree (take k ds)) w (raw_item_tree x))) c.requires
    c.in-Err.ensures) in
    subst (λ e. CheckFault e whole) (sym c.without.ensures)
    (item_fails edition how all items l.item-index x w k whole within c.item-item.is l.invariant.0 l.invariant.1 fault told)

pub loop-item-preserved : goal.loop-item-preserved
loop-item-preserved c =
    let l = c.loop-item in
    let items = c.args.items.now in
    let x = c.item-item.result in
    let edition = c.args.setting.now.edition in
    let how = c.args.setting.now.how in
    let all = functions_of (map raw_item_tree items) in
    let w = walked_of l.walked in
    let v = walked_of c.add_item.new.walked in
    let k = length l.walked.defs.items in
    let whole = walk_items edition how all [] [] [] 1 (map raw_item_tree items) in
    let within : l.item-index < length items = omega (arith, c.loop-item-test.true) in
    let told : walk_item edition how all (map raw_def_tree (take k (functions_in items))) w (raw_item_tree x) ≡ Ok v =
    subst (λ a. walk_item edition how a (map raw_def_tree (take k (functions_in items))) w (raw_item_tree x) ≡ Ok v) (sym (functions_are items))
    (subst (λ ds. walk_item edition how (map raw_def_tree ds) (map raw_def_tree (take k ds)) w (raw_item_tree x) ≡ Ok v) c.requires c.in-Ok.ensures) in (
      sym (length-map c.add_item.new.walked.defs.items def_tree)
          ∙ counted_next edition how all items l.item-index x w k whole within c.item-item.is l.invariant.0 l.invariant.1 v
          (length-map l.walked.defs.items def_tree) told,
      item_goes_on edition how all items l.item-index x w k whole within c.item-item.is l.invariant.0 l.invariant.1 v told,
    )
