use Rattle.std.proofs.Common.{rules, arith, ◌≡◌, ◌<◌, ◌≤◌, ◌+◌, ◌∙◌, ◌++◌, [], suc, cond, length, take, drop, get_or, drop_of_length-le, sym, ap}
use Rattle.std.proofs.Math.ListN.{set}
use Rattle.cf_tree.specs.CodeView.{item_tree, item_trees}
use Rattle.cf_pass.specs.Lets.{all_moved, item_moved}
use Rattle.cf_pass.specs.LetSteps.{lowered, item_stays, item_gone, item_dropped, item_rest, left}
use Rattle.cf_pass.proofs.LetItems.{join, join_end, rest_of, settle_step}
use Rattle.cf_pass.proofs.falls.settle_items.Goals as goal

pub loop-i-preserved : goal.loop-i-preserved
loop-i-preserved c =
    let inside : c.loop-i.i < length c.loop-i.items.items = search rules in
    let next : suc c.loop-i.i ≡ c.loop-i.i + 1 = omega arith in
    let stays : c.settle_item-stays.result ≡ item_stays (drop (length c.loop-i.fall.gone.items) c.args.stay.now)
    (item_tree (get_or c.loop-i.items.items c.loop-i.i c.index_mut.result.now)) = search rules in
    let item : item_tree c.settle_item-stays.new.item ≡ item_moved (lowered c.loop-i.fall.first c.loop-i.fall.gone.items c.loop-i.fall.dropped)
    (item_tree (get_or c.loop-i.items.items c.loop-i.i c.index_mut.result.now)) = search rules in
    let gone : c.settle_item-stays.new.fall.gone.items ≡ item_gone (drop (length c.loop-i.fall.gone.items) c.args.stay.now)
    (item_tree (get_or c.loop-i.items.items c.loop-i.i c.index_mut.result.now)) c.loop-i.fall.gone.items c.loop-i.fall.dropped = search rules in
    let dropped : c.settle_item-stays.new.fall.dropped ≡ item_dropped (drop (length c.loop-i.fall.gone.items) c.args.stay.now)
    (item_tree (get_or c.loop-i.items.items c.loop-i.i c.index_mut.result.now)) c.loop-i.fall.dropped = search rules in
    let rest : drop (length c.settle_item-stays.new.fall.gone.items) c.args.stay.now ≡ item_rest (drop (length c.loop-i.fall.gone.items) c.args.stay.now)
    (item_tree (get_or c.loop-i.items.items c.loop-i.i c.index_mut.result.now)) = search rules in
    let front : take c.keep_at-kept.result c.keep_at-kept.new.items.items ≡
    take c.loop-i.kept (set c.loop-i.items.items c.loop-i.i c.settle_item-stays.new.item)
    ++ cond c.settle_item-stays.result (take 1 (drop c.loop-i.i (set c.loop-i.items.items c.loop-i.i c.settle_item-stays.new.item))) [] = search rules in
    let back : drop (suc c.loop-i.i) c.keep_at-kept.new.items.items ≡
    drop (suc c.loop-i.i) (set c.loop-i.items.items c.loop-i.i c.settle_item-stays.new.item) = search rules in
    record {
      room = search rules;
      few = search rules;
      first = search rules;
      kept = search rules;
      inside = search rules;
      left = λ gs.
          ap (λ k. join (item_trees (take c.keep_at-kept.result c.keep_at-kept.new.items.items))
          (left c.settle_item-stays.new.fall.first c.settle_item-stays.new.fall.gone.items c.settle_item-stays.new.fall.dropped
          (drop (length c.settle_item-stays.new.fall.gone.items) c.args.stay.now) (item_trees (drop k c.keep_at-kept.new.items.items)) gs)) (sym next)
          ∙ ap (λ x. join (item_trees (take c.keep_at-kept.result c.keep_at-kept.new.items.items))
          (left x c.settle_item-stays.new.fall.gone.items c.settle_item-stays.new.fall.dropped
          (drop (length c.settle_item-stays.new.fall.gone.items) c.args.stay.now) (item_trees (drop (suc c.loop-i.i) c.keep_at-kept.new.items.items)) gs))
          c.settle_item-stays.ensures.first
          ∙ settle_step gs c.loop-i.items.items c.keep_at-kept.new.items.items c.loop-i.i c.loop-i.kept c.keep_at-kept.result c.index_mut.result.now
          c.settle_item-stays.new.item c.settle_item-stays.result c.loop-i.fall.first c.loop-i.fall.gone.items c.settle_item-stays.new.fall.gone.items
          c.loop-i.fall.dropped c.settle_item-stays.new.fall.dropped c.args.stay.now inside c.loop-i.invariant.kept stays item gone dropped rest front back
          ∙ c.loop-i.invariant.left gs;
    }

pub returns-clause-left : goal.returns-clause-left
returns-clause-left c = λ gs.
    let past : length c.loop-i.items.items ≤ c.loop-i.i = search rules in
    let none : drop c.loop-i.i c.loop-i.items.items ≡ [] = drop_of_length-le c.loop-i.items.items {i = c.loop-i.i} past in
    let f = lowered c.loop-i.fall.first c.loop-i.fall.gone.items c.loop-i.fall.dropped in
    let cut : c.truncate.new.self.items ≡ take c.loop-i.kept c.loop-i.items.items = search rules in
    sym (c.loop-i.invariant.left gs)
    ∙ ap (λ ys. join (item_trees (take c.loop-i.kept c.loop-i.items.items)) (left c.loop-i.fall.first c.loop-i.fall.gone.items c.loop-i.fall.dropped
    (drop (length c.loop-i.fall.gone.items) c.args.stay.now) (item_trees ys) gs)) none
    ∙ join_end (item_trees (take c.loop-i.kept c.loop-i.items.items)) (all_moved f gs)
    ∙ ap (λ ys. rest_of (item_trees ys) (all_moved f gs)) (sym cut)
