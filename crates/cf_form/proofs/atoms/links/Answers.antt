use Rattle.std.proofs.Common.{rules, ◌≡◌, ◌∷◌, map}
use Rattle.cf_tree.specs.RelTree.{rel_compare}
use Rattle.cf_tree.specs.RelView.{rel_tree}
use Rattle.cf_form.specs.Alternatives.{over_two, some_atom}
use Rattle.cf_form.specs.GuardedView.{guarded_term}
use Rattle.cf_form.specs.Joined.{signed_of}
use Rattle.cf_form.proofs.AlternativeSteps.{link_next}
use Rattle.cf_form.proofs.atoms.links.Goals as goal

pub loop-order-preserved : goal.loop-order-preserved
loop-order-preserved c =
    let left = c.in-Some-split_first.left.now in
    let right = c.in-Some-split_first-2.right.now in
    let orders : c.loop-order.orders.now ≡ c.in-Some.order.now ∷ c.in-Some.more.now = search rules in
    let parts : c.loop-order.parts.now ≡ c.in-Some-split_first.left.now ∷ c.in-Some-split_first.rest.now = search rules in
    let rest : c.in-Some-split_first.rest.now ≡ c.in-Some-split_first-2.right.now ∷ c.in-Some-split_first-2.field-0-1.now = search rules in
    let is : rel_tree c.into_inner.result ≡
    some_atom (signed_of c.args.sign) (over_two (rel_compare c.in-Some.order.now) (map guarded_term left.items) (map guarded_term right.items)) = search rules in
    link_next (signed_of c.args.sign) c.in-Some.order.now c.loop-order.orders.now c.in-Some.more.now left right c.loop-order.parts.now
    c.in-Some-split_first.rest.now c.in-Some-split_first-2.field-0-1.now c.loop-order.all.items c.push.new.self.items c.into_inner.result _
    orders parts rest is c.in_ok-push-in-Some-split_first-2.ensures.items c.loop-order.invariant
