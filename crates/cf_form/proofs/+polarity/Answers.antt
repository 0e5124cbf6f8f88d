use Rattle.std.proofs.Common.{rules, ◌≡◌, inl, inr, true, map, sym, ap, ap₂, ◌∙◌, arith}
use Rattle.std.proofs.lemmas.Grind.{common_steps}
use Rattle.cf_tree.specs.RelTree.{rel_compare, rel_divides}
use Rattle.cf_form.specs.declared.wide.WideRel.{Compare, SameSet, OtherSet, Subset, Divides, the_lemmas}
use Rattle.cf_form.specs.Alternatives.{over_one, over_two, some_atom}
use Rattle.cf_form.specs.Atoms.{atoms, rel_over_sets}
use Rattle.cf_form.specs.Branches.{values_in}
use Rattle.cf_form.specs.GuardedView.{guarded_set, guarded_term}
use Rattle.cf_form.specs.Joined.{signed_of}
use Rattle.cf_form.specs.Polarity.{alternatives, set_alternatives}
use Rattle.cf_form.specs.ToldView.{truth_at}
use Rattle.cf_form.specs.Wide.{wide_compare, wide_same_set, wide_other_set, wide_subset, wide_divides}
use Rattle.cf_form.specs.WideView.{wide_term, wide_set_of, wide_rel}
use Rattle.cf_form.proofs.AlternativeSteps.{all_pushed, is_atom, holding_atom, failing_atom, same_atoms, other_atoms, subset_atoms}
use Rattle.cf_form.proofs.+polarity.Goals as goal

pub alternatives::all_alternatives-loop-term-preserved : goal.alternatives::all_alternatives-loop-term-preserved
alternatives::all_alternatives-loop-term-preserved t c =
    all_pushed _ c.args.terms.now c.loop-term.term-index _ c.loop-term.all.items c.push.new.self.items c.in_ok-alternatives.field-0
    (omega (arith, c.loop-term-test.true)) c.term-item.is c.in_ok-push.ensures.items c.in_ok-alternatives.ensures c.loop-term.invariant

pub polarity::atom-returns-in_ok-some_compared-in-Ok : goal.polarity::atom-returns-in_ok-some_compared-in-Ok
polarity::atom-returns-in_ok-some_compared-in-Ok t c =
    let truths = values_in (map truth_at c.args.truths.now) in
    let compare = rel_compare c.in-Compare.order in
    let xs : map guarded_term c.deref-in-Ok.result.now ≡ alternatives truths (wide_term c.in-Compare.left.value) =
    first_of (search rules, grind (arith, common_steps)) in
    let ys : map guarded_term c.deref-in-Ok-2.result.now ≡ alternatives truths (wide_term c.in-Compare.right.value) =
    first_of (search rules, grind (arith, common_steps)) in
    let opened : wide_rel (Compare c.in-Compare.order c.in-Compare.left c.in-Compare.right) ≡
    wide_compare c.in-Compare.order (wide_term c.in-Compare.left.value) (wide_term c.in-Compare.right.value) = search (rules, the_lemmas) in
    c.in_ok-some_compared-in-Ok.ensures ∙ ap (some_atom (signed_of c.args.sign))
    (ap₂ (over_two compare) xs ys ∙ sym (ap (atoms truths) (ap wide_rel c.in-Compare.is ∙ opened)))

pub polarity::atom-returns-in_ok-some_related-in-Ok-set_alternatives : goal.polarity::atom-returns-in_ok-some_related-in-Ok-set_alternatives
polarity::atom-returns-in_ok-some_related-in-Ok-set_alternatives t c =
    let truths = values_in (map truth_at c.args.truths.now) in
    let r = wide_rel c.args.rel.now in
    let a = wide_set_of c.in-SameSet.a.value in
    let b = wide_set_of c.in-SameSet.b.value in
    let xs : map guarded_set c.deref-in-Ok-set_alternatives.result.now ≡ set_alternatives truths (wide_set_of c.in-SameSet.a.value) =
    first_of (search rules, grind (arith, common_steps)) in
    let ys : map guarded_set c.deref-in-Ok-set_alternatives-2.result.now ≡ set_alternatives truths (wide_set_of c.in-SameSet.b.value) =
    first_of (search rules, grind (arith, common_steps)) in
    let same : wide_rel (SameSet c.in-SameSet.a c.in-SameSet.b) ≡ wide_same_set (wide_set_of c.in-SameSet.a.value) (wide_set_of c.in-SameSet.b.value) =
    search (rules, the_lemmas) in
    let other : wide_rel (OtherSet c.in-SameSet.a c.in-SameSet.b) ≡ wide_other_set (wide_set_of c.in-SameSet.a.value) (wide_set_of c.in-SameSet.b.value) =
    search (rules, the_lemmas) in
    let subset : wide_rel (Subset c.in-SameSet.a c.in-SameSet.b) ≡
    wide_subset (wide_set_of c.in-SameSet.a.value) (wide_set_of c.in-SameSet.b.value) =
    search (rules, the_lemmas) in
    let is : atoms truths (wide_rel c.args.rel.now) ≡
    over_two (rel_over_sets (wide_rel c.args.rel.now)) (set_alternatives truths (wide_set_of c.in-SameSet.a.value))
    (set_alternatives truths (wide_set_of c.in-SameSet.b.value)) =
    elim c.in-SameSet.is [
      | inl e ↦ same_atoms truths r a b (ap wide_rel e ∙ same)
      | inr more ↦ elim more [
        | inl e ↦ other_atoms truths r a b (ap wide_rel e ∙ other)
        | inr e ↦ subset_atoms truths r a b (ap wide_rel e ∙ subset)
      ]
    ] in
    c.in_ok-some_related-in-Ok-set_alternatives.ensures ∙ ap (some_atom (signed_of c.args.sign)) (ap₂ (over_two (rel_over_sets r)) xs ys ∙ sym is)

pub polarity::atom-returns-in_ok-some_divided-in-Divides : goal.polarity::atom-returns-in_ok-some_divided-in-Divides
polarity::atom-returns-in_ok-some_divided-in-Divides t c =
    let truths = values_in (map truth_at c.args.truths.now) in
    let divides = rel_divides c.in-Divides.k in
    let xs : map guarded_term c.in_ok-xs-in-Divides.xs.items ≡ alternatives truths (wide_term c.in-Divides.of.value) =
    first_of (search rules, grind (arith, common_steps)) in
    let opened : wide_rel (Divides c.in-Divides.k c.in-Divides.of) ≡
    wide_divides c.in-Divides.k (wide_term c.in-Divides.of.value) = search (rules, the_lemmas) in
    c.in_ok-some_divided-in-Divides.ensures ∙ ap (some_atom (signed_of c.args.sign))
    (ap (over_one divides) xs ∙ sym (ap (atoms truths) (ap wide_rel c.in-Divides.is ∙ opened)))

pub polarity::holding-returns-in_ok-atom-in-Compare : goal.polarity::holding-returns-in_ok-atom-in-Compare
polarity::holding-returns-in_ok-atom-in-Compare t c =
    let one : is_atom (wide_rel c.args.rel.now) ≡ true = first_of (search (rules, the_lemmas), grind (arith, common_steps, the_lemmas)) in
    c.in_ok-atom-in-Compare.ensures ∙ holding_atom _ (wide_rel c.args.rel.now) one

pub polarity::failing-returns-in_ok-atom-in-Compare : goal.polarity::failing-returns-in_ok-atom-in-Compare
polarity::failing-returns-in_ok-atom-in-Compare t c =
    let one : is_atom (wide_rel c.args.rel.now) ≡ true = first_of (search (rules, the_lemmas), grind (arith, common_steps, the_lemmas)) in
    c.in_ok-atom-in-Compare.ensures ∙ failing_atom _ (wide_rel c.args.rel.now) one
