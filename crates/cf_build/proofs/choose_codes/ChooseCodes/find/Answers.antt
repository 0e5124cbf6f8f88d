use Rattle.std.proofs.Common.{◌-◌, ◌∙◌, Contains, drop, length, map, refl, subst, sym, take}
use Rattle.cf_tree.specs.ChooseView.{choose_tree}
use Rattle.cf_build.proofs.CodeOrder.{codes_from, known_place}
use Rattle.cf_build.proofs.choose_codes.ChooseCodes.find.Goals as goal

pub with_marks-requires-clause-here : goal.with_marks-requires-clause-here
with_marks-requires-clause-here c =
    let codes = c.args.self.now.codes.items in
    let from = c.place-from.result in
    let rest = take (length c.deref.result.now - from) (drop from c.deref.result.now) in
    let known = known_place codes rest from c.args.choose.now.number (choose_tree c.args.choose.now) refl c.place-from.ensures.smaller c.requires
    (codes_from c.deref.result.now codes from c.deref.ensures.value) in
    subst (λ ms. Contains (map (λ k. k.marks.items) rest) ms) (sym (c.deref-2.ensures.value ∙ c.in_ok-marks.ensures)) known.1

pub returns : goal.returns
returns c = c.with_marks.ensures (choose_tree c.args.choose.now) (sym (c.deref-2.ensures.value ∙ c.in_ok-marks.ensures))
