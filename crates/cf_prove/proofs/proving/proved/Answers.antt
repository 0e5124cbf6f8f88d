use Rattle.std.proofs.Common.{map, subst}
use Rattle.std.proofs.lemmas.Result.{IfOk-weaker}
use Rattle.cf_tree.specs.ChooseView.{choose_tree}
use Rattle.cf_prove.specs.Acting.{AreTracesOf}
use Rattle.cf_prove.proofs.ProveLaws.{unrefused, firsts_are, is_proved}
use Rattle.cf_prove.proofs.proving.proved.Goals as goal

pub returns : goal.returns
returns c =
    let s = c.args.solved in
    let q = choose_tree c.args.choose.now in
    let n = c.of_32_bits-number.ensures in
    let text = rw (c.deref.ensures.value, c.deref-2.ensures.value, n.0) at c.print_block.ensures.text in
    let traces = subst (λ ms. AreTracesOf ms (map (λ v. v.items) c.in_ok-cases.cases.items)) (firsts_are q s c.requires.solved _ c.cases.ensures.value)
    c.in_ok-cases.ensures in
    IfOk-weaker c.print_block.result _ _
    (λ v e. is_proved q c.args.head.now.truths c.in_ok-cases.cases c.in_ok-target.target v.items (unrefused q s c.requires.solved) n.1 traces
    c.in_ok-target.ensures e) text
