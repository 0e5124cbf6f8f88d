use Rattle.std.proofs.Common.{◌≡◌, map, Some}
use Rattle.cf_form.specs.ToldView.{truth_at}
use Rattle.cf_build.specs.Chooses.{limit_of}
use Rattle.cf_tree.specs.ChooseView.{choose_tree}
use Rattle.cf_build.proofs.SolveLists.{refused_alone}
use Rattle.cf_answer.proofs.BlockLemmas.{proved_adds}
use Rattle.cf_answer.proofs.prove.put_block.Goals as goal

pub prove-requires : goal.prove-requires
prove-requires c = record {
  choose = record { typed = c.requires.typed; linear = c.requires.linear; are_outputs = c.requires.outputs };
  some = c.requires.several;
  numbered = c.requires.positive;
}

pub returns-in-Ok-clause-block : goal.returns-in-Ok-clause-block
returns-in-Ok-clause-block c =
    proved_adds (choose_tree c.args.choose.now, map truth_at c.args.branch.now) c.in_ok-head.head.truths.items c.in-Ok.block.items c.args.text.now.items _
    c.in_ok-head.ensures.is c.in_ok-head.ensures.spelled c.in-Ok.ensures
    (rw c.deref.ensures.value at c.in_ok-extend_from_slice-in-Ok.ensures.items)

pub returns-in-Err-Refused-clause-refused : goal.returns-in-Err-Refused-clause-refused
returns-in-Err-Refused-clause-refused c =
    let refused : limit_of (choose_tree c.args.choose.now) ≡ Some c.in-Err-Refused.refusal =
    rw c.in-Err-Refused.field-0-is at c.in-Err-Refused.ensures in
    refused_alone (choose_tree c.args.choose.now) c.in-Err-Refused.refusal refused
