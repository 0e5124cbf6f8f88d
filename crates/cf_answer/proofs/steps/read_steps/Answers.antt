use Rattle.std.proofs.Common.{refl, inl}
use Rattle.cf_steps.specs.Blocks.{block_trees}
use Rattle.cf_answer.specs.Refusals.{no_tree}
use Rattle.cf_answer.specs.declared.fault.StepsFault.TheVariants as steps_fault
use Rattle.cf_answer.proofs.BlockLemmas.{few_steps, spelled_within}
use Rattle.cf_answer.proofs.steps.read_steps.Goals as goal

pub returns-in-Ok : goal.returns-in-Ok
returns-in-Ok c =
    let list = c.in_ok-list.list in
    let tokens = c.in_ok-list.ensures.tokens c.args.edition c.requires.short in record {
      spelled = (list.list.items, list.end, tokens, c.in-Ok.ensures.found);
      within = spelled_within c.in-Ok.found.list.items (c.in-Ok.ensures.spelled c.in_ok-list.ensures.within);
      few = few_steps c.args.edition (block_trees c.in-Ok.found) c.args.text.now list c.in-Ok.ensures.few tokens;
    }

pub returns-in-Err-Syntax : goal.returns-in-Err-Syntax
returns-in-Err-Syntax c =
    let is = c.in-Err-Syntax.field-0-is in
    let list = c.in_ok-list.list in
    inl (
      steps_fault.Syntax c.in-Err-Syntax.place,
      refl,
      no_tree list.list.items list.end c.in-Err-Syntax.place (c.in_ok-list.ensures.tokens c.args.edition c.requires.short)
          (rw is at c.in-Err-Syntax.ensures.only)
          (record { dead = rw is at c.in-Err-Syntax.ensures.place; exact = rw is at c.in-Err-Syntax.ensures.exact }),
    )
