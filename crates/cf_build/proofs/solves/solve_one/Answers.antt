use Rattle.std.proofs.Common.{◌≡◌, Some, refl}
use Rattle.cf_tree.specs.ChooseView.{choose_tree}
use Rattle.cf_build.specs.Chooses.{limit_of}
use Rattle.cf_build.proofs.SolveLists.{refused_alone}
use Rattle.cf_build.proofs.solves.solve_one.Goals as goal

pub returns-in-Ok-clause-solved : goal.returns-in-Ok-clause-solved
returns-in-Ok-clause-solved c = record {
  choose = refl;
  fits = c.of_32_bits-number.ensures.1;
  typed = c.requires;
  solved = rw (c.deref.ensures.value, c.in_ok-scope.ensures) at c.in-Ok.ensures;
}

pub returns-in-Err-Refused-clause-refused : goal.returns-in-Err-Refused-clause-refused
returns-in-Err-Refused-clause-refused c =
    let refused : limit_of (choose_tree c.args.choose.now) ≡ Some c.in-Err-Refused.refusal =
    rw (c.in-Err-Refused.field-0-is, c.deref.ensures.value, c.in_ok-scope.ensures) at c.in-Err-Refused.ensures in
    rw c.of_32_bits-number.ensures.0 (refused_alone (choose_tree c.args.choose.now) c.in-Err-Refused.refusal refused)
