use Rattle.std.proofs.Common.{◌≡◌, Ok, rules}
use Rattle.cf_tree.specs.declared.base.Edition.TheVariants.{Two}
use Rattle.cf_tree.specs.DefView.{program_tree}
use Rattle.cf_program.specs.Checked.{checked}
use Rattle.cf_program.specs.Typed.{typed_tree}
use Rattle.cf_type.proofs.CheckLemmas.{check_keeps, named_is, typed_is}
use Rattle.cf_type.proofs.checking.check_by.Goals as goal

pub returns-in-Ok-None-clause-named : goal.returns-in-Ok-None-clause-named
returns-in-Ok-None-clause-named c =
    let items = program_tree c.args.program.now in
    let kept : checked Two c.args.how items ≡ Ok (typed_tree c.in_ok-typed.typed) =
    check_keeps c.args.how items c.in_ok-typed.typed c.in_ok-typed.ensures (search rules) in
    named_is c.args.how items c.in_ok-typed.typed c.requires kept

pub returns-in-Ok-None-clause-typed : goal.returns-in-Ok-None-clause-typed
returns-in-Ok-None-clause-typed c =
    let items = program_tree c.args.program.now in
    let kept : checked Two c.args.how items ≡ Ok (typed_tree c.in_ok-typed.typed) =
    check_keeps c.args.how items c.in_ok-typed.typed c.in_ok-typed.ensures (search rules) in
    typed_is c.args.how items c.in_ok-typed.typed c.requires kept
