use Rattle.std.proofs.Common.{◌≡◌, Some}
use Rattle.cf_tree.specs.CodeView.{code_tree}
use Rattle.cf_typing.specs.declared.fault.TargetFault.TheVariants.{BadTarget}
use Rattle.cf_typing.specs.Bases.{bases_of}
use Rattle.cf_typing.proofs.BasesLaws.{found}
use Rattle.cf_typing.proofs.Failures.{refused}
use Rattle.cf_typing.proofs.OnlyLaws.{only}
use Rattle.cf_typing.proofs.target.check_target.Goals as goal

pub new-requires : goal.new-requires
new-requires c =
    let r = c.args.raw in found (code_tree r.code) r.params.items (Some r.results.items) r.results.items c.in-Ok.ensures

pub returns-in-Err-clause-bad : goal.returns-in-Err-clause-bad
returns-in-Err-clause-bad c =
    let r = c.args.raw in
    λ e w.
    let same : c.in-Err.fault ≡ BadTarget = cc (e, c.without.ensures) in
    refused c.in-Err.fault (bases_of (code_tree r.code) r.params.items (Some r.results.items)) r.results.items c.in-Err.ensures same
    (only (code_tree r.code) r.params.items (Some r.results.items) r.results.items w)
