use Rattle.std.proofs.Common.{rules, ◌≡◌, length}
use Rattle.cf_answer.proofs.told_check.are_named.Goals as goal

pub returns-in-Ok : goal.returns-in-Ok
returns-in-Ok c =
    let same : c.in-Ok.end ≡ length c.args.asked.now.scope.now = search rules in
    λ e x l. c.are_named_below.ensures e x (rw same l)
