use Rattle.std.proofs.Common.{rules, ◌≡◌}
use Rattle.cf_emit.specs.Printed.{target_text}
use Rattle.cf_emit.proofs.Targets.{reads_back_as}
use Rattle.cf_emit.proofs.printing.print.Goals as goal

pub returns-clause-reads_back : goal.returns-clause-reads_back
returns-clause-reads_back c h =
    let is : c.put_target.new.out.items ≡ target_text c.args.edition c.args.target.now = search rules in
    reads_back_as c.args.edition c.args.target.now c.put_target.new.out.items is h
