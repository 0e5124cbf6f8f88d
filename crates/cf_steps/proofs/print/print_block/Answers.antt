use Rattle.std.proofs.Common.{map, rules}
use Rattle.cf_steps.proofs.Printing.{block_reads_back}
use Rattle.cf_steps.proofs.print.print_block.Goals as goal

pub returns-clause-reads_back : goal.returns-clause-reads_back
returns-clause-reads_back c edition head spelled has =
    block_reads_back edition c.args.number c.args.truths.now (map (λ acts. acts.items) c.args.cases.now) c.args.target.now _ (search rules) (search (rules, c.ranges.number)) head spelled has
