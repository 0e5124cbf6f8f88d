use Rattle.std.proofs.Common.{rules, ◌∙◌}
use Rattle.cf_formula.proofs.MemberCode.{one_disjuncts}
use Rattle.cf_formula.proofs.members.disjuncts.Goals as goal

pub returns : goal.returns
returns c = c.in_ok-members.ensures ∙ one_disjuncts c.args.formula c.push.new.self.items (search rules)
