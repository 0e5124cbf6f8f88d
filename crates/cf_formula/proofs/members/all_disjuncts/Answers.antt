use Rattle.std.proofs.Common.{rules}
use Rattle.std.specs.List.{flat_map}
use Rattle.cf_formula.specs.FormulaView.{formula_trees}
use Rattle.cf_formula.specs.Members.{disjuncts}
use Rattle.cf_formula.proofs.MemberCode.{flat_start, flat_step, flat_done}
use Rattle.cf_formula.proofs.members.all_disjuncts.Goals as goal

pub loop-part-init : goal.loop-part-init
loop-part-init c = flat_start disjuncts c.args.parts.items c.reverse.new.self.items c.new-out.result.items c.reverse.ensures.items c.new-out.ensures.items

pub loop-part-preserved : goal.loop-part-preserved
loop-part-preserved c =
    flat_step disjuncts c.loop-part.left.items c.pop.new.self.items c.split_or.new.left.items c.loop-part.out.items c.split_or.new.out.items c.in-Some.part
    (flat_map disjuncts (formula_trees c.args.parts.items)) c.in-Some.ensures.items c.in_ok-split_or.ensures c.loop-part.invariant

pub returns : goal.returns
returns c =
    flat_done disjuncts c.loop-part.left.items c.loop-part.out.items (flat_map disjuncts (formula_trees c.args.parts.items)) (search rules)
    c.loop-part.invariant
