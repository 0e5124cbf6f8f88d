use Rattle.std.proofs.Common.{sym, ◌∙◌}
use Rattle.cf_choose.proofs.NeedLaws.{passed, met}
use Rattle.cf_choose.proofs.needs.needed_after.Goals as goal

pub returns-then-is_need-clause-needed : goal.returns-then-is_need-clause-needed
returns-then-is_need-clause-needed c =
    met c.args.items.now c.args.i c.index-items-i.result c.requires.inside c.index-items-i.is (sym c.is_need.ensures ∙ c.if-is_need.true)

pub returns-else-is_need-clause-needed : goal.returns-else-is_need-clause-needed
returns-else-is_need-clause-needed c =
    passed c.args.items.now c.args.i c.args.count c.index-items-i.result c.requires.inside c.index-items-i.is (sym c.is_need.ensures ∙ c.if-is_need.false)
    c.requires.needed
