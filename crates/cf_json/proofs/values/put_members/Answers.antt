use Rattle.std.proofs.Common.{arith, ap, ◌∙◌, ◌++◌}
use Rattle.cf_eval.specs.Seen.{plain}
use Rattle.cf_json.specs.Texts.{member, name_at, value_json}
use Rattle.cf_json.proofs.ListLemmas.{member_more}
use Rattle.cf_json.proofs.values.put_members.Goals as goal

pub loop-i-preserved : goal.loop-i-preserved
loop-i-preserved c =
    member_more c.args.names.now c.args.values.now c.loop-i.i c.index-values-i.result c.args.out.now.items c.loop-i.out.items c.put_gap.new.out.items
    c.put_member.new.out.items
    (omega arith)
    c.loop-i.invariant c.in_ok-put_gap.ensures
    (c.in_ok-put_member.ensures ∙ ap (λ v. c.put_gap.new.out.items ++ member (name_at c.args.names.now c.loop-i.i) (value_json (plain v))) c.index-values-i.is)
