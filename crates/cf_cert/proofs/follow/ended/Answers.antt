use Rattle.std.proofs.Common.{refl, sym, ◌∙◌}
use Rattle.cf_cert.proofs.WayLaws.{end_left, end_all}
use Rattle.cf_cert.proofs.follow.ended.Goals as goal

pub returns-then-not-is_over : goal.returns-then-not-is_over
returns-then-not-is_over c = end_left c.args.way c.args.step (sym c.is_over.ensures ∙ c.if-not-is_over.true)

pub returns : goal.returns
returns c =
    let w = c.args.way.whole in
    end_all c.args.way c.args.step (record { bounds = w.bounds; steps = w.steps; back = c.reverse.new.self }) (sym c.is_over.ensures ∙ c.if-not-is_over.false)
    refl refl c.reverse.ensures.items
