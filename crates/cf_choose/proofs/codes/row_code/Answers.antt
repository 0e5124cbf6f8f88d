use Rattle.std.proofs.Common.{◌<◌, ◌≤◌, length, map, arith, ap, ◌∙◌}
use Rattle.std.proofs.lemmas.List.{take_all}
use Rattle.cf_linear.specs.Arm.{entry_code, sum_of}
use Rattle.cf_linear.proofs.MapLemmas.{back}
use Rattle.cf_choose.proofs.BoundLemmas.{entries_more}
use Rattle.cf_choose.proofs.codes.row_code.Goals as goal

pub loop-i-preserved : goal.loop-i-preserved
loop-i-preserved c =
    let h : c.loop-i.i < length c.args.row.now = omega (arith, c.loop-i-test.true, c.len-i-end.ensures.len) in
    let e = rw (back c.at-column.result.1 c.at-column.ensures.fits, ap (λ x. x.0) c.at-column.ensures.value, ap (λ x. x.1) c.at-column.ensures.value) at
    c.in_ok-entry_code.ensures in
    entries_more c.args.names.now c.args.row.now c.loop-i.i c.loop-i.parts.items c.push.new.self.items c.in_ok-entry_code.field-0 h
    c.in_ok-push.ensures.items e c.loop-i.invariant

pub returns-clause-code : goal.returns-clause-code
returns-clause-code c =
    let h : length c.args.row.now ≤ c.loop-i.i = omega (arith, c.loop-i-test.false, c.len-i-end.ensures.len) in
    c.sum_of.ensures ∙ ap sum_of (c.loop-i.invariant ∙ ap (map (entry_code c.args.names.now)) (take_all c.loop-i.i c.args.row.now h))
