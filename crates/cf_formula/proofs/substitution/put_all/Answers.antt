use Rattle.std.proofs.Common.{◌≡◌, ◌-◌, Err, rules, arith}
use Rattle.cf_formula.proofs.SubstitutionCode.{put_fault}
use Rattle.cf_formula.proofs.substitution.put_all.Goals as goal

pub returns-in_err-put-2 : goal.returns-in_err-put-2
returns-in_err-put-2 c =
    let e : c.from_residual-in_err-put-2.result ≡ Err c.in_err-put-2.field-0.0 = search rules in
    rw e (put_fault c.args.replacements.now (c.loop-i.i - 1) c.loop-i.i c.index-replacements-i.result c.args.row.now c.loop-i.put c.in_err-put-2.field-0.0
    (omega arith) (omega arith) c.index-replacements-i.is c.loop-i.invariant.value c.in_err-put-2.ensures)
