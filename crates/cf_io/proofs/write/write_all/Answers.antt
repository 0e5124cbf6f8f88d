use Rattle.std.proofs.Common.{arith, take, drop, sym, take-append-drop, rules}
use Rattle.std.proofs.Math.Seq.{take-add}
use Rattle.std.proofs.KnownBytes.{Appends-trans}
use Rattle.cf_io.proofs.FrontLemmas.{range_from, Appends-kept}
use Rattle.cf_io.proofs.write.write_all.Goals as goal

pub returns-in_err-at-clause-prefix : goal.returns-in_err-at-clause-prefix
returns-in_err-at-clause-prefix g c =
    let bytes = c.args.bytes.now in
    let at = c.loop-at.at in
    (take at bytes, drop at bytes, sym (take-append-drop at bytes), Appends-kept _ _ _ _ c.loop-at.invariant.took c.in_err-at.ensures.bytes)

pub loop-at-preserved : goal.loop-at-preserved
loop-at-preserved g c = record {
  within = search rules;
  took = rw take-add (Appends-trans _ _ _ _ _ c.loop-at.invariant.took (rw range_from at c.in_ok-at.ensures.bytes));
  same = search rules;
}
