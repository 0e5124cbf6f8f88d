use Rattle.std.proofs.Common.{◌≡◌, ◌+ℤ◌, pos, get_or, rules, arith, ap, ◌∙◌, drop, ◌+◌}
use Rattle.cf_program.specs.Walk.{sum_with}
use Rattle.cf_type.specs.Sums.{sum_of}
use Rattle.cf_type.proofs.SumLemmas.{sum_next}
use Rattle.cf_type.proofs.sums.total.Goals as goal

pub loop-k-preserved : goal.loop-k-preserved
loop-k-preserved c =
    let l = c.loop-k in
    let next : sum_of c.plus-sum.result ≡ sum_of l.sum +ℤ get_or c.args.more.now l.k-index (pos 0) = search rules in (
      ap (λ k. sum_with k (drop (l.k-index + 1) c.args.more.now)) next
          ∙ sum_next (sum_of l.sum) (pos 0) _ c.args.more.now l.k-index (omega (arith, c.loop-k-test.true)) l.invariant.0,
      omega (arith, c.plus-sum.ensures.near, l.invariant.1),
    )
