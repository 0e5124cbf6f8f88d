use Rattle.std.proofs.Common.{ap, ◌≡◌, ◌≢◌, ◌<◌, sym, ◌∙◌, length, arith, get_or, pos}
use Rattle.cf_linear.proofs.MapLemmas.{back}
use Rattle.cf_linear.proofs.Joining.{AreBelow-take}
use Rattle.cf_linear.proofs.SubstituteLemmas.{AreBelow-without, without_kept, without_gone}
use Rattle.cf_linear.proofs.row.Row.without.Goals as goal
use Rattle.cf_linear.proofs.row.Row.without.Goals.{then-d-column+in_ok-append, else-d-column}

pub append-requires-clause-after : goal.append-requires-clause-after
append-requires-clause-after c =
    let h : c.loop-i.i < length c.args.self.now = omega (arith, c.len-i-end.ensures.len) in
    rw (ap (λ x. x.0) c.at-d.ensures.value, c.loop-i.invariant)
    (AreBelow-without _ c.args.column _ (AreBelow-take c.args.self.now 0 c.loop-i.i c.len-i-end.ensures.is_row.0 h))

pub loop-i-preserved : goal.loop-i-preserved
loop-i-preserved c =
    let h : c.loop-i.i < length c.args.self.now = omega (arith, c.len-i-end.ensures.len) in
    let p = c.len-i-end.ensures.is_row.0 in
    elim c.if-d-column.branch [
      | then-d-column+in_ok-append w ↦
          let n : (get_or c.args.self.now c.loop-i.i (0, pos 0)).0 ≢ c.args.column = λ q. w.if-d-column.true (ap (λ x. x.0) c.at-d.ensures.value ∙ q) in
          let e = rw (back c.at-d.result.1 c.at-d.ensures.fits, c.loop-i.invariant, ap (λ x. x.0) c.at-d.ensures.value, ap (λ x. x.1) c.at-d.ensures.value) at
          w.in_ok-append.ensures.value in
          w.out-is ∙ e ∙ sym (without_kept c.args.self.now c.args.column c.loop-i.i p h n)
      | else-d-column w ↦
          let n : (get_or c.args.self.now c.loop-i.i (0, pos 0)).0 ≡ c.args.column = sym (ap (λ x. x.0) c.at-d.ensures.value) ∙ w.if-d-column.false in
          w.out-is ∙ c.loop-i.invariant ∙ sym (without_gone c.args.self.now c.args.column c.loop-i.i p h n)
    ]
