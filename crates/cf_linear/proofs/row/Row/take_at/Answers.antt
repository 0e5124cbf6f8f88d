use Rattle.std.proofs.Common.{sym, ◌∙◌, ap, ◌≡◌, get_or, pos, arith}
use Rattle.cf_linear.proofs.MapLemmas.{back}
use Rattle.cf_linear.proofs.MergingLemmas.{taken_here, not_taken, rises_above}
use Rattle.cf_linear.proofs.row.Row.take_at.Goals as goal

pub returns-then-first-column-clause-taken : goal.returns-then-first-column-clause-taken
returns-then-first-column-clause-taken c =
    let h = taken_here c.args.self.now c.args.i c.args.column c.requires.rising (omega (arith, c.len.ensures.len))
    (sym (ap (λ x. x.0) c.at-first.ensures.value) ∙ c.if-first-column.true) in
    rw (back c.at-first.result.1 c.at-first.ensures.fits, ap (λ x. x.1) c.at-first.ensures.value) h

pub returns-else-first-column-clause-taken : goal.returns-else-first-column-clause-taken
returns-else-first-column-clause-taken c =
    let n : (get_or c.args.self.now c.args.i (0, pos 0)).0 ≡ c.args.column → ⊥ = λ e. c.if-first-column.false (ap (λ x. x.0) c.at-first.ensures.value ∙ e) in
    not_taken c.args.self.now c.args.i c.args.column c.requires.i_in
    (rises_above c.args.self.now c.args.i c.args.column c.requires.rising (omega (arith, c.len.ensures.len)) n) (λ _. n)
