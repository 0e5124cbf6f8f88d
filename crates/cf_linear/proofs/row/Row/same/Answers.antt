use Rattle.std.proofs.Common.{sym, ◌≡◌, ◌∙◌, false}
use Rattle.std.proofs.lemmas.Bool.{ne_eqb}
use Rattle.cf_linear.specs.Rows.{same_row}
use Rattle.cf_linear.proofs.RowTests.{same_row-iff, different_length}
use Rattle.cf_linear.proofs.row.Row.same.Goals as goal

pub returns-then-len-clause-equal : goal.returns-then-len-clause-equal
returns-then-len-clause-equal c = rw c.agrees.ensures (same_row-iff c.args.self.now c.args.other.now)

differs : (c : goal.Else-len) → same_row c.args.self.now c.args.other.now ≡ false
differs c = different_length c.args.self.now c.args.other.now (λ e. c.if-len.false (c.len.ensures.len ∙ e ∙ sym c.len-2.ensures.len))

pub returns-else-len-clause-test : goal.returns-else-len-clause-test
returns-else-len-clause-test c = rw (ne_eqb c.len.result c.len-2.result c.if-len.false) (sym (differs c))

pub returns-else-len-clause-equal : goal.returns-else-len-clause-equal
returns-else-len-clause-equal c = rw (ne_eqb c.len.result c.len-2.result c.if-len.false) (rw (differs c) at (same_row-iff c.args.self.now c.args.other.now))
