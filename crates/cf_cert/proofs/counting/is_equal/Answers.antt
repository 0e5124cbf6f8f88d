use Rattle.std.proofs.Common.{sym, ◌∙◌}
use Rattle.cf_linear.proofs.MapLemmas.{back}
use Rattle.cf_cert.proofs.CountLaws.{divided_positive, equal_not, equal_other, equal_both}
use Rattle.cf_cert.proofs.counting.is_equal.Goals as goal

pub returns-then-not-is_divided : goal.returns-then-not-is_divided
returns-then-not-is_divided c = equal_not c.args.unknown.now c.args.row.now c.args.other.now (sym c.is_divided.ensures ∙ c.if-not-is_divided.true)

pub returns-then-not-is_divided-2 : goal.returns-then-not-is_divided-2
returns-then-not-is_divided-2 c = equal_other c.args.unknown.now c.args.row.now c.args.other.now (sym c.is_divided-2.ensures ∙ c.if-not-is_divided-2.true)

pub is_same-requires-clause-g_positive : goal.is_same-requires-clause-g_positive
is_same-requires-clause-g_positive c =
    rw (back c.divisor-g.result c.divisor-g.ensures.fits)
    (divided_positive c.args.unknown.now c.args.row.now c.divisor-g.result c.divisor-g.ensures.value (sym c.is_divided.ensures ∙ c.if-not-is_divided.false))

pub is_same-requires-clause-h_positive : goal.is_same-requires-clause-h_positive
is_same-requires-clause-h_positive c =
    rw (back c.divisor-h.result c.divisor-h.ensures.fits)
    (divided_positive c.args.unknown.now c.args.other.now c.divisor-h.result c.divisor-h.ensures.value
    (sym c.is_divided-2.ensures ∙ c.if-not-is_divided-2.false))

pub returns : goal.returns
returns c =
    equal_both c.args.unknown.now c.args.row.now c.args.other.now c.divisor-g.result c.divisor-h.result c.is_same.result c.divisor-g.ensures.value
    c.divisor-h.ensures.value (sym c.is_divided.ensures ∙ c.if-not-is_divided.false) (sym c.is_divided-2.ensures ∙ c.if-not-is_divided-2.false)
    (rw (back c.divisor-g.result c.divisor-g.ensures.fits, back c.divisor-h.result c.divisor-h.ensures.fits) at c.is_same.ensures)
