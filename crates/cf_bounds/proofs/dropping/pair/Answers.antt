use Rattle.cf_linear.proofs.MapLemmas.{back}
use Rattle.cf_bounds.proofs.dropping.pair.Goals as goal

pub returns-clause-value : goal.returns-clause-value
returns-clause-value c =
    let k = back c.entry.result c.entry.ensures.fits in
    let a = rw (k, c.entry.ensures.value) at c.neg.ensures.value in
    rw (
      back c.neg.result c.neg.ensures.fits,
      a,
      back c.entry-2.result c.entry-2.ensures.fits,
      c.entry-2.ensures.value,
      c.in_ok-l.ensures,
      c.in_ok-m.ensures,
    ) at c.combine.ensures.value

pub returns-clause-fits : goal.returns-clause-fits
returns-clause-fits c =
    let k = back c.entry.result c.entry.ensures.fits in
    let a = rw (k, c.entry.ensures.value) at c.neg.ensures.value in
    rw (
      back c.neg.result c.neg.ensures.fits,
      a,
      back c.entry-2.result c.entry-2.ensures.fits,
      c.entry-2.ensures.value,
      c.in_ok-l.ensures,
      c.in_ok-m.ensures,
    ) at c.combine.ensures.fits

pub returns-clause-past : goal.returns-clause-past
returns-clause-past c e =
    let k = back c.entry.result c.entry.ensures.fits in
    let a = rw (k, c.entry.ensures.value) at c.neg.ensures.value in
    rw (
      back c.neg.result c.neg.ensures.fits,
      a,
      back c.entry-2.result c.entry-2.ensures.fits,
      c.entry-2.ensures.value,
      c.in_ok-l.ensures,
      c.in_ok-m.ensures,
    ) at (c.combine.ensures.past e)
