use Rattle.cf_range.proofs.NumberLemmas.{sum_lies, difference_lies, product_lies, sum_fits, difference_fits, product_fits}
use Rattle.cf_range.proofs.ranges_add.Goals as goal

pub returns : goal.returns
returns c = record {
  sum_lies = sum_lies;
  difference_lies = difference_lies;
  product_lies = product_lies;
  sum_fits = sum_fits;
  difference_fits = difference_fits;
  product_fits = product_fits;
}
