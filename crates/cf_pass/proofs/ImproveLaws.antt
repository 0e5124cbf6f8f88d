-- Each form over better parts is better.
use Rattle.cf_pass.specs.Laws.{FormsImprove}
use Rattle.cf_pass.proofs.Arms.{improves_solve, arms_given, arms_better}
use Rattle.cf_pass.proofs.CodeLists.{improves_set_of, improves_tuple, improves_sum, improves_min, improves_max, improves_union, improves_inter}
use Rattle.cf_pass.proofs.Forms.{improves_self, improves_on, improves_neg, improves_not, improves_card, improves_div, improves_mod, improves_divides}
use Rattle.cf_pass.proofs.Forms.{improves_sub, improves_mul, improves_diff, improves_subset, improves_fresh, improves_and, improves_or, improves_compare}
use Rattle.cf_pass.proofs.Forms.{improves_slice, improves_if, improves_let}

pub all_forms_improve : FormsImprove
all_forms_improve = record {
  itself = improves_self;
  again = improves_on;
  over_neg = improves_neg;
  over_not = improves_not;
  over_card = improves_card;
  over_div = λ k n a b h. improves_div n a b h k;
  over_mod = λ k n a b h. improves_mod n a b h k;
  over_divides = λ k n a b h. improves_divides n a b h k;
  over_sub = improves_sub;
  over_mul = improves_mul;
  over_diff = improves_diff;
  over_subset = improves_subset;
  over_fresh = improves_fresh;
  over_and = improves_and;
  over_or = improves_or;
  over_compare = λ o n a c b d h k. improves_compare n a c b d h k o;
  over_slice = improves_slice;
  over_if = improves_if;
  over_let = improves_let;
  over_set_of = improves_set_of;
  over_tuple = improves_tuple;
  over_sum = improves_sum;
  over_min = improves_min;
  over_max = improves_max;
  over_union = improves_union;
  over_inter = improves_inter;
  over_solve = λ n k arms brms h. improves_solve n k arms brms (arms_given n arms brms h) (arms_better n arms brms h);
}
