-- A form without new forms has one alternative, which is the form.
use Rattle.std.proofs.Common.{◌≡◌, Bool, true, false, refl}
use Rattle.std.specs.Prelude.{◌&&◌}
use Rattle.cf_tree.specs.RelTree.{SetTree, RelTree, rel_same_set, rel_other_set, rel_subset}
use Rattle.cf_form.specs.declared.join.Sign.{Sign}
use Rattle.cf_form.specs.Alternatives.{alone, over_two, some_atom}
use Rattle.cf_form.specs.Atoms.{atoms, plain_set, plain_term, plain_atom}
use Rattle.cf_form.specs.Joined.{signed_of}
use Rattle.cf_form.specs.Polarity.{Truths, alternatives, set_alternatives}
use Rattle.cf_form.specs.Wide.{WideTerm, wide_lit, wide_var, wide_card, wide_neg, wide_add, wide_sub, wide_mul, wide_div, wide_mod, wide_abs, wide_if, wide_min, wide_max, WideSet, wide_empty, wide_set, wide_union, wide_inter, wide_diff, wide_if_set, WideRel, wide_true, wide_false, wide_truth, wide_compare, wide_same_set, wide_other_set, wide_subset, wide_divides, wide_not, wide_and, wide_or, wide_implies, wide_same, wide_other, wide_if_truth, wide_chain, is_plain, is_plain_set, is_plain_term}

pub first_of_both : (a b : Bool) → (a && b) ≡ true → a ≡ true
first_of_both true b e = refl
first_of_both false b e = absurd cc

pub second_of_both : (a b : Bool) → (a && b) ≡ true → b ≡ true
second_of_both true b e = e
second_of_both false b e = absurd cc

module _ (truths : Truths) where
  pub one_set : (s : WideSet) → is_plain_set s ≡ true → set_alternatives truths s ≡ alone (plain_set s)
  one_set wide_empty e = refl
  one_set (wide_set x) e = refl
  one_set (wide_union a b) e =
      rw (one_set a (first_of_both (is_plain_set a) (is_plain_set b) e), one_set b (second_of_both (is_plain_set a) (is_plain_set b) e)) refl
  one_set (wide_inter a b) e =
      rw (one_set a (first_of_both (is_plain_set a) (is_plain_set b) e), one_set b (second_of_both (is_plain_set a) (is_plain_set b) e)) refl
  one_set (wide_diff a b) e =
      rw (one_set a (first_of_both (is_plain_set a) (is_plain_set b) e), one_set b (second_of_both (is_plain_set a) (is_plain_set b) e)) refl
  one_set (wide_if_set c a b) e = absurd cc

  pub one_term : (t : WideTerm) → is_plain_term t ≡ true → alternatives truths t ≡ alone (plain_term t)
  one_term (wide_lit k) e = refl
  one_term (wide_var x) e = refl
  one_term (wide_card s) e = rw (one_set s e) refl
  one_term (wide_neg a) e = rw (one_term a e) refl
  one_term (wide_add a b) e =
      rw (one_term a (first_of_both (is_plain_term a) (is_plain_term b) e), one_term b (second_of_both (is_plain_term a) (is_plain_term b) e)) refl
  one_term (wide_sub a b) e =
      rw (one_term a (first_of_both (is_plain_term a) (is_plain_term b) e), one_term b (second_of_both (is_plain_term a) (is_plain_term b) e)) refl
  one_term (wide_mul a b) e =
      rw (one_term a (first_of_both (is_plain_term a) (is_plain_term b) e), one_term b (second_of_both (is_plain_term a) (is_plain_term b) e)) refl
  one_term (wide_div a k) e = rw (one_term a e) refl
  one_term (wide_mod a k) e = rw (one_term a e) refl
  one_term (wide_abs a) e = rw (one_term a e) refl
  one_term (wide_if c a b) e = absurd cc
  one_term (wide_min ts) e = absurd cc
  one_term (wide_max ts) e = absurd cc

  two_sets : (sign : Sign) (f : SetTree → SetTree → RelTree) (a b : WideSet) → (is_plain_set a && is_plain_set b) ≡ true →
      signed_of sign (f (plain_set a) (plain_set b)) ≡ some_atom (signed_of sign) (over_two f (set_alternatives truths a) (set_alternatives truths b))
  two_sets sign f a b e =
      rw (one_set a (first_of_both (is_plain_set a) (is_plain_set b) e), one_set b (second_of_both (is_plain_set a) (is_plain_set b) e)) refl

  pub one_atom : (sign : Sign) (r : WideRel) → is_plain r ≡ true → plain_atom sign r ≡ some_atom (signed_of sign) (atoms truths r)
  one_atom sign wide_true e = refl
  one_atom sign wide_false e = refl
  one_atom sign (wide_truth x) e = refl
  one_atom sign (wide_compare o a b) e =
      rw (one_term a (first_of_both (is_plain_term a) (is_plain_term b) e), one_term b (second_of_both (is_plain_term a) (is_plain_term b) e)) refl
  one_atom sign (wide_same_set a b) e = two_sets sign rel_same_set a b e
  one_atom sign (wide_other_set a b) e = two_sets sign rel_other_set a b e
  one_atom sign (wide_subset a b) e = two_sets sign rel_subset a b e
  one_atom sign (wide_divides k t) e = rw (one_term t e) refl
  one_atom sign (wide_not p) e = refl
  one_atom sign (wide_and p q) e = refl
  one_atom sign (wide_or p q) e = refl
  one_atom sign (wide_implies p q) e = refl
  one_atom sign (wide_same p q) e = refl
  one_atom sign (wide_other p q) e = refl
  one_atom sign (wide_if_truth c p q) e = refl
  one_atom sign (wide_chain orders ts) e = refl
