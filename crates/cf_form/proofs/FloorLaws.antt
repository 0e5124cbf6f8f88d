-- What forms weigh at least, by what their parts do.
use Rattle.std.proofs.Common.{◌≡◌, ℕ, ◌+◌, ◌≤◌, ◌*◌, ℤ, Bool, true, false, ◌&&◌, None, Some, Option, refl, ap, ap₂, arith}
use Rattle.cf_tree.specs.RelSize.{rel_size}
use Rattle.cf_tree.specs.RelTree.{term_lit, term_var, term_neg, term_add, term_sub, term_mul, term_div, term_mod, term_abs, RelTree, rel_and, rel_or}
use Rattle.cf_tree.specs.declared.base.Order.{Order}
use Rattle.cf_form.specs.Alternatives.{term_count, over_one, over_two}
use Rattle.cf_form.specs.Floor.{HasNumber, HasTruth}
use Rattle.cf_form.specs.Passed.{term_passed, passed, earlier}
use Rattle.cf_form.specs.Polarity.{holding, failing, not_or, truth_holds, truth_fails}
use Rattle.cf_form.specs.Wide.{WideTerm, wide_lit, wide_var, wide_neg, wide_add, wide_sub, wide_mul, wide_div, wide_mod, wide_abs, WideRel, wide_true, wide_false, wide_truth, wide_compare, wide_divides, wide_not, wide_and, wide_or, wide_implies, wide_same, wide_other, wide_if_truth, is_plain}

-- ---- number forms
pub lit_floor : (k : ℤ) → HasNumber 1 (wide_lit k)
lit_floor k = record { count = refl; narrow = refl; single = λ truths. (term_lit k, refl, omega arith) }

pub var_floor : (x : ℕ) → HasNumber 1 (wide_var x)
var_floor x = record { count = refl; narrow = refl; single = λ truths. (term_var x, refl, omega arith) }

module _ (w : ℕ) (t : WideTerm) (h : HasNumber w t) where
  pub neg_floor : HasNumber w (wide_neg t)
  neg_floor = record {
    count = h.count;
    narrow = h.narrow;
    single = λ truths. let a = h.single truths in (term_neg a.0, ap (over_one term_neg) a.1, omega (arith, a.2));
  }

  pub abs_floor : HasNumber w (wide_abs t)
  abs_floor = record {
    count = h.count;
    narrow = h.narrow;
    single = λ truths. let a = h.single truths in (term_abs a.0, ap (over_one term_abs) a.1, omega (arith, a.2));
  }

  pub div_floor : (k : ℤ) → HasNumber w (wide_div t k)
  div_floor k = record {
    count = h.count;
    narrow = h.narrow;
    single = λ truths. let a = h.single truths in (term_div a.0 k, ap (over_one (λ x. term_div x k)) a.1, omega (arith, a.2));
  }

  pub mod_floor : (k : ℤ) → HasNumber w (wide_mod t k)
  mod_floor k = record {
    count = h.count;
    narrow = h.narrow;
    single = λ truths. let a = h.single truths in (term_mod a.0 k, ap (over_one (λ x. term_mod x k)) a.1, omega (arith, a.2));
  }

  pub divides_floor : (k : ℤ) → HasTruth w (wide_divides k t)
  divides_floor k = record {
    narrow = rw (h.count, h.narrow) refl;
    holds = λ truths. let a = h.single truths in rw a.1 (omega (arith, a.2));
    fails = λ truths. let a = h.single truths in rw a.1 (omega (arith, a.2));
  }

module _ (n v w : ℕ) (a b : WideTerm) (l : n ≤ v + w) (h : HasNumber v a) (g : HasNumber w b) where
  counts : term_count a * term_count b ≡ 1
  counts = rw (h.count, g.count) refl

  narrows : earlier (term_passed a) (term_passed b) ≡ None
  narrows = rw (h.narrow, g.narrow) refl

  pub add_floor : HasNumber n (wide_add a b)
  add_floor = record {
    count = counts;
    narrow = narrows;
    single = λ truths. let x = h.single truths in let y = g.single truths in
        (term_add x.0 y.0, ap₂ (over_two term_add) x.1 y.1, omega (arith, l, x.2, y.2));
  }

  pub sub_floor : HasNumber n (wide_sub a b)
  sub_floor = record {
    count = counts;
    narrow = narrows;
    single = λ truths. let x = h.single truths in let y = g.single truths in
        (term_sub x.0 y.0, ap₂ (over_two term_sub) x.1 y.1, omega (arith, l, x.2, y.2));
  }

  pub mul_floor : HasNumber n (wide_mul a b)
  mul_floor = record {
    count = counts;
    narrow = narrows;
    single = λ truths. let x = h.single truths in let y = g.single truths in
        (term_mul x.0 y.0, ap₂ (over_two term_mul) x.1 y.1, omega (arith, l, x.2, y.2));
  }

  pub compare_floor : (o : Order) → HasTruth n (wide_compare o a b)
  compare_floor o = record {
    narrow = rw (h.count, g.count, h.narrow, g.narrow) refl;
    holds = λ truths. let x = h.single truths in let y = g.single truths in rw (x.1, y.1) (omega (arith, l, x.2, y.2));
    fails = λ truths. let x = h.single truths in let y = g.single truths in rw (x.1, y.1) (omega (arith, l, x.2, y.2));
  }

-- ---- relations
pub true_floor : HasTruth 1 wide_true
true_floor = record { narrow = refl; holds = λ truths. omega arith; fails = λ truths. omega arith }

pub false_floor : HasTruth 1 wide_false
false_floor = record { narrow = refl; holds = λ truths. omega arith; fails = λ truths. omega arith }

holds_size : (t : Option Bool) (x : ℕ) → 1 ≤ rel_size (truth_holds t x)
holds_size None x = omega arith
holds_size (Some true) x = omega arith
holds_size (Some false) x = omega arith

fails_size : (t : Option Bool) (x : ℕ) → 1 ≤ rel_size (truth_fails t x)
fails_size None x = omega arith
fails_size (Some true) x = omega arith
fails_size (Some false) x = omega arith

pub truth_floor : (x : ℕ) → HasTruth 1 (wide_truth x)
truth_floor x = record { narrow = refl; holds = λ truths. holds_size (truths x) x; fails = λ truths. fails_size (truths x) x }

either_size : (b : Bool) (n : ℕ) (r s : RelTree) → n ≤ rel_size r → n ≤ rel_size s → n ≤ rel_size (not_or b r s)
either_size true n r s h g = omega (arith, h)
either_size false n r s h g = g

pub not_floor : (w : ℕ) (p : WideRel) → HasTruth w p → HasTruth w (wide_not p)
not_floor w p h = record {
  narrow = h.narrow;
  holds = h.fails;
  fails = λ truths. either_size (is_plain p) w (failing truths p) (holding truths p) (h.fails truths) (h.holds truths);
}

module _ (n v w : ℕ) (p q : WideRel) (l : n ≤ v + w) (h : HasTruth v p) (g : HasTruth w q) where
  both_narrow : earlier (passed p) (passed q) ≡ None
  both_narrow = rw (h.narrow, g.narrow) refl

  pub and_floor : HasTruth n (wide_and p q)
  and_floor = record {
    narrow = both_narrow;
    holds = λ truths. let a = h.holds truths in let b = g.holds truths in omega (arith, l, a, b);
    fails = λ truths.
        let a = h.holds truths in let b = g.holds truths in let c = h.fails truths in let d = g.fails truths in
        let one : n ≤ rel_size (rel_and (holding truths p) (holding truths q)) = omega (arith, l, a, b) in
        let two : n ≤ rel_size (rel_or (failing truths p) (failing truths q)) = omega (arith, l, c, d) in
        either_size (is_plain p && is_plain q) n (rel_and (holding truths p) (holding truths q)) (rel_or (failing truths p) (failing truths q)) one two;
  }

  pub or_floor : HasTruth n (wide_or p q)
  or_floor = record {
    narrow = both_narrow;
    holds = λ truths. let a = h.holds truths in let b = g.holds truths in omega (arith, l, a, b);
    fails = λ truths.
        let a = h.holds truths in let b = g.holds truths in let c = h.fails truths in let d = g.fails truths in
        let one : n ≤ rel_size (rel_or (holding truths p) (holding truths q)) = omega (arith, l, a, b) in
        let two : n ≤ rel_size (rel_and (failing truths p) (failing truths q)) = omega (arith, l, c, d) in
        either_size (is_plain p && is_plain q) n (rel_or (holding truths p) (holding truths q)) (rel_and (failing truths p) (failing truths q)) one two;
  }

  pub implies_floor : HasTruth n (wide_implies p q)
  implies_floor = record {
    narrow = both_narrow;
    holds = λ truths. let a = h.fails truths in let b = g.holds truths in omega (arith, l, a, b);
    fails = λ truths. let a = h.holds truths in let b = g.fails truths in omega (arith, l, a, b);
  }

module _ (n v w : ℕ) (p q : WideRel) (l : n ≤ v + w + v + w) (h : HasTruth v p) (g : HasTruth w q) where
  pub same_floor : HasTruth n (wide_same p q)
  same_floor = record {
    narrow = rw (h.narrow, g.narrow) refl;
    holds = λ truths.
        let a = h.holds truths in let b = g.holds truths in let c = h.fails truths in let d = g.fails truths in omega (arith, l, a, b, c, d);
    fails = λ truths.
        let a = h.holds truths in let b = g.holds truths in let c = h.fails truths in let d = g.fails truths in omega (arith, l, a, b, c, d);
  }

  pub other_floor : HasTruth n (wide_other p q)
  other_floor = record {
    narrow = rw (h.narrow, g.narrow) refl;
    holds = λ truths.
        let a = h.holds truths in let b = g.holds truths in let c = h.fails truths in let d = g.fails truths in omega (arith, l, a, b, c, d);
    fails = λ truths.
        let a = h.holds truths in let b = g.holds truths in let c = h.fails truths in let d = g.fails truths in omega (arith, l, a, b, c, d);
  }

module _ (n u v w : ℕ) (c p q : WideRel) (l : n ≤ u + v + u + w) (k : HasTruth u c) (h : HasTruth v p) (g : HasTruth w q) where
  pub if_floor : HasTruth n (wide_if_truth c p q)
  if_floor = record {
    narrow = rw (k.narrow, h.narrow, g.narrow) refl;
    holds = λ truths.
        let x = k.holds truths in let y = k.fails truths in let a = h.holds truths in let b = g.holds truths in omega (arith, l, x, y, a, b);
    fails = λ truths.
        let x = k.holds truths in let y = k.fails truths in let a = h.fails truths in let b = g.fails truths in omega (arith, l, x, y, a, b);
  }
