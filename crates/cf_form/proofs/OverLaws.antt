-- What follows from facts of the variables of a wide form, of a truth variable where it stands there.
use Rattle.std.specs.Prelude.{ℕ, ◌≡◌, Bool, true, false, ◌||◌}
use Rattle.std.proofs.Common.{refl}
use Rattle.cf_form.specs.Wide.{WideTerm, wide_lit, wide_var, wide_card, wide_neg, wide_add, wide_sub, wide_mul, wide_div, wide_mod, wide_abs, wide_if, wide_min, wide_max, WideTerms, no_wides, wide_more, WideSet, wide_empty, wide_set, wide_union, wide_inter, wide_diff, wide_if_set, WideRel, wide_true, wide_false, wide_truth, wide_compare, wide_same_set, wide_other_set, wide_subset, wide_divides, wide_not, wide_and, wide_or, wide_implies, wide_same, wide_other, wide_if_truth, wide_chain, term_has_truth, some_has_truth, set_has_truth, has_truth}
use Rattle.std.proofs.lemmas.Bool.{eq-eqb}
use Rattle.cf_form.proofs.WideMeaning.{VariableFacts, TermOver, TermsOver, SetOver, RelOver}

or_first : (a b : Bool) → a ≡ true → (a || b) ≡ true
or_first a b e = rw e refl

or_second : (a b : Bool) → b ≡ true → (a || b) ≡ true
or_second true b e = refl
or_second false b e = e

module _ (v w : VariableFacts) (number : (x : ℕ) → v.number x → w.number x) (set : (x : ℕ) → v.set x → w.set x) where
  abbrev Truths : (ℕ → Bool) → Type 0
  Truths stands = (x : ℕ) → stands x ≡ true → v.truth x → w.truth x

  first_of_two : (p q : ℕ → Bool) → Truths (λ x. p x || q x) → Truths p
  first_of_two p q k x e = k x (or_first (p x) (q x) e)

  second_of_two : (p q : ℕ → Bool) → Truths (λ x. p x || q x) → Truths q
  second_of_two p q k x e = k x (or_second (p x) (q x) e)

  mutual
    pub term_over : (t : WideTerm) → Truths (λ x. term_has_truth x t) → TermOver v t → TermOver w t
    term_over (wide_lit k) g h = h
    term_over (wide_var x) g h = number x h
    term_over (wide_card s) g h = set_over s g h
    term_over (wide_neg a) g h = term_over a g h
    term_over (wide_add a b) g h = (
      term_over a (first_of_two (λ x. term_has_truth x a) (λ x. term_has_truth x b) g) h.0,
      term_over b (second_of_two (λ x. term_has_truth x a) (λ x. term_has_truth x b) g) h.1,
    )
    term_over (wide_sub a b) g h = (
      term_over a (first_of_two (λ x. term_has_truth x a) (λ x. term_has_truth x b) g) h.0,
      term_over b (second_of_two (λ x. term_has_truth x a) (λ x. term_has_truth x b) g) h.1,
    )
    term_over (wide_mul a b) g h = (
      term_over a (first_of_two (λ x. term_has_truth x a) (λ x. term_has_truth x b) g) h.0,
      term_over b (second_of_two (λ x. term_has_truth x a) (λ x. term_has_truth x b) g) h.1,
    )
    term_over (wide_div a k) g h = (term_over a g h.0, h.1)
    term_over (wide_mod a k) g h = (term_over a g h.0, h.1)
    term_over (wide_abs a) g h = term_over a g h
    term_over (wide_if c a b) g h =
        let front = first_of_two (λ x. has_truth x c || term_has_truth x a) (λ x. term_has_truth x b) g in (
          rel_over c (first_of_two (λ x. has_truth x c) (λ x. term_has_truth x a) front) h.0,
          term_over a (second_of_two (λ x. has_truth x c) (λ x. term_has_truth x a) front) h.1,
          term_over b (second_of_two (λ x. has_truth x c || term_has_truth x a) (λ x. term_has_truth x b) g) h.2,
        )
    term_over (wide_min ts) g h = (h.0, terms_over ts g h.1)
    term_over (wide_max ts) g h = (h.0, terms_over ts g h.1)

    pub terms_over : (ts : WideTerms) → Truths (λ x. some_has_truth x ts) → TermsOver v ts → TermsOver w ts
    terms_over no_wides g h = tt
    terms_over (wide_more t ts) g h = (
      term_over t (first_of_two (λ x. term_has_truth x t) (λ x. some_has_truth x ts) g) h.0,
      terms_over ts (second_of_two (λ x. term_has_truth x t) (λ x. some_has_truth x ts) g) h.1,
    )

    pub set_over : (s : WideSet) → Truths (λ x. set_has_truth x s) → SetOver v s → SetOver w s
    set_over wide_empty g h = tt
    set_over (wide_set x) g h = set x h
    set_over (wide_union a b) g h = (
      set_over a (first_of_two (λ x. set_has_truth x a) (λ x. set_has_truth x b) g) h.0,
      set_over b (second_of_two (λ x. set_has_truth x a) (λ x. set_has_truth x b) g) h.1,
    )
    set_over (wide_inter a b) g h = (
      set_over a (first_of_two (λ x. set_has_truth x a) (λ x. set_has_truth x b) g) h.0,
      set_over b (second_of_two (λ x. set_has_truth x a) (λ x. set_has_truth x b) g) h.1,
    )
    set_over (wide_diff a b) g h = (
      set_over a (first_of_two (λ x. set_has_truth x a) (λ x. set_has_truth x b) g) h.0,
      set_over b (second_of_two (λ x. set_has_truth x a) (λ x. set_has_truth x b) g) h.1,
    )
    set_over (wide_if_set c a b) g h =
        let front = first_of_two (λ x. has_truth x c || set_has_truth x a) (λ x. set_has_truth x b) g in (
          rel_over c (first_of_two (λ x. has_truth x c) (λ x. set_has_truth x a) front) h.0,
          set_over a (second_of_two (λ x. has_truth x c) (λ x. set_has_truth x a) front) h.1,
          set_over b (second_of_two (λ x. has_truth x c || set_has_truth x a) (λ x. set_has_truth x b) g) h.2,
        )

    pub rel_over : (r : WideRel) → Truths (λ x. has_truth x r) → RelOver v r → RelOver w r
    rel_over wide_true g h = tt
    rel_over wide_false g h = tt
    rel_over (wide_truth y) g h = g y (eq-eqb y y refl) h
    rel_over (wide_compare o a b) g h = (
      term_over a (first_of_two (λ x. term_has_truth x a) (λ x. term_has_truth x b) g) h.0,
      term_over b (second_of_two (λ x. term_has_truth x a) (λ x. term_has_truth x b) g) h.1,
    )
    rel_over (wide_same_set a b) g h = (
      set_over a (first_of_two (λ x. set_has_truth x a) (λ x. set_has_truth x b) g) h.0,
      set_over b (second_of_two (λ x. set_has_truth x a) (λ x. set_has_truth x b) g) h.1,
    )
    rel_over (wide_other_set a b) g h = (
      set_over a (first_of_two (λ x. set_has_truth x a) (λ x. set_has_truth x b) g) h.0,
      set_over b (second_of_two (λ x. set_has_truth x a) (λ x. set_has_truth x b) g) h.1,
    )
    rel_over (wide_subset a b) g h = (
      set_over a (first_of_two (λ x. set_has_truth x a) (λ x. set_has_truth x b) g) h.0,
      set_over b (second_of_two (λ x. set_has_truth x a) (λ x. set_has_truth x b) g) h.1,
    )
    rel_over (wide_divides k t) g h = (h.0, term_over t g h.1)
    rel_over (wide_not p) g h = rel_over p g h
    rel_over (wide_and p q) g h =
        (rel_over p (first_of_two (λ x. has_truth x p) (λ x. has_truth x q) g) h.0, rel_over q (second_of_two (λ x. has_truth x p) (λ x. has_truth x q) g) h.1)
    rel_over (wide_or p q) g h =
        (rel_over p (first_of_two (λ x. has_truth x p) (λ x. has_truth x q) g) h.0, rel_over q (second_of_two (λ x. has_truth x p) (λ x. has_truth x q) g) h.1)
    rel_over (wide_implies p q) g h =
        (rel_over p (first_of_two (λ x. has_truth x p) (λ x. has_truth x q) g) h.0, rel_over q (second_of_two (λ x. has_truth x p) (λ x. has_truth x q) g) h.1)
    rel_over (wide_same p q) g h =
        (rel_over p (first_of_two (λ x. has_truth x p) (λ x. has_truth x q) g) h.0, rel_over q (second_of_two (λ x. has_truth x p) (λ x. has_truth x q) g) h.1)
    rel_over (wide_other p q) g h =
        (rel_over p (first_of_two (λ x. has_truth x p) (λ x. has_truth x q) g) h.0, rel_over q (second_of_two (λ x. has_truth x p) (λ x. has_truth x q) g) h.1)
    rel_over (wide_if_truth c p q) g h =
        let front = first_of_two (λ x. has_truth x c || has_truth x p) (λ x. has_truth x q) g in (
          rel_over c (first_of_two (λ x. has_truth x c) (λ x. has_truth x p) front) h.0,
          rel_over p (second_of_two (λ x. has_truth x c) (λ x. has_truth x p) front) h.1,
          rel_over q (second_of_two (λ x. has_truth x c || has_truth x p) (λ x. has_truth x q) g) h.2,
        )
    rel_over (wide_chain orders ts) g h = terms_over ts g h
