-- What is said of one tuple holds exactly where the lets have their values and some need fails.
use Rattle.std.proofs.Common.{inl, inr, ◌≡◌, ◌↔◌, ℕ, zero, suc, ◌+◌, ◌≤◌, ◌==◌, ◌/◌, ℤ, pos, neg_ℤ, ◌+ℤ◌, ◌*ℤ◌, ◌-ℤ◌, false, List, [], ◌∷◌, ◌++◌, length, take, drop, map, refl, sym, ap, ap₂, ◌∙◌, take-append-drop, arith}
use Rattle.std.specs.Prelude.{◌≤ℤ◌, ◌<ℤ◌}
use Rattle.std.specs.Int.{int_div_euclid}
use Rattle.std.specs.Ordering.{int_eq}
use Rattle.std.proofs.lemmas.Bool.{eqb-true, ne_eqb}
use Rattle.std.proofs.lemmas.Int.{ints}
use Rattle.cf_num.proofs.DivisionLemmas.{int_div_euclid-bounds, int_div_euclid_once}
use Rattle.cf_tree.specs.Relation.{val, Holds}
use Rattle.cf_tree.specs.RelTree.{TermTree, term_lit, term_var, term_add, RelTree, rel_or, rel_false}
use Rattle.cf_tree.specs.Values.{Value, number_of, value_at}
use Rattle.cf_tree.proofs.SetLemmas.{on_bool, eq_is}
use Rattle.cf_linear.specs.Keep.{update}
use Rattle.cf_linear.specs.Rows.{Row, Values, value}
use Rattle.cf_linear.specs.Solved.{let_columns, NeedsHold, set_tuple, search_columns}
use Rattle.cf_linear.specs.Systems.{Step, floor_of, need_nonneg, need_zero, need_divides}
use Rattle.cf_cases.specs.Holding.{EachOf, SomeOf}
use Rattle.cf_cases.proofs.Deciding.{yes, no, decide-compares, decide-divides}
use Rattle.cf_cases.proofs.Quantifiers.{each-append, each-split}
use Rattle.cf_elim.specs.Returning.{StepsDivide}
use Rattle.cf_tree.specs.declared.base.Order.TheVariants.{Eq, Ge}
use Rattle.cf_warn.specs.Questions.{halves_within, halves}
use Rattle.cf_warn.specs.Missing.{Forms, with_form, search_forms, entry_form, row_form, let_says, lets_say, needs_fail, tuple_says}
use Rattle.cf_warn.proofs.HalvesLaws.{some_halves, front_fits, back_fits}

-- no column is the constant's
abbrev pub AreLater : List ℕ → Type 0
AreLater cs = EachOf (λ c. 1 ≤ c) cs

module _ (q : List Value) where
  -- ---- rows
  total : List TermTree → ℤ
  total [] = pos 0
  total (t ∷ ts) = val t q +ℤ total ts

  total_append : (ts us : List TermTree) → total (ts ++ us) ≡ total ts +ℤ total us
  unfolding total
  total_append [] us = omega (arith, ints)
  total_append (t ∷ ts) us = let h = total_append ts us in omega (arith, ints)

  halves_total : (n : ℕ) (ts : List TermTree) → length ts ≤ n → val (halves_within n (λ a b. term_add a b) (term_lit (pos 0)) ts) q ≡ total ts
  unfolding total
  halves_total zero [] h = refl
  halves_total zero (t ∷ ts) h = absurd (omega arith)
  halves_total (suc n) [] h = refl
  halves_total (suc n) (t ∷ []) h = omega (arith, ints)
  halves_total (suc n) (t ∷ u ∷ ts) h =
      let front = take (length (t ∷ u ∷ ts) / 2) (t ∷ u ∷ ts) in
      let back = drop (length (t ∷ u ∷ ts) / 2) (t ∷ u ∷ ts) in
      let whole : front ++ back ≡ t ∷ u ∷ ts = take-append-drop (length (t ∷ u ∷ ts) / 2) (t ∷ u ∷ ts) in
      ap₂ (λ a b. a +ℤ b) (halves_total n front (front_fits n t u ts h)) (halves_total n back (back_fits n t u ts h))
      ∙ sym (total_append front back) ∙ ap total whole

  -- the forms have the values of the columns
  abbrev pub Agree : Forms → Values → Type 0
  Agree forms v = (c : ℕ) → val (forms c) q ≡ v c

  times_one : (k a : ℤ) → a ≡ pos 1 → k ≡ k *ℤ a
  times_one k a e = rw e (omega (arith, ints))

  one_times : (k a b : ℤ) → k ≡ pos 1 → a ≡ b → a ≡ k *ℤ b
  one_times k a b e f = rw (e, f) (omega (arith, ints))

  module _ (forms : Forms) (v : Values) (agree : Agree forms v) (one : v 0 ≡ pos 1) where
    entry_value : (c : ℕ) (k : ℤ) → val (entry_form forms (c, k)) q ≡ k *ℤ v c
    entry_value c k = on_bool (c == 0)
        (λ e. rw e (times_one k (v c) (ap v (eqb-true c 0 e) ∙ one)))
        (λ e. on_bool (int_eq k (pos 1))
        (λ f. rw (e, f) (one_times k (val (forms c) q) (v c) (eq_is k (pos 1) f) (agree c)))
        (λ f. rw (e, f) (ap (λ a. k *ℤ a) (agree c))))

    total_entries : (r : Row) → total (map (entry_form forms) r) ≡ value v r
    unfolding total
    total_entries [] = refl
    total_entries ((c, k) ∷ r) = ap₂ (λ a b. a +ℤ b) (entry_value c k) (total_entries r)

    pub row_value : (r : Row) → val (row_form forms r) q ≡ value v r
    row_value r = halves_total (length (map (entry_form forms) r)) (map (entry_form forms) r) (omega arith) ∙ total_entries r

  agree_with : (forms : Forms) (v : Values) (c : ℕ) (t : TermTree) (z : ℤ) → Agree forms v → val t q ≡ z → Agree (with_form forms c t) (update v c z)
  agree_with forms v c t z agree e d = on_bool (d == c) (λ f. rw f e) (λ f. rw f (agree d))

  still_one : (v : Values) (c : ℕ) (z : ℤ) → v 0 ≡ pos 1 → 1 ≤ c → update v c z 0 ≡ pos 1
  still_one v c z one h = let n : (0 == c) ≡ false = ne_eqb 0 c (λ e. omega arith) in rw n one

  -- ---- lets
  module _ (r : TermTree) (g : ℤ) (d : TermTree) (positive : pos 1 ≤ℤ g) where
    let_forth : EachOf (λ s. Holds s q) (let_says r g d) → val d q ≡ int_div_euclid (val r q) g
    let_forth h =
        let a = h.0 in
        let b = h.1.0 in
        let p : pos 0 <ℤ g = omega (arith, ints) in
        sym (int_div_euclid_once (val r q) g (val d q) p (low (val r q) (g *ℤ val d q) a) (high (val r q) (g *ℤ val d q) g b))
      where
        low : (x y : ℤ) → pos 0 ≤ℤ (x -ℤ y) → y ≤ℤ x
        low x y h = omega (arith, ints)

        high : (x y k : ℤ) → pos 0 ≤ℤ (((neg_ℤ x +ℤ y) +ℤ k) -ℤ pos 1) → x <ℤ (y +ℤ k)
        high x y k h = omega (arith, ints)

    let_back : val d q ≡ int_div_euclid (val r q) g → EachOf (λ s. Holds s q) (let_says r g d)
    let_back e =
        let p : pos 0 <ℤ g = omega (arith, ints) in
        let b = int_div_euclid-bounds (val r q) g p in (
          low (val r q) (g *ℤ val d q) (rw e b.0),
          (high (val r q) (g *ℤ val d q) g (rw e b.1), tt),
        )
      where
        low : (x y : ℤ) → y ≤ℤ x → pos 0 ≤ℤ (x -ℤ y)
        low x y h = omega (arith, ints)

        high : (x y k : ℤ) → x <ℤ (y +ℤ k) → pos 0 ≤ℤ (((neg_ℤ x +ℤ y) +ℤ k) -ℤ pos 1)
        high x y k h = omega (arith, ints)

  -- the levels from n on have the values of the lets
  abbrev pub LetsAt : ℕ → Values → List Step → Type 0
  LetsAt n v [] = Unit {0}
  LetsAt n v (floor_of c r g ∷ ms) =
      (number_of (value_at q n) ≡ int_div_euclid (value v r) g) × LetsAt (n + 1) (update v c (int_div_euclid (value v r) g)) ms
  LetsAt n v (need_nonneg r ∷ ms) = LetsAt n v ms
  LetsAt n v (need_zero r ∷ ms) = LetsAt n v ms
  LetsAt n v (need_divides g r ∷ ms) = LetsAt n v ms

  lets_forth : (forms : Forms) (v : Values) (n : ℕ) (ms : List Step) → Agree forms v → v 0 ≡ pos 1 → StepsDivide ms → AreLater (let_columns ms) →
      EachOf (λ s. Holds s q) (lets_say forms n ms) → LetsAt n v ms
  lets_forth forms v n [] agree one d l h = tt
  lets_forth forms v n (floor_of c r g ∷ ms) agree one d l h =
      let e : number_of (value_at q n) ≡ int_div_euclid (value v r) g =
      let_forth (row_form forms r) g (term_var n) d.0 (h.0, (h.1.0, tt)) ∙ ap (λ z. int_div_euclid z g) (row_value forms v agree one r) in
      let z = int_div_euclid (value v r) g in (
        e,
        lets_forth (with_form forms c (term_var n)) (update v c z) (n + 1) ms (agree_with forms v c (term_var n) z agree e) (still_one v c z one l.0) d.1 l.1
            h.1.1,
      )
  lets_forth forms v n (need_nonneg r ∷ ms) agree one d l h = lets_forth forms v n ms agree one d.1 l h
  lets_forth forms v n (need_zero r ∷ ms) agree one d l h = lets_forth forms v n ms agree one d.1 l h
  lets_forth forms v n (need_divides g r ∷ ms) agree one d l h = lets_forth forms v n ms agree one d.1 l h

  lets_back : (forms : Forms) (v : Values) (n : ℕ) (ms : List Step) → Agree forms v → v 0 ≡ pos 1 → StepsDivide ms → AreLater (let_columns ms) →
      LetsAt n v ms → EachOf (λ s. Holds s q) (lets_say forms n ms)
  lets_back forms v n [] agree one d l h = tt
  lets_back forms v n (floor_of c r g ∷ ms) agree one d l h =
      let z = int_div_euclid (value v r) g in
      let b = let_back (row_form forms r) g (term_var n) d.0 (h.0 ∙ ap (λ y. int_div_euclid y g) (sym (row_value forms v agree one r))) in (
        b.0,
        (
          b.1.0,
          lets_back (with_form forms c (term_var n)) (update v c z) (n + 1) ms (agree_with forms v c (term_var n) z agree h.0)
              (still_one v c z one l.0) d.1 l.1 h.1,
        ),
      )
  lets_back forms v n (need_nonneg r ∷ ms) agree one d l h = lets_back forms v n ms agree one d.1 l h
  lets_back forms v n (need_zero r ∷ ms) agree one d l h = lets_back forms v n ms agree one d.1 l h
  lets_back forms v n (need_divides g r ∷ ms) agree one d l h = lets_back forms v n ms agree one d.1 l h

  -- ---- needs
  fails_forth : (forms : Forms) (v : Values) (n : ℕ) (ms : List Step) → Agree forms v → v 0 ≡ pos 1 → AreLater (let_columns ms) → LetsAt n v ms →
      SomeOf (λ s. Holds s q) (needs_fail forms n ms) → NeedsHold v ms → ⊥
  fails_forth forms v n [] agree one l at h k = h
  fails_forth forms v n (floor_of c r g ∷ ms) agree one l at h k =
      let z = int_div_euclid (value v r) g in
      fails_forth (with_form forms c (term_var n)) (update v c z) (n + 1) ms (agree_with forms v c (term_var n) z agree at.0) (still_one v c z one l.0) l.1 at.1
      h k.1
  fails_forth forms v n (need_nonneg r ∷ ms) agree one l at h k = elim h [
    | inl f ↦ f (rw (row_value forms v agree one r) k.0)
    | inr f ↦ fails_forth forms v n ms agree one l at f k.1
  ]
  fails_forth forms v n (need_zero r ∷ ms) agree one l at h k = elim h [
    | inl f ↦ f (row_value forms v agree one r ∙ k.0)
    | inr f ↦ fails_forth forms v n ms agree one l at f k.1
  ]
  fails_forth forms v n (need_divides g r ∷ ms) agree one l at h k = elim h [
    | inl f ↦ f (k.0.0, row_value forms v agree one r ∙ k.0.1)
    | inr f ↦ fails_forth forms v n ms agree one l at f k.1
  ]

  fails_back : (forms : Forms) (v : Values) (n : ℕ) (ms : List Step) → Agree forms v → v 0 ≡ pos 1 → StepsDivide ms → AreLater (let_columns ms) →
      LetsAt n v ms →
      (NeedsHold v ms → ⊥) → SomeOf (λ s. Holds s q) (needs_fail forms n ms)
  fails_back forms v n [] agree one d l at h = h tt
  fails_back forms v n (floor_of c r g ∷ ms) agree one d l at h =
      let z = int_div_euclid (value v r) g in
      fails_back (with_form forms c (term_var n)) (update v c z) (n + 1) ms (agree_with forms v c (term_var n) z agree at.0) (still_one v c z one l.0) d.1 l.1
      at.1
      (λ k. h (tt, k))
  fails_back forms v n (need_nonneg r ∷ ms) agree one d l at h = elim (decide-compares Ge (value v r) (pos 0)) [
    | yes p ↦ inr (fails_back forms v n ms agree one d.1 l at (λ k. h (p, k)))
    | no p ↦ inl (λ k. p (rw (row_value forms v agree one r) at k))
  ]
  fails_back forms v n (need_zero r ∷ ms) agree one d l at h = elim (decide-compares Eq (value v r) (pos 0)) [
    | yes p ↦ inr (fails_back forms v n ms agree one d.1 l at (λ k. h (p, k)))
    | no p ↦ inl (λ k. p (sym (row_value forms v agree one r) ∙ k))
  ]
  fails_back forms v n (need_divides g r ∷ ms) agree one d l at h = elim (decide-divides g (value v r) d.0) [
    | yes p ↦ inr (fails_back forms v n ms agree one d.1 l at (λ k. h (p, k)))
    | no p ↦ inl (λ k. p (k.0, sym (row_value forms v agree one r) ∙ k.1))
  ]

  -- ---- a tuple
  pub tuple_holds : (forms : Forms) (v : Values) (n : ℕ) (ms : List Step) → Agree forms v → v 0 ≡ pos 1 → StepsDivide ms → AreLater (let_columns ms) →
      EachOf (λ s. Holds s q) (tuple_says forms n ms) ↔ (LetsAt n v ms × (NeedsHold v ms → ⊥))
  tuple_holds forms v n ms agree one d l =
      let P : RelTree → Type 0 = λ s. Holds s q in
      let last = halves (λ a b. rel_or a b) rel_false (needs_fail forms n ms) in
      let some = some_halves q (needs_fail forms n ms) in (
        λ h.
            let s = each-split P (lets_say forms n ms) (last ∷ []) h in
            let at = lets_forth forms v n ms agree one d l s.0 in
            (at, fails_forth forms v n ms agree one l at (some.0 s.1.0)),
        λ h. each-append P (lets_say forms n ms) (last ∷ []) (lets_back forms v n ms agree one d l h.0)
            (some.1 (fails_back forms v n ms agree one d l h.0 h.1), tt),
      )

  pub search_agrees : (forms : Forms) (v : Values) (bs : List (ℕ × ℕ)) (ks : List ℕ) → Agree forms v →
      Agree (search_forms forms bs ks) (set_tuple v bs (map pos ks))
  search_agrees forms v [] ks agree = agree
  search_agrees forms v ((c, b) ∷ bs) [] agree = agree
  search_agrees forms v ((c, b) ∷ bs) (k ∷ ks) agree =
      search_agrees (with_form forms c (term_lit (pos k))) (update v c (pos k)) bs ks (agree_with forms v c (term_lit (pos k)) (pos k) agree refl)

  pub search_one : (v : Values) (bs : List (ℕ × ℕ)) (ks : List ℤ) → v 0 ≡ pos 1 → AreLater (search_columns bs) → set_tuple v bs ks 0 ≡ pos 1
  search_one v [] ks one l = one
  search_one v ((c, b) ∷ bs) [] one l = one
  search_one v ((c, b) ∷ bs) (k ∷ ks) one l = search_one (update v c k) bs ks (still_one v c k one l.0) l.1
