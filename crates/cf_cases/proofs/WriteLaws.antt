-- The guards of a written form hold for some quotients exactly where its signs are those of the values.
use Rattle.std.proofs.Common.{◌≡◌, ℕ, ◌+◌, ◌≤◌, ◌==◌, ℤ, pos, negsuc, ◌+ℤ◌, ◌*ℤ◌, List, [], ◌∷◌, ◌++◌, length, Bool, true, false, refl, sym, ◌∙◌, ap, arith}
use Rattle.std.proofs.Common.{append_assoc, length-append}
use Rattle.std.specs.Prelude.{◌≤ℤ◌, int_lt}
use Rattle.std.proofs.lemmas.Int.{ints}
use Rattle.std.proofs.lemmas.Bool.{ne_eqb}
use Rattle.cf_tree.specs.Numbers.{quotient, remainder, absolute}
use Rattle.cf_tree.specs.RelTree.{TermTree, term_lit, term_var, term_card, term_neg, term_add, term_sub, term_mul, term_div, term_mod, term_abs}
use Rattle.cf_tree.specs.Relation.{IsLinearTerm}
use Rattle.cf_tree.proofs.SetLemmas.{on_bool, lt_is, lt_not}
use Rattle.cf_linear.specs.Rows.{Values, value, comb}
use Rattle.cf_linear.specs.Keep.{Same, update}
use Rattle.cf_linear.specs.Layout.{Layout, covers, first_free, region_row}
use Rattle.cf_linear.specs.Written.{sign_guard, quotient_guard, GuardsHold, plus, WrittenTree, first_sign, other_signs, signed_by, write, val_at, abs_count}
use Rattle.cf_linear.specs.Written.{IsPlaced}
use Rattle.cf_linear.proofs.WritingLemmas.{write-next}
use Rattle.cf_linear.proofs.WrittenLemmas.{GuardsHold-append, value-times, value-plus, write-value}
use Rattle.cf_linear.proofs.ValueLemmas.{Same-trans, update-at}
use Rattle.cf_cases.specs.Holding.{signs_of}
use Rattle.cf_cases.proofs.CaseLaws.{length-signs_of}
use Rattle.cf_cases.proofs.BelowLaws.{positive_free, number-below, below-region_row, value-same, write-fits}
use Rattle.cf_cases.proofs.GuardLaws.{guards-join, guards-same}
use Rattle.cf_cases.proofs.SignLaws.{signed_rest}

-- ---- signs
minus_sign : (z : ℤ) → pos 0 ≤ℤ (negsuc 0 *ℤ z +ℤ negsuc 0) → int_lt z (pos 0) ≡ true
minus_sign z h = on_bool (int_lt z (pos 0)) (λ e. e) (λ e. let g = lt_not z (pos 0) e in absurd (omega (arith, ints)))

plus_sign : (z : ℤ) → pos 0 ≤ℤ z → int_lt z (pos 0) ≡ false
plus_sign z h = on_bool (int_lt z (pos 0)) (λ e. let g = lt_is z (pos 0) e in absurd (omega (arith, ints))) (λ e. e)

-- the sign that a guard asks for is that of the value
sign_met : (v : Values) → v 0 ≡ pos 1 → (b : Bool) (w : WrittenTree) (z : ℤ) → GuardsHold v (signed_by b w).guards →
    (GuardsHold v w.guards → value v w.row ≡ z) → b ≡ int_lt z (pos 0)
sign_met v one true w z g e =
    let h = GuardsHold-append v w.guards (sign_guard (plus (comb (negsuc 0) w.row (pos 0) []) (negsuc 0)) ∷ []) g in
    let m : pos 0 ≤ℤ (negsuc 0 *ℤ z +ℤ negsuc 0) = rw (
      value-plus v (comb (negsuc 0) w.row (pos 0) []) (negsuc 0) one,
      value-times v (negsuc 0) w.row,
      e h.0,
    ) at h.1.0 in
    sym (minus_sign z m)
sign_met v one false w z g e =
    let h = GuardsHold-append v w.guards (sign_guard w.row ∷ []) g in
    let m : pos 0 ≤ℤ z = rw (e h.0) at h.1.0 in
    sym (plus_sign z m)

inner_guards : (v : Values) (b : Bool) (w : WrittenTree) → GuardsHold v (signed_by b w).guards → GuardsHold v w.guards
inner_guards v true w g = (GuardsHold-append v w.guards (sign_guard (plus (comb (negsuc 0) w.row (pos 0) []) (negsuc 0)) ∷ []) g).0
inner_guards v false w g = (GuardsHold-append v w.guards (sign_guard w.row ∷ []) g).0

lengths : (ss xs ys : List Bool) (n : ℕ) → ss ≡ xs ++ ys → length xs ≡ n → length ss ≡ n + length ys
lengths ss xs ys n e h = ap length e ∙ length-append xs ys ∙ ap (λ k. k + length ys) h

module _ (l : Layout) (v : Values) (one : v 0 ≡ pos 1) where
  two_signs : (a b : TermTree) (ss ts us : List Bool) → ss ≡ signs_of (val_at l v) a ++ ts → ts ≡ signs_of (val_at l v) b ++ us →
      ss ≡ (signs_of (val_at l v) a ++ signs_of (val_at l v) b) ++ us
  two_signs a b ss ts us e f = e ∙ rw (f, append_assoc) refl

  left_over : (a : TermTree) (n : ℕ) (ss ts : List Bool) → ss ≡ signs_of (val_at l v) a ++ ts → abs_count a + n ≤ length ss → n ≤ length ts
  left_over a n ss ts e h = let k = lengths ss (signs_of (val_at l v) a) ts (abs_count a) e (length-signs_of (val_at l v) a) in omega arith

  -- where the guards of a written form hold, its signs are those of the values
  pub signs_met : (t : TermTree) (ss : List Bool) (q : ℕ) → IsLinearTerm t → abs_count t ≤ length ss → GuardsHold v (write l t ss q).guards →
      ss ≡ signs_of (val_at l v) t ++ (write l t ss q).signs
  signs_met (term_lit n) ss q p h g = refl
  signs_met (term_var x) ss q p h g = refl
  signs_met (term_card s) ss q p h g = refl
  signs_met (term_neg a) ss q p h g = signs_met a ss q p h g
  signs_met (term_add a b) ss q p h g =
      let w = write l a ss q in
      let u = write l b w.signs w.next in
      let k = GuardsHold-append v w.guards u.guards g in
      let e = signs_met a ss q p.0 (omega arith) k.0 in
      two_signs a b ss w.signs u.signs e (signs_met b w.signs w.next p.1 (left_over a (abs_count b) ss w.signs e h) k.1)
  signs_met (term_sub a b) ss q p h g =
      let w = write l a ss q in
      let u = write l b w.signs w.next in
      let k = GuardsHold-append v w.guards u.guards g in
      let e = signs_met a ss q p.0 (omega arith) k.0 in
      two_signs a b ss w.signs u.signs e (signs_met b w.signs w.next p.1 (left_over a (abs_count b) ss w.signs e h) k.1)
  signs_met (term_mul a b) ss q p h g =
      let w = write l a ss q in
      let u = write l b w.signs w.next in
      let k = GuardsHold-append v w.guards u.guards g in
      let e = signs_met a ss q p.0 (omega arith) k.0 in
      two_signs a b ss w.signs u.signs e (signs_met b w.signs w.next p.1 (left_over a (abs_count b) ss w.signs e h) k.1)
  signs_met (term_div a k) ss q p h g =
      let w = write l a ss q in
      signs_met a ss q p h (GuardsHold-append v w.guards (quotient_guard w.next w.row k ∷ []) g).0
  signs_met (term_mod a k) ss q p h g =
      let w = write l a ss q in
      signs_met a ss q p h (GuardsHold-append v w.guards (quotient_guard w.next w.row k ∷ []) g).0
  signs_met (term_abs a) ss q p h g =
      let w = write l a ss q in
      let b = first_sign w.signs in
      let i = inner_guards v b w g in
      let e = signs_met a ss q p (omega arith) i in
      let s : b ≡ int_lt (val_at l v a) (pos 0) = sign_met v one b w (val_at l v a) g (λ k. write-value l v one a ss q p k) in
      let n : 1 ≤ length w.signs = left_over a 1 ss w.signs e h in
      let t = taken w.signs n in
      e ∙ rw (signed_rest b w, ← s, append_assoc) (ap (λ x. signs_of (val_at l v) a ++ x) t)
    where
      taken : (ss : List Bool) → 1 ≤ length ss → ss ≡ first_sign ss ∷ other_signs ss
      taken [] h = absurd (omega arith)
      taken (b ∷ ss) h = refl

-- ---- values that agree on the columns of the layout
module _ (l : Layout) (v w : Values) (same : Same (first_free l) v w) where
  pub val_at-same : (t : TermTree) → IsPlaced l t → val_at l v t ≡ val_at l w t
  val_at-same (term_lit n) p = refl
  val_at-same (term_var x) p = same _ (number-below l x p)
  val_at-same (term_card s) p = value-same (first_free l) v w (region_row l (covers l s)) same (below-region_row l (covers l s))
  val_at-same (term_neg a) p = rw (val_at-same a p) refl
  val_at-same (term_add a b) p = rw (val_at-same a p.0, val_at-same b p.1) refl
  val_at-same (term_sub a b) p = rw (val_at-same a p.0, val_at-same b p.1) refl
  val_at-same (term_mul a b) p = rw (val_at-same a p.0, val_at-same b p.1) refl
  val_at-same (term_div a k) p = ap (λ z. quotient z k) (val_at-same a p.0)
  val_at-same (term_mod a k) p = ap (λ z. remainder z k) (val_at-same a p.0)
  val_at-same (term_abs a) p = ap absolute (val_at-same a p)

  pub signs-same : (t : TermTree) → IsPlaced l t → signs_of (val_at l v) t ≡ signs_of (val_at l w) t
  signs-same (term_lit n) p = refl
  signs-same (term_var x) p = refl
  signs-same (term_card s) p = refl
  signs-same (term_neg a) p = signs-same a p
  signs-same (term_add a b) p = rw (signs-same a p.0, signs-same b p.1) refl
  signs-same (term_sub a b) p = rw (signs-same a p.0, signs-same b p.1) refl
  signs-same (term_mul a b) p = rw (signs-same a p.0, signs-same b p.1) refl
  signs-same (term_div a k) p = signs-same a p.0
  signs-same (term_mod a k) p = signs-same a p.0
  signs-same (term_abs a) p = rw (signs-same a p, val_at-same a p) refl

-- ---- quotients for a written form
-- the values v with values for the new columns, at which the guards hold, and these signs are left
pub record Filled (n : ℕ) (v : Values) (w : WrittenTree) (rest : List Bool) : Type 0 where
  pub values : Values
  pub same : Same n v values
  pub holds : GuardsHold values w.guards
  pub left : w.signs ≡ rest

pub same-less : (n m : ℕ) (v w : Values) → n ≤ m → Same m v w → Same n v w
same-less n m v w h p = λ c i. p c (omega arith)

pub update-same : (v : Values) (c : ℕ) (z : ℤ) → Same c v (update v c z)
update-same v c z = λ d h. let n : d == c ≡ false = ne_eqb d c (λ e. omega arith) in rw n refl

module _ (l : Layout) where
  -- the second form after the first
  fill_two : (a b : TermTree) (ss rest : List Bool) (q : ℕ) (v : Values) → IsPlaced l a → IsPlaced l b → first_free l ≤ q → v 0 ≡ pos 1 →
      ss ≡ (signs_of (val_at l v) a ++ signs_of (val_at l v) b) ++ rest →
      ((r : List Bool) → ss ≡ signs_of (val_at l v) a ++ r → Filled q v (write l a ss q) r) →
      ((w : Values) (ts : List Bool) (n : ℕ) → first_free l ≤ n → w 0 ≡ pos 1 → ts ≡ signs_of (val_at l w) b ++ rest → Filled n w (write l b ts n) rest) →
      (w : Values) × Same q v w × GuardsHold w ((write l a ss q).guards ++ (write l b (write l a ss q).signs (write l a ss q).next).guards) ×
      ((write l b (write l a ss q).signs (write l a ss q).next).signs ≡ rest)
  fill_two a b ss rest q v p p' h one e first second =
      let w = write l a ss q in
      let f = first (signs_of (val_at l v) b ++ rest) (e ∙ append_assoc (signs_of (val_at l v) a) (signs_of (val_at l v) b) rest) in
      let i : q ≤ w.next = omega (arith, write-next l a ss q) in
      let z = positive_free l in
      let s : Same (first_free l) v f.values = same-less (first_free l) q v f.values h f.same in
      let o : f.values 0 ≡ pos 1 = sym (s 0 z) ∙ one in
      let g = second f.values w.signs w.next (omega arith) o (f.left ∙ ap (λ x. x ++ rest) (signs-same l v f.values s b p')) in
      let k = write-fits l a ss q p h in (
        g.values,
        Same-trans q w.next v f.values g.values i f.same g.same,
        guards-join g.values w.guards (write l b w.signs w.next).guards (guards-same w.next f.values g.values g.same w.guards k.guards f.holds) g.holds,
        g.left,
      )

  -- a quotient after the form
  fill_quotient : (a : TermTree) (k : ℤ) (ss rest : List Bool) (q : ℕ) (v : Values) → IsPlaced l a → first_free l ≤ q → Filled q v (write l a ss q) rest →
      (w : Values) × Same q v w × GuardsHold w ((write l a ss q).guards ++ (quotient_guard (write l a ss q).next (write l a ss q).row k ∷ []))
  fill_quotient a k ss rest q v p h f =
      let w = write l a ss q in
      let i : q ≤ w.next = omega (arith, write-next l a ss q) in
      let k' = write-fits l a ss q p h in
      let z = quotient (value f.values w.row) k in
      let u = update f.values w.next z in
      let s = update-same f.values w.next z in
      let e : u w.next ≡ quotient (value u w.row) k = update-at f.values w.next z ∙ ap (λ x. quotient x k) (value-same w.next f.values u w.row s k'.row) in (
        u,
        Same-trans q w.next v f.values u i f.same s,
        guards-join u w.guards (quotient_guard w.next w.row k ∷ [])
            (guards-same w.next f.values u s w.guards k'.guards f.holds) (e, tt),
      )

  minus_row : (z : ℤ) → int_lt z (pos 0) ≡ true → pos 0 ≤ℤ (negsuc 0 *ℤ z +ℤ negsuc 0)
  minus_row z e = let h = lt_is z (pos 0) e in omega (arith, ints)

  fill_sign : (v : Values) → v 0 ≡ pos 1 → (b : Bool) (w : WrittenTree) → b ≡ int_lt (value v w.row) (pos 0) → GuardsHold v w.guards →
      GuardsHold v (signed_by b w).guards
  fill_sign v one true w e g =
      guards-join v w.guards (sign_guard (plus (comb (negsuc 0) w.row (pos 0) []) (negsuc 0)) ∷ []) g
      (rw (value-plus v (comb (negsuc 0) w.row (pos 0) []) (negsuc 0) one, value-times v (negsuc 0) w.row) (minus_row (value v w.row) (sym e)), tt)
  fill_sign v one false w e g = guards-join v w.guards (sign_guard w.row ∷ []) g (lt_not (value v w.row) (pos 0) (sym e), tt)

  -- where the signs are those of the values, the new columns have values at which the guards hold
  pub fill : (t : TermTree) (ss rest : List Bool) (q : ℕ) (v : Values) → IsPlaced l t → IsLinearTerm t → first_free l ≤ q → v 0 ≡ pos 1 →
      ss ≡ signs_of (val_at l v) t ++ rest → Filled q v (write l t ss q) rest
  fill (term_lit n) ss rest q v p m h one e = record { values = v; same = λ c i. refl; holds = tt; left = e }
  fill (term_var x) ss rest q v p m h one e = record { values = v; same = λ c i. refl; holds = tt; left = e }
  fill (term_card s) ss rest q v p m h one e = record { values = v; same = λ c i. refl; holds = tt; left = e }
  fill (term_neg a) ss rest q v p m h one e = let f = fill a ss rest q v p m h one e in
      record { values = f.values; same = f.same; holds = f.holds; left = f.left }
  fill (term_add a b) ss rest q v p m h one e =
      let t = fill_two a b ss rest q v p.0 p.1 h one e (λ r i. fill a ss r q v p.0 m.0 h one i) (λ w ts n j o i. fill b ts rest n w p.1 m.1 j o i) in
      record { values = t.0; same = t.1; holds = t.2; left = t.3 }
  fill (term_sub a b) ss rest q v p m h one e =
      let t = fill_two a b ss rest q v p.0 p.1 h one e (λ r i. fill a ss r q v p.0 m.0 h one i) (λ w ts n j o i. fill b ts rest n w p.1 m.1 j o i) in
      record { values = t.0; same = t.1; holds = t.2; left = t.3 }
  fill (term_mul a b) ss rest q v p m h one e =
      let t = fill_two a b ss rest q v p.0 p.1 h one e (λ r i. fill a ss r q v p.0 m.0 h one i) (λ w ts n j o i. fill b ts rest n w p.1 m.1 j o i) in
      record { values = t.0; same = t.1; holds = t.2; left = t.3 }
  fill (term_div a k) ss rest q v p m h one e =
      let f = fill a ss rest q v p.0 m h one e in
      let t = fill_quotient a k ss rest q v p.0 h f in
      record { values = t.0; same = t.1; holds = t.2; left = f.left }
  fill (term_mod a k) ss rest q v p m h one e =
      let f = fill a ss rest q v p.0 m h one e in
      let t = fill_quotient a k ss rest q v p.0 h f in
      record { values = t.0; same = t.1; holds = t.2; left = f.left }
  fill (term_abs a) ss rest q v p m h one e =
      let w = write l a ss q in
      let s = int_lt (val_at l v a) (pos 0) in
      let f = fill a ss (s ∷ rest) q v p m h one (e ∙ append_assoc (signs_of (val_at l v) a) (s ∷ []) rest) in
      let o : f.values 0 ≡ pos 1 = sym (f.same 0 (let z = positive_free l in omega arith)) ∙ one in
      let c : value f.values w.row ≡ val_at l v a = write-value l f.values o a ss q m f.holds ∙
      sym (val_at-same l v f.values (same-less (first_free l) q v f.values h f.same) a p) in
      let b : first_sign w.signs ≡ int_lt (value f.values w.row) (pos 0) = ap first_sign f.left ∙ ap (λ x. int_lt x (pos 0)) (sym c) in
      record {
        values = f.values;
        same = f.same;
        holds = fill_sign f.values o (first_sign w.signs) w b f.holds;
        left = signed_rest (first_sign w.signs) w ∙ ap other_signs f.left;
      }
