-- Formulas at values that agree on their columns, and lists of formulas.
use Rattle.std.proofs.Common.{◌≡◌, ℕ, ◌<◌, pos, List, [], ◌∷◌, ◌++◌, refl, sym, ◌∙◌, subst, ◌⊎◌, inl, inr, ⊎_elim, ◌↔◌}
use Rattle.std.specs.Prelude.{◌≤ℤ◌}
use Rattle.cf_linear.specs.Rows.{Row, Values, value}
use Rattle.cf_linear.specs.Keep.{Over, Same}
use Rattle.cf_linear.proofs.KindLemmas.{Over-weaker}
use Rattle.cf_formula.specs.Formulas.{Formula, always, never, at_least, equal, both, either, Holds, Throughout, EachFormula, SomeFormula}

pub then_iff : {A B C : Type 0} → A ↔ B → B ↔ C → A ↔ C
then_iff p q = ((λ a. q.0 (p.0 a)), (λ c. p.1 (q.1 c)))

-- ---- lists
pub EachFormula-append : (P : Formula → Type 0) (fs gs : List Formula) → EachFormula P (fs ++ gs) ↔ (EachFormula P fs × EachFormula P gs)
EachFormula-append P [] gs = ((λ h. (tt, h)), (λ h. h.1))
EachFormula-append P (f ∷ fs) gs =
    let i = EachFormula-append P fs gs in
    ((λ h. let k = i.0 h.1 in ((h.0, k.0), k.1)), (λ h. (h.0.0, i.1 (h.0.1, h.1))))

pub SomeFormula-append : (P : Formula → Type 0) (fs gs : List Formula) → SomeFormula P (fs ++ gs) ↔ (SomeFormula P fs ⊎ SomeFormula P gs)
SomeFormula-append P [] gs = ((λ h. inr h), (λ h. ⊎_elim (λ i. absurd i) (λ i. i) h))
SomeFormula-append P (f ∷ fs) gs =
    let i = SomeFormula-append P fs gs in (
      (λ h. ⊎_elim (λ p. inl (inl p)) (λ s. ⊎_elim (λ t. inl (inr t)) (λ t. inr t) (i.0 s)) h),
      (λ h. ⊎_elim (λ k. ⊎_elim (λ p. inl p) (λ s. inr (i.1 (inl s))) k) (λ s. inr (i.1 (inr s))) h),
    )

-- ---- values that agree on a kind of column
abbrev pub AgreeOn : (ℕ → Type 0) → Values → Values → Type 0
AgreeOn Q v w = (c : ℕ) → Q c → v c ≡ w c

pub value-on : (Q : ℕ → Type 0) (v w : Values) → AgreeOn Q v w → (r : Row) → Over Q r → value v r ≡ value w r
value-on Q v w s [] o = refl
value-on Q v w s ((c, k) ∷ r) o = rw (s c o.0, value-on Q v w s r o.1) refl

pub Holds-on : (Q : ℕ → Type 0) (v w : Values) → AgreeOn Q v w → (f : Formula) → Throughout Q f → Holds v f → Holds w f
Holds-on Q v w s always t h = tt
Holds-on Q v w s never t h = h
Holds-on Q v w s (at_least r) t h = subst (λ y. pos 0 ≤ℤ y) (value-on Q v w s r t) h
Holds-on Q v w s (equal r) t h = sym (value-on Q v w s r t) ∙ h
Holds-on Q v w s (both f g) t h = (Holds-on Q v w s f t.0 h.0, Holds-on Q v w s g t.1 h.1)
Holds-on Q v w s (either f g) t h = ⊎_elim (λ i. inl (Holds-on Q v w s f t.0 i)) (λ i. inr (Holds-on Q v w s g t.1 i)) h

pub Holds-same : (n : ℕ) (v w : Values) → Same n v w → (f : Formula) → Throughout (λ c. c < n) f → Holds v f → Holds w f
Holds-same n v w s f t h = Holds-on (λ c. c < n) v w s f t h

pub Throughout-weaker : (Q R : ℕ → Type 0) → ((c : ℕ) → Q c → R c) → (f : Formula) → Throughout Q f → Throughout R f
Throughout-weaker Q R k always t = tt
Throughout-weaker Q R k never t = tt
Throughout-weaker Q R k (at_least r) t = Over-weaker Q R k r t
Throughout-weaker Q R k (equal r) t = Over-weaker Q R k r t
Throughout-weaker Q R k (both f g) t = (Throughout-weaker Q R k f t.0, Throughout-weaker Q R k g t.1)
Throughout-weaker Q R k (either f g) t = (Throughout-weaker Q R k f t.0, Throughout-weaker Q R k g t.1)
