-- Parts that are walked one after the other, and then the form itself.
use Rattle.std.proofs.Common.{◌≡◌, ℕ, ◌+◌, true, false, Result, Ok, Err, IsOk, IfOk, OnOk, ◌<◌, ◌^◌, refl, ap, ◌∙◌, arith}
use Rattle.cf_tree.specs.CodeTree.{CodeTree}
use Rattle.cf_tree.specs.RelSize.{capped}
use Rattle.cf_pass.specs.Improves.{Improves}
use Rattle.cf_pass.specs.Walked.{Walk}
use Rattle.cf_pass.proofs.Forms.{improves_on}

pub more_units : (t a b u v : ℕ) → capped a ≡ capped (t + u) → capped b ≡ capped (a + v) → capped b ≡ capped (t + (u + v))
more_units t a b u v e f = omega (arith, e, f)

-- nothing is changed where memory was wanting before
pub stays : {Better Whole Before Behind : Type 0} {units t : ℕ} → Better → (Behind → ⊥) → Walk Better Whole units t t Before Behind
stays b never = record { better = b; tally = omega arith; exact = λ k. absurd (never k) }

-- one part and then another
pub then_part : {A B S T X Y Z : Type 0} {u v t t' t'' : ℕ} → Walk A S u t t' X Y → Walk B T v t' t'' Y Z → Walk (A × B) (S × T) (u + v) t t'' X Z
then_part {u = u} {v = v} {t = t} {t' = t'} {t'' = t''} p q = record {
  better = (p.better, q.better);
  tally = omega (arith, p.tally, q.tally);
  exact = λ k. let e = q.exact k in let d = p.exact e.0 in (d.0, (d.1, e.1), more_units t t' t'' u v d.2 e.2);
}

-- all parts and then the form
pub then_form : {A S X Y Z : Type 0} {u t t' t'' : ℕ} (made : ℕ → CodeTree → CodeTree) (units : ℕ → CodeTree → ℕ) (n : ℕ) (old mid whole new : CodeTree) →
    (A → Improves n old mid) → (S → mid ≡ whole) → Walk A S u t t' X Y → Walk (Improves n mid new) (new ≡ made n mid) (units n mid) t' t'' Y Z →
    Walk (Improves n old new) (new ≡ made n whole) (u + units n whole) t t'' X Z
then_form {u = u} {t = t} {t' = t'} {t'' = t''} made units n old mid whole new better same p q = record {
  better = improves_on n old mid new (better p.better) q.better;
  tally = omega (arith, p.tally, q.tally);
  exact = λ k.
      let e = q.exact k in
      let d = p.exact e.0 in
      let s = same d.1 in
      let w : units n mid ≡ units n whole = ap (units n) s in
      (d.0, e.1 ∙ ap (made n) s, more_units t t' t'' u (units n whole) d.2 (omega (arith, e.2, w)));
}

-- at the start memory is not wanting
pub from_start : {A S X X' Y : Type 0} {u t t' : ℕ} → (X → X') → Walk A S u t t' X Y → Walk A S u t t' X' Y
from_start f p = record { better = p.better; tally = p.tally; exact = λ k. let e = p.exact k in (f e.0, e.1, e.2) }

pub no_start : false ≡ true → ⊥
no_start e = absurd cc

pub if_ok_same : {E : Type 0} (r : Result ℕ E) (a b : ℕ) → IfOk r (λ k. k ≡ a) → a ≡ b → IfOk r (λ k. k ≡ b)
if_ok_same (Ok k) a b h e = h ∙ e
if_ok_same (Err x) a b h e = tt

pub ok_before : {A E P : Type 0} (r : Result A E) → OnOk r P → IsOk r → P
ok_before (Ok k) p e = p
ok_before (Err x) p e = absurd cc

pub on_ok : {A E P : Type 0} (r : Result A E) → (IsOk r → P) → OnOk r P
on_ok (Ok k) f = f refl
on_ok (Err x) f = tt

-- a tally that stays at its last value
pub units_told : {A E : Type 0} (r : Result A E) (a b : ℕ) → OnOk r (capped a ≡ capped b) → a < 2 ^ 64 → OnOk r (a ≡ capped b)
units_told (Ok k) a b e l = omega (arith, e, l)
units_told (Err x) a b e l = tt
