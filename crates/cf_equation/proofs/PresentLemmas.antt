-- The first unknowns of an equation.
use Rattle.std.proofs.Common.{◌≡◌, ◌≢◌, ℕ, ◌+◌, ◌<◌, pos, List, [], ◌∷◌, Result, Ok, Err, refl, sym, ◌∙◌, subst, length, get_or, drop, drop-cons, add-one, inl, inr}
use Rattle.std.specs.Prelude.{IfOk}
use Rattle.cf_linear.specs.Rows.{Row, entry, is_zero}
use Rattle.cf_linear.specs.Systems.{System, Answer}
use Rattle.cf_linear.specs.Keep.{In, Formed, Differ}
use Rattle.cf_linear.specs.Steps.{present, merge, last}
use Rattle.cf_linear.proofs.RowLemmas.{zero_from_is_zero}
use Rattle.cf_linear.proofs.BoolLemmas.{on_bool}
use Rattle.cf_equation.specs.declared.unknowns.Present.TheVariants.{Nothing, One, Several}
use Rattle.cf_equation.specs.Equations.{present_of, first_of, rest_of, first_present, equation_answer}
use Rattle.cf_equation.proofs.StepLaws.{In-present, StepOwes, step_owes}

pub none_from : (us : List ℕ) → Nothing ≡ present_of us → us ≡ []
none_from [] e = refl
none_from (u ∷ []) e = cc
none_from (u ∷ w ∷ us) e = cc

pub one_from : (us : List ℕ) (u : ℕ) → One u ≡ present_of us → us ≡ u ∷ []
one_from [] u e = cc
one_from (w ∷ []) u e = cc
one_from (w ∷ z ∷ us) u e = cc

pub several_from : (us : List ℕ) (u w : ℕ) → Several u w ≡ present_of us → (ws : List ℕ) × (us ≡ u ∷ w ∷ ws)
several_from [] u w e = cc
several_from (z ∷ []) u w e = cc
several_from (y ∷ z ∷ us) u w e = (us, cc)

-- ---- the loop
pub present_skip : (us : List ℕ) (e : Row) (i : ℕ) → i < length us → entry e (get_or us i 0) ≡ pos 0 → present (drop i us) e ≡ present (drop (i + 1) us) e
present_skip us e i h z = rw (add-one, drop-cons us i 0, z) refl

pub present_found : (us : List ℕ) (e : Row) (i : ℕ) → i < length us → entry e (get_or us i 0) ≢ pos 0 →
    present (drop i us) e ≡ get_or us i 0 ∷ present (drop (i + 1) us) e
present_found us e i h z =
    rw (add-one, drop-cons us i 0) (on_bool (is_zero (entry e (get_or us i 0))) (λ t. absurd (z (zero_from_is_zero (entry e (get_or us i 0)) t)))
    (λ t. rw t refl))

-- ---- what the step is for one unknown, and for several
pub one_entry : (m : System) (u : ℕ) → first_present m ≡ u ∷ [] → entry (first_of m) u ≢ pos 0
one_entry m u p = (In-present u m.unknown (first_of m) (subst (λ xs. In u xs) (sym p) (inl refl))).1

pub first_entry : (m : System) (u w : ℕ) (ws : List ℕ) → first_present m ≡ u ∷ w ∷ ws → entry (first_of m) u ≢ pos 0
first_entry m u w ws p = (In-present u m.unknown (first_of m) (subst (λ xs. In u xs) (sym p) (inl refl))).1

pub second_entry : (m : System) (u w : ℕ) (ws : List ℕ) → first_present m ≡ u ∷ w ∷ ws → entry (first_of m) w ≢ pos 0
second_entry m u w ws p = (In-present w m.unknown (first_of m) (subst (λ xs. In w xs) (sym p) (inr (inl refl)))).1

pub one_owes : (m : System) (u : ℕ) (a : Answer) → Formed m → Differ m.unknown → 0 < length m.equations → first_present m ≡ u ∷ [] →
    a ≡ last m (first_of m) (rest_of m) u → StepOwes m a
one_owes m u a f d s p e =
    subst (λ x. StepOwes m x) (sym e) (subst (λ us. StepOwes m (equation_answer m us)) p (step_owes m f d s (λ q. let r : [] ≡ u ∷ [] = sym q ∙ p in cc)))

pub several_owes : (m : System) (u w : ℕ) (ws : List ℕ) (a : Answer) → Formed m → Differ m.unknown → 0 < length m.equations → first_present m ≡ u ∷ w ∷ ws →
    a ≡ merge m (first_of m) u w → StepOwes m a
several_owes m u w ws a f d s p e =
    subst (λ x. StepOwes m x) (sym e) (subst (λ us. StepOwes m (equation_answer m us)) p (step_owes m f d s (λ q. let r : [] ≡ u ∷ w ∷ ws = sym q ∙ p in cc)))

pub if_ok : {A E : Type 0} (P Q : A → Type 0) (r : Result A E) → ((v : A) → P v → Q v) → IfOk r P → IfOk r Q
if_ok P Q (Ok v) f h = f v h
if_ok P Q (Err e) f h = tt
