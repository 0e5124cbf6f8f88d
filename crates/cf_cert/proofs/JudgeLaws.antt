-- A block without a fault before its code certifies exactly where its target is the one that its steps make.
use Rattle.std.proofs.Common.{◌≡◌, ℕ, ◌+◌, ◌==◌, List, [], ◌∷◌, length, Bool, true, false, not, Option, Some, None, Ok, Err, refl, sym, ◌∙◌, ap, arith, inl}
use Rattle.std.proofs.Common.{inr}
use Rattle.std.proofs.lemmas.Bool.{eqb-true, eq-eqb}
use Rattle.cf_linear.specs.declared.refusal.Refusal.{Refusal}
use Rattle.cf_linear.specs.declared.refusal.Refusal.TheVariants.{Past}
use Rattle.cf_linear.specs.Cases.{negation_normal, first_systems, written_passes}
use Rattle.cf_linear.specs.Stages.{Limits, limits}
use Rattle.cf_linear.specs.Systems.{System, Answer}
use Rattle.cf_choose.specs.Eliminations.{case_refusal}
use Rattle.cf_elim.specs.declared.act.Act.{Act}
use Rattle.cf_steps.specs.Blocks.{BlockTree}
use Rattle.cf_cert.specs.declared.verdict.Verdict.{Verdict}
use Rattle.cf_cert.specs.declared.verdict.Verdict.TheVariants.{Rejected}
use Rattle.cf_cert.specs.declared.verdict.Why.{Why}
use Rattle.cf_cert.specs.declared.verdict.Why.TheVariants.{Blocks, Refused}
use Rattle.cf_tree.specs.ChooseTree.{ChooseTree}
use Rattle.cf_cert.specs.Certifying.{layout, Followed, eliminated, AreEliminated, target_with, Certifies}
use Rattle.cf_cert.specs.Judging.{Fault, fault_in, case_fault, fault_of_refusal, fault_if, fault_before_code, IsFaultOf, IsVerdict}

-- all that a certificate asks for, but the target
pub record Passed (q : ChooseTree) (b : BlockTree) : Type 0 where
  pub number : b.number ≡ q.number
  pub counts : case_refusal (layout q) q.relation ≡ None
  pub written : written_passes (layout q) (negation_normal true q.relation) ≡ false
  pub answers : List Answer
  pub cases : AreEliminated limits (first_systems (layout q) q.relation) b.cases answers

unless_fault : (b : Bool) (w : Why) (later : Option Fault) → fault_if b w later ≡ None → (b ≡ false) × (later ≡ None)
unless_fault true w later e = cc
unless_fault false w later e = (refl, e)

unless_refusal : (o : Option Refusal) (later : Option Fault) → fault_of_refusal o later ≡ None → (o ≡ None) × (later ≡ None)
unless_refusal (Some r) later e = cc
unless_refusal None later e = (refl, e)

is_true : (b : Bool) → not b ≡ false → b ≡ true
is_true true e = refl
is_true false e = cc

unless_in : (i : ℕ) (f : Followed) (later : Option Fault) → fault_in i f later ≡ None → (a : Answer) × (f ≡ Ok a) × (later ≡ None)
unless_in i (Ok a) later e = (a, refl, e)
unless_in i (Err x) later e = cc

cases_pass : (i : ℕ) (ms : List System) (cases : List (List Act)) → length cases ≡ length ms → case_fault limits i ms cases ≡ None →
    (answers : List Answer) × AreEliminated limits ms cases answers
unfolding case_fault
cases_pass i [] [] l e = ([], tt)
cases_pass i [] (acts ∷ cases) l e = absurd (omega arith)
cases_pass i (m ∷ ms) [] l e = absurd (omega arith)
cases_pass i (m ∷ ms) (acts ∷ cases) l e =
    let s = unless_in i (eliminated limits m acts) (case_fault limits (i + 1) ms cases) e in
    let r = cases_pass (i + 1) ms cases (omega arith) s.2 in
    (s.0 ∷ r.0, (s.1, r.1))

pub passed : (q : ChooseTree) (b : BlockTree) → fault_before_code q b ≡ None → Passed q b
unfolding fault_before_code
passed q b e =
    let ms = first_systems (layout q) q.relation in
    let e1 = unless_fault (not (b.number == q.number)) Blocks _ e in
    let e2 = unless_refusal (case_refusal (layout q) q.relation) _ e1.1 in
    let e3 = unless_fault (written_passes (layout q) (negation_normal true q.relation)) (Refused Past) _ e2.1 in
    let e4 = unless_fault (not (length b.cases == length ms)) Blocks _ e3.1 in
    let c = cases_pass 1 ms b.cases (eqb-true (length b.cases) (length ms) (is_true (length b.cases == length ms) e4.0)) e4.1 in
    record { number = eqb-true b.number q.number (is_true (b.number == q.number) e1.0); counts = e2.0; written = e3.0; answers = c.0; cases = c.1 }

pub passed_certifies : (q : ChooseTree) (b : BlockTree) (p : Passed q b) → b.target ≡ target_with q p.answers → Certifies q b
passed_certifies q b p t = record { number = p.number; counts = p.counts; written = p.written; answers = p.answers; cases = p.cases; target = t }

-- the steps make one answer
same_answers : (l : Limits) (ms : List System) (cases : List (List Act)) (xs ys : List Answer) → AreEliminated l ms cases xs →
    AreEliminated l ms cases ys → xs ≡ ys
same_answers l [] [] [] [] h k = refl
same_answers l [] [] [] (y ∷ ys) h k = absurd k
same_answers l [] [] (x ∷ xs) ys h k = absurd h
same_answers l [] (acts ∷ cases) xs ys h k = absurd h
same_answers l (m ∷ ms) [] xs ys h k = absurd h
same_answers l (m ∷ ms) (acts ∷ cases) [] ys h k = absurd h
same_answers l (m ∷ ms) (acts ∷ cases) (x ∷ xs) [] h k = absurd k
same_answers l (m ∷ ms) (acts ∷ cases) (x ∷ xs) (y ∷ ys) h k =
    let e : ◌≡◌ {A = Followed} (Ok x) (Ok y) = sym h.0 ∙ k.0 in
    let q : x ≡ y = cc in
    rw (q, same_answers l ms cases xs ys h.1 k.1) refl

pub code_differs : (q : ChooseTree) (b : BlockTree) (p : Passed q b) → (b.target ≡ target_with q p.answers → ⊥) → Certifies q b → ⊥
code_differs q b p n c = n (c.target ∙ ap (target_with q) (same_answers limits (first_systems (layout q) q.relation) b.cases c.answers p.answers c.cases p.cases))

-- ---- a certificate has no fault
same_length : (l : Limits) (ms : List System) (cases : List (List Act)) (xs : List Answer) → AreEliminated l ms cases xs → length cases ≡ length ms
same_length l [] [] [] h = refl
same_length l [] [] (x ∷ xs) h = absurd h
same_length l [] (acts ∷ cases) xs h = absurd h
same_length l (m ∷ ms) [] xs h = absurd h
same_length l (m ∷ ms) (acts ∷ cases) [] h = absurd h
same_length l (m ∷ ms) (acts ∷ cases) (x ∷ xs) h = let k = same_length l ms cases xs h.1 in omega arith

no_case_fault : (i : ℕ) (ms : List System) (cases : List (List Act)) (xs : List Answer) → AreEliminated limits ms cases xs → case_fault limits i ms cases ≡ None
unfolding case_fault
no_case_fault i [] cases xs h = refl
no_case_fault i (m ∷ ms) [] xs h = refl
no_case_fault i (m ∷ ms) (acts ∷ cases) [] h = absurd h
no_case_fault i (m ∷ ms) (acts ∷ cases) (x ∷ xs) h = rw h.0 (no_case_fault (i + 1) ms cases xs h.1)

-- with the block's number, within the limits of the choose and with one list of steps for each case, only the steps have faults
pub steps_alone : (q : ChooseTree) (b : BlockTree) → b.number ≡ q.number → case_refusal (layout q) q.relation ≡ None →
    written_passes (layout q) (negation_normal true q.relation) ≡ false → length b.cases ≡ length (first_systems (layout q) q.relation) →
    fault_before_code q b ≡ case_fault limits 1 (first_systems (layout q) q.relation) b.cases
unfolding fault_before_code
steps_alone q b n c w l = rw (eq-eqb b.number q.number n, c, w, eq-eqb (length b.cases) (length (first_systems (layout q) q.relation)) l) refl

pub passed_without_fault : (q : ChooseTree) (b : BlockTree) → Passed q b → fault_before_code q b ≡ None
passed_without_fault q b p =
    let ms = first_systems (layout q) q.relation in
    steps_alone q b p.number p.counts p.written (same_length limits ms b.cases p.answers p.cases) ∙ no_case_fault 1 ms b.cases p.answers p.cases

pub certified_without_fault : (q : ChooseTree) (b : BlockTree) → Certifies q b → fault_before_code q b ≡ None
certified_without_fault q b c = passed_without_fault q b
    (record { number = c.number; counts = c.counts; written = c.written; answers = c.answers; cases = c.cases })

-- ---- one verdict
one_fault : (q : ChooseTree) (b : BlockTree) (f g : Fault) → IsFaultOf q b f → IsFaultOf q b g → f ≡ g
one_fault q b f g (inl e) (inl h) = let s : ◌≡◌ {A = Option Fault} (Some f) (Some g) = sym e ∙ h in cc
one_fault q b f g (inl e) (inr (n, d, h)) = let s : ◌≡◌ {A = Option Fault} (Some f) None = sym e ∙ n in cc
one_fault q b f g (inr (n, d, e)) (inl h) = let s : ◌≡◌ {A = Option Fault} None (Some g) = sym n ∙ h in cc
one_fault q b f g (inr (n, d, e)) (inr (m, k, h)) = e ∙ sym h

never_both : (q : ChooseTree) (b : BlockTree) (f : Fault) → Certifies q b → IsFaultOf q b f → ⊥
never_both q b f c (inl e) = let s : ◌≡◌ {A = Option Fault} None (Some f) = sym (certified_without_fault q b c) ∙ e in cc
never_both q b f c (inr (n, d, e)) = d c

pub one_verdict : (qs : List ChooseTree) (bs : List BlockTree) (v w : Verdict) → IsVerdict qs bs v → IsVerdict qs bs w → v ≡ w
one_verdict [] [] v w h k = h ∙ sym k
one_verdict [] (b ∷ bs) v w h k = h ∙ sym k
one_verdict (q ∷ qs) [] v w h k = h ∙ sym k
one_verdict (q ∷ qs) (b ∷ bs) v w (inl h) (inl k) = one_verdict qs bs v w h.1 k.1
one_verdict (q ∷ qs) (b ∷ bs) v w (inl h) (inr k) = absurd (never_both q b k.0 h.0 k.1)
one_verdict (q ∷ qs) (b ∷ bs) v w (inr h) (inl k) = absurd (never_both q b h.0 k.0 h.1)
one_verdict (q ∷ qs) (b ∷ bs) v w (inr h) (inr k) =
    h.2 ∙ ap (λ (f : Fault). Rejected q.number f.0 f.1 f.2) (one_fault q b h.0 k.0 h.1 k.1) ∙ sym k.2
