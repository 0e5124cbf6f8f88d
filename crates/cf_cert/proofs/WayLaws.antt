-- The steps of a case, as a loop follows them.
use Rattle.std.proofs.Common.{◌≡◌, ℕ, zero, suc, ◌+◌, ◌<◌, ◌≤◌, List, [], ◌∷◌, length, drop, get_or, true, false, Result, Ok, Err}
use Rattle.std.proofs.Common.{None, refl, sym, ◌∙◌, ap, arith, subst, append_assoc}
use Rattle.std.specs.Prelude.{reverse}
use Rattle.std.specs.List.{fold}
use Rattle.std.proofs.lemmas.List.{append-nil}
use Rattle.cf_linear.specs.declared.system.System.{System as DeclaredSystem}
use Rattle.cf_linear.specs.Systems.{System, Answer, no_answer, then_answer}
use Rattle.cf_linear.specs.Stages.{limits, first_count, times_bound}
use Rattle.cf_linear.specs.Views.{system_of}
use Rattle.cf_linear.proofs.BoolLemmas.{on_bool}
use Rattle.cf_cases.specs.Holding.{EachOf}
use Rattle.cf_elim.specs.declared.fault.ElimFault.{ElimFault}
use Rattle.cf_elim.specs.declared.fault.ElimFault.TheVariants.{Refused as ElimRefused, NoMemory as ElimNoMemory}
use Rattle.cf_elim.specs.declared.output.RunOutput.{RunOutput}
use Rattle.cf_elim.specs.declared.output.StepOutput.{StepOutput}
use Rattle.cf_elim.specs.Stages.{IsReady, made_answer, whole_answer, CountIs}
use Rattle.cf_elim.proofs.CaseLaws.{whole_none, whole_more}
use Rattle.cf_elim.specs.declared.act.Act.{Act}
use Rattle.cf_cert.specs.declared.follow.Way.{Way}
use Rattle.cf_cert.specs.declared.follow.CaseFault.{CaseFault}
use Rattle.cf_cert.specs.declared.next.ApplyFault.{ApplyFault}
use Rattle.cf_cert.specs.declared.next.ApplyFault.TheVariants.{Rejected, NoMemory}
use Rattle.cf_cert.specs.declared.next.Next.{Next}
use Rattle.cf_cert.specs.declared.verdict.Why.{Why}
use Rattle.cf_cert.specs.declared.verdict.Why.TheVariants.{Left}
use Rattle.cf_cert.specs.Applying.{Applied, apply}
use Rattle.cf_cert.specs.Certifying.{Followed, is_over, after_first, follow, unless_refused, eliminated}
use Rattle.cf_cert.specs.Following.{CaseIs, IsAdded, IsAdvanced, WayIs, at_step, end_of}
use Rattle.cf_cert.specs.Stepping.{ApplyIs, fault_of}
use Rattle.cf_cert.proofs.ApplyLaws.{ready_after}

-- ---- what all steps make
-- one step more
pub advanced : (v w : Way) (x : Next) (act : Act) → IsReady (system_of v.system) →
    apply limits v.tuples (system_of v.system) act ≡ Ok (made_answer (system_of x.system) x.made) → IsAdded v.whole v.tuples x w →
    IsAdvanced v (apply limits v.tuples (system_of v.system) act) w
advanced v w x act r e h =
    let is : apply limits v.tuples (system_of v.system) act ≡ Ok (made_answer (system_of w.system) x.made) =
    e ∙ ap (λ (s : DeclaredSystem). Ok (made_answer (system_of s) x.made)) (sym h.system) in
    record {
      made = x.made;
      is = is;
      ready = ready_after v.tuples (system_of v.system) act (made_answer (system_of w.system) x.made) r is;
      tuples = h.tuples;
      whole = whole_more (system_of v.system) (system_of w.system) v.whole w.whole x.made h.bounds h.steps h.later;
    }

-- a step that did not apply
pub way_faulted : (v : Way) (a : Applied) (f : ApplyFault) → ApplyIs a (Err f) → WayIs v a (Err f)
way_faulted v a (Rejected w) h = h
way_faulted v a NoMemory h = h

-- ---- on the way
-- the steps from number `step` on go on from the case after i steps
pub record IsOnWay (m : System) (acts : List Act) (i step : ℕ) (w : Way) : Type 0 where
  pub ready : IsReady (system_of w.system)
  pub count : step ≡ i + 1
  pub onward : follow limits 1 1 m acts ≡
      after_first (whole_answer (system_of w.system) w.whole) (follow limits step w.tuples (system_of w.system) (drop i acts))

after_none : (m : System) (f : Followed) → after_first (no_answer m) f ≡ f
after_none m (Ok b) = rw (append-nil b.back) refl
after_none m (Err x) = refl

after_then : (a b : Answer) (f : Followed) → after_first a (after_first b f) ≡ after_first (then_answer a b) f
after_then a b (Ok c) = rw (append_assoc a.steps b.steps c.steps, append_assoc c.back b.back a.back, append_assoc a.bounds b.bounds c.bounds) refl
after_then a b (Err x) = refl

pub way_begins : (s : DeclaredSystem) (acts : List Act) (w : RunOutput) → IsReady (system_of s) → w.bounds.items ≡ [] → w.steps.items ≡ [] →
    w.later.items ≡ [] → IsOnWay (system_of s) acts 0 1 (record { system = s; tuples = 1; whole = w })
way_begins s acts w r b st l = record {
  ready = r;
  count = refl;
  onward = sym (ap (λ a. after_first a (follow limits 1 1 (system_of s) acts)) (whole_none (system_of s) w b st l) ∙
      after_none (system_of s) (follow limits 1 1 (system_of s) acts));
}

-- what comes of the answer of a step
abbrev continued : ℕ → ℕ → List Act → Applied → Followed
continued i n acts o = elim o [
  | Err w ↦ Err (i, w)
  | Ok a ↦ after_first a (follow limits (i + 1) (fold times_bound n a.bounds) a.system acts)
]

follow_applied : (i n : ℕ) (m : System) (act : Act) (acts : List Act) (a : Answer) → apply limits n m act ≡ Ok a →
    follow limits i n m (act ∷ acts) ≡ after_first a (follow limits (i + 1) (fold times_bound n a.bounds) a.system acts)
unfolding follow
follow_applied i n m act acts a e = ap (continued i n acts) e

follow_rejected : (i n : ℕ) (m : System) (act : Act) (acts : List Act) (w : Why) → apply limits n m act ≡ Err w →
    follow limits i n m (act ∷ acts) ≡ Err (i, w)
unfolding follow
follow_rejected i n m act acts w e = ap (continued i n acts) e

pub dropped_one : {A : Type 0} (xs : List A) (i : ℕ) (x : A) → i < length xs → x ≡ get_or xs i x → drop i xs ≡ x ∷ drop (i + 1) xs
dropped_one [] i x l e = absurd (omega arith)
dropped_one (y ∷ xs) zero x l e = rw e refl
dropped_one (y ∷ xs) (suc i) x l e =
    dropped_one xs i x (omega arith) e ∙ ap (λ k. x ∷ drop k (y ∷ xs)) (next i)
  where
    next : (i : ℕ) → suc (i + 1) ≡ suc i + 1
    next i = omega arith

way_more : (m : System) (acts : List Act) (i step : ℕ) (act : Act) (v w : Way) → i < length acts → act ≡ get_or acts i act →
    IsAdvanced v (apply limits v.tuples (system_of v.system) act) w → IsOnWay m acts i step v → IsOnWay m acts (i + 1) (step + 1) w
way_more m acts i step act v w l e h o =
    let s = dropped_one acts i act l e in
    let rest = drop (i + 1) acts in
    let a = whole_answer (system_of v.system) v.whole in
    let b = made_answer (system_of w.system) h.made in
    let f = follow_applied step v.tuples (system_of v.system) act rest b h.is in
    record {
      ready = h.ready;
      count = let q = o.count in omega arith;
      onward =
          o.onward ∙ ap (λ xs. after_first a (follow limits step v.tuples (system_of v.system) xs)) s ∙ ap (after_first a) f ∙
          after_then a b (follow limits (step + 1) (fold times_bound v.tuples b.bounds) (system_of w.system) rest) ∙
          ap (λ x. after_first x (follow limits (step + 1) (fold times_bound v.tuples b.bounds) (system_of w.system) rest)) (sym h.whole) ∙
          ap (λ n. after_first (whole_answer (system_of w.system) w.whole) (follow limits (step + 1) n (system_of w.system) rest)) (sym h.tuples);
    }

way_fails : (m : System) (acts : List Act) (i step : ℕ) (act : Act) (v : Way) (f : ApplyFault) → i < length acts → act ≡ get_or acts i act →
    WayIs v (apply limits v.tuples (system_of v.system) act) (Err f) → IsOnWay m acts i step v → CaseIs (follow limits 1 1 m acts) (Err (at_step step f))
way_fails m acts i step act v NoMemory l e h o = tt
way_fails m acts i step act v (Rejected w) l e h o =
    let a = whole_answer (system_of v.system) v.whole in
    o.onward ∙ ap (λ xs. after_first a (follow limits step v.tuples (system_of v.system) xs)) (dropped_one acts i act l e) ∙
    ap (after_first a) (follow_rejected step v.tuples (system_of v.system) act (drop (i + 1) acts) w h)

pub dropped_all : {A : Type 0} (xs : List A) (i : ℕ) → length xs ≤ i → drop i xs ≡ []
dropped_all [] zero l = refl
dropped_all [] (suc i) l = refl
dropped_all (x ∷ xs) zero l = absurd (omega arith)
dropped_all (x ∷ xs) (suc i) l = dropped_all xs i (omega arith)

end_is : (w : Way) (i : ℕ) → after_first (whole_answer (system_of w.system) w.whole) (follow limits i w.tuples (system_of w.system) []) ≡ end_of w i
unfolding follow
end_is w i = on_bool (is_over (system_of w.system))
    (λ t. let a = whole_answer (system_of w.system) w.whole in rw (t, append-nil a.steps, append-nil a.bounds) refl)
    (λ t. rw t refl)

pub end_left : (w : Way) (i : ℕ) → is_over (system_of w.system) ≡ false → end_of w i ≡ Err (i, Left)
end_left w i e = rw e refl

pub end_all : (w : Way) (i : ℕ) (p : StepOutput) → is_over (system_of w.system) ≡ true → p.bounds.items ≡ w.whole.bounds.items →
    p.steps.items ≡ w.whole.steps.items → p.back.items ≡ reverse w.whole.later.items → CaseIs (end_of w i) (Ok p)
end_all w i p e b s k = (system_of w.system, rw (e, b, s, k) refl)

pub way_ends : (m : System) (acts : List Act) (i step : ℕ) (w : Way) (r : Result StepOutput CaseFault) → length acts ≤ i → IsOnWay m acts i step w →
    CaseIs (end_of w step) r → CaseIs (follow limits 1 1 m acts) r
way_ends m acts i step w r l o h =
    let a = whole_answer (system_of w.system) w.whole in
    subst (λ f. CaseIs f r)
    (sym (o.onward ∙ ap (λ xs. after_first a (follow limits step w.tuples (system_of w.system) xs)) (dropped_all acts i l) ∙ end_is w step)) h

pub each_there : {A : Type 0} (P : A → Type 0) (xs : List A) (i : ℕ) (x : A) → i < length xs → x ≡ get_or xs i x → EachOf P xs → P x
each_there P [] i x l e h = absurd (omega arith)
each_there P (y ∷ xs) zero x l e h = subst P (sym e) h.0
each_there P (y ∷ xs) (suc i) x l e h = each_there P xs i x (omega arith) e h.1

-- ---- the same of the element at a place, whatever stands in for one that is not there
own_get : {A : Type 0} (xs : List A) (i : ℕ) (d : A) → i < length xs → get_or xs i d ≡ get_or xs i (get_or xs i d)
own_get [] i d l = absurd (omega arith)
own_get (y ∷ xs) zero d l = refl
own_get (y ∷ xs) (suc i) d l = own_get xs i d (omega arith)

pub each_at : {A : Type 0} (P : A → Type 0) (xs : List A) (i : ℕ) (d : A) → i < length xs → EachOf P xs → P (get_or xs i d)
each_at P xs i d l h = each_there P xs i (get_or xs i d) l (own_get xs i d l) h

pub way_more_at : (m : System) (acts : List Act) (i step : ℕ) (d : Act) (v w : Way) → i < length acts →
    IsAdvanced v (apply limits v.tuples (system_of v.system) (get_or acts i d)) w → IsOnWay m acts i step v → IsOnWay m acts (i + 1) (step + 1) w
way_more_at m acts i step d v w l h o = way_more m acts i step (get_or acts i d) v w l (own_get acts i d l) h o

pub way_fails_at : (m : System) (acts : List Act) (i step : ℕ) (d : Act) (v : Way) (f : ApplyFault) → i < length acts →
    WayIs v (apply limits v.tuples (system_of v.system) (get_or acts i d)) (Err f) → IsOnWay m acts i step v →
    CaseIs (follow limits 1 1 m acts) (Err (at_step step f))
way_fails_at m acts i step d v f l h o = way_fails m acts i step (get_or acts i d) v f l (own_get acts i d l) h o

-- ---- the first system
pub begun_refused : (m : System) (acts : List Act) (f : ElimFault) → CountIs (first_count limits m) (Err f) →
    CaseIs (eliminated limits m acts) (Err (at_step 0 (fault_of f)))
unfolding eliminated
begun_refused m acts (ElimRefused r) e = ap (λ o. unless_refused o (follow limits 1 1 m acts)) e
begun_refused m acts ElimNoMemory e = tt

pub begun_on : (m : System) (acts : List Act) → first_count limits m ≡ None → eliminated limits m acts ≡ follow limits 1 1 m acts
unfolding eliminated
begun_on m acts e = ap (λ o. unless_refused o (follow limits 1 1 m acts)) e
