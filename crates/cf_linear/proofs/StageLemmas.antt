-- The elimination as a relation and as a function.
use Rattle.std.proofs.Common.{◌≡◌, ℕ, zero, suc, ◌<◌, ◌+◌, List, length, refl, sym, ◌∙◌, ap, arith}
use Rattle.cf_linear.specs.Stages.{Limits, State, End, Taken, Trace, stop, more, run_for, run_more}

-- a trace of fewer than n steps is what n steps run through
pub run-trace : {l : Limits} {s : State} {as_ : List Taken} {e : End} → Trace l s as_ e → (n : ℕ) → length as_ < n →
    run_for n l s ≡ record { taken = as_; end = e }
unfolding run_for
run-trace t zero h = absurd (omega arith)
run-trace (stop p) (suc n) h = rw (p, run_for) refl
run-trace (more {s = s} {t = t} {a = a} {as_ = as_} {e = e} p k) (suc n) h = rw (p, run_for) (ap (run_more a) (run-trace k n (omega arith)))

-- a state has one trace
pub trace-once : {l : Limits} {s : State} {xs ys : List Taken} {e f : End} → Trace l s xs e → Trace l s ys f → (xs ≡ ys) × (e ≡ f)
trace-once {xs = xs} {ys = ys} p q =
    let a = run-trace p (suc (length xs + length ys)) (omega arith) in
    let b = run-trace q (suc (length xs + length ys)) (omega arith) in
    let c = sym a ∙ b in
    (ap (λ r. r.taken) c, ap (λ r. r.end) c)
