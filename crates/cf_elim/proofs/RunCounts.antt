-- A run that ends solved makes few searches, lets, needs and unknowns.
use Rattle.std.proofs.Common.{◌≡◌, ℕ, zero, suc, ◌+◌, ◌*◌, ◌<◌, ◌≤◌, ◌^◌, List, [], ◌∷◌, length, map, None, refl, sym, ap, ◌∙◌, arith, subst}
use Rattle.std.proofs.lemmas.Bool.{true≢false}
use Rattle.std.proofs.lemmas.List.{length-append}
use Rattle.cf_linear.specs.Systems.{System, Answer, whole}
use Rattle.cf_linear.specs.Stages.{State, End, solved, Taken, ends, goes, stage, clean_stage, first_count, Trace, stop, more, first_state, run, limits}
use Rattle.cf_linear.specs.Chooses.{made_of}
use Rattle.cf_elim.specs.Stages.{IsReady}
use Rattle.cf_elim.proofs.EndLaws.{run_is_trace, count_passed}
use Rattle.cf_elim.proofs.StageEnds.{stage_ends_solved}
use Rattle.cf_elim.proofs.StageOwes.{stage_leads}
use Rattle.cf_elim.proofs.StageCounts.{kept, kept_few, left, left_few, Back, falls, doubles, stage_counts}

-- after j doublings p passes the limit of tuples
abbrev Room : ℕ → ℕ → Type 0
Room zero p = 1048576 < p
Room (suc j) p = Room j (2 * p)

room_more : (j p q : ℕ) → p ≤ q → Room j p → Room j q
room_more zero p q l r = let h : 1048576 < p = r in omega arith
room_more (suc j) p q l r = room_more j (2 * p) (2 * q) (omega arith) r

room_first : Room 21 1
room_first = let h : 1048576 < 2097152 = omega arith in h

-- the unknowns of a step, with those of the steps behind it
step_back : (s t : State) (a : Answer) (j n : ℕ) → Back s t a → t.tuples ≤ 1048576 → Room j s.tuples →
    ((i : ℕ) → Room i t.tuples → n ≤ left t.system + i * 2005001) → n + length a.back ≤ left s.system + j * 2005001
step_back s t a j n (falls p h) few r f = let k = f j (room_more j s.tuples t.tuples p r) in omega arith
step_back s t a zero n (doubles p h) few r f = let k : 1048576 < s.tuples = r in absurd (omega arith)
step_back s t a (suc i) n (doubles p h) few r f = let k = f i (room_more i (2 * s.tuples) t.tuples p r) in omega arith

abbrev whole_of : System → List Taken → Answer
whole_of m taken = whole m (map (λ a. a.answer) taken)

trace_back : (s : State) (taken : List Taken) (e : End) → IsReady s.system → s.tuples ≤ 1048576 → Trace limits s taken e → (j : ℕ) → Room j s.tuples →
    length (whole_of s.system taken).back ≤ left s.system + j * 2005001
trace_back s [] e r l (stop p) j h = omega arith
trace_back s (a ∷ taken) e r l (more {t = t} p k) j h =
    let c = stage_counts s t a r l p in
    let y = stage_leads s t a r p in
    let again : (i : ℕ) → Room i t.tuples → length (whole_of a.answer.system taken).back ≤ left t.system + i * 2005001 =
    λ i q. subst (λ (m : System). length (whole_of m taken).back ≤ left t.system + i * 2005001) (sym y.here) (trace_back t taken e y.ready (c.few l) k i q) in
    let b = step_back s t a.answer j (length (whole_of a.answer.system taken).back) c.back (c.few l) h again in
    omega (arith, b, length-append (whole_of a.answer.system taken).back a.answer.back)

trace_kept : (s : State) (taken : List Taken) (e : End) → IsReady s.system → s.tuples ≤ 1048576 → first_count limits s.system ≡ None → Trace limits s taken e →
    length (whole_of s.system taken).bounds + length (whole_of s.system taken).steps + kept s.system ≤ 2000
trace_kept s [] e r l n (stop p) = let h = kept_few s.system n in omega arith
trace_kept s (a ∷ taken) e r l n (more {t = t} p k) =
    let c = stage_counts s t a r l p in
    let y = stage_leads s t a r p in
    let again =
    subst (λ (m : System). length (whole_of m taken).bounds + length (whole_of m taken).steps + kept t.system ≤ 2000) (sym y.here)
    (trace_kept t taken e y.ready (c.few l) (c.counted n) k) in
    let h = c.kept_is in
    let rest = whole_of a.answer.system taken in
    omega (arith, again, h, length-append a.answer.bounds rest.bounds, length-append a.answer.steps rest.steps)

-- the first step is a Clean of a counted system
first_clean : (m : System) (t : State) (a : Taken) → stage limits (first_state m) ≡ goes t a → first_count limits m ≡ None
unfolding stage clean_stage
first_clean m t a e = (count_passed (first_count limits m) _ t a e).0

first_counted : (m : System) (taken : List Taken) (e : End) → e ≡ solved → Trace limits (first_state m) taken e → first_count limits m ≡ None
first_counted m [] e q (stop p) = let c = (stage_ends_solved (first_state m) (p ∙ ap (λ x. ends x) q)).clean in absurd (true≢false (sym c))
first_counted m (a ∷ taken) e q (more {t = t} p k) = first_clean m t a p

pub run_few : (m : System) → IsReady m → (run limits m).end ≡ solved →
    length (made_of m (run limits m)).bounds + length (made_of m (run limits m)).steps + length (made_of m (run limits m)).back < 2 ^ 26
run_few m r e =
    let t : Trace limits (first_state m) (run limits m).taken solved = subst (λ x. Trace limits (first_state m) (run limits m).taken x) e (run_is_trace m r) in
    let n = first_counted m (run limits m).taken solved refl t in
    let f = left_few m n in
    let w = made_of m (run limits m) in
    let a : length w.bounds + length w.steps + kept m ≤ 2000 = trace_kept (first_state m) (run limits m).taken solved r (omega arith) n t in
    let b : length w.back ≤ left m + 21 * 2005001 = trace_back (first_state m) (run limits m).taken solved r (omega arith) t 21 room_first in
    omega arith
