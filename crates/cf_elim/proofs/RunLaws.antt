-- What the steps of a run make together.
use Rattle.std.proofs.Common.{◌≡◌, ℕ, ◌+◌, ◌<◌, ◌^◌, List, [], ◌∷◌, ◌++◌, length, map, refl, sym, ◌∙◌, ap, arith, subst, append_assoc, length-append}
use Rattle.std.proofs.lemmas.Bool.{true≢false}
use Rattle.std.specs.Prelude.{All, ◌≤◌}
use Rattle.std.specs.List.{fold}
use Rattle.std.proofs.lemmas.List.{append-nil, map-append}
use Rattle.std.proofs.lemmas.List.Elements.{All-nil}
use Rattle.std.proofs.lemmas.List.Sums.{fold-append}
use Rattle.cf_tree.specs.Typing.{AreBounds}
use Rattle.cf_linear.specs.Systems.{System, Answer, no_answer, then_answer, whole}
use Rattle.cf_linear.specs.Stages.{State, End, Taken, Stage, ends, goes, stage, Trace, stop, more, first_state, Run, run, limits, times_bound}
use Rattle.cf_linear.specs.Chooses.{made_of}
use Rattle.cf_linear.specs.Solved.{Owes, SolvedBy}
use Rattle.cf_linear.proofs.SolvedLemmas.{solved_case, step_then, step_none}
use Rattle.cf_linear.proofs.StageLemmas.{run-trace}
use Rattle.cf_elim.specs.Returning.{Returns}
use Rattle.cf_elim.specs.Stages.{IsReady, Settled, IsEnd}
use Rattle.cf_elim.proofs.ReturnLaws.{returns_none, returns_then}
use Rattle.cf_elim.proofs.SearchLaws.{IsSome, bounds_of, some_then, are_bounds}
use Rattle.cf_elim.proofs.StageLaws.{stage_says}

then-assoc : (a b c : Answer) → then_answer a (then_answer b c) ≡ then_answer (then_answer a b) c
then-assoc a b c = rw (append_assoc, append_assoc, append_assoc) refl

whole-push : (m : System) (as_ : List Answer) (b : Answer) → whole m (as_ ++ (b ∷ [])) ≡ then_answer (whole m as_) b
whole-push m [] b = rw (append-nil, append-nil, append-nil) refl
whole-push m (a ∷ as_) b = ap (then_answer a) (whole-push a.system as_ b) ∙ then-assoc a (whole a.system as_) b

-- n steps from the first system m led to the state s, and made the answer a
pub record SoFar (m : System) (s : State) (a : Answer) (n : ℕ) : Type 0 where
  pub taken : List Taken
  pub count : length taken ≡ n
  pub made : a ≡ whole m (map (λ t. t.answer) taken)
  pub here : a.system ≡ s.system
  pub onward : (ys : List Taken) (e : End) → Trace limits s ys e → Trace limits (first_state m) (taken ++ ys) e
  pub owes : Owes m a
  pub ready : IsReady s.system
  pub settled : Settled s
  pub returns : Returns m a
  pub tuples : s.tuples ≡ fold times_bound 1 a.bounds
  pub few : s.tuples ≤ 1048576
  pub some : All IsSome (bounds_of a.bounds)

pub so_far_none : (m : System) → IsReady m → SoFar m (first_state m) (no_answer m) 0
so_far_none m r = record {
  taken = [];
  count = refl;
  made = refl;
  here = refl;
  onward = λ ys e t. t;
  owes = step_none m r.formed.constant r.formed.below;
  ready = r;
  settled = λ c. absurd (true≢false (sym c));
  returns = returns_none m;
  tuples = refl;
  few = omega arith;
  some = All-nil IsSome;
}

pub so_far_more : (m : System) (s t : State) (a b : Answer) (f n : ℕ) → SoFar m s a n → stage limits s ≡ goes t (record { answer = b; factor = f }) →
    b.system ≡ t.system →
    Owes s.system b → IsReady t.system → Settled t → SoFar m t (then_answer a b) (n + 1)
so_far_more m s t a b f n h p here o r st =
    let x : Taken = record { answer = b; factor = f } in
    let y = stage_says s t x h.ready p in
    record {
      taken = h.taken ++ (x ∷ []);
      count = length-append h.taken (x ∷ []) ∙ ap (λ k. k + 1) h.count;
      made = ap (λ y. then_answer y b) h.made ∙ sym (whole-push m (map (λ t. t.answer) h.taken) b) ∙
          ap (whole m) (sym (map-append (λ t. t.answer) h.taken (x ∷ [])));
      here = here;
      onward = λ ys e tr. subst (λ z. Trace limits (first_state m) z e) (sym (append_assoc h.taken (x ∷ []) ys)) (h.onward (x ∷ ys) e (more p tr));
      owes = step_then m a b h.owes (subst (λ z. Owes z b) (sym h.here) o);
      ready = r;
      settled = st;
      returns = returns_then m a b h.returns (subst (λ z. Returns z b) (sym h.here) y.returns);
      tuples = y.tuples ∙ ap (λ k. fold times_bound k b.bounds) h.tuples ∙ sym (fold-append times_bound 1 a.bounds b.bounds);
      few = y.few h.few;
      some = some_then a.bounds b.bounds h.some y.some;
    }

-- the run of a system from which so many steps led to an end
pub so_far_end : (m : System) (s : State) (a : Answer) (n : ℕ) (e : End) → SoFar m s a n → n < 2 ^ 64 → stage limits s ≡ ends e →
    ((run limits m).end ≡ e) × (made_of m (run limits m) ≡ a)
unfolding run
so_far_end m s a n e h l p =
    let t = subst (λ z. Trace limits (first_state m) z e) (append-nil h.taken) (h.onward [] e (stop p)) in
    let c : length h.taken ≡ n = h.count in
    let q = run-trace t (2 ^ 64) (omega arith) in
    (ap (λ r. r.end) q, ap (λ (r : Run). made_of m r) q ∙ sym h.made)

-- at the end the case is solved
pub so_far_solved : (m : System) (s : State) (a : Answer) (n : ℕ) (g : Stage) → SoFar m s a n → IsEnd s g → SolvedBy m a
so_far_solved m s a n g h e =
    solved_case m a h.owes (ap (λ (x : System). x.equations) h.here ∙ e.equations)
    (ap (λ (x : System). x.inequalities) h.here ∙ h.settled e.clean e.equations e.unknown)

-- and its searches have few tuples
pub so_far_bounds : (m : System) (s : State) (a : Answer) (n : ℕ) → SoFar m s a n → AreBounds (bounds_of a.bounds)
so_far_bounds m s a n h = are_bounds a.bounds h.some (subst (λ k. k ≤ 1048576) h.tuples h.few)
