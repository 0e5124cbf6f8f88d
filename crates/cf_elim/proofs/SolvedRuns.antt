-- The run of a system that ends solved solves it.
use Rattle.std.proofs.Common.{◌≡◌, ℕ, ◌+◌, ◌<◌, ◌^◌, List, [], ◌∷◌, length, refl, sym, ap, subst, ◌∙◌}
use Rattle.std.proofs.lemmas.List.{append-nil}
use Rattle.cf_tree.specs.Typing.{AreBounds}
use Rattle.cf_linear.specs.Systems.{System, Answer, no_answer, then_answer}
use Rattle.cf_linear.specs.Stages.{State, End, solved, Taken, ends, stage, Trace, stop, more, first_state, run, limits}
use Rattle.cf_linear.specs.Chooses.{made_of}
use Rattle.cf_linear.specs.Solved.{Owes, SolvedBy}
use Rattle.cf_linear.proofs.StageLemmas.{trace-once}
use Rattle.cf_elim.specs.Returning.{Returns}
use Rattle.cf_elim.specs.Stages.{IsReady, IsEnd}
use Rattle.cf_elim.proofs.EndLaws.{run_is_trace, run_is_short}
use Rattle.cf_elim.proofs.RunLaws.{SoFar, so_far_none, so_far_more, so_far_end, so_far_solved, so_far_bounds}
use Rattle.cf_elim.proofs.SearchLaws.{bounds_of}
use Rattle.cf_elim.proofs.StageEnds.{stage_ends_solved}
use Rattle.cf_elim.proofs.StageOwes.{stage_leads}

-- the answer solves the system, owes what a step does, leaves no unknown, and comes back; its searches have few tuples
pub record IsRunSolved (m : System) (a : Answer) : Type 0 where
  pub solves : SolvedBy m a
  pub owes : Owes m a
  pub done : a.system.unknown ≡ []
  pub returns : Returns m a
  pub bounds : AreBounds (bounds_of a.bounds)

-- the last state, to which so many steps led
record Reached (m : System) : Type 0 where
  state : State
  answer : Answer
  count : ℕ
  so_far : SoFar m state answer count
  is_end : IsEnd state (stage limits state)

reached : (m : System) (s : State) (a : Answer) (n : ℕ) (taken : List Taken) (e : End) → e ≡ solved → SoFar m s a n → Trace limits s taken e → Reached m
reached m s a n [] e q h (stop p) = record { state = s; answer = a; count = n; so_far = h; is_end = stage_ends_solved s (p ∙ ap (λ x. ends x) q) }
reached m s a n (x ∷ taken) e q h (more {t = t} p k) =
    let y = stage_leads s t x h.ready p in
    reached m t (then_answer a x.answer) (n + 1) taken e q (so_far_more m s t a x.answer x.factor n h p y.here y.owes y.ready y.settled) k

pub run_solved : (m : System) → IsReady m → (run limits m).end ≡ solved → IsRunSolved m (made_of m (run limits m))
run_solved m r e =
    let t : Trace limits (first_state m) (run limits m).taken solved = subst (λ x. Trace limits (first_state m) (run limits m).taken x) e (run_is_trace m r) in
    let h = reached m (first_state m) (no_answer m) 0 (run limits m).taken solved refl (so_far_none m r) t in
    let s = h.so_far in
    let whole : Trace limits (first_state m) s.taken solved =
    subst (λ z. Trace limits (first_state m) z solved) (append-nil s.taken) (s.onward [] solved (stop h.is_end.is)) in
    let short : length s.taken < 2 ^ 64 = subst (λ (z : List Taken). length z < 2 ^ 64) (trace-once t whole).0 (run_is_short m r) in
    let made : made_of m (run limits m) ≡ h.answer = (so_far_end m h.state h.answer h.count solved s (subst (λ k. k < 2 ^ 64) s.count short) h.is_end.is).1 in
    subst (IsRunSolved m) (sym made) (record {
      solves = so_far_solved m h.state h.answer h.count (stage limits h.state) s h.is_end;
      owes = s.owes;
      done = ap (λ (x : System). x.unknown) s.here ∙ h.is_end.unknown;
      returns = s.returns;
      bounds = so_far_bounds m h.state h.answer h.count s;
    })
