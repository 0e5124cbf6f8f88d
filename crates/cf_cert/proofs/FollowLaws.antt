-- Steps that follow each other to the end solve the system that they begin with.
use Rattle.std.proofs.Common.{◌≡◌, ℕ, ◌+◌, ◌≤◌, List, [], ◌∷◌, length, true, Option, Some, None, Ok, Err, All, refl, sym}
use Rattle.std.proofs.Common.{arith, subst}
use Rattle.std.specs.List.{fold}
use Rattle.std.proofs.lemmas.Bool.{eqb-true}
use Rattle.std.proofs.lemmas.List.Elements.{All-nil}
use Rattle.std.proofs.lemmas.List.Sums.{fold-append}
use Rattle.cf_linear.specs.declared.refusal.Refusal.{Refusal}
use Rattle.cf_linear.specs.Systems.{System, Answer, no_answer, then_answer}
use Rattle.cf_linear.specs.Stages.{limits, first_count, times_bound}
use Rattle.cf_linear.specs.Solved.{Owes}
use Rattle.cf_linear.proofs.BoolLemmas.{on_bool}
use Rattle.cf_linear.proofs.SolvedLemmas.{solved_case, step_then, step_none}
use Rattle.cf_cases.specs.Holding.{EachOf}
use Rattle.cf_choose.specs.CaseArms.{IsWritable}
use Rattle.cf_choose.specs.Eliminations.{IsEliminated}
use Rattle.cf_choose.proofs.DefinedArms.{back_written, steps_written}
use Rattle.cf_elim.specs.Returning.{Returns}
use Rattle.cf_elim.specs.Stages.{IsReady}
use Rattle.cf_elim.proofs.ReturnLaws.{returns_none, returns_then}
use Rattle.cf_elim.proofs.SearchLaws.{IsSome, bounds_of, some_then, are_bounds}
use Rattle.cf_elim.proofs.StageSmall.{StepsSmall, BackSmall, RowsSmall, steps_join, back_join}
use Rattle.cf_elim.specs.declared.act.Act.{Act}
use Rattle.cf_cert.specs.declared.verdict.Why.TheVariants.{Left}
use Rattle.cf_cert.specs.Applying.{Applied, apply, IsWithinAct}
use Rattle.cf_cert.specs.Certifying.{Followed, is_over, after_first, follow, unless_refused, eliminated}
use Rattle.cf_cert.proofs.ApplyLaws.{Leads, applies}

-- nothing is left, and what was made owes what a step does, has rows of the program, and few tuples
pub record Ends (n : ℕ) (m : System) (a : Answer) : Type 0 where
  pub owes : Owes m a
  pub returns : Returns m a
  pub steps : StepsSmall a.steps
  pub back : BackSmall a.back
  pub some : All IsSome (bounds_of a.bounds)
  pub few : fold times_bound n a.bounds ≤ 1048576
  pub over : is_over a.system ≡ true

same_ok : (x a : Answer) → ◌≡◌ {A = Followed} (Ok x) (Ok a) → x ≡ a
same_ok x a e = cc

-- the answer behind the first step
record Behind (a : Answer) (f : Followed) (t : Answer) : Type 0 where
  later : Answer
  is : f ≡ Ok later
  whole : then_answer a later ≡ t

behind : (a : Answer) (f : Followed) (t : Answer) → after_first a f ≡ Ok t → Behind a f t
behind a (Ok b) t e = record { later = b; is = refl; whole = same_ok (then_answer a b) t e }
behind a (Err x) t e = cc

none_left : (n : ℕ) (m : System) → n ≤ 1048576 → IsReady m → is_over m ≡ true → Ends n m (no_answer m)
none_left n m few r e = record {
  owes = step_none m r.formed.constant r.formed.below;
  returns = returns_none m;
  steps = tt;
  back = tt;
  some = All-nil IsSome;
  few = few;
  over = e;
}

then_ends : (n : ℕ) (m : System) (a b : Answer) → Leads n m a → Ends (fold times_bound n a.bounds) a.system b → Ends n m (then_answer a b)
then_ends n m a b h k = record {
  owes = step_then m a b h.owes k.owes;
  returns = returns_then m a b h.returns k.returns;
  steps = steps_join a.steps b.steps h.small.steps k.steps;
  back = back_join b.back a.back k.back h.small.back;
  some = some_then a.bounds b.bounds h.some k.some;
  few = subst (λ z. z ≤ 1048576) (sym (fold-append times_bound n a.bounds b.bounds)) k.few;
  over = k.over;
}

-- the steps from the answer of the first one on
after_step : (i n : ℕ) (m : System) (act : Act) (acts : List Act) (o : Applied) (t : Answer) → apply limits n m act ≡ o →
    ◌≡◌ {A = Followed} (elim o [ Err w ↦ Err (i, w) | Ok a ↦ after_first a (follow limits (i + 1) (fold times_bound n a.bounds) a.system acts) ]) (Ok t) →
    (a : Answer) × (apply limits n m act ≡ Ok a) × Behind a (follow limits (i + 1) (fold times_bound n a.bounds) a.system acts) t
after_step i n m act acts (Err w) t p e = cc
after_step i n m act acts (Ok a) t p e = (a, p, behind a (follow limits (i + 1) (fold times_bound n a.bounds) a.system acts) t e)

pub follow_ends : (acts : List Act) (i n : ℕ) (m : System) (t : Answer) → n ≤ 1048576 → IsReady m → RowsSmall m → EachOf IsWithinAct acts →
    follow limits i n m acts ≡ Ok t → Ends n m t
unfolding follow
follow_ends [] i n m t few r h w e = on_bool (is_over m)
    (λ o. let q : ◌≡◌ {A = Followed} (Ok (no_answer m)) (Ok t) = rw o at e in subst (Ends n m) (same_ok (no_answer m) t q) (none_left n m few r o))
    (λ o. let q : ◌≡◌ {A = Followed} (Err (i, Left)) (Ok t) = rw o at e in cc)
follow_ends (act ∷ acts) i n m t few r h w e =
    let s = after_step i n m act acts (apply limits n m act) t refl e in
    let a = s.0 in
    let l = applies n m act a r h w.0 s.1 in
    let b = s.2 in
    subst (Ends n m) b.whole
    (then_ends n m a b.later l (follow_ends acts (i + 1) (fold times_bound n a.bounds) a.system b.later (l.few few) l.ready l.small.rows w.1 b.is))

-- ---- the case
-- the system is solved by the answer, whose parts are those of an arm
pub record IsCaseSolved (m : System) (a : Answer) : Type 0 where
  pub eliminated : IsEliminated m a
  pub writable : IsWritable a

record NoneLeft (m : System) : Type 0 where
  unknown : m.unknown ≡ []
  equations : m.equations ≡ []
  inequalities : m.inequalities ≡ []

none_of : {A : Type 0} (xs : List A) (n : ℕ) → n + length xs ≡ 0 → (n ≡ 0) × (xs ≡ [])
none_of [] n e = (omega arith, refl)
none_of (x ∷ xs) n e = absurd (omega arith)

left_none : (m : System) → is_over m ≡ true → NoneLeft m
left_none m e =
    let s : length m.unknown + length m.equations + length m.inequalities ≡ 0 = eqb-true (length m.unknown + length m.equations + length m.inequalities) 0 e in
    let p = none_of m.inequalities (length m.unknown + length m.equations) s in
    let q = none_of m.equations (length m.unknown) p.0 in
    record { unknown = (none_of m.unknown 0 (let z = q.0 in omega arith)).1; equations = q.1; inequalities = p.1 }

solved_from : (m : System) (a : Answer) → Ends 1 m a → IsCaseSolved m a
solved_from m a h =
    let none = left_none a.system h.over in
    let bounds = are_bounds a.bounds h.some h.few in
    record {
      eliminated = record {
        solved = solved_case m a h.owes none.equations none.inequalities;
        owes = h.owes;
        comes = h.returns.comes;
        done = none.unknown;
        steps = h.returns.steps;
        back = h.returns.back;
        bounds = bounds;
      };
      writable = record { steps = steps_written a.steps h.steps h.returns.steps; back = back_written a.back h.back h.returns.back; bounds = bounds };
    }

counted : (o : Option Refusal) (f : Followed) (t : Answer) → unless_refused o f ≡ Ok t → f ≡ Ok t
counted (Some r) f t e = cc
counted None f t e = e

pub eliminated_solves : (m : System) (acts : List Act) (a : Answer) → IsReady m → RowsSmall m → EachOf IsWithinAct acts →
    eliminated limits m acts ≡ Ok a → IsCaseSolved m a
unfolding eliminated
eliminated_solves m acts a r h w e =
    solved_from m a (follow_ends acts 1 1 m a (omega arith) r h w (counted (first_count limits m) (follow limits 1 1 m acts) a e))
