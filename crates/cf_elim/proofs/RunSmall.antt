-- What a run of a system with rows of the program makes are rows of the program.
use Rattle.std.proofs.Common.{List, [], ◌∷◌, map, sym, subst}
use Rattle.cf_linear.specs.Systems.{System, Answer, whole}
use Rattle.cf_linear.specs.Stages.{State, End, Taken, Trace, stop, more, first_state, run, limits}
use Rattle.cf_linear.specs.Chooses.{made_of}
use Rattle.cf_elim.specs.Stages.{IsReady}
use Rattle.cf_elim.proofs.EndLaws.{run_is_trace}
use Rattle.cf_elim.proofs.StageOwes.{stage_leads}
use Rattle.cf_elim.proofs.StageSmall.{StepsSmall, BackSmall, RowsSmall, steps_join, back_join, stage_writes}

pub record MakesSmall (a : Answer) : Type 0 where
  pub steps : StepsSmall a.steps
  pub back : BackSmall a.back

abbrev whole_of : System → List Taken → Answer
whole_of m taken = whole m (map (λ a. a.answer) taken)

trace_small : (s : State) (taken : List Taken) (e : End) → IsReady s.system → RowsSmall s.system → Trace limits s taken e → MakesSmall (whole_of s.system taken)
trace_small s [] e r h (stop p) = record { steps = tt; back = tt }
trace_small s (a ∷ taken) e r h (more {t = t} p k) =
    let w = stage_writes s t a r h p in
    let y = stage_leads s t a r p in
    let again = subst (λ (m : System). MakesSmall (whole_of m taken)) (sym y.here) (trace_small t taken e y.ready w.rows k) in
    record {
      steps = steps_join a.answer.steps (whole_of a.answer.system taken).steps w.steps again.steps;
      back = back_join (whole_of a.answer.system taken).back a.answer.back again.back w.back;
    }

pub run_small : (m : System) → IsReady m → RowsSmall m → MakesSmall (made_of m (run limits m))
run_small m r h = trace_small (first_state m) (run limits m).taken (run limits m).end r h (run_is_trace m r)
