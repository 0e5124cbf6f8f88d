-- One step more of a loop over lets and needs, or ways back.
use Rattle.std.proofs.Common.{◌≡◌, ℕ, ◌+◌, ◌<◌, List, [], ◌∷◌, ◌++◌, map, take, length, get_or}
use Rattle.std.specs.List.{fold}
use Rattle.std.proofs.lemmas.List.Sums.{fold_push}
use Rattle.cf_tree.specs.CodeTree.{CodeTree}
use Rattle.cf_linear.specs.declared.system.Step.{Step as DeclaredStep}
use Rattle.cf_linear.specs.declared.system.Back.{Back}
use Rattle.cf_linear.specs.Arm.{how_code, ArmBuilder, let_named, step_item, back_item}
use Rattle.cf_linear.specs.Systems.{Step, How}
use Rattle.cf_linear.specs.Views.{step_of, back_of, how_of}
use Rattle.cf_choose.specs.Fitting.{HowFits}
use Rattle.cf_choose.proofs.BoundLemmas.{map_more}
use Rattle.cf_choose.specs.ArmBuilders.{SameBuilder, BackFits, StepFits, StepsFit}
use Rattle.cf_choose.proofs.SameLemmas.{same_then, same_step, same_back}

fit_steps : (ms : List Step) (m : Step) → StepsFit ms → StepFits m → StepsFit (ms ++ (m ∷ []))
fit_steps [] m h f = (f, tt)
fit_steps (n ∷ ms) m h f = (h.0, fit_steps ms m h.1 f)

pub fits_more : (steps : List DeclaredStep) (i : ℕ) (x : DeclaredStep) → i < length steps → x ≡ get_or steps i x → StepsFit (map step_of (take i steps)) →
    StepFits (step_of x) → StepsFit (map step_of (take (i + 1) steps))
fits_more steps i x h e f g = rw (map_more step_of steps i x h e) (fit_steps (map step_of (take i steps)) (step_of x) f g)

pub steps_more : (start now next : ArmBuilder) (steps : List DeclaredStep) (i : ℕ) (x : DeclaredStep) → i < length steps → x ≡ get_or steps i x →
    SameBuilder now (fold step_item start (map step_of (take i steps))) →
    SameBuilder next (step_item now (step_of x)) → SameBuilder next (fold step_item start (map step_of (take (i + 1) steps)))
steps_more start now next steps i x h e s t =
    let ms = map step_of (take i steps) in
    rw (map_more step_of steps i x h e, fold_push step_item start ms (step_of x))
    (same_then next (step_item now (step_of x)) (step_item (fold step_item start ms) (step_of x)) t (same_step now (fold step_item start ms) (step_of x) s))

fit_back : (ws : List (ℕ × How)) (x : ℕ) (w : How) → BackFits ws → HowFits w → BackFits (ws ++ ((x, w) ∷ []))
fit_back [] x w h f = (f, tt)
fit_back ((y, v) ∷ ws) x w h f = (h.0, fit_back ws x w h.1 f)

pub back_fit_more : (back : List Back) (i : ℕ) (x : Back) → i < length back → x ≡ get_or back i x → BackFits (map back_of (take i back)) →
    HowFits (how_of x.how) → BackFits (map back_of (take (i + 1) back))
back_fit_more back i x h e f g = rw (map_more back_of back i x h e) (fit_back (map back_of (take i back)) x.unknown (how_of x.how) f g)

pub back_more : (start now next : ArmBuilder) (back : List Back) (i : ℕ) (x : Back) (code : CodeTree) → i < length back → x ≡ get_or back i x →
    SameBuilder now (fold back_item start (map back_of (take i back))) →
    code ≡ how_code now.names (how_of x.how) → SameBuilder next (let_named now x.unknown code) →
    SameBuilder next (fold back_item start (map back_of (take (i + 1) back)))
back_more start now next back i x code h e s c t =
    let ws = map back_of (take i back) in
    let u : SameBuilder next (back_item now (back_of x)) = rw (← c) t in
    rw (map_more back_of back i x h e, fold_push back_item start ws (back_of x))
    (same_then next (back_item now (back_of x)) (back_item (fold back_item start ws) (back_of x)) u (same_back now (fold back_item start ws) (back_of x) s))
