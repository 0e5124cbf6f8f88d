-- The answer of a drop, of its parts.
use Rattle.std.proofs.Common.{◌≡◌, ℕ, ◌++◌, List, Bool, true, false, Result, Ok, Err, refl, sym, ◌∙◌, ap, subst}
use Rattle.std.specs.Prelude.{IfOk}
use Rattle.cf_linear.specs.declared.refusal.RowFault.{RowFault}
use Rattle.cf_linear.specs.Rows.{Row}
use Rattle.cf_linear.specs.Systems.{System, How, Answer}
use Rattle.cf_linear.specs.Steps.{free_of, pairs_of, how_between, dropped, drop_passes}
use Rattle.cf_linear.specs.Keep.{In, Formed}
use Rattle.cf_linear.specs.Solved.{Owes}
use Rattle.cf_linear.specs.Views.{system_of}
use Rattle.cf_linear.proofs.FormedLemmas.{kinds_from}
use Rattle.cf_bounds.specs.declared.dropping.Dropped.{Dropped}
use Rattle.cf_bounds.specs.Exact.{IsFree, AreExact}
use Rattle.cf_bounds.specs.Sides.{side}
use Rattle.cf_bounds.specs.Dropping.{without_inequalities, dropped_answer, pairs_pass, with_rows}
use Rattle.cf_bounds.proofs.OwesLemmas.{dropped_step}
use Rattle.cf_bounds.proofs.FormedAgain.{dropped_formed}

pub dropped_is : (m r : System) (x : ℕ) (a : Answer) (all low high rows : List Row) (w : How) → r ≡ without_inequalities m → all ≡ m.inequalities →
    low ≡ side true x all → high ≡ side false x all →
    rows ≡ free_of x all ++ pairs_of x low high → w ≡ how_between x low high → a ≡ with_rows r x rows w → a ≡ dropped m x
unfolding dropped
dropped_is m r x a all low high rows w d k e f g h i = i ∙ rw (d, g, h, e, f, k) refl

pub drop_passes_from : (m : System) (x : ℕ) (low high : List Row) (b : Bool) → pairs_pass x low high ≡ b → low ≡ side true x m.inequalities →
    high ≡ side false x m.inequalities → drop_passes m x ≡ b
unfolding pairs_pass
drop_passes_from m x low high b h e f = rw (e, f) at h

pub drop_owes : (m : System) (x : ℕ) (r : Result Dropped RowFault) → Formed m → In x m.unknown → IsFree x m.equations → AreExact x m.inequalities →
    IfOk r (λ d. dropped_answer d ≡ dropped m x) → IfOk r (λ d. Owes m (dropped_answer d))
drop_owes m x (Ok d) f i free exact e = subst (Owes m) (sym e) (dropped_step m x (kinds_from m f) i free exact)
drop_owes m x (Err z) f i free exact e = tt

pub drop_forms : (m : System) (x : ℕ) (r : Result Dropped RowFault) → Formed m → IsFree x m.equations → IfOk r (λ d. dropped_answer d ≡ dropped m x) →
    IfOk r (λ d. Formed (system_of d.system))
drop_forms m x (Ok d) f free e = subst Formed (sym (ap (λ a. a.system) e)) (dropped_formed m x f free)
drop_forms m x (Err z) f free e = tt
