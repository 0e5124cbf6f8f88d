use Rattle.std.proofs.Common.{◌≡◌, drop, map}
use Rattle.cf_form.specs.Told.{first_passed}
use Rattle.cf_form.specs.ToldView.{choose_view}
use Rattle.cf_form.proofs.chooses.first_passed.Given as goal

abbrev pub invariant-loop-choose : goal.invariant-loop-choose
invariant-loop-choose l = first_passed (map choose_view (drop l.choose-index l.chooses)) ≡ first_passed (map choose_view l.chooses)
