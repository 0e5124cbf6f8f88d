use Rattle.std.proofs.Common.{◌≡◌, map, take}
use Rattle.cf_form.specs.Told.{told}
use Rattle.cf_form.specs.ToldView.{choose_view, told_choose}
use Rattle.cf_form.proofs.telling.tell_chooses.Given as goal

abbrev pub invariant-loop-choose : goal.invariant-loop-choose
invariant-loop-choose l = map told_choose l.all.items ≡ map told (map choose_view (take l.choose-index l.chooses))
