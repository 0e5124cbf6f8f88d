use Rattle.std.proofs.Common.{map}
use Rattle.std.proofs.lemmas.Result.{IfOk-weaker}
use Rattle.cf_linear.specs.Views.{system_of, step_of}
use Rattle.cf_bounds.specs.CleanAnswers.{cleaned}
use Rattle.cf_bounds.proofs.CleanLaws.{clean_is, held_below}
use Rattle.cf_bounds.proofs.cleaning.cleaned_system.Goals as goal

pub joined-requires : goal.joined-requires
joined-requires c = held_below c.in_ok-unknown.unknown (system_of c.args.system) (system_of c.in_ok-parted.parted.held) c.in_ok-parted.ensures.held c.requires

pub returns : goal.returns
returns c =
    let needs = rw (c.in_ok-parted.ensures.zeros, c.in_ok-parted.ensures.nonnegs) at c.in_ok-needs.ensures in
    IfOk-weaker c.joined.result _ _
    (λ a h. clean_is (system_of c.args.system) c.in_ok-unknown.unknown c.deref.result.now (system_of c.in_ok-parted.parted.held) (cleaned a)
    (map step_of c.in_ok-needs.needs.items) c.in_ok-unknown.ensures c.deref.ensures.value c.in_ok-parted.ensures.held needs h)
    c.joined.ensures
