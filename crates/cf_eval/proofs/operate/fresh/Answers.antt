use Rattle.std.proofs.Common.{◌≡◌, ap, sym, ◌∙◌, rules}
use Rattle.cf_tree.specs.Numbers.{count_of}
use Rattle.cf_tree.specs.Sets.{set_fresh}
use Rattle.cf_eval.specs.Reached.{as_set, met_set}
use Rattle.cf_eval.proofs.Binding.{met_set_is}
use Rattle.cf_eval.proofs.operate.fresh.Goals as goal

pub returns : goal.returns
returns c =
    let e : c.in_ok-fresh.field-0 ≡ set_fresh c.args.avoid.now (count_of c.args.n) = search rules in
    record { told = ap as_set (ap met_set (sym e) ∙ met_set_is _ c.in_ok-fresh.ensures.within) }
