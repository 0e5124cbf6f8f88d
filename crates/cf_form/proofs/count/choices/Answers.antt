use Rattle.std.proofs.Common.{◌≡◌, ◌-◌, ◌^◌, ap, ◌∙◌, arith}
use Rattle.cf_tree.specs.RelSize.{capped}
use Rattle.cf_form.specs.Alternatives.{parts_of}
use Rattle.cf_form.specs.WideView.{wide_terms}
use Rattle.cf_form.proofs.CountLaws.{parts_are}
use Rattle.cf_form.proofs.count.choices.Goals as goal

pub returns : goal.returns
returns c =
    let further : c.saturating_sub.result ≡ parts_of (wide_terms c.args.parts.now) - 1 =
    omega (arith, c.saturating_sub.ensures, parts_are c.args.parts.now) in
    c.power_of_two.ensures ∙ ap (λ n. capped (2 ^ n)) further
