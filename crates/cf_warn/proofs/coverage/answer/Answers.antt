use Rattle.std.proofs.Common.{sym, ap, ◌∙◌, subst}
use Rattle.cf_tree.specs.declared.base.Base.TheVariants.{Int}
use Rattle.cf_tree.specs.Typing.{one}
use Rattle.cf_eval.specs.Seen.{plains}
use Rattle.cf_warn.specs.Classes.{covered}
use Rattle.cf_warn.specs.Solutions.{AreMissing}
use Rattle.cf_warn.proofs.ClassLaws.{every_number, no_class}
use Rattle.cf_warn.specs.Covers.{IsCover}
use Rattle.cf_warn.proofs.CoverLaws.{sample_number}
use Rattle.cf_warn.proofs.coverage.answer.Goals as goal

pub missed-requires : goal.missed-requires
missed-requires c =
    let asked = rw c.in-Missing.is at c.requires.exists in
    let p = sample_number c.args.classes.now c.requires.classes c.in-Missing.sample.items asked.1.2 in
    (p.0, c.deref.ensures.value ∙ p.1)

pub returns-in-Always : goal.returns-in-Always
returns-in-Always c =
    let asked = rw c.in-Always.is at c.requires.exists in
    (asked, every_number c.args.classes.now c.requires.classes asked.1.1)

pub returns-in-Missing : goal.returns-in-Missing
returns-in-Missing c =
    let cs = c.args.classes.now in
    let asked = rw c.in-Missing.is at c.requires.exists in
    let m = c.missed.ensures in
    let s = sym c.deref.ensures.value ∙ m.1 in
    subst (IsCover cs) (sym m.2)
    ((c.in-Missing.sample, s, asked), no_class cs c.requires.classes m.0 (subst (AreMissing (one Int) (one Int) (covered cs)) (ap plains s) asked.1.2))
