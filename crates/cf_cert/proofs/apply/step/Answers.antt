use Rattle.std.proofs.Common.{rules, ◌≡◌, sym, subst}
use Rattle.cf_linear.specs.Stages.{limits}
use Rattle.cf_linear.specs.Views.{system_of}
use Rattle.cf_linear.proofs.MapLemmas.{back}
use Rattle.cf_elim.specs.declared.act.Act.TheVariants.{Clean, Mix, Last, Search, Drop}
use Rattle.cf_cert.specs.Applying.{apply, IsWithinAct}
use Rattle.cf_cert.specs.Stepping.{ApplyIs}
use Rattle.cf_cert.proofs.StepLaws.{apply_clean, apply_mix, apply_last, apply_search, apply_drop}
use Rattle.cf_cert.proofs.apply.step.Goals as goal

pub returns-in-Clean : goal.returns-in-Clean
returns-in-Clean c =
    let m = system_of c.args.system in
    let is : c.args.act ≡ Clean = search rules in
    subst (λ act. ApplyIs (apply limits c.args.tuples m act) c.clean_rows.result) (sym is)
    (subst (λ a. ApplyIs a c.clean_rows.result) (sym (apply_clean c.args.tuples m)) c.clean_rows.ensures)

pub returns-in-Mix : goal.returns-in-Mix
returns-in-Mix c =
    let m = system_of c.args.system in
    let x = c.in-Mix in
    let is : c.args.act ≡ Mix x.x x.y x.a x.b x.c x.d = search rules in
    let w = subst IsWithinAct is c.requires.within in
    let h = rw (back x.a w.0, back x.b w.1, back x.c w.2, back x.d w.3) at c.mix_unknowns.ensures in
    subst (λ act. ApplyIs (apply limits c.args.tuples m act) c.mix_unknowns.result) (sym is)
    (subst (λ a. ApplyIs a c.mix_unknowns.result) (sym (apply_mix c.args.tuples m x.x x.y x.a x.b x.c x.d)) h)

pub returns-in-Last : goal.returns-in-Last
returns-in-Last c =
    let m = system_of c.args.system in
    let is : c.args.act ≡ Last c.in-Last.index = search rules in
    subst (λ act. ApplyIs (apply limits c.args.tuples m act) c.end_equation.result) (sym is)
    (subst (λ a. ApplyIs a c.end_equation.result) (sym (apply_last c.args.tuples m c.in-Last.index)) c.end_equation.ensures)

pub returns-in-Search : goal.returns-in-Search
returns-in-Search c =
    let m = system_of c.args.system in
    let s = c.in-Search in
    let is : c.args.act ≡ Search s.column s.lower = search rules in
    subst (λ act. ApplyIs (apply limits c.args.tuples m act) c.search_side.result) (sym is)
    (subst (λ a. ApplyIs a c.search_side.result) (sym (apply_search c.args.tuples m s.column s.lower)) c.search_side.ensures)

pub returns-in-Drop : goal.returns-in-Drop
returns-in-Drop c =
    let m = system_of c.args.system in
    let is : c.args.act ≡ Drop c.in-Drop.column = search rules in
    subst (λ act. ApplyIs (apply limits c.args.tuples m act) c.drop_unknown.result) (sym is)
    (subst (λ a. ApplyIs a c.drop_unknown.result) (sym (apply_drop c.args.tuples m c.in-Drop.column)) c.drop_unknown.ensures)
