use Rattle.std.proofs.Common.{◌∙◌, sym}
use Rattle.std.proofs.lemmas.Result.{on_ok_weaker}
use Rattle.cf_linear.specs.Views.{system_of}
use Rattle.cf_equation.specs.Equations.{first_of, first_present}
use Rattle.cf_equation.proofs.PresentLemmas.{none_from, one_from, several_from, first_entry, second_entry}
use Rattle.cf_elim.proofs.ActLaws.{nothing_added, one_added, several_added}
use Rattle.cf_elim.proofs.acts.put_equation.Goals as goal

pub merge-requires-clause-first : goal.merge-requires-clause-first
merge-requires-clause-first c =
    let m = system_of c.args.system.now in
    let s = several_from (first_present m) c.in-Several.x c.in-Several.y (sym c.in-Several.is ∙ c.requires.found) in
    first_entry m c.in-Several.x c.in-Several.y s.0 s.1

pub merge-requires-clause-second : goal.merge-requires-clause-second
merge-requires-clause-second c =
    let m = system_of c.args.system.now in
    let s = several_from (first_present m) c.in-Several.x c.in-Several.y (sym c.in-Several.is ∙ c.requires.found) in
    second_entry m c.in-Several.x c.in-Several.y s.0 s.1

pub returns-in-Nothing : goal.returns-in-Nothing
returns-in-Nothing c =
    let m = system_of c.args.system.now in
    nothing_added (first_of m) (first_present m) c.args.acts.now.items (none_from (first_present m) (sym c.in-Nothing.is ∙ c.requires.found))

pub returns-in-One : goal.returns-in-One
returns-in-One c =
    let m = system_of c.args.system.now in
    let p = one_from (first_present m) c.in-One.field-0 (sym c.in-One.is ∙ c.requires.found) in
    on_ok_weaker c.put.result (λ h. one_added (first_of m) (first_present m) c.in-One.field-0 c.args.acts.now.items c.put.new.acts.items p h) c.put.ensures

pub returns-in-Several : goal.returns-in-Several
returns-in-Several c =
    let m = system_of c.args.system.now in
    let s = several_from (first_present m) c.in-Several.x c.in-Several.y (sym c.in-Several.is ∙ c.requires.found) in
    on_ok_weaker c.put-in-Several.result (λ h. several_added (first_of m) (first_present m) c.in-Several.x c.in-Several.y s.0 c.args.acts.now.items
    c.put-in-Several.new.acts.items s.1 c.merge.result c.merge.ensures h) c.put-in-Several.ensures
