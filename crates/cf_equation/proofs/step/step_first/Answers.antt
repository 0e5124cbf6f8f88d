use Rattle.std.proofs.Common.{◌≡◌, ◌∙◌, sym, false}
use Rattle.cf_linear.specs.Steps.{last, last_passes, merge}
use Rattle.cf_linear.specs.Keep.{Formed, Reaches, Differ}
use Rattle.cf_linear.specs.Solved.{Owes}
use Rattle.cf_linear.specs.Views.{system_of}
use Rattle.cf_equation.specs.Equations.{reduced, first_of, rest_of, first_present, equation_passes}
use Rattle.cf_equation.proofs.PresentLemmas.{one_from, several_from, first_entry, second_entry, one_owes, several_owes, if_ok}
use Rattle.cf_equation.proofs.step.step_first.Goals as goal

pub merge-requires-clause-first : goal.merge-requires-clause-first
merge-requires-clause-first c =
    let m = system_of c.args.system in
    let s = several_from (first_present m) c.in-Several.x c.in-Several.y (sym c.in-Several.is ∙ c.requires.found) in
    first_entry m c.in-Several.x c.in-Several.y s.0 s.1

pub merge-requires-clause-second : goal.merge-requires-clause-second
merge-requires-clause-second c =
    let m = system_of c.args.system in
    let s = several_from (first_present m) c.in-Several.x c.in-Several.y (sym c.in-Several.is ∙ c.requires.found) in
    second_entry m c.in-Several.x c.in-Several.y s.0 s.1

pub returns-in-One-clause-owes : goal.returns-in-One-clause-owes
returns-in-One-clause-owes c =
    let m = system_of c.args.system in
    let p = one_from (first_present m) c.in-One.u (sym c.in-One.is ∙ c.requires.found) in
    if_ok (λ r. reduced r ≡ last m (first_of m) (rest_of m) c.in-One.u) (λ r. Owes m (reduced r)) c.end.result
    (λ r e. (one_owes m c.in-One.u (reduced r) c.requires.formed c.requires.differ c.requires.some p e).owes) c.end.ensures.value

pub returns-in-One-clause-reaches : goal.returns-in-One-clause-reaches
returns-in-One-clause-reaches c =
    let m = system_of c.args.system in
    let p = one_from (first_present m) c.in-One.u (sym c.in-One.is ∙ c.requires.found) in
    if_ok (λ r. reduced r ≡ last m (first_of m) (rest_of m) c.in-One.u) (λ r. Reaches m (reduced r)) c.end.result
    (λ r e. (one_owes m c.in-One.u (reduced r) c.requires.formed c.requires.differ c.requires.some p e).reaches) c.end.ensures.value

pub returns-in-One-clause-formed : goal.returns-in-One-clause-formed
returns-in-One-clause-formed c =
    let m = system_of c.args.system in
    let p = one_from (first_present m) c.in-One.u (sym c.in-One.is ∙ c.requires.found) in
    if_ok (λ r. reduced r ≡ last m (first_of m) (rest_of m) c.in-One.u) (λ r. Formed (system_of r.system)) c.end.result
    (λ r e. (one_owes m c.in-One.u (reduced r) c.requires.formed c.requires.differ c.requires.some p e).formed) c.end.ensures.value

pub returns-in-One-clause-differ : goal.returns-in-One-clause-differ
returns-in-One-clause-differ c =
    let m = system_of c.args.system in
    let p = one_from (first_present m) c.in-One.u (sym c.in-One.is ∙ c.requires.found) in
    if_ok (λ r. reduced r ≡ last m (first_of m) (rest_of m) c.in-One.u) (λ r. Differ r.system.unknown.items) c.end.result
    (λ r e. (one_owes m c.in-One.u (reduced r) c.requires.formed c.requires.differ c.requires.some p e).differ) c.end.ensures.value

pub returns-in-One-clause-fits : goal.returns-in-One-clause-fits
returns-in-One-clause-fits c =
    let m = system_of c.args.system in
    let p = one_from (first_present m) c.in-One.u (sym c.in-One.is ∙ c.requires.found) in
    if_ok (λ r. last_passes m (first_of m) (rest_of m) c.in-One.u ≡ false) (λ r. equation_passes m (first_present m) ≡ false) c.end.result
    (λ r e. rw p e) c.end.ensures.fits

pub returns-in-Several-clause-owes : goal.returns-in-Several-clause-owes
returns-in-Several-clause-owes c =
    let m = system_of c.args.system in
    let s = several_from (first_present m) c.in-Several.x c.in-Several.y (sym c.in-Several.is ∙ c.requires.found) in
    if_ok (λ r. reduced r ≡ merge m (first_of m) c.in-Several.x c.in-Several.y) (λ r. Owes m (reduced r)) c.merge.result
    (λ r e. (several_owes m c.in-Several.x c.in-Several.y s.0 (reduced r) c.requires.formed c.requires.differ c.requires.some s.1 e).owes) c.merge.ensures.value

pub returns-in-Several-clause-reaches : goal.returns-in-Several-clause-reaches
returns-in-Several-clause-reaches c =
    let m = system_of c.args.system in
    let s = several_from (first_present m) c.in-Several.x c.in-Several.y (sym c.in-Several.is ∙ c.requires.found) in
    if_ok (λ r. reduced r ≡ merge m (first_of m) c.in-Several.x c.in-Several.y) (λ r. Reaches m (reduced r)) c.merge.result
    (λ r e. (several_owes m c.in-Several.x c.in-Several.y s.0 (reduced r) c.requires.formed c.requires.differ c.requires.some s.1 e).reaches)
    c.merge.ensures.value

pub returns-in-Several-clause-formed : goal.returns-in-Several-clause-formed
returns-in-Several-clause-formed c =
    let m = system_of c.args.system in
    let s = several_from (first_present m) c.in-Several.x c.in-Several.y (sym c.in-Several.is ∙ c.requires.found) in
    if_ok (λ r. reduced r ≡ merge m (first_of m) c.in-Several.x c.in-Several.y) (λ r. Formed (system_of r.system)) c.merge.result
    (λ r e. (several_owes m c.in-Several.x c.in-Several.y s.0 (reduced r) c.requires.formed c.requires.differ c.requires.some s.1 e).formed)
    c.merge.ensures.value

pub returns-in-Several-clause-differ : goal.returns-in-Several-clause-differ
returns-in-Several-clause-differ c =
    let m = system_of c.args.system in
    let s = several_from (first_present m) c.in-Several.x c.in-Several.y (sym c.in-Several.is ∙ c.requires.found) in
    if_ok (λ r. reduced r ≡ merge m (first_of m) c.in-Several.x c.in-Several.y) (λ r. Differ r.system.unknown.items) c.merge.result
    (λ r e. (several_owes m c.in-Several.x c.in-Several.y s.0 (reduced r) c.requires.formed c.requires.differ c.requires.some s.1 e).differ)
    c.merge.ensures.value
