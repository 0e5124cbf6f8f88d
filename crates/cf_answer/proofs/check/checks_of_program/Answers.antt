use Rattle.std.proofs.Common.{map}
use Rattle.std.proofs.lemmas.Result.{err_from_is_err_and}
use Rattle.cf_tree.specs.DefView.{def_tree}
use Rattle.cf_answer.proofs.FormedLemmas.{conditions_held, formed_lowered}
use Rattle.cf_answer.proofs.MatchClassLemmas.{told_classes}
use Rattle.cf_answer.proofs.check.checks_of_program.Goals as goal

pub checks-requires : goal.checks-requires
checks-requires c =
    let typed = rw c.typed-typed.ensures at c.main.ensures.typed in
    let matches = rw c.typed-typed.ensures at c.in_ok-lowered.ensures.matches in
    let formed = c.args.source.now.formed in
    told_classes (map def_tree formed.typed.defs.items) formed.typed.main _ typed matches

pub returns-in_err-checks : goal.returns-in_err-checks
returns-in_err-checks c =
    let p = err_from_is_err_and c.from_residual-in_err-checks.result c.from_residual-in_err-checks.ensures.1 in
    let typed = rw c.typed-typed.ensures at c.main.ensures.typed in
    let defs = rw c.typed-typed.ensures at c.in_ok-lowered.ensures.defs in
    let matches = rw c.typed-typed.ensures at c.in_ok-lowered.ensures.matches in
    let formed = c.args.source.now.formed in
    let told = rw c.chooses.ensures at c.in_err-checks.ensures in
    λ text is three.
    let s = formed_lowered text formed c.in_ok-lowered.lowered three (is.0, is.1, is.2.formed) typed defs matches in
    rw (p.1, p.2) (told text s (conditions_held text formed (is.0, is.1, is.2.formed)))

pub returns : goal.returns
returns c =
    let typed = rw c.typed-typed.ensures at c.main.ensures.typed in
    let defs = rw c.typed-typed.ensures at c.in_ok-lowered.ensures.defs in
    let matches = rw c.typed-typed.ensures at c.in_ok-lowered.ensures.matches in
    let formed = c.args.source.now.formed in
    let lines = rw (c.chooses.ensures, c.deref.ensures.value) at c.in_ok-checks.ensures in
    λ text is three.
    let s = formed_lowered text formed c.in_ok-lowered.lowered three (is.0, is.1, is.2.formed) typed defs matches in
    record { typed = s.typed; is = s.is; lines = lines text s (conditions_held text formed (is.0, is.1, is.2.formed)) }
