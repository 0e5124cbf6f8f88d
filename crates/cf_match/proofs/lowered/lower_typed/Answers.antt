use Rattle.std.proofs.Common.{◌≡◌, map, All, sym, subst}
use Rattle.cf_tree.specs.DefView.{def_tree}
use Rattle.cf_tree.specs.ExprView.{expr_tree}
use Rattle.cf_program.specs.Lowered.{lowered_def}
use Rattle.cf_program.specs.NoMatch.{HasNoMatch}
use Rattle.cf_program.specs.TypedProgram.{IsTypedProgram}
use Rattle.cf_match.specs.Laws.{AllowTheSame}
use Rattle.cf_match.proofs.Lowering.{stays_typed, same_outcomes, no_match_left}
use Rattle.cf_match.proofs.lowered.lower_typed.Goals as goal

pub new-requires : goal.new-requires
new-requires c =
    let e = subst (λ ds. map def_tree c.in_ok-lowered.lowered.items ≡ map lowered_def (map def_tree ds)) c.defs.ensures.value c.in_ok-lowered.ensures in
    subst (λ m. IsTypedProgram (map def_tree c.in_ok-lowered.lowered.items) m) (sym c.main.ensures.value)
    (stays_typed (map def_tree c.args.typed.now.defs.items) c.in_ok-lowered.lowered.items c.args.typed.now.main e c.defs.ensures.typed)

pub returns-clause-no_match : goal.returns-clause-no_match
returns-clause-no_match c =
    let e = subst (λ ds. map def_tree c.in_ok-lowered.lowered.items ≡ map lowered_def (map def_tree ds)) c.defs.ensures.value c.in_ok-lowered.ensures in
    subst (λ t. All (λ d. HasNoMatch (expr_tree d.body)) t.defs.items) (sym c.new.ensures)
    (no_match_left (map def_tree c.args.typed.now.defs.items) c.in_ok-lowered.lowered.items e)

pub returns-clause-outcomes : goal.returns-clause-outcomes
returns-clause-outcomes c =
    let e = subst (λ ds. map def_tree c.in_ok-lowered.lowered.items ≡ map lowered_def (map def_tree ds)) c.defs.ensures.value c.in_ok-lowered.ensures in
    subst (λ t. AllowTheSame (map def_tree c.args.typed.now.defs.items) (map def_tree t.defs.items)) (sym c.new.ensures)
    (same_outcomes (map def_tree c.args.typed.now.defs.items) c.in_ok-lowered.lowered.items c.args.typed.now.main e c.defs.ensures.typed)
