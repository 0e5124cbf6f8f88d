use Rattle.std.proofs.Common.{map, subst, sym}
use Rattle.cf_program.specs.Typed.{typed_tree}
use Rattle.cf_tree.specs.DefView.{def_tree}
use Rattle.cf_answer.specs.Sources.{IsTypedSource}
use Rattle.cf_answer.proofs.MatchClassLemmas.{told_classes}
use Rattle.cf_answer.proofs.ToldProgramLemmas.{formed_typed, told_in_three}
use Rattle.cf_answer.proofs.source.told_in_three.Goals as goal

pub returns-in-Ok : goal.returns-in-Ok
returns-in-Ok c =
    let text = c.args.text.now in
    let formed = c.in_ok-formed.formed in
    let typed = c.typed-typed.result.now in
    told_in_three text c.in-Ok.lowered formed c.requires.edition c.in_ok-formed.ensures
    (record {
      typed = typed_tree typed;
      is = subst (λ t. IsTypedSource text (typed_tree t)) (sym c.typed-typed.ensures) (formed_typed text formed c.requires.edition c.in_ok-formed.ensures);
      defs = c.in-Ok.ensures.defs;
      matches = c.in-Ok.ensures.matches;
      classes = told_classes (map def_tree typed.defs.items) typed.main _ c.main.ensures.typed c.in-Ok.ensures.matches;
    })
