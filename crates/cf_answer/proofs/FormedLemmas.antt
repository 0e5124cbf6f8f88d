-- The program of a source of edition 3, with its matches taken apart.
use Rattle.std.proofs.Common.{◌≡◌, ℕ, List, map, subst, sym}
use Rattle.std.specs.List.Sorted.{IsPermutation}
use Rattle.cf_lex.specs.Editions.{edition_of}
use Rattle.cf_tree.specs.DefView.{def_tree}
use Rattle.cf_tree.specs.declared.base.Edition.TheVariants.{Three}
use Rattle.cf_program.specs.Lowered.{lowered_def}
use Rattle.cf_program.specs.Typed.{typed_tree}
use Rattle.cf_program.specs.TypedProgram.{IsTypedProgram}
use Rattle.cf_program.specs.declared.linearity.Linearity.TheVariants.{Plain}
use Rattle.cf_form.specs.declared.formed.FormedParts.{FormedParts}
use Rattle.cf_form.specs.Told.{HoldConditions}
use Rattle.cf_form.specs.ToldView.{told_choose}
use Rattle.cf_form.proofs.ConditionLaws.{conditions_hold}
use Rattle.cf_match.specs.Matches.{all_matches, match_tree}
use Rattle.cf_match.specs.declared.lowered.LoweredParts.{LoweredParts}
use Rattle.cf_answer.specs.Sources.{IsTypedBy, IsLoweredSource}
use Rattle.cf_answer.specs.Steps.{IsFormedSource}
use Rattle.cf_answer.proofs.MatchClassLemmas.{told_classes}

pub formed_lowered : (text : List ℕ) (f : FormedParts) (l : LoweredParts) → edition_of text ≡ Three → IsFormedSource text f →
    IsTypedProgram (map def_tree f.typed.defs.items) f.typed.main → map def_tree l.typed.defs.items ≡ map lowered_def (map def_tree f.typed.defs.items) →
    IsPermutation (all_matches (map def_tree f.typed.defs.items)) (map match_tree l.matches.items) → IsLoweredSource text l
formed_lowered text f l edition h typed defs matches = record {
  typed = typed_tree f.typed;
  is = (h.0, h.1, subst (λ e. IsTypedBy e Plain h.0 (typed_tree f.typed)) (sym edition) (h.2.0, h.2.1, h.2.2.0));
  defs = defs;
  matches = matches;
  classes = told_classes (map def_tree f.typed.defs.items) f.typed.main l.matches.items typed matches;
}

-- the conditions that are told are part of their relations
pub conditions_held : (text : List ℕ) (f : FormedParts) → IsFormedSource text f → HoldConditions (map told_choose f.chooses.items)
conditions_held text f h = subst HoldConditions (sym h.2.2.1) (conditions_hold h.2.0.defs)
