-- What is told of the chooses of a source.
use Rattle.std.proofs.Common.{◌≡◌, refl, subst, sym, ℕ, List, [], Some, None, map}
use Rattle.cf_form.specs.ToldView.{told_choose}
use Rattle.cf_form.specs.declared.formed.FormedParts.{FormedParts}
use Rattle.cf_lex.specs.Editions.{edition_of}
use Rattle.cf_match.specs.declared.lowered.LoweredParts.{LoweredParts}
use Rattle.cf_program.specs.Typed.{typed_tree}
use Rattle.cf_program.specs.declared.linearity.Linearity.TheVariants.{Plain}
use Rattle.cf_tree.specs.declared.base.Edition.TheVariants.{Two, Three}
use Rattle.cf_answer.specs.Sources.{AreToldIn, IsTypedBy, IsTypedSource, IsLoweredSource}
use Rattle.cf_answer.specs.Steps.{IsFormedSource}
use Rattle.cf_answer.specs.Verifying.{IsToldProgram}

module _ (text : List ℕ) where
  -- of a source of language 2 nothing
  pub told_in_two : (l : LoweredParts) → edition_of text ≡ Two → IsLoweredSource text l → IsToldProgram text (record { lowered = l; formed = None })
  told_in_two l two s = record {
    lowered = s;
    edition = two;
    tells = (s.is.0, s.is.1, subst (λ e. AreToldIn e s.is.0 []) (sym two) refl);
  }

  -- of one of edition 3 its chooses, before its forms are those of language 2
  pub formed_typed : (f : FormedParts) → edition_of text ≡ Three → IsFormedSource text f → IsTypedSource text (typed_tree f.typed)
  formed_typed f three h = (h.0, h.1, subst (λ e. IsTypedBy e Plain h.0 (typed_tree f.typed)) (sym three) (h.2.0, h.2.1, h.2.2.0))

  pub told_in_three : (l : LoweredParts) (f : FormedParts) → edition_of text ≡ Three → IsFormedSource text f → IsLoweredSource text l →
      IsToldProgram text (record { lowered = l; formed = Some f })
  told_in_three l f three h s = record {
    lowered = s;
    edition = three;
    tells = (h.0, h.1, subst (λ e. AreToldIn e h.0 (map told_choose f.chooses.items)) (sym three) (h.2.0, h.2.1, h.2.2.1));
  }
