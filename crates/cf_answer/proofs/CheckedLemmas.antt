-- The lines of a whole source.
use Rattle.std.proofs.Common.{◌≡◌, sym, subst, refl, ℕ, List, [], ◌++◌, map, append-nil}
use Rattle.cf_tree.specs.declared.base.Edition.TheVariants.{Two, Three}
use Rattle.cf_lex.specs.Editions.{edition_of}
use Rattle.cf_match.specs.declared.lowered.LoweredParts.{LoweredParts}
use Rattle.cf_form.specs.ToldView.{told_choose}
use Rattle.cf_answer.specs.Checking.{AreProgramChecks}
use Rattle.cf_answer.specs.Owed.{AreChecks, AreSourceChecks, AreUnused, file_of}
use Rattle.cf_answer.specs.Sources.{AreToldIn, IsLoweredSource}
use Rattle.cf_answer.specs.Steps.{IsCheckedSource}
use Rattle.cf_answer.specs.declared.check.AnsweredText.{AnsweredText}
use Rattle.cf_answer.specs.declared.source.CheckedSource.{CheckedSource}
use Rattle.cf_answer.specs.declared.unmet.Answered.{Answered}

-- of language 2, where nothing is told of its chooses
pub checks_of_two : (name text : List ℕ) (l : LoweredParts) (written : List ℕ) (a : Answered) → edition_of text ≡ Two → (s : IsLoweredSource text l) →
    AreChecks (record { edition = Two; name = name; spots = [] }) [] s.typed written a → AreSourceChecks name text written a
checks_of_two name text l written a two s lines =
    let (program, spelled, by) = s.is in
    record {
      told = [];
      are_told = (program, spelled, subst (λ e. AreToldIn e program []) (sym two) refl);
      typed = s.typed;
      is = s.is;
      program = program;
      spelled = spelled;
      checks = written;
      lines = subst (λ e. AreChecks (file_of e name program) [] s.typed written a) (sym two) lines;
      more = [];
      unused = subst (λ e. AreUnused e name program []) (sym two) refl;
      whole = sym (append-nil written);
    }

-- of edition 3, with the lines on its parameters behind those on its chooses
pub checks_of_three : (name text : List ℕ) (s : CheckedSource) (c : AnsweredText) (written : List ℕ) (a : Answered) → edition_of text ≡ Three →
    IsCheckedSource name text s → AreProgramChecks name text s c → written ≡ c.text.items ++ s.unused.items → a ≡ c.answered →
    AreSourceChecks name text written a
checks_of_three name text s c written a three (program, spelled, of) are whole same =
    let told = map told_choose s.formed.chooses.items in
    let here = subst (λ ps. AreChecks (record { edition = Three; name = name; spots = ps }) told are.typed c.text.items c.answered) of.spots are.lines in
    record {
      told = told;
      are_told = (program, spelled, subst (λ e. AreToldIn e program told) (sym three) (of.formed.0, of.formed.1, of.formed.2.1));
      typed = are.typed;
      is = are.is;
      program = program;
      spelled = spelled;
      checks = c.text.items;
      lines = subst (λ e. AreChecks (file_of e name program) told are.typed c.text.items a) (sym three)
          (subst (λ b. AreChecks (file_of Three name program) told are.typed c.text.items b) (sym same) here);
      more = s.unused.items;
      unused = subst (λ e. AreUnused e name program s.unused.items) (sym three) of.unused;
      whole = whole;
    }
