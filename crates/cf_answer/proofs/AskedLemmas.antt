-- The chooses of a source, as blocks are checked against them.
use Rattle.std.proofs.Common.{◌≡◌, ◌∙◌, inl, inr, ap, refl, ℕ, List, [], ◌∷◌, Option, map, All}
use Rattle.std.proofs.lemmas.List.Elements.{All-head, All-tail}
use Rattle.std.specs.Prelude.{◌⊎◌, Result, Ok, Err, IfOk, IfErr}
use Rattle.cf_cases.specs.Holding.{EachOf}
use Rattle.cf_io.specs.Seen.{ShelfSeen}
use Rattle.cf_tree.specs.ChooseView.{choose_tree}
use Rattle.cf_tree.specs.DefView.{def_tree}
use Rattle.cf_tree.specs.declared.choose.Choose.{Choose}
use Rattle.cf_program.specs.declared.typed.TypedDefs.{TypedDefs}
use Rattle.cf_build.specs.Chooses.{all_chooses, by_number}
use Rattle.cf_build.specs.Solves.{IsTypedChoose}
use Rattle.cf_cert.specs.Laws.{IsLinearChoose}
use Rattle.cf_answer.specs.Outside.{AreTold}
use Rattle.cf_answer.specs.Refusals.{IsBrokenSource}
use Rattle.cf_answer.specs.Branches.{AreBranched, in_branches}
use Rattle.cf_answer.specs.declared.source.ToldProgram.{ToldProgram}
use Rattle.cf_answer.specs.Steps.{IsVerdict}
use Rattle.cf_answer.specs.Verifying.{told_in, IsToldProgram, NoneFailed, IsSourceFault, broken_file, no_room}
use Rattle.cf_answer.proofs.LoweredLemmas.{lowered_chooses}
use Rattle.cf_answer.specs.declared.fault.Fault.{Fault}
use Rattle.cf_answer.specs.declared.fault.Fault.TheVariants as fault

abbrev IsAskedChoose : Choose → Type 0
IsAskedChoose c = IsTypedChoose (choose_tree c)

pub are_linear : (cs : List Choose) → All IsAskedChoose cs → EachOf IsLinearChoose (map choose_tree cs)
are_linear [] h = tt
are_linear (c ∷ cs) h =
    let first : IsTypedChoose (choose_tree c) = All-head IsAskedChoose c cs h in
    (record { typed = first.typed; linear = first.linear; are_outputs = first.outputs }, are_linear cs (All-tail IsAskedChoose c cs h))

-- the chooses of the lowered program are those of the program, in the branches that are told
pub branched_all : (text : List ℕ) (p : ToldProgram) (t : TypedDefs) (cs : List Choose) → t ≡ p.lowered.typed →
    map choose_tree cs ≡ by_number (all_chooses (map def_tree t.defs.items)) → IsToldProgram text p →
    AreBranched text (in_branches (told_in p.formed) [] (map choose_tree cs))
branched_all text p t cs is are s = record {
  typed = s.lowered.typed;
  is = s.lowered.is;
  told = told_in p.formed;
  tells = s.tells;
  are = ap (in_branches (told_in p.formed) []) (are ∙ ap by_number (lowered_chooses text p.lowered t s.lowered is));
}

-- the same by the chooses of the program
pub branched_source : (text : List ℕ) (p : ToldProgram) (s : IsToldProgram text p) →
    AreBranched text (in_branches (told_in p.formed) [] (by_number (all_chooses s.lowered.typed.defs)))
branched_source text p s = record { typed = s.lowered.typed; is = s.lowered.is; told = told_in p.formed; tells = s.tells; are = refl }

-- what reading a source comes to, where its text was read
abbrev Verdict : List ℕ → Result ToldProgram Fault → Type 0
Verdict text r = IsVerdict (IsToldProgram text) (IsBrokenSource text) r

pub source_asked : (known : Option (List ℕ)) (text : List ℕ) (r : Result ToldProgram Fault) → AreTold known text → Verdict text r →
    IfOk r (λ l. (t : List ℕ) × AreTold known t × IsToldProgram t l)
source_asked known text (Ok l) told asks = (text, told, asks)
source_asked known text (Err f) told refused = tt

module _ (name : List ℕ) (before after : ShelfSeen) (text : List ℕ) (told : AreTold (before.texts name) text) where
  pub source_fault : (r : Result ToldProgram Fault) → Verdict text r → NoneFailed before after → IfErr r (IsSourceFault name before after)
  source_fault (Ok l) asks same = tt
  source_fault (Err f) (inl broken) same = broken_file (text, told, broken) same
  source_fault (Err f) (inr memory) same = no_room memory same

  -- the same of a fault
  pub fault_told : (f : Fault) → IsBrokenSource text f ⊎ (f ≡ fault.NoMemory) → NoneFailed before after → IsSourceFault name before after f
  fault_told f (inl broken) same = broken_file (text, told, broken) same
  fault_told f (inr memory) same = no_room memory same
