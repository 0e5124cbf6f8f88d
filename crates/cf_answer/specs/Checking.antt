-- What the numbers of chooses are of, and what is added for each; for the contracts within the crate.
use Rattle.std.specs.Prelude.{◌≡◌, ℕ, Option, Some, None, List, ◌++◌, length, map, flat_map, All, Contains}
use Rattle.std.specs.List.Sorted.{IsNonDecreasingBy, IsPermutation}
use Rattle.cf_advice.specs.SpotView.{spot_tree}
use Rattle.cf_program.specs.Checked.{TypedTree}
use Rattle.cf_tree.specs.declared.base.Edition.{Edition}
use Rattle.cf_tree.specs.declared.base.Edition.TheVariants.{Three}
use Rattle.cf_tree.specs.RelView.{rel_tree}
use Rattle.cf_match.specs.Matches.{MatchTree, match_tree}
use Rattle.cf_match.specs.declared.class.Class.{Class}
use Rattle.cf_match.specs.declared.lowered.MatchInfo.{MatchInfo}
use Rattle.cf_tree.specs.Params.{names_of}
use Rattle.cf_tree.specs.ChooseTree.{ChooseTree}
use Rattle.cf_tree.specs.Values.{Value}
use Rattle.cf_choose.specs.declared.fault.ChooseFault.{ChooseFault}
use Rattle.cf_choose.specs.declared.fault.ChooseFault.TheVariants as faults
use Rattle.cf_choose.specs.declared.solved.SolvedParts.{SolvedParts}
use Rattle.cf_decide.specs.Answers.{SaysExistence, SaysUniqueness}
use Rattle.cf_form.specs.Told.{HoldsCondition, HoldConditions, ToldBranch, ToldChoose}
use Rattle.cf_form.specs.ToldView.{told_choose, truth_at}
use Rattle.cf_form.specs.declared.told.TruthAt.{TruthAt}
use Rattle.cf_build.specs.Chooses.{limit_of}
use Rattle.cf_build.specs.Solves.{IsSolved}
use Rattle.cf_build.specs.declared.solves.SolvedChoose.{SolvedChoose}
use Rattle.cf_warn.specs.Classes.{AreClasses}
use Rattle.cf_warn.specs.Verdicts.{IsExistence, IsUniqueness}
use Rattle.cf_warn.specs.declared.answer.Doubt.TheVariants.{Refused}
use Rattle.cf_warn.specs.declared.answer.ExistenceAnswer.{ExistenceAnswer}
use Rattle.cf_warn.specs.declared.answer.ExistenceAnswer.TheVariants as existence
use Rattle.cf_warn.specs.declared.answer.UniquenessAnswer.{UniquenessAnswer}
use Rattle.cf_warn.specs.declared.answer.UniquenessAnswer.TheVariants as uniqueness
use Rattle.cf_warn.specs.declared.coverage.Cover.{Cover}
use Rattle.cf_answer.specs.Checks.{IsMatch, IsArm, IsOwn, AreAskedLines, AreBehindArm, AreLines, AreLinesBy, AreBesideLines, IsCheckBehind, asked_of, cover_line, existence_text, names_at, told_names, tuples_line, uniqueness_text}
use Rattle.cf_answer.specs.Fronts.{File, Notes, output_names}
use Rattle.cf_answer.specs.Owed.{AreChecks}
use Rattle.cf_answer.specs.Sources.{IsTypedSource}
use Rattle.cf_answer.specs.Tells.{TellsCover, most_tuples}
use Rattle.cf_answer.specs.Texts.{numbered_line}
use Rattle.cf_answer.specs.ToldChecks.{Asked, is_later_branch, named_sample}
use Rattle.cf_answer.specs.Unmet.{unmet_cover, unmet_existence, unmet_uniqueness}
use Rattle.cf_answer.specs.declared.unmet.Answered.{Answered}
use Rattle.cf_answer.specs.declared.unmet.Unmet.{Unmet}
use Rattle.cf_answer.specs.declared.told_check.Asked.{Asked as DeclaredAsked}
use Rattle.cf_answer.specs.declared.told_check.Telling.{Telling}
use Rattle.cf_answer.specs.declared.told_check.Telling.TheVariants.{Nothing, Told}
use Rattle.cf_answer.specs.declared.check.AnsweredText.{AnsweredText}
use Rattle.cf_answer.specs.declared.source.CheckedSource.{CheckedSource}
use Rattle.cf_answer.specs.declared.choose_origin.Origin.{Origin}
use Rattle.cf_answer.specs.declared.choose_origin.Origin.TheVariants.{Choose, Arm, Match}

-- the matches are in the order of their numbers, each has classes, and these are the numbers of their arms, rising
pub record AreMatches (infos : List MatchInfo) (arms : List ℕ) : Type 0 where
  pub in_order : IsNonDecreasingBy (λ m. m.number) infos
  pub classes : All (λ m. AreClasses m.classes.items) infos
  pub arms_in_order : IsNonDecreasingBy (λ n. n) arms
  pub arms_are : IsPermutation (flat_map (λ m. m.arms.items) infos) arms

-- what a number is of, for these matches
abbrev pub IsOrigin : List MatchTree → ℕ → Origin → Type 0
IsOrigin matches n Choose = IsOwn matches n
IsOrigin matches n Arm = (m : MatchTree) × Contains matches m × IsArm m n
IsOrigin matches n (Match info) = Contains matches (match_tree info.now) × IsMatch (match_tree info.now) n × AreClasses info.now.classes.items

-- the line of a verdict on this choose, whose parameters have these levels, was added to the text, and adds this to the answers that are not yes
abbrev pub AddsExistence : SolvedChoose → List ℕ → List ℕ → List ℕ → Unmet → Type 0
AddsExistence s levels old new unmet =
    (e : ExistenceAnswer) × IsExistence s.solved.scope.items s.solved.outputs.items (rel_tree s.solved.rel) e
    × (new ≡ old ++ numbered_line s.choose.number (existence_text (names_at (names_of s.choose.scope.now) levels) e)) × (unmet ≡ unmet_existence e)

abbrev pub AddsUniqueness : SolvedChoose → List ℕ → List ℕ → List ℕ → Unmet → Type 0
AddsUniqueness s levels old new unmet =
    (u : UniquenessAnswer)
    × IsUniqueness s.solved.scope.items s.solved.outputs.items (length s.solved.outputs.items) (rel_tree s.solved.rel) u
    × (new ≡ old ++ numbered_line s.choose.number (uniqueness_text (names_at (names_of s.choose.scope.now) levels) u)) × (unmet ≡ unmet_uniqueness u)

abbrev pub AddsCover : Edition → ℕ → List Class → List ℕ → List ℕ → Unmet → Type 0
AddsCover edition n classes old new unmet = (c : Cover) × TellsCover edition classes c × (new ≡ old ++ cover_line n c) × (unmet ≡ unmet_cover c)

-- the lines of a choose were added, with what they answer, where the conditions that are told are part of the relations
abbrev pub AddsCheck : File → List MatchTree → List ToldChoose → SolvedChoose → List ℕ → List ℕ → Answered → Type 0
AddsCheck file matches told s old new a =
    (q : ChooseTree) → IsSolved q s → HoldConditions told → (more : List ℕ) × (new ≡ old ++ more) × AreLines file matches told q more a

-- the same of one behind a choose of number `before`
abbrev pub AddsCheckBehind : File → List MatchTree → List ToldChoose → ℕ → SolvedChoose → List ℕ → List ℕ → Answered → Type 0
AddsCheckBehind file matches told before s old new a =
    (q : ChooseTree) → IsSolved q s → HoldConditions told → (more : List ℕ) × (new ≡ old ++ more) × (limit_of q ≡ None)
    × AreLinesBy (is_later_branch told before q.number) file matches told q more a

-- what is written of them was added
abbrev pub AddsWritten : File → List MatchTree → List ToldChoose → ℕ → SolvedChoose → List ℕ → List ℕ → Answered → Type 0
AddsWritten file matches told before s old new a =
    (q : ChooseTree) → IsSolved q s → HoldConditions told → (more : List ℕ) × (new ≡ old ++ more) × IsCheckBehind file matches told before q more a

-- the lines beside the answers on choose number n were added
abbrev pub AddsBeside : Asked → List ToldBranch → Notes → ℕ → List ℕ → List ℕ → Type 0
AddsBeside a bs notes n old new =
    (more : List ℕ) × AreBesideLines a bs n notes more × (new ≡ old ++ (more ++ tuples_line n (most_tuples a bs)))

-- the lines of a choose in these branches were added
abbrev pub AddsAsked : SolvedChoose → Asked → List ToldBranch → Notes → List ℕ → List ℕ → Answered → Type 0
AddsAsked s a bs notes old new ans =
    All HoldsCondition bs → (more : List ℕ) × (new ≡ old ++ more)
    × AreAskedLines s.choose.number (names_at (names_of s.choose.scope.now) a.levels) a bs notes more ans

-- the lines of a choose of which this is told, where this is noted, were added
abbrev pub AddsTold : SolvedChoose → ToldChoose → Notes → List ℕ → List ℕ → Answered → Type 0
AddsTold s c notes old new a =
    (q : ChooseTree) → IsSolved q s → All HoldsCondition c.branches → (more : List ℕ) × (new ≡ old ++ more)
    × AreAskedLines q.number (told_names q c) (asked_of q c) c.branches notes more a

-- what stands behind the line of an arm was added
abbrev pub AddsBesideArm : File → SolvedChoose → List ℕ → List ℕ → Type 0
AddsBesideArm file s old new =
    (q : ChooseTree) → IsSolved q s → (more : List ℕ) × AreBehindArm Three (output_names file q.number) q more × (new ≡ old ++ more)

abbrev pub AddsBehindArm : File → SolvedChoose → List ℕ → List ℕ → Type 0
AddsBehindArm file s old new =
    (q : ChooseTree) → IsSolved q s → (more : List ℕ) × AreBehindArm file.edition (output_names file q.number) q more × (new ≡ old ++ more)

-- the lines of the chooses and matches of a program of edition 3, of which this was read
pub record AreProgramChecks (name text : List ℕ) (s : CheckedSource) (c : AnsweredText) : Type 0 where
  pub typed : TypedTree
  pub is : IsTypedSource text typed
  pub lines :
      AreChecks (record { edition = Three; name = name; spots = map spot_tree s.spots.items }) (map told_choose s.formed.chooses.items) typed c.text.items
      c.answered

-- ---- chooses that are told of
abbrev pub asked_view : DeclaredAsked → Asked
asked_view a = record { scope = a.scope.now; outputs = a.outputs.now; shown = a.shown.now; levels = a.levels.now }

abbrev pub telling_view : Telling → Option ToldChoose
telling_view Nothing = None
telling_view (Told c) = Some (told_choose c.now)

-- what is said of a solved relation
abbrev pub IsExistenceOf : SolvedParts → ExistenceAnswer → Type 0
IsExistenceOf s e = SaysExistence s.scope.items s.outputs.items (rel_tree s.rel) e

abbrev pub IsUniquenessOf : SolvedParts → ℕ → UniquenessAnswer → Type 0
IsUniquenessOf s shown u = SaysUniqueness s.scope.items s.outputs.items shown (rel_tree s.rel) u

-- that a question which is refused is not decided
abbrev pub IsRefusedExistence : ChooseFault → ExistenceAnswer → Type 0
IsRefusedExistence (faults.Refused r) e = e ≡ existence.Undecided (Refused r)
IsRefusedExistence faults.NoMemory e = ⊥

abbrev pub IsRefusedUniqueness : ChooseFault → UniquenessAnswer → Type 0
IsRefusedUniqueness (faults.Refused r) u = u ≡ uniqueness.Undecided (Refused r)
IsRefusedUniqueness faults.NoMemory u = ⊥

-- what a sample of it names in a branch
abbrev pub named_by : DeclaredAsked → List TruthAt → SolvedParts → List Value → List Value
named_by a truths s = named_sample a.scope.now a.levels.now (map truth_at truths) (rel_tree s.rel)
