-- What `check` writes of the chooses of a program.
use Rattle.std.specs.Prelude.{◌≡◌, ℕ, suc, ◌+◌, nat_lt, Bool, true, false, List, [], ◌∷◌, ◌++◌, length, map, flat_map, get_or, codes, decimal, Some, None, Contains, if◌then◌else◌}
use Rattle.std.specs.List.{concat}
use Rattle.std.specs.Fmt.{signed_decimal}
use Rattle.cf_tree.specs.declared.base.Edition.{Edition}
use Rattle.cf_tree.specs.declared.base.Edition.TheVariants.{Two, Three}
use Rattle.cf_tree.specs.declared.base.Place.{Place}
use Rattle.cf_tree.specs.declared.raw.Param.{Param}
use Rattle.cf_tree.specs.Values.{Value}
use Rattle.cf_advice.specs.Ors.{OrTree}
use Rattle.cf_help.specs.Messages.{heading}
use Rattle.cf_match.specs.Matches.{MatchTree}
use Rattle.cf_match.specs.declared.class.Class.{Class}
use Rattle.cf_tree.specs.ChooseTree.{ChooseTree}
use Rattle.cf_build.specs.Chooses.{limit_of}
use Rattle.cf_eval.specs.Seen.{plains}
use Rattle.cf_eval.specs.Texts.{value_text, values_text}
use Rattle.cf_form.specs.Told.{ToldBranch, ToldChoose}
use Rattle.cf_linear.specs.Reasons.{refusal_text}
use Rattle.cf_warn.specs.Missing.{tuple_count}
use Rattle.cf_warn.specs.Questions.{parameters}
use Rattle.cf_warn.specs.Verdicts.{IsExistence, IsUniqueness}
use Rattle.cf_warn.specs.declared.answer.Doubt.{Doubt}
use Rattle.cf_warn.specs.declared.answer.Doubt.TheVariants.{Refused, Overflow}
use Rattle.cf_warn.specs.declared.answer.ExistenceAnswer.{ExistenceAnswer}
use Rattle.cf_warn.specs.declared.answer.ExistenceAnswer.TheVariants as existence
use Rattle.cf_warn.specs.declared.answer.UniquenessAnswer.{UniquenessAnswer}
use Rattle.cf_warn.specs.declared.answer.UniquenessAnswer.TheVariants as uniqueness
use Rattle.cf_warn.specs.declared.coverage.Cover.{Cover}
use Rattle.cf_warn.specs.declared.coverage.Cover.TheVariants as cover
use Rattle.cf_answer.specs.Fronts.{File, Notes, notes_at, output_names, written_in}
use Rattle.cf_answer.specs.Tells.{TellsExistence, TellsUniqueness, TellsArm, TellsCover, TellsNoInputs, TellsNever, TellsNeverHolds, TellsUnbounded, TellsUnreached, arm_asked, arm_branch, most_tuples}
use Rattle.cf_answer.specs.Texts.{numbered_line}
use Rattle.cf_answer.specs.ToldChecks.{Asked, named_levels, told_of, is_later_branch}
use Rattle.cf_answer.specs.Unmet.{answered, nothing_answered, nothing_unmet, one_no, unmet_cover, unmet_existence, unmet_uniqueness, with_answered}
use Rattle.cf_answer.specs.declared.unmet.Answered.{Answered}

-- ---- verdicts
-- why a question is not decided
abbrev pub doubt_text : Doubt → List ℕ
doubt_text (Refused r) = refusal_text r
doubt_text Overflow = codes "overflow"

-- the names of these levels
abbrev pub names_at : List (List ℕ) → List ℕ → List (List ℕ)
names_at names levels = map (λ x. get_or names x []) levels

-- a name with its value, and `before` before it
abbrev pub setting_text : List ℕ → List ℕ → Value → List ℕ
setting_text before name v = concat (before ∷ name ∷ codes " = " ∷ value_text v ∷ [])

-- each name with its value, and `before` before the first
abbrev pub settings_text : List ℕ → List (List ℕ) → List Value → List ℕ
settings_text before names [] = []
settings_text before [] vs = []
settings_text before (name ∷ names) (v ∷ vs) = setting_text before name v ++ settings_text (codes ", ") names vs

-- the values of the parameters with these names; nothing where there are none
abbrev pub sample_text : List (List ℕ) → List Value → List ℕ
sample_text names vs = settings_text (codes " for ") names vs

abbrev pub existence_text : List (List ℕ) → ExistenceAnswer → List ℕ
existence_text names existence.Always = codes "outputs always"
existence_text names (existence.Missing sample) = concat (codes "no outputs" ∷ sample_text names (plains sample.items) ∷ [])
existence_text names (existence.Undecided d) = concat (codes "existence undecided: " ∷ doubt_text d ∷ [])

abbrev pub uniqueness_text : List (List ℕ) → UniquenessAnswer → List ℕ
uniqueness_text names uniqueness.Unique = codes "outputs unique"
uniqueness_text names (uniqueness.Two sample first second) =
    concat (codes "two outputs" ∷ sample_text names (plains sample.items) ∷ codes ": " ∷ values_text (plains first.items) ∷ codes " and " ∷
    values_text (plains second.items) ∷ [])
uniqueness_text names (uniqueness.Undecided d) = concat (codes "uniqueness undecided: " ∷ doubt_text d ∷ [])

abbrev pub cover_text : Cover → List ℕ
cover_text cover.All = codes "covers all numbers"
cover_text (cover.Misses z) = concat (codes "misses " ∷ signed_decimal z ∷ [])
cover_text (cover.Undecided d) = concat (codes "coverage undecided: " ∷ doubt_text d ∷ [])

-- ---- lines
abbrev pub parameter_names : ChooseTree → List (List ℕ)
parameter_names q = names_at q.names (parameters q.scope q.relation)

abbrev pub existence_line : ChooseTree → ExistenceAnswer → List ℕ
existence_line q e = numbered_line q.number (existence_text (parameter_names q) e)

abbrev pub uniqueness_line : ChooseTree → UniquenessAnswer → List ℕ
uniqueness_line q u = numbered_line q.number (uniqueness_text (parameter_names q) u)

-- what is asked of a choose that is told of, by the scope and the outputs of its branches
abbrev pub asked_of : ChooseTree → ToldChoose → Asked
asked_of q c = record { scope = q.scope; outputs = q.outputs; shown = c.outputs; levels = named_levels (length q.scope) c }

-- the names of what samples of it name
abbrev pub told_names : ChooseTree → ToldChoose → List (List ℕ)
told_names q c = names_at q.names (named_levels (length q.scope) c)

abbrev pub cover_line : ℕ → Cover → List ℕ
cover_line n c = concat (codes "match " ∷ decimal n ∷ codes ": " ∷ cover_text c ∷ codes "\n" ∷ [])

-- ---- lines beside the answers
abbrev pub no_inputs_text : List ℕ
no_inputs_text = codes "given holds for no inputs"

abbrev pub never_text : List ℕ
never_text = codes "no outputs for any inputs"

-- an output of this name
abbrev pub unbounded_line : ℕ → List ℕ → List ℕ
unbounded_line n name = numbered_line n (concat (codes "nothing bounds output " ∷ name ∷ []))

-- arm number k, counted from 0, is told by its number from 1 on
abbrev pub unreached_line : ℕ → ℕ → List ℕ
unreached_line n k = concat (codes "match " ∷ decimal n ∷ codes ": no number reaches arm " ∷ decimal (k + 1) ∷ codes "\n" ∷ [])

-- branch number k of the `||` of this place, counted from 0, is told by its number from 1 on
abbrev pub branch_text : Place → ℕ → List ℕ
branch_text p k =
    concat (codes "branch " ∷ decimal (k + 1) ∷ codes " of || at " ∷ decimal p.line ∷ codes ":" ∷ decimal p.column ∷ codes " never holds" ∷ [])

abbrev pub branch_line : ℕ → Place → ℕ → List ℕ
branch_line n p k = numbered_line n (branch_text p k)

-- of so many tuples it is told
abbrev pub many_tuples : ℕ
many_tuples = 10000

abbrev pub tuples_line : ℕ → ℕ → List ℕ
tuples_line n tuples =
    if nat_lt many_tuples tuples then numbered_line n (concat (codes "a line may try " ∷ decimal tuples ∷ codes " tuples" ∷ [])) else []

-- a line for some of these, of which the first has number k, and of each of those this is so
abbrev pub AllSaid : {X : Type 0} → (ℕ → X → Type 0) → (ℕ → X → List ℕ) → ℕ → List X → List ℕ → Type 0
AllSaid Is line k [] text = text ≡ []
AllSaid Is line k (x ∷ xs) text =
    (tells : Bool) × (tells ≡ true → Is k x) × (more : List ℕ) × (text ≡ (if tells then line k x else []) ++ more) × AllSaid Is line (suc k) xs more

abbrev pub AreUnboundedLines : Asked → List ToldBranch → ℕ → List (List ℕ) → List ℕ → Type 0
AreUnboundedLines a bs n names text = AllSaid (λ k name. TellsUnbounded a bs k) (λ k name. unbounded_line n name) 0 names text

-- those on the branches of an `||`, and of each of these
abbrev pub AreBranchLines : Asked → List ToldBranch → ℕ → OrTree → List ℕ → Type 0
AreBranchLines a bs n o text = AllSaid (λ k path. TellsNeverHolds a bs path) (λ k path. branch_line n o.place k) 0 o.branches text

abbrev pub AreOrLines : Asked → List ToldBranch → ℕ → List OrTree → List ℕ → Type 0
AreOrLines a bs n [] text = text ≡ []
AreOrLines a bs n (o ∷ os) text =
    (first : List ℕ) × (more : List ℕ) × (text ≡ first ++ more) × AreBranchLines a bs n o first × AreOrLines a bs n os more

-- those on the outputs of a choose, and behind them those on its branches
abbrev pub AreBesideLines : Asked → List ToldBranch → ℕ → Notes → List ℕ → Type 0
AreBesideLines a bs n notes text =
    (outputs : List ℕ) × (ors : List ℕ) × (text ≡ outputs ++ ors) × AreUnboundedLines a bs n notes.outputs outputs × AreOrLines a bs n notes.ors ors

abbrev pub AreUnreachedLines : ℕ → List Class → List ℕ → Type 0
AreUnreachedLines n classes text = AllSaid (TellsUnreached classes) (λ k c. unreached_line n k) 0 classes text

-- The lines of choose number n in these branches, of which samples name variables of these names and this is noted, with what they answer.
pub data AreAskedLines (n : ℕ) (variables : List (List ℕ)) (a : Asked) (bs : List ToldBranch) (notes : Notes) : List ℕ → Answered → Type 0 where
  no_inputs : TellsNoInputs a bs → AreAskedLines n variables a bs notes (numbered_line n no_inputs_text) (answered one_no nothing_unmet)
  never : TellsNever a bs → AreAskedLines n variables a bs notes (numbered_line n never_text) (answered one_no nothing_unmet)
  asked : (e : ExistenceAnswer) → (u : UniquenessAnswer) → TellsExistence a bs e → TellsUniqueness a bs u → (more : List ℕ) →
      AreBesideLines a bs n notes more →
      AreAskedLines n variables a bs notes
      (numbered_line n (existence_text variables e) ++ numbered_line n (uniqueness_text variables u) ++ more ++ tuples_line n (most_tuples a bs))
      (answered (unmet_existence e) (unmet_uniqueness u))

-- what stands behind the line of an arm, and of a match
abbrev pub AreBehindArm : Edition → List (List ℕ) → ChooseTree → List ℕ → Type 0
AreBehindArm Two names q text = text ≡ []
AreBehindArm Three names q text =
    (more : List ℕ) × AreUnboundedLines (arm_asked q.scope q.outputs q.relation) (arm_branch q.relation ∷ []) q.number names more × (text ≡ more ++ tuples_line q.number (tuple_count q.scope q.outputs q.relation))

abbrev pub AreBehindMatch : Edition → ℕ → List Class → List ℕ → Type 0
AreBehindMatch Two n classes text = text ≡ []
AreBehindMatch Three n classes text = AreUnreachedLines n classes text

-- ---- all lines
-- it is the number of a match
abbrev pub IsMatch : MatchTree → ℕ → Type 0
IsMatch m n = m.number ≡ n

-- it is the number of one of its arms
abbrev pub IsArm : MatchTree → ℕ → Type 0
IsArm m n = Contains m.arms n

-- it is the number of none of these matches, and of none of their arms
abbrev pub IsOwn : List MatchTree → ℕ → Type 0
IsOwn matches n = (m : MatchTree) → Contains matches m → (IsMatch m n → ⊥) × (IsArm m n → ⊥)

-- The lines of a choose, with what they answer, by what its number is of: a choose of the source, of which nothing or this is told, an arm of one of these
-- matches, or one of the matches. In language 2, where nothing is told, a verdict is that on its question; in edition 3 it has a meaning alone.
pub data AreLines (file : File) (matches : List MatchTree) (told : List ToldChoose) (q : ChooseTree) : List ℕ → Answered → Type 0 where
  of_choose : IsOwn matches q.number → told_of told q.number ≡ None → (e : ExistenceAnswer) → (u : UniquenessAnswer) →
      IsExistence q.scope q.outputs q.relation e → IsUniqueness q.scope q.outputs (length q.outputs) q.relation u →
      AreLines file matches told q (existence_line q e ++ uniqueness_line q u) (answered (unmet_existence e) (unmet_uniqueness u))
  of_told : IsOwn matches q.number → (c : ToldChoose) → told_of told q.number ≡ Some c → (text : List ℕ) → (a : Answered) →
      AreAskedLines q.number (told_names q c) (asked_of q c) c.branches (notes_at file q.number) text a → AreLines file matches told q text a
  of_arm : (m : MatchTree) → Contains matches m → IsArm m q.number → (u : UniquenessAnswer) → TellsArm file.edition q.scope q.outputs q.relation u →
      (more : List ℕ) → AreBehindArm file.edition (output_names file q.number) q more →
      AreLines file matches told q (uniqueness_line q u ++ more) (answered nothing_unmet (unmet_uniqueness u))
  of_match : (m : MatchTree) → Contains matches m → IsMatch m q.number → (c : Cover) → TellsCover file.edition m.classes c →
      (more : List ℕ) → AreBehindMatch file.edition q.number m.classes more →
      AreLines file matches told q (cover_line q.number c ++ more) (answered (unmet_cover c) nothing_unmet)

-- later branches of a choose that is told of have no lines of their own
abbrev pub AreLinesBy : Bool → File → List MatchTree → List ToldChoose → ChooseTree → List ℕ → Answered → Type 0
AreLinesBy true file matches told q text a = (text ≡ []) × (a ≡ nothing_answered)
AreLinesBy false file matches told q text a = AreLines file matches told q text a

-- a choose behind one of number `before` passes no limit, and this is what is written of its lines, with what they answer
pub record IsCheckBehind (file : File) (matches : List MatchTree) (told : List ToldChoose) (before : ℕ) (q : ChooseTree) (text : List ℕ) (a : Answered)
    : Type 0 where
  pub within : limit_of q ≡ None
  pub own : List ℕ
  pub lines : AreLinesBy (is_later_branch told before q.number) file matches told q own a
  pub is : text ≡ written_in file q.number own

-- the lines of chooses in order, behind one of number `before`, with what they answer together
abbrev pub AreChecksBehind : File → List MatchTree → List ToldChoose → ℕ → List ChooseTree → List ℕ → Answered → Type 0
AreChecksBehind file matches told before [] text a = (text ≡ []) × (a ≡ nothing_answered)
AreChecksBehind file matches told before (q ∷ qs) text a =
    (first : List ℕ) × (more : List ℕ) × (text ≡ first ++ more) × (here : Answered) × (there : Answered) × (a ≡ with_answered here there)
    × IsCheckBehind file matches told before q first here × AreChecksBehind file matches told q.number qs more there

-- the lines on parameters that stand nowhere in their functions
abbrev pub unused_line : List ℕ → Param → List ℕ
unused_line name p = concat (heading name (Some p.place) ∷ codes "nothing uses parameter " ∷ p.name ∷ codes "\n" ∷ [])

abbrev pub unused_lines : List ℕ → List Param → List ℕ
unused_lines name ps = flat_map (unused_line name) ps
