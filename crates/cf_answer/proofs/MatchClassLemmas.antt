-- The classes of the matches that are told of a typed program.
use Rattle.std.proofs.Common.{ℕ, List, [], ◌∷◌, map, All}
use Rattle.std.specs.List.Sorted.{IsPermutation}
use Rattle.std.proofs.lemmas.List.Elements.{All-nil, All-cons, All-head, All-tail}
use Rattle.std.proofs.lemmas.List.Sorted.{All-permutation}
use Rattle.cf_tree.specs.DefView.{DefTree}
use Rattle.cf_program.specs.TypedProgram.{IsTypedProgram}
use Rattle.cf_match.specs.Matches.{MatchTree, match_tree, all_matches}
use Rattle.cf_match.specs.declared.lowered.MatchInfo.{MatchInfo}
use Rattle.cf_warn.specs.Classes.{AreClasses}
use Rattle.cf_warn.proofs.MatchClasses.{matches_have_classes}

abbrev HasClasses : MatchTree → Type 0
HasClasses m = AreClasses m.classes

unmapped : (infos : List MatchInfo) → All HasClasses (map match_tree infos) → All (λ m. AreClasses m.classes.items) infos
unmapped [] h = All-nil (λ m. AreClasses m.classes.items)
unmapped (info ∷ infos) h =
    All-cons (λ m. AreClasses m.classes.items) info infos (All-head HasClasses (match_tree info) (map match_tree infos) h)
    (unmapped infos (All-tail HasClasses (match_tree info) (map match_tree infos) h))

pub told_classes : (defs : List DefTree) (main : ℕ) (infos : List MatchInfo) → IsTypedProgram defs main →
    IsPermutation (all_matches defs) (map match_tree infos) →
    All (λ m. AreClasses m.classes.items) infos
told_classes defs main infos h same =
    unmapped infos (All-permutation HasClasses (all_matches defs) (map match_tree infos) same (matches_have_classes defs main h))
