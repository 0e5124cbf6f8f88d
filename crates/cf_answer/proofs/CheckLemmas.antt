-- The lines of a choose, by what its number is of.
use Rattle.std.proofs.Common.{◌≡◌, ◌<◌, ◌≤◌, ◌+◌, ◌∙◌, ap, sym, subst, refl, ℕ, Bool, true, false, List, [], ◌∷◌, ◌++◌, length, map, drop, drop_of_length-le, get_or, append_assoc, append-nil, arith, if◌then◌else◌, ◌==◌}
use Rattle.std.specs.Prelude.{Contains, All, Option, Some, None}
use Rattle.std.specs.List.Sorted.{IsPermutation}
use Rattle.std.proofs.lemmas.List.Elements.{All-head, All-tail}
use Rattle.std.proofs.lemmas.List.Sorted.{Contains-permutation, IsPermutation-sym}
use Rattle.cf_tree.specs.declared.base.Base.{Base}
use Rattle.cf_tree.specs.RelView.{rel_tree}
use Rattle.cf_tree.specs.DefView.{DefTree}
use Rattle.cf_tree.specs.Params.{names_of}
use Rattle.cf_program.specs.Lowered.{lowered_def}
use Rattle.cf_match.specs.Matches.{MatchTree, match_tree, all_matches}
use Rattle.cf_match.specs.declared.lowered.MatchInfo.{MatchInfo}
use Rattle.cf_tree.specs.ChooseTree.{ChooseTree}
use Rattle.cf_build.specs.Chooses.{all_chooses, by_number, limit_of}
use Rattle.cf_build.specs.Solves.{IsSolved, AreSolved}
use Rattle.cf_build.proofs.SolveLists.{solved_number, solved_names}
use Rattle.cf_build.specs.declared.solves.SolvedChoose.{SolvedChoose}
use Rattle.cf_warn.specs.Questions.{parameters}
use Rattle.cf_warn.specs.Verdicts.{IsExistence, IsUniqueness}
use Rattle.cf_warn.specs.declared.answer.ExistenceAnswer.{ExistenceAnswer}
use Rattle.cf_warn.specs.declared.answer.UniquenessAnswer.{UniquenessAnswer}
use Rattle.cf_answer.specs.Checks.{IsMatch, IsArm, IsOwn, AreAskedLines, AreBehindMatch, AreLines, of_choose, of_told, of_arm, of_match, AreLinesBy, IsCheckBehind, AreChecksBehind, asked_of, cover_line, existence_line, existence_text, names_at, told_names, uniqueness_line, uniqueness_text}
use Rattle.cf_answer.specs.Checking.{AddsAsked, AddsBehindArm, AddsCheck, AddsCheckBehind, AddsTold, AddsCover, AddsExistence, AddsUniqueness, AddsWritten}
use Rattle.cf_answer.specs.Fronts.{File, Notes, notes_at, output_names, written_in}
use Rattle.cf_answer.specs.ToldChecks.{Asked, named_levels, told_of, is_later_branch}
use Rattle.cf_answer.specs.Unmet.{answered, nothing_answered, nothing_unmet, with_answered, with_unmet}
use Rattle.cf_answer.specs.declared.unmet.Answered.{Answered}
use Rattle.cf_answer.specs.declared.unmet.Unmet.{Unmet}
use Rattle.cf_form.specs.Told.{HoldsCondition, HoldConditions, ToldBranch, ToldChoose}
use Rattle.cf_cert.proofs.WayLaws.{dropped_one}
use Rattle.cf_answer.specs.Texts.{numbered_line}
use Rattle.cf_answer.proofs.LoweredLemmas.{chooses_source}
use Rattle.cf_answer.proofs.TellLemmas.{arm_told}

module _ (q : ChooseTree) (s : SolvedChoose) (h : IsSolved q s) where
  choose_within : limit_of q ≡ None
  choose_within = let of = h.solved in rw (← of.same_scope, ← of.same_outputs, ← of.same_relation) of.solved.within

  module _ (levels : List ℕ) (are : levels ≡ parameters s.solved.scope.items (rel_tree s.solved.rel)) where
    levels_are : levels ≡ parameters q.scope q.relation
    levels_are = let of = h.solved in are ∙ rw (of.same_scope, of.same_relation) refl

    existence_same : (e : ExistenceAnswer) →
        numbered_line s.choose.number (existence_text (names_at (names_of s.choose.scope.now) levels) e) ≡ existence_line q e
    existence_same e = rw (solved_number q s h, solved_names q s h, levels_are) refl

    uniqueness_same : (u : UniquenessAnswer) →
        numbered_line s.choose.number (uniqueness_text (names_at (names_of s.choose.scope.now) levels) u) ≡ uniqueness_line q u
    uniqueness_same u = rw (solved_number q s h, solved_names q s h, levels_are) refl

  existence_of : (e : ExistenceAnswer) → IsExistence s.solved.scope.items s.solved.outputs.items (rel_tree s.solved.rel) e →
      IsExistence q.scope q.outputs q.relation e
  existence_of e is = let of = h.solved in rw (← of.same_scope, ← of.same_outputs, ← of.same_relation) is

  uniqueness_of : (u : UniquenessAnswer) → IsUniqueness s.solved.scope.items s.solved.outputs.items (length s.solved.outputs.items) (rel_tree s.solved.rel) u →
      IsUniqueness q.scope q.outputs (length q.outputs) q.relation u
  uniqueness_of u is = let of = h.solved in rw (← of.same_scope, ← of.same_outputs, ← of.same_relation) is

-- ---- a choose that is told of
module _ (s : SolvedChoose) (c : ToldChoose) (levels : List ℕ) (are : levels ≡ named_levels (length s.solved.scope.items) c) where
  abbrev given : Asked
  given = record { scope = s.solved.scope.items; outputs = s.solved.outputs.items; shown = c.outputs; levels = levels }

  module _ (q : ChooseTree) (h : IsSolved q s) where
    named_are : levels ≡ named_levels (length q.scope) c
    named_are = let of = h.solved in are ∙ rw of.same_scope refl

    names_are : names_at (names_of s.choose.scope.now) levels ≡ told_names q c
    names_are = rw (solved_names q s h, named_are) refl

    given_is : given ≡ asked_of q c
    given_is = let of = h.solved in rw (of.same_scope, of.same_outputs, named_are) refl

  -- what is added, in the words of the code
  pub asked_added : (scope outputs shown : List Base) (ls : List ℕ) (bs : List ToldBranch) → scope ≡ s.solved.scope.items →
      outputs ≡ s.solved.outputs.items → shown ≡ c.outputs → ls ≡ levels → bs ≡ c.branches → (notes : Notes) (old new : List ℕ) (a : Answered) →
      AddsAsked s (record { scope = scope; outputs = outputs; shown = shown; levels = ls }) bs notes old new a → AddsTold s c notes old new a
  asked_added scope outputs shown ls bs same_scope same_outputs same_shown same_levels same_branches notes old new a adds q h conditions =
      let asked : Asked = record { scope = scope; outputs = outputs; shown = shown; levels = ls } in
      let same : asked ≡ given = rw (same_scope, same_outputs, same_shown, same_levels) refl in
      let (more, text, lines) = adds (subst (λ v. All HoldsCondition v) (sym same_branches) conditions) in
      let words = names_of s.choose.scope.now in
      let here = subst (λ x. AreAskedLines s.choose.number (names_at words x.levels) x bs notes more a) same lines in
      let there = subst (λ v. AreAskedLines s.choose.number (names_at words levels) given v notes more a) same_branches here in (
        more,
        text,
        subst (λ n. AreAskedLines n (told_names q c) (asked_of q c) c.branches notes more a) (solved_number q s h)
            (subst (λ v. AreAskedLines s.choose.number v (asked_of q c) c.branches notes more a) (names_are q h)
            (subst (λ x. AreAskedLines s.choose.number (names_at words levels) x c.branches notes more a) (given_is q h) there)),
      )

-- the conditions of a choose that is told of
some_same : (x y : ToldChoose) → Some x ≡ Some y → x ≡ y
some_same x y e = cc e

one_of_two : (P : ToldChoose → Type 0) (b : Bool) (d c : ToldChoose) (more : Option ToldChoose) → (if b then Some d else more) ≡ Some c → P d →
    (more ≡ Some c → P c) → P c
one_of_two P true d c more is here later = subst P (some_same d c is) here
one_of_two P false d c more is here later = later is

conditions_of : (told : List ToldChoose) (n : ℕ) (c : ToldChoose) → told_of told n ≡ Some c → HoldConditions told → All HoldsCondition c.branches
conditions_of [] n c is h = absurd (cc)
conditions_of (d ∷ told) n c is h =
    one_of_two (λ x. All HoldsCondition x.branches) (d.number == n) d c (told_of told n) is (All-head (λ x. All HoldsCondition x.branches) d told h)
    (λ e. conditions_of told n c e (All-tail (λ x. All HoldsCondition x.branches) d told h))

module _ (file : File) (matches : List MatchTree) (told : List ToldChoose) (s : SolvedChoose) (old : List ℕ) where
  pub choose_checked : (levels mid new : List ℕ) (exists unique : Unmet) → levels ≡ parameters s.solved.scope.items (rel_tree s.solved.rel) →
      AddsExistence s levels old mid exists →
      AddsUniqueness s levels mid new unique → IsOwn matches s.choose.number → told_of told s.choose.number ≡ None →
      AddsCheck file matches told s old new (answered exists unique)
  choose_checked levels mid new exists unique are (e, e_is, first, e_unmet) (u, u_is, second, u_unmet) own none q h conditions = (
    existence_line q e ++ uniqueness_line q u,
    second ∙ ap (λ t. t ++ numbered_line s.choose.number (uniqueness_text (names_at (names_of s.choose.scope.now) levels) u)) first
        ∙ rw (existence_same q s h levels are e, uniqueness_same q s h levels are u) (append_assoc old (existence_line q e) (uniqueness_line q u)),
    rw (e_unmet, u_unmet) (of_choose (subst (IsOwn matches) (solved_number q s h) own) (subst (λ n. told_of told n ≡ None) (solved_number q s h) none) e u
        (existence_of q s h e e_is) (uniqueness_of q s h u u_is)),
  )

  pub told_checked : (c : ToldChoose) (notes : Notes) (new : List ℕ) (a : Answered) → notes ≡ notes_at file s.choose.number →
      AddsTold s c notes old new a → IsOwn matches s.choose.number → told_of told s.choose.number ≡ Some c → AddsCheck file matches told s old new a
  told_checked c notes new a named adds own is q h conditions =
      let (more, text, lines) = adds q h (conditions_of told s.choose.number c is conditions) in
      let here = subst (λ v. AreAskedLines q.number (told_names q c) (asked_of q c) c.branches v more a) named lines in (
        more,
        text,
        of_told (subst (IsOwn matches) (solved_number q s h) own) c (subst (λ n. told_of told n ≡ Some c) (solved_number q s h) is) more a
            (subst (λ n. AreAskedLines q.number (told_names q c) (asked_of q c) c.branches (notes_at file n) more a) (solved_number q s h) here),
      )

  pub arm_checked : (levels mid new : List ℕ) (unique : Unmet) → levels ≡ parameters s.solved.scope.items (rel_tree s.solved.rel) →
      (m : MatchTree) × Contains matches m × IsArm m s.choose.number → AddsUniqueness s levels old mid unique → AddsBehindArm file s mid new →
      AddsCheck file matches told s old new (answered nothing_unmet unique)
  arm_checked levels mid new unique are (m, there, arm) (u, u_is, first, unmet) behind q h conditions =
      let (more, more_is, second) = behind q h in (
        uniqueness_line q u ++ more,
        second ∙ ap (λ t. t ++ more) (first ∙ ap (λ t. old ++ t) (uniqueness_same q s h levels are u)) ∙ append_assoc old (uniqueness_line q u) more,
        rw unmet (of_arm m there (subst (IsArm m) (solved_number q s h) arm) u
            (arm_told q.scope q.outputs q.relation h.typed.outputs file.edition u (uniqueness_of q s h u u_is)) more more_is),
      )

  pub match_checked : (mid new more : List ℕ) (info : MatchInfo) (covered : Unmet) → Contains matches (match_tree info) →
      IsMatch (match_tree info) s.choose.number → AddsCover file.edition s.choose.number info.classes.items old mid covered →
      AreBehindMatch file.edition s.choose.number info.classes.items more → new ≡ mid ++ more →
      AddsCheck file matches told s old new (answered covered nothing_unmet)
  match_checked mid new more info covered there is (c, c_is, first, unmet) behind second q h conditions = (
    cover_line q.number c ++ more,
    second ∙ ap (λ t. t ++ more) (first ∙ ap (λ n. old ++ cover_line n c) (solved_number q s h)) ∙ append_assoc old (cover_line q.number c) more,
    rw unmet (of_match (match_tree info) there (is ∙ solved_number q s h) c c_is more
        (subst (λ n. AreBehindMatch file.edition n info.classes.items more) (solved_number q s h) behind)),
  )

  -- ---- behind another choose, which may be one of the same number
  lines_by : (before : ℕ) (q : ChooseTree) (b : Bool) (text : List ℕ) (a : Answered) → IsSolved q s → is_later_branch told before s.choose.number ≡ b →
      AreLinesBy b file matches told q text a → AreLinesBy (is_later_branch told before q.number) file matches told q text a
  lines_by before q b text a h is lines =
      subst (λ l. AreLinesBy l file matches told q text a) (sym (subst (λ n. is_later_branch told before n ≡ b) (solved_number q s h) is)) lines

  pub later_checked : (before : ℕ) → is_later_branch told before s.choose.number ≡ true →
      AddsCheckBehind file matches told before s old old nothing_answered
  later_checked before is q h conditions = ([], sym (append-nil old), choose_within q s h, lines_by before q true [] nothing_answered h is (refl, refl))

  pub first_checked : (before : ℕ) (new : List ℕ) (a : Answered) → is_later_branch told before s.choose.number ≡ false →
      AddsCheck file matches told s old new a → AddsCheckBehind file matches told before s old new a
  first_checked before new a is adds q h conditions =
      let (more, text, lines) = adds q h conditions in (more, text, choose_within q s h, lines_by before q false more a h is lines)

-- the lines by themselves, and then as they are written
pub lines_written : (file : File) (matches : List MatchTree) (told : List ToldChoose) (before : ℕ) (s : SolvedChoose) (empty own old new : List ℕ)
    (a : Answered) → empty ≡ [] → AddsCheckBehind file matches told before s empty own a → new ≡ old ++ written_in file s.choose.number own →
    AddsWritten file matches told before s old new a
lines_written file matches told before s empty own old new a none adds written q h conditions =
    let (more, text, within, lines) = adds q h conditions in
    let own_is : own ≡ more = text ∙ ap (λ t. t ++ more) none in (
      written_in file q.number own,
      written ∙ ap (λ n. old ++ written_in file n own) (solved_number q s h),
      record {
        within = within;
        own = own;
        lines = subst (λ t. AreLinesBy (is_later_branch told before q.number) file matches told q t a) (sym own_is) lines;
        is = refl;
      },
    )

-- ---- answers together
no_more : (n : ℕ) → n + 0 ≡ n
no_more n = omega arith

plus_assoc : (a b c : ℕ) → (a + b) + c ≡ a + (b + c)
plus_assoc a b c = omega arith

unmet_alone : (u : Unmet) → with_unmet u nothing_unmet ≡ u
unmet_alone u = λ i. record { no = no_more u.no i; undecided = no_more u.undecided i }

none_before : (n : ℕ) → 0 + n ≡ n
none_before n = omega arith

unmet_behind : (u : Unmet) → with_unmet nothing_unmet u ≡ u
unmet_behind u = λ i. record { no = none_before u.no i; undecided = none_before u.undecided i }

behind_nothing : (a : Answered) → with_answered nothing_answered a ≡ a
behind_nothing a = λ i. answered (unmet_behind a.existence i) (unmet_behind a.uniqueness i)

alone : (a : Answered) → with_answered a nothing_answered ≡ a
alone a = λ i. answered (unmet_alone a.existence i) (unmet_alone a.uniqueness i)

unmet_assoc : (a b c : Unmet) → with_unmet (with_unmet a b) c ≡ with_unmet a (with_unmet b c)
unmet_assoc a b c = λ i. record { no = plus_assoc a.no b.no c.no i; undecided = plus_assoc a.undecided b.undecided c.undecided i }

together : (a b c : Answered) → with_answered (with_answered a b) c ≡ with_answered a (with_answered b c)
together a b c = λ i. answered (unmet_assoc a.existence b.existence c.existence i) (unmet_assoc a.uniqueness b.uniqueness c.uniqueness i)

-- ---- one choose after the other
-- these chooses are solved, of which these are left, behind one of number `before`, and the lines of the others are this text, which answers this
abbrev pub IsWalked : File → List MatchTree → List ToldChoose → ℕ → List ChooseTree → List SolvedChoose → List ℕ → Answered → Type 0
IsWalked file matches told before qs left text a =
    (rs : List ChooseTree) × AreSolved rs left
    × ((more : List ℕ) (there : Answered) → AreChecksBehind file matches told before rs more there →
    AreChecksBehind file matches told 0 qs (text ++ more) (with_answered a there))

module _ (file : File) (matches : List MatchTree) (told : List ToldChoose) (qs : List ChooseTree) where
  pub walk_start : (ss : List SolvedChoose) (text : List ℕ) (a : Answered) → text ≡ [] → a ≡ nothing_answered → AreSolved qs ss →
      IsWalked file matches told 0 qs ss text a
  walk_start ss text a is none h = (
    qs,
    h,
    λ more there w. subst (λ t. AreChecksBehind file matches told 0 qs (t ++ more) (with_answered a there)) (sym is)
        (subst (λ b. AreChecksBehind file matches told 0 qs more (with_answered b there)) (sym none)
        (subst (AreChecksBehind file matches told 0 qs more) (sym (behind_nothing there)) w)),
  )

  walk_next : (before : ℕ) (s : SolvedChoose) (ss : List SolvedChoose) (text new : List ℕ) (a here : Answered) →
      IsWalked file matches told before qs (s ∷ ss) text a → HoldConditions told →
      AddsWritten file matches told before s text new here → IsWalked file matches told s.choose.number qs ss new (with_answered a here)
  walk_next before s ss text new a here ([], h, behind) conditions adds = absurd h
  walk_next before s ss text new a here (q ∷ rs, h, behind) conditions adds =
      let (first, is, check) = adds q h.0 conditions in (
        rs,
        h.1,
        λ more there w. subst (λ b. AreChecksBehind file matches told 0 qs (new ++ more) b) (sym (together a here there))
            (subst (λ t. AreChecksBehind file matches told 0 qs t (with_answered a (with_answered here there)))
            (sym (ap (λ t. t ++ more) is ∙ append_assoc text first more))
            (behind (first ++ more) (with_answered here there) (
              first,
              more,
              refl,
              here,
              there,
              refl,
              check,
              subst (λ n. AreChecksBehind file matches told n rs more there) (solved_number q s h.0) w,
            ))),
      )

  walk_done : (before : ℕ) (text : List ℕ) (a : Answered) → IsWalked file matches told before qs [] text a →
      AreChecksBehind file matches told 0 qs text a
  walk_done before text a ([], h, behind) =
      subst (λ b. AreChecksBehind file matches told 0 qs text b) (alone a)
      (subst (λ t. AreChecksBehind file matches told 0 qs t (with_answered a nothing_answered)) (append-nil text)
      (behind [] nothing_answered (refl, refl)))
  walk_done before text a (q ∷ rs, h, behind) = absurd h

  pub walk_on : (ss : List SolvedChoose) (i before : ℕ) (s : SolvedChoose) (text new : List ℕ) (a here : Answered) → i < length ss → s ≡ get_or ss i s →
      IsWalked file matches told before qs (drop i ss) text a → HoldConditions told → AddsWritten file matches told before s text new here →
      IsWalked file matches told s.choose.number qs (drop (i + 1) ss) new (with_answered a here)
  walk_on ss i before s text new a here less is h conditions adds =
      walk_next before s (drop (i + 1) ss) text new a here
      (subst (λ left. IsWalked file matches told before qs left text a) (dropped_one ss i s less is) h) conditions adds

  pub walk_end : (ss : List SolvedChoose) (i before : ℕ) (text : List ℕ) (a : Answered) → length ss ≤ i →
      IsWalked file matches told before qs (drop i ss) text a → AreChecksBehind file matches told 0 qs text a
  walk_end ss i before text a all h =
      walk_done before text a (subst (λ left. IsWalked file matches told before qs left text a) (drop_of_length-le ss {i = i} all) h)

-- ---- the order of the matches does not matter
module _ (file : File) (ms ns : List MatchTree) (told : List ToldChoose) (same : IsPermutation ms ns) where
  back : (m : MatchTree) → Contains ns m → Contains ms m
  back m c = Contains-permutation ns ms m (IsPermutation-sym ms ns same) c

  forth : (m : MatchTree) → Contains ms m → Contains ns m
  forth m c = Contains-permutation ms ns m same c

  lines_same : (q : ChooseTree) (text : List ℕ) (a : Answered) → AreLines file ns told q text a → AreLines file ms told q text a
  lines_same q text a (of_choose own none e u e_is u_is) = of_choose (λ m c. own m (forth m c)) none e u e_is u_is
  lines_same q text a (of_told own c is lines b are) = of_told (λ m d. own m (forth m d)) c is lines b are
  lines_same q text a (of_arm m c arm u u_is more more_is) = of_arm m (back m c) arm u u_is more more_is
  lines_same q text a (of_match m c is cover cover_is more more_is) = of_match m (back m c) is cover cover_is more more_is

  same_by : (b : Bool) (q : ChooseTree) (text : List ℕ) (a : Answered) → AreLinesBy b file ns told q text a → AreLinesBy b file ms told q text a
  same_by true q text a h = h
  same_by false q text a h = lines_same q text a h

  pub checks_same : (before : ℕ) (qs : List ChooseTree) (text : List ℕ) (a : Answered) → AreChecksBehind file ns told before qs text a →
      AreChecksBehind file ms told before qs text a
  checks_same before [] text a h = h
  checks_same before (q ∷ qs) text a h = (
    h.0,
    h.1,
    h.2,
    h.3,
    h.4,
    h.5,
    record {
      within = h.6.within;
      own = h.6.own;
      lines = same_by (is_later_branch told before q.number) q h.6.own h.3 h.6.lines;
      is = h.6.is;
    },
    checks_same q.number qs h.1 h.4 h.7,
  )

-- what is written of the chooses of a lowered program is written of those of the program
pub program_checks : (file : File) (defs low : List DefTree) (infos : List MatchInfo) (told : List ToldChoose) (ss : List SolvedChoose)
    (text : List ℕ) (a : Answered) →
    low ≡ map lowered_def defs → IsPermutation (all_matches defs) (map match_tree infos) → AreSolved (by_number (all_chooses low)) ss →
    ((qs : List ChooseTree) → AreSolved qs ss → AreChecksBehind file (map match_tree infos) told 0 qs text a) →
    AreChecksBehind file (all_matches defs) told 0 (by_number (all_chooses defs)) text a
program_checks file defs low infos told ss text a is same solved written =
    let here = subst (λ qs. AreSolved (by_number qs) ss) (chooses_source defs low is) solved in
    checks_same file (all_matches defs) (map match_tree infos) told same 0 (by_number (all_chooses defs)) text a
    (written (by_number (all_chooses defs)) here)
