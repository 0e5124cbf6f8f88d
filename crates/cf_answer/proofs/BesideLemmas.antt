-- The lines of `check` beside its answers.
use Rattle.std.proofs.Common.{◌≡◌, ◌<◌, ℕ, suc, ◌+◌, length, map, drop, get_or, Bool, true, max, Option, Some, None, List, [], ◌∷◌, ◌++◌, if◌then◌else◌, append_assoc, append-nil, codes, decimal, refl, sym, ◌∙◌, ap, subst, arith}
use Rattle.std.specs.Prelude.{All}
use Rattle.std.specs.List.{concat}
use Rattle.std.proofs.lemmas.List.Elements.{All-cons, All-nil}
use Rattle.cf_tree.specs.declared.base.Base.{Base}
use Rattle.cf_tree.specs.declared.base.Edition.{Edition}
use Rattle.cf_tree.specs.declared.base.Edition.TheVariants.{Two, Three}
use Rattle.cf_tree.specs.declared.base.Place.{Place}
use Rattle.cf_tree.specs.declared.raw.Param.{Param}
use Rattle.cf_tree.specs.RelTree.{RelTree, rel_and}
use Rattle.cf_tree.specs.RelView.{rel_tree}
use Rattle.cf_tree.specs.Values.{Value}
use Rattle.cf_advice.specs.Ors.{OrTree, part_at}
use Rattle.cf_advice.specs.declared.ors.Side.{Side}
use Rattle.cf_form.specs.Told.{Allows, HoldsCondition, ToldBranch}
use Rattle.cf_help.specs.Lines.{shown}
use Rattle.cf_help.specs.Messages.{heading}
use Rattle.cf_read.specs.Reading.{NeverHolds}
use Rattle.cf_build.specs.declared.solves.SolvedChoose.{SolvedChoose}
use Rattle.cf_build.proofs.SolveLists.{solved_number}
use Rattle.cf_cert.proofs.WayLaws.{dropped_one}
use Rattle.cf_match.specs.declared.class.Class.{Class}
use Rattle.cf_tree.specs.Params.{names_of}
use Rattle.cf_warn.specs.Missing.{tuple_count}
use Rattle.cf_warn.specs.Questions.{parameters}
use Rattle.cf_warn.specs.declared.answer.ExistenceAnswer.{ExistenceAnswer}
use Rattle.cf_warn.specs.declared.answer.UniquenessAnswer.{UniquenessAnswer}
use Rattle.cf_answer.specs.Checking.{AddsAsked, AddsBehindArm, AddsBeside, AddsBesideArm}
use Rattle.cf_answer.specs.Checks.{AllSaid, AreBehindArm, AreBehindMatch, AreBesideLines, AreBranchLines, AreOrLines, AreUnboundedLines, branch_line, branch_text, asked, never, no_inputs, existence_text, names_at, never_text, no_inputs_text, tuples_line, unbounded_line, uniqueness_text, unreached_line, unused_line, unused_lines}
use Rattle.cf_answer.specs.Fronts.{File, Notes, output_names, place_text}
use Rattle.cf_answer.specs.Tells.{HasNoInputs, HasNone, IsInput, NeverHoldsAt, TellsExistence, TellsNever, TellsNoInputs, TellsUniqueness, arm_asked, arm_branch, most_tuples}
use Rattle.cf_answer.specs.Texts.{numbered_line}
use Rattle.cf_answer.specs.ToldChecks.{Asked}
use Rattle.cf_answer.specs.Unmet.{answered, nothing_unmet, one_no, unmet_existence, unmet_uniqueness}
use Rattle.cf_answer.specs.declared.unmet.Answered.{Answered}

-- ---- no inputs, and no outputs
pub no_inputs_in : (a : Asked) (b : ToldBranch) (p : RelTree) → b.given ≡ Some p → NeverHolds [] a.scope p → HasNoInputs a b
no_inputs_in a b p is n env i = n.never [] env tt i.bases (subst (λ g. Allows g env) is i.allowed)

pub never_at : (a : Asked) (b : ToldBranch) (path : List Side) (part : RelTree) → b.truths ≡ [] → part_at path b.relation ≡ Some part →
    NeverHolds a.scope a.outputs (rel_and b.relation part) → NeverHoldsAt a path b
never_at a b path part none at n = (none, part, at, λ env xs i s h. n.never env xs i.bases s.0 (s.1, h))

-- no inputs of a branch have outputs
abbrev pub never_in : Asked → ToldBranch → Type 0
never_in a b = (env : List Value) → IsInput a.scope b env → HasNone a b env

pub has_no_outputs : (a : Asked) (b : ToldBranch) → NeverHolds a.scope a.outputs b.relation → never_in a b
has_no_outputs a b n env i xs s = n.never env xs i.bases s.0 s.1

-- ---- branches, one after the other
pub all_more : {X Y : Type 0} (P : Y → Type 0) (f : X → Y) (left : List X) (x : X) (xs : List X) → left ≡ x ∷ xs → P (f x) → All P (map f xs) →
    All P (map f left)
all_more P f left x xs is here more = subst (λ v. All P (map f v)) (sym is) (All-cons P (f x) (map f xs) here more)

pub all_end : {X Y : Type 0} (P : Y → Type 0) (f : X → Y) (left : List X) → left ≡ [] → All P (map f left)
all_end P f left none = subst (λ v. All P (map f v)) (sym none) (All-nil P)

-- ---- lines that are told for some
pub said_start : (Told : List ℕ → Type 0) (text : List ℕ) → text ≡ [] → (more : List ℕ) → Told more → Told (text ++ more)
said_start Told text none more h = subst (λ t. Told (t ++ more)) (sym none) h

-- a line more behind those before
pub said_on : {X : Type 0} (Is : ℕ → X → Type 0) (line : ℕ → X → List ℕ) (k : ℕ) (left : List X) (x : X) (xs : List X) (tells : Bool) (old new : List ℕ)
    (Told : List ℕ → Type 0) → left ≡ x ∷ xs → (tells ≡ true → Is k x) → new ≡ old ++ (if tells then line k x else []) →
    ((more : List ℕ) → AllSaid Is line k left more → Told (old ++ more)) → (more : List ℕ) → AllSaid Is line (k + 1) xs more → Told (new ++ more)
said_on Is line k left x xs tells old new Told opened is same before more rest =
    let next : k + 1 ≡ suc k = omega arith in
    let text = (if tells then line k x else []) ++ more in
    let all : AllSaid Is line k (x ∷ xs) text = (tells, is, more, refl, subst (λ n. AllSaid Is line n xs more) next rest) in
    let here = before text (subst (λ v. AllSaid Is line k v text) (sym opened) all) in
    subst Told (sym (ap (λ t. t ++ more) same ∙ append_assoc old (if tells then line k x else []) more)) here

pub said_end : {X : Type 0} (Is : ℕ → X → Type 0) (line : ℕ → X → List ℕ) (k : ℕ) (left : List X) (text : List ℕ) (Told : List ℕ → Type 0) → left ≡ [] →
    ((more : List ℕ) → AllSaid Is line k left more → Told (text ++ more)) → Told text
said_end Is line k left text Told none before =
    subst Told (append-nil text) (before [] (subst (λ v. AllSaid Is line k v []) (sym none) refl))

-- the lines on one `||` more behind those before
pub ors_on : (a : Asked) (bs : List ToldBranch) (n : ℕ) (left : List OrTree) (o : OrTree) (os : List OrTree) (old first new : List ℕ)
    (Told : List ℕ → Type 0) → left ≡ o ∷ os → AreBranchLines a bs n o first → new ≡ old ++ first →
    ((more : List ℕ) → AreOrLines a bs n left more → Told (old ++ more)) → (more : List ℕ) → AreOrLines a bs n os more → Told (new ++ more)
ors_on a bs n left o os old first new Told opened are same before more rest =
    let all : AreOrLines a bs n (o ∷ os) (first ++ more) = (first, more, refl, are, rest) in
    let here = before (first ++ more) (subst (λ v. AreOrLines a bs n v (first ++ more)) (sym opened) all) in
    subst Told (sym (ap (λ t. t ++ more) same ∙ append_assoc old first more)) here

pub ors_end : (a : Asked) (bs : List ToldBranch) (n : ℕ) (left : List OrTree) (text : List ℕ) (Told : List ℕ → Type 0) → left ≡ [] →
    ((more : List ℕ) → AreOrLines a bs n left more → Told (text ++ more)) → Told text
ors_end a bs n left text Told none before = subst Told (append-nil text) (before [] (subst (λ v. AreOrLines a bs n v []) (sym none) refl))

-- ---- texts
head_words : (o h d w m : List ℕ) → (((o ++ concat (h ∷ d ∷ codes ": " ∷ [])) ++ w) ++ m) ++ 10 ∷ [] ≡
    o ++ concat (h ∷ d ∷ codes ": " ∷ concat (w ∷ m ∷ []) ∷ codes "\n" ∷ [])
head_words o h d w m = simp append_assoc refl

arm_words : (o h d w m : List ℕ) → (((o ++ concat (h ∷ d ∷ codes ": " ∷ [])) ++ w) ++ m) ++ 10 ∷ [] ≡
    o ++ concat (h ∷ d ∷ (codes ": " ++ w) ∷ m ∷ codes "\n" ∷ [])
arm_words o h d w m = simp append_assoc refl

param_words : (o h w m : List ℕ) → (((o ++ h) ++ w) ++ m) ++ 10 ∷ [] ≡ o ++ concat (h ∷ w ∷ m ∷ codes "\n" ∷ [])
param_words o h w m = simp append_assoc refl

module _ (old a b c new head words : List ℕ) where
  pub unbounded_text : (tells : Bool) (n : ℕ) (name bytes : List ℕ) → tells ≡ true → head ≡ codes "choose " → words ≡ codes "nothing bounds output " →
      bytes ≡ name → a ≡ old ++ concat (head ∷ decimal n ∷ codes ": " ∷ []) → b ≡ a ++ words → c ≡ b ++ bytes → new ≡ c ++ 10 ∷ [] →
      new ≡ old ++ (if tells then unbounded_line n name else [])
  unbounded_text tells n name bytes told_is head_is words_is bytes_is first second third last =
      rw (last, third, second, first, head_is, words_is, bytes_is, told_is)
      (head_words old (codes "choose ") (decimal n) (codes "nothing bounds output ") name)

  pub unreached_text : (tells : Bool) (n k : ℕ) → tells ≡ true → head ≡ codes "match " → words ≡ codes "no number reaches arm " →
      a ≡ old ++ concat (head ∷ decimal n ∷ codes ": " ∷ []) → b ≡ a ++ words → c ≡ b ++ decimal (k + 1) → new ≡ c ++ 10 ∷ [] →
      new ≡ old ++ (if tells then unreached_line n k else [])
  unreached_text tells n k told_is head_is words_is first second third last =
      rw (last, third, second, first, head_is, words_is, told_is)
      (arm_words old (codes "match ") (decimal n) (codes "no number reaches arm ") (decimal (k + 1)))

  pub unused_text : (name : List ℕ) (p : Param) (place : Place) (bytes : List ℕ) → place ≡ p.place → head ≡ heading name (Some place) →
      words ≡ codes "nothing uses parameter " → bytes ≡ p.name → a ≡ old ++ head → b ≡ a ++ words → c ≡ b ++ bytes → new ≡ c ++ 10 ∷ [] →
      new ≡ old ++ unused_line name p
  unused_text name p place bytes place_is head_is words_is bytes_is first second third last =
      rw (last, third, second, first, head_is, place_is, words_is, bytes_is)
      (param_words old (heading name (Some p.place)) (codes "nothing uses parameter ") p.name)

-- the words on a branch, piece by piece
seven_words : (o a k l c : List ℕ) → (((((((o ++ a) ++ k) ++ codes " of || at ") ++ l) ++ 58 ∷ []) ++ c) ++ codes " never holds") ≡
    o ++ concat (a ∷ k ∷ codes " of || at " ∷ l ∷ codes ":" ∷ c ∷ codes " never holds" ∷ [])
seven_words o a k l c = simp append_assoc refl

pub branch_words : (old a b c d e f new w at last : List ℕ) (p : Place) (k : ℕ) → w ≡ codes "branch " → at ≡ codes " of || at " →
    last ≡ codes " never holds" → a ≡ old ++ w → b ≡ a ++ decimal (k + 1) → c ≡ b ++ at → d ≡ c ++ decimal p.line → e ≡ d ++ 58 ∷ [] →
    f ≡ e ++ decimal p.column → new ≡ f ++ last → new ≡ old ++ branch_text p k
branch_words old a b c d e f new w at last p k w_is at_is last_is one two three four five six seven =
    rw (seven, six, five, four, three, two, one, last_is, at_is, w_is) (seven_words old (codes "branch ") (decimal (k + 1)) (decimal p.line) (decimal p.column))

pub branch_told : (old words new : List ℕ) (tells : Bool) (n k : ℕ) (p : Place) → tells ≡ true → words ≡ branch_text p k →
    new ≡ old ++ numbered_line n words → new ≡ old ++ (if tells then branch_line n p k else [])
branch_told old words new tells n k p told is text = rw told (text ∙ ap (λ w. old ++ numbered_line n w) is)

-- a line more on the parameters, which are seen by f
pub unused_on : {X : Type 0} (name : List ℕ) (f : X → Param) (xs : List X) (i : ℕ) (x : X) (old new all : List ℕ) → i < length xs → x ≡ get_or xs i x →
    new ≡ old ++ unused_line name (f x) → old ++ unused_lines name (map f (drop i xs)) ≡ all → new ++ unused_lines name (map f (drop (i + 1) xs)) ≡ all
unused_on name f xs i x old new all less is text before =
    let rest = unused_lines name (map f (drop (i + 1) xs)) in
    ap (λ t. t ++ rest) text ∙ append_assoc old (unused_line name (f x)) rest
    ∙ sym (ap (λ v. old ++ unused_lines name (map f v)) (dropped_one xs i x less is)) ∙ before

-- ---- the name of a file with a place
pub front_text : (old a b new name : List ℕ) (p : Option Place) → a ≡ old ++ shown name → b ≡ a ++ place_text p → new ≡ b ++ codes ": " →
    new ≡ old ++ heading name p
front_text old a b new name None e f g = rw (g, f, e) (simp append_assoc refl)
front_text old a b new name (Some p) e f g = rw (g, f, e) (simp append_assoc refl)

-- ---- tuples
pub most_more : (most here more : ℕ) → max (max most here) more ≡ max most (max here more)
most_more most here more = omega arith

-- ---- the lines of a choose in its branches
pub beside_added : (a : Asked) (bs : List ToldBranch) (notes : Notes) (n : ℕ) (lines : List ℕ) (tuples : ℕ) (old mid new : List ℕ) →
    AreBesideLines a bs n notes lines → mid ≡ old ++ lines → tuples ≡ most_tuples a bs → new ≡ mid ++ tuples_line n tuples → AddsBeside a bs notes n old new
beside_added a bs notes n lines tuples old mid new are first is second = (
  lines,
  are,
  second ∙ ap (λ t. mid ++ tuples_line n t) is ∙ ap (λ t. t ++ tuples_line n (most_tuples a bs)) first
      ∙ append_assoc old lines (tuples_line n (most_tuples a bs)),
)

module _ (s : SolvedChoose) (a : Asked) (bs : List ToldBranch) (notes : Notes) where
  abbrev variables : List (List ℕ)
  variables = names_at (names_of s.choose.scope.now) a.levels

  pub asked_lines : (old first second new : List ℕ) (e : ExistenceAnswer) (u : UniquenessAnswer) → TellsExistence a bs e →
      (All HoldsCondition bs → TellsUniqueness a bs u) → first ≡ old ++ numbered_line s.choose.number (existence_text variables e) →
      second ≡ first ++ numbered_line s.choose.number (uniqueness_text variables u) → AddsBeside a bs notes s.choose.number second new →
      AddsAsked s a bs notes old new (answered (unmet_existence e) (unmet_uniqueness u))
  asked_lines old first second new e u e_is u_is one two (more, are, last) conditions =
      let tuples = tuples_line s.choose.number (most_tuples a bs) in
      let exists = numbered_line s.choose.number (existence_text variables e) in
      let unique = numbered_line s.choose.number (uniqueness_text variables u) in (
        exists ++ unique ++ more ++ tuples,
        last ∙ ap (λ t. t ++ (more ++ tuples)) (two ∙ ap (λ t. t ++ unique) one) ∙ joined old exists unique more tuples,
        asked e u e_is (u_is conditions) more are,
      )
    where
      joined : (v w x y z : List ℕ) → ((v ++ w) ++ x) ++ (y ++ z) ≡ v ++ (((w ++ x) ++ y) ++ z)
      joined v w x y z = simp append_assoc refl

  pub never_line : (old words new : List ℕ) (b : Answered) → TellsNever a bs → words ≡ never_text → b ≡ answered one_no nothing_unmet →
      new ≡ old ++ numbered_line s.choose.number words → AddsAsked s a bs notes old new b
  never_line old words new b h told is text conditions = (
    numbered_line s.choose.number never_text,
    text ∙ ap (λ w. old ++ numbered_line s.choose.number w) told,
    rw is (never h),
  )

  pub no_inputs_line : (old words new : List ℕ) (b : Answered) → TellsNoInputs a bs → words ≡ no_inputs_text → b ≡ answered one_no nothing_unmet →
      new ≡ old ++ numbered_line s.choose.number words → AddsAsked s a bs notes old new b
  no_inputs_line old words new b h told is text conditions = (
    numbered_line s.choose.number no_inputs_text,
    text ∙ ap (λ w. old ++ numbered_line s.choose.number w) told,
    rw is (no_inputs h),
  )

-- ---- behind the line of an arm
abbrev arm_bounds : File → List ℕ → List Base → List Base → RelTree → ℕ → Type 0
arm_bounds file lines scope outputs rel n = AreUnboundedLines (arm_asked scope outputs rel) (arm_branch rel ∷ []) n (output_names file n) lines

pub arm_beside : (file : File) (s : SolvedChoose) (scope outputs shown : List Base) (bs : List ToldBranch) (names : List (List ℕ)) →
    scope ≡ s.solved.scope.items → outputs ≡ s.solved.outputs.items → shown ≡ s.solved.outputs.items → bs ≡ arm_branch (rel_tree s.solved.rel) ∷ [] →
    names ≡ output_names file s.choose.number → (levels lines : List ℕ) (tuples : ℕ) (old mid new : List ℕ) →
    levels ≡ parameters s.solved.scope.items (rel_tree s.solved.rel) →
    AreUnboundedLines (record { scope = scope; outputs = outputs; shown = shown; levels = levels }) bs s.choose.number names lines → mid ≡ old ++ lines →
    tuples ≡ tuple_count s.solved.scope.items s.solved.outputs.items (rel_tree s.solved.rel) → new ≡ mid ++ tuples_line s.choose.number tuples →
    AddsBesideArm file s old new
arm_beside file s scope outputs shown bs names same_scope same_outputs same_shown same_branches named levels lines tuples old mid new are bounds first is
    second q h =
    let of = h.solved in
    let there = s.solved.scope.items in
    let given = s.solved.outputs.items in
    let rel = rel_tree s.solved.rel in
    let number = solved_number q s h in
    let asked : Asked = record { scope = scope; outputs = outputs; shown = shown; levels = levels } in
    let same : asked ≡ arm_asked there given rel = rw (same_scope, same_outputs, same_shown, are) refl in
    let by_asked = subst (λ x. AreUnboundedLines x bs s.choose.number names lines) same bounds in
    let by_branch = subst (λ v. AreUnboundedLines (arm_asked there given rel) v s.choose.number names lines) same_branches by_asked in
    let by_name = subst (λ v. AreUnboundedLines (arm_asked there given rel) (arm_branch rel ∷ []) s.choose.number v lines) named by_branch in
    let counts : tuple_count there given rel ≡ tuple_count q.scope q.outputs q.relation = rw (of.same_scope, of.same_outputs, of.same_relation) refl in (
      lines ++ tuples_line q.number (tuple_count q.scope q.outputs q.relation),
      (
        lines,
        subst (λ n. arm_bounds file lines q.scope q.outputs q.relation n) number
            (subst (λ r. arm_bounds file lines q.scope q.outputs r s.choose.number) of.same_relation
            (subst (λ v. arm_bounds file lines q.scope v rel s.choose.number) of.same_outputs
            (subst (λ v. arm_bounds file lines v given rel s.choose.number) of.same_scope by_name))),
        refl,
      ),
      second ∙ ap (λ t. mid ++ tuples_line s.choose.number t) (is ∙ counts)
          ∙ ap (λ n. mid ++ tuples_line n (tuple_count q.scope q.outputs q.relation)) number
          ∙ ap (λ t. t ++ tuples_line q.number (tuple_count q.scope q.outputs q.relation)) first
          ∙ append_assoc old lines (tuples_line q.number (tuple_count q.scope q.outputs q.relation)),
    )

pub nothing_behind_arm : (file : File) (s : SolvedChoose) (old : List ℕ) → file.edition ≡ Two → AddsBehindArm file s old old
nothing_behind_arm file s old two q h = ([], subst (λ e. AreBehindArm e (output_names file q.number) q []) (sym two) refl, sym (append-nil old))

pub beside_behind_arm : (file : File) (s : SolvedChoose) (old new : List ℕ) → file.edition ≡ Three → AddsBesideArm file s old new →
    AddsBehindArm file s old new
beside_behind_arm file s old new three adds q h =
    let (more, is, text) = adds q h in (more, subst (λ e. AreBehindArm e (output_names file q.number) q more) (sym three) is, text)

-- ---- behind the line of a match
pub nothing_behind_match : (edition : Edition) (n : ℕ) (classes : List Class) (old : List ℕ) → edition ≡ Two →
    (more : List ℕ) × AreBehindMatch edition n classes more × (old ≡ old ++ more)
nothing_behind_match edition n classes old two = ([], subst (λ e. AreBehindMatch e n classes []) (sym two) refl, sym (append-nil old))
