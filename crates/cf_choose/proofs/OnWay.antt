-- The cases one after the other, and then their arms: what those before made, and what is left.
use Rattle.std.proofs.Common.{◌≡◌, ℕ, ◌+◌, ◌<◌, ◌≤◌, List, [], ◌∷◌, ◌++◌, Some, None, Ok, Err, map, take, length, get_or, refl, sym, ap, subst, ◌∙◌}
use Rattle.std.proofs.Common.{append_assoc}
use Rattle.std.proofs.lemmas.List.{map-append, take_more}
use Rattle.cf_tree.specs.declared.base.Base.{Base}
use Rattle.cf_tree.specs.declared.code.Arm.{Arm}
use Rattle.cf_tree.specs.CodeView.{arm_tree}
use Rattle.cf_tree.specs.CodeTree.{arms_of}
use Rattle.cf_tree.specs.RelTree.{RelTree}
use Rattle.cf_linear.specs.declared.refusal.TheConstants.{MOST_SETS}
use Rattle.cf_linear.specs.declared.refusal.Refusal.{Refusal}
use Rattle.cf_linear.specs.declared.system.Layout.{Layout as DeclaredLayout}
use Rattle.cf_linear.specs.declared.system.System.{System as DeclaredSystem}
use Rattle.cf_linear.specs.Chooses.{arm_of_case, arms, first_refused}
use Rattle.cf_linear.specs.Cases.{first_systems}
use Rattle.cf_linear.specs.Layout.{Layout, layout_of, set_count}
use Rattle.cf_linear.specs.Systems.{System}
use Rattle.cf_linear.specs.Stages.{refused, run, limits}
use Rattle.cf_linear.specs.Views.{system_of, plain_layout}
use Rattle.cf_cases.specs.Holding.{EachOf}
use Rattle.cf_cases.proofs.Quantifiers.{each-append}
use Rattle.cf_elim.specs.declared.solved.CaseParts.{CaseParts}
use Rattle.cf_choose.proofs.BoundLemmas.{map_more}
use Rattle.cf_choose.specs.declared.fault.ChooseFault.{ChooseFault}
use Rattle.cf_choose.specs.declared.fault.ChooseFault.TheVariants.{Refused, NoMemory}
use Rattle.cf_choose.specs.declared.solving.Eliminated.{Eliminated}
use Rattle.cf_choose.specs.Eliminations.{CanBegin, IsCaseDone, CaseIs, EachCaseIs, CasesAre, CountIs, IsTraced, IsArmFor, AreArmsFor, IsFewSets, made}
use Rattle.cf_choose.specs.Eliminations.{first_of, case_refusal}
use Rattle.cf_choose.specs.ArmBuilders.{HasOutputs}
use Rattle.cf_choose.specs.Solved.{ArmsSolve, SolveAnswer, IsSolvedBy, steps_of, bounds_of}
use Rattle.cf_choose.specs.Solving.{IsEliminatedBy}
use Rattle.cf_choose.proofs.CaseLemmas.{all_solved, few_sets, no_limit, refused_by_count, refused_here, refused_after, refused_later}
use Rattle.cf_choose.proofs.ChooseLevels.{are_outputs, has_outputs}
use Rattle.cf_choose.proofs.DoneLemmas.{rest_of, rest_more}

-- what is left of all cases, behind those that are eliminated
pub record IsOnWay (all : List System) (left : List DeclaredSystem) (cases : List CaseParts) : Type 0 where
  pub refusal : first_refused limits all ≡ first_refused limits (rest_of left)
  pub ready : EachOf CanBegin (rest_of left)
  pub firsts : map first_of cases ++ rest_of left ≡ all

pub way_more : (all : List System) (before left : List DeclaredSystem) (x : DeclaredSystem) (cases more : List CaseParts) (c : CaseParts) → before ≡ left ++
    (x ∷ []) → more ≡ cases ++ (c ∷ []) →
    CaseIs (system_of x) (Ok c) → IsOnWay all before cases → IsOnWay all left more
way_more all before left x cases more c e f d w =
    let s : rest_of before ≡ system_of x ∷ rest_of left = ap rest_of e ∙ rest_more left x in
    record {
      refusal = w.refusal ∙ ap (first_refused limits) s ∙ refused_after (system_of x) (rest_of left) d.1;
      ready = (rw s at w.ready).1;
      firsts =
          let k = rw s at w.firsts in
          rw (f, map-append first_of cases (c ∷ []), d.0) (append_assoc (map first_of cases) (system_of x ∷ []) (rest_of left) ∙ k);
    }

pub way_ready : (all : List System) (before left : List DeclaredSystem) (x : DeclaredSystem) (cases : List CaseParts) → before ≡ left ++ (x ∷ []) →
    IsOnWay all before cases → CanBegin (system_of x)
way_ready all before left x cases e w = let r = rw (ap rest_of e ∙ rest_more left x) at w.ready in r.0

way_refused : (all : List System) (before left : List DeclaredSystem) (x : DeclaredSystem) (cases : List CaseParts) (r : Refusal) → before ≡ left ++
    (x ∷ []) → (run limits (system_of x)).end ≡ refused r →
    IsOnWay all before cases → first_refused limits all ≡ Some r
way_refused all before left x cases r e h w = w.refusal ∙ ap (first_refused limits) (ap rest_of e ∙ rest_more left x) ∙
    refused_here (system_of x) (rest_of left) r h

pub cases_refused : (all : List System) (before left : List DeclaredSystem) (x : DeclaredSystem) (cases : List CaseParts) (e : ChooseFault) →
    before ≡ left ++ (x ∷ []) → CaseIs (system_of x) (Err e) →
    IsOnWay all before cases → EachCaseIs all (Err e)
cases_refused all before left x cases (Refused r) e h w = way_refused all before left x cases r e h w
cases_refused all before left x cases NoMemory e h w = tt

-- ---- arms
each_more : {A : Type 0} (P : A → Type 0) (xs : List A) (i : ℕ) (x : A) → i < length xs → x ≡ get_or xs i x → EachOf P (take i xs) → P x →
    EachOf P (take (i + 1) xs)
each_more P xs i x h e k p = rw (take_more xs i x h, ← e) (each-append P (take i xs) (x ∷ []) k (p, tt))

pub arms_more : (l : Layout) (cases : List CaseParts) (i : ℕ) (c : CaseParts) (arms more : List Arm) (a : Arm) → i < length cases → c ≡ get_or cases i c →
    more ≡ arms ++ (a ∷ []) →
    IsArmFor l c a → AreArmsFor l (take i cases) arms → AreArmsFor l (take (i + 1) cases) more
arms_more l cases i c arms more a h e f d w = record {
  done = rw (map_more first_of cases i c h e) (each-append (IsCaseDone l) (map first_of (take i cases)) (first_of c ∷ []) w.done (d.done, tt));
  traced = each_more IsTraced cases i c h e w.traced d.traced;
  trees =
      rw (f, map-append arm_tree arms (a ∷ []), w.trees, d.tree)
      (sym (map_more (λ c. arm_of_case limits l (first_of c)) cases i c h e));
}

-- ---- a choose whose cases are all done
traced_steps : (cases : List CaseParts) → EachOf IsTraced cases → map steps_of cases ≡ map (λ m. (made m).steps) (map first_of cases)
traced_steps [] t = refl
traced_steps (c ∷ cases) t = rw (t.0.steps, traced_steps cases t.1) refl

traced_bounds : (cases : List CaseParts) → EachOf IsTraced cases → map bounds_of cases ≡ map (λ m. (made m).bounds) (map first_of cases)
traced_bounds [] t = refl
traced_bounds (c ∷ cases) t = rw (t.0.bounds, traced_bounds cases t.1) refl

map_firsts : {A : Type 0} (f : System → A) (cases : List CaseParts) → map (λ c. f (first_of c)) cases ≡ map f (map first_of cases)
map_firsts f [] = refl
map_firsts f (c ∷ cases) = ap (λ xs. f (first_of c) ∷ xs) (map_firsts f cases)

module _ (scope outputs : List Base) (rel : RelTree) (of : Eliminated) (e : IsEliminatedBy scope outputs rel of) where
  pub few_sets_by : IsFewSets (plain_layout of.layout)
  few_sets_by = record {
    few = few_sets (plain_layout of.layout) rel e.counts;
    outputs =
        subst HasOutputs (sym e.layout_is) (has_outputs scope outputs rel (are_outputs outputs e.are_outputs));
  }

  pub solved_by : (found : List Arm) → AreArmsFor (plain_layout of.layout) of.cases.items found → IsSolvedBy scope outputs rel of.layout of.cases.items found
  unfolding arms
  solved_by found a =
      let l = plain_layout of.layout in
      let all = layout_of scope outputs rel in
      let firsts : map first_of of.cases.items ≡ first_systems all rel = e.firsts ∙ ap (λ k. first_systems k rel) e.layout_is in
      let done : EachOf (IsCaseDone l) (first_systems l rel) = subst (EachOf (IsCaseDone l)) e.firsts a.done in
      let done_all : EachOf (IsCaseDone all) (first_systems all rel) = subst (λ k. EachOf (IsCaseDone k) (first_systems k rel)) e.layout_is done in
      let trees : map arm_tree found ≡ map (arm_of_case limits l) (first_systems l rel) = a.trees ∙ map_firsts (arm_of_case limits l) of.cases.items ∙
      ap (map (arm_of_case limits l)) e.firsts in
      let trees_all : map arm_tree found ≡ map (arm_of_case limits all) (first_systems all rel) =
      subst (λ k. map arm_tree found ≡ map (arm_of_case limits k) (first_systems k rel)) e.layout_is trees in
      let few : set_count all ≤ MOST_SETS = subst (λ k. set_count k ≤ MOST_SETS) e.layout_is (few_sets l rel e.counts) in
      record {
        typed = e.typed;
        linear = e.linear;
        are_outputs = e.are_outputs;
        within = no_limit scope outputs rel l e.layout_is e.counts e.written done;
        layout_is = e.layout_is;
        firsts_are = firsts;
        steps_are = traced_steps of.cases.items a.traced ∙ ap (map (λ m. (made m).steps)) firsts;
        bounds_are = traced_bounds of.cases.items a.traced ∙ ap (map (λ m. (made m).bounds)) firsts;
        arms_are = trees_all;
        solve = subst (λ ts. ArmsSolve scope outputs rel (arms_of ts)) (sym trees_all)
            (all_solved scope outputs rel (are_outputs outputs e.are_outputs) few e.typed e.linear done_all);
      }

pub tells_later : (scope outputs : List Base) (rel : RelTree) (lay : DeclaredLayout) (e : ChooseFault) → plain_layout lay ≡ layout_of scope outputs rel →
    case_refusal (plain_layout lay) rel ≡ None →
    CasesAre (plain_layout lay) rel (Err e) → SolveAnswer scope outputs rel (Err e)
tells_later scope outputs rel lay (Refused r) same counts a = refused_later scope outputs rel (plain_layout lay) same counts ∙ a
tells_later scope outputs rel lay NoMemory same counts a = tt

pub tells_count : (scope outputs : List Base) (rel : RelTree) (lay : DeclaredLayout) (e : ChooseFault) → plain_layout lay ≡ layout_of scope outputs rel →
    CountIs (case_refusal (plain_layout lay) rel) (Err e) → SolveAnswer scope outputs rel (Err e)
tells_count scope outputs rel lay (Refused r) same c = refused_by_count scope outputs rel (plain_layout lay) r same c
tells_count scope outputs rel lay NoMemory same c = tt
