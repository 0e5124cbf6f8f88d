-- The arms of a block that certifies a choose solve its relation.
use Rattle.std.proofs.Common.{◌≤◌, List, [], ◌∷◌, ◌++◌, Some, map, inl, inr, refl, subst, sym}
use Rattle.cf_tree.specs.declared.base.Base.{Base}
use Rattle.cf_tree.specs.Allowed.{Chosen}
use Rattle.cf_tree.specs.CodeTree.{ArmTree, arm_of, ArmTrees, no_arms, arm_more, arms_of}
use Rattle.cf_tree.specs.DefView.{TargetTree}
use Rattle.cf_tree.specs.Meaning.{means}
use Rattle.cf_tree.specs.RelTree.{RelTree}
use Rattle.cf_tree.specs.Relation.{IsTyped, IsLinear, Sol}
use Rattle.cf_tree.specs.Solving.{HoldSomewhere, EachGives, Solves}
use Rattle.cf_tree.specs.Typing.{IsGiven, ArmsHave, IsTypedCode}
use Rattle.cf_tree.specs.Values.{Value, HaveBases}
use Rattle.cf_tree.proofs.SolvingLemmas.{solve_chosen}
use Rattle.cf_linear.specs.declared.refusal.TheConstants.{MOST_SETS}
use Rattle.cf_linear.specs.Arm.{arm}
use Rattle.cf_linear.specs.Cases.{first_systems}
use Rattle.cf_linear.specs.Layout.{Layout, layout_of, set_count}
use Rattle.cf_linear.specs.Rows.{Values}
use Rattle.cf_linear.specs.Solved.{SameKnown}
use Rattle.cf_linear.specs.Stages.{limits}
use Rattle.cf_linear.specs.Systems.{System, Sat, Answer}
use Rattle.cf_cases.specs.Holding.{EachOf, SomeOf}
use Rattle.cf_cases.proofs.PlacedLaws.{placed-rel}
use Rattle.cf_elim.proofs.StageSmall.{RowsSmall}
use Rattle.cf_venn.specs.Columns.{known_values, outputs_from}
use Rattle.cf_venn.specs.Laws.{AreOutputs}
use Rattle.cf_venn.proofs.SolvingLaws.{solved_by_counts}
use Rattle.cf_choose.proofs.ArmFacts.{IsArmOf}
use Rattle.cf_choose.proofs.ArmLemmas.{solved_arm}
use Rattle.cf_choose.proofs.CaseLemmas.{few_sets}
use Rattle.cf_choose.proofs.ChooseLevels.{IsFirst, each_first, are_outputs}
use Rattle.cf_choose.proofs.FirstRows.{firsts_small}
use Rattle.cf_cases.proofs.FirstSystemLaws.{IsBegun, first_systems_begun}
use Rattle.cf_elim.specs.declared.act.Act.{Act}
use Rattle.cf_steps.specs.Blocks.{BlockTree}
use Rattle.cf_tree.specs.ChooseTree.{ChooseTree}
use Rattle.cf_cert.specs.Certifying.{layout, AreEliminated, Certifies}
use Rattle.cf_cert.specs.Applying.{IsWithinAct}
use Rattle.cf_cert.specs.Laws.{AreWithinCases, IsLinearChoose, MeansSolutions, CertifiedMeans, HasTypedTarget, CertifiedIsTyped}
use Rattle.cf_cert.proofs.FollowLaws.{eliminated_solves}

-- ---- arms of systems, one for each
module _ (scope outputs : List Base) (rel : RelTree) where
  abbrev l : Layout
  l = layout_of scope outputs rel

  -- one arm for each system, which is one of it
  abbrev pub AreArms : List System → List ArmTree → Type 0
  AreArms [] [] = Unit {0}
  AreArms [] (t ∷ ts) = ⊥
  AreArms (m ∷ ms) [] = ⊥
  AreArms (m ∷ ms) (t ∷ ts) = IsArmOf scope outputs l m t × AreArms ms ts

  -- the system is satisfied at the parameters
  abbrev IsMet : List Value → System → Type 0
  IsMet env m = (w : Values) × SameKnown m (known_values l env) w × Sat m w

  -- where it is, the outputs that are made from the values solve the relation
  abbrev Finds : List Value → System → Type 0
  Finds env m = (w : Values) → SameKnown m (known_values l env) w → Sat m w → Sol outputs rel env (outputs_from l env w)

  module _ (env : List Value) (have : HaveBases scope env) where
    hold_of : (ms : List System) (ts : List ArmTree) → AreArms ms ts → SomeOf (IsMet env) ms → HoldSomewhere (arms_of ts) env
    hold_of [] ts r h = absurd h
    hold_of (m ∷ ms) [] r h = absurd r
    hold_of (m ∷ ms) (t ∷ ts) r (inl h) = inl (r.0.meets env have h.0 h.1 h.2)
    hold_of (m ∷ ms) (t ∷ ts) r (inr h) = inr (hold_of ms ts r.1 h)

    solution_of : (ms : List System) (ts : List ArmTree) → AreArms ms ts → EachOf (Finds env) ms → HoldSomewhere (arms_of ts) env →
        (xs : List Value) × Sol outputs rel env xs
    solution_of [] [] r q h = absurd h
    solution_of [] (t ∷ ts) r q h = absurd r
    solution_of (m ∷ ms) [] r q h = absurd r
    solution_of (m ∷ ms) (t ∷ ts) r q (inl h) = let g = r.0.gives env have h.0 h.1 h.2 in (outputs_from l env g.0, q.0 g.0 g.1 g.2)
    solution_of (m ∷ ms) (t ∷ ts) r q (inr h) = solution_of ms ts r.1 q.1 h

    each_gives : (ms : List System) (ts : List ArmTree) → AreArms ms ts → EachOf (Finds env) ms → EachGives (arms_of ts) (Sol outputs rel env) env
    each_gives [] [] r q = tt
    each_gives [] (t ∷ ts) r q = absurd r
    each_gives (m ∷ ms) [] r q = absurd r
    each_gives (m ∷ ms) (t ∷ ts) r q = (
      (λ ks e h. let g = r.0.gives env have ks e h in (outputs_from l env g.0, g.3, q.0 g.0 g.1 g.2)),
      each_gives ms ts r.1 q.1,
    )

  pub arms_solve : (ts : List ArmTree) → IsTyped (scope ++ outputs) rel → IsLinear rel → AreOutputs outputs → AreArms (first_systems l rel) ts →
      Solves scope outputs rel (arms_of ts)
  arms_solve ts typed linear outs r = record {
    holds = λ env have.
        let s = solved_by_counts scope outputs rel typed linear outs env have in (
          (λ h. solution_of env have (first_systems l rel) ts r s.1 h),
          (λ h. hold_of env have (first_systems l rel) ts r (s.0 h)),
        );
    gives = λ env have. let s = solved_by_counts scope outputs rel typed linear outs env have in each_gives env have (first_systems l rel) ts r s.1;
  }

  pub arms_typed : (ms : List System) (ts : List ArmTree) → AreArms ms ts → ArmsHave (arms_of ts) scope outputs
  arms_typed [] [] r = tt
  arms_typed [] (t ∷ ts) r = absurd r
  arms_typed (m ∷ ms) [] r = absurd r
  arms_typed (m ∷ ms) (t ∷ ts) r = typed_more t (arms_of ts) r.0.typed (arms_typed ms ts r.1)
    where
      typed_more : (a : ArmTree) (arms : ArmTrees) → ArmsHave (arm_more a no_arms) scope outputs → ArmsHave arms scope outputs →
          ArmsHave (arm_more a arms) scope outputs
      typed_more (arm_of bounds is gs) arms h k = (h.0, h.1, h.2, h.3, k)

-- ---- the arms of eliminations
module _ (scope outputs : List Base) (rel : RelTree) (outs : AreOutputs outputs) (few : set_count (layout_of scope outputs rel) ≤ MOST_SETS) where
  each_arm : (ms : List System) (cases : List (List Act)) (answers : List Answer) → EachOf (IsFirst (layout_of scope outputs rel)) ms →
      EachOf IsBegun ms → EachOf RowsSmall ms →
      EachOf (λ acts. EachOf IsWithinAct acts) cases → AreEliminated limits ms cases answers →
      AreArms scope outputs rel ms (map (arm (layout_of scope outputs rel)) answers)
  each_arm [] [] [] f b h w r = tt
  each_arm [] [] (a ∷ answers) f b h w r = absurd r
  each_arm [] (acts ∷ cases) answers f b h w r = absurd r
  each_arm (m ∷ ms) [] answers f b h w r = absurd r
  each_arm (m ∷ ms) (acts ∷ cases) [] f b h w r = absurd r
  each_arm (m ∷ ms) (acts ∷ cases) (a ∷ answers) f b h w r =
      let s = eliminated_solves m acts a (record { formed = b.0.0; differ = b.0.1 }) h.0 w.0 r.0 in
      let e = s.eliminated in (
        solved_arm scope outputs rel outs few m a f.0 e.solved e.owes e.comes e.done s.writable,
        each_arm ms cases answers f.1 b.1 h.1 w.1 r.1,
      )

-- ---- a block that certifies a choose
module _ (q : ChooseTree) (b : BlockTree) (h : IsLinearChoose q) (w : AreWithinCases b.cases) (c : Certifies q b) where
  abbrev made : List ArmTree
  made = map (arm (layout q)) c.answers

  outs : AreOutputs q.outputs
  outs = are_outputs q.outputs h.are_outputs

  arms_made : AreArms q.scope q.outputs q.relation (first_systems (layout q) q.relation) made
  arms_made =
      let l = layout q in
      let placed = placed-rel q.scope q.outputs q.relation h.typed h.linear in
      each_arm q.scope q.outputs q.relation outs (few_sets l q.relation c.counts) (first_systems l q.relation) b.cases c.answers
      (each_first l q.relation placed) (first_systems_begun l q.relation placed) (firsts_small l q.relation placed c.written) w c.cases

  made_typed : ArmsHave (arms_of made) q.scope q.outputs
  made_typed = arms_typed q.scope q.outputs q.relation (first_systems (layout q) q.relation) made arms_made

  pub target_means : MeansSolutions q b
  target_means env have =
      let solves = arms_solve q.scope q.outputs q.relation made h.typed h.linear outs arms_made in
      subst (λ (t : TargetTree). Chosen q.number (Sol q.outputs q.relation env) (means t.code env)) (sym c.target)
      (solve_chosen q.number q.scope q.outputs q.relation (arms_of made) solves made_typed env have)

  pub target_typed : HasTypedTarget b
  target_typed = subst (λ (t : TargetTree). IsTypedCode t.code t.params t.results) (sym c.target) (given (arms_of made) q.outputs, made_typed)
    where
      given : (arms : ArmTrees) (bs : List Base) → IsGiven arms (Some bs) bs
      given no_arms bs = refl
      given (arm_more a arms) bs = refl

pub certified_means : CertifiedMeans
certified_means q b h w c = target_means q b h w c

pub certified_typed : CertifiedIsTyped
certified_typed q b h w c = target_typed q b h w c
