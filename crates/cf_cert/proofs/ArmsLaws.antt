-- The cases of a block, as a loop follows them.
use Rattle.std.proofs.Common.{◌≡◌, ℕ, zero, suc, ◌+◌, ◌*◌, ◌^◌, ◌<◌, ◌≤◌, List, [], ◌∷◌, ◌++◌, length, map, drop, get_or, Some, Ok, Err}
use Rattle.std.proofs.Common.{refl, sym, ◌∙◌, ap, arith, subst, append_assoc}
use Rattle.std.proofs.lemmas.List.{append-nil, map-append, length-append}
use Rattle.cf_tree.specs.CodeView.{arm_tree}
use Rattle.cf_tree.specs.declared.code.Arm.{Arm}
use Rattle.cf_linear.specs.declared.refusal.TheConstants.{MOST_SETS}
use Rattle.cf_linear.specs.declared.system.Layout.{Layout as DeclaredLayout}
use Rattle.cf_linear.specs.declared.system.System.{System as DeclaredSystem}
use Rattle.cf_linear.specs.Arm.{arm}
use Rattle.cf_linear.specs.Layout.{Layout, set_count, first_free}
use Rattle.cf_linear.specs.Stages.{limits}
use Rattle.cf_linear.specs.Systems.{System, Answer}
use Rattle.cf_linear.specs.Views.{plain_layout, system_of}
use Rattle.cf_cases.specs.Holding.{EachOf}
use Rattle.cf_elim.specs.declared.output.StepOutput.{StepOutput}
use Rattle.cf_elim.specs.Stages.{made_answer}
use Rattle.cf_choose.specs.ArmBuilders.{answer_of}
use Rattle.cf_choose.specs.Eliminations.{CanBegin}
use Rattle.cf_choose.proofs.DoneLemmas.{rest_of, rest_more}
use Rattle.cf_choose.proofs.MadeArms.{arm_same}
use Rattle.cf_cases.proofs.FirstSystemLaws.{pow_small}
use Rattle.cf_elim.specs.declared.act.Act.{Act}
use Rattle.cf_cert.specs.declared.follow.CaseFault.{CaseFault}
use Rattle.cf_cert.specs.declared.follow.CaseFault.TheVariants.{Rejected, NoMemory}
use Rattle.cf_cert.specs.declared.verdict.Why.{Why}
use Rattle.cf_cert.specs.Certifying.{eliminated, AreEliminated}
use Rattle.cf_cert.specs.Judging.{case_fault}
use Rattle.cf_cert.specs.Verifying.{AreArmsOf, ArmIs, ArmsIs, HasFew, in_case}
use Rattle.cf_cert.proofs.WayLaws.{dropped_one, dropped_all}

-- ---- levels and columns of 32 bits
module _ (lay : DeclaredLayout) (n : ℕ) (few : set_count (plain_layout lay) ≤ MOST_SETS) (room : HasFew lay n) where
  pub free_fits : first_free (plain_layout lay) < 2 ^ 32
  free_fits =
      let k = room.numbers in
      let o = room.outputs in
      omega (arith, pow_small (length lay.inputs.items) (omega arith), pow_small (set_count (plain_layout lay)) few)

  pub regions_fit : lay.scope + n + 2 * 2 ^ length lay.inputs.items < 2 ^ 32
  regions_fit =
      let s = room.scope in
      let b = room.searches in
      omega (arith, pow_small (length lay.inputs.items) (omega arith))

  pub outputs_fit : lay.scope + (length lay.out_numbers.items + length lay.out_sets.items) < 2 ^ 32
  outputs_fit = let s = room.scope in let o = room.outputs in omega arith

-- the arm does not look at the last system
pub arm_made : (l : Layout) (m : System) (p : StepOutput) → arm l (answer_of p.bounds.items p.steps.items p.back.items) ≡ arm l (made_answer m p)
arm_made l m p = arm_same l (answer_of p.bounds.items p.steps.items p.back.items) (made_answer m p) refl refl refl

-- ---- on the way
-- of the cases so many have their arms, and the faults of the others are left
pub record IsArming (l : Layout) (ms : List System) (cases : List (List Act)) (left : List DeclaredSystem) (case : ℕ) (arms : List Arm) : Type 0 where
  pub ready : EachOf CanBegin (rest_of left)
  pub count : case + length left ≡ length cases
  pub fault : case_fault limits 1 ms cases ≡ case_fault limits (case + 1) (rest_of left) (drop case cases)
  pub answers : List Answer
  pub onward : (later : List Answer) → AreEliminated limits (rest_of left) (drop case cases) later → AreEliminated limits ms cases (answers ++ later)
  pub trees : map arm_tree arms ≡ map (arm l) answers

pub arming_ready : (l : Layout) (ms : List System) (cases : List (List Act)) (before left : List DeclaredSystem) (x : DeclaredSystem) (case : ℕ)
    (arms : List Arm) →
    before ≡ left ++ (x ∷ []) → IsArming l ms cases before case arms → CanBegin (system_of x)
arming_ready l ms cases before left x case arms e w = let r = rw (ap rest_of e ∙ rest_more left x) at w.ready in r.0

pub arming_below : (l : Layout) (ms : List System) (cases : List (List Act)) (before left : List DeclaredSystem) (x : DeclaredSystem) (case : ℕ)
    (arms : List Arm) →
    before ≡ left ++ (x ∷ []) → IsArming l ms cases before case arms → case < length cases
arming_below l ms cases before left x case arms e w =
    let k = ap length e ∙ length-append left (x ∷ []) in let c = w.count in omega arith

case_goes : (i : ℕ) (m : System) (ms : List System) (acts : List Act) (cases : List (List Act)) (a : Answer) → eliminated limits m acts ≡ Ok a →
    case_fault limits i (m ∷ ms) (acts ∷ cases) ≡ case_fault limits (i + 1) ms cases
unfolding case_fault
case_goes i m ms acts cases a e = rw e refl

case_stops : (i j : ℕ) (w : Why) (m : System) (ms : List System) (acts : List Act) (cases : List (List Act)) → eliminated limits m acts ≡ Err (j, w) →
    case_fault limits i (m ∷ ms) (acts ∷ cases) ≡ Some (i, j, w)
unfolding case_fault
case_stops i j w m ms acts cases e = rw e refl

module _ (l : Layout) (ms : List System) (cases : List (List Act)) (before left : List DeclaredSystem) (x : DeclaredSystem) (case : ℕ) (acts : List Act)
    (arms : List Arm) (e : before ≡ left ++ (x ∷ [])) (here : acts ≡ get_or cases case acts) (w : IsArming l ms cases before case arms) where
  rest : rest_of before ≡ system_of x ∷ rest_of left
  rest = ap rest_of e ∙ rest_more left x

  acts_here : drop case cases ≡ acts ∷ drop (case + 1) cases
  acts_here = dropped_one cases case acts (arming_below l ms cases before left x case arms e w) here

  faults : case_fault limits 1 ms cases ≡ case_fault limits (case + 1) (system_of x ∷ rest_of left) (acts ∷ drop (case + 1) cases)
  faults = w.fault ∙ ap (λ xs. case_fault limits (case + 1) xs (drop case cases)) rest ∙
      ap (λ cs. case_fault limits (case + 1) (system_of x ∷ rest_of left) cs) acts_here

  pub arming_more : (more : List Arm) (t : Arm) (a : Answer) → more ≡ arms ++ (t ∷ []) → eliminated limits (system_of x) acts ≡ Ok a → arm_tree t ≡ arm l a →
      IsArming l ms cases left (case + 1) more
  arming_more more t a f h k = record {
    ready = (rw rest at w.ready).1;
    count = let n = ap length e ∙ length-append left (x ∷ []) in let c = w.count in omega arith;
    fault = faults ∙ case_goes (case + 1) (system_of x) (rest_of left) acts (drop (case + 1) cases) a h;
    answers = w.answers ++ (a ∷ []);
    onward = λ later g.
        subst (AreEliminated limits ms cases) (sym (append_assoc w.answers (a ∷ []) later))
        (w.onward (a ∷ later) (subst (λ xs. AreEliminated limits xs (drop case cases) (a ∷ later)) (sym rest)
        (subst (λ cs. AreEliminated limits (system_of x ∷ rest_of left) cs (a ∷ later)) (sym acts_here) (h, g))));
    trees = rw (f, map-append arm_tree arms (t ∷ []), map-append (arm l) w.answers (a ∷ []), w.trees, k) refl;
  }

  pub arming_fails : (f : CaseFault) → ArmIs l (eliminated limits (system_of x) acts) (Err f) → ArmsIs l ms cases (Err (in_case (case + 1) f))
  arming_fails (Rejected step why) h = faults ∙ case_stops (case + 1) step why (system_of x) (rest_of left) acts (drop (case + 1) cases) h
  arming_fails NoMemory h = tt

-- the element of a list that is mapped
pub mapped : {A B : Type 0} (f : A → B) (xs : List A) (i : ℕ) (x : A) → x ≡ get_or xs i x → f x ≡ get_or (map f xs) i (f x)
mapped f [] i x e = refl
mapped f (y ∷ xs) zero x e = ap f e
mapped f (y ∷ xs) (suc i) x e = mapped f xs i x e

pub arming_ends : (l : Layout) (ms : List System) (cases : List (List Act)) (left : List DeclaredSystem) (case : ℕ) (arms : List Arm) → left ≡ [] →
    IsArming l ms cases left case arms → AreArmsOf l ms cases arms
arming_ends l ms cases left case arms e w =
    let n : length cases ≤ case = let k = ap length e in let c = w.count in omega arith in
    record {
      answers = w.answers;
      eliminated = subst (AreEliminated limits ms cases) (append-nil w.answers)
          (w.onward [] (subst (λ xs. AreEliminated limits (rest_of xs) (drop case cases) []) (sym e)
          (subst (λ cs. AreEliminated limits [] cs []) (sym (dropped_all cases case n)) tt)));
      trees = w.trees;
    }
