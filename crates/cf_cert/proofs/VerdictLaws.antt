-- The verdict on blocks, one after the other.
use Rattle.std.proofs.Common.{◌≡◌, ◌≢◌, ℕ, ◌+◌, ◌<◌, ◌≤◌, List, [], ◌∷◌, length, drop, get_or, Bool, true, false}
use Rattle.std.proofs.Common.{Some, None, Result, Ok, Err, refl, sym, ◌∙◌, ap, arith, subst, inl, inr}
use Rattle.std.specs.Prelude.{nat_lt, IfOk, Vec, ◌↔◌}
use Rattle.std.specs.Global.{Global}
use Rattle.std.specs.List.{flat_map}
use Rattle.std.proofs.lemmas.Bool.{eq-eqb, ne_eqb, ltb-false, true≢false}
use Rattle.std.proofs.lemmas.List.{length-append, length-map}
use Rattle.cf_tree.specs.Bases.{same_bases}
use Rattle.cf_tree.specs.CodeTree.{CodeTree, arms_of, code_solve}
use Rattle.cf_tree.specs.CodeView.{code_tree, arm_trees}
use Rattle.cf_tree.specs.DefView.{TargetTree, target_tree}
use Rattle.cf_tree.specs.declared.base.Base.{Base}
use Rattle.cf_tree.specs.declared.target.RawTarget.{RawTarget}
use Rattle.cf_tree.proofs.BaseLemmas.{same_bases_self}
use Rattle.cf_tree.specs.RelTree.{RelTree}
use Rattle.cf_tree.specs.declared.code.Arm.{Arm}
use Rattle.cf_tree.specs.declared.memory.NoMemory.{NoMemory as NoRoom}
use Rattle.cf_linear.specs.declared.refusal.Refusal.{Refusal}
use Rattle.cf_linear.specs.declared.refusal.Refusal.TheVariants.{Past}
use Rattle.cf_linear.specs.declared.refusal.TheConstants.{MOST_CASES}
use Rattle.cf_linear.specs.Cases.{negation_normal, first_systems, written_passes, case_count, system_of_case, disjuncts}
use Rattle.cf_linear.specs.Chooses.{choose_limits}
use Rattle.cf_linear.specs.Layout.{Layout, set_count}
use Rattle.cf_linear.proofs.BoolLemmas.{on_bool}
use Rattle.cf_linear.specs.Stages.{limits}
use Rattle.cf_cases.specs.Holding.{EachOf}
use Rattle.cf_cases.proofs.PickLaws.{length-cases}
use Rattle.cf_choose.specs.declared.fault.ChooseFault.{ChooseFault}
use Rattle.cf_choose.specs.declared.fault.ChooseFault.TheVariants.{Refused as ChooseRefused, NoMemory as ChooseNoMemory}
use Rattle.cf_choose.specs.Eliminations.{case_refusal, CountIs}
use Rattle.cf_steps.specs.Blocks.{BlockTree, block_acts}
use Rattle.cf_cert.specs.declared.fault.JudgeFault.{JudgeFault}
use Rattle.cf_cert.specs.declared.fault.JudgeFault.TheVariants.{Rejected as JudgeRejected, NoMemory as JudgeNoMemory}
use Rattle.cf_cert.specs.declared.follow.TheConstants.{MOST_STEPS}
use Rattle.cf_cert.specs.declared.verdict.Verdict.{Verdict}
use Rattle.cf_cert.specs.declared.verdict.Verdict.TheVariants.{Yes, Rejected}
use Rattle.cf_cert.specs.declared.verdict.Why.TheVariants.{Blocks, Code, Refused}
use Rattle.cf_tree.specs.ChooseTree.{ChooseTree}
use Rattle.cf_cert.specs.Certifying.{layout, target_with, Certifies}
use Rattle.cf_cert.specs.Judging.{Fault, case_fault, fault_before_code, IsFaultOf, IsVerdict}
use Rattle.cf_cert.specs.Laws.{AreWithinCases, IsLinearChoose, HasTypedTarget}
use Rattle.cf_cert.specs.Verifying.{target_of, HasFewActs, HaveFewSteps, EachMeans, AreArmsOf, ArmsIs, JudgeIs, IsPlaced, IsArmed, ArmedIs, RejectedIs}
use Rattle.cf_cert.specs.Verifying.{whole_refusal}
use Rattle.cf_cert.proofs.CertifiedArms.{certified_means, certified_typed}
use Rattle.cf_cert.proofs.JudgeLaws.{Passed, steps_alone, passed_without_fault, passed_certifies, code_differs}
use Rattle.cf_cert.proofs.WayLaws.{dropped_one, dropped_all}

-- ---- the choose as a whole
pub other_number : (q : ChooseTree) (b : BlockTree) → b.number ≢ q.number → IsFaultOf q b (0, 0, Blocks)
unfolding fault_before_code
other_number q b n = inl (rw (ne_eqb b.number q.number n) refl)

refused_counts : (q : ChooseTree) (b : BlockTree) (r : Refusal) → b.number ≡ q.number → case_refusal (layout q) q.relation ≡ Some r →
    IsFaultOf q b (0, 0, Refused r)
unfolding fault_before_code
refused_counts q b r n c = inl (rw (eq-eqb b.number q.number n, c) refl)

pub counts_fault : (q : ChooseTree) (b : BlockTree) (l : Layout) (f : ChooseFault) → IsPlaced q b l → CountIs (case_refusal l q.relation) (Err f) →
    JudgeIs q b (Err (whole_refusal f))
counts_fault q b l (ChooseRefused r) h c = refused_counts q b r h.number (subst (λ k. case_refusal k q.relation ≡ Some r) h.layout c)
counts_fault q b l ChooseNoMemory h c = tt

module _ (q : ChooseTree) (b : BlockTree) (l : Layout) (h : IsPlaced q b l) (few : case_refusal l q.relation ≡ None) where
  counts : case_refusal (layout q) q.relation ≡ None
  counts = subst (λ k. case_refusal k q.relation ≡ None) h.layout few

  pub refused_rows : written_passes l (negation_normal true q.relation) ≡ true → IsFaultOf q b (0, 0, Refused Past)
  unfolding fault_before_code
  refused_rows w = inl (rw (eq-eqb b.number q.number h.number, counts, subst (λ k. written_passes k (negation_normal true q.relation) ≡ true) h.layout w) refl)

  module _ (w : written_passes l (negation_normal true q.relation) ≡ false) where
    written : written_passes (layout q) (negation_normal true q.relation) ≡ false
    written = subst (λ k. written_passes k (negation_normal true q.relation) ≡ false) h.layout w

    firsts : first_systems l q.relation ≡ first_systems (layout q) q.relation
    firsts = ap (λ k. first_systems k q.relation) h.layout

    pub other_cases : length b.cases ≢ length (first_systems l q.relation) → IsFaultOf q b (0, 0, Blocks)
    unfolding fault_before_code
    other_cases n =
        let m : length b.cases ≢ length (first_systems (layout q) q.relation) = λ e. n (e ∙ ap length (sym firsts)) in
        inl (rw (eq-eqb b.number q.number h.number, counts, written, ne_eqb (length b.cases) (length (first_systems (layout q) q.relation)) m) refl)

    steps_fault : (f : Fault) → length b.cases ≡ length (first_systems l q.relation) → case_fault limits 1 (first_systems l q.relation) b.cases ≡ Some f →
        IsFaultOf q b f
    steps_fault f n e =
        inl (steps_alone q b h.number counts written (n ∙ ap length firsts) ∙ ap (λ ms. case_fault limits 1 ms b.cases) (sym firsts) ∙ e)

    pub arms_armed : (r : Result (Vec Arm Global) JudgeFault) → length b.cases ≡ length (first_systems l q.relation) →
        ArmsIs l (first_systems l q.relation) b.cases r → ArmedIs q b r
    arms_armed (Ok arms) n a = record {
      number = h.number;
      counts = counts;
      written = written;
      armed = subst (λ k. AreArmsOf k (first_systems k q.relation) b.cases arms.items) h.layout a;
    }
    arms_armed (Err (JudgeRejected c s y)) n e = steps_fault (c, s, y) n e
    arms_armed (Err JudgeNoMemory) n e = tt

-- a choose within the limit of cases has few first systems
pub few_counts : (l : Layout) (rel : RelTree) → case_refusal l rel ≡ None → case_count (negation_normal true rel) ≤ MOST_CASES
few_counts l rel e =
    let n = case_count (negation_normal true rel) in
    on_bool (nat_lt choose_limits.sets (set_count l))
    (λ t. let q = rw t at e in absurd (cc))
    (λ t. on_bool (nat_lt choose_limits.cases n)
    (λ u. let q = rw (t, u) at e in absurd (cc))
    (λ u. ltb-false choose_limits.cases n u))

pub few_cases : (l : Layout) (rel : RelTree) → case_refusal l rel ≡ None → length (first_systems l rel) ≤ MOST_CASES
unfolding first_systems
few_cases l rel e =
    let n = case_count (negation_normal true rel) in
    let k : length (first_systems l rel) ≡ n = length-map (disjuncts (negation_normal true rel)) (system_of_case l) ∙ length-cases (negation_normal true rel) in
    let m = few_counts l rel e in
    omega arith

-- ---- the code
module _ (q : ChooseTree) (b : BlockTree) (arms : List Arm) (h : IsArmed q b arms) where
  abbrev passed_by : Passed q b
  passed_by = record { number = h.number; counts = h.counts; written = h.written; answers = h.armed.answers; cases = h.armed.eliminated }

  is_target : target_of q (code_solve q.number (arm_trees arms)) ≡ target_with q h.armed.answers
  is_target = ap (λ ts. target_of q (code_solve q.number (arms_of ts))) h.armed.trees

  pub armed_certifies : b.target ≡ target_of q (code_solve q.number (arm_trees arms)) → Certifies q b
  armed_certifies e = passed_certifies q b passed_by (e ∙ is_target)

  pub armed_differs : (b.target ≡ target_of q (code_solve q.number (arm_trees arms)) → ⊥) → IsFaultOf q b (0, 0, Code)
  armed_differs n = inr (passed_without_fault q b passed_by, code_differs q b passed_by (λ e. n (e ∙ sym is_target)), refl)

-- ---- one block after the other
-- the verdict on the blocks from number i on is that on all
pub record IsJudged (qs : List ChooseTree) (bs : List BlockTree) (i : ℕ) : Type 0 where
  pub chooses : i ≤ length qs
  pub blocks : i ≤ length bs
  pub onward : (v : Verdict) → IsVerdict (drop i qs) (drop i bs) v → IsVerdict qs bs v

pub judged_none : (qs : List ChooseTree) (bs : List BlockTree) → IsJudged qs bs 0
judged_none qs bs = record { chooses = omega arith; blocks = omega arith; onward = λ v h. h }

module _ (qs : List ChooseTree) (bs : List BlockTree) (i : ℕ) (q : ChooseTree) (li : i < length qs) (eq : q ≡ get_or qs i q) (h : IsJudged qs bs i) where
  asked : drop i qs ≡ q ∷ drop (i + 1) qs
  asked = dropped_one qs i q li eq

  block_missing : length bs ≤ i → IsVerdict qs bs (Rejected q.number 0 0 Blocks)
  block_missing n =
      h.onward (Rejected q.number 0 0 Blocks)
      (subst (λ xs. IsVerdict xs (drop i bs) (Rejected q.number 0 0 Blocks)) (sym asked)
      (subst (λ ys. IsVerdict (q ∷ drop (i + 1) qs) ys (Rejected q.number 0 0 Blocks)) (sym (dropped_all bs i n)) refl))

  pub missing_rejected : (f : JudgeFault) (r : Result Verdict NoRoom) → length bs ≤ i → f ≡ JudgeRejected 0 0 Blocks → RejectedIs q.number f r →
      IfOk r (IsVerdict qs bs)
  missing_rejected f r n e k = subst (λ y. IfOk y (IsVerdict qs bs)) (sym (subst (λ g. RejectedIs q.number g r) e k)) (block_missing n)

  module _ (b : BlockTree) (lb : i < length bs) (eb : b ≡ get_or bs i b) where
    here : (v : Verdict) → IsVerdict (q ∷ drop (i + 1) qs) (b ∷ drop (i + 1) bs) v → IsVerdict qs bs v
    here v k =
        h.onward v (subst (λ xs. IsVerdict xs (drop i bs) v) (sym asked)
        (subst (λ ys. IsVerdict (q ∷ drop (i + 1) qs) ys v) (sym (dropped_one bs i b lb eb)) k))

    block_rejected : (f : Fault) → IsFaultOf q b f → IsVerdict qs bs (Rejected q.number f.0 f.1 f.2)
    block_rejected f k = here (Rejected q.number f.0 f.1 f.2) (inr (f, k, refl))

    pub judged_rejected : (f : JudgeFault) (r : Result Verdict NoRoom) → JudgeIs q b (Err f) → RejectedIs q.number f r → IfOk r (IsVerdict qs bs)
    judged_rejected (JudgeRejected c s w) r k e = subst (λ y. IfOk y (IsVerdict qs bs)) (sym e) (block_rejected (c, s, w) k)
    judged_rejected JudgeNoMemory (Ok v) k e = absurd e
    judged_rejected JudgeNoMemory (Err x) k e = tt

    pub judged_more : Certifies q b → IsJudged qs bs (i + 1)
    judged_more c = record { chooses = omega (arith, li); blocks = omega (arith, lb); onward = λ v k. here v (inl (c, k)) }

block_left : (qs : List ChooseTree) (bs : List BlockTree) (i : ℕ) (b : BlockTree) → length qs ≤ i → i < length bs → b ≡ get_or bs i b →
    IsJudged qs bs i → IsVerdict qs bs (Rejected b.number 0 0 Blocks)
block_left qs bs i b n l e h =
    h.onward (Rejected b.number 0 0 Blocks)
    (subst (λ xs. IsVerdict xs (drop i bs) (Rejected b.number 0 0 Blocks)) (sym (dropped_all qs i n))
    (subst (λ ys. IsVerdict [] ys (Rejected b.number 0 0 Blocks)) (sym (dropped_one bs i b l e)) refl))

all_judged : (qs : List ChooseTree) (bs : List BlockTree) (i : ℕ) → length qs ≤ i → length bs ≤ i → IsJudged qs bs i → IsVerdict qs bs Yes
all_judged qs bs i n m h =
    h.onward Yes (subst (λ xs. IsVerdict xs (drop i bs) Yes) (sym (dropped_all qs i n)) (subst (λ ys. IsVerdict [] ys Yes) (sym (dropped_all bs i m)) refl))

-- behind all chooses, the first n blocks are judged
module _ (qs : List ChooseTree) (bs : List BlockTree) (i n : ℕ) (l : length qs ≤ i) (e : n ≡ length qs) (h : IsJudged qs bs i) where
  at_end : n ≡ i
  at_end = omega (arith, l, e, h.chooses)

  pub left_rejected : (b : BlockTree) (f : JudgeFault) (r : Result Verdict NoRoom) → n < length bs → b ≡ get_or bs n b → f ≡ JudgeRejected 0 0 Blocks →
      RejectedIs b.number f r → IfOk r (IsVerdict qs bs)
  left_rejected b f r lt is q k =
      subst (λ y. IfOk y (IsVerdict qs bs)) (sym (subst (λ g. RejectedIs b.number g r) q k))
      (block_left qs bs i b l (subst (λ j. j < length bs) at_end lt) (subst (λ j. b ≡ get_or bs j b) at_end is) h)

  pub none_left : length bs ≤ n → IsVerdict qs bs Yes
  none_left m = all_judged qs bs i l (subst (λ j. length bs ≤ j) at_end m) h

-- ---- all blocks
few_parts : {A B : Type 0} (f : A → List B) (n : ℕ) (xs : List A) → length (flat_map f xs) ≤ n → EachOf (λ x. length (f x) ≤ n) xs
few_parts f n [] l = tt
few_parts f n (x ∷ xs) l = let k = length-append (f x) (flat_map f xs) in (omega arith, few_parts f n xs (omega arith))

each_from : {A : Type 0} (P Q : A → Type 0) → ((x : A) → P x → Q x) → (xs : List A) → EachOf P xs → EachOf Q xs
each_from P Q f [] h = tt
each_from P Q f (x ∷ xs) h = (f x h.0, each_from P Q f xs h.1)

pub each_has_few : (bs : List BlockTree) → HaveFewSteps bs → EachOf HasFewActs bs
each_has_few bs h =
    each_from (λ b. length (block_acts b) ≤ MOST_STEPS) HasFewActs (λ b l. few_parts (λ acts. acts) MOST_STEPS b.cases l) bs
    (few_parts block_acts MOST_STEPS bs h)

pub verdict_means : (qs : List ChooseTree) (bs : List BlockTree) → EachOf IsLinearChoose qs → EachOf (λ b. AreWithinCases b.cases) bs → IsVerdict qs bs Yes →
    EachMeans qs bs
verdict_means [] [] h w v = tt
verdict_means [] (b ∷ bs) h w v = let s : Yes ≡ Rejected b.number 0 0 Blocks = v in cc
verdict_means (q ∷ qs) [] h w v = let s : Yes ≡ Rejected q.number 0 0 Blocks = v in cc
verdict_means (q ∷ qs) (b ∷ bs) h w (inl v) = (certified_means q b h.0 w.0 v.0, verdict_means qs bs h.1 w.1 v.1)
verdict_means (q ∷ qs) (b ∷ bs) h w (inr v) = let s : Yes ≡ Rejected q.number v.0.0 v.0.1 v.0.2 = v.2 in cc

pub verdict_typed : (qs : List ChooseTree) (bs : List BlockTree) → EachOf IsLinearChoose qs → EachOf (λ b. AreWithinCases b.cases) bs → IsVerdict qs bs Yes →
    EachOf HasTypedTarget bs
verdict_typed [] [] h w v = tt
verdict_typed [] (b ∷ bs) h w v = let s : Yes ≡ Rejected b.number 0 0 Blocks = v in cc
verdict_typed (q ∷ qs) [] h w v = tt
verdict_typed (q ∷ qs) (b ∷ bs) h w (inl v) = (certified_typed q b h.0 w.0 v.0, verdict_typed qs bs h.1 w.1 v.1)
verdict_typed (q ∷ qs) (b ∷ bs) h w (inr v) = let s : Yes ≡ Rejected q.number v.0.0 v.0.1 v.0.2 = v.2 in cc

-- ---- the target
-- bases that are found to differ do so
pub other_bases : (xs ys : List Base) → same_bases xs ys ≡ false → xs ≡ ys → ⊥
other_bases xs ys f e = true≢false (sym (subst (λ zs. same_bases xs zs ≡ true) e (same_bases_self xs)) ∙ f)

pub never_target : (t : RawTarget) (q : ChooseTree) (code : CodeTree) → (t.params.items ≡ q.scope → t.results.items ≡ q.outputs → ⊥) →
    (false ≡ true) ↔ (target_tree t ≡ target_of q code)
never_target t q code n = (
  λ f. absurd (true≢false (sym f)),
  λ e. absurd (n (ap (λ (x : TargetTree). x.params) e) (ap (λ (x : TargetTree). x.results) e)),
)

pub target_by_code : (t : RawTarget) (q : ChooseTree) (code : CodeTree) (b : Bool) → t.params.items ≡ q.scope → t.results.items ≡ q.outputs →
    (b ≡ true) ↔ (code_tree t.code ≡ code) → (b ≡ true) ↔ (target_tree t ≡ target_of q code)
target_by_code t q code b p r h = (
  λ e. rw (p, r, h.0 e) refl,
  λ e. h.1 (ap (λ (x : TargetTree). x.code) e),
)
