-- What is claimed of solved chooses, one after the other.
use Rattle.std.proofs.Common.{◌≡◌, ◌∙◌, ◌<◌, ◌≤◌, ◌+◌, ◌&&◌, refl, sym, ap, ap₂, subst, ℕ, Bool, true, false, List, [], ◌∷◌, ◌++◌, append_assoc, append-nil, drop, get_or, length, arith}
use Rattle.std.proofs.lemmas.List.{drop_more, drop_all, length-map}
use Rattle.std.specs.List.{list_all}
use Rattle.std.specs.Prelude.{Result, Ok, Err}
use Rattle.cf_tree.specs.ChooseTree.{ChooseTree}
use Rattle.cf_tree.specs.ChooseView.{choose_tree}
use Rattle.cf_tree.specs.CodeTree.{ArmTrees, CodeTree, code_solve}
use Rattle.cf_tree.specs.RelView.{rel_tree}
use Rattle.cf_tree.specs.declared.choose.Choose.{Choose}
use Rattle.cf_tree.specs.CodeView.{arm_trees}
use Rattle.cf_build.specs.Chooses.{choose_arms}
use Rattle.cf_build.specs.Solves.{AreSolved, IsSolved}
use Rattle.cf_build.specs.declared.solves.SolvedChoose.{SolvedChoose}
use Rattle.cf_build.proofs.SolveLists.{solved_number}
use Rattle.cf_smt.specs.declared.claims.ClaimFault.{ClaimFault}
use Rattle.cf_smt.specs.declared.claims.ClaimFault.TheVariants.{Sets, NoMemory}
use Rattle.cf_answer.specs.Claims.{AreClaimed, branch_behind, choose_has_form, GoalsAnswer, GoalsWritten, IsClaimFault, IsClaimOf, with_branches}
use Rattle.cf_smt.specs.Answers.{PutAnswer}
use Rattle.cf_smt.specs.Forms.{rel_has_form, arms_have_forms}
use Rattle.cf_smt.specs.Goals.{claim_text}
use Rattle.cf_smt.specs.Names.{Claim}
use Rattle.cf_answer.proofs.PreLemmas.{found_arms}
use Rattle.cf_answer.proofs.WrittenLemmas.{as_many_solved, no_choose, solved_at}

-- what is put of a claim is put of its choose
claim_put : (q : ChooseTree) (k : ℕ) (c : Claim) (old new : List ℕ) (r : Result (Unit {0}) ClaimFault) → IsClaimOf q k c → PutAnswer c old new r →
    GoalsAnswer q k old new r
claim_put q k c old new (Ok done) is h =
    (sym (ap₂ (λ p arms. rel_has_form p && arms_have_forms arms) is.relation is.arms) ∙ h.0, c, is, h.1)
claim_put q k c old new (Err Sets) is h = sym (ap₂ (λ p arms. rel_has_form p && arms_have_forms arms) is.relation is.arms) ∙ h
claim_put q k c old new (Err NoMemory) is h = tt

pub named_put : (q : Choose) (k : ℕ) (scope outputs : List (List ℕ)) (arms : ArmTrees) (old new : List ℕ) (r : Result (Unit {0}) ClaimFault) →
    length scope ≡ length q.scope.now → length outputs ≡ length q.outputs.now → arms ≡ choose_arms (choose_tree q) →
    PutAnswer (record { number = q.number; branch = k; scope = scope; outputs = outputs; relation = rel_tree q.rel.now; arms = arms }) old new r →
    GoalsAnswer (choose_tree q) k old new r
named_put q k scope outputs arms old new r same_scope same_outputs same_arms put =
    claim_put (choose_tree q) k _ old new r (record {
      number = refl;
      branch = refl;
      scope = same_scope ∙ sym (length-map q.scope.now (λ p. p.name));
      outputs = same_outputs;
      relation = refl;
      arms = same_arms;
    }) put

-- what is put of the solve of a solved choose is put of the choose
pub solve_put : (q : ChooseTree) (s : SolvedChoose) (branch : ℕ) (old new : List ℕ) (code : CodeTree) (r : Result (Unit {0}) ClaimFault) → IsSolved q s →
    code ≡ code_solve s.choose.number (arm_trees s.solved.arms.items) →
    (code ≡ code_solve s.choose.number (choose_arms (choose_tree s.choose)) → GoalsAnswer (choose_tree s.choose) branch old new r) →
    GoalsAnswer q branch old new r
solve_put q s branch old new code r h is put =
    let same : arm_trees s.solved.arms.items ≡ choose_arms (choose_tree s.choose) = found_arms q s.solved h.solved ∙ ap choose_arms (sym h.choose) in
    subst (λ p. GoalsAnswer p branch old new r) h.choose (put (is ∙ ap (code_solve s.choose.number) same))

-- so much is written behind the first i of these chooses, and what is claimed of the others may stand behind it
pub record ClaimedTo (qs : List ChooseTree) (i last next : ℕ) (old now : List ℕ) : Type 0 where
  pub more : List ℕ
  pub is : now ≡ old ++ more
  pub goes_on : (rest : List ℕ) → AreClaimed (with_branches last next (drop i qs)) rest → AreClaimed (with_branches 0 0 qs) (more ++ rest)
  pub forms : list_all choose_has_form (drop i qs) ≡ list_all choose_has_form qs

module _ (qs : List ChooseTree) (ss : List SolvedChoose) (s : AreSolved qs ss) where
  pub claimed_first : (old : List ℕ) → ClaimedTo qs 0 0 0 old old
  claimed_first old = record { more = []; is = sym (append-nil old); goes_on = λ rest r. r; forms = refl }

  -- the next choose, which is solved so
  module _ (i : ℕ) (x : SolvedChoose) (last next : ℕ) (old now : List ℕ) (lt : i < length ss) (is : x ≡ get_or ss i x) (so : ClaimedTo qs i last next old now)
    where
      abbrev q : ChooseTree
      q = get_or qs i no_choose

      place : (i < length qs) × IsSolved q (get_or ss i x)
      place = solved_at qs ss i no_choose x s lt

      solved : IsSolved q x
      solved = subst (IsSolved q) (sym is) place.1

      at : drop i qs ≡ q ∷ drop (i + 1) qs
      at = drop_more qs i no_choose place.0

      same : branch_behind last next x.choose.number ≡ branch_behind last next q.number
      same = ap (branch_behind last next) (solved_number q x solved)

      claimed_so : (new : List ℕ) → ((p : ChooseTree) → IsSolved p x → GoalsAnswer p (branch_behind last next x.choose.number) now new (Ok tt)) →
          ClaimedTo qs (i + 1) x.choose.number (branch_behind last next x.choose.number + 1) old new
      claimed_so new put =
          let p = put q solved in
          let number = solved_number q x solved in
          record {
            more = so.more ++ claim_text p.1;
            is = p.3 ∙ ap (λ u. u ++ claim_text p.1) so.is ∙ append_assoc old so.more (claim_text p.1);
            goes_on = λ rest r.
                let rest_is : AreClaimed (with_branches q.number (branch_behind last next q.number + 1) (drop (i + 1) qs)) rest =
                subst (λ n. AreClaimed (with_branches n (branch_behind last next n + 1) (drop (i + 1) qs)) rest) number r in
                subst (AreClaimed (with_branches 0 0 qs)) (sym (append_assoc so.more (claim_text p.1) rest))
                (so.goes_on (claim_text p.1 ++ rest) (subst (λ ps. AreClaimed (with_branches last next ps) (claim_text p.1 ++ rest)) (sym at)
                (p.1, rest, refl, subst (λ k. IsClaimOf q k p.1) same p.2, rest_is)));
            forms = sym (ap (λ b. b && list_all choose_has_form (drop (i + 1) qs)) p.0) ∙ sym (ap (list_all choose_has_form) at) ∙ so.forms;
          }

      pub claimed_next : (branch after : ℕ) (new : List ℕ) → branch ≡ branch_behind last next x.choose.number → after ≡ branch + 1 →
          ((p : ChooseTree) → IsSolved p x → GoalsAnswer p branch now new (Ok tt)) → ClaimedTo qs (i + 1) x.choose.number after old new
      claimed_next branch after new is_branch is_after put =
          subst (λ n. ClaimedTo qs (i + 1) x.choose.number n old new) (sym (is_after ∙ ap (λ b. b + 1) is_branch))
          (claimed_so new (λ p h. subst (λ b. GoalsAnswer p b now new (Ok tt)) is_branch (put p h)))

      -- a set stands in it
      claimed_not : ((p : ChooseTree) → IsSolved p x → choose_has_form p ≡ false) → list_all choose_has_form qs ≡ false
      claimed_not put =
          sym so.forms ∙ ap (list_all choose_has_form) at ∙ ap (λ b. b && list_all choose_has_form (drop (i + 1) qs)) (put q solved)

      pub claimed_fault : (f : ClaimFault) → ((p : ChooseTree) → IsSolved p x → IsClaimFault (choose_has_form p) f) →
          IsClaimFault (list_all choose_has_form qs) f
      claimed_fault Sets put = claimed_not put
      claimed_fault NoMemory put = tt

  pub claimed_last : (i last next : ℕ) (old now : List ℕ) → length ss ≤ i → ClaimedTo qs i last next old now → GoalsWritten qs old now (Ok tt)
  claimed_last i last next old now le so =
      let end : drop i qs ≡ [] = drop_all i qs (omega (arith, le, as_many_solved qs ss s)) in
      let all : AreClaimed (with_branches 0 0 qs) (so.more ++ []) =
      so.goes_on [] (subst (λ ps. AreClaimed (with_branches last next ps) []) (sym end) refl) in (
        sym so.forms ∙ ap (list_all choose_has_form) end,
        so.more,
        so.is,
        subst (AreClaimed (with_branches 0 0 qs)) (append-nil so.more) all,
      )
