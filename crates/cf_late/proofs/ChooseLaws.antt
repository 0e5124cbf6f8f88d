-- What a choose comes to on the numbers of its environment.
use Rattle.std.proofs.Common.{◌≡◌, ◌↔◌, ℕ, ◌≤◌, ◌<◌, ◌-◌, ◌^◌, List, [], ◌∷◌, ◌++◌, length, refl, sym, ap, ◌∙◌, subst, arith}
use Rattle.std.specs.Prelude.{Bool, true, false, nat_le, Option, Some, None, Result, Ok, Err, IfOk, if◌then◌else◌}
use Rattle.std.proofs.lemmas.Bool.{leb-true, leb-false}
use Rattle.cf_num.specs.Limit.{limit}
use Rattle.cf_tree.specs.declared.base.Base.{Base}
use Rattle.cf_tree.specs.declared.memory.NoMemory.{NoMemory}
use Rattle.cf_tree.specs.declared.rel.Rel.{Rel}
use Rattle.cf_tree.specs.Allowed.{Chosen}
use Rattle.cf_tree.specs.CodeTree.{CodeTree, code_solve, arms_of}
use Rattle.cf_tree.specs.Meaning.{Got, got, none_at, path, outcome_of, means, peak}
use Rattle.cf_tree.specs.Relation.{Sol, IsTyped, IsLinear}
use Rattle.cf_tree.specs.RelTree.{RelTree}
use Rattle.cf_tree.specs.RelView.{rel_tree}
use Rattle.cf_tree.specs.Values.{Value, Outcome, values, no_solution, HaveBases}
use Rattle.cf_tree.proofs.SolvingLemmas.{solve_chosen}
use Rattle.cf_linear.specs.declared.refusal.Refusal.{Refusal}
use Rattle.cf_linear.specs.Chooses.{arms, limit as first_refusal}
use Rattle.cf_choose.specs.declared.solved.SolvedParts.{SolvedParts}
use Rattle.cf_choose.specs.Laws.{IsUnrefused}
use Rattle.cf_choose.specs.Solved.{IsOf}
use Rattle.cf_choose.proofs.ArmBuilderLemmas.{length_have}
use Rattle.cf_choose.proofs.DefinedArms.{unrefused_solve, unrefused_typed}
use Rattle.cf_shift.specs.Meeting.{AreSmall}
use Rattle.cf_shift.proofs.MeetingLaws.{given_are_met}
use Rattle.cf_late.specs.declared.outcome.LateOutcome.{LateOutcome as DeclaredLateOutcome}
use Rattle.cf_late.specs.At.{rel_known}
use Rattle.cf_late.specs.ChooseRun.{comes_to, overflow, refused, solve_run, choose_run, late_choose}
use Rattle.cf_late.specs.Fitting.{AreFit}
use Rattle.cf_late.specs.LateChoose.{IsLateChoose}
use Rattle.cf_late.specs.Laws.{LateChoosesAreAllowed}
use Rattle.cf_late.specs.Outcomes.{late_of}
use Rattle.cf_late.proofs.KnownLaws.{knowing_keeps_solutions, knowing_keeps_types, knowing_is_linear}

-- ---- how a run ends
refused_not : (n : ℕ) (r : Refusal) (o : Outcome) → refused n r ≡ comes_to o → ⊥
refused_not n r o e = cc

overflow_not : (o : Outcome) → overflow ≡ comes_to o → ⊥
overflow_not o e = cc

comes_once : (o p : Outcome) → comes_to o ≡ comes_to p → o ≡ p
comes_once o p e = cc

solve_comes : (code : CodeTree) (env : List Value) (o : Outcome) → solve_run code env ≡ comes_to o → means code env ≡ o
solve_comes code env o e = by (nat_le (peak code env) limit) e
  where
    by : (b : Bool) → (if b then comes_to (means code env) else overflow) ≡ comes_to o → means code env ≡ o
    by true e = comes_once (means code env) o e
    by false e = absurd (overflow_not o e)

chosen_alike : (n : ℕ) (P Q : List Value → Type 0) (o : Outcome) → ((xs : List Value) → P xs ↔ Q xs) → Chosen n P o → Chosen n Q o
chosen_alike n P Q (values xs) s h = (s xs).0 h
chosen_alike n P Q (no_solution m) s h = (h.0, λ xs q. h.1 xs ((s xs).1 q))

-- ---- the relation of a choose whose scope is known
module _ (scope outputs : List Base) (rel : RelTree) (env : List Value) (late : IsLateChoose scope outputs rel) (fit : AreFit env) where
  abbrev known : RelTree
  known = rel_known (length scope) rel env

  pub known_unrefused : first_refusal scope outputs known ≡ None → IsUnrefused scope outputs known
  known_unrefused e = record {
    typed = knowing_keeps_types (length scope) (scope ++ outputs) rel env fit late.typed;
    linear = knowing_is_linear (length scope) rel env late.linear;
    are_outputs = late.are_outputs;
    within = e;
  }

  known_solutions : HaveBases scope env → (xs : List Value) → Sol outputs known env xs ↔ Sol outputs rel env xs
  known_solutions have xs =
      subst (λ n. Sol outputs (rel_known n rel env) env xs ↔ Sol outputs rel env xs) (length_have scope env have) (knowing_keeps_solutions outputs rel env xs)

  pub choose_allowed : (n : ℕ) → HaveBases scope env → (o : Outcome) → late_choose n scope outputs rel env ≡ comes_to o → Chosen n (Sol outputs rel env) o
  choose_allowed n have o e = by (first_refusal scope outputs known) refl e
    where
      by : (r : Option Refusal) → first_refusal scope outputs known ≡ r → choose_run r n (code_solve n (arms_of (arms scope outputs known))) env ≡ comes_to o →
          Chosen n (Sol outputs rel env) o
      by (Some r) s e = absurd (refused_not n r o e)
      by None s e =
          let u = known_unrefused s in
          let c = solve_chosen n scope outputs known (arms_of (arms scope outputs known)) (unrefused_solve scope outputs known u).1
          (unrefused_typed scope outputs known u) env have in
          let m = solve_comes (code_solve n (arms_of (arms scope outputs known))) env o e in
          chosen_alike n (Sol outputs known env) (Sol outputs rel env) o (known_solutions have) (subst (Chosen n (Sol outputs known env)) m c)

-- ---- what the calls answer
pub known_typed : (scope outputs : List Base) (rel : RelTree) (env : List Value) (r : Result Rel NoMemory) → IsLateChoose scope outputs rel → AreFit env →
    IfOk r (λ k. rel_tree k ≡ rel_known (length scope) rel env) → IfOk r (λ k. IsTyped (scope ++ outputs) (rel_tree k))
known_typed scope outputs rel env (Ok k) late fit e =
    subst (IsTyped (scope ++ outputs)) (sym e) (knowing_keeps_types (length scope) (scope ++ outputs) rel env fit late.typed)
known_typed scope outputs rel env (Err f) late fit e = tt

pub known_linear : (scope outputs : List Base) (rel : RelTree) (env : List Value) (r : Result Rel NoMemory) → IsLateChoose scope outputs rel →
    IfOk r (λ k. rel_tree k ≡ rel_known (length scope) rel env) → IfOk r (λ k. IsLinear (rel_tree k))
known_linear scope outputs rel env (Ok k) late e = subst IsLinear (sym e) (knowing_is_linear (length scope) rel env late.linear)
known_linear scope outputs rel env (Err f) late e = tt

pub ran : (code : CodeTree) (env : List Value) (o : Outcome) → means code env ≡ o → peak code env ≤ 2 ^ 127 - 1 → comes_to o ≡ solve_run code env
ran code env o e l = by (nat_le (peak code env) limit) refl
  where
    by : (b : Bool) → nat_le (peak code env) limit ≡ b → comes_to o ≡ (if b then comes_to (means code env) else overflow)
    by true t = ap comes_to (sym e)
    by false t = absurd (let m = leb-false (peak code env) limit t in omega arith)

pub ran_past : (code : CodeTree) (env : List Value) → 2 ^ 127 - 1 < peak code env → overflow ≡ solve_run code env
ran_past code env l = by (nat_le (peak code env) limit) refl
  where
    by : (b : Bool) → nat_le (peak code env) limit ≡ b → overflow ≡ (if b then comes_to (means code env) else overflow)
    by true t = absurd (let m = leb-true (peak code env) limit t in omega arith)
    by false t = refl

-- what a solve gives is within the limit where what it meets is
got_values : (g : Got (List Value)) (vs : List Value) → outcome_of g ≡ values vs → g ≡ got vs
got_values (got us) vs e = let same : us ≡ vs = cc in ap got same
got_values (none_at n) vs e = absurd (cc)

small_fit : (n : ℕ) (vs : List Value) → n ≤ 2 ^ 127 - 1 → AreSmall n vs → AreFit vs
small_fit n [] l h = tt
small_fit n (v ∷ vs) l h = (let first = h.0 in omega arith, small_fit n vs l h.1)

pub given_fit : (code : CodeTree) (env vs : List Value) → means code env ≡ values vs → peak code env ≤ 2 ^ 127 - 1 → AreFit vs
given_fit code env vs e l = small_fit (peak code env) vs l (given_are_met code env vs (got_values (path code env).gives vs e))

late_solved : (n : ℕ) (scope outputs : List Base) (rel : RelTree) (env : List Value) → first_refusal scope outputs (rel_known (length scope) rel env) ≡ None →
    late_choose n scope outputs rel env ≡ solve_run (code_solve n (arms_of (arms scope outputs (rel_known (length scope) rel env)))) env
late_solved n scope outputs rel env e = rw e refl

pub choose_refused : (n : ℕ) (scope outputs : List Base) (rel k : RelTree) (env : List Value) (r : Refusal) → k ≡ rel_known (length scope) rel env →
    first_refusal scope outputs k ≡ Some r → refused n r ≡ late_choose n scope outputs rel env
choose_refused n scope outputs rel k env r e l =
    let m : first_refusal scope outputs (rel_known (length scope) rel env) ≡ Some r = subst (λ t. first_refusal scope outputs t ≡ Some r) e l in rw m refl

-- a solved choose, with the bases and the relation of which it is
solved_code : (n : ℕ) (scope outputs : List Base) (k : RelTree) (s : SolvedParts) (code : CodeTree) → IsOf scope outputs k s →
    code ≡ code_solve n (arms_of (arms s.scope.items s.outputs.items (rel_tree s.rel))) → code ≡ code_solve n (arms_of (arms scope outputs k))
solved_code n scope outputs k s code of e = rw (of.same_scope, of.same_outputs, of.same_relation) at e

solved_within : (scope outputs : List Base) (k : RelTree) (s : SolvedParts) → IsOf scope outputs k s → first_refusal scope outputs k ≡ None
solved_within scope outputs k s of = rw (of.same_scope, of.same_outputs, of.same_relation) at of.solved.within

pub choose_ran : (n : ℕ) (scope outputs : List Base) (rel k : RelTree) (env : List Value) (s : SolvedParts) (code : CodeTree)
    (r : Result DeclaredLateOutcome NoMemory)
    →
    k ≡ rel_known (length scope) rel env → IsOf scope outputs k s → code ≡ code_solve n (arms_of (arms s.scope.items s.outputs.items (rel_tree s.rel))) →
    IfOk r (λ o. late_of o ≡ solve_run code env) → IfOk r (λ o. late_of o ≡ late_choose n scope outputs rel env)
choose_ran n scope outputs rel k env s code (Ok o) e of c h =
    let w = subst (λ t. first_refusal scope outputs t ≡ None) e (solved_within scope outputs k s of) in
    let d = subst (λ t. code ≡ code_solve n (arms_of (arms scope outputs t))) e (solved_code n scope outputs k s code of c) in
    h ∙ ap (λ t. solve_run t env) d ∙ sym (late_solved n scope outputs rel env w)
choose_ran n scope outputs rel k env s code (Err f) e of c h = tt

-- values that a choose comes to are within the limit
solve_fit : (code : CodeTree) (env vs : List Value) → solve_run code env ≡ comes_to (values vs) → AreFit vs
solve_fit code env vs e = by (nat_le (peak code env) limit) refl e
  where
    by : (b : Bool) → nat_le (peak code env) limit ≡ b → (if b then comes_to (means code env) else overflow) ≡ comes_to (values vs) → AreFit vs
    by true t q = given_fit code env vs (comes_once (means code env) (values vs) q) (leb-true (peak code env) limit t)
    by false t q = absurd (overflow_not (values vs) q)

pub choose_fit : (n : ℕ) (scope outputs : List Base) (rel : RelTree) (env vs : List Value) → late_choose n scope outputs rel env ≡ comes_to (values vs) →
    AreFit vs
choose_fit n scope outputs rel env vs e = by (first_refusal scope outputs (rel_known (length scope) rel env)) e
  where
    by : (r : Option Refusal) → choose_run r n (code_solve n (arms_of (arms scope outputs (rel_known (length scope) rel env)))) env ≡ comes_to (values vs) →
        AreFit vs
    by (Some r) q = absurd (refused_not n r (values vs) q)
    by None q = solve_fit (code_solve n (arms_of (arms scope outputs (rel_known (length scope) rel env)))) env vs q

pub late_chooses_are_allowed : LateChoosesAreAllowed
late_chooses_are_allowed n scope outputs rel env late have fit o e = choose_allowed scope outputs rel env late fit n have o e
