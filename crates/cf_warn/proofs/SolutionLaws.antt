-- What a solution of a question says of its choose, and what it says that there is none.
use Rattle.std.proofs.Common.{inl, inr, ◌≡◌, ℕ, List, [], ◌∷◌, ◌++◌, length, map, All, replicate, subst, sym, arith}
use Rattle.std.proofs.lemmas.List.{length-map}
use Rattle.cf_tree.specs.declared.base.Base.{Base}
use Rattle.cf_tree.specs.declared.base.Base.TheVariants.{Int}
use Rattle.cf_tree.specs.Allowed.{Chosen}
use Rattle.cf_tree.specs.CodeTree.{code_solve, arms_of}
use Rattle.cf_tree.specs.Meaning.{means}
use Rattle.cf_tree.specs.Relation.{Holds, Sol, IsTyped}
use Rattle.cf_tree.specs.RelTree.{RelTree}
use Rattle.cf_tree.specs.Values.{Value, Outcome, values, no_solution, value_at, HaveBases}
use Rattle.cf_tree.proofs.SolvingLemmas.{solve_chosen}
use Rattle.cf_linear.specs.Chooses.{arms}
use Rattle.cf_venn.proofs.LevelLaws.{have_append}
use Rattle.cf_choose.specs.Laws.{IsUnrefused}
use Rattle.cf_choose.specs.Solved.{IsOutput}
use Rattle.cf_choose.proofs.DefinedArms.{unrefused_solve, unrefused_typed}
use Rattle.cf_warn.specs.Missing.{turns, lets_in, traced, none_outputs, none}
use Rattle.cf_warn.specs.Questions.{parameters, base_at, parameter_bases, twice_outputs, twice}
use Rattle.cf_warn.specs.Solutions.{question_code, IsAt, AreUnique, AreTwo, AreAlways, AreMissing}
use Rattle.cf_warn.proofs.MissingLaws.{none_unsolved, unsolved_none}
use Rattle.cf_warn.proofs.SampleLaws.{sample_somewhere}
use Rattle.cf_warn.proofs.TwiceLaws.{have_sample, twice_solved, same_or_twice, twice_differ}

-- ---- the run of a question
-- its outcome is one that the question allows
pub question_chosen : (outputs : List Base) (rel : RelTree) → IsUnrefused [] outputs rel → Chosen 1 (Sol outputs rel []) (means (question_code outputs rel) [])
question_chosen outputs rel u =
    solve_chosen 1 [] outputs rel (arms_of (arms [] outputs rel)) (unrefused_solve [] outputs rel u).1 (unrefused_typed [] outputs rel u) [] tt

pub question_solution : (outputs : List Base) (rel : RelTree) (vs : List Value) → IsUnrefused [] outputs rel →
    means (question_code outputs rel) [] ≡ values vs → Sol outputs rel [] vs
question_solution outputs rel vs u e = subst (Chosen 1 (Sol outputs rel [])) e (question_chosen outputs rel u)

pub question_none : (outputs : List Base) (rel : RelTree) (n : ℕ) → IsUnrefused [] outputs rel → means (question_code outputs rel) [] ≡ no_solution n →
    (vs : List Value) → Sol outputs rel [] vs → ⊥
question_none outputs rel n u e = (subst (Chosen 1 (Sol outputs rel [])) e (question_chosen outputs rel u)).1

-- ---- parts of a list of values
have_split : (bs cs : List Base) (vs ws : List Value) → length vs ≡ length bs → HaveBases (bs ++ cs) (vs ++ ws) → HaveBases bs vs × HaveBases cs ws
have_split [] cs [] ws e h = (tt, h)
have_split [] cs (v ∷ vs) ws e h = absurd (omega arith)
have_split (b ∷ bs) cs [] ws e h = absurd (omega arith)
have_split (b ∷ bs) cs (v ∷ vs) ws e h = let r = have_split bs cs vs ws (omega arith) h.1 in ((h.0, r.0), r.1)

-- ---- the question `twice`
module _ (scope outputs : List Base) (shown : ℕ) (rel : RelTree) (typed : IsTyped (scope ++ outputs) rel) (are_outputs : All IsOutput outputs) where
  -- no solution of the question: solutions are the only ones in what is shown
  pub unique : ((vs : List Value) → Sol (twice_outputs scope outputs rel) (twice scope outputs shown rel) [] vs → ⊥) → AreUnique scope outputs shown rel
  unique unsolved env xs ys have p q =
      elim (same_or_twice scope outputs rel typed are_outputs env xs ys have p.0 q.0 shown p.1 q.1) [
        | inl e ↦ e
        | inr h ↦ absurd (unsolved (map (value_at env) (parameters scope rel) ++ (xs ++ ys)) (
          have_append (parameter_bases scope rel) (outputs ++ outputs) (map (value_at env) (parameters scope rel)) (xs ++ ys) (have_sample scope rel env have)
              (have_append outputs outputs xs ys p.0 q.0),
          h,
        ))
      ]

  -- a solution of the question: two different solutions at one sample
  pub two_values : (sample first second : List Value) → length sample ≡ length (parameters scope rel) → length first ≡ length outputs →
      Sol (twice_outputs scope outputs rel) (twice scope outputs shown rel) [] (sample ++ (first ++ second)) → AreTwo scope outputs shown rel sample first second
  two_values sample first second n k s =
      let m = length-map (parameters scope rel) (base_at scope) in
      let a = have_split (parameter_bases scope rel) (outputs ++ outputs) sample (first ++ second) (omega arith) s.0 in
      let b = have_split outputs outputs first second k a.1 in
      let solved : (env : List Value) → IsAt scope rel sample env → Holds rel (env ++ first) × Holds rel (env ++ second) = λ env at.
      twice_solved scope outputs rel typed are_outputs env first second at.bases b.0 b.1 shown
      (subst (λ vs. Holds (twice scope outputs shown rel) (vs ++ (first ++ second))) (sym at.same) s.1) in
      record {
        bases = a.0;
        somewhere = sample_somewhere scope rel sample a.0;
        first_solves = λ env at. (b.0, (solved env at).0);
        second_solves = λ env at. (b.1, (solved env at).1);
        different = twice_differ scope outputs rel typed are_outputs shown sample first second a.0 b.0 b.1 s.1;
      }

-- ---- the question `none`
module _ (scope outputs : List Base) (rel : RelTree) (u : IsUnrefused scope outputs rel) where
  -- an outcome that the choose allows is a solution, where it is not impossible that there is one
  chosen_exists : (env : List Value) (o : Outcome) → Chosen 1 (Sol outputs rel env) o → (((xs : List Value) → Sol outputs rel env xs → ⊥) → ⊥) →
      (xs : List Value) × Sol outputs rel env xs
  chosen_exists env (values xs) c h = (xs, c)
  chosen_exists env (no_solution n) c h = absurd (h c.1)

  -- no solution of the question: outputs always exist
  pub always : ((vs : List Value) → Sol (none_outputs scope outputs rel) (none scope outputs rel) [] vs → ⊥) → AreAlways scope outputs rel
  always unsolved env have =
      chosen_exists env (means (code_solve 1 (arms_of (arms scope outputs rel))) env)
      (solve_chosen 1 scope outputs rel (arms_of (arms scope outputs rel)) (unrefused_solve scope outputs rel u).1 (unrefused_typed scope outputs rel u) env
      have)
      (λ h. let s = unsolved_none scope outputs rel u env have h in unsolved (map (value_at env) (parameters scope rel) ++ s.0) s.1)

  -- a solution of the question: no outputs exist at its sample
  pub missing : (sample lets : List Value) → length sample ≡ length (parameters scope rel) →
      Sol (none_outputs scope outputs rel) (none scope outputs rel) [] (sample ++ lets) → AreMissing scope outputs rel sample
  missing sample lets n s =
      let m = length-map (parameters scope rel) (base_at scope) in
      let a = have_split (parameter_bases scope rel) (replicate (lets_in (turns (traced scope outputs rel))) Int) sample lets (omega arith) s.0 in
      record {
        bases = a.0;
        somewhere = sample_somewhere scope rel sample a.0;
        unsolved = λ env at. none_unsolved scope outputs rel u env at.bases lets
            (subst (λ vs. Holds (none scope outputs rel) (vs ++ lets)) (sym at.same) s.1);
      }
