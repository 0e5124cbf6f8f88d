-- A relation holds exactly where the first system of some case is satisfied for some quotients.
use Rattle.std.proofs.Common.{◌≡◌, ◌++◌, pos, List, [], ◌∷◌, refl, sym, subst, ◌∙◌, inl, inr, ⊎_elim}
use Rattle.std.specs.Prelude.{◌↔◌}
use Rattle.cf_tree.specs.declared.base.Base.{Base}
use Rattle.cf_tree.specs.RelTree.{RelTree}
use Rattle.cf_tree.specs.Relation.{Holds, IsTyped}
use Rattle.cf_tree.specs.Values.{Value}
use Rattle.cf_linear.specs.Cases.{first_systems}
use Rattle.cf_linear.specs.Keep.{Same}
use Rattle.cf_linear.specs.Layout.{Layout, first_free}
use Rattle.cf_linear.specs.Systems.{System, Sat}
use Rattle.cf_linear.specs.Rows.{Values}
use Rattle.cf_cases.specs.Holding.{SomeOf, IsPlacedRel, AreCounts}
use Rattle.cf_cases.specs.Laws.{MeetsFrom, HeldByCases}
use Rattle.cf_cases.proofs.AgreeLaws.{FormsAgree, agrees_without_sets, counts_without_sets, system_from_holds, holds_from_system}
use Rattle.cf_cases.proofs.BelowLaws.{positive_free, number-below}
use Rattle.cf_cases.proofs.PlacedLaws.{placed-rel}

-- one valuation of the quotients, and a system that it satisfies
one_found : (l : Layout) (v : Values) (ms : List System) → SomeOf (MeetsFrom l v) ms → (w : Values) × Same (first_free l) v w ×
    SomeOf (λ (m : System). Sat m w) ms
one_found l v [] h = absurd h
one_found l v (m ∷ ms) h = ⊎_elim (λ k. (k.0, k.1, inl k.2)) (λ k. let r = one_found l v ms k in (r.0, r.1, inr r.2)) h

-- where all values with these columns agree with the environment
pub held_where : (scope : List Base) (rel : RelTree) (l : Layout) (env : List Value) (v : Values) → IsTyped scope rel → IsPlacedRel l rel → v 0 ≡ pos 1 →
    AreCounts l v →
    ((w : Values) → Same (first_free l) v w → FormsAgree l env w) → Holds rel env ↔ SomeOf (MeetsFrom l v) (first_systems l rel)
held_where scope rel l env v t p one n g = (
  system_from_holds scope rel l env v t p (g v (λ c k. refl)) one n,
  λ h. let r = one_found l v (first_systems l rel) h in holds_from_system scope rel l env r.0 t p (g r.0 r.1) (sym (r.1 0 (positive_free l)) ∙ one) r.2,
)

pub held_by_cases : HeldByCases
held_by_cases scope outputs rel t lin l e i o env v h =
    held_where (scope ++ outputs) rel l env v t (subst (λ (k : Layout). IsPlacedRel k rel) e (placed-rel scope outputs rel t lin)) h.one
    (counts_without_sets l env v i o)
    (λ w s. agrees_without_sets l env w i o (λ x k. h.numbers x k ∙ s _ (number-below l x k)))
