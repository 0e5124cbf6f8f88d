-- A code that is picked runs as its source picks.
use Rattle.std.proofs.Common.{◌≡◌, ℕ, ◌<◌, ◌≤◌, Option, Some, None, List, [], ◌∷◌, reverse, refl, ap, ◌∙◌, subst, arith, All}
use Rattle.std.proofs.lemmas.List.Elements.{All-head, All-tail}
use Rattle.cf_num.specs.Limit.{limit}
use Rattle.cf_tree.specs.CodeTree.{CodeTree}
use Rattle.cf_tree.specs.DefView.{DefTree}
use Rattle.cf_tree.specs.ExprTree.{ExprTree}
use Rattle.cf_tree.specs.Meaning.{Path, path}
use Rattle.cf_tree.specs.Values.{Value, Outcome}
use Rattle.cf_growth.specs.Overflowing.{picked_call, IsFineCall}
use Rattle.cf_growth.proofs.PickLaws.{picks_are_near}
use Rattle.cf_build.specs.Runs.{lowered_bodies, RunsAsPicked}
use Rattle.cf_build.proofs.PickedPaths.{IsPickedBy}
use Rattle.cf_match.proofs.NoMatchLaws.{lowered_same}
use Rattle.cf_build.proofs.Plain.{HasPlainBody}
use Rattle.cf_build.proofs.Programs.{bodies}

pub bodies_lowered : (ds : List DefTree) → All HasPlainBody ds → lowered_bodies ds ≡ bodies ds
bodies_lowered [] p = refl
bodies_lowered (d ∷ ds) p =
    ap (λ b. b ∷ lowered_bodies ds) (lowered_same d.body (All-head HasPlainBody d ds p).0)
    ∙ ap (λ bs. d.body ∷ bs) (bodies_lowered ds (All-tail HasPlainBody d ds p))

not_both : (a b : ℕ) → a < b → b ≤ a → ⊥
not_both a b h k = omega arith

-- what passes the limit is picked as overflow
over_none : (p : Option Outcome) (q : Path (List Value)) → IsPickedBy p q → limit < q.peak → p ≡ None
over_none None q h l = refl
over_none (Some o) q h l = absurd (not_both limit q.peak l (h.within o refl))

pub runs_as_picked : (defs : List DefTree) (main : ℕ) (code : CodeTree) (env : List Value) (bs : List ExprTree) → bs ≡ reverse (lowered_bodies defs) →
    IsPickedBy (picked_call bs main env) (path code env) → IsFineCall bs main env → RunsAsPicked defs main 0 code env
runs_as_picked defs main code env bs e h k =
    let picks = subst (λ cs. IsPickedBy (picked_call cs main env) (path code env)) e h in
    let near = picks_are_near (lowered_bodies defs) main env (subst (λ cs. IsFineCall cs main env) e k) in
    record {
      outcome = λ o q. (picks.within o q, picks.same o q);
      overflow = λ _ q. picks.over q;
      near = λ l. near.overflows (over_none (picked_call (reverse (lowered_bodies defs)) main env) (path code env) picks l);
    }
