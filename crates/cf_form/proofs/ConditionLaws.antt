-- The condition of a choose is part of its relation, in each branch.
use Rattle.std.proofs.Common.{List, [], ◌∷◌, Option, Some, None}
use Rattle.std.proofs.lemmas.List.Elements.{All-nil, All-cons, All-map}
use Rattle.std.specs.Prelude.{All, length}
use Rattle.cf_tree.specs.DefView.{DefTree}
use Rattle.cf_tree.specs.Relation.{Holds}
use Rattle.cf_tree.specs.Values.{Value}
use Rattle.cf_form.specs.Branches.{WideChoose, Branch, branches, in_branch, truth_bounds, all_outputs, relation_at, given_in, given_at, values_in}
use Rattle.cf_form.specs.Expansion.{Calls, call_expanded, variables_from}
use Rattle.cf_tree.specs.Params.{bases_of}
use Rattle.cf_form.specs.Formed.{given_of, with_given, wide_choose}
use Rattle.cf_form.specs.Polarity.{holding}
use Rattle.cf_form.specs.SourceChooses.{SourceChoose, source_chooses}
use Rattle.cf_form.specs.Told.{ToldBranch, Allows, HoldsCondition, HoldConditions, told, wide_chooses, all_told}
use Rattle.cf_form.specs.Wide.{WideRel, wide_and}
use Rattle.cf_form.proofs.FoldLaws.{folded_keeps}
use Rattle.cf_form.proofs.HalfLaws.{all_apart, all_holds}

-- of two relations both hold in a branch
first_in : (b : Branch) (p r : WideRel) (env : List Value) → Holds (in_branch b (wide_and p r)) env → Holds (in_branch b p) env
first_in [] p r env h = h.0
first_in (v ∷ b) p r env h =
    let both = (folded_keeps (holding (values_in (v ∷ b)) (wide_and p r)) env).0 h in
    (folded_keeps (holding (values_in (v ∷ b)) p) env).1 both.0

-- the relation of a branch says what the whole relation says there
whole_in : (q : WideChoose) (b : Branch) (env : List Value) → Holds (relation_at q b) env → Holds (in_branch b q.relation) env
whole_in q b env h =
    let bounds = truth_bounds (length q.scope) (all_outputs q) in
    let last = in_branch b q.relation ∷ [] in
    (all_apart bounds last env ((all_holds _ env).0 h)).1.0

-- with a condition before it
condition_in : (g : Option WideRel) (r : WideRel) (b : Branch) (env : List Value) → Holds (in_branch b (with_given g r)) env → Allows (given_in b g) env
condition_in None r b env h = tt
condition_in (Some p) r b env h = first_in b p r env h

every : {X : Type 0} (P : X → Type 0) → ((x : X) → P x) → (xs : List X) → All P xs
every P h [] = All-nil P
every P h (x ∷ xs) = All-cons P x xs (h x) (every P h xs)

branches_hold : (calls : Calls) (s : SourceChoose) → All HoldsCondition (told (wide_choose calls s)).branches
branches_hold calls s =
    let q = wide_choose calls s in
    let branch : Branch → ToldBranch = λ b. record { truths = b; relation = relation_at q b; given = given_at q b } in
    let condition = given_of calls (variables_from 0 (bases_of s.scope)) s.given in
    All-map HoldsCondition branch (branches q)
    (every (λ b. HoldsCondition (branch b)) (λ b env h. condition_in condition _ b env (whole_in q b env h)) (branches q))

pub conditions_hold : (defs : List DefTree) → HoldConditions (all_told defs)
conditions_hold defs =
    All-map (λ c. All HoldsCondition c.branches) told (wide_chooses defs)
    (All-map (λ q. All HoldsCondition (told q).branches) (λ q. wide_choose (call_expanded q.0) q.1) (source_chooses defs)
    (every (λ q. All HoldsCondition (told (wide_choose (call_expanded q.0) q.1)).branches) (λ q. branches_hold (call_expanded q.0) q.1)
    (source_chooses defs)))
