-- A relation over the variables in scope: whatever stands behind these, it holds alike, and it holds or does not.
use Rattle.std.proofs.Common.{◌≡◌, ◌<◌, ◌↔◌, ◌∙◌, ℕ, pos, Bool, true, false, not, ◌&&◌, ◌||◌, List, ◌++◌, length, unwrap_or, sym, ap, refl, arith}
use Rattle.std.proofs.lemmas.Option.{unwrap_or-slice_get}
use Rattle.cf_tree.specs.declared.base.Base.{Base}
use Rattle.cf_tree.specs.Numbers.{is_multiple}
use Rattle.cf_tree.specs.Relation.{Holds, IsTyped, members, val}
use Rattle.cf_tree.specs.RelTree.{RelTree, rel_true, rel_false, rel_compare, rel_same_set, rel_other_set, rel_subset, rel_divides, rel_and, rel_or, rel_not}
use Rattle.cf_tree.specs.Sets.{is_subset}
use Rattle.cf_tree.specs.Values.{Value, number, value_at, compared, same_list, HaveBases}
use Rattle.cf_form.proofs.Outcomes.{length_have}
use Rattle.cf_form.proofs.SaidBy.{Says, says_and, says_or, says_not, compares_says, same_set_says, other_set_says, subset_says, divides_says}
use Rattle.cf_warn.proofs.OtherLevels.{holds-at}
use Rattle.cf_warn.proofs.ParameterLaws.{held_rel, held_within, slice_get-early}

-- ---- behind the scope
value_early : (env xs : List Value) (x : ℕ) → x < length env → value_at (env ++ xs) x ≡ value_at env x
value_early env xs x l =
    sym (unwrap_or-slice_get (env ++ xs) x (number (pos 0))) ∙ ap (λ o. unwrap_or o (number (pos 0))) (slice_get-early env xs x l)
    ∙ unwrap_or-slice_get env x (number (pos 0))

pub holds_behind : (scope : List Base) (p : RelTree) → IsTyped scope p → (env xs : List Value) → HaveBases scope env → Holds p (env ++ xs) ↔ Holds p env
holds_behind scope p typed env xs have =
    let size = length_have scope env have in
    let there = holds-at (λ x. x) env (env ++ xs) p
    (λ x h. let l = held_within scope x (held_rel scope x p typed h) in value_early env xs x (omega arith)) in
    let itself = holds-at (λ x. x) (env ++ xs) (env ++ xs) p (λ x h. refl) in
    (λ h. there.0 (itself.1 h), λ h. itself.0 (there.1 h))

-- ---- it holds or does not
-- whether it holds
abbrev Told : RelTree → List Value → Type 0
Told p env = (t : Bool) × Says (Holds p env) t

told : (scope : List Base) (p : RelTree) → IsTyped scope p → (env : List Value) → Told p env
told scope rel_true typed env = (true, tt)
told scope rel_false typed env = (false, λ h. h)
told scope (rel_compare o a b) typed env = (compared o (number (val a env)) (number (val b env)), compares_says o (val a env) (val b env))
told scope (rel_same_set a b) typed env = (same_list (members a env) (members b env), same_set_says (members a env) (members b env))
told scope (rel_other_set a b) typed env = (not (same_list (members a env) (members b env)), other_set_says (members a env) (members b env))
told scope (rel_subset a b) typed env = (is_subset (members a env) (members b env), subset_says (members a env) (members b env))
told scope (rel_divides k t) typed env = (is_multiple k (val t env), divides_says k (val t env) typed.0.0)
told scope (rel_and a b) typed env =
    let p = told scope a typed.0 env in
    let q = told scope b typed.1 env in
    (p.0 && q.0, says_and (Holds a env) (Holds b env) p.0 q.0 p.1 q.1)
told scope (rel_or a b) typed env =
    let p = told scope a typed.0 env in
    let q = told scope b typed.1 env in
    (p.0 || q.0, says_or (Holds a env) (Holds b env) p.0 q.0 p.1 q.1)
told scope (rel_not a) typed env = let p = told scope a typed env in (not p.0, says_not (Holds a env) p.0 p.1)

said_unless : (P : Type 0) (t : Bool) → Says P t → ((P → ⊥) → ⊥) → P
said_unless P true is h = is
said_unless P false is h = absurd (h is)

-- it holds where it is not so that it does not
pub held_unless : (scope : List Base) (p : RelTree) → IsTyped scope p → (env : List Value) → ((Holds p env → ⊥) → ⊥) → Holds p env
held_unless scope p typed env h = let is = told scope p typed env in said_unless (Holds p env) is.0 is.1 h
