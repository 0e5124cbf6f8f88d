-- What is written of arms is their condition.
use Rattle.std.proofs.Common.{◌≡◌, ◌⊎◌, ℕ, zero, suc, Bool, true, false, List, [], ◌∷◌, ◌++◌, Some, None, map, refl, subst, sym, inl, inr, ◌∙◌, ◌+◌, append-nil, arith}
use Rattle.std.specs.Prelude.{◌↔◌, ℤ, if◌then◌else◌}
use Rattle.cf_tree.specs.declared.base.Base.{Base}
use Rattle.cf_tree.specs.declared.base.Base.TheVariants.{Int, Bool as Truth, Set}
use Rattle.cf_tree.specs.CodeTree.{CodeTree, ItemTree, let_item, need_item, ItemTrees, no_items, item_more, ArmTree, arm_of, ArmTrees, no_arms, arm_more}
use Rattle.cf_tree.specs.Meaning.{Got, got, path, then_gives, item_path, items_path}
use Rattle.cf_tree.specs.Relation.{val, members, Holds}
use Rattle.cf_tree.specs.RelTree.{TermTree, SetTree, RelTree, rel_true, rel_false}
use Rattle.cf_tree.specs.Solving.{IsBelow, with_tuple, NeedsHold, HoldSomewhere}
use Rattle.cf_tree.specs.Values.{Value, number, truth, elements, number_of, elements_of, value_at, HasBase, HaveBases}
use Rattle.cf_tree.specs.Sets.{IsRising}
use Rattle.cf_condition.specs.declared.pairing.Pairing.TheVariants.{And, Or}
use Rattle.cf_condition.specs.Conditions.{Walk, bound, needed, step_in, items_in, arm_in, arms_in, all_in}
use Rattle.cf_condition.specs.Forms.{FormTree, number_form, set_form, truth_form, unwritten, both, either, paired, form_in, form_for, scope_forms}
use Rattle.cf_condition.specs.Standing.{Decides, Stands, AllStand, GivesForm}
use Rattle.cf_condition.proofs.FormLaws.{forms_are_right, both_hold, either_holds}

-- the items lead to some environment
abbrev ItemsHold : ItemTrees → List Value → Type 0
ItemsHold is e = (x : List Value) × ((items_path is e).gives ≡ got (Some x))

one_truth : (r s : RelTree) → truth_form r ≡ truth_form s → r ≡ s
one_truth r s e = cc

no_truth : (r : RelTree) → unwritten ≡ truth_form r → ⊥
no_truth r e = cc

none_some : (x : List Value) → got None ≡ got (Some x) → ⊥
none_some x e = cc

-- both sides of && and || are truth values, where the whole is one
record OfTruths (f g : FormTree) (r : RelTree) (join : RelTree → RelTree → RelTree) : Type 0 where
  left : RelTree
  right : RelTree
  left_is : f ≡ truth_form left
  right_is : g ≡ truth_form right
  joined : r ≡ join left right

of_and : (f g : FormTree) (r : RelTree) → paired And f g ≡ truth_form r → OfTruths f g r both
of_and (number_form t) (number_form u) r e = absurd (no_truth r e)
of_and (number_form t) (set_form u) r e = absurd (no_truth r e)
of_and (number_form t) (truth_form u) r e = absurd (no_truth r e)
of_and (number_form t) unwritten r e = absurd (no_truth r e)
of_and (set_form t) (number_form u) r e = absurd (no_truth r e)
of_and (set_form t) (set_form u) r e = absurd (no_truth r e)
of_and (set_form t) (truth_form u) r e = absurd (no_truth r e)
of_and (set_form t) unwritten r e = absurd (no_truth r e)
of_and (truth_form t) (number_form u) r e = absurd (no_truth r e)
of_and (truth_form t) (set_form u) r e = absurd (no_truth r e)
of_and (truth_form t) (truth_form u) r e =
    record { left = t; right = u; left_is = refl; right_is = refl; joined = sym (one_truth (both t u) r e) }
of_and (truth_form t) unwritten r e = absurd (no_truth r e)
of_and unwritten g r e = absurd (no_truth r e)

of_or : (f g : FormTree) (r : RelTree) → paired Or f g ≡ truth_form r → OfTruths f g r either
of_or (number_form t) (number_form u) r e = absurd (no_truth r e)
of_or (number_form t) (set_form u) r e = absurd (no_truth r e)
of_or (number_form t) (truth_form u) r e = absurd (no_truth r e)
of_or (number_form t) unwritten r e = absurd (no_truth r e)
of_or (set_form t) (number_form u) r e = absurd (no_truth r e)
of_or (set_form t) (set_form u) r e = absurd (no_truth r e)
of_or (set_form t) (truth_form u) r e = absurd (no_truth r e)
of_or (set_form t) unwritten r e = absurd (no_truth r e)
of_or (truth_form t) (number_form u) r e = absurd (no_truth r e)
of_or (truth_form t) (set_form u) r e = absurd (no_truth r e)
of_or (truth_form t) (truth_form u) r e =
    record { left = t; right = u; left_is = refl; right_is = refl; joined = sym (one_truth (either t u) r e) }
of_or (truth_form t) unwritten r e = absurd (no_truth r e)
of_or unwritten g r e = absurd (no_truth r e)

-- ---- items
stays_unwritten : (is : ItemTrees) (w : Walk) → w.needs ≡ unwritten → (items_in w is).needs ≡ unwritten
stays_unwritten no_items w e = e
stays_unwritten (item_more (let_item c) is) w e = stays_unwritten is (bound w (form_in w.forms c)) (by (form_in w.forms c))
  where
    by : (f : FormTree) → (bound w f).needs ≡ unwritten
    by (number_form t) = e
    by (set_form s) = e
    by (truth_form r) = e
    by unwritten = refl
stays_unwritten (item_more (need_item c) is) w e = stays_unwritten is (needed w (form_in w.forms c)) (rw e refl)

all_stand : (fs : List FormTree) (env e : List Value) (f : FormTree) (v : Value) → AllStand fs env e → Stands f env v →
    AllStand (fs ++ (f ∷ [])) env (e ++ (v ∷ []))
all_stand [] env [] f v h j = (j, tt)
all_stand [] env (w ∷ ws) f v h j = absurd h
all_stand (g ∷ fs) env [] f v h j = absurd h
all_stand (g ∷ fs) env (w ∷ ws) f v h j = (h.0, all_stand fs env ws f v h.1 j)

-- the items lead on where the needs so far, and those of the items, hold
record Leads (is : ItemTrees) (w : Walk) (env e : List Value) (r : RelTree) : Type 0 where
  so_far : RelTree
  needs_are : w.needs ≡ truth_form so_far
  holds : Holds r env ↔ (Holds so_far env × ItemsHold is e)

after_let : (c : CodeTree) (is : ItemTrees) (w : Walk) (env e : List Value) (r : RelTree) (f : FormTree) (v : Value) →
    (path c e).gives ≡ got (v ∷ []) → (bound w f).needs ≡ w.needs → Leads is (bound w f) env (e ++ (v ∷ [])) r → Leads (item_more (let_item c) is) w env e r
after_let c is w env e r f v g same l = record { so_far = l.so_far; needs_are = sym same ∙ l.needs_are; holds = rw g l.holds }

after_need : (c : CodeTree) (is : ItemTrees) (w : Walk) (env e : List Value) (r : RelTree) (f : FormTree) → GivesForm f env (path c e).gives →
    Leads is (needed w f) env e r → Leads (item_more (need_item c) is) w env e r
after_need c is w env e r f g l = by (of_and w.needs f l.so_far l.needs_are)
  where
    with_need : (a b : RelTree) → l.so_far ≡ both a b → (t : Bool) → (path c e).gives ≡ got (truth t ∷ []) → Decides (Holds b env) t →
        Holds r env ↔ (Holds a env × ItemsHold (item_more (need_item c) is) e)
    with_need a b j true g d =
        rw g (
          (λ h. let p = l.holds.0 h in (((both_hold a b env).0 (subst (λ s. Holds s env) j p.0)).0, p.1)),
          λ p. l.holds.1 (subst (λ s. Holds s env) (sym j) ((both_hold a b env).1 (p.0, d)), p.1),
        )
    with_need a b j false g d =
        rw g ((λ h. let p = l.holds.0 h in absurd (d ((both_hold a b env).0 (subst (λ s. Holds s env) j p.0)).1)), λ p. let i = p.1 in absurd (none_some i.0 i.1))

    by : OfTruths w.needs f l.so_far both → Leads (item_more (need_item c) is) w env e r
    by o =
        let t : GivesForm (truth_form o.right) env (path c e).gives = subst (λ k. GivesForm k env (path c e).gives) o.right_is g in
        record { so_far = o.left; needs_are = o.left_is; holds = with_need o.left o.right o.joined t.0 t.1 t.2 }

let_leads : (c : CodeTree) (is : ItemTrees) (w : Walk) (env e : List Value) (r : RelTree) → AllStand w.forms env e → (f : FormTree) →
    GivesForm f env (path c e).gives → (items_in (bound w f) is).needs ≡ truth_form r →
    ((v : Walk) (x : List Value) → AllStand v.forms env x → (items_in v is).needs ≡ truth_form r → Leads is v env x r) →
    Leads (item_more (let_item c) is) w env e r
let_leads c is w env e r h (number_form t) g q go =
    let v : Value = number (val t env) in
    after_let c is w env e r (number_form t) v g refl (go (bound w (number_form t)) (e ++ (v ∷ [])) (all_stand w.forms env e (number_form t) v h refl) q)
let_leads c is w env e r h (set_form s) g q go =
    let v : Value = elements (members s env) in
    after_let c is w env e r (set_form s) v g refl (go (bound w (set_form s)) (e ++ (v ∷ [])) (all_stand w.forms env e (set_form s) v h refl) q)
let_leads c is w env e r h (truth_form p) g q go =
    let v : Value = truth g.0 in
    after_let c is w env e r (truth_form p) v g.1 refl
    (go (bound w (truth_form p)) (e ++ (v ∷ [])) (all_stand w.forms env e (truth_form p) v h (g.0, refl, g.2)) q)
let_leads c is w env e r h unwritten g q go = absurd (no_truth r (sym (stays_unwritten is (bound w unwritten) refl) ∙ q))

walk_leads : (is : ItemTrees) (w : Walk) (env e : List Value) (r : RelTree) → AllStand w.forms env e → (items_in w is).needs ≡ truth_form r → Leads is w env e r
walk_leads no_items w env e r h q = record { so_far = r; needs_are = q; holds = (λ a. (a, (e, refl)), λ p. p.0) }
walk_leads (item_more (let_item c) is) w env e r h q =
    let_leads c is w env e r h (form_in w.forms c) (forms_are_right w.forms c env e h) q (λ v x a b. walk_leads is v env x r a b)
walk_leads (item_more (need_item c) is) w env e r h q =
    after_need c is w env e r (form_in w.forms c) (forms_are_right w.forms c env e h) (walk_leads is (needed w (form_in w.forms c)) env e r h q)

-- ---- the scope
int_stands : (v w : Value) → w ≡ v → (z : ℤ) × (v ≡ number z) → v ≡ number (number_of w)
int_stands v w e h = rw (e, h.1) refl

set_stands : (v w : Value) → w ≡ v → (zs : List ℤ) × (v ≡ elements zs) × IsRising zs → v ≡ elements (elements_of w)
set_stands v w e h = rw (e, h.1) refl

base_stands : (b : Base) (x : ℕ) (env : List Value) (v : Value) → value_at env x ≡ v → HasBase b v → Stands (form_for b x) env v
base_stands Int x env v e h = int_stands v (value_at env x) e h
base_stands Truth x env v e h = tt
base_stands Set x env v e h = set_stands v (value_at env x) e h

zero_more : (x : ℕ) → x + 0 ≡ x
zero_more x = omega arith

one_more : (x i : ℕ) → x + suc i ≡ suc x + i
one_more x i = omega arith

from_zero : (env : List Value) (i : ℕ) → value_at env (0 + i) ≡ value_at env i
from_zero env i = let e : 0 + i ≡ i = omega arith in rw e refl

scope_stand : (bs : List Base) (x : ℕ) (env vs : List Value) → ((i : ℕ) → value_at env (x + i) ≡ value_at vs i) → HaveBases bs vs →
    AllStand (scope_forms x bs) env vs
scope_stand [] x env [] same h = tt
scope_stand [] x env (v ∷ vs) same h = absurd h
scope_stand (b ∷ bs) x env [] same h = absurd h
scope_stand (b ∷ bs) x env (v ∷ vs) same h = (
  base_stands b x env v (subst (λ y. value_at env y ≡ v) (zero_more x) (same 0)) h.0,
  scope_stand bs (suc x) env vs (λ i. subst (λ y. value_at env y ≡ value_at vs i) (one_more x i) (same (suc i))) h.1,
)

-- ---- arms
abbrev Somewhere : ArmTree → List Value → Type 0
Somewhere a env = (ks : List ℕ) × (e : List Value) × NeedsHold a env ks e

arm_holds : (scope : List Base) (a : ArmTree) (env : List Value) (r : RelTree) → HaveBases scope env → arm_in scope a ≡ truth_form r →
    Holds r env ↔ Somewhere a env
arm_holds scope (arm_of (b ∷ bounds) is gs) env r h q = absurd (no_truth r q)
arm_holds scope (arm_of [] is gs) env r h q =
    by (walk_leads is (record { forms = scope_forms 0 scope; needs = truth_form rel_true }) env env r (scope_stand scope 0 env env (from_zero env) h) q)
  where
    back : (ks : List ℕ) (e : List Value) → NeedsHold (arm_of [] is gs) env ks e → ItemsHold is env
    back [] e n = (e, subst (λ x. (items_path is x).gives ≡ got (Some e)) (append-nil env) n.1)
    back (k ∷ ks) e n = absurd n.0

    by : Leads is (record { forms = scope_forms 0 scope; needs = truth_form rel_true }) env env r → Holds r env ↔ Somewhere (arm_of [] is gs) env
    by l = (
      λ p. let i = (l.holds.0 p).1 in
          ([], i.0, (tt, subst (λ x. (items_path is x).gives ≡ got (Some i.0)) (sym (append-nil env)) i.1)),
      λ s. l.holds.1 (subst (λ k. Holds k env) (one_truth rel_true l.so_far l.needs_are) tt, back s.0 s.1 s.2),
    )

-- the condition of what stands before, or of these arms
record Written (scope : List Base) (arms : ArmTrees) (f : FormTree) (env : List Value) (r : RelTree) : Type 0 where
  so_far : RelTree
  is : f ≡ truth_form so_far
  holds : Holds r env ↔ (Holds so_far env ⊎ HoldSomewhere arms env)

one_arm_more : (scope : List Base) (a : ArmTree) (arms : ArmTrees) (f : FormTree) (env : List Value) (r : RelTree) → HaveBases scope env →
    Written scope arms (paired Or f (arm_in scope a)) env r → Written scope (arm_more a arms) f env r
one_arm_more scope a arms f env r h w = by (of_or f (arm_in scope a) w.so_far w.is)
  where
    by : OfTruths f (arm_in scope a) w.so_far either → Written scope (arm_more a arms) f env r
    by o =
        let one = arm_holds scope a env o.right h o.right_is in
        let split = either_holds o.left o.right env in
        record {
          so_far = o.left;
          is = o.left_is;
          holds = (
            λ p. elim (w.holds.0 p) [
              | inl x ↦ elim (split.0 (subst (λ k. Holds k env) o.joined x)) [ inl y ↦ inl y | inr y ↦ inr (inl (one.0 y)) ]
              | inr x ↦ inr (inr x)
            ],
            λ p. elim p [
              | inl x ↦ w.holds.1 (inl (subst (λ k. Holds k env) (sym o.joined) (split.1 (inl x))))
              | inr x ↦ elim x [
                | inl y ↦ w.holds.1 (inl (subst (λ k. Holds k env) (sym o.joined) (split.1 (inr (one.1 y)))))
                | inr y ↦ w.holds.1 (inr y)
              ]
            ],
          );
        }

arms_written : (scope : List Base) (arms : ArmTrees) (f : FormTree) (env : List Value) (r : RelTree) → HaveBases scope env → arms_in scope f arms ≡ truth_form r →
    Written scope arms f env r
arms_written scope no_arms f env r h q =
    record { so_far = r; is = q; holds = (λ x. inl x, λ p. elim p [ inl x ↦ x | inr x ↦ absurd x ]) }
arms_written scope (arm_more a arms) f env r h q =
    one_arm_more scope a arms f env r h (arms_written scope arms (paired Or f (arm_in scope a)) env r h q)

pub condition_holds : (scope : List Base) (arms : ArmTrees) (r : RelTree) → all_in scope arms ≡ truth_form r → (env : List Value) → HaveBases scope env →
    Holds r env ↔ HoldSomewhere arms env
condition_holds scope arms r q env h = by (arms_written scope arms (truth_form rel_false) env r h q)
  where
    by : Written scope arms (truth_form rel_false) env r → Holds r env ↔ HoldSomewhere arms env
    by w = (
      λ p. elim (w.holds.0 p) [ inl x ↦ absurd (subst (λ k. Holds k env) (sym (one_truth rel_false w.so_far w.is)) x) | inr x ↦ x ],
      λ s. w.holds.1 (inr s),
    )
