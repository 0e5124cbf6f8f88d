-- One way and then another, each no worse.
use Rattle.std.proofs.Common.{◌≡◌, ◌≤◌, ℕ, zero, suc, Bool, true, false, cond, Option, Some, None, List, refl, ◌∙◌, arith}
use Rattle.cf_tree.specs.Meaning.{Got, got, none_at, Path, then_gives, then_peak, then_path, if_some, or_later, first_from}
use Rattle.cf_tree.specs.Values.{Value}
use Rattle.cf_pass.specs.Improves.{IsNoWorse}

pub same_way : {A : Type 0} (p : Path A) → IsNoWorse p p
same_way p = record { gives = refl; peak = omega arith }

pub ways_on : {A : Type 0} (p q r : Path A) → IsNoWorse p q → IsNoWorse q r → IsNoWorse p r
ways_on p q r h k = record { gives = k.gives ∙ h.gives; peak = omega (arith, h.peak, k.peak) }

pub then_better : {A B : Type 0} (p q : Path A) (go ko : A → Path B) → IsNoWorse p q → ((x : A) → p.gives ≡ got x → IsNoWorse (go x) (ko x)) →
    IsNoWorse (then_path p go) (then_path q ko)
then_better {A = A} {B = B} p q go ko h f = by p.gives p.peak q.gives q.peak h.gives h.peak f
  where
    by : (g : Got A) (m : ℕ) (g' : Got A) (m' : ℕ) → g' ≡ g → m' ≤ m → ((x : A) → g ≡ got x → IsNoWorse (go x) (ko x)) →
        IsNoWorse {A = B} (record { gives = then_gives g (λ x. (go x).gives); peak = then_peak m g (λ x. (go x).peak) })
        (record { gives = then_gives g' (λ x. (ko x).gives); peak = then_peak m' g' (λ x. (ko x).peak) })
    by (got x) m g' m' e l f = let k = f x refl in rw e (record { gives = k.gives; peak = omega (arith, l, k.peak) })
    by (none_at n) m g' m' e l f = rw e (record { gives = refl; peak = l })

pub then_any : {A B : Type 0} (p q : Path A) (go ko : A → Path B) → IsNoWorse p q → ((x : A) → IsNoWorse (go x) (ko x)) →
    IsNoWorse (then_path p go) (then_path q ko)
then_any p q go ko h f = then_better p q go ko h (λ x e. f x)

pub then_same : {A B : Type 0} (p q : Path A) (go : A → Path B) → IsNoWorse p q → IsNoWorse (then_path p go) (then_path q go)
then_same p q go h = then_better p q go go h (λ x e. same_way (go x))

-- two ways, and then what comes of both
pub then_two : {A B C : Type 0} (p q : Path A) (r s : Path B) (go : A → B → Path C) → IsNoWorse p q → IsNoWorse r s →
    IsNoWorse (then_path p (λ x. then_path r (λ y. go x y))) (then_path q (λ x. then_path s (λ y. go x y)))
then_two p q r s go h k = then_any p q _ _ h (λ x. then_same r s (go x) k)

pub either_better : {A : Type 0} (t : Bool) (p q r s : Path A) → IsNoWorse p r → IsNoWorse q s → IsNoWorse (cond t p q) (cond t r s)
either_better true p q r s h k = h
either_better false p q r s h k = k

pub some_better : (o : Option (List Value)) (go ko : List Value → Path (Option (List Value))) →
    ((env : List Value) → o ≡ Some env → IsNoWorse (go env) (ko env)) →
    IsNoWorse (if_some o go) (if_some o ko)
some_better None go ko f = same_way _
some_better (Some env) go ko f = f env refl

pub later_better : (o : Option (List Value)) (p q : Path (Option (List Value))) → IsNoWorse p q → IsNoWorse (or_later o p) (or_later o q)
later_better None p q h = h
later_better (Some vs) p q h = same_way _

pub first_better : (n k : ℕ) (f g : ℕ → Path (Option (List Value))) → ((i : ℕ) → IsNoWorse (f i) (g i)) → IsNoWorse (first_from n k f) (first_from n k g)
first_better zero k f g h = same_way _
first_better (suc n) k f g h = then_any (f k) (g k) _ _ (h k) (λ o. later_better o _ _ (first_better n (suc k) f g h))
