-- The tries of an arm, one after another.
use Rattle.std.proofs.Common.{◌≡◌, ℕ, suc, ◌+◌, ◌-◌, ◌<◌, ◌≤◌, List, ◌++◌, length, take, Option, Some, None, is_some, true, false, true≢false, Ok, Vec, Global, refl, sym, ap, ◌∙◌, subst, arith, rules, append_assoc}
use Rattle.std.proofs.Math.Seq.{take-append_seam}
use Rattle.cf_tree.specs.CodeTree.{ArmTree}
use Rattle.cf_tree.specs.Values.{Value}
use Rattle.cf_tree.specs.Meaning.{tuple_at}
use Rattle.cf_tree.specs.declared.code.Arm.{Arm, the_lemmas}
use Rattle.cf_tree.specs.CodeView.{arm_tree}
use Rattle.cf_eval.specs.declared.given.Stop.{Stop}
use Rattle.cf_eval.specs.declared.given.Stop.TheVariants.{NoMemory, Past, Unsolved}
use Rattle.cf_eval.specs.declared.value.Value.{Value as RunValue}
use Rattle.cf_eval.specs.Reached.{Reached, given, then_reached, or_later, first_reached, met_all, try_reached, tries_reached, bounds_of}
use Rattle.cf_eval.specs.RunAnswers.{StopIs, BindsAll, FoundAnswer, capped}

-- one more number
first_step : (n i : ℕ) (f : ℕ → Reached (Option (List Value))) → i < n →
    first_reached (n - i) i f ≡ then_reached (f i) (λ found. or_later found (first_reached (n - (i + 1)) (i + 1) f))
first_step n i f h =
    let left : n - i ≡ suc (n - (i + 1)) = omega arith in
    let next : suc i ≡ i + 1 = omega arith in
    rw (left, next)

-- the try at tuple number i, and the later ones
tries_at : (a : ArmTree) (env : List Value) (n i : ℕ) (vs : List Value) → i < n → met_all (tuple_at (bounds_of a) i) ≡ given vs →
    tries_reached a env (n - i) i ≡ then_reached (try_reached a (env ++ vs)) (λ found. or_later found (tries_reached a env (n - (i + 1)) (i + 1)))
tries_at a env n i vs h e = first_step n i _ h ∙
    ap (λ r. then_reached (then_reached r (λ ks. try_reached a (env ++ ks))) (λ found. or_later found (tries_reached a env (n - (i + 1)) (i + 1)))) e

-- what stops a part stops the whole
stop_then : {A B : Type 0} (e : Stop) (r : Reached A) (go : A → Reached B) → StopIs e r → StopIs e (then_reached r go)
stop_then NoMemory r go h = tt
stop_then Past r go h = rw h
stop_then (Unsolved n) r go h = rw h

pub bounds_tree : (a : Arm) → bounds_of (arm_tree a) ≡ a.bounds.items
bounds_tree a = search (rules, the_lemmas)

-- search values bound, as the program has them
pub binds_tree : (a : Arm) (bs : List ℕ) (i : ℕ) (env pushed : List Value) → bs ≡ a.bounds.items → BindsAll (tuple_at bs i) env pushed →
    BindsAll (tuple_at (bounds_of (arm_tree a)) i) env pushed
binds_tree a bs i env pushed e b = subst (λ x. BindsAll (tuple_at x i) env pushed) (e ∙ sym (bounds_tree a)) b

pub below_capped : (n i : ℕ) → i < capped n → i < n
below_capped n i h = omega arith

pub tries_err : (a : ArmTree) (env pushed : List Value) (n i : ℕ) (e : Stop) → i < n → BindsAll (tuple_at (bounds_of a) i) env pushed →
    StopIs e (try_reached a pushed) → StopIs e (tries_reached a env (n - i) i)
tries_err a env pushed n i e h b s = rw (tries_at a env n i b.0 h b.1, ← b.2) (stop_then e _ _ s)

pub tries_found : (a : ArmTree) (env pushed : List Value) (n i : ℕ) (found : Option (Vec RunValue Global)) → i < n →
    BindsAll (tuple_at (bounds_of a) i) env pushed → is_some found ≡ true → FoundAnswer (Ok found) (try_reached a pushed) →
    FoundAnswer (Ok found) (tries_reached a env (n - i) i)
tries_found a env pushed n i None h b some s = absurd (true≢false (sym some))
tries_found a env pushed n i (Some vs) h b some s = rw (tries_at a env n i b.0 h b.1, ← b.2, s)

pub tries_next : (a : ArmTree) (env pushed : List Value) (n i : ℕ) (found : Option (Vec RunValue Global)) → i < n →
    BindsAll (tuple_at (bounds_of a) i) env pushed → is_some found ≡ false → FoundAnswer (Ok found) (try_reached a pushed) →
    tries_reached a env (n - (i + 1)) (i + 1) ≡ tries_reached a env (n - i) i
tries_next a env pushed n i None h b none s = rw (tries_at a env n i b.0 h b.1, ← b.2, s)
tries_next a env pushed n i (Some vs) h b none s = absurd (true≢false none)

-- after the last try
pub tries_end : (a : ArmTree) (env : List Value) (n i : ℕ) → n ≤ i → tries_reached a env (n - i) i ≡ given None
tries_end a env n i h = let none : n - i ≡ 0 = omega arith in rw none refl

-- what was pushed is cut off again
pub cut : {A : Type 0} (old mid new cut_off : List A) (size : ℕ) → size ≡ length old → (more : List A) × (mid ≡ old ++ more) →
    (more : List A) × (new ≡ mid ++ more) → cut_off ≡ take size new → cut_off ≡ old
cut old mid new cut_off size e p q r = rw (r, e, q.1, p.1, append_assoc, take-append_seam)
