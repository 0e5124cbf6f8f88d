-- To run a block is to stop at the first number past the limit.
use Rattle.std.proofs.Common.{◌≡◌, ℕ, zero, suc, ◌≤◌, ◌<◌, ◌⊎◌, inl, inr, max, Bool, true, false, ◌&&◌, cond, Option, Some, None, List, ◌∷◌, ◌++◌, refl, sym, ap, ◌∙◌, arith}
use Rattle.std.specs.Prelude.{nat_le}
use Rattle.std.proofs.Math.Nat.{max-zero}
use Rattle.std.proofs.lemmas.Bool.Decides.{leb_tells}
use Rattle.cf_num.specs.Limit.{limit}
use Rattle.cf_tree.specs.Meaning.{Got, got, none_at, Path, gives_only, then_path, if_some, or_later, first_from, count_below, tuple_at, meets_all, truth_in, path}
use Rattle.cf_tree.specs.Values.{Value, first_of}
use Rattle.cf_stmt.specs.Blocks.{Block, give, none, leave, bind, part, join, test, arm, given, exec}
use Rattle.cf_stmt.specs.Runs.{Run, gives, stops, overflows, leaves, checked, then_run, or_run, first_run, runs, found_run, StatementsAnswer}
use Rattle.cf_stmt.proofs.Parts.{Found}

-- the run of a way through a block
abbrev run_of : Found → Run
run_of p = cond (nat_le p.peak limit) (found_run p.gives) overflows

max_le : (a b k : ℕ) → nat_le (max a b) k ≡ nat_le a k && nat_le b k
max_le a b k = by (leb_tells a k) (leb_tells b k) (leb_tells (max a b) k)
  where
    by : ((nat_le a k ≡ true) × (a ≤ k)) ⊎ ((nat_le a k ≡ false) × (k < a)) → ((nat_le b k ≡ true) × (b ≤ k)) ⊎ ((nat_le b k ≡ false) × (k < b)) →
        ((nat_le (max a b) k ≡ true) × (max a b ≤ k)) ⊎ ((nat_le (max a b) k ≡ false) × (k < max a b)) → nat_le (max a b) k ≡ nat_le a k && nat_le b k
    by (inl x) (inl y) (inl z) = rw (x.0, y.0, z.0) refl
    by (inl x) (inl y) (inr z) = absurd (omega (arith, x.1, y.1, z.1))
    by (inl x) (inr y) (inl z) = absurd (omega (arith, y.1, z.1))
    by (inl x) (inr y) (inr z) = rw (x.0, y.0, z.0) refl
    by (inr x) y (inl z) = absurd (omega (arith, x.1, z.1))
    by (inr x) y (inr z) = rw (x.0, z.0) refl

-- a check of the greater of two is one after the other
cut : (a b : ℕ) (r : Run) → cond (nat_le (max a b) limit) r overflows ≡ cond (nat_le a limit) (cond (nat_le b limit) r overflows) overflows
cut a b r = rw (max_le a b limit) (by (nat_le a limit) (nat_le b limit))
  where
    by : (s t : Bool) → cond (s && t) r overflows ≡ cond s (cond t r overflows) overflows
    by true t = refl
    by false t = refl

no_more : (k : ℕ) (r : Run) → cond (nat_le (max k 0) limit) r overflows ≡ cond (nat_le k limit) r overflows
no_more k r = ap (λ n. cond (nat_le n limit) r overflows) (max-zero k)

-- what goes on with a run that is checked
then_cond : (t : Bool) (r : Run) (go : List Value → Run) → then_run (cond t r overflows) go ≡ cond t (then_run r go) overflows
then_cond true r go = refl
then_cond false r go = refl

or_cond : (t : Bool) (r q : Run) → or_run (cond t r overflows) q ≡ cond t (or_run r q) overflows
or_cond true r q = refl
or_cond false r q = refl

run_then : (p : Found) (g : List Value → Found) → run_of (then_path p (λ f. if_some f g)) ≡ then_run (run_of p) (λ vs. run_of (g vs))
run_then p g = by p.gives p.peak
  where
    by : (h : Got (Option (List Value))) (k : ℕ) →
        run_of (then_path (record { gives = h; peak = k }) (λ f. if_some f g)) ≡ then_run (run_of (record { gives = h; peak = k })) (λ vs. run_of (g vs))
    by (got None) k = no_more k leaves ∙ sym (then_cond (nat_le k limit) leaves (λ vs. run_of (g vs)))
    by (got (Some vs)) k = cut k (g vs).peak (found_run (g vs).gives) ∙ sym (then_cond (nat_le k limit) (gives vs) (λ vs. run_of (g vs)))
    by (none_at n) k = sym (then_cond (nat_le k limit) (stops n) (λ vs. run_of (g vs)))

run_checked : (p : Path (List Value)) (g : List Value → Found) → run_of (then_path p g) ≡ then_run (checked p) (λ vs. run_of (g vs))
run_checked p g = by p.gives p.peak
  where
    by : (h : Got (List Value)) (k : ℕ) →
        run_of (then_path (record { gives = h; peak = k }) g) ≡ then_run (checked (record { gives = h; peak = k })) (λ vs. run_of (g vs))
    by (got vs) k = cut k (g vs).peak (found_run (g vs).gives) ∙ sym (then_cond (nat_le k limit) (gives vs) (λ vs. run_of (g vs)))
    by (none_at n) k = sym (then_cond (nat_le k limit) (stops n) (λ vs. run_of (g vs)))

run_given : (p : Path (List Value)) → run_of (then_path p given) ≡ checked p
run_given p = by p.gives p.peak
  where
    by : (h : Got (List Value)) (k : ℕ) → run_of (then_path (record { gives = h; peak = k }) given) ≡ checked (record { gives = h; peak = k })
    by (got vs) k = no_more k (gives vs)
    by (none_at n) k = refl

run_or : (p q : Found) → run_of (then_path p (λ f. or_later f q)) ≡ or_run (run_of p) (run_of q)
run_or p q = by p.gives p.peak
  where
    by : (h : Got (Option (List Value))) (k : ℕ) →
        run_of (then_path (record { gives = h; peak = k }) (λ f. or_later f q)) ≡ or_run (run_of (record { gives = h; peak = k })) (run_of q)
    by (got None) k = cut k q.peak (found_run q.gives) ∙ sym (or_cond (nat_le k limit) leaves (run_of q))
    by (got (Some vs)) k = no_more k (gives vs) ∙ sym (or_cond (nat_le k limit) (gives vs) (run_of q))
    by (none_at n) k = sym (or_cond (nat_le k limit) (stops n) (run_of q))

run_if : (t : Bool) (p q : Found) → run_of (cond t p q) ≡ cond t (run_of p) (run_of q)
run_if true p q = refl
run_if false p q = refl

-- ---- alike
then_alike : (r : Run) (f g : List Value → Run) → ((vs : List Value) → f vs ≡ g vs) → then_run r f ≡ then_run r g
then_alike (gives vs) f g h = h vs
then_alike (stops n) f g h = refl
then_alike overflows f g h = refl
then_alike leaves f g h = refl

first_alike : (n k : ℕ) (f : ℕ → Found) (g : ℕ → Run) → ((i : ℕ) → g i ≡ run_of (f i)) → first_run n k g ≡ run_of (first_from n k f)
first_alike zero k f g h = refl
first_alike (suc n) k f g h =
    rw (h k) (ap (or_run (run_of (f k))) (first_alike n (suc k) f g h) ∙ sym (run_or (f k) (first_from n (suc k) f)))

pub runs_are : (b : Block) (env : List Value) → runs b env ≡ run_of (exec b env)
runs_are (give c) env = sym (run_given (path c env))
runs_are (none n) env = refl
runs_are leave env = refl
runs_are (bind a b) env =
    rw (runs_are a env) (then_alike (run_of (exec a env)) _ _ (λ vs. runs_are b (env ++ vs)) ∙ sym (run_then (exec a env) (λ vs. exec b (env ++ vs))))
runs_are (part a b) env =
    rw (runs_are a env) (then_alike (run_of (exec a env)) _ _ (λ vs. runs_are b (first_of vs ∷ env))
    ∙ sym (run_then (exec a env) (λ vs. exec b (first_of vs ∷ env))))
runs_are (join a b) env =
    let both : List Value → List Value → Found = λ vs ws. gives_only (Some (vs ++ ws)) in
    rw (runs_are a env, runs_are b env)
    (then_alike (run_of (exec a env)) _ _ (λ vs. sym (run_then (exec b env) (both vs)))
    ∙ sym (run_then (exec a env) (λ vs. then_path (exec b env) (λ g. if_some g (both vs)))))
runs_are (test t a b) env =
    rw (runs_are t env, runs_are a env, runs_are b env)
    (then_alike (run_of (exec t env)) _ _ (λ vs. sym (run_if (truth_in vs) (exec a env) (exec b env)))
    ∙ sym (run_then (exec t env) (λ vs. cond (truth_in vs) (exec a env) (exec b env))))
runs_are (arm ks a b) env =
    let tried : ℕ → Found = λ i. then_path (meets_all (tuple_at ks i)) (λ vs. exec a (env ++ vs)) in
    rw (runs_are b env)
    (ap (λ r. or_run r (run_of (exec b env)))
    (first_alike (count_below ks) 0 tried _ (λ i. then_alike (checked (meets_all (tuple_at ks i))) _ _ (λ vs. runs_are a (env ++ vs))
    ∙ sym (run_checked (meets_all (tuple_at ks i)) (λ vs. exec a (env ++ vs)))))
    ∙ sym (run_or (first_from (count_below ks) 0 tried) (exec b env)))

pub statements_run : StatementsAnswer
statements_run c b s env = runs_are b env ∙ (ap run_of (s.same env) ∙ run_given (path c env))
