-- Paths that answer alike, one after another.
use Rattle.std.proofs.Common.{◌≡◌, ℕ, zero, suc, ◌≤◌, max, Bool, true, false, cond, Option, Some, None, List, refl, sym, ◌∙◌, arith}
use Rattle.cf_num.specs.Limit.{limit}
use Rattle.cf_tree.specs.CodeTree.{CodeTree}
use Rattle.cf_tree.specs.Meaning.{path, Got, got, none_at, Path, then_gives, then_peak, then_path, gives_only, if_some, or_later, first_from}
use Rattle.cf_tree.specs.Values.{Value}
use Rattle.cf_range.specs.Alike.{Follows, Alike}

pub alike_refl : {A : Type 0} (p : Path A) → Alike p p
alike_refl p = (λ l. (l, refl), λ l. (l, refl))

pub alike_same : {A : Type 0} (p q : Path A) → p ≡ q → Alike p q
alike_same p q e = rw e (alike_refl q)

pub both_fit : {A : Type 0} (p q : Path A) → p.peak ≤ limit → q.peak ≤ limit → q.gives ≡ p.gives → Alike p q
both_fit p q l m e = (λ k. (m, e), λ k. (l, sym e))

follows_trans : {A : Type 0} (p q r : Path A) → Follows p q → Follows q r → Follows p r
follows_trans p q r f g l = let a = f l in let b = g a.0 in (b.0, b.1 ∙ a.1)

pub alike_trans : {A : Type 0} (p q r : Path A) → Alike p q → Alike q r → Alike p r
alike_trans p q r h k = (follows_trans p q r h.0 k.0, follows_trans r q p k.1 h.1)

follows_then : {A B : Type 0} (p q : Path A) (f g : A → Path B) → Follows p q →
    ((x : A) → p.gives ≡ got x → p.peak ≤ limit → Follows (f x) (g x)) → Follows (then_path p f) (then_path q g)
follows_then {A = A} p q f g h k l = by p.gives h k l
  where
    by : (v : Got A) → (p.peak ≤ limit → (q.peak ≤ limit) × (q.gives ≡ v)) → ((x : A) → v ≡ got x → p.peak ≤ limit → Follows (f x) (g x)) →
        then_peak p.peak v (λ x. (f x).peak) ≤ limit →
        ((then_path q g).peak ≤ limit) × ((then_path q g).gives ≡ then_gives v (λ x. (f x).gives))
    by (got x) h k l =
        let a = h (omega arith) in
        let b = k x refl (omega arith) (omega arith) in
        let a0 = a.0 in
        let b0 = b.0 in
        rw a.1 (omega (arith, a0, b0), b.1)
    by (none_at n) h k l = let a = h l in rw a.1 (a.0, refl)

-- one after another, where the second follows what the first gives
pub alike_then : {A B : Type 0} (p q : Path A) (f g : A → Path B) → Alike p q →
    ((x : A) → p.gives ≡ got x → p.peak ≤ limit → Alike (f x) (g x)) → Alike (then_path p f) (then_path q g)
alike_then p q f g h k = (
  follows_then p q f g h.0 (λ x e l. (k x e l).0),
  follows_then q p g f h.1 (λ x e l. let a = h.1 l in (k x (a.1 ∙ e) a.0).1),
)

pub alike_one : {A B : Type 0} (p q : Path A) (f : A → Path B) → Alike p q → Alike (then_path p f) (then_path q f)
alike_one p q f h = alike_then p q f f h (λ x e l. alike_refl (f x))

pub alike_two : {A B C : Type 0} (p q : Path A) (r s : Path B) (f : A → B → Path C) → Alike p q → Alike r s →
    Alike (then_path p (λ x. then_path r (f x))) (then_path q (λ x. then_path s (f x)))
alike_two p q r s f h k = alike_then p q _ _ h (λ x e l. alike_one r s (f x) k)

pub alike_cond : {A : Type 0} (b : Bool) (p q r s : Path A) → Alike p q → Alike r s → Alike (cond b p r) (cond b q s)
alike_cond true p q r s h k = h
alike_cond false p q r s h k = k

pub alike_later : (o : Option (List Value)) (p q : Path (Option (List Value))) → Alike p q → Alike (or_later o p) (or_later o q)
alike_later None p q h = h
alike_later (Some vs) p q h = alike_refl (gives_only (Some vs))

pub alike_some : (o : Option (List Value)) (f g : List Value → Path (Option (List Value))) → ((e : List Value) → Alike (f e) (g e)) →
    Alike (if_some o f) (if_some o g)
alike_some None f g h = alike_refl (gives_only None)
alike_some (Some e) f g h = h e

pub alike_first : (n k : ℕ) (f g : ℕ → Path (Option (List Value))) → ((i : ℕ) → Alike (f i) (g i)) → Alike (first_from n k f) (first_from n k g)
alike_first zero k f g h = alike_refl (gives_only None)
alike_first (suc n) k f g h =
    alike_then (f k) (g k) _ _ (h k) (λ o e l. alike_later o (first_from n (suc k) f) (first_from n (suc k) g) (alike_first n (suc k) f g h))

-- a number within the limit that is met before changes nothing
pub met_before : {A : Type 0} (k : ℕ) (p q : Path A) → k ≤ limit → Alike p q → Alike (record { gives = p.gives; peak = max k p.peak }) q
met_before k p q w h = (
  λ l. h.0 (omega arith),
  λ l. let a = h.1 l in let b = a.0 in (omega (arith, w, b), a.1),
)

-- one code or another
pub either_code : (t : Bool) (p : Path (List Value)) (a b : CodeTree) (env : List Value) → (t ≡ true → Alike p (path a env)) →
    (t ≡ false → Alike p (path b env)) → Alike p (path (cond t a b) env)
either_code true p a b env h k = h refl
either_code false p a b env h k = k refl
