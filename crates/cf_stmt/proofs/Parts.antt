-- Values that are bound and read again: reading a number that was met adds nothing.
use Rattle.std.proofs.Common.{◌≡◌, ℕ, suc, ◌+◌, ◌≤◌, max, Bool, true, false, cond, Option, List, [], ◌∷◌, ◌++◌, length, refl, sym, ap, ◌∙◌, arith}
use Rattle.std.specs.Prelude.{unsigned_abs}
use Rattle.cf_tree.specs.CodeTree.{CodeTree, code_var, CodeTrees, no_codes, code_more}
use Rattle.cf_tree.specs.Meaning.{Got, got, none_at, Path, then_path, if_some, meets_value, path}
use Rattle.cf_tree.specs.Values.{Value, number, truth, elements, number_of, first_of, value_at}
use Rattle.cf_stmt.specs.Blocks.{Block, part, given, exec}
use Rattle.cf_stmt.specs.Made.{vars_then}
use Rattle.cf_shift.specs.Meeting.{AreSmall}
use Rattle.cf_shift.proofs.MeetingLaws.{IsOwn}
use Rattle.cf_stmt.proofs.Paths.{the_path, from, from_zero, from_from, then_then, then_alike, goes_on}

abbrev pub Found : Type 0
Found = Path (Option (List Value))

abbrev pub is_small : ℕ → Value → Type 0
is_small k v = unsigned_abs (number_of v) ≤ k

max_in : (m k p : ℕ) → k ≤ m → max m (max k p) ≡ max m p
max_in m k p l = omega arith

pub from_small : {A : Type 0} (m k : ℕ) (p : Path A) → k ≤ m → from m (from k p) ≡ from m p
from_small m k p l = ap (the_path p.gives) (max_in m k p.peak l)

pub reads : {B : Type 0} (m : ℕ) (v : Value) (f : List Value → Path B) → is_small m v → from m (then_path (meets_value v) f) ≡ from m (f (v ∷ []))
reads m (number z) f l = from_small m (unsigned_abs z) (f (number z ∷ [])) l
reads m (truth b) f l = ap (from m) (from_zero (f (truth b ∷ [])))
reads m (elements zs) f l = ap (from m) (from_zero (f (elements zs ∷ [])))

pub from_then : {A B : Type 0} (m : ℕ) (p : Path A) (f : A → Path B) → from m (then_path p f) ≡ then_path (from m p) f
from_then {A = A} m p f = by p.gives
  where
    by : (h : Got A) → from m (then_path (the_path h p.peak) f) ≡ then_path (from m (the_path h p.peak)) f
    by (got x) = sym (from_from m p.peak (f x))
    by (none_at n) = refl

pub then_from : {A B : Type 0} (m : ℕ) (p q : Path A) (f : A → Path B) → from m p ≡ from m q → from m (then_path p f) ≡ from m (then_path q f)
then_from m p q f e = from_then m p f ∙ (ap (λ r. then_path r f) e ∙ sym (from_then m q f))

pub first_small : (k : ℕ) (xs : List Value) → AreSmall k xs → is_small k (first_of xs)
first_small k [] s = omega arith
first_small k (x ∷ xs) s = s.0

pub still_small : (k m : ℕ) (xs : List Value) → k ≤ m → AreSmall k xs → AreSmall m xs
still_small k m [] l s = tt
still_small k m (x ∷ xs) l s = (omega (arith, s.0), still_small k m xs l s.1)

-- what a path gives is small from its peak on
pub then_small : {B : Type 0} (m : ℕ) (p : Path (List Value)) (f g : List Value → Path B) → IsOwn p →
    ((k : ℕ) (x : List Value) → m ≤ k → AreSmall k x → from k (f x) ≡ from k (g x)) → from m (then_path p f) ≡ from m (then_path p g)
then_small {B = B} m p f g own s = by p.gives refl
  where
    by : (h : Got (List Value)) → p.gives ≡ h → from m (then_path (the_path h p.peak) f) ≡ from m (then_path (the_path h p.peak) g)
    by (got x) e = sym (from_from m p.peak (f x))
        ∙ (s (max m p.peak) x (omega arith) (own (max m p.peak) (omega arith) x e) ∙ from_from m p.peak (g x))
    by (none_at n) e = refl

pub then_own : {B : Type 0} (p : Path (List Value)) (f g : List Value → Path B) → IsOwn p →
    ((k : ℕ) (x : List Value) → AreSmall k x → from k (f x) ≡ from k (g x)) → then_path p f ≡ then_path p g
then_own p f g own s = sym (from_zero (then_path p f)) ∙ (then_small 0 p f g own (λ k x l d. s k x d) ∙ from_zero (then_path p g))

pub one_read : {B : Type 0} (p : Path (List Value)) (f : List Value → Path B) → IsOwn p →
    then_path p (λ x. then_path (meets_value (first_of x)) f) ≡ then_path p (λ x. f (first_of x ∷ []))
one_read p f own = then_own p _ _ own (λ k x s. reads k (first_of x) f (first_small k x s))

pub two_read : {B : Type 0} (p q : Path (List Value)) (f : List Value → List Value → Path B) → IsOwn p → IsOwn q →
    then_path p (λ x. then_path q (λ y. then_path (meets_value (first_of x)) (λ a. then_path (meets_value (first_of y)) (f a))))
    ≡ then_path p (λ x. then_path q (λ y. f (first_of x ∷ []) (first_of y ∷ [])))
two_read p q f own owns =
    then_own p _ _ own (λ k x s. then_small k q _ _ owns (λ m y l t.
    reads m (first_of x) (λ a. then_path (meets_value (first_of y)) (f a)) (first_small m x (still_small k m x l s))
    ∙ reads m (first_of y) (f (first_of x ∷ [])) (first_small m y t)))

pub three_read : {B : Type 0} (p q r : Path (List Value)) (f : List Value → List Value → List Value → Path B) → IsOwn p → IsOwn q → IsOwn r →
    then_path p (λ x. then_path q (λ y. then_path r (λ z.
    then_path (meets_value (first_of x)) (λ a. then_path (meets_value (first_of y)) (λ b. then_path (meets_value (first_of z)) (f a b))))))
    ≡ then_path p (λ x. then_path q (λ y. then_path r (λ z. f (first_of x ∷ []) (first_of y ∷ []) (first_of z ∷ []))))
three_read p q r f own owns ownr =
    then_own p _ _ own (λ k x s. then_small k q _ _ owns (λ m y l t. then_small m r _ _ ownr (λ n z o u.
    reads n (first_of x) (λ a. then_path (meets_value (first_of y)) (λ b. then_path (meets_value (first_of z)) (f a b)))
    (first_small n x (still_small m n x o (still_small k m x l s)))
    ∙ (reads n (first_of y) (λ b. then_path (meets_value (first_of z)) (f (first_of x ∷ []) b)) (first_small n y (still_small m n y o t))
    ∙ reads n (first_of z) (f (first_of x ∷ []) (first_of y ∷ [])) (first_small n z u)))))

-- ---- a block for each part, and then one code over the variables
pub one_done : (t : Found) (p : Path (List Value)) (f : List Value → Path (List Value)) → t ≡ then_path p given → IsOwn p →
    then_path t (λ o. if_some o (λ x. then_path (then_path (meets_value (first_of x)) f) given)) ≡ then_path (then_path p (λ x. f (first_of x ∷ []))) given
one_done t p f e own =
    goes_on t p _ _ e (λ x. refl)
    ∙ (sym (then_then p (λ x. then_path (meets_value (first_of x)) f) given) ∙ ap (λ s. then_path s given) (one_read p f own))

-- the second stays where it is
pub two_kept : (t : Found) (p q : Path (List Value)) (r : Value → Path (List Value)) (f : List Value → List Value → Path (List Value)) →
    t ≡ then_path p given → ((v : Value) → r v ≡ then_path (meets_value v) (λ a. then_path q (f a))) → IsOwn p →
    ((x y : List Value) → f (first_of x ∷ []) (first_of y ∷ []) ≡ f x y) → ((x y : List Value) → f (first_of x ∷ []) y ≡ f x y) →
    then_path t (λ o. if_some o (λ x. then_path (r (first_of x)) given)) ≡ then_path (then_path p (λ x. then_path q (f x))) given
two_kept t p q r f e h own same half =
    goes_on t p _ _ e (λ x. refl)
    ∙ (sym (then_then p (λ x. r (first_of x)) given)
    ∙ ap (λ s. then_path s given)
    (then_alike p _ _ (λ x. h (first_of x)) ∙ (one_read p (λ a. then_path q (f a)) own ∙ then_alike p _ _ (λ x. then_alike q _ _ (λ y. half x y)))))

pub two_done : (t : Found) (u : Value → Found) (p q : Path (List Value)) (r : Value → Value → Path (List Value))
    (f : List Value → List Value → Path (List Value)) → t ≡ then_path p given → ((v : Value) → u v ≡ then_path q given) →
    ((v w : Value) → r v w ≡ then_path (meets_value v) (λ a. then_path (meets_value w) (f a))) → IsOwn p → IsOwn q →
    ((x y : List Value) → f (first_of x ∷ []) (first_of y ∷ []) ≡ f x y) →
    then_path t (λ o. if_some o (λ x. then_path (u (first_of x)) (λ i. if_some i (λ y. then_path (r (first_of x) (first_of y)) given))))
    ≡ then_path (then_path p (λ x. then_path q (f x))) given
two_done t u p q r f e h k own owns same =
    goes_on t p _ _ e (λ x. goes_on (u (first_of x)) q _ _ (h (first_of x)) (λ y. refl)
    ∙ sym (then_then q (λ y. r (first_of x) (first_of y)) given))
    ∙ (sym (then_then p (λ x. then_path q (λ y. r (first_of x) (first_of y))) given)
    ∙ ap (λ s. then_path s given)
    (then_alike p _ _ (λ x. then_alike q _ _ (λ y. k (first_of x) (first_of y)))
    ∙ (two_read p q f own owns ∙ then_alike p _ _ (λ x. then_alike q _ _ (λ y. same x y)))))

pub three_done : (t : Found) (u : Value → Found) (w : Value → Value → Found) (p q r : Path (List Value))
    (f : List Value → List Value → List Value → Path (List Value)) → t ≡ then_path p given → ((v : Value) → u v ≡ then_path q given) →
    ((v v' : Value) → w v v' ≡ then_path r given) → IsOwn p → IsOwn q → IsOwn r →
    then_path t (λ o. if_some o (λ x. then_path (u (first_of x)) (λ i. if_some i (λ y. then_path (w (first_of x) (first_of y)) (λ j. if_some j (λ z.
    then_path (then_path (meets_value (first_of x)) (λ a. then_path (meets_value (first_of y)) (λ b. then_path (meets_value (first_of z)) (f a b)))) given))))))
    ≡ then_path (then_path p (λ x. then_path q (λ y. then_path r (λ z. f (first_of x ∷ []) (first_of y ∷ []) (first_of z ∷ []))))) given
three_done t u w p q r f e h k own owns ownr =
    let back : Value → Value → Value → Path (List Value) =
    λ x y z. then_path (meets_value x) (λ a. then_path (meets_value y) (λ b. then_path (meets_value z) (f a b))) in
    goes_on t p _ _ e (λ x. goes_on (u (first_of x)) q _ _ (h (first_of x)) (λ y.
    goes_on (w (first_of x) (first_of y)) r _ _ (k (first_of x) (first_of y)) (λ z. refl)
    ∙ sym (then_then r (λ z. back (first_of x) (first_of y) (first_of z)) given))
    ∙ sym (then_then q (λ y. then_path r (λ z. back (first_of x) (first_of y) (first_of z))) given))
    ∙ (sym (then_then p (λ x. then_path q (λ y. then_path r (λ z. back (first_of x) (first_of y) (first_of z)))) given)
    ∙ ap (λ s. then_path s given) (three_read p q r f own owns ownr))

pub either_part : (t : Bool) (a b c : Block) (env : List Value) (p : Found) → exec (part a b) env ≡ p → exec (part a c) env ≡ p →
    exec (part a (cond t b c)) env ≡ p
either_part true a b c env p h k = h
either_part false a b c env p h k = k

-- ---- operations on lists: a value goes on from code to code
pub record Folds (Z : Type 0) (go : CodeTrees → List Value → Z → Path (List Value)) (step : Z → List Value → Z) (last : Z → Path (List Value)) :
    Type 0 where
  pub nil : (env : List Value) (z : Z) → go no_codes env z ≡ last z
  pub more : (c : CodeTree) (cs : CodeTrees) (env : List Value) (z : Z) → go (code_more c cs) env z ≡ then_path (path c env) (λ x. go cs env (step z x))
  pub firsts : (z : Z) (x : List Value) → step z (first_of x ∷ []) ≡ step z x

module _ (Z : Type 0) (go : CodeTrees → List Value → Z → Path (List Value)) (step : Z → List Value → Z) (last : Z → Path (List Value))
    (folds : Folds Z go step last) (z : Z) where
  -- the value after these, the last first
  abbrev pub after : List Value → Z
  after [] = z
  after (v ∷ rs) = step (after rs) (v ∷ [])

  pub read_all : (rs rest env : List Value) (i : ℕ) (ds : CodeTrees) (k : ℕ) → AreSmall k rs →
      ((t : ℕ) → value_at env (i + t) ≡ value_at (rs ++ rest) t) →
      from k (go (vars_then i (length rs) ds) env z) ≡ from k (go ds env (after rs))
  read_all [] rest env i ds k s h = refl
  read_all (v ∷ rs) rest env i ds k s h =
      let at_i : value_at env i ≡ v = ap (value_at env) (plus_zero i) ∙ h 0 in
      read_all rs rest env (suc i) (code_more (code_var i) ds) k s.1 (λ t. ap (value_at env) (plus_suc i t) ∙ h (suc t))
      ∙ (ap (from k) (folds.more (code_var i) ds env (after rs))
      ∙ (ap (λ w. from k (then_path (meets_value w) (λ x. go ds env (step (after rs) x)))) at_i
      ∙ reads k v (λ x. go ds env (step (after rs) x)) s.0))
    where
      plus_zero : (i : ℕ) → i ≡ i + 0
      plus_zero i = omega arith

      plus_suc : (i t : ℕ) → suc i + t ≡ i + suc t
      plus_suc i t = omega arith
