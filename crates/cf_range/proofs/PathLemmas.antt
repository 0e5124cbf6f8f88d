-- Paths whose values lie in a range, that fit, and that give values.
use Rattle.std.proofs.Common.{◌≡◌, ℕ, ◌≤◌, ℤ, Bool, true, false, cond, List, [], ◌∷◌, refl, subst, arith}
use Rattle.cf_num.specs.Limit.{limit, IsWithin}
use Rattle.cf_tree.specs.Meaning.{Got, got, none_at, Path, then_gives, then_peak, then_path, meets, meets_value, number_in}
use Rattle.cf_tree.specs.Values.{Value, number, truth, elements, number_of}
use Rattle.cf_range.specs.Ranges.{LiesIn, whole, either}
use Rattle.cf_range.specs.declared.range.Range.{Range}
use Rattle.cf_range.proofs.NumberLemmas.{lies_whole, either_lies}
use Rattle.cf_shift.proofs.MeetingLaws.{IsOwn, first_small}

stop_not : {A : Type 0} (k : ℕ) (x : A) → none_at k ≡ got x → ⊥
stop_not k x e = cc

same_got : {A : Type 0} (x y : A) → got x ≡ got y → x ≡ y
same_got x y e = cc

-- where the path fits, what it gives lies in the range
abbrev pub IsIn : Range → Path (List Value) → Type 0
IsIn r p = p.peak ≤ limit → (vs : List Value) → p.gives ≡ got vs → LiesIn r (number_in vs)

pub then_in : (r : Range) (p : Path (List Value)) (go : List Value → Path (List Value)) →
    ((x : List Value) → p.peak ≤ limit → p.gives ≡ got x → IsIn r (go x)) → IsIn r (then_path p go)
then_in r p go h l vs e = by p.gives p.peak (λ x m k. h x m k) l e
  where
    by : (g : Got (List Value)) (m : ℕ) → ((x : List Value) → m ≤ limit → g ≡ got x → IsIn r (go x)) →
        then_peak m g (λ x. (go x).peak) ≤ limit → then_gives g (λ x. (go x).gives) ≡ got vs → LiesIn r (number_in vs)
    by (got x) m f l e = f x (omega arith) refl (omega arith) vs e
    by (none_at k) m f l e = absurd (stop_not k vs e)

pub only_in : (r : Range) (vs : List Value) (n : ℕ) → LiesIn r (number_in vs) → IsIn r (record { gives = got vs; peak = n })
only_in r vs n h l ws e = subst (λ xs. LiesIn r (number_in xs)) (same_got vs ws e) h

pub meets_in : (r : Range) (z : ℤ) → (IsWithin z → LiesIn r z) → IsIn r (meets z)
meets_in r z h l vs e = subst (λ xs. LiesIn r (number_in xs)) (same_got (number z ∷ []) vs e) (h l)

pub value_in : (r : Range) (v : Value) → LiesIn r (number_of v) → IsIn r (meets_value v)
value_in r (number z) h = meets_in r z (λ w. h)
value_in r (truth b) h = only_in r (truth b ∷ []) 0 h
value_in r (elements zs) h = only_in r (elements zs ∷ []) 0 h

pub either_in : (r s : Range) (b : Bool) (p q : Path (List Value)) → IsIn r p → IsIn s q → IsIn (either r s) (cond b p q)
either_in r s true p q h k l vs e = either_lies r s (number_in vs) true (h l vs e)
either_in r s false p q h k l vs e = either_lies r s (number_in vs) false (k l vs e)

pub whole_in : (p : Path (List Value)) → IsOwn p → IsIn whole p
whole_in p h l vs e = lies_whole (number_in vs) (first_small limit vs (h limit l vs e))

-- ---- paths that fit
pub then_fits : (p : Path (List Value)) (peak : List Value → ℕ) → p.peak ≤ limit → ((x : List Value) → p.gives ≡ got x → peak x ≤ limit) →
    then_peak p.peak p.gives peak ≤ limit
then_fits p peak l h = by p.gives (λ x e. h x e)
  where
    by : (g : Got (List Value)) → ((x : List Value) → g ≡ got x → peak x ≤ limit) → then_peak p.peak g peak ≤ limit
    by (got x) f = let k = f x refl in omega (arith, l, k)
    by (none_at n) f = l

-- ---- paths that fit and give values
pub record Does (p : Path (List Value)) : Type 0 where
  pub values : List Value
  pub gives : p.gives ≡ got values
  pub fits : p.peak ≤ limit

pub only_does : (vs : List Value) (n : ℕ) → n ≤ limit → Does (record { gives = got vs; peak = n })
only_does vs n l = record { values = vs; gives = refl; fits = l }

pub then_does : (p : Path (List Value)) (go : List Value → Path (List Value)) → Does p →
    ((x : List Value) → p.peak ≤ limit → p.gives ≡ got x → Does (go x)) → Does (then_path p go)
then_does p go d h =
    let k = h d.values d.fits d.gives in
    let l = d.fits in
    let m = k.fits in
    record {
      values = k.values;
      gives = rw d.gives k.gives;
      fits = rw d.gives (omega (arith, l, m));
    }

pub either_does : (b : Bool) (p q : Path (List Value)) → Does p → Does q → Does (cond b p q)
either_does true p q h k = h
either_does false p q h k = k
