-- The searches of a whole elimination have bounds of at least 1, and few tuples.
use Rattle.std.proofs.Common.{◌≡◌, ℕ, zero, suc, ◌*◌, ◌-◌, ◌<◌, ◌≤◌, ◌^◌, List, [], ◌∷◌, ◌++◌, ◌⊎◌, inl, inr, All, map, min, subst, arith, Bool, true, false, ◌&&◌, refl}
use Rattle.std.specs.Prelude.{unsigned_abs, nat_lt}
use Rattle.std.specs.List.{fold}
use Rattle.std.proofs.Math.Nat.{mul-pos, mul-suc}
use Rattle.std.proofs.lemmas.Bool.{cond_both, ltb-true}
use Rattle.std.proofs.lemmas.List.{append-nil}
use Rattle.std.proofs.lemmas.List.Elements.{All-nil, All-cons, All-head, All-tail}
use Rattle.cf_tree.specs.Meaning.{count_below}
use Rattle.cf_tree.specs.Typing.{AreBounds}
use Rattle.cf_linear.specs.Rows.{Row, entry}
use Rattle.cf_linear.specs.Systems.{System, Answer}
use Rattle.cf_linear.specs.Stages.{times_bound}
use Rattle.cf_linear.specs.Steps.{searches, Found, found_row, found_all, no_found, searched, searched_by, Pick, dropped, bound}
use Rattle.cf_linear.proofs.BoolLemmas.{on_bool}

abbrev pub IsSome : ℕ → Type 0
IsSome b = 1 ≤ b

abbrev pub bounds_of : List (ℕ × ℕ) → List ℕ
bounds_of bs = map (λ (c, p). p) bs

-- ---- products
least_of : (a b : ℕ) → (min a b ≡ a) ⊎ ((min a b ≡ b) × (b ≤ a))
least_of a b = elim (le_or a b) as (λ _. (min a b ≡ a) ⊎ ((min a b ≡ b) × (b ≤ a))) [ inl h ↦ inl (omega arith) | inr h ↦ inr (omega arith, h) ]
  where
    le_or : (a b : ℕ) → (a ≤ b) ⊎ (b ≤ a)
    le_or zero b = inl (omega arith)
    le_or (suc a) zero = inr (omega arith)
    le_or (suc a) (suc b) = elim (le_or a b) as (λ _. (suc a ≤ suc b) ⊎ (suc b ≤ suc a)) [ inl h ↦ inl (omega arith) | inr h ↦ inr (omega arith) ]

times_some : (m n : ℕ) → 1 ≤ n → m ≤ m * n
times_some m zero h = absurd (omega arith)
times_some m (suc n) h = let s = mul-suc m n in omega arith

mul_assoc : (a b c : ℕ) → a * b * c ≡ a * (b * c)
mul_assoc a b c = grind arith

pub count_some : (bs : List ℕ) → All IsSome bs → 1 ≤ count_below bs
count_some [] h = omega arith
count_some (b ∷ bs) h = mul-pos (All-head IsSome b bs h) (count_some bs (All-tail IsSome b bs h))

-- a product of bounds that stops at 2^64 - 1 and is small did not stop
pub product_few : (limit : ℕ) → limit < 2 ^ 64 - 1 → (bs : List (ℕ × ℕ)) (n : ℕ) → 1 ≤ n → All IsSome (bounds_of bs) → fold times_bound n bs ≤ limit →
    n * count_below (bounds_of bs) ≤ limit
product_few limit small [] n some h l = omega arith
product_few limit small ((k, p) ∷ bs) n some h l =
    let q = All-head IsSome p (bounds_of bs) h in
    let rest = All-tail IsSome p (bounds_of bs) h in
    let c = count_some (bounds_of bs) rest in
    elim (least_of (n * p) (2 ^ 64 - 1)) as (λ _. n * (p * count_below (bounds_of bs)) ≤ limit) [
      | inl e ↦
          let again = product_few limit small bs (n * p) (mul-pos some q) rest (subst (λ m. fold times_bound m bs ≤ limit) e l) in
          rw (← mul_assoc n p (count_below (bounds_of bs))) again
      | inr e ↦
          let again = product_few limit small bs (2 ^ 64 - 1) (omega arith) rest (subst (λ m. fold times_bound m bs ≤ limit) e.0 l) in
          let t = times_some (2 ^ 64 - 1) (count_below (bounds_of bs)) c in
          absurd (omega arith)
    ]

pub are_bounds : (bs : List (ℕ × ℕ)) → All IsSome (bounds_of bs) → fold times_bound 1 bs ≤ 1048576 → AreBounds (bounds_of bs)
are_bounds bs h l = let p = product_few 1048576 (omega arith) bs 1 (omega arith) h l in (h, omega arith)

pub some_then : (as_ bs : List (ℕ × ℕ)) → All IsSome (bounds_of as_) → All IsSome (bounds_of bs) → All IsSome (bounds_of (as_ ++ bs))
some_then [] bs h k = k
some_then ((c, p) ∷ as_) bs h k = All-cons IsSome p (bounds_of (as_ ++ bs)) (All-head IsSome p (bounds_of as_) h)
    (some_then as_ bs (All-tail IsSome p (bounds_of as_) h) k)

-- ---- the bounds of a search
and_left : (b c : Bool) → b && c ≡ true → b ≡ true
and_left true c h = refl
and_left false c h = cc

searches_some : (x : ℕ) (lower : Bool) (r : Row) → searches x lower r ≡ true → 1 ≤ unsigned_abs (entry r x)
searches_some x lower r e = let h = ltb-true 1 (unsigned_abs (entry r x)) (and_left (nat_lt 1 (unsigned_abs (entry r x))) _ e) in omega arith

found_some : (x : ℕ) (lower : Bool) (rows : List Row) (s : Found) → All IsSome (bounds_of s.bounds) → All IsSome (bounds_of (found_all x lower s rows).bounds)
found_some x lower [] s h = h
found_some x lower (r ∷ rows) s h = found_some x lower rows (found_row x lower s r) (on_bool (searches x lower r)
    (λ e. rw e (some_then s.bounds ((s.next, unsigned_abs (entry r x)) ∷ []) h
    (All-cons IsSome (unsigned_abs (entry r x)) [] (searches_some x lower r e) (All-nil IsSome))))
    (λ e. rw e h))

pub searched_some : (m : System) (x : ℕ) (lower : Bool) → All IsSome (bounds_of (searched m x lower).bounds)
unfolding searched
searched_some m x lower = found_some x lower m.inequalities (no_found m) (All-nil IsSome)

pub search_some : (m : System) (c : Pick) → All IsSome (bounds_of (searched_by m c).bounds)
unfolding searched_by
search_some m c =
    cond_both (nat_lt 1 c.product) (searched m c.unknown c.lower) (record { system = m; steps = []; back = []; bounds = [] })
    (λ (a : Answer). All IsSome (bounds_of a.bounds)) (λ _. searched_some m c.unknown c.lower) (λ _. All-nil IsSome)

-- a Bound step has the bounds of its search
pub bound_bounds : (m : System) (c : Pick) → (bound m c).bounds ≡ (searched_by m c).bounds
unfolding bound dropped
bound_bounds m c = append-nil (searched_by m c).bounds
