-- The levels of a choose, and values of their bases.
use Rattle.std.proofs.Common.{◌≡◌, ℕ, zero, suc, ◌+◌, ◌-◌, ◌<◌, ◌≤◌, ◌==◌, Bool, true, false, List, [], ◌∷◌, ◌++◌, length, map, filter, subst, refl, ap, sym}
use Rattle.std.proofs.Common.{◌∙◌, arith}
use Rattle.std.specs.List.{range_with_len}
use Rattle.std.proofs.lemmas.Bool.{cond_both, eq-eqb, ne_eqb, eqb-true}
use Rattle.cf_tree.specs.declared.base.Base.{Base}
use Rattle.cf_tree.specs.declared.base.Base.TheVariants.{Int, Bool as Truth, Set}
use Rattle.cf_tree.specs.Occurs.{rel_holds}
use Rattle.cf_tree.specs.RelTree.{RelTree}
use Rattle.cf_tree.specs.Sets.{IsRising}
use Rattle.cf_tree.specs.Values.{Value, elements_of, value_at, HasBase, HaveBases}
use Rattle.cf_tree.proofs.SetLemmas.{on_bool}
use Rattle.cf_linear.specs.Layout.{Layout, is_number, is_set, levels_with, layout_of, place, has_level}
use Rattle.cf_venn.specs.Laws.{AreOutputs}
use Rattle.cf_venn.proofs.AgreeLaws.{place_later}

-- ---- values
pub length_have : (bs : List Base) (vs : List Value) → HaveBases bs vs → length vs ≡ length bs
length_have [] [] h = refl
length_have [] (v ∷ vs) h = absurd h
length_have (b ∷ bs) [] h = absurd h
length_have (b ∷ bs) (v ∷ vs) h = ap suc (length_have bs vs h.1)

pub have_append : (bs cs : List Base) (vs ws : List Value) → HaveBases bs vs → HaveBases cs ws → HaveBases (bs ++ cs) (vs ++ ws)
have_append [] cs [] ws h k = k
have_append [] cs (v ∷ vs) ws h k = absurd h
have_append (b ∷ bs) cs [] ws h k = absurd h
have_append (b ∷ bs) cs (v ∷ vs) ws h k = (h.0, have_append bs cs vs ws h.1 k)

rising_value : (b : Base) (v : Value) → HasBase b v → IsRising (elements_of v)
rising_value Int v h = subst (λ w. IsRising (elements_of w)) (sym h.1) tt
rising_value Truth v h = subst (λ w. IsRising (elements_of w)) (sym h.1) tt
rising_value Set v h = subst (λ w. IsRising (elements_of w)) (sym h.1) h.2

-- a set of an environment rises
pub rising_at : (bs : List Base) (vs : List Value) → HaveBases bs vs → (x : ℕ) → IsRising (elements_of (value_at vs x))
rising_at [] [] h x = tt
rising_at [] (v ∷ vs) h x = absurd h
rising_at (b ∷ bs) [] h x = absurd h
rising_at (b ∷ bs) (v ∷ vs) h zero = rising_value b v h.0
rising_at (b ∷ bs) (v ∷ vs) h (suc x) = rising_at bs vs h.1 x

-- ---- lists of levels
pub same_level : (x : ℕ) → (x == x) ≡ true
same_level x = eq-eqb x x refl

has_later : (x y : ℕ) (ys : List ℕ) → has_level ys x ≡ true → has_level (y ∷ ys) x ≡ true
has_later x y ys h = on_bool (y == x) (λ e. rw e refl) (λ e. rw (e, h) refl)

-- two functions that are the same at each level of a list
pub same_each : {A : Type 0} (f g : ℕ → A) (xs : List ℕ) → ((x : ℕ) → has_level xs x ≡ true → f x ≡ g x) → map f xs ≡ map g xs
same_each f g [] h = refl
same_each f g (y ∷ ys) h = rw (h y (rw (same_level y) refl), same_each f g ys (λ x e. h x (has_later x y ys e))) refl

pub has_unfiltered : (q : ℕ → Bool) (xs : List ℕ) (x : ℕ) → has_level (filter q xs) x ≡ true → has_level xs x ≡ true
has_unfiltered q [] x h = h
has_unfiltered q (y ∷ ys) x h =
    cond_both (q y) (y ∷ filter q ys) (filter q ys) (λ zs. has_level zs x ≡ true → has_level (y ∷ ys) x ≡ true)
    (λ _ k. on_bool (y == x) (λ e. rw e refl) (λ e. rw e (has_unfiltered q ys x (rw e at k))))
    (λ _ k. has_later x y ys (has_unfiltered q ys x k)) h

-- the levels rise, from lo on
abbrev pub Up : ℕ → List ℕ → Type 0
Up lo [] = Unit {0}
Up lo (x ∷ xs) = (lo ≤ x) × Up (suc x) xs

up_lower : (lo hi : ℕ) (xs : List ℕ) → lo ≤ hi → Up hi xs → Up lo xs
up_lower lo hi [] h u = tt
up_lower lo hi (x ∷ xs) h u = (let l = u.0 in omega arith, u.1)

pub up_has : (lo : ℕ) (xs : List ℕ) (x : ℕ) → Up lo xs → has_level xs x ≡ true → lo ≤ x
up_has lo [] x u h = absurd (cc)
up_has lo (y ∷ ys) x u h = on_bool (y == x)
    (λ e. let s = eqb-true y x e in let l = u.0 in omega arith)
    (λ e. let i = up_has (suc y) ys x u.1 (rw e at h) in let l = u.0 in omega arith)

range_later : {A : Type 0} (f : ℕ → A) (a n : ℕ) → map (λ k. f (suc k)) (range_with_len a n) ≡ map f (range_with_len (a + 1) n)
range_later f a zero = refl
range_later f a (suc n) = let s : suc a ≡ a + 1 = omega arith in rw (s, range_later f (a + 1) n) refl

-- the levels of a list by their places
pub by_places : {A : Type 0} (f : ℕ → A) (lo : ℕ) (xs : List ℕ) → Up lo xs → map (λ x. f (place x xs)) xs ≡ map f (range_with_len 0 (length xs))
by_places f lo [] u = refl
by_places f lo (x ∷ xs) u =
    let first : place x (x ∷ xs) ≡ 0 = rw (same_level x) refl in
    let later : map (λ y. f (place y (x ∷ xs))) xs ≡ map f (range_with_len (0 + 1) (length xs)) =
    same_each (λ y. f (place y (x ∷ xs))) (λ y. f (suc (place y xs))) xs
    (λ y e. let l = up_has (suc x) xs y u.1 e in ap f (place_later y x xs (ne_eqb x y (λ s. omega arith))))
    ∙ by_places (λ k. f (suc k)) (suc x) xs u.1
    ∙ range_later f 0 (length xs) in
    ap (λ i. f i ∷ map (λ y. f (place y (x ∷ xs))) xs) first ∙ ap (λ ys. f 0 ∷ ys) later

pub up_levels : (p : Base → Bool) (n : ℕ) (bs : List Base) → Up n (levels_with p n bs)
up_levels p n [] = tt
up_levels p n (b ∷ bs) =
    let s : n + 1 ≡ suc n = omega arith in
    cond_both (p b) (n ∷ levels_with p (n + 1) bs) (levels_with p (n + 1) bs) (λ xs. Up n xs)
    (λ _. (omega arith, subst (λ m. Up m (levels_with p (n + 1) bs)) s (up_levels p (n + 1) bs)))
    (λ _. up_lower n (n + 1) (levels_with p (n + 1) bs) (omega arith) (up_levels p (n + 1) bs))

pub up_filter : (q : ℕ → Bool) (lo : ℕ) (xs : List ℕ) → Up lo xs → Up lo (filter q xs)
up_filter q lo [] u = tt
up_filter q lo (x ∷ xs) u =
    cond_both (q x) (x ∷ filter q xs) (filter q xs) (λ ys. Up lo ys) (λ _. (u.0, up_filter q (suc x) xs u.1))
    (λ _. up_filter q lo xs (up_lower lo (suc x) xs (let l = u.0 in omega arith) u.1))

-- ---- the levels of the bases that pass
-- whether the base at the place passes
abbrev pub base_at : (Base → Bool) → List Base → ℕ → Bool
base_at p [] i = false
base_at p (b ∷ bs) zero = p b
base_at p (b ∷ bs) (suc i) = base_at p bs i

base_within : (p : Base → Bool) (bs : List Base) (i : ℕ) → base_at p bs i ≡ true → i < length bs
base_within p [] i h = absurd (cc)
base_within p (b ∷ bs) zero h = omega arith
base_within p (b ∷ bs) (suc i) h = let k = base_within p bs i h in omega arith

set_only : (b : Base) → is_set b ≡ true → is_number b ≡ false
set_only Int h = cc
set_only Truth h = refl
set_only Set h = refl

set_at_only : (bs : List Base) (i : ℕ) → base_at is_set bs i ≡ true → base_at is_number bs i ≡ false
set_at_only [] i h = refl
set_at_only (b ∷ bs) zero h = set_only b h
set_at_only (b ∷ bs) (suc i) h = set_at_only bs i h

level_early : (p : Base → Bool) (n : ℕ) (bs : List Base) (x : ℕ) → x < n → has_level (levels_with p n bs) x ≡ false
level_early p n bs x l = on_bool (has_level (levels_with p n bs) x) (λ e. let k = up_has n (levels_with p n bs) x (up_levels p n bs) e in
    absurd (omega arith)) (λ e. e)

pub level_has : (p : Base → Bool) (n : ℕ) (bs : List Base) (i : ℕ) → has_level (levels_with p n bs) (n + i) ≡ base_at p bs i
level_has p n [] i = refl
level_has p n (b ∷ bs) zero =
    let z : n + 0 ≡ n = omega arith in
    rw z (cond_both (p b) (n ∷ levels_with p (n + 1) bs) (levels_with p (n + 1) bs) (λ xs. has_level xs n ≡ p b)
    (λ e. rw (same_level n) (sym e))
    (λ e. level_early p (n + 1) bs n (omega arith) ∙ sym e))
level_has p n (b ∷ bs) (suc i) =
    let s : n + suc i ≡ n + 1 + i = omega arith in
    let later = level_has p (n + 1) bs i in
    rw s (cond_both (p b) (n ∷ levels_with p (n + 1) bs) (levels_with p (n + 1) bs) (λ xs. has_level xs (n + 1 + i) ≡ base_at p bs i)
    (λ _. rw (ne_eqb n (n + 1 + i) (λ e. omega arith)) later)
    (λ _. later))

pub level_at : (p : Base → Bool) (n : ℕ) (bs : List Base) (x : ℕ) → has_level (levels_with p n bs) x ≡ true → (n ≤ x) × (base_at p bs (x - n) ≡ true)
level_at p n bs x h =
    let l = up_has n (levels_with p n bs) x (up_levels p n bs) h in
    let s : n + (x - n) ≡ x = omega arith in
    (l, sym (level_has p n bs (x - n)) ∙ ap (has_level (levels_with p n bs)) s ∙ h)

all_levels : (n : ℕ) (bs : List Base) → AreOutputs bs → length (levels_with is_number n bs) + length (levels_with is_set n bs) ≡ length bs
all_levels n [] h = refl
all_levels n (Int ∷ bs) h = let k = all_levels (n + 1) bs h in omega arith
all_levels n (Truth ∷ bs) h = absurd h
all_levels n (Set ∷ bs) h = let k = all_levels (n + 1) bs h in omega arith

-- numbers and sets at the levels of the outputs
have_listed : (f : ℕ → Value) (n : ℕ) (bs : List Base) → AreOutputs bs → ((i : ℕ) → base_at is_number bs i ≡ true → HasBase Int (f (n + i))) →
    ((i : ℕ) → base_at is_set bs i ≡ true → HasBase Set (f (n + i))) → HaveBases bs (map f (range_with_len n (length bs)))
have_listed f n [] o h k = tt
have_listed f n (Int ∷ bs) o h k =
    let z : n + 0 ≡ n = omega arith in (
      subst (λ i. HasBase Int (f i)) z (h 0 refl),
      have_listed f (n + 1) bs o (λ i e. let s : n + suc i ≡ n + 1 + i = omega arith in subst (λ j. HasBase Int (f j)) s (h (suc i) e))
          (λ i e. let s : n + suc i ≡ n + 1 + i = omega arith in subst (λ j. HasBase Set (f j)) s (k (suc i) e)),
    )
have_listed f n (Truth ∷ bs) o h k = absurd o
have_listed f n (Set ∷ bs) o h k =
    let z : n + 0 ≡ n = omega arith in (
      subst (λ i. HasBase Set (f i)) z (k 0 refl),
      have_listed f (n + 1) bs o (λ i e. let s : n + suc i ≡ n + 1 + i = omega arith in subst (λ j. HasBase Int (f j)) s (h (suc i) e))
          (λ i e. let s : n + suc i ≡ n + 1 + i = omega arith in subst (λ j. HasBase Set (f j)) s (k (suc i) e)),
    )

-- ---- layouts
-- parameters stand in the scope, in order, numbers and sets by their bases there, and outputs after it, the sets among them in order
pub record IsLayout (scope outputs : List Base) (l : Layout) : Type 0 where
  pub scope_is : l.scope ≡ length scope
  pub numbers : (x : ℕ) → has_level l.numbers x ≡ true → x < length scope
  pub inputs : (x : ℕ) → has_level l.inputs x ≡ true → x < length scope
  pub number_is : (x : ℕ) → has_level l.numbers x ≡ true → base_at is_number scope x ≡ true
  pub input_is : (x : ℕ) → has_level l.inputs x ≡ true → base_at is_set scope x ≡ true
  pub numbers_up : Up 0 l.numbers
  pub inputs_up : Up 0 l.inputs
  pub out_numbers : (x : ℕ) → has_level l.out_numbers x ≡ true → (length scope ≤ x) × (x < length scope + length outputs)
  pub out_sets : (x : ℕ) → has_level l.out_sets x ≡ true → (length scope ≤ x) × (x < length scope + length outputs) × (has_level l.out_numbers x ≡ false)
  pub up : Up (length scope) l.out_sets

pub is_layout : (scope outputs : List Base) (rel : RelTree) → IsLayout scope outputs (layout_of scope outputs rel)
is_layout scope outputs rel =
    let n = length scope in
    let passes : (p : Base → Bool) (x : ℕ) → has_level (filter (λ y. rel_holds y rel) (levels_with p 0 scope)) x ≡ true → base_at p scope x ≡ true =
    λ p x h. (let k = level_at p 0 scope x (has_unfiltered (λ y. rel_holds y rel) (levels_with p 0 scope) x h) in let z : x - 0 ≡ x = omega arith in
    rw z at k.1) in
    let rise : (p : Base → Bool) → Up 0 (filter (λ y. rel_holds y rel) (levels_with p 0 scope)) =
    λ p. up_filter (λ y. rel_holds y rel) 0 (levels_with p 0 scope) (up_levels p 0 scope) in
    record {
      scope_is = refl;
      numbers = λ x h. base_within is_number scope x (passes is_number x h);
      inputs = λ x h. base_within is_set scope x (passes is_set x h);
      number_is = passes is_number;
      input_is = passes is_set;
      numbers_up = rise is_number;
      inputs_up = rise is_set;
      out_numbers = λ x h. let k = level_at is_number n outputs x h in let w = base_within is_number outputs (x - n) k.1 in let l = k.0 in (l, omega arith);
      out_sets = λ x h.
          let k = level_at is_set n outputs x h in
          let w = base_within is_set outputs (x - n) k.1 in
          let l = k.0 in
          let s : n + (x - n) ≡ x = omega arith in
          (l, omega arith, ap (has_level (levels_with is_number n outputs)) (sym s) ∙ level_has is_number n outputs (x - n) ∙ set_at_only outputs (x - n) k.1);
      up = up_levels is_set n outputs;
    }

-- values of the bases of the outputs, by tests of their levels
pub have_outputs : (f : ℕ → Value) (scope outputs : List Base) (rel : RelTree) → AreOutputs outputs →
    ((x : ℕ) → has_level (layout_of scope outputs rel).out_numbers x ≡ true → HasBase Int (f x)) →
    ((x : ℕ) → has_level (layout_of scope outputs rel).out_sets x ≡ true → HasBase Set (f x)) →
    HaveBases outputs (map f (range_with_len (length scope) (length (layout_of scope outputs rel).out_numbers + length (layout_of scope outputs rel).out_sets)))
have_outputs f scope outputs rel o h k =
    let n = length scope in
    subst (λ m. HaveBases outputs (map f (range_with_len n m))) (sym (all_levels n outputs o))
    (have_listed f n outputs o (λ i e. h (n + i) (level_has is_number n outputs i ∙ e)) (λ i e. k (n + i) (level_has is_set n outputs i ∙ e)))

pub outputs_count : (scope outputs : List Base) (rel : RelTree) → AreOutputs outputs →
    length (layout_of scope outputs rel).out_numbers + length (layout_of scope outputs rel).out_sets ≡ length outputs
outputs_count scope outputs rel o = all_levels (length scope) outputs o
