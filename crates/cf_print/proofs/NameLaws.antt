-- A new name is free: it is a name, none of those that are taken, and not reserved.
use Rattle.std.proofs.Common.{◌≡◌, ℕ, zero, suc, ◌+◌, ◌-◌, ◌<◌, ◌≤◌, Bool, true, false, not, ◌&&◌, ◌||◌, List, [], ◌∷◌, ◌++◌, length, take, drop, get_or, bytes_eq, Option, Some, None, codes, refl, ap, sym, subst, ◌∙◌, arith, if◌then◌else◌}
use Rattle.std.specs.List.{list_all, list_any}
use Rattle.std.proofs.lemmas.Slice.Eq.{bytes_eq-Decides}
use Rattle.cf_tree.specs.declared.base.Base.{Base}
use Rattle.cf_print.specs.Pieces.{repeated}
use Rattle.cf_print.specs.Names.{begins, holds, stands_among, is_one_of, stands_in_names, is_name, nth_name, is_kept, is_reserved, first_free, longest, longer, is_free, new_name}

or_false : (b c : Bool) → b ≡ false → c ≡ false → (b || c) ≡ false
or_false false c e f = f
or_false true c e f = cc e

-- texts of different length differ
no_more : (b : Bool) (x y : List ℕ) → bytes_eq x y ≡ b → length x < length y → b ≡ false
no_more true x y e h = let same = ap length ((bytes_eq-Decides x y).0 e) in absurd (omega (arith, h, same))
no_more false x y e h = refl

no_less : (b : Bool) (x y : List ℕ) → bytes_eq x y ≡ b → length y < length x → b ≡ false
no_less true x y e h = let same = ap length ((bytes_eq-Decides x y).0 e) in absurd (omega (arith, h, same))
no_less false x y e h = refl

none_so_long : (x : List ℕ) (ys : List (List ℕ)) → longest ys < length x → is_one_of x ys ≡ false
none_so_long x [] h = refl
none_so_long x (y ∷ ys) h =
    or_false (bytes_eq x y) (is_one_of x ys) (no_less (bytes_eq x y) x y refl (omega (arith, h))) (none_so_long x ys (omega (arith, h)))

taken_short : (n : ℕ) (t : List ℕ) → length (take n t) ≤ length t
taken_short zero t = omega arith
taken_short (suc n) [] = omega arith
taken_short (suc n) (x ∷ t) = let h = taken_short n t in omega (arith, h)

pub begins_no_longer : (part t : List ℕ) → length t < length part → begins part t ≡ false
begins_no_longer part t h =
    let short = taken_short (length part) t in no_more (bytes_eq (take (length part) t) part) (take (length part) t) part refl (omega (arith, h, short))

holds_no_longer : (part t : List ℕ) → length t < length part → holds part t ≡ false
holds_no_longer part [] h = begins_no_longer part [] h
holds_no_longer part (x ∷ t) h =
    or_false (begins part (x ∷ t)) (holds part t) (begins_no_longer part (x ∷ t) h) (holds_no_longer part t (omega (arith, h)))

grown : (n : ℕ) (t : List ℕ) → length (repeated n (codes "_") ++ t) ≡ n + length t
grown zero t = omega arith
grown (suc n) t = let h = grown n t in omega (arith, h)

underscores_long : (n : ℕ) → length (repeated n (codes "_")) ≡ n
underscores_long zero = refl
underscores_long (suc n) = ap suc (underscores_long n)

longer_is_long : (words : List ℕ) (taken : List (List ℕ)) → length (longer words taken) ≡ suc (suc (length words + longest taken))
longer_is_long words taken = ap suc (underscores_long (suc (length words + longest taken)))

not_among : (words : List ℕ) (taken : List (List ℕ)) → stands_among (longer words taken) words ≡ false
not_among words taken =
    let n = suc (length words + longest taken) in
    let long = grown n (codes " ") in
    holds_no_longer (codes " " ++ longer words taken ++ codes " ") words (omega (arith, long))

is_new : (b a c d : Bool) → b ≡ false → a ≡ true → c ≡ false → d ≡ false → (not b && (a && not (c || d))) ≡ true
is_new false true false false e h f g = refl
is_new true a c d e h f g = cc e
is_new false false c d e h f g = cc h
is_new false true true d e h f g = cc f
is_new false true false true e h f g = cc g

underscores : (n : ℕ) → list_all stands_in_names (repeated n (codes "_")) ≡ true
underscores zero = refl
underscores (suc n) = underscores n

longer_is_free : (words : List ℕ) (taken : List (List ℕ)) → is_free words taken (longer words taken) ≡ true
longer_is_free words taken =
    let long = longer_is_long words taken in
    is_new (is_one_of (longer words taken) taken) (is_name (longer words taken)) (stands_among (longer words taken) words)
    (is_kept (longer words taken)) (none_so_long (longer words taken) taken (omega (arith, long)))
    (underscores (suc (length words + longest taken))) (not_among words taken) refl

pick_free : (f : List ℕ → Bool) (x other : List ℕ) (b : Bool) → f x ≡ b → f other ≡ true → f (if b then x else other) ≡ true
pick_free f x other true e h = e
pick_free f x other false e h = h

first_is_free : (f : List ℕ → Bool) (name : ℕ → List ℕ) (n k : ℕ) (last : List ℕ) → f last ≡ true → f (first_free f name n k last) ≡ true
first_is_free f name zero k last h = h
first_is_free f name (suc n) k last h =
    pick_free f (name k) (first_free f name n (suc k) last) (f (name k)) refl (first_is_free f name n (suc k) last h)

pub new_name_is_free : (words : List ℕ) (taken : List (List ℕ)) (base : Base) (wish : Option (List ℕ)) →
    is_free words taken (new_name words taken base wish) ≡ true
new_name_is_free words taken base wish =
    first_is_free (is_free words taken) (nth_name words base wish) (length taken + 2) 0 (longer words taken) (longer_is_free words taken)

-- ---- the search for a free name
one_left : (f : List ℕ → Bool) (name : ℕ → List ℕ) (n i : ℕ) (last x : List ℕ) → i < n → first_free f name (n - i) i last ≡ x →
    (if f (name i) then name i else first_free f name (n - (i + 1)) (i + 1) last) ≡ x
one_left f name n i last x below e =
    let count : n - i ≡ suc (n - (i + 1)) = omega (arith, below) in
    let one : suc i ≡ i + 1 = omega arith in
    subst (λ j. (if f (name i) then name i else first_free f name (n - (i + 1)) j last) ≡ x) one
    (subst (λ m. first_free f name m i last ≡ x) count e)

pub next_free : (f : List ℕ → Bool) (name : ℕ → List ℕ) (n i : ℕ) (last x : List ℕ) → i < n → f (name i) ≡ false →
    first_free f name (n - i) i last ≡ x → first_free f name (n - (i + 1)) (i + 1) last ≡ x
next_free f name n i last x below fails e =
    subst (λ b. (if b then name i else first_free f name (n - (i + 1)) (i + 1) last) ≡ x) fails (one_left f name n i last x below e)

found_free : (f : List ℕ → Bool) (name : ℕ → List ℕ) (n i : ℕ) (last x : List ℕ) → i < n → f (name i) ≡ true →
    first_free f name (n - i) i last ≡ x → name i ≡ x
found_free f name n i last x below holds_there e =
    subst (λ b. (if b then name i else first_free f name (n - (i + 1)) (i + 1) last) ≡ x) holds_there (one_left f name n i last x below e)

-- a name that was found there
pub found_name : (f : List ℕ → Bool) (name : ℕ → List ℕ) (n i : ℕ) (last x found : List ℕ) → i < n → found ≡ name i → f found ≡ true →
    first_free f name (n - i) i last ≡ x → found ≡ x
found_name f name n i last x found below is holds_there e =
    is ∙ found_free f name n i last x below (subst (λ w. f w ≡ true) is holds_there) e

pub none_free : (f : List ℕ → Bool) (name : ℕ → List ℕ) (n i : ℕ) (last x : List ℕ) → n ≤ i →
    first_free f name (n - i) i last ≡ x → last ≡ x
none_free f name n i last x past e =
    let none : n - i ≡ 0 = omega (arith, past) in
    subst (λ m. first_free f name m i last ≡ x) none e
