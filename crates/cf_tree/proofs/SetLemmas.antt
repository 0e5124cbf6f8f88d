-- Sets by their members: what `has` says of each operation.
use Rattle.std.proofs.Common.{◌≡◌, ◌≢◌, ℤ, ◌<ℤ◌, ◌≤ℤ◌, int_lt, Bool, true, false, ◌&&◌, ◌||◌, List, [], ◌∷◌, ◌++◌, ◌↔◌, length, get_or, All, filter, not, ℕ, zero, suc, ◌<◌, subst, refl, ap, sym, ◌∙◌, arith}
use Rattle.std.proofs.lemmas.Int.{ints}
use Rattle.std.specs.Ordering.{int_eq}
use Rattle.std.proofs.lemmas.Bool.{cond_both, false_from_ne_true}
use Rattle.std.proofs.lemmas.Bool.Decides.{Decides-int_eq}
use Rattle.std.proofs.lemmas.Bool.{and_parts}
use Rattle.std.proofs.lemmas.List.Elements.{All-nil, All-cons, All-head, All-tail}
use Rattle.cf_num.specs.Limit.{IsWithin}
use Rattle.cf_tree.specs.Values.{same_list}
use Rattle.cf_tree.specs.Sets.{AreWithin, has, set_put, set_union, set_of, set_inter, set_diff, is_subset}

pub on_bool : {P : Type 0} (b : Bool) → (b ≡ true → P) → (b ≡ false → P) → P
on_bool true f g = f refl
on_bool false f g = g refl

pub eq_same : (x y : ℤ) → x ≡ y → int_eq x y ≡ true
eq_same x y e = (Decides-int_eq x y).1 e

pub eq_other : (x y : ℤ) → x ≢ y → int_eq x y ≡ false
eq_other x y n = false_from_ne_true (int_eq x y) (λ e. n ((Decides-int_eq x y).0 e))

pub eq_is : (x y : ℤ) → int_eq x y ≡ true → x ≡ y
eq_is x y e = (Decides-int_eq x y).0 e

pub eq_differs : (x y : ℤ) → int_eq x y ≡ false → x ≢ y
eq_differs x y e d = let f = eq_same x y d in cc

pub lt_is : (x y : ℤ) → int_lt x y ≡ true → x <ℤ y
lt_is x y e = grind (arith, ints)

pub lt_not : (x y : ℤ) → int_lt x y ≡ false → y ≤ℤ x
lt_not x y e = grind (arith, ints)

-- laws of `or`
pub or_swap : (a b c : Bool) → (a || (b || c)) ≡ (b || (a || c))
or_swap true true c = refl
or_swap true false c = refl
or_swap false true c = refl
or_swap false false c = refl

pub or_twice : (a b : Bool) → (a || b) ≡ (a || (a || b))
or_twice true b = refl
or_twice false b = refl

pub or_assoc : (a b c : Bool) → ((a || b) || c) ≡ (a || (b || c))
or_assoc true b c = refl
or_assoc false b c = refl

pub or_none : (b : Bool) → (b || false) ≡ b
or_none true = refl
or_none false = refl

-- membership in a list with one more element
pub has-put : (x : ℤ) (ys : List ℤ) (z : ℤ) → has (set_put x ys) z ≡ (int_eq x z || has ys z)
has-put x [] z = refl
has-put x (y ∷ ys) z =
    let Says : List ℤ → Type 0 = λ l. has l z ≡ (int_eq x z || (int_eq y z || has ys z)) in
    cond_both (int_lt x y) _ _ Says (λ e. refl) (λ e. cond_both (int_lt y x) _ _ Says
    (λ f. rw (has-put x ys z) (or_swap (int_eq y z) (int_eq x z) (has ys z)))
    (λ f. let g = lt_not x y e in let h = lt_not y x f in let i : x ≡ y = omega (arith, ints) in rw i (or_twice (int_eq y z) (has ys z))))

pub has-union : (xs ys : List ℤ) (z : ℤ) → has (set_union xs ys) z ≡ (has xs z || has ys z)
has-union [] ys z = refl
has-union (x ∷ xs) ys z = has-put x (set_union xs ys) z ∙ rw (has-union xs ys z) (sym (or_assoc (int_eq x z) (has xs z) (has ys z)))

filter_yes : (b a c : Bool) → (b ≡ true → c ≡ true) → (b || (a && c)) ≡ ((b || a) && c)
filter_yes true a c h = sym (h refl)
filter_yes false a c h = refl

filter_no : (b a c : Bool) → (b ≡ true → c ≡ false) → (a && c) ≡ ((b || a) && c)
filter_no true true c h = refl
filter_no true false c h = sym (h refl)
filter_no false a c h = refl

-- membership in what a test keeps
pub has-filter : (p : ℤ → Bool) (xs : List ℤ) (z : ℤ) → has (filter p xs) z ≡ (has xs z && p z)
has-filter p [] z = refl
has-filter p (x ∷ xs) z =
    cond_both (p x) _ _ (λ l. has l z ≡ ((int_eq x z || has xs z) && p z))
    (λ e. rw (has-filter p xs z) (filter_yes (int_eq x z) (has xs z) (p z) (λ f. ap p (sym (eq_is x z f)) ∙ e)))
    (λ e. rw (has-filter p xs z) (filter_no (int_eq x z) (has xs z) (p z) (λ f. ap p (sym (eq_is x z f)) ∙ e)))

pub has-inter : (xs ys : List ℤ) (z : ℤ) → has (set_inter xs ys) z ≡ (has xs z && has ys z)
has-inter xs ys z = has-filter (has ys) xs z

pub has-diff : (xs ys : List ℤ) (z : ℤ) → has (set_diff xs ys) z ≡ (has xs z && not (has ys z))
has-diff xs ys z = has-filter (λ x. not (has ys x)) xs z

pub has-set_of : (xs : List ℤ) (z : ℤ) → has (set_of xs) z ≡ has xs z
has-set_of xs z = has-union xs [] z ∙ or_none (has xs z)

-- membership after an element that is not z
pub has-other : (x : ℤ) (xs : List ℤ) (z : ℤ) → int_eq x z ≡ false → has (x ∷ xs) z ≡ has xs z
has-other x xs z e = rw e refl

pub has-same : (x : ℤ) (xs : List ℤ) (z : ℤ) → int_eq x z ≡ true → has (x ∷ xs) z ≡ true
has-same x xs z e = rw e refl

pub has-append : (xs ys : List ℤ) (z : ℤ) → has (xs ++ ys) z ≡ (has xs z || has ys z)
has-append [] ys z = refl
has-append (x ∷ xs) ys z = rw (has-append xs ys z) (sym (or_assoc (int_eq x z) (has xs z) (has ys z)))

-- an element is there
pub has-get_or : (xs : List ℤ) (i : ℕ) (d : ℤ) → i < length xs → has xs (get_or xs i d) ≡ true
has-get_or [] i d l = absurd (omega arith)
has-get_or (x ∷ xs) zero d l = has-same x xs x (eq_same x x refl)
has-get_or (x ∷ xs) (suc i) d l = on_bool (int_eq x (get_or xs i d)) (λ e. has-same x xs (get_or xs i d) e)
    (λ e. has-other x xs (get_or xs i d) e ∙ has-get_or xs i d (omega arith))

-- a fact of each element is one of each member
pub member_from_All : (P : ℤ → Type 0) (xs : List ℤ) → All P xs → (z : ℤ) → has xs z ≡ true → P z
member_from_All P [] h z e = absurd (cc)
member_from_All P (x ∷ xs) h z e = on_bool (int_eq x z) (λ f. subst P (eq_is x z f) (All-head P x xs h))
    (λ f. member_from_All P xs (All-tail P x xs h) z (sym (has-other x xs z f) ∙ e))

pub All-from_members : (P : ℤ → Type 0) (xs : List ℤ) → ((z : ℤ) → has xs z ≡ true → P z) → All P xs
All-from_members P [] h = All-nil P
All-from_members P (x ∷ xs) h = All-cons P x xs (h x (has-same x xs x (eq_same x x refl)))
    (All-from_members P xs (λ z e. h z (on_bool (int_eq x z) (λ f. has-same x xs z f) (λ f. has-other x xs z f ∙ e))))

-- a list whose members are members of one within the limit is within the limit
pub within_from_members : (xs ys : List ℤ) → ((z : ℤ) → has xs z ≡ true → has ys z ≡ true) → AreWithin ys → AreWithin xs
within_from_members xs ys h w = All-from_members IsWithin xs (λ z e. member_from_All IsWithin ys w z (h z e))

-- each element of the first is one of the second
pub is_subset-elements : (xs ys : List ℤ) → is_subset xs ys ≡ true → (z : ℤ) → has xs z ≡ true → has ys z ≡ true
is_subset-elements [] ys h z e = absurd (cc)
is_subset-elements (x ∷ xs) ys h z e =
    let p = and_parts (has ys x) (is_subset xs ys) h in
    on_bool (int_eq x z) (λ f. subst (λ y. has ys y ≡ true) (eq_is x z f) p.0) (λ f. is_subset-elements xs ys p.1 z (sym (has-other x xs z f) ∙ e))

pub is_subset-from_elements : (xs ys : List ℤ) → ((z : ℤ) → has xs z ≡ true → has ys z ≡ true) → is_subset xs ys ≡ true
is_subset-from_elements [] ys h = refl
is_subset-from_elements (x ∷ xs) ys h =
    let p : has ys x ≡ true = h x (has-same x xs x (eq_same x x refl)) in
    rw (p, is_subset-from_elements xs ys (λ z e. h z (on_bool (int_eq x z) (λ f. has-same x xs z f) (λ f. has-other x xs z f ∙ e)))) refl

pub is_subset-iff : (xs ys : List ℤ) → (is_subset xs ys ≡ true) ↔ ((z : ℤ) → has xs z ≡ true → has ys z ≡ true)
is_subset-iff xs ys = (is_subset-elements xs ys, is_subset-from_elements xs ys)

-- the test of equal lists
same_list-equal : (xs ys : List ℤ) → same_list xs ys ≡ true → xs ≡ ys
same_list-equal [] [] e = refl
same_list-equal [] (y ∷ ys) e = absurd (cc)
same_list-equal (x ∷ xs) [] e = absurd (cc)
same_list-equal (x ∷ xs) (y ∷ ys) e =
    let p = and_parts (int_eq x y) (same_list xs ys) e in
    rw (eq_is x y p.0, same_list-equal xs ys p.1) refl

same_list-itself : (xs : List ℤ) → same_list xs xs ≡ true
same_list-itself [] = refl
same_list-itself (x ∷ xs) = rw (eq_same x x refl, same_list-itself xs) refl

pub same_list-iff : (xs ys : List ℤ) → (same_list xs ys ≡ true) ↔ (xs ≡ ys)
same_list-iff xs ys = (same_list-equal xs ys, λ e. rw (← e) (same_list-itself xs))

-- the operations stay within the limit
either : (P : Type 0) (a b : Bool) → (a || b) ≡ true → (a ≡ true → P) → (b ≡ true → P) → P
either P true b e f g = f refl
either P false b e f g = g e

pub within_union : (xs ys : List ℤ) → AreWithin xs → AreWithin ys → AreWithin (set_union xs ys)
within_union xs ys v w = All-from_members IsWithin (set_union xs ys) (λ z e. either (IsWithin z) (has xs z) (has ys z) (sym (has-union xs ys z) ∙ e)
    (member_from_All IsWithin xs v z) (member_from_All IsWithin ys w z))

pub within_set_of : (xs : List ℤ) → AreWithin xs → AreWithin (set_of xs)
within_set_of xs w = within_from_members (set_of xs) xs (λ z e. sym (has-set_of xs z) ∙ e) w

pub within_filter : (p : ℤ → Bool) (xs : List ℤ) → AreWithin xs → AreWithin (filter p xs)
within_filter p xs w = within_from_members (filter p xs) xs (λ z e. (and_parts (has xs z) (p z) (sym (has-filter p xs z) ∙ e)).0) w
