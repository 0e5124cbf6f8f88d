-- A name tells a level exactly where it is the name of that level.
use Rattle.std.proofs.Common.{◌≡◌, ℕ, zero, suc, ◌+◌, ◌-◌, ◌*◌, ◌/◌, ◌%◌, ◌^◌, ◌<◌, ◌≤◌, Bool, true, false, List, [], ◌∷◌, ◌++◌, length, Option, Some, None, nat_le, refl, sym, ap, ◌∙◌, append_assoc, append-nil, cond, arith}
use Rattle.std.specs.Prelude.{nat_eq, ◌&&◌}
use Rattle.std.specs.Fmt.{decimal}
use Rattle.std.proofs.lemmas.Bool.{eqb-true, eq-eqb, le-leb, leb-true}
use Rattle.std.proofs.lemmas.Fmt.{decimal_digit, decimal_step, decimal_by_steps}
use Rattle.cf_target.specs.Spelling.{level_name}
use Rattle.cf_target.specs.Levels.{last_level, with_digit, level_after, level_in, level_of}

all_true : (a b c : Bool) (x y : ℕ) → a ≡ true → b ≡ true → c ≡ true → x ≡ y → cond (a && b && c) (Some x) None ≡ Some y
all_true true true true x y e f g h = ap Some h
all_true true true false x y e f g h = cc
all_true true false c x y e f g h = cc
all_true false b c x y e f g h = cc

digit_reads : (n r : ℕ) → r < 10 → n * 10 + r < 2 ^ 32 → with_digit n (48 + r) ≡ Some (n * 10 + r)
unfolding with_digit last_level
digit_reads n r h l =
    all_true _ _ _ _ _ (le-leb 48 (48 + r) (omega arith)) (le-leb (48 + r) 57 (omega (arith, h)))
    (le-leb (n * 10 + (48 + r - 48)) (2 ^ 32 - 1) (omega (arith, l))) (omega arith)

some_same : (x y : ℕ) → Some x ≡ Some y → x ≡ y
some_same x y e = cc

after_on : (ds : List ℕ) (o : Option ℕ) (m k c : ℕ) → ((j : ℕ) → level_after j ds ≡ Some m → level_after j (ds ++ c ∷ []) ≡ Some k) →
    elim o [ None ↦ None | Some j ↦ level_after j ds ] ≡ Some m → elim o [ None ↦ None | Some j ↦ level_after j (ds ++ c ∷ []) ] ≡ Some k
after_on ds None m k c f e = cc
after_on ds (Some j) m k c f e = f j e

after_more : (ds : List ℕ) (n m c k : ℕ) → level_after n ds ≡ Some m → with_digit m c ≡ Some k → level_after n (ds ++ c ∷ []) ≡ Some k
after_more [] n m c k e g = ap (λ o. elim o [ None ↦ None | Some j ↦ Some j ]) (ap (λ z. with_digit z c) (some_same n m e) ∙ g)
after_more (d ∷ ds) n m c k e g = after_on ds (with_digit n d) m k c (λ j h. after_more ds j m c k h g) e

-- what a guard let through
guarded : (b c : Bool) (o : Option ℕ) (x : ℕ) → cond (b && c) None o ≡ Some x → (o ≡ Some x) × ((b && c) ≡ false)
guarded true true o x e = cc
guarded true false o x e = (e, refl)
guarded false c o x e = (e, refl)

unguarded : (b c : Bool) (o : Option ℕ) (x : ℕ) → b ≡ false → o ≡ Some x → cond (b && c) None o ≡ Some x
unguarded true c o x e f = cc
unguarded false c o x e f = f

both_false : (b c : Bool) → (b && c) ≡ false → c ≡ true → b ≡ false
both_false true c e f = cc
both_false false c e f = refl

not_zero_on : (d m : ℕ) (o : Option ℕ) (b : Bool) → (b ≡ true → d ≡ 48) → 1 ≤ m → with_digit 0 d ≡ Some m → b ≡ false
unfolding with_digit last_level
not_zero_on d m o false h l e = refl
not_zero_on d m o true h l e = absurd (let s : d ≡ 48 = h refl in let t : Some 0 ≡ Some m = sym (ap (with_digit 0) s) ∙ e in omega (arith, l, some_same 0 m t))

digit_on : (a b c : Bool) (x k : ℕ) → cond (a && b && c) (Some x) None ≡ Some k → (a ≡ true) × (b ≡ true) × (c ≡ true) × (x ≡ k)
digit_on true true true x k e = (refl, refl, refl, some_same x k e)
digit_on true true false x k e = cc
digit_on true false c x k e = cc
digit_on false b c x k e = cc

record Digit (n d k : ℕ) : Type 0 where
  low : 48 ≤ d
  high : d ≤ 57
  small : k < 2 ^ 32
  value : k ≡ n * 10 + (d - 48)

digit_found : (n d k : ℕ) → with_digit n d ≡ Some k → Digit n d k
unfolding with_digit last_level
digit_found n d k e =
    let h = digit_on (nat_le 48 d) (nat_le d 57) (nat_le (n * 10 + (d - 48)) (2 ^ 32 - 1)) (n * 10 + (d - 48)) k e in
    let l : n * 10 + (d - 48) ≤ 2 ^ 32 - 1 = leb-true (n * 10 + (d - 48)) (2 ^ 32 - 1) h.2 in
    record { low = leb-true 48 d h.0; high = leb-true d 57 h.1; small = omega (arith, l, h.3); value = sym h.3 }

-- a digit more of a level other than 0
level_more : (ds : List ℕ) (m c k : ℕ) → level_in ds ≡ Some m → 1 ≤ m → with_digit m c ≡ Some k → level_in (ds ++ c ∷ []) ≡ Some k
level_more [] m c k e l g = cc
level_more (d ∷ []) m c k e l g =
    let h = guarded (nat_eq d 48) (nat_le 1 0) (level_after 0 (d ∷ [])) m e in
    unguarded (nat_eq d 48) (nat_le 1 1) (level_after 0 (d ∷ c ∷ [])) k (not_zero_on d m None (nat_eq d 48) (eqb-true d 48) l (one_on (with_digit 0 d) m h.0))
    (after_more (d ∷ []) 0 m c k h.0 g)
  where
    one_on : (o : Option ℕ) (m : ℕ) → elim o [ None ↦ None | Some j ↦ Some j ] ≡ Some m → o ≡ Some m
    one_on None m e = cc
    one_on (Some j) m e = e
level_more (d ∷ b ∷ ds) m c k e l g =
    let h = guarded (nat_eq d 48) (nat_le 1 (length (b ∷ ds))) (level_after 0 (d ∷ b ∷ ds)) m e in
    unguarded (nat_eq d 48) (nat_le 1 (length (b ∷ ds ++ c ∷ []))) (level_after 0 (d ∷ b ∷ ds ++ c ∷ [])) k
    (both_false (nat_eq d 48) (nat_le 1 (length (b ∷ ds))) h.1 (le-leb 1 (length (b ∷ ds)) (omega arith))) (after_more (d ∷ b ∷ ds) 0 m c k h.0 g)

alone : (b : Bool) (o : Option ℕ) (x : ℕ) → o ≡ Some x → cond (b && false) None o ≡ Some x
alone true o x e = e
alone false o x e = e

-- the digits of a level tell it
level_reads : (n : ℕ) → n < 2 ^ 32 → level_in (decimal n) ≡ Some n
level_reads n h = decimal_by_steps (λ n ds. n < 2 ^ 32 → level_in ds ≡ Some n) one more n (omega (arith, h)) h
  where
    one : (n : ℕ) → n < 10 → n < 2 ^ 32 → level_in ((48 + n) ∷ []) ≡ Some n
    one n l h = let same : 0 * 10 + n ≡ n = omega arith in
        alone (nat_eq (48 + n) 48) (level_after 0 ((48 + n) ∷ [])) n
        (ap (λ o. elim o [ None ↦ None | Some j ↦ Some j ]) (digit_reads 0 n l (omega (arith, l))) ∙ ap Some same)

    more : (n : ℕ) (ds : List ℕ) → 10 ≤ n → (n / 10 < 2 ^ 32 → level_in ds ≡ Some (n / 10)) → n < 2 ^ 32 → level_in (ds ++ (48 + n % 10) ∷ []) ≡ Some n
    more n ds l e h =
        let whole : n / 10 * 10 + n % 10 ≡ n = omega arith in
        level_more ds (n / 10) (48 + n % 10) n (e (omega (arith, h))) (omega (arith, l))
        (digit_reads (n / 10) (n % 10) (omega arith) (omega (arith, h, whole)) ∙ ap Some whole)

pub name_reads : (n : ℕ) → n < 2 ^ 32 → level_of (level_name n) ≡ Some n
name_reads n h = level_reads n h

-- and digits that tell a level are its digits

digit_step : (n d k : ℕ) → 1 ≤ n → Digit n d k → decimal k ≡ decimal n ++ d ∷ []
digit_step n d k l g =
    let e : k / 10 ≡ n = omega (arith, g.low, g.high, g.value) in
    let f : 48 + k % 10 ≡ d = omega (arith, g.low, g.high, g.value) in
    decimal_step k (omega (arith, l, g.value)) (omega (arith, g.small)) ∙ ap (λ z. decimal z ++ (48 + k % 10) ∷ []) e ∙ ap (λ z. decimal n ++ z ∷ []) f

first_digit : (d k : ℕ) → Digit 0 d k → decimal k ≡ d ∷ []
first_digit d k g = let f : 48 + k ≡ d = omega (arith, g.low, g.value) in decimal_digit k (omega (arith, g.high, g.value)) ∙ ap (λ z. z ∷ []) f

abbrev LevelAnswer : List ℕ → List ℕ → ℕ → Type 0
LevelAnswer front ds x = (decimal x ≡ front ++ ds) × (x < 2 ^ 32)

after_found_on : (ds : List ℕ) (n d x : ℕ) (o : Option ℕ) → with_digit n d ≡ o → 1 ≤ n →
    ((j : ℕ) → 1 ≤ j → j < 2 ^ 32 → level_after j ds ≡ Some x → LevelAnswer (decimal j) ds x) →
    elim o [ None ↦ None | Some j ↦ level_after j ds ] ≡ Some x → LevelAnswer (decimal n) (d ∷ ds) x
after_found_on ds n d x None w l f e = cc
after_found_on ds n d x (Some j) w l f e =
    let g = digit_found n d j w in
    let r = f j (omega (arith, l, g.value)) g.small e in
    (r.0 ∙ ap (λ z. z ++ ds) (digit_step n d j l g) ∙ append_assoc (decimal n) (d ∷ []) ds, r.1)

after_found : (ds : List ℕ) (n x : ℕ) → 1 ≤ n → n < 2 ^ 32 → level_after n ds ≡ Some x → LevelAnswer (decimal n) ds x
after_found [] n x l h e = let s : n ≡ x = some_same n x e in (ap decimal (sym s) ∙ sym (append-nil (decimal n)), omega (arith, h, s))
after_found (d ∷ ds) n x l h e = after_found_on ds n d x (with_digit n d) refl l (λ j. after_found ds j x) e

one_found : (d x : ℕ) (o : Option ℕ) → with_digit 0 d ≡ o → elim o [ None ↦ None | Some j ↦ Some j ] ≡ Some x → LevelAnswer [] (d ∷ []) x
one_found d x None w e = cc
one_found d x (Some j) w e =
    let s : j ≡ x = some_same j x e in let g = digit_found 0 d j w in (ap decimal (sym s) ∙ first_digit d j g, omega (arith, g.small, s))

clash : (b : Bool) → b ≡ true → b ≡ false → ⊥
clash b e f = cc

not_zero : (d j : ℕ) → nat_eq d 48 ≡ false → Digit 0 d j → 1 ≤ j
not_zero d zero f g = absurd (let s : d ≡ 48 = omega (arith, g.low, g.value) in clash (nat_eq d 48) (eq-eqb d 48 s) f)
not_zero d (suc j) f g = omega arith

many_found : (ds : List ℕ) (d x : ℕ) (o : Option ℕ) → with_digit 0 d ≡ o → nat_eq d 48 ≡ false → elim o [ None ↦ None | Some j ↦ level_after j ds ] ≡ Some x →
    LevelAnswer [] (d ∷ ds) x
many_found ds d x None w f e = cc
many_found ds d x (Some j) w f e =
    let g = digit_found 0 d j w in
    let r = after_found ds j x (not_zero d j f g) g.small e in
    (r.0 ∙ ap (λ z. z ++ ds) (first_digit d j g), r.1)

in_found : (ds : List ℕ) (x : ℕ) → level_in ds ≡ Some x → LevelAnswer [] ds x
in_found [] x e = cc
in_found (d ∷ []) x e = let h = guarded (nat_eq d 48) (nat_le 1 0) (level_after 0 (d ∷ [])) x e in one_found d x (with_digit 0 d) refl h.0
in_found (d ∷ b ∷ ds) x e =
    let h = guarded (nat_eq d 48) (nat_le 1 (length (b ∷ ds))) (level_after 0 (d ∷ b ∷ ds)) x e in
    many_found (b ∷ ds) d x (with_digit 0 d) refl (both_false (nat_eq d 48) (nat_le 1 (length (b ∷ ds))) h.1 (le-leb 1 (length (b ∷ ds)) (omega arith))) h.0

if_in : (b : Bool) (o : Option ℕ) (x : ℕ) → cond b o None ≡ Some x → (b ≡ true) × (o ≡ Some x)
if_in true o x e = (refl, e)
if_in false o x e = cc

pub name_found : (name : List ℕ) (x : ℕ) → level_of name ≡ Some x → (name ≡ level_name x) × (x < 2 ^ 32)
name_found [] x e = cc
name_found (v ∷ ds) x e =
    let h = if_in (nat_eq v 118) (level_in ds) x e in
    let r = in_found ds x h.1 in
    (ap (λ z. z ∷ ds) (eqb-true v 118 h.0) ∙ ap (λ z. 118 ∷ z) (sym r.0), r.1)
