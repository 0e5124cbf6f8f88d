-- A reader that is local and reads all that is spelled refuses at a token with which no tree begins.
use Rattle.std.proofs.Common.{◌≡◌, ℕ, suc, ◌-◌, ◌≤◌, List, [], ◌∷◌, ◌++◌, length, take, drop, Option, Some, None, Ok, Err, refl, sym, ap, subst, ◌∙◌, inl, inr, length-drop, take-append-drop, arith}
use Rattle.cf_lex.specs.declared.token.Token.{Token}
use Rattle.cf_tree.specs.declared.base.Place.{Place}
use Rattle.cf_reader.specs.Readers.{Got, Reader}
use Rattle.cf_reader.specs.Faults.{IsDead, IsFaultPlace, IsFaultPlaceOf, front_place, place_with_left}
use Rattle.cf_reader.proofs.Near.{Within, ok_in, err_in, Near, here, later, Alike, both, past, refused, Local}
use Rattle.cf_reader.proofs.Yields.{Yields, yields, faults}

abbrev value_in : {A : Type 0} → Got A → Option A
value_in (Ok a) = Some a.0
value_in (Err e) = None

pub same_value : {A : Type 0} (x y : A) (ts us : List Token) (r : Got A) → r ≡ Ok (x, ts) → r ≡ Ok (y, us) → x ≡ y
same_value x y ts us r e f = some_same x y (sym (ap value_in e) ∙ ap value_in f)
  where
    some_same : {A : Type 0} (x y : A) → Some x ≡ Some y → x ≡ y
    some_same x y e = cc

pub found_on : {A : Type 0} (P : A → Type 0) (r : Got A) (y : A) (us : List Token) → Yields (λ z us. P z) r → r ≡ Ok (y, us) → P y
found_on P _ y us (yields x ts p) e = subst P (same_value x y ts us (Ok (x, ts)) refl e) p
found_on P _ y us (faults d) e = cc

pub within_err : {A : Type 0} (m e : ℕ) (r : Got A) → Within m r → r ≡ Err e → e ≤ m
within_err m e _ (ok_in x ts h) q = cc
within_err m e _ (err_in d h) q = let same : d ≡ e = cc in omega (arith, h, same)

refuse : {A : Type 0} (more other : List Token) (y : A) (us : List Token) (r s : Got A) → Alike more other r s → r ≡ Err (suc (length more)) → s ≡ Ok (y, us) →
    ⊥
refuse more other y us _ _ (both x vs ws n) p q = cc
refuse more other y us _ _ (past r s w) p q = absurd (omega (arith, within_err (length more) (suc (length more)) r w p))
refuse more other y us _ _ (refused r e) p q = cc

near : (front : List Token) (t : Token) (more other : List Token) → Near more other (front ++ t ∷ more) (front ++ t ∷ other)
near [] t more other = here t
near (u ∷ front) t more other = later u (front ++ t ∷ more) (front ++ t ∷ other) (near front t more other)

-- what is spelled is read
abbrev pub ReadsAll : {A : Type 0} → (List Token → Type 0) → Reader A → Type 0
ReadsAll {A} Spelled r = (ts : List Token) → Spelled ts → (x : A) × (us : List Token) × (r ts ≡ Ok (x, us))

dead : {A : Type 0} (Spelled : List Token → Type 0) (r : Reader A) → ((more other : List Token) → Local more other r r) → ReadsAll Spelled r →
    (front : List Token) (t : Token) (more : List Token) → r (front ++ t ∷ more) ≡ Err (suc (length more)) → IsDead Spelled front t
dead Spelled r local all front t more e other w =
    let h = all (front ++ t ∷ other) w in
    refuse more other h.0 h.1 (r (front ++ t ∷ more)) (r (front ++ t ∷ other))
    ((local more other).near (front ++ t ∷ more) (front ++ t ∷ other) (near front t more other)) e h.2

fault_on : {A : Type 0} (Spelled : List Token → Type 0) (r : Reader A) → ((more other : List Token) → Local more other r r) → ReadsAll Spelled r →
    (ts : List Token) (end : Place) (e : ℕ) (front d : List Token) → ts ≡ front ++ d → length d ≡ e → r ts ≡ Err e →
    IsFaultPlace Spelled ts end (front_place d end)
fault_on Spelled r local all ts end e front [] same l p = inl refl
fault_on Spelled r local all ts end e front (t ∷ more) same l p =
    inr (front, t, more, same, refl, dead Spelled r local all front t more (ap r (sym same) ∙ p ∙ ap Err (sym l)))

pub fault_law : {A : Type 0} (Spelled : List Token → Type 0) (r : Reader A) → ((more other : List Token) → Local more other r r) → ReadsAll Spelled r →
    (ts : List Token) (end : Place) (e : ℕ) → r ts ≡ Err e → IsFaultPlace Spelled ts end (place_with_left ts end e)
unfolding place_with_left
fault_law Spelled r local all ts end e p =
    fault_on Spelled r local all ts end e (take (length ts - e) ts) (drop (length ts - e) ts) (sym (take-append-drop (length ts - e) ts))
    (let small : e ≤ length ts = within_err (length ts) e (r ts) ((local [] []).within ts (length ts) (omega arith)) p in
    omega (arith, length-drop (length ts - e) ts)) p

pub exact_law : {A : Type 0} (r : Reader A) (ts : List Token) (end : Place) (e : ℕ) → r ts ≡ Err e → IsFaultPlaceOf r ts end (place_with_left ts end e)
exact_law r ts end e p = record { left = e; stops = p; stands = refl }
