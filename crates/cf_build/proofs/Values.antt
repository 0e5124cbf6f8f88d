-- Values of bases, and how outcomes follow one another.
use Rattle.std.proofs.Common.{◌≡◌, ℕ, zero, suc, ℤ, pos, ◌+ℤ◌, neg_ℤ, Bool, true, false, cond, Some, List, [], ◌∷◌, ◌++◌, slice_get, refl, sym, ap, subst, arith}
use Rattle.std.proofs.lemmas.Int.{ints, clamps}
use Rattle.std.specs.Bool.{MatchBool}
use Rattle.std.specs.Int.{int_max}
use Rattle.cf_tree.specs.declared.base.Base.{Base}
use Rattle.cf_tree.specs.declared.base.Base.TheVariants.{Int, Bool as Truth, Set}
use Rattle.cf_tree.specs.Allowed.{AllowedThen, goes_on, ends_at, Chosen}
use Rattle.cf_tree.specs.Meaning.{Got, got, none_at, Path, then_gives, meets_value, outcome_of}
use Rattle.cf_tree.specs.Numbers.{absolute}
use Rattle.cf_tree.specs.Relation.{Sol}
use Rattle.cf_tree.specs.RelTree.{RelTree}
use Rattle.cf_tree.specs.Sets.{IsRising}
use Rattle.cf_tree.specs.Values.{Value, number, truth, elements, Outcome, values, no_solution, elements_of, value_at, first_of, HasBase, HaveBases}

-- values, where there are some, have these bases
abbrev pub Keeps : List Base → Outcome → Type 0
Keeps bs (values vs) = HaveBases bs vs
Keeps bs (no_solution n) = Unit {0}

-- one outcome and then another
pub then_fine : {P : Outcome → Type 0} {Q : List Value → Outcome → Type 0} (bs cs : List Base) (g : Got (List Value)) (f : List Value → Got (List Value)) →
    P (outcome_of g) × Keeps bs (outcome_of g) → ((xs : List Value) → HaveBases bs xs → Q xs (outcome_of (f xs)) × Keeps cs (outcome_of (f xs))) →
    AllowedThen P Q (outcome_of (then_gives g f)) × Keeps cs (outcome_of (then_gives g f))
then_fine bs cs (got xs) f p q = let r = q xs p.1 in (goes_on xs p.0 r.0, r.1)
then_fine bs cs (none_at n) f p q = (ends_at n p.0 refl, tt)

-- one outcome, and then those of others, whose values come behind the first
pub more_fine : {P R : Outcome → Type 0} {Q : List Value → Outcome → Type 0} (bs cs : List Base) (g : Got (List Value)) (f : List Value → Got (List Value)) →
    P (outcome_of g) × Keeps bs (outcome_of g) →
    ((xs : List Value) → HaveBases bs xs → AllowedThen R (λ ys. Q (xs ++ ys)) (outcome_of (f xs)) × Keeps cs (outcome_of (f xs))) →
    AllowedThen (AllowedThen P (λ xs. AllowedThen R (λ ys p. p ≡ values (xs ++ ys)))) Q (outcome_of (then_gives g f)) × Keeps cs (outcome_of (then_gives g f))
more_fine {P = P} {R = R} {Q = Q} bs cs (got xs) f p q = let r = q xs p.1 in (by (outcome_of (f xs)) r.0, r.1)
  where
    by : (o : Outcome) → AllowedThen R (λ ys. Q (xs ++ ys)) o → AllowedThen (AllowedThen P (λ xs. AllowedThen R (λ ys p. p ≡ values (xs ++ ys)))) Q o
    by o (goes_on ys r s) = goes_on (xs ++ ys) (goes_on xs p.0 (goes_on ys r refl)) s
    by o (ends_at n r e) = ends_at n (goes_on xs p.0 (ends_at n r refl)) e
more_fine bs cs (none_at n) f p q = (ends_at n (ends_at n p.0 refl) refl, tt)

-- nothing more is done with the values
pub then_same : (R : Outcome → Type 0) (o : Outcome) → AllowedThen R (λ ys p. p ≡ values ys) o → R o
then_same R o (goes_on ys r e) = subst R (sym e) r
then_same R o (ends_at n r e) = subst R (sym e) r

pub if_fine : (t : Bool) (A B : Outcome → Type 0) (bs : List Base) (p q : Path (List Value)) →
    A (outcome_of p.gives) × Keeps bs (outcome_of p.gives) → B (outcome_of q.gives) × Keeps bs (outcome_of q.gives) →
    MatchBool t (A (outcome_of (cond t p q).gives)) (B (outcome_of (cond t p q).gives)) × Keeps bs (outcome_of (cond t p q).gives)
if_fine true A B bs p q a b = a
if_fine false A B bs p q a b = b

pub value_means : (v : Value) → outcome_of (meets_value v).gives ≡ values (v ∷ [])
value_means (number z) = refl
value_means (truth b) = refl
value_means (elements zs) = refl

pub keeps_number : (bs : List Base) (z : ℤ) → bs ≡ Int ∷ [] → HaveBases bs (number z ∷ [])
keeps_number bs z e = rw e ((z, refl), tt)

pub keeps_truth : (bs : List Base) (b : Bool) → bs ≡ Truth ∷ [] → HaveBases bs (truth b ∷ [])
keeps_truth bs b e = rw e ((b, refl), tt)

pub value_has : (scope : List Base) (env : List Value) (x : ℕ) (b : Base) → HaveBases scope env → slice_get scope x ≡ Some b → HasBase b (value_at env x)
value_has [] env x b h e = cc
value_has (c ∷ scope) [] x b h e = absurd h
value_has (c ∷ scope) (v ∷ env) zero b h e = let same : c ≡ b = cc in rw (← same) h.0
value_has (c ∷ scope) (v ∷ env) (suc x) b h e = value_has scope env x b h.1 e

pub keeps_value : (bs : List Base) (b : Base) (v : Value) → bs ≡ b ∷ [] → HasBase b v → HaveBases bs (v ∷ [])
keeps_value bs b v e h = rw e (h, tt)

pub have_append : (bs cs : List Base) (xs ys : List Value) → HaveBases bs xs → HaveBases cs ys → HaveBases (bs ++ cs) (xs ++ ys)
have_append [] cs [] ys h k = k
have_append [] cs (v ∷ xs) ys h k = absurd h
have_append (b ∷ bs) cs [] ys h k = absurd h
have_append (b ∷ bs) cs (v ∷ xs) ys h k = (h.0, have_append bs cs xs ys h.1 k)

set_rises : (v : Value) → HasBase Set v → IsRising (elements_of v)
set_rises v h = rw h.1 h.2

-- the set that is given alone
pub set_is_rising : (xs : List Value) → HaveBases (Set ∷ []) xs → IsRising (elements_of (first_of xs))
set_is_rising [] h = absurd h
set_is_rising (v ∷ xs) h = set_rises v h.0

-- the number that is given alone
pub number_alone : (xs : List Value) → HaveBases (Int ∷ []) xs → (z : ℤ) × (xs ≡ number z ∷ [])
number_alone [] h = absurd h
number_alone (v ∷ []) h = (h.0.0, ap (λ w. w ∷ []) h.0.1)
number_alone (v ∷ w ∷ xs) h = absurd h.1

pub chosen_keeps : (n : ℕ) (outputs : List Base) (rel : RelTree) (env : List Value) (o : Outcome) → Chosen n (Sol outputs rel env) o → Keeps outputs o
chosen_keeps n outputs rel env (values xs) h = h.0
chosen_keeps n outputs rel env (no_solution m) h = tt

pub from_zero : (x y : ℤ) → pos 0 +ℤ x +ℤ y ≡ x +ℤ y
from_zero x y = omega (arith, ints)

pub greater_is_absolute : (z : ℤ) → int_max z (neg_ℤ z) ≡ absolute z
greater_is_absolute z = omega (arith, ints, clamps)

pub then_weaker : {R : Outcome → Type 0} {S T : List Value → Outcome → Type 0} (o : Outcome) → AllowedThen R S o → ((ys : List Value) → S ys o → T ys o) →
    AllowedThen R T o
then_weaker o (goes_on ys r s) f = goes_on ys r (f ys s)
then_weaker o (ends_at n r e) f = ends_at n r e

pub keeps_same : (bs cs : List Base) (o : Outcome) → bs ≡ cs → Keeps bs o → Keeps cs o
keeps_same bs cs o e k = subst (λ ds. Keeps ds o) e k
