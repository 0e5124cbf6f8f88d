-- Outcomes that two expressions both allow, and how outcomes follow one another.
use Rattle.std.proofs.Common.{◌≡◌, ◌↔◌, ℕ, suc, zero, ℤ, Bool, true, false, Some, List, [], ◌∷◌, ◌++◌, length, slice_get, refl, sym, ap, subst}
use Rattle.std.specs.Bool.{MatchBool}
use Rattle.cf_tree.specs.declared.base.Base.{Base}
use Rattle.cf_tree.specs.declared.base.Base.TheVariants.{Int, Bool as Truth, Set}
use Rattle.cf_tree.specs.Allowed.{AllowedThen, goes_on, ends_at, Gives, Chosen}
use Rattle.cf_tree.specs.Relation.{Sol}
use Rattle.cf_tree.specs.RelTree.{RelTree}
use Rattle.cf_tree.specs.Sets.{IsRising}
use Rattle.cf_tree.specs.Values.{Value, number, truth, elements_of, first_of, Outcome, values, no_solution, value_at, HasBase, HaveBases}

-- values, where there are some, have these bases
abbrev pub Keeps : List Base → Outcome → Type 0
Keeps bs (values vs) = HaveBases bs vs
Keeps bs (no_solution n) = Unit {0}

-- an outcome is allowed by both or by none, and has these bases
pub record Agree (bs : List Base) (o : Outcome) (X Y : Type 0) : Type 0 where
  pub forth : X → Y
  pub back : Y → X
  pub keeps : X → Keeps bs o

pub alike : {bs : List Base} {o : Outcome} {X : Type 0} → (X → Keeps bs o) → Agree bs o X X
alike k = record { forth = λ x. x; back = λ x. x; keeps = k }

pub through : {bs : List Base} {o : Outcome} {X X' Y Y' : Type 0} → X ↔ X' → Agree bs o X' Y' → Y ↔ Y' → Agree bs o X Y
through f a g = record { forth = λ x. g.1 (a.forth (f.0 x)); back = λ y. f.1 (a.back (g.0 y)); keeps = λ x. a.keeps (f.0 x) }

pub as_bases : {o : Outcome} {X Y : Type 0} (bs cs : List Base) → bs ≡ cs → Agree bs o X Y → Agree cs o X Y
as_bases {o = o} {X = X} {Y = Y} bs cs e a = subst (λ ds. Agree ds o X Y) e a

pub gives_keeps : (bs : List Base) (vs : List Value) (o : Outcome) → HaveBases bs vs → o ≡ values vs → Keeps bs o
gives_keeps bs vs o h e = subst (λ p. Keeps bs p) (sym e) h

pub none_keeps : (bs : List Base) (n : ℕ) (o : Outcome) → o ≡ no_solution n → Keeps bs o
none_keeps bs n o e = subst (λ p. Keeps bs p) (sym e) tt

pub gives : (bs : List Base) (v : Value) (o : Outcome) → HaveBases bs (v ∷ []) → Agree bs o (Gives v o) (Gives v o)
gives bs v o h = alike (gives_keeps bs (v ∷ []) o h)

-- one outcome and then another
pub then_agree : {P Q : Outcome → Type 0} {R S : List Value → Outcome → Type 0} (bs cs : List Base) (o : Outcome) → ((p : Outcome) → Agree bs p (P p) (Q p)) →
    ((xs : List Value) → HaveBases bs xs → Agree cs o (R xs o) (S xs o)) → Agree cs o (AllowedThen P R o) (AllowedThen Q S o)
then_agree {P = P} {Q = Q} {R = R} {S = S} bs cs o a k = record { forth = forth; back = back; keeps = keeps }
  where
    forth : AllowedThen P R o → AllowedThen Q S o
    forth (goes_on xs p r) = goes_on xs ((a (values xs)).forth p) ((k xs ((a (values xs)).keeps p)).forth r)
    forth (ends_at n p e) = ends_at n ((a (no_solution n)).forth p) e

    back : AllowedThen Q S o → AllowedThen P R o
    back (goes_on xs q s) = let p = (a (values xs)).back q in goes_on xs p ((k xs ((a (values xs)).keeps p)).back s)
    back (ends_at n q e) = ends_at n ((a (no_solution n)).back q) e

    keeps : AllowedThen P R o → Keeps cs o
    keeps (goes_on xs p r) = (k xs ((a (values xs)).keeps p)).keeps r
    keeps (ends_at n p e) = none_keeps cs n o e

pub match_agree : {bs : List Base} {o : Outcome} {X Y X' Y' : Type 0} (b : Bool) → Agree bs o X Y → Agree bs o X' Y' →
    Agree bs o (MatchBool b X X') (MatchBool b Y Y')
match_agree true a c = a
match_agree false a c = c

-- ---- one value alone
pub values_once : (xs ys : List Value) → values xs ≡ values ys → xs ≡ ys
values_once xs ys e = cc

pub no_values : (n : ℕ) (xs : List Value) → no_solution n ≡ values xs → ⊥
no_values n xs e = cc

pub then_alone : {P : Outcome → Type 0} {R : List Value → Outcome → Type 0} (v : Value) (o : Outcome) → ((p : Outcome) → P p ↔ Gives v p) →
    AllowedThen P R o ↔ R (v ∷ []) o
then_alone {P = P} {R = R} v o a = (forth, λ r. goes_on (v ∷ []) ((a (values (v ∷ []))).1 refl) r)
  where
    forth : AllowedThen P R o → R (v ∷ []) o
    forth (goes_on xs p r) = subst (λ ys. R ys o) (values_once xs (v ∷ []) ((a (values xs)).0 p)) r
    forth (ends_at n p e) = absurd (no_values n (v ∷ []) ((a (no_solution n)).0 p))

pub iff_then : {X Y Z : Type 0} → X ↔ Y → Y ↔ Z → X ↔ Z
iff_then f g = ((λ x. g.0 (f.0 x)), λ z. f.1 (g.1 z))

-- ---- bases
pub keeps_number : (bs : List Base) (z : ℤ) → bs ≡ Int ∷ [] → HaveBases bs (number z ∷ [])
keeps_number bs z e = rw e ((z, refl), tt)

pub keeps_truth : (bs : List Base) (b : Bool) → bs ≡ Truth ∷ [] → HaveBases bs (truth b ∷ [])
keeps_truth bs b e = rw e ((b, refl), tt)

pub value_has : (scope : List Base) (env : List Value) (x : ℕ) (b : Base) → HaveBases scope env → slice_get scope x ≡ Some b → HasBase b (value_at env x)
value_has [] env x b h e = cc
value_has (c ∷ scope) [] x b h e = absurd h
value_has (c ∷ scope) (v ∷ env) zero b h e = let same : c ≡ b = cc in rw (← same) h.0
value_has (c ∷ scope) (v ∷ env) (suc x) b h e = value_has scope env x b h.1 e

pub keeps_value : (bs : List Base) (b : Base) (v : Value) → bs ≡ b ∷ [] → HasBase b v → HaveBases bs (v ∷ [])
keeps_value bs b v e h = rw e (h, tt)

pub have_append : (bs cs : List Base) (xs ys : List Value) → HaveBases bs xs → HaveBases cs ys → HaveBases (bs ++ cs) (xs ++ ys)
have_append [] cs [] ys h k = k
have_append [] cs (v ∷ xs) ys h k = absurd h
have_append (b ∷ bs) cs [] ys h k = absurd h
have_append (b ∷ bs) cs (v ∷ xs) ys h k = (h.0, have_append bs cs xs ys h.1 k)

pub length_have : (bs : List Base) (vs : List Value) → HaveBases bs vs → length vs ≡ length bs
length_have [] [] h = refl
length_have [] (v ∷ vs) h = absurd h
length_have (b ∷ bs) [] h = absurd h
length_have (b ∷ bs) (v ∷ vs) h = ap suc (length_have bs vs h.1)

pub chosen_keeps : (n : ℕ) (bs outputs : List Base) (rel : RelTree) (env : List Value) (o : Outcome) → bs ≡ outputs → Chosen n (Sol outputs rel env) o →
    Keeps bs o
chosen_keeps n bs outputs rel env (values xs) e h = rw e h.0
chosen_keeps n bs outputs rel env (no_solution m) e h = tt

set_rises : (v : Value) → HasBase Set v → IsRising (elements_of v)
set_rises v h = rw h.1 h.2

-- the set that is given alone
pub set_is_rising : (xs : List Value) → HaveBases (Set ∷ []) xs → IsRising (elements_of (first_of xs))
set_is_rising [] h = absurd h
set_is_rising (v ∷ xs) h = set_rises v h.0
