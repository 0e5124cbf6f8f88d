-- Variables as parts, and the values of truth variables in a branch.
use Rattle.std.specs.Prelude.{ℕ, zero, suc, ◌+◌, ◌≤◌, ◌==◌, ◌≡◌, ◌⊎◌, Bool, true, false, ◌||◌, Some, None, if◌then◌else◌, List, [], ◌∷◌, ◌++◌, length, map, filter, slice_get}
use Rattle.std.proofs.Common.{refl, sym, ap, ◌∙◌, subst, arith, append_assoc, append-nil, inl, inr}
use Rattle.std.proofs.lemmas.Bool.{eq-eqb, eqb-true}
use Rattle.cf_tree.specs.declared.base.Base.{Base}
use Rattle.cf_tree.specs.declared.base.Base.TheVariants.{Int, Bool as Truth, Set}
use Rattle.cf_tree.specs.Values.{Value, truth_of, value_at, HasBase, HaveBases}
use Rattle.cf_tree.proofs.SetLemmas.{on_bool}
use Rattle.cf_form.specs.Branches.{is_truth, truth_levels, values_in, is_among}
use Rattle.cf_form.specs.Expansion.{variable_part, variables_from}
use Rattle.cf_form.proofs.ChooseLaw.{branch_of}
use Rattle.cf_form.proofs.WideMeaning.{part_value, PartOver, PartsOver, in_scope}

-- ---- what stands in a list from a place on
abbrev pub FoundAt : {A : Type 0} → List A → ℕ → List A → Type 0
FoundAt all x [] = Unit {0}
FoundAt all x (a ∷ zs) = (slice_get all x ≡ Some a) × FoundAt all (suc x) zs

at_seam : {A : Type 0} (before : List A) (a : A) (zs : List A) → slice_get (before ++ a ∷ zs) (length before) ≡ Some a
at_seam [] a zs = refl
at_seam (b ∷ before) a zs = at_seam before a zs

one_more : {A : Type 0} (before : List A) (a : A) → length (before ++ a ∷ []) ≡ suc (length before)
one_more [] a = refl
one_more (b ∷ before) a = ap suc (one_more before a)

pub found_between : {A : Type 0} (before zs after : List A) → FoundAt (before ++ (zs ++ after)) (length before) zs
found_between before [] after = tt
found_between {A} before (a ∷ zs) after = (
  at_seam before a (zs ++ after),
  subst (λ x. FoundAt (before ++ a ∷ (zs ++ after)) x zs) (one_more before a)
      (subst (λ all. FoundAt {A = A} all (length (before ++ a ∷ [])) zs) (append_assoc before (a ∷ []) (zs ++ after))
      (found_between (before ++ a ∷ []) zs after)),
)

pub found_first : {A : Type 0} (zs after : List A) → FoundAt (zs ++ after) 0 zs
found_first zs after = found_between [] zs after

pub found_whole : {A : Type 0} (zs : List A) → FoundAt zs 0 zs
found_whole {A} zs = subst (λ all. FoundAt {A = A} all 0 zs) (append-nil zs) (found_between [] zs [])

pub found_last : {A : Type 0} (before zs : List A) → FoundAt (before ++ zs) (length before) zs
found_last {A} before zs = subst (λ all. FoundAt {A = A} (before ++ all) (length before) zs) (append-nil zs) (found_between before zs [])

pub value_found : (env : List Value) (x : ℕ) (v : Value) → slice_get env x ≡ Some v → value_at env x ≡ v
value_found [] x v e = cc
value_found (w ∷ env) zero v e = cc
value_found (w ∷ env) (suc x) v e = value_found env x v e

-- ---- variables as parts
variable_value : (env : List Value) (x : ℕ) (b : Base) (v : Value) → HasBase b v → value_at env x ≡ v → part_value env (variable_part b x) ≡ v
variable_value env x Int v h e = rw (e, h.1) refl
variable_value env x Truth v h e = rw (e, h.1) refl
variable_value env x Set v h e = rw (e, h.1) refl

pub variable_values : (env : List Value) (x : ℕ) (bs : List Base) (vs : List Value) → HaveBases bs vs → FoundAt env x vs
    → map (part_value env) (variables_from x bs) ≡ vs
variable_values env x [] [] h f = refl
variable_values env x [] (v ∷ vs) h f = absurd h
variable_values env x (b ∷ bs) [] h f = absurd h
variable_values env x (b ∷ bs) (v ∷ vs) h f =
    rw (variable_value env x b v h.0 (value_found env x v f.0), variable_values env (suc x) bs vs h.1 f.1) refl

variable_over : (all : List Base) (x : ℕ) (b : Base) → slice_get all x ≡ Some b → PartOver (in_scope all) b (variable_part b x)
variable_over all x Int e = e
variable_over all x Truth e = e
variable_over all x Set e = e

pub variables_over : (all : List Base) (x : ℕ) (bs : List Base) → FoundAt all x bs → PartsOver (in_scope all) bs (variables_from x bs)
variables_over all x [] f = tt
variables_over all x (b ∷ bs) f = (variable_over all x b f.0, variables_over all (suc x) bs f.1)

-- ---- the bases of an environment
pub has_base_at : (scope : List Base) (env : List Value) (x : ℕ) (b : Base) → HaveBases scope env → slice_get scope x ≡ Some b → HasBase b (value_at env x)
has_base_at [] env x b h e = cc
has_base_at (c ∷ scope) [] x b h e = absurd h
has_base_at (c ∷ scope) (v ∷ env) zero b h e = let same : c ≡ b = cc in rw (← same) h.0
has_base_at (c ∷ scope) (v ∷ env) (suc x) b h e = has_base_at scope env x b h.1 e

pub have_joined : (bs cs : List Base) (xs ys : List Value) → HaveBases bs xs → HaveBases cs ys → HaveBases (bs ++ cs) (xs ++ ys)
have_joined [] cs [] ys h k = k
have_joined [] cs (v ∷ xs) ys h k = absurd h
have_joined (b ∷ bs) cs [] ys h k = absurd h
have_joined (b ∷ bs) cs (v ∷ xs) ys h k = (h.0, have_joined bs cs xs ys h.1 k)

pub have_apart : (bs cs : List Base) (vs : List Value) → HaveBases (bs ++ cs) vs
    → (xs : List Value) × (ys : List Value) × (vs ≡ xs ++ ys) × HaveBases bs xs × HaveBases cs ys
have_apart [] cs vs h = ([], vs, refl, tt, h)
have_apart (b ∷ bs) cs [] h = absurd h
have_apart (b ∷ bs) cs (v ∷ vs) h =
    let p = have_apart bs cs vs h.1 in (v ∷ p.0, p.1, ap (λ ws. v ∷ ws) p.2, (h.0, p.3), p.4)

pub same_number : (scope : List Base) (env : List Value) → HaveBases scope env → length env ≡ length scope
same_number [] [] h = refl
same_number [] (v ∷ env) h = absurd h
same_number (b ∷ scope) [] h = absurd h
same_number (b ∷ scope) (v ∷ env) h = ap suc (same_number scope env h.1)

-- ---- the levels of the truth variables of a scope
not_equal : (x y : ℕ) → (x ≡ y → ⊥) → (x == y) ≡ false
not_equal x y n = on_bool (x == y) (λ e. absurd (n (eqb-true x y e))) (λ e. e)

put_when : (t : Bool) (x y : ℕ) (ys : List ℕ) → is_among x ys ≡ true → is_among x (if t then y ∷ ys else ys) ≡ true
put_when true x y ys h = on_bool (x == y) (λ e. rw e refl) (λ e. rw e h)
put_when false x y ys h = h

pub level_there : (n : ℕ) (bs : List Base) (i : ℕ) → slice_get bs i ≡ Some Truth → is_among (n + i) (truth_levels n bs) ≡ true
level_there n [] i e = cc
level_there n (b ∷ bs) zero e =
    let same : b ≡ Truth = cc in
    let here : n + 0 ≡ n = omega arith in
    let itself : (n == n) ≡ true = eq-eqb n n refl in
    rw (same, here, itself) refl
level_there n (b ∷ bs) (suc i) e =
    let further : n + suc i ≡ suc n + i = omega arith in
    rw further (put_when (is_truth b) (suc n + i) n (truth_levels (suc n) bs) (level_there (suc n) bs i e))

none_when : (t : Bool) (x y : ℕ) (ys : List ℕ) → (x ≡ y → ⊥) → is_among x ys ≡ false → is_among x (if t then y ∷ ys else ys) ≡ false
none_when true x y ys n h = rw (not_equal x y n, h) refl
none_when false x y ys n h = h

pub level_not_there : (n : ℕ) (bs : List Base) (x : ℕ) → n + length bs ≤ x → is_among x (truth_levels n bs) ≡ false
level_not_there n [] x l = refl
level_not_there n (b ∷ bs) x l =
    none_when (is_truth b) x n (truth_levels (suc n) bs) (λ e. omega arith) (level_not_there (suc n) bs x (omega arith))

kept_with : (t : Bool) (x y : ℕ) (ys : List ℕ) → (x ≡ y → t ≡ true) → ((x == y) ≡ true) ⊎ (is_among x ys ≡ true) → is_among x (if t then y ∷ ys else ys) ≡ true
kept_with true x y ys k h = elim h [ inl e ↦ rw e refl | inr e ↦ put_when true x y ys e ]
kept_with false x y ys k h = elim h [ inl e ↦ (let f : false ≡ true = k (eqb-true x y e) in cc) | inr e ↦ e ]

among_either : (x y : ℕ) (ys : List ℕ) → is_among x (y ∷ ys) ≡ true → ((x == y) ≡ true) ⊎ (is_among x ys ≡ true)
among_either x y ys h = on_bool (x == y) (λ e. inl e) (λ e. inr (rw e at h))

pub among_kept : (f : ℕ → Bool) (x : ℕ) (ys : List ℕ) → f x ≡ true → is_among x ys ≡ true → is_among x (filter f ys) ≡ true
among_kept f x [] e h = h
among_kept f x (y ∷ ys) e h =
    kept_with (f y) x y (filter f ys) (λ s. ap f (sym s) ∙ e) (
    elim (among_either x y ys h) as (λ _. ((x == y) ≡ true) ⊎ (is_among x (filter f ys) ≡ true))
    [ inl p ↦ inl p | inr q ↦ inr (among_kept f x ys e q) ])

none_kept_with : (t : Bool) (x y : ℕ) (ys : List ℕ) → (x == y) ≡ false → is_among x ys ≡ false → is_among x (if t then y ∷ ys else ys) ≡ false
none_kept_with true x y ys e h = rw (e, h) refl
none_kept_with false x y ys e h = h

neither : (a b : Bool) → (a || b) ≡ false → (a ≡ false) × (b ≡ false)
neither true b e = cc
neither false b e = (refl, e)

pub none_kept : (f : ℕ → Bool) (x : ℕ) (ys : List ℕ) → is_among x ys ≡ false → is_among x (filter f ys) ≡ false
none_kept f x [] h = h
none_kept f x (y ∷ ys) h =
    let p = neither (x == y) (is_among x ys) h in none_kept_with (f y) x y (filter f ys) p.0 (none_kept f x ys p.1)

-- ---- the values in a branch
pub value_there : (env : List Value) (levels : List ℕ) (x : ℕ) → is_among x levels ≡ true →
    values_in (branch_of env levels) x ≡ Some (truth_of (value_at env x))
value_there env [] x h = cc
value_there env (y ∷ levels) x h =
    on_bool (x == y) (λ e. rw (e, eqb-true x y e) refl) (λ e. rw e (value_there env levels x (rw e at h)))

pub no_value_there : (env : List Value) (levels : List ℕ) (x : ℕ) → is_among x levels ≡ false → values_in (branch_of env levels) x ≡ None
no_value_there env [] x h = refl
no_value_there env (y ∷ levels) x h =
    let p = neither (x == y) (is_among x levels) h in rw p.0 (no_value_there env levels x p.1)
