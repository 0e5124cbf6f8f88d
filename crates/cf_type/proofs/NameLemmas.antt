-- Laws on names.
use Rattle.std.proofs.Common.{◌≡◌, ℕ, Bool, true, false, not, ◌||◌, List, [], ◌∷◌, ◌++◌, map, Option, Some, None, length, if◌then◌else◌, refl, sym, ap, ◌∙◌}
use Rattle.std.proofs.lemmas.Cmp.{nat_list_eq_equiv}
use Rattle.std.proofs.lemmas.List.{append_assoc, map-append}
use Rattle.std.proofs.lemmas.List.Folds.{list_any-append}
use Rattle.std.specs.List.{list_any}
use Rattle.std.specs.Str.{bytes_eq}
use Rattle.indexmap.specs.IndexSet.{insert_key}
use Rattle.cf_tree.specs.declared.base.Place.{Place}
use Rattle.cf_tree.specs.declared.base.Base.{Base}
use Rattle.cf_program.specs.declared.variable.Variable.{Variable}
use Rattle.cf_program.specs.Names.{is_among, repeated, or_outer}
use Rattle.cf_program.specs.Walk.{bound}

pub repeated_none : (before xs : List (List ℕ)) (places : List Place) → length places ≡ 0 → repeated before xs places ≡ None
repeated_none before [] places e = refl
repeated_none before (x ∷ xs) [] e = refl
repeated_none before (x ∷ xs) (p ∷ places) e = cc

-- a table of names by bytes: whether it has a name, and what it has after one more
among_keys : {K : Type 0} (f : K → List ℕ) (ks : List K) (k : K) → list_any (λ y. bytes_eq (f k) (f y)) ks ≡ is_among (map f ks) (f k)
among_keys f [] k = refl
among_keys f (y ∷ ys) k = ap (λ b. b || list_any (λ z. bytes_eq (f k) (f z)) ys) (nat_list_eq_equiv.symm (f k) (f y)) ∙
    ap (λ b. bytes_eq (f y) (f k) || b) (among_keys f ys k)

pub is_among_keys : {K : Type 0} (f : K → List ℕ) (ks : List K) (k : K) (new : Bool) → new ≡ not (list_any (λ y. bytes_eq (f k) (f y)) ks) →
    not new ≡ is_among (map f ks) (f k)
is_among_keys f ks k new told = ap not told ∙ by (list_any (λ y. bytes_eq (f k) (f y)) ks) ∙ among_keys f ks k
  where
    by : (b : Bool) → not (not b) ≡ b
    by true = refl
    by false = refl

pub keys_added : {K : Type 0} (f : K → List ℕ) (ks after : List K) (k : K) (new : Bool) → new ≡ not (list_any (λ y. bytes_eq (f k) (f y)) ks) →
    after ≡ insert_key (λ a b. bytes_eq (f a) (f b)) ks k →
    map f after ≡ (if not new then map f ks else map f ks ++ f k ∷ [])
keys_added f ks after k new told added = ap (map f) added ∙ by (list_any (λ y. bytes_eq (f k) (f y)) ks) new told
  where
    by : (b n : Bool) → n ≡ not b → map f (if b then ks else ks ++ k ∷ []) ≡ (if not n then map f ks else map f ks ++ f k ∷ [])
    by true true e = cc
    by true false e = refl
    by false true e = map-append f ks (k ∷ [])
    by false false e = cc

pub or_outer_assoc : (a b c : Option Variable) → or_outer (or_outer a b) c ≡ or_outer a (or_outer b c)
or_outer_assoc (Some v) b c = refl
or_outer_assoc None b c = refl

-- nothing is bound without places or without bases
pub bound_no_places : (xs : List (List ℕ)) (places : List Place) (bases : List Base) → length places ≡ 0 → bound xs places bases ≡ []
bound_no_places [] places bases e = refl
bound_no_places (x ∷ xs) [] bases e = refl
bound_no_places (x ∷ xs) (p ∷ places) bases e = cc

pub bound_no_bases : (xs : List (List ℕ)) (places : List Place) (bases : List Base) → length bases ≡ 0 → bound xs places bases ≡ []
bound_no_bases [] places bases e = refl
bound_no_bases (x ∷ xs) [] bases e = refl
bound_no_bases (x ∷ xs) (p ∷ places) [] e = refl
bound_no_bases (x ∷ xs) (p ∷ places) (b ∷ bases) e = cc

-- a name among two lists that stand one behind the other
pub among_first : (front names : List (List ℕ)) (x : List ℕ) → true ≡ is_among front x → true ≡ is_among (front ++ names) x
among_first front names x h = ap (λ b. b || is_among names x) h ∙ sym (list_any-append (λ y. bytes_eq y x) front names)

pub among_behind : (front names : List (List ℕ)) (x : List ℕ) (had : Bool) → false ≡ is_among front x → had ≡ is_among names x →
    had ≡ is_among (front ++ names) x
among_behind front names x had none h = h ∙ ap (λ b. b || is_among names x) none ∙ sym (list_any-append (λ y. bytes_eq y x) front names)

pub put_behind : (front names after : List (List ℕ)) (x : List ℕ) (had : Bool) → after ≡ (if had then names else names ++ x ∷ []) →
    front ++ after ≡ (if had then front ++ names else front ++ names ++ x ∷ [])
put_behind front names after x true h = ap (λ ys. front ++ ys) h
put_behind front names after x false h =
    let pushed : after ≡ names ++ x ∷ [] = h in ap (λ ys. front ++ ys) pushed ∙ sym (append_assoc front names (x ∷ []))
