-- The last function of a name, and the sizes of bodies.
use Rattle.std.proofs.Common.{◌≡◌, ℕ, zero, suc, ◌+◌, ◌*◌, ◌<◌, ◌≤◌, min, true, false, List, [], ◌∷◌, ◌++◌, length, map, take, get_or, reverse, Option, Some, if◌then◌else◌, Bor, refl, sym, ap, ◌∙◌, arith}
use Rattle.std.specs.Str.{bytes_eq}
use Rattle.std.proofs.lemmas.List.{map-append, reverse-append, take_more}
use Rattle.cf_tree.specs.DefView.{RawDefTree, raw_def_tree}
use Rattle.cf_tree.specs.declared.raw.Raw.{size-Raw}
use Rattle.cf_tree.specs.declared.raw.RawDef.{RawDef}
use Rattle.cf_help.specs.LastNamed.{backwards, last_named}

-- one function more
backwards_more : (ds : List RawDef) (d : RawDef) → backwards (ds ++ d ∷ []) ≡ raw_def_tree d ∷ backwards ds
backwards_more ds d = ap reverse (map-append raw_def_tree ds (d ∷ [])) ∙ reverse-append (map raw_def_tree ds) (raw_def_tree d ∷ [])

module _ (ds : List RawDef) (n : ℕ) (d : RawDef) (x : List ℕ) (within : n < length ds) where
  pub behind : backwards (take (n + 1) ds) ≡ raw_def_tree (get_or ds n d) ∷ backwards (take n ds)
  behind = ap backwards (take_more ds n d within) ∙ backwards_more (take n ds) (get_or ds n d)

  -- a function of another name is passed over
  pub passed : bytes_eq (get_or ds n d).name x ≡ false → last_named (backwards (take (n + 1) ds)) x ≡ last_named (backwards (take n ds)) x
  passed h =
      ap (λ es. last_named es x) behind
      ∙ ap (λ b. if b then Some (raw_def_tree (get_or ds n d), backwards (take n ds)) else last_named (backwards (take n ds)) x) h

  -- and one of this name is taken
  pub taken_at : bytes_eq (get_or ds n d).name x ≡ true →
      last_named (backwards (take (n + 1) ds)) x ≡ Some (raw_def_tree (get_or ds n d), backwards (take n ds))
  taken_at h =
      ap (λ es. last_named es x) behind
      ∙ ap (λ b. if b then Some (raw_def_tree (get_or ds n d), backwards (take n ds)) else last_named (backwards (take n ds)) x) h

-- from the last on, a function of another name is passed over
pub passed_back : (ds : List RawDef) (n k : ℕ) (d : RawDef) (x : List ℕ) (whole : Option (RawDefTree × List RawDefTree)) → n + 1 ≡ k → k ≤ length ds →
    d ≡ get_or ds n d → bytes_eq d.name x ≡ false → last_named (backwards (take k ds)) x ≡ whole → last_named (backwards (take n ds)) x ≡ whole
passed_back ds n k d x whole more l here h is =
    sym (passed ds n d x (omega (arith, l, more)) (ap (λ e. bytes_eq e.name x) (sym here) ∙ h))
    ∙ ap (λ m. last_named (backwards (take m ds)) x) more ∙ is

-- the first functions, as the program has them
pub cut : (xs : List (Bor RawDef)) (count m : ℕ) → m ≡ min count (length xs) → map (λ d. d.now) (take m xs) ≡ take count (map (λ d. d.now) xs)
cut [] zero zero e = refl
cut [] zero (suc m) e = refl
cut [] (suc n) zero e = refl
cut [] (suc n) (suc m) e = refl
cut (x ∷ xs) zero zero e = refl
cut (x ∷ xs) zero (suc m) e = absurd (omega (arith, e))
cut (x ∷ xs) (suc n) zero e = absurd (omega (arith, e))
cut (x ∷ xs) (suc n) (suc m) e = ap (λ ys. x.now ∷ ys) (cut xs n m (omega (arith, e)))

-- a function among the first, and those before it
pub get_among : {A : Type 0} (ds : List A) (count n : ℕ) (d : A) → n < length (take count ds) → get_or (take count ds) n d ≡ get_or ds n d
get_among [] zero n d l = refl
get_among [] (suc count) n d l = refl
get_among (e ∷ ds) zero n d l = absurd (omega (arith, l))
get_among (e ∷ ds) (suc count) zero d l = refl
get_among (e ∷ ds) (suc count) (suc n) d l = get_among ds count n d (omega (arith, l))

pub take_among : {A : Type 0} (ds : List A) (count n : ℕ) → n < length (take count ds) → take n (take count ds) ≡ take n ds
take_among [] zero n l = refl
take_among [] (suc count) n l = refl
take_among (e ∷ ds) zero n l = absurd (omega (arith, l))
take_among (e ∷ ds) (suc count) zero l = refl
take_among (e ∷ ds) (suc count) (suc n) l = ap (λ es. e ∷ es) (take_among ds count n (omega (arith, l)))

-- the sizes of bodies
abbrev pub sizes : List RawDef → ℕ
sizes [] = 0
sizes (d ∷ ds) = size-Raw d.body + 1 + sizes ds

-- a function and those before it
sizes_at : (ds : List RawDef) (n : ℕ) (d : RawDef) → n < length ds → d ≡ get_or ds n d → size-Raw d.body + 1 + sizes (take n ds) ≤ sizes ds
sizes_at [] n d l is = absurd (omega (arith, l))
sizes_at (c ∷ ds) zero d l is = rw is (omega arith)
sizes_at (c ∷ ds) (suc n) d l is = let h = sizes_at ds n d (omega (arith, l)) is in omega (arith, h)

-- the body of a called function is smaller, by the measure of the walk
pub callee_falls : (ds : List RawDef) (n : ℕ) (d : RawDef) → n < length ds → d ≡ get_or ds n d →
    8 * (size-Raw d.body + sizes (take n ds)) + 2 < 8 * sizes ds + 1
callee_falls ds n d l is = let h = sizes_at ds n d l is in omega (arith, h)
