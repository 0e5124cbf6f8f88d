-- What a table of constants has for a name.
use Rattle.std.proofs.Common.{◌≡◌, ℕ, ℤ, Bool, true, false, ◌||◌, cond, List, [], ◌∷◌, ◌++◌, Option, Some, None, is_some, refl, sym, ap, ◌∙◌, Vec, Global}
use Rattle.std.proofs.lemmas.Cmp.{nat_list_eq_equiv}
use Rattle.std.specs.Map.{lookup}
use Rattle.std.specs.Str.{bytes_eq}
use Rattle.indexmap.specs.IndexMap.{insert_entry}
use Rattle.cf_program.specs.Constants.{constant_of, constant_names}
use Rattle.cf_program.specs.Names.{is_among}
use Rattle.cf_type.specs.Valued.{valued, constants_of}

abbrev Table : Type 0
Table = List (Vec ℕ Global × ℤ)

pub constant_is : (es : Table) (x : List ℕ) → constant_of (constants_of (valued es)) x ≡ lookup (λ k. bytes_eq x k.items) es
constant_is [] x = refl
constant_is (e ∷ es) x =
    ap (λ b. cond b (Some e.1) (constant_of (constants_of (valued es)) x)) (nat_list_eq_equiv.symm e.0.items x)
    ∙ ap (cond (bytes_eq x e.0.items) (Some e.1)) (constant_is es x)

named_is : (es : Table) (x : List ℕ) → is_among (constant_names (constants_of (valued es))) x ≡ is_some (lookup (λ k. bytes_eq x k.items) es)
named_is [] x = refl
named_is (e ∷ es) x =
    ap (λ b. b || is_among (constant_names (constants_of (valued es))) x) (nat_list_eq_equiv.symm e.0.items x)
    ∙ ap (λ b. bytes_eq x e.0.items || b) (named_is es x) ∙ by (bytes_eq x e.0.items)
  where
    by : (b : Bool) → (b || is_some (lookup (λ k. bytes_eq x k.items) es)) ≡ is_some (cond b (Some e.1) (lookup (λ k. bytes_eq x k.items) es))
    by true = refl
    by false = refl

pub is_constant : (es : Table) (x : List ℕ) (b : Bool) → b ≡ is_some (lookup (λ k. bytes_eq x k.items) es) →
    b ≡ is_among (constant_names (constants_of (valued es))) x
is_constant es x b h = h ∙ sym (named_is es x)

none_there : (o : Option ℤ) → false ≡ is_some o → o ≡ None
none_there None h = refl
none_there (Some n) h = cc

put_valued : (es : Table) (k : Vec ℕ Global) (i : ℤ) → lookup (λ y. bytes_eq k.items y.items) es ≡ None →
    valued (insert_entry (λ a b. bytes_eq a.items b.items) es k i) ≡ valued es ++ (k.items, i) ∷ []
put_valued [] k i h = refl
put_valued (e ∷ es) k i h = by (bytes_eq k.items e.0.items) h (put_valued es k i)
  where
    by : (b : Bool) → cond b (Some e.1) (lookup (λ y. bytes_eq k.items y.items) es) ≡ None →
        (lookup (λ y. bytes_eq k.items y.items) es ≡ None →
        valued (insert_entry (λ a b. bytes_eq a.items b.items) es k i) ≡ valued es ++ (k.items, i) ∷ []) →
        valued (cond b ((e.0, i) ∷ es) (e ∷ insert_entry (λ a b. bytes_eq a.items b.items) es k i)) ≡ (e.0.items, e.1) ∷ (valued es ++ (k.items, i) ∷ [])
    by true g later = cc
    by false g later = ap (λ r. (e.0.items, e.1) ∷ r) (later g)

-- a new name goes last
pub constant_added : (es after : Table) (k : Vec ℕ Global) (x : List ℕ) (i : ℤ) → k.items ≡ x → is_among (constant_names (constants_of (valued es))) x ≡ false →
    after ≡ insert_entry (λ a b. bytes_eq a.items b.items) es k i → valued after ≡ valued es ++ (x, i) ∷ []
constant_added es after k x i same new put =
    let none : lookup (λ y. bytes_eq x y.items) es ≡ None = none_there (lookup (λ y. bytes_eq x y.items) es) (sym new ∙ named_is es x) in
    ap valued put ∙ put_valued es k i (ap (λ y. lookup (λ z. bytes_eq y z.items) es) same ∙ none) ∙ ap (λ y. valued es ++ (y, i) ∷ []) same
