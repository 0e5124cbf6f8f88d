-- The table of the variables in scope stays right as they come and go.
use Rattle.std.proofs.Common.{◌≡◌, ℕ, suc, ◌+◌, Bool, true, false, cond, List, [], ◌∷◌, ◌++◌, map, length, Option, Some, None, if◌then◌else◌, refl, sym, ap, ◌∙◌, subst, arith, Vec, Global}
use Rattle.std.proofs.lemmas.List.{append-nil, append_assoc, length-append, map-append}
use Rattle.std.specs.Cmp.Lexicographic.{bytes_decides, nat_list_eq_equiv}
use Rattle.std.specs.Map.{lookup, set_value}
use Rattle.std.specs.Str.{bytes_eq}
use Rattle.indexmap.specs.IndexMap.{insert_entry}
use Rattle.cf_tree.specs.declared.raw.Param.{Param}
use Rattle.cf_program.specs.declared.variable.Variable.{Variable}
use Rattle.cf_type.specs.declared.scope.Binding.{Binding}
use Rattle.cf_type.proofs.NameLemmas.{or_outer_assoc}
use Rattle.cf_program.specs.Names.{variable_from, variable_of, or_outer}
use Rattle.cf_type.specs.Scoped.{held, hidden_by, TableAnswer}

abbrev Table : Type 0
Table = List (Vec ℕ Global × Option Variable)

abbrev within : Option (Option Variable) → Option Variable
within None = None
within (Some o) = o

held_is : (es : Table) (x : List ℕ) → held es x ≡ within (lookup (λ k. bytes_eq x k.items) es)
held_is [] x = refl
held_is (e ∷ es) x = by (bytes_eq x e.0.items) (held_is es x)
  where
    by : (b : Bool) → held es x ≡ within (lookup (λ k. bytes_eq x k.items) es) →
        cond b e.1 (held es x) ≡ within (cond b (Some e.1) (lookup (λ k. bytes_eq x k.items) es))
    by true h = refl
    by false h = h

-- what the table gives is the innermost variable
pub none_in_scope : (es : Table) (scope : List Param) (hidden : List (Option Variable)) (x : List ℕ) → None ≡ lookup (λ k. bytes_eq x k.items) es →
    TableAnswer es scope hidden → None ≡ variable_of scope x
none_in_scope es scope hidden x h t = ap within h ∙ sym (held_is es x) ∙ t.innermost x

pub found_in_scope : (es : Table) (scope : List Param) (hidden : List (Option Variable)) (x : List ℕ) (o : Option Variable) →
    Some o ≡ lookup (λ k. bytes_eq x k.items) es → TableAnswer es scope hidden → o ≡ variable_of scope x
found_in_scope es scope hidden x o h t = ap within h ∙ sym (held_is es x) ∙ t.innermost x

-- a name's entry takes another variable
over : (n y x : List ℕ) (w o r : Option Variable) → bytes_eq n y ≡ true → cond (bytes_eq x y) w r ≡ cond (bytes_eq x n) w (cond (bytes_eq x y) o r)
over n y x w o r e = subst (λ z. cond (bytes_eq x y) w r ≡ cond (bytes_eq x z) w (cond (bytes_eq x y) o r)) (sym ((bytes_decides n y).0 e)) (by (bytes_eq x y))
  where
    by : (b : Bool) → cond b w r ≡ cond b w (cond b o r)
    by true = refl
    by false = refl

-- another name's entry keeps its own
past : (n y x : List ℕ) (w o r : Option Variable) → bytes_eq n y ≡ false →
    cond (bytes_eq x y) o (cond (bytes_eq x n) w r) ≡ cond (bytes_eq x n) w (cond (bytes_eq x y) o r)
past n y x w o r e = by (bytes_eq x y) refl (bytes_eq x n) refl
  where
    by : (b : Bool) → bytes_eq x y ≡ b → (c : Bool) → bytes_eq x n ≡ c → cond b o (cond c w r) ≡ cond c w (cond b o r)
    by true f true g =
        let clash : true ≡ false = sym f ∙ ap (λ z. bytes_eq z y) ((bytes_decides x n).0 g) ∙ e in cc
    by true f false g = refl
    by false f true g = refl
    by false f false g = refl

put_held : (es : Table) (k : Vec ℕ Global) (w : Option Variable) (x : List ℕ) →
    held (insert_entry (λ a b. bytes_eq a.items b.items) es k w) x ≡ cond (bytes_eq x k.items) w (held es x)
put_held [] k w x = refl
put_held (e ∷ es) k w x = by (bytes_eq k.items e.0.items) refl (put_held es k w x)
  where
    by : (b : Bool) → bytes_eq k.items e.0.items ≡ b →
        held (insert_entry (λ a b. bytes_eq a.items b.items) es k w) x ≡ cond (bytes_eq x k.items) w (held es x) →
        held (cond b ((e.0, w) ∷ es) (e ∷ insert_entry (λ a b. bytes_eq a.items b.items) es k w)) x ≡ cond (bytes_eq x k.items) w
        (cond (bytes_eq x e.0.items) e.1 (held es x))
    by true f h = over k.items e.0.items x w e.1 (held es x) f
    by false f h = ap (cond (bytes_eq x e.0.items) e.1) h ∙ past k.items e.0.items x w e.1 (held es x) f

set_held : (es : Table) (n : List ℕ) (v : Variable) (w : Option Variable) (x : List ℕ) → held es n ≡ Some v →
    held (set_value (λ k. bytes_eq n k.items) es w) x ≡ cond (bytes_eq x n) w (held es x)
set_held [] n v w x h = cc
set_held (e ∷ es) n v w x h = by (bytes_eq n e.0.items) refl h (set_held es n v w x)
  where
    by : (b : Bool) → bytes_eq n e.0.items ≡ b → cond b e.1 (held es n) ≡ Some v →
        (held es n ≡ Some v → held (set_value (λ k. bytes_eq n k.items) es w) x ≡ cond (bytes_eq x n) w (held es x)) →
        held (cond b ((e.0, w) ∷ es) (e ∷ set_value (λ k. bytes_eq n k.items) es w)) x ≡ cond (bytes_eq x n) w (cond (bytes_eq x e.0.items) e.1 (held es x))
    by true f g later = over n e.0.items x w e.1 (held es x) f
    by false f g later = ap (cond (bytes_eq x e.0.items) e.1) (later g) ∙ past n e.0.items x w e.1 (held es x) f

-- a name that the table does not have changes nothing
pub not_there : (es after : Table) (n : List ℕ) (w : Option Variable) → after ≡ es → None ≡ lookup (λ k. bytes_eq n k.items) es →
    after ≡ set_value (λ k. bytes_eq n k.items) es w
not_there es after n w same h = same ∙ by es h
  where
    by : (es : Table) → None ≡ lookup (λ k. bytes_eq n k.items) es → es ≡ set_value (λ k. bytes_eq n k.items) es w
    by [] h = refl
    by (e ∷ es) h = at (bytes_eq n e.0.items) h (by es)
      where
        at : (b : Bool) → None ≡ cond b (Some e.1) (lookup (λ k. bytes_eq n k.items) es) →
            (None ≡ lookup (λ k. bytes_eq n k.items) es → es ≡ set_value (λ k. bytes_eq n k.items) es w) →
            e ∷ es ≡ cond b ((e.0, w) ∷ es) (e ∷ set_value (λ k. bytes_eq n k.items) es w)
        at true h later = cc
        at false h later = ap (λ r. e ∷ r) (later h)

-- one more variable is the innermost of its name
more_from : (n : ℕ) (ps : List Param) (p : Param) (x : List ℕ) (v : Variable) → v ≡ record { level = n + length ps; base = p.base } →
    variable_from n (ps ++ p ∷ []) x ≡ or_outer (if bytes_eq p.name x then Some v else None) (variable_from n ps x)
more_from n [] p x v same =
    let level : n + 0 ≡ n = omega arith in
    by (bytes_eq p.name x) (sym (same ∙ ap (λ l. record { level = l; base = p.base }) level))
  where
    by : (b : Bool) → record { level = n; base = p.base } ≡ v →
        or_outer None (if b then Some (record { level = n; base = p.base }) else None) ≡ or_outer (if b then Some v else None) None
    by true e = ap (λ u. Some u) e
    by false e = refl
more_from n (q ∷ ps) p x v same =
    let level : n + suc (length ps) ≡ suc n + length ps = omega arith in
    ap (λ o. or_outer o (if bytes_eq q.name x then Some (record { level = n; base = q.base }) else None))
    (more_from (suc n) ps p x v (same ∙ ap (λ l. record { level = l; base = p.base }) level))
    ∙ or_outer_assoc (if bytes_eq p.name x then Some v else None) (variable_from (suc n) ps x)
    (if bytes_eq q.name x then Some (record { level = n; base = q.base }) else None)

more_of : (scope : List Param) (p : Param) (x : List ℕ) (v : Variable) → v ≡ record { level = length scope; base = p.base } →
    variable_of (scope ++ p ∷ []) x ≡ cond (bytes_eq x p.name) (Some v) (variable_of scope x)
more_of scope p x v same =
    let level : length scope ≡ 0 + length scope = omega arith in
    more_from 0 scope p x v (same ∙ ap (λ l. record { level = l; base = p.base }) level) ∙
    by (bytes_eq p.name x) (bytes_eq x p.name) (nat_list_eq_equiv.symm p.name x)
  where
    by : (b c : Bool) → b ≡ c → or_outer (if b then Some v else None) (variable_of scope x) ≡ cond c (Some v) (variable_of scope x)
    by true true e = refl
    by true false e = cc
    by false true e = cc
    by false false e = refl

hides_more : (outer scope : List Param) (p : Param) → hidden_by outer (scope ++ p ∷ []) ≡ hidden_by outer scope ++ variable_of (outer ++ scope) p.name ∷ []
hides_more outer [] p = ap (λ os. variable_of os p.name ∷ []) (sym (append-nil outer))
hides_more outer (q ∷ ps) p =
    ap (λ r. variable_of outer q.name ∷ r) (hides_more (outer ++ q ∷ []) ps p ∙
    ap (λ os. hidden_by (outer ++ q ∷ []) ps ++ variable_of os p.name ∷ []) (append_assoc outer (q ∷ []) ps))

same_length : {A : Type 0} (xs ys : List A) (x y : A) → xs ++ x ∷ [] ≡ ys ++ y ∷ [] → length xs ≡ length ys
same_length xs ys x y e =
    let left = length-append xs (x ∷ []) in
    let right = length-append ys (y ∷ []) in
    let both = ap length e in
    omega (arith, left, right, both)

both_same : {A : Type 0} (xs ys : List A) (x y : A) → length xs ≡ length ys → xs ++ x ∷ [] ≡ ys ++ y ∷ [] → (xs ≡ ys) × (x ≡ y)
both_same [] [] x y n e = (refl, cc)
both_same [] (b ∷ ys) x y n e = cc
both_same (a ∷ xs) [] x y n e = cc
both_same (a ∷ xs) (b ∷ ys) x y n e =
    let first : a ≡ b = cc in
    let shorter : length xs ≡ length ys = cc in
    let more : xs ++ x ∷ [] ≡ ys ++ y ∷ [] = cc in
    let rest = both_same xs ys x y shorter more in
    (ap (λ c. c ∷ xs) first ∙ ap (λ l. b ∷ l) rest.0, rest.1)

table_pushed : (es after : Table) (k : Vec ℕ Global) (p : Param) (v : Variable) (scope : List Param) (hidden : List (Option Variable)) → k.items ≡ p.name →
    v ≡ record { level = length scope; base = p.base } → after ≡ insert_entry (λ a b. bytes_eq a.items b.items) es k (Some v) →
    TableAnswer es scope hidden → TableAnswer after (scope ++ p ∷ []) (hidden ++ variable_of scope p.name ∷ [])
table_pushed es after k p v scope hidden named same put t =
    record {
      innermost = λ x. ap (λ table. held table x) put ∙ put_held es k (Some v) x ∙ ap (λ n. cond (bytes_eq x n) (Some v) (held es x)) named ∙
          ap (cond (bytes_eq x p.name) (Some v)) (t.innermost x) ∙ sym (more_of scope p x v same);
      outer = ap (λ os. os ++ variable_of scope p.name ∷ []) t.outer ∙ sym (hides_more [] scope p);
    }

table_popped : (es after : Table) (p : Param) (h : Option Variable) (scope : List Param) (hidden : List (Option Variable)) →
    after ≡ set_value (λ k. bytes_eq p.name k.items) es h → TableAnswer es (scope ++ p ∷ []) (hidden ++ h ∷ []) → TableAnswer after scope hidden
table_popped es after p h scope hidden put t =
    record {
      innermost = λ x. ap (λ table. held table x) put ∙ set_held es p.name v h x there ∙
          ap (cond (bytes_eq x p.name) h) (t.innermost x ∙ more_of scope p x v refl) ∙ by x (bytes_eq x p.name) refl;
      outer = parts.0;
    }
  where
    listed : hidden ++ h ∷ [] ≡ hidden_by [] scope ++ variable_of scope p.name ∷ []
    listed = t.outer ∙ hides_more [] scope p

    parts : (hidden ≡ hidden_by [] scope) × (h ≡ variable_of scope p.name)
    parts = both_same hidden (hidden_by [] scope) h (variable_of scope p.name) (same_length hidden (hidden_by [] scope) h (variable_of scope p.name) listed)
        listed

    v : Variable
    v = record { level = length scope; base = p.base }

    there : held es p.name ≡ Some v
    there = t.innermost p.name ∙ more_of scope p p.name v refl ∙ ap (λ b. cond b (Some v) (variable_of scope p.name)) (nat_list_eq_equiv.refl p.name)

    by : (x : List ℕ) (b : Bool) → bytes_eq x p.name ≡ b → cond b h (cond b (Some v) (variable_of scope x)) ≡ variable_of scope x
    by x true e = parts.1 ∙ ap (variable_of scope) (sym ((bytes_decides x p.name).0 e))
    by x false e = refl

-- a variable more
pub scope_pushed : (es after : Table) (k : Vec ℕ Global) (bs : List Binding) (b : Binding) (v : Variable) → k.items ≡ b.param.name →
    v ≡ record { level = length (map (λ c. c.param) bs); base = b.param.base } → b.hidden ≡ variable_of (map (λ c. c.param) bs) b.param.name →
    after ≡ insert_entry (λ a b. bytes_eq a.items b.items) es k (Some v) →
    TableAnswer es (map (λ c. c.param) bs) (map (λ c. c.hidden) bs) → TableAnswer after (map (λ c. c.param) (bs ++ b ∷ [])) (map (λ c. c.hidden) (bs ++ b ∷ []))
scope_pushed es after k bs b v named same hides put t =
    let params = map-append (λ (c : Binding). c.param) bs (b ∷ []) in
    let hidden = map-append (λ (c : Binding). c.hidden) bs (b ∷ []) in
    rw (params, hidden, hides) (table_pushed es after k b.param v (map (λ c. c.param) bs) (map (λ c. c.hidden) bs) named same put t)

-- a variable less
pub scope_popped : (es after : Table) (old bs : List Binding) (b : Binding) → old ≡ bs ++ b ∷ [] →
    after ≡ set_value (λ k. bytes_eq b.param.name k.items) es b.hidden → TableAnswer es (map (λ c. c.param) old) (map (λ c. c.hidden) old) →
    TableAnswer after (map (λ c. c.param) bs) (map (λ c. c.hidden) bs)
scope_popped es after old bs b last put t =
    table_popped es after b.param b.hidden (map (λ c. c.param) bs) (map (λ c. c.hidden) bs) put
    (subst (λ ps. TableAnswer es ps (map (λ c. c.hidden) bs ++ b.hidden ∷ []))
    (ap (map (λ c. c.param)) last ∙ map-append (λ (c : Binding). c.param) bs (b ∷ []))
    (subst (λ os. TableAnswer es (map (λ c. c.param) old) os) (ap (map (λ c. c.hidden)) last ∙ map-append (λ (c : Binding). c.hidden) bs (b ∷ [])) t))
