-- Which variables are parameters, and where the variables of a choose stand in a question.
use Rattle.std.proofs.Common.{inl, inr, ◌≡◌, ◌⊎◌, ℕ, zero, suc, ◌+◌, ◌-◌, ◌<◌, ◌≤◌, ◌==◌, Bool, true, false, cond, ◌||◌, Some, List, [], ◌∷◌, ◌++◌, length, get_or, slice_get, map, filter, refl, sym, ap, ap₂, ◌∙◌, append_assoc, append-nil, arith}
use Rattle.std.specs.Prelude.{nat_lt}
use Rattle.std.specs.List.{range_with_len}
use Rattle.std.proofs.lemmas.Bool.{cond_both, lt-ltb, le-ltb, eq-eqb, eqb-true, cases_lt}
use Rattle.std.proofs.lemmas.List.{length-map}
use Rattle.std.proofs.lemmas.Option.{slice_get_within, slice_get-get_or}
use Rattle.cf_tree.specs.declared.base.Base.{Base}
use Rattle.cf_tree.specs.declared.base.Base.TheVariants.{Int, Set}
use Rattle.cf_tree.specs.Occurs.{set_holds, term_holds, rel_holds}
use Rattle.cf_tree.specs.Relation.{IsTypedSet, IsTypedTerm, IsTyped}
use Rattle.cf_tree.specs.RelTree.{SetTree, empty_set, set_var, union_of, inter_of, diff_of, TermTree, term_lit, term_var, term_card, term_neg, term_add, term_sub, term_mul, term_div, term_mod, term_abs, RelTree, rel_true, rel_false, rel_compare, rel_same_set, rel_other_set, rel_subset, rel_divides, rel_and, rel_or, rel_not}
use Rattle.cf_tree.proofs.SetLemmas.{on_bool}
use Rattle.cf_linear.specs.Layout.{Layout, is_number, is_set, levels_with, layout_of, place, has_level}
use Rattle.cf_linear.proofs.ColumnLemmas.{has_below, has_not}
use Rattle.cf_linear.proofs.PassingLemmas.{or_left, or_right}
use Rattle.cf_cases.specs.Holding.{EachOf}
use Rattle.cf_cases.proofs.PlacedLaws.{has_filtered}
use Rattle.cf_venn.proofs.AgreeLaws.{at_place}
use Rattle.cf_venn.proofs.ColumnLaws.{place_within}
use Rattle.cf_venn.proofs.LevelLaws.{base_at as passes_at, level_has}
use Rattle.cf_warn.specs.Questions.{parameters, level_in}
use Rattle.cf_warn.specs.Writing.{is_parameter}

-- ---- variables that occur
on_or : {P : Type 0} (a b : Bool) → (a || b) ≡ true → (a ≡ true → P) → (b ≡ true → P) → P
on_or true b e f g = f refl
on_or false b e f g = g e

-- the variable is a number or a set
abbrev pub IsHeld : List Base → ℕ → Type 0
IsHeld scope x = (slice_get scope x ≡ Some Int) ⊎ (slice_get scope x ≡ Some Set)

module _ (scope : List Base) (x : ℕ) where
  held_set : (s : SetTree) → IsTypedSet scope s → set_holds x s ≡ true → IsHeld scope x
  held_set empty_set t h = absurd (cc)
  held_set (set_var y) t h = inr (ap (slice_get scope) (eqb-true x y h) ∙ t)
  held_set (union_of a b) t h = on_or (set_holds x a) (set_holds x b) h (held_set a t.0) (held_set b t.1)
  held_set (inter_of a b) t h = on_or (set_holds x a) (set_holds x b) h (held_set a t.0) (held_set b t.1)
  held_set (diff_of a b) t h = on_or (set_holds x a) (set_holds x b) h (held_set a t.0) (held_set b t.1)

  held_term : (t : TermTree) → IsTypedTerm scope t → term_holds x t ≡ true → IsHeld scope x
  held_term (term_lit n) t h = absurd (cc)
  held_term (term_var y) t h = inl (ap (slice_get scope) (eqb-true x y h) ∙ t)
  held_term (term_card s) t h = held_set s t h
  held_term (term_neg a) t h = held_term a t h
  held_term (term_add a b) t h = on_or (term_holds x a) (term_holds x b) h (held_term a t.0) (held_term b t.1)
  held_term (term_sub a b) t h = on_or (term_holds x a) (term_holds x b) h (held_term a t.0) (held_term b t.1)
  held_term (term_mul a b) t h = on_or (term_holds x a) (term_holds x b) h (held_term a t.0) (held_term b t.1)
  held_term (term_div a k) t h = held_term a t.0 h
  held_term (term_mod a k) t h = held_term a t.0 h
  held_term (term_abs a) t h = held_term a t h

  -- each variable that occurs in a typed relation is a number or a set
  pub held_rel : (r : RelTree) → IsTyped scope r → rel_holds x r ≡ true → IsHeld scope x
  held_rel rel_true t h = absurd (cc)
  held_rel rel_false t h = absurd (cc)
  held_rel (rel_compare o a b) t h = on_or (term_holds x a) (term_holds x b) h (held_term a t.0) (held_term b t.1)
  held_rel (rel_same_set a b) t h = on_or (set_holds x a) (set_holds x b) h (held_set a t.0) (held_set b t.1)
  held_rel (rel_other_set a b) t h = on_or (set_holds x a) (set_holds x b) h (held_set a t.0) (held_set b t.1)
  held_rel (rel_subset a b) t h = on_or (set_holds x a) (set_holds x b) h (held_set a t.0) (held_set b t.1)
  held_rel (rel_divides k u) t h = held_term u t.1 h
  held_rel (rel_and a b) t h = on_or (rel_holds x a) (rel_holds x b) h (held_rel a t.0) (held_rel b t.1)
  held_rel (rel_or a b) t h = on_or (rel_holds x a) (rel_holds x b) h (held_rel a t.0) (held_rel b t.1)
  held_rel (rel_not a) t h = held_rel a t h

pub held_within : (scope : List Base) (x : ℕ) → IsHeld scope x → x < length scope
held_within scope x h = elim h [ inl e ↦ slice_get_within scope x Int e | inr e ↦ slice_get_within scope x Set e ]

-- ---- lists
pub slice_get-early : {A : Type 0} (xs ys : List A) (i : ℕ) → i < length xs → slice_get (xs ++ ys) i ≡ slice_get xs i
slice_get-early [] ys i h = absurd (omega arith)
slice_get-early (x ∷ xs) ys zero h = refl
slice_get-early (x ∷ xs) ys (suc i) h = slice_get-early xs ys i (omega arith)

pub slice_get-behind : {A : Type 0} (xs ys : List A) (i : ℕ) → slice_get (xs ++ ys) (length xs + i) ≡ slice_get ys i
slice_get-behind [] ys i = ap (slice_get ys) (omega arith)
slice_get-behind (x ∷ xs) ys i =
    let s : suc (length xs) + i ≡ suc (length xs + i) = omega arith in
    ap (slice_get (x ∷ (xs ++ ys))) s ∙ slice_get-behind xs ys i

pub not_filtered : (q : ℕ → Bool) (xs : List ℕ) (x : ℕ) → q x ≡ false → has_level (filter q xs) x ≡ false
not_filtered q [] x h = refl
not_filtered q (y ∷ ys) x h =
    cond_both (q y) (y ∷ filter q ys) (filter q ys) (λ zs. has_level zs x ≡ false)
    (λ t. on_bool (y == x) (λ e. let s : q x ≡ true = sym (ap q (eqb-true y x e)) ∙ t in absurd (cc)) (λ e. rw (e, not_filtered q ys x h) refl))
    (λ _. not_filtered q ys x h)

has_range : (a n x : ℕ) → a ≤ x → x < a + n → has_level (range_with_len a n) x ≡ true
has_range a zero x h k = absurd (omega arith)
has_range a (suc n) x h k = on_bool (a == x)
    (λ e. rw e refl)
    (λ e. elim (cases_lt a x) [
      | inl l ↦ rw (e, has_range (a + 1) n x (omega arith) (omega arith)) refl
      | inr l ↦ let s : a ≡ x = omega arith in
          let t : (a == x) ≡ true = eq-eqb a x s in
          absurd (cc)
    ])

filter_same : (p q : ℕ → Bool) (a n : ℕ) → ((x : ℕ) → a ≤ x → x < a + n → p x ≡ q x) → filter p (range_with_len a n) ≡ filter q (range_with_len a n)
filter_same p q a zero h = refl
filter_same p q a (suc n) h = rw (h a (omega arith) (omega arith), filter_same p q (a + 1) n (λ x k l. h x (omega arith) (omega arith))) refl

passes_from : (p : Base → Bool) (bs : List Base) (i : ℕ) (b : Base) → slice_get bs i ≡ Some b → p b ≡ true → passes_at p bs i ≡ true
passes_from p [] i b h e = absurd (cc)
passes_from p (c ∷ bs) zero b h e = let s : c ≡ b = cc in ap p s ∙ e
passes_from p (c ∷ bs) (suc i) b h e = passes_from p bs i b h e

-- ---- parameters
pub place_decides : (x : ℕ) (xs : List ℕ) → nat_lt (place x xs) (length xs) ≡ has_level xs x
place_decides x xs = elim (cases_lt (place x xs) (length xs)) [
  | inl l ↦ lt-ltb (place x xs) (length xs) l ∙ sym (has_below x xs l)
  | inr l ↦ le-ltb (place x xs) (length xs) l ∙ sym (has_not x xs l)
]

added : (out next rest whole : List ℕ) (x : ℕ) (p t : Bool) → t ≡ p → next ≡ out ++ cond t (x ∷ []) [] → out ++ cond p (x ∷ rest) rest ≡ whole →
    next ++ rest ≡ whole
added out next rest whole x true true e n h = rw (n, append_assoc out (x ∷ []) rest) h
added out next rest whole x false false e n h = rw (n, append-nil out) h
added out next rest whole x true false e n h = absurd (cc)
added out next rest whole x false true e n h = absurd (cc)

-- one level more
pub levels_more : (p : ℕ → Bool) (n i : ℕ) (t : Bool) (out next whole : List ℕ) → i < n → t ≡ p i → next ≡ out ++ cond t (i ∷ []) [] →
    out ++ filter p (range_with_len i (n - i)) ≡ whole → next ++ filter p (range_with_len (i + 1) (n - (i + 1))) ≡ whole
levels_more p n i t out next whole h te ne inv =
    let e : n - i ≡ suc (n - (i + 1)) = omega arith in
    added out next (filter p (range_with_len (i + 1) (n - (i + 1)))) whole i (p i) t te ne (rw e at inv)

module _ (scope outputs : List Base) (rel : RelTree) where
  -- a level in scope is that of a parameter of the layout exactly where the variable occurs
  occurs : IsTyped (scope ++ outputs) rel → (x : ℕ) → x < length scope → is_parameter (layout_of scope outputs rel) x ≡ rel_holds x rel
  occurs typed x l =
      let q : ℕ → Bool = λ y. rel_holds y rel in
      let numbers = levels_with is_number 0 scope in
      let sets = levels_with is_set 0 scope in
      let early = slice_get-early scope outputs x l in
      let z : 0 + x ≡ x = omega arith in
      let number_has = ap (has_level numbers) (sym z) ∙ level_has is_number 0 scope x in
      let set_has = ap (has_level sets) (sym z) ∙ level_has is_set 0 scope x in
      on_bool (rel_holds x rel)
      (λ e. elim (held_rel (scope ++ outputs) x rel typed e) [
        | inl k ↦ let has = has_filtered q numbers x (number_has ∙ passes_from is_number scope x Int (sym early ∙ k) refl) e in
            or_left (has_level (filter q numbers) x) (has_level (filter q sets) x) has ∙ sym e
        | inr k ↦ let has = has_filtered q sets x (set_has ∙ passes_from is_set scope x Set (sym early ∙ k) refl) e in
            or_right (has_level (filter q numbers) x) (has_level (filter q sets) x) has ∙ sym e
      ])
      (λ e. ap₂ (λ a b. a || b) (not_filtered q numbers x e) (not_filtered q sets x e) ∙ sym e)

  -- the parameters by the layout
  pub parameters_are : (l : Layout) → IsTyped (scope ++ outputs) rel → l ≡ layout_of scope outputs rel →
      filter (is_parameter l) (range_with_len 0 l.scope) ≡ parameters scope rel
  parameters_are l typed e =
      ap (λ k. filter (is_parameter k) (range_with_len 0 k.scope)) e
      ∙ filter_same (is_parameter (layout_of scope outputs rel)) (λ x. rel_holds x rel) 0 (length scope) (λ x k h. occurs typed x (omega arith))

-- a variable that occurs is a parameter
pub has_parameter : (scope : List Base) (rel : RelTree) (x : ℕ) → x < length scope → rel_holds x rel ≡ true → has_level (parameters scope rel) x ≡ true
has_parameter scope rel x l e = has_filtered (λ y. rel_holds y rel) (range_with_len 0 (length scope)) x
    (has_range 0 (length scope) x (omega arith) (omega arith)) e

-- what each level that passes has
pub each_filtered : (P : ℕ → Type 0) (q : ℕ → Bool) (a n : ℕ) → ((x : ℕ) → x < a + n → q x ≡ true → P x) → EachOf P (filter q (range_with_len a n))
each_filtered P q a zero h = tt
each_filtered P q a (suc n) h =
    let more = each_filtered P q (a + 1) n (λ x k e. h x (omega arith) e) in
    cond_both (q a) (a ∷ filter q (range_with_len (a + 1) n)) (filter q (range_with_len (a + 1) n)) (λ xs. EachOf P xs) (λ e. (h a (omega arith) e, more))
    (λ _. more)

-- ---- levels in a question
-- a list of what the parameters have, of other things, of what the outputs have, and of more: what stands there at the level of a variable
pub at_level : {A : Type 0} (d : A) (whole front outs back : List A) (params : List ℕ) (n gap x : ℕ) → length whole ≡ n → (x < n → has_level params x ≡ true) →
    x < n + length outs → length front ≡ gap →
    slice_get (map (λ y. get_or whole y d) params ++ (front ++ (outs ++ back))) (level_in n params gap x) ≡ slice_get (whole ++ outs) x
at_level {A = A} d whole front outs back params n gap x size has within long =
    let f : ℕ → A = λ y. get_or whole y d in
    let rest = front ++ (outs ++ back) in
    let count = length-map params f in
    elim (cases_lt x n) [
      | inl l ↦
          let h = has l in
          let p = place_within x params h in
          let found : slice_get (map f params ++ rest) (place x params) ≡ slice_get (whole ++ outs) x =
          slice_get-early (map f params) rest (place x params) (omega arith)
          ∙ slice_get-get_or (map f params) (place x params) d (omega arith)
          ∙ ap (λ y. Some y) (at_place f d params x h)
          ∙ sym (slice_get-get_or whole x d (omega arith))
          ∙ sym (slice_get-early whole outs x (omega arith)) in
          rw (lt-ltb x n l) found
      | inr l ↦
          let i = x - n in
          let e : length params + gap + i ≡ length (map f params) + (length front + i) = omega arith in
          let o : length whole + i ≡ x = omega arith in
          let found : slice_get (map f params ++ rest) (length params + gap + i) ≡ slice_get (whole ++ outs) x =
          ap (slice_get (map f params ++ rest)) e
          ∙ slice_get-behind (map f params) rest (length front + i)
          ∙ slice_get-behind front (outs ++ back) i
          ∙ slice_get-early outs back i (omega arith)
          ∙ sym (slice_get-behind whole outs i)
          ∙ ap (slice_get (whole ++ outs)) o in
          rw (le-ltb x n l) found
    ]
