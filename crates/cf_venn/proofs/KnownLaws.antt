-- After the lets of the regions, the known columns have the values of the parameters.
use Rattle.std.proofs.Common.{◌≡◌, inl, inr, ℕ, zero, suc, ◌+◌, ◌-◌, ◌<◌, ◌≤◌, ◌==◌, pos, true, false, List, [], ◌∷◌, ◌++◌, length, get_or, map, refl, sym}
use Rattle.std.proofs.Common.{◌∙◌, ap, arith}
use Rattle.std.specs.List.{fold}
use Rattle.std.proofs.lemmas.Bool.{cases_lt, eqb-true, eqb-false, ne_eqb}
use Rattle.std.proofs.lemmas.List.{length-append}
use Rattle.std.proofs.Math.ListN.{get_or-append}
use Rattle.cf_tree.specs.declared.base.Base.{Base}
use Rattle.cf_tree.specs.declared.base.Base.TheVariants.{Int, Bool as Truth, Set}
use Rattle.cf_tree.specs.RelTree.{RelTree}
use Rattle.cf_tree.specs.Values.{Value, number, elements_of, number_of, value_at, HasBase, HaveBases}
use Rattle.cf_tree.proofs.SetLemmas.{on_bool}
use Rattle.cf_linear.specs.Arm.{ColumnLevels, level_of, let_region, begun, search_names}
use Rattle.cf_linear.specs.Layout.{Layout, layout_of, is_set, masks, place, has_level, known_count, number_column}
use Rattle.cf_linear.specs.Layout.{input_column}
use Rattle.cf_venn.specs.Codes.{HoldsInputs}
use Rattle.cf_venn.specs.Columns.{known_values}
use Rattle.cf_venn.specs.Lets.{region_values, ParametersKnown}
use Rattle.cf_venn.specs.Masks.{sets_at}
use Rattle.cf_venn.proofs.AgreeLaws.{at_place, place_later}
use Rattle.cf_venn.proofs.ColumnLaws.{number_known, input_known}
use Rattle.cf_venn.proofs.LetLaws.{region_lets_lead}
use Rattle.cf_venn.proofs.LevelLaws.{Up, up_has, same_level, same_each, base_at, length_have, is_layout}

-- ---- sets among parameters
set_value : (b : Base) (v : Value) → is_set b ≡ true → HasBase b v → HasBase Set v
set_value Int v e h = cc
set_value Truth v e h = cc
set_value Set v e h = h

set_at : (bs : List Base) (vs : List Value) (i : ℕ) → HaveBases bs vs → base_at is_set bs i ≡ true → HasBase Set (value_at vs i)
set_at [] vs i h e = absurd (cc)
set_at (b ∷ bs) [] i h e = absurd h
set_at (b ∷ bs) (v ∷ vs) zero h e = set_value b v e h.0
set_at (b ∷ bs) (v ∷ vs) (suc i) h e = set_at bs vs i h.1 e

-- ---- a level of a list and its place
pub place_at : (lo : ℕ) (xs : List ℕ) (i : ℕ) → Up lo xs → i < length xs → (has_level xs (get_or xs i 0) ≡ true) × (place (get_or xs i 0) xs ≡ i)
place_at lo [] i u h = absurd (omega arith)
place_at lo (x ∷ xs) zero u h = (rw (same_level x) refl, rw (same_level x) refl)
place_at lo (x ∷ xs) (suc i) u h =
    let k = place_at (suc x) xs i u.1 (omega arith) in
    let l = up_has (suc x) xs (get_or xs i 0) u.1 k.0 in
    let n : (x == get_or xs i 0) ≡ false = ne_eqb x (get_or xs i 0) (λ e. omega arith) in
    (rw (n, k.0) refl, place_later (get_or xs i 0) x xs n ∙ ap suc k.1)

place_once : (xs : List ℕ) (x y : ℕ) → has_level xs x ≡ true → has_level xs y ≡ true → place y xs ≡ place x xs → y ≡ x
place_once xs x y h k e = sym (at_place (λ z. z) 0 xs y k) ∙ ap (λ i. get_or (map (λ z. z) xs) i 0) e ∙ at_place (λ z. z) 0 xs x h

level_found : (f : ℕ → ℕ) (xs : List ℕ) (x : ℕ) (rest : ColumnLevels) → has_level xs x ≡ true → ((y : ℕ) → has_level xs y ≡ true → f y ≡ f x → y ≡ x) →
    level_of (map (λ z. (f z, z)) xs ++ rest) (f x) ≡ x
level_found f [] x rest h once = absurd (cc)
level_found f (y ∷ ys) x rest h once = on_bool (f y == f x)
    (λ t. rw t (once y (rw (same_level y) refl) (eqb-true (f y) (f x) t)))
    (λ t.
    let other : (y == x) ≡ false = ne_eqb y x (λ e. eqb-false (f y) (f x) t (ap f e)) in
    rw t (level_found f ys x rest (rw other at h) (λ z k e. once z (on_bool (y == z) (λ i. rw i refl) (λ i. rw (i, k) refl)) e)))

same_places : (i j c d : ℕ) → c ≡ 1 + i → d ≡ 1 + j → c ≡ d → i ≡ j
same_places i j c d e f g = omega arith

module _ (scope outs : List Base) (rel : RelTree) (bounds : List (ℕ × ℕ)) (env ks : List Value) (have : HaveBases scope env)
    (long : length ks ≡ length bounds) where
  l : Layout
  l = layout_of scope outs rel

  inputs_held : HoldsInputs l (env ++ ks)
  unfolding l
  inputs_held x h =
      let layout = is_layout scope outs rel in
      let i = layout.inputs x h in
      let n = length_have scope env have in
      let s : HasBase Set (value_at env x) = set_at scope env x have (layout.input_is x h) in
      (s.0, get_or-append env ks (number (pos 0)) x (omega arith) ∙ s.1, s.2)

  inputs_same : sets_at (env ++ ks) l.inputs ≡ sets_at env l.inputs
  unfolding l
  inputs_same =
      let n = length_have scope env have in
      same_each (λ x. elements_of (value_at (env ++ ks) x)) (λ x. elements_of (value_at env x)) (layout_of scope outs rel).inputs
      (λ x h. let i = (is_layout scope outs rel).inputs x h in ap elements_of (get_or-append env ks (number (pos 0)) x (omega arith)))

  after : List Value
  after = (env ++ ks) ++ region_values (sets_at env l.inputs) (masks (length l.inputs))

  known_named : (c : ℕ) → 1 ≤ c → c < known_count l → number_of (value_at after
      (level_of (fold (let_region l) (begun l bounds) (masks (length l.inputs))).names c)) ≡ known_values l env c
  unfolding l after
  known_named c a b =
      let n = length_have scope env have in
      let layout = is_layout scope outs rel in
      let length_e = length-append env ks in
      let lets = region_lets_lead scope outs rel (begun l bounds) (env ++ ks) inputs_held (omega arith) (omega arith) in
      let names = (fold (let_region l) (begun l bounds) (masks (length l.inputs))).names in
      elim (cases_lt (length l.numbers) c) as (λ _. number_of (value_at after (level_of names c)) ≡ known_values l env c) [
        | inl g ↦ (
            let m = c - length l.numbers in
            let column : input_column l m ≡ c = omega arith in
            let k = input_known l env m (omega arith) (omega arith) in
            ap (λ ss. number_of (value_at ((env ++ ks) ++ region_values ss (masks (length l.inputs))) (level_of names c))) (sym inputs_same)
            ∙ ap (λ d. number_of (value_at ((env ++ ks) ++ region_values (sets_at (env ++ ks) l.inputs) (masks (length l.inputs))) (level_of names d)))
            (sym column)
            ∙ ap number_of (lets.counts m (omega arith) (omega arith))
            ∙ ap (λ ss. number_of (value_at (region_values ss (m ∷ [])) 1)) inputs_same
            ∙ sym k.1
            ∙ ap (known_values l env) column
            )
        | inr g ↦ (
            let i = c - 1 in
            let x = get_or l.numbers i 0 in
            let p = place_at 0 l.numbers i layout.numbers_up (omega arith) in
            let first = layout.numbers x p.0 in
            let column : number_column l x ≡ c = rw p.0 (ap (λ j. 1 + j) p.1 ∙ omega arith) in
            let found : level_of names c ≡ x =
            lets.others c (λ m h j e. omega arith)
            ∙ ap (level_of (begun l bounds).names) (sym column)
            ∙ level_found (number_column l) l.numbers x (search_names l.scope bounds) p.0
            (λ y h e. place_once l.numbers x y p.0 h (same_places (place y l.numbers) (place x l.numbers) (number_column l y) (number_column l x)
            (rw h refl) (rw p.0 refl) e)) in
            let there : value_at after x ≡ value_at env x =
            get_or-append (env ++ ks) (region_values (sets_at env l.inputs) (masks (length l.inputs))) (number (pos 0)) x (omega arith) ∙
            get_or-append env ks (number (pos 0)) x (omega arith) in
            let k = number_known l env x p.0 in
            ap (λ j. number_of (value_at after j)) found ∙ ap number_of there ∙ sym k.1 ∙ ap (known_values l env) (ap (λ j. 1 + j) p.1 ∙ omega arith)
            )
      ]

  both : HoldsInputs (layout_of scope outs rel) (env ++ ks)
      × ((c : ℕ) → 1 ≤ c → c < known_count (layout_of scope outs rel) →
      number_of (value_at ((env ++ ks) ++ region_values (sets_at env (layout_of scope outs rel).inputs) (masks (length (layout_of scope outs rel).inputs)))
      (level_of (fold (let_region (layout_of scope outs rel)) (begun (layout_of scope outs rel) bounds)
      (masks (length (layout_of scope outs rel).inputs))).names c)) ≡ known_values (layout_of scope outs rel) env c)
  unfolding l after
  both = (inputs_held, known_named)

pub parameters_known : ParametersKnown
parameters_known scope outs rel bounds env ks have long = both scope outs rel bounds env ks have long
