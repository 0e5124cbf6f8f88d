-- The parameters of a choose: their columns, names and sizes.
use Rattle.std.proofs.Common.{◌≡◌, ℕ, zero, suc, ◌+◌, ◌-◌, ◌^◌, ◌<◌, ◌≤◌, ◌==◌, ℤ, List, [], ◌∷◌, ◌++◌, ◌⊎◌, inl, inr, ⊎_elim, length, get_or, map, refl, sym, ap, subst, arith, ◌∙◌, append-nil}
use Rattle.std.specs.Prelude.{true, false, unsigned_abs, filter, Bool, nat_le}
use Rattle.std.specs.List.{fold}
use Rattle.std.proofs.lemmas.Bool.{cond_both, eqb-true, eqb-false, leb-true, leb-false}
use Rattle.std.proofs.lemmas.Nat.{pow_pos}
use Rattle.cf_tree.specs.declared.base.Base.{Base}
use Rattle.cf_tree.specs.RelTree.{RelTree}
use Rattle.cf_tree.specs.Values.{Value, elements, number_of, value_at, HaveBases}
use Rattle.cf_linear.specs.Arm.{level_of, ArmBuilder, let_region}
use Rattle.cf_linear.specs.Keep.{In}
use Rattle.cf_linear.specs.Layout.{Layout, layout_of, place, number_column, input_column, known_count}
use Rattle.cf_linear.proofs.BoolLemmas.{on_bool}
use Rattle.cf_linear.proofs.KindLemmas.{In-right, In-left}
use Rattle.cf_choose.specs.CaseArms.{parameter_names}
use Rattle.cf_choose.proofs.ColumnNames.{has-In, In-at, named_parameter, parameter_named, column_is, place-within}
use Rattle.cf_choose.proofs.ArmBuilderLemmas.{Agrees}
use Rattle.cf_choose.proofs.RowCodes.{named, HasName}
use Rattle.cf_venn.specs.Codes.{HoldsInputs}
use Rattle.cf_venn.specs.Columns.{known_values}
use Rattle.cf_venn.proofs.ColumnLaws.{number_known}
use Rattle.cf_venn.proofs.KnownLaws.{place_at, parameters_known}
use Rattle.cf_venn.proofs.LevelLaws.{is_layout}
use Rattle.cf_growth.specs.Reaching.{size_of, parameters_size}
use Rattle.cf_growth.proofs.SizeLaws.{number_size, size_in, level_in}

pub In-unpassed : (x : ℕ) (p : ℕ → Bool) (xs : List ℕ) → In x (filter p xs) → In x xs
In-unpassed x p [] i = i
In-unpassed x p (y ∷ xs) i =
    cond_both (p y) (y ∷ filter p xs) (filter p xs) (λ ys. In x ys → In x (y ∷ xs)) (λ _ j. ⊎_elim (λ e. inl e) (λ k. inr (In-unpassed x p xs k)) j)
    (λ _ j. inr (In-unpassed x p xs j)) i

module _ (scope outputs : List Base) (rel : RelTree) where
  abbrev l : Layout
  l = layout_of scope outputs rel

  pub parameter_column : (d : ℕ) → In d (named (parameter_names l)) → (1 ≤ d) × (d < known_count l)
  parameter_column d i =
      let p = named_parameter l d l.numbers i in
      let e = p.2 ∙ column_is l p.0 p.1 in
      let w = place-within p.0 l.numbers p.1 in
      let s = pow_pos (length l.inputs) in
      (omega arith, omega arith)

  -- a known column is the constant, that of a parameter, or the count of an input region
  pub known_column : (c : ℕ) → c < known_count l →
      (c ≡ 0) ⊎ (In c (named (parameter_names l)) ⊎ ((m : ℕ) × (1 ≤ m) × (m < 2 ^ length l.inputs) × (input_column l m ≡ c)))
  known_column zero h = inl refl
  known_column (suc i) h = inr (on_bool (nat_le (suc i) (length l.numbers)) (λ t. inl (by_place (few t))) (λ t. let q = many t in
      inr (suc i - length l.numbers, q.0, q.1, q.2)))
    where
      few : nat_le (suc i) (length l.numbers) ≡ true → suc i ≤ length l.numbers
      few t = leb-true (suc i) (length l.numbers) t

      many : nat_le (suc i) (length l.numbers) ≡ false →
          (1 ≤ suc i - length l.numbers) × (suc i - length l.numbers < 2 ^ length l.inputs) × (input_column l (suc i - length l.numbers) ≡ suc i)
      many t = let g = leb-false (suc i) (length l.numbers) t in (omega arith, omega arith, omega arith)

      by_place : suc i ≤ length l.numbers → In (suc i) (named (parameter_names l))
      by_place g =
          let j = In-at l.numbers i (omega arith) in
          let x = get_or l.numbers i 0 in
          let e : number_column l x ≡ suc i = column_is l x j ∙ ap (λ n. 1 + n) (place_at 0 l.numbers i (is_layout scope outputs rel).numbers_up (omega arith)).1 ∙ omega arith in
          subst (λ d. In d (named (parameter_names l))) e (parameter_named l x l.numbers j)

  -- a parameter's column and the level that it names
  level_column : (c : ℕ) (xs : List ℕ) → In c (named (map (λ x. (number_column l x, x)) xs)) →
      number_column l (level_of (map (λ x. (number_column l x, x)) xs) c) ≡ c
  level_column c [] i = absurd i
  level_column c (y ∷ xs) i =
      cond_both (number_column l y == c) y (level_of (map (λ x. (number_column l x, x)) xs) c) (λ z. number_column l z ≡ c)
      (λ t. eqb-true (number_column l y) c t)
      (λ t. level_column c xs (⊎_elim (λ e. absurd (eqb-false (number_column l y) c t (sym e))) (λ j. j) i))

  pub parameter_value : (env : List Value) (c : ℕ) → In c (named (parameter_names l)) →
      known_values l env c ≡ number_of (value_at env (level_of (parameter_names l) c))
  parameter_value env c i =
      let x = level_of (parameter_names l) c in
      let j = level_in l c l.numbers i in
      let e : 1 + place x l.numbers ≡ c = sym (column_is l x j) ∙ level_column c l.numbers i in
      ap (known_values l env) (sym e) ∙ (number_known l env x (has-In x l.numbers j)).1

  pub parameters_agree : (env : List Value) → Agrees (parameter_names l) env (known_values l env)
  parameters_agree env c h = on_bool (c == 0) (λ t. rw (t, eqb-true c 0 t) refl) (λ t. rw t (sym (parameter_value env c (named_unless h t))))
    where
      named_unless : HasName (parameter_names l) c → c == 0 ≡ false → In c (named (parameter_names l))
      named_unless (inl z) t = absurd (eqb-false c 0 t z)
      named_unless (inr i) t = i

  pub inputs_held : (env : List Value) → HaveBases scope env → HoldsInputs l env
  inputs_held env have = subst (λ e. HoldsInputs l e) (append-nil env) (parameters_known scope outputs rel [] env [] have refl).0

  pub input_small : (env : List Value) (x : ℕ) (zs : List ℤ) → In x l.inputs → value_at env x ≡ elements zs → length zs ≤ 1 + parameters_size l env
  input_small env x zs i e =
      let h = size_in x (l.numbers ++ l.inputs) env (In-right x l.numbers l.inputs i) in
      let s : size_of (value_at env x) ≡ length zs = ap size_of e in
      omega arith

  pub parameter_small : (env : List Value) (c : ℕ) → In c (named (parameter_names l)) → unsigned_abs (known_values l env c) ≤ 1 + parameters_size l env
  parameter_small env c i =
      let x = level_of (parameter_names l) c in
      let k = size_in x (l.numbers ++ l.inputs) env (In-left x l.numbers l.inputs (level_in l c l.numbers i)) in
      let s = number_size (value_at env x) in
      let e : unsigned_abs (known_values l env c) ≡ unsigned_abs (number_of (value_at env x)) = ap unsigned_abs (parameter_value env c i) in
      omega arith

-- ---- names of the counts of regions
pub regions_keep : (l : Layout) (ms : List ℕ) (k : ArmBuilder) (c : ℕ) → HasName k.names c → HasName (fold (let_region l) k ms).names c
regions_keep l [] k c h = h
regions_keep l (m ∷ ms) k c (inl z) = regions_keep l ms (let_region l k m) c (inl z)
regions_keep l (m ∷ ms) k c (inr i) = regions_keep l ms (let_region l k m) c (inr (inr i))

pub regions_name : (l : Layout) (ms : List ℕ) (k : ArmBuilder) (m : ℕ) → In m ms → HasName (fold (let_region l) k ms).names (input_column l m)
regions_name l [] k m i = absurd i
regions_name l (d ∷ ms) k m (inl e) = regions_keep l ms (let_region l k d) (input_column l m) (inr (inl (ap (input_column l) e)))
regions_name l (d ∷ ms) k m (inr i) = regions_name l ms (let_region l k d) m i
