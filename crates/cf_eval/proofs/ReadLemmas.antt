-- The steps of a reader of lines.
use Rattle.std.proofs.Common.{◌≡◌, ◌⊎◌, inl, inr, ℕ, ℤ, ◌+◌, ◌<◌, ◌≤◌, Bool, true, false, cond, List, [], ◌∷◌, ◌++◌, length, take, drop, refl, arith, eqb, not, Some, None, get_or, one-add, if◌then◌else◌}
use Rattle.std.specs.List.{list_all, prefix_len, slice_split, onto_first}
use Rattle.std.proofs.Math.ListN.{drop_of_length-le}
use Rattle.std.proofs.lemmas.List.{drop_more}
use Rattle.std.proofs.lemmas.List.Splits.{slice_split_first}
use Rattle.std.proofs.lemmas.Bool.{cases_lt}
use Rattle.cf_eval.specs.Reading.{is_before_comma, items_from, item_at, added, ReadFault, values_from, value_at, after_spaces, is_apart}
use Rattle.cf_tree.specs.declared.base.Base.{Base}
use Rattle.cf_tree.specs.Values.{Value}
use Rattle.cf_eval.specs.Spelling.{is_space}
use Rattle.cf_eval.specs.declared.fault.LineFault.{LineFault}
use Rattle.cf_eval.specs.declared.fault.LineFault.TheVariants as fault

abbrev pub commas : List ℕ → List (List ℕ)
commas text = slice_split (λ b. eqb b 44) text

pub commas_more : (rest : List ℕ) (n : ℕ) → n ≡ prefix_len is_before_comma rest → n < length rest →
    commas rest ≡ take n rest ∷ commas (drop (n + 1) rest)
commas_more rest n is fits =
    let h : prefix_len is_before_comma rest < length rest = omega arith in
    rw is (slice_split_first (λ b. eqb b 44) rest 0 h)

commas_by : (v : Bool) (b : ℕ) (rest : List ℕ) →
    (length rest ≤ prefix_len is_before_comma rest → commas rest ≡ take (prefix_len is_before_comma rest) rest ∷ []) →
    length (b ∷ rest) ≤ cond (not v) (1 + prefix_len is_before_comma rest) 0 →
    cond v ([] ∷ commas rest) (onto_first b (commas rest)) ≡ take (cond (not v) (1 + prefix_len is_before_comma rest) 0) (b ∷ rest) ∷ []
commas_by true b rest next h = absurd (omega arith)
commas_by false b rest next h = rw (next (omega arith), one-add) refl

commas_none : (rest : List ℕ) → length rest ≤ prefix_len is_before_comma rest → commas rest ≡ take (prefix_len is_before_comma rest) rest ∷ []
commas_none [] h = refl
commas_none (b ∷ rest) h = commas_by (eqb b 44) b rest (commas_none rest) h

pub commas_last : (rest : List ℕ) (n : ℕ) → n ≡ prefix_len is_before_comma rest → length rest ≤ n → commas rest ≡ take n rest ∷ []
commas_last rest n is many = let h : length rest ≤ prefix_len is_before_comma rest = omega arith in rw is (commas_none rest h)

pub commas_front : (rest : List ℕ) (n : ℕ) → n ≡ prefix_len is_before_comma rest → (n < length rest) ⊎ (length rest ≤ n) →
    (more : List (List ℕ)) × (commas rest ≡ take n rest ∷ more)
commas_front rest n is (inl h) = (commas (drop (n + 1) rest), commas_more rest n is h)
commas_front rest n is (inr h) = ([], commas_last rest n is h)

-- no number
pub parts_none : (limit n : ℕ) (rest : List ℕ) (done : List ℤ) → n ≡ prefix_len is_before_comma rest → added done (item_at limit (take n rest)) ≡ None →
    items_from limit (commas rest) done ≡ None
parts_none limit n rest done is none =
    let f = commas_front rest n is (cases_lt n (length rest)) in
    rw (f.1, none) refl

pub parts_last : (limit n : ℕ) (rest : List ℕ) (done new : List ℤ) → n ≡ prefix_len is_before_comma rest → length rest ≤ n →
    added done (item_at limit (take n rest)) ≡ Some new →
    items_from limit (commas rest) done ≡ Some new
parts_last limit n rest done new is many some = rw (commas_last rest n is many, some) refl

pub parts_more : (limit n : ℕ) (rest : List ℕ) (done new : List ℤ) → n ≡ prefix_len is_before_comma rest → n < length rest →
    added done (item_at limit (take n rest)) ≡ Some new →
    items_from limit (commas rest) done ≡ items_from limit (commas (drop (n + 1) rest)) new
parts_more limit n rest done new is fits some = rw (commas_more rest n is fits, some) refl

-- the exit where a part is no number
pub parts_fault : (limit n : ℕ) (rest : List ℕ) (done : List ℤ) (e : LineFault) → n ≡ prefix_len is_before_comma rest →
    ReadFault e (added done (item_at limit (take n rest))) → ReadFault e (items_from limit (commas rest) done)
parts_fault limit n rest done fault.BadInput is h = parts_none limit n rest done is h
parts_fault limit n rest done fault.NoMemory is h = tt

pub values_more : (limit : ℕ) (types : List Base) (i : ℕ) (d : Base) (text more : List ℕ) (done : List Value) (v : Value) → i < length types →
    value_at limit (get_or types i d) (after_spaces text) ≡ Some (v, more) → is_apart (drop (i + 1) types) more ≡ true →
    values_from limit (drop i types) text done ≡ values_from limit (drop (i + 1) types) more (done ++ v ∷ [])
values_more limit types i d text more done v fits some apart = rw (drop_more types i d fits, some, apart) refl

-- the ends of such a reader
module _ (limit : ℕ) (types : List Base) (i : ℕ) (text : List ℕ) (done : List Value) where
  pub values_stop : (d : Base) (e : LineFault) → i < length types → ReadFault e (value_at limit (get_or types i d) (after_spaces text)) →
      ReadFault e (values_from limit (drop i types) text done)
  values_stop d fault.BadInput fits none = rw (drop_more types i d fits, none) refl
  values_stop d fault.NoMemory fits none = tt

  pub values_joined : (d : Base) (more : List ℕ) (v : Value) → i < length types → value_at limit (get_or types i d) (after_spaces text) ≡ Some (v, more) →
      is_apart (drop (i + 1) types) more ≡ false → values_from limit (drop i types) text done ≡ None
  values_joined d more v fits some joined = rw (drop_more types i d fits, some, joined) refl

  pub values_end : (blank : Bool) → length types ≤ i → list_all is_space text ≡ blank →
      values_from limit (drop i types) text done ≡ (if blank then Some done else None)
  values_end blank le e = rw (drop_of_length-le types {i = i} le, e) refl
