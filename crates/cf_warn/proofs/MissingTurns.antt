-- What is said of all tuples of all arms holds exactly where the lets have their values and no arm's needs hold at any tuple.
use Rattle.std.proofs.Common.{◌≡◌, ◌↔◌, ℕ, zero, suc, ◌+◌, ◌≤◌, ◌<◌, ℤ, pos, negsuc, List, [], ◌∷◌, ◌++◌, length, map, replicate, subst, refl, sym, ap, ◌∙◌, arith}
use Rattle.std.specs.Int.{int_div_euclid}
use Rattle.std.specs.List.{range_with_len}
use Rattle.std.proofs.lemmas.Int.{ints}
use Rattle.std.proofs.lemmas.Option.{get_or_from_slice_get}
use Rattle.cf_tree.specs.declared.base.Base.TheVariants.{Int}
use Rattle.cf_tree.specs.Meaning.{count_below, tuple_at}
use Rattle.cf_tree.specs.Relation.{Holds}
use Rattle.cf_tree.specs.Solving.{IsBelow}
use Rattle.cf_tree.specs.Values.{Value, number, number_of, HaveBases}
use Rattle.cf_tree.proofs.TupleLemmas.{tuples_numbered}
use Rattle.cf_linear.specs.Keep.{update}
use Rattle.cf_linear.specs.Rows.{Values, value}
use Rattle.cf_linear.specs.Solved.{InBounds, let_columns, NeedsHold, set_tuple, search_columns, Rising}
use Rattle.cf_linear.specs.Systems.{Step, floor_of, need_nonneg, need_zero, need_divides, Answer}
use Rattle.cf_cases.specs.Holding.{EachOf}
use Rattle.cf_cases.proofs.Quantifiers.{each-append, each-split}
use Rattle.cf_elim.specs.Returning.{StepsDivide}
use Rattle.cf_venn.proofs.LevelLaws.{have_append}
use Rattle.cf_warn.specs.Missing.{Forms, search_forms, bounds_of, let_count, Turn, turns_of, turns, lets_in, tuple_says, turns_say}
use Rattle.cf_warn.proofs.MissingSteps.{Agree, LetsAt, AreLater, tuple_holds, search_agrees, search_one}
use Rattle.cf_warn.proofs.TwiceLaws.{Stand}

-- divisors are at least 1, and no new column is the constant's
pub record IsTrace (a : Answer) : Type 0 where
  pub divide : StepsDivide a.steps
  pub lets : AreLater (let_columns a.steps)
  pub searches : AreLater (search_columns a.bounds)

pub rising_later : (lo hi : ℕ) (cs : List ℕ) → 1 ≤ lo → Rising lo hi cs → AreLater cs
rising_later lo hi [] h r = tt
rising_later lo hi (c ∷ cs) h r = let k = r.0 in (omega arith, rising_later (suc c) hi cs (omega arith) r.1)

-- ---- tuples as numbers
abbrev pub FailsAt : Values → Answer → List ℤ → Type 0
FailsAt v a ks = NeedsHold (set_tuple v a.bounds ks) a.steps → ⊥

abbrev pub Fails : Values → Turn → Type 0
Fails v (a, ks) = FailsAt v a (map pos ks)

-- no tuple within the bounds meets the needs
abbrev pub FailsAlways : Values → Answer → Type 0
FailsAlways v a = (ks : List ℤ) → InBounds a.bounds ks → FailsAt v a ks

plain_tuple : (bs : List (ℕ × ℕ)) (ks : List ℤ) → InBounds bs ks → (ns : List ℕ) × IsBelow (map (λ (c, b). b) bs) ns × (map pos ns ≡ ks)
plain_tuple [] [] h = ([], tt, refl)
plain_tuple [] (k ∷ ks) h = absurd h
plain_tuple ((c, b) ∷ bs) [] h = absurd h
plain_tuple ((c, b) ∷ bs) (pos n ∷ ks) h = let r = plain_tuple bs ks h.2 in let l = h.1 in (n ∷ r.0, (omega (arith, ints), r.1), ap (λ ms. pos n ∷ ms) r.2)
plain_tuple ((c, b) ∷ bs) (negsuc n ∷ ks) h = let l = h.0 in absurd (omega (arith, ints))

tuple_within : (bs : List (ℕ × ℕ)) (ns : List ℕ) → IsBelow (map (λ (c, b). b) bs) ns → InBounds bs (map pos ns)
tuple_within [] [] h = tt
tuple_within [] (n ∷ ns) h = absurd h
tuple_within ((c, b) ∷ bs) [] h = absurd h
tuple_within ((c, b) ∷ bs) (n ∷ ns) h = let l = h.0 in (omega (arith, ints), omega (arith, ints), tuple_within bs ns h.1)

pub range_each : {A : Type 0} (P : A → Type 0) (f : ℕ → A) (a n : ℕ) → ((i : ℕ) → i < a + n → P (f i)) → EachOf P (map f (range_with_len a n))
range_each P f a zero h = tt
range_each P f a (suc n) h = (h a (omega arith), range_each P f (a + 1) n (λ i l. h i (omega arith)))

range_item : {A : Type 0} (P : A → Type 0) (f : ℕ → A) (a n i : ℕ) → i < n → EachOf P (map f (range_with_len a n)) → P (f (a + i))
range_item P f a zero i l h = absurd (omega arith)
range_item P f a (suc n) zero l h = let z : a ≡ a + 0 = omega arith in subst (λ j. P (f j)) z h.0
range_item P f a (suc n) (suc i) l h = let z : a + 1 + i ≡ a + suc i = omega arith in subst (λ j. P (f j)) z (range_item P f (a + 1) n i (omega arith) h.1)

module _ (v : Values) where
  fails_all : (a : Answer) → EachOf (Fails v) (turns_of a) → FailsAlways v a
  fails_all a h ks within needs =
      let p = plain_tuple a.bounds ks within in
      let r = (tuples_numbered (bounds_of a)).reached p.0 p.1 in
      let z : 0 + r.0 ≡ r.0 = omega arith in
      let f : FailsAt v a (map pos (tuple_at (bounds_of a) r.0)) =
      subst (λ i. FailsAt v a (map pos (tuple_at (bounds_of a) i))) z
      (range_item (Fails v) (λ i. (a, tuple_at (bounds_of a) i)) 0 (count_below (bounds_of a)) r.0 r.1 h) in
      f (subst (λ js. NeedsHold (set_tuple v a.bounds js) a.steps) (sym (ap (map pos) r.2 ∙ p.2)) needs)

  fails_each : (a : Answer) → FailsAlways v a → EachOf (Fails v) (turns_of a)
  fails_each a h =
      range_each (Fails v) (λ i. (a, tuple_at (bounds_of a) i)) 0 (count_below (bounds_of a))
      (λ i l. h (map pos (tuple_at (bounds_of a) i)) (tuple_within a.bounds (tuple_at (bounds_of a) i) ((tuples_numbered (bounds_of a)).below i (omega arith))))

  -- no needs hold at any tuple exactly where they fail at each
  pub all_fail : (as_ : List Answer) → EachOf (Fails v) (turns as_) ↔ EachOf (FailsAlways v) as_
  all_fail [] = (λ h. tt, λ h. tt)
  all_fail (a ∷ as_) =
      let r = all_fail as_ in (
        λ h. let s = each-split (Fails v) (turns_of a) (turns as_) h in (fails_all a s.0, r.0 s.1),
        λ h. each-append (Fails v) (turns_of a) (turns as_) (fails_each a h.0) (r.1 h.1),
      )

  -- ---- the values of the lets
  let_values : Values → List Step → List Value
  let_values w [] = []
  let_values w (floor_of c r g ∷ ms) = number (int_div_euclid (value w r) g) ∷ let_values (update w c (int_div_euclid (value w r) g)) ms
  let_values w (need_nonneg r ∷ ms) = let_values w ms
  let_values w (need_zero r ∷ ms) = let_values w ms
  let_values w (need_divides g r ∷ ms) = let_values w ms

  pub turn_values : List Turn → List Value
  turn_values [] = []
  turn_values ((a, ks) ∷ ts) = let_values (set_tuple v a.bounds (map pos ks)) a.steps ++ turn_values ts

  let_values_long : (w : Values) (ms : List Step) → length (let_values w ms) ≡ length (let_columns ms)
  unfolding let_values
  let_values_long w [] = refl
  let_values_long w (floor_of c r g ∷ ms) = ap suc (let_values_long (update w c (int_div_euclid (value w r) g)) ms)
  let_values_long w (need_nonneg r ∷ ms) = let_values_long w ms
  let_values_long w (need_zero r ∷ ms) = let_values_long w ms
  let_values_long w (need_divides g r ∷ ms) = let_values_long w ms

  let_values_are : (w : Values) (ms : List Step) → HaveBases (replicate (length (let_columns ms)) Int) (let_values w ms)
  unfolding let_values
  let_values_are w [] = tt
  let_values_are w (floor_of c r g ∷ ms) = ((int_div_euclid (value w r) g, refl), let_values_are (update w c (int_div_euclid (value w r) g)) ms)
  let_values_are w (need_nonneg r ∷ ms) = let_values_are w ms
  let_values_are w (need_zero r ∷ ms) = let_values_are w ms
  let_values_are w (need_divides g r ∷ ms) = let_values_are w ms

  replicate_more : (m n : ℕ) → replicate m Int ++ replicate n Int ≡ replicate (m + n) Int
  replicate_more zero n = let z : n ≡ 0 + n = omega arith in ap (λ k. replicate k Int) z
  replicate_more (suc m) n = let z : suc (m + n) ≡ suc m + n = omega arith in ap (λ bs. Int ∷ bs) (replicate_more m n) ∙ ap (λ k. replicate k Int) z

  pub turn_values_are : (ts : List Turn) → HaveBases (replicate (lets_in ts) Int) (turn_values ts)
  unfolding turn_values
  turn_values_are [] = tt
  turn_values_are ((a, ks) ∷ ts) =
      let w = set_tuple v a.bounds (map pos ks) in
      subst (λ bs. HaveBases bs (let_values w a.steps ++ turn_values ts)) (replicate_more (let_count a) (lets_in ts))
      (have_append (replicate (let_count a) Int) (replicate (lets_in ts) Int) (let_values w a.steps) (turn_values ts) (let_values_are w a.steps)
      (turn_values_are ts))

  -- ---- in an environment
  module _ (q : List Value) where
    lets_stand : (n : ℕ) (w : Values) (ms : List Step) → Stand q n (let_values w ms) → LetsAt q n w ms
    unfolding let_values
    lets_stand n w [] s = tt
    lets_stand n w (floor_of c r g ∷ ms) s =
        let z = int_div_euclid (value w r) g in
        (ap number_of (get_or_from_slice_get q n (number z) (number (pos 0)) s.0), lets_stand (n + 1) (update w c z) ms s.1)
    lets_stand n w (need_nonneg r ∷ ms) s = lets_stand n w ms s
    lets_stand n w (need_zero r ∷ ms) s = lets_stand n w ms s
    lets_stand n w (need_divides g r ∷ ms) s = lets_stand n w ms s

    stand_split : (n : ℕ) (xs ys : List Value) → Stand q n (xs ++ ys) → Stand q n xs × Stand q (n + length xs) ys
    stand_split n [] ys s = (tt, let z : n ≡ n + 0 = omega arith in subst (λ m. Stand q m ys) z s)
    stand_split n (x ∷ xs) ys s =
        let r = stand_split (n + 1) xs ys s.1 in
        let z : n + 1 + length xs ≡ n + suc (length xs) = omega arith in
        ((s.0, r.0), subst (λ m. Stand q m ys) z r.1)

    -- of each tuple: the lets have their values, and some need fails
    abbrev pub TurnsAt : ℕ → List Turn → Type 0
    TurnsAt n [] = Unit {0}
    TurnsAt n ((a, ks) ∷ ts) = (LetsAt q n (set_tuple v a.bounds (map pos ks)) a.steps × Fails v (a, ks)) × TurnsAt (n + let_count a) ts

    pub turns_fail : (n : ℕ) (ts : List Turn) → TurnsAt n ts → EachOf (Fails v) ts
    turns_fail n [] h = tt
    turns_fail n ((a, ks) ∷ ts) h = (h.0.1, turns_fail (n + let_count a) ts h.1)

    pub turns_stand : (n : ℕ) (ts : List Turn) → Stand q n (turn_values ts) → EachOf (Fails v) ts → TurnsAt n ts
    unfolding turn_values
    turns_stand n [] s h = tt
    turns_stand n ((a, ks) ∷ ts) s h =
        let w = set_tuple v a.bounds (map pos ks) in
        let r = stand_split n (let_values w a.steps) (turn_values ts) s in (
          (lets_stand n w a.steps r.0, h.0),
          turns_stand (n + let_count a) ts (subst (λ k. Stand q (n + k) (turn_values ts)) (let_values_long w a.steps) r.1) h.1,
        )

    pub turns_hold : (forms : Forms) (n : ℕ) (ts : List Turn) → Agree q forms v → v 0 ≡ pos 1 → EachOf (λ (a, ks). IsTrace a) ts →
        EachOf (λ s. Holds s q) (turns_say forms n ts) ↔ TurnsAt n ts
    turns_hold forms n [] agree one t = (λ h. tt, λ h. tt)
    turns_hold forms n ((a, ks) ∷ ts) agree one t =
        let first = search_forms forms a.bounds ks in
        let w = set_tuple v a.bounds (map pos ks) in
        let here = tuple_holds q first w n a.steps (search_agrees q forms v a.bounds ks agree) (search_one q v a.bounds (map pos ks) one t.0.searches)
        t.0.divide t.0.lets in
        let more = turns_hold forms (n + let_count a) ts agree one t.1 in (
          λ h. let s = each-split (λ s. Holds s q) (tuple_says first n a.steps) (turns_say forms (n + let_count a) ts) h in (here.0 s.0, more.0 s.1),
          λ h. each-append (λ s. Holds s q) (tuple_says first n a.steps) (turns_say forms (n + let_count a) ts) (here.1 h.0) (more.1 h.1),
        )

pub traces_turn : (as_ : List Answer) → EachOf IsTrace as_ → EachOf (λ (a, ks). IsTrace a) (turns as_)
traces_turn [] h = tt
traces_turn (a ∷ as_) h =
    each-append (λ ((b, ks) : Turn). IsTrace b) (turns_of a) (turns as_)
    (range_each (λ ((b, ks) : Turn). IsTrace b) (λ i. (a, tuple_at (bounds_of a) i)) 0 (count_below (bounds_of a)) (λ i l. h.0)) (traces_turn as_ h.1)
