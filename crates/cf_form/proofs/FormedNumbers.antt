-- The numbers of what an expression is formed to are those of the expression, and are the same only of branches.
use Rattle.std.proofs.Common.{◌≡◌, ℕ, zero, suc, ◌+◌, ◌-◌, ℤ, Bool, true, false, List, [], ◌∷◌, ◌++◌, length, map, reverse, refl, sym, subst}
use Rattle.std.specs.Prelude.{if◌then◌else◌}
use Rattle.std.specs.List.{AllByRecursion}
use Rattle.cf_tree.specs.declared.base.Base.{Base}
use Rattle.cf_tree.specs.declared.base.Base.TheVariants.{Int, Bool as Truth, Set}
use Rattle.cf_tree.specs.declared.base.Order.{Order}
use Rattle.cf_tree.specs.declared.base.Order.TheVariants.{Le, Ge}
use Rattle.cf_tree.specs.declared.raw.BinOp.{BinOp}
use Rattle.cf_tree.specs.declared.raw.BinOp.TheVariants.{Add, Sub, Mul, And, Or, Implies, Union, Inter, Diff, Subset, Compare}
use Rattle.cf_tree.specs.DefView.{DefTree}
use Rattle.cf_tree.specs.ExprTree.{ExprTree, expr_lit, expr_truth, expr_var, expr_set_of, expr_tuple, expr_neg, expr_not, expr_abs, expr_binary, expr_divides, expr_div, expr_mod, expr_card, expr_if, expr_call, expr_let, expr_choose, expr_match, expr_chain, expr_min, expr_max, expr_choose_where, ExprTrees, no_exprs, expr_more, exprs_of, match_arm, MatchArmTrees, no_match_arms, match_arm_more, at_any}
use Rattle.cf_program.specs.TypedProgram.{numbers, numbers_all, numbers_arms, numbers_given, numbers_aim, arm_numbers, all_numbers}
use Rattle.cf_form.specs.Branches.{WideChoose, Branch, branched, all_outputs}
use Rattle.cf_form.specs.Expansion.{Calls, call_expanded}
use Rattle.cf_form.specs.Formed.{comparisons, chain_body, picked_from, best_body, how_many, branching, given_out, all_given_out, one_or_tuple, are_as_chosen, choose_form, choose_or_itself, wide_choose, binary_formed, formed, all_formed, arms_formed, formed_def, formed_behind}
use Rattle.cf_form.specs.Numbers.{other_number, choose_number, arm_number, within, placed, all_placed, arms_placed, placed_from}
use Rattle.cf_form.specs.SourceChooses.{SourceChoose, WithBodies, chooses_in, chooses_in_all, chooses_in_arms, chooses_behind}
use Rattle.cf_form.proofs.Halves.{halves_hold}
use Rattle.cf_form.proofs.Lists.{rec_left, rec_right, rec_append, rec_of_map}
use Rattle.cf_form.proofs.NumberBlocks.{Blocks, blocks_append, blocks_more, blocks_same, choose_block}

abbrev pub IsUnaimed : SourceChoose → Type 0
IsUnaimed q = q.aim ≡ at_any

-- ---- bodies without numbers
append_none : {A : Type 0} (xs ys : List A) → xs ≡ [] → ys ≡ [] → xs ++ ys ≡ []
append_none xs ys e g = rw (e, g) refl

module _ (f : ℕ) where
  abbrev HasNone : ExprTree → Type 0
  HasNone e = (branch : Branch) → placed f branch e ≡ []

  compared_none : (x : ℕ) (orders : List Order) → AllByRecursion HasNone (comparisons x orders)
  compared_none x [] = tt
  compared_none x (o ∷ orders) = ((λ branch. refl), compared_none (suc x) orders)

  chain_none : (x : ℕ) (orders : List Order) → HasNone (chain_body x orders)
  chain_none x orders =
      halves_hold (expr_binary And) (expr_truth true) (λ es e. AllByRecursion HasNone es → HasNone e) (λ h branch. refl) (λ e h. h.0)
      (λ ps qs a b g k h branch.
      append_none (placed f branch a) (placed f branch b) (g (rec_left HasNone ps qs h) branch) (k (rec_right HasNone ps qs h) branch))
      (comparisons x orders) (compared_none x orders)

  picked_none : (o : Order) (x y z more : ℕ) → HasNone (picked_from o x y z more)
  picked_none o x y z zero branch = refl
  picked_none o x y z (suc more) branch = picked_none o z (suc y) (suc z) more branch

  -- ---- operations
  binary_placed : (op : BinOp) (p q : ExprTree) (branch : Branch) → placed f branch (binary_formed op p q) ≡ placed f branch p ++ placed f branch q
  binary_placed Add p q branch = refl
  binary_placed Sub p q branch = refl
  binary_placed Mul p q branch = refl
  binary_placed And p q branch = refl
  binary_placed Or p q branch = refl
  binary_placed Implies p q branch = refl
  binary_placed Union p q branch = refl
  binary_placed Inter p q branch = refl
  binary_placed Diff p q branch = refl
  binary_placed Subset p q branch = refl
  binary_placed (Compare o) p q branch = refl

  choose_blocks : (expand : Calls) (q : SourceChoose) (s : ℕ) (branch : Branch) (ns : List ℕ) → IsUnaimed q →
      Blocks (q.number ∷ ns)
      (placed f branch (choose_or_itself q.aim (choose_form (wide_choose expand q))
      (expr_choose_where q.number q.scope q.outputs q.hidden q.given q.relation q.aim)))
  choose_blocks expand q s branch ns e =
      subst (λ a.
      Blocks (q.number ∷ ns)
      (placed f branch (choose_or_itself a (choose_form (wide_choose expand q))
      (expr_choose_where q.number q.scope q.outputs q.hidden q.given q.relation q.aim)))) (sym e)
      (choose_block f (wide_choose expand q) branch ns)

  arm_block : (branch : Branch) (m : ℕ) (factors : List ℤ) → Blocks (arm_numbers m factors) (arm_number f branch m factors)
  arm_block branch m [] = refl
  arm_block branch m (k ∷ factors) = blocks_more m [] (other_number f branch m) [] refl refl

  module _ (expand : Calls) where
    mutual
      pub blocks : (e : ExprTree) (s : ℕ) (branch : Branch) → AllByRecursion IsUnaimed (chooses_in e) → Blocks (numbers e) (placed f branch (formed expand s e))
      blocks (expr_lit k) s branch g = refl
      blocks (expr_truth t) s branch g = refl
      blocks (expr_var x) s branch g = refl
      blocks (expr_set_of es) s branch g = all_blocks es s branch g
      blocks (expr_tuple es) s branch g = all_blocks es s branch g
      blocks (expr_neg a) s branch g = blocks a s branch g
      blocks (expr_not a) s branch g = blocks a s branch g
      blocks (expr_abs a) s branch g = blocks a s branch g
      blocks (expr_binary op a b) s branch g =
          subst (Blocks (numbers a ++ numbers b)) (sym (binary_placed op (formed expand s a) (formed expand s b) branch))
          (blocks_append (numbers a) (numbers b) (placed f branch (formed expand s a)) (placed f branch (formed expand s b))
          (blocks a s branch (rec_left IsUnaimed (chooses_in a) (chooses_in b) g)) (blocks b s branch (rec_right IsUnaimed (chooses_in a) (chooses_in b) g)))
      blocks (expr_chain orders es) s branch g =
          blocks_same (numbers_all es) (all_placed f branch (all_formed expand s es)) (placed f branch (chain_body s orders)) (chain_none s orders branch)
          (all_blocks es s branch g)
      blocks (expr_min es) s branch g =
          blocks_same (numbers_all es) (all_placed f branch (all_formed expand s es)) (placed f branch (best_body Le s (how_many es)))
          (picked_none Le s (suc s) (s + how_many es) (how_many es - 2) branch) (all_blocks es s branch g)
      blocks (expr_max es) s branch g =
          blocks_same (numbers_all es) (all_placed f branch (all_formed expand s es)) (placed f branch (best_body Ge s (how_many es)))
          (picked_none Ge s (suc s) (s + how_many es) (how_many es - 2) branch) (all_blocks es s branch g)
      blocks (expr_divides k a) s branch g = blocks a s branch g
      blocks (expr_div a k) s branch g = blocks a s branch g
      blocks (expr_mod a k) s branch g = blocks a s branch g
      blocks (expr_card a) s branch g = blocks a s branch g
      blocks (expr_if t a b) s branch g =
          let first = rec_left IsUnaimed (chooses_in t ++ chooses_in a) (chooses_in b) g in
          let yes = within branch (formed expand s t) true in
          let other = within branch (formed expand s t) false in
          blocks_append (numbers t ++ numbers a) (numbers b) (placed f branch (formed expand s t) ++ placed f yes (formed expand s a))
          (placed f other (formed expand s b))
          (blocks_append (numbers t) (numbers a) (placed f branch (formed expand s t)) (placed f yes (formed expand s a))
          (blocks t s branch (rec_left IsUnaimed (chooses_in t) (chooses_in a) first)) (blocks a s yes (rec_right IsUnaimed (chooses_in t) (chooses_in a) first)))
          (blocks b s other (rec_right IsUnaimed (chooses_in t ++ chooses_in a) (chooses_in b) g))
      blocks (expr_call h es) s branch g = all_blocks es s branch g
      blocks (expr_let n a b) s branch g =
          blocks_append (numbers a) (numbers b) (placed f branch (formed expand s a)) (placed f branch (formed expand (s + n) b))
          (blocks a s branch (rec_left IsUnaimed (chooses_in a) (chooses_in b) g)) (blocks b (s + n) branch (rec_right IsUnaimed (chooses_in a) (chooses_in b) g))
      blocks (expr_choose n scope outputs rel) s branch g = blocks_more n [] (choose_number f branch n scope outputs) [] refl refl
      blocks (expr_choose_where n scope outputs hidden given rel aim) s branch g =
          choose_blocks expand (record { number = n; scope = scope; outputs = outputs; hidden = hidden; given = given; relation = rel; aim = aim }) s branch
          (numbers_given given ++ numbers rel ++ numbers_aim aim) g.0
      blocks (expr_match n scope a arms) s branch g =
          blocks_more n (numbers a ++ numbers_arms arms) (other_number f branch n)
          (placed f branch (formed expand s a) ++ arms_placed f branch (arms_formed expand (suc s) arms)) refl
          (blocks_append (numbers a) (numbers_arms arms) (placed f branch (formed expand s a)) (arms_placed f branch (arms_formed expand (suc s) arms))
          (blocks a s branch (rec_left IsUnaimed (chooses_in a) (chooses_in_arms arms) g))
          (arms_blocks arms (suc s) branch (rec_right IsUnaimed (chooses_in a) (chooses_in_arms arms) g)))

      all_blocks : (es : ExprTrees) (s : ℕ) (branch : Branch) → AllByRecursion IsUnaimed (chooses_in_all es) →
          Blocks (numbers_all es) (all_placed f branch (all_formed expand s es))
      all_blocks no_exprs s branch g = refl
      all_blocks (expr_more e es) s branch g =
          blocks_append (numbers e) (numbers_all es) (placed f branch (formed expand s e)) (all_placed f branch (all_formed expand s es))
          (blocks e s branch (rec_left IsUnaimed (chooses_in e) (chooses_in_all es) g))
          (all_blocks es s branch (rec_right IsUnaimed (chooses_in e) (chooses_in_all es) g))

      arms_blocks : (arms : MatchArmTrees) (s : ℕ) (branch : Branch) → AllByRecursion IsUnaimed (chooses_in_arms arms) →
          Blocks (numbers_arms arms) (arms_placed f branch (arms_formed expand s arms))
      arms_blocks no_match_arms s branch g = refl
      arms_blocks (match_arm_more (match_arm m factors k body) arms) s branch g =
          blocks_append (arm_numbers m factors ++ numbers body) (numbers_arms arms)
          (arm_number f branch m factors ++ placed f branch (formed expand (s + length factors) body)) (arms_placed f branch (arms_formed expand s arms))
          (blocks_append (arm_numbers m factors) (numbers body) (arm_number f branch m factors) (placed f branch (formed expand (s + length factors) body))
          (arm_block branch m factors) (blocks body (s + length factors) branch (rec_left IsUnaimed (chooses_in body) (chooses_in_arms arms) g)))
          (arms_blocks arms s branch (rec_right IsUnaimed (chooses_in body) (chooses_in_arms arms) g))

-- ---- numbers alone
module _ (P : ℕ → Type 0) where
  abbrev Are : List ℕ → Type 0
  Are ns = AllByRecursion P ns

  abbrev Bare : ExprTree → Type 0
  Bare e = Are (numbers e)

  bare_compared : (x : ℕ) (orders : List Order) → AllByRecursion Bare (comparisons x orders)
  bare_compared x [] = tt
  bare_compared x (o ∷ orders) = (tt, bare_compared (suc x) orders)

  bare_chain : (x : ℕ) (orders : List Order) → Bare (chain_body x orders)
  bare_chain x orders =
      halves_hold (expr_binary And) (expr_truth true) (λ es e. AllByRecursion Bare es → Bare e) (λ h. tt) (λ e h. h.0)
      (λ ps qs a b g k h. rec_append P (numbers a) (numbers b) (g (rec_left Bare ps qs h)) (k (rec_right Bare ps qs h)))
      (comparisons x orders) (bare_compared x orders)

  bare_picked : (o : Order) (x y z more : ℕ) → Bare (picked_from o x y z more)
  bare_picked o x y z zero = tt
  bare_picked o x y z (suc more) = bare_picked o z (suc y) (suc z) more

  bare_binary : (op : BinOp) (p q : ExprTree) → Bare p → Bare q → Bare (binary_formed op p q)
  bare_binary Add p q h k = rec_append P (numbers p) (numbers q) h k
  bare_binary Sub p q h k = rec_append P (numbers p) (numbers q) h k
  bare_binary Mul p q h k = rec_append P (numbers p) (numbers q) h k
  bare_binary And p q h k = rec_append P (numbers p) (numbers q) h k
  bare_binary Or p q h k = rec_append P (numbers p) (numbers q) h k
  bare_binary Implies p q h k = rec_append P (numbers p) (numbers q) h k
  bare_binary Union p q h k = rec_append P (numbers p) (numbers q) h k
  bare_binary Inter p q h k = rec_append P (numbers p) (numbers q) h k
  bare_binary Diff p q h k = rec_append P (numbers p) (numbers q) h k
  bare_binary Subset p q h k = rec_append P (numbers p) (numbers q) h k
  bare_binary (Compare o) p q h k = rec_append P (numbers p) (numbers q) h k

  bare_given : (b : Base) (x : ℕ) → Bare (given_out b x)
  bare_given Int x = tt
  bare_given Truth x = tt
  bare_given Set x = tt

  bare_all_given : (x : ℕ) (bs : List Base) → Are (numbers_all (exprs_of (all_given_out x bs)))
  bare_all_given x [] = tt
  bare_all_given x (b ∷ bs) = rec_append P (numbers (given_out b x)) (numbers_all (exprs_of (all_given_out (suc x) bs))) (bare_given b x) (bare_all_given (suc x) bs)

  bare_several : (x : ℕ) (bs : List Base) → Bare (one_or_tuple (all_given_out x bs))
  bare_several x [] = tt
  bare_several x (b ∷ []) = bare_given b x
  bare_several x (b ∷ c ∷ bs) = bare_all_given x (b ∷ c ∷ bs)

  bare_branching : (q : WideChoose) → P q.number → (xs : List ℕ) (branch : Branch) → Bare (branching q xs branch)
  bare_branching q h [] branch = (h, tt)
  bare_branching q h (x ∷ xs) branch =
      rec_append P (numbers (branching q xs (branch ++ (x, true) ∷ []))) (numbers (branching q xs (branch ++ (x, false) ∷ [])))
      (bare_branching q h xs (branch ++ (x, true) ∷ [])) (bare_branching q h xs (branch ++ (x, false) ∷ []))

  bare_form : (q : WideChoose) → P q.number → (b : Bool) (k : ℕ) →
      Bare (if b then branching q (branched q) [] else expr_let k (branching q (branched q) []) (one_or_tuple (all_given_out (length q.scope) q.outputs)))
  bare_form q h true k = bare_branching q h (branched q) []
  bare_form q h false k =
      rec_append P (numbers (branching q (branched q) [])) (numbers (one_or_tuple (all_given_out (length q.scope) q.outputs)))
      (bare_branching q h (branched q) []) (bare_several (length q.scope) q.outputs)

  bare_choose : (expand : Calls) (q : SourceChoose) → P q.number → IsUnaimed q →
      Bare (choose_or_itself q.aim (choose_form (wide_choose expand q))
      (expr_choose_where q.number q.scope q.outputs q.hidden q.given q.relation q.aim))
  bare_choose expand q h e =
      subst (λ a.
      Bare (choose_or_itself a (choose_form (wide_choose expand q))
      (expr_choose_where q.number q.scope q.outputs q.hidden q.given q.relation q.aim))) (sym e)
      (bare_form (wide_choose expand q) h (are_as_chosen q.outputs q.hidden) (length (all_outputs (wide_choose expand q))))

  module _ (expand : Calls) where
    mutual
      pub kept : (e : ExprTree) (s : ℕ) → AllByRecursion IsUnaimed (chooses_in e) → Are (numbers e) → Are (numbers (formed expand s e))
      kept (expr_lit k) s g h = tt
      kept (expr_truth t) s g h = tt
      kept (expr_var x) s g h = tt
      kept (expr_set_of es) s g h = all_kept es s g h
      kept (expr_tuple es) s g h = all_kept es s g h
      kept (expr_neg a) s g h = kept a s g h
      kept (expr_not a) s g h = kept a s g h
      kept (expr_abs a) s g h = kept a s g h
      kept (expr_binary op a b) s g h =
          bare_binary op (formed expand s a) (formed expand s b) (kept a s (rec_left IsUnaimed (chooses_in a) (chooses_in b) g) (rec_left P (numbers a) (numbers b) h))
          (kept b s (rec_right IsUnaimed (chooses_in a) (chooses_in b) g) (rec_right P (numbers a) (numbers b) h))
      kept (expr_chain orders es) s g h =
          rec_append P (numbers_all (all_formed expand s es)) (numbers (chain_body s orders)) (all_kept es s g h) (bare_chain s orders)
      kept (expr_min es) s g h =
          rec_append P (numbers_all (all_formed expand s es)) (numbers (best_body Le s (how_many es))) (all_kept es s g h)
          (bare_picked Le s (suc s) (s + how_many es) (how_many es - 2))
      kept (expr_max es) s g h =
          rec_append P (numbers_all (all_formed expand s es)) (numbers (best_body Ge s (how_many es))) (all_kept es s g h)
          (bare_picked Ge s (suc s) (s + how_many es) (how_many es - 2))
      kept (expr_divides k a) s g h = kept a s g h
      kept (expr_div a k) s g h = kept a s g h
      kept (expr_mod a k) s g h = kept a s g h
      kept (expr_card a) s g h = kept a s g h
      kept (expr_if t a b) s g h =
          let first = rec_left IsUnaimed (chooses_in t ++ chooses_in a) (chooses_in b) g in
          let two = rec_left P (numbers t ++ numbers a) (numbers b) h in
          rec_append P (numbers (formed expand s t) ++ numbers (formed expand s a)) (numbers (formed expand s b))
          (rec_append P (numbers (formed expand s t)) (numbers (formed expand s a))
          (kept t s (rec_left IsUnaimed (chooses_in t) (chooses_in a) first) (rec_left P (numbers t) (numbers a) two))
          (kept a s (rec_right IsUnaimed (chooses_in t) (chooses_in a) first) (rec_right P (numbers t) (numbers a) two)))
          (kept b s (rec_right IsUnaimed (chooses_in t ++ chooses_in a) (chooses_in b) g) (rec_right P (numbers t ++ numbers a) (numbers b) h))
      kept (expr_call f es) s g h = all_kept es s g h
      kept (expr_let n a b) s g h =
          rec_append P (numbers (formed expand s a)) (numbers (formed expand (s + n) b))
          (kept a s (rec_left IsUnaimed (chooses_in a) (chooses_in b) g) (rec_left P (numbers a) (numbers b) h))
          (kept b (s + n) (rec_right IsUnaimed (chooses_in a) (chooses_in b) g) (rec_right P (numbers a) (numbers b) h))
      kept (expr_choose n scope outputs rel) s g h = h
      kept (expr_choose_where n scope outputs hidden given rel aim) s g h =
          bare_choose expand (record { number = n; scope = scope; outputs = outputs; hidden = hidden; given = given; relation = rel; aim = aim }) h.0 g.0
      kept (expr_match n scope a arms) s g h = (
        h.0,
        rec_append P (numbers (formed expand s a)) (numbers_arms (arms_formed expand (suc s) arms))
            (kept a s (rec_left IsUnaimed (chooses_in a) (chooses_in_arms arms) g) (rec_left P (numbers a) (numbers_arms arms) h.1))
            (arms_kept arms (suc s) (rec_right IsUnaimed (chooses_in a) (chooses_in_arms arms) g) (rec_right P (numbers a) (numbers_arms arms) h.1)),
      )

      all_kept : (es : ExprTrees) (s : ℕ) → AllByRecursion IsUnaimed (chooses_in_all es) → Are (numbers_all es) → Are (numbers_all (all_formed expand s es))
      all_kept no_exprs s g h = tt
      all_kept (expr_more e es) s g h =
          rec_append P (numbers (formed expand s e)) (numbers_all (all_formed expand s es))
          (kept e s (rec_left IsUnaimed (chooses_in e) (chooses_in_all es) g) (rec_left P (numbers e) (numbers_all es) h))
          (all_kept es s (rec_right IsUnaimed (chooses_in e) (chooses_in_all es) g) (rec_right P (numbers e) (numbers_all es) h))

      arms_kept : (arms : MatchArmTrees) (s : ℕ) → AllByRecursion IsUnaimed (chooses_in_arms arms) → Are (numbers_arms arms) →
          Are (numbers_arms (arms_formed expand s arms))
      arms_kept no_match_arms s g h = tt
      arms_kept (match_arm_more (match_arm m factors k body) arms) s g h =
          let own = rec_left P (arm_numbers m factors ++ numbers body) (numbers_arms arms) h in
          rec_append P (arm_numbers m factors ++ numbers (formed expand (s + length factors) body)) (numbers_arms (arms_formed expand s arms))
          (rec_append P (arm_numbers m factors) (numbers (formed expand (s + length factors) body)) (rec_left P (arm_numbers m factors) (numbers body) own)
          (kept body (s + length factors) (rec_left IsUnaimed (chooses_in body) (chooses_in_arms arms) g) (rec_right P (arm_numbers m factors) (numbers body) own)))
          (arms_kept arms s (rec_right IsUnaimed (chooses_in body) (chooses_in_arms arms) g)
          (rec_right P (arm_numbers m factors ++ numbers body) (numbers_arms arms) h))

-- ---- functions
abbrev pub IsUnaimedBehind : WithBodies → Type 0
IsUnaimedBehind q = IsUnaimed q.1

abbrev own_chooses : List DefTree → DefTree → List WithBodies
own_chooses before d = map (λ q. (reverse (map (λ f. f.body) before), q)) (chooses_in d.body)

own_unaimed : (before : List DefTree) (d : DefTree) (rest : List WithBodies) → AllByRecursion IsUnaimedBehind (own_chooses before d ++ rest) →
    AllByRecursion IsUnaimed (chooses_in d.body)
own_unaimed before d rest g =
    rec_of_map IsUnaimedBehind (λ q. (reverse (map (λ f. f.body) before), q)) (chooses_in d.body) (rec_left IsUnaimedBehind (own_chooses before d) rest g)

pub blocks_of_all : (f : ℕ) (before ds : List DefTree) → AllByRecursion IsUnaimedBehind (chooses_behind before ds) →
    Blocks (all_numbers ds) (placed_from f (formed_behind before ds))
blocks_of_all f before [] g = refl
blocks_of_all f before (d ∷ ds) g =
    let rest = chooses_behind (before ++ d ∷ []) ds in
    blocks_append (numbers d.body) (all_numbers ds) (placed f [] (formed_def before d).body) (placed_from (suc f) (formed_behind (before ++ d ∷ []) ds))
    (blocks f (call_expanded (reverse (map (λ f. f.body) before))) d.body (length d.params) [] (own_unaimed before d rest g))
    (blocks_of_all (suc f) (before ++ d ∷ []) ds (rec_right IsUnaimedBehind (own_chooses before d) rest g))

pub kept_by_all : (P : ℕ → Type 0) (before ds : List DefTree) → AllByRecursion IsUnaimedBehind (chooses_behind before ds) →
    AllByRecursion P (all_numbers ds) → AllByRecursion P (all_numbers (formed_behind before ds))
kept_by_all P before [] g h = tt
kept_by_all P before (d ∷ ds) g h =
    let rest = chooses_behind (before ++ d ∷ []) ds in
    rec_append P (numbers (formed_def before d).body) (all_numbers (formed_behind (before ++ d ∷ []) ds))
    (kept P (call_expanded (reverse (map (λ f. f.body) before))) d.body (length d.params) (own_unaimed before d rest g)
    (rec_left P (numbers d.body) (all_numbers ds) h))
    (kept_by_all P (before ++ d ∷ []) ds (rec_right IsUnaimedBehind (own_chooses before d) rest g) (rec_right P (numbers d.body) (all_numbers ds) h))
