-- Counts that pass a limit.
use Rattle.std.proofs.Common.{◌≡◌, ℕ, suc, ◌+◌, ◌≤◌, ◌<◌, Bool, true, false, nat_le, List, [], ◌∷◌, ◌++◌, length, map, get_or, slice_index, drop, Option, Some, None, All, cond, refl, sym, ◌∙◌, ap, arith}
use Rattle.std.proofs.lemmas.Bool.Decides.{nat_tests}
use Rattle.std.proofs.lemmas.List.Elements.{All-nil, All-cons, All-head, All-tail}
use Rattle.cf_tree.specs.declared.expr.Def.{Def}
use Rattle.cf_tree.specs.DefView.{def_tree}
use Rattle.cf_tree.specs.ExprTree.{ExprTree}
use Rattle.cf_tree.specs.ExprView.{expr_tree}
use Rattle.cf_tree.specs.RelSize.{capped}
use Rattle.cf_program.specs.Lowered.{lowered}
use Rattle.cf_program.specs.Size.{measured, first_above}
use Rattle.cf_program.proofs.CountedLaws.{item_dropped}

-- a capped count below the cap is the count
capped_small : (n : ℕ) → capped n ≤ 1000000 → n ≡ capped n
capped_small n h = grind (arith, nat_tests)

passes : (limit i n : ℕ) (ns : List ℕ) → limit < capped n → first_above limit i (n ∷ ns) ≡ Some (i, capped n)
passes limit i n ns h = by (nat_le n limit) refl
  where
    by : (b : Bool) → nat_le n limit ≡ b → cond b (first_above limit (suc i) ns) (Some (i, capped n)) ≡ Some (i, capped n)
    by true e = absurd (grind (arith, nat_tests))
    by false e = refl

goes_on : (limit i n : ℕ) (ns : List ℕ) → n ≤ limit → first_above limit i (n ∷ ns) ≡ first_above limit (suc i) ns
goes_on limit i n ns h = by (nat_le n limit) refl
  where
    by : (b : Bool) → nat_le n limit ≡ b → cond b (first_above limit (suc i) ns) (Some (i, capped n)) ≡ first_above limit (suc i) ns
    by true e = refl
    by false e = absurd (grind (arith, nat_tests))

-- where none passes the limit, there is no first, and conversely
pub none_above : (limit i : ℕ) (ns : List ℕ) → All (λ n. n ≤ limit) ns → first_above limit i ns ≡ None
none_above limit i [] h = refl
none_above limit i (n ∷ ns) h =
    goes_on limit i n ns (All-head (λ m. m ≤ limit) n ns h) ∙ none_above limit (suc i) ns (All-tail (λ m. m ≤ limit) n ns h)

pub above_kept : (limit i : ℕ) (ns : List ℕ) → first_above limit i ns ≡ None → All (λ n. n ≤ limit) ns
above_kept limit i [] e = All-nil (λ n. n ≤ limit)
above_kept limit i (n ∷ ns) e = by (nat_le n limit) refl (above_kept limit (suc i) ns) e
  where
    by : (b : Bool) → nat_le n limit ≡ b → (first_above limit (suc i) ns ≡ None → All (λ m. m ≤ limit) ns) →
        cond b (first_above limit (suc i) ns) (Some (i, capped n)) ≡ None → All (λ m. m ≤ limit) (n ∷ ns)
    by true q rest h = All-cons (λ m. m ≤ limit) n ns (grind (arith, nat_tests)) (rest h)
    by false q rest h = cc

-- a measure of lowered expressions that is counted on the expressions themselves
abbrev pub Counts : ((ℕ → ℕ) → ExprTree → ℕ) → ((ℕ → ℕ) → ExprTree → ℕ) → Type 0
Counts measure counted = (calls : ℕ → ℕ) (e : ExprTree) → measure calls (lowered e) ≡ counted calls e

-- w is counted for function number i, d, where `known` holds what is counted of those before
abbrev pub IsCounted : ((ℕ → ℕ) → ExprTree → ℕ) → Def → List ℕ → ℕ → Type 0
IsCounted counted d known w = w ≡ capped (counted (λ f. slice_index known f) (expr_tree d.body))

measured_is : (measure counted : (ℕ → ℕ) → ExprTree → ℕ) (d : Def) (known calls : List ℕ) (w : ℕ) → Counts measure counted → calls ≡ known →
    IsCounted counted d calls w → w ≡ capped (measure (λ f. slice_index known f) (lowered (expr_tree d.body)))
measured_is measure counted d known calls w law same e =
    e ∙ ap (λ c. capped (counted (λ f. slice_index c f) (expr_tree d.body))) same ∙ ap capped (sym (law (λ f. slice_index known f) (expr_tree d.body)))

one_more : (known : List ℕ) (w : ℕ) → length (known ++ w ∷ []) ≡ suc (length known)
one_more [] w = refl
one_more (n ∷ known) w = ap suc (one_more known w)

pub measured_goes_on : (limit : ℕ) (measure counted : (ℕ → ℕ) → ExprTree → ℕ) (defs : List Def) (i : ℕ) (d : Def) (known calls : List ℕ) (w : ℕ)
    (o : Option (ℕ × ℕ)) → limit ≤ 1000000 → Counts measure counted → i < length defs → d ≡ get_or defs i d → calls ≡ known →
    IsCounted counted d calls w → w ≤ limit → first_above limit (length known) (measured measure known (map def_tree (drop i defs))) ≡ o →
    first_above limit (length (known ++ w ∷ [])) (measured measure (known ++ w ∷ []) (map def_tree (drop (i + 1) defs))) ≡ o
measured_goes_on limit measure counted defs i d known calls w o low law h at same e fits inv =
    let n : ℕ = measure (λ f. slice_index known f) (lowered (expr_tree d.body)) in
    let is : w ≡ capped n = measured_is measure counted d known calls w law same e in
    let exact : w ≡ n = is ∙ sym (capped_small n (omega (arith, is))) in
    ap (λ m. first_above limit (length (known ++ m ∷ [])) (measured measure (known ++ m ∷ []) (map def_tree (drop (i + 1) defs)))) exact
    ∙ ap (λ j. first_above limit j (measured measure (known ++ n ∷ []) (map def_tree (drop (i + 1) defs)))) (one_more known n)
    ∙ sym (goes_on limit (length known) n (measured measure (known ++ n ∷ []) (map def_tree (drop (i + 1) defs))) (omega (arith, exact)))
    ∙ ap (λ rest. first_above limit (length known) (measured measure known (map def_tree rest))) (sym (item_dropped defs i d h at))
    ∙ inv

pub measured_passes : (limit : ℕ) (measure counted : (ℕ → ℕ) → ExprTree → ℕ) (defs : List Def) (i : ℕ) (d : Def) (known calls before : List ℕ) (w : ℕ)
    (o : Option (ℕ × ℕ)) → Counts measure counted → i < length defs → d ≡ get_or defs i d → calls ≡ known → before ≡ known →
    IsCounted counted d calls w → limit < w →
    first_above limit (length known) (measured measure known (map def_tree (drop i defs))) ≡ o → Some (length before, w) ≡ o
measured_passes limit measure counted defs i d known calls before w o law h at same still e over inv =
    let n : ℕ = measure (λ f. slice_index known f) (lowered (expr_tree d.body)) in
    let is : w ≡ capped n = measured_is measure counted d known calls w law same e in
    ap (λ m. Some (length before, m)) is
    ∙ ap (λ ks. Some (length ks, capped n)) still
    ∙ sym (passes limit (length known) n (measured measure (known ++ n ∷ []) (map def_tree (drop (i + 1) defs))) (omega (arith, is)))
    ∙ ap (λ rest. first_above limit (length known) (measured measure known (map def_tree rest))) (sym (item_dropped defs i d h at))
    ∙ inv
