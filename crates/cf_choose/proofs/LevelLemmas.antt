-- Lists of levels, and the codes of outputs, one more at a time.
use Rattle.std.proofs.Common.{◌≡◌, ℕ, suc, ◌+◌, ◌-◌, ◌<◌, ◌≤◌, List, [], ◌∷◌, ◌++◌, Bool, true, false, cond, filter, map, drop, length, get_or, refl, ap, ◌∙◌}
use Rattle.std.proofs.Common.{arith, append_assoc, append-nil, drop-cons}
use Rattle.std.specs.List.{range_with_len}
use Rattle.std.proofs.lemmas.List.{map-append}
use Rattle.std.proofs.lemmas.List.FromFn.{map-range_with_len_more}
use Rattle.cf_tree.specs.declared.base.Base.{Base}
use Rattle.cf_tree.specs.declared.code.Code.{Code}
use Rattle.cf_tree.specs.CodeTree.{CodeTree}
use Rattle.cf_tree.specs.CodeView.{code_tree}
use Rattle.cf_linear.specs.Arm.{ColumnLevels}
use Rattle.cf_linear.specs.Layout.{Layout, levels_with, number_column}
use Rattle.cf_setwit.specs.Naming.{IsNamed}
use Rattle.cf_choose.specs.ArmBuilders.{SameColumnLevels}

added : {A : Type 0} (out next rest whole : List A) (x : A) (p t : Bool) → t ≡ p → next ≡ out ++ cond t (x ∷ []) [] → out ++
    cond p (x ∷ rest) rest ≡ whole → next ++ rest ≡ whole
added out next rest whole x true true e n h = rw (n, append_assoc out (x ∷ []) rest) h
added out next rest whole x false false e n h = rw (n, append-nil out) h
added out next rest whole x true false e n h = absurd (cc)
added out next rest whole x false true e n h = absurd (cc)

pub levels_more : (p : Base → Bool) (n i : ℕ) (bases : List Base) (d : Base) (t : Bool) (x : ℕ) (out next whole : List ℕ) → i < length bases →
    t ≡ p (get_or bases i d) → x ≡ n + i →
    next ≡ out ++ cond t (x ∷ []) [] → out ++ levels_with p (n + i) (drop i bases) ≡ whole → next ++ levels_with p (n + (i + 1)) (drop (i + 1) bases) ≡ whole
levels_more p n i bases d t x out next whole h te xe ne inv =
    let k = drop-cons bases i d h in
    let s : i + 1 ≡ suc i = omega arith in
    let m : n + (i + 1) ≡ n + i + 1 = omega arith in
    let inv' = rw (k, ← xe) at inv in
    let e : n + (i + 1) ≡ x + 1 = omega arith in
    rw (e, s) (added out next (levels_with p (x + 1) (drop (suc i) bases)) whole x (p (get_or bases i d)) t te ne inv')

pub held_more : (p : ℕ → Bool) (i : ℕ) (xs : List ℕ) (t : Bool) (out next whole : List ℕ) → i < length xs → t ≡ p (get_or xs i 0) →
    next ≡ out ++ cond t (get_or xs i 0 ∷ []) [] → out ++ filter p (drop i xs) ≡ whole → next ++ filter p (drop (i + 1) xs) ≡ whole
held_more p i xs t out next whole h te ne inv =
    let k = drop-cons xs i 0 h in
    let s : i + 1 ≡ suc i = omega arith in
    let inv' = rw k at inv in
    rw s (added out next (filter p (drop (suc i) xs)) whole (get_or xs i 0) (p (get_or xs i 0)) t te ne inv')

pub gives_more : (f : ℕ → CodeTree) (codes next : List Code) (code : Code) (a i j : ℕ) → next ≡ codes ++ (code ∷ []) → code_tree code ≡ f j → a + i ≡ j →
    map code_tree codes ≡ map f (range_with_len a i) → map code_tree next ≡ map f (range_with_len a (i + 1))
gives_more f codes next code a i j e c s h = rw (e, map-append code_tree codes (code ∷ []), h, map-range_with_len_more f a i j s, c) refl

-- a parameter before the others
pub named_before : (l : Layout) (xs : List ℕ) (rest old new : ColumnLevels) (i level column d : ℕ) → 0 < i → i ≤ length xs → level ≡ get_or xs (i - 1) d →
    column ≡ number_column l level →
    IsNamed old column level new → SameColumnLevels old (map (λ x. (number_column l x, x)) (drop i xs) ++ rest) →
    SameColumnLevels new (map (λ x. (number_column l x, x)) (drop (i - 1) xs) ++ rest)
named_before l xs rest old new i level column z some h e c named same d =
    let s : suc (i - 1) ≡ i = omega arith in
    let k : drop (i - 1) xs ≡ level ∷ drop i xs = drop-cons xs (i - 1) z (omega arith) ∙ rw (← e) (ap (λ j. level ∷ drop j xs) s) in
    rw k (named d ∙ rw (same d, c) refl)
