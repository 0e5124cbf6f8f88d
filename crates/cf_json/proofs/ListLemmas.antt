-- Texts with a comma and a space between each two.
use Rattle.std.proofs.Common.{◌≡◌, ℕ, zero, suc, ◌+◌, ◌≤◌, ◌<◌, List, [], ◌∷◌, ◌++◌, length, take, map, refl, ap, sym, ◌∙◌, arith, get_or, slice_get, Some, None, append_assoc, codes, decimal}
use Rattle.std.proofs.lemmas.List.{take_more, map-append, length-map}
use Rattle.cf_tree.specs.Values.{Value}
use Rattle.cf_eval.specs.Seen.{plain, plains}
use Rattle.cf_eval.specs.declared.value.Value.{Value as RunValue}
use Rattle.cf_json.specs.Texts.{choose_error_text, gap, label, listed, member, members, name_at, name_or, quoted, value_json}

-- one text more, behind the comma where others stand before it
listed_last : (x : List ℕ) (xs : List (List ℕ)) (y : List ℕ) → listed ((x ∷ xs) ++ y ∷ []) ≡ listed (x ∷ xs) ++ (codes ", " ++ y)
listed_last x [] y = refl
listed_last x (w ∷ xs) y =
    ap (λ t. x ++ (codes ", " ++ t)) (listed_last w xs y) ∙ sym (append_assoc x (codes ", " ++ listed (w ∷ xs)) (codes ", " ++ y))

listed_more : (xs : List (List ℕ)) (y : List ℕ) → listed (xs ++ y ∷ []) ≡ listed xs ++ (gap (length xs) ++ y)
listed_more [] y = refl
listed_more (x ∷ xs) y = listed_last x xs y

-- a step of a loop that writes them
pub step_more : (xs : List (List ℕ)) (i : ℕ) (y old now gapped new : List ℕ) → length xs ≡ i → now ≡ old ++ listed xs → gapped ≡ now ++ gap i → new ≡ gapped ++ y →
    new ≡ old ++ listed (xs ++ y ∷ [])
step_more xs i y old now gapped new count is gap_is put =
    rw (put, gap_is, is, ← count, listed_more xs y) (simp append_assoc refl)

count_taken : {X : Type 0} (xs : List X) (i : ℕ) → i < length xs → length (take i xs) ≡ i
count_taken [] i fits = absurd (omega (arith, fits))
count_taken (x ∷ xs) zero fits = refl
count_taken (x ∷ xs) (suc i) fits = ap suc (count_taken xs i (omega (arith, fits)))

pub items_more : {X : Type 0} (f : X → List ℕ) (xs : List X) (i : ℕ) (d : X) (old now gapped new : List ℕ) → i < length xs →
    now ≡ old ++ listed (map f (take i xs)) → gapped ≡ now ++ gap i → new ≡ gapped ++ f (get_or xs i d) →
    new ≡ old ++ listed (map f (take (i + 1) xs))
items_more f xs i d old now gapped new fits is gap_is put =
    rw (take_more xs i d fits, map-append f (take i xs) (get_or xs i d ∷ []))
    (step_more (map f (take i xs)) i (f (get_or xs i d)) old now gapped new (length-map (take i xs) f ∙ count_taken xs i fits) is gap_is put)

-- ---- members
members_more : (names : List (List ℕ)) (i : ℕ) (vs : List Value) (v : Value) →
    members names i (vs ++ v ∷ []) ≡ members names i vs ++ member (name_at names (i + length vs)) (value_json v) ∷ []
members_more names i [] v = let same : i + 0 ≡ i = omega arith in rw same refl
members_more names i (w ∷ vs) v =
    let same : i + 1 + length vs ≡ i + length (w ∷ vs) = omega arith in
    ap (λ ms. member (name_at names i) (value_json w) ∷ ms) (rw (← same) (members_more names (i + 1) vs v))

count_members : (names : List (List ℕ)) (i : ℕ) (vs : List Value) → length (members names i vs) ≡ length vs
count_members names i [] = refl
count_members names i (v ∷ vs) = ap suc (count_members names (i + 1) vs)

pub member_more : (names : List (List ℕ)) (vs : List RunValue) (i : ℕ) (d : RunValue) (old now gapped new : List ℕ) → i < length vs →
    now ≡ old ++ listed (members names 0 (plains (take i vs))) → gapped ≡ now ++ gap i →
    new ≡ gapped ++ member (name_at names i) (value_json (plain (get_or vs i d))) →
    new ≡ old ++ listed (members names 0 (plains (take (i + 1) vs)))
member_more names vs i d old now gapped new fits is gap_is put =
    let before = plains (take i vs) in
    let v = plain (get_or vs i d) in
    let count : length before ≡ i = length-map (take i vs) plain ∙ count_taken vs i fits in
    let at : 0 + length before ≡ i = omega (arith, count) in
    rw (take_more vs i d fits, map-append plain (take i vs) (get_or vs i d ∷ []), members_more names 0 before v, at)
    (step_more (members names 0 before) i (member (name_at names i) (value_json v)) old now gapped new (count_members names 0 before ∙ count) is gap_is put)

-- ---- names
named : (names : List (List ℕ)) (i : ℕ) (d : List ℕ) → i < length names → slice_get names i ≡ Some (get_or names i d)
named [] i d fits = absurd (omega (arith, fits))
named (x ∷ names) zero d fits = refl
named (x ∷ names) (suc i) d fits = named names i d (omega (arith, fits))

unnamed : (names : List (List ℕ)) (i : ℕ) → length names ≤ i → slice_get names i ≡ None
unnamed [] i few = refl
unnamed (x ∷ names) zero few = absurd (omega (arith, few))
unnamed (x ∷ names) (suc i) few = unnamed names i (omega (arith, few))

pub name_here : (names : List (List ℕ)) (i : ℕ) (name d : List ℕ) → i < length names → name ≡ get_or names i d → name ≡ name_at names i
name_here names i name d fits is = is ∙ sym (ap (λ o. name_or o i) (named names i d fits))

pub no_name : (names : List (List ℕ)) (i : ℕ) → length names ≤ i → codes "r" ++ decimal (i + 1) ≡ name_at names i
no_name names i few = sym (ap (λ o. name_or o i) (unnamed names i few))

-- ---- a fault at a choose, part by part
joined : (old a l q c m e : List ℕ) → old ++ a ++ l ++ q ++ (c ++ m ++ e) ≡ old ++ (a ++ ((l ++ q) ++ (c ++ m)) ++ e)
joined old a l q c m e = simp append_assoc refl

pub choose_error_parts : (old opened labelled worded new words : List ℕ) (n : ℕ) → opened ≡ old ++ 123 ∷ [] → labelled ≡ opened ++ label (codes "error") →
    worded ≡ labelled ++ quoted words → new ≡ worded ++ (codes ", " ++ member (codes "choose") (decimal n) ++ codes "}") →
    new ≡ old ++ choose_error_text words n
choose_error_parts old opened labelled worded new words n open_is label_is word_is new_is =
    rw (new_is, word_is, label_is, open_is)
    (joined old (codes "{") (label (codes "error")) (quoted words) (codes ", ") (member (codes "choose") (decimal n)) (codes "}"))
