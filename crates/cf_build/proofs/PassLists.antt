-- Passes in a list, each called once, and what they make.
use Rattle.std.proofs.Common.{refl, ◌≡◌, ◌≤◌, ◌<◌, ℕ, ◌+◌, List, [], ◌∷◌, ◌++◌, length, map, take, drop, get_or, set, sym, ◌∙◌, ap, subst, arith}
use Rattle.std.proofs.Math.Numerals.{add-one}
use Rattle.std.proofs.Math.ListN.{drop_of_length-le}
use Rattle.std.proofs.Math.Seq.{drop-cons}
use Rattle.std.proofs.lemmas.List.{append-nil, map-append, take_more, take_more_set, take_all, drop-set-lt, length-set}
use Rattle.cf_tree.specs.CodeTree.{CodeTree}
use Rattle.cf_pass.specs.Passes.{Told, HasTurned, HaveTurned, IsMade, AreMade}

turned_push : (os ns : List Told) (o n : Told) → HaveTurned os ns → HasTurned o n → HaveTurned (os ++ o ∷ []) (ns ++ n ∷ [])
turned_push [] [] o n h k = (k, tt)
turned_push [] (m ∷ ns) o n h k = absurd h
turned_push (p ∷ os) [] o n h k = absurd h
turned_push (p ∷ os) (m ∷ ns) o n h k = (h.0, turned_push os ns o n h.1 k)

made_push : (outside : ℕ) (os ns : List Told) (o n : Told) (a b c : CodeTree) → AreMade outside os ns a b → IsMade outside o n b c →
    AreMade outside (os ++ o ∷ []) (ns ++ n ∷ []) a c
made_push outside [] [] o n a b c h k = (c, subst (λ v. IsMade outside o n v c) h k, refl)
made_push outside [] (m ∷ ns) o n a b c h k = absurd h
made_push outside (p ∷ os) [] o n a b c h k = absurd h
made_push outside (p ∷ os) (m ∷ ns) o n a b c h k = (h.0, h.1, made_push outside os ns o n h.0 b c h.2 k)

module _ {X : Type 0} (tell : X → Told) (outside : ℕ) (first : CodeTree) where
  -- those before place i were called, and have made this code of the first; the others are as they were
  pub record AreUnder (code : CodeTree) (old now : List X) (i : ℕ) : Type 0 where
    pub called : HaveTurned (map tell (take i old)) (map tell (take i now))
    pub made : AreMade outside (map tell (take i old)) (map tell (take i now)) first code
    pub others : drop i now ≡ drop i old
    pub long : length now ≡ length old
    pub within : i ≤ length old

  from_here : (xs : List X) (i : ℕ) (d : X) → i < length xs → drop i xs ≡ get_or xs i d ∷ drop (i + 1) xs
  from_here xs i d l = subst (λ k. drop i xs ≡ get_or xs i d ∷ drop k xs) (sym (add-one i)) (drop-cons xs i d l)

  tails : {x y : X} {xs ys : List X} → x ∷ xs ≡ y ∷ ys → xs ≡ ys
  tails e = cc

  heads : {x y : X} {xs ys : List X} → x ∷ xs ≡ y ∷ ys → x ≡ y
  heads e = cc

  -- what a list tells that is a front and one more
  told_more : (all front : List X) (x : X) → all ≡ front ++ x ∷ [] → map tell all ≡ map tell front ++ tell x ∷ []
  told_more all front x e = ap (map tell) e ∙ map-append tell front (x ∷ [])

  pub under_more : (code after : CodeTree) (old now new : List X) (i : ℕ) (x y : X) → i < length now → x ≡ get_or now i x → new ≡ set now i y →
      HasTurned (tell x) (tell y) → IsMade outside (tell x) (tell y) code after → AreUnder code old now i → AreUnder after old new (i + 1)
  under_more code after old now new i x y l e f h k u =
      let m : i < length old = omega (arith, l, u.long) in
      let both : get_or now i x ∷ drop (i + 1) now ≡ get_or old i x ∷ drop (i + 1) old = sym (from_here now i x l) ∙ u.others ∙ from_here old i x m in
      let same : x ≡ get_or old i x = e ∙ heads both in
      let olds : take (i + 1) old ≡ take i old ++ x ∷ [] = take_more old i x m ∙ ap (λ v. take i old ++ v ∷ []) (sym same) in
      let news : take (i + 1) new ≡ take i now ++ y ∷ [] = ap (λ v. take (i + 1) v) f ∙ take_more_set now i y l in
      record {
        called = rw (told_more (take (i + 1) old) (take i old) x olds, told_more (take (i + 1) new) (take i now) y news)
            (turned_push (map tell (take i old)) (map tell (take i now)) (tell x) (tell y) u.called h);
        made = rw (told_more (take (i + 1) old) (take i old) x olds, told_more (take (i + 1) new) (take i now) y news)
            (made_push outside (map tell (take i old)) (map tell (take i now)) (tell x) (tell y) first code after u.made k);
        others = rw (f, drop-set-lt (i + 1) now i y (omega arith)) (tails both);
        long = rw (f, length-set now i y) u.long;
        within = omega (arith, m);
      }

  under_all : (code : CodeTree) (old now : List X) (i : ℕ) → length now ≤ i → AreUnder code old now i →
      HaveTurned (map tell old) (map tell now) × AreMade outside (map tell old) (map tell now) first code
  under_all code old now i l u =
      let all_old = take_all i old (omega (arith, l, u.long)) in
      let all_now = take_all i now l in (rw (all_old, all_now) at u.called, rw (all_old, all_now) at u.made)

  -- ---- the end of the loop over a vector of n passes, which writes them back
  written_back : (old now : List X) (n : ℕ) → length old ≡ n → length now ≡ length old → take n (now ++ drop (length now) old) ≡ now
  written_back old now n e l = rw (drop_of_length-le old {i = length now} (omega (arith, l)), append-nil now) (take_all n now (omega (arith, e, l)))

  pub made_at_end : (code : CodeTree) (old now : List X) (n i : ℕ) → length old ≡ n → length now ≤ i → AreUnder code old now i →
      HaveTurned (map tell old) (map tell (take n (now ++ drop (length now) old)))
      × AreMade outside (map tell old) (map tell (take n (now ++ drop (length now) old))) first code
  made_at_end code old now n i e l u =
      subst (λ ps. HaveTurned (map tell old) (map tell ps) × AreMade outside (map tell old) (map tell ps) first code)
      (sym (written_back old now n e u.long)) (under_all code old now i l u)
