-- The names of truth variables, as heads of blocks spell them.
use Rattle.std.proofs.Common.{◌≡◌, ◌∙◌, sym, ap, subst, refl, ℕ, ◌+◌, ◌<◌, Bool, true, false, not, ◌&&◌, List, [], ◌∷◌, ◌++◌, Result, Ok, Err, length, map, take, get_or, All}
use Rattle.std.proofs.lemmas.List.{take_more, map-append}
use Rattle.std.proofs.lemmas.List.Elements.{All-nil, All-cons, All-append}
use Rattle.cf_form.specs.ToldView.{truth_at}
use Rattle.cf_form.specs.declared.told.TruthAt.{TruthAt}
use Rattle.cf_lex.specs.Words.{is_reserved}
use Rattle.cf_lex.specs.declared.token.Token.{Token}
use Rattle.cf_lex.specs.declared.token.TokenKind.TheVariants.{Word}
use Rattle.cf_reader.specs.Readers.{must, at, a_name}
use Rattle.cf_steps.specs.Spelled.{is_word, IsSpelledTruth}
use Rattle.cf_steps.specs.declared.block.NamedTruth.{NamedTruth}
use Rattle.cf_tree.specs.declared.base.Edition.TheVariants.{Three}
use Rattle.cf_tree.specs.declared.base.Place.{Place}
use Rattle.cf_answer.specs.Branches.{named}

-- one more truth variable of a head
pub heads_next : (names : List (List ℕ)) (branch : List TruthAt) (i : ℕ) (d : TruthAt) (t : NamedTruth) (old new : List NamedTruth) → i < length branch →
    new ≡ old ++ t ∷ [] → (t ≡ named names (truth_at (get_or branch i d))) × IsSpelledTruth t →
    (old ≡ map (named names) (map truth_at (take i branch))) × All IsSpelledTruth old →
    (new ≡ map (named names) (map truth_at (take (i + 1) branch))) × All IsSpelledTruth new
heads_next names branch i d t old new lt is one before =
    let more : take (i + 1) branch ≡ take i branch ++ get_or branch i d ∷ [] = take_more branch i d lt in
    let all : map (named names) (map truth_at (take (i + 1) branch)) ≡ map (named names) (map truth_at (take i branch)) ++ named names
    (truth_at (get_or branch i d)) ∷ [] =
    ap (λ xs. map (named names) (map truth_at xs)) more
    ∙ ap (map (named names)) (map-append truth_at (take i branch) (get_or branch i d ∷ []))
    ∙ map-append (named names) (map truth_at (take i branch)) (truth_at (get_or branch i d) ∷ []) in (
      is ∙ ap (λ xs. xs ++ t ∷ []) before.0 ∙ ap (λ x. map (named names) (map truth_at (take i branch)) ++ x ∷ []) one.0 ∙ sym all,
      rw is (All-append IsSpelledTruth old (t ∷ []) before.1 (All-cons IsSpelledTruth t [] one.1 (All-nil IsSpelledTruth))),
    )

-- a word is read as a name where it is none of the reserved ones
and_all : (b : Bool) → b ≡ (b && not false)
and_all true = refl
and_all false = refl

and_none : (b : Bool) → false ≡ (b && not true)
and_none true = refl
and_none false = refl

not_both : {A : Type 0} (r : Result A ℕ) (x : A) (n : ℕ) → r ≡ Ok x → r ≡ Err n → ⊥
not_both r x n a b = let both : Ok x ≡ Err n = sym a ∙ b in cc

module _ (p : Place) (name : List ℕ) where
  abbrev alone : List Token
  alone = record { place = p; kind = Word name } ∷ []

  read_free : is_reserved Three name ≡ false → must (a_name Three) alone ≡ Ok ((p, name), [])
  unfolding must at
  read_free e = rw (e, must, at) refl

  read_taken : is_reserved Three name ≡ true → must (a_name Three) alone ≡ Err 1
  unfolding must at
  read_taken e = rw (e, must, at) refl

  free_of : (reserved : Bool) (x : (Place × List ℕ) × List Token) → is_reserved Three name ≡ reserved → must (a_name Three) alone ≡ Ok x →
      is_reserved Three name ≡ false
  free_of false x e read = e
  free_of true x e read = absurd (not_both (must (a_name Three) alone) x 1 read (read_taken e))

  taken_of : (reserved : Bool) (n : ℕ) → is_reserved Three name ≡ reserved → must (a_name Three) alone ≡ Err n → is_reserved Three name ≡ true
  taken_of true n e read = e
  taken_of false n e read = absurd (not_both (must (a_name Three) alone) ((p, name), []) n (read_free e) read)

  pub name_read : (ts : List Token) (x : (Place × List ℕ) × List Token) (b : Bool) → ts ≡ record { place = p; kind = Word name } ∷ [] →
      must (a_name Three) ts ≡ Ok x → b ≡ is_word name → b ≡ (is_word name && not (is_reserved Three name))
  name_read ts x b is read word =
      let free = free_of (is_reserved Three name) x refl (subst (λ us. must (a_name Three) us ≡ Ok x) is read) in
      word ∙ subst (λ r. is_word name ≡ (is_word name && not r)) (sym free) (and_all (is_word name))

  pub name_not_read : (ts : List Token) (n : ℕ) → ts ≡ record { place = p; kind = Word name } ∷ [] → must (a_name Three) ts ≡ Err n →
      false ≡ (is_word name && not (is_reserved Three name))
  name_not_read ts n is read =
      let taken = taken_of (is_reserved Three name) n refl (subst (λ us. must (a_name Three) us ≡ Err n) is read) in
      subst (λ r. false ≡ (is_word name && not r)) (sym taken) (and_none (is_word name))
