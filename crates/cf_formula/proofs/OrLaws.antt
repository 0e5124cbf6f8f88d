-- Ends that make nothing: a formula for each way in which it can hold, or none.
use Rattle.std.proofs.Common.{◌≡◌, ℕ, pos, List, [], ◌∷◌, map, refl, inl, inr, ⊎_elim, ◌↔◌}
use Rattle.cf_linear.specs.Keep.{In}
use Rattle.cf_linear.specs.Rows.{Values}
use Rattle.cf_formula.specs.Branches.{Branch, EachBranch, SomeBranch, GoesOn, ComesBack, Grows, Leads, plain}
use Rattle.cf_formula.specs.Formulas.{Formula, Holds, EachFormula, SomeFormula}

module _ (known : List ℕ) (Given : Values → Type 0) where
  pub plain_grows : (f : Formula) → Grows known (plain known f)
  plain_grows f = record { grows = λ c i. i; bounds_known = λ c i. absurd i; items_known = tt }

  -- one of the formulas holds exactly where f does
  pub some_leads : (f : Formula) (gs : List Formula) → ((v : Values) → v 0 ≡ pos 1 → Given v → Holds v f ↔ SomeFormula (Holds v) gs) →
      Leads known Given f (map (plain known) gs)
  some_leads f gs e = record {
    forth = λ v one given h. some gs v ((e v one given).0 h);
    back = each gs (λ v one given h. (e v one given).1 h);
    formed = grows gs;
  }
    where
      some : (gs : List Formula) (v : Values) → SomeFormula (Holds v) gs → SomeBranch (GoesOn known v) (map (plain known) gs)
      some [] v h = absurd h
      some (g ∷ gs) v h = ⊎_elim (λ i. inl (v, (λ c j. refl), tt, tt, i)) (λ i. inr (some gs v i)) h

      each : (gs : List Formula) → ((v : Values) → v 0 ≡ pos 1 → Given v → SomeFormula (Holds v) gs → Holds v f) →
          EachBranch (ComesBack known Given f) (map (plain known) gs)
      each [] k = tt
      each (g ∷ gs) k = ((λ v one given w m h. (k v one given (inl h), λ c i. refl)), each gs (λ v one given h. k v one given (inr h)))

      grows : (gs : List Formula) → EachBranch (Grows known) (map (plain known) gs)
      grows [] = tt
      grows (g ∷ gs) = (plain_grows g, grows gs)

  -- a formula that holds where the other one does
  pub same_leads : (f g : Formula) → ((v : Values) → v 0 ≡ pos 1 → Given v → Holds v f ↔ Holds v g) → Leads known Given f (plain known g ∷ [])
  same_leads f g e = some_leads f (g ∷ [])
      (λ v one given. let i = e v one given in ((λ h. inl (i.0 h)), (λ h. ⊎_elim (λ k. i.1 k) (λ k. absurd k) h)))

  -- `close`: no branch
  pub close_leads : (f : Formula) → ((v : Values) → v 0 ≡ pos 1 → Given v → Holds v f → ⊥) → Leads known Given f []
  close_leads f n = some_leads f [] (λ v one given. ((λ h. n v one given h), (λ h. absurd h)))
