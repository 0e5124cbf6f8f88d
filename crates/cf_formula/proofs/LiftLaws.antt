-- A step of systems beside formulas that it leaves.
use Rattle.std.proofs.Common.{◌≡◌, ℕ, ◌<◌, pos, [], ◌∷◌, map, sym, inl, ◌∙◌, ◌↔◌}
use Rattle.cf_linear.specs.Keep.{In, Keeps, after_back}
use Rattle.cf_linear.specs.Rows.{Values}
use Rattle.cf_linear.specs.Systems.{System, Sat, Answer}
use Rattle.cf_formula.specs.Branches.{Branch, Grows, Leads}
use Rattle.cf_formula.specs.Formulas.{Formula, Holds, Throughout}
use Rattle.cf_formula.specs.Items.{item_of}
use Rattle.cf_formula.proofs.FormulaLemmas.{Holds-same}
use Rattle.cf_formula.proofs.ItemLaws.{items_met}

abbrev pub lifted : Answer → Formula → Branch
lifted a g = record { known = a.system.known; bounds = a.bounds; items = map item_of a.steps; formula = g; back = a.back }

-- the formula is that of a system and a rest
abbrev pub IsBeside : System → Formula → Formula → Type 0
IsBeside m rest f = (v : Values) → v 0 ≡ pos 1 → Holds v f ↔ (Sat m v × Holds v rest)

-- the way back leaves the rest and the known columns
pub lift_leads : (m : System) (a : Answer) (Given : Values → Type 0) (f g rest : Formula) → Keeps m a → In 0 m.known →
    ((c : ℕ) → In c m.known → c < m.next) → Throughout (λ c. c < m.next) rest → IsBeside m rest f → IsBeside a.system rest g →
    ((v : Values) → Holds v rest → Holds (after_back v a.back) rest) → ((v : Values) (c : ℕ) → In c m.known → v c ≡ after_back v a.back c) →
    Grows m.known (lifted a g) → Leads m.known Given f (lifted a g ∷ [])
lift_leads m a Given f g rest k constant below t is_f is_g leaves kept grows = record {
  forth = λ v one given h.
      let s = (is_f v one).0 h in
      let o = k.forth v one s.0 in
      let there : o.0 0 ≡ pos 1 = sym (o.1 0 (below 0 constant)) ∙ one in
      inl (
        o.0,
        (λ c i. o.1 c (below c i)),
        o.2,
        (items_met o.0 a.steps).1 o.3,
        (is_g o.0 there).1 (o.4, Holds-same m.next v o.0 o.1 rest t s.1),
      );
  back = (
    (λ v one given w met h.
        let s = (is_g v one).0 h in
        let there : after_back v a.back 0 ≡ pos 1 = sym (kept v 0 constant) ∙ one in (
          (is_f (after_back v a.back) there).1 (k.back v one w ((items_met v a.steps).0 met) s.0, leaves v s.1),
          kept v,
        )),
    tt,
  );
  formed = (grows, tt);
}
