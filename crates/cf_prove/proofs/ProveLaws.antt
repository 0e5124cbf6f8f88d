-- The block of a solved choose: its steps and its target, and what it certifies.
use Rattle.std.proofs.Common.{◌≡◌, ℕ, ◌+◌, ◌<◌, List, [], ◌∷◌, ◌++◌, length, map, take, get_or, All, refl, sym, ◌∙◌, ap, subst}
use Rattle.std.specs.Prelude.{Vec}
use Rattle.std.specs.Global.{Global}
use Rattle.std.proofs.lemmas.List.{append-nil, map-append, take_more}
use Rattle.std.proofs.lemmas.List.Elements.{All-nil, All-cons, All-append}
use Rattle.cf_tree.specs.ChooseTree.{ChooseTree}
use Rattle.cf_tree.specs.declared.target.RawTarget.{RawTarget}
use Rattle.cf_linear.specs.Cases.{first_systems}
use Rattle.cf_linear.specs.Stages.{limits}
use Rattle.cf_linear.specs.Systems.{System}
use Rattle.cf_elim.specs.Acts.{IsColumn, IsSpelledAct, AreStepsOf, traced}
use Rattle.cf_elim.specs.declared.act.Act.{Act}
use Rattle.cf_elim.specs.declared.solved.CaseParts.{CaseParts}
use Rattle.cf_choose.specs.declared.solved.SolvedParts.{SolvedParts}
use Rattle.cf_choose.specs.Eliminations.{first_of}
use Rattle.cf_choose.specs.Laws.{IsUnrefused}
use Rattle.cf_choose.specs.Solved.{IsOf}
use Rattle.cf_steps.specs.declared.block.Block.{Block}
use Rattle.cf_steps.specs.declared.block.NamedTruth.{NamedTruth}
use Rattle.cf_steps.specs.Blocks.{BlockTree, block_tree, in_branch}
use Rattle.cf_steps.specs.Printed.{block_text}
use Rattle.cf_steps.specs.Spelled.{AreSpelledCases}
use Rattle.cf_cert.specs.Certifying.{layout, Certifies}
use Rattle.cf_cert.proofs.CertifiedArms.{certified_means}
use Rattle.cf_cert.proofs.SpelledLaws.{spelled_within}
use Rattle.cf_prove.specs.Acting.{AreTracesOf, IsTargetOf}
use Rattle.cf_prove.specs.Proving.{IsProved}
use Rattle.cf_prove.specs.Tracing.{traced_block}
use Rattle.cf_prove.proofs.TraceLaws.{traced_certifies}

-- ---- the steps of each case
pub none_traced : (cases : List (List Act)) → cases ≡ [] → AreTracesOf [] cases
none_traced cases e = record { are = e; spelled = subst AreSpelledCases (sym e) (All-nil (All IsSpelledAct)) }

traced_more : (ms : List System) (m : System) (cases more : List (List Act)) (acts : List Act) → more ≡ cases ++ (acts ∷ []) → AreStepsOf m acts →
    AreTracesOf ms cases → AreTracesOf (ms ++ (m ∷ [])) more
traced_more ms m cases more acts e t w = record {
  are =
      e ∙ ap (λ xs. xs ++ (acts ∷ [])) w.are ∙ ap (λ ys. map (traced limits) ms ++ (ys ∷ [])) t.are ∙ sym (map-append (traced limits) ms (m ∷ []));
  spelled = subst AreSpelledCases (sym e) (All-append (All IsSpelledAct) cases (acts ∷ []) w.spelled
      (All-cons (All IsSpelledAct) acts [] t.spelled (All-nil (All IsSpelledAct))));
}

-- the steps of one case more
pub one_traced : (cs : List CaseParts) (i : ℕ) (c : CaseParts) (vs ws : List (Vec Act Global)) (v : Vec Act Global) → i < length cs → c ≡ get_or cs i c →
    ws ≡ vs ++ (v ∷ []) → AreStepsOf (first_of c) v.items → AreTracesOf (map first_of (take i cs)) (map (λ x. x.items) vs) →
    AreTracesOf (map first_of (take (i + 1) cs)) (map (λ x. x.items) ws)
one_traced cs i c vs ws v l is e t w =
    let more : take (i + 1) cs ≡ take i cs ++ (c ∷ []) = take_more cs i c l ∙ ap (λ x. take i cs ++ (x ∷ [])) (sym is) in
    let firsts : map first_of (take (i + 1) cs) ≡ map first_of (take i cs) ++ (first_of c ∷ []) =
    ap (map first_of) more ∙ map-append first_of (take i cs) (c ∷ []) in
    subst (λ ms. AreTracesOf ms (map (λ x. x.items) ws)) (sym firsts)
    (traced_more (map first_of (take i cs)) (first_of c) (map (λ x. x.items) vs) (map (λ x. x.items) ws) v.items
    (ap (map (λ x. x.items)) e ∙ map-append (λ x. x.items) vs (v ∷ [])) t w)

-- ---- a choose that is solved
module _ (q : ChooseTree) (s : SolvedParts) (h : IsOf q.scope q.outputs q.relation s) where
  pub unrefused : IsUnrefused q.scope q.outputs q.relation
  unrefused =
      let k = h.solved in
      rw (← h.same_scope, ← h.same_outputs, ← h.same_relation)
      (record { typed = k.typed; linear = k.linear; are_outputs = k.are_outputs; within = k.within })

  pub firsts_are : (cs : List CaseParts) → cs ≡ s.cases.items → map first_of cs ≡ first_systems (layout q) q.relation
  firsts_are cs e =
      let k = h.solved in
      ap (map first_of) e ∙ rw (← h.same_scope, ← h.same_outputs, ← h.same_relation) k.firsts_are

-- ---- the block
-- what a block certifies does not depend on the branch that it names
in_branch_certifies : (q : ChooseTree) (truths : List NamedTruth) (b : BlockTree) → Certifies q b → Certifies q (in_branch truths b)
in_branch_certifies q truths b c = record {
  number = c.number;
  counts = c.counts;
  written = c.written;
  answers = c.answers;
  cases = c.cases;
  target = c.target;
}

pub is_proved : (q : ChooseTree) (truths : Vec NamedTruth Global) (cases : Vec (Vec Act Global) Global) (t : RawTarget) (text : List ℕ) → IsUnrefused q.scope q.outputs q.relation →
    IsColumn q.number → AreTracesOf (first_systems (layout q) q.relation) (map (λ c. c.items) cases.items) → IsTargetOf q t →
    text ≡ block_text q.number truths.items (map (λ c. c.items) cases.items) t → IsProved q truths.items text
is_proved q truths cases t text u n h k e =
    let b : Block = record { number = q.number; truths = truths; cases = cases; target = t } in
    let is : block_tree b ≡ in_branch truths.items (traced_block q) = rw (h.are, k.is) refl in
    let c : Certifies q (block_tree b) = subst (λ (x : BlockTree). Certifies q x) (sym is)
    (in_branch_certifies q truths.items (traced_block q) (traced_certifies q u)) in
    record {
      within = u.within;
      block = b;
      is = is;
      spelled = record { number = n; cases = h.spelled; target = k.spelled };
      printed = e ∙ sym (append-nil (block_text q.number truths.items (map (λ c. c.items) cases.items) t));
      certifies = c;
      means = certified_means q (block_tree b) (record { typed = u.typed; linear = u.linear; are_outputs = u.are_outputs })
          (spelled_within (map (λ c. c.items) cases.items) h.spelled) c;
    }
