use Rattle.std.proofs.Common.{◌≡◌, length, map, ap, arith, Err, sym, subst}
use Rattle.std.proofs.lemmas.List.{length-map}
use Rattle.cf_tree.specs.ChooseView.{choose_tree}
use Rattle.cf_linear.specs.Cases.{first_systems}
use Rattle.cf_linear.specs.Views.{plain_layout, system_of}
use Rattle.cf_cases.specs.Holding.{IsPlacedRel}
use Rattle.cf_cases.proofs.PlacedLaws.{placed-rel}
use Rattle.cf_choose.specs.ArmBuilders.{HasOutputs}
use Rattle.cf_choose.proofs.CaseLemmas.{few_sets}
use Rattle.cf_choose.proofs.ChooseLevels.{are_outputs, has_outputs}
use Rattle.cf_steps.specs.Blocks.{block_tree}
use Rattle.cf_cert.specs.Verifying.{JudgeIs, ArmsIs}
use Rattle.cf_cert.proofs.VerdictLaws.{counts_fault, refused_rows, other_cases, arms_armed, few_cases}
use Rattle.cf_cert.proofs.judge.block_arms.Goals as goal

pub returns-in-Err : goal.returns-in-Err
returns-in-Err c =
    subst (λ f. JudgeIs (choose_tree c.args.choose.now) (block_tree c.args.block.now) (Err f)) (sym c.whole_refusal.ensures)
    (counts_fault (choose_tree c.args.choose.now) (block_tree c.args.block.now) (plain_layout c.args.layout.now) c.in-Err.fault c.requires.placed
    c.in-Err.ensures)

pub systems-requires-clause-placed : goal.systems-requires-clause-placed
systems-requires-clause-placed c =
    let q = choose_tree c.args.choose.now in
    let asked = c.requires.choose in
    subst (λ l. IsPlacedRel l q.relation) (sym c.requires.placed.layout) (placed-rel q.scope q.outputs q.relation asked.typed asked.linear)

pub returns-in-Err-Past : goal.returns-in-Err-Past
returns-in-Err-Past c =
    subst (λ f. JudgeIs (choose_tree c.args.choose.now) (block_tree c.args.block.now) (Err f)) (sym c.whole.ensures)
    (refused_rows (choose_tree c.args.choose.now) (block_tree c.args.block.now) (plain_layout c.args.layout.now) c.requires.placed c.in_default.ensures
    (rw c.in-Err-Past.field-0-is at c.in-Err-Past.ensures.systems))

pub returns-then-len : goal.returns-then-len
returns-then-len c =
    let e = c.in-Ok.ensures.systems in
    subst (λ f. JudgeIs (choose_tree c.args.choose.now) (block_tree c.args.block.now) (Err f)) (sym c.whole-then-len.ensures)
    (other_cases (choose_tree c.args.choose.now) (block_tree c.args.block.now) (plain_layout c.args.layout.now) c.requires.placed c.in_default.ensures e.0
    (λ n. c.if-len.true (omega (
      arith,
      n,
      c.len.ensures,
      c.len-2.ensures,
      length-map c.args.block.now.cases.items (λ v. v.items),
      ap length e.1,
      length-map c.in-Ok.systems.items system_of,
    ))))

pub arms-requires-clause-sets : goal.arms-requires-clause-sets
arms-requires-clause-sets c =
    let q = choose_tree c.args.choose.now in
    record {
      few = few_sets (plain_layout c.args.layout.now) q.relation c.in_default.ensures;
      outputs = subst HasOutputs (sym c.requires.placed.layout) (has_outputs q.scope q.outputs q.relation (are_outputs q.outputs c.requires.choose.are_outputs));
    }

pub arms-requires-clause-count : goal.arms-requires-clause-count
arms-requires-clause-count c =
    let q = choose_tree c.args.choose.now in
    let e = c.in-Ok.ensures.systems in
    omega (
      arith,
      few_cases (plain_layout c.args.layout.now) q.relation c.in_default.ensures,
      ap length e.1,
      length-map c.in-Ok.systems.items system_of,
      c.if-len.false,
      c.len.ensures,
      c.len-2.ensures,
      ap length c.deref.ensures.value,
    )

pub returns : goal.returns
returns c =
    let q = choose_tree c.args.choose.now in
    let b = block_tree c.args.block.now in
    let l = plain_layout c.args.layout.now in
    let e = c.in-Ok.ensures.systems in
    let n : length b.cases ≡ length (first_systems l q.relation) = omega (
      arith,
      c.if-len.false,
      c.len.ensures,
      c.len-2.ensures,
      length-map c.args.block.now.cases.items (λ v. v.items),
      ap length e.1,
      length-map c.in-Ok.systems.items system_of,
    ) in
    arms_armed q b l c.requires.placed c.in_default.ensures e.0 c.arms.result n
    (subst (λ ms. ArmsIs l ms b.cases c.arms.result) e.1
    (subst (λ cs. ArmsIs l (map system_of c.in-Ok.systems.items) (map (λ v. v.items) cs) c.arms.result) c.deref.ensures.value c.arms.ensures))
