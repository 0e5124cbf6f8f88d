use Rattle.std.proofs.Common.{◌≡◌, ◌<◌, ◌≤◌, length, get_or, refl, sym, ap, ◌∙◌, arith}
use Rattle.cf_tree.specs.CodeView.{code_tree}
use Rattle.cf_pass.proofs.Forms.{improves_on}
use Rattle.cf_build.proofs.PassLists.{under_more, made_at_end}
use Rattle.cf_build.proofs.rewrite.rewrite_by_each.Goals as goal

pub loop-pass-preserved : goal.loop-pass-preserved
loop-pass-preserved g c =
    let i = c.loop-pass.pass-index in
    let inside : i < length c.loop-pass.pass-items = omega arith in
    let x = get_or c.loop-pass.pass-items i c.pass-item.result in (
      improves_on c.args.outside (code_tree c.args.code.now) (code_tree c.loop-pass.code) (code_tree c.rewrite_once.new.code) c.loop-pass.invariant.0
          c.rewrite_once.ensures.code.better,
      under_more _ _ _ _ _ c.args.passes.now.items c.loop-pass.pass-items _ i x c.rewrite_once.new.pass inside
          (ap (λ d. get_or c.loop-pass.pass-items i d) c.pass-item.is) refl
          (record { name = c.rewrite_once.ensures.name; tally = c.rewrite_once.ensures.tally; turns = c.rewrite_once.ensures.turns })
          c.rewrite_once.ensures.code c.loop-pass.invariant.1,
    )

pub returns-clause-made : goal.returns-clause-made
returns-clause-made g c =
    let long : length c.args.passes.now.items ≡ c.args.passes.now.len =
    ap length (sym c.deref_mut-pass-items.ensures.value) ∙ c.deref_mut-pass-items.ensures.len in
    let all : length c.loop-pass.pass-items ≤ c.loop-pass.pass-index = omega arith in
    (made_at_end _ _ _ _ c.args.passes.now.items c.loop-pass.pass-items c.args.passes.now.len c.loop-pass.pass-index long all c.loop-pass.invariant.1).1

pub returns-clause-turned : goal.returns-clause-turned
returns-clause-turned g c =
    let long : length c.args.passes.now.items ≡ c.args.passes.now.len =
    ap length (sym c.deref_mut-pass-items.ensures.value) ∙ c.deref_mut-pass-items.ensures.len in
    let all : length c.loop-pass.pass-items ≤ c.loop-pass.pass-index = omega arith in
    (made_at_end _ _ _ _ c.args.passes.now.items c.loop-pass.pass-items c.args.passes.now.len c.loop-pass.pass-index long all c.loop-pass.invariant.1).0
