use Rattle.std.proofs.Common.{rules, ◌≡◌, ◌≢◌, pos, negsuc, [], ◌∷◌}
use Rattle.cf_linear.specs.Rows.{comb, entry}
use Rattle.cf_close.proofs.DefineLemmas.{gives}
use Rattle.cf_close.proofs.define.definition.Goals as goal

pub returns-in-Ok : goal.returns-in-Ok
returns-in-Ok c =
    let n : c.args.column ≢ 0 = search rules in
    let x : entry c.args.row.now c.args.column ≡ pos 0 = search rules in
    let e : c.in-Ok.less ≡ comb (pos 1) c.args.row.now (negsuc 0) ((c.args.column, pos 1) ∷ []) = search rules in
    record { other = n; gives = λ v. rw c.fact_of.ensures (gives c.args.column c.args.row.now c.in-Ok.less n x e v) }
