use Rattle.std.proofs.Common.{◌≡◌, ◌∙◌, ℤ, pos, true, refl, ap₂, subst, sym, w64, to_z, of_z, SFits}
use Rattle.std.specs.Prelude.{int_lt}
use Rattle.std.specs.Int.{w128, int_div_euclid}
use Rattle.std.proofs.lemmas.Int.{to_z-of_z}
use Rattle.cf_num.specs.Limit.{within}
use Rattle.cf_tree.specs.Numbers.{quotient}
use Rattle.cf_eval.specs.Quick.{Finds}
use Rattle.cf_eval.specs.Reached.{met}
use Rattle.cf_eval.proofs.NarrowLemmas.{widened}
use Rattle.cf_eval.proofs.quick.divided.Goals as goal

quotient_is : (x k : ℤ) → int_lt (pos 0) k ≡ true → quotient x k ≡ int_div_euclid x k
quotient_is x k e = rw e refl

pub returns-in-Ok : goal.returns-in-Ok
returns-in-Ok c =
    let known : c.in-Ok.d ≡ to_z w128 (of_z w128 c.args.k) = c.in-Ok.ensures.1 in
    let fits : SFits w64 c.in-Ok.d = subst (SFits w64) (sym known) c.in-Ok.ensures.0 in
    let again : to_z w64 (of_z w64 c.in-Ok.d) ≡ c.args.k = to_z-of_z w64 c.in-Ok.d fits ∙ known ∙ to_z-of_z w128 c.args.k c.ranges.k in
    let positive : int_lt (pos 0) c.args.k ≡ true = subst (λ v. int_lt (pos 0) v ≡ true) again c.if-d-gt0.true in
    let value : c.div_euclid.result ≡ int_div_euclid c.args.x c.args.k =
    c.div_euclid.ensures ∙ ap₂ int_div_euclid (to_z-of_z w64 c.args.x c.ranges.x) again in
    let wide = widened c.from.result c.div_euclid.result (record { sfits = c.from.type_inv }) c.from.ensures (record { sfits = c.div_euclid.type_inv }) in
    subst (λ v. Finds c.narrow.result (met (within v))) (wide ∙ value ∙ sym (quotient_is c.args.x c.args.k positive)) c.narrow.ensures
