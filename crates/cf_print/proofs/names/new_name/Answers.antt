use Rattle.std.proofs.Common.{rules, ◌≡◌, ◌<◌, ◌+◌, length, true, arith}
use Rattle.std.specs.Prelude.{option_map}
use Rattle.cf_print.specs.Names.{is_free, nth_name, longer}
use Rattle.cf_print.proofs.NameLaws.{found_name}
use Rattle.cf_print.proofs.names.new_name.Goals as goal

pub returns-then-branch : goal.returns-then-branch
returns-then-branch c =
    let free : is_free c.args.words.now c.args.taken.now c.in_ok-name.name ≡ true = search rules in
    found_name (is_free c.args.words.now c.args.taken.now) (nth_name c.args.words.now c.args.base (option_map (λ w. w.now) c.args.wish))
    (length c.args.taken.now + 2) c.loop-k.k (longer c.args.words.now c.args.taken.now) _ c.in_ok-name.name
    (omega (arith, c.loop-k-test.true, c.in_ok-k-end.ensures)) c.in_ok-name.ensures free c.loop-k.invariant
