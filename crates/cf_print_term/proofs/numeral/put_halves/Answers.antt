use Rattle.cf_print_term.proofs.NumeralLists.{halves_put}
use Rattle.cf_print_term.proofs.numeral.put_halves.Goals as goal

pub returns : goal.returns
returns c =
    halves_put c.args.out.now.items c.extend_from_slice.new.self.items c.put_count.new.out.items c.extend_from_slice-2.new.self.items
    c.put_count-2.new.out.items c.extend_from_slice-3.new.self.items _ _ c.in_ok-extend_from_slice.ensures.items c.in_ok-put_count.ensures
    c.in_ok-extend_from_slice-2.ensures.items c.in_ok-put_count-2.ensures c.in_ok-extend_from_slice-3.ensures.items
