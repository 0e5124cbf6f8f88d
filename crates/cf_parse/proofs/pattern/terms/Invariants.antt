use Rattle.std.proofs.Common.{◌≡◌, ◌-◌, length, map, []}
use Rattle.cf_tree.specs.RawView.{part_tree}
use Rattle.cf_parse.specs.Reading.{terms_of}
use Rattle.cf_parse.proofs.pattern.terms.Given as goal

abbrev pub invariant-loop : goal.invariant-loop
invariant-loop l =
    terms_of l.edition (length l.fn.tokens - l.counter) l.start l.sign (map part_tree l.parts.items) l.rest
    ≡ terms_of l.edition (length l.fn.tokens) l.fn.first_start l.fn.first_sign [] l.fn.tokens
