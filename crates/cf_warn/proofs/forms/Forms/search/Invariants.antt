use Rattle.std.proofs.Common.{◌≡◌, ◌<◌, length, map}
use Rattle.cf_tree.specs.Meaning.{count_below, tuple_at}
use Rattle.cf_linear.specs.Views.{bound_of}
use Rattle.cf_warn.specs.Missing.{search_forms}
use Rattle.cf_warn.specs.Writing.{bounds_in, first_of, forms_of}
use Rattle.cf_warn.proofs.forms.Forms.search.Given as goal

abbrev pub invariant-loop-search : goal.invariant-loop-search
invariant-loop-search l = record {
  below : l.left < count_below (bounds_in l.rest);
  first : l.self.first ≡ l.fn.self.first;
  forms : search_forms (forms_of l.self) (map bound_of l.rest) (tuple_at (bounds_in l.rest) l.left) ≡
      search_forms (first_of l.fn.self) (map bound_of l.fn.bounds) (tuple_at (bounds_in l.fn.bounds) l.fn.number);
}

abbrev pub decreases-loop-search : goal.decreases-loop-search
decreases-loop-search l = length l.rest
