-- The plain trees that terms of the program stand for.
use Rattle.std.specs.Prelude.{List, map}
use Rattle.cf_print_term.specs.Terms.{Term as TermTree, Terms, word, before, between, call, choice, terms_of}
use Rattle.cf_print_term.specs.declared.term.Term.{Term}
use Rattle.cf_print_term.specs.declared.term.Term.TheOpen.{Term-F}
use Rattle.cf_print_term.specs.declared.term.Term.TheFolds.{fold-Term}

-- one level, with the trees of the parts in their places
abbrev pub term_step : Term-F TermTree → TermTree
term_step (Term-F.Word w) = word w
term_step (Term-F.Before s a) = before s a.value
term_step (Term-F.Between s a b) = between s a.value b.value
term_step (Term-F.Call c ts) = call c (terms_of ts.items)
term_step (Term-F.Choice k a b c) = choice k a.value b.value c.value

abbrev pub term_tree : Term → TermTree
term_tree = fold-Term TermTree term_step

abbrev pub term_trees : List Term → Terms
term_trees ts = terms_of (map term_tree ts)
