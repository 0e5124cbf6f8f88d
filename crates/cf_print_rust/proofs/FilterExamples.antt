-- Worked examples of filters: what differs with the parameters and results.
use Rattle.std.specs.Prelude.{◌≡◌, [], ◌∷◌, codes, refl}
use Rattle.std.specs.Fmt.{digits}
use Rattle.cf_tree.specs.declared.base.Base.TheVariants.{Int, Bool as Truth, Set}
use Rattle.cf_print_rust.specs.Files.{reads, call, several_written, written}

no_reads : reads [] ≡ []
no_reads = refl

one_read : reads (Set ∷ []) ≡ codes "value(&mut rest, true)?,"
one_read = refl

two_reads : reads (Int ∷ Truth ∷ []) ≡ codes "value(&mut rest, true)?, value(&mut rest, false)?"
two_reads = refl

one_call : call (codes "f") (Int ∷ Truth ∷ Set ∷ []) ≡ codes "f(values.0, values.1, &values.2)"
unfolding call digits
one_call = refl

one_result : written (Set ∷ []) ≡ codes "outputs.written()"
one_result = refl

two_results : written (Int ∷ Set ∷ []) ≡ codes "[outputs.0.written(), outputs.1.written()].join(\" \")"
unfolding several_written digits
two_results = refl
