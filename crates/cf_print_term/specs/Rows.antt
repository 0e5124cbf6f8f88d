-- The rows of the languages: how each writes expressions.
use Rattle.cf_print.specs.declared.language.Language.{Language}
use Rattle.cf_print.specs.declared.language.Language.TheVariants.{C, Python, JavaScript, Rust}
use Rattle.cf_print_term.specs.declared.table.Table.{Table}
use Rattle.cf_print_term.specs.declared.table.TheConstants.{PYTHON, C as C_TABLE, JAVASCRIPT, RUST}

abbrev pub table_of : Language → Table
table_of C = C_TABLE
table_of Python = PYTHON
table_of JavaScript = JAVASCRIPT
table_of Rust = RUST
