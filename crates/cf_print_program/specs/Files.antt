-- The file of a program, in each language.
use Rattle.std.specs.Prelude.{ℕ, Bool, List}
use Rattle.cf_print.specs.declared.language.Language.{Language}
use Rattle.cf_print.specs.declared.language.Language.TheVariants.{C, Python, JavaScript, Rust}
use Rattle.cf_print_line.specs.Called.{Called}
use Rattle.cf_print_python.specs.Files.{opening as opening_in_python, file as file_of_python}
use Rattle.cf_print_c.specs.Files.{opening as opening_in_c, file as file_of_c}
use Rattle.cf_print_js.specs.Files.{opening as opening_in_javascript, file as file_of_javascript}
use Rattle.cf_print_rust.specs.Files.{opening as opening_in_rust, file as file_of_rust}

-- the lines of the function that is called, before its first statement
abbrev pub opening_of : Language → Bool → Called → List ℕ
opening_of Python is_filter f = opening_in_python f
opening_of C is_filter f = opening_in_c is_filter f
opening_of JavaScript is_filter f = opening_in_javascript f
opening_of Rust is_filter f = opening_in_rust f

-- the file of that function, whose text this is with that of those before it
abbrev pub file_of : Language → Bool → List ℕ → Called → List ℕ → List ℕ
file_of Python has_main source f functions = file_of_python has_main source f functions
file_of C has_main source f functions = file_of_c has_main source f functions
file_of JavaScript has_main source f functions = file_of_javascript has_main source f functions
file_of Rust has_main source f functions = file_of_rust has_main source f functions
