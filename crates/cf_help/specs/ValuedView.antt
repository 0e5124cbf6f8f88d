-- Constants with values, as the program has them.
use Rattle.cf_program.specs.Constants.{Constant}
use Rattle.cf_help.specs.declared.valued.Valued.{Valued}

abbrev pub constant_seen : Valued → Constant
constant_seen c = record { name = c.name.now; value = c.value }
