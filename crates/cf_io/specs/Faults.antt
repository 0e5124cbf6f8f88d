-- The fault of reading a text that a fault of fetching it is.
use Rattle.cf_io.specs.declared.faults.FetchFault.{FetchFault}
use Rattle.cf_io.specs.declared.faults.FetchFault.TheVariants as fetch
use Rattle.cf_io.specs.declared.faults.ReadFault.{ReadFault}
use Rattle.cf_io.specs.declared.faults.ReadFault.TheVariants.{Failed, NoMemory}

abbrev pub of_fetch : FetchFault → ReadFault
of_fetch fetch.Failed = Failed
of_fetch fetch.NoMemory = NoMemory
