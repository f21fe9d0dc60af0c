-- What a text is read as.
use Rattle.std.specs.Prelude.{Bool, Option, None, Some, Result, Ok, Err, if◌then◌else◌}
use Rattle.vc_num.specs.declared.numerals.NumeralFault.{NumeralFault}
use Rattle.vc_num.specs.declared.numerals.NumeralFault.TheVariants.{Bad, Overflow}

-- the number that the text spells, `Bad` where it spells none, and `Overflow` where the number is past its range
abbrev pub number_read : {V : Type 0} → Option V → Bool → Result V NumeralFault
number_read None fits = Err Bad
number_read (Some n) fits = if fits then Ok n else Err Overflow
