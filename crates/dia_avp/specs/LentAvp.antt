-- An AVP that is lent, as contracts see it.
use Rattle.dia_avp.specs.declared.avp.RawAvp.{RawAvp}
use Rattle.dia_avp.specs.declared.lent.LentAvp.{LentAvp}
use Rattle.dia_avp.specs.AvpList.{raw_avp}

abbrev pub avp_of : LentAvp → RawAvp
avp_of lent = raw_avp lent.code lent.flags lent.vendor lent.value.now
