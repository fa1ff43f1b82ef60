use Rattle.dia_message.proofs.Spelled.{only_message-spelled, Spells-only, Spells-written, octets_of-spelled}
use Rattle.dia_message.proofs.Writable.{HasSpelling-read}
use Rattle.dia_message.proofs.laws.one_spelling.Goals as goal

pub returns-clause-only : goal.returns-clause-only
returns-clause-only c = λ octets message. (only_message-spelled octets message, Spells-only octets message)

pub returns-clause-written : goal.returns-clause-written
returns-clause-written c = Spells-written

pub returns-clause-again : goal.returns-clause-again
returns-clause-again c = octets_of-spelled

pub returns-clause-writable : goal.returns-clause-writable
returns-clause-writable c = HasSpelling-read
