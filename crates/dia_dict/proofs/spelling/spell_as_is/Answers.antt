use Rattle.dia_dict.proofs.Texts.{text_content}
use Rattle.dia_dict.proofs.spelling.spell_as_is.Goals as goal

pub spell_octets-requires-in-Utf8String : goal.spell_octets-requires-in-Utf8String
spell_octets-requires-in-Utf8String c = text_content c.args.code _ c.as_bytes.ensures.utf8
