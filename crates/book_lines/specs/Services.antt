-- How the services of a request and of its reply stand in a line.
use Rattle.std.specs.Prelude.{ℕ, List, [], ◌∷◌, codes, Option, None, Some}
use Rattle.std.specs.List.{concat, flat_map}
use Rattle.std.specs.Fmt.{decimal}
use Rattle.cc_view.specs.declared.reply.ServiceReply.{ServiceReply}
use Rattle.cc_view.specs.declared.request.Service.{Service}
use Rattle.cc_view.specs.ResultNumber.{number_of}
use Rattle.book_lines.specs.Words.{optional_text}

-- Rating-Group and Service-Identifier
abbrev pub name_text : Option ℕ → Option ℕ → List ℕ
name_text group ident = concat (optional_text group ∷ optional_text ident ∷ [])

-- the counts that are asked for: seconds, octets and units
abbrev pub asked_text : Option (List (Option ℕ)) → List ℕ
asked_text None = codes " - - -"
asked_text (Some counts) = flat_map optional_text counts

-- a number behind a space
abbrev pub count_text : ℕ → List ℕ
count_text count = concat (codes " " ∷ decimal count ∷ [])

-- what a service asks for, and what of it was used
abbrev pub service_text : Service → List ℕ
service_text service = concat (
    codes " asked" ∷ name_text service.group service.ident ∷ asked_text service.asked
    ∷ codes " used" ∷ flat_map count_text service.used ∷ [])

-- what a service is answered: its Result-Code, and the units that are granted
abbrev pub granted_text : ServiceReply → List ℕ
granted_text reply = concat (
    codes " granted" ∷ name_text reply.name.group reply.name.ident ∷ count_text (number_of reply.code)
    ∷ optional_text reply.granted ∷ [])
