use Rattle.std.proofs.Common.{Bool, cond, not, ◌∷◌, ◌++◌, [], ap, sym, ◌∙◌}
use Rattle.std.specs.Option.{is_some}
use Rattle.std.specs.List.{list_any}
use Rattle.dia_base.specs.Codes.{requested_action}
use Rattle.dia_grammar.specs.Grammar.{is_event_type, missing_of, required_codes}
use Rattle.dia_grammar.proofs.Requests.{missing_already}
use Rattle.dia_grammar.proofs.request.missing_in_request.Goals as goal
use Rattle.dia_grammar.proofs.request.missing_in_request.Goals.{else-is_none-via-then-is_none+else-is_event, else-is_none-via-else-is_none}

pub returns-else-is_none : goal.returns-else-is_none
returns-else-is_none c =
    let avps = c.args.avps.now in
    c.first_missing-missing.ensures
    ∙ elim c.else-is_none.branch [
      | else-is_none-via-then-is_none+else-is_event w ↦ ap (λ (b : Bool). missing_of (cond b (required_codes ++ requested_action ∷ []) required_codes) avps) (sym w.if-is_event.false ∙ w.is_event.ensures)
      | else-is_none-via-else-is_none w ↦ sym (missing_already (list_any is_event_type avps) avps (sym (ap is_some c.first_missing-missing.ensures) ∙ c.is_none.ensures ∙ ap not w.if-is_none.false))
    ]
