-- What the proofs of moves take from the crates below: laws of the book, of fronts and of what relays pass on. The law of moves hands them over.
use Rattle.std.proofs.Common.{◌≡◌, ℕ, ◌<◌, List, [], ◌∷◌, ◌++◌, None, Ok}
use Rattle.dia_base.specs.declared.number.Moment.{Moment}
use Rattle.dia_avp.specs.declared.avp.RawAvp.{RawAvp}
use Rattle.dia_avp.specs.AvpReading.{split_of}
use Rattle.dia_message.specs.declared.message.Message.{Message}
use Rattle.cc_view.specs.Answer.{answer_to, refusal_of}
use Rattle.cc_view.specs.Forwarding.{with_hop}
use Rattle.dia_grammar.specs.Profile.{RequestProfile}
use Rattle.cc_view.specs.RequestView.{view_under}
use Rattle.cc_view.specs.declared.refusal.Refusal.{Refusal}
use Rattle.cc_view.specs.declared.reply.CcReply.{CcReply}
use Rattle.cc_view.specs.declared.request.CcRequest.{CcRequest}
use Rattle.cc_book.specs.declared.entry.Entry.{Entry}
use Rattle.cc_book.specs.declared.entry.Entry.TheVariants.{Take, Sweep, ChangeTerms}
use Rattle.cc_book.specs.declared.terms.Terms.{Terms}
use Rattle.cc_book.specs.declared.terms_change.TermsChange.{TermsChange}
use Rattle.cc_book.specs.AccountMachine.{kept_reply, terms_of}
use Rattle.cc_book.specs.History.{IsLegal, ended_sessions}
use Rattle.cc_book.specs.Taking.{Ledger}
use Rattle.cc_book.specs.TermsChange.{fault_of_change}
use Rattle.front_core.specs.declared.site.FrontSite.{FrontSite}
use Rattle.front_core.specs.Answered.{IsBookAnswer}
use Rattle.relay_core.specs.Forwarding.{Descends}

pub record Premises : Type 0 where
  pub legal_grows : (terms : Terms) (history : List Entry) (moment : Moment) (request : CcRequest) → IsLegal terms history →
      kept_reply terms history request ≡ None → IsLegal terms (history ++ Take moment request ∷ [])
  pub legal_sweeps : (terms : Terms) (history : List Entry) (moment : Moment) → IsLegal terms history →
      0 < ended_sessions terms history moment → IsLegal terms (history ++ Sweep moment ∷ [])
  pub legal_changes : (terms : Terms) (history : List Entry) (moment : Moment) (change : TermsChange) → IsLegal terms history →
      fault_of_change (terms_of terms history) change ≡ None → IsLegal terms (history ++ ChangeTerms moment change ∷ [])
  pub answers_stay : (site : FrontSite) (ledger : Ledger) (more : List Entry) (message answer : Message) →
      IsBookAnswer site ledger message answer → IsBookAnswer site (record ledger { history = ledger.history ++ more }) message answer
  pub descends_on : (request passed last : Message) → Descends request passed → Descends passed last → Descends request last
  pub same_view : (profile : RequestProfile) (request passed : Message) (avps : List RawAvp) → split_of request.body ≡ Ok avps →
      Descends request passed → view_under profile passed ≡ view_under profile request
  pub same_answer : (front realm : List ℕ) (request passed : Message) (content : CcRequest) (reply : CcReply) (avps : List RawAvp) →
      split_of request.body ≡ Ok avps → Descends request passed →
      answer_to front realm passed content reply ≡ with_hop passed.header.hop (answer_to front realm request content reply)
  pub same_refusal : (node realm : List ℕ) (request passed : Message) (refusal : Refusal) (avps : List RawAvp) →
      split_of request.body ≡ Ok avps → Descends request passed →
      refusal_of node realm passed refusal ≡ with_hop passed.header.hop (refusal_of node realm request refusal)
