-- What `==` says of the parts of a reply.
use Rattle.std.proofs.Common.{◌≡◌, ◌&&◌, eqb, ap, rules}
use Rattle.std.specs.Bool.{Decides}
use Rattle.std.specs.Cmp.{booleans_Decides}
use Rattle.std.specs.Option.{option_eq}
use Rattle.std.proofs.Math.Bool.{beq}
use Rattle.std.proofs.lemmas.Bool.Decides.{Decides-and, Decides-eqb, Decides-like}
use denote.Enum.Bare.{sameb}
use Rattle.dia_base.specs.declared.number.Code.{Code}
use Rattle.cc_view.specs.declared.code.ResultCode.{ResultCode}
use Rattle.cc_view.specs.contracts.code.ResultCode.{the_type}
use Rattle.cc_view.specs.declared.reply.ServiceReply.{ServiceReply}
use Rattle.cc_view.specs.declared.request.ServiceName.{ServiceName}
use Rattle.cc_book.proofs.SameRequests.{number_decides, option_decides}

name_from : (a b : ServiceName) → (a.group ≡ b.group) × (a.ident ≡ b.ident) → a ≡ b
name_from a b h = λ i. record { group = h.0 i; ident = h.1 i }

name_decides : (a b : ServiceName) → Decides (option_eq eqb a.group b.group && option_eq eqb a.ident b.ident) (a ≡ b)
name_decides a b =
    Decides-like _ (name_from a b) (λ e. (ap (λ (s : ServiceName). s.group) e, ap (λ (s : ServiceName). s.ident) e))
    (Decides-and _ _ (number_decides a.group b.group) (number_decides a.ident b.ident))

code_decides : (a b : Code) → Decides (eqb a.0 b.0) (a ≡ b)
code_decides a b = Decides-like _ (λ e. λ i. record { 0 = e i }) (λ e. ap (λ (c : Code). c.0) e) (Decides-eqb a.0 b.0)

result_decides : (a b : ResultCode) → Decides (sameb the_type a b) (a ≡ b)
result_decides a b = search rules

reply_from : (a b : ServiceReply) → (a.name ≡ b.name) × ((a.bare ≡ b.bare) × ((a.code ≡ b.code) × ((a.kind ≡ b.kind) × ((a.granted ≡ b.granted) × ((a.validity ≡ b.validity) × (a.last ≡ b.last)))))) → a ≡ b
reply_from a b h = λ i. record { name = h.0 i; bare = h.1.0 i; code = h.1.1.0 i; kind = h.1.1.1.0 i; granted = h.1.1.1.1.0 i; validity = h.1.1.1.1.1.0 i; last = h.1.1.1.1.1.1 i }

reply_to : (a b : ServiceReply) → a ≡ b → (a.name ≡ b.name) × ((a.bare ≡ b.bare) × ((a.code ≡ b.code) × ((a.kind ≡ b.kind) × ((a.granted ≡ b.granted) × ((a.validity ≡ b.validity) × (a.last ≡ b.last))))))
reply_to a b e = (ap (λ (s : ServiceReply). s.name) e, (ap (λ (s : ServiceReply). s.bare) e, (ap (λ (s : ServiceReply). s.code) e, (ap (λ (s : ServiceReply). s.kind) e, (ap (λ (s : ServiceReply). s.granted) e, (ap (λ (s : ServiceReply). s.validity) e, ap (λ (s : ServiceReply). s.last) e))))))

pub service_reply_decides : (a b : ServiceReply)
    → Decides ((option_eq eqb a.name.group b.name.group && option_eq eqb a.name.ident b.name.ident) && (beq a.bare b.bare && (sameb the_type a.code b.code && (option_eq (λ (x y : Code). eqb x.0 y.0) a.kind b.kind && (option_eq eqb a.granted b.granted && (option_eq eqb a.validity b.validity && beq a.last b.last)))))) (a ≡ b)
service_reply_decides a b =
    Decides-like _ (reply_from a b) (reply_to a b)
    (Decides-and _ _ (name_decides a.name b.name) (Decides-and _ _ (booleans_Decides a.bare b.bare) (Decides-and _ _ (result_decides a.code b.code) (Decides-and _ _ (option_decides code_decides a.kind b.kind)
    (Decides-and _ _ (number_decides a.granted b.granted) (Decides-and _ _ (number_decides a.validity b.validity) (booleans_Decides a.last b.last)))))))
