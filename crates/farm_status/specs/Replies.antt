-- What a request is answered.
use Rattle.std.specs.Prelude.{◌≡◌, ◌∷◌, [], ℕ, List, Bool, Option, Some, None, true, false, codes, drop, take, ◌||◌, if◌then◌else◌, IfSome}
use Rattle.std.specs.Cmp.Lexicographic.{pointwise}
use Rattle.std.specs.Prelude.{nat_eq}
use Rattle.http.specs.declared.request.Request.{Request}
use Rattle.http.specs.Request.{head_of}
use Rattle.http_uri.specs.Uri.{uri_path}
use Rattle.http_header.specs.HeaderMap.{get}
use Rattle.http_header.specs.FieldValue.{FieldValue}
use Rattle.farm_status.specs.declared.health.Health.{Health as HealthState}
use Rattle.farm_status.specs.declared.token.Token.{Token}
use Rattle.farm_status.specs.Health.{status_of_health}
use Rattle.farm_status.specs.declared.reply.Job.{Job}
use Rattle.farm_status.specs.declared.reply.Job.TheVariants as job
use Rattle.farm_status.specs.declared.reply.Jobs.{Jobs}
use Rattle.farm_status.specs.declared.reply.Reply.{Reply}
use Rattle.farm_status.specs.declared.reply.Reply.TheVariants.{Page, Metrics, Json, Health, Terms, Account, Stops, Changes, Looks, Busy, Forbidden, NotFound, OnlyRead, OnlyPost, ReadOrPost}

-- two texts are the same
abbrev pub is_text : List ℕ → List ℕ → Bool
is_text = pointwise nat_eq

abbrev pub is_read : List ℕ → Bool
is_read method = is_text method (codes "GET") || is_text method (codes "HEAD")

-- what there is to read at a path
abbrev pub read_at : List ℕ → Option Reply
read_at path =
    if is_text path (codes "/") then Some Page
    else if is_text path (codes "/metrics") then Some Metrics
    else if is_text path (codes "/status.json") then Some Json
    else if is_text path (codes "/health") then Some Health
    else None

-- To be stopped the node is posted to, by somebody who shows its token.
abbrev pub reply_with : List ℕ → List ℕ → Bool → Reply
reply_with method path shows_token =
    if is_text path (codes "/stop") then (if is_text method (codes "POST") then (if shows_token then Stops else Forbidden) else OnlyPost)
    else NotFound

abbrev pub reply_of_read : Option Reply → List ℕ → List ℕ → Bool → Reply
reply_of_read (Some reply) method path shows_token = if is_read method then reply else OnlyRead
reply_of_read None method path shows_token = reply_with method path shows_token

-- To change the terms of its book a node is posted to, by somebody who shows its token, while no other change is under way. Whoever reads
-- is told what came of the last one.
abbrev pub reply_on_terms : List ℕ → Bool → Bool → Reply
reply_on_terms method shows_token is_busy =
    if is_read method then Terms
    else if is_text method (codes "POST") then (if shows_token then (if is_busy then Busy else Changes) else Forbidden)
    else ReadOrPost

-- a node without a book has no such path
abbrev pub reply_at_terms : List ℕ → Bool → Job → Reply
reply_at_terms method shows_token job.Never = NotFound
reply_at_terms method shows_token job.Busy = reply_on_terms method shows_token true
reply_at_terms method shows_token job.Free = reply_on_terms method shows_token false

-- to whoever shows the token of a node: what the last look at an account has come to, or that another one begins, while none is under way
abbrev pub reply_to_holder : List ℕ → Bool → Reply
reply_to_holder method is_busy = if is_read method then Account else if is_busy then Busy else Looks

-- For an account a node is posted to; whoever reads is told what came of the last look. Both want its token.
abbrev pub reply_on_account : List ℕ → Bool → Bool → Reply
reply_on_account method shows_token is_busy =
    if is_read method || is_text method (codes "POST") then (if shows_token then reply_to_holder method is_busy else Forbidden)
    else ReadOrPost

-- a node without a book has no such path
abbrev pub reply_at_account : List ℕ → Bool → Job → Reply
reply_at_account method shows_token job.Never = NotFound
reply_at_account method shows_token job.Busy = reply_on_account method shows_token true
reply_at_account method shows_token job.Free = reply_on_account method shows_token false

-- what is read at the path, or what is done there
abbrev pub reply_for : List ℕ → List ℕ → Bool → Jobs → Reply
reply_for method path shows_token jobs =
    if is_text path (codes "/terms") then reply_at_terms method shows_token jobs.change
    else if is_text path (codes "/account") then reply_at_account method shows_token jobs.look
    else reply_of_read (read_at path) method path shows_token

abbrev pub status_for : Reply → ℕ
status_for Page = 200
status_for Metrics = 200
status_for Json = 200
status_for Health = 200
status_for Terms = 200
status_for Account = 200
status_for Stops = 202
status_for Changes = 202
status_for Looks = 202
status_for Busy = 409
status_for Forbidden = 403
status_for NotFound = 404
status_for OnlyRead = 405
status_for OnlyPost = 405
status_for ReadOrPost = 405

abbrev pub is_stop : Reply → Bool
is_stop Stops = true
is_stop Page = false
is_stop Metrics = false
is_stop Json = false
is_stop Health = false
is_stop Terms = false
is_stop Account = false
is_stop Changes = false
is_stop Looks = false
is_stop Busy = false
is_stop Forbidden = false
is_stop NotFound = false
is_stop OnlyRead = false
is_stop OnlyPost = false
is_stop ReadOrPost = false

abbrev pub is_change : Reply → Bool
is_change Changes = true
is_change Page = false
is_change Metrics = false
is_change Json = false
is_change Health = false
is_change Terms = false
is_change Account = false
is_change Stops = false
is_change Looks = false
is_change Busy = false
is_change Forbidden = false
is_change NotFound = false
is_change OnlyRead = false
is_change OnlyPost = false
is_change ReadOrPost = false

-- the change of the terms that is asked for by a request with this body
abbrev pub change_by : Reply → List ℕ → Option (List ℕ)
change_by reply body = if is_change reply then Some body else None

abbrev pub is_look : Reply → Bool
is_look Looks = true
is_look Page = false
is_look Metrics = false
is_look Json = false
is_look Health = false
is_look Terms = false
is_look Account = false
is_look Stops = false
is_look Changes = false
is_look Busy = false
is_look Forbidden = false
is_look NotFound = false
is_look OnlyRead = false
is_look OnlyPost = false
is_look ReadOrPost = false

-- the account that is asked for by a request with this body
abbrev pub look_by : Reply → List ℕ → Option (List ℕ)
look_by reply body = if is_look reply then Some body else None

-- the status of an answer: where it is asked whether the node can do its work, that of how it is
abbrev pub HasStatus : Reply → ℕ → Type 0
HasStatus Health status = (health : HealthState) × (status ≡ status_of_health health)
HasStatus Page status = status ≡ 200
HasStatus Metrics status = status ≡ 200
HasStatus Json status = status ≡ 200
HasStatus Terms status = status ≡ 200
HasStatus Account status = status ≡ 200
HasStatus Stops status = status ≡ 202
HasStatus Changes status = status ≡ 202
HasStatus Looks status = status ≡ 202
HasStatus Busy status = status ≡ 409
HasStatus Forbidden status = status ≡ 403
HasStatus NotFound status = status ≡ 404
HasStatus OnlyRead status = status ≡ 405
HasStatus OnlyPost status = status ≡ 405
HasStatus ReadOrPost status = status ≡ 405

-- the text of a reply that tells nothing of the node, of its book or of an account
abbrev pub words_for : Reply → Option (List ℕ)
words_for Page = None
words_for Metrics = None
words_for Json = None
words_for Health = None
words_for Terms = None
words_for Account = None
words_for Stops = Some (codes "the node ends\n")
words_for Changes = Some (codes "/terms tells what comes of it\n")
words_for Looks = Some (codes "/account tells what comes of it\n")
words_for Busy = Some (codes "another one is under way\n")
words_for Forbidden = Some (codes "the token of the node is missing\n")
words_for NotFound = Some (codes "there is /, /metrics, /status.json and /health to read, and /stop to post to; at fronts /terms and /account too\n")
words_for OnlyRead = Some (codes "this is there to be read\n")
words_for OnlyPost = Some (codes "this is there to be posted to\n")
words_for ReadOrPost = Some (codes "this is there to be read and to be posted to\n")

-- Whoever may not ask is told nothing else.
abbrev pub HasText : Reply → List ℕ → Type 0
HasText reply text = IfSome (words_for reply) (λ words. text ≡ words)

-- the token that a value of Authorization shows: what stands behind `Bearer `
abbrev pub token_in : List ℕ → Option (List ℕ)
token_in value = if is_text (take 7 value) (codes "Bearer ") then Some (drop 7 value) else None

abbrev pub token_of_value : Option FieldValue → Option (List ℕ)
token_of_value None = None
token_of_value (Some value) = token_in value.bytes

-- the token that a request shows, in its first Authorization
abbrev pub token_of : Request (List ℕ) → Option (List ℕ)
token_of request = token_of_value (get (head_of request).headers (codes "authorization"))

-- it is the node's, all of it; where the node has none, no token is
abbrev pub is_of : Option Token → Option (List ℕ) → Bool
is_of (Some token) (Some shown) = is_text shown token.octets.items
is_of (Some token) None = false
is_of None shown = false

-- by its method and its path, by whether it shows the token of the node, and by which jobs the node may be asked for
abbrev pub reply_by : Option Token → Jobs → Request (List ℕ) → Reply
reply_by token jobs request = reply_for (head_of request).method (uri_path (head_of request).uri) (is_of token (token_of request)) jobs

-- the type of its text
abbrev pub type_for : Reply → List ℕ
type_for Page = codes "text/html; charset=utf-8"
type_for Metrics = codes "text/plain; version=0.0.4; charset=utf-8"
type_for Json = codes "application/json"
type_for Health = codes "text/plain; charset=utf-8"
type_for Terms = codes "text/plain; charset=utf-8"
type_for Account = codes "text/plain; charset=utf-8"
type_for Stops = codes "text/plain; charset=utf-8"
type_for Changes = codes "text/plain; charset=utf-8"
type_for Looks = codes "text/plain; charset=utf-8"
type_for Busy = codes "text/plain; charset=utf-8"
type_for Forbidden = codes "text/plain; charset=utf-8"
type_for NotFound = codes "text/plain; charset=utf-8"
type_for OnlyRead = codes "text/plain; charset=utf-8"
type_for OnlyPost = codes "text/plain; charset=utf-8"
type_for ReadOrPost = codes "text/plain; charset=utf-8"

-- the methods that a path takes, where another one was used (RFC 9110, section 15.5.6)
abbrev pub methods_for : Reply → Option (List ℕ)
methods_for Page = None
methods_for Metrics = None
methods_for Json = None
methods_for Health = None
methods_for Terms = None
methods_for Account = None
methods_for Stops = None
methods_for Changes = None
methods_for Looks = None
methods_for Busy = None
methods_for Forbidden = None
methods_for NotFound = None
methods_for OnlyRead = Some (codes "GET, HEAD")
methods_for OnlyPost = Some (codes "POST")
methods_for ReadOrPost = Some (codes "GET, HEAD, POST")

abbrev pub allow_line : Option (List ℕ) → List (List ℕ × List ℕ)
allow_line None = []
allow_line (Some methods) = (codes "allow", methods) ∷ []

-- nobody keeps it, and the connection ends with it
abbrev pub lines_for : Reply → List (List ℕ × List ℕ)
lines_for reply =
    (codes "content-type", type_for reply) ∷ (codes "cache-control", codes "no-store") ∷ (codes "connection", codes "close") ∷ allow_line (methods_for reply)

-- The answer has the status and the lines of its reply, and the node is to end from then on where that reply says so.
pub record IsAnswered (token : Option Token) (jobs : Jobs) (stopped : Bool) (request : Request (List ℕ)) (status : ℕ) (lines : List (List ℕ × List ℕ)) (stops : Bool) : Type 0 where
  pub status_is : HasStatus (reply_by token jobs request) status
  pub lines_are : lines ≡ lines_for (reply_by token jobs request)
  pub stops_is : stops ≡ (stopped || is_stop (reply_by token jobs request))
