-- What is replied to somebody who does not show the token.
use Rattle.std.proofs.Common.{◌≡◌, refl, ap, ◌∙◌, ◌||◌, ℕ, List, Bool, true, false, Option, Some, None, if◌then◌else◌, codes}
use Rattle.http.specs.declared.request.Request.{Request}
use Rattle.http.specs.Request.{head_of}
use Rattle.http_uri.specs.Uri.{uri_path}
use Rattle.farm_status.specs.declared.token.Token.{Token}
use Rattle.farm_status.specs.declared.reply.Job.{Job}
use Rattle.farm_status.specs.declared.reply.Job.TheVariants as job
use Rattle.farm_status.specs.declared.reply.Jobs.{Jobs}
use Rattle.farm_status.specs.declared.reply.Reply.{Reply}
use Rattle.farm_status.specs.declared.reply.Reply.TheVariants.{Page, Metrics, Json, Health, Terms, Forbidden, NotFound, OnlyRead, OnlyPost, ReadOrPost}
use Rattle.farm_status.specs.Replies.{is_of, is_read, is_text, read_at, reply_at_account, reply_at_terms, reply_by, reply_for, reply_of_read, token_of}
use Rattle.status_law.specs.Holding.{needs_token}

both : (b : Bool) (x y : Reply) → needs_token x ≡ false → needs_token y ≡ false → needs_token (if b then x else y) ≡ false
both true x y first second = first
both false x y first second = second

read_or_post : (method : List ℕ) → needs_token (if is_text method (codes "POST") then Forbidden else ReadOrPost) ≡ false
read_or_post method = both (is_text method (codes "POST")) Forbidden ReadOrPost refl refl

on_terms : (method : List ℕ) (job : Job) → needs_token (reply_at_terms method false job) ≡ false
on_terms method job.Never = refl
on_terms method job.Busy = both (is_read method) Terms (if is_text method (codes "POST") then Forbidden else ReadOrPost) refl (read_or_post method)
on_terms method job.Free = both (is_read method) Terms (if is_text method (codes "POST") then Forbidden else ReadOrPost) refl (read_or_post method)

at_account : (method : List ℕ) (job : Job) → needs_token (reply_at_account method false job) ≡ false
at_account method job.Never = refl
at_account method job.Busy = both (is_read method || is_text method (codes "POST")) Forbidden ReadOrPost refl refl
at_account method job.Free = both (is_read method || is_text method (codes "POST")) Forbidden ReadOrPost refl refl

abbrev if_any : Option Reply → Bool
if_any None = false
if_any (Some reply) = needs_token reply

either : (b : Bool) (x y : Option Reply) → if_any x ≡ false → if_any y ≡ false → if_any (if b then x else y) ≡ false
either true x y first second = first
either false x y first second = second

read_is_free : (path : List ℕ) → if_any (read_at path) ≡ false
read_is_free path =
    let health : Option Reply = if is_text path (codes "/health") then Some Health else None in
    let json : Option Reply = if is_text path (codes "/status.json") then Some Json else health in
    let metrics : Option Reply = if is_text path (codes "/metrics") then Some Metrics else json in
    either (is_text path (codes "/")) (Some Page) metrics refl
    (either (is_text path (codes "/metrics")) (Some Metrics) json refl
    (either (is_text path (codes "/status.json")) (Some Json) health refl
    (either (is_text path (codes "/health")) (Some Health) None refl refl)))

at_read : (reply : Option Reply) (method path : List ℕ) → if_any reply ≡ false → needs_token (reply_of_read reply method path false) ≡ false
at_read (Some reply) method path free = both (is_read method) reply OnlyRead free refl
at_read None method path free =
    both (is_text path (codes "/stop")) (if is_text method (codes "POST") then Forbidden else OnlyPost) NotFound
    (both (is_text method (codes "POST")) Forbidden OnlyPost refl refl) refl

strangers : (method path : List ℕ) (jobs : Jobs) → needs_token (reply_for method path false jobs) ≡ false
strangers method path jobs =
    let read : Reply = reply_of_read (read_at path) method path false in
    let account : Reply = reply_at_account method false jobs.look in
    both (is_text path (codes "/terms")) (reply_at_terms method false jobs.change) (if is_text path (codes "/account") then account else read)
    (on_terms method jobs.change)
    (both (is_text path (codes "/account")) account read (at_account method jobs.look) (at_read (read_at path) method path (read_is_free path)))

pub may_only_read : (token : Option Token) (jobs : Jobs) (request : Request (List ℕ)) → is_of token (token_of request) ≡ false → needs_token (reply_by token jobs request) ≡ false
may_only_read token jobs request none =
    let method = (head_of request).method in
    let path = uri_path (head_of request).uri in
    ap (λ (shows : Bool). needs_token (reply_for method path shows jobs)) none ∙ strangers method path jobs
