-- What is only for whoever shows the token of a node.
use Rattle.std.specs.Prelude.{Bool, true, false}
use Rattle.farm_status.specs.declared.reply.Reply.{Reply}
use Rattle.farm_status.specs.declared.reply.Reply.TheVariants.{Page, Metrics, Json, Health, Terms, Account, Stops, Changes, Looks, Busy, Forbidden, NotFound, OnlyRead, OnlyPost, ReadOrPost}

-- the node ends, the terms of its book change, an account is looked at or told, or who asks learns that one of these is under way
abbrev pub needs_token : Reply → Bool
needs_token Stops = true
needs_token Changes = true
needs_token Looks = true
needs_token Account = true
needs_token Busy = true
needs_token Page = false
needs_token Metrics = false
needs_token Json = false
needs_token Health = false
needs_token Terms = false
needs_token Forbidden = false
needs_token NotFound = false
needs_token OnlyRead = false
needs_token OnlyPost = false
needs_token ReadOrPost = false
