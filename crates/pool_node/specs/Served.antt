-- What requests come to that workers answer by the book.
use Rattle.std.specs.Prelude.{◌+◌, ℕ, min, Bool, true, false, if◌then◌else◌, Option, Some, None}
use Rattle.cc_view.specs.declared.code.ResultCode.{ResultCode}
use Rattle.cc_view.specs.declared.code.ResultCode.TheVariants.{Success, CreditLimitReached, UnableToComply}
use Rattle.cc_view.specs.declared.request.RequestedAction.{RequestedAction}
use Rattle.cc_view.specs.declared.request.RequestedAction.TheVariants.{CheckBalance, PriceEnquiry}
use Rattle.cc_shared.specs.declared.receipt.Receipt.{Receipt}
use Rattle.pool_node.specs.declared.served.CameTo.{CameTo}
use Rattle.pool_node.specs.declared.served.CameTo.TheVariants.{Charge, Enquiry, CreditRefusal, Refusal, Repeat}
use Rattle.pool_node.specs.declared.served.ServedCounts.{ServedCounts}

-- a price or a balance is asked for, and nothing is charged (RFC 8506, sections 6.1 and 6.2)
abbrev pub asks_alone : Option RequestedAction → Bool
asks_alone (Some CheckBalance) = true
asks_alone (Some PriceEnquiry) = true
asks_alone _ = false

-- what a request came to that was taken and answered so
abbrev pub fresh_came_to : Option RequestedAction → ResultCode → CameTo
fresh_came_to action Success = if asks_alone action then Enquiry else Charge
fresh_came_to action CreditLimitReached = CreditRefusal
fresh_came_to _ _ = Refusal

-- what a request came to that stands there already: a repeat is no request more, and what asks for something else under its
-- Session-Id and CC-Request-Number is refused
abbrev pub known_came_to : ResultCode → CameTo
known_came_to UnableToComply = Refusal
known_came_to _ = Repeat

abbrev pub came_to : Receipt → CameTo
came_to receipt = if receipt.fresh then fresh_came_to receipt.request.action receipt.reply.code else known_came_to receipt.reply.code

-- one more; a count stays at the greatest number
abbrev pub one_more : ℕ → ℕ
one_more n = min (n + 1) 18446744073709551615

abbrev pub counted : CameTo → ServedCounts → ServedCounts
counted Charge old = record old { charges = one_more old.charges }
counted Enquiry old = record old { enquiries = one_more old.enquiries }
counted CreditRefusal old = record old { credit_refusals = one_more old.credit_refusals }
counted Refusal old = record old { refusals = one_more old.refusals }
counted Repeat old = record old { repeats = one_more old.repeats }

abbrev pub no_requests : ServedCounts
no_requests = record { charges = 0; enquiries = 0; credit_refusals = 0; refusals = 0; repeats = 0 }
