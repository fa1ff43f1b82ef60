-- The numbers of result codes (RFC 6733, section 7.1; RFC 8506, section 9).
use Rattle.std.specs.Prelude.{ℕ}
use Rattle.cc_view.specs.declared.code.ResultCode.{ResultCode}
use Rattle.cc_view.specs.declared.code.ResultCode.TheVariants.{Success, CommandUnsupported, UnableToDeliver, RealmNotServed, TooBusy, LoopDetected, ApplicationUnsupported, CreditLimitReached, AvpUnsupported, UnknownSessionId, InvalidAvpValue, MissingAvp, AvpOccursTooManyTimes, NoCommonApplication, UnableToComply, InvalidAvpLength, UserUnknown, RatingFailed}

abbrev pub number_of : ResultCode → ℕ
number_of Success = 2001
number_of CommandUnsupported = 3001
number_of UnableToDeliver = 3002
number_of RealmNotServed = 3003
number_of TooBusy = 3004
number_of LoopDetected = 3005
number_of ApplicationUnsupported = 3007
number_of CreditLimitReached = 4012
number_of AvpUnsupported = 5001
number_of UnknownSessionId = 5002
number_of InvalidAvpValue = 5004
number_of MissingAvp = 5005
number_of AvpOccursTooManyTimes = 5009
number_of NoCommonApplication = 5010
number_of UnableToComply = 5012
number_of InvalidAvpLength = 5014
number_of UserUnknown = 5030
number_of RatingFailed = 5031
