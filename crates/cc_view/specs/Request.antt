-- What a Credit-Control-Request is, once it is read.
pub mod Number
pub mod ServiceLimits
