mod Digits
mod Examples
mod Lines
mod Readings
mod TermsReading
mod WordLists
