mod BeginningsBack
mod EventsBack
mod HexBack
mod MessagesBack
mod NamesBack
pub mod NodeLists
mod NumbersBack
pub mod RecordBack
mod SpacedWords
pub mod WordLists
mod Pieces
mod NextEvent
