mod Once
mod Naming
mod Leading
