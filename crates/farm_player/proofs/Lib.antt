mod Awaiting
mod Playing
mod Reconciling
