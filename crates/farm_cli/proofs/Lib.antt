mod Cutting
mod Printing
mod Skipping
