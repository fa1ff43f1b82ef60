mod CommandLines
mod Operands
